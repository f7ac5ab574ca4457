-- What admission asks of fields, along a constructor's type.
use Rattle.std.proofs.Common.{
  ◌≡◌,
  ◌⊎◌,
  inl,
  inr,
  ◌↔◌,
  ℕ,
  zero,
  suc,
  ◌+◌,
  ◌<◌,
  Bool,
  true,
  false,
  Some,
  None,
  List,
  [],
  ◌∷◌,
  ◌++◌,
  length,
  slice_get,
  Contains,
  refl,
  sym,
  ap,
  subst,
  ◌∙◌,
  arith,
  true≢false,
}
use Rattle.lf_core.specs.Term.{Path, Universe, level_zero, level_succ, Term, bound, free, meta, sort, const, app, lam, pi, letin, lit, proj}
use Rattle.lf_core.specs.Level.{Assignment, value_of, Leq, Same}
use Rattle.lf_core.specs.Same.{same_path}
use Rattle.lf_core.specs.Spine.{apply, head_of}
use Rattle.lf_name.proofs.Names.{path_is, path_equivalence}
use Rattle.lf_rules.specs.Environment.{Environment, Context, with, opened, nat, nat_type}
use Rattle.lf_rules.specs.Structure.{Without, result_level}
use Rattle.lf_rules.specs.Judgment.{HasType, IsDeclaredProposition}
use Rattle.lf_rules.specs.Telescope.{Telescope, variables, pi_count}
use Rattle.lf_rules.specs.Recursor.{Family, self, is_constant, is_recursive}
use Rattle.lf_rules.specs.Inductive.{
  AtIndices,
  Recursive,
  at_indices,
  over,
  Positive,
  Fields,
  end,
  field,
  Constructs,
  fields,
  parameter as parameter_of,
  ConstructorRight,
  own_family,
  with_type,
  Admitted,
  NeverZero,
  ProofsOrIndices,
}
use Rattle.lf_rules.specs.Derived.{Derived}
use Rattle.lf_name.specs.declared.binder.Binder.{Binder}
use Rattle.lf_core.specs.declared.constant.ConstInfo.{ConstInfo}
use Rattle.lf_core.specs.declared.constant.CtorInfo.{CtorInfo}
use Rattle.lf_core.specs.declared.constant.IndDecl.{IndDecl}
use Rattle.lf_inductive_laws.specs.Fields.{FieldOf, first, later, parameter, InSortWith, with_only, AdmissionAsks}
use Rattle.lf_inductive_laws.proofs.Distinct.{derived_is_distinct}
use Rattle.lf_inductive_laws.proofs.Ends.{pi_count-apply, head_of-apply, own_params, one_of_right}

-- The type at indices is no pi.
no_pi : (f : Family) (x : Binder) (A B : Term) (is : List Term) → AtIndices f (pi x A B) is → ⊥
no_pi f x A B is a =
    let e : suc (pi_count B) ≡ 0 = ap pi_count a.form ∙ pi_count-apply (self f) is (pi_count-apply (const f.name f.levels) (variables 0 f.params) refl) in
    absurd (omega (arith, e))

grown : (C : Context) (A : Term) → length (C ++ A ∷ []) ≡ suc (length C)
grown [] A = refl
grown (B ∷ C) A = ap suc (grown C A)

-- ---- Levels.

low : {E : Environment} {f : Family} {r : Universe} {C D : Context} {t A : Term} {ls : List Universe} {is : List Term} → Fields E f r C t ls is
    → FieldOf 0 C t D A → InSortWith E D A (λ l. Same r level_zero ⊎ Leq l r)
low {f = f} (end {is = is} l a h) (first {x = x} {A = A} {B = B}) = absurd (no_pi f x A B is a)
low {f = f} (end {is = is} l a h) (later {x = x} {A = A} {B = B} w) = absurd (no_pi f x A B is a)
low (field l h p q k) first = (l, h, q)
low (field l h p q k) (later w) = low k w

low_all : {E : Environment} {f : Family} {r : Universe} {xs : Telescope} {C D : Context} {t A : Term} {ls : List Universe} {is : List Term}
    → Constructs E f r xs C t ls is → FieldOf (length xs) C t D A → InSortWith E D A (λ l. Same r level_zero ⊎ Leq l r)
low_all (fields k) w = low k w
low_all (parameter_of e k) (parameter w) = low_all k w

-- ---- Proofs and indices.

abbrev ProofOrIndex : List Term → Context → Universe → Type 0
ProofOrIndex is D l = Same l level_zero ⊎ Contains is (free (length D))

kept : {E : Environment} {f : Family} {r : Universe} {C D : Context} {t A : Term} {ls : List Universe} {is : List Term} → Fields E f r C t ls is
    → ProofsOrIndices (length C) ls is → FieldOf 0 C t D A → InSortWith E D A (ProofOrIndex is D)
kept {f = f} (end {is = is} l a h) o (first {x = x} {A = A} {B = B}) = absurd (no_pi f x A B is a)
kept {f = f} (end {is = is} l a h) o (later {x = x} {A = A} {B = B} w) = absurd (no_pi f x A B is a)
kept (field l h p q k) o first = (l, h, o.0)
kept {C = C} (field {A = A} {ls = ls} {is = is} l h p q k) o (later w) = kept k (subst (λ n. ProofsOrIndices n ls is) (sym (grown C A)) o.1) w

kept_all : {E : Environment} {f : Family} {r : Universe} {xs : Telescope} {C D : Context} {t A : Term} {ls : List Universe} {is : List Term}
    → Constructs E f r xs C t ls is → (n : ℕ) → n ≡ length xs + length C → ProofsOrIndices n ls is → FieldOf (length xs) C t D A
    → InSortWith E D A (ProofOrIndex is D)
kept_all {C = C} {ls = ls} {is = is} (fields k) n e o w =
    let e' : n ≡ length C = omega (arith, e) in
    kept k (subst (λ m. ProofsOrIndices m ls is) e' o) w
kept_all {C = C} (parameter_of {A = A} p k) n e o (parameter w) = kept_all k n (omega (arith, e, grown C A)) o w

zeros : Assignment
zeros = record { parameter = λ k. 0; metavariable = λ k. 0 }

never : (r : Universe) {P : Type 0} → NeverZero r → Same r level_zero → P
never r n s = let p : 0 < value_of zeros r = n zeros in let e : value_of zeros r ≡ 0 = s zeros in absurd (omega (arith, p, e))

chosen : (E : Environment) (d : IndDecl) (c : CtorInfo) (a : Admitted E (with_only d c) true) → Same a.result level_zero
    → ProofsOrIndices (length (own_family (with_only d c)).params) a.constructors.0.levels a.constructors.0.indices
chosen E d c a s = at (a.elimination refl)
  where
    at : NeverZero a.result ⊎ ProofsOrIndices (length (own_family (with_only d c)).params) a.constructors.0.levels a.constructors.0.indices
        → ProofsOrIndices (length (own_family (with_only d c)).params) a.constructors.0.levels a.constructors.0.indices
    at (inl n) = never a.result n s
    at (inr o) = o

-- ---- Recursive fields.

no_name : (f : Family) (t : Term) → Without f.name t → is_constant f.name (head_of t) ≡ true → ⊥
no_name f (const c ls) w e = w (path_is c f.name e)
no_name f (app g a) w e = no_name f g w.0 e
no_name f (bound i) w e = true≢false (sym e)
no_name f (free i) w e = true≢false (sym e)
no_name f (meta i) w e = true≢false (sym e)
no_name f (sort l) w e = true≢false (sym e)
no_name f (lam x A b) w e = true≢false (sym e)
no_name f (pi x A b) w e = true≢false (sym e)
no_name f (letin x A v b) w e = true≢false (sym e)
no_name f (lit n) w e = true≢false (sym e)
no_name f (proj S i t) w e = true≢false (sym e)

not_recursive : (f : Family) (A : Term) → Without f.name A → is_recursive f A ≡ true → ⊥
not_recursive f (pi x A B) w e = not_recursive f B w.1 e
not_recursive f (bound i) w e = no_name f (bound i) w e
not_recursive f (free i) w e = no_name f (free i) w e
not_recursive f (meta i) w e = no_name f (meta i) w e
not_recursive f (sort l) w e = no_name f (sort l) w e
not_recursive f (const c ls) w e = no_name f (const c ls) w e
not_recursive f (app g a) w e = no_name f (app g a) w e
not_recursive f (lam x A b) w e = no_name f (lam x A b) w e
not_recursive f (letin x A v b) w e = no_name f (letin x A v b) w e
not_recursive f (lit n) w e = no_name f (lit n) w e
not_recursive f (proj S i t) w e = no_name f (proj S i t) w e

headed : (f : Family) (is : List Term) → is_constant f.name (head_of (apply (self f) is)) ≡ true
headed f is = ap (is_constant f.name) (head_of-apply (self f) is ∙ head_of-apply (const f.name f.levels) (variables 0 f.params)) ∙ path_equivalence.refl f.name

-- What has the type's name at its head is recursive as it stands, where it is no pi.
not_pi : Term → Type 0
not_pi (pi x A B) = ⊥
not_pi t = Unit {0}

recursive_end : (f : Family) (is : List Term) → is_recursive f (apply (self f) is) ≡ true
recursive_end f is = at (apply (self f) is) (pi_count-apply (self f) is (pi_count-apply (const f.name f.levels) (variables 0 f.params) refl)) (headed f is)
  where
    at : (t : Term) → pi_count t ≡ 0 → is_constant f.name (head_of t) ≡ true → is_recursive f t ≡ true
    at (pi x A B) n e = absurd (omega (arith, n))
    at (bound i) n e = e
    at (free i) n e = e
    at (meta i) n e = e
    at (sort l) n e = e
    at (const c ls) n e = e
    at (app g a) n e = e
    at (lam x A b) n e = e
    at (letin x A v b) n e = e
    at (lit i) n e = e
    at (proj S i t) n e = e

is_recursive_as_read : (f : Family) (A : Term) → Recursive f A → is_recursive f A ≡ true
is_recursive_as_read f A (at_indices is a) = subst (λ t. is_recursive f t ≡ true) (sym a.form) (recursive_end f is)
is_recursive_as_read f (pi x A B) (over w r) = is_recursive_as_read f B r

recursive_exact : (f : Family) (A : Term) → Positive f A → (is_recursive f A ≡ true) ↔ Recursive f A
recursive_exact f A (inl w) = (λ e. absurd (not_recursive f A w e), λ r. is_recursive_as_read f A r)
recursive_exact f A (inr r) = (λ e. r, λ q. is_recursive_as_read f A q)

-- ---- Numbers.

no_arguments : (n : Path) (ls : List Universe) (f : Term) (xs : List Term) → const n ls ≡ apply f xs → f ≡ const n ls
no_arguments n ls f [] e = sym e
no_arguments n ls f (x ∷ xs) e = absurd (at (no_arguments n ls (app f x) xs e))
  where
    at : app f x ≡ const n ls → ⊥
    at q = cc

numbers : (E : Environment) → Derived E → (c : ConstInfo) → Contains E c → c.name ≡ nat → c.ty ≡ sort (level_succ level_zero) → IsDeclaredProposition E nat_type
    → ⊥
numbers E h c w n q p =
    let named : const p.type.name p.levels ≡ const nat [] = no_arguments nat [] (const p.type.name p.levels) p.arguments p.form in
    let name : p.type.name ≡ nat = cc in
    let same : p.type ≡ c = derived_is_distinct E h p.type c p.within w (name ∙ sym n) in
    let ty : Some (level_succ level_zero) ≡ Some p.result = sym (ap result_level (ap (λ x. x.ty) same ∙ q)) ∙ p.declared in
    let level : level_succ level_zero ≡ p.result = cc in
    let e : value_of zeros (level_succ level_zero) ≡ 0 = ap (value_of zeros) level ∙ p.in_prop zeros in
    absurd (omega (arith, e))

pub admission_asks : AdmissionAsks
admission_asks = record {
  low_fields = λ E d large a index c i r q D A w.
      let right = one_of_right (with_type E d) (own_family d) a.result d.ctors a.constructors index c i in
      let e : a.result ≡ r = let s : Some a.result ≡ Some r = sym a.ends ∙ q in cc in
      subst (λ s. InSortWith (with_type E d) D A (λ l. Same s level_zero ⊎ Leq l s)) e
      (low_all right.constructs (subst (λ n. FieldOf n [] c.ty D A) (sym (own_params d a.params)) w));
  proofs_or_indices = λ E d c a s D A w.
      let n : length (own_family (with_only d c)).params ≡ d.params = own_params (with_only d c) a.params in
      kept_all a.constructors.0.constructs (length (own_family (with_only d c)).params) (omega arith) (chosen E d c a s)
      (subst (λ m. FieldOf m [] c.ty D A) (sym n) w);
  recursive_fields = recursive_exact;
  numbers_are_no_proofs = numbers;
}
