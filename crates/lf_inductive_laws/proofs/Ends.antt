-- A constructor's type is pis over parameters and fields, and ends in its type at all parameters and indices.
use Rattle.std.proofs.Common.{
  ◌≡◌,
  ℕ,
  zero,
  suc,
  ◌+◌,
  ◌-◌,
  ◌≤◌,
  nat_eq,
  if◌then◌else◌,
  Bool,
  List,
  [],
  ◌∷◌,
  ◌++◌,
  append-nil,
  length,
  length-append,
  refl,
  sym,
  ap,
  subst,
  ◌∙◌,
  arith,
  zero-le,
  Some,
  slice_get,
}
use Rattle.lf_core.specs.Term.{Path, Universe, Term, bound, free, const, app, lam, pi, letin, proj}
use Rattle.lf_core.specs.Substitution.{raise, instantiate_at, instantiate}
use Rattle.lf_core.specs.Spine.{apply, head_of, arguments_before, arguments_of}
use Rattle.lf_rules.specs.Environment.{Environment, Context, opened}
use Rattle.lf_rules.specs.Telescope.{Telescope, variables, Opened, open_pis, pi_count}
use Rattle.lf_rules.specs.Recursor.{Family, self}
use Rattle.lf_rules.specs.Inductive.{
  AtIndices,
  Fields,
  end,
  field,
  Constructs,
  fields,
  parameter,
  ConstructorRight,
  ConstructorsRight,
  own_family,
  with_type,
  Admitted,
}
use Rattle.lf_core.specs.declared.constant.CtorInfo.{CtorInfo}
use Rattle.lf_core.specs.declared.constant.IndDecl.{IndDecl}
use Rattle.lf_judgment_laws.proofs.Variables.{by_eq, by_lt, apply-append, rebuilt}
use Rattle.lf_inductive_laws.specs.Declarations.{EndsIn}
use Rattle.lf_inductive_laws.proofs.Telescopes.{pi_count-instantiate_at, length-opened}
use Rattle.lf_inductive_laws.proofs.Right.{some_is, no_value}

-- ---- A constant at arguments, told by its head and by how many arguments there are.

pub head_of-apply : (f : Term) (xs : List Term) → head_of (apply f xs) ≡ head_of f
head_of-apply f [] = refl
head_of-apply f (x ∷ xs) = head_of-apply (app f x) xs

arguments_before-apply : (f : Term) (xs ys : List Term) → arguments_before (apply f xs) ys ≡ arguments_before f (xs ++ ys)
arguments_before-apply f [] ys = refl
arguments_before-apply f (x ∷ xs) ys = arguments_before-apply (app f x) xs ys

pub pi_count-apply : (f : Term) (xs : List Term) → pi_count f ≡ 0 → pi_count (apply f xs) ≡ 0
pi_count-apply f [] h = h
pi_count-apply f (x ∷ xs) h = pi_count-apply (app f x) xs refl

-- A variable put in changes neither: it is no constant, and has no arguments.
head_back : (d k : ℕ) (T : Path) (ls : List Universe) (t : Term) → head_of (instantiate_at d t (free k)) ≡ const T ls → head_of t ≡ const T ls
head_back d k T ls (bound i) =
    by_lt (λ r. head_of r ≡ const T ls → bound i ≡ const T ls) i d (bound i) (if nat_eq i d then raise 0 d (free k) else bound (i - 1)) (λ q e. e) λ q.
    by_eq (λ r. head_of r ≡ const T ls → bound i ≡ const T ls) i d (free k) (bound (i - 1)) (λ w e. cc) (λ w e. cc)
head_back d k T ls (app f a) = λ e. head_back d k T ls f e
head_back d k T ls (lam x A b) = λ e. cc
head_back d k T ls (pi x A b) = λ e. cc
head_back d k T ls (letin x A v b) = λ e. cc
head_back d k T ls (proj s i t) = λ e. cc
head_back d k T ls _ = λ e. e

arguments_back : (d k : ℕ) (t : Term) (xs ys : List Term) → length xs ≡ length ys
    → length (arguments_before (instantiate_at d t (free k)) xs) ≡ length (arguments_before t ys)
arguments_back d k (bound i) xs ys h =
    by_lt (λ r. length (arguments_before r xs) ≡ length ys) i d (bound i) (if nat_eq i d then raise 0 d (free k) else bound (i - 1)) (λ q. h) λ q.
    by_eq (λ r. length (arguments_before r xs) ≡ length ys) i d (free k) (bound (i - 1)) (λ w. h) (λ w. h)
arguments_back d k (app f a) xs ys h = arguments_back d k f (instantiate_at d a (free k) ∷ xs) (a ∷ ys) (omega arith)
arguments_back d k _ xs ys h = h

-- What ends so with its binders opened ends so.
pub ends_back : (T : Path) (n m d k : ℕ) (t : Term) → EndsIn T n m (instantiate_at d t (free k)) → EndsIn T n m t
ends_back T zero m d k t (ls, xs, e, l) =
    let s : Term = instantiate_at d t (free k) in
    let h : head_of t ≡ const T ls = head_back d k T ls t (ap head_of e ∙ head_of-apply (const T ls) xs) in
    let a : arguments_of s ≡ xs = ap arguments_of e ∙ (arguments_before-apply (const T ls) xs [] ∙ append-nil xs) in
    let n : length (arguments_of t) ≡ m = sym (arguments_back d k t [] [] refl) ∙ (ap length a ∙ l) in
    (ls, arguments_of t, rebuilt t ∙ ap (λ f. apply f (arguments_of t)) h, n)
ends_back T (suc n) m d k (bound i) h =
    absurd (by_lt (λ r. EndsIn T (suc n) m r → ⊥) i d (bound i) (if nat_eq i d then raise 0 d (free k) else bound (i - 1)) (λ q e. e)
    (λ q. by_eq (λ r. EndsIn T (suc n) m r → ⊥) i d (free k) (bound (i - 1)) (λ w e. e) (λ w e. e)) h)
ends_back T (suc n) m d k (pi x A B) h = ends_back T n m (suc d) k B h
ends_back T (suc n) m d k _ h = absurd h

-- ---- Along a constructor's type.

length-variables : (k : ℕ) (xs : Telescope) → length (variables k xs) ≡ length xs
length-variables k [] = refl
length-variables k (x ∷ xs) = let e : length (variables (suc k) xs) ≡ length xs = length-variables (suc k) xs in omega arith

self_apply : (f : Family) (is : List Term) → apply (self f) is ≡ apply (const f.name f.levels) (variables 0 f.params ++ is)
self_apply f is = sym (apply-append (const f.name f.levels) (variables 0 f.params) is)

-- The parameters and the indices of the type.
abbrev pub whole : Family → ℕ
whole f = length f.params + pi_count f.rest

at_indices_end : (f : Family) (t : Term) (is : List Term) → AtIndices f t is → EndsIn f.name (pi_count t) (whole f) t
at_indices_end f t is a =
    let xs : List Term = variables 0 f.params ++ is in
    let e : t ≡ apply (const f.name f.levels) xs = a.form ∙ self_apply f is in
    let l : length xs ≡ whole f = omega (arith, length-append (variables 0 f.params) is, length-variables 0 f.params, a.whole) in
    let z : 0 ≡ pi_count t = sym (ap pi_count e ∙ pi_count-apply (const f.name f.levels) xs refl) in
    subst (λ n. EndsIn f.name n (whole f) t) z (f.levels, xs, e, l)

-- One pi more, whose body is opened.
pi_ends : (f : Family) (C : Context) (B : Term) → EndsIn f.name (pi_count (opened C B)) (whole f) (opened C B) → EndsIn f.name (pi_count B) (whole f) B
pi_ends f C B h = ends_back f.name (pi_count B) (whole f) 0 (length C) B
    (subst (λ n. EndsIn f.name n (whole f) (opened C B)) (pi_count-instantiate_at 0 (length C) B) h)

pub fields_end : {E : Environment} {f : Family} {r : Universe} {C : Context} {t : Term} {ls : List Universe} {is : List Term} → Fields E f r C t ls is
    → EndsIn f.name (pi_count t) (whole f) t
fields_end {f = f} {t = t} {is = is} (end l a s) = at_indices_end f t is a
fields_end {f = f} {C = C} (field {B = B} l s p u h) = pi_ends f C B (fields_end h)

pub constructs_end : {E : Environment} {f : Family} {r : Universe} {xs : Telescope} {C : Context} {t : Term} {ls : List Universe} {is : List Term}
    → Constructs E f r xs C t ls is → EndsIn f.name (pi_count t) (whole f) t
constructs_end (fields h) = fields_end h
constructs_end {f = f} {C = C} (parameter {B = B} e h) = pi_ends f C B (constructs_end h)

-- It has as many pis as there are parameters, at least.
pub constructs_params : {E : Environment} {f : Family} {r : Universe} {xs : Telescope} {C : Context} {t : Term} {ls : List Universe} {is : List Term}
    → Constructs E f r xs C t ls is → length xs ≤ pi_count t
constructs_params (fields h) = zero-le
constructs_params {C = C} (parameter {xs = xs} {B = B} e h) =
    let l : length xs ≤ pi_count (opened C B) = constructs_params h in
    omega (arith, pi_count-instantiate_at 0 (length C) B)

-- ---- Of a declaration.

-- What is opened and what is left.
pub pi_count-opened : (k n : ℕ) (t : Term) → length (open_pis k n t).locals + pi_count (open_pis k n t).rest ≡ pi_count t
pi_count-opened k (suc n) (pi x A B) =
    let o : Opened = open_pis (suc k) n (instantiate B (free k)) in
    let e : length o.locals + pi_count o.rest ≡ pi_count (instantiate B (free k)) = pi_count-opened (suc k) n (instantiate B (free k)) in
    omega (arith, pi_count-instantiate_at 0 k B)
pi_count-opened k zero t = omega arith
pi_count-opened k (suc n) t = omega arith

pub own_params : (d : IndDecl) → d.params ≤ pi_count d.ty → length (own_family d).params ≡ d.params
own_params d h = length-opened 0 d.params d.ty h

pub own_whole : (d : IndDecl) → d.params ≤ pi_count d.ty → whole (own_family d) ≡ d.params + (pi_count d.ty - d.params)
own_whole d h = omega (arith, pi_count-opened 0 d.params d.ty)

pub constructor_ends : (E : Environment) (d : IndDecl) (r : Universe) (c : CtorInfo) → d.params ≤ pi_count d.ty → ConstructorRight E (own_family d) r c
    → EndsIn d.name (d.params + (pi_count c.ty - d.params)) (d.params + (pi_count d.ty - d.params)) c.ty
constructor_ends E d r c h q =
    let l : length (own_family d).params ≤ pi_count c.ty = constructs_params q.constructs in
    let e : pi_count c.ty ≡ d.params + (pi_count c.ty - d.params) = omega (arith, own_params d h) in
    subst (λ n. EndsIn d.name n (d.params + (pi_count d.ty - d.params)) c.ty) e
    (subst (λ m. EndsIn d.name (pi_count c.ty) m c.ty) (own_whole d h) (constructs_end q.constructs))

pub one_of_right : (E : Environment) (f : Family) (r : Universe) (cs : List CtorInfo) → ConstructorsRight E f r cs → (k : ℕ) (c : CtorInfo)
    → slice_get cs k ≡ Some c → ConstructorRight E f r c
one_of_right E f r [] h k c e = absurd (no_value e)
one_of_right E f r (x ∷ cs) h zero c e = subst (ConstructorRight E f r) (some_is e) h.0
one_of_right E f r (x ∷ cs) h (suc k) c e = one_of_right E f r cs h.1 k c e

pub admitted_ends : (E : Environment) (d : IndDecl) (large : Bool) → Admitted E d large → (index : ℕ) (c : CtorInfo) → slice_get d.ctors index ≡ Some c
    → EndsIn d.name (d.params + (pi_count c.ty - d.params)) (d.params + (pi_count d.ty - d.params)) c.ty
admitted_ends E d large a index c e = constructor_ends (with_type E d) d a.result c a.params
    (one_of_right (with_type E d) (own_family d) a.result d.ctors a.constructors index c e)
