-- Where the recursor of an opened declaration lies, its rules too: where the declaration lies itself.
use Rattle.std.proofs.Common.{◌≡◌, ℕ, suc, ◌+◌, ◌≤◌, ◌<◌, List, [], ◌∷◌, ◌++◌, length, length-append, refl, sym, subst, arith, zero-le}
use Rattle.std.proofs.lemmas.Bool.{cond_both}
use Rattle.lf_core.specs.Term.{Universe, Term, free, sort, const, pi}
use Rattle.lf_core.specs.Spine.{apply, arguments_of}
use Rattle.lf_rules.specs.Environment.{Declared, ParametersBelow, AllParametersBelow}
use Rattle.lf_rules.specs.Telescope.{Telescope, variables, pi_count, open_all, implicit, explicit}
use Rattle.lf_rules.specs.Recursor.{
  Case,
  Family,
  self,
  indices_of,
  is_recursive,
  motive,
  major,
  motive_local,
  motive_at,
  innermost,
  hypothesis,
  hypotheses,
  minor_type,
  minors,
  shared,
  recursor_type,
  Called,
  recursive_call,
  recursive_calls,
  rule,
  rules,
}
use Rattle.lf_name.specs.declared.binder.BinderKind.TheVariants.{Explicit, Implicit}
use Rattle.lf_inductive_laws.proofs.Places.{Place, Lies, lies_up}
use Rattle.lf_inductive_laws.proofs.Places_of_telescopes.{
  AllLie,
  all_lie_append,
  all_lie_drop,
  all_lie_up,
  lies_apply,
  all_arguments_lie,
  variables_lie,
  innermost_lie,
  Stands,
  stands_append,
  stands_both,
  stands_of_kind,
  length-of_kind,
  lies_pis_over,
  lies_lambdas_over,
  Opens,
  opens,
}

abbrev pub CasesLie : Place → ℕ → List Case → Type 0
CasesLie p n [] = Unit {0}
CasesLie p n (c ∷ cs) = (Declared p.environment c.constructor × Lies p 0 n c.body) × CasesLie p n cs

pub record FamilyLies (p : Place) (f : Family) : Type 0 where
  pub name : Declared p.environment f.name
  pub levels : AllParametersBelow p.levels f.levels
  pub params : Stands p 0 f.params
  pub rest : Lies p 0 (length f.params) f.rest
  pub cases : CasesLie p (length f.params) f.cases

self_lies : (p : Place) (f : Family) (d l : ℕ) → FamilyLies p f → length f.params ≤ l → Lies p d l (self f)
self_lies p f d l h e = lies_apply p d l (const f.name f.levels) (variables 0 f.params) (h.name, h.levels) (variables_lie p d 0 l f.params (omega arith))

indices_lie : (p : Place) (f : Family) (d l : ℕ) (t : Term) → Lies p d l t → AllLie p d l (indices_of f t)
indices_lie p f d l t h = all_lie_drop p d l (length f.params) (arguments_of t) (all_arguments_lie p d l t h)

-- ---- The motive.

major_lies : (p : Place) (f : Family) (k : ℕ) (is : Telescope) → FamilyLies p f → length f.params ≤ k → Lies p 0 (k + length is) (major f k is).ty
major_lies p f k is h e = lies_apply p 0 (k + length is) (self f) (variables k is) (self_lies p f 0 (k + length is) h (omega arith))
    (variables_lie p 0 k (k + length is) is (omega arith))

-- Indices of some kind, and then a member.
stands_major : (p : Place) (f : Family) (k : ℕ) (is js : Telescope) → FamilyLies p f → length f.params ≤ k → length js ≡ length is → Stands p k js
    → Stands p k (js ++ major f k is ∷ [])
stands_major p f k is js h e l g = stands_append p k js (major f k is ∷ []) g
    (subst (λ n. Lies p 0 (k + n) (major f k is).ty) (sym l) (major_lies p f k is h e), tt)

motive_local_lies : (p : Place) (f : Family) (s : Universe) → FamilyLies p f → ParametersBelow p.levels s → Lies p 0 (length f.params) (motive_local f s).ty
motive_local_lies p f s h b =
    let n : ℕ = length f.params in
    let o : Opens p n (pi_count f.rest) (open_all n f.rest) = opens p n (pi_count f.rest) f.rest h.rest in
    let is : Telescope = (open_all n f.rest).locals in
    lies_pis_over p n (explicit is ++ major f n is ∷ []) (sort s)
    (stands_major p f n is (explicit is) h (omega arith) (length-of_kind Explicit is) (stands_of_kind p n Explicit is o.locals)) b

motive_at_lies : (p : Place) (f : Family) (d l : ℕ) (t x : Term) → suc (length f.params) ≤ l → Lies p d l t → Lies p d l x → Lies p d l (motive_at f t x)
motive_at_lies p f d l t x e h g = lies_apply p d l (motive f) (indices_of f t ++ x ∷ []) (omega arith)
    (all_lie_append p d l (indices_of f t) (x ∷ []) (indices_lie p f d l t h) (g, tt))

-- ---- Minor premises.

-- A variable at the innermost ones.
field_lies : (p : Place) (l i n : ℕ) → i < l → Lies p n l (apply (free i) (innermost n))
field_lies p l i n h = lies_apply p n l (free i) (innermost n) h (innermost_lie p n l n (omega arith))

hypothesis_lies : (p : Place) (f : Family) (l i n : ℕ) (A : Term) → suc (length f.params) ≤ l → i < l → Lies p n l A → Lies p n l (hypothesis f (free i) n A)
hypothesis_lies p f l i n (pi z A B) e g h = (h.0, hypothesis_lies p f l i (suc n) B e g h.1)
hypothesis_lies p f l i n t e g h = motive_at_lies p f n l t (apply (free i) (innermost n)) e h (field_lies p l i n g)

hypotheses_stand : (p : Place) (f : Family) (k i : ℕ) (xs : Telescope) → suc (length f.params) ≤ k → i + length xs ≤ k → Stands p i xs
    → Stands p k (hypotheses f i xs)
hypotheses_stand p f k i [] e g h = tt
hypotheses_stand p f k i (x ∷ xs) e g h =
    cond_both (is_recursive f x.ty) _ (hypotheses f (suc i) xs) (Stands p k)
    (λ q. (
      hypothesis_lies p f k i 0 x.ty e (omega arith) (lies_up p x.ty zero-le (omega arith) h.0),
      hypotheses_stand p f (suc k) (suc i) xs (omega arith)
          (omega arith) h.1,
    ))
    (λ q. hypotheses_stand p f k (suc i) xs e (omega arith) h.1)

minor_type_lies : (p : Place) (f : Family) (c : Case) → FamilyLies p f → Declared p.environment c.constructor → Lies p 0 (length f.params) c.body
    → Lies p 0 (suc (length f.params)) (minor_type f c)
minor_type_lies p f c h w s =
    let k : ℕ = suc (length f.params) in
    let o : Opens p k (pi_count c.body) (open_all k c.body) = opens p k (pi_count c.body) c.body (lies_up p c.body zero-le (omega arith) s) in
    let t : Term = (open_all k c.body).rest in
    let xs : Telescope = (open_all k c.body).locals in
    let hs : Telescope = hypotheses f k xs in
    let l : ℕ = k + length (xs ++ hs) in
    let m : k + length xs ≤ l = omega (arith, length-append xs hs) in
    let v : Term = apply (const c.constructor f.levels) (variables 0 f.params ++ variables k xs) in
    lies_pis_over p k (xs ++ hs) (motive_at f t v)
    (stands_append p k xs hs o.locals (hypotheses_stand p f (k + length xs) k xs (omega arith) (omega arith) o.locals))
    (motive_at_lies p f 0 l t v (omega arith) (lies_up p t zero-le m o.rest)
    (lies_apply p 0 l (const c.constructor f.levels) (variables 0 f.params ++ variables k xs) (w, h.levels)
    (all_lie_append p 0 l (variables 0 f.params) (variables k xs) (variables_lie p 0 0 l f.params (omega arith)) (variables_lie p 0 k l xs m))))

minors_stand : (p : Place) (f : Family) (k : ℕ) (cs : List Case) → FamilyLies p f → suc (length f.params) ≤ k → CasesLie p (length f.params) cs
    → Stands p k (minors f cs)
minors_stand p f k [] h e g = tt
minors_stand p f k (c ∷ cs) h e g = (
  lies_up p (minor_type f c) zero-le e (minor_type_lies p f c h g.0.0 g.0.1),
  minors_stand p f (suc k) cs h (omega arith)
      g.1,
)

-- ---- The type.

shared_stands : (p : Place) (f : Family) (s : Universe) → FamilyLies p f → ParametersBelow p.levels s → Stands p 0 (shared f s)
shared_stands p f s h b =
    let e : length (implicit f.params) ≡ length f.params = length-of_kind Implicit f.params in
    stands_both p (implicit f.params) (motive_local f s ∷ minors f f.cases) (stands_of_kind p 0 Implicit f.params h.params)
    (subst (λ n. Stands p n (motive_local f s ∷ minors f f.cases)) (sym e)
    (motive_local_lies p f s h b, minors_stand p f (suc (length f.params)) f.cases h (omega arith) h.cases))

length-minors : (f : Family) (cs : List Case) → length (minors f cs) ≡ length cs
length-minors f [] = refl
length-minors f (c ∷ cs) = let e : length (minors f cs) ≡ length cs = length-minors f cs in omega arith

pub length-shared : (f : Family) (s : Universe) → length (shared f s) ≡ length f.params + suc (length f.cases)
length-shared f s = omega (
  arith,
  length-append (implicit f.params) (motive_local f s ∷ minors f f.cases),
  length-of_kind Implicit f.params,
  length-minors f
      f.cases,
)

pub recursor_type_lies : (p : Place) (f : Family) (s : Universe) → FamilyLies p f → ParametersBelow p.levels s → Lies p 0 0 (recursor_type f s)
recursor_type_lies p f s h b =
    let q : ℕ = length (shared f s) in
    let le : suc (length f.params) ≤ q = omega (arith, length-shared f s) in
    let o : Opens p q (pi_count f.rest) (open_all q f.rest) = opens p q (pi_count f.rest) f.rest (lies_up p f.rest zero-le (omega arith) h.rest) in
    let is : Telescope = (open_all q f.rest).locals in
    let ys : Telescope = shared f s ++ implicit is in
    let e : q + length is ≡ length ys = omega (arith, length-append (shared f s) (implicit is), length-of_kind Implicit is) in
    let l : ℕ = 0 + length (ys ++ major f q is ∷ []) in
    let le' : suc (q + length is) ≤ l = omega (arith, length-append ys (major f q is ∷ [])) in
    lies_pis_over p 0 (ys ++ major f q is ∷ []) (apply (motive f) (variables q is ++ free (q + length is) ∷ []))
    (stands_both p ys (major f q is ∷ [])
    (stands_both p (shared f s) (implicit is) (shared_stands p f s h b) (stands_of_kind p q Implicit is o.locals))
    (subst (λ n. Lies p 0 n (major f q is).ty) e (major_lies p f q is h (omega arith)), tt))
    (lies_apply p 0 l (motive f) (variables q is ++ free (q + length is) ∷ []) (omega arith)
    (all_lie_append p 0 l (variables q is) (free (q + length is) ∷ []) (variables_lie p 0 q l is (omega arith)) (omega arith, tt)))

-- ---- The rules.

pub record CalledLies (p : Place) (r : Called) : Type 0 where
  pub name : Declared p.environment r.name
  pub levels : AllParametersBelow p.levels r.levels

recursive_call_lies : (p : Place) (f : Family) (s : Universe) (r : Called) (l i n : ℕ) (A : Term) → CalledLies p r → length (shared f s) ≤ l → i < l
    → Lies p n l A → Lies p n l (recursive_call f s r (free i) n A)
recursive_call_lies p f s r l i n (pi z A B) c e g h = (h.0, recursive_call_lies p f s r l i (suc n) B c e g h.1)
recursive_call_lies p f s r l i n t c e g h =
    let v : Term = apply (free i) (innermost n) in
    lies_apply p n l (const r.name r.levels) (variables 0 (shared f s) ++ indices_of f t ++ v ∷ []) (c.name, c.levels)
    (all_lie_append p n l (variables 0 (shared f s) ++ indices_of f t) (v ∷ [])
    (all_lie_append p n l (variables 0 (shared f s)) (indices_of f t) (variables_lie p n 0 l (shared f s) (omega arith)) (indices_lie p f n l t h))
    (field_lies p l i n g, tt))

recursive_calls_lie : (p : Place) (f : Family) (s : Universe) (r : Called) (k i : ℕ) (xs : Telescope) → CalledLies p r → length (shared f s) ≤ k
    → i + length xs ≤ k → Stands p i xs → AllLie p 0 k (recursive_calls f s r i xs)
recursive_calls_lie p f s r k i [] c e g h = tt
recursive_calls_lie p f s r k i (x ∷ xs) c e g h =
    cond_both (is_recursive f x.ty) _ (recursive_calls f s r (suc i) xs) (AllLie p 0 k)
    (λ q. (
      recursive_call_lies p f s r k i 0 x.ty c e (omega arith) (lies_up p x.ty zero-le (omega arith) h.0),
      recursive_calls_lie p f s r k (suc i) xs c e
          (omega arith) h.1,
    ))
    (λ q. recursive_calls_lie p f s r k (suc i) xs c e (omega arith) h.1)

rule_lies : (p : Place) (f : Family) (s : Universe) (r : Called) (m : ℕ) (c : Case) → FamilyLies p f → ParametersBelow p.levels s → CalledLies p r
    → m < length (shared f s) → Lies p 0 (length f.params) c.body → Lies p 0 0 (rule f s r m c)
rule_lies p f s r m c h b w e g =
    let q : ℕ = length (shared f s) in
    let o : Opens p q (pi_count c.body) (open_all q c.body) = opens p q (pi_count c.body) c.body (lies_up p c.body zero-le (omega (arith, length-shared f s)) g)
    in
    let xs : Telescope = (open_all q c.body).locals in
    let l : ℕ = 0 + length (shared f s ++ xs) in
    let le : q + length xs ≤ l = omega (arith, length-append (shared f s) xs) in
    let ys : List Term = recursive_calls f s r q xs in
    lies_lambdas_over p 0 (shared f s ++ xs) (apply (free m) (variables q xs ++ ys))
    (stands_both p (shared f s) xs (shared_stands p f s h b) o.locals)
    (lies_apply p 0 l (free m) (variables q xs ++ ys) (omega arith)
    (all_lie_append p 0 l (variables q xs) ys (variables_lie p 0 q l xs le)
    (all_lie_up p ys zero-le le (recursive_calls_lie p f s r (q + length xs) q xs w (omega arith) (omega arith) o.locals))))

pub rules_lie : (p : Place) (f : Family) (s : Universe) (r : Called) (m : ℕ) (cs : List Case) → FamilyLies p f → ParametersBelow p.levels s → CalledLies p r
    → m + length cs ≤ length (shared f s) → CasesLie p (length f.params) cs → AllLie p 0 0 (rules f s r m cs)
rules_lie p f s r m [] h b w e g = tt
rules_lie p f s r m (c ∷ cs) h b w e g = (rule_lies p f s r m c h b w (omega arith) g.0.1, rules_lie p f s r (suc m) cs h b w (omega arith) g.1)
