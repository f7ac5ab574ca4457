-- What the rules ask for passes the tests of form.
use Rattle.std.proofs.Common.{
  ◌≡◌,
  inl,
  inr,
  ℕ,
  suc,
  true,
  false,
  not,
  ◌&&◌,
  ◌||◌,
  ◌==◌,
  nat_eq,
  List,
  [],
  ◌∷◌,
  ◌++◌,
  append-nil,
  length,
  drop,
  refl,
  sym,
  ap,
  subst,
  ◌∙◌,
}
use Rattle.std.proofs.lemmas.Bool.{and_from, or_from, or_left, or_right, not_from_false, false_from_ne_true, eq-eqb}
use Rattle.lf_core.specs.Term.{
  Path,
  Universe,
  level_zero,
  level_succ,
  level_max,
  level_imax,
  level_param,
  level_meta,
  Term,
  bound,
  free,
  meta,
  sort,
  const,
  app,
  lam,
  pi,
  letin,
  lit,
  proj,
}
use Rattle.lf_core.specs.Same.{same_path, same_universe, same_universes, same_kind, same_binder, same}
use Rattle.lf_core.specs.Spine.{apply, arguments_before, arguments_of}
use Rattle.lf_rules.specs.Structure.{Without}
use Rattle.lf_rules.specs.Telescope.{Telescope, variables, pi_count}
use Rattle.lf_rules.specs.Recursor.{Family, self, indices_of}
use Rattle.lf_rules.specs.Inductive.{AllWithout, AtIndices, Recursive, at_indices, over, Positive}
use Rattle.lf_name.specs.declared.binder.Binder.{Binder}
use Rattle.lf_name.specs.declared.binder.BinderKind.{BinderKind}
use Rattle.lf_name.specs.declared.binder.BinderKind.TheVariants.{Explicit, Implicit, Inst}
use Rattle.lf_judgment_laws.proofs.Variables.{apply-append}
use Rattle.lf_checker.specs.Structures.{mentions}
use Rattle.lf_checker.specs.Admission.{any_mentions, is_at_indices, ends_at_indices, is_positive}
use Rattle.lf_name.proofs.Names.{path_is}
use Rattle.lf_core.proofs.Trees.{term_is}
use Rattle.lf_admission_laws.specs.Forms.{FormTestsAreExact}
use Rattle.lf_checker_laws.proofs.Structures.{path_same}
use Rattle.lf_admission_laws.proofs.Forms.{at_indices_is, positive_is}

-- ---- The same tree.

universe_same : (l : Universe) → same_universe l l ≡ true
universe_same level_zero = refl
universe_same (level_succ l) = universe_same l
universe_same (level_max l m) = and_from (same_universe l l) (same_universe m m) (universe_same l) (universe_same m)
universe_same (level_imax l m) = and_from (same_universe l l) (same_universe m m) (universe_same l) (universe_same m)
universe_same (level_param k) = eq-eqb k k refl
universe_same (level_meta k) = eq-eqb k k refl

universes_same : (ls : List Universe) → same_universes ls ls ≡ true
universes_same [] = refl
universes_same (l ∷ ls) = and_from (same_universe l l) (same_universes ls ls) (universe_same l) (universes_same ls)

kind_same : (k : BinderKind) → same_kind k k ≡ true
kind_same Explicit = refl
kind_same Implicit = refl
kind_same Inst = refl

binder_same : (x : Binder) → same_binder x x ≡ true
binder_same x = and_from (same_path x.name x.name) (same_kind x.kind x.kind) (path_same x.name) (kind_same x.kind)

pub term_same : (t : Term) → same t t ≡ true
term_same (bound k) = eq-eqb k k refl
term_same (free k) = eq-eqb k k refl
term_same (meta k) = eq-eqb k k refl
term_same (sort l) = universe_same l
term_same (const c ls) = and_from (same_path c c) (same_universes ls ls) (path_same c) (universes_same ls)
term_same (app f a) = and_from (same f f) (same a a) (term_same f) (term_same a)
term_same (lam x A b) = and_from (same_binder x x && same A A) (same b b) (and_from (same_binder x x) (same A A) (binder_same x) (term_same A)) (term_same b)
term_same (pi x A b) = and_from (same_binder x x && same A A) (same b b) (and_from (same_binder x x) (same A A) (binder_same x) (term_same A)) (term_same b)
term_same (letin x A v b) =
    and_from (same_binder x x && same A A && same v v) (same b b)
    (and_from (same_binder x x && same A A) (same v v) (and_from (same_binder x x) (same A A) (binder_same x) (term_same A)) (term_same v)) (term_same b)
term_same (lit n) = eq-eqb n n refl
term_same (proj s i t) = and_from (same_path s s && (i == i)) (same t t) (and_from (same_path s s) (i == i) (path_same s) (eq-eqb i i refl)) (term_same t)

-- ---- The type at indices.

arguments_apply : (f : Term) (xs ys : List Term) → arguments_before (apply f xs) ys ≡ arguments_before f (xs ++ ys)
arguments_apply f [] ys = refl
arguments_apply f (x ∷ xs) ys = arguments_apply (app f x) xs ys

length_variables : (k : ℕ) (xs : Telescope) → length (variables k xs) ≡ length xs
length_variables k [] = refl
length_variables k (x ∷ xs) = ap suc (length_variables (suc k) xs)

drop_front : (xs ys : List Term) → drop (length xs) (xs ++ ys) ≡ ys
drop_front [] ys = refl
drop_front (x ∷ xs) ys = drop_front xs ys

indices_apply : (f : Family) (is : List Term) → indices_of f (apply (self f) is) ≡ is
indices_apply f is =
    let vs : List Term = variables 0 f.params in
    let e : arguments_of (apply (self f) is) ≡ vs ++ is = arguments_apply (self f) is [] ∙ arguments_apply (const f.name f.levels) vs (is ++ []) ∙
    ap (λ ys. vs ++ ys) (append-nil is) in
    ap (drop (length f.params)) e ∙ ap (λ n. drop n (vs ++ is)) (sym (length_variables 0 f.params)) ∙ drop_front vs is

indices_are : (f : Family) (t : Term) (is : List Term) → AtIndices f t is → indices_of f t ≡ is
indices_are f t is a = ap (indices_of f) a.form ∙ indices_apply f is

not_mentioned : (n : Path) (t : Term) → Without n t → mentions n t ≡ false
not_mentioned n (const c ls) h = false_from_ne_true (same_path c n) (λ e. h (path_is c n e))
not_mentioned n (app f a) h = or_from (mentions n f) (mentions n a) (not_mentioned n f h.0) (not_mentioned n a h.1)
not_mentioned n (lam x A b) h = or_from (mentions n A) (mentions n b) (not_mentioned n A h.0) (not_mentioned n b h.1)
not_mentioned n (pi x A B) h = or_from (mentions n A) (mentions n B) (not_mentioned n A h.0) (not_mentioned n B h.1)
not_mentioned n (letin x A v b) h = or_from (mentions n A) (mentions n v || mentions n b) (not_mentioned n A h.0)
    (or_from (mentions n v) (mentions n b) (not_mentioned n v h.1) (not_mentioned n b h.2))
not_mentioned n (proj s i t) h = or_from (same_path s n) (mentions n t) (false_from_ne_true (same_path s n) (λ e. h.0 (path_is s n e))) (not_mentioned n t h.1)
not_mentioned n (bound i) h = refl
not_mentioned n (free k) h = refl
not_mentioned n (meta k) h = refl
not_mentioned n (sort l) h = refl
not_mentioned n (lit k) h = refl

none_mentioned : (n : Path) (ts : List Term) → AllWithout n ts → any_mentions n ts ≡ false
none_mentioned n [] h = refl
none_mentioned n (t ∷ ts) h = or_from (mentions n t) (any_mentions n ts) (not_mentioned n t h.0) (none_mentioned n ts h.1)

pub passes_at_indices : (f : Family) (t : Term) (is : List Term) → AtIndices f t is → is_at_indices f t ≡ true
passes_at_indices f t is a =
    let e : indices_of f t ≡ is = indices_are f t is a in
    let js : List Term = indices_of f t in
    let form : same t (apply (self f) js) ≡ true = subst (λ s. same t s ≡ true) (a.form ∙ ap (apply (self f)) (sym e)) (term_same t) in
    let whole : nat_eq (length js) (pi_count f.rest) ≡ true = eq-eqb (length js) (pi_count f.rest) (ap (λ xs. length xs) e ∙ a.whole) in
    let nowhere : not (any_mentions f.name js) ≡ true = not_from_false (any_mentions f.name js)
    (none_mentioned f.name js (subst (AllWithout f.name) (sym e) a.nowhere)) in
    and_from (same t (apply (self f) js)) (nat_eq (length js) (pi_count f.rest) && not (any_mentions f.name js)) form
    (and_from (nat_eq (length js) (pi_count f.rest)) (not (any_mentions f.name js)) whole nowhere)

-- ---- Positive fields.

-- The type at indices is no pi.
no_pi : (f a : Term) (xs : List Term) {x : Binder} {A B : Term} {P : Type 0} → apply (app f a) xs ≡ pi x A B → P
no_pi f a [] e = absurd (cc)
no_pi f a (y ∷ ys) e = no_pi (app f a) y ys e

self_no_pi : (n : Path) (ls : List Universe) (xs : List Term) {x : Binder} {A B : Term} {P : Type 0} → apply (const n ls) xs ≡ pi x A B → P
self_no_pi n ls [] e = absurd (cc)
self_no_pi n ls (y ∷ ys) e = no_pi (const n ls) y ys e

pub end_no_pi : (f : Family) {x : Binder} {A B : Term} {is : List Term} {P : Type 0} → AtIndices f (pi x A B) is → P
end_no_pi f {is = is} a = self_no_pi f.name f.levels (variables 0 f.params ++ is) (apply-append (const f.name f.levels) (variables 0 f.params) is ∙ sym a.form)

ends_as_tested : (f : Family) (t : Term) → is_at_indices f t ≡ true → (is : List Term) → AtIndices f t is → ends_at_indices f t ≡ true
ends_as_tested f (pi x A B) e is a = end_no_pi f a
ends_as_tested f (bound i) e is a = e
ends_as_tested f (free k) e is a = e
ends_as_tested f (meta k) e is a = e
ends_as_tested f (sort l) e is a = e
ends_as_tested f (const c ls) e is a = e
ends_as_tested f (app g x) e is a = e
ends_as_tested f (lam x A b) e is a = e
ends_as_tested f (letin x A v b) e is a = e
ends_as_tested f (lit k) e is a = e
ends_as_tested f (proj s i t) e is a = e

passes_recursive : (f : Family) {A : Term} → Recursive f A → ends_at_indices f A ≡ true
passes_recursive f (at_indices {t = t} is a) = ends_as_tested f t (passes_at_indices f t is a) is a
passes_recursive f (over {A = A} {B = B} w r) = and_from (not (mentions f.name A)) (ends_at_indices f B)
    (not_from_false (mentions f.name A) (not_mentioned f.name A w)) (passes_recursive f r)

pub passes_positive : (f : Family) (A : Term) → Positive f A → is_positive f A ≡ true
passes_positive f A (inl w) = or_left (not (mentions f.name A)) (ends_at_indices f A) (not_from_false (mentions f.name A) (not_mentioned f.name A w))
passes_positive f A (inr r) = or_right (not (mentions f.name A)) (ends_at_indices f A) (passes_recursive f r)

pub form_tests_are_exact : FormTestsAreExact
form_tests_are_exact = record {
  tree = λ a b. (λ e. term_is a b e, λ e. subst (λ t. same a t ≡ true) e (term_same a));
  at_indices = λ f t. (λ e. at_indices_is f t e, λ a. passes_at_indices f t (indices_of f t) a);
  indices = indices_are;
  positive = λ f A. (λ e. positive_is f A e, λ p. passes_positive f A p);
}
