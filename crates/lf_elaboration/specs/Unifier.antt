-- Unification: whether two terms can be made equal, and the assignments that make them so. The first rule that applies to the two terms
-- decides, or gives two terms to begin again with. This project's own; a metavariable applied to distinct variables is a pattern in the sense
-- of Miller 1991.
use Rattle.std.specs.Prelude.{
  ℕ,
  zero,
  suc,
  ◌^◌,
  Bool,
  true,
  false,
  ◌&&◌,
  ◌||◌,
  nat_eq,
  nat_lt,
  Option,
  Some,
  None,
  List,
  [],
  ◌∷◌,
  codes,
  length,
  slice_get,
  unwrap_or,
}
use Rattle.lf_core.specs.Term.{
  Path,
  Universe,
  level_zero,
  Term,
  bound,
  free,
  meta,
  sort,
  const,
  app,
  lam,
  pi,
  letin,
  lit,
  proj,
}
use Rattle.lf_core.specs.Same.{same, same_path}
use Rattle.lf_core.specs.Spine.{head_of, arguments_of}
use Rattle.lf_core.specs.Substitution.{abstract}
use Rattle.lf_core.specs.Summary.{has_metavariable, has_level_metavariable}
use Rattle.lf_name.specs.declared.binder.Binder.{Binder}
use Rattle.lf_name.specs.declared.binder.BinderKind.TheVariants.{Explicit}
use Rattle.lf_rules.specs.Environment.{Context, with, nat_succ}
use Rattle.lf_checker.specs.View.{View}
use Rattle.lf_checker.specs.Calls.{Calls}
use Rattle.lf_checker.specs.Whnf.{turn_limit}
use Rattle.lf_checker.specs.Equal.{Verdict, decided, again, undecided, when_true, by_unfolding}
use Rattle.lf_checker.specs.Checker.{calls}
use Rattle.lf_elaboration.specs.Forms.{
  Binding,
  Instance,
  Applied,
  Projection,
  as_pi,
  as_lambda,
  as_sort,
  as_constant,
  as_variable,
  as_metavariable,
  as_application,
  as_literal,
  as_projection,
}
use Rattle.lf_elaboration.specs.Metavariables.{Changes, types_of}
use Rattle.lf_elaboration.specs.LevelUnifier.{and_then, unify_level, unify_levels}
use Rattle.lf_elaboration.specs.Run.{
  Run,
  ◌>>=◌,
  gives,
  gives_up,
  choose,
  spend,
  reading,
  checks,
  put,
  made,
  opening,
  instantiated,
  type_unchecked,
  assign,
  or_as_before,
}

-- The unifier as a rule may call it: itself, one call deeper.
abbrev pub Unify : Type 0
Unify = Context → Term → Term → Run Changes Bool

-- ---- Ways to put rules together

abbrev pub decided_by : Verdict → Run Changes Verdict → Run Changes Verdict
decided_by undecided n = n
decided_by (decided r) n = gives (decided r)
decided_by (again a b) n = gives (again a b)

-- The first rule, and where it doesn't apply the second.
abbrev pub or_else : Run Changes Verdict → Run Changes Verdict → Run Changes Verdict
or_else m n = do
  v ← m
  decided_by v n

abbrev pub decides : Run Changes Bool → Run Changes Verdict
decides m = do
  r ← m
  gives (decided r)

abbrev pub if_true : Run Changes Bool → Run Changes Verdict
if_true m = do
  r ← m
  gives (when_true r)

-- ---- 1. No metavariable: equality decides. The same tree: true.

abbrev pub has_any_metavariable : Term → Bool
has_any_metavariable t = has_metavariable t || has_level_metavariable t

abbrev pub without_metavariables : Calls → Context → Term → Term → Run Changes Verdict
without_metavariables c C a b = choose (has_any_metavariable a || has_any_metavariable b) (gives undecided) (decides (checks (c.equal C a b)))

abbrev pub by_same_tree : Term → Term → Run Changes Verdict
by_same_tree a b = gives (when_true (same a b))

-- ---- 2. A metavariable alone or applied to distinct variables, on the left or else on the right, is assigned the abstraction of the other
-- side, where its type unifies with the other's. False decides too.

pub record Pattern : Type 0 where
  pub metavariable : ℕ
  pub variables : List ℕ

abbrev pub is_one_of : ℕ → List ℕ → Bool
is_one_of k [] = false
is_one_of k (j ∷ js) = nat_eq j k || is_one_of k js

abbrev pub with_distinct : Option ℕ → Option (List ℕ) → Option (List ℕ)
with_distinct None ks = None
with_distinct (Some k) None = None
with_distinct (Some k) (Some ks) = unless_repeated (is_one_of k ks)
  where
    unless_repeated : Bool → Option (List ℕ)
    unless_repeated true = None
    unless_repeated false = Some (k ∷ ks)

-- The terms are distinct variables.
abbrev pub distinct_variables : List Term → Option (List ℕ)
distinct_variables [] = Some []
distinct_variables (x ∷ xs) = with_distinct (as_variable x) (distinct_variables xs)

abbrev pub pattern_at : Option ℕ → Option (List ℕ) → Option Pattern
pattern_at (Some m) (Some ks) = Some (record { metavariable = m; variables = ks })
pattern_at (Some m) None = None
pattern_at None ks = None

abbrev pub pattern_of : Term → Option Pattern
pattern_of t = pattern_at (as_metavariable (head_of t)) (distinct_variables (arguments_of t))

-- The abstraction over these variables has the binders of the metavariable's type; where that is no pi, one called `a`.
abbrev pub plain_binder : Binder
plain_binder = record { name = codes "a" ∷ []; kind = Explicit }

abbrev pub binder_in : Option Binding → Binder
binder_in (Some p) = p.binder
binder_in None = plain_binder

abbrev pub behind : Term → Option Binding → Term
behind T (Some p) = p.body
behind T None = T

abbrev pub type_in : Context → ℕ → Term
type_in C k = unwrap_or (slice_get C k) (sort level_zero)

abbrev pub abstraction : Context → Term → List ℕ → Term → Run Changes Term
abstraction C T [] t = gives t
abstraction C T (k ∷ ks) t = do
  b ← abstraction C (behind T (as_pi T)) ks t
  d ← made (abstract b k)
  put (lam (binder_in (as_pi T)) (type_in C k) d)

abbrev pub made_type : Changes → Pattern → Term
made_type cs p = unwrap_or (slice_get (types_of cs) p.metavariable) (sort level_zero)

-- The type of the pattern, which is the term q: of a metavariable alone the one that it was made with.
abbrev pub pattern_type : Calls → Context → Pattern → List ℕ → Term → Run Changes (Option Term)
pattern_type c C p [] q = reading λ cs. gives (Some (made_type cs p))
pattern_type c C p (k ∷ ks) q = type_unchecked c C q

abbrev pub types_unify : Unify → Context → Option Term → Option Term → Run Changes Bool
types_unify self C (Some A) (Some B) = self C A B
types_unify self C (Some A) None = gives false
types_unify self C None B = gives false

abbrev pub solve : Calls → Unify → Context → Pattern → Term → Term → Run Changes Bool
solve c self C p q t = do
  B ← type_unchecked c C t
  A ← pattern_type c C p p.variables q
  r ← types_unify self C A B
  and_then r do
    v ← reading λ cs. abstraction C (made_type cs p) p.variables t
    assign p.metavariable v

abbrev pub by_pattern : Calls → Unify → Context → Option Pattern → Term → Term → Run Changes Verdict
by_pattern c self C None q t = gives undecided
by_pattern c self C (Some p) q t = decides (solve c self C p q t)

-- ---- 3. Weak head forms without definitions, where one of them is another term.

abbrev pub by_whnf : Calls → Context → Term → Term → Run Changes Verdict
by_whnf c C a b = do
  a' ← checks (c.whnf false C a)
  b' ← checks (c.whnf false C b)
  choose (same a a' && same b b') (gives undecided) (gives (again a' b'))

-- ---- 4. By form: sorts, pis, lambdas, a lambda against another term, the successor of a term against a literal.

abbrev pub unify_bodies : Unify → Context → Term → Term → Term → Run Changes Bool
unify_bodies self C A b d = do
  o ← opening C b
  p ← opening C d
  self (with C A) o p

abbrev pub unify_binders : Unify → Context → Term → Term → Term → Term → Run Changes Bool
unify_binders self C A b B d = do
  r ← self C A B
  and_then r (unify_bodies self C A b d)

-- The other term is applied to the lambda's variable.
abbrev pub expanded : Context → Term → Run Changes Term
expanded C t = put (app t (free (length C)))

abbrev pub lambda_left : Unify → Context → Term → Term → Term → Run Changes Bool
lambda_left self C A b t = do
  o ← opening C b
  e ← expanded C t
  self (with C A) o e

abbrev pub lambda_right : Unify → Context → Term → Term → Term → Run Changes Bool
lambda_right self C t A b = do
  o ← opening C b
  e ← expanded C t
  self (with C A) e o

abbrev pub by_predecessors : ℕ → Term → Run Changes Bool → Run Changes Verdict
by_predecessors n f m = choose (same f nat_succ && nat_lt n (2 ^ 128)) (decides m) (gives undecided)

abbrev pub by_sorts : Option Universe → Option Universe → Run Changes Verdict
by_sorts (Some l) (Some m) = decides (unify_level l m)
by_sorts (Some l) None = gives undecided
by_sorts None m = gives undecided

abbrev pub by_pis : Unify → Context → Option Binding → Option Binding → Run Changes Verdict
by_pis self C (Some p) (Some q) = decides (unify_binders self C p.domain p.body q.domain q.body)
by_pis self C (Some p) None = gives undecided
by_pis self C None q = gives undecided

abbrev pub by_lambdas : Unify → Context → Term → Term → Option Binding → Option Binding → Run Changes Verdict
by_lambdas self C a b (Some p) (Some q) = decides (unify_binders self C p.domain p.body q.domain q.body)
by_lambdas self C a b (Some p) None = decides (lambda_left self C p.domain p.body b)
by_lambdas self C a b None (Some q) = decides (lambda_right self C a q.domain q.body)
by_lambdas self C a b None None = gives undecided

abbrev pub successor_left : Unify → Context → Option Applied → Option ℕ → Run Changes Verdict
successor_left self C (Some s) (Some (suc n)) = by_predecessors (suc n) s.function (self C s.argument (lit n))
successor_left self C (Some s) (Some zero) = gives undecided
successor_left self C (Some s) None = gives undecided
successor_left self C None n = gives undecided

abbrev pub successor_right : Unify → Context → Option ℕ → Option Applied → Run Changes Verdict
successor_right self C (Some (suc n)) (Some s) = by_predecessors (suc n) s.function (self C (lit n) s.argument)
successor_right self C (Some zero) (Some s) = gives undecided
successor_right self C (Some n) None = gives undecided
successor_right self C None s = gives undecided

abbrev pub by_form : Unify → Context → Term → Term → Run Changes Verdict
by_form self C a b =
    or_else (by_sorts (as_sort a) (as_sort b)) (or_else (by_pis self C (as_pi a) (as_pi b))
    (or_else (by_lambdas self C a b (as_lambda a) (as_lambda b)) (or_else (successor_left self C (as_application a) (as_literal b))
    (successor_right self C (as_literal a) (as_application b)))))

-- ---- 5. One head at as many arguments: levels, the terms of projections, and arguments in order. All of them true decides, and else what
-- they changed is undone.

abbrev pub same_number : ℕ → Option ℕ → Bool
same_number j (Some k) = nat_eq j k
same_number j None = false

abbrev pub unify_constants : Path → List Universe → Option Instance → Run Changes Bool
unify_constants n ls (Some c) = choose (same_path n c.name) (unify_levels ls c.levels) (gives false)
unify_constants n ls None = gives false

abbrev pub unify_projections : Unify → Context → Path → ℕ → Term → Option Projection → Run Changes Bool
unify_projections self C S i t (Some p) = choose (same_path S p.structure && nat_eq i p.field) (self C t p.term) (gives false)
unify_projections self C S i t None = gives false

abbrev pub unify_heads : Unify → Context → Term → Term → Run Changes Bool
unify_heads self C (const n ls) h = unify_constants n ls (as_constant h)
unify_heads self C (free k) h = gives (same_number k (as_variable h))
unify_heads self C (meta k) h = gives (same_number k (as_metavariable h))
unify_heads self C (proj S i t) h = unify_projections self C S i t (as_projection h)
unify_heads self C (bound i) h = gives false
unify_heads self C (sort l) h = gives false
unify_heads self C (app f a) h = gives false
unify_heads self C (lam x A b) h = gives false
unify_heads self C (pi x A B) h = gives false
unify_heads self C (letin x A v b) h = gives false
unify_heads self C (lit n) h = gives false

abbrev pub unify_all : Unify → Context → List Term → List Term → Run Changes Bool
unify_all self C [] [] = gives true
unify_all self C (x ∷ xs) (y ∷ ys) = do
  r ← self C x y
  and_then r (unify_all self C xs ys)
unify_all self C [] (y ∷ ys) = gives false
unify_all self C (x ∷ xs) [] = gives false

abbrev pub unify_spines : Unify → Context → Term → Term → Run Changes Bool
unify_spines self C a b = do
  r ← unify_heads self C (head_of a) (head_of b)
  and_then r (unify_all self C (arguments_of a) (arguments_of b))

abbrev pub by_heads : Unify → Context → Term → Term → Run Changes Verdict
by_heads self C a b =
    choose (nat_eq (length (arguments_of a)) (length (arguments_of b))) (if_true (or_as_before (unify_spines self C a b))) (gives undecided)

-- ---- All rules in their order; 6. definitions at the heads are unfolded as `equal` does; 7. else false.

abbrev pub unify_turn : View → Calls → Unify → Context → Term → Term → Run Changes Verdict
unify_turn V c self C a b =
    or_else (without_metavariables c C a b) (or_else (by_same_tree a b) (or_else (by_pattern c self C (pattern_of a) a b)
    (or_else (by_pattern c self C (pattern_of b) b a) (or_else (by_whnf c C a b) (or_else (by_form self C a b) (or_else (by_heads self C a b)
    (checks (by_unfolding V a b))))))))

abbrev pub unify_loop : View → Calls → Unify → Context → ℕ → Term → Term → Run Changes Bool
unify_loop V c self C zero a b = gives_up
unify_loop V c self C (suc n) a b = do
  v ← unify_turn V c self C a b
  elim v [ decided r ↦ gives r | again a' b' ↦ unify_loop V c self C n a' b' | undecided ↦ gives false ]

-- Both terms with their assigned metavariables put in.
unfoldable pub unify_body : View → Calls → Unify → Context → Term → Term → Run Changes Bool
unify_body V c self C a b = do
  a' ← instantiated a
  b' ← instantiated b
  unify_loop V c self C turn_limit a' b'

-- Where so many nested calls are still allowed.
abbrev pub unify : View → ℕ → Unify
unify V zero = λ C a b. gives_up
unify V (suc n) = λ C a b. or_as_before (spend 1 (unify_body V (calls V n) (unify V n) C a b))
