-- Whether two terms are equal: the first rule that decides.
use Rattle.std.specs.Prelude.{ℕ, ◌^◌, zero, suc, Bool, true, false, ◌&&◌, nat_eq, nat_lt, if◌then◌else◌, Option, Some, None, List, [], ◌∷◌, length, take, drop}
use Rattle.lf_core.specs.Term.{Path, Universe, level_zero, Term, bound, sort, const, app, lam, pi, lit, proj}
use Rattle.lf_core.specs.Same.{same, same_path}
use Rattle.lf_core.specs.Substitution.{level_instantiate}
use Rattle.lf_core.specs.Spine.{head_of, arguments_of}
use Rattle.lf_rules.specs.Environment.{Context, with, nat_zero, nat_succ}
use Rattle.lf_core.specs.declared.constant.Detail.{Detail}
use Rattle.lf_core.specs.declared.constant.Detail.TheVariants.{Ctor}
use Rattle.lf_checker.specs.View.{View, KnownBody, value, opaque, unresolved, body_of}
use Rattle.lf_checker.specs.LevelTest.{is_same, are_same}
use Rattle.lf_checker.specs.Run.{Run, ◌>>=◌, gives, gives_up, needs, choose, attempt, made, made_before, opening}
use Rattle.lf_checker.specs.Calls.{checked, Calls, Seen, known, unknown, missing, see}
use Rattle.lf_checker.specs.Structures.{Structure, structure_of, is_built}
use Rattle.lf_checker.specs.Whnf.{turn_limit, is_true}

pub data Verdict : Type 0 where
  decided : Bool → Verdict
  again : Term → Term → Verdict
  undecided : Verdict

-- The first, and where it doesn't decide the second.
abbrev pub decided_by : Verdict → Run Verdict → Run Verdict
decided_by undecided n = n
decided_by v n = gives v

abbrev pub or_else : Run Verdict → Run Verdict → Run Verdict
or_else m n = do
  v ← m
  decided_by v n

abbrev pub decides : Run Bool → Run Verdict
decides m = do
  r ← m
  gives (decided r)

abbrev pub when_true : Bool → Verdict
when_true true = decided true
when_true false = undecided

-- True decides.
abbrev pub if_true : Run Bool → Run Verdict
if_true m = do
  r ← m
  gives (when_true r)

abbrev pub and_then : Bool → Run Bool → Run Bool
and_then true m = m
and_then false m = gives false

-- Domains, and then bodies with the next variable, which has the first domain.
abbrev pub equal_binders : Calls → Context → Term → Term → Term → Term → Run Bool
equal_binders c C A b B d = do
  domains ← c.equal C A B
  and_then domains do
    o ← opening C b
    p ← opening C d
    c.equal (with C A) o p

abbrev pub by_form : Calls → Context → Term → Term → Run Verdict
by_form c C (sort l) (sort m) = gives (decided (is_same l m))
by_form c C (pi x A b) (pi y B d) = decides (equal_binders c C A b B d)
by_form c C (lam x A b) (lam y B d) = decides (equal_binders c C A b B d)
by_form c C a b = gives undecided

-- Weak head forms without definitions, where one of them is another term.
abbrev pub by_whnf : Calls → Context → Term → Term → Run Verdict
by_whnf c C a b = do
  a' ← c.whnf false C a
  b' ← c.whnf false C b
  gives (if same a a' && same b b' then undecided else again a' b')

abbrev pub is_prop : Term → Bool
is_prop (sort l) = is_same l level_zero
is_prop _ = false

abbrev pub flat : {A : Type 0} → Option (Option A) → Option A
flat (Some o) = o
flat None = None

-- The type of a proof.
abbrev pub proposition_of : Calls → Context → Term → Run (Option (Option Term))
proposition_of c C a = attempt do
  P ← c.infer checked C a
  S ← c.infer checked C P
  W ← c.whnf true C S
  gives (if is_prop W then Some P else None)

abbrev pub proves : Calls → Context → Term → Option Term → Run Bool
proves c C b None = gives false
proves c C b (Some P) = do
  r ← attempt do
    Q ← c.infer checked C b
    c.equal C P Q
  gives (is_true r)

abbrev pub by_proofs : Calls → Context → Term → Term → Run Verdict
by_proofs c C a b = if_true do
  P ← proposition_of c C a
  proves c C b (flat P)

-- A lambda against the eta expansion of the other, where that is a function.
abbrev pub expanded : Term → Term → Run (Option Term)
expanded t (pi x A B) = do
  e ← made (lam x A (app t (bound 0)))
  gives (Some e)
expanded t _ = gives None

abbrev pub expansion_of : Calls → Context → Term → Option Term → Run (Option Term)
expansion_of c C t (Some T) = do
  W ← c.whnf true C T
  expanded t W
expansion_of c C t None = gives None

abbrev pub eta_expansion : Calls → Context → Term → Run (Option Term)
eta_expansion c C t = do
  T ← attempt (c.infer checked C t)
  expansion_of c C t T

abbrev pub against_left : Calls → Context → Term → Option Term → Run Verdict
against_left c C a (Some e) = decides (c.equal C a e)
against_left c C a None = gives undecided

abbrev pub against_right : Calls → Context → Term → Option Term → Run Verdict
against_right c C b (Some e) = decides (c.equal C e b)
against_right c C b None = gives undecided

abbrev pub by_eta : Calls → Context → Term → Term → Run Verdict
by_eta c C (lam x A d) (lam y B e) = gives undecided
by_eta c C (lam x A d) b = do
  e ← eta_expansion c C b
  against_left c C (lam x A d) e
by_eta c C a (lam y B d) = do
  e ← eta_expansion c C a
  against_right c C (lam y B d) e
by_eta c C a b = gives undecided

-- A number below 2^128 against the successor of a term: their predecessors.
abbrev pub by_predecessors : ℕ → Term → Run Bool → Run Verdict
by_predecessors n f m = choose (same f nat_succ && nat_lt n (2 ^ 128)) (decides m) (gives undecided)

abbrev pub by_literals : Calls → Context → Term → Term → Run Verdict
by_literals c C (lit m) (lit n) = gives (decided false)
by_literals c C (lit zero) (const n ls) = gives (when_true (same (const n ls) nat_zero))
by_literals c C (const n ls) (lit zero) = gives (when_true (same (const n ls) nat_zero))
by_literals c C (lit (suc n)) (app f t) = by_predecessors (suc n) f (c.equal C (lit n) t)
by_literals c C (app f t) (lit (suc n)) = by_predecessors (suc n) f (c.equal C t (lit n))
by_literals c C a b = gives undecided

-- One head: constants of one name with levels that are the same, projections of one field of terms that are equal, or one tree.
abbrev pub equal_heads : Calls → Context → Term → Term → Run Bool
equal_heads c C (const n ls) (const k ms) = gives (same_path n k && are_same ls ms)
equal_heads c C (proj S i t) (proj R j u) = choose (same_path S R && nat_eq i j) (c.equal C t u) (gives false)
equal_heads c C a b = gives (same a b)

abbrev pub equal_all : Calls → Context → List Term → List Term → Run Bool
equal_all c C [] [] = gives true
equal_all c C (x ∷ xs) (y ∷ ys) = do
  r ← c.equal C x y
  and_then r (equal_all c C xs ys)
equal_all c C _ _ = gives false

abbrev pub by_arguments : Calls → Context → Term → Term → Run Verdict
by_arguments c C a b =
    if_true (choose (nat_eq (length (arguments_of a)) (length (arguments_of b))) (do
      r ← equal_heads c C (head_of a) (head_of b)
      and_then r (equal_all c C (arguments_of a) (arguments_of b))) (gives false))

-- ---- Eta for structures.

-- A structure's constructor with all its arguments.
pub record Built : Type 0 where
  pub name : Path
  pub structure : Structure
  pub levels : List Universe
  pub arguments : List Term

abbrev pub built_by : Path → Path → List Universe → List Term → Option Structure → Option Built
built_by S n ms ys (Some s) = if is_built s n ys then Some (record { name = S; structure = s; levels = ms; arguments = ys }) else None
built_by S n ms ys None = None

abbrev pub built_detail : View → Path → List Universe → List Term → Detail → Run (Option Built)
built_detail V n ms ys (Ctor ind index own fields) = do
  s ← structure_of V ind
  gives (built_by ind n ms ys s)
built_detail V n ms ys _ = gives None

abbrev pub built_seen : View → Path → List Universe → List Term → Seen → Run (Option Built)
built_seen V n ms ys (known c) = built_detail V n ms ys c.detail
built_seen V n ms ys unknown = gives None
built_seen V n ms ys (missing k) = needs k

abbrev pub built_of : View → Term → List Term → Run (Option Built)
built_of V (const n ms) ys = built_seen V n ms ys (see V n)
built_of V h ys = gives None

-- The term is headed by this constructor.
abbrev pub is_headed : Path → Term → Bool
is_headed n (const k ls) = same_path k n
is_headed n h = false

-- The projections of y, each of which costs its nodes, with the fields from the one of number i on.
abbrev pub equal_fields : Calls → Context → Path → ℕ → Term → List Term → Run Bool
equal_fields c C S i y [] = gives true
equal_fields c C S i y (x ∷ xs) = do
  p ← made (proj S i y)
  r ← c.equal C p x
  and_then r (equal_fields c C S (suc i) y xs)

-- y has the structure at these parameters as its type: those of the constructor, and then the fields.
abbrev pub eta_at : Calls → Context → Built → Term → Term → List Term → Run Bool
eta_at c C b y (const n ls) ps =
    choose (same_path n b.name && (nat_eq (length ls) b.structure.levels && (nat_eq (length ps) b.structure.params && are_same b.levels ls))) (do
      r ← equal_all c C (take b.structure.params b.arguments) ps
      and_then r (equal_fields c C b.name 0 y (drop b.structure.params b.arguments))) (gives false)
eta_at c C b y h ps = gives false

abbrev pub eta_against : Calls → Context → Built → Term → Option Term → Run Bool
eta_against c C b y (Some W) = eta_at c C b y (head_of W) (arguments_of W)
eta_against c C b y None = gives false

-- The weak head form of the type.
abbrev pub type_form : Calls → Context → Term → Run (Option Term)
type_form c C y = attempt do
  T ← c.infer checked C y
  c.whnf true C T

abbrev pub eta_built : Calls → Context → Term → Option Built → Run Bool
eta_built c C y (Some b) = choose (is_headed b.structure.constructor (head_of y)) (gives false) (do
  W ← type_form c C y
  eta_against c C b y W)
eta_built c C y None = gives false

abbrev pub against_built : View → Calls → Context → Term → Term → Run Bool
against_built V c C x y = do
  b ← built_of V (head_of x) (arguments_of x)
  eta_built c C y b

abbrev pub by_structures : View → Calls → Context → Term → Term → Run Verdict
by_structures V c C a b = or_else (if_true (against_built V c C a b)) (if_true (against_built V c C b a))

-- A definition at the head of a term.
pub record Definition : Type 0 where
  pub value : Term
  pub height : ℕ

abbrev pub of_body : KnownBody → Run (Option Definition)
of_body (value v h) = gives (Some (record { value = v; height = h }))
of_body opaque = gives None
of_body (unresolved k) = needs k

abbrev pub definition_seen : View → Path → List Universe → Seen → Run (Option Definition)
definition_seen V n ls (known c) = choose (nat_eq (length ls) (length c.levels)) (of_body (body_of V n)) (gives None)
definition_seen V n ls unknown = gives None
definition_seen V n ls (missing k) = needs k

abbrev pub definition_of : View → Term → Run (Option Definition)
definition_of V (const n ls) = definition_seen V n ls (see V n)
definition_of V _ = gives None

abbrev pub levels_of : Term → List Universe
levels_of (const n ls) = ls
levels_of _ = []

abbrev pub unfolded : Term → Definition → Run Term
unfolded t d = made_before (arguments_of t) (level_instantiate (levels_of (head_of t)) d.value)

abbrev pub unfold_left : Term → Term → Definition → Run Verdict
unfold_left a b d = do
  a' ← unfolded a d
  gives (again a' b)

abbrev pub unfold_right : Term → Term → Definition → Run Verdict
unfold_right a b e = do
  b' ← unfolded b e
  gives (again a b')

abbrev pub unfold_both : Term → Term → Definition → Definition → Run Verdict
unfold_both a b d e = do
  a' ← unfolded a d
  b' ← unfolded b e
  gives (again a' b')

-- The one of greater height is unfolded, at equal heights both.
abbrev pub by_height : Term → Term → Option Definition → Option Definition → Run Verdict
by_height a b None None = gives undecided
by_height a b (Some d) None = unfold_left a b d
by_height a b None (Some e) = unfold_right a b e
by_height a b (Some d) (Some e) = choose (nat_lt d.height e.height) (unfold_right a b e)
    (choose (nat_lt e.height d.height) (unfold_left a b d) (unfold_both a b d e))

abbrev pub by_unfolding : View → Term → Term → Run Verdict
by_unfolding V a b = do
  d ← definition_of V (head_of a)
  e ← definition_of V (head_of b)
  by_height a b d e

abbrev pub by_types : View → Calls → Context → Term → Term → Run Verdict
by_types V c C a b = or_else (by_proofs c C a b) (or_else (by_eta c C a b) (by_structures V c C a b))

abbrev pub by_heads : View → Calls → Context → Term → Term → Run Verdict
by_heads V c C a b = or_else (by_literals c C a b) (or_else (by_arguments c C a b) (by_unfolding V a b))

abbrev pub equal_turn : View → Calls → Context → Term → Term → Run Verdict
equal_turn V c C a b =
    or_else (gives (when_true (same a b))) (or_else (by_form c C a b) (or_else (by_whnf c C a b) (or_else (by_types V c C a b) (by_heads V c C a b))))

abbrev pub equal_loop : View → Calls → Context → ℕ → Term → Term → Run Bool
equal_loop V c C zero a b = gives_up
equal_loop V c C (suc n) a b = do
  v ← equal_turn V c C a b
  elim v [ decided r ↦ gives r | again a' b' ↦ equal_loop V c C n a' b' | undecided ↦ gives false ]

unfoldable pub equal_body : View → Calls → Context → Term → Term → Run Bool
equal_body V c C a b = equal_loop V c C turn_limit a b
