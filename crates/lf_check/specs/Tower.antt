-- The checker's functions once more, each opened by its name alone. A device of the proof: that they are the definition's is in proofs/Towers.
use Rattle.std.specs.Prelude.{ℕ, zero, suc, Bool, true, false, Option, Some, None, List, [], ◌∷◌, nat_eq, length, take, drop}
use Rattle.lf_core.specs.Term.{Path, Universe, Term, const}
use Rattle.lf_core.specs.Same.{same}
use Rattle.lf_core.specs.Spine.{apply, head_of, arguments_of}
use Rattle.lf_rules.specs.Environment.{Context}
use Rattle.lf_checker.specs.View.{View}
use Rattle.lf_checker.specs.Extends.{Shape}
use Rattle.lf_checker.specs.Run.{Run, ◌>>=◌, gives, gives_up, needs, choose, attempt, put}
use Rattle.lf_checker.specs.Calls.{checked, Calls, Seen, known, unknown, missing, see}
use Rattle.lf_checker.specs.Whnf.{Progress, stays, next, ends, Recursor, Split, split, fire, literal_constructor, is_true, turn_limit}
use Rattle.lf_checker.specs.Equal as equal
use Rattle.lf_checker.specs.Equal.{Verdict, decided, again, undecided, or_else, if_true, when_true, and_then, flat, equal_all, Built}
use Rattle.lf_steps.specs.Steps.{fieldless}
use Rattle.lf_check.specs.Bodies as bodies
use Rattle.lf_check.specs.Steps as steps

unfoldable pub head_step : View → Bool → Term → Run steps.Step
head_step V d t = steps.head_step V d (head_of t) (arguments_of t)

unfoldable pub put_in : View → Calls → Context → List Universe → Recursor → Split → Term → Path → Run Progress
put_in V c C ls r s w n = do
  ctor ← put (apply (const n (drop 1 ls)) (take r.params s.before))
  same_type ← attempt (bodies.same_type c C w ctor)
  choose (is_true same_type) (fire V r ls s ctor) (gives stays)

abbrev pub put_or_stay : View → Calls → Context → List Universe → Recursor → Split → Term → Option Path → Run Progress
put_or_stay V c C ls r s w (Some n) = put_in V c C ls r s w n
put_or_stay V c C ls r s w None = gives stays

unfoldable pub like_k : View → Calls → Context → List Universe → Recursor → Split → Term → Shape → Run Progress
like_k V c C ls r s w type = do
  n ← fieldless V r type.ty type.detail
  put_or_stay V c C ls r s w n

abbrev pub or_like_k : View → Calls → Context → List Universe → Recursor → Split → Term → Shape → Progress → Run Progress
or_like_k V c C ls r s w type stays = like_k V c C ls r s w type
or_like_k V c C ls r s w type (next t) = gives (next t)
or_like_k V c C ls r s w type (ends t) = gives (ends t)

unfoldable pub at_type : View → Calls → Context → List Universe → Recursor → Split → Shape → Run Progress
at_type V c C ls r s type = do
  w ← c.whnf true C s.major
  p ← fire V r ls s (literal_constructor w)
  or_like_k V c C ls r s w type p

abbrev pub at_seen : View → Calls → Context → List Universe → Recursor → Split → Seen → Run Progress
at_seen V c C ls r s (known type) = at_type V c C ls r s type
at_seen V c C ls r s unknown = gives stays
at_seen V c C ls r s (missing k) = needs k

abbrev pub on_split : View → Calls → Context → List Universe → Recursor → Option Split → Run Progress
on_split V c C ls r None = gives stays
on_split V c C ls r (Some s) = at_seen V c C ls r s (see V r.ind)

unfoldable pub operands : View → Calls → Bool → Context → Path → Term → Term → Run Progress
operands V c d C n x y = bodies.operands V c d C n x y

unfoldable pub projection : View → Calls → Context → Path → ℕ → Term → List Term → Run Progress
projection V c C S i t xs = do
  w ← c.whnf true C t
  steps.projected V S i w xs

abbrev pub do_step : View → Calls → Bool → Context → steps.Step → Run Progress
do_step V c d C (steps.ready p) = gives p
do_step V c d C (steps.recurse ls r n xs) = on_split V c C ls r (split n xs)
do_step V c d C (steps.operate n x y) = operands V c d C n x y
do_step V c d C (steps.project S i t xs) = projection V c C S i t xs

unfoldable pub whnf_turn : View → Calls → Bool → Context → Term → Run Progress
whnf_turn V c d C t = do
  s ← head_step V d t
  do_step V c d C s

unfoldable pub whnf_loop : View → Calls → Bool → Context → ℕ → Term → Run Term
whnf_loop V c d C zero t = gives_up
whnf_loop V c d C (suc n) t = do
  p ← whnf_turn V c d C t
  elim p [ stays ↦ gives t | next s ↦ whnf_loop V c d C n s | ends s ↦ gives s ]

unfoldable pub whnf_body : View → Calls → Bool → Context → Term → Run Term
whnf_body V c d C t = whnf_loop V c d C turn_limit t

-- ---- Equality.

abbrev pub proof_of : Calls → Context → Term → Option Term → Run Bool
proof_of c C b None = gives false
proof_of c C b (Some P) = do
  r ← attempt (bodies.proves c C b P)
  gives (is_true r)

unfoldable pub by_proofs : Calls → Context → Term → Term → Run Bool
by_proofs c C a b = do
  P ← attempt (bodies.proposition c C a)
  proof_of c C b (flat P)

unfoldable pub by_form : Calls → Context → Term → Term → Run Verdict
by_form c C a b = equal.by_form c C a b

unfoldable pub by_eta : Calls → Context → Term → Term → Run Verdict
by_eta c C a b = equal.by_eta c C a b

unfoldable pub eta_by : Calls → Context → Built → Term → Term → List Term → Run Bool
eta_by c C b y h ps = equal.eta_at c C b y h ps

unfoldable pub eta_at : Calls → Context → Built → Term → Term → Run Bool
eta_at c C b y W = eta_by c C b y (head_of W) (arguments_of W)

abbrev pub eta_against : Calls → Context → Built → Term → Option Term → Run Bool
eta_against c C b y (Some W) = eta_at c C b y W
eta_against c C b y None = gives false

unfoldable pub built_of : View → Term → Run (Option Built)
built_of V x = equal.built_of V (head_of x) (arguments_of x)

abbrev pub eta_built : Calls → Context → Term → Option Built → Run Bool
eta_built c C y (Some b) = choose (equal.is_headed b.structure.constructor (head_of y)) (gives false) (do
  W ← attempt (bodies.type_form c C y)
  eta_against c C b y W)
eta_built c C y None = gives false

unfoldable pub against_built : View → Calls → Context → Term → Term → Run Bool
against_built V c C x y = do
  b ← built_of V x
  eta_built c C y b

unfoldable pub by_structures : View → Calls → Context → Term → Term → Run Verdict
by_structures V c C a b = or_else (if_true (against_built V c C a b)) (if_true (against_built V c C b a))

unfoldable pub by_types : View → Calls → Context → Term → Term → Run Verdict
by_types V c C a b = or_else (if_true (by_proofs c C a b)) (or_else (by_eta c C a b) (by_structures V c C a b))

unfoldable pub by_literals : Calls → Context → Term → Term → Run Verdict
by_literals c C a b = equal.by_literals c C a b

unfoldable pub equal_heads : Calls → Context → Term → Term → Run Bool
equal_heads c C a b = equal.equal_heads c C a b

unfoldable pub by_arguments : Calls → Context → Term → Term → Run Bool
by_arguments c C a b = choose (nat_eq (length (arguments_of a)) (length (arguments_of b))) (do
  r ← equal_heads c C (head_of a) (head_of b)
  and_then r (equal_all c C (arguments_of a) (arguments_of b))) (gives false)

unfoldable pub by_unfolding : View → Term → Term → Run Verdict
by_unfolding V a b = equal.by_unfolding V a b

unfoldable pub by_heads : View → Calls → Context → Term → Term → Run Verdict
by_heads V c C a b = or_else (by_literals c C a b) (or_else (if_true (by_arguments c C a b)) (by_unfolding V a b))

unfoldable pub by_rest : View → Calls → Context → Term → Term → Run Verdict
by_rest V c C a b = or_else (equal.by_whnf c C a b) (or_else (by_types V c C a b) (by_heads V c C a b))

unfoldable pub equal_turn : View → Calls → Context → Term → Term → Run Verdict
equal_turn V c C a b = or_else (gives (when_true (same a b))) (or_else (by_form c C a b) (by_rest V c C a b))

unfoldable pub equal_loop : View → Calls → Context → ℕ → Term → Term → Run Bool
equal_loop V c C zero a b = gives_up
equal_loop V c C (suc n) a b = do
  v ← equal_turn V c C a b
  elim v [ decided r ↦ gives r | again x y ↦ equal_loop V c C n x y | undecided ↦ gives false ]

unfoldable pub equal_body : View → Calls → Context → Term → Term → Run Bool
equal_body V c C a b = equal_loop V c C turn_limit a b
