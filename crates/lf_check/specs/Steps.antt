-- What the checker's functions ask for before they call each other, where the code finds it out in functions of its own. A device of the proof.
use Rattle.std.specs.Prelude.{
  ℕ,
  ◌+◌,
  ◌^◌,
  zero,
  suc,
  Bool,
  true,
  false,
  ◌&&◌,
  ◌||◌,
  nat_eq,
  nat_lt,
  if◌then◌else◌,
  is_some,
  Option,
  Some,
  None,
  List,
  [],
  ◌∷◌,
  length,
}
use Rattle.lf_core.specs.Term.{Path, Universe, Term, bound, sort, const, app, lam, pi, letin, lit, proj}
use Rattle.lf_core.specs.Same.{same, same_path}
use Rattle.lf_core.specs.Substitution.{instantiate}
use Rattle.lf_core.specs.Spine.{head_of, arguments_of}
use Rattle.lf_core.specs.Literal.{operation_of, literal_operation}
use Rattle.lf_core.specs.declared.literal.LitOut.{LitOut}
use Rattle.lf_rules.specs.Environment.{Context, nat_zero, nat_succ}
use Rattle.lf_core.specs.declared.constant.Detail.{Detail}
use Rattle.lf_core.specs.declared.constant.Detail.TheVariants.{Rec}
use Rattle.lf_checker.specs.View.{View}
use Rattle.lf_checker.specs.LevelTest.{is_same, are_same}
use Rattle.lf_checker.specs.Run.{Run, ◌>>=◌, gives, needs, choose, made_before}
use Rattle.lf_checker.specs.Calls.{Mode, Calls, Seen, known, unknown, missing, see}
use Rattle.lf_checker.specs.Whnf.{Progress, stays, next, ends, Recursor, shared, split, recursor_turn, operands, projection_turn, delta_turn, by_field}
use Rattle.lf_checker.specs.Structures.{structure_of}
use Rattle.lf_checker.specs.Equal.{Verdict, decided, again, undecided, decides, equal_binders, Built}

-- ---- What a term's head asks for.

pub data Step : Type 0 where
  ready : Progress → Step
  recurse : List Universe → Recursor → ℕ → List Term → Step
  operate : Path → Term → Term → Step
  project : Path → ℕ → Term → List Term → Step

abbrev pub readied : Run Progress → Run Step
readied m = do
  p ← m
  gives (ready p)

abbrev pub next_step : Run Term → Run Step
next_step m = do
  t ← m
  gives (ready (next t))

-- A constant before two arguments, or the successor of a literal.
abbrev pub literal_step : Path → List Universe → List Term → Run Progress → Run Step
literal_step n [] (lit k ∷ []) rest = choose (same (const n []) nat_succ && nat_lt (suc k) (2 ^ 128)) (gives (ready (ends (lit (suc k))))) (readied rest)
literal_step n [] (x ∷ y ∷ []) rest = choose (is_some (operation_of n)) (gives (operate n x y)) (readied rest)
literal_step n ls xs rest = readied rest

abbrev pub detail_step : View → Bool → Path → List Universe → List Term → Detail → Run Step
detail_step V d n ls xs (Rec ind params minors indices rules) =
    let r : Recursor = record { ind = ind; params = params; minors = minors; indices = indices; rules = rules } in
    gives (recurse ls r (shared r + indices) xs)
detail_step V d n ls xs _ = literal_step n ls xs (delta_turn V d n ls xs)

abbrev pub constant_step : View → Bool → Path → List Universe → List Term → Seen → Run Step
constant_step V d n ls xs (known k) = choose (nat_eq (length ls) (length k.levels)) (detail_step V d n ls xs k.detail) (gives (ready stays))
constant_step V d n ls xs unknown = gives (ready stays)
constant_step V d n ls xs (missing k) = needs k

abbrev pub lambda_step : Term → List Term → Run Step
lambda_step b [] = gives (ready stays)
lambda_step b (a ∷ xs) = next_step (made_before xs (instantiate b a))

abbrev pub head_step : View → Bool → Term → List Term → Run Step
head_step V d (letin x A v b) xs = next_step (made_before xs (instantiate b v))
head_step V d (lam x A b) xs = lambda_step b xs
head_step V d (const n ls) xs = constant_step V d n ls xs (see V n)
head_step V d (proj S i t) xs = gives (project S i t xs)
head_step V d h xs = gives (ready stays)

abbrev pub do_step : View → Calls → Bool → Context → Step → Run Progress
do_step V c d C (ready p) = gives p
do_step V c d C (recurse ls r n xs) = recursor_turn V c C ls r (split n xs)
do_step V c d C (operate n x y) = operands c C n x y (delta_turn V d n [] (x ∷ y ∷ []))
do_step V c d C (project S i t xs) = projection_turn V c C S i t xs

-- What the operation gives, where both are numbers.
abbrev pub computed : Path → Option ℕ → Option ℕ → Option LitOut
computed n (Some i) (Some j) = literal_operation n i j
computed n (Some i) None = None
computed n None q = None

-- The field of a structure's constructor, which the term has come to be, before these arguments.
abbrev pub projected : View → Path → ℕ → Term → List Term → Run Progress
projected V S i w xs = do
  s ← structure_of V S
  by_field i xs w s
