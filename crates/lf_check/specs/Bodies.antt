-- Parts of the definition's functions that are functions of their own in the code. A device of the proof.
use Rattle.std.specs.Prelude.{ℕ, Bool, true, false, nat_eq, if◌then◌else◌, Option, Some, None, List, [], ◌∷◌, ◌++◌, length}
use Rattle.lf_core.specs.Term.{Path, Universe, level_imax, Term, sort, pi, lit}
use Rattle.lf_core.specs.Spine.{head_of, arguments_of}
use Rattle.lf_core.specs.Substitution.{instantiate, abstract}
use Rattle.lf_name.specs.declared.binder.Binder.{Binder}
use Rattle.lf_rules.specs.Environment.{Context, with}
use Rattle.lf_checker.specs.View.{View}
use Rattle.lf_checker.specs.Run.{Run, ◌>>=◌, gives, choose, attempt, under, put, made, opening}
use Rattle.lf_checker.specs.Calls.{Mode, checked, unchecked, Calls, see}
use Rattle.lf_checker.specs.Whnf.{Progress, Recursor, Split, at_major, delta_turn}
use Rattle.lf_checker.specs.Whnf as whnf
use Rattle.lf_checker.specs.Equal.{Verdict, or_else, and_then, is_prop, flat, proposition_of, equal_heads, equal_all}
use Rattle.lf_checker.specs.Equal as equal
use Rattle.lf_checker.specs.Normalize.{normalize_all}
use Rattle.lf_checker.specs.Infer.{on_pi, on_structure, argument_fits, is_type, sort_of, value_fits}

abbrev pub operands : View → Calls → Bool → Context → Path → Term → Term → Run Progress
operands V c d C n x y = whnf.operands c C n x y (delta_turn V d n [] (x ∷ y ∷ []))

abbrev pub recursor_turn : View → Calls → Context → List Universe → Recursor → Split → Run Progress
recursor_turn V c C ls r s = at_major V c C ls r s (see V r.ind)

abbrev pub same_type : Calls → Context → Term → Term → Run Bool
same_type c C a b = do
  S ← c.infer checked C a
  T ← c.infer checked C b
  c.equal C S T

abbrev pub by_rest : View → Calls → Context → Term → Term → Run Verdict
by_rest V c C a b = or_else (equal.by_whnf c C a b) (or_else (equal.by_types V c C a b) (equal.by_heads V c C a b))

abbrev pub by_proofs : Calls → Context → Term → Term → Run Bool
by_proofs c C a b = do
  P ← proposition_of c C a
  equal.proves c C b (flat P)

abbrev pub proposition : Calls → Context → Term → Run (Option Term)
proposition c C a = do
  P ← c.infer checked C a
  S ← c.infer checked C P
  W ← c.whnf true C S
  gives (if is_prop W then Some P else None)

abbrev pub proves : Calls → Context → Term → Term → Run Bool
proves c C b P = do
  Q ← c.infer checked C b
  c.equal C P Q

abbrev pub type_form : Calls → Context → Term → Run Term
type_form c C y = do
  T ← c.infer checked C y
  c.whnf true C T

abbrev pub by_arguments : Calls → Context → Term → Term → Run Bool
by_arguments c C a b = choose (nat_eq (length (arguments_of a)) (length (arguments_of b))) (do
  r ← equal_heads c C (head_of a) (head_of b)
  and_then r (equal_all c C (arguments_of a) (arguments_of b))) (gives false)

abbrev pub formed : Calls → Mode → Context → Term → Run (Term × Term)
formed c m C t = do
  T ← c.infer m C t
  W ← c.whnf true C T
  gives (T, W)

abbrev pub application : Calls → Mode → Context → Term → Term → Run Term
application c m C f a = do
  F ← c.infer m C f
  P ← c.whnf true C F
  on_pi F P λ A B. do
    fits ← argument_fits c m C a A
    made (instantiate B a)

abbrev pub lambda : Calls → Mode → Context → Binder → Term → Term → Run Term
lambda c m C x A b = do
  typed ← is_type c m C A
  o ← opening C b
  B ← under x.name (c.infer m (with C A) o)
  D ← made (abstract B (length C))
  put (pi x A D)

abbrev pub pi_type : Calls → Mode → Context → Binder → Term → Term → Run Term
pi_type c m C x A B = do
  u ← sort_of c m C A
  o ← opening C B
  v ← under x.name (sort_of c m (with C A) o)
  put (sort (level_imax u v))

abbrev pub let_type : Calls → Mode → Context → Term → Term → Term → Run Term
let_type c m C A v b = do
  fits ← value_fits c m C v A
  t ← made (instantiate b v)
  c.infer m C t

abbrev pub projection : View → Calls → Mode → Context → Path → ℕ → Term → Run Term
projection V c m C S i t = do
  T ← c.infer m C t
  W ← c.whnf true C T
  on_structure V T S i t (head_of W) (arguments_of W)

-- These terms, and then the normal forms of the others.
abbrev pub normalize_into : Calls → Context → List Term → List Term → Run (List Term)
normalize_into c C ready xs = do
  ys ← normalize_all c C xs
  gives (ready ++ ys)

abbrev pub literal_or : Term → Option ℕ → Term
literal_or t (Some n) = lit n
literal_or t None = t
