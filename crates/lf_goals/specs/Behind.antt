-- What is left of a proof item's run behind its first call, over the parts of the values that it needs. A device of the proof.
use Rattle.std.specs.Prelude.{ℕ, Some, List, ◌++◌, length, map}
use Rattle.lf_core.specs.Term.{Path, Term}
use Rattle.lf_name.specs.declared.binder.Binder.{Binder}
use Rattle.lf_syntax.specs.declared.leaf.Ident.{Ident}
use Rattle.lf_syntax.specs.Tree.{TermTree, ItemTree}
use Rattle.lf_elaboration.specs.Messages as says
use Rattle.lf_elaboration.specs.Run.{◌>>=◌, ◌>>◌, gives, choose, room, opening}
use Rattle.lf_elaboration.specs.Part.{Part, Locals, with_local, Run, Calls, instantiated, error}
use Rattle.lf_elaboration.specs.Closing.{close}
use Rattle.lf_elaboration.specs.Step.{Step}
use Rattle.lf_elaboration.specs.Direct.{Goal, plain, Rest, proves_one, closed_term, intro}
use Rattle.lf_elaboration.specs.Proof.{are_blocks, in_blocks, proved}
use Rattle.lf_goals.specs.Between.{lambda_of, lambda_applied, step_proof}

-- The end of a part at metavariables from these numbers on, and the term that it is of.
unfoldable pub closed_behind : Part → Calls → Locals → ℕ → ℕ → Term → Run Term
closed_behind P c L m n t = do
  close P c L m (Some n)
  instantiated t

-- The other names of `intro`, with a local of the pi's domain.
unfoldable pub intro_under : Calls → ℕ → List Ident → Rest → Locals → Path → Term → Term → Run Term
intro_under c at xs rest L x A B = intro c at xs rest (with_local L x A) B

unfoldable pub intro_opened : Calls → ℕ → List Ident → Rest → Locals → Path → Binder → Term → Term → Run Term
intro_opened c at xs rest L x b A B = do
  p ← intro_under c at xs rest L x A B
  lambda_of (length L.types) x b A p

unfoldable pub intro_behind : Calls → ℕ → List Ident → Rest → Locals → Path → Binder → Term → Term → Run Term
intro_behind c at xs rest L x b A B = do
  C ← opening L.types B
  intro_opened c at xs rest L x b A C

-- What stands behind `have`, with a local called x of the type A, whose value is e.
unfoldable pub proves_under : Rest → Locals → Path → Term → Term → Run Term
proves_under rest L x A goal = proves_one rest (with_local L x A) goal

unfoldable pub have_proved : Rest → Locals → Term → Path → Term → Term → Run Term
have_proved rest L goal x A e = do
  p ← proves_under rest L x A goal
  lambda_applied (length L.types) x A e p

unfoldable pub have_local : Locals → Term → Path → Term → Term → Rest → Run Term
have_local L goal x A e rest = do
  room L.types
  have_proved rest L goal x A e

unfoldable pub have_of : Part → Calls → Locals → Term → Path → Term → TermTree → Rest → Run Term
have_of P c L goal x A v rest = do
  e ← closed_term P c L v (Some A)
  have_local L goal x A e rest

-- The proofs of the goals that a step leaves, and the proof that it makes of them.
unfoldable pub step_behind : Locals → Step → Rest → Run Term
step_behind L s rest = do
  ps ← rest L (map plain s.goals)
  step_proof s ps

-- A goal's proof becomes what the goal's metavariable stands for.
unfoldable pub proof_kept : Part → Calls → Locals → ℕ → Goal → Term → Run Term
proof_kept P c L at g p = do
  proved P c L at g g.metavariable p
  gives p

-- The proofs of one block for each goal, behind those that are ready.
unfoldable pub blocks_into : Part → Calls → Locals → ℕ → List Term → List Goal → List ItemTree → Run (List Term)
blocks_into P c L at ready gs is = do
  ps ← in_blocks P c L at gs is
  gives (ready ++ ps)

-- Two goals or more, and the items behind the one that left them.
unfoldable pub several_left : Part → Calls → Locals → ℕ → List Goal → List ItemTree → Run (List Term)
several_left P c L at gs is = choose (are_blocks gs is) (in_blocks P c L at gs is) (error at (says.blocks_expected (length gs)))
