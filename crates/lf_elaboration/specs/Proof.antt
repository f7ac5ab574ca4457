-- Blocks of proof items: the items one after another, each on the goals that the one before it left.
use Rattle.std.specs.Prelude.{ℕ, Bool, true, false, if◌then◌else◌, Option, Some, None, is_some, List, [], ◌∷◌, length, map}
use Rattle.lf_core.specs.Term.{Path, Term}
use Rattle.lf_core.specs.Summary.{has_metavariable}
use Rattle.lf_syntax.specs.Tree as written
use Rattle.lf_syntax.specs.Tree.{ItemTree, ItemTrees}
use Rattle.lf_elaboration.specs.Scope.{local_named}
use Rattle.lf_elaboration.specs.Messages as says
use Rattle.lf_elaboration.specs.Messages.{ProofItem}
use Rattle.lf_elaboration.specs.Run.{◌>>=◌, ◌>>◌, gives, choose, spend, checks}
use Rattle.lf_elaboration.specs.Unifier.{type_in}
use Rattle.lf_elaboration.specs.Part.{Part, Locals, Run, Calls, instantiated, ask, error, error_on, sort_of}
use Rattle.lf_elaboration.specs.Closing.{proved_by}
use Rattle.lf_elaboration.specs.Step.{Step, proof_by}
use Rattle.lf_elaboration.specs.Induction.{induct}
use Rattle.lf_elaboration.specs.Injection.{inject}
use Rattle.lf_elaboration.specs.Direct.{Goal, plain, Rest, fails_as, block, exact, rfl_term, assumption, sorry, intro, have}
use Rattle.lf_elaboration.specs.Apply.{apply_item}
use Rattle.lf_elaboration.specs.Rewrite.{step_or_fail, rw, unfold_item}

-- ---- Items that are a step by themselves

abbrev pub asked_by : Option Path → Run (Unit {0})
asked_by None = gives tt
asked_by (Some n) = ask n

abbrev pub by_step : Locals → Step → Rest → Run Term
by_step L s rest = do
  asked_by s.asked
  ps ← rest L (map plain s.goals)
  checks (proof_by s ps)

abbrev pub eliminate : Part → Calls → Locals → ℕ → ProofItem → Bool → Term → Rest → Option ℕ → Run Term
eliminate P c L at i hyps goal rest None = fails_as at i
eliminate P c L at i hyps goal rest (Some x) = do
  l ← sort_of P c L at goal
  A ← instantiated (type_in L.types x)
  o ← checks (induct P.view c.check L.types goal l x A hyps)
  s ← step_or_fail at i o
  by_step L s rest

abbrev pub injection : Part → Calls → Locals → ℕ → Term → Rest → Option ℕ → Run Term
injection P c L at goal rest None = fails_as at says.Injection
injection P c L at goal rest (Some x) = do
  A ← instantiated (type_in L.types x)
  o ← checks (inject P.view c.check L.types goal x A)
  s ← step_or_fail at says.Injection o
  by_step L s rest

-- ---- One item, on a goal whose assigned metavariables are put in

abbrev pub item : Part → Calls → Locals → Term → ItemTree → Rest → Run Term
item P c L goal (written.block at is) rest = block c L goal is rest
item P c L goal (written.exact at s) rest = exact P c L goal s rest
item P c L goal (written.rfl at) rest = exact P c L goal (rfl_term at) rest
item P c L goal (written.intro at xs) rest = intro c at xs rest L goal
item P c L goal (written.apply at s) rest = apply_item P c L goal s rest
item P c L goal (written.assumption_item at) rest = assumption c at L goal rest
item P c L goal (written.rw_item at rs) rest = rw P c L at rs rest goal
item P c L goal (written.unfold_item at x) rest = unfold_item P c L at x rest goal
item P c L goal (written.have_item at x u v) rest = have P c L goal x u v rest
item P c L goal (written.induction at x) rest = eliminate P c L at says.Induction true goal rest (local_named L.names x.name)
item P c L goal (written.cases at x) rest = eliminate P c L at says.Cases false goal rest (local_named L.names x.name)
item P c L goal (written.injection at x) rest = injection P c L at goal rest (local_named L.names x.name)
item P c L goal (written.sorry_item at) rest = sorry P c at L goal rest

abbrev pub item_place : ItemTree → ℕ
item_place (written.block at is) = at
item_place (written.exact at s) = at
item_place (written.rfl at) = at
item_place (written.intro at xs) = at
item_place (written.apply at s) = at
item_place (written.assumption_item at) = at
item_place (written.rw_item at rs) = at
item_place (written.unfold_item at x) = at
item_place (written.have_item at x u v) = at
item_place (written.induction at x) = at
item_place (written.cases at x) = at
item_place (written.injection at x) = at
item_place (written.sorry_item at) = at

-- ---- The items of a block

-- The items of a `·` block.
abbrev pub as_block : ItemTree → Option ItemTrees
as_block (written.block at is) = Some is
as_block (written.exact at s) = None
as_block (written.rfl at) = None
as_block (written.intro at xs) = None
as_block (written.apply at s) = None
as_block (written.assumption_item at) = None
as_block (written.rw_item at rs) = None
as_block (written.unfold_item at x) = None
as_block (written.have_item at x u v) = None
as_block (written.induction at x) = None
as_block (written.cases at x) = None
as_block (written.injection at x) = None
as_block (written.sorry_item at) = None

-- As many `·` blocks as goals.
abbrev pub are_blocks : List Goal → List ItemTree → Bool
are_blocks [] [] = true
are_blocks [] (i ∷ is) = false
are_blocks (g ∷ gs) [] = false
are_blocks (g ∷ gs) (i ∷ is) = if is_some (as_block i) then are_blocks gs is else false

-- An item on a goal: it costs a unit. A goal with a metavariable is an error at the item.
abbrev pub on_goal : Part → Calls → Locals → Term → ItemTree → Rest → Run Term
on_goal P c L goal i rest = do
  G ← instantiated goal
  choose (has_metavariable G) (error (item_place i) says.undetermined_placeholder) (spend 1 (item P c L G i rest))

abbrev pub nothing_left : List ItemTree → Run (List Term)
nothing_left [] = gives []
nothing_left (i ∷ is) = error (item_place i) says.no_goals

-- The proof of a goal becomes what the goal's metavariable stands for.
abbrev pub proved : Part → Calls → Locals → ℕ → Goal → Option ℕ → Term → Run (Unit {0})
proved P c L at g None p = gives tt
proved P c L at g (Some m) p = proved_by P c L at m g.ty p

abbrev pub proof_of : Part → Calls → Locals → ℕ → Goal → Run Term → Run Term
proof_of P c L at g m = do
  p ← m
  proved P c L at g g.metavariable p
  gives p

-- Behind the last item.
abbrev pub no_rest : Rest
no_rest = λ L gs. gives []

-- One block for each goal, in order.
abbrev pub in_blocks : Part → Calls → Locals → ℕ → List Goal → List ItemTree → Run (List Term)
in_blocks P c L at [] is = gives []
in_blocks P c L at (g ∷ gs) [] = gives []
in_blocks P c L at (g ∷ gs) (i ∷ is) = do
  p ← proof_of P c L at g (on_goal P c L g.ty i no_rest)
  ps ← in_blocks P c L at gs is
  gives (p ∷ ps)

-- What an item at this place leaves, by the items behind it: no goal, and they have to end; one, and they prove it; more, and they have to be as
-- many blocks.
abbrev pub left_to : Part → Calls → ℕ → List ItemTree → (Locals → Term → Run Term) → Rest
left_to P c at is next L [] = nothing_left is
left_to P c at is next L (g ∷ []) = proof_of P c L at g (next L g.ty) >>= (λ p. gives (p ∷ []))
left_to P c at is next L (g ∷ h ∷ gs) = choose (are_blocks (g ∷ h ∷ gs) is) (in_blocks P c L at (g ∷ h ∷ gs) is)
    (error at (says.blocks_expected (length (g ∷ h ∷ gs))))

-- The items of a block that begins at `start`.
abbrev pub prove_items : Part → Calls → ℕ → List ItemTree → Locals → Term → Run Term
prove_items P c start [] L goal = error_on P L.names start says.unsolved_goal goal
prove_items P c start (i ∷ is) L goal = on_goal P c L goal i (left_to P c (item_place i) is (prove_items P c start is))

abbrev pub start_of : List ItemTree → ℕ
start_of [] = 0
start_of (i ∷ is) = item_place i

unfoldable pub prove_body : Part → Calls → Locals → Term → List ItemTree → Run Term
prove_body P c L goal is = prove_items P c (start_of is) is L goal
