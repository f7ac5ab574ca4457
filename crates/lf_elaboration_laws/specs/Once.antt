-- Holes that wait: each is made once, for a metavariable of its own, and run once, where what was made with it closes.
use Rattle.std.specs.Prelude.{◌≡◌, ℕ, suc, ◌+◌, ◌≤◌, not, Option, Some, None, List, [], ◌∷◌, ◌++◌, filter, length}
use Rattle.lf_core.specs.Term.{Term}
use Rattle.lf_syntax.specs.Tree.{TermTree, ItemTree}
use Rattle.lf_elaboration.specs.declared.hole.Hole.{Hole}
use Rattle.lf_elaboration.specs.Metavariables.{count}
use Rattle.lf_elaboration.specs.Run.{Answer, done, failed, out, need}
use Rattle.lf_elaboration.specs.Part.{Part, Locals, State, Trailing}
use Rattle.lf_elaboration.specs.Closing.{is_from}
use Rattle.lf_elaboration.specs.Elaboration.{calls, close}
use Rattle.lf_elaboration_laws.specs.Closed.{Ends}

-- The holes of metavariables numbered from k on, and the others.
abbrev pub from : ℕ → List Hole → List Hole
from k hs = filter (is_from k) hs

abbrev pub below : ℕ → List Hole → List Hole
below k hs = filter (λ h. not (is_from k h)) hs

-- The state once those from k on no longer wait.
abbrev pub dropped : ℕ → State → State
dropped k s = record s { pending = below k s.pending }

-- How many of them are blocks.
abbrev pub block_in : Option (List ItemTree) → ℕ
block_in (Some is) = 1
block_in None = 0

abbrev pub blocks : List Hole → ℕ
blocks [] = 0
blocks (h ∷ hs) = block_in h.items + blocks hs

-- Their metavariables ascend from i on, and are below n.
abbrev pub Between : ℕ → ℕ → List Hole → Type 0
Between i n [] = i ≤ n
Between i n (h ∷ hs) = (i ≤ h.metavariable) × Between (suc h.metavariable) n hs

-- Each hole that waits has a metavariable of its own, in the order in which they were made.
abbrev pub IsOrderly : State → Type 0
IsOrderly s = Between 0 (count s.changes) s.pending

-- What waited waits still, before what is new, whose metavariables are new.
abbrev pub Adds : State → State → Type 0
Adds s t = (new : List Hole) × (t.pending ≡ s.pending ++ new) × Between (count s.changes) (count t.changes) new

abbrev pub Reaches : {A : Type 0} → (State → Type 0) → Answer State A → Type 0
Reaches Q (done x u t) = Q t
Reaches Q (failed m u t) = Q t
Reaches Q (out t) = Q t
Reaches Q (need k) = Unit {0}

-- A term takes nothing from what waits, whatever it answers.
abbrev pub TermsAdd : Type 0
TermsAdd = (P : Part) (depth : ℕ) (t : Trailing) (L : Locals) (s : TermTree) (E : Option Term) (u : ℕ) (w : State) → IsOrderly w
    → Reaches (Adds w) ((calls P depth).elaborate t L s E u w)

-- A proof leaves nothing that waits.
abbrev pub ProofsAddNone : Type 0
ProofsAddNone = (P : Part) (depth : ℕ) (L : Locals) (goal : Term) (is : List ItemTree) (u : ℕ) (w : State) → IsOrderly w
    → Ends (λ t. t.pending ≡ w.pending) ((calls P depth).prove L goal is u w)

-- A close runs each block from k on once, with a node for each, and none of them waits any longer; the others wait still.
pub record RunsEach (k : ℕ) (w t : State) : Type 0 where
  pub pending : t.pending ≡ below k w.pending
  pub nodes : length t.nodes ≡ length w.nodes + blocks (from k w.pending)

abbrev pub ClosingRunsEach : Type 0
ClosingRunsEach = (P : Part) (depth : ℕ) (L : Locals) (k : ℕ) (levels : Option ℕ) (u : ℕ) (w : State) → IsOrderly w
    → Ends (RunsEach k w) (close P depth L k levels u w)
