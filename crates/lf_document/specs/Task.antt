-- The work on the head or the body of a command: parts, one after another, each with units of its own; and what they tell.
use Rattle.std.specs.Prelude.{ℕ, Bool, true, false, Option, Some, None, List, [], ◌∷◌, ◌++◌}
use Rattle.lf_core.specs.Term.{Path}
use Rattle.lf_core.specs.declared.constant.TaskKey.{TaskKey}
use Rattle.lf_elaboration.specs.Messages as elaboration
use Rattle.lf_elaboration.specs.Messages.{Node, messages_of}
use Rattle.lf_elaboration.specs.Run as run
use Rattle.lf_elaboration.specs.Part.{State, Run}
use Rattle.lf_msg.specs.declared.diagnostic.Diagnostic.{Diagnostic}
use Rattle.lf_msg.specs.declared.diagnostic.Diagnostic.TheVariants.{BudgetSpent}
use Rattle.lf_msg.specs.declared.message.Message.{Message}
use Rattle.lf_msg.specs.Texts.{message_of}
use Rattle.lf_document.specs.Diagnoses.{message}

-- What has been told so far: the messages of the task itself; the nodes of the blocks that ran; and the realized names that were asked for, each
-- once.
pub record Log : Type 0 where
  pub messages : List Message
  pub nodes : List Node
  pub asked : List Path

abbrev pub nothing_told : Log
nothing_told = record { messages = []; nodes = []; asked = [] }

-- A value, with what was told; or another task has to be done first.
pub data Attempt (A : Type 0) : Type 0 where
  done : A → Log → Attempt A
  need : TaskKey → Attempt A

abbrev pub Task : Type 0 → Type 0
Task A = Log → Attempt A

abbrev pub go_on : {A B : Type 0} → Attempt A → (A → Task B) → Attempt B
go_on (done x g) f = f x g
go_on (need k) f = need k

infixl 20 ◌>>=◌
abbrev pub ◌>>=◌ : {A B : Type 0} → Task A → (A → Task B) → Task B
◌>>=◌ m f = λ g. go_on (m g) f

infixl 20 ◌>>◌
abbrev pub ◌>>◌ : {A B : Type 0} → Task A → Task B → Task B
◌>>◌ m n = λ g. go_on (m g) (λ x. n)

abbrev pub gives : {A : Type 0} → A → Task A
gives x = λ g. done x g

abbrev pub needs : {A : Type 0} → TaskKey → Task A
needs k = λ g. need k

abbrev pub choose : {A : Type 0} → Bool → Task A → Task A → Task A
choose true m n = m
choose false m n = n

abbrev pub tells : ℕ → Diagnostic → Task (Unit {0})
tells at d = λ g. done tt (record g { messages = g.messages ++ message_of at d ∷ [] })

abbrev pub tells_if : Bool → ℕ → Diagnostic → Task (Unit {0})
tells_if b at d = choose b (tells at d) (gives tt)

-- ---- Parts

-- What a part comes to: a value, or what is wrong, at a place.
pub data Judged (A : Type 0) : Type 0 where
  right : A → Judged A
  wrong : ℕ → Diagnostic → Judged A

abbrev pub judged : {A : Type 0} → Run A → Run (Judged A)
judged m = run.◌>>=◌ m (λ x. run.gives (right x))

-- How a part ended: its value, where no error ended it; and whether there was an error, that of a block included.
pub record Ended (A : Type 0) : Type 0 where
  pub value : Option A
  pub erred : Bool

abbrev pub is_some_message : List elaboration.Message → Bool
is_some_message [] = false
is_some_message (m ∷ ms) = true

abbrev pub ended_by_error : {A : Type 0} → Ended A
ended_by_error = record { value = None; erred = true }

abbrev pub ended_with : {A : Type 0} → A → State → Ended A
ended_with x s = record { value = Some x; erred = is_some_message (messages_of s.nodes) }

-- A part begins without metavariables and holes.
abbrev pub fresh_state : Log → State
fresh_state g = record { changes = []; pending = []; asked = g.asked; nodes = [] }

-- The blocks of a part, and what ended it.
abbrev pub behind : Log → State → List Message → Log
behind g s ms = record { messages = g.messages ++ ms; nodes = g.nodes ++ s.nodes; asked = s.asked }

-- The first error that isn't a block's own ends the part; a spent budget is one, at the place of the declared name.
abbrev pub ended : {A : Type 0} → ℕ → Log → run.Answer State (Judged A) → Attempt (Ended A)
ended place g (run.done (right x) u s) = done (ended_with x s) (behind g s [])
ended place g (run.done (wrong at d) u s) = done ended_by_error (behind g s (message_of at d ∷ []))
ended place g (run.failed m u s) = done ended_by_error (behind g s (message m ∷ []))
ended place g (run.out s) = done ended_by_error (behind g s (message_of place BudgetSpent ∷ []))
ended place g (run.need k) = need k

-- A part with so many units.
abbrev pub in_part : {A : Type 0} → ℕ → ℕ → Run (Judged A) → Task (Ended A)
in_part units place m = λ g. ended place g (m units (fresh_state g))

-- What is refused before a part begins.
abbrev pub refuses : {A : Type 0} → ℕ → Diagnostic → Task (Ended A)
refuses at d = tells at d >> gives ended_by_error
