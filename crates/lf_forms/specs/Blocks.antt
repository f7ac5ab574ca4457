-- What is put aside while a block runs.
use Rattle.std.specs.Prelude.{◌≡◌, Option, Some, None, List, [], ◌∷◌, length, map}
use Rattle.lf_elaboration.specs.Messages as found
use Rattle.lf_elaboration.specs.Part.{State}
use Rattle.lf_part.specs.declared.message.Message.{Message}
use Rattle.lf_part.specs.Says.{message, node}
use Rattle.lf_forms.specs.declared.block.Aside.{Aside}

-- It is what the state was as the block began.
pub record Begun (a : Aside) (s : State) : Type 0 where
  pub mark : a.mark ≡ length s.changes
  pub pending : a.pending.items ≡ s.pending
  pub nodes : map node a.nodes.items ≡ s.nodes

abbrev pub own_messages : Option Message → List found.Message
own_messages None = []
own_messages (Some m) = message m ∷ []
