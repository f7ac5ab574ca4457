use Rattle.std.proofs.Common.{rules, arith, ◌≡◌, ◌++◌, drop}
use Rattle.std.proofs.lemmas.Grind.{common_steps}
use Rattle.lf_front.specs.Lexemes.{parts_of}
use Rattle.lf_front.proofs.Parts.{onto_first_part, onto_nothing, at_dot, at_byte, ascii_at}
use Rattle.lf_front.proofs.token.parts_of.Goals as goal
use Rattle.lf_front.proofs.token.parts_of.Goals.{then-c-eq46+in_ok-new+in_ok-push, else-c-eq46+in_ok-push_ascii}

pub bytes-init : goal.bytes-init
bytes-init c = rw (c.new-words.ensures, c.new-part.ensures.bytes) (onto_nothing c.args.cs.now)

pub bytes-preserved : goal.bytes-preserved
bytes-preserved c =
    elim c.if-c-eq46.branch [
      | then-c-eq46+in_ok-new+in_ok-push w ↦ grind (arith, common_steps, at_dot)
      | else-c-eq46+in_ok-push_ascii w ↦ grind (arith, common_steps, at_byte)
    ]
