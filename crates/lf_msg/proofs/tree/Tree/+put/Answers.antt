use Rattle.std.proofs.Common.{◌∙◌, ◌++◌, ap, sym, take, append_assoc}
use Rattle.lf_msg.specs.Trees.{flat_all}
use Rattle.lf_msg.proofs.Turns.{flat_turn}
use Rattle.lf_msg.proofs.tree.Tree.+put.Goals as goal

pub children-preserved : goal.children-preserved
children-preserved t c =
    let ts = c.as_slice-children.result.now in
    let i = c.children.child-index in
    c.in_ok-put.ensures ∙ ap (λ l. l ++ c.child-item.result.messages) c.children.invariant
    ∙ append_assoc c.copy_messages.new.all.items (flat_all (take i ts)) c.child-item.result.messages
    ∙ ap (λ l. c.copy_messages.new.all.items ++ l) (sym (flat_turn ts i c.child-item.result c.children-test.true c.child-item.is))
