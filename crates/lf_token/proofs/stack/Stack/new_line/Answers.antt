use Rattle.std.proofs.Common.{◌≡◌, ◌≤◌, List, ap, ◌∙◌, reverse, arith, subst}
use Rattle.std.specs.List.{prefix_len}
use Rattle.lf_text.specs.Layout.{Put, is_block, is_deeper}
use Rattle.lf_text.specs.declared.frame.Frame.{Frame}
use Rattle.lf_token.proofs.Frames.{deeper_above}
use Rattle.lf_token.proofs.stack.Stack.new_line.Goals as goal

pub close-requires : goal.close-requires
close-requires c =
    subst (λ (p : Put). c.deeper_blocks-n.result ≤ prefix_len is_block p.frames) c.self.view_is
    (let n : c.deeper_blocks-n.result ≡ prefix_len (is_deeper c.args.column) (reverse c.self.inside.frames.items) =
    c.deeper_blocks-n.ensures.value ∙ ap (λ (xs : List Frame). prefix_len (is_deeper c.args.column) (reverse xs)) c.deref.ensures.value in
    omega (arith, deeper_above c.args.column (reverse c.self.inside.frames.items)))
