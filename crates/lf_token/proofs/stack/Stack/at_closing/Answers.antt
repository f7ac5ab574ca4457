use Rattle.std.proofs.Common.{◌<◌, reverse, arith, subst, count_by}
use Rattle.lf_text.specs.Layout.{Put, is_bracket}
use Rattle.lf_token.proofs.Frames.{bracket_left, top_left}
use Rattle.lf_token.proofs.stack.Stack.at_closing.Goals as goal

pub drop_bracket-requires-clause-top : goal.drop_bracket-requires-clause-top
drop_bracket-requires-clause-top c = top_left c.args.self.now c.close_above.new.self c.args.at c.in_ok-close_above.ensures

pub drop_bracket-requires-clause-bracket : goal.drop_bracket-requires-clause-bracket
drop_bracket-requires-clause-bracket c =
    let some : 0 < count_by is_bracket (reverse c.self.inside.frames.items) = omega (arith, c.self.invariant, c.if-self-eq0.false) in
    bracket_left c.args.self.now c.close_above.new.self c.args.at c.in_ok-close_above.ensures
    (subst (λ (p : Put). 0 < count_by is_bracket p.frames) c.self.view_is some)
