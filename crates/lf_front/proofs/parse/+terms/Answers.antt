use Rattle.std.proofs.Common.{◌≡◌, sym, subst, arith, Option, List}
use Rattle.std.proofs.lemmas.Grind.{common_steps}
use Rattle.lf_front.specs.Parser.{Parse, Parses}
use Rattle.lf_front.proofs.Steps.{term_arrows}
use Rattle.lf_front.proofs.parse.+terms.Goals as goal

pub term-returns-in-None : goal.term-returns-in-None
term-returns-in-None t c =
    subst (λ (o : Parse). Parses c.arrows.result o)
    (sym (term_arrows c.args.depth c.args.constants.now c.args.locals.now c.args.tokens.now c.if-depth-eq0.false c.in-None.ensures)) c.arrows.ensures
