use Rattle.std.proofs.Common.{◌≡◌, Err, sym, subst}
use Rattle.lf_syntax.specs.declared.command.Command.{Command}
use Rattle.lf_syntax.specs.Symbol as symbol
use Rattle.lf_syntax.specs.Document.{IsCommand}
use Rattle.lf_parse_term.specs.Descent.{read}
use Rattle.lf_parse_term.specs.View.{views}
use Rattle.lf_parse_term.specs.declared.halt.Halt.TheVariants as halt
use Rattle.lf_parse_cmd.proofs.Answer.{read_on, read_no, read_fits}
use Rattle.lf_parse_cmd.proofs.command.shallow.Goals as goal

pub halted-requires : goal.halted-requires
halted-requires c =
    let told = rw c.in-Err-Stuck.field-0-is at c.in-Err-Stuck.ensures.value in
    let h : read symbol.command (views c.args.toks.now) ≡ Err (halt.Stuck c.in-Err-Stuck.left) = told tt in
    read_fits c.args.toks.now c.in-Err-Stuck.left h

pub returns-in-Err-Stuck : goal.returns-in-Err-Stuck
returns-in-Err-Stuck c =
    let told = rw c.in-Err-Stuck.field-0-is at c.in-Err-Stuck.ensures.value in
    let h : read symbol.command (views c.args.toks.now) ≡ Err (halt.Stuck c.in-Err-Stuck.left) = told tt in
    subst (λ (d : Command). IsCommand (views c.args.toks.now) d) (sym c.halted.ensures) (read_no c.args.toks.now c.in-Err-Stuck.left c.requires h)

pub returns-in-Ok : goal.returns-in-Ok
returns-in-Ok c =
    subst (λ (d : Command). IsCommand (views c.args.toks.now) d) (sym c.finished.ensures)
    (read_on (views c.args.toks.now) (views c.in-Ok.rest.now) c.in-Ok.command c.requires c.in-Ok.ensures.value)
