use Rattle.lf_subst.proofs.Unchanged.{answers_unchanged}
use Rattle.lf_subst.proofs.levels.level_inst.Goals as goal

pub returns-then-is_empty : goal.returns-then-is_empty
returns-then-is_empty c = answers_unchanged c.args.args.now c.args.term.now c.args.left c.unchanged.result c.if-is_empty.ensures c.unchanged.ensures
