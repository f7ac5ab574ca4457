use Rattle.std.proofs.Common.{sym, ◌∙◌}
use Rattle.lf_core.proofs.Suffixes.{spelled_is_suffix, suffix_is_spelled}
use Rattle.lf_core.proofs.suffix.Suffix.of.Goals as goal

pub returns-clause-spelled : goal.returns-clause-spelled
returns-clause-spelled c = suffix_is_spelled c.args.last.now c.by_text.result (sym c.by_text.ensures)

pub returns-clause-each : goal.returns-clause-each
returns-clause-each c = λ s h e. c.by_text.ensures ∙ spelled_is_suffix c.args.last.now s h e
