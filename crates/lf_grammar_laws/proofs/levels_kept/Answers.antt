use Rattle.lf_grammar_laws.proofs.Leveled as laws
use Rattle.lf_grammar_laws.proofs.levels_kept.Goals as goal

pub returns : goal.returns
returns c = laws.levels_kept
