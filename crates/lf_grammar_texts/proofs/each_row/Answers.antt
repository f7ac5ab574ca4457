use Rattle.lf_grammar_texts.proofs.Fired as fired
use Rattle.lf_grammar_texts.proofs.each_row.Goals as goal

pub returns : goal.returns
returns c = fired.each_row
