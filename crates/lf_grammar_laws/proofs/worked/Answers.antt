use Rattle.lf_grammar_laws.proofs.Texts as texts
use Rattle.lf_grammar_laws.proofs.worked.Goals as goal

pub returns : goal.returns
returns c = texts.worked
