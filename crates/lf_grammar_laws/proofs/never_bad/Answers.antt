use Rattle.lf_grammar_lemmas.proofs.Document as laws
use Rattle.lf_grammar_laws.proofs.never_bad.Goals as goal

pub returns : goal.returns
returns c = laws.never_bad
