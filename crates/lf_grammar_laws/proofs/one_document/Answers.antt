use Rattle.lf_grammar_lemmas.proofs.Document as laws
use Rattle.lf_grammar_laws.proofs.one_document.Goals as goal

pub returns : goal.returns
returns c = laws.one_document
