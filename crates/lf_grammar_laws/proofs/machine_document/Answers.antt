use Rattle.lf_grammar_lemmas.proofs.Document as laws
use Rattle.lf_grammar_laws.proofs.machine_document.Goals as goal

pub returns : goal.returns
returns c = laws.machine_document
