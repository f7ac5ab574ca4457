use Rattle.lf_grammar_lemmas.proofs.Grammar as laws
use Rattle.lf_grammar_laws.proofs.machine_answers.Goals as goal

pub returns : goal.returns
returns c = laws.machine_answers
