use Rattle.lf_grammar_lemmas.proofs.Grammar as laws
use Rattle.lf_grammar_laws.proofs.one_answer.Goals as goal

pub returns : goal.returns
returns c = laws.one_answer
