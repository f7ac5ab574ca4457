use Rattle.lf_grammar_lemmas.proofs.Grammar as laws
use Rattle.lf_grammar_laws.proofs.completable.Goals as goal

pub returns : goal.returns
returns c = laws.completable
