use Rattle.lf_grammar_lemmas.proofs.Grammar as laws
use Rattle.lf_grammar_laws.proofs.stuck_is_local.Goals as goal

pub returns : goal.returns
returns c = laws.stuck_is_local
