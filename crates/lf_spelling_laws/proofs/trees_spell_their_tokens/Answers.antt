use Rattle.lf_spelling_laws.proofs.Derivations as derivations
use Rattle.lf_spelling_laws.proofs.trees_spell_their_tokens.Goals as goal

pub returns : goal.returns
returns c = derivations.spells_its_tokens
