use Rattle.lf_judgment_laws.proofs.Pure_typing.{typing_is_pure}
use Rattle.lf_judgment_laws.proofs.typing_is_the_pure_one.Goals as goal

pub returns : goal.returns
returns c = typing_is_pure
