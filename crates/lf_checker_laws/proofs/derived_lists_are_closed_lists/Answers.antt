use Rattle.lf_checker_laws.proofs.Declared.{derived_is_closed_list}
use Rattle.lf_checker_laws.proofs.derived_lists_are_closed_lists.Goals as goal

pub returns : goal.returns
returns c = derived_is_closed_list
