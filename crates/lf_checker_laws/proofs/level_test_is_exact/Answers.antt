use Rattle.lf_checker_laws.proofs.Tests.{level_test_is_exact}
use Rattle.lf_checker_laws.proofs.level_test_is_exact.Goals as goal

pub returns : goal.returns
returns c = level_test_is_exact
