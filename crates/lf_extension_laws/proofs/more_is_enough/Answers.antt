use Rattle.std.proofs.Common.{ℕ}
use Rattle.lf_checker.specs.View.{View}
use Rattle.lf_extension_laws.proofs.EnoughEqual.{calls_suffice}
use Rattle.lf_extension_laws.proofs.more_is_enough.Goals as goal

pub returns : goal.returns
returns c = λ (V : View) (depth deeper k : ℕ). calls_suffice V k depth deeper
