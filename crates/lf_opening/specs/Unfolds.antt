-- The equation of a definition, in parts. A device of the proof.
use Rattle.std.specs.Prelude.{ℕ, Bool}
use Rattle.lf_core.specs.Term.{Path}
use Rattle.lf_core.specs.Suffix.{is_definition}
use Rattle.lf_core.specs.declared.constant.ConstInfo.{ConstInfo}
use Rattle.lf_core.specs.declared.constant.ConstKind.{ConstKind}
use Rattle.lf_checker.specs.Calls.{see}
use Rattle.lf_checker.specs.Extends.{shape_of}
use Rattle.lf_elaboration.specs.Messages as says
use Rattle.lf_elaboration.specs.Run.{◌>>◌, choose, spend}
use Rattle.lf_elaboration.specs.Part.{Part, Run, Typed, ask}
use Rattle.lf_elaboration.specs.Identifiers.{is_realized}
use Rattle.lf_elaboration.specs.Direct.{fails_as}
use Rattle.lf_elaboration.specs.Rewrite as spec
use Rattle.lf_part.specs.Meanings.{at_fresh_levels}

unfoldable pub asked : Path → Run (Unit {0})
asked n = ask n

unfoldable pub paid_equation : Path → ConstInfo → Run Typed
paid_equation n k = spend 1 (at_fresh_levels n k)

unfoldable pub asked_equation : Path → ConstInfo → Run Typed
asked_equation n k = asked n >> paid_equation n k

abbrev pub equation_if : ℕ → Bool → Path → ConstInfo → Run Typed
equation_if at b n k = choose b (asked_equation n k) (fails_as at says.Unfold)

abbrev pub equation_when : Part → ℕ → Path → ConstInfo → Run Typed
equation_when P at n k = spec.equation_when (is_realized P.view n) at n (shape_of k)

unfoldable pub made_equation : Part → ℕ → Path → Run Typed
made_equation P at n = spec.made_equation P at n (see P.view n)

abbrev pub equation_of_kind : Part → ℕ → Path → ConstKind → Run Typed
equation_of_kind P at n k = choose (is_definition k) (made_equation P at (spec.equation_of n)) (fails_as at says.Unfold)
