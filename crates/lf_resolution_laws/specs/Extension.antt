-- The extension law of resolution, in the form in which terms and proofs ask it of a part.
use Rattle.std.specs.Prelude.{ℕ}
use Rattle.lf_checker.specs.View.{View}
use Rattle.lf_checker.specs.Extends.{Tells}
use Rattle.lf_elaboration.specs.Scope.{Scope}
use Rattle.lf_elaboration_laws.specs.Extension.{AgreeSynthesis}
use Rattle.lf_resolution.specs.Walk.{resolve}

abbrev pub ResolutionExtends : Type 0
ResolutionExtends = (U V : View) → Tells V U → (S : Scope) (depth : ℕ) → AgreeSynthesis (resolve U S depth) (resolve V S depth)
