-- What resolution waits for, in the form in which terms and proofs ask it of a part.
use Rattle.std.specs.Prelude.{ℕ}
use Rattle.lf_core.specs.Term.{Term}
use Rattle.lf_rules.specs.Environment.{Context}
use Rattle.lf_checker.specs.View.{View}
use Rattle.lf_extension_laws.specs.Needs.{Waits}
use Rattle.lf_elaboration.specs.Scope.{Scope}
use Rattle.lf_resolution.specs.Walk.{resolve}

abbrev pub ResolutionWaits : Type 0
ResolutionWaits = (V : View) (S : Scope) (depth : ℕ) (C : Context) (t : Term) (u : ℕ) → Waits V (resolve V S depth C t u)
