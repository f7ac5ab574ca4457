-- A goal whose sides are the same tree.
use Rattle.std.proofs.Common.{◌≡◌, ℕ, Bool, true, false, refl}
use Rattle.std.specs.Prelude.{Option, Some, None}
use Rattle.lf_core.specs.Term.{Term}
use Rattle.lf_elaboration.specs.Run.{gives, choose}
use Rattle.lf_elaboration.specs.Part.{State, Run}
use Rattle.lf_elaboration.specs.Equations.{Equation}
use Rattle.lf_elaboration.specs.Rewrite.{is_reflexive}
use Rattle.lf_opening.specs.Rules.{by_reflexivity, reflexive_with}

chosen : (b : Bool) (m n : Run (Option Term)) (u : ℕ) (s : State) → b ≡ true → choose b m n u s ≡ m u s
chosen true m n u s e = refl
chosen false m n u s e = cc

pub reflexive_at : (e : Equation) (u : ℕ) (s : State) → is_reflexive (Some e) ≡ true → reflexive_with (Some e) u s ≡ by_reflexivity e u s
reflexive_at e u s h = chosen (is_reflexive (Some e)) (by_reflexivity e) (gives None) u s h
