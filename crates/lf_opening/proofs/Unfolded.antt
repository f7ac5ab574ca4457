-- The parts of the equation of a definition are the definition's.
use Rattle.std.proofs.Common.{◌≡◌, ℕ, Bool, true, false, refl}
use Rattle.lf_core.specs.Term.{Path}
use Rattle.lf_core.specs.declared.constant.ConstInfo.{ConstInfo}
use Rattle.lf_checker.specs.Extends.{shape_of}
use Rattle.lf_elaboration.specs.Part.{Part, State}
use Rattle.lf_elaboration.specs.Identifiers.{constant}
use Rattle.lf_elaboration.specs.Rewrite as spec
use Rattle.lf_opening.specs.Unfolds.{asked, paid_equation, asked_equation, equation_if, made_equation, equation_of_kind}

pub when_is : (b : Bool) (at : ℕ) (n : Path) (k : ConstInfo) (u : ℕ) (s : State)
    → spec.equation_when b at n (shape_of k) u s ≡ equation_if at b n k u s
unfolding asked_equation asked paid_equation
when_is true at n k u s = refl
when_is false at n k u s = refl

pub constant_is : (P : Part) (at : ℕ) (n : Path) (k : ConstInfo) (u : ℕ) (s : State)
    → spec.equation_for P at (constant n (shape_of k)) u s ≡ equation_of_kind P at n k.kind u s
unfolding made_equation
constant_is P at n k u s = refl
