-- The constants of a derived environment are closed.
use Rattle.std.proofs.Common.{◌≡◌, ℕ, zero, suc, List, [], ◌∷◌, length, subst, Some, slice_get}
use Rattle.lf_core.specs.Term.{Term}
use Rattle.lf_core.specs.Scope.{Scoped}
use Rattle.lf_rules.specs.Environment.{Environment}
use Rattle.lf_rules.specs.Derived.{Derived}
use Rattle.lf_core.specs.declared.constant.ConstInfo.{ConstInfo}
use Rattle.lf_core.specs.declared.constant.Detail.{Detail}
use Rattle.lf_core.specs.declared.constant.Detail.TheVariants.{Plain, Ind, Ctor, Rec}
use Rattle.lf_judgment_laws.specs.InScope.{RulesClosed, ConstantClosed, EnvironmentClosed}
use Rattle.lf_inductive_laws.specs.Recursors.{AllRight}
use Rattle.lf_inductive_laws.specs.Closed.{RulesRight, ConstantRight}
use Rattle.lf_inductive_laws.proofs.Right.{some_is, no_value, derived_is_right}
pub use Rattle.lf_inductive_laws.proofs.Contained.{none_contained, last_contained}

rule_closed : (E : Environment) (n : ℕ) (ts : List Term) → AllRight E n ts → (k : ℕ) (t : Term) → slice_get ts k ≡ Some t → Scoped 0 0 t
rule_closed E n [] h k t e = absurd (no_value e)
rule_closed E n (x ∷ ts) h zero t e = subst (Scoped 0 0) (some_is e) h.0.closed
rule_closed E n (x ∷ ts) h (suc k) t e = rule_closed E n ts h.1 k t e

rules_closed : (E : Environment) (c : ConstInfo) (e : Detail) → RulesRight E c e → RulesClosed e
rules_closed E c Plain h = tt
rules_closed E c (Ind params indices names large) h = tt
rules_closed E c (Ctor ind index own fields) h = tt
rules_closed E c (Rec ind params minors indices rules) h = rule_closed E (length c.levels) rules h

pub constant_closed : (E : Environment) (c : ConstInfo) → ConstantRight E c → ConstantClosed c
constant_closed E c r = record { ty = r.ty.closed; value = λ v e. (r.value v e).closed; rules = rules_closed E c c.detail r.rules }

pub derived_is_closed : (E : Environment) → Derived E → EnvironmentClosed E
derived_is_closed E h c w = constant_closed E c (derived_is_right E h c w)
