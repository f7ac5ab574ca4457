-- Constants that have a pure type are declared, and the type of literals has one.
use Rattle.std.proofs.Common.{◌≡◌, ℕ, suc, List, [], ◌∷◌, Contains, refl, sym, ◌∙◌, arith}
use Rattle.lf_core.specs.Term.{Path, Universe, Term, sort, const, app, pi, lit}
use Rattle.lf_rules.specs.Environment.{Environment, Context, Declared, nat, nat_type, nat_succ}
use Rattle.lf_rules.specs.Step.{literal_succ}
use Rattle.lf_core.specs.declared.constant.ConstInfo.{ConstInfo}
use Rattle.lf_judgment_laws.specs.Pure.{
  PureEqual,
  symmetric',
  step',
  PureType,
  variable',
  sort_type',
  constant',
  application',
  lambda',
  pi_type',
  let_type',
  literal',
  projection',
  conversion',
  WellFormed,
  nothing,
  Metatheory,
}
use Rattle.lf_judgment_laws.specs.Numbers.{numbers, n, PureNumbers}
use Rattle.lf_judgment_laws.proofs.Pure_typing.{typing_is_pure}

name_is : {m k : Path} {ls ms : List Universe} → const m ls ≡ const k ms → m ≡ k
name_is e = cc

constant_declared : {E : Environment} {C : Context} {t A : Term} (m : Path) (ls : List Universe) → PureType E C t A → t ≡ const m ls → Declared E m
constant_declared m ls (constant' c ks w l) e = (c, w, name_is e)
constant_declared m ls (conversion' h q) e = constant_declared m ls h e
constant_declared m ls (variable' k q) e = absurd (cc)
constant_declared m ls (sort_type' l) e = absurd (cc)
constant_declared m ls (application' f a) e = absurd (cc)
constant_declared m ls (lambda' u h s r k) e = absurd (cc)
constant_declared m ls (pi_type' u v h s k) e = absurd (cc)
constant_declared m ls (let_type' u h g s k) e = absurd (cc)
constant_declared m ls (literal' i) e = absurd (cc)
constant_declared m ls (projection' s i ks ps h l q r d) e = absurd (cc)

three : PureType numbers [] (app nat_succ (lit 2)) nat_type
three = application' {x = n} {A = nat_type} {B = nat_type} (constant' _ [] (2, omega arith, refl) refl) (literal' 2)

pub pure_numbers : PureNumbers
pure_numbers = record {
  declared = λ E m. let h = m.type_is_type nothing (literal' 0) in constant_declared nat [] h.1 refl;
  three = three;
  unfolds = step' (literal_succ 2 (omega arith)) (λ r. r) (literal' 3) three;
  typed = (typing_is_pure numbers).at_least [] (app nat_succ (lit 2)) nat_type three;
}
