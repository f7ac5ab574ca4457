-- A name that is none of those of a list is fresh.
use Rattle.std.proofs.Common.{◌≡◌, zero, suc, [], ◌∷◌, ap, arith, ◌∙◌, Contains}
use Rattle.lf_core.specs.Term.{Path}
use Rattle.lf_rules.specs.Environment.{Environment, Fresh}
use Rattle.lf_core.specs.declared.constant.ConstInfo.{ConstInfo}

abbrev pub NamesOther : Environment → Path → Type 0
NamesOther [] n = Unit {0}
NamesOther (c ∷ E) n = (c.name ≡ n → ⊥) × NamesOther E n

other_than : (E : Environment) (n : Path) → NamesOther E n → (c : ConstInfo) → Contains E c → c.name ≡ n → ⊥
other_than [] n h c (k, l, e) q = omega arith
other_than (x ∷ E) n h c (zero, l, e) q = h.0 (ap (λ y. y.name) e ∙ q)
other_than (x ∷ E) n h c (suc k, l, e) q = other_than E n h.1 c (k, omega arith, e) q

pub fresh_from : (E : Environment) (n : Path) → NamesOther E n → Fresh E n
fresh_from E n h d = other_than E n h d.0 d.1 d.2
