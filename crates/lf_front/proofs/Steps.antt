-- One step of the parser.
use Rattle.std.proofs.Common.{◌≡◌, ℕ, zero, suc, ◌-◌, Option, None, List, arith, refl}
use Rattle.lf_rules.specs.Environment.{Environment}
use Rattle.lf_front.specs.declared.token.Token.{Token}
use Rattle.lf_front.specs.declared.names.Local.{Local}
use Rattle.lf_front.specs.Parser.{term, atom, after_atom, after_forall}

pub term_arrows : (d : ℕ) (E : Environment) (L : List Local) (ts : List Token) → (d ≡ 0 → ⊥) → after_forall ts ≡ None
    → term d E L ts ≡ after_atom (term (d - 1) E) L (atom (term (d - 1) E) E L ts)
term_arrows zero E L ts some none = absurd (some refl)
term_arrows (suc n) E L ts some none = let less : suc n - 1 ≡ n = omega arith in rw (none, less) refl
