-- Codes by which types with their levels are told apart.
use Rattle.std.specs.Prelude.{◌≡◌}
use Rattle.std.proofs.Common.{ap, sym, ◌∙◌}
use Rattle.std.specs.Coded.{Coded}
use base.Stored.{Gv, gnil, gcons}
use Rattle.lf_core.specs.Codes.{term, to_term, term_back, code, decode, back}
use Rattle.lf_core.specs.Term.{Term, Universe}

abbrev pub rest : Term × Universe → Gv
rest r = gcons (term r.0) (code r.1)

abbrev pub to_rest : Gv → Term × Universe
to_rest (gcons t l) = (to_term t, decode l)
to_rest _ = (to_term gnil, decode gnil)

pub rest_back : (r : Term × Universe) → to_rest (rest r) ≡ r
rest_back r = λ i. (term_back r.0 i, back r.1 i)

abbrev pub coded_rest : Coded (Term × Universe)
coded_rest = record { code = rest; inj = λ x y p. sym (rest_back x) ∙ ap to_rest p ∙ rest_back y }
