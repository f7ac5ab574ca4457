-- Codes by which locals and cases are told apart.
use Rattle.std.specs.Prelude.{◌≡◌, [], refl}
use Rattle.std.proofs.Common.{ap, sym, ◌∙◌}
use Rattle.std.specs.Coded.{Coded}
use base.Stored.{Gv, gnil, gcons}
use Rattle.lf_core.specs.Codes.{path, to_path, path_back, binder, to_binder, binder_back, term, to_term, term_back}
use Rattle.lf_rules.specs.Telescope.{Local}
use Rattle.lf_rules.specs.Recursor.{Case}

abbrev pub local : Local → Gv
local x = gcons (binder x.binder) (term x.ty)

abbrev pub to_local : Gv → Local
to_local (gcons b t) = record { binder = to_binder b; ty = to_term t }
to_local _ = record { binder = to_binder gnil; ty = to_term gnil }

pub local_back : (x : Local) → to_local (local x) ≡ x
local_back x = λ i. record { binder = binder_back x.binder i; ty = term_back x.ty i }

abbrev pub coded_local : Coded Local
coded_local = record { code = local; inj = λ x y p. sym (local_back x) ∙ ap to_local p ∙ local_back y }

abbrev pub case : Case → Gv
case x = gcons (path x.constructor) (term x.body)

abbrev pub to_case : Gv → Case
to_case (gcons n t) = record { constructor = to_path n; body = to_term t }
to_case _ = record { constructor = []; body = to_term gnil }

pub case_back : (x : Case) → to_case (case x) ≡ x
case_back x = λ i. record { constructor = path_back x.constructor i; body = term_back x.body i }

abbrev pub coded_case : Coded Case
coded_case = record { code = case; inj = λ x y p. sym (case_back x) ∙ ap to_case p ∙ case_back y }
