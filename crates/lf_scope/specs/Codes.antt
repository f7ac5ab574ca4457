-- The code by which groups of binders are told apart.
use Rattle.std.proofs.Common.{ap, sym, ◌∙◌}
use Rattle.std.specs.Coded.{Coded}
use Rattle.lf_syntax.specs.Tree.{BindersTree}
use Rattle.lf_syntax.specs.Codes.{code_binders, to_binders, binders_back}

abbrev pub coded_binders : Coded BindersTree
coded_binders = record { code = code_binders; inj = λ x y p. sym (binders_back x) ∙ ap to_binders p ∙ binders_back y }
