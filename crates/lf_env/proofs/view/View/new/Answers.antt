use Rattle.std.proofs.Common.{◌≡◌, ◌<◌, ◌∙◌, refl, ap, sym, subst, Some, None, false, List, [], ◌∷◌, ◌++◌, length, arith}
use Rattle.lf_checker.specs.View.{base_entries}
use Rattle.lf_env.specs.Layer.{shown}
use Rattle.lf_env.proofs.Changes.{settled_none}
use Rattle.lf_env.proofs.view.View.new.Goals as goal

pub returns : goal.returns
returns c =
    ap (λ x. shown c.in_ok-entries.entries x c.empty-2.result c.empty-3.result c.empty-4.result 0 false) c.empty.ensures
    ∙ ap (λ x. shown c.in_ok-entries.entries [] x c.empty-3.result c.empty-4.result 0 false) c.empty-2.ensures
    ∙ ap (λ x. shown c.in_ok-entries.entries [] [] x c.empty-4.result 0 false) c.empty-3.ensures
    ∙ ap (λ x. shown c.in_ok-entries.entries [] [] [] x 0 false) c.empty-4.ensures
    ∙ ap (λ x. shown x [] [] [] [] 0 false) c.in_ok-entries.ensures
    ∙ ap (λ x. record { entries = x; branches = []; realized = []; failed = []; position = 0; for_base = false })
    (settled_none (base_entries c.args.base.items))
