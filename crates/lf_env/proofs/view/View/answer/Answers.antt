use Rattle.std.specs.Prelude.{not, map, true, false}
use Rattle.lf_core.specs.Term.{Path}
use Rattle.std.proofs.Common.{◌≡◌, ◌<◌, ◌∙◌, refl, ap, sym, subst, Option, Some, None, List, [], ◌∷◌, ◌++◌, length, arith, append-nil}
use Rattle.lf_checker.specs.View.{Entry, find_entry, has_failed}
use Rattle.lf_env.specs.Layer.{is_none, failed_of}
use Rattle.lf_env.proofs.Shown.{failed_found}
use Rattle.lf_env.proofs.view.View.answer.Goals as goal

unnamed : (es : List Entry) (n : Path) → has_failed (map failed_of es) n ≡ false → find_entry es n ≡ None
unnamed es n h = at (find_entry es n) refl
  where
    at : (o : Option Entry) → find_entry es n ≡ o → o ≡ None
    at (Some e) q = let t : true ≡ false = ap (λ x. not (is_none x)) (sym q) ∙ sym (failed_found es n) ∙ h in cc
    at None q = refl

pub with-requires-in-None : goal.with-requires-in-None
with-requires-in-None c =
    let v = c.self.inside in
    ap (λ f. find_entry v.failed f.name) c.in_ok-entry-in-None.ensures
    ∙ unnamed v.failed c.args.name (ap (λ s. has_failed s.failed c.args.name) c.self.view_is ∙ c.requires.not_failed)
