use Rattle.std.specs.Prelude.{not, map}
use Rattle.std.proofs.Common.{◌≡◌, ◌∙◌, refl, ap, sym, Some, None}
use Rattle.std.specs.Option.{option_copied}
use Rattle.lf_checker.specs.View.{find_entry, has_failed, by_answer, answer_of}
use Rattle.lf_env.specs.Layer.{is_none, failed_of}
use Rattle.lf_env.proofs.Shown.{failed_found}
use Rattle.lf_env.proofs.view.View.kept.Goals as goal

pub returns-in-Some-find : goal.returns-in-Some-find
returns-in-Some-find c =
    let v = c.self.inside in
    let w = c.args.words.now in
    let j : None ≡ find_entry v.realized w = ap option_copied (sym c.in-None.is) ∙ c.find.ensures in
    let k : Some c.in-Some-find.field-0.now ≡ find_entry v.failed w = ap option_copied (sym c.in-Some-find.is) ∙ c.find-in-None.ensures in
    ap (λ o. by_answer None (not (is_none o))) k ∙ ap (by_answer None) (sym (failed_found v.failed w))
    ∙ ap (λ o. by_answer o (has_failed (map failed_of v.failed) w)) j ∙ ap (λ s. answer_of s w) c.self.view_is

pub returns-in-None-find : goal.returns-in-None-find
returns-in-None-find c =
    let v = c.self.inside in
    let w = c.args.words.now in
    let j : None ≡ find_entry v.realized w = ap option_copied (sym c.in-None.is) ∙ c.find.ensures in
    let k : None ≡ find_entry v.failed w = ap option_copied (sym c.in-None-find.is) ∙ c.find-in-None.ensures in
    ap (λ o. by_answer None (not (is_none o))) k ∙ ap (by_answer None) (sym (failed_found v.failed w))
    ∙ ap (λ o. by_answer o (has_failed (map failed_of v.failed) w)) j ∙ ap (λ s. answer_of s w) c.self.view_is
