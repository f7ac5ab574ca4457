use Rattle.std.proofs.Common.{◌≡◌, ◌∙◌, refl, ap, sym, Some, None}
use Rattle.std.specs.Option.{option_copied}
use Rattle.lf_checker.specs.View.{find_entry, find_branch}
use Rattle.lf_env.proofs.Shown.{open_at, branch_found}
use Rattle.lf_env.proofs.view.View.open_position.Goals as goal

pub returns-in-Some : goal.returns-in-Some
returns-in-Some c =
    let v = c.self.inside in
    let w = c.args.words.now in
    let j : Some c.in-Some.field-0.now ≡ find_entry v.joined w = ap option_copied (sym c.in-Some.is) ∙ c.find.ensures in
    ap (λ o. open_at o (find_entry v.opened w)) j ∙ sym (branch_found v.joined v.opened w) ∙ ap (λ s. find_branch s.branches w) c.self.view_is

pub returns-in-Some-find : goal.returns-in-Some-find
returns-in-Some-find c =
    let v = c.self.inside in
    let w = c.args.words.now in
    let j : None ≡ find_entry v.joined w = ap option_copied (sym c.in-None.is) ∙ c.find.ensures in
    let k : Some c.in-Some-find.entry.now ≡ find_entry v.opened w = ap option_copied (sym c.in-Some-find.is) ∙ c.find-in-None.ensures in
    ap Some c.position.ensures ∙ ap (open_at None) k ∙ ap (λ o. open_at o (find_entry v.opened w)) j ∙ sym (branch_found v.joined v.opened w)
    ∙ ap (λ s. find_branch s.branches w) c.self.view_is

pub returns-in-None-find : goal.returns-in-None-find
returns-in-None-find c =
    let v = c.self.inside in
    let w = c.args.words.now in
    let j : None ≡ find_entry v.joined w = ap option_copied (sym c.in-None.is) ∙ c.find.ensures in
    let k : None ≡ find_entry v.opened w = ap option_copied (sym c.in-None-find.is) ∙ c.find-in-None.ensures in
    ap (open_at None) k ∙ ap (λ o. open_at o (find_entry v.opened w)) j ∙ sym (branch_found v.joined v.opened w)
    ∙ ap (λ s. find_branch s.branches w) c.self.view_is
