use Rattle.std.proofs.Common.{◌≡◌, ◌∙◌, refl, ap, sym, Some, None}
use Rattle.std.specs.Option.{option_copied}
use Rattle.lf_checker.specs.View.{find_entry}
use Rattle.lf_env.proofs.Shown.{first_of, entry_found}
use Rattle.lf_env.proofs.Changes.{backed_through}
use Rattle.lf_env.proofs.view.View.entry.Goals as goal

pub returns-in-Some : goal.returns-in-Some
returns-in-Some c =
    let v = c.self.inside in
    let w = c.args.words.now in
    let j : Some c.in-Some.entry.now ≡ find_entry v.joined w = ap option_copied (sym c.in-Some.is) ∙ c.find.ensures in
    ap (λ o. first_of o (find_entry v.entries w)) j
    ∙ sym (entry_found v.joined v.entries (backed_through v.joined v.opened v.entries c.self.invariant.0 c.self.invariant.1) w)
    ∙ ap (λ s. find_entry s.entries w) c.self.view_is

pub returns-in-None : goal.returns-in-None
returns-in-None c =
    let v = c.self.inside in
    let w = c.args.words.now in
    let j : None ≡ find_entry v.joined w = ap option_copied (sym c.in-None.is) ∙ c.find.ensures in
    c.find-in-None.ensures ∙ ap (λ o. first_of o (find_entry v.entries w)) j
    ∙ sym (entry_found v.joined v.entries (backed_through v.joined v.opened v.entries c.self.invariant.0 c.self.invariant.1) w)
    ∙ ap (λ s. find_entry s.entries w) c.self.view_is
