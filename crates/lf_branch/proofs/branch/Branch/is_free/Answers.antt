use Rattle.std.proofs.Common.{◌≡◌, ◌∙◌, ap, sym, None}
use Rattle.lf_checker.specs.View.{placed_of, there_of, no_entry}
use Rattle.lf_env.specs.Answer.{told}
use Rattle.lf_branch.specs.Branch.{by_there}
use Rattle.lf_branch.proofs.Places.{placed_there, unplaced_there}
use Rattle.lf_branch.proofs.branch.Branch.is_free.Goals as goal

pub returns-in-Some-clause-fault : goal.returns-in-Some-clause-fault
returns-in-Some-clause-fault c =
    let n = c.args.name.now in
    ap (λ b. by_there (there_of b.view n)) (sym c.self.view_is)
    ∙ placed_there c.self.inside.view n c.in-Some.position c.in-Some.field-0-1 (sym c.placed.ensures ∙ c.in-Some.is)

pub returns-in-NeedBody-clause-fault : goal.returns-in-NeedBody-clause-fault
returns-in-NeedBody-clause-fault c =
    let n = c.args.name.now in
    let W = c.self.inside.view in
    let none : placed_of W n ≡ None = sym c.placed.ensures ∙ c.in_default.is in
    ap (λ b. by_there (there_of b.view n)) (sym c.self.view_is) ∙ unplaced_there W n none (told c.lookup.result) c.lookup.ensures
    ∙ ap (λ r. by_there (no_entry (told r))) c.in-NeedBody.is

pub returns-in-Found-clause-free : goal.returns-in-Found-clause-free
returns-in-Found-clause-free c =
    let n = c.args.name.now in
    let W = c.self.inside.view in
    let none : placed_of W n ≡ None = sym c.placed.ensures ∙ c.in_default.is in
    ap (λ b. by_there (there_of b.view n)) (sym c.self.view_is) ∙ unplaced_there W n none (told c.lookup.result) c.lookup.ensures
    ∙ ap (λ r. by_there (no_entry (told r))) c.in-Found.is

pub returns-in-Absent-clause-free : goal.returns-in-Absent-clause-free
returns-in-Absent-clause-free c =
    let n = c.args.name.now in
    let W = c.self.inside.view in
    let none : placed_of W n ≡ None = sym c.placed.ensures ∙ c.in_default.is in
    ap (λ b. by_there (there_of b.view n)) (sym c.self.view_is) ∙ unplaced_there W n none (told c.lookup.result) c.lookup.ensures
    ∙ ap (λ r. by_there (no_entry (told r))) c.in-Absent.is

pub returns-in-NeedReal-clause-free : goal.returns-in-NeedReal-clause-free
returns-in-NeedReal-clause-free c =
    let n = c.args.name.now in
    let W = c.self.inside.view in
    let none : placed_of W n ≡ None = sym c.placed.ensures ∙ c.in_default.is in
    ap (λ b. by_there (there_of b.view n)) (sym c.self.view_is) ∙ unplaced_there W n none (told c.lookup.result) c.lookup.ensures
    ∙ ap (λ r. by_there (no_entry (told r))) c.in-NeedReal.is
