use Rattle.std.proofs.Common.{◌≡◌, ◌∙◌, refl, ap, sym, Option, Some, None, Bool, true, false, cond}
use Rattle.lf_core.specs.Term.{Path}
use Rattle.lf_core.specs.Suffix.{suffix_of}
use Rattle.lf_core.specs.declared.suffix.Suffix.{Suffix}
use Rattle.lf_checker.specs.View.{View, find_entry, branch_over, parent_of, last_of, absent, by_parent, by_suffix, by_branch}
use Rattle.lf_env.proofs.Entries.{parent_of-take, last_of-place}
use Rattle.lf_env.proofs.Parents.{nothing_last}
use Rattle.lf_env.proofs.view.View.missing.Goals.{in_default-of-via-in-Some-of+else-not-self, in_default-of-via-in_default-of}
use Rattle.lf_env.proofs.view.View.missing.Goals as goal

pub under-requires : goal.under-requires
under-requires c = parent_of-take c.args.words.now c.in-len1-up.len_at_least

pub returns-in-empty : goal.returns-in-empty
returns-in-empty c =
    let V = c.args.self.now in
    let n = c.args.words.now in
    let over : None ≡ branch_over V.branches n = sym c.in_default.is ∙ c.branch_over.ensures in
    sym (ap (by_suffix V n) (nothing_last n c.in-empty.len_below)) ∙ ap (by_branch V n) over

pub returns-in-Some-of : goal.returns-in-Some-of
returns-in-Some-of c =
    let V = c.args.self.now in
    let n = c.args.words.now in
    let over : None ≡ branch_over V.branches n = sym c.in_default.is ∙ c.branch_over.ensures in
    let last : c.as_str.result.now ≡ last_of n = c.as_str.ensures ∙ c.last-item.is ∙ last_of-place n c.last-item.result c.in-len1-up.len_at_least in
    let ends : Some c.in-Some-of.suffix ≡ suffix_of (last_of n) = sym c.in-Some-of.is ∙ c.of.ensures.exact ∙ ap suffix_of last in
    let base : V.for_base ≡ false = ap (λ s. s.for_base) (sym c.self.view_is) ∙ c.if-not-self.true in
    c.under.ensures ∙ ap (λ m. by_parent V n c.in-Some-of.suffix (find_entry V.entries m)) (parent_of-take n c.in-len1-up.len_at_least)
    ∙ sym (ap (λ b. cond b absent (by_parent V n c.in-Some-of.suffix (find_entry V.entries (parent_of n)))) base)
    ∙ ap (by_suffix V n) ends ∙ ap (by_branch V n) over

in_base : (V : View) (n : Path) (o : Option Suffix) → V.for_base ≡ true → absent ≡ by_suffix V n o
in_base V n (Some s) h = sym (ap (λ b. cond b absent (by_parent V n s (find_entry V.entries (parent_of n)))) h)
in_base V n None h = refl

pub returns-in_default-of : goal.returns-in_default-of
returns-in_default-of c =
    let V = c.args.self.now in
    let n = c.args.words.now in
    let over : None ≡ branch_over V.branches n = sym c.in_default.is ∙ c.branch_over.ensures in
    let last : c.as_str.result.now ≡ last_of n = c.as_str.ensures ∙ c.last-item.is ∙ last_of-place n c.last-item.result c.in-len1-up.len_at_least in
    elim c.in_default-of.branch [
      | in_default-of-via-in-Some-of+else-not-self w ↦
          in_base V n (suffix_of (last_of n)) (ap (λ s. s.for_base) (sym c.self.view_is) ∙ w.if-not-self.false) ∙ ap (by_branch V n) over
      | in_default-of-via-in_default-of w ↦ let ends : None ≡ suffix_of (last_of n) =
          sym w.in_default-of.is ∙ c.of.ensures.exact ∙ ap suffix_of last in ap (by_suffix V n) ends ∙ ap (by_branch V n) over
    ]
