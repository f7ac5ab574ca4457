use Rattle.std.proofs.Common.{◌≡◌, ◌+◌, refl, ◌++◌, ◌∷◌, [], ◌∙◌, ap, sym, subst, None, arith}
use Rattle.std.specs.List.{IsDistinct}
use Rattle.lf_checker.specs.View.{find_entry}
use Rattle.lf_env.specs.Names.{same_entry}
use Rattle.lf_env.specs.Layer.{entries_of}
use Rattle.lf_env.proofs.Shown.{unplaced, pushed_distinct}
use Rattle.lf_env.proofs.Turns.{push_sound}
use Rattle.lf_env.proofs.listing.Listing.with.Goals as goal

pub extended-requires : goal.extended-requires
extended-requires c =
    let es = entries_of c.self.inside.layers.items in
    let e = c.args.entry in
    let apart = pushed_distinct es e c.self.invariant.distinct (ap (λ l. find_entry l e.info.name) c.self.view_is ∙ c.requires) in
    subst (λ l. IsDistinct same_entry (entries_of l ++ e ∷ [])) (sym c.as_slice.ensures.value) apart

pub invariant_of-result : goal.invariant_of-result
invariant_of-result c =
    let es = entries_of c.self.inside.layers.items in
    let e = c.args.entry in
    let free : find_entry es e.info.name ≡ None = ap (λ l. find_entry l e.info.name) c.self.view_is ∙ c.requires in
    let all : entries_of c.in_ok-layers.layers.items ≡ es ++ e ∷ [] =
    c.in_ok-layers.ensures ∙ ap (λ l. entries_of l ++ e ∷ []) c.as_slice.ensures.value in
    push_sound es (entries_of c.in_ok-layers.layers.items) e c.self.inside.most (c.self.inside.most + 1) c.self.invariant
    (sym (unplaced 0 es e.info.name free)) all refl
    (omega (arith, c.self.invariant.fits, c.if-most.false))
