use Rattle.std.proofs.Common.{◌≡◌, ◌<◌, ◌∙◌, refl, ap, sym, subst, Some, None, List, [], ◌∷◌, ◌++◌, length, arith}
use Rattle.lf_checker.specs.View.{Entry, find_entry, placed_from, placed_of, pushed}
use Rattle.lf_env.specs.Layer.{AreBacked, shown}
use Rattle.lf_env.proofs.Shown.{placed_settled, unfound}
use Rattle.lf_env.proofs.Changes.{backed_grown, backed_through, not_backed, settled_more}
use Rattle.lf_env.proofs.view.View.push.Goals as goal

pub with-requires : goal.with-requires
with-requires c =
    let v = c.self.inside in
    let free : placed_from 0 v.entries c.args.info.name ≡ None =
    sym (placed_settled v.joined 0 v.entries c.args.info.name) ∙ ap (λ s. placed_of s c.args.info.name) c.self.view_is ∙ c.requires in
    ap (λ e. find_entry v.entries e.info.name) c.in_ok-entry.ensures ∙ unfound 0 v.entries c.args.info.name free

pub invariant_of-self : goal.invariant_of-self
invariant_of-self c =
    let v = c.self.inside in (
      c.self.invariant.0,
      subst (λ l. AreBacked v.opened l) (sym c.in_ok-entries.ensures)
          (backed_grown v.opened v.entries (c.in_ok-entry.entry ∷ []) c.self.invariant.1),
    )

pub returns-clause-ok : goal.returns-clause-ok
returns-clause-ok c =
    let v = c.self.inside in
    let V = c.args.self.now in
    let e : Entry = record { info = c.args.info; position = c.args.position } in
    let free : placed_from 0 v.entries c.args.info.name ≡ None =
    sym (placed_settled v.joined 0 v.entries c.args.info.name) ∙ ap (λ s. placed_of s c.args.info.name) c.self.view_is ∙ c.requires in
    let unknown : find_entry v.joined c.args.info.name ≡ None =
    not_backed v.joined v.entries (backed_through v.joined v.opened v.entries c.self.invariant.0 c.self.invariant.1) c.args.info.name
    (unfound 0 v.entries c.args.info.name free) in
    ap (λ l. shown l v.joined v.opened v.realized v.failed v.position v.for_base)
    (c.in_ok-entries.ensures ∙ ap (λ x. v.entries ++ x ∷ []) c.in_ok-entry.ensures)
    ∙ ap (λ l. record (shown v.entries v.joined v.opened v.realized v.failed v.position v.for_base) { entries = l })
    (settled_more v.joined v.entries (e ∷ []) (unknown, tt))
    ∙ ap (λ s. pushed s c.args.info c.args.position) c.self.view_is
