use Rattle.std.proofs.Common.{◌≡◌, ◌∙◌, ap, sym, subst, None, [], ◌∷◌, ◌++◌}
use Rattle.lf_checker.specs.View.{find_entry}
use Rattle.lf_env.specs.Layer.{AreBacked, entries_at, shown}
use Rattle.lf_env.proofs.Changes.{backed_grown}
use Rattle.lf_env.proofs.Joins.{fresh_helpers, distinct_helpers, header_unjoined, joined_backed, joined_view}
use Rattle.lf_env.proofs.view.View.join_branch.Goals as goal

pub with_all-requires-clause-fresh : goal.with_all-requires-clause-fresh
with_all-requires-clause-fresh c =
    let v = c.self.inside in
    fresh_helpers v.entries v.joined v.opened v.realized v.failed v.position v.for_base c.args.self.now c.self.view_is c.self.invariant.0 c.self.invariant.1
    c.args.position c.args.infos.items c.pop.new.self.items c.in-Some.info c.requires c.in-Some.ensures.items

pub with_all-requires-clause-distinct : goal.with_all-requires-clause-distinct
with_all-requires-clause-distinct c =
    let v = c.self.inside in
    distinct_helpers v.entries v.joined v.opened v.realized v.failed v.position v.for_base c.args.self.now c.self.view_is c.self.invariant.0 c.self.invariant.1
    c.args.position c.args.infos.items c.pop.new.self.items c.in-Some.info c.requires c.in-Some.ensures.items

pub with-requires : goal.with-requires
with-requires c =
    let v = c.self.inside in
    ap (λ e. find_entry v.joined e.info.name) c.in_ok-header-in-Some.ensures
    ∙ header_unjoined v.entries v.joined v.opened v.realized v.failed v.position v.for_base c.args.self.now c.self.view_is c.self.invariant.0 c.self.invariant.1
    c.args.position c.args.infos.items c.pop.new.self.items c.in-Some.info c.requires c.in-Some.ensures.items

pub invariant_of-self : goal.invariant_of-self
invariant_of-self c =
    let v = c.self.inside in
    let joined = c.in_ok-joined.ensures ∙ ap (λ e. v.joined ++ e ∷ []) c.in_ok-header-in-Some.ensures in (
      subst (λ l. AreBacked l v.opened) (sym joined)
          (joined_backed v.entries v.joined v.opened v.realized v.failed v.position v.for_base c.args.self.now c.self.view_is c.self.invariant.0
          c.self.invariant.1
          c.args.position c.args.infos.items c.pop.new.self.items c.in-Some.info c.requires c.in-Some.ensures.items),
      subst (λ l. AreBacked v.opened l) (sym c.in_ok-entries.ensures)
          (backed_grown v.opened v.entries (entries_at c.args.position c.pop.new.self.items) c.self.invariant.1),
    )

pub returns-clause-ok : goal.returns-clause-ok
returns-clause-ok c =
    let v = c.self.inside in
    let joined = c.in_ok-joined.ensures ∙ ap (λ e. v.joined ++ e ∷ []) c.in_ok-header-in-Some.ensures in
    ap (λ l. shown l c.in_ok-joined.joined v.opened v.realized v.failed v.position v.for_base) c.in_ok-entries.ensures
    ∙ ap (λ l. shown (v.entries ++ entries_at c.args.position c.pop.new.self.items) l v.opened v.realized v.failed v.position v.for_base) joined
    ∙ joined_view v.entries v.joined v.opened v.realized v.failed v.position v.for_base c.args.self.now c.self.view_is c.self.invariant.0 c.self.invariant.1
    c.args.position c.args.infos.items c.pop.new.self.items c.in-Some.info c.requires c.in-Some.ensures.items
