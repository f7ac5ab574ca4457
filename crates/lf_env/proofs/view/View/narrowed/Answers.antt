use Rattle.std.proofs.Common.{◌≡◌, ◌<◌, ◌∙◌, refl, ap, sym, subst, Some, None, List, [], ◌∷◌, ◌++◌, length, arith}
use Rattle.lf_checker.specs.View.{entries_before}
use Rattle.lf_env.specs.Layer.{AreBacked}
use Rattle.lf_env.proofs.Changes.{backed_before, narrowed_is}
use Rattle.lf_env.proofs.view.View.narrowed.Goals as goal

pub invariant_of-result : goal.invariant_of-result
invariant_of-result c =
    let v = c.self.inside in
    let l = c.args.limit in
    let e = c.in_ok-entries.ensures.kept in
    let j = c.in_ok-joined.ensures.kept in
    let o = c.in_ok-opened.ensures.kept in
    let first = backed_before l v.joined v.opened c.before-3.ensures.distinct c.before-4.ensures.distinct c.self.invariant.0 in
    let second = backed_before l v.opened v.entries c.before-4.ensures.distinct c.before-2.ensures.distinct c.self.invariant.1 in (
      subst (λ x. AreBacked x c.in_ok-opened.opened) (sym j) (subst (λ x. AreBacked (entries_before l v.joined) x) (sym o) first),
      subst (λ x. AreBacked x c.in_ok-entries.entries) (sym o) (subst (λ x. AreBacked (entries_before l v.opened) x) (sym e) second),
    )

pub returns : goal.returns
returns c =
    let v = c.self.inside in
    narrowed_is c.args.limit v.entries v.joined v.opened c.in_ok-entries.entries c.in_ok-joined.joined c.in_ok-opened.opened c.args.self.now
    c.args.answers.realized c.args.answers.failed v.realized v.failed c.args.position v.position c.args.for_base v.for_base
    c.before-2.ensures.distinct c.before-3.ensures.distinct c.before-4.ensures.distinct c.self.invariant.0 c.self.invariant.1
    c.in_ok-entries.ensures.kept c.in_ok-joined.ensures.kept c.in_ok-opened.ensures.kept c.self.view_is
