use Rattle.std.proofs.Common.{◌≡◌, ◌<◌, ◌∙◌, refl, ap, sym, subst, Option, Some, None, List, [], ◌∷◌, ◌++◌, length, arith, append-nil}
use Rattle.lf_checker.specs.View.{find_entry}
use Rattle.lf_env.specs.Layer.{entries_at}
use Rattle.lf_env.proofs.Changes.{next_fresh, one_pushed, left_over}
use Rattle.lf_env.proofs.listing.Listing.with_all.Goals as goal

pub with-requires : goal.with-requires
with-requires c =
    let left = ap (λ l. c.loop-info.yielded ++ l) (sym c.in-Some.ensures.steps.0) ∙ c.loop-info.invariant.left in
    ap (λ e. find_entry c.loop-info.all e.info.name) c.in_ok-new.ensures ∙ ap (λ l. find_entry l c.in-Some.info.name) c.loop-info.invariant.pushed
    ∙ next_fresh c.args.self.now c.args.position c.args.infos.items c.loop-info.yielded c.in-Some.info c.next.new.self.rest.items left c.requires.fresh
    c.requires.distinct

pub loop-info-preserved : goal.loop-info-preserved
loop-info-preserved c = record {
  pushed =
      c.in_ok-all-2.ensures ∙ ap (λ l. l ++ c.in_ok-new.field-0 ∷ []) c.loop-info.invariant.pushed
      ∙ ap (λ e. (c.args.self.now ++ entries_at c.args.position c.loop-info.yielded) ++ e ∷ []) c.in_ok-new.ensures
      ∙ one_pushed c.args.self.now c.args.position c.loop-info.yielded c.in-Some.info;
  left =
      left_over c.loop-info.yielded [] c.args.infos.items c.loop-info.info-iterator.rest.items c.next.new.self.rest.items c.in-Some.info
      c.loop-info.invariant.left c.in-Some.ensures.steps.0;
}
