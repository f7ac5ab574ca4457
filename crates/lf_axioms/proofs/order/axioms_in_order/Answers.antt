use Rattle.std.proofs.Common.{[], ◌≡◌, ◌∙◌, ap, sym, subst, take, IfOk}
use Rattle.std.proofs.lemmas.List.{take_all}
use Rattle.lf_elaboration.specs.Axioms.{axioms_among}
use Rattle.lf_axioms.specs.Walked.{visited}
use Rattle.lf_axioms.specs.Slots.{Meets}
use Rattle.lf_axioms.proofs.Meeting.{nothing_meets, put_turn, somes_meet}
use Rattle.lf_axioms.proofs.order.axioms_in_order.Goals as goal

pub loop-constant-init : goal.loop-constant-init
loop-constant-init c = subst (λ ss. Meets ss [] c.args.view.now.entries) (sym c.new-slots.ensures.items) (nothing_meets c.args.view.now.entries)

pub loop-constant-preserved : goal.loop-constant-preserved
loop-constant-preserved c =
    put_turn c.args.view.now c.args.seen.now c.loop-constant.constant-index c.constant-item.result c.name.result.now c.loop-constant.slots.items
    c.put_axiom.new.slots.items c.requires c.loop-constant-test.true c.constant-item.is c.name.ensures c.in_ok-put_axiom.ensures c.loop-constant.invariant

pub returns : goal.returns
returns c =
    let es = c.args.view.now.entries in
    subst (λ l. IfOk c.names.result (λ all. all.items ≡ l))
    (somes_meet c.loop-constant.slots.items (visited (take c.loop-constant.constant-index c.args.seen.now)) es c.loop-constant.invariant
    ∙ ap (λ ks. axioms_among (visited ks) es) (take_all c.loop-constant.constant-index c.args.seen.now c.loop-constant-test.false))
    c.names.ensures
