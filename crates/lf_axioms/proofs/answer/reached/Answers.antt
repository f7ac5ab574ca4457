use Rattle.std.proofs.Common.{◌≡◌, ◌∙◌, ap, sym, subst, Err}
use Rattle.lf_elaboration.specs.Axioms as axioms
use Rattle.lf_elaboration.specs.Axioms.{axioms_by, ended}
use Rattle.lf_axioms.specs.Walked.{todo, visited, Answers}
use Rattle.lf_axioms.proofs.Steps.{whole_ended, whole_halted}
use Rattle.lf_axioms.proofs.answer.reached.Goals as goal

pub returns-in-Ok-run : goal.returns-in-Ok-run
returns-in-Ok-run c =
    whole_ended c.args.view.now c.args.name.now (visited c.run.new.seen.keys) (visited c.new-seen.result.keys) (todo c.in-Ok.stack.items) c.listed.result
    (ap visited c.new-seen.ensures.empty) c.in-Ok.ensures c.in-Ok-run.ensures
    (subst (λ ks. Answers (axioms_by c.args.view.now (ended (visited ks))) c.listed.result) c.as_slice.ensures.keys c.listed.ensures)

pub returns : goal.returns
returns c =
    subst (Answers (axioms.reached c.args.view.now c.args.name.now)) (sym c.told.ensures)
    (whole_halted c.args.view.now c.args.name.now c.in-Err-run.halt (visited c.new-seen.result.keys) (todo c.in-Ok.stack.items)
    (ended (visited c.run.new.seen.keys)) (ap visited c.new-seen.ensures.empty) c.in-Ok.ensures c.in-Err-run.ensures)
