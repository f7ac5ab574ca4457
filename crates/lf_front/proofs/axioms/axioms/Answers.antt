use Rattle.std.proofs.Common.{◌≡◌, sym, subst, ◌∙◌, All}
use Rattle.lf_rules.specs.Environment.{Environment}
use Rattle.lf_front.specs.Answers.{IsShallow}
use Rattle.lf_front.proofs.Declaring.{Forward, Backward, no_tokens, refused_at, read_at, ended, forward_step, backward_step, shallow_step, shorter}
use Rattle.lf_front.proofs.axioms.axioms.Goals as goal

pub returns-clause-reads : goal.returns-clause-reads
returns-clause-reads c = ended c.args.tokens.now c.axioms.constants c.axioms.rest.now c.axioms.invariant.forward
    (no_tokens c.axioms.rest.now (sym c.axioms-test.ensures))

pub returns-in-Err-clause-reads : goal.returns-in-Err-clause-reads
returns-in-Err-clause-reads c =
    refused_at c.args.tokens.now c.axioms.constants c.as_slice.result.now c.axioms.rest.now c.in-Err.refusal c.axioms.invariant.backward c.as_slice.ensures
    c.in-Err.ensures (sym c.axioms-test.ensures)

pub axioms-smaller : goal.axioms-smaller
axioms-smaller c = shorter c.axioms.constants c.axioms.rest.now c.in-Ok.constant c.in-Ok.behind.now
    (read_at c.axioms.constants c.as_slice.result.now c.axioms.rest.now _ c.as_slice.ensures c.in-Ok.ensures)

pub axioms-preserved : goal.axioms-preserved
axioms-preserved c =
    let read = read_at c.axioms.constants c.as_slice.result.now c.axioms.rest.now _ c.as_slice.ensures c.in-Ok.ensures in
    let kept = c.in_ok-keep-in-Ok.ensures in record {
      shallow = subst (All IsShallow) (sym kept)
          (shallow_step c.axioms.constants c.axioms.rest.now c.in-Ok.constant c.in-Ok.behind.now c.axioms.invariant.shallow read);
      forward = subst (λ (E : Environment). Forward c.args.tokens.now E c.in-Ok.behind.now) (sym kept)
          (forward_step c.args.tokens.now c.axioms.constants c.axioms.rest.now c.in-Ok.constant c.in-Ok.behind.now c.axioms.invariant.forward read);
      backward = subst (λ (E : Environment). Backward c.args.tokens.now E c.in-Ok.behind.now) (sym kept)
          (backward_step c.args.tokens.now c.axioms.constants c.axioms.rest.now c.in-Ok.constant c.in-Ok.behind.now c.axioms.invariant.backward read);
    }
