use Rattle.std.proofs.Common.{◌≡◌, Bool, true, List, length, ap, map, ◌∙◌}
use mathlib.Core.Bool.{beq}
use Rattle.std.specs.Cmp.Lexicographic.{pointwise}
use Rattle.std.proofs.lemmas.List.{length-map}
use Rattle.lf_elaboration.specs.Variables.{takes}
use Rattle.lf_elaboration.specs.declared.reference.Reference.{Reference}
use Rattle.lf_elaboration.specs.declared.variable.Variable.{Variable}
use Rattle.lf_variables.specs.Chosen.{chosen}
use Rattle.lf_variables.proofs.Taking.{all_taken, flags_are, next_round}
use Rattle.lf_variables.proofs.rounds.taken.Goals as goal

-- the flags of a round
abbrev flags : List Variable → List Reference → List Variable → List Bool
flags vs rs ts = map (λ v. takes vs rs ts v.kind v) vs

pub returns-then-eq : goal.returns-then-eq
returns-then-eq c =
    let same : pointwise beq c.in_ok-next.next.items c.loop-steps.flags.items ≡ true = cc in
    all_taken
    c.args.variables.now
    c.args.header.now
    c.loop-steps._steps
    c.loop-steps.all.items
    c.loop-steps.flags.items
    c.in_ok-next.next.items
    c.loop-steps-test.true
    c.loop-steps.invariant.told
    c.loop-steps.invariant.steps
    (c.in_ok-next.ensures ∙ ap (flags c.args.variables.now c.args.header.now) c.deref.ensures.value)
    (flags_are c.in_ok-next.next.items c.loop-steps.flags.items same)

pub loop-steps-preserved : goal.loop-steps-preserved
loop-steps-preserved c =
    let vs = c.args.variables.now in
    let next = c.in_ok-next.ensures ∙ ap (flags vs c.args.header.now) c.deref.ensures.value in
    let told = c.in_ok-all.ensures ∙ ap (chosen vs) c.deref-in-loop-steps.ensures.value in
    record {
      fit = ap length next ∙ length-map vs _;
      told = told;
      steps =
          next_round
          vs
          c.args.header.now
          c.loop-steps._steps
          c.loop-steps.all.items
          c.in_ok-all.all.items
          c.in_ok-next.next.items
          c.loop-steps.invariant.steps
          next
          told;
    }
