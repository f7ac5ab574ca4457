use Rattle.std.proofs.Common.{◌≡◌, ◌+◌, ◌∙◌, ap, arith}
use Rattle.std.proofs.lemmas.Grind.{common_steps}
use Rattle.lf_checker.specs.Run.{done}
use Rattle.lf_fields.proofs.Steps.{goes_on}
use Rattle.lf_fields.proofs.growing.+definitions.Goals as goal

pub returns-in_ok-next-in-Some-clause-value : goal.returns-in_ok-next-in-Some-clause-value
returns-in_ok-next-in-Some-clause-value g t c =
    let a = c.args in
    let of = a.of in
    let next : c.in_ok-next-in-Some.next ≡ c.args.i + 1 = grind (arith, common_steps) in
    goes_on (λ v. v.items) a.all.items c.put_in.new.all.items a.depth of.position of.owner.name.now of.owner.levels.now of.owner.params of.locals.now a.i
    c.in_ok-next-in-Some.next a.fields.now c.others-others.result.now a.grown.now c.put_in.new.grown a.ty.now c.in-Some.rest c.in-Some.info a.units.now
    c.first.new.units c.definitions-end.new.units c.definitions-end.result
    (c.in_ok-first.ensures.value ∙ ap (λ o. done o c.first.new.units) c.in-Some.is)
    c.in_ok-put_in-in-Some.ensures.all
    c.in_ok-put_in-in-Some.ensures.view
    next
    c.others-others.ensures.rest
    c.definitions-end.ensures.value
