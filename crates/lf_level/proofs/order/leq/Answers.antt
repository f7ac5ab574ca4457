use Rattle.std.proofs.Common.{◌≡◌, ◌≤◌, ◌∙◌, ap, arith, length}
use Rattle.lf_level.specs.Parameters.{parameters_of}
use Rattle.lf_level.proofs.Decided.{leq_answer}
use Rattle.lf_level.proofs.Tried_values.{leq_told}
use Rattle.lf_level.proofs.order.leq.Goals as goal

pub returns : goal.returns
returns c =
    let u = c.args.u.now in
    let v = c.args.v.now in
    let names = c.in_ok-names.ensures in
    let ns = c.as_slice-names.result.now in
    let is : ns ≡ parameters_of u v = c.as_slice-names.ensures ∙ names.0 in
    let few : length ns ≤ 8 = omega (arith, ap length c.as_slice-names.ensures, names.1) in
    let b = c.in_ok-holds.field-0 in (
      omega (arith, ap length is, few),
      leq_answer u v ns b is c.requires.left c.requires.right c.requires.right_depth
          (leq_told u v ns b few c.in_ok-holds.ensures),
    )
