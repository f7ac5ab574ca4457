use Rattle.std.proofs.Common.{◌≡◌, map, flat_map, sym, ◌∙◌, arith}
use Rattle.std.proofs.lemmas.Grind.{common_steps}
use Rattle.lf_syntax.specs.TermNode.{binders_tree}
use Rattle.lf_elaboration.specs.Variables.{in_group}
use Rattle.lf_scope.proofs.Lists.{flattened}
use Rattle.lf_scope.proofs.declared.variable_list.Goals as goal

pub returns : goal.returns
returns c =
    let whole : c.loop-groups.all.items ≡ flat_map (λ bs. flat_map in_group (map binders_tree bs)) c.args.chain.now = grind (arith, common_steps) in
    whole ∙ sym (flattened c.args.chain.now)
