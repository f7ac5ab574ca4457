use Rattle.std.proofs.Common.{◌≡◌, ◌++◌, drop}
use Rattle.lf_syntax.specs.TermNode.{lbinder_trees}
use Rattle.lf_elaboration.specs.Terms.{all_binders}
use Rattle.lf_forms.proofs.binders.all_binders.Given as goal

abbrev pub invariant-binders : goal.invariant-binders
invariant-binders l = l.all.items ++ all_binders (lbinder_trees (drop l.binder-index l.binders)) ≡ all_binders (lbinder_trees l.binders)
