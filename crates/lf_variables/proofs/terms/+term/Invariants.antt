use Rattle.std.proofs.Common.{◌≡◌, ◌+◌, ◌*◌, ◌≤◌, ◌++◌, drop}
use Rattle.lf_syntax.specs.Tree.{terms_of, items_of, option_of}
use Rattle.lf_syntax.specs.TermNode.{lbinder_tree, lbinder_trees, rule_trees}
use Rattle.lf_syntax.specs.Size.{term_size, term_option_size, terms_size, lbinder_size, lbinders_size, item_size, items_size, rules_size}
use Rattle.lf_elaboration.specs.References.{terms_references, lbinders_references, items_references, rules_references}
use Rattle.lf_variables.proofs.terms.+term.Given as goal

abbrev pub decreases-term_references : goal.decreases-term_references
decreases-term_references l = 2 * term_size l.term.now

abbrev pub decreases-option_references : goal.decreases-option_references
decreases-option_references l = 2 * term_option_size (option_of l.term.now) + 1

abbrev pub decreases-terms_references : goal.decreases-terms_references
decreases-terms_references l = 2 * terms_size (terms_of l.terms.now) + 1

abbrev pub decreases-lbinder_references : goal.decreases-lbinder_references
decreases-lbinder_references l = 2 * lbinder_size (lbinder_tree l.binder.now)

abbrev pub decreases-lbinders_references : goal.decreases-lbinders_references
decreases-lbinders_references l = 2 * lbinders_size (lbinder_trees l.binders.now) + 1

abbrev pub decreases-item_references : goal.decreases-item_references
decreases-item_references l = 2 * item_size l.item.now

abbrev pub decreases-items_references : goal.decreases-items_references
decreases-items_references l = 2 * items_size (items_of l.items.now) + 1

abbrev pub decreases-rules_references : goal.decreases-rules_references
decreases-rules_references l = 2 * rules_size (rule_trees l.rules.now) + 1

-- in each loop: the references so far and those of what is left are those of all
abbrev pub invariant-terms_references-loop-term : goal.invariant-terms_references-loop-term
invariant-terms_references-loop-term l =
    record {
      told : l.all.items ++ terms_references (terms_of (drop l.term-index l.terms)) ≡ l.fn.all.items ++ terms_references (terms_of l.terms);
      rest : terms_size (terms_of (drop l.term-index l.terms)) ≤ terms_size (terms_of l.terms);
    }

abbrev pub invariant-lbinders_references-loop-binder : goal.invariant-lbinders_references-loop-binder
invariant-lbinders_references-loop-binder l =
    record {
      told : l.all.items ++ lbinders_references (lbinder_trees (drop l.binder-index l.binders))
          ≡ l.fn.all.items ++ lbinders_references (lbinder_trees l.binders);
      rest : lbinders_size (lbinder_trees (drop l.binder-index l.binders)) ≤ lbinders_size (lbinder_trees l.binders);
    }

abbrev pub invariant-items_references-loop-item : goal.invariant-items_references-loop-item
invariant-items_references-loop-item l =
    record {
      told : l.all.items ++ items_references (items_of (drop l.item-index l.items)) ≡ l.fn.all.items ++ items_references (items_of l.items);
      rest : items_size (items_of (drop l.item-index l.items)) ≤ items_size (items_of l.items);
    }

abbrev pub invariant-rules_references-loop-rule : goal.invariant-rules_references-loop-rule
invariant-rules_references-loop-rule l =
    record {
      told : l.all.items ++ rules_references (rule_trees (drop l.rule-index l.rules)) ≡ l.fn.all.items ++ rules_references (rule_trees l.rules);
      rest : rules_size (rule_trees (drop l.rule-index l.rules)) ≤ rules_size (rule_trees l.rules);
    }
