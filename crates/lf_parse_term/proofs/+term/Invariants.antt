use Rattle.std.proofs.Common.{◌≡◌, ℕ, ◌+◌, ◌*◌, ◌≤◌, [], map, length}
use Rattle.lf_syntax.specs.Levels.{operand_level}
use Rattle.lf_syntax.specs.Symbol as symbol
use Rattle.lf_syntax.specs.TermNode.{lbinder_tree, rule_tree}
use Rattle.lf_parse_term.specs.Descent.{behind, read}
use Rattle.lf_parse_term.specs.Spine.{chained, extended}
use Rattle.lf_parse_term.specs.View.{views}
use Rattle.lf_parse_term.proofs.+term.Given as goal

abbrev pub decreases-terms::arguments : goal.decreases-terms::arguments
decreases-terms::arguments l = 8 * length l.toks.now + 1

abbrev pub decreases-terms::arrow_behind : goal.decreases-terms::arrow_behind
decreases-terms::arrow_behind l = 8 * length l.toks.now

abbrev pub decreases-items::block : goal.decreases-items::block
decreases-items::block l = 8 * length l.toks.now

abbrev pub decreases-terms::brace_arrow : goal.decreases-terms::brace_arrow
decreases-terms::brace_arrow l = 8 * length l.toks.now

abbrev pub decreases-terms::bracket : goal.decreases-terms::bracket
decreases-terms::bracket l = 8 * length l.toks.now + 4

abbrev pub decreases-terms::bracket_arrow : goal.decreases-terms::bracket_arrow
decreases-terms::bracket_arrow l = 8 * length l.toks.now + 5

abbrev pub decreases-terms::bracket_end : goal.decreases-terms::bracket_end
decreases-terms::bracket_end l = 8 * length l.toks.now + 3

abbrev pub decreases-terms::bracket_named : goal.decreases-terms::bracket_named
decreases-terms::bracket_named l = 8 * length l.toks.now + 4

abbrev pub decreases-terms::by_term : goal.decreases-terms::by_term
decreases-terms::by_term l = 8 * length l.toks.now + 1

abbrev pub decreases-terms::chain : goal.decreases-terms::chain
decreases-terms::chain l = 8 * length l.toks.now

abbrev pub decreases-terms::closed : goal.decreases-terms::closed
decreases-terms::closed l = 8 * length l.toks.now

abbrev pub decreases-terms::element : goal.decreases-terms::element
decreases-terms::element l = 8 * length l.toks.now

abbrev pub decreases-terms::forall_term : goal.decreases-terms::forall_term
decreases-terms::forall_term l = 8 * length l.toks.now + 2

abbrev pub decreases-terms::fun_term : goal.decreases-terms::fun_term
decreases-terms::fun_term l = 8 * length l.toks.now + 2

abbrev pub decreases-terms::group : goal.decreases-terms::group
decreases-terms::group l = 8 * length l.toks.now + 4

abbrev pub decreases-terms::group_names : goal.decreases-terms::group_names
decreases-terms::group_names l = 8 * length l.toks.now + 4

abbrev pub decreases-terms::implicit_end : goal.decreases-terms::implicit_end
decreases-terms::implicit_end l = 8 * length l.toks.now

abbrev pub decreases-items::item : goal.decreases-items::item
decreases-items::item l = 8 * length l.toks.now

abbrev pub decreases-terms::lambda_binder : goal.decreases-terms::lambda_binder
decreases-terms::lambda_binder l = 8 * length l.toks.now + 1

abbrev pub decreases-terms::lambda_binders : goal.decreases-terms::lambda_binders
decreases-terms::lambda_binders l = 8 * length l.toks.now + 1

abbrev pub decreases-terms::let_term : goal.decreases-terms::let_term
decreases-terms::let_term l = 8 * length l.toks.now

abbrev pub decreases-items::more_items : goal.decreases-items::more_items
decreases-items::more_items l = 8 * length l.toks.now

abbrev pub decreases-items::more_rules : goal.decreases-items::more_rules
decreases-items::more_rules l = 8 * length l.toks.now

abbrev pub decreases-terms::named_close : goal.decreases-terms::named_close
decreases-terms::named_close l = 8 * length l.toks.now

abbrev pub decreases-terms::names_end : goal.decreases-terms::names_end
decreases-terms::names_end l = 8 * length l.toks.now + 3

abbrev pub decreases-terms::operation_of : goal.decreases-terms::operation_of
decreases-terms::operation_of l = 8 * length l.toks.now + 2

abbrev pub decreases-items::rule : goal.decreases-items::rule
decreases-items::rule l = 8 * length l.toks.now + 4

abbrev pub decreases-terms::some_lambda_binder : goal.decreases-terms::some_lambda_binder
decreases-terms::some_lambda_binder l = 8 * length l.toks.now

abbrev pub decreases-terms::term : goal.decreases-terms::term
decreases-terms::term l = 8 * length l.toks.now + 3

abbrev pub decreases-terms::type_option : goal.decreases-terms::type_option
decreases-terms::type_option l = 8 * length l.toks.now

abbrev pub invariant-terms::chain-list : goal.invariant-terms::chain-list
invariant-terms::chain-list l = record {
  told : chained l.fn.first (read (symbol.operators l.fn.least operand_level) (views l.fn.toks))
      ≡ chained l.left (read (symbol.operators l.least l.level) (views l.rest));
  shorter : length l.rest ≤ length l.fn.toks;
}

abbrev pub decreases-terms::chain-list : goal.decreases-terms::chain-list
decreases-terms::chain-list l = length l.rest

abbrev pub invariant-terms::arguments-list : goal.invariant-terms::arguments-list
invariant-terms::arguments-list l = record {
  told : extended l.fn.terms.items (read symbol.arguments (views l.fn.toks)) ≡ extended l.all.items (read symbol.arguments (views l.rest));
  shorter : length l.rest ≤ length l.fn.toks;
  within : length l.rest + length l.all.items ≤ length l.fn.terms.items + length l.fn.toks;
}

abbrev pub decreases-terms::arguments-list : goal.decreases-terms::arguments-list
decreases-terms::arguments-list l = length l.rest

abbrev pub invariant-terms::group_names-list : goal.invariant-terms::group_names-list
invariant-terms::group_names-list l = record {
  told : read (symbol.group_names l.at [] l.fn.first) (views l.fn.toks) ≡ read (symbol.group_names l.at l.before.items l.last) (views l.rest);
  shorter : length l.rest ≤ length l.fn.toks;
}

abbrev pub decreases-terms::group_names-list : goal.decreases-terms::group_names-list
decreases-terms::group_names-list l = length l.rest

abbrev pub invariant-terms::lambda_binders-list : goal.invariant-terms::lambda_binders-list
invariant-terms::lambda_binders-list l = record {
  told : behind (map lbinder_tree l.fn.first.items) (read symbol.lambda_binders (views l.fn.toks))
      ≡ behind (map lbinder_tree l.all.items) (read symbol.lambda_binders (views l.rest));
  shorter : length l.rest ≤ length l.fn.toks;
}

abbrev pub decreases-terms::lambda_binders-list : goal.decreases-terms::lambda_binders-list
decreases-terms::lambda_binders-list l = length l.rest

abbrev pub invariant-items::more_items-list : goal.invariant-items::more_items-list
invariant-items::more_items-list l = record {
  told : behind l.fn.first.items (read symbol.more_items (views l.fn.toks)) ≡ behind l.all.items (read symbol.more_items (views l.rest));
  shorter : length l.rest ≤ length l.fn.toks;
}

abbrev pub decreases-items::more_items-list : goal.decreases-items::more_items-list
decreases-items::more_items-list l = length l.rest

abbrev pub invariant-items::more_rules-list : goal.invariant-items::more_rules-list
invariant-items::more_rules-list l = record {
  told : behind (map rule_tree l.fn.first.items) (read symbol.more_rules (views l.fn.toks))
      ≡ behind (map rule_tree l.all.items) (read symbol.more_rules (views l.rest));
  shorter : length l.rest ≤ length l.fn.toks;
}

abbrev pub decreases-items::more_rules-list : goal.decreases-items::more_rules-list
decreases-items::more_rules-list l = length l.rest
