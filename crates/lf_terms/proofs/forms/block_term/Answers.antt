use Rattle.lf_syntax.specs.Tree.{items_of}
use Rattle.lf_terms.proofs.Lists.{items_back}
use Rattle.lf_terms.proofs.forms.block_term.Goals as goal

pub returns-clause-value : goal.returns-clause-value
returns-clause-value g c u = rw (items_back c.args.items.now, ← c.in_ok-shared.ensures) (c.by_block.ensures.value u)
