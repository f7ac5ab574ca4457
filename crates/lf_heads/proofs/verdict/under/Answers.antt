use Rattle.std.proofs.Common.{◌≡◌, sym, arith, length}
use Rattle.lf_heads.proofs.Theres.{no_parent}
use Rattle.lf_heads.proofs.verdict.under.Goals as goal

pub returns-then-is_empty : goal.returns-then-is_empty
returns-then-is_empty c =
    let empty : length c.args.front.now ≡ 0 = grind (arith, c.if-is_empty.ensures, c.is_empty.ensures, c.if-is_empty.true) in
    sym (no_parent c.args.view.now c.args.front.now c.args.suffix _ _ empty c.names_have_parts.ensures)
