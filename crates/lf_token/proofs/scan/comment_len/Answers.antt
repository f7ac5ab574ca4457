use Rattle.std.proofs.Common.{arith, sym, ◌∙◌}
use Rattle.lf_token.proofs.Comments.{still_opens, still_closes, still_other, never_closes}
use Rattle.lf_token.proofs.scan.comment_len.Goals as goal

pub characters-preserved-then-opens_comment : goal.characters-preserved-then-opens_comment
characters-preserved-then-opens_comment c = record {
  within = omega arith;
  depth = omega arith;
  same = still_opens c.args.cs.now c.characters.n c.characters.depth c.characters-test.true (sym c.opens_comment.ensures ∙ c.if-opens_comment.true)
      c.characters.invariant.same;
}

pub characters-preserved-then-closes_comment : goal.characters-preserved-then-closes_comment
characters-preserved-then-closes_comment c = record {
  within = omega arith;
  depth = omega arith;
  same = still_closes c.args.cs.now c.characters.n c.characters.depth c.characters-test.true (sym c.opens_comment.ensures ∙ c.if-opens_comment.false)
      (sym c.closes_comment.ensures ∙ c.if-closes_comment.true) (omega arith) c.characters.invariant.same;
}

pub characters-preserved : goal.characters-preserved
characters-preserved c = record {
  within = omega arith;
  depth = omega arith;
  same = still_other c.args.cs.now c.characters.n c.characters.depth c.characters-test.true (sym c.opens_comment.ensures ∙ c.if-opens_comment.false)
      (sym c.closes_comment.ensures ∙ c.if-closes_comment.false) c.characters.invariant.same;
}

pub returns-clause-value : goal.returns-clause-value
returns-clause-value c = never_closes c.args.cs.now c.characters.n c.characters.depth (omega arith) c.characters.invariant.within c.characters.invariant.same
