use Rattle.std.proofs.Common.{ℕ, ◌-◌, ◌<◌, get_or, arith, rules, subst, leb}
use Rattle.std.proofs.lemmas.Fn.{always_returns_same}
use Rattle.lf_text.proofs.StartsLemmas.{Parts, parts_of, Before, before_first_feed, behind_feed, LineAt-boundary}
use Rattle.lf_text.proofs.text.line_before.Goals as goal

pub returns-then-feeds-eq0 : goal.returns-then-feeds-eq0
returns-then-feeds-eq0 c =
    let p : Parts c.args.starts.now c.args.at c.partition_point-feeds.result =
    parts_of c.args.text.now c.args.starts.now c.args.at c.partition_point-feeds.result c.requires.starts c.partition_point-feeds.ensures.bound
    (c.partition_point-feeds.ensures.partitioned (λ y. leb y c.args.at) (always_returns_same _ _ _ (λ a r f k. search rules))) in
    let none : Parts c.args.starts.now c.args.at 0 = subst (λ (n : ℕ). Parts c.args.starts.now c.args.at n) c.if-feeds-eq0.true p in
    let b : Before c.args.text.now c.args.at 0 0 = before_first_feed c.args.text.now c.args.starts.now c.args.at c.requires.starts c.requires.within none in
    record {
      feeds = b.feeds;
      before = b.line.before;
      boundary = LineAt-boundary c.args.text.now c.args.at 0 c.utf8.text c.requires.within b.line;
      line = b.line.line;
    }

pub returns : goal.returns
returns c =
    let n = c.partition_point-feeds.result in
    let p : Parts c.args.starts.now c.args.at c.partition_point-feeds.result =
    parts_of c.args.text.now c.args.starts.now c.args.at c.partition_point-feeds.result c.requires.starts c.partition_point-feeds.ensures.bound
    (c.partition_point-feeds.ensures.partitioned (λ y. leb y c.args.at) (always_returns_same _ _ _ (λ a r f k. search rules))) in
    let some : 0 < c.partition_point-feeds.result = omega arith in
    let b : Before c.args.text.now c.args.at n (get_or c.args.starts.now (n - 1) 0) =
    behind_feed c.args.text.now c.args.starts.now c.args.at n c.requires.starts c.requires.within some p in
    record {
      feeds = b.feeds;
      before = b.line.before;
      boundary = LineAt-boundary c.args.text.now c.args.at (get_or c.args.starts.now (n - 1) 0) c.utf8.text c.requires.within b.line;
      line = b.line.line;
    }
