use Rattle.std.proofs.Common.{rules}
use Rattle.lf_token.proofs.LinePlaces.{at_feed, at_other}
use Rattle.lf_token.proofs.place.past_one.Goals as goal

pub returns-then-c-eq10-clause-place : goal.returns-then-c-eq10-clause-place
returns-then-c-eq10-clause-place c = λ before h. at_feed before c.args.place c.args.c c.len_utf8.result (search rules) c.len_utf8.ensures.value h

pub returns-else-c-eq10-clause-place : goal.returns-else-c-eq10-clause-place
returns-else-c-eq10-clause-place c = λ before h. at_other before c.args.place c.args.c c.len_utf8.result (search rules) c.len_utf8.ensures.value h
