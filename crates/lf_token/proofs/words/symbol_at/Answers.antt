use Rattle.std.proofs.Common.{◌∙◌, ap, drop}
use Rattle.std.specs.Char.{encode_utf8}
use Rattle.lf_tables.specs.Rows.{longest_of}
use Rattle.lf_token.proofs.words.symbol_at.Goals as goal

pub returns : goal.returns
unfolding encode_utf8
returns c = c.longest.ensures ∙ ap (λ rows. longest_of rows (drop c.args.at c.args.text.now)) c.new.ensures
