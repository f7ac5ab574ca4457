use Rattle.std.proofs.Common.{◌∙◌, ap}
use Rattle.std.specs.Char.{encode_utf8}
use Rattle.lf_tables.specs.Rows.{value_of}
use Rattle.lf_token.proofs.words.named.Goals as goal

pub returns : goal.returns
unfolding encode_utf8
returns c = c.find.ensures.value ∙ ap (value_of c.args.text.now) c.new.ensures
