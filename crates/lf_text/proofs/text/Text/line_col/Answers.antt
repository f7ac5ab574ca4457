use Rattle.std.proofs.Common.{◌≡◌, ℕ, ◌∙◌, ap, rules, List, length, take, sym}
use Rattle.std.proofs.lemmas.Str.{chars_from_encodes}
use Rattle.std.specs.List.{after_last}
use Rattle.std.specs.Str.{chars}
use Rattle.lf_text.specs.Place.{is_line_feed, column_of}
use Rattle.lf_text.proofs.StartsLemmas.{slice_line}
use Rattle.lf_text.proofs.text.Text.line_col.Goals as goal

pub returns-clause-column : goal.returns-clause-column
returns-clause-column c =
    let count : c.count-column.result ≡ length (chars c.range.result.now) = search (rules, chars_from_encodes) in
    let text : c.as_str-text.result.now ≡ c.args.self.now = search rules in
    let part : c.range.result.now ≡ after_last is_line_feed (take c.args.at c.as_str-text.result.now) =
    c.range.ensures.value ∙ slice_line c.as_str-text.result.now c.args.at c.line_before-feeds.result.1 c.line_before-feeds.ensures.before
    ∙ sym c.line_before-feeds.ensures.line in
    count ∙ ap (λ (line : List ℕ). length (chars line)) part ∙ ap (λ (bytes : List ℕ). column_of bytes c.args.at) text
