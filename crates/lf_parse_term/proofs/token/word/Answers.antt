use Rattle.std.proofs.Common.{◌≡◌, ◌∙◌, sym, rules}
use denote.Enum.Bare.{same_true}
use Rattle.lf_text.specs.contracts.word.Word.{the_type}
use Rattle.lf_parse_term.specs.View.{views}
use Rattle.lf_parse_term.proofs.Laws.{word_taken}
use Rattle.lf_parse_term.proofs.token.word.Goals as goal

pub returns-in-Word-clause-told : goal.returns-in-Word-clause-told
returns-in-Word-clause-told c =
    let e : c.in-Word.found ≡ c.args.word = same_true the_type (search rules) _ _ (sym c.eq.ensures ∙ c.if-eq.true) in
    word_taken c.args.word c.in-Word.found c.in-Word.field-1 (views c.in-Word.rest.now) (views c.args.toks.now) e c.in-Word.ensures.front
