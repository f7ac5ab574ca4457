use Rattle.std.proofs.Common.{◌≡◌, ℕ, ◌+◌, get_or, true, take, drop, sym, ap, subst, ◌∙◌}
use Rattle.lf_text.specs.Lexemes.{starts_part, token_at}
use Rattle.std.proofs.lemmas.Grind.{get_or_default_zero}
use Rattle.lf_token.specs.declared.shape.Shape.TheVariants.{Name}
use Rattle.lf_token.specs.Scan.{tail_len, kind_by}
use Rattle.lf_token.proofs.Logic.{slice_end}
use Rattle.lf_token.proofs.Pieces.{name_at}
use Rattle.lf_token.proofs.shape.token_shape.Goals as goal

pub returns-then-starts_part-clause-token : goal.returns-then-starts_part-clause-token
returns-then-starts_part-clause-token c =
    let cs = c.args.cs.now in
    let item : c.index-cs-0.result ≡ get_or cs 0 0 = c.index-cs-0.is ∙ get_or_default_zero cs 0 c.index-cs-0.result c.requires.some in
    let start : starts_part (get_or cs 0 0) ≡ true = sym (c.starts_part.ensures ∙ ap starts_part item) ∙ c.if-starts_part.true in
    let tail : c.tail_len.result ≡ tail_len (drop 1 cs) = c.tail_len.ensures.value ∙ ap tail_len (slice_end 1 cs) in
    subst (λ (n : ℕ). token_at cs ≡ (kind_by Name (take (n + 1) cs), n + 1)) (sym tail) (name_at cs c.requires.some start)
