use Rattle.std.proofs.Common.{◌≡◌, ◌∙◌, sym, ap, subst, refl, List, [], ◌∷◌, Ok}
use Rattle.lf_text.specs.declared.word.Word.TheVariants as words
use Rattle.lf_syntax.specs.declared.command.Helper.{Helper}
use Rattle.lf_syntax.specs.Piece.{Piece, word}
use Rattle.lf_syntax.specs.Symbol as symbol
use Rattle.lf_parse_term.specs.Descent.{ToldAs, behind, read}
use Rattle.lf_parse_term.specs.View.{piece, views}
use Rattle.lf_parse_term.specs.declared.piece.Spot.{Spot}
use Rattle.lf_parse_decl.proofs.Symbols.{read_helpers}
use Rattle.lf_parse_decl.proofs.helper.helpers.Goals as goal

block_told : (s : Spot) (h : Helper) (ts us vs rest : List Piece) → piece (word words.Where) s ∷ us ≡ ts → read (symbol.token words.LayoutOpen) us ≡ Ok (tt, vs)
    → read symbol.helper vs ≡ Ok (h, rest) → read symbol.helpers ts ≡ behind (h ∷ []) (read symbol.more_helpers rest)
unfolding behind
block_told s h ts us vs rest e f g =
    subst (λ (zs : List Piece). read symbol.helpers zs ≡ behind (h ∷ []) (read symbol.more_helpers rest)) e
    (read_helpers (piece (word words.Where) s ∷ us) ∙ rw f (rw g refl))

pub returns-in_ok-one-in-Word-Where-default-default-clause-told : goal.returns-in_ok-one-in-Word-Where-default-default-clause-told
returns-in_ok-one-in-Word-Where-default-default-clause-told c =
    let w = c.in-Word-Where-default-default in
    let p = c.in_ok-rest-in-Word-Where-default-default in
    let h = c.in_ok-first-in-Word-Where-default-default in
    let o = c.in_ok-one-in-Word-Where-default-default in
    subst (ToldAs c.more_helpers.result (λ v. v.items))
    (ap (λ (xs : List Helper). behind xs (read symbol.more_helpers (views h.rest.now))) o.ensures
    ∙ sym (block_told w.field-1 h.first (views c.args.toks.now) (views w.rest.now) (views p.rest.now) (views h.rest.now)
    (ap (λ v. piece (word v) w.field-1 ∷ views w.rest.now) (sym w.field-0-is) ∙ w.ensures.front) p.ensures.told h.ensures.told))
    c.more_helpers.ensures.told
