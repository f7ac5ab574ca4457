use Rattle.std.proofs.Common.{◌≡◌, ℕ, ◌+◌, List, [], ◌∷◌, ◌++◌, take, get_or, sym, ap, ◌∙◌, subst, arith, append_assoc}
use Rattle.std.proofs.lemmas.Grind.{get_or_default_zero}
use Rattle.std.proofs.lemmas.List.{take_more}
use Rattle.std.specs.Char.{len_utf8}
use Rattle.lf_token.specs.Places.{IsAt}
use Rattle.lf_token.specs.Spelling.{width}
use Rattle.lf_token.proofs.Symbols.{width_step}
use Rattle.lf_token.proofs.LinePlaces.{take_whole}
use Rattle.lf_token.proofs.place.past.Goals as goal

pub characters-preserved : goal.characters-preserved
characters-preserved c =
    let cs = c.args.cs.now in
    let i = c.characters.c-index in
    let item : c.c-item.result ≡ get_or cs i 0 = c.c-item.is ∙ get_or_default_zero cs i c.c-item.result c.characters-test.true in
    record {
      place = λ before h.
          subst (λ (xs : List ℕ). IsAt xs c.past_one-end.result)
          (append_assoc before (take i cs) (c.c-item.result ∷ [])
          ∙ ap (λ (xs : List ℕ). before ++ xs) (ap (λ (x : ℕ). take i cs ++ x ∷ []) item ∙ sym (take_more cs i 0 c.characters-test.true)))
          (c.past_one-end.ensures.place (before ++ take i cs) (c.characters.invariant.place before h));
      width = let step : width (take (i + 1) cs) ≡ width (take i cs) + len_utf8 (get_or cs i 0) = width_step cs i c.characters-test.true in
          let len : len_utf8 c.c-item.result ≡ len_utf8 (get_or cs i 0) =
          ap len_utf8 item in omega (arith, c.past_one-end.ensures.at, c.characters.invariant.width);
      at = omega arith;
      line = omega arith;
      column = omega arith;
    }

pub returns-clause-place : goal.returns-clause-place
returns-clause-place c = λ before h.
    subst (λ (xs : List ℕ). IsAt (before ++ xs) c.characters.end) (take_whole c.characters.c-index c.args.cs.now c.characters-test.false)
    (c.characters.invariant.place before h)

pub returns-clause-at : goal.returns-clause-at
returns-clause-at c = c.characters.invariant.width
    ∙ ap (λ (xs : List ℕ). c.args.place.at + width xs) (take_whole c.characters.c-index c.args.cs.now c.characters-test.false)
