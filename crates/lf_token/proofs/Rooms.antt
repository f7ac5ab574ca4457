use Rattle.std.proofs.Common.{◌≡◌, ℕ, ◌+◌, ◌-◌, ◌≤◌, List, length, take, drop, true, sym, ap, ◌∙◌, arith}
use Rattle.std.specs.Str.{encode_utf8_all, all_scalars, IsCharBoundary}
use Rattle.std.proofs.lemmas.List.{length-drop, drop-drop}
use Rattle.std.proofs.lemmas.Str.{IsCharBoundary-from_drop}
use Rattle.lf_token.specs.Spelling.{width}
use Rattle.lf_token.proofs.Symbols.{width_within}
use Rattle.lf_token.proofs.Walks.{take_width, drop_width, scalars_drop}

-- the characters of a text from a place on, and a place behind some of them
pub record Room (text : List ℕ) (at end : ℕ) (piece : List ℕ) : Type 0 where
  pub within : end ≤ length text
  pub from : IsCharBoundary text at
  pub to : IsCharBoundary text end
  pub slice : take (end - at) (drop at text) ≡ encode_utf8_all piece

pub room_of : (text : List ℕ) (at end n : ℕ) (cs : List ℕ) → at ≤ length text → drop at text ≡ encode_utf8_all cs → all_scalars cs ≡ true → n ≤ length cs →
    end ≡ at + width (take n cs) → Room text at end (take n cs)
room_of text at end n cs l e s w f =
    let len : length (drop at text) ≡ width cs = ap length e in
    let rest : length (drop at text) ≡ length text - at = length-drop at text in
    let part : width (take n cs) ≤ width cs = width_within cs n w in
    let within : end ≤ length text = omega arith in
    let behind : drop end text ≡ encode_utf8_all (drop n cs) =
    ap (λ (k : ℕ). drop k text) f ∙ sym (drop-drop (width (take n cs)) at text) ∙ ap (drop (width (take n cs))) e ∙ drop_width n cs in
    record {
      within = within;
      from = IsCharBoundary-from_drop text at l (cs, (s, sym e));
      to = IsCharBoundary-from_drop text end within (drop n cs, (scalars_drop n cs s, sym behind));
      slice = ap (λ (k : ℕ). take k (drop at text)) (let a : end - at ≡ width (take n cs) = omega arith in a) ∙ ap (take (width (take n cs))) e
          ∙ take_width n cs;
    }
