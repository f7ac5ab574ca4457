use Rattle.std.proofs.Common.{◌≡◌, ℕ, ◌<◌, ◌≤◌, List, [], length, take, drop, Some, None, Option, arith, refl, sym, ap, ◌∙◌, ⊎_elim, subst}
use Rattle.std.proofs.lemmas.Bool.{cases_lt}
use Rattle.std.proofs.lemmas.List.{length-drop}
use Rattle.std.specs.Char.{encode_utf8}
use Rattle.std.specs.Str.{encode_utf8_all}
use Rattle.lf_tables.specs.Rows.{value_of, longest_of}
use Rattle.lf_text.specs.declared.token.TokenKind.{TokenKind}
use Rattle.lf_text.specs.Words.{symbols}
use Rattle.lf_token.specs.Spelling.{width}
use Rattle.lf_token.proofs.Spellings.{symbol_texts, symbol_width, symbol_among}
use Rattle.lf_token.proofs.Symbols.{width_within, width_rises_strictly, longest_in, longest_within, longest_passed, longest_value, length_of, take_width}
use Rattle.lf_token.proofs.Pieces.{symbol_at, bad_char_at}
use Rattle.lf_token.proofs.shape.symbol_shape.Goals as goal

-- no bytes, no characters
empty : (cs : List ℕ) (n : ℕ) → n ≤ length cs → 0 ≡ width (take n cs) → n ≡ 0
empty cs n l e =
    ⊎_elim
    (λ (u : 0 < n). let h : width (take 0 cs) < width (take n cs) = width_rises_strictly 0 n cs u l in absurd (omega arith))
    (λ (u : n ≤ 0). let z : n ≡ 0 = omega arith in z) (cases_lt 0 n)

-- the symbol that was found, as characters
record Found (cs : List ℕ) (bytes : ℕ) (k : TokenKind) : Type 0 where
  width_is : bytes ≡ width (take (longest_in symbol_texts cs) cs)
  value : value_of (encode_utf8_all (take (longest_in symbol_texts cs) cs)) symbols ≡ Some k
  some : 0 < longest_in symbol_texts cs

none_at_the_end : value_of (encode_utf8_all []) symbols ≡ None
unfolding encode_utf8
none_at_the_end = refl

no_symbol : {k : TokenKind} → value_of (encode_utf8_all []) symbols ≡ Some k → ⊥
no_symbol {k} e = absurd (none_some (sym none_at_the_end ∙ e))
  where
    none_some : ◌≡◌ {A = Option TokenKind} None (Some k) → ⊥
    none_some f = cc

found : (cs rest : List ℕ) (bytes : ℕ) (k : TokenKind) → rest ≡ encode_utf8_all cs → longest_of symbols rest ≡ Some (bytes, k) → Found cs bytes k
found cs rest bytes k e f =
    let n : ℕ = longest_in symbol_texts cs in
    let w : bytes ≡ width (take (longest_in symbol_texts cs) cs) = ap (λ o. length_of o) (sym f) ∙ symbol_width cs rest e in
    let v : value_of (encode_utf8_all (take (longest_in symbol_texts cs) cs)) symbols ≡ Some k =
    ap (λ (bs : List ℕ). value_of bs symbols) (sym (take_width n cs) ∙ ap (λ (m : ℕ). take m (encode_utf8_all cs)) (sym w))
    ∙ longest_value symbols (encode_utf8_all cs) bytes k (ap (longest_of symbols) (sym e) ∙ f) in
    record {
      width_is = w;
      value = v;
      some = ⊎_elim (λ (u : 0 < longest_in symbol_texts cs). u)
          (λ (u : longest_in symbol_texts cs ≤ 0). let z : longest_in symbol_texts cs ≡ 0 = omega arith in
          absurd (no_symbol (subst (λ (m : ℕ). value_of (encode_utf8_all (take m cs)) symbols ≡ Some k) z v)))
          (cases_lt 0 (longest_in symbol_texts cs));
    }

pub chars_in-requires : goal.chars_in-requires
chars_in-requires c =
    let cs = c.args.cs.now in
    let f : Found cs c.in-Some.bytes c.in-Some.kind =
    found cs (drop c.args.at c.args.text.now) c.in-Some.bytes c.in-Some.kind c.requires.spelled (sym c.in-Some.ensures) in
    let w : width (take (longest_in symbol_texts cs) cs) ≤ width cs = width_within cs (longest_in symbol_texts cs) (longest_within symbol_texts cs) in
    let l : length (drop c.args.at c.args.text.now) ≡ width cs = ap length c.requires.spelled in
    omega (arith, f.width_is, length-drop c.args.at c.args.text.now)

pub returns-in-None-clause-token : goal.returns-in-None-clause-token
returns-in-None-clause-token c =
    let cs = c.args.cs.now in
    let e : 0 ≡ width (take (longest_in symbol_texts cs) cs) =
    ap (λ o. length_of o) c.in-None.ensures ∙ symbol_width cs (drop c.args.at c.args.text.now) c.requires.spelled in
    let none : longest_in symbol_texts cs ≡ 0 = empty cs (longest_in symbol_texts cs) (longest_within symbol_texts cs) e in
    bad_char_at cs c.requires.some c.requires.no_part c.requires.no_digit (λ m l w. symbol_among (take m cs) ∙ longest_passed symbol_texts cs m (omega arith) w)

pub returns-in-Some : goal.returns-in-Some
returns-in-Some c =
    let cs = c.args.cs.now in
    let n : ℕ = longest_in symbol_texts cs in
    let f : Found cs c.in-Some.bytes c.in-Some.kind =
    found cs (drop c.args.at c.args.text.now) c.in-Some.bytes c.in-Some.kind c.requires.spelled (sym c.in-Some.ensures) in
    let within : longest_in symbol_texts cs ≤ length cs = longest_within symbol_texts cs in
    let exact : c.chars_in.result ≡ longest_in symbol_texts cs = c.chars_in.ensures n within f.width_is in
    record {
      token = symbol_at cs n c.in-Some.kind c.requires.some c.requires.no_part c.requires.no_digit f.some within f.value
          (λ m l w. symbol_among (take m cs) ∙ longest_passed symbol_texts cs m l w) ∙ ap (λ (m : ℕ). (Some c.in-Some.kind, m)) (sym exact);
      kind = λ k. cc;
      within = omega (arith, exact);
      some = omega (arith, exact, f.some);
    }
