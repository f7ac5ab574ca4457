-- The tokens of a text begin and end between two of its characters.
use Rattle.std.proofs.Common.{◌≡◌, ℕ, ◌+◌, List, [], ◌∷◌, ◌++◌, Bool, true, false, ◌&&◌, length, refl, sym, ap, ◌∙◌, subst, append_assoc, length-append}
use Rattle.std.specs.List.{AllByRecursion}
use Rattle.std.specs.Str.{IsUtf8, IsCharBoundary, chars, encode_utf8_all, all_scalars}
use Rattle.std.proofs.lemmas.Str.{IsCharBoundary-at_seam, encodes-append, encodes-chars, scalars-chars}
use Rattle.std.proofs.lemmas.List.Elements.{All-from_recursion}
use Rattle.lf_text.specs.declared.token.Token.{Token}
use Rattle.lf_token.specs.Cover.{Covers}
use Rattle.lf_token.specs.Spelling.{width}
use Rattle.lf_parse_cmd.specs.Within.{Within, AllWithin}

both : (a b : Bool) → a && b ≡ true → b ≡ true
both true b e = e
both false b e = cc

scalars_behind : (xs ys : List ℕ) → all_scalars (xs ++ ys) ≡ true → all_scalars ys ≡ true
scalars_behind [] ys e = e
scalars_behind (x ∷ xs) ys e = scalars_behind xs ys (both _ (all_scalars (xs ++ ys)) e)

width_append : (xs ys : List ℕ) → width (xs ++ ys) ≡ width xs + width ys
width_append xs ys = ap length (encodes-append xs ys) ∙ length-append (encode_utf8_all xs) (encode_utf8_all ys)

boundary : (bytes before behind : List ℕ) → bytes ≡ encode_utf8_all (before ++ behind) → all_scalars behind ≡ true → IsCharBoundary bytes (width before)
boundary bytes before behind e s =
    IsCharBoundary-at_seam bytes (encode_utf8_all before) (encode_utf8_all behind) (e ∙ encodes-append before behind) (behind, (s, refl))

covered : (bytes before cs : List ℕ) (at : ℕ) (ts : List Token) → bytes ≡ encode_utf8_all (before ++ cs) → all_scalars cs ≡ true → at ≡ width before
    → Covers at cs ts → AllByRecursion (Within bytes) ts
covered bytes before cs at [] e s w c = tt
covered bytes before cs at (t ∷ ts) e s w (gap, text, rest, same, blank, from, len, more) =
    let e' : bytes ≡ encode_utf8_all ((before ++ gap) ++ (text ++ rest)) =
    e ∙ ap (λ (ds : List ℕ). encode_utf8_all (before ++ ds)) same ∙ ap encode_utf8_all (sym (append_assoc before gap (text ++ rest))) in
    let s' : all_scalars (text ++ rest) ≡ true = scalars_behind gap (text ++ rest) (subst (λ (ds : List ℕ). all_scalars ds ≡ true) same s) in
    let e'' : bytes ≡ encode_utf8_all (((before ++ gap) ++ text) ++ rest) = e' ∙ ap encode_utf8_all (sym (append_assoc (before ++ gap) text rest)) in
    let s'' : all_scalars rest ≡ true = scalars_behind text rest s' in
    let first : t.at ≡ width (before ++ gap) = from ∙ ap (λ (n : ℕ). n + width gap) w ∙ sym (width_append before gap) in
    let last : t.at + t.len ≡ width ((before ++ gap) ++ text) =
    ap (λ (n : ℕ). n + t.len) first ∙ ap (λ (n : ℕ). width (before ++ gap) + n) len ∙ sym (width_append (before ++ gap) text) in
    let begins : IsCharBoundary bytes t.at = subst (IsCharBoundary bytes) (sym first) (boundary bytes (before ++ gap) (text ++ rest) e' s') in
    let ends : IsCharBoundary bytes (t.at + t.len) = subst (IsCharBoundary bytes) (sym last) (boundary bytes ((before ++ gap) ++ text) rest e'' s'') in
    ((begins, ends), covered bytes ((before ++ gap) ++ text) rest (t.at + t.len) ts e'' s'' last more)

pub all_within : (bytes : List ℕ) (ts : List Token) → IsUtf8 bytes → Covers 0 (chars bytes) ts → AllWithin bytes ts
all_within bytes ts u c =
    All-from_recursion (Within bytes) ts (covered bytes [] (chars bytes) 0 ts (sym (encodes-chars bytes u)) (scalars-chars bytes u) refl c)
