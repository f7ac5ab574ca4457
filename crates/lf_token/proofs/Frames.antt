use Rattle.std.proofs.Common.{
  ◌≡◌,
  ℕ,
  ◌+◌,
  ◌-◌,
  ◌≤◌,
  ◌<◌,
  List,
  [],
  ◌∷◌,
  ◌++◌,
  length,
  take,
  drop,
  reverse,
  Bool,
  true,
  false,
  cond,
  refl,
  sym,
  ap,
  ◌∙◌,
  arith,
  zero,
  suc,
  count_by,
}
use Rattle.std.specs.Prelude.{replicate, nat_lt}
use Rattle.std.specs.List.{prefix_len}
use Rattle.std.proofs.lemmas.List.{reverse-append, length-drop, length-reverse, take-append-drop}
use Rattle.std.proofs.lemmas.Bool.{lt-ltb}
use Rattle.std.proofs.Math.Seq.{drop-append_seam}
use Rattle.std.proofs.lemmas.List.Recursion.{is_count_by}
use Rattle.lf_text.specs.declared.frame.Frame.{Frame}
use Rattle.lf_text.specs.declared.frame.Frame.TheVariants.{Block, Bracket}
use Rattle.lf_text.specs.declared.token.Token.{Token}
use Rattle.lf_text.specs.declared.word.Word.TheVariants.{LayoutClose}
use Rattle.lf_text.specs.Layout.{Put, mark, close, is_block, is_bracket, is_deeper}

-- the last n frames taken off
pub reverse_truncate : (xs : List Frame) (n : ℕ) → n ≤ length xs → reverse (take (length xs - n) xs) ≡ drop n (reverse xs)
reverse_truncate xs n l =
    let k : ℕ = length xs - n in
    let all : take (length xs - n) xs ++ drop (length xs - n) xs ≡ xs = take-append-drop (length xs - n) xs in
    let turned : reverse xs ≡ reverse (drop (length xs - n) xs) ++ reverse (take (length xs - n) xs) =
    ap reverse (sym all) ∙ reverse-append (take (length xs - n) xs) (drop (length xs - n) xs) in
    let len : length (reverse (drop (length xs - n) xs)) ≡ n =
    length-reverse (drop (length xs - n) xs) ∙ length-drop (length xs - n) xs ∙ (let e : length xs - (length xs - n) ≡ n = omega arith in e) in
    sym (ap (drop n) turned
    ∙ ap (λ (m : ℕ). drop m (reverse (drop (length xs - n) xs) ++ reverse (take (length xs - n) xs))) (sym len)
    ∙ drop-append_seam (reverse (drop (length xs - n) xs)) (reverse (take (length xs - n) xs)))

abbrev brackets : List Frame → ℕ
brackets [] = 0
brackets (f ∷ fs) = cond (is_bracket f) (1 + brackets fs) (brackets fs)

brackets_count : (fs : List Frame) → brackets fs ≡ count_by is_bracket fs
brackets_count fs = is_count_by brackets is_bracket refl (λ x xs. refl) fs

brackets_drop : (n : ℕ) (fs : List Frame) → n ≤ prefix_len is_block fs → brackets (drop n fs) ≡ brackets fs
brackets_drop zero fs l = refl
brackets_drop (suc n) [] l = refl
brackets_drop (suc n) (Block c ∷ fs) l = brackets_drop n fs (omega arith)
brackets_drop (suc n) (Bracket ∷ fs) l = absurd (omega arith)

-- blocks taken off leave the brackets
pub count_drop : (n : ℕ) (fs : List Frame) → n ≤ prefix_len is_block fs → count_by is_bracket fs ≡ count_by is_bracket (drop n fs)
count_drop n fs l = sym (brackets_count fs) ∙ sym (brackets_drop n fs l) ∙ brackets_count (drop n fs)

pub count_block : (c : ℕ) (fs : List Frame) → count_by is_bracket (Block c ∷ fs) ≡ count_by is_bracket fs
count_block c fs = sym (brackets_count (Block c ∷ fs)) ∙ brackets_count fs

pub count_bracket : (fs : List Frame) → count_by is_bracket (Bracket ∷ fs) ≡ 1 + count_by is_bracket fs
count_bracket fs = sym (brackets_count (Bracket ∷ fs)) ∙ ap (λ (n : ℕ). 1 + n) (brackets_count fs)

deeper_step : (b : Bool) (x y : ℕ) → x ≤ y → cond b (1 + x) 0 ≤ 1 + y
deeper_step true x y l = omega arith
deeper_step false x y l = omega arith

-- deeper blocks are blocks
pub deeper_above : (column : ℕ) (fs : List Frame) → prefix_len (is_deeper column) fs ≤ prefix_len is_block fs
deeper_above column [] = omega arith
deeper_above column (Block c ∷ fs) = deeper_step (nat_lt column c) (prefix_len (is_deeper column) fs) (prefix_len is_block fs) (deeper_above column fs)
deeper_above column (Bracket ∷ fs) = omega arith

pub above_within : (fs : List Frame) → prefix_len is_block fs ≤ length fs
above_within [] = omega arith
above_within (Block c ∷ fs) = let l : prefix_len is_block fs ≤ length fs = above_within fs in omega arith
above_within (Bracket ∷ fs) = omega arith

-- tokens and frames, as the fields hold them
abbrev pub viewed : List Token → List Frame → Put
viewed tokens frames = record { tokens = tokens; frames = reverse frames }

pub closed : (tokens tokens' : List Token) (frames frames' : List Frame) (at n : ℕ) → tokens' ≡ tokens ++ replicate n (mark LayoutClose at) →
    frames' ≡ take (length frames - n) frames → n ≤ length frames → viewed tokens' frames' ≡ close at n (viewed tokens frames)
closed tokens tokens' frames frames' at n e f l =
    ap (λ ts. viewed ts frames') e ∙ ap (λ (fs : List Frame). let p : Put = record { tokens = tokens ++ replicate n (mark LayoutClose at); frames = fs } in p)
    (ap reverse f ∙ reverse_truncate frames n l)

-- behind the blocks above, no block is the innermost
pub none_above : (fs : List Frame) → prefix_len is_block (drop (prefix_len is_block fs) fs) ≡ 0
none_above [] = refl
none_above (Block c ∷ fs) = let e : 1 + prefix_len is_block fs ≡ suc (prefix_len is_block fs) =
    omega arith in ap (λ (n : ℕ). prefix_len is_block (drop n (Block c ∷ fs))) e ∙ none_above fs
none_above (Bracket ∷ fs) = refl

pub bracket_left : (put put' : Put) (at : ℕ) → put' ≡ close at (prefix_len is_block put.frames) put → 0 < count_by is_bracket put.frames
    → nat_lt 0 (count_by is_bracket put'.frames) ≡ true
bracket_left put put' at e l =
    let same : count_by is_bracket put.frames ≡ count_by is_bracket put'.frames =
    count_drop (prefix_len is_block put.frames) put.frames (omega arith) ∙ ap (λ (p : Put). count_by is_bracket p.frames) (sym e) in
    lt-ltb 0 (count_by is_bracket put'.frames) (omega arith)

pub top_left : (put put' : Put) (at : ℕ) → put' ≡ close at (prefix_len is_block put.frames) put → prefix_len is_block put'.frames ≡ 0
top_left put put' at e = ap (λ (p : Put). prefix_len is_block p.frames) e ∙ none_above put.frames
