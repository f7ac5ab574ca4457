use Rattle.std.proofs.Common.{
  ◌≡◌,
  ℕ,
  ◌+◌,
  ◌-◌,
  ◌≤◌,
  ◌<◌,
  List,
  [],
  ◌∷◌,
  ◌++◌,
  length,
  take,
  drop,
  get_or,
  Bool,
  true,
  false,
  cond,
  not,
  refl,
  sym,
  ap,
  ◌∙◌,
  subst,
  arith,
  zero,
  suc,
  append_assoc,
  append-nil,
  Option,
  Some,
  None,
}
use Rattle.std.specs.Prelude.{nat_eq, codes, option_map, is_some, replicate}
use Rattle.std.specs.List.{prefix_len, starts_with}
use Rattle.std.specs.Str.{encode_utf8_all, chars}
use Rattle.std.proofs.lemmas.Slice.Eq.{bytes_eq-Decides}
use Rattle.std.proofs.lemmas.List.{take-append-drop, take-take, drop-take, length-take-le, length-append, length-drop}
use Rattle.std.proofs.lemmas.Str.{encodes-append}
use Rattle.lf_text.specs.declared.frame.Frame.{Frame}
use Rattle.lf_text.specs.declared.token.Token.{Token}
use Rattle.lf_text.specs.declared.token.TokenKind.{TokenKind}
use Rattle.lf_text.specs.declared.word.Word.{Word}
use Rattle.lf_text.specs.declared.word.Word.TheVariants.{LayoutOpen, LayoutSep, LayoutClose}
use Rattle.lf_text.specs.Place.{is_line_feed, column_of}
use Rattle.lf_text.specs.declared.role.Role.{Role}
use Rattle.lf_text.specs.declared.role.Role.TheVariants.{Command}
use Rattle.lf_text.specs.Roles.{role_of, is}
use Rattle.lf_text.specs.Lexemes.{through, is_white, piece_at, comment_at, kind_of, longest_up_to, longest_token, lexeme, lexemes_from, lexemes_of}
use Rattle.lf_text.specs.Layout.{
  Put,
  mark,
  nothing,
  close,
  open_block,
  part_items,
  new_line,
  at_where,
  at_closing,
  end_command,
  blocks,
  blocks_above,
  deeper_blocks,
  is_block_at,
  is_first,
  opens_block,
  put_inside,
  put_before,
  frames_after,
  laid_out,
}
use Rattle.lf_text.specs.Tokens.{tokens_of}
use Rattle.lf_token.specs.Spelling.{width}
use Rattle.lf_token.specs.Cover.{IsSpace, IsBlank, Covers}
use Rattle.lf_token.specs.Cover.IsSpace.{white, line, comment}
use Rattle.lf_token.specs.Cover.IsBlank.{none, more}
use Rattle.lf_token.proofs.Logic.{all_prefix, prefix_within}
use Rattle.lf_token.proofs.Comments.{through_opens, through_last, through_closes, through_other, opened, closed}
use Rattle.lf_token.proofs.Pieces.{piece_white, piece_line, piece_comment, piece_token, comment_two, comment_some, comment_none}
use Rattle.lf_token.proofs.Walks.{lexemes_step}

-- A comment ends where it ends, whatever stands behind it.

-- so many characters are seen through the end of a comment, and they alone decide
record Local (d : ℕ) (xs : List ℕ) (n : ℕ) : Type 0 where
  two : 2 ≤ n
  within : n ≤ length xs
  same : through d (take n xs) ≡ Some n

some_sum : (o : Option ℕ) (j n : ℕ) → option_map (λ k. k + j) o ≡ Some n → (m : ℕ) × (o ≡ Some m) × (n ≡ m + j)
some_sum None j n e = cc
some_sum (Some m) j n e = (m, refl, sym (unsome (m + j) n e))
  where
    unsome : (x y : ℕ) → Some x ≡ Some y → x ≡ y
    unsome x y f = cc

local : (d : ℕ) (xs : List ℕ) (n : ℕ) → through d xs ≡ Some n → Local d xs n
local d [] n e = cc
local d (a ∷ []) n e = cc
local d (a ∷ b ∷ xs) n e =
    by_mark (opened a b) (closed a b) refl refl d e (λ i. local i xs) (local d (b ∷ xs))
  where
    by_mark : (o c : Bool) → opened a b ≡ o → closed a b ≡ c → (d : ℕ) → through d (a ∷ b ∷ xs) ≡ Some n →
        ((i m : ℕ) → through i xs ≡ Some m → Local i xs m) → ((m : ℕ) → through d (b ∷ xs) ≡ Some m → Local d (b ∷ xs) m) → Local d (a ∷ b ∷ xs) n
    by_mark true c o k d e inner next =
        let (m, s, p) = some_sum (through (suc d) xs) 2 n (sym (through_opens d a b xs o) ∙ e) in
        let h : Local (suc d) xs m = inner (suc d) m s in
        record {
          two = omega arith;
          within = omega (arith, h.within);
          same = let q : n ≡ suc (suc m) = omega arith in
              ap (λ (i : ℕ). through d (take i (a ∷ b ∷ xs))) q ∙ through_opens d a b (take m xs) o ∙ ap (option_map (λ k. k + 2)) h.same ∙ ap Some (sym p);
        }
    by_mark false true o k zero e inner next =
        let q : 2 ≡ n = unsome 2 n (sym (through_last a b xs o k) ∙ e) in
        record {
          two = omega arith;
          within = omega arith;
          same = ap (λ (i : ℕ). through 0 (take i (a ∷ b ∷ xs))) (sym q) ∙ through_last a b [] o k ∙ ap Some q;
        }
      where
        unsome : (x y : ℕ) → Some x ≡ Some y → x ≡ y
        unsome x y f = cc
    by_mark false true o k (suc d) e inner next =
        let (m, s, p) = some_sum (through d xs) 2 n (sym (through_closes d a b xs o k) ∙ e) in
        let h : Local d xs m = inner d m s in
        record {
          two = omega arith;
          within = omega (arith, h.within);
          same = let q : n ≡ suc (suc m) = omega arith in
              ap (λ (i : ℕ). through (suc d) (take i (a ∷ b ∷ xs))) q ∙ through_closes d a b (take m xs) o k ∙ ap (option_map (λ k. k + 2)) h.same
              ∙ ap Some (sym p);
        }
    by_mark false false o k d e inner next =
        let (m, s, p) = some_sum (through d (b ∷ xs)) 1 n (sym (through_other d a b xs o k) ∙ e) in
        let h : Local d (b ∷ xs) m = next m s in
        record {
          two = omega (arith, h.two);
          within = omega (arith, h.within);
          same = let two : 2 ≤ m = h.two in let q : n ≡ suc (suc (m - 1)) = omega arith in let r : suc (m - 1) ≡ m = omega arith in
              ap (λ (i : ℕ). through d (take i (a ∷ b ∷ xs))) q ∙ through_other d a b (take (m - 1) xs) o k
              ∙ ap (λ (i : ℕ). option_map (λ k. k + 1) (through d (take i (b ∷ xs)))) r ∙ ap (option_map (λ k. k + 1)) h.same ∙ ap Some (sym p);
        }

-- What stands at a place

-- a piece has characters, as many as there are, and is white space where it is no token
record Fits (cs : List ℕ) (p : Option TokenKind × ℕ) : Type 0 where
  some : 0 < p.1
  within : p.1 ≤ length cs
  space : p.0 ≡ None → IsSpace (take p.1 cs)

up_to_within : (test : List ℕ → Bool) (cs : List ℕ) (n : ℕ) → longest_up_to test cs n ≤ n
up_to_within test cs zero = omega arith
up_to_within test cs (suc n) = step (test (take (suc n) cs)) (longest_up_to test cs n) (up_to_within test cs n)
  where
    step : (b : Bool) (m : ℕ) → m ≤ n → cond b (suc n) m ≤ suc n
    step true m l = omega arith
    step false m l = omega arith

starts_taken : (text cs : List ℕ) (n : ℕ) → length text ≤ n → starts_with nat_eq cs text ≡ true → starts_with nat_eq (take n cs) text ≡ true
starts_taken text cs n l e =
    let same : text ≡ take (length text) cs = (bytes_eq-Decides text (take (length text) cs)).0 e in
    (bytes_eq-Decides text (take (length text) (take n cs))).1 (same ∙ sym (take-take (length text) n cs l))

line_two : (cs : List ℕ) → starts_with nat_eq cs (codes "--") ≡ true → 2 ≤ prefix_len (λ x. not (is_line_feed x)) cs
line_two [] e = cc
line_two (a ∷ []) e = let same : codes "--" ≡ take 2 (a ∷ []) = (bytes_eq-Decides (codes "--") (take 2 (a ∷ []))).0 e in cc
line_two (a ∷ b ∷ cs) e =
    let same : codes "--" ≡ take 2 (a ∷ b ∷ cs) = (bytes_eq-Decides (codes "--") (take 2 (a ∷ b ∷ cs))).0 e in
    let first : 45 ≡ a = cc in
    let second : 45 ≡ b = cc in
    subst (λ (x : ℕ). 2 ≤ prefix_len (λ y. not (is_line_feed y)) (x ∷ b ∷ cs)) first
    (subst (λ (x : ℕ). 2 ≤ prefix_len (λ y. not (is_line_feed y)) (45 ∷ x ∷ cs)) second (omega arith))

comment_fits : (cs : List ℕ) → starts_with nat_eq cs (codes "/-") ≡ true → Fits cs (comment_at cs)
comment_fits cs e = by_end (through 0 (drop 2 cs)) refl
  where
    by_end : (o : Option ℕ) → through 0 (drop 2 cs) ≡ o → Fits cs (comment_at cs)
    by_end None f =
        let two : 2 ≤ length cs = comment_two cs e in
        subst (Fits cs) (sym (comment_none cs f)) (record { some = omega arith; within = omega arith; space = λ g. cc })
    by_end (Some n) f =
        let two : 2 ≤ length cs = comment_two cs e in
        let h : Local 0 (drop 2 cs) n = local 0 (drop 2 cs) n f in
        let len : length (drop 2 cs) ≡ length cs - 2 = length-drop 2 cs in
        let within : n + 2 ≤ length cs = omega (arith, h.within) in
        let inner : drop 2 (take (n + 2) cs) ≡ take n (drop 2 cs) =
        ap (λ (k : ℕ). drop 2 (take k cs)) (let a : n + 2 ≡ 2 + n = omega arith in a) ∙ drop-take 2 n cs in
        let size : n ≡ length (take (n + 2) cs) - 2 = (let t : length (take (n + 2) cs) ≡ n + 2 = length-take-le (n + 2) cs within in omega arith) in
        subst (Fits cs) (sym (comment_some cs n f)) (record {
          some = omega arith;
          within = within;
          space = λ g. comment (take (n + 2) cs) (starts_taken (codes "/-") cs (n + 2) (omega arith) e) (ap (through 0) inner ∙ h.same ∙ ap Some size);
        })

piece_fits : (cs : List ℕ) → 0 < length cs → Fits cs (piece_at cs)
piece_fits cs l = by_tests (is_white (get_or cs 0 0)) (starts_with nat_eq cs (codes "--")) (starts_with nat_eq cs (codes "/-")) refl refl refl
  where
    by_tests : (w d c : Bool) → is_white (get_or cs 0 0) ≡ w → starts_with nat_eq cs (codes "--") ≡ d → starts_with nat_eq cs (codes "/-") ≡ c
        → Fits cs (piece_at cs)
    by_tests true d c e f g =
        subst (Fits cs) (sym (piece_white cs l e)) (record { some = omega arith; within = omega arith; space = λ _. one cs l e })
      where
        one : (xs : List ℕ) → 0 < length xs → is_white (get_or xs 0 0) ≡ true → IsSpace (take 1 xs)
        one [] m h = absurd (omega arith)
        one (x ∷ xs) m h = white x h
    by_tests false true c e f g =
        let two : 2 ≤ prefix_len (λ x. not (is_line_feed x)) cs = line_two cs f in
        subst (Fits cs) (sym (piece_line cs l e f)) (record {
          some = omega arith;
          within = prefix_within (λ x. not (is_line_feed x)) cs;
          space = λ _. line (take (prefix_len (λ x. not (is_line_feed x)) cs) cs)
              (starts_taken (codes "--") cs (prefix_len (λ x. not (is_line_feed x)) cs) (omega arith) f) (all_prefix (λ x. not (is_line_feed x)) cs);
        })
    by_tests false false true e f g = subst (Fits cs) (sym (piece_comment cs l e f g)) (comment_fits cs g)
    by_tests false false false e f g =
        let w : longest_token cs ≤ length cs = up_to_within (λ front. is_some (kind_of front)) cs (length cs) in
        subst (Fits cs) (sym (piece_token cs l e f g)) (record { some = omega arith; within = omega arith; space = λ h. cc })

-- White space

blank_append : (xs ys : List ℕ) → IsBlank xs → IsBlank ys → IsBlank (xs ++ ys)
blank_append xs ys none b = b
blank_append xs ys (more piece rest s r) b = subst IsBlank (sym (append_assoc piece rest ys)) (more piece (rest ++ ys) s (blank_append rest ys r b))

blank_piece : (piece : List ℕ) → IsSpace piece → IsBlank piece
blank_piece piece s = subst IsBlank (append-nil piece) (more piece [] s none)

width_append : (xs ys : List ℕ) → width (xs ++ ys) ≡ width xs + width ys
width_append xs ys = ap length (encodes-append xs ys) ∙ length-append (encode_utf8_all xs) (encode_utf8_all ys)

-- The tokens without the layout tokens cover.

covers_lexemes : (size at place : ℕ) (gap cs : List ℕ) → length cs ≤ size → IsBlank gap → place ≡ at + width gap
    → Covers at (gap ++ cs) (lexemes_from place 0 cs)
covers_lexemes size at place gap [] l b p = subst IsBlank (sym (append-nil gap)) b
covers_lexemes zero at place gap (c ∷ cs) l b p = absurd (omega arith)
covers_lexemes (suc size) at place gap (c ∷ cs) l b p =
    let all : List ℕ = c ∷ cs in
    let n : ℕ = (piece_at (c ∷ cs)).1 in
    let h : Fits (c ∷ cs) (piece_at (c ∷ cs)) = piece_fits (c ∷ cs) (omega arith) in
    let rest : List ℕ = drop n (c ∷ cs) in
    let less : length (drop (piece_at (c ∷ cs)).1 (c ∷ cs)) ≤ size = omega (arith, length-drop (piece_at (c ∷ cs)).1 (c ∷ cs), h.some, h.within) in
    subst (Covers at (gap ++ (c ∷ cs))) (sym (lexemes_step place n (c ∷ cs) h.some h.within refl))
    (by_kind at place gap (c ∷ cs) n b p (piece_at (c ∷ cs)).0 h.space
    (λ a q g. covers_lexemes size a q g (drop (piece_at (c ∷ cs)).1 (c ∷ cs)) less))
  where
    by_kind : (at place : ℕ) (gap all : List ℕ) (n : ℕ) → IsBlank gap → place ≡ at + width gap → (kind : Option TokenKind)
        → (kind ≡ None → IsSpace (take n all)) →
        ((a q : ℕ) (g : List ℕ) → IsBlank g → q ≡ a + width g → Covers a (g ++ drop n all) (lexemes_from q 0 (drop n all))) →
        Covers at (gap ++ all) (lexeme place (take n all) kind ++ lexemes_from (place + width (take n all)) 0 (drop n all))
    by_kind at place gap all n b p None space ih =
        subst (λ (xs : List ℕ). Covers at xs (lexemes_from (place + width (take n all)) 0 (drop n all)))
        (append_assoc gap (take n all) (drop n all) ∙ ap (λ xs. gap ++ xs) (take-append-drop n all))
        (ih at (place + width (take n all)) (gap ++ take n all) (blank_append gap (take n all) b (blank_piece (take n all) (space refl)))
        (omega (arith, width_append gap (take n all))))
    by_kind at place gap all n b p (Some k) space ih = (
      gap,
      take n all,
      drop n all,
      ap (λ xs. gap ++ xs) (sym (take-append-drop n all)),
      b,
      p,
      refl,
      ih (place + width (take n all)) (place + width (take n all)) [] none (omega arith),
    )

-- The layout tokens have no text.

abbrev AllMarks : ℕ → List Token → Type 0
AllMarks p [] = Unit {0}
AllMarks p (m ∷ marks) = (m.at ≡ p) × (m.len ≡ 0) × AllMarks p marks

marks_append : (p : ℕ) (xs ys : List Token) → AllMarks p xs → AllMarks p ys → AllMarks p (xs ++ ys)
marks_append p [] ys a b = b
marks_append p (x ∷ xs) ys a b = (a.0, a.1, marks_append p xs ys a.2 b)

marks_replicate : (p n : ℕ) (word : Word) → AllMarks p (replicate n (mark word p))
marks_replicate p zero word = tt
marks_replicate p (suc n) word = (refl, refl, marks_replicate p n word)

abbrev Marked : ℕ → Put → Type 0
Marked p put = AllMarks p put.tokens

marked_cond : (p : ℕ) (b : Bool) (x y : Put) → Marked p x → Marked p y → Marked p (cond b x y)
marked_cond p true x y a c = a
marked_cond p false x y a c = c

marked_close : (p n : ℕ) (put : Put) → Marked p put → Marked p (close p n put)
marked_close p n put a = marks_append p put.tokens (replicate n (mark LayoutClose p)) a (marks_replicate p n LayoutClose)

marked_open : (p column : ℕ) (put : Put) → Marked p put → Marked p (open_block p column put)
marked_open p column put a = marks_append p put.tokens (mark LayoutOpen p ∷ []) a (refl, refl, tt)

marked_part : (p column : ℕ) (put : Put) → Marked p put → Marked p (part_items p column put)
marked_part p column put a = marks_append p put.tokens (cond (is_block_at column put.frames) (mark LayoutSep p ∷ []) []) a
    (step (is_block_at column put.frames))
  where
    step : (b : Bool) → AllMarks p (cond b (mark LayoutSep p ∷ []) [])
    step true = (refl, refl, tt)
    step false = tt

marked_where : (p : ℕ) (role : Role) (put : Put) → Marked p put → Marked p (at_where p role put)
marked_where p role put a = marked_cond p _ (close p (blocks_above put.frames) put) put (marked_close p (blocks_above put.frames) put a) a

marked_line : (p column : ℕ) (put : Put) → Marked p put → Marked p (new_line p column put)
marked_line p column put a = marked_part p column (close p (deeper_blocks column put.frames) put) (marked_close p (deeper_blocks column put.frames) put a)

marked_closing : (p : ℕ) (role : Role) (put : Put) → Marked p put → Marked p (at_closing p role put)
marked_closing p role put a = marked_cond p _ _ put (marked_close p (blocks_above put.frames) put a) a

marked_inside : (at column : ℕ) (role : Role) (opens first : Bool) (frames : List Frame) → Marked at (put_inside at column role opens first (nothing frames))
marked_inside at column role opens first frames =
    let opened_first : Put = at_where at role (open_block at column (nothing frames)) in
    let lined : Put = new_line at column (at_where at role (nothing frames)) in
    let plain : Put = at_where at role (nothing frames) in
    marked_closing at role (cond opens opened_first (cond first lined plain))
    (marked_cond at opens opened_first (cond first lined plain)
    (marked_where at role (open_block at column (nothing frames)) (marked_open at column (nothing frames) tt))
    (marked_cond at first lined plain
    (marked_line at column plain (marked_where at role (nothing frames) tt))
    (marked_where at role (nothing frames) tt)))

-- so they cover nothing, where they stand at the end of the last token
marks_here : (marks : List Token) (p at : ℕ) (cs : List ℕ) (tokens : List Token) → AllMarks p marks → p ≡ at → Covers at cs tokens
    → Covers at cs (marks ++ tokens)
marks_here [] p at cs tokens a e c = c
marks_here (m ∷ marks) p at cs tokens a e c =
    let same : at ≡ m.at + m.len = omega (arith, a.0, a.1) in (
      [],
      [],
      cs,
      refl,
      none,
      omega (arith, a.0),
      a.1,
      marks_here marks p (m.at + m.len) cs tokens a.2 (omega (arith, a.0, a.1)) (subst (λ (k : ℕ). Covers k cs tokens) same c),
    )

-- or at the next token
marks_before : (marks : List Token) (at : ℕ) (cs : List ℕ) (t : Token) (tokens : List Token) → AllMarks t.at marks → Covers at cs (t ∷ tokens)
    → Covers at cs (marks ++ (t ∷ tokens))
marks_before [] at cs t tokens a c = c
marks_before (m ∷ marks) at cs t tokens a (gap, text, rest, e, b, p, l, c) = (
  gap,
  [],
  text ++ rest,
  e,
  b,
  a.0 ∙ p,
  a.1,
  marks_here marks t.at (m.at + m.len) (text ++ rest) (t ∷ tokens) a.2 (omega (arith, a.0, a.1))
      ([], text, rest, refl, none, omega (arith, a.0, a.1), l, c),
)

covers_put : (b : Bool) (column end : ℕ) (role : Role) (opens first : Bool) (frames : List Frame) (at : ℕ) (cs : List ℕ) (t : Token) (tokens : List Token)
    → end ≡ at →
    Covers at cs (t ∷ tokens) →
    Covers at cs ((cond b (end_command end (nothing frames)) (put_inside t.at column role opens first (nothing frames))).tokens ++ (t ∷ tokens))
covers_put true column end role opens first frames at cs t tokens e c =
    marks_here (replicate (blocks frames) (mark LayoutClose end)) end at cs (t ∷ tokens) (marks_replicate end (blocks frames) LayoutClose) e c
covers_put false column end role opens first frames at cs t tokens e c =
    marks_before (put_inside t.at column role opens first (nothing frames)).tokens at cs t tokens (marked_inside t.at column role opens first frames) c

covers_laid : (bytes : List ℕ) (previous : Token) (frames : List Frame) (at : ℕ) (cs : List ℕ) (tokens : List Token) → previous.at + previous.len ≡ at →
    Covers at cs tokens → Covers at cs (laid_out bytes previous frames tokens)
covers_laid bytes previous frames at cs [] e c =
    subst (Covers at cs) (append-nil (replicate (blocks frames) (mark LayoutClose (previous.at + previous.len))))
    (marks_here (replicate (blocks frames) (mark LayoutClose (previous.at + previous.len))) (previous.at + previous.len) at cs []
    (marks_replicate (previous.at + previous.len) (blocks frames) LayoutClose) e c)
covers_laid bytes previous frames at cs (t ∷ tokens) e (gap, text, rest, f, b, p, l, c) =
    covers_put (is Command (role_of t.kind)) (column_of bytes t.at) (previous.at + previous.len) (role_of t.kind)
    (opens_block (role_of previous.kind) (role_of t.kind)) (is_first bytes previous t)
    frames at cs t _ e (
      gap,
      text,
      rest,
      f,
      b,
      p,
      l,
      covers_laid bytes t (frames_after (role_of t.kind) (put_before bytes previous frames t).frames) (t.at + t.len) rest tokens
          refl c,
    )

-- the tokens of a text cover it
pub tokens_cover : (bytes : List ℕ) → Covers 0 (chars bytes) (tokens_of bytes)
unfolding tokens_of lexemes_of
tokens_cover bytes =
    covers_laid bytes (mark LayoutClose 0) [] 0 (chars bytes) (lexemes_from 0 0 (chars bytes)) refl
    (covers_lexemes (length (chars bytes)) 0 0 [] (chars bytes) (omega arith) none refl)
