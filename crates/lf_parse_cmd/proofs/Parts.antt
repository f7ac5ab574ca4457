-- The parts of a name, and tokens with their nesting numbers.
use Rattle.std.proofs.Common.{
  ◌≡◌,
  ◌≢◌,
  ℕ,
  suc,
  ◌+◌,
  ◌<◌,
  ◌≤◌,
  List,
  [],
  ◌∷◌,
  ◌++◌,
  Bool,
  true,
  false,
  length,
  get_or,
  drop,
  nat_eq,
  refl,
  sym,
  ap,
  ◌∙◌,
  arith,
  append_assoc,
}
use Rattle.std.proofs.lemmas.Bool.{eqb-true}
use Rattle.std.proofs.lemmas.List.{at_drop_more, at_drop_all, map_push}
use Rattle.lf_name.specs.Name.{Path}
use Rattle.lf_text.specs.declared.token.Token.{Token}
use Rattle.lf_text.specs.Nesting.{Nest, nesting_of, nesting_after}
use Rattle.lf_text.specs.Roles.{role_of}
use Rattle.lf_syntax.specs.Piece as syntax
use Rattle.lf_syntax.specs.Classes.{parts_of, put_first, piece_of, pieces}
use Rattle.lf_parse_term.specs.View.{view, views}
use Rattle.lf_parse_term.specs.declared.piece.Piece.{Piece}

abbrev parts_by : ℕ → List ℕ → Bool → Path
parts_by c cs b = elim b [ true ↦ [] ∷ parts_of cs | false ↦ put_first c (parts_of cs) ]

-- No full stop is among the bytes.
abbrev pub NoStop : List ℕ → Type 0
NoStop bs = (i : ℕ) → i < length bs → get_or bs i 0 ≢ 46

no_stop_behind : (c : ℕ) (cs : List ℕ) → NoStop (c ∷ cs) → NoStop cs
no_stop_behind c cs h i l = h (suc i) (omega arith)

pub parts_alone : (bs : List ℕ) → NoStop bs → parts_of bs ≡ bs ∷ []
parts_alone [] h = refl
parts_alone (c ∷ cs) h = go (nat_eq c 46) refl (parts_alone cs (no_stop_behind c cs h))
  where
    go : (b : Bool) → nat_eq c 46 ≡ b → parts_of cs ≡ cs ∷ [] → parts_by c cs b ≡ (c ∷ cs) ∷ []
    go true e ih = absurd (h 0 (omega arith) (eqb-true c 46 e))
    go false e ih = ap (put_first c) ih

pub parts_cut : (part more : List ℕ) → NoStop part → parts_of (part ++ (46 ∷ more)) ≡ part ∷ parts_of more
parts_cut [] more h = refl
parts_cut (c ∷ cs) more h = go (nat_eq c 46) refl (parts_cut cs more (no_stop_behind c cs h))
  where
    go : (b : Bool) → nat_eq c 46 ≡ b → parts_of (cs ++ (46 ∷ more)) ≡ cs ∷ parts_of more → parts_by c (cs ++ (46 ∷ more)) b ≡ (c ∷ cs) ∷ parts_of more
    go true e ih = absurd (h 0 (omega arith) (eqb-true c 46 e))
    go false e ih = ap (put_first c) ih

pub length_numbers : (n : Nest) (ts : List Token) → length (nesting_of n ts) ≡ length ts
length_numbers n [] = refl
length_numbers n (t ∷ ts) = ap (λ (k : ℕ). suc k) (length_numbers (nesting_after n (role_of t.kind)) ts)

pieces_next : (bytes : List ℕ) (ts : List Token) (ns : List ℕ) (i : ℕ) (d : Token) → i < length ts → length ns ≡ length ts →
    pieces bytes (drop i ts) (drop i ns) ≡ piece_of bytes (get_or ts i d) (get_or ns i 0) ∷ pieces bytes (drop (i + 1) ts) (drop (i + 1) ns)
pieces_next bytes ts ns i d h l =
    let m : i < length ns = omega arith in
    at_drop_more (λ (us : List Token). pieces bytes us (drop i ns)) ts i d h ∙
    at_drop_more (λ (ms : List ℕ). pieces bytes (get_or ts i d ∷ drop (i + 1) ts) ms) ns i 0 m

-- One more token is put.
pub put_next : (bytes : List ℕ) (ts : List Token) (ns : List ℕ) (i : ℕ) (d : Token) (all next : List Piece) (p : Piece) (whole : List syntax.Piece) →
    i < length ts → length ns ≡ length ts → next ≡ all ++ (p ∷ []) → view p ≡ piece_of bytes (get_or ts i d) (get_or ns i 0) →
    views all ++ pieces bytes (drop i ts) (drop i ns) ≡ whole → views next ++ pieces bytes (drop (i + 1) ts) (drop (i + 1) ns) ≡ whole
put_next bytes ts ns i d all next p whole h l e f before =
    let rest : List syntax.Piece = pieces bytes (drop (i + 1) ts) (drop (i + 1) ns) in
    let t : syntax.Piece = piece_of bytes (get_or ts i d) (get_or ns i 0) in
    ap (λ (qs : List Piece). views qs ++ rest) e ∙ ap (λ (us : List syntax.Piece). us ++ rest) (map_push view all p) ∙
    ap (λ (u : syntax.Piece). (views all ++ (u ∷ [])) ++ rest) f ∙ append_assoc (views all) (t ∷ []) rest ∙
    ap (λ (us : List syntax.Piece). views all ++ us) (sym (pieces_next bytes ts ns i d h l)) ∙ before

pub pieces_done : (bytes : List ℕ) (ts : List Token) (ns : List ℕ) (i : ℕ) → length ts ≤ i → pieces bytes (drop i ts) (drop i ns) ≡ []
pieces_done bytes ts ns i h = at_drop_all (λ (us : List Token). pieces bytes us (drop i ns)) ts i h
