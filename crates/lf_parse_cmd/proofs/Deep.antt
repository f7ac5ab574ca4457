-- The first token that is nested too deeply, and where the last token ends.
use Rattle.std.proofs.Common.{
  ◌≡◌,
  ℕ,
  suc,
  ◌+◌,
  ◌-◌,
  ◌<◌,
  ◌≤◌,
  List,
  [],
  ◌∷◌,
  Bool,
  true,
  false,
  Option,
  None,
  Some,
  length,
  get_or,
  drop,
  cond,
  nat_lt,
  refl,
  sym,
  ap,
  ◌∙◌,
  subst,
  arith,
}
use Rattle.std.specs.Prelude.{option_map}
use Rattle.std.specs.List.{slice_get}
use Rattle.std.proofs.lemmas.Bool.Decides.{nat_tests}
use Rattle.std.proofs.lemmas.List.{at_drop_more, at_drop_all}
use Rattle.lf_syntax.specs.Piece as syntax
use Rattle.lf_syntax.specs.declared.leaf.SyntaxFault.TheVariants as fault
use Rattle.lf_syntax.specs.declared.command.Command.TheVariants.{Bad}
use Rattle.lf_syntax.specs.Document.{IsCommand, too_deep, first_deep, most_nested, end_of}
use Rattle.lf_parse_term.specs.View.{view, views}
use Rattle.lf_parse_term.specs.declared.piece.Piece.{Piece}

next : (ps : List Piece) (i : ℕ) (p : Piece) → i < length ps → p ≡ get_or ps i p →
    first_deep (views (drop i ps)) ≡ cond (nat_lt most_nested p.spot.nesting) (Some (view p)) (first_deep (views (drop (i + 1) ps)))
next ps i p h e =
    at_drop_more (λ (qs : List Piece). first_deep (views qs)) ps i p h ∙
    ap (λ (q : Piece). first_deep (views (q ∷ drop (i + 1) ps))) (sym e)

pub deep_here : (ps : List Piece) (i : ℕ) (p : Piece) → i < length ps → p ≡ get_or ps i p → most_nested < p.spot.nesting
    → first_deep (views (drop i ps)) ≡ Some (view p)
deep_here ps i p h e d =
    let b : nat_lt most_nested p.spot.nesting ≡ true = grind (arith, nat_tests) in
    next ps i p h e ∙ ap (λ (t : Bool). cond t (Some (view p)) (first_deep (views (drop (i + 1) ps)))) b

pub deep_later : (ps : List Piece) (i : ℕ) (p : Piece) → i < length ps → p ≡ get_or ps i p → p.spot.nesting ≤ most_nested
    → first_deep (views (drop i ps)) ≡ first_deep (views (drop (i + 1) ps))
deep_later ps i p h e d =
    let b : nat_lt most_nested p.spot.nesting ≡ false = grind (arith, nat_tests) in
    next ps i p h e ∙ ap (λ (t : Bool). cond t (Some (view p)) (first_deep (views (drop (i + 1) ps)))) b

pub deep_nowhere : (ps : List Piece) (i : ℕ) → length ps ≤ i → first_deep (views (drop i ps)) ≡ None
deep_nowhere ps i h = at_drop_all (λ (qs : List Piece). first_deep (views qs)) ps i h

-- The command of tokens of which this is the first that is nested too deeply.
deep_by : (ts : List syntax.Piece) (o : Option syntax.Piece) (at : ℕ) → first_deep ts ≡ o → option_map (λ t. t.at) o ≡ Some at
    → IsCommand ts (Bad at fault.Deep)
deep_by ts None at e h = cc
deep_by ts (Some t) at e h =
    let f : t.at ≡ at = cc in
    subst (λ (n : ℕ). IsCommand ts (Bad n fault.Deep)) f (too_deep t e)

pub is_deep : (ts : List syntax.Piece) (at : ℕ) → option_map (λ t. t.at) (first_deep ts) ≡ Some at → IsCommand ts (Bad at fault.Deep)
is_deep ts at h = deep_by ts (first_deep ts) at refl h

none_by : (o : Option syntax.Piece) → option_map (λ t. t.at) o ≡ None → o ≡ None
none_by None h = refl
none_by (Some t) h = cc

pub not_deep : (ts : List syntax.Piece) → option_map (λ t. t.at) (first_deep ts) ≡ None → first_deep ts ≡ None
not_deep ts h = none_by (first_deep ts) h

pub end_is : (ps : List Piece) (p : Piece) → slice_get ps (length ps - 1) ≡ Some p → p.spot.«end» ≡ end_of (views ps)
end_is [] p h = cc
end_is (q ∷ []) p h = let e : q ≡ p = cc in ap (λ (r : Piece). r.spot.«end») (sym e)
end_is (q ∷ r ∷ ps) p h = end_is (r ∷ ps) p (later (length ps) h)
  where
    later : (n : ℕ) → slice_get (q ∷ r ∷ ps) (suc (suc n) - 1) ≡ Some p → slice_get (r ∷ ps) (suc n - 1) ≡ Some p
    later n e =
        let a : suc n - 1 ≡ n = omega arith in
        let b : suc n ≡ suc (suc n) - 1 = omega arith in
        ap (λ (k : ℕ). slice_get (r ∷ ps) k) a ∙ ap (λ (k : ℕ). slice_get (q ∷ r ∷ ps) k) b ∙ e
