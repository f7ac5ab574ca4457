-- One constant further in a loop that writes the lines of some.
use Rattle.std.proofs.Common.{
  ◌≡◌,
  ◌<◌,
  ◌+◌,
  ℕ,
  Bool,
  true,
  false,
  cond,
  List,
  [],
  ◌∷◌,
  ◌++◌,
  length,
  take,
  get_or,
  filter,
  flat_map,
  refl,
  sym,
  ap,
  ◌∙◌,
  append_assoc,
  append-nil,
}
use Rattle.std.proofs.lemmas.List.{take_more}
use Rattle.std.proofs.lemmas.List.Concat.{flat_map-append}
use Rattle.std.proofs.lemmas.List.Elements.{filter-append}
use Rattle.lf_core.specs.declared.constant.ConstInfo.{ConstInfo}
use Rattle.lf_join.specs.LineParts.{line_if}

module _ (line : ConstInfo → List ℕ) (p : ConstInfo → Bool) (cs : List ConstInfo) (i : ℕ) (c : ConstInfo) where
  one : (b : Bool) → flat_map line (cond b (c ∷ []) []) ≡ line_if line c b
  one true = append-nil (line c)
  one false = refl

  more : i < length cs → c ≡ get_or cs i c
      → flat_map line (filter p (take (i + 1) cs)) ≡ flat_map line (filter p (take i cs)) ++ line_if line c (p c)
  more l e =
      ap (λ ds. flat_map line (filter p ds)) (take_more cs i c l ∙ ap (λ d. take i cs ++ d ∷ []) (sym e))
      ∙ ap (flat_map line) (filter-append p (take i cs) (c ∷ []))
      ∙ flat_map-append line (filter p (take i cs)) (filter p (c ∷ []))
      ∙ ap (λ t. flat_map line (filter p (take i cs)) ++ t) (one (p c))

  pub further : (start before after : List ℕ) → i < length cs → c ≡ get_or cs i c → before ≡ start ++ flat_map line (filter p (take i cs))
      → after ≡ before ++ line_if line c (p c) → after ≡ start ++ flat_map line (filter p (take (i + 1) cs))
  further start before after l e h k =
      k
      ∙ ap (λ t. t ++ line_if line c (p c)) h
      ∙ append_assoc start (flat_map line (filter p (take i cs))) (line_if line c (p c))
      ∙ ap (λ t. start ++ t) (sym (more l e))

-- Tests that agree choose the same.
pub chosen : (p q : ConstInfo → Bool) → ((c : ConstInfo) → p c ≡ q c) → (cs : List ConstInfo) → filter p cs ≡ filter q cs
chosen p q h [] = refl
chosen p q h (c ∷ cs) = ap (λ b. cond b (c ∷ filter p cs) (filter p cs)) (h c) ∙ ap (λ ds. cond (q c) (c ∷ ds) ds) (chosen p q h cs)
