-- The suffixes of a constant, one after another.
use Rattle.std.proofs.Common.{◌≡◌, ◌+◌, ℕ, zero, suc, Bool, List, [], ◌∷◌, ◌++◌, flat_map, refl, sym, ap, ◌∙◌, append_assoc, append-nil, arith}
use Rattle.lf_core.specs.Term.{Path}
use Rattle.lf_core.specs.declared.suffix.Suffix.{Suffix}
use Rattle.lf_core.specs.declared.suffix.Suffix.TheVariants.{Eq1, EqDef, Inj, InjEq, EqAt}
use Rattle.lf_core.specs.declared.constant.ConstInfo.{ConstInfo}
use Rattle.lf_document.specs.Sequential.{Answers, numbered}
use Rattle.lf_join.specs.Marked.{with_suffix, numbered_until, realized_of}

module _ (p : Path → Bool) (made : Answers) (c : ConstInfo) where
  more : (n m : ℕ) → m ≡ suc n → numbered_until p made c m ≡ numbered_until p made c n ++ with_suffix p made c (EqAt (n + 2))
  unfolding numbered_until
  more n m e = ap (numbered_until p made c) e

  pub no_number : (start : List ConstInfo) → start ≡ start ++ numbered_until p made c 0
  unfolding numbered_until
  no_number start = sym (append-nil start)

  pub next_number : (n : ℕ) (start before after : List ConstInfo) → before ≡ start ++ numbered_until p made c n
      → after ≡ before ++ with_suffix p made c (EqAt (n + 2)) → after ≡ start ++ numbered_until p made c (n + 1)
  next_number n start before after h k =
      k
      ∙ ap (λ t. t ++ with_suffix p made c (EqAt (n + 2))) h
      ∙ append_assoc start (numbered_until p made c n) (with_suffix p made c (EqAt (n + 2)))
      ∙ ap (λ t. start ++ t) (sym (more n (n + 1) (omega arith)))

  last_number : (k n : ℕ) → flat_map (with_suffix p made c) (numbered k (suc n))
      ≡ flat_map (with_suffix p made c) (numbered k n) ++ with_suffix p made c (EqAt (n + k))
  last_number k zero =
      let e : k ≡ 0 + k = omega arith in
      append-nil (with_suffix p made c (EqAt k)) ∙ ap (λ i. with_suffix p made c (EqAt i)) e
  last_number k (suc n) =
      ap (λ t. with_suffix p made c (EqAt k) ++ t) (last_number (suc k) n)
      ∙ sym (append_assoc (with_suffix p made c (EqAt k)) (flat_map (with_suffix p made c) (numbered (suc k) n)) (with_suffix p made c (EqAt (n + suc k))))
      ∙ ap (λ i. flat_map (with_suffix p made c) (numbered k (suc n)) ++ with_suffix p made c (EqAt i)) (shifted k n)
    where
      shifted : (k n : ℕ) → n + suc k ≡ suc n + k
      shifted k n = omega arith

  all_numbers : (n : ℕ) → numbered_until p made c n ≡ flat_map (with_suffix p made c) (numbered 2 n)
  unfolding numbered_until
  all_numbers zero = refl
  all_numbers (suc n) = ap (λ t. t ++ with_suffix p made c (EqAt (n + 2))) (all_numbers n) ∙ sym (last_number 2 n)

  pub all_suffixes : (s a b d e f : List ConstInfo) → a ≡ s ++ with_suffix p made c Eq1 → b ≡ a ++ with_suffix p made c EqDef
      → d ≡ b ++ with_suffix p made c Inj → e ≡ d ++ with_suffix p made c InjEq → f ≡ e ++ numbered_until p made c 64 → f ≡ s ++ realized_of p made c
  unfolding realized_of
  all_suffixes s a b d e f ha hb hd he hf =
      let w = with_suffix p made c in
      let n = flat_map w (numbered 2 64) in
      hf
      ∙ ap (λ t. e ++ t) (all_numbers 64)
      ∙ ap (λ t. t ++ n) (he ∙ ap (λ t. t ++ w InjEq) (hd ∙ ap (λ t. t ++ w Inj) (hb ∙ ap (λ t. t ++ w EqDef) ha)))
      ∙ append_assoc (((s ++ w Eq1) ++ w EqDef) ++ w Inj) (w InjEq) n
      ∙ append_assoc ((s ++ w Eq1) ++ w EqDef) (w Inj) (w InjEq ++ n)
      ∙ append_assoc (s ++ w Eq1) (w EqDef) (w Inj ++ (w InjEq ++ n))
      ∙ append_assoc s (w Eq1) (w EqDef ++ (w Inj ++ (w InjEq ++ n)))
