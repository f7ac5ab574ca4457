-- One command more.
use Rattle.std.proofs.Common.{
  ◌≡◌,
  ◌+◌,
  ℕ,
  zero,
  suc,
  Bool,
  false,
  ◌||◌,
  Option,
  List,
  [],
  ◌∷◌,
  ◌++◌,
  flat_map,
  refl,
  sym,
  ap,
  ◌∙◌,
  append_assoc,
  append-nil,
  arith,
}
use Rattle.std.proofs.lemmas.List.Concat.{flat_map-append}
use Rattle.lf_core.specs.Term.{Path}
use Rattle.lf_rules.specs.Recursor.{is_among}
use Rattle.lf_document.specs.TaskValue.{TaskValue}
use Rattle.lf_document.specs.Sequential.{Elaborated}
use Rattle.lf_document.specs.Joined.{asked_by}
use Rattle.lf_join.specs.Marked.{value_or, command_of, commands_until}
use Rattle.lf_join.specs.Sets.{has}
use Rattle.lf_join.specs.declared.by_name.ByName.{ByName}
use Rattle.lf_join.proofs.Sets.{among_both, or_assoc}

module _ (heads bodies : ℕ → Option TaskValue) where
  one_more : (m n : ℕ) → m ≡ suc n → commands_until heads bodies m ≡ commands_until heads bodies n ++ command_of heads bodies n ∷ []
  one_more m n e = ap (commands_until heads bodies) e

  pub next_command : (n : ℕ) → commands_until heads bodies (n + 1) ≡ commands_until heads bodies n ++ command_of heads bodies n ∷ []
  next_command n = one_more (n + 1) n (omega arith)

  pub next_flat : {A : Type 0} (f : Elaborated → List A) (n : ℕ)
      → flat_map f (commands_until heads bodies (n + 1)) ≡ flat_map f (commands_until heads bodies n) ++ f (command_of heads bodies n)
  next_flat f n =
      ap (flat_map f) (next_command n)
      ∙ flat_map-append f (commands_until heads bodies n) (command_of heads bodies n ∷ [])
      ∙ ap (λ t. flat_map f (commands_until heads bodies n) ++ t) (append-nil (f (command_of heads bodies n)))

  -- What the lists of a run behind the command are.
  pub next_put : {A : Type 0} (f : Elaborated → List A) (n : ℕ) (start before after : List A) → before ≡ start ++ flat_map f (commands_until heads bodies n)
      → after ≡ before ++ f (command_of heads bodies n) → after ≡ start ++ flat_map f (commands_until heads bodies (n + 1))
  next_put f n start before after h k =
      k
      ∙ ap (λ t. t ++ f (command_of heads bodies n)) h
      ∙ append_assoc start (flat_map f (commands_until heads bodies n)) (f (command_of heads bodies n))
      ∙ ap (λ t. start ++ t) (sym (next_flat f n))

  pub next_asked : (m : Path) (n : ℕ) (a b c : List ByName) → has a m ≡ is_among m (flat_map asked_by (commands_until heads bodies n))
      → has b m ≡ (has a m || is_among m (value_or (heads n)).asked) → has c m ≡ (has b m || is_among m (value_or (bodies n)).asked)
      → has c m ≡ is_among m (flat_map asked_by (commands_until heads bodies (n + 1)))
  next_asked m n a b c ha hb hc =
      let before = is_among m (flat_map asked_by (commands_until heads bodies n)) in
      let x = (value_or (heads n)).asked in
      let y = (value_or (bodies n)).asked in
      hc
      ∙ ap (λ t. t || is_among m y) (hb ∙ ap (λ t. t || is_among m x) ha)
      ∙ sym (or_assoc before (is_among m x) (is_among m y))
      ∙ ap (λ t. before || t) (sym (among_both m x y))
      ∙ sym (among_both m (flat_map asked_by (commands_until heads bodies n)) (x ++ y))
      ∙ ap (is_among m) (sym (next_flat asked_by n))
