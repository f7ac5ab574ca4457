-- Successors, and parameters one after another.
use Rattle.std.proofs.Common.{◌≡◌, ℕ, zero, suc, ◌+◌, ◌*◌, ◌-◌, ◌<◌, ◌≤◌, length, drop, take, List, [], ◌∷◌, ◌++◌, refl, ap, ◌∙◌, sym, arith, append_assoc}
use Rattle.std.proofs.lemmas.List.{append-nil}
use Rattle.lf_core.specs.Term.{Universe, level_succ, level_param}
use Rattle.lf_rules.specs.Recursor.{parameters_from}
use Rattle.lf_syntax.specs.Tree.{levels_of, LevelTree, level_number, level_name, level_plus, level_max, level_imax}
use Rattle.lf_syntax.specs.Size.{level_size, levels_size}
use Rattle.lf_elaboration.specs.Identifiers.{successors}

pub no_successor : (n : ℕ) (l : Universe) → n ≡ 0 → successors n l ≡ l
no_successor zero l e = refl
no_successor (suc n) l e = absurd (omega (arith, e))

pub some_successor : (n : ℕ) (l : Universe) → 0 < n → successors n l ≡ level_succ (successors (n - 1) l)
some_successor zero l h = absurd (omega (arith, h))
some_successor (suc n) l h = let e : suc n - 1 ≡ n = omega arith in rw e refl

pub parameters_none : (k : ℕ) (all : List Universe) → all ++ parameters_from k 0 ≡ all
parameters_none k all = append-nil all

pub parameters_more : (k n : ℕ) (all : List Universe) → all ++ parameters_from k (suc n) ≡ (all ++ level_param k ∷ []) ++ parameters_from (k + 1) n
parameters_more k n all =
    let e : k + 1 ≡ suc k = omega arith in
    ap (λ j. all ++ (level_param k ∷ parameters_from j n)) (sym e) ∙ sym (append_assoc all (level_param k ∷ []) (parameters_from (k + 1) n))

pub some_size : (l : LevelTree) → 0 < level_size l
some_size (level_number n) = omega arith
some_size (level_name x) = omega arith
some_size (level_plus at l n) = omega arith
some_size (level_max at ls) = omega arith
some_size (level_imax at l m) = omega arith

take_whole : {A : Type 0} (xs : List A) → take (length xs) xs ≡ xs
take_whole [] = refl
take_whole (x ∷ xs) = ap (λ r. x ∷ r) (take_whole xs)

pub rest_smaller : (ls : List LevelTree) → 1 ≤ length ls
    → 2 * levels_size (levels_of (take (length ls - 1) (drop 1 ls))) + 1 < 2 * levels_size (levels_of ls) + 1
rest_smaller [] h = absurd (omega (arith, h))
rest_smaller (l ∷ ls) h =
    let k = some_size l in
    let e : suc (length ls) - 1 ≡ length ls = omega arith in
    let p = ap (λ j. levels_size (levels_of (take j ls))) e ∙ ap (λ r. levels_size (levels_of r)) (take_whole ls) in
    omega (arith, k, p)
