-- The latest local whose type is equal to a goal, one local at a time.
use Rattle.std.proofs.Common.{◌≡◌, ℕ, suc, ◌+◌, ◌-◌, ◌≤◌, ◌<◌, [], ◌∷◌, ◌++◌, length, get_or, ap, sym, ◌∙◌, arith}
use Rattle.std.proofs.Math.Seq.{take-suc, take-length}
use Rattle.std.proofs.lemmas.List.{reverse-append}
use Rattle.std.specs.Prelude.{take, reverse, Some, None}
use Rattle.lf_core.specs.Term.{Term}
use Rattle.lf_checker.specs.Run.{done, go_on, choose, gives}
use Rattle.lf_checker.specs.Calls.{Calls}
use Rattle.lf_rules.specs.Environment.{Context}
use Rattle.lf_elaboration.specs.Step.{latest_of, assumption}
use Rattle.lf_items.specs.Parts.{latest_within}

pub all_left : (c : Calls) (C : Context) (goal : Term) (n u : ℕ) → n ≡ length C → assumption c C goal u ≡ latest_within c C goal n u
all_left c C goal n u e = ap (λ D. latest_of c C goal (length C) (reverse D) u) (sym (take-length C)) ∙ ap (λ m. latest_within c C goal m u) (sym e)

pub none_left : (c : Calls) (C : Context) (goal : Term) (n u : ℕ) → n ≡ 0 → latest_within c C goal n u ≡ done None u
none_left c C goal n u e = ap (λ m. latest_within c C goal m u) e

last_first : (C : Context) (m : ℕ) (A : Term) → m < length C → get_or C m A ≡ A → reverse (take (suc m) C) ≡ A ∷ reverse (take m C)
last_first C m A h e = ap reverse (take-suc C m A h) ∙ ap (λ B. reverse (take m C ++ B ∷ [])) e ∙ reverse-append (take m C) (A ∷ [])

pub one_more : (c : Calls) (C : Context) (goal A : Term) (m n u : ℕ) → m + 1 ≡ n → n ≤ length C → get_or C m A ≡ A
    → latest_within c C goal n u ≡ go_on (c.equal C A goal u) (λ fits. choose fits (gives (Some m)) (latest_within c C goal m))
one_more c C goal A m n u h l e =
    let i : n ≡ suc m = omega (arith, h) in
    let j : suc m - 1 ≡ m = omega arith in
    ap (λ k. latest_within c C goal k u) i ∙ ap (λ D. latest_of c C goal (suc m) D u) (last_first C m A (omega (arith, h, l)) e)
    ∙ ap (λ k. go_on (c.equal C A goal u) (λ fits. choose fits (gives (Some k)) (latest_of c C goal k (reverse (take m C))))) j
