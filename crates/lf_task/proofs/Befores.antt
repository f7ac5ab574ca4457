-- The scope before a command, in the list of all.
use Rattle.std.proofs.Common.{◌≡◌, ◌<◌, ℕ, zero, suc, List, [], ◌∷◌, length, take, fold, get_or, refl, ap, ◌∙◌, sym, subst, arith}
use Rattle.lf_syntax.specs.declared.command.Command.{Command}
use Rattle.lf_elaboration.specs.Scope.{Scope, start, scope_after}
use Rattle.lf_task.specs.Plans.{scopes_from}

pub as_many : (s : Scope) (cs : List Command) → length (scopes_from s cs) ≡ length cs
as_many s [] = refl
as_many s (c ∷ cs) = ap suc (as_many (scope_after s c) cs)

pub stands_before : (s d : Scope) (cs : List Command) (i : ℕ) → i < length cs → get_or (scopes_from s cs) i d ≡ fold scope_after s (take i cs)
stands_before s d [] i h = absurd (no h)
  where
    no : i < 0 → ⊥
    no h = omega (arith, h)
stands_before s d (c ∷ cs) zero h = refl
stands_before s d (c ∷ cs) (suc i) h = stands_before (scope_after s c) d cs i (omega (arith, h))

pub within : (cs ds : List Command) (ss : List Scope) (i : ℕ) → ss ≡ scopes_from start cs → cs ≡ ds → i < length ds → i < length ss
within cs ds ss i e f h = subst (λ n. i < n) (sym (ap length e ∙ as_many start cs ∙ ap length f)) h

pub found_before : (cs ds : List Command) (ss : List Scope) (i : ℕ) (s : Scope) → ss ≡ scopes_from start cs → cs ≡ ds → i < length ds
    → s ≡ get_or ss i s → s ≡ fold scope_after start (take i ds)
found_before cs ds ss i s e f h g =
    g
    ∙ ap (λ l. get_or l i s) e
    ∙ stands_before start s cs i (subst (λ l. i < length l) (sym f) h)
    ∙ ap (λ l. fold scope_after start (take i l)) f
