-- What doesn't stand in a term by what is kept beside it.
use Rattle.std.proofs.Common.{◌≡◌, ℕ, suc, ◌+◌, ◌≤◌, Bool, true, false, List, [], ◌∷◌, refl, sym, ap, arith, true≢false, ◌∙◌}
use Rattle.std.proofs.lemmas.Bool.{or_parts}
use Rattle.std.proofs.lemmas.Bool.Decides.{nat_tests}
use Rattle.std.specs.Prelude.{nat_lt, nat_eq, if◌then◌else◌, ◌||◌, Option, Some, None, is_some}
use Rattle.lf_core.specs.Term.{
  Universe,
  level_zero,
  level_succ,
  level_max,
  level_imax,
  level_param,
  level_meta,
  Term,
  bound,
  free,
  meta,
  sort,
  const,
  app,
  lam,
  pi,
  letin,
  lit,
  proj,
}
use Rattle.lf_core.specs.Summary.{
  level_has_metavariable,
  levels_have_metavariable,
  has_metavariable,
  has_level_metavariable,
  free_bound,
}
use Rattle.lf_elaboration.specs.Metavariables.{
  Changes,
  occurs_in_level,
  occurs,
  or_first,
  outside,
  level_has_assigned,
  levels_have_assigned,
  has_assigned,
}

-- Neither is, so none is.
none : (p q : Bool) → p ≡ false → q ≡ false → (p || q) ≡ false
none false false h k = refl
none false true h k = absurd (true≢false k)
none true q h k = absurd (true≢false h)

none_of : (p q r : Bool) → p ≡ false → q ≡ false → r ≡ false → (p || (q || r)) ≡ false
none_of p q r h k l = none p (q || r) h (none q r k l)

pub level_absent : (m : ℕ) (l : Universe) → level_has_metavariable l ≡ false → occurs_in_level m l ≡ false
level_absent m level_zero h = refl
level_absent m (level_succ l) h = level_absent m l h
level_absent m (level_max k l) h = let p = or_parts (level_has_metavariable k) (level_has_metavariable l) h in
    none _ _ (level_absent m k p.0) (level_absent m l p.1)
level_absent m (level_imax k l) h = let p = or_parts (level_has_metavariable k) (level_has_metavariable l) h in
    none _ _ (level_absent m k p.0) (level_absent m l p.1)
level_absent m (level_param k) h = refl
level_absent m (level_meta k) h = absurd (true≢false h)

pub absent : (m : ℕ) (t : Term) → has_metavariable t ≡ false → occurs m t ≡ false
absent m (bound i) h = refl
absent m (free k) h = refl
absent m (meta k) h = absurd (true≢false h)
absent m (sort l) h = refl
absent m (const c ls) h = refl
absent m (app f a) h = let p = or_parts (has_metavariable f) (has_metavariable a) h in none _ _ (absent m f p.0) (absent m a p.1)
absent m (lam x a b) h = let p = or_parts (has_metavariable a) (has_metavariable b) h in none _ _ (absent m a p.0) (absent m b p.1)
absent m (pi x a b) h = let p = or_parts (has_metavariable a) (has_metavariable b) h in none _ _ (absent m a p.0) (absent m b p.1)
absent m (letin x a v b) h =
    let p = or_parts (has_metavariable a) (has_metavariable v || has_metavariable b) h in
    let q = or_parts (has_metavariable v) (has_metavariable b) p.1 in
    none_of _ _ _ (absent m a p.0) (absent m v q.0) (absent m b q.1)
absent m (lit n) h = refl
absent m (proj s i t) h = absent m t h

below : (k n : ℕ) → k + 1 ≤ n → nat_lt k n ≡ true
below k n h = grind (arith, nat_tests)

inside_variable : (b : Bool) (k : ℕ) → b ≡ true → (if b then None else Some k) ≡ None
inside_variable true k h = refl
inside_variable false k h = absurd (true≢false (sym h))

neither : (o p : Option ℕ) → o ≡ None → p ≡ None → or_first o p ≡ None
neither o p h k = ap (λ x. or_first x p) h ∙ k

pub all_inside : (n : ℕ) (t : Term) → free_bound t ≤ n → outside n t ≡ None
all_inside n (bound i) h = refl
all_inside n (free k) h = inside_variable (nat_lt k n) k (below k n h)
all_inside n (meta k) h = refl
all_inside n (sort l) h = refl
all_inside n (const c ls) h = refl
all_inside n (app f a) h = neither _ _ (all_inside n f (omega arith)) (all_inside n a (omega arith))
all_inside n (lam x a b) h = neither _ _ (all_inside n a (omega arith)) (all_inside n b (omega arith))
all_inside n (pi x a b) h = neither _ _ (all_inside n a (omega arith)) (all_inside n b (omega arith))
all_inside n (letin x a v b) h = neither _ _ (all_inside n a (omega arith)) (neither _ _ (all_inside n v (omega arith)) (all_inside n b (omega arith)))
all_inside n (lit i) h = refl
all_inside n (proj s i t) h = all_inside n t h

-- No metavariable is assigned where none stands.
pub level_unassigned : (cs : Changes) (l : Universe) → level_has_metavariable l ≡ false → level_has_assigned cs l ≡ false
level_unassigned cs level_zero h = refl
level_unassigned cs (level_succ l) h = level_unassigned cs l h
level_unassigned cs (level_max k l) h = let p = or_parts (level_has_metavariable k) (level_has_metavariable l) h in
    none _ _ (level_unassigned cs k p.0) (level_unassigned cs l p.1)
level_unassigned cs (level_imax k l) h = let p = or_parts (level_has_metavariable k) (level_has_metavariable l) h in
    none _ _ (level_unassigned cs k p.0) (level_unassigned cs l p.1)
level_unassigned cs (level_param k) h = refl
level_unassigned cs (level_meta k) h = absurd (true≢false h)

pub levels_unassigned : (cs : Changes) (ls : List Universe) → levels_have_metavariable ls ≡ false → levels_have_assigned cs ls ≡ false
levels_unassigned cs [] h = refl
levels_unassigned cs (l ∷ ls) h = let p = or_parts (level_has_metavariable l) (levels_have_metavariable ls) h in
    none _ _ (level_unassigned cs l p.0) (levels_unassigned cs ls p.1)

pub unassigned : (cs : Changes) (t : Term) → has_metavariable t ≡ false → has_level_metavariable t ≡ false → has_assigned cs t ≡ false
unassigned cs (bound i) h k = refl
unassigned cs (free j) h k = refl
unassigned cs (meta j) h k = absurd (true≢false h)
unassigned cs (sort l) h k = level_unassigned cs l k
unassigned cs (const c ls) h k = levels_unassigned cs ls k
unassigned cs (app f a) h k =
    let p = or_parts (has_metavariable f) (has_metavariable a) h in
    let q = or_parts (has_level_metavariable f) (has_level_metavariable a) k in
    none _ _ (unassigned cs f p.0 q.0) (unassigned cs a p.1 q.1)
unassigned cs (lam x a b) h k =
    let p = or_parts (has_metavariable a) (has_metavariable b) h in
    let q = or_parts (has_level_metavariable a) (has_level_metavariable b) k in
    none _ _ (unassigned cs a p.0 q.0) (unassigned cs b p.1 q.1)
unassigned cs (pi x a b) h k =
    let p = or_parts (has_metavariable a) (has_metavariable b) h in
    let q = or_parts (has_level_metavariable a) (has_level_metavariable b) k in
    none _ _ (unassigned cs a p.0 q.0) (unassigned cs b p.1 q.1)
unassigned cs (letin x a v b) h k =
    let p = or_parts (has_metavariable a) (has_metavariable v || has_metavariable b) h in
    let p' = or_parts (has_metavariable v) (has_metavariable b) p.1 in
    let q = or_parts (has_level_metavariable a) (has_level_metavariable v || has_level_metavariable b) k in
    let q' = or_parts (has_level_metavariable v) (has_level_metavariable b) q.1 in
    none_of _ _ _ (unassigned cs a p.0 q.0) (unassigned cs v p'.0 q'.0) (unassigned cs b p'.1 q'.1)
unassigned cs (lit n) h k = refl
unassigned cs (proj s i t) h k = unassigned cs t h k
