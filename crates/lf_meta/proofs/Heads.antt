-- What putting in does at metavariables and along applications, and where it changes nothing.
use Rattle.std.proofs.Common.{◌≡◌, ℕ, zero, suc, ◌+◌, ◌-◌, ◌<◌, Bool, true, false, List, [], ◌∷◌, refl, sym, ap, arith, true≢false, ◌∙◌}
use Rattle.std.proofs.lemmas.Bool.{or_parts}
use Rattle.std.specs.Prelude.{map, ◌||◌, nat_eq, if◌then◌else◌, Option, Some, None, is_some}
use Rattle.lf_core.specs.Term.{
  Universe,
  level_zero,
  level_succ,
  level_max,
  level_imax,
  level_param,
  level_meta,
  Term,
  bound,
  free,
  meta,
  sort,
  const,
  app,
  lam,
  pi,
  letin,
  lit,
  proj,
}
use Rattle.lf_core.specs.Size.{depth}
use Rattle.lf_core.specs.Summary.{level_has_metavariable, has_metavariable, has_level_metavariable}
use Rattle.lf_elaboration.specs.Metavariables.{
  Changes,
  value,
  level_value,
  Put,
  as_it_is,
  leading_lambdas,
  reduced,
  put_before,
  level_with,
  level_at,
  level_or,
  with_values,
  term_at,
  put_or,
  level_has_assigned,
  levels_have_assigned,
  has_assigned,
  chain_limit,
  put_in,
}
use Rattle.lf_meta.specs.Head.{head_is_assigned}
use Rattle.lf_meta.specs.Limited.{put_of}
use Rattle.lf_meta.proofs.Absent.{level_unassigned, unassigned}

pub leading_within : (t : Term) → leading_lambdas t < depth t
leading_within (lam x A b) = let h = leading_within b in omega (arith, h)
leading_within (bound i) = omega arith
leading_within (free k) = omega arith
leading_within (meta k) = omega arith
leading_within (sort l) = omega arith
leading_within (const c ls) = omega arith
leading_within (app f a) = omega arith
leading_within (pi x A B) = omega arith
leading_within (letin x A v b) = omega arith
leading_within (lit n) = omega arith
leading_within (proj s i t) = omega arith

-- A metavariable that stands for nothing.
pub level_none : (cs : Changes) (n k : ℕ) → level_value cs k ≡ None → level_at cs n k ≡ level_meta k
unfolding level_at
level_none cs zero k e = refl
level_none cs (suc n) k e = ap (level_or k (level_with (level_at cs n))) e

pub term_unassigned : (cs : Changes) (n k : ℕ) → value cs k ≡ None → term_at cs n k ≡ as_it_is (meta k)
unfolding term_at
term_unassigned cs zero k e = refl
term_unassigned cs (suc n) k e = ap (put_or k (put_of cs n)) e

-- One that stands for something.
pub level_some : (cs : Changes) (n m k : ℕ) (v : Universe) → level_value cs k ≡ Some v → m + 1 ≡ n → level_at cs n k ≡ level_with (level_at cs m) v
unfolding level_at
level_some cs zero m k v e h = absurd (omega (arith, h))
level_some cs (suc n) m k v e h = let i : n ≡ m = omega (arith, h) in
    ap (level_or k (level_with (level_at cs n))) e ∙ ap (λ j. level_with (level_at cs j) v) i

pub term_assigned : (cs : Changes) (n m k : ℕ) (v : Term) → value cs k ≡ Some v → m + 1 ≡ n → term_at cs n k ≡ put_or k (put_of cs m) (Some v)
unfolding term_at
term_assigned cs zero m k v e h = absurd (omega (arith, h))
term_assigned cs (suc n) m k v e h = let i : n ≡ m = omega (arith, h) in
    ap (put_or k (put_of cs n)) e ∙ ap (λ j. put_or k (put_of cs j) (Some v)) i

-- Where none is assigned, a level and a term stay as they are.
nothing : {A : Type 0} (o : Option A) → is_some o ≡ false → o ≡ None
nothing None h = refl
nothing (Some x) h = absurd (true≢false h)

pub level_stays : (cs : Changes) (n : ℕ) (l : Universe) → level_has_assigned cs l ≡ false → level_with (level_at cs n) l ≡ l
level_stays cs n level_zero h = refl
level_stays cs n (level_succ l) h = ap level_succ (level_stays cs n l h)
level_stays cs n (level_max l m) h = let p = or_parts (level_has_assigned cs l) (level_has_assigned cs m) h in
    λ i. level_max (level_stays cs n l p.0 i) (level_stays cs n m p.1 i)
level_stays cs n (level_imax l m) h = let p = or_parts (level_has_assigned cs l) (level_has_assigned cs m) h in
    λ i. level_imax (level_stays cs n l p.0 i) (level_stays cs n m p.1 i)
level_stays cs n (level_param k) h = refl
level_stays cs n (level_meta k) h = level_none cs n k (nothing (level_value cs k) h)

levels_stay : (cs : Changes) (n : ℕ) (ls : List Universe) → levels_have_assigned cs ls ≡ false → map (level_with (level_at cs n)) ls ≡ ls
levels_stay cs n [] h = refl
levels_stay cs n (l ∷ ls) h = let p = or_parts (level_has_assigned cs l) (levels_have_assigned cs ls) h in
    λ i. level_stays cs n l p.0 i ∷ levels_stay cs n ls p.1 i

pub term_stays : (cs : Changes) (n : ℕ) (t : Term) → has_assigned cs t ≡ false → put_of cs n t ≡ as_it_is t
term_stays cs n (bound i) h = refl
term_stays cs n (free k) h = refl
term_stays cs n (meta k) h = term_unassigned cs n k (nothing (value cs k) h)
term_stays cs n (sort l) h = ap (λ m. as_it_is (sort m)) (level_stays cs n l h)
term_stays cs n (const c ls) h = ap (λ ms. as_it_is (const c ms)) (levels_stay cs n ls h)
term_stays cs n (app f a) h = let p = or_parts (has_assigned cs f) (has_assigned cs a) h in
    λ i. put_before (term_stays cs n f p.0 i) (term_stays cs n a p.1 i).term
term_stays cs n (lam x a b) h = let p = or_parts (has_assigned cs a) (has_assigned cs b) h in
    λ i. as_it_is (lam x (term_stays cs n a p.0 i).term (term_stays cs n b p.1 i).term)
term_stays cs n (pi x a b) h = let p = or_parts (has_assigned cs a) (has_assigned cs b) h in
    λ i. as_it_is (pi x (term_stays cs n a p.0 i).term (term_stays cs n b p.1 i).term)
term_stays cs n (letin x a v b) h =
    let p = or_parts (has_assigned cs a) (has_assigned cs v || has_assigned cs b) h in
    let q = or_parts (has_assigned cs v) (has_assigned cs b) p.1 in
    λ i. as_it_is (letin x (term_stays cs n a p.0 i).term (term_stays cs n v q.0 i).term (term_stays cs n b q.1 i).term)
term_stays cs n (lit k) h = refl
term_stays cs n (proj s j t) h = λ i. as_it_is (proj s j (term_stays cs n t h i).term)

-- So it is where no metavariable stands.
pub level_without : (cs : Changes) (n : ℕ) (l : Universe) → level_has_metavariable l ≡ false → level_with (level_at cs n) l ≡ l
level_without cs n l h = level_stays cs n l (level_unassigned cs l h)

pub without : (cs : Changes) (n : ℕ) (t : Term) → has_metavariable t ≡ false → has_level_metavariable t ≡ false → put_of cs n t ≡ as_it_is t
without cs n t h k = term_stays cs n t (unassigned cs t h k)

-- An application is reduced only where its head is assigned.
before_none : (p : Put) (a : Term) → p.lambdas ≡ 0 → put_before p a ≡ as_it_is (app p.term a)
before_none p a h = ap (λ n. if nat_eq n 0 then as_it_is (app p.term a) else record { term = reduced p.term a; lambdas = n - 1 }) h

pub stays : (cs : Changes) (n : ℕ) (t : Term) → head_is_assigned cs t ≡ false → (put_of cs n t).lambdas ≡ 0
stays cs n (bound i) h = refl
stays cs n (free k) h = refl
stays cs n (meta k) h = ap (λ p. p.lambdas) (term_unassigned cs n k (nothing (value cs k) h))
stays cs n (sort l) h = refl
stays cs n (const c ls) h = refl
stays cs n (app f a) h = ap (λ p. p.lambdas) (before_none (put_of cs n f) (put_of cs n a).term (stays cs n f h))
stays cs n (lam x a b) h = refl
stays cs n (pi x a b) h = refl
stays cs n (letin x a v b) h = refl
stays cs n (lit k) h = refl
stays cs n (proj s j t) h = refl

pub unreduced : (cs : Changes) (n : ℕ) (f a : Term) → head_is_assigned cs f ≡ false
    → put_of cs n (app f a) ≡ as_it_is (app (put_of cs n f).term (put_of cs n a).term)
unreduced cs n f a h = before_none (put_of cs n f) (put_of cs n a).term (stays cs n f h)

pub put_in_stays : (cs : Changes) (t : Term) → has_assigned cs t ≡ false → put_in cs t ≡ t
put_in_stays cs t h = ap (λ p. p.term) (term_stays cs chain_limit t h)
