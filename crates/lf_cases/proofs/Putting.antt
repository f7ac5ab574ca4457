-- What putting in a motive does along applications, and where it changes nothing.
use Rattle.std.proofs.Common.{◌≡◌, ℕ, ◌+◌, ◌-◌, ◌<◌, Bool, true, false, List, [], ◌∷◌, refl, sym, ap, arith, true≢false, ◌∙◌}
use Rattle.std.proofs.lemmas.Bool.{or_parts, ltb-true}
use Rattle.std.specs.Prelude.{map, ◌||◌, nat_eq, nat_lt, if◌then◌else◌}
use Rattle.lf_core.specs.Term.{
  Universe,
  level_zero,
  level_succ,
  level_max,
  level_imax,
  level_param,
  level_meta,
  Term,
  bound,
  free,
  meta,
  sort,
  const,
  app,
  lam,
  pi,
  letin,
  lit,
  proj,
}
use Rattle.lf_core.specs.Size.{depth, node_count}
use Rattle.lf_core.specs.Summary.{has_metavariable}
use Rattle.lf_checker.specs.Run.{out, made}
use Rattle.lf_elaboration.specs.Induction.{motive_number, motive_for}
use Rattle.lf_elaboration.specs.Metavariables.{Put, as_it_is, leading_lambdas, reduced, put_before, level_with}
use Rattle.lf_cases.specs.Limited.{put_of, head_is_motive}
use Rattle.lf_steps.proofs.Costs.{made_deep, made_short}

pub leading_within : (t : Term) → leading_lambdas t < depth t
leading_within (lam x A b) = let h = leading_within b in omega (arith, h)
leading_within (bound i) = omega arith
leading_within (free k) = omega arith
leading_within (meta k) = omega arith
leading_within (sort l) = omega arith
leading_within (const c ls) = omega arith
leading_within (app f a) = omega arith
leading_within (pi x A B) = omega arith
leading_within (letin x A v b) = omega arith
leading_within (lit n) = omega arith
leading_within (proj s i t) = omega arith

level_stays : (l : Universe) → level_with (λ k. level_meta k) l ≡ l
level_stays level_zero = refl
level_stays (level_succ l) = ap level_succ (level_stays l)
level_stays (level_max l m) = λ i. level_max (level_stays l i) (level_stays m i)
level_stays (level_imax l m) = λ i. level_imax (level_stays l i) (level_stays m i)
level_stays (level_param k) = refl
level_stays (level_meta k) = refl

levels_stay : (ls : List Universe) → map (level_with (λ k. level_meta k)) ls ≡ ls
levels_stay [] = refl
levels_stay (l ∷ ls) = λ i. level_stays l i ∷ levels_stay ls i

chosen : {A : Type 0} (b : Bool) (x y : A) → b ≡ false → (if b then x else y) ≡ y
chosen true x y e = absurd (true≢false e)
chosen false x y e = refl

pub is_other : (M : Term) (k : ℕ) → nat_eq k motive_number ≡ false → motive_for M k ≡ as_it_is (meta k)
is_other M k h = chosen (nat_eq k motive_number) _ _ h

-- Where no metavariable stands, a term stays as it is.
pub without : (M t : Term) → has_metavariable t ≡ false → put_of M t ≡ as_it_is t
without M (bound i) h = refl
without M (free k) h = refl
without M (meta k) h = absurd (true≢false h)
without M (sort l) h = ap (λ m. as_it_is (sort m)) (level_stays l)
without M (const c ls) h = ap (λ ms. as_it_is (const c ms)) (levels_stay ls)
without M (app f a) h = let p = or_parts (has_metavariable f) (has_metavariable a) h in
    λ i. put_before (without M f p.0 i) (without M a p.1 i).term
without M (lam x a b) h = let p = or_parts (has_metavariable a) (has_metavariable b) h in
    λ i. as_it_is (lam x (without M a p.0 i).term (without M b p.1 i).term)
without M (pi x a b) h = let p = or_parts (has_metavariable a) (has_metavariable b) h in
    λ i. as_it_is (pi x (without M a p.0 i).term (without M b p.1 i).term)
without M (letin x a v b) h =
    let p = or_parts (has_metavariable a) (has_metavariable v || has_metavariable b) h in
    let q = or_parts (has_metavariable v) (has_metavariable b) p.1 in
    λ i. as_it_is (letin x (without M a p.0 i).term (without M v q.0 i).term (without M b q.1 i).term)
without M (lit k) h = refl
without M (proj s j t) h = λ i. as_it_is (proj s j (without M t h i).term)

-- An application is reduced only where its head is the motive.
before_none : (p : Put) (a : Term) → p.lambdas ≡ 0 → put_before p a ≡ as_it_is (app p.term a)
before_none p a h = ap (λ n. if nat_eq n 0 then as_it_is (app p.term a) else record { term = reduced p.term a; lambdas = n - 1 }) h

stays : (M t : Term) → head_is_motive t ≡ false → (put_of M t).lambdas ≡ 0
stays M (bound i) h = refl
stays M (free k) h = refl
stays M (meta k) h = ap (λ p. p.lambdas) (is_other M k h)
stays M (sort l) h = refl
stays M (const c ls) h = refl
stays M (app f a) h = ap (λ p. p.lambdas) (before_none (put_of M f) (put_of M a).term (stays M f h))
stays M (lam x a b) h = refl
stays M (pi x a b) h = refl
stays M (letin x a v b) h = refl
stays M (lit k) h = refl
stays M (proj s j t) h = refl

pub unreduced : (M f a : Term) → head_is_motive f ≡ false → put_of M (app f a) ≡ as_it_is (app (put_of M f).term (put_of M a).term)
unreduced M f a h = before_none (put_of M f) (put_of M a).term (stays M f h)

-- A term that is too deep, or that has more nodes than there are units, is out.
by_depth : (b : Bool) (t : Term) (u : ℕ) → b ≡ nat_lt 1024 (depth t) → 0 < (node_count t - u) + (depth t - 1024) → made t u ≡ out
by_depth true t u e h = made_deep t u (ltb-true 1024 (depth t) (sym e))
by_depth false t u e h = made_short t u (grind (arith, e, h))

pub made_out : (t : Term) (u : ℕ) → 0 < (node_count t - u) + (depth t - 1024) → made t u ≡ out
made_out t u h = by_depth (nat_lt 1024 (depth t)) t u refl h
