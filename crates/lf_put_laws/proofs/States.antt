-- All values and types at once; the test where a binder closes; what is settled stays so.
use Rattle.std.proofs.Common.{
  ◌≡◌,
  ℕ,
  zero,
  suc,
  ◌+◌,
  ◌≤◌,
  nat_eq,
  nat_le,
  Bool,
  true,
  false,
  ◌&&◌,
  if◌then◌else◌,
  Option,
  Some,
  None,
  is_some,
  List,
  [],
  ◌∷◌,
  ◌++◌,
  map,
  slice_get,
  refl,
  sym,
  ap,
  subst,
  ◌∙◌,
  arith,
  true≢false,
}
use Rattle.std.proofs.lemmas.Bool.{le-leb}
use Rattle.lf_core.specs.Term.{Term}
use Rattle.lf_core.specs.Summary.{free_bound}
use Rattle.lf_elaboration.specs.declared.change.Change.{Change}
use Rattle.lf_elaboration.specs.declared.change.Change.TheVariants.{Made, LevelMade, Assigned, LevelAssigned}
use Rattle.lf_elaboration.specs.Metavariables.{
  Changes,
  Metavariable,
  metavariables,
  types_of,
  value,
  level_value,
  level_or,
  level_with,
  level_at,
  Put,
  with_values,
  put_or,
  term_at,
  put_in,
  outside,
  speaks_outside,
  escaping_from,
}
use Rattle.lf_put_laws.specs.Scope.{Shows, Settled, AssignmentKeepsAll, TestIsScope, StaysSettled}
use Rattle.lf_put_laws.proofs.Shown.{fewer}
use Rattle.lf_put_laws.proofs.Tests.{Taken, taken, inside}
use Rattle.lf_put_laws.proofs.Assigned.{assigning, value_there, value_elsewhere, split_eq, assignment_keeps_scope}

-- ---- All at once

same_made : (cs : Changes) (m : ℕ) (t : Term) → metavariables (assigning cs m t) ≡ metavariables cs
same_made [] m t = refl
same_made (Made A n p ∷ cs) m t = ap (λ r. record { ty = A; locals = n; at = p } ∷ r) (same_made cs m t)
same_made (LevelMade ∷ cs) m t = same_made cs m t
same_made (Assigned k s ∷ cs) m t = same_made cs m t
same_made (LevelAssigned k l ∷ cs) m t = same_made cs m t

pub assignment_keeps_all : AssignmentKeepsAll
assignment_keeps_all cs d m n t s l b r w h = record { values = values; types = types }
  where
    k : Taken cs m t
    k = taken cs m t r

    keeps : (u : Term) → free_bound (put_in cs u) ≤ n → free_bound (put_in (assigning cs m t) u) ≤ n
    keeps u = assignment_keeps_scope cs d m n t u s l b r w

    values : (j : ℕ) (v : Term) → value (assigning cs m t) j ≡ Some v → free_bound (put_in (assigning cs m t) v) ≤ n
    values j v e =
        split_eq m j
        (λ q.
        let there : value (assigning cs m t) j ≡ Some t = subst (λ i. value (assigning cs m t) i ≡ Some t) q (value_there cs m t k.fresh) in
        let same : t ≡ v = cc (there, e) in
        subst (λ x. free_bound (put_in (assigning cs m t) x) ≤ n) same (keeps t (omega (arith, w, k.scope))))
        (λ z. keeps v (h.values j v (sym (value_elsewhere cs m j t z) ∙ e)))

    types : (j : ℕ) (A : Term) → slice_get (types_of (assigning cs m t)) j ≡ Some A → free_bound (put_in (assigning cs m t) A) ≤ n
    types j A e = keeps A (h.types j A (ap (λ ms. slice_get (map (λ x. x.ty) ms) j) (sym (same_made cs m t)) ∙ e))

-- ---- The test at a close

unspoken : (cs : Changes) (n : ℕ) (v : Term) (o : Option Term) → o ≡ Some v → speaks_outside cs n o ≡ false → free_bound (put_in cs v) ≤ n
unspoken cs n v o e h = inside n (put_in cs v) (none (outside n (put_in cs v)) (subst (λ r. speaks_outside cs n r ≡ false) e h))
  where
    none : (o : Option ℕ) → is_some o ≡ false → o ≡ None
    none None h = refl
    none (Some k) h = absurd (true≢false h)

-- Of those numbered from i on.
passed : (cs : Changes) (n i : ℕ) (ms : List Metavariable) → escaping_from cs n i ms ≡ None → (k : ℕ) (m : Metavariable) → slice_get ms k ≡ Some m
    → m.locals ≤ n → speaks_outside cs m.locals (value cs (i + k)) ≡ false
passed cs n i [] h k m e l = absurd (cc)
passed cs n i (x ∷ ms) h zero m e l =
    let same : x ≡ m = cc (e) in
    subst (λ y. speaks_outside cs y.locals (value cs (i + 0)) ≡ false) same
    (subst (λ j. speaks_outside cs x.locals (value cs j) ≡ false) (omega arith)
    (first (nat_le x.locals n) (speaks_outside cs x.locals (value cs i)) (le-leb x.locals n (subst (λ y. y.locals ≤ n) (sym same) l)) h))
  where
    first : (b c : Bool) → b ≡ true → (if b && c then Some x.at else escaping_from cs n (suc i) ms) ≡ None → c ≡ false
    first true true q w = absurd (cc)
    first true false q w = refl
    first false c q w = absurd (true≢false (sym q))
passed cs n i (x ∷ ms) h (suc k) m e l =
    subst (λ j. speaks_outside cs m.locals (value cs j) ≡ false) (omega arith)
    (passed cs n (suc i) ms (later (nat_le x.locals n && speaks_outside cs x.locals (value cs i)) h) k m e l)
  where
    later : (b : Bool) → (if b then Some x.at else escaping_from cs n (suc i) ms) ≡ None → escaping_from cs n (suc i) ms ≡ None
    later true w = absurd (cc)
    later false w = w

pub test_is_scope : TestIsScope
test_is_scope cs n k m v h e l w =
    unspoken cs m.locals v (value cs k) w
    (subst (λ j. speaks_outside cs m.locals (value cs j) ≡ false) (omega arith) (passed cs n 0 (metavariables cs) h k m e l))

-- ---- What is settled

-- Changes that assign nothing more put in the same.
same_levels : (cs ds : Changes) → ((k : ℕ) → level_value ds k ≡ level_value cs k) → (n : ℕ) → level_at ds n ≡ level_at cs n
unfolding level_at
same_levels cs ds h zero = refl
same_levels cs ds h (suc n) = λ i k. level_or k (level_with (same_levels cs ds h n i)) (h k i)

same_terms : (cs ds : Changes) → ((k : ℕ) → level_value ds k ≡ level_value cs k) → ((k : ℕ) → value ds k ≡ value cs k) → (n : ℕ)
    → term_at ds n ≡ term_at cs n
unfolding term_at
same_terms cs ds g h zero = refl
same_terms cs ds g h (suc n) = λ i k. put_or k (with_values (same_levels cs ds g n i) (same_terms cs ds g h n i)) (h k i)

shows_too : (cs ds : Changes) → ((k : ℕ) → value ds k ≡ value cs k) → (t : Term) → Shows (λ j. value cs j ≡ None) t → Shows (λ j. value ds j ≡ None) t
shows_too cs ds h t s = fewer (λ j. value cs j ≡ None) (λ j. value ds j ≡ None) (λ j e. h j ∙ e) t s

settled_too : (cs ds : Changes) (d : ℕ) → ((k : ℕ) → level_value ds k ≡ level_value cs k) → ((k : ℕ) → value ds k ≡ value cs k) → Settled cs d
    → Settled ds d
settled_too cs ds d g h s = record {
  terms = λ n l. same_terms cs ds g h n ∙ s.terms n l ∙ sym (same_terms cs ds g h d);
  levels = λ n l. same_levels cs ds g n ∙ s.levels n l ∙ sym (same_levels cs ds g d);
  left = λ k. subst (λ (f : ℕ → Put). Shows (λ j. value ds j ≡ None) (f k).term) (sym (same_terms cs ds g h d))
      (shows_too cs ds h (term_at cs d k).term (s.left k));
  closed = λ k t e. s.closed k t (sym (h k) ∙ e);
}

value_before : (cs : Changes) (c : Change) → ((k : ℕ) → value (c ∷ []) k ≡ None) → (k : ℕ) → value (cs ++ c ∷ []) k ≡ value cs k
value_before [] c h k = h k
value_before (Made A n p ∷ cs) c h k = value_before cs c h k
value_before (LevelMade ∷ cs) c h k = value_before cs c h k
value_before (Assigned j s ∷ cs) c h k = ap (λ r. if nat_eq j k then Some s else r) (value_before cs c h k)
value_before (LevelAssigned j l ∷ cs) c h k = value_before cs c h k

level_before : (cs : Changes) (c : Change) → ((k : ℕ) → level_value (c ∷ []) k ≡ None) → (k : ℕ) → level_value (cs ++ c ∷ []) k ≡ level_value cs k
level_before [] c h k = h k
level_before (Made A n p ∷ cs) c h k = level_before cs c h k
level_before (LevelMade ∷ cs) c h k = level_before cs c h k
level_before (Assigned j s ∷ cs) c h k = level_before cs c h k
level_before (LevelAssigned j l ∷ cs) c h k = ap (λ r. if nat_eq j k then Some l else r) (level_before cs c h k)

none_assigned : (n : ℕ) → term_at [] n ≡ term_at [] 0
unfolding term_at
none_assigned zero = refl
none_assigned (suc n) = refl

no_level_assigned : (n : ℕ) → level_at [] n ≡ level_at [] 0
unfolding level_at
no_level_assigned zero = refl
no_level_assigned (suc n) = refl

shown_at_start : (k : ℕ) → Shows (λ j. value [] j ≡ None) (term_at [] 0 k).term
unfolding term_at
shown_at_start k = refl

pub stays_settled : StaysSettled
stays_settled = record {
  start = record {
    terms = λ n l. none_assigned n;
    levels = λ n l. no_level_assigned n;
    left = shown_at_start;
    closed = λ k t e. absurd (nothing t e);
  };
  made = λ cs d A n p s. settled_too cs (cs ++ Made A n p ∷ []) d (level_before cs (Made A n p) (λ k. refl)) (value_before cs (Made A n p) (λ k. refl)) s;
  level_made = λ cs d s. settled_too cs (cs ++ LevelMade ∷ []) d (level_before cs LevelMade (λ k. refl)) (value_before cs LevelMade (λ k. refl)) s;
}
  where
    nothing : (t : Term) → None ≡ Some t → ⊥
    nothing t e = absurd (cc (e))
