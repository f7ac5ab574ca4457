-- Putting in after one more assignment: only the variables of its value are added.
use Rattle.std.proofs.Common.{
  ◌≡◌,
  ℕ,
  zero,
  suc,
  ◌+◌,
  ◌-◌,
  ◌≤◌,
  nat_eq,
  if◌then◌else◌,
  Option,
  Some,
  None,
  [],
  ◌∷◌,
  ◌++◌,
  refl,
  sym,
  ap,
  ap₂,
  subst,
  ◌∙◌,
  arith,
  zero-le,
}
use Rattle.lf_core.specs.Term.{Term, meta}
use Rattle.lf_core.specs.Summary.{loose_bound, free_bound}
use Rattle.lf_elaboration.specs.declared.change.Change.TheVariants.{Made, LevelMade, Assigned, LevelAssigned}
use Rattle.lf_elaboration.specs.Metavariables.{
  Changes,
  value,
  Put,
  as_it_is,
  leading_lambdas,
  with_values,
  put_or,
  level_at,
  term_at,
  chain_limit,
  put_in,
  scope_of,
}
use Rattle.lf_put_laws.specs.Later.{stands, metas}
use Rattle.lf_put_laws.specs.Scope.{Shows, Settled, AssignmentKeepsScope}
use Rattle.lf_put_laws.proofs.Instances.{by_eq}
use Rattle.lf_put_laws.proofs.Laters.{Closing, later_loose, lambdas_later}
use Rattle.lf_put_laws.proofs.Shown.{later_free, both_show}
use Rattle.lf_put_laws.proofs.Puts.{LaterPut, later_as, later_values, later_raw, values_show}
use Rattle.lf_put_laws.proofs.Tests.{Taken, taken}

-- ---- Values after the assignment

abbrev pub assigning : Changes → ℕ → Term → Changes
assigning cs m t = cs ++ Assigned m t ∷ []

pub value_there : (cs : Changes) (m : ℕ) (t : Term) → value cs m ≡ None → value (assigning cs m t) m ≡ Some t
value_there [] m t h = by_eq (λ r. r ≡ Some t) m m (Some t) None (λ e. refl) (λ n. absurd (n refl))
value_there (Assigned k s ∷ cs) m t h = by_eq
    (λ r. r ≡ None → (if nat_eq k m then Some s else value (assigning cs m t) m) ≡ Some t) k m (Some s) (value cs m) (λ e w. absurd (cc)) (λ n w.
    by_eq (λ r. r ≡ Some t) k m (Some s) (value (assigning cs m t) m) (λ e. absurd (n e)) (λ n. value_there cs m t w)) h
value_there (Made A n p ∷ cs) m t h = value_there cs m t h
value_there (LevelMade ∷ cs) m t h = value_there cs m t h
value_there (LevelAssigned k l ∷ cs) m t h = value_there cs m t h

pub value_elsewhere : (cs : Changes) (m k : ℕ) (t : Term) → (m ≡ k → ⊥) → value (assigning cs m t) k ≡ value cs k
value_elsewhere [] m k t h = by_eq (λ r. r ≡ None) m k (Some t) None (λ e. absurd (h e)) (λ n. refl)
value_elsewhere (Assigned j s ∷ cs) m k t h = ap (λ r. if nat_eq j k then Some s else r) (value_elsewhere cs m k t h)
value_elsewhere (Made A n p ∷ cs) m k t h = value_elsewhere cs m k t h
value_elsewhere (LevelMade ∷ cs) m k t h = value_elsewhere cs m k t h
value_elsewhere (LevelAssigned j l ∷ cs) m k t h = value_elsewhere cs m k t h

-- ---- What is put in along n assignments

pub put_at : Changes → ℕ → Term → Put
put_at cs n t = with_values (level_at cs n) (term_at cs n) t

pub put_chain : (cs : Changes) (t : Term) → put_in cs t ≡ (put_at cs chain_limit t).term
unfolding put_at
put_chain cs t = refl

pub at_value : (cs : Changes) (n k : ℕ) (t : Term) → value cs k ≡ Some t
    → term_at cs (suc n) k ≡ record { term = (put_at cs n t).term; lambdas = leading_lambdas (put_at cs n t).term }
unfolding put_at term_at
at_value cs n k t h = ap (put_or k (with_values (level_at cs n) (term_at cs n))) h

pub at_none : (cs : Changes) (n k : ℕ) → value cs k ≡ None → term_at cs n k ≡ as_it_is (meta k)
unfolding term_at
at_none cs zero k h = refl
at_none cs (suc n) k h = ap (put_or k (with_values (level_at cs n) (term_at cs n))) h

pub at_start : (cs : Changes) (k : ℕ) → term_at cs 0 k ≡ as_it_is (meta k)
unfolding term_at
at_start cs k = refl

pub put_later : (S : ℕ → Term → Type 0) → Closing S → (cs ds : Changes) (i j : ℕ) → ((k : ℕ) → LaterPut S (term_at cs i k) (term_at ds j k)) → (t : Term)
    → LaterPut S (put_at cs i t) (put_at ds j t)
unfolding put_at
put_later S cl cs ds i j h t = later_values S cl (level_at cs i) (level_at ds j) (term_at cs i) (term_at ds j) h t

-- A value, put in, later.
later_or : (S : ℕ → Term → Type 0) {p q : Put} → LaterPut S p q
    → LaterPut S (record { term = p.term; lambdas = leading_lambdas p.term }) (record { term = q.term; lambdas = leading_lambdas q.term })
later_or S {p = p} {q = q} h =
    record { terms = h.terms; fewer = lambdas_later S h.terms; first = omega arith; second = omega arith }

-- Where a metavariable alone may become this.
later_meta : (S : ℕ → Term → Type 0) (k : ℕ) (p : Put) → S k p.term → p.lambdas ≤ leading_lambdas p.term → LaterPut S (as_it_is (meta k)) p
later_meta S k p s h = record { terms = stands s; fewer = zero-le; first = zero-le; second = h }

-- ---- Closed

abbrev pub AllClosed : Changes → Type 0
AllClosed cs = (k : ℕ) (t : Term) → value cs k ≡ Some t → loose_bound t ≤ 0

abbrev pub ClosedTerm : ℕ → Term → Type 0
ClosedTerm k T = loose_bound T ≤ 0

closing : Closing ClosedTerm
closing k T h = h

pub split_eq : {X : Type 0} (i k : ℕ) → (i ≡ k → X) → ((i ≡ k → ⊥) → X) → X
split_eq {X = X} i k f g = by_eq (λ r. X) i k zero zero f g

split_value : {X : Type 0} (o : Option Term) → (o ≡ None → X) → ((t : Term) → o ≡ Some t → X) → X
split_value None f g = f refl
split_value (Some t) f g = g t refl

closed_put : (cs : Changes) (n : ℕ) → ((k : ℕ) → LaterPut ClosedTerm (as_it_is (meta k)) (term_at cs n k)) → (t : Term)
    → LaterPut ClosedTerm (as_it_is t) (put_at cs n t)
unfolding put_at
closed_put cs n h t = later_raw ClosedTerm closing (level_at cs n) (term_at cs n) h t

pub closed_at : (cs : Changes) → AllClosed cs → (n k : ℕ) → LaterPut ClosedTerm (as_it_is (meta k)) (term_at cs n k)
closed_at cs cl zero k = subst (LaterPut ClosedTerm (as_it_is (meta k))) (sym (at_start cs k)) (later_as ClosedTerm (metas k))
closed_at cs cl (suc n) k =
    split_value (value cs k)
    (λ e. subst (LaterPut ClosedTerm (as_it_is (meta k))) (sym (at_none cs (suc n) k e)) (later_as ClosedTerm (metas k)))
    (λ t e. subst (LaterPut ClosedTerm (as_it_is (meta k))) (sym (at_value cs n k t e))
    (later_meta ClosedTerm k _ (later_loose ClosedTerm closing 0 (closed_put cs n (closed_at cs cl n) t).terms (cl k t e)) (omega arith)))

closed_after : (cs : Changes) (m : ℕ) (t : Term) → value cs m ≡ None → loose_bound t ≤ 0 → AllClosed cs → AllClosed (assigning cs m t)
closed_after cs m t h b cl k s e =
    split_eq m k
    (λ q.
    let w : value (assigning cs m t) k ≡ Some t = subst (λ j. value (assigning cs m t) j ≡ Some t) q (value_there cs m t h) in
    let same : t ≡ s = cc (w, e) in
    subst (λ r. loose_bound r ≤ 0) same b)
    (λ n. cl k s (sym (value_elsewhere cs m k t n) ∙ e))

-- ---- Along i assignments before, and along e more after

both_along : (S : ℕ → Term → Type 0) → Closing S → (cs : Changes) (m : ℕ) (t : Term) (e : ℕ) → value cs m ≡ None
    → ((k : ℕ) → LaterPut S (as_it_is (meta k)) (term_at (assigning cs m t) e k))
    → ((j : ℕ) → LaterPut S (as_it_is (meta m)) (term_at (assigning cs m t) (e + j) m))
    → (i k : ℕ) → LaterPut S (term_at cs i k) (term_at (assigning cs m t) (e + i) k)
both_along S cl cs m t e h start at zero k =
    subst (λ p. LaterPut S p (term_at (assigning cs m t) (e + 0) k)) (sym (at_start cs k))
    (subst (λ j. LaterPut S (as_it_is (meta k)) (term_at (assigning cs m t) j k)) (omega arith) (start k))
both_along S cl cs m t e h start at (suc i) k =
    split_eq m k
    (λ q. subst (λ j. LaterPut S (term_at cs (suc i) j) (term_at (assigning cs m t) (e + suc i) j)) q
    (subst (λ p. LaterPut S p (term_at (assigning cs m t) (e + suc i) m)) (sym (at_none cs (suc i) m h)) (at (suc i))))
    (λ n. subst (λ j. LaterPut S (term_at cs (suc i) k) (term_at (assigning cs m t) j k)) (omega arith)
    (split_value (value cs k)
    (λ w. subst (λ p. LaterPut S p (term_at (assigning cs m t) (suc (e + i)) k)) (sym (at_none cs (suc i) k w))
    (subst (LaterPut S (as_it_is (meta k))) (sym (at_none (assigning cs m t) (suc (e + i)) k (value_elsewhere cs m k t n ∙ w)))
    (later_as S (metas k))))
    (λ s w. subst (λ p. LaterPut S p (term_at (assigning cs m t) (suc (e + i)) k)) (sym (at_value cs i k s w))
    (subst (LaterPut S _) (sym (at_value (assigning cs m t) (e + i) k s (value_elsewhere cs m k t n ∙ w)))
    (later_or S (put_later S cl cs (assigning cs m t) i (e + i) (both_along S cl cs m t e h start at i) s))))))

-- ---- Settled

settled_put : (cs : Changes) (d : ℕ) → Settled cs d → (n : ℕ) → d ≤ n → (t : Term) → put_at cs n t ≡ put_at cs d t
unfolding put_at
settled_put cs d s n h t = ap₂ (λ l f. with_values l f t) (s.levels n h) (s.terms n h)

settled_in : (cs : Changes) (d : ℕ) → Settled cs d → d ≤ chain_limit → (n : ℕ) → d ≤ n → (t : Term) → (put_at cs n t).term ≡ put_in cs t
settled_in cs d s l n h t =
    ap (λ p. p.term) (settled_put cs d s n h t) ∙ sym (put_chain cs t ∙ ap (λ p. p.term) (settled_put cs d s chain_limit l t))

shown_put : (cs : Changes) (d : ℕ) → Settled cs d → (t : Term) → Shows (λ j. value cs j ≡ None) (put_at cs d t).term
unfolding put_at
shown_put cs d s t = values_show (λ j. value cs j ≡ None) (level_at cs d) (term_at cs d) s.left t

shown_in : (cs : Changes) (d : ℕ) → Settled cs d → d ≤ chain_limit → (t : Term) → Shows (λ j. value cs j ≡ None) (put_in cs t)
shown_in cs d s l t = subst (Shows (λ j. value cs j ≡ None)) (settled_in cs d s l d (omega arith) t) (shown_put cs d s t)

-- ---- The value itself, from the depth on at which all before was settled

abbrev pub Elsewhere : Changes → ℕ → ℕ → Type 0
Elsewhere cs m k = (value cs k ≡ None) × (k ≡ m → ⊥)

abbrev pub Hidden : Changes → ℕ → ℕ → Term → Type 0
Hidden cs m k T = (loose_bound T ≤ 0) × (Elsewhere cs m k → ⊥)

value_in_scope : (cs : Changes) (d m : ℕ) (t : Term) → Settled cs d → d ≤ chain_limit → loose_bound t ≤ 0 → Taken cs m t → (i : ℕ) → d ≤ i
    → free_bound (put_at (assigning cs m t) i t).term ≤ scope_of cs m
value_in_scope cs d m t s l b k i h =
    later_free (Hidden cs m) (Elsewhere cs m) (scope_of cs m) (λ j T p q. absurd (q.1 p))
    (put_later (Hidden cs m) (λ j T q. q.0) cs (assigning cs m t) i i along t).terms
    (subst (Shows (Elsewhere cs m)) (sym (settled_in cs d s l i h t))
    (both_show (λ j. value cs j ≡ None) (λ j. j ≡ m → ⊥) (put_in cs t) (shown_in cs d s l t) k.shows))
    (subst (λ r. free_bound r ≤ scope_of cs m) (sym (settled_in cs d s l i h t)) k.scope)
  where
    after : AllClosed (assigning cs m t)
    after = closed_after cs m t k.fresh b s.closed

    start : (j : ℕ) → LaterPut (Hidden cs m) (as_it_is (meta j)) (term_at (assigning cs m t) 0 j)
    start j = subst (LaterPut (Hidden cs m) (as_it_is (meta j))) (sym (at_start (assigning cs m t) j)) (later_as (Hidden cs m) (metas j))

    there : (j : ℕ) → LaterPut (Hidden cs m) (as_it_is (meta m)) (term_at (assigning cs m t) (0 + j) m)
    there j =
        let c = closed_at (assigning cs m t) after (0 + j) m in
        later_meta (Hidden cs m) m _ (later_loose ClosedTerm closing 0 c.terms zero-le, λ p. p.1 refl) c.second

    along : (j : ℕ) → LaterPut (Hidden cs m) (term_at cs i j) (term_at (assigning cs m t) i j)
    along j = subst (λ n. LaterPut (Hidden cs m) (term_at cs i j) (term_at (assigning cs m t) n j)) (omega arith)
        (both_along (Hidden cs m) (λ x T q. q.0) cs m t 0 k.fresh start there i j)

-- ---- Any term

-- What may stand for a metavariable: where it had no value, a term of the context.
abbrev pub Scoping : Changes → ℕ → ℕ → Term → Type 0
Scoping cs n k T = (loose_bound T ≤ 0) × (value cs k ≡ None → free_bound T ≤ n)

pub assignment_keeps_scope : AssignmentKeepsScope
assignment_keeps_scope cs d m n t u s l b r w h =
    subst (λ x. free_bound x ≤ n) (sym (put_chain (assigning cs m t) u))
    (subst (λ j. free_bound (put_at (assigning cs m t) j u).term ≤ n) (omega (arith, l))
    (later_free (Scoping cs n) (λ j. value cs j ≡ None) n (λ j T p q. q.1 p)
    (put_later (Scoping cs n) (λ j T q. q.0) cs (assigning cs m t) (chain_limit - suc d) (suc d + (chain_limit - suc d)) along u).terms
    (subst (Shows (λ j. value cs j ≡ None)) (sym same) (shown_in cs d s (omega (arith, l)) u))
    (subst (λ x. free_bound x ≤ n) (sym same) h)))
  where
    k : Taken cs m t
    k = taken cs m t r

    after : AllClosed (assigning cs m t)
    after = closed_after cs m t k.fresh b s.closed

    same : (put_at cs (chain_limit - suc d) u).term ≡ put_in cs u
    same = settled_in cs d s (omega (arith, l)) (chain_limit - suc d) (omega (arith, l)) u

    -- the metavariable itself, far enough
    far : (i : ℕ) → d ≤ i → LaterPut (Scoping cs n) (as_it_is (meta m)) (term_at (assigning cs m t) (suc i) m)
    far i p =
        let c = closed_at (assigning cs m t) after (suc i) m in
        later_meta (Scoping cs n) m _ (
          later_loose ClosedTerm closing 0 c.terms zero-le,
          λ z. subst (λ x. free_bound x.term ≤ n) (sym (at_value (assigning cs m t) i m t (value_there cs m t k.fresh)))
              (omega (arith, w, value_in_scope cs d m t s (omega (arith, l)) b k i p)),
        ) c.second

    there : (j : ℕ) → LaterPut (Scoping cs n) (as_it_is (meta m)) (term_at (assigning cs m t) (suc d + j) m)
    there j = subst (λ i. LaterPut (Scoping cs n) (as_it_is (meta m)) (term_at (assigning cs m t) i m)) (omega arith) (far (d + j) (omega arith))

    valued : (j : ℕ) (v : Term) → value cs j ≡ Some v → value cs j ≡ None → ⊥
    valued j v e f = absurd (cc (e, f))

    start : (j : ℕ) → LaterPut (Scoping cs n) (as_it_is (meta j)) (term_at (assigning cs m t) (suc d) j)
    start j =
        split_value (value cs j)
        (λ e. split_eq m j
        (λ q. subst (λ x. LaterPut (Scoping cs n) (as_it_is (meta x)) (term_at (assigning cs m t) (suc d) x)) q (far d (omega arith)))
        (λ z. subst (LaterPut (Scoping cs n) (as_it_is (meta j))) (sym (at_none (assigning cs m t) (suc d) j (value_elsewhere cs m j t z ∙ e)))
        (later_as (Scoping cs n) (metas j))))
        (λ v e.
        let c = closed_at (assigning cs m t) after (suc d) j in
        later_meta (Scoping cs n) j _ (later_loose ClosedTerm closing 0 c.terms zero-le, λ z. absurd (valued j v e z)) c.second)

    along : (j : ℕ) → LaterPut (Scoping cs n) (term_at cs (chain_limit - suc d) j) (term_at (assigning cs m t) (suc d + (chain_limit - suc d)) j)
    along j = both_along (Scoping cs n) (λ x T q. q.0) cs m t (suc d) k.fresh start there (chain_limit - suc d) j
