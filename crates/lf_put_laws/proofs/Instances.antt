-- How raising and instantiating commute (de Bruijn 1972).
use Rattle.std.proofs.Common.{◌≡◌, ℕ, zero, suc, ◌+◌, ◌-◌, ◌<◌, ◌≤◌, nat_eq, nat_lt, if◌then◌else◌, refl, sym, ap, ap₂, ◌∙◌, arith}
use Rattle.std.proofs.lemmas.Bool.{cond_both, eqb-true, eqb-false, ltb-true, ltb-false}
use Rattle.lf_core.specs.Term.{Term, bound, free, meta, sort, const, app, lam, pi, letin, lit, proj}
use Rattle.lf_core.specs.Substitution.{raise, instantiate_at}

-- ---- Variables

pub by_eq : {X : Type 0} (P : X → Type 0) (i k : ℕ) (x y : X) → (i ≡ k → P x) → ((i ≡ k → ⊥) → P y) → P (if nat_eq i k then x else y)
by_eq P i k x y f g = cond_both (nat_eq i k) x y P (λ e. f (eqb-true i k e)) (λ e. g (eqb-false i k e))

pub by_lt : {X : Type 0} (P : X → Type 0) (i k : ℕ) (x y : X) → (i < k → P x) → (k ≤ i → P y) → P (if nat_lt i k then x else y)
by_lt P i k x y f g = cond_both (nat_lt i k) x y P (λ e. f (ltb-true i k e)) (λ e. g (ltb-false i k e))

pub raise_below : (d n i : ℕ) → i < d → raise d n (bound i) ≡ bound i
raise_below d n i h = by_lt (λ r. r ≡ bound i) i d (bound i) (bound (i + n)) (λ e. refl) (λ e. absurd (omega arith))

pub raise_above : (d n i : ℕ) → d ≤ i → raise d n (bound i) ≡ bound (i + n)
raise_above d n i h = by_lt (λ r. r ≡ bound (i + n)) i d (bound i) (bound (i + n)) (λ e. absurd (omega arith)) (λ e. refl)

pub instantiate_below : (d i : ℕ) (a : Term) → i < d → instantiate_at d (bound i) a ≡ bound i
instantiate_below d i a h =
    by_lt (λ r. r ≡ bound i) i d (bound i) (if nat_eq i d then raise 0 d a else bound (i - 1)) (λ e. refl) (λ e. absurd (omega arith))

pub instantiate_here : (d i : ℕ) (a : Term) → i ≡ d → instantiate_at d (bound i) a ≡ raise 0 d a
instantiate_here d i a h =
    by_lt (λ r. r ≡ raise 0 d a) i d (bound i) (if nat_eq i d then raise 0 d a else bound (i - 1)) (λ e. absurd (omega arith)) λ e.
    by_eq (λ r. r ≡ raise 0 d a) i d (raise 0 d a) (bound (i - 1)) (λ q. refl) (λ n. absurd (n h))

pub instantiate_above : (d i : ℕ) (a : Term) → d < i → instantiate_at d (bound i) a ≡ bound (i - 1)
instantiate_above d i a h =
    by_lt (λ r. r ≡ bound (i - 1)) i d (bound i) (if nat_eq i d then raise 0 d a else bound (i - 1)) (λ e. absurd (omega arith)) λ e.
    by_eq (λ r. r ≡ bound (i - 1)) i d (raise 0 d a) (bound (i - 1)) (λ q. absurd (omega arith)) (λ n. refl)

pub split_lt : {X : Type 0} (i k : ℕ) → (i < k → X) → (k ≤ i → X) → X
split_lt {X = X} i k f g = by_lt (λ r. X) i k zero zero f g

pub split_three : {X : Type 0} (i k : ℕ) → (i < k → X) → (i ≡ k → X) → (k < i → X) → X
split_three {X = X} i k f g h = split_lt i k f (λ e. by_eq (λ r. X) i k zero zero g (λ n. h (omega (arith, n, e))))

-- ---- Raised twice

raised_variable : (c e j m i : ℕ) → j ≤ c → c ≤ j + m → raise c e (raise j m (bound i)) ≡ raise j (m + e) (bound i)
raised_variable c e j m i p q =
    split_lt i j
    (λ h. ap (raise c e) (raise_below j m i h) ∙ raise_below c e i (omega arith) ∙ sym (raise_below j (m + e) i h))
    (λ h. ap (raise c e) (raise_above j m i h) ∙ raise_above c e (i + m) (omega arith) ∙ ap bound (omega arith) ∙ sym (raise_above j (m + e) i h))

pub raise_again : (c e j m : ℕ) (t : Term) → j ≤ c → c ≤ j + m → raise c e (raise j m t) ≡ raise j (m + e) t
raise_again c e j m (bound i) p q = raised_variable c e j m i p q
raise_again c e j m (free z) p q = refl
raise_again c e j m (meta z) p q = refl
raise_again c e j m (sort z) p q = refl
raise_again c e j m (const z zs) p q = refl
raise_again c e j m (lit z) p q = refl
raise_again c e j m (app u v) p q = ap₂ app (raise_again c e j m u p q) (raise_again c e j m v p q)
raise_again c e j m (lam z u v) p q = ap₂ (lam z) (raise_again c e j m u p q) (raise_again (suc c) e (suc j) m v (omega arith) (omega arith))
raise_again c e j m (pi z u v) p q = ap₂ (pi z) (raise_again c e j m u p q) (raise_again (suc c) e (suc j) m v (omega arith) (omega arith))
raise_again c e j m (letin z u w v) p q =
    cc ((raise_again c e j m u p q), (raise_again c e j m w p q), (raise_again (suc c) e (suc j) m v (omega arith) (omega arith)))
raise_again c e j m (proj z i u) p q = ap (proj z i) (raise_again c e j m u p q)

-- ---- Raisings change places

exchanged_variable : (b c j n d i : ℕ) → d ≡ c + j → b ≤ j → raise d n (raise b c (bound i)) ≡ raise b c (raise j n (bound i))
exchanged_variable b c j n d i q p =
    split_lt i b
    (λ h. ap (raise d n) (raise_below b c i h) ∙ raise_below d n i (omega arith) ∙ sym (ap (raise b c) (raise_below j n i (omega arith)) ∙ raise_below b c i h))
    (λ h. split_lt i j
    (λ l. ap (raise d n) (raise_above b c i h) ∙ raise_below d n (i + c) (omega arith)
    ∙ sym (ap (raise b c) (raise_below j n i l) ∙ raise_above b c i h))
    (λ l. ap (raise d n) (raise_above b c i h) ∙ raise_above d n (i + c) (omega arith) ∙ ap bound (omega arith)
    ∙ sym (ap (raise b c) (raise_above j n i l) ∙ raise_above b c (i + n) (omega arith))))

pub raise_exchange : (b c j n d : ℕ) (t : Term) → d ≡ c + j → b ≤ j → raise d n (raise b c t) ≡ raise b c (raise j n t)
raise_exchange b c j n d (bound i) q p = exchanged_variable b c j n d i q p
raise_exchange b c j n d (free z) q p = refl
raise_exchange b c j n d (meta z) q p = refl
raise_exchange b c j n d (sort z) q p = refl
raise_exchange b c j n d (const z zs) q p = refl
raise_exchange b c j n d (lit z) q p = refl
raise_exchange b c j n d (app u v) q p = ap₂ app (raise_exchange b c j n d u q p) (raise_exchange b c j n d v q p)
raise_exchange b c j n d (lam z u v) q p =
    ap₂ (lam z) (raise_exchange b c j n d u q p) (raise_exchange (suc b) c (suc j) n (suc d) v (omega arith) (omega arith))
raise_exchange b c j n d (pi z u v) q p = ap₂ (pi z) (raise_exchange b c j n d u q p) (raise_exchange (suc b) c (suc j) n (suc d) v (omega arith) (omega arith))
raise_exchange b c j n d (letin z u w v) q p =
    cc ((raise_exchange b c j n d u q p), (raise_exchange b c j n d w q p), (raise_exchange (suc b) c (suc j) n (suc d) v (omega arith) (omega arith)))
raise_exchange b c j n d (proj z i u) q p = ap (proj z i) (raise_exchange b c j n d u q p)

-- ---- An instance, raised

raised_instance_variable : (c j n d i : ℕ) (a : Term) → d ≡ c + j
    → raise d n (instantiate_at c (bound i) a) ≡ instantiate_at c (raise (suc d) n (bound i)) (raise j n a)
raised_instance_variable c j n d i a q =
    split_three i c
    (λ h. ap (raise d n) (instantiate_below c i a h) ∙ raise_below d n i (omega arith)
    ∙ sym (ap (λ r. instantiate_at c r (raise j n a)) (raise_below (suc d) n i (omega arith)) ∙ instantiate_below c i (raise j n a) h))
    (λ h. ap (raise d n) (instantiate_here c i a h) ∙ raise_exchange 0 c j n d a q (omega arith)
    ∙ sym (ap (λ r. instantiate_at c r (raise j n a)) (raise_below (suc d) n i (omega arith)) ∙ instantiate_here c i (raise j n a) h))
    (λ h. split_lt i (suc d)
    (λ l. ap (raise d n) (instantiate_above c i a h) ∙ raise_below d n (i - 1) (omega arith)
    ∙ sym (ap (λ r. instantiate_at c r (raise j n a)) (raise_below (suc d) n i l) ∙ instantiate_above c i (raise j n a) h))
    (λ l. ap (raise d n) (instantiate_above c i a h) ∙ raise_above d n (i - 1) (omega arith) ∙ ap bound (omega arith)
    ∙ sym (ap (λ r. instantiate_at c r (raise j n a)) (raise_above (suc d) n i l) ∙ instantiate_above c (i + n) (raise j n a) (omega arith))))

pub raise_instance : (c j n d : ℕ) (t a : Term) → d ≡ c + j → raise d n (instantiate_at c t a) ≡ instantiate_at c (raise (suc d) n t) (raise j n a)
raise_instance c j n d (bound i) a q = raised_instance_variable c j n d i a q
raise_instance c j n d (free z) a q = refl
raise_instance c j n d (meta z) a q = refl
raise_instance c j n d (sort z) a q = refl
raise_instance c j n d (const z zs) a q = refl
raise_instance c j n d (lit z) a q = refl
raise_instance c j n d (app u v) a q = ap₂ app (raise_instance c j n d u a q) (raise_instance c j n d v a q)
raise_instance c j n d (lam z u v) a q = ap₂ (lam z) (raise_instance c j n d u a q) (raise_instance (suc c) j n (suc d) v a (omega arith))
raise_instance c j n d (pi z u v) a q = ap₂ (pi z) (raise_instance c j n d u a q) (raise_instance (suc c) j n (suc d) v a (omega arith))
raise_instance c j n d (letin z u w v) a q =
    cc ((raise_instance c j n d u a q), (raise_instance c j n d w a q), (raise_instance (suc c) j n (suc d) v a (omega arith)))
raise_instance c j n d (proj z i u) a q = ap (proj z i) (raise_instance c j n d u a q)

-- ---- An instance of a raised term

instance_raised_variable : (c e m n i : ℕ) (a : Term) → n ≡ m + e → c ≤ m
    → instantiate_at n (raise c e (bound i)) a ≡ raise c e (instantiate_at m (bound i) a)
instance_raised_variable c e m n i a q p =
    split_lt i c
    (λ h. ap (λ r. instantiate_at n r a) (raise_below c e i h) ∙ instantiate_below n i a (omega arith)
    ∙ sym (ap (raise c e) (instantiate_below m i a (omega arith)) ∙ raise_below c e i h))
    (λ h. split_three i m
    (λ l. ap (λ r. instantiate_at n r a) (raise_above c e i h) ∙ instantiate_below n (i + e) a (omega arith)
    ∙ sym (ap (raise c e) (instantiate_below m i a l) ∙ raise_above c e i h))
    (λ l. ap (λ r. instantiate_at n r a) (raise_above c e i h) ∙ instantiate_here n (i + e) a (omega arith)
    ∙ sym (ap (raise c e) (instantiate_here m i a l) ∙ raise_again c e 0 m a (omega arith) (omega arith) ∙ ap (λ k. raise 0 k a) (sym q)))
    (λ l. ap (λ r. instantiate_at n r a) (raise_above c e i h) ∙ instantiate_above n (i + e) a (omega arith) ∙ ap bound (omega arith)
    ∙ sym (ap (raise c e) (instantiate_above m i a l) ∙ raise_above c e (i - 1) (omega arith))))

pub instance_raised : (c e m n : ℕ) (t a : Term) → n ≡ m + e → c ≤ m → instantiate_at n (raise c e t) a ≡ raise c e (instantiate_at m t a)
instance_raised c e m n (bound i) a q p = instance_raised_variable c e m n i a q p
instance_raised c e m n (free z) a q p = refl
instance_raised c e m n (meta z) a q p = refl
instance_raised c e m n (sort z) a q p = refl
instance_raised c e m n (const z zs) a q p = refl
instance_raised c e m n (lit z) a q p = refl
instance_raised c e m n (app u v) a q p = ap₂ app (instance_raised c e m n u a q p) (instance_raised c e m n v a q p)
instance_raised c e m n (lam z u v) a q p =
    ap₂ (lam z) (instance_raised c e m n u a q p) (instance_raised (suc c) e (suc m) (suc n) v a (omega arith) (omega arith))
instance_raised c e m n (pi z u v) a q p =
    ap₂ (pi z) (instance_raised c e m n u a q p) (instance_raised (suc c) e (suc m) (suc n) v a (omega arith) (omega arith))
instance_raised c e m n (letin z u w v) a q p =
    cc ((instance_raised c e m n u a q p), (instance_raised c e m n w a q p), (instance_raised (suc c) e (suc m) (suc n) v a (omega arith) (omega arith)))
instance_raised c e m n (proj z i u) a q p = ap (proj z i) (instance_raised c e m n u a q p)

-- ---- A term raised by one more, at an instance

instance_of_raised_variable : (c e n i : ℕ) (a : Term) → c ≤ e → e ≤ c + n → instantiate_at e (raise c (suc n) (bound i)) a ≡ raise c n (bound i)
instance_of_raised_variable c e n i a p q =
    split_lt i c
    (λ h. ap (λ r. instantiate_at e r a) (raise_below c (suc n) i h) ∙ instantiate_below e i a (omega arith) ∙ sym (raise_below c n i h))
    (λ h. ap (λ r. instantiate_at e r a) (raise_above c (suc n) i h) ∙ instantiate_above e (i + suc n) a (omega arith) ∙ ap bound (omega arith)
    ∙ sym (raise_above c n i h))

pub instance_of_raised : (c e n : ℕ) (t a : Term) → c ≤ e → e ≤ c + n → instantiate_at e (raise c (suc n) t) a ≡ raise c n t
instance_of_raised c e n (bound i) a p q = instance_of_raised_variable c e n i a p q
instance_of_raised c e n (free z) a p q = refl
instance_of_raised c e n (meta z) a p q = refl
instance_of_raised c e n (sort z) a p q = refl
instance_of_raised c e n (const z zs) a p q = refl
instance_of_raised c e n (lit z) a p q = refl
instance_of_raised c e n (app u v) a p q = ap₂ app (instance_of_raised c e n u a p q) (instance_of_raised c e n v a p q)
instance_of_raised c e n (lam z u v) a p q =
    ap₂ (lam z) (instance_of_raised c e n u a p q) (instance_of_raised (suc c) (suc e) n v a (omega arith) (omega arith))
instance_of_raised c e n (pi z u v) a p q = ap₂ (pi z) (instance_of_raised c e n u a p q) (instance_of_raised (suc c) (suc e) n v a (omega arith) (omega arith))
instance_of_raised c e n (letin z u w v) a p q =
    cc ((instance_of_raised c e n u a p q), (instance_of_raised c e n w a p q), (instance_of_raised (suc c) (suc e) n v a (omega arith) (omega arith)))
instance_of_raised c e n (proj z i u) a p q = ap (proj z i) (instance_of_raised c e n u a p q)

-- ---- Two instances change places

two_at_variable : (e d n i : ℕ) (h a : Term) → n ≡ d + e
    → instantiate_at n (instantiate_at e (bound i) h) a ≡ instantiate_at e (instantiate_at (suc n) (bound i) a) (instantiate_at d h a)
two_at_variable e d n i h a q =
    split_three i e
    (λ l. ap (λ r. instantiate_at n r a) (instantiate_below e i h l) ∙ instantiate_below n i a (omega arith)
    ∙ sym (ap (λ r. instantiate_at e r (instantiate_at d h a)) (instantiate_below (suc n) i a (omega arith)) ∙ instantiate_below e i (instantiate_at d h a) l))
    (λ l. ap (λ r. instantiate_at n r a) (instantiate_here e i h l) ∙ instance_raised 0 e d n h a q (omega arith)
    ∙ sym (ap (λ r. instantiate_at e r (instantiate_at d h a)) (instantiate_below (suc n) i a (omega arith)) ∙ instantiate_here e i (instantiate_at d h a) l))
    (λ l. split_three i (suc n)
    (λ w. ap (λ r. instantiate_at n r a) (instantiate_above e i h l) ∙ instantiate_below n (i - 1) a (omega arith)
    ∙ sym (ap (λ r. instantiate_at e r (instantiate_at d h a)) (instantiate_below (suc n) i a w) ∙ instantiate_above e i (instantiate_at d h a) l))
    (λ w. ap (λ r. instantiate_at n r a) (instantiate_above e i h l) ∙ instantiate_here n (i - 1) a (omega arith)
    ∙ sym (ap (λ r. instantiate_at e r (instantiate_at d h a)) (instantiate_here (suc n) i a w)
    ∙ instance_of_raised 0 e n a (instantiate_at d h a) (omega arith) (omega arith)))
    (λ w. ap (λ r. instantiate_at n r a) (instantiate_above e i h l) ∙ instantiate_above n (i - 1) a (omega arith)
    ∙ sym (ap (λ r. instantiate_at e r (instantiate_at d h a)) (instantiate_above (suc n) i a w)
    ∙ instantiate_above e (i - 1) (instantiate_at d h a) (omega arith))))

pub two_at : (e d n : ℕ) (t h a : Term) → n ≡ d + e
    → instantiate_at n (instantiate_at e t h) a ≡ instantiate_at e (instantiate_at (suc n) t a) (instantiate_at d h a)
two_at e d n (bound i) h a q = two_at_variable e d n i h a q
two_at e d n (free z) h a q = refl
two_at e d n (meta z) h a q = refl
two_at e d n (sort z) h a q = refl
two_at e d n (const z zs) h a q = refl
two_at e d n (lit z) h a q = refl
two_at e d n (app u v) h a q = ap₂ app (two_at e d n u h a q) (two_at e d n v h a q)
two_at e d n (lam z u v) h a q = ap₂ (lam z) (two_at e d n u h a q) (two_at (suc e) d (suc n) v h a (omega arith))
two_at e d n (pi z u v) h a q = ap₂ (pi z) (two_at e d n u h a q) (two_at (suc e) d (suc n) v h a (omega arith))
two_at e d n (letin z u w v) h a q = cc ((two_at e d n u h a q), (two_at e d n w h a q), (two_at (suc e) d (suc n) v h a (omega arith)))
two_at e d n (proj z i u) h a q = ap (proj z i) (two_at e d n u h a q)
