-- What lists contain that are filtered, mapped or put together.
use Rattle.std.proofs.Common.{◌≡◌, ◌⊎◌, inl, inr, suc, Bool, true, false, List, [], ◌∷◌, map, filter, refl, sym, ap, subst, ◌∙◌, cond, arith}
use Rattle.std.specs.Prelude.{AllPairs, Contains}
use Rattle.lf_inductive_laws.proofs.Contained.{none_contained, first_contained, later_contained, contained_cases}

module _ {A : Type 0} (test : A → Bool) where
  filtered : (b : Bool) (x y : A) (xs : List A) → test x ≡ b → (Contains (filter test xs) y → Contains xs y × (test y ≡ true))
      → Contains (cond b (x ∷ filter test xs) (filter test xs)) y → Contains (x ∷ xs) y × (test y ≡ true)
  filtered true x y xs h r w = at (contained_cases x y (filter test xs) w)
    where
      at : (x ≡ y) ⊎ Contains (filter test xs) y → Contains (x ∷ xs) y × (test y ≡ true)
      at (inl e) = (subst (Contains (x ∷ xs)) e (first_contained x xs), ap test (sym e) ∙ h)
      at (inr v) = let k = r v in (later_contained x y xs k.0, k.1)
  filtered false x y xs h r w = let k = r w in (later_contained x y xs k.0, k.1)

  pub kept_from : (xs : List A) (y : A) → Contains (filter test xs) y → Contains xs y × (test y ≡ true)
  kept_from [] y w = absurd (none_contained y w)
  kept_from (x ∷ xs) y w = filtered (test x) x y xs refl (kept_from xs y) w

  still_there : (b : Bool) (x y : A) (xs : List A) → Contains xs y → Contains (cond b (x ∷ xs) xs) y
  still_there true x y xs w = later_contained x y xs w
  still_there false x y xs w = w

  pub kept_in : (xs : List A) (y : A) → Contains xs y → test y ≡ true → Contains (filter test xs) y
  kept_in [] y w h = absurd (none_contained y w)
  kept_in (x ∷ xs) y w h = at (λ v. kept_in xs y v h) (contained_cases x y xs w)
    where
      at : (Contains xs y → Contains (filter test xs) y) → (x ≡ y) ⊎ Contains xs y → Contains (filter test (x ∷ xs)) y
      at r (inl e) =
          subst (λ z. Contains (filter test (z ∷ xs)) y) (sym e)
          (subst (λ b. Contains (cond b (y ∷ filter test xs) (filter test xs)) y) (sym h) (first_contained y (filter test xs)))
      at r (inr v) = still_there (test x) x y (filter test xs) (r v)

module _ {A B : Type 0} (f : A → B) where
  pub mapped_in : (xs : List A) (x : A) → Contains xs x → Contains (map f xs) (f x)
  mapped_in [] x w = absurd (none_contained x w)
  mapped_in (y ∷ ys) x w = at (mapped_in ys x) (contained_cases y x ys w)
    where
      at : (Contains ys x → Contains (map f ys) (f x)) → (y ≡ x) ⊎ Contains ys x → Contains (f y ∷ map f ys) (f x)
      at r (inl e) = subst (λ z. Contains (f y ∷ map f ys) (f z)) e (first_contained (f y) (map f ys))
      at r (inr v) = later_contained (f y) (f x) (map f ys) (r v)

  pub record From (xs : List A) (y : B) : Type 0 where
    pub source : A
    pub within : Contains xs source
    pub is : f source ≡ y

  pub mapped_from : (xs : List A) (y : B) → Contains (map f xs) y → From xs y
  mapped_from [] y w = absurd (none_contained y w)
  mapped_from (x ∷ xs) y w = at (mapped_from xs y) (contained_cases (f x) y (map f xs) w)
    where
      at : (Contains (map f xs) y → From xs y) → (f x ≡ y) ⊎ Contains (map f xs) y → From (x ∷ xs) y
      at r (inl e) = record { source = x; within = first_contained x xs; is = e }
      at r (inr v) = let k = r v in record { source = k.source; within = later_contained x k.source xs k.within; is = k.is }

-- Two tests, in either order.
swap_step : {A : Type 0} (p q : A → Bool) (b c : Bool) (x : A) (xs ys : List A) → p x ≡ b → q x ≡ c → filter p ys ≡ filter q xs
    → filter p (cond c (x ∷ ys) ys) ≡ filter q (cond b (x ∷ xs) xs)
swap_step p q true true x xs ys h g r =
    ap (λ t. cond t (x ∷ filter p ys) (filter p ys)) h ∙ ap (λ l. x ∷ l) r ∙ sym (ap (λ t. cond t (x ∷ filter q xs) (filter q xs)) g)
swap_step p q true false x xs ys h g r = r ∙ sym (ap (λ t. cond t (x ∷ filter q xs) (filter q xs)) g)
swap_step p q false true x xs ys h g r = ap (λ t. cond t (x ∷ filter p ys) (filter p ys)) h ∙ r
swap_step p q false false x xs ys h g r = r

pub filters_swap : {A : Type 0} (p q : A → Bool) (xs : List A) → filter p (filter q xs) ≡ filter q (filter p xs)
filters_swap p q [] = refl
filters_swap p q (x ∷ xs) = swap_step p q (p x) (q x) x (filter p xs) (filter q xs) refl refl (filters_swap p q xs)

pub none_kept : {A : Type 0} (test : A → Bool) (xs : List A) → ((x : A) → Contains xs x → test x ≡ false) → filter test xs ≡ []
none_kept test [] h = refl
none_kept test (x ∷ xs) h =
    ap (λ b. cond b (x ∷ filter test xs) (filter test xs)) (h x (first_contained x xs)) ∙ none_kept test xs (λ y w. h y (later_contained x y xs w))

-- A list each two of whose elements are related, the first and the others.
pub AllPairs-head : {A : Type 0} (R : A → A → Type 0) (x : A) (xs : List A) → AllPairs R (x ∷ xs) → (y : A) → Contains xs y → R x y
AllPairs-head R x xs d y (k, h, e) = subst (R x) e (d 0 (suc k) y (omega arith) (omega arith))

pub AllPairs-tail : {A : Type 0} (R : A → A → Type 0) (x : A) (xs : List A) → AllPairs R (x ∷ xs) → AllPairs R xs
AllPairs-tail R x xs d = λ i j y b w. d (suc i) (suc j) y (omega arith) (omega arith)
