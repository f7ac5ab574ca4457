-- What is asked of a view over a list, item by item.
use Rattle.std.proofs.Common.{◌≡◌, ◌⊎◌, inl, inr, ℕ, true, List, [], ◌∷◌, ◌++◌, refl, sym, subst, Contains}
use Rattle.std.proofs.lemmas.List.Elements.{Contains-append_cases, Contains-append_left, Contains-append_right}
use Rattle.lf_core.specs.Term.{Path}
use Rattle.lf_rules.specs.Environment.{Declared}
use Rattle.lf_core.specs.declared.constant.ConstInfo.{ConstInfo}
use Rattle.lf_core.specs.declared.constant.Detail.TheVariants.{Ctor}
use Rattle.lf_inductive_laws.proofs.Contained.{none_contained, last_contained}
use Rattle.lf_checker.specs.View.{View, found, lookup_of}
use Rattle.lf_checker_laws.specs.Declarations.{FindsAll}
use Rattle.lf_derivation_laws.specs.Lists.{Item, constants_of, view_of, all_constants, knows, KnowsAsMuch, Inherits, Reads, ReadsItem, ReadingGrows}
use Rattle.lf_derivation_laws.proofs.Lists_of_items.{all-last}
use Rattle.lf_derivation_laws.proofs.Own_names.{own_names}

-- An element of a list with one more is the last, or one of those before.
record AtEnd {X : Type 0} (xs : List X) (y : X) (before : List X) (k : X) : Type 0 where
  all : xs ≡ before
  last : y ≡ k

record Before {X : Type 0} (xs : List X) (before : List X) (k : X) : Type 0 where
  rest : List X
  all : xs ≡ before ++ k ∷ rest

one_further : {X : Type 0} (x b : X) (xs : List X) (y : X) (bs : List X) (k : X) → x ≡ b → AtEnd xs y bs k ⊎ Before xs bs k
    → AtEnd (x ∷ xs) y (b ∷ bs) k ⊎ Before (x ∷ xs) (b ∷ bs) k
one_further x b xs y bs k e (inl h) = inl (record { all = λ i. e i ∷ h.all i; last = h.last })
one_further x b xs y bs k e (inr h) = inr (record { rest = h.rest; all = λ i. e i ∷ h.all i })

nothing_at : {X : Type 0} (bs : List X) (k : X) (after : List X) → [] ≡ bs ++ k ∷ after → ⊥
nothing_at [] k after e = cc
nothing_at (b ∷ bs) k after e = cc

place_of : {X : Type 0} (xs : List X) (y : X) (bs : List X) (k : X) (after : List X) → xs ++ y ∷ [] ≡ bs ++ k ∷ after → AtEnd xs y bs k ⊎ Before xs bs k
place_of [] y [] k after e = inl (record { all = refl; last = cc })
place_of [] y (b ∷ bs) k after e = let r : [] ≡ bs ++ k ∷ after = cc in absurd (nothing_at bs k after r)
place_of (x ∷ xs) y [] k after e = let q : x ≡ k = cc in inr (record { rest = xs; all = λ i. q i ∷ xs })
place_of (x ∷ xs) y (b ∷ bs) k after e =
    let q : x ≡ b = cc in
    let r : xs ++ y ∷ [] ≡ bs ++ k ∷ after = cc in
    one_further x b xs y bs k q (place_of xs y bs k after r)

inherits_more : (V : View) (J : List Item) (i : Item) → Inherits V J → (knows V i ≡ true → KnowsAsMuch (view_of i) V J) → Inherits V (J ++ i ∷ [])
inherits_more V J i h g before after k e n = at (place_of J i before k after e)
  where
    at : AtEnd J i before k ⊎ Before J before k → KnowsAsMuch (view_of k) V before
    at (inl a) = subst (KnowsAsMuch (view_of k) V) a.all (subst (λ x. knows V x ≡ true → KnowsAsMuch (view_of x) V J) a.last g n)
    at (inr a) = h before a.rest k a.all n

reads_more : (V : View) (J : List Item) (i : Item) → Reads V J → ReadsItem V J i → Reads V (J ++ i ∷ [])
reads_more V J i r s = record {
  own_name = r.own_name;
  whole = λ k w c x wc q. whole k c x wc q (Contains-append_cases J (i ∷ []) k w);
  constructors = λ n c ind index own fields q e d. subst (λ E. Contains E c) (sym (all-last J i))
      (constructor n c ind index own fields q e (subst (λ E. Declared E ind) (all-last J i) d));
  earlier = inherits_more V J i r.earlier s.earlier;
}
  where
    whole : (k : Item) (c x : ConstInfo) → Contains (constants_of k) c → lookup_of V c.name ≡ found x → Contains J k ⊎ Contains (i ∷ []) k
        → FindsAll V (constants_of k)
    whole k c x wc q (inl v) = r.whole k v c x wc q
    whole k c x wc q (inr v) = subst (λ y. Contains (constants_of y) c → FindsAll V (constants_of y)) (last_contained i k v) (λ z. s.whole c x z q) wc

    constructor : (n : Path) (c : ConstInfo) (ind : Path) (index own fields : ℕ) → lookup_of V n ≡ found c → c.detail ≡ Ctor ind index own fields
        → Declared (all_constants J ++ constants_of i) ind → Contains (all_constants J ++ constants_of i) c
    constructor n c ind index own fields q e (d, w, m) = at (Contains-append_cases (all_constants J) (constants_of i) d w)
      where
        at : Contains (all_constants J) d ⊎ Contains (constants_of i) d → Contains (all_constants J ++ constants_of i) c
        at (inl v) = Contains-append_left (all_constants J) (constants_of i) c (r.constructors n c ind index own fields q e (d, v, m))
        at (inr v) = Contains-append_right (all_constants J) (constants_of i) c (s.constructors n c ind index own fields q e (d, v, m))

pub reading_grows : ReadingGrows
reading_grows V = record {
  nothing = record {
    own_name = own_names V;
    whole = λ k w. absurd (none_contained k w);
    constructors = λ n c ind index own fields q e d. absurd (none_contained d.0 d.1);
    earlier = λ before after k e. absurd (nothing_at before k after e);
  };
  one_more = reads_more V;
}
