-- Items, their constants and lists within lists.
use Rattle.std.proofs.Common.{◌≡◌, ◌⊎◌, inl, inr, true, false, if◌then◌else◌, List, [], ◌∷◌, ◌++◌, refl, sym, ap, subst, ◌∙◌, true≢false, Contains}
use Rattle.std.proofs.lemmas.Bool.{cond_both, cond-true, cond-false}
use Rattle.std.proofs.lemmas.List.{append_assoc, append-nil}
use Rattle.std.proofs.lemmas.List.Elements.{Contains-append_cases, Contains-append_left, Contains-append_right}
use Rattle.lf_core.specs.Term.{Path}
use Rattle.lf_rules.specs.Environment.{Environment, Fresh}
use Rattle.lf_rules.specs.Inductive.{type_constant}
use Rattle.lf_rules.specs.Derived.{AllFresh}
use Rattle.lf_core.specs.declared.constant.ConstInfo.{ConstInfo}
use Rattle.lf_judgment_laws.specs.Growth.{Grows}
use Rattle.lf_judgment_laws.proofs.Grows.{self_tells}
use Rattle.lf_inductive_laws.proofs.Contained.{none_contained, first_contained, later_contained, contained_cases}
use Rattle.lf_checker.specs.View.{View}
use Rattle.lf_derivation_laws.specs.Lists.{Item, assumed, defined, failed, introduced, constants_of, name_of, all_constants, knows, known}

-- ---- Lists within lists.

abbrev pub Within : {X : Type 0} → List X → List X → Type 0
Within {X = X} E F = (c : X) → Contains E c → Contains F c

pub within_grows : (E F : Environment) → Within E F → Grows E F
within_grows E F h c w = (c, h c w, self_tells c)

pub fresh_within : (E F : Environment) (n : Path) → Within E F → Fresh F n → Fresh E n
fresh_within E F n h f (c, w, e) = f (c, h c w, e)

within_more : {X : Type 0} (E F : List X) (c : X) → Within E F → Within (E ++ c ∷ []) (F ++ c ∷ [])
within_more E F c h d w = at (Contains-append_cases E (c ∷ []) d w)
  where
    at : Contains E d ⊎ Contains (c ∷ []) d → Contains (F ++ c ∷ []) d
    at (inl i) = Contains-append_left F (c ∷ []) d (h d i)
    at (inr i) = Contains-append_right F (c ∷ []) d i

pub all_fresh_within : (E F : Environment) (cs : List ConstInfo) → Within E F → AllFresh F cs → AllFresh E cs
all_fresh_within E F [] h f = tt
all_fresh_within E F (c ∷ cs) h f = (fresh_within E F c.name h f.0, all_fresh_within (E ++ c ∷ []) (F ++ c ∷ []) cs (within_more E F c h) f.1)

-- ---- The constants of items.

pub first_of : Item → ConstInfo
first_of (assumed c V) = c
first_of (defined c v H B) = c
first_of (failed c V) = c
first_of (introduced d large V) = type_constant d large

pub first_named : (i : Item) → (first_of i).name ≡ name_of i
unfolding first_of
first_named (assumed c V) = refl
first_named (defined c v H B) = refl
first_named (failed c V) = refl
first_named (introduced d large V) = refl

pub first_within : (i : Item) → Contains (constants_of i) (first_of i)
unfolding first_of
first_within (assumed c V) = first_contained c []
first_within (defined c v H B) = first_contained c []
first_within (failed c V) = first_contained c []
first_within (introduced d large V) = first_contained (type_constant d large) _

pub item_of : (J : List Item) (c : ConstInfo) → Contains (all_constants J) c → (i : Item) × Contains J i × Contains (constants_of i) c
item_of [] c w = absurd (none_contained c w)
item_of (j ∷ js) c w = at (λ h. item_of js c h) (Contains-append_cases (constants_of j) (all_constants js) c w)
  where
    at : (Contains (all_constants js) c → (i : Item) × Contains js i × Contains (constants_of i) c)
        → Contains (constants_of j) c ⊎ Contains (all_constants js) c → (i : Item) × Contains (j ∷ js) i × Contains (constants_of i) c
    at rest (inl h) = (j, first_contained j js, h)
    at rest (inr h) = let r = rest h in (r.0, later_contained j r.0 js r.1, r.2)

pub of_item : (J : List Item) (i : Item) (c : ConstInfo) → Contains J i → Contains (constants_of i) c → Contains (all_constants J) c
of_item [] i c w h = absurd (none_contained i w)
of_item (j ∷ js) i c w h = at (λ v. of_item js i c v h) (contained_cases j i js w)
  where
    at : (Contains js i → Contains (all_constants js) c) → (j ≡ i) ⊎ Contains js i → Contains (constants_of j ++ all_constants js) c
    at rest (inl e) = Contains-append_left (constants_of j) (all_constants js) c (subst (λ k. Contains (constants_of k) c) (sym e) h)
    at rest (inr v) = Contains-append_right (constants_of j) (all_constants js) c (rest v)

all-append : (J K : List Item) → all_constants (J ++ K) ≡ all_constants J ++ all_constants K
all-append [] K = refl
all-append (j ∷ js) K = ap (λ e. constants_of j ++ e) (all-append js K) ∙ sym (append_assoc (constants_of j) (all_constants js) (all_constants K))

pub all-last : (J : List Item) (i : Item) → all_constants (J ++ i ∷ []) ≡ all_constants J ++ constants_of i
all-last J i = all-append J (i ∷ []) ∙ ap (λ e. all_constants J ++ e) (append-nil (constants_of i))

-- ---- What a view knows of items.

pub known_of : (V : View) (J : List Item) (i : Item) → Contains (known V J) i → Contains J i × (knows V i ≡ true)
known_of V [] i w = absurd (none_contained i w)
known_of V (j ∷ js) i w0 =
    cond_both (knows V j) (j ∷ known V js) (known V js) (λ x. Contains x i → Contains (j ∷ js) i × (knows V i ≡ true))
    (λ e w. at (λ v. known_of V js i v) e (contained_cases j i (known V js) w)) (λ e w. let r = known_of V js i w in (later_contained j i js r.0, r.1)) w0
  where
    at : (Contains (known V js) i → Contains js i × (knows V i ≡ true)) → knows V j ≡ true → (j ≡ i) ⊎ Contains (known V js) i
        → Contains (j ∷ js) i × (knows V i ≡ true)
    at rest e (inl q) = subst (λ k. Contains (j ∷ js) k × (knows V k ≡ true)) q (first_contained j js, e)
    at rest e (inr v) = let r = rest v in (later_contained j i js r.0, r.1)

pub known_if : (V : View) (J : List Item) (i : Item) → Contains J i → knows V i ≡ true → Contains (known V J) i
known_if V [] i w k = absurd (none_contained i w)
known_if V (j ∷ js) i w k =
    cond_both (knows V j) (j ∷ known V js) (known V js) (λ x. Contains x i)
    (λ e. first (λ v. known_if V js i v k) (contained_cases j i js w)) (λ e. other (λ v. known_if V js i v k) e (contained_cases j i js w))
  where
    first : (Contains js i → Contains (known V js) i) → (j ≡ i) ⊎ Contains js i → Contains (j ∷ known V js) i
    first rest (inl q) = subst (Contains (j ∷ known V js)) q (first_contained j (known V js))
    first rest (inr v) = later_contained j i (known V js) (rest v)

    other : (Contains js i → Contains (known V js) i) → knows V j ≡ false → (j ≡ i) ⊎ Contains js i → Contains (known V js) i
    other rest e (inl q) = absurd (true≢false (sym k ∙ subst (λ x. knows V x ≡ false) q e))
    other rest e (inr v) = rest v

known-append : (V : View) (J K : List Item) → known V (J ++ K) ≡ known V J ++ known V K
known-append V [] K = refl
known-append V (j ∷ js) K =
    cond_both (knows V j) (j ∷ known V (js ++ K)) (known V (js ++ K)) (λ x. x ≡ (if knows V j then j ∷ known V js else known V js) ++ known V K)
    (λ e. ap (λ x. j ∷ x) (known-append V js K) ∙ ap (λ x. x ++ known V K) (sym (cond-true (knows V j) (j ∷ known V js) (known V js) e)))
    (λ e. known-append V js K ∙ ap (λ x. x ++ known V K) (sym (cond-false (knows V j) (j ∷ known V js) (known V js) e)))

pub known-with : (V : View) (J : List Item) (i : Item) → knows V i ≡ true → known V (J ++ i ∷ []) ≡ known V J ++ i ∷ []
known-with V J i e = known-append V J (i ∷ []) ∙ ap (λ x. known V J ++ x) (cond-true (knows V i) (i ∷ []) [] e)

pub known-without : (V : View) (J : List Item) (i : Item) → knows V i ≡ false → known V (J ++ i ∷ []) ≡ known V J
known-without V J i e = known-append V J (i ∷ []) ∙ ap (λ x. known V J ++ x) (cond-false (knows V i) (i ∷ []) [] e) ∙ append-nil (known V J)
