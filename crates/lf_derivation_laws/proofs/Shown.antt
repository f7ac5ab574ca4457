-- A view that shows what a document makes reads each list of it from which it inherits.
use Rattle.std.proofs.Common.{◌≡◌, ◌⊎◌, inl, inr, ℕ, suc, List, [], ◌∷◌, ◌++◌, sym, ap, subst, ◌∙◌, Contains}
use Rattle.std.proofs.lemmas.List.Elements.{Contains-append_left, Contains-append_right}
use Rattle.lf_core.specs.Term.{Path}
use Rattle.lf_rules.specs.Environment.{Environment, Fresh}
use Rattle.lf_rules.specs.Recursor.{recursor_of}
use Rattle.lf_rules.specs.Inductive.{type_constant, constructor_constant, constructors_from, declared_constants}
use Rattle.lf_core.specs.declared.constant.ConstInfo.{ConstInfo}
use Rattle.lf_core.specs.declared.constant.CtorInfo.{CtorInfo}
use Rattle.lf_core.specs.declared.constant.Detail.{Detail}
use Rattle.lf_core.specs.declared.constant.Detail.TheVariants.{Plain, Ind, Ctor, Rec}
use Rattle.lf_core.specs.declared.constant.IndDecl.{IndDecl}
use Rattle.lf_inductive_laws.proofs.Contained.{none_contained, last_contained, first_contained, later_contained, contained_cases}
use Rattle.lf_inductive_laws.proofs.Right.{declared_cases}
use Rattle.lf_checker.specs.View.{View, found, lookup_of}
use Rattle.lf_derivation_laws.specs.Lists.{Item, assumed, defined, failed, introduced, constants_of, all_constants, IsPlain, Made, ShownIsRead, MadeIsNew}
use Rattle.lf_derivation_laws.proofs.Lists_of_items.{item_of, of_item}
use Rattle.lf_derivation_laws.proofs.Own_names.{own_names}
use Rattle.lf_derivation_laws.proofs.Lists.{no_entry_needed, declaration_new}
use Rattle.lf_admission_laws.specs.Admission.{ConstructorsHaveEntries}
use Rattle.lf_admission_laws.proofs.New_names.{all_fresh}

-- The type of which a constructor's detail speaks.
abbrev of_type : Detail → Path
of_type (Ctor ind index own fields) = ind
of_type Plain = []
of_type (Ind params indices names large) = []
of_type (Rec ind params minors indices rules) = []

constructor_of_type : (d : IndDecl) (n : ℕ) (cs : List CtorInfo) (c : ConstInfo) (ind : Path) (index own fields : ℕ) → Contains (constructors_from d n cs) c
    → c.detail ≡ Ctor ind index own fields → d.name ≡ ind
constructor_of_type d n [] c ind index own fields w e = absurd (none_contained c w)
constructor_of_type d n (k ∷ ks) c ind index own fields w e = at (λ v. constructor_of_type d (suc n) ks c ind index own fields v e)
    (contained_cases (constructor_constant d n k) c (constructors_from d (suc n) ks) w)
  where
    at : (Contains (constructors_from d (suc n) ks) c → d.name ≡ ind) → (constructor_constant d n k ≡ c) ⊎ Contains (constructors_from d (suc n) ks) c
        → d.name ≡ ind
    at rest (inl q) = ap (λ x. of_type x.detail) q ∙ ap of_type e
    at rest (inr v) = rest v

-- An item with a constructor has the type of which it is one.
record HasType (k : Item) (ind : Path) : Type 0 where
  type : ConstInfo
  within : Contains (constants_of k) type
  name : type.name ≡ ind

not_plain : {P : Type 0} (c x : ConstInfo) (ind : Path) (index own fields : ℕ) → x ≡ c → x.detail ≡ Plain → c.detail ≡ Ctor ind index own fields → P
not_plain c x ind index own fields q p e = let f : Plain ≡ Ctor ind index own fields = sym p ∙ ap (λ y. y.detail) q ∙ e in absurd (cc)

has_type : (k : Item) (c : ConstInfo) (ind : Path) (index own fields : ℕ) → IsPlain k → Contains (constants_of k) c → c.detail ≡ Ctor ind index own fields
    → HasType k ind
has_type (assumed x V) c ind index own fields p w e = not_plain c x ind index own fields (last_contained x c w) p e
has_type (defined x v H B) c ind index own fields p w e = not_plain c x ind index own fields (last_contained x c w) p e
has_type (failed x V) c ind index own fields p w e = not_plain c x ind index own fields (last_contained x c w) p e
has_type (introduced d large V) c ind index own fields p w e = at (declared_cases d large c w)
  where
    at : (type_constant d large ≡ c) ⊎ (Contains (constructors_from d 0 d.ctors) c ⊎ (recursor_of d large ≡ c)) → HasType (introduced d large V) ind
    at (inl q) = let f : (type_constant d large).detail ≡ Ctor ind index own fields = ap (λ y. y.detail) q ∙ e in absurd (cc)
    at (inr (inl v)) = record {
      type = type_constant d large;
      within = first_contained (type_constant d large) _;
      name = constructor_of_type d 0 d.ctors c ind
          index own fields v e;
    }
    at (inr (inr q)) = let f : (recursor_of d large).detail ≡ Ctor ind index own fields = ap (λ y. y.detail) q ∙ e in absurd (cc)

pub shown_is_read : ShownIsRead
shown_is_read K m V s J sub = record {
  own_name = own;
  whole = λ i wi c x wc q.
      let k = item_of K x (s.made c.name x q) in
      let same : c ≡ x = (m.one i k.0 c x (sub i wi) k.1 wc k.2 (sym (own c.name x q))).1 in
      λ d wd. s.whole i c d (sub i wi) wc wd (subst (λ y. lookup_of V c.name ≡ found y) (sym same) q);
  constructors = λ n c ind index own' fields q e t.
      let k = item_of K c (s.made n c q) in
      let h : HasType k.0 ind = has_type k.0 c ind index own' fields (m.plain k.0 k.1) k.2 e in
      let i = item_of J t.0 t.1 in
      let same : k.0 ≡ i.0 = (m.one k.0 i.0 h.type t.0 k.1 (sub i.0 i.1) h.within i.2 (h.name ∙ sym t.2)).0 in
      of_item J i.0 c i.1 (subst (λ y. Contains (constants_of y) c) same k.2);
  earlier = λ before after i e k j w. s.earlier i (sub i (at i before after e)) k j (sub j (front j before after i e w));
}
  where
    own : (n : Path) (c : ConstInfo) → lookup_of V n ≡ found c → c.name ≡ n
    own n c q = own_names V n c q

    at : (i : Item) (before after : List Item) → J ≡ before ++ i ∷ after → Contains J i
    at i before after e = subst (λ x. Contains x i) (sym e) (Contains-append_right before (i ∷ after) i (first_contained i after))

    front : (j : Item) (before after : List Item) (i : Item) → J ≡ before ++ i ∷ after → Contains before j → Contains J j
    front j before after i e w = subst (λ x. Contains x j) (sym e) (Contains-append_left before (i ∷ after) j w)

-- ---- Names that are new.

fresh_by : (K : List Item) → Made K → (J : List Item) → ((i : Item) → Contains J i → Contains K i) → (i : Item) → Contains K i → (Contains J i → ⊥)
    → (c : ConstInfo) → Contains (constants_of i) c → Fresh (all_constants J) c.name
fresh_by K m J sub i w not c wc (d, wd, e) =
    let k = item_of J d wd in
    not (subst (Contains J) (m.one k.0 i d c (sub k.0 k.1) w k.2 wc e).0 k.1)

entries_needless : (V : View) (E : Environment) (d : IndDecl) (n : ℕ) (cs : List CtorInfo)
    → ((c : ConstInfo) → Contains (constructors_from d n cs) c → Fresh E c.name) → ConstructorsHaveEntries V E cs
entries_needless V E d n [] h = tt
entries_needless V E d n (k ∷ ks) h = (
  no_entry_needed V E k.name (h (constructor_constant d n k) (first_contained (constructor_constant d n k) (constructors_from d (suc n) ks))),
  entries_needless V E d (suc n) ks (λ c w. h c (later_contained (constructor_constant d n k) c (constructors_from d (suc n) ks) w)),
)

pub made_is_new : MadeIsNew
made_is_new K m J sub (assumed c V) w not a = (fresh_by K m J sub (assumed c V) w not c (first_contained c []), tt)
made_is_new K m J sub (defined c v H B) w not a = (fresh_by K m J sub (defined c v H B) w not c (first_contained c []), tt)
made_is_new K m J sub (failed c V) w not a = (fresh_by K m J sub (failed c V) w not c (first_contained c []), tt)
made_is_new K m J sub (introduced d large V) w not a =
    let E : Environment = all_constants J in
    let t : ConstInfo = type_constant d large in
    let cs : List ConstInfo = constructors_from d 0 d.ctors in
    let r : ConstInfo = recursor_of d large in
    let new : (c : ConstInfo) → Contains (declared_constants d large) c → Fresh E c.name = fresh_by K m J sub (introduced d large V) w not in
    all_fresh V E d large (no_entry_needed V E d.name (new t (first_contained t (cs ++ r ∷ []))))
    (entries_needless V E d 0 d.ctors (λ c v. new c (later_contained t c (cs ++ r ∷ []) (Contains-append_left cs (r ∷ []) c v))))
    (no_entry_needed V E r.name (new r (later_contained t r (cs ++ r ∷ []) (Contains-append_right cs (r ∷ []) r (first_contained r [])))))
    (declaration_new J d large V a)
