-- Views of constants alone, over lists of items with one constant each.
use Rattle.std.proofs.Common.{◌≡◌, ◌⊎◌, inl, inr, Bool, true, false, not, ◌&&◌, Some, List, [], ◌∷◌, ◌++◌, sym, ap, subst, ◌∙◌, true≢false, Contains}
use Rattle.std.proofs.lemmas.Bool.{cond_both, and_parts}
use Rattle.std.proofs.lemmas.List.{append_assoc, append-nil}
use Rattle.lf_core.specs.Term.{Path}
use Rattle.lf_core.specs.declared.constant.ConstInfo.{ConstInfo}
use Rattle.lf_inductive_laws.proofs.Contained.{none_contained, first_contained, later_contained, contained_cases}
use Rattle.lf_inductive_laws.proofs.Declared.{as_declared}
use Rattle.lf_core.specs.Same.{same_path}
use Rattle.lf_checker_laws.proofs.Structures.{path_same}
use Rattle.lf_name.proofs.Names.{path_is}
use Rattle.lf_checker.specs.View.{View, Entry, find_entry, base_entries, base_view, by_entry, found, lookup_of}
use Rattle.lf_checker_laws.specs.Declarations.{FindsAll}
use Rattle.lf_derivation_laws.specs.Lists.{Item, constants_of, view_of, all_constants, knows, KnowsAsMuch, Inherits, Reads, Reported}
use Rattle.lf_derivation_laws.proofs.Own_names.{AnEntry, AnAnswer, entry_or_answer}
use Rattle.lf_derivation_laws.proofs.Lists_of_items.{Within}
use Rattle.lf_derivation_laws.proofs.Lists.{reported_is_derived}

in_entries : (cs : List ConstInfo) (e : Entry) → Contains (base_entries cs) e → Contains cs e.info
in_entries [] e w = absurd (none_contained e w)
in_entries (c ∷ cs) e w = at (λ v. in_entries cs e v) (contained_cases (record { info = c; position = 4294967295 }) e (base_entries cs) w)
  where
    at : (Contains (base_entries cs) e → Contains cs e.info) → (record { info = c; position = 4294967295 } ≡ e) ⊎ Contains (base_entries cs) e
        → Contains (c ∷ cs) e.info
    at rest (inl q) = subst (λ (x : Entry). Contains (c ∷ cs) x.info) q (first_contained c cs)
    at rest (inr v) = later_contained c e.info cs (rest v)

found_in : (cs : List ConstInfo) (n : Path) (c : ConstInfo) → lookup_of (base_view cs) n ≡ found c → Contains cs c × (c.name ≡ n)
found_in cs n c q = at (entry_or_answer (base_view cs) n c q)
  where
    at : AnEntry (base_view cs) n c ⊎ AnAnswer (base_view cs) n c → Contains cs c × (c.name ≡ n)
    at (inl (e, w, i, m)) = (subst (Contains cs) i (in_entries cs e w), subst (λ x. x.name ≡ n) i m)
    at (inr (a, w, i, m)) = absurd (none_contained a w)

-- ---- Names that are new, by the test of names.

abbrev pub is_new : List ConstInfo → Path → Bool
is_new [] n = true
is_new (c ∷ cs) n = not (same_path c.name n) && is_new cs n

not_true : (b : Bool) → not b ≡ true → b ≡ true → ⊥
not_true true h g = true≢false (sym h)
not_true false h g = true≢false (sym g)

pub not_in : (E : List ConstInfo) (n : Path) → is_new E n ≡ true → (c : ConstInfo) → Contains E c → c.name ≡ n → ⊥
not_in [] n h c w e = none_contained c w
not_in (x ∷ xs) n h c w e = let q = and_parts (not (same_path x.name n)) (is_new xs n) h in at q.0 (λ v. not_in xs n q.1 c v e) (contained_cases x c xs w)
  where
    at : not (same_path x.name n) ≡ true → (Contains xs c → ⊥) → (x ≡ c) ⊎ Contains xs c → ⊥
    at g rest (inl s) = not_true (same_path x.name n) g (subst (λ m. same_path x.name m ≡ true) (ap (λ y. y.name) s ∙ e) (path_same x.name))
    at g rest (inr v) = rest v

abbrev pub are_new : List ConstInfo → List ConstInfo → Bool
are_new E [] = true
are_new E (c ∷ cs) = is_new E c.name && are_new E cs

none_in : (E cs : List ConstInfo) → are_new E cs ≡ true → (c : ConstInfo) → Contains cs c → is_new E c.name ≡ true
none_in E [] h c w = absurd (none_contained c w)
none_in E (x ∷ xs) h c w = let q = and_parts (is_new E x.name) (are_new E xs) h in at (λ v. none_in E xs q.1 c v) q.0 (contained_cases x c xs w)
  where
    at : (Contains xs c → is_new E c.name ≡ true) → is_new E x.name ≡ true → (x ≡ c) ⊎ Contains xs c → is_new E c.name ≡ true
    at rest g (inl e) = subst (λ y. is_new E y.name ≡ true) e g
    at rest g (inr v) = rest v

-- ---- Views that have all of an item, or none of it.

abbrev pub AllOrNone : List ConstInfo → List ConstInfo → Type 0
AllOrNone cs ks = Within ks cs ⊎ (are_new cs ks ≡ true)

abbrev pub AllOrNones : List ConstInfo → List Item → Type 0
AllOrNones cs [] = Unit {0}
AllOrNones cs (i ∷ is) = AllOrNone cs (constants_of i) × AllOrNones cs is

all_or_none_at : (cs : List ConstInfo) (J : List Item) (i : Item) → AllOrNones cs J → Contains J i → AllOrNone cs (constants_of i)
all_or_none_at cs [] i s w = absurd (none_contained i w)
all_or_none_at cs (j ∷ js) i s w = at (λ v. all_or_none_at cs js i s.1 v) (contained_cases j i js w)
  where
    at : (Contains js i → AllOrNone cs (constants_of i)) → (j ≡ i) ⊎ Contains js i → AllOrNone cs (constants_of i)
    at rest (inl q) = subst (λ k. AllOrNone cs (constants_of k)) q s.0
    at rest (inr v) = rest v

abbrev Distinct : List ConstInfo → Type 0
Distinct cs = (c d : ConstInfo) → Contains cs c → Contains cs d → c.name ≡ d.name → c ≡ d

entry_found : (cs : List ConstInfo) → Distinct cs → (c : ConstInfo) → Contains cs c
    → find_entry (base_entries cs) c.name ≡ Some (record { info = c; position = 4294967295 })
entry_found [] h c w = absurd (none_contained c w)
entry_found (x ∷ xs) h c w =
    cond_both (same_path x.name c.name) (Some (record { info = x; position = 4294967295 })) (find_entry (base_entries xs) c.name)
    (λ o. o ≡ Some (record { info = c; position = 4294967295 }))
    (λ b. ap (λ y. Some (record { info = y; position = 4294967295 })) (h x c (first_contained x xs) w (path_is x.name c.name b)))
    (λ b. later b (λ v. entry_found xs (λ y z i j. h y z (later_contained x y xs i) (later_contained x z xs j)) c v) (contained_cases x c xs w))
  where
    later : same_path x.name c.name ≡ false → (Contains xs c → find_entry (base_entries xs) c.name ≡ Some (record { info = c; position = 4294967295 }))
        → (x ≡ c) ⊎ Contains xs c → find_entry (base_entries xs) c.name ≡ Some (record { info = c; position = 4294967295 })
    later b rest (inl e) = absurd (true≢false (sym (path_same x.name) ∙ subst (λ y. same_path x.name y.name ≡ false) (sym e) b))
    later b rest (inr v) = rest v

found_of : (cs : List ConstInfo) → Distinct cs → (c : ConstInfo) → Contains cs c → lookup_of (base_view cs) c.name ≡ found c
found_of cs h c w = ap (by_entry (base_view cs) c.name) (entry_found cs h c w)

-- ---- What is inherited, item by item.

abbrev pub AllKnow : View → View → List Item → Type 0
AllKnow U V [] = Unit {0}
AllKnow U V (k ∷ ks) = (knows U k ≡ true → knows V k ≡ true) × AllKnow U V ks

pub know_as_much : (U V : View) (J : List Item) → AllKnow U V J → KnowsAsMuch U V J
know_as_much U V [] h k w e = absurd (none_contained k w)
know_as_much U V (j ∷ js) h k w e = at (λ v. know_as_much U V js h.1 k v e) (contained_cases j k js w)
  where
    at : (Contains js k → knows V k ≡ true) → (j ≡ k) ⊎ Contains js k → knows V k ≡ true
    at rest (inl q) = subst (λ x. knows U x ≡ true → knows V x ≡ true) q h.0 e
    at rest (inr v) = rest v

abbrev pub AllInherit : View → List Item → List Item → Type 0
AllInherit V before [] = Unit {0}
AllInherit V before (i ∷ is) = (knows V i ≡ true → AllKnow (view_of i) V before) × AllInherit V (before ++ i ∷ []) is

inherit_from : (V : View) (B J : List Item) → AllInherit V B J → (before after : List Item) (i : Item) → J ≡ before ++ i ∷ after → knows V i ≡ true
    → KnowsAsMuch (view_of i) V (B ++ before)
inherit_from V B [] h [] after i e k = absurd (cc)
inherit_from V B [] h (x ∷ xs) after i e k = absurd (cc)
inherit_from V B (j ∷ js) h [] after i e k =
    let q : j ≡ i = cc in
    subst (KnowsAsMuch (view_of i) V) (sym (append-nil B)) (know_as_much (view_of i) V B (subst (λ x. knows V x ≡ true → AllKnow (view_of x) V B) q h.0 k))
inherit_from V B (j ∷ js) h (x ∷ xs) after i e k =
    let q : j ≡ x = cc in
    let r : js ≡ xs ++ i ∷ after = cc in
    subst (λ z. KnowsAsMuch (view_of i) V (B ++ z ∷ xs)) q
    (subst (KnowsAsMuch (view_of i) V) (append_assoc B (j ∷ []) xs) (inherit_from V (B ++ j ∷ []) js h.1 xs after i r k))

pub base_inherits : (V : View) (J : List Item) → AllInherit V [] J → Inherits V J
base_inherits V J h before after i e k = inherit_from V [] J h before after i e k

-- A view of some of the list's constants.
pub base_reads : (cs : List ConstInfo) (J : List Item) → Reported J → AllOrNones cs J → Within cs (all_constants J) → AllInherit (base_view cs) [] J
    → Reads (base_view cs) J
base_reads cs J r s w h =
    let all = (as_declared (all_constants J) (reported_is_derived J r)).distinct in
    record {
      own_name = λ n c q. (found_in cs n c q).1;
      whole = λ i wi c x wc q. whole (λ y z v k. all y z (w y v) (w z k)) i c x wc q (all_or_none_at cs J i s wi);
      constructors = λ n c ind index own fields q e d. w c (found_in cs n c q).0;
      earlier = base_inherits (base_view cs) J h;
    }
  where
    whole : Distinct cs → (i : Item) (c x : ConstInfo) → Contains (constants_of i) c → lookup_of (base_view cs) c.name ≡ found x → AllOrNone cs (constants_of i)
        → FindsAll (base_view cs) (constants_of i)
    whole distinct i c x wc q (inl a) = λ d wd. found_of cs distinct d (a d wd)
    whole distinct i c x wc q (inr a) = let f = found_in cs c.name x q in absurd (not_in cs c.name (none_in cs (constants_of i) a c wc) x f.0 f.1)
