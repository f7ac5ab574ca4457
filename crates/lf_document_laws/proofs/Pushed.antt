-- A view with one more constant tells more where the view does. The constant isn't of an earlier command, so that it has no realizable names
-- there, and the other names are looked up as before; it is no axiom, so that axioms keep their order. Its name isn't there; or it is, and nothing
-- changes.
use Rattle.std.proofs.Common.{◌≡◌, ℕ, suc, Bool, true, false, ◌&&◌, if◌then◌else◌, List, [], ◌∷◌, ◌++◌, Option, Some, None, refl, sym, ap, subst, ◌∙◌}
use Rattle.lf_core.specs.Term.{Path}
use Rattle.lf_core.specs.Same.{same_path}
use Rattle.lf_core.specs.Suffix.{suffix_of, fits_kind, is_definition}
use Rattle.lf_core.specs.declared.suffix.Suffix.{Suffix}
use Rattle.lf_core.specs.declared.constant.ConstInfo.{ConstInfo}
use Rattle.lf_core.specs.declared.constant.ConstKind.TheVariants.{Axiom}
use Rattle.lf_checker.specs.View.{
  View,
  Entry,
  find_entry,
  find_branch,
  branch_over,
  parent_of,
  last_of,
  placed_from,
  placed_of,
  Lookup,
  found,
  absent,
  need_body,
  need_real,
  by_parent,
  pushed,
  stands_before,
  by_suffix,
  by_branch,
  by_entry,
  lookup_of,
  KnownBody,
  value,
  opaque,
  unresolved,
  own_value,
  body_of,
  There,
  there,
  not_there,
  not_known,
  no_entry,
  there_by,
  there_of,
}
use Rattle.lf_name.proofs.Names.{path_is}
use Rattle.lf_checker.specs.Extends.{SameLookup, SameBody, IsAnswered, SameOrder, position_placed, Tells}
use Rattle.lf_extension_laws.proofs.Extended_declarations.{place_of, place_found, SameThere, there_kept}
use Rattle.lf_document.specs.StructureCommand.{pushed_all}
use Rattle.lf_document_laws.proofs.Children.{still_closed}

-- ---- One entry more, at the end.

pub find_other : (es : List Entry) (e : Entry) (n : Path) → same_path e.info.name n ≡ false → find_entry (es ++ e ∷ []) n ≡ find_entry es n
find_other [] e n h = ap (λ b. if b then Some e else None) h
find_other (d ∷ es) e n h = at (same_path d.info.name n) (find_other es e n h)
  where
    at : (b : Bool) → find_entry (es ++ e ∷ []) n ≡ find_entry es n
        → (if b then Some d else find_entry (es ++ e ∷ []) n) ≡ (if b then Some d else find_entry es n)
    at true g = refl
    at false g = g

pub find_last : (es : List Entry) (e : Entry) (n : Path) → same_path e.info.name n ≡ true → find_entry es n ≡ None → find_entry (es ++ e ∷ []) n ≡ Some e
find_last [] e n h o = ap (λ b. if b then Some e else None) h
find_last (d ∷ es) e n h o = at (same_path d.info.name n) (λ g. find_last es e n h g) o
  where
    at : (b : Bool) → (find_entry es n ≡ None → find_entry (es ++ e ∷ []) n ≡ Some e) → (if b then Some d else find_entry es n) ≡ None
        → (if b then Some d else find_entry (es ++ e ∷ []) n) ≡ Some e
    at true g q = absurd (cc)
    at false g q = g q

placed_other : (i : ℕ) (es : List Entry) (e : Entry) (n : Path) → same_path e.info.name n ≡ false → placed_from i (es ++ e ∷ []) n ≡ placed_from i es n
placed_other i [] e n h = ap (λ b. if b then Some (e.position, i) else None) h
placed_other i (d ∷ es) e n h = at (same_path d.info.name n) (placed_other (suc i) es e n h)
  where
    at : (b : Bool) → placed_from (suc i) (es ++ e ∷ []) n ≡ placed_from (suc i) es n
        → (if b then Some (d.position, i) else placed_from (suc i) (es ++ e ∷ []) n) ≡ (if b then Some (d.position, i) else placed_from (suc i) es n)
    at true g = refl
    at false g = g

-- A name that has an entry is found as before.
pub find_first : (es : List Entry) (e d : Entry) (n : Path) → find_entry es n ≡ Some d → find_entry (es ++ e ∷ []) n ≡ find_entry es n
find_first [] e d n o = absurd (cc)
find_first (f ∷ es) e d n o = at (same_path f.info.name n) (λ q. find_first es e d n q) o
  where
    at : (b : Bool) → (find_entry es n ≡ Some d → find_entry (es ++ e ∷ []) n ≡ find_entry es n) → (if b then Some f else find_entry es n) ≡ Some d
        → (if b then Some f else find_entry (es ++ e ∷ []) n) ≡ (if b then Some f else find_entry es n)
    at true g q = refl
    at false g q = g q

placed_first : (i : ℕ) (es : List Entry) (e d : Entry) (n : Path) → find_entry es n ≡ Some d → placed_from i (es ++ e ∷ []) n ≡ placed_from i es n
placed_first i [] e d n o = absurd (cc)
placed_first i (f ∷ es) e d n o = at (same_path f.info.name n) (λ q. placed_first (suc i) es e d n q) o
  where
    at : (b : Bool) → (find_entry es n ≡ Some d → placed_from (suc i) (es ++ e ∷ []) n ≡ placed_from (suc i) es n)
        → (if b then Some f else find_entry es n) ≡ Some d
        → (if b then Some (f.position, i) else placed_from (suc i) (es ++ e ∷ []) n) ≡ (if b then Some (f.position, i) else placed_from (suc i) es n)
    at true g q = refl
    at false g q = g q

-- ---- A name that isn't there has no entry and is no child of an open branch.

no_entry_there : (U : View) (t : Path) → there_of U t ≡ not_there → find_entry U.entries t ≡ None
no_entry_there U t h = at (find_entry U.entries t) refl h
  where
    at : (o : Option Entry) → find_entry U.entries t ≡ o → there_by (lookup_of U t) o ≡ not_there → find_entry U.entries t ≡ None
    at (Some e) q g = absurd (cc)
    at None q g = q

no_branch_there : (U : View) (t : Path) → there_of U t ≡ not_there → branch_over U.branches t ≡ None
no_branch_there U t h =
    let o : find_entry U.entries t ≡ None = no_entry_there U t h in
    at (branch_over U.branches t) refl (subst (λ o. there_by (by_entry U t o) o ≡ not_there) o h)
  where
    at : (b : Option ℕ) → branch_over U.branches t ≡ b → there_by (by_branch U t b) None ≡ not_there → branch_over U.branches t ≡ None
    at (Some p) q g = absurd (cc)
    at None q g = q

-- A name that is there has one.
never_there : (p : ℕ) (l : Lookup) → no_entry l ≡ there p → ⊥
never_there p (found c) h = cc
never_there p absent h = cc
never_there p (need_body q) h = cc
never_there p need_real h = cc

entry_there : (U : View) (t : Path) (p : ℕ) → there_of U t ≡ there p → (e : Entry) × (find_entry U.entries t ≡ Some e)
entry_there U t p h = at (find_entry U.entries t) refl h
  where
    at : (o : Option Entry) → find_entry U.entries t ≡ o → there_by (lookup_of U t) o ≡ there p → (e : Entry) × (find_entry U.entries t ≡ Some e)
    at (Some e) q g = (e, q)
    at None q g = absurd (never_there p (lookup_of U t) g)

found_is : (c b : ConstInfo) → found c ≡ found b → c ≡ b
found_is c b h = cc

-- ---- The view with the constant, at a position.

-- The name isn't there, and what stands at the position isn't of an earlier command.
record New (U : View) (c : ConstInfo) (p : ℕ) : Type 0 where
  name : there_of U c.name ≡ not_there
  own : stands_before U.position p ≡ false

and_false : (b : Bool) → (b && false) ≡ false
and_false true = refl
and_false false = refl

under_name : (U : View) (n : Path) (s : Suffix) → branch_over U.branches (parent_of n) ≡ None → by_parent U n s None ≡ absent
under_name U n s h = rw h refl

body_self : (b : KnownBody) → SameBody b b
body_self (value v h) = refl
body_self opaque = refl
body_self (unresolved k) = tt

module _ (c : ConstInfo) (p : ℕ) where
  abbrev entry : Entry
  entry = record { info = c; position = p }

  by_parent_as_before : (U : View) (n : Path) (s : Suffix) (o : Option Entry) → by_parent (pushed U c p) n s o ≡ by_parent U n s o
  by_parent_as_before U n s (Some e) = refl
  by_parent_as_before U n s None = refl

  -- The name's children are absent before and after.
  under_one : (U : View) (n : Path) (s : Suffix) → New U c p → by_parent (pushed U c p) n s (Some entry) ≡ absent
  under_one U n s h = rw (h.own, and_false (fits_kind s c.kind)) refl

  parent_as_before : (U : View) (n : Path) (s : Suffix) → New U c p
      → by_parent (pushed U c p) n s (find_entry (pushed U c p).entries (parent_of n)) ≡ by_parent U n s (find_entry U.entries (parent_of n))
  parent_as_before U n s h = at (same_path c.name (parent_of n)) refl
    where
      at : (b : Bool) → same_path c.name (parent_of n) ≡ b
          → by_parent (pushed U c p) n s (find_entry (pushed U c p).entries (parent_of n)) ≡ by_parent U n s (find_entry U.entries (parent_of n))
      at true q =
          let named : c.name ≡ parent_of n = path_is c.name (parent_of n) q in
          let none : find_entry U.entries (parent_of n) ≡ None = subst (λ m. find_entry U.entries m ≡ None) named (no_entry_there U c.name h.name) in
          let last : find_entry (pushed U c p).entries (parent_of n) ≡ Some entry = find_last U.entries entry (parent_of n) q none in
          let closed : branch_over U.branches (parent_of n) ≡ None = subst (λ m. branch_over U.branches m ≡ None) named (no_branch_there U c.name h.name) in
          ap (by_parent (pushed U c p) n s) last ∙ under_one U n s h ∙ sym (ap (by_parent U n s) none ∙ under_name U n s closed)
      at false q =
          ap (by_parent (pushed U c p) n s) (find_other U.entries entry (parent_of n) q) ∙ by_parent_as_before U n s (find_entry U.entries (parent_of n))

  -- Where its parent is looked up as before a name is.
  by_suffix_as_before : (U : View) (n : Path) (o : Option Suffix)
      → ((s : Suffix) → by_parent (pushed U c p) n s (find_entry (pushed U c p).entries (parent_of n)) ≡ by_parent U n s (find_entry U.entries (parent_of n)))
      → by_suffix (pushed U c p) n o ≡ by_suffix U n o
  by_suffix_as_before U n (Some s) h = ap (λ l. if U.for_base then absent else l) (h s)
  by_suffix_as_before U n None h = refl

  by_entry_as_before : (U : View) (n : Path) (o : Option Entry)
      → ((s : Suffix) → by_parent (pushed U c p) n s (find_entry (pushed U c p).entries (parent_of n)) ≡ by_parent U n s (find_entry U.entries (parent_of n)))
      → by_entry (pushed U c p) n o ≡ by_entry U n o
  by_entry_as_before U n (Some e) h = refl
  by_entry_as_before U n None h = at (branch_over U.branches n)
    where
      at : (b : Option ℕ) → by_branch (pushed U c p) n b ≡ by_branch U n b
      at (Some q) = refl
      at None = by_suffix_as_before U n (suffix_of (last_of n)) h

  -- Another name is looked up as before, and the constant's own name is found.
  lookup_other : (U : View) (n : Path) → New U c p → same_path c.name n ≡ false → lookup_of (pushed U c p) n ≡ lookup_of U n
  lookup_other U n h q =
      ap (by_entry (pushed U c p) n) (find_other U.entries entry n q)
      ∙ by_entry_as_before U n (find_entry U.entries n) (λ s. parent_as_before U n s h)

  find_own : (U : View) (n : Path) → New U c p → same_path c.name n ≡ true → find_entry (pushed U c p).entries n ≡ Some entry
  find_own U n h q = find_last U.entries entry n q (subst (λ m. find_entry U.entries m ≡ None) (path_is c.name n q) (no_entry_there U c.name h.name))

  lookup_own : (U : View) (n : Path) → New U c p → same_path c.name n ≡ true → lookup_of (pushed U c p) n ≡ found c
  lookup_own U n h q = ap (by_entry (pushed U c p) n) (find_own U n h q)

  -- ---- A name that is there already is looked up as before, as each other one.

  find_again : (U : View) (d : Entry) → find_entry U.entries c.name ≡ Some d → (n : Path) → find_entry (pushed U c p).entries n ≡ find_entry U.entries n
  find_again U d h n = at (same_path c.name n) refl
    where
      at : (b : Bool) → same_path c.name n ≡ b → find_entry (pushed U c p).entries n ≡ find_entry U.entries n
      at true q = find_first U.entries entry d n (subst (λ m. find_entry U.entries m ≡ Some d) (path_is c.name n q) h)
      at false q = find_other U.entries entry n q

  placed_again : (U : View) (d : Entry) → find_entry U.entries c.name ≡ Some d → (n : Path) → placed_of (pushed U c p) n ≡ placed_of U n
  placed_again U d h n = at (same_path c.name n) refl
    where
      at : (b : Bool) → same_path c.name n ≡ b → placed_of (pushed U c p) n ≡ placed_of U n
      at true q = placed_first 0 U.entries entry d n (subst (λ m. find_entry U.entries m ≡ Some d) (path_is c.name n q) h)
      at false q = placed_other 0 U.entries entry n q

  lookup_again : (U : View) (d : Entry) → find_entry U.entries c.name ≡ Some d → (n : Path) → lookup_of (pushed U c p) n ≡ lookup_of U n
  lookup_again U d h n =
      ap (by_entry (pushed U c p) n) (find_again U d h n)
      ∙ by_entry_as_before U n (find_entry U.entries n)
      (λ s. ap (by_parent (pushed U c p) n s) (find_again U d h (parent_of n)) ∙ by_parent_as_before U n s (find_entry U.entries (parent_of n)))

  -- ---- Extension, where the name isn't there.

  own_body : (d : Bool) (a b : Option ℕ) → (a ≡ None → b ≡ None)
      → SameBody (if d then own_value c a else opaque) (if d then own_value c b else opaque)
  own_body true (Some q) b h = tt
  own_body true None b h = subst (λ o. SameBody (own_value c None) (own_value c o)) (sym (h refl)) (body_self (own_value c None))
  own_body false a b h = refl

  -- The constant isn't an axiom.
  no_axiom : (U : View) (n : Path) (b : ConstInfo) → New U c p → (c.kind ≡ Axiom → ⊥) → lookup_of (pushed U c p) n ≡ found b → b.kind ≡ Axiom
      → same_path c.name n ≡ false
  no_axiom U n b h other e k = at (same_path c.name n) refl
    where
      at : (d : Bool) → same_path c.name n ≡ d → same_path c.name n ≡ false
      at true q = let same : c ≡ b = found_is c b (sym (lookup_own U n h q) ∙ e) in absurd (other (ap (λ d. d.kind) same ∙ k))
      at false q = q

  module _ (U V : View) (x : Tells V U) (h : New U c p) (g : New V c p) where
    lookups_kept : (n : Path) → SameLookup (lookup_of (pushed U c p) n) (lookup_of (pushed V c p) n)
    lookups_kept n = at (same_path c.name n) refl
      where
        at : (b : Bool) → same_path c.name n ≡ b → SameLookup (lookup_of (pushed U c p) n) (lookup_of (pushed V c p) n)
        at true q = rw (lookup_own U n h q, lookup_own V n g q) refl
        at false q = rw (lookup_other U n h q, lookup_other V n g q) (x.lookups n)

    bodies_kept : (n : Path) (b : ConstInfo) → lookup_of (pushed U c p) n ≡ found b → SameBody (body_of (pushed U c p) n) (body_of (pushed V c p) n)
    bodies_kept n b e = at (same_path c.name n) refl
      where
        at : (d : Bool) → same_path c.name n ≡ d → SameBody (body_of (pushed U c p) n) (body_of (pushed V c p) n)
        at true q =
            rw (lookup_own U n h q, lookup_own V n g q)
            (own_body (is_definition c.kind) (find_branch U.branches c.name) (find_branch V.branches c.name) (still_closed U V x c.name))
        at false q = rw (lookup_other U n h q, lookup_other V n g q) (x.bodies n b (sym (lookup_other U n h q) ∙ e))

    reals_kept : (n : Path) → lookup_of (pushed U c p) n ≡ need_real → IsAnswered (lookup_of (pushed V c p) n)
    reals_kept n e = at (same_path c.name n) refl
      where
        at : (b : Bool) → same_path c.name n ≡ b → IsAnswered (lookup_of (pushed V c p) n)
        at true q = rw (lookup_own V n g q) tt
        at false q = rw (lookup_other V n g q) (x.reals n (sym (lookup_other U n h q) ∙ e))

    entries_kept : (n : Path) → IsAnswered (lookup_of (pushed U c p) n)
        → position_placed (placed_of (pushed U c p) n) ≡ position_placed (placed_of (pushed V c p) n)
    entries_kept n a = at (same_path c.name n) refl
      where
        at : (b : Bool) → same_path c.name n ≡ b → position_placed (placed_of (pushed U c p) n) ≡ position_placed (placed_of (pushed V c p) n)
        at true q =
            place_found 0 (pushed U c p).entries n ∙ ap place_of (find_own U n h q ∙ sym (find_own V n g q)) ∙ sym (place_found 0 (pushed V c p).entries n)
        at false q =
            ap position_placed (placed_other 0 U.entries entry n q) ∙ x.entries n (subst IsAnswered (lookup_other U n h q) a)
            ∙ sym (ap position_placed (placed_other 0 V.entries entry n q))

    axioms_kept : (c.kind ≡ Axiom → ⊥) → SameOrder (pushed V c p) (pushed U c p)
    axioms_kept other m n b e i j i' j' lm km ln kn pm pn vm vn =
        let om : same_path c.name m ≡ false = no_axiom U m b h other lm km in
        let on : same_path c.name n ≡ false = no_axiom U n e h other ln kn in
        x.axioms m n b e i j i' j' (sym (lookup_other U m h om) ∙ lm) km (sym (lookup_other U n h on) ∙ ln) kn
        (sym (placed_other 0 U.entries entry m om) ∙ pm) (sym (placed_other 0 U.entries entry n on) ∙ pn)
        (sym (placed_other 0 V.entries entry m om) ∙ vm) (sym (placed_other 0 V.entries entry n on) ∙ vn)

    new_extends : (c.kind ≡ Axiom → ⊥) → Tells (pushed V c p) (pushed U c p)
    new_extends other = record {
      position = x.position;
      lookups = lookups_kept;
      bodies = bodies_kept;
      reals = reals_kept;
      entries = entries_kept;
      axioms = axioms_kept other;
    }

  -- ---- Where it is there.

  module _ (U V : View) (x : Tells V U) (d e : Entry) (h : find_entry U.entries c.name ≡ Some d) (g : find_entry V.entries c.name ≡ Some e) where
    again_extends : Tells (pushed V c p) (pushed U c p)
    again_extends = record {
      position = x.position;
      lookups = λ n. rw (lookup_again U d h n, lookup_again V e g n) (x.lookups n);
      bodies = λ n b k. rw (lookup_again U d h n, lookup_again V e g n) (x.bodies n b (sym (lookup_again U d h n) ∙ k));
      reals = λ n k. rw (lookup_again V e g n) (x.reals n (sym (lookup_again U d h n) ∙ k));
      entries = λ n a.
          ap position_placed (placed_again U d h n) ∙ x.entries n (subst IsAnswered (lookup_again U d h n) a)
          ∙ sym (ap position_placed (placed_again V e g n));
      axioms = λ m n b b' i j i' j' lm km ln kn pm pn vm vn.
          x.axioms m n b b' i j i' j' (sym (lookup_again U d h m) ∙ lm) km (sym (lookup_again U d h n) ∙ ln) kn
          (sym (placed_again U d h m) ∙ pm) (sym (placed_again U d h n) ∙ pn) (sym (placed_again V e g m) ∙ vm) (sym (placed_again V e g n) ∙ vn);
    }

-- ---- Whether it is there or not.

-- It isn't waited for whether the name is there.
abbrev pub IsTold : There → Type 0
IsTold (not_known k) = ⊥
IsTold (there p) = Unit {0}
IsTold not_there = Unit {0}

told_kept : (s t : There) → SameThere s t → IsTold s → s ≡ t
told_kept (there p) t h k = h
told_kept not_there t h k = h
told_kept (not_known i) t h k = absurd k

pub one_extends : (U V : View) → Tells V U → (c : ConstInfo) (p : ℕ) → stands_before U.position p ≡ false → (c.kind ≡ Axiom → ⊥)
    → IsTold (there_of U c.name) → Tells (pushed V c p) (pushed U c p)
one_extends U V x c p own other told = at (there_of U c.name) refl told
  where
    same : (s : There) → there_of U c.name ≡ s → IsTold s → there_of V c.name ≡ s
    same s q k = sym (told_kept s (there_of V c.name) (subst (λ r. SameThere r (there_of V c.name)) q (there_kept U V x c.name)) k)

    at : (s : There) → there_of U c.name ≡ s → IsTold s → Tells (pushed V c p) (pushed U c p)
    at (not_known k) q f = absurd f
    at not_there q f =
        new_extends c p U V x (record { name = q; own = own })
        (record { name = same not_there q tt; own = subst (λ i. stands_before i p ≡ false) (sym x.position) own }) other
    at (there i) q f =
        let u : (e : Entry) × (find_entry U.entries c.name ≡ Some e) = entry_there U c.name i q in
        let v : (e : Entry) × (find_entry V.entries c.name ≡ Some e) = entry_there V c.name i (same (there i) q tt) in
        again_extends c p U V x u.0 v.0 u.1 v.1

-- ---- Several, whose names are told before the first.

there_when_found : (U : View) (c : ConstInfo) (p : ℕ) (n : Path) (e : Entry) → find_entry (pushed U c p).entries n ≡ Some e → IsTold (there_of (pushed U c p) n)
there_when_found U c p n e h = subst (λ o. IsTold (there_by (lookup_of (pushed U c p) n) o)) (sym h) tt

told_other : (U : View) (c : ConstInfo) (p : ℕ) (n : Path) → New U c p → same_path c.name n ≡ false → IsTold (there_of U n) → IsTold (there_of (pushed U c p) n)
told_other U c p n h q k =
    subst (λ l. IsTold (there_by l (find_entry (pushed U c p).entries n))) (sym (lookup_other c p U n h q))
    (subst (λ o. IsTold (there_by (lookup_of U n) o)) (sym (find_other U.entries (record { info = c; position = p }) n q)) k)

told_again : (U : View) (c : ConstInfo) (p : ℕ) (n : Path) (d : Entry) → find_entry U.entries c.name ≡ Some d → IsTold (there_of U n)
    → IsTold (there_of (pushed U c p) n)
told_again U c p n d h k =
    subst (λ l. IsTold (there_by l (find_entry (pushed U c p).entries n))) (sym (lookup_again c p U d h n))
    (subst (λ o. IsTold (there_by (lookup_of U n) o)) (sym (find_again c p U d h n)) k)

still_told : (U : View) (c : ConstInfo) (p : ℕ) → stands_before U.position p ≡ false → IsTold (there_of U c.name) → (n : Path) → IsTold (there_of U n)
    → IsTold (there_of (pushed U c p) n)
still_told U c p own told n k = at (there_of U c.name) refl told
  where
    new : New U c p → (b : Bool) → same_path c.name n ≡ b → IsTold (there_of (pushed U c p) n)
    new h true q = there_when_found U c p n (record { info = c; position = p }) (find_own c p U n h q)
    new h false q = told_other U c p n h q k

    at : (s : There) → there_of U c.name ≡ s → IsTold s → IsTold (there_of (pushed U c p) n)
    at (not_known i) q f = absurd f
    at not_there q f = new (record { name = q; own = own }) (same_path c.name n) refl
    at (there i) q f = let u : (e : Entry) × (find_entry U.entries c.name ≡ Some e) = entry_there U c.name i q in told_again U c p n u.0 u.1 k

pub own_still : (cs : List ConstInfo) (U : View) (p : ℕ) → stands_before U.position p ≡ false → stands_before (pushed_all U cs p).position p ≡ false
own_still [] U p h = h
own_still (c ∷ cs) U p h = own_still cs (pushed U c p) p h

-- Constants that may be added one after another.
abbrev pub AllTold : View → List ConstInfo → Type 0
AllTold U [] = Unit {0}
AllTold U (c ∷ cs) = IsTold (there_of U c.name) × (c.kind ≡ Axiom → ⊥) × AllTold U cs

all_still_told : (U : View) (c : ConstInfo) (p : ℕ) → stands_before U.position p ≡ false → IsTold (there_of U c.name) → (cs : List ConstInfo) → AllTold U cs
    → AllTold (pushed U c p) cs
all_still_told U c p own told [] h = tt
all_still_told U c p own told (d ∷ cs) h = (still_told U c p own told d.name h.0, h.1, all_still_told U c p own told cs h.2)

pub all_extend : (cs : List ConstInfo) (U V : View) → Tells V U → (p : ℕ) → stands_before U.position p ≡ false → AllTold U cs
    → Tells (pushed_all V cs p) (pushed_all U cs p)
all_extend [] U V x p own h = x
all_extend (c ∷ cs) U V x p own h =
    all_extend cs (pushed U c p) (pushed V c p) (one_extends U V x c p own h.1 h.0) p own (all_still_told U c p own h.0 cs h.2)
