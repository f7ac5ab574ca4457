-- A view with an inductive type's constant, under a name that isn't there, extends where the view does. The other names are looked up as
-- before: no realized name has an inductive type as its parent.
use Rattle.std.proofs.Common.{◌≡◌, ℕ, suc, Bool, true, false, if◌then◌else◌, List, [], ◌∷◌, ◌++◌, Option, Some, None, refl, sym, ap, subst, ◌∙◌}
use Rattle.lf_core.specs.Term.{Path}
use Rattle.lf_core.specs.Same.{same_path}
use Rattle.lf_core.specs.Suffix.{suffix_of, fits_kind}
use Rattle.lf_core.specs.declared.suffix.Suffix.{Suffix}
use Rattle.lf_core.specs.declared.suffix.Suffix.TheVariants.{Eq1, EqDef, Inj, InjEq, EqAt}
use Rattle.lf_rules.specs.Inductive.{type_alone}
use Rattle.lf_core.specs.declared.constant.ConstInfo.{ConstInfo}
use Rattle.lf_core.specs.declared.constant.ConstKind.{ConstKind}
use Rattle.lf_core.specs.declared.constant.ConstKind.TheVariants.{Axiom, Inductive}
use Rattle.lf_core.specs.declared.constant.IndDecl.{IndDecl}
use Rattle.lf_checker.specs.View.{
  View,
  Entry,
  find_entry,
  branch_over,
  parent_of,
  last_of,
  placed_from,
  placed_of,
  Lookup,
  found,
  absent,
  need_real,
  by_parent,
  by_suffix,
  by_branch,
  by_entry,
  lookup_of,
  body_of,
  not_there,
  there_by,
  there_of,
}
use Rattle.lf_name.proofs.Names.{path_is}
use Rattle.lf_checker.specs.Extends.{SameLookup, SameBody, IsAnswered, SameOrder, position_placed, Tells}
use Rattle.lf_checker.specs.Admission.{view_with_type}
use Rattle.lf_extension_laws.proofs.Extended_declarations.{place_of, place_found, SameThere, there_kept}

-- ---- One entry more, at the end.

find_other : (es : List Entry) (e : Entry) (n : Path) → same_path e.info.name n ≡ false → find_entry (es ++ e ∷ []) n ≡ find_entry es n
find_other [] e n h = ap (λ b. if b then Some e else None) h
find_other (d ∷ es) e n h = at (same_path d.info.name n) (find_other es e n h)
  where
    at : (b : Bool) → find_entry (es ++ e ∷ []) n ≡ find_entry es n
        → (if b then Some d else find_entry (es ++ e ∷ []) n) ≡ (if b then Some d else find_entry es n)
    at true g = refl
    at false g = g

find_last : (es : List Entry) (e : Entry) (n : Path) → same_path e.info.name n ≡ true → find_entry es n ≡ None → find_entry (es ++ e ∷ []) n ≡ Some e
find_last [] e n h o = ap (λ b. if b then Some e else None) h
find_last (d ∷ es) e n h o = at (same_path d.info.name n) (λ g. find_last es e n h g) o
  where
    at : (b : Bool) → (find_entry es n ≡ None → find_entry (es ++ e ∷ []) n ≡ Some e) → (if b then Some d else find_entry es n) ≡ None
        → (if b then Some d else find_entry (es ++ e ∷ []) n) ≡ Some e
    at true g q = absurd (cc)
    at false g q = g q

placed_other : (i : ℕ) (es : List Entry) (e : Entry) (n : Path) → same_path e.info.name n ≡ false → placed_from i (es ++ e ∷ []) n ≡ placed_from i es n
placed_other i [] e n h = ap (λ b. if b then Some (e.position, i) else None) h
placed_other i (d ∷ es) e n h = at (same_path d.info.name n) (placed_other (suc i) es e n h)
  where
    at : (b : Bool) → placed_from (suc i) (es ++ e ∷ []) n ≡ placed_from (suc i) es n
        → (if b then Some (d.position, i) else placed_from (suc i) (es ++ e ∷ []) n) ≡ (if b then Some (d.position, i) else placed_from (suc i) es n)
    at true g = refl
    at false g = g

-- ---- A name that isn't there has no entry and is no child of an open branch.

no_entry_there : (U : View) (t : Path) → there_of U t ≡ not_there → find_entry U.entries t ≡ None
no_entry_there U t h = at (find_entry U.entries t) refl h
  where
    at : (o : Option Entry) → find_entry U.entries t ≡ o → there_by (lookup_of U t) o ≡ not_there → find_entry U.entries t ≡ None
    at (Some e) q g = absurd (cc)
    at None q g = q

no_branch_there : (U : View) (t : Path) → there_of U t ≡ not_there → branch_over U.branches t ≡ None
no_branch_there U t h =
    let o : find_entry U.entries t ≡ None = no_entry_there U t h in
    at (branch_over U.branches t) refl (subst (λ o. there_by (by_entry U t o) o ≡ not_there) o h)
  where
    at : (b : Option ℕ) → branch_over U.branches t ≡ b → there_by (by_branch U t b) None ≡ not_there → branch_over U.branches t ≡ None
    at (Some p) q g = absurd (cc)
    at None q g = q

-- ---- The view with the type.

abbrev type_entry : View → IndDecl → Entry
type_entry U d = record { info = type_alone d; position = U.position }

-- No realized name has an inductive type as its parent.
no_suffix : (s : Suffix) → fits_kind s Inductive ≡ false
no_suffix Eq1 = refl
no_suffix EqDef = refl
no_suffix Inj = refl
no_suffix InjEq = refl
no_suffix (EqAt k) = refl

-- The name's children are absent before and after.
under_type : (U : View) (d : IndDecl) (n : Path) (s : Suffix) → by_parent (view_with_type U d) n s (Some (type_entry U d)) ≡ absent
under_type U d n s = rw (no_suffix s) refl

under_name : (U : View) (n : Path) (s : Suffix) → branch_over U.branches (parent_of n) ≡ None → by_parent U n s None ≡ absent
under_name U n s h = rw h refl

by_parent_as_before : (U : View) (d : IndDecl) (n : Path) (s : Suffix) (o : Option Entry) → by_parent (view_with_type U d) n s o ≡ by_parent U n s o
by_parent_as_before U d n s (Some e) = refl
by_parent_as_before U d n s None = refl

parent_as_before : (U : View) (d : IndDecl) (n : Path) (s : Suffix) → there_of U d.name ≡ not_there
    → by_parent (view_with_type U d) n s (find_entry (view_with_type U d).entries (parent_of n)) ≡ by_parent U n s (find_entry U.entries (parent_of n))
parent_as_before U d n s h = at (same_path d.name (parent_of n)) refl
  where
    at : (b : Bool) → same_path d.name (parent_of n) ≡ b
        → by_parent (view_with_type U d) n s (find_entry (view_with_type U d).entries (parent_of n)) ≡ by_parent U n s (find_entry U.entries (parent_of n))
    at true q =
        let named : d.name ≡ parent_of n = path_is d.name (parent_of n) q in
        let none : find_entry U.entries (parent_of n) ≡ None = subst (λ m. find_entry U.entries m ≡ None) named (no_entry_there U d.name h) in
        let last : find_entry (view_with_type U d).entries (parent_of n) ≡ Some (type_entry U d) = find_last U.entries (type_entry U d) (parent_of n) q none in
        let closed : branch_over U.branches (parent_of n) ≡ None = subst (λ m. branch_over U.branches m ≡ None) named (no_branch_there U d.name h) in
        ap (by_parent (view_with_type U d) n s) last ∙ under_type U d n s ∙ sym (ap (by_parent U n s) none ∙ under_name U n s closed)
    at false q =
        ap (by_parent (view_with_type U d) n s) (find_other U.entries (type_entry U d) (parent_of n) q)
        ∙ by_parent_as_before U d n s (find_entry U.entries (parent_of n))

by_suffix_as_before : (U : View) (d : IndDecl) (n : Path) (o : Option Suffix) → there_of U d.name ≡ not_there
    → by_suffix (view_with_type U d) n o ≡ by_suffix U n o
by_suffix_as_before U d n (Some s) h = ap (λ l. if U.for_base then absent else l) (parent_as_before U d n s h)
by_suffix_as_before U d n None h = refl

by_entry_as_before : (U : View) (d : IndDecl) (n : Path) (o : Option Entry) → there_of U d.name ≡ not_there → by_entry (view_with_type U d) n o ≡ by_entry U n o
by_entry_as_before U d n (Some e) h = refl
by_entry_as_before U d n None h = at (branch_over U.branches n)
  where
    at : (b : Option ℕ) → by_branch (view_with_type U d) n b ≡ by_branch U n b
    at (Some p) = refl
    at None = by_suffix_as_before U d n (suffix_of (last_of n)) h

-- Another name is looked up as before, and the type's own name is found.
pub lookup_other : (U : View) (d : IndDecl) (n : Path) → there_of U d.name ≡ not_there → same_path d.name n ≡ false
    → lookup_of (view_with_type U d) n ≡ lookup_of U n
lookup_other U d n h q = ap (by_entry (view_with_type U d) n) (find_other U.entries (type_entry U d) n q) ∙ by_entry_as_before U d n (find_entry U.entries n) h

find_own : (U : View) (d : IndDecl) (n : Path) → there_of U d.name ≡ not_there → same_path d.name n ≡ true
    → find_entry (view_with_type U d).entries n ≡ Some (type_entry U d)
find_own U d n h q = find_last U.entries (type_entry U d) n q (subst (λ m. find_entry U.entries m ≡ None) (path_is d.name n q) (no_entry_there U d.name h))

pub lookup_own : (U : View) (d : IndDecl) (n : Path) → there_of U d.name ≡ not_there → same_path d.name n ≡ true
    → lookup_of (view_with_type U d) n ≡ found (type_alone d)
lookup_own U d n h q = ap (by_entry (view_with_type U d) n) (find_own U d n h q)

-- ---- Extension.

-- What isn't there in the one isn't there in the other.
still_not_there : (U V : View) → Tells V U → (t : Path) → there_of U t ≡ not_there → there_of V t ≡ not_there
still_not_there U V x t h = sym (subst (λ s. SameThere s (there_of V t)) h (there_kept U V x t))

lookups_kept : (U V : View) → Tells V U → (d : IndDecl) → there_of U d.name ≡ not_there → there_of V d.name ≡ not_there → (n : Path)
    → SameLookup (lookup_of (view_with_type U d) n) (lookup_of (view_with_type V d) n)
lookups_kept U V x d h g n = at (same_path d.name n) refl
  where
    at : (b : Bool) → same_path d.name n ≡ b → SameLookup (lookup_of (view_with_type U d) n) (lookup_of (view_with_type V d) n)
    at true q = rw (lookup_own U d n h q, lookup_own V d n g q) refl
    at false q = rw (lookup_other U d n h q, lookup_other V d n g q) (x.lookups n)

bodies_kept : (U V : View) → Tells V U → (d : IndDecl) → there_of U d.name ≡ not_there → there_of V d.name ≡ not_there → (n : Path) (c : ConstInfo)
    → lookup_of (view_with_type U d) n ≡ found c
    → SameBody (body_of (view_with_type U d) n) (body_of (view_with_type V d) n)
bodies_kept U V x d h g n c e = at (same_path d.name n) refl
  where
    at : (b : Bool) → same_path d.name n ≡ b → SameBody (body_of (view_with_type U d) n) (body_of (view_with_type V d) n)
    at true q = rw (lookup_own U d n h q, lookup_own V d n g q) refl
    at false q = rw (lookup_other U d n h q, lookup_other V d n g q) (x.bodies n c (sym (lookup_other U d n h q) ∙ e))

reals_kept : (U V : View) → Tells V U → (d : IndDecl) → there_of U d.name ≡ not_there → there_of V d.name ≡ not_there → (n : Path)
    → lookup_of (view_with_type U d) n ≡ need_real → IsAnswered (lookup_of (view_with_type V d) n)
reals_kept U V x d h g n e = at (same_path d.name n) refl
  where
    at : (b : Bool) → same_path d.name n ≡ b → IsAnswered (lookup_of (view_with_type V d) n)
    at true q = rw (lookup_own V d n g q) tt
    at false q = rw (lookup_other V d n g q) (x.reals n (sym (lookup_other U d n h q) ∙ e))

entries_kept : (U V : View) → Tells V U → (d : IndDecl) → there_of U d.name ≡ not_there → there_of V d.name ≡ not_there → (n : Path)
    → IsAnswered (lookup_of (view_with_type U d) n)
    → position_placed (placed_of (view_with_type U d) n) ≡ position_placed (placed_of (view_with_type V d) n)
entries_kept U V x d h g n a = at (same_path d.name n) refl
  where
    at : (b : Bool) → same_path d.name n ≡ b → position_placed (placed_of (view_with_type U d) n) ≡ position_placed (placed_of (view_with_type V d) n)
    at true q =
        place_found 0 (view_with_type U d).entries n ∙ ap place_of (find_own U d n h q) ∙ ap Some (sym x.position)
        ∙ sym (place_found 0 (view_with_type V d).entries n ∙ ap place_of (find_own V d n g q))
    at false q =
        ap position_placed (placed_other 0 U.entries (type_entry U d) n q) ∙ x.entries n (subst IsAnswered (lookup_other U d n h q) a)
        ∙ sym (ap position_placed (placed_other 0 V.entries (type_entry V d) n q))

kind_found : Lookup → ConstKind
kind_found (found c) = c.kind
kind_found _ = Inductive

-- An axiom isn't the type.
no_axiom : (U : View) (d : IndDecl) (n : Path) (c : ConstInfo) → there_of U d.name ≡ not_there → lookup_of (view_with_type U d) n ≡ found c → c.kind ≡ Axiom
    → same_path d.name n ≡ false
unfolding kind_found
no_axiom U d n c h e k = at (same_path d.name n) refl
  where
    at : (b : Bool) → same_path d.name n ≡ b → same_path d.name n ≡ false
    at true q = let i : Inductive ≡ Axiom = ap kind_found (sym (lookup_own U d n h q) ∙ e) ∙ k in absurd (cc)
    at false q = q

axioms_kept : (U V : View) → Tells V U → (d : IndDecl) → there_of U d.name ≡ not_there → there_of V d.name ≡ not_there
    → SameOrder (view_with_type V d) (view_with_type U d)
axioms_kept U V x d h g m n c e p q p' q' lm km ln kn pm pn vm vn =
    let om : same_path d.name m ≡ false = no_axiom U d m c h lm km in
    let on : same_path d.name n ≡ false = no_axiom U d n e h ln kn in
    x.axioms m n c e p q p' q' (sym (lookup_other U d m h om) ∙ lm) km (sym (lookup_other U d n h on) ∙ ln) kn
    (sym (placed_other 0 U.entries (type_entry U d) m om) ∙ pm) (sym (placed_other 0 U.entries (type_entry U d) n on) ∙ pn)
    (sym (placed_other 0 V.entries (type_entry V d) m om) ∙ vm) (sym (placed_other 0 V.entries (type_entry V d) n on) ∙ vn)

pub type_extends : (U V : View) → Tells V U → (d : IndDecl) → there_of U d.name ≡ not_there → Tells (view_with_type V d) (view_with_type U d)
type_extends U V x d h =
    let g : there_of V d.name ≡ not_there = still_not_there U V x d.name h in
    record {
      position = x.position;
      lookups = lookups_kept U V x d h g;
      bodies = bodies_kept U V x d h g;
      reals = reals_kept U V x d h g;
      entries = entries_kept U V x d h g;
      axioms = axioms_kept U V x d h g;
    }
