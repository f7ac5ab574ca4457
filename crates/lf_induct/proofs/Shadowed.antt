-- An entry behind another of its name is hidden: such a view tells what it told before.
use Rattle.std.proofs.Common.{◌≡◌, ℕ, suc, Bool, true, false, List, [], ◌∷◌, ◌++◌, refl, ap, sym, ◌∙◌, subst}
use Rattle.std.specs.Prelude.{Option, Some, None, if◌then◌else◌}
use Rattle.lf_name.proofs.Names.{path_is}
use Rattle.lf_core.specs.Term.{Path, Universe}
use Rattle.lf_core.specs.Same.{same_path}
use Rattle.lf_core.specs.Suffix.{suffix_of}
use Rattle.lf_core.specs.declared.constant.ConstInfo.{ConstInfo}
use Rattle.lf_core.specs.declared.constant.IndDecl.{IndDecl}
use Rattle.lf_core.specs.declared.suffix.Suffix.{Suffix}
use Rattle.lf_rules.specs.Inductive.{type_alone}
use Rattle.lf_checker.specs.View.{
  View,
  Entry,
  Lookup,
  found,
  absent,
  need_body,
  need_real,
  find_entry,
  placed_from,
  placed_of,
  parent_of,
  last_of,
  branch_over,
  by_parent,
  by_suffix,
  by_branch,
  by_entry,
  lookup_of,
  found_body,
  pushed,
}
use Rattle.lf_checker.specs.Calls.{seen_as}
use Rattle.lf_checker.specs.Checker.{calls}
use Rattle.lf_checker.specs.Admission.{view_with_type}
use Rattle.lf_induct.specs.Parts.{admit_all}
use Rattle.lf_induct.proofs.Alike.{Alike, calls_alike}

abbrev or_entry : Option Entry → Option Entry → Option Entry
or_entry (Some e) o = Some e
or_entry None o = o

or_none : (o : Option Entry) → or_entry o None ≡ o
or_none (Some e) = refl
or_none None = refl

by_name : (b : Bool) (e : Entry) (o o' r : Option Entry) → o ≡ or_entry o' r → (if b then Some e else o) ≡ or_entry (if b then Some e else o') r
by_name true e o o' r h = refl
by_name false e o o' r h = h

find_behind : (es ds : List Entry) (n : Path) → find_entry (es ++ ds) n ≡ or_entry (find_entry es n) (find_entry ds n)
find_behind [] ds n = refl
find_behind (e ∷ es) ds n = by_name (same_path e.info.name n) e _ _ _ (find_behind es ds n)

last_hidden : (es : List Entry) (x : Entry) (n : Path) (e : Entry) → find_entry es x.info.name ≡ Some e → (b : Bool) → same_path x.info.name n ≡ b
    → or_entry (find_entry es n) (if b then Some x else None) ≡ find_entry es n
last_hidden es x n e h false p = or_none (find_entry es n)
last_hidden es x n e h true p =
    let q : find_entry es n ≡ Some e = subst (λ m. find_entry es m ≡ Some e) (path_is x.info.name n p) h in
    rw q refl

hidden : (V : View) (c : ConstInfo) (p : ℕ) (e : Entry) → find_entry V.entries c.name ≡ Some e → (n : Path)
    → find_entry V.entries n ≡ find_entry (pushed V c p).entries n
hidden V c p e h n =
    let x : Entry = record { info = c; position = p } in
    sym (find_behind V.entries (x ∷ []) n ∙ last_hidden V.entries x n e h (same_path c.name n) refl)

by_parent_is : (V : View) (c : ConstInfo) (p : ℕ) (n : Path) (s : Suffix) (o : Option Entry) → by_parent V n s o ≡ by_parent (pushed V c p) n s o
by_parent_is V c p n s (Some e) = refl
by_parent_is V c p n s None = refl

by_suffix_is : (V : View) (c : ConstInfo) (p : ℕ) (n : Path) → ((m : Path) → find_entry V.entries m ≡ find_entry (pushed V c p).entries m) → (s : Option Suffix)
    → by_suffix V n s ≡ by_suffix (pushed V c p) n s
by_suffix_is V c p n h None = refl
by_suffix_is V c p n h (Some s) = λ i. if V.for_base then absent else by_parent_is V c p n s (h (parent_of n) i) i

by_branch_is : (V : View) (c : ConstInfo) (p : ℕ) (n : Path) → ((m : Path) → find_entry V.entries m ≡ find_entry (pushed V c p).entries m) → (o : Option ℕ)
    → by_branch V n o ≡ by_branch (pushed V c p) n o
by_branch_is V c p n h (Some q) = refl
by_branch_is V c p n h None = by_suffix_is V c p n h (suffix_of (last_of n))

by_entry_is : (V : View) (c : ConstInfo) (p : ℕ) (n : Path) → ((m : Path) → find_entry V.entries m ≡ find_entry (pushed V c p).entries m) → (o : Option Entry)
    → by_entry V n o ≡ by_entry (pushed V c p) n o
by_entry_is V c p n h (Some e) = refl
by_entry_is V c p n h None = by_branch_is V c p n h (branch_over V.branches n)

lookup_is : (V : View) (c : ConstInfo) (p : ℕ) (n : Path) → ((m : Path) → find_entry V.entries m ≡ find_entry (pushed V c p).entries m)
    → lookup_of V n ≡ lookup_of (pushed V c p) n
lookup_is V c p n h = λ i. by_entry_is V c p n h (h n i) i

found_body_is : (V : View) (c : ConstInfo) (p : ℕ) (n : Path) (l : Lookup) → found_body V n l ≡ found_body (pushed V c p) n l
found_body_is V c p n (found d) = refl
found_body_is V c p n absent = refl
found_body_is V c p n (need_body q) = refl
found_body_is V c p n need_real = refl

alike : (V : View) (c : ConstInfo) (p : ℕ) (e : Entry) → find_entry V.entries c.name ≡ Some e → Alike V (pushed V c p)
alike V c p e h = record {
  sees = λ n i. seen_as n (lookup_is V c p n (hidden V c p e h) i);
  bodies = λ n i. found_body_is V c p n (lookup_is V c p n (hidden V c p e h) i) i;
}

placed_found : (i : ℕ) (es : List Entry) (n : Path) (q : ℕ × ℕ) → placed_from i es n ≡ Some q → (e : Entry) × (find_entry es n ≡ Some e)
placed_found i [] n q h = cc
placed_found i (d ∷ es) n q h = by_test (same_path d.info.name n) h (placed_found (suc i) es n q)
  where
    by_test : (b : Bool) → (if b then Some (d.position, i) else placed_from (suc i) es n) ≡ Some q
        → (placed_from (suc i) es n ≡ Some q → (e : Entry) × (find_entry es n ≡ Some e)) → (e : Entry) × ((if b then Some d else find_entry es n) ≡ Some e)
    by_test true h k = (d, refl)
    by_test false h k = k h

same_calls : (V : View) (d : IndDecl) (n : ℕ) (q : ℕ × ℕ) → placed_of V d.name ≡ Some q → calls V n ≡ calls (view_with_type V d) n
same_calls V d n q h =
    let f = placed_found 0 V.entries d.name q h in
    calls_alike (alike V (type_alone d) V.position f.0 f.1) n

-- The constructors of a type whose name is an entry are judged in the view as it is.
pub judged_there : (V : View) (d : IndDecl) (n : ℕ) (q : ℕ × ℕ) (r : Universe) (u : ℕ) → placed_of V d.name ≡ Some q
    → admit_all (calls V n) d r u ≡ admit_all (calls (view_with_type V d) n) d r u
judged_there V d n q r u h = ap (λ c. admit_all c d r u) (same_calls V d n q h)
