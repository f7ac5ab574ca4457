-- The fuller view extends the other.
use Rattle.std.proofs.Common.{◌≡◌, ◌⊎◌, inl, inr, ℕ, Bool, true, false, ◌&&◌, List, Option, Some, None, refl, sym, ap, subst, ◌∙◌, cond, Contains}
use Rattle.lf_core.specs.Term.{Path}
use Rattle.lf_core.specs.Suffix.{suffix_of, fits_kind, is_definition}
use Rattle.lf_core.specs.declared.constant.ConstInfo.{ConstInfo}
use Rattle.lf_core.specs.declared.constant.ConstKind.TheVariants.{Axiom}
use Rattle.lf_core.specs.declared.constant.TaskKey.TheVariants.{Body}
use Rattle.lf_core.specs.declared.suffix.Suffix.{Suffix}
use Rattle.lf_checker.specs.View.{
  View,
  Entry,
  stands_before,
  find_entry,
  find_branch,
  has_failed,
  branch_over,
  parent_of,
  last_of,
  is_axiom,
  is_child,
  OpenBranch,
  placed_of,
  Lookup,
  found,
  absent,
  need_body,
  need_real,
  by_answer,
  answer_of,
  by_parent,
  by_suffix,
  by_branch,
  by_entry,
  lookup_of,
  own_value,
  value_in,
  body_in,
  found_body,
  found_value,
  body_of,
  value_of,
  KnownBody,
  value,
  opaque,
  unresolved,
}
use Rattle.lf_checker.specs.Extends.{
  Shape,
  shape_of,
  SameLookup,
  SameBody,
  SameValue,
  IsAnswered,
  SameOrder,
  position_placed,
  Extends,
}
use Rattle.lf_env.specs.Layer.{branch_of}
use Rattle.lf_extension_laws.proofs.Extended_declarations.{place_of, place_found}
use Rattle.lf_view_laws.specs.Fuller.{ShownBy, ChildOf, Fuller}
use Rattle.lf_view_laws.proofs.Finds.{entry_is, no_entry, one_entry, branch_is, no_branch, over_is, none_over, failed_is, is_failed}
use Rattle.lf_view_laws.proofs.Order.{precedes, ordered, ordered_among}

-- The second lookup is the first, unless that is a need, and isn't the need of a body unless the first is. Constants whose branches aren't open
-- are found whole.
record Both (bs : List OpenBranch) (l m : Lookup) : Type 0 where
  pub same : SameLookup l m
  pub answered : IsAnswered l → IsAnswered m
  pub whole : (c : ConstInfo) → l ≡ found c → find_branch bs c.name ≡ None → m ≡ found c

module _ {bs : List OpenBranch} where
  both_as : {l l' m m' : Lookup} → l ≡ l' → m ≡ m' → Both bs l' m' → Both bs l m
  both_as {l} {l'} {m} {m'} p q b = subst (λ x. Both bs x m) (sym p) (subst (λ y. Both bs l' y) (sym q) b)

  waits : (p : ℕ) (m : Lookup) → Both bs (need_body p) m
  waits p m = record { same = tt; answered = λ x. absurd x; whole = λ c h b. absurd (cc) }

  both_absent : Both bs absent absent
  both_absent = record { same = refl; answered = λ x. tt; whole = λ c h b. h }

  both_found : (c : ConstInfo) → Both bs (found c) (found c)
  both_found c = record { same = refl; answered = λ x. tt; whole = λ d h b. h }

  choose : (b : Bool) (l m l' m' : Lookup) → Both bs l l' → Both bs m m' → Both bs (cond b l m) (cond b l' m')
  choose true l m l' m' h g = h
  choose false l m l' m' h g = g

found_is : (c d : ConstInfo) → found c ≡ found d → c ≡ d
found_is c d h = cc

body_self : (b : KnownBody) → SameBody b b
body_self (value v h) = refl
body_self opaque = refl
body_self (unresolved k) = tt

value_self : (b : KnownBody) → SameValue b b
value_self (value v h) = refl
value_self opaque = refl
value_self (unresolved k) = tt

same_kind : (c : ConstInfo) (l : Lookup) → SameLookup (found c) l → (d : ConstInfo) × (l ≡ found d) × (d.kind ≡ c.kind)
same_kind c (found d) h = (d, refl, ap (λ (x : Shape). x.kind) (sym h))
same_kind c absent h = absurd h
same_kind c (need_body p) h = absurd h
same_kind c need_real h = absurd h

module _ (V U : View) (f : Fuller V U) where
  -- An entry of U in V.
  record Stays (n : Path) (e : Entry) : Type 0 where
    pub entry : Entry
    pub found : find_entry V.entries n ≡ Some entry
    pub position : entry.position ≡ e.position
    pub shape : shape_of entry.info ≡ shape_of e.info
    pub same : find_branch U.branches n ≡ None → entry ≡ e

  stays : (n : Path) (e : Entry) → find_entry U.entries n ≡ Some e → Stays n e
  stays n e h = let r = entry_is U.entries n e h in at r.1 (f.entries e r.0)
    where
      at : e.info.name ≡ n → Contains V.entries e ⊎ (Contains U.branches (branch_of e) × ShownBy V.entries e) → Stays n e
      at m (inl w) = record { entry = e; found = one_entry V.entries n e f.entries_once w m; position = refl; shape = refl; same = λ x. refl }
      at m (inr (b, s)) = record {
        entry = s.entry;
        found = one_entry V.entries n s.entry f.entries_once s.within (ap (λ (x : Shape). x.name) s.shape ∙ m);
        position = s.position;
        shape = s.shape;
        same = λ x. absurd (no_branch U.branches n (branch_of e) x b m);
      }

  not_added : (n : Path) → find_entry U.entries n ≡ None → branch_over U.branches n ≡ None → find_entry V.entries n ≡ None
  not_added n h b = at (find_entry V.entries n) refl
    where
      which : (e : Entry) → e.info.name ≡ n → ShownBy U.entries e ⊎ ChildOf U.branches e → ⊥
      which e m (inl s) = no_entry U.entries n s.entry h s.within (ap (λ (x : Shape). x.name) s.shape ∙ m)
      which e m (inr c) = none_over U.branches n c.branch b c.within (subst (λ (x : Path). is_child c.branch.prefix x ≡ true) m c.child)

      at : (o : Option Entry) → find_entry V.entries n ≡ o → find_entry V.entries n ≡ None
      at (Some e) g = let r = entry_is V.entries n e g in absurd (which e r.1 (f.no_others e r.0))
      at None g = g

  not_open : (n : Path) → find_branch U.branches n ≡ None → find_branch V.branches n ≡ None
  not_open n h = at (find_branch V.branches n) refl
    where
      at : (o : Option ℕ) → find_branch V.branches n ≡ o → find_branch V.branches n ≡ None
      at (Some p) g = absurd (no_branch U.branches n (record { prefix = n; position = p }) h (f.branches _ (branch_is V.branches n p g)) refl)
      at None g = g

  not_over : (n : Path) → branch_over U.branches n ≡ None → branch_over V.branches n ≡ None
  not_over n h = at (branch_over V.branches n) refl
    where
      at : (o : Option ℕ) → branch_over V.branches n ≡ o → branch_over V.branches n ≡ None
      at (Some p) g = let r = over_is V.branches n p g in absurd (none_over U.branches n r.branch h (f.branches r.branch r.within) r.child)
      at None g = g

  -- ---- Lookups

  not_realized : (n : Path) → has_failed U.failed n ≡ true → find_entry V.realized n ≡ None
  not_realized n h = at (find_entry V.realized n) refl
    where
      at : (o : Option Entry) → find_entry V.realized n ≡ o → find_entry V.realized n ≡ None
      at (Some e) g =
          let r = entry_is V.realized n e g in
          let k = failed_is U.failed n h in
          absurd (f.one_answer k.name e (f.failed k.name k.within) r.0 (k.is ∙ sym r.1))
      at None g = g

  never_waits : (o : Option Entry) (b : Bool) → IsAnswered (by_answer o b)
  never_waits (Some e) b = tt
  never_waits None true = tt
  never_waits None false = tt

  answers : (n : Path) → Both U.branches (answer_of U n) (answer_of V n)
  answers n = at (find_entry U.realized n) refl (has_failed U.failed n) refl
    where
      at : (o : Option Entry) → find_entry U.realized n ≡ o → (b : Bool) → has_failed U.failed n ≡ b → Both U.branches (answer_of U n) (answer_of V n)
      at (Some e) h b g =
          let r = entry_is U.realized n e h in
          both_as (ap (λ o. by_answer o (has_failed U.failed n)) h)
          (ap (λ o. by_answer o (has_failed V.failed n)) (one_entry V.realized n e f.realized_once (f.realized e r.0) r.1))
          (both_found e.info)
      at None h true g =
          let k = failed_is U.failed n g in
          both_as (ap (λ o. by_answer o (has_failed U.failed n)) h ∙ ap (by_answer None) g)
          (ap (λ o. by_answer o (has_failed V.failed n)) (not_realized n g)
          ∙ ap (by_answer None) (is_failed V.failed n k.name (f.failed k.name k.within) k.is)) both_absent
      at None h false g =
          both_as (ap (λ o. by_answer o (has_failed U.failed n)) h ∙ ap (by_answer None) g) refl
          (record { same = tt; answered = λ x. never_waits (find_entry V.realized n) (has_failed V.failed n); whole = λ c q b. absurd (cc) })

  parents : (n : Path) (s : Suffix)
      → Both U.branches (by_parent U n s (find_entry U.entries (parent_of n))) (by_parent V n s (find_entry V.entries (parent_of n)))
  parents n s = at (find_entry U.entries (parent_of n)) refl
    where
      none : (o : Option ℕ) → find_entry U.entries (parent_of n) ≡ None → branch_over U.branches (parent_of n) ≡ o
          → Both U.branches (by_parent U n s None) (by_parent V n s (find_entry V.entries (parent_of n)))
      none (Some p) h b = let e : by_parent U n s None ≡ need_body p = rw b refl in both_as e refl (waits p _)
      none None h b =
          let e : by_parent U n s None ≡ absent = rw b refl in
          let g : by_parent V n s None ≡ absent = rw (not_over (parent_of n) b) refl in
          both_as e (ap (by_parent V n s) (not_added (parent_of n) h b) ∙ g) both_absent

      at : (o : Option Entry) → find_entry U.entries (parent_of n) ≡ o
          → Both U.branches (by_parent U n s (find_entry U.entries (parent_of n))) (by_parent V n s (find_entry V.entries (parent_of n)))
      at (Some e) h =
          let t = stays (parent_of n) e h in
          both_as (ap (by_parent U n s) h)
          (ap (by_parent V n s) t.found
          ∙ ap (λ (x : Shape). cond (fits_kind s x.kind && stands_before V.position t.entry.position) (answer_of V n) absent) t.shape
          ∙ ap (λ q. cond (fits_kind s e.info.kind && stands_before q t.entry.position) (answer_of V n) absent) f.position
          ∙ ap (λ q. cond (fits_kind s e.info.kind && stands_before U.position q) (answer_of V n) absent) t.position)
          (choose (fits_kind s e.info.kind && stands_before U.position e.position) (answer_of U n) absent (answer_of V n) absent (answers n) both_absent)
      at None h = both_as (ap (by_parent U n s) h) refl (none (branch_over U.branches (parent_of n)) h refl)

  suffixes : (n : Path) (o : Option Suffix) → Both U.branches (by_suffix U n o) (by_suffix V n o)
  suffixes n None = both_absent
  suffixes n (Some s) =
      both_as refl (ap (λ b. cond b absent (by_parent V n s (find_entry V.entries (parent_of n)))) f.for_base)
      (choose U.for_base absent (by_parent U n s (find_entry U.entries (parent_of n))) absent (by_parent V n s (find_entry V.entries (parent_of n)))
      both_absent (parents n s))

  entry_told : (n : Path) (e : Entry) (t : Stays n e) → e.info.name ≡ n → Both U.branches (found e.info) (found t.entry.info)
  entry_told n e t m = record {
    same = sym t.shape;
    answered = λ x. tt;
    whole = λ c h b.
        let own : c.name ≡ n = ap (λ (x : ConstInfo). x.name) (sym (found_is e.info c h)) ∙ m in
        ap (λ (x : Entry). found x.info) (t.same (subst (λ k. find_branch U.branches k ≡ None) own b)) ∙ h;
  }

  lookups : (n : Path) → Both U.branches (lookup_of U n) (lookup_of V n)
  lookups n = at (find_entry U.entries n) refl
    where
      none : (o : Option ℕ) → find_entry U.entries n ≡ None → branch_over U.branches n ≡ o → Both U.branches (lookup_of U n) (lookup_of V n)
      none (Some p) h b = both_as (ap (by_entry U n) h ∙ ap (by_branch U n) b) refl (waits p _)
      none None h b =
          both_as (ap (by_entry U n) h ∙ ap (by_branch U n) b) (ap (by_entry V n) (not_added n h b) ∙ ap (by_branch V n) (not_over n b))
          (suffixes n (suffix_of (last_of n)))

      at : (o : Option Entry) → find_entry U.entries n ≡ o → Both U.branches (lookup_of U n) (lookup_of V n)
      at (Some e) h =
          let t = stays n e h in
          both_as (ap (by_entry U n) h) (ap (by_entry V n) t.found) (entry_told n e t (entry_is U.entries n e h).1)
      at None h = none (branch_over U.branches n) h refl

  -- ---- Values

  bodies : (n : Path) (c : ConstInfo) → lookup_of U n ≡ found c → SameBody (body_of U n) (body_of V n)
  bodies n c h = at (find_branch U.branches c.name) refl
    where
      b : Both U.branches (found c) (lookup_of V n)
      b = subst (λ l. Both U.branches l (lookup_of V n)) h (lookups n)

      open_body : (t : Bool) → is_definition c.kind ≡ t → (p : ℕ) → find_branch U.branches c.name ≡ Some p → SameBody (body_in U c) (body_of V n)
      open_body true k p o =
          let e : body_in U c ≡ unresolved (Body p) = ap (λ t. cond t (value_in U c) opaque) k ∙ ap (own_value c) o in
          subst (λ x. SameBody x (body_of V n)) (sym e) tt
      open_body false k p o =
          let d = same_kind c (lookup_of V n) b.same in
          let e : body_in U c ≡ opaque = ap (λ t. cond t (value_in U c) opaque) k in
          let g : body_of V n ≡ opaque =
          ap (found_body V n) d.1 ∙ ap (λ x. cond (is_definition x) (value_in V d.0) opaque) d.2 ∙ ap (λ t. cond t (value_in V d.0) opaque) k in
          subst (λ x. SameBody x (body_of V n)) (sym e) (sym g)

      at : (o : Option ℕ) → find_branch U.branches c.name ≡ o → SameBody (body_of U n) (body_of V n)
      at (Some p) o = subst (λ l. SameBody (found_body U n l) (body_of V n)) (sym h) (open_body (is_definition c.kind) refl p o)
      at None o =
          let g : body_of V n ≡ body_of U n =
          ap (found_body V n) (b.whole c refl o)
          ∙ ap (λ x. cond (is_definition c.kind) (own_value c x) opaque) (not_open c.name o ∙ sym o) ∙ sym (ap (found_body U n) h) in
          subst (SameBody (body_of U n)) (sym g) (body_self (body_of U n))

  values : (n : Path) (c : ConstInfo) → lookup_of U n ≡ found c → SameValue (value_of U n) (value_of V n)
  values n c h = at (find_branch U.branches c.name) refl
    where
      at : (o : Option ℕ) → find_branch U.branches c.name ≡ o → SameValue (value_of U n) (value_of V n)
      at (Some p) o =
          let e : value_of U n ≡ unresolved (Body p) = ap (found_value U n) h ∙ ap (own_value c) o in
          subst (λ x. SameValue x (value_of V n)) (sym e) tt
      at None o =
          let g : value_of V n ≡ value_of U n =
          ap (found_value V n) ((lookups n).whole c h o) ∙ ap (own_value c) (not_open c.name o ∙ sym o) ∙ sym (ap (found_value U n) h) in
          subst (SameValue (value_of U n)) (sym g) (value_self (value_of U n))

  -- ---- Entries, and the order of the axioms

  positions : (n : Path) → IsAnswered (lookup_of U n) → position_placed (placed_of U n) ≡ position_placed (placed_of V n)
  positions n a = place_found 0 U.entries n ∙ at (find_entry U.entries n) refl ∙ sym (place_found 0 V.entries n)
    where
      none : (o : Option ℕ) → find_entry U.entries n ≡ None → branch_over U.branches n ≡ o
          → place_of (find_entry U.entries n) ≡ place_of (find_entry V.entries n)
      none (Some p) h b = absurd (subst IsAnswered (ap (by_entry U n) h ∙ ap (by_branch U n) b) a)
      none None h b = ap place_of (h ∙ sym (not_added n h b))

      at : (o : Option Entry) → find_entry U.entries n ≡ o → place_of (find_entry U.entries n) ≡ place_of (find_entry V.entries n)
      at (Some e) h = let t = stays n e h in ap place_of h ∙ ap Some (sym t.position) ∙ sym (ap place_of t.found)
      at None h = none (branch_over U.branches n) h refl

  -- An axiom with a place is an entry of both.
  record AxiomOfBoth (n : Path) : Type 0 where
    pub mine : Entry
    pub its : Entry
    pub found_mine : find_entry U.entries n ≡ Some mine
    pub found_its : find_entry V.entries n ≡ Some its
    pub axiom_mine : is_axiom mine.info.kind ≡ true
    pub axiom_its : is_axiom its.info.kind ≡ true

  axiom_of_both : (n : Path) (c : ConstInfo) (p : ℕ × ℕ) → lookup_of U n ≡ found c → c.kind ≡ Axiom → placed_of U n ≡ Some p → AxiomOfBoth n
  axiom_of_both n c p h k w = at (find_entry U.entries n) refl
    where
      at : (o : Option Entry) → find_entry U.entries n ≡ o → AxiomOfBoth n
      at (Some e) g =
          let t = stays n e g in
          let same : e.info ≡ c = found_is e.info c (sym (ap (by_entry U n) g) ∙ h) in
          let kind : is_axiom e.info.kind ≡ true = ap (λ (x : ConstInfo). is_axiom x.kind) same ∙ ap is_axiom k in
          record {
            mine = e;
            its = t.entry;
            found_mine = g;
            found_its = t.found;
            axiom_mine = kind;
            axiom_its = ap (λ (x : Shape). is_axiom x.kind) t.shape ∙ kind;
          }
      at None g = let e : Some p.0 ≡ None = sym (ap position_placed w) ∙ place_found 0 U.entries n ∙ ap place_of g in absurd (cc)

  axioms_in_order : SameOrder V U
  axioms_in_order m n c d p q p' q' lm km ln kn pm pn vm vn =
      let a = axiom_of_both m c p lm km pm in
      let b = axiom_of_both n d q ln kn pn in
      let test : Entry → Bool = λ e. is_axiom e.info.kind in
      let mine = ordered_among test U.entries m n a.mine b.mine a.found_mine b.found_mine a.axiom_mine b.axiom_mine in
      let its = ordered_among test V.entries m n a.its b.its a.found_its b.found_its a.axiom_its b.axiom_its in
      let same : precedes V.entries m n ≡ precedes U.entries m n = sym its ∙ ap (λ es. precedes es m n) f.axioms ∙ mine in
      let here = ordered 0 U.entries m n p q pm pn in
      let there = ordered 0 V.entries m n p' q' vm vn in
      (λ x. there.1 (same ∙ here.0 x), λ x. here.1 (sym same ∙ there.0 x))

  pub extends : Extends V U
  extends = record {
    tells = record {
      position = f.position;
      lookups = λ n. (lookups n).same;
      bodies = bodies;
      reals = λ n h. (lookups n).answered (subst IsAnswered (sym h) tt);
      entries = positions;
      axioms = axioms_in_order;
    };
    values = values;
  }
