-- A join leaves the fuller view the fuller.
use Rattle.std.proofs.Common.{◌≡◌, ◌⊎◌, inl, inr, ℕ, Bool, true, false, not, List, [], ◌∷◌, ◌++◌, map, filter, None, refl, sym, ap, subst, ◌∙◌, cond, Contains}
use Rattle.std.proofs.lemmas.List.Elements.{Contains-append_left, Contains-append_right, Contains-append_cases, Contains-push, All-contains, filter-append}
use Rattle.lf_core.specs.Term.{Path}
use Rattle.lf_core.specs.Same.{same_path}
use Rattle.lf_core.specs.declared.constant.ConstInfo.{ConstInfo}
use Rattle.lf_name.proofs.Names.{path_is}
use Rattle.lf_inductive_laws.proofs.Contained.{first_contained, later_contained}
use Rattle.lf_checker.specs.View.{View, Entry, OpenBranch, is_axiom, is_child, find_entry, with_constant, closed_branch, joined_branch}
use Rattle.lf_checker.specs.Extends.{Shape, shape_of}
use Rattle.lf_env.specs.Layer.{branch_of, entries_at}
use Rattle.lf_env.proofs.Changes.{joined_is}
use Rattle.lf_view_laws.specs.Fuller.{HasNamesOnce, ShownBy, ChildOf, axioms_of, Fuller, JoinsChildren, IsJoined}
use Rattle.lf_view_laws.proofs.Members.{mapped_from, mapped_in, kept_from, kept_in, none_kept}
use Rattle.lf_view_laws.proofs.Finds.{same_is, no_entry, branch_is}
use Rattle.lf_view_laws.proofs.Calls.{shown_more, entries_at_once}

abbrev name_of : Entry → Path
name_of e = e.info.name

-- ---- An entry with the header's constant

module _ (h : ConstInfo) where
  closed_is : (e : Entry) → e.info.name ≡ h.name → with_constant h e ≡ record { info = h; position = e.position }
  closed_is e m = ap (λ b. cond b (record e { info = h }) e) (same_is e.info.name h.name m)

  other_is : (e : Entry) → same_path e.info.name h.name ≡ false → with_constant h e ≡ e
  other_is e m = ap (λ b. cond b (record e { info = h }) e) m

  closed_position : (e : Entry) → (with_constant h e).position ≡ e.position
  closed_position e = at (same_path e.info.name h.name)
    where
      at : (b : Bool) → (cond b (record e { info = h }) e).position ≡ e.position
      at true = refl
      at false = refl

  closed_name : (e : Entry) → (with_constant h e).info.name ≡ e.info.name
  closed_name e = at (same_path e.info.name h.name) refl
    where
      at : (b : Bool) → same_path e.info.name h.name ≡ b → (cond b (record e { info = h }) e).info.name ≡ e.info.name
      at true m = sym (path_is e.info.name h.name m)
      at false m = refl

  closed_shape : (e : Entry) → (e.info.name ≡ h.name → shape_of e.info ≡ shape_of h) → shape_of (with_constant h e).info ≡ shape_of e.info
  closed_shape e r = at (same_path e.info.name h.name) refl
    where
      at : (b : Bool) → same_path e.info.name h.name ≡ b → shape_of (cond b (record e { info = h }) e).info ≡ shape_of e.info
      at true m = sym (r (path_is e.info.name h.name m))
      at false m = refl

  no_axiom_kept : (e : Entry) → is_axiom h.kind ≡ false → (e.info.name ≡ h.name → is_axiom e.info.kind ≡ false) → (es ds : List Entry)
      → axioms_of ds ≡ axioms_of es → axioms_of (with_constant h e ∷ ds) ≡ axioms_of (e ∷ es)
  no_axiom_kept e n r es ds q = at (same_path e.info.name h.name) refl
    where
      none : is_axiom e.info.kind ≡ false → axioms_of (record { info = h; position = e.position } ∷ ds) ≡ axioms_of (e ∷ es)
      none k =
          ap (λ b. cond b (record { info = h; position = e.position } ∷ axioms_of ds) (axioms_of ds)) n ∙ q
          ∙ sym (ap (λ b. cond b (e ∷ axioms_of es) (axioms_of es)) k)

      at : (b : Bool) → same_path e.info.name h.name ≡ b → axioms_of (cond b (record e { info = h }) e ∷ ds) ≡ axioms_of (e ∷ es)
      at true m = none (r (path_is e.info.name h.name m))
      at false m = ap (λ l. cond (is_axiom e.info.kind) (e ∷ l) l) q

  axioms_closed : (es : List Entry) → is_axiom h.kind ≡ false → ((e : Entry) → Contains es e → e.info.name ≡ h.name → is_axiom e.info.kind ≡ false)
      → axioms_of (map (with_constant h) es) ≡ axioms_of es
  axioms_closed [] n r = refl
  axioms_closed (e ∷ es) n r =
      no_axiom_kept e n (r e (first_contained e es)) es (map (with_constant h) es) (axioms_closed es n (λ d w. r d (later_contained e d es w)))

  -- Some of the entries, with the header's constant.
  shown_closed : (es : List Entry) (e : Entry) → (s : ShownBy es e) → (s.entry.info.name ≡ h.name → shape_of s.entry.info ≡ shape_of h)
      → ShownBy (map (with_constant h) es) e
  shown_closed es e s r = record {
    entry = with_constant h s.entry;
    within = mapped_in (with_constant h) es s.entry s.within;
    position = closed_position s.entry ∙ s.position;
    shape = closed_shape s.entry r ∙ s.shape;
  }

  once_closed : (es : List Entry) → HasNamesOnce es → HasNamesOnce (map (with_constant h) es)
  once_closed es once d e w v m =
      let a = mapped_from (with_constant h) es d w in
      let b = mapped_from (with_constant h) es e v in
      sym a.is
      ∙ ap (with_constant h) (once a.source b.source a.within b.within
      (sym (closed_name a.source) ∙ ap name_of a.is ∙ m ∙ sym (ap name_of b.is) ∙ closed_name b.source))
      ∙ b.is

-- ---- Helpers at the position

record Helper (p : ℕ) (cs : List ConstInfo) (e : Entry) : Type 0 where
  pub constant : ConstInfo
  pub within : Contains cs constant
  pub is : record { info = constant; position = p } ≡ e

helper_of : (p : ℕ) (cs : List ConstInfo) (e : Entry) → Contains (entries_at p cs) e → Helper p cs e
helper_of p cs e w =
    let k = mapped_from (λ (c : ConstInfo). record { info = c; position = p }) cs e w in
    record { constant = k.source; within = k.within; is = k.is }

no_helper_is_axiom : (p : ℕ) (cs : List ConstInfo) → ((c : ConstInfo) → Contains cs c → is_axiom c.kind ≡ false) → (es : List Entry)
    → axioms_of (es ++ entries_at p cs) ≡ axioms_of es
no_helper_is_axiom p cs h es =
    filter-append (λ e. is_axiom e.info.kind) es (entries_at p cs)
    ∙ ap (λ l. axioms_of es ++ l) (none_kept (λ e. is_axiom e.info.kind) (entries_at p cs)
    (λ e w. let k = helper_of p cs e w in ap (λ (d : Entry). is_axiom d.info.kind) (sym k.is) ∙ h k.constant k.within))
    ∙ append_nothing (axioms_of es)
  where
    append_nothing : (xs : List Entry) → xs ++ [] ≡ xs
    append_nothing [] = refl
    append_nothing (x ∷ xs) = ap (λ l. x ∷ l) (append_nothing xs)

apart_once : (es ds : List Entry) → HasNamesOnce es → HasNamesOnce ds → ((d e : Entry) → Contains es d → Contains ds e → d.info.name ≡ e.info.name → ⊥)
    → HasNamesOnce (es ++ ds)
apart_once es ds a b apart d e w v m = at (Contains-append_cases es ds d w) (Contains-append_cases es ds e v)
  where
    at : Contains es d ⊎ Contains ds d → Contains es e ⊎ Contains ds e → d ≡ e
    at (inl x) (inl y) = a d e x y m
    at (inl x) (inr y) = absurd (apart d e x y m)
    at (inr x) (inl y) = absurd (apart e d y x (sym m))
    at (inr x) (inr y) = b d e x y m

-- ---- A join in the fuller view

module _ (V U : View) (f : Fuller V U) (p : ℕ) (cs : List ConstInfo) (j : JoinsChildren V p cs) where
  abbrev all_entries : List Entry
  all_entries = V.entries ++ entries_at p j.can.helpers

  abbrev header : ConstInfo
  header = j.can.header

  here_no_axiom : (c : ConstInfo) → Contains (j.can.helpers ++ header ∷ []) c → is_axiom c.kind ≡ false
  here_no_axiom c w = All-contains (λ (d : ConstInfo). is_axiom d.kind ≡ false) cs c j.no_axiom (subst (λ l. Contains l c) (sym j.can.are) w)

  its_branch : Contains U.branches (record { prefix = header.name; position = p })
  its_branch = f.branches _ (branch_is V.branches header.name p j.can.open_there)

  standing : (e : Entry) → Contains V.entries e → e.info.name ≡ header.name → j.header.entry ≡ e
  standing e w m = f.entries_once j.header.entry e j.header.within w (ap (λ (x : Shape). x.name) j.header.shape ∙ sym m)

  same_shape : (e : Entry) → Contains V.entries e → e.info.name ≡ header.name → shape_of e.info ≡ shape_of header
  same_shape e w m = ap (λ (x : Entry). shape_of x.info) (sym (standing e w m)) ∙ j.header.shape

  own_position : (e : Entry) → Contains V.entries e → e.info.name ≡ header.name → e.position ≡ p
  own_position e w m = ap (λ (x : Entry). x.position) (sym (standing e w m)) ∙ j.header.position

  in_place : (e : Entry) → Contains V.entries e → ShownBy (map (with_constant header) all_entries) e
  in_place e w = shown_closed header all_entries e
      (record { entry = e; within = Contains-append_left V.entries (entries_at p j.can.helpers) e w; position = refl; shape = refl })
      (same_shape e w)

  joined_stands : (e : Entry) → Contains V.entries e ⊎ (Contains U.branches (branch_of e) × ShownBy V.entries e)
      → Contains (map (with_constant header) all_entries) e
      ⊎ (Contains U.branches (branch_of e) × ShownBy (map (with_constant header) all_entries) e)
  joined_stands e (inl w) = at (same_path e.info.name header.name) refl
    where
      at : (b : Bool) → same_path e.info.name header.name ≡ b
          → Contains (map (with_constant header) all_entries) e
          ⊎ (Contains U.branches (branch_of e) × ShownBy (map (with_constant header) all_entries) e)
      at true m =
          let n : e.info.name ≡ header.name = path_is e.info.name header.name m in
          let q : e.position ≡ p = own_position e w n in
          inr (subst (Contains U.branches) (λ i. record { prefix = sym n i; position = sym q i }) its_branch, in_place e w)
      at false m =
          inl (subst (Contains (map (with_constant header) all_entries)) (other_is header e m)
          (mapped_in (with_constant header) all_entries e
          (Contains-append_left V.entries (entries_at p j.can.helpers) e w)))
  joined_stands e (inr (b, s)) =
      inr (
        b,
        shown_closed header all_entries e (shown_more V.entries (entries_at p j.can.helpers) e s)
            (same_shape s.entry s.within),
      )

  -- What the entry was before the join.
  known_before : (d e : Entry) → with_constant header d ≡ e → Contains V.entries d ⊎ Contains (entries_at p j.can.helpers) d
      → ShownBy U.entries e ⊎ ChildOf U.branches e
  known_before d e q (inl w) = at (f.no_others d w)
    where
      place : d.position ≡ e.position
      place = sym (closed_position header d) ∙ ap (λ (x : Entry). x.position) q

      at : ShownBy U.entries d ⊎ ChildOf U.branches d → ShownBy U.entries e ⊎ ChildOf U.branches e
      at (inl s) = inl (record {
        entry = s.entry;
        within = s.within;
        position = s.position ∙ place;
        shape = s.shape ∙ sym (closed_shape header d (same_shape d w)) ∙ ap (λ (x : Entry). shape_of x.info) q;
      })
      at (inr c) = inr (record {
        branch = c.branch;
        within = c.within;
        child = subst (λ (n : Path). is_child c.branch.prefix n ≡ true) (sym (closed_name header d) ∙ ap name_of q) c.child;
        position = c.position ∙ place;
      })
  known_before d e q (inr w) =
      let k = helper_of p j.can.helpers d w in
      inr (record {
        branch = record { prefix = header.name; position = p };
        within = its_branch;
        child = subst (λ (n : Path). is_child header.name n ≡ true) (ap name_of k.is ∙ sym (closed_name header d) ∙ ap name_of q)
            (All-contains (λ (c : ConstInfo). is_child header.name c.name ≡ true) j.can.helpers k.constant j.children k.within);
        position = ap (λ (x : Entry). x.position) k.is ∙ sym (closed_position header d) ∙ ap (λ (x : Entry). x.position) q;
      })

  all_once : HasNamesOnce all_entries
  all_once = apart_once V.entries (entries_at p j.can.helpers) f.entries_once (entries_at_once p j.can.helpers j.can.distinct)
      (λ d e w v m.
      let k = helper_of p j.can.helpers e v in
      no_entry V.entries k.constant.name d (All-contains (λ (c : ConstInfo). find_entry V.entries c.name ≡ None) j.can.helpers k.constant j.can.fresh k.within)
      w (m ∙ sym (ap name_of k.is)))

  header_apart : (e : Entry) → Contains all_entries e → is_axiom header.kind ≡ false → e.info.name ≡ header.name
      → is_axiom e.info.kind ≡ false
  header_apart e w n m = at (Contains-append_cases V.entries (entries_at p j.can.helpers) e w)
    where
      at : Contains V.entries e ⊎ Contains (entries_at p j.can.helpers) e → is_axiom e.info.kind ≡ false
      at (inl v) = ap (λ (x : Shape). is_axiom x.kind) (same_shape e v m) ∙ n
      at (inr v) =
          let k = helper_of p j.can.helpers e v in
          ap (λ (x : Entry). is_axiom x.info.kind) (sym k.is)
          ∙ here_no_axiom k.constant (Contains-append_left j.can.helpers (header ∷ []) k.constant k.within)

  fuller_closed : Fuller (closed_branch (record V { entries = V.entries ++ entries_at p j.can.helpers }) header) U
  fuller_closed =
      let no : is_axiom header.kind ≡ false = here_no_axiom header (Contains-push j.can.helpers header) in
      record {
        position = f.position;
        for_base = f.for_base;
        entries = λ e w. joined_stands e (f.entries e w);
        no_others = λ e w.
            let k = mapped_from (with_constant header) all_entries e w in
            known_before k.source e k.is (Contains-append_cases V.entries (entries_at p j.can.helpers) k.source k.within);
        branches = λ b w. f.branches b (kept_from (λ x. not (same_path x.prefix header.name)) V.branches b w).0;
        realized = f.realized;
        failed = f.failed;
        axioms = axioms_closed header all_entries no (λ e w m. header_apart e w no m)
            ∙ no_helper_is_axiom p j.can.helpers (λ c w. here_no_axiom c (Contains-append_left j.can.helpers (header ∷ []) c w)) V.entries ∙ f.axioms;
        entries_once = once_closed header all_entries all_once;
        realized_once = f.realized_once;
        one_answer = f.one_answer;
      }

  pub fuller_joined : Fuller (joined_branch V p cs) U
  fuller_joined = subst (λ W. Fuller W U) (sym (joined_is V p j.can.helpers header) ∙ sym (ap (joined_branch V p) j.can.are)) fuller_closed

-- ---- The same join in the other view, later

module _ (V U : View) (f : Fuller V U) (p : ℕ) (cs : List ConstInfo) (j : IsJoined V U p cs) where
  abbrev all_later : List Entry
  all_later = U.entries ++ entries_at p j.helpers

  later_within : (c : ConstInfo) → Contains (j.helpers ++ j.header ∷ []) c → Contains V.entries (record { info = c; position = p })
  later_within c w =
      All-contains (λ (d : ConstInfo). Contains V.entries (record { info = d; position = p })) cs c j.stand (subst (λ l. Contains l c) (sym j.are) w)

  later_no_axiom : (c : ConstInfo) → Contains (j.helpers ++ j.header ∷ []) c → is_axiom c.kind ≡ false
  later_no_axiom c w = All-contains (λ (d : ConstInfo). is_axiom d.kind ≡ false) cs c j.no_axiom (subst (λ l. Contains l c) (sym j.are) w)

  header_stands : Contains V.entries (record { info = j.header; position = p })
  header_stands = later_within j.header (Contains-push j.helpers j.header)

  helper_stands : (e : Entry) → Contains (entries_at p j.helpers) e → Contains V.entries e
  helper_stands e w =
      let k = helper_of p j.helpers e w in
      subst (Contains V.entries) k.is (later_within k.constant (Contains-append_left j.helpers (j.header ∷ []) k.constant k.within))

  -- The header's entry, as V has it.
  headed : (e : Entry) → Contains V.entries e → e.info.name ≡ j.header.name → record { info = j.header; position = p } ≡ e
  headed e w m = f.entries_once (record { info = j.header; position = p }) e header_stands w (sym m)

  -- An entry of U beside the helpers shows what V has there.
  beside : (e : Entry) → Contains all_later e → ShownBy V.entries e
  beside e w = at (Contains-append_cases U.entries (entries_at p j.helpers) e w)
    where
      of_entry : Contains V.entries e ⊎ (Contains U.branches (branch_of e) × ShownBy V.entries e) → ShownBy V.entries e
      of_entry (inl v) = record { entry = e; within = v; position = refl; shape = refl }
      of_entry (inr (b, s)) = s

      at : Contains U.entries e ⊎ Contains (entries_at p j.helpers) e → ShownBy V.entries e
      at (inl v) = of_entry (f.entries e v)
      at (inr v) = record { entry = e; within = helper_stands e v; position = refl; shape = refl }

  later_shape : (e : Entry) → Contains all_later e → e.info.name ≡ j.header.name → shape_of e.info ≡ shape_of j.header
  later_shape e w m =
      let s = beside e w in
      sym s.shape ∙ ap (λ (x : Entry). shape_of x.info) (sym (headed s.entry s.within (ap (λ (x : Shape). x.name) s.shape ∙ m)))

  later_position : (e : Entry) → Contains all_later e → e.info.name ≡ j.header.name → e.position ≡ p
  later_position e w m =
      let s = beside e w in
      sym s.position ∙ ap (λ (x : Entry). x.position) (sym (headed s.entry s.within (ap (λ (x : Shape). x.name) s.shape ∙ m)))

  abbrev open_left : List OpenBranch
  open_left = filter (λ b. not (same_path b.prefix j.header.name)) U.branches

  later_stands : (d e : Entry) → with_constant j.header d ≡ e → Contains all_later d
      → Contains V.entries e ⊎ (Contains open_left (branch_of e) × ShownBy V.entries e)
  later_stands d e q w = at (same_path d.info.name j.header.name) refl
    where
      others : same_path d.info.name j.header.name ≡ false → Contains U.entries d ⊎ Contains (entries_at p j.helpers) d
          → Contains V.entries d ⊎ (Contains open_left (branch_of d) × ShownBy V.entries d)
      others m (inr v) = inl (helper_stands d v)
      others m (inl v) = of_entry (f.entries d v)
        where
          of_entry : Contains V.entries d ⊎ (Contains U.branches (branch_of d) × ShownBy V.entries d)
              → Contains V.entries d ⊎ (Contains open_left (branch_of d) × ShownBy V.entries d)
          of_entry (inl u) = inl u
          of_entry (inr (b, s)) = inr (kept_in (λ x. not (same_path x.prefix j.header.name)) U.branches (branch_of d) b (ap not m), s)

      at : (b : Bool) → same_path d.info.name j.header.name ≡ b → Contains V.entries e ⊎ (Contains open_left (branch_of e) × ShownBy V.entries e)
      at true m =
          let n : d.info.name ≡ j.header.name = path_is d.info.name j.header.name m in
          let r : record { info = j.header; position = p } ≡ e =
          (λ i. record { info = j.header; position = sym (later_position d w n) i }) ∙ sym (closed_is j.header d n) ∙ q in
          inl (subst (Contains V.entries) r header_stands)
      at false m =
          subst (λ x. Contains V.entries x ⊎ (Contains open_left (branch_of x) × ShownBy V.entries x)) (sym (other_is j.header d m) ∙ q)
          (others m (Contains-append_cases U.entries (entries_at p j.helpers) d w))

  -- An entry of V that U has, or a helper.
  later_shown : (e : Entry) → ShownBy all_later e → ShownBy (map (with_constant j.header) all_later) e
  later_shown e s = shown_closed j.header all_later e s (later_shape s.entry s.within)

  later_known : (e : Entry) → Contains V.entries e → ShownBy U.entries e ⊎ ChildOf U.branches e
      → ShownBy (map (with_constant j.header) all_later) e ⊎ ChildOf open_left e
  later_known e w (inl s) = inl (later_shown e (shown_more U.entries (entries_at p j.helpers) e s))
  later_known e w (inr c) = at (same_path c.branch.prefix j.header.name) refl
    where
      own : ShownBy U.entries e ⊎ Contains j.helpers e.info → ShownBy all_later e
      own (inl s) = shown_more U.entries (entries_at p j.helpers) e s
      own (inr v) =
          let stands = later_within e.info (Contains-append_left j.helpers (j.header ∷ []) e.info v) in
          let same : record { info = e.info; position = p } ≡ e = f.entries_once (record { info = e.info; position = p }) e stands w refl in
          record {
            entry = record { info = e.info; position = p };
            within = Contains-append_right U.entries (entries_at p j.helpers) (record { info = e.info; position = p })
                (mapped_in (λ (d : ConstInfo). record { info = d; position = p }) j.helpers e.info v);
            position = ap (λ (x : Entry). x.position) same;
            shape = refl;
          }

      at : (b : Bool) → same_path c.branch.prefix j.header.name ≡ b
          → ShownBy (map (with_constant j.header) all_later) e ⊎ ChildOf open_left e
      at true m =
          inl (later_shown e (own (j.all e w (subst (λ n. is_child n e.info.name ≡ true) (path_is c.branch.prefix j.header.name m) c.child))))
      at false m = inr (record {
        branch = c.branch;
        within = kept_in (λ x. not (same_path x.prefix j.header.name)) U.branches c.branch c.within (ap not m);
        child = c.child;
        position = c.position;
      })

  later_branch : (b : OpenBranch) → Contains V.branches b → Contains open_left b
  later_branch b w = kept_in (λ x. not (same_path x.prefix j.header.name)) U.branches b (f.branches b w) (at (same_path b.prefix j.header.name) refl)
    where
      at : (t : Bool) → same_path b.prefix j.header.name ≡ t → not t ≡ true
      at true m =
          let n : b.prefix ≡ j.header.name = path_is b.prefix j.header.name m in
          absurd (j.closed b.position (subst (Contains V.branches) (λ i. record { prefix = n i; position = b.position }) w))
      at false m = refl

  later_closed : Fuller V (closed_branch (record U { entries = U.entries ++ entries_at p j.helpers }) j.header)
  later_closed =
      let no : is_axiom j.header.kind ≡ false = later_no_axiom j.header (Contains-push j.helpers j.header) in
      record {
        position = f.position;
        for_base = f.for_base;
        entries = λ e w.
            let k = mapped_from (with_constant j.header) all_later e w in
            later_stands k.source e k.is k.within;
        no_others = λ e w. later_known e w (f.no_others e w);
        branches = later_branch;
        realized = f.realized;
        failed = f.failed;
        axioms = f.axioms
            ∙ sym (axioms_closed j.header all_later no
            (λ e w m. ap (λ (x : Shape). is_axiom x.kind) (later_shape e w m) ∙ no)
            ∙ no_helper_is_axiom p j.helpers (λ c w. later_no_axiom c (Contains-append_left j.helpers (j.header ∷ []) c w)) U.entries);
        entries_once = f.entries_once;
        realized_once = f.realized_once;
        one_answer = f.one_answer;
      }

  pub fuller_joined_later : Fuller V (joined_branch U p cs)
  fuller_joined_later = subst (Fuller V) (sym (joined_is U p j.helpers j.header) ∙ sym (ap (joined_branch U p) j.are)) later_closed
