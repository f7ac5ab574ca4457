-- What calls make of two views, or of one of them, leaves the one the fuller.
use Rattle.std.proofs.Common.{◌≡◌, ◌⊎◌, inl, inr, ℕ, List, [], ◌∷◌, ◌++◌, filter, Option, Some, None, refl, sym, ap, subst, ◌∙◌, Contains, true≢false}
use Rattle.std.specs.Prelude.{◌≢◌}
use Rattle.std.proofs.lemmas.List.Elements.{Contains-append_left, Contains-push, Contains-push_cases, filter-append}
use Rattle.lf_core.specs.Term.{Path}
use Rattle.lf_core.specs.declared.constant.ConstInfo.{ConstInfo}
use Rattle.lf_inductive_laws.proofs.Contained.{none_contained, contained_cases}
use Rattle.lf_checker.specs.View.{
  View,
  Entry,
  OpenBranch,
  Failed,
  is_axiom,
  find_entry,
  placed_of,
  base_position,
  base_entries,
  base_view,
  pushed,
  opened_branch,
  answered,
  origin_of,
}
use Rattle.lf_env.specs.Answer.{DistinctNames, CanAnswer}
use Rattle.lf_env.specs.Layer.{branch_of, entries_at}
use Rattle.lf_env.proofs.Shown.{unfound}
use Rattle.lf_view_laws.specs.Fuller.{HasNamesOnce, ShownBy, ChildOf, Fuller, IsAnswer}
use Rattle.lf_view_laws.proofs.Members.{mapped_from, AllPairs-head, AllPairs-tail}
use Rattle.lf_view_laws.proofs.Finds.{no_entry, is_failed}

pub shown_itself : (es : List Entry) (e : Entry) → Contains es e → ShownBy es e
shown_itself es e w = record { entry = e; within = w; position = refl; shape = refl }

abbrev pub shown_more : (es ds : List Entry) (e : Entry) → ShownBy es e → ShownBy (es ++ ds) e
shown_more es ds e s = record { entry = s.entry; within = Contains-append_left es ds s.entry s.within; position = s.position; shape = s.shape }

pub child_more : (bs cs : List OpenBranch) (e : Entry) → ChildOf bs e → ChildOf (bs ++ cs) e
child_more bs cs e c = record {
  branch = c.branch;
  within = Contains-append_left bs cs c.branch c.within;
  child = c.child;
  position = c.position;
}

pub one_more_once : (es : List Entry) (x : Entry) → HasNamesOnce es → find_entry es x.info.name ≡ None → HasNamesOnce (es ++ x ∷ [])
one_more_once es x once none d e w v m = at (Contains-push_cases es x d w) (Contains-push_cases es x e v)
  where
    at : Contains es d ⊎ (x ≡ d) → Contains es e ⊎ (x ≡ e) → d ≡ e
    at (inl a) (inl b) = once d e a b m
    at (inl a) (inr b) = absurd (no_entry es x.info.name d none a (m ∙ ap (λ (y : Entry). y.info.name) (sym b)))
    at (inr a) (inl b) = absurd (no_entry es x.info.name e none b (sym m ∙ ap (λ (y : Entry). y.info.name) (sym a)))
    at (inr a) (inr b) = sym a ∙ b

-- ---- Constants of different names

module _ (p : ℕ) where
  pub entries_at_once : (cs : List ConstInfo) → DistinctNames cs → HasNamesOnce (entries_at p cs)
  entries_at_once [] h d e w v m = absurd (none_contained d w)
  entries_at_once (c ∷ cs) h d e w v m =
      at (entries_at_once cs (AllPairs-tail (λ (x y : ConstInfo). x.name ≢ y.name) c cs h) d e)
      (contained_cases (record { info = c; position = p }) d (entries_at p cs) w) (contained_cases (record { info = c; position = p }) e (entries_at p cs) v)
    where
      apart : (x : Entry) → Contains (entries_at p cs) x → c.name ≡ x.info.name → ⊥
      apart x u n =
          let k = mapped_from (λ (a : ConstInfo). record { info = a; position = p }) cs x u in
          AllPairs-head (λ (x y : ConstInfo). x.name ≢ y.name) c cs h k.source k.within (n ∙ ap (λ (y : Entry). y.info.name) (sym k.is))

      at : (Contains (entries_at p cs) d → Contains (entries_at p cs) e → d.info.name ≡ e.info.name → d ≡ e)
          → (record { info = c; position = p } ≡ d) ⊎ Contains (entries_at p cs) d
          → (record { info = c; position = p } ≡ e) ⊎ Contains (entries_at p cs) e → d ≡ e
      at r (inl a) (inl b) = sym a ∙ b
      at r (inl a) (inr b) = absurd (apart e b (ap (λ (y : Entry). y.info.name) a ∙ m))
      at r (inr a) (inl b) = absurd (apart d a (ap (λ (y : Entry). y.info.name) b ∙ sym m))
      at r (inr a) (inr b) = r a b m

base_at : (cs : List ConstInfo) → base_entries cs ≡ entries_at base_position cs
base_at [] = refl
base_at (c ∷ cs) = ap (λ es. record { info = c; position = base_position } ∷ es) (base_at cs)

pub fuller_base : (cs : List ConstInfo) → DistinctNames cs → Fuller (base_view cs) (base_view cs)
fuller_base cs h = record {
  position = refl;
  for_base = refl;
  entries = λ e w. inl w;
  no_others = λ e w. inl (shown_itself (base_entries cs) e w);
  branches = λ b w. w;
  realized = λ e w. w;
  failed = λ f w. w;
  axioms = refl;
  entries_once = subst HasNamesOnce (sym (base_at cs)) (entries_at_once base_position cs h);
  realized_once = λ d e w v m. absurd (none_contained d w);
  one_answer = λ f e w v m. none_contained f w;
}

module _ (V U : View) (f : Fuller V U) where
  pub fuller_pushed : (c : ConstInfo) (p : ℕ) → placed_of V c.name ≡ None → Fuller (pushed V c p) (pushed U c p)
  fuller_pushed c p none = record {
    position = f.position;
    for_base = f.for_base;
    entries = λ e w. stands e (Contains-push_cases U.entries x e w);
    no_others = λ e w. known e (Contains-push_cases V.entries x e w);
    branches = f.branches;
    realized = f.realized;
    failed = f.failed;
    axioms = filter-append (λ e. is_axiom e.info.kind) V.entries (x ∷ []) ∙ ap (λ es. es ++ filter (λ e. is_axiom e.info.kind) (x ∷ [])) f.axioms
        ∙ sym (filter-append (λ e. is_axiom e.info.kind) U.entries (x ∷ []));
    entries_once = one_more_once V.entries x f.entries_once (unfound 0 V.entries c.name none);
    realized_once = f.realized_once;
    one_answer = f.one_answer;
  }
    where
      x : Entry
      x = record { info = c; position = p }

      old : (e : Entry) → Contains V.entries e ⊎ (Contains U.branches (branch_of e) × ShownBy V.entries e)
          → Contains (V.entries ++ x ∷ []) e ⊎ (Contains U.branches (branch_of e) × ShownBy (V.entries ++ x ∷ []) e)
      old e (inl w) = inl (Contains-append_left V.entries (x ∷ []) e w)
      old e (inr (b, s)) = inr (b, shown_more V.entries (x ∷ []) e s)

      stands : (e : Entry) → Contains U.entries e ⊎ (x ≡ e)
          → Contains (V.entries ++ x ∷ []) e ⊎ (Contains U.branches (branch_of e) × ShownBy (V.entries ++ x ∷ []) e)
      stands e (inl w) = old e (f.entries e w)
      stands e (inr s) = inl (subst (Contains (V.entries ++ x ∷ [])) s (Contains-push V.entries x))

      wider : (e : Entry) → ShownBy U.entries e ⊎ ChildOf U.branches e → ShownBy (U.entries ++ x ∷ []) e ⊎ ChildOf U.branches e
      wider e (inl s) = inl (shown_more U.entries (x ∷ []) e s)
      wider e (inr k) = inr k

      known : (e : Entry) → Contains V.entries e ⊎ (x ≡ e) → ShownBy (U.entries ++ x ∷ []) e ⊎ ChildOf U.branches e
      known e (inl w) = wider e (f.no_others e w)
      known e (inr s) = inl (subst (ShownBy (U.entries ++ x ∷ [])) s (shown_itself (U.entries ++ x ∷ []) x (Contains-push U.entries x)))

  pub fuller_opened : (n : Path) (p : ℕ) → Fuller (opened_branch V n p) (opened_branch U n p)
  fuller_opened n p = record {
    position = f.position;
    for_base = f.for_base;
    entries = λ e w. stands e (f.entries e w);
    no_others = λ e w. known e (f.no_others e w);
    branches = λ b w. open_in b (Contains-push_cases V.branches x b w);
    realized = f.realized;
    failed = f.failed;
    axioms = f.axioms;
    entries_once = f.entries_once;
    realized_once = f.realized_once;
    one_answer = f.one_answer;
  }
    where
      x : OpenBranch
      x = record { prefix = n; position = p }

      stands : (e : Entry) → Contains V.entries e ⊎ (Contains U.branches (branch_of e) × ShownBy V.entries e)
          → Contains V.entries e ⊎ (Contains (U.branches ++ x ∷ []) (branch_of e) × ShownBy V.entries e)
      stands e (inl w) = inl w
      stands e (inr (b, s)) = inr (Contains-append_left U.branches (x ∷ []) (branch_of e) b, s)

      known : (e : Entry) → ShownBy U.entries e ⊎ ChildOf U.branches e → ShownBy U.entries e ⊎ ChildOf (U.branches ++ x ∷ []) e
      known e (inl s) = inl s
      known e (inr c) = inr (child_more U.branches (x ∷ []) e c)

      open_in : (b : OpenBranch) → Contains V.branches b ⊎ (x ≡ b) → Contains (U.branches ++ x ∷ []) b
      open_in b (inl w) = Contains-append_left U.branches (x ∷ []) b (f.branches b w)
      open_in b (inr s) = subst (Contains (U.branches ++ x ∷ [])) s (Contains-push U.branches x)

  pub fuller_answered : (n : Path) (made : Option ConstInfo) → CanAnswer V n made → Fuller (answered V n made) U
  fuller_answered n (Some c) can = record {
    position = f.position;
    for_base = f.for_base;
    entries = f.entries;
    no_others = f.no_others;
    branches = f.branches;
    realized = λ e w. Contains-append_left V.realized (x ∷ []) e (f.realized e w);
    failed = f.failed;
    axioms = f.axioms;
    entries_once = f.entries_once;
    realized_once = one_more_once V.realized x f.realized_once (ap (find_entry V.realized) can.named ∙ can.not_realized);
    one_answer = λ g e w v m. one g e w m (Contains-push_cases V.realized x e v);
  }
    where
      x : Entry
      x = record { info = c; position = origin_of V n }

      one : (g : Failed) (e : Entry) → Contains V.failed g → g.name ≡ e.info.name → Contains V.realized e ⊎ (x ≡ e) → ⊥
      one g e w m (inl v) = f.one_answer g e w v m
      one g e w m (inr s) =
          let named : g.name ≡ n = m ∙ ap (λ (y : Entry). y.info.name) (sym s) ∙ can.named in
          true≢false (sym (is_failed V.failed n g w named) ∙ can.not_failed)
  fuller_answered n None can = record {
    position = f.position;
    for_base = f.for_base;
    entries = f.entries;
    no_others = f.no_others;
    branches = f.branches;
    realized = f.realized;
    failed = λ g w. Contains-append_left V.failed (x ∷ []) g (f.failed g w);
    axioms = f.axioms;
    entries_once = f.entries_once;
    realized_once = f.realized_once;
    one_answer = λ g e w v m. one g e v m (Contains-push_cases V.failed x g w);
  }
    where
      x : Failed
      x = record { name = n; position = origin_of V n }

      one : (g : Failed) (e : Entry) → Contains V.realized e → g.name ≡ e.info.name → Contains V.failed g ⊎ (x ≡ g) → ⊥
      one g e v m (inl w) = f.one_answer g e w v m
      one g e v m (inr s) = no_entry V.realized n e can.not_realized v (sym m ∙ ap (λ (y : Failed). y.name) (sym s))

  pub fuller_answered_later : (n : Path) (made : Option ConstInfo) → IsAnswer V n (origin_of U n) made → Fuller V (answered U n made)
  fuller_answered_later n (Some c) a = record {
    position = f.position;
    for_base = f.for_base;
    entries = f.entries;
    no_others = f.no_others;
    branches = f.branches;
    realized = λ e w. at e (Contains-push_cases U.realized (record { info = c; position = origin_of U n }) e w);
    failed = f.failed;
    axioms = f.axioms;
    entries_once = f.entries_once;
    realized_once = f.realized_once;
    one_answer = f.one_answer;
  }
    where
      at : (e : Entry) → Contains U.realized e ⊎ (record { info = c; position = origin_of U n } ≡ e) → Contains V.realized e
      at e (inl w) = f.realized e w
      at e (inr s) = subst (Contains V.realized) s a
  fuller_answered_later n None a = record {
    position = f.position;
    for_base = f.for_base;
    entries = f.entries;
    no_others = f.no_others;
    branches = f.branches;
    realized = f.realized;
    failed = λ g w. at g (Contains-push_cases U.failed (record { name = n; position = origin_of U n }) g w);
    axioms = f.axioms;
    entries_once = f.entries_once;
    realized_once = f.realized_once;
    one_answer = f.one_answer;
  }
    where
      at : (g : Failed) → Contains U.failed g ⊎ (record { name = n; position = origin_of U n } ≡ g) → Contains V.failed g
      at g (inl w) = f.failed g w
      at g (inr s) = subst (Contains V.failed) s a
