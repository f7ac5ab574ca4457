-- The fuller view as it is at a position is fuller than the other.
use Rattle.std.proofs.Common.{◌≡◌, ◌⊎◌, inl, inr, ℕ, suc, Bool, true, false, List, [], filter, refl, ap, ◌∙◌, Contains, nat_eq}
use Rattle.lf_inductive_laws.proofs.Contained.{none_contained}
use Rattle.lf_checker.specs.View.{
  View,
  Entry,
  Failed,
  is_axiom,
  stands_before,
  base_position,
  entries_before,
  branches_before,
  failed_before,
  view_at,
  view_real_at,
}
use Rattle.lf_env.specs.Layer.{branch_of}
use Rattle.lf_view_laws.specs.Fuller.{HasNamesOnce, ShownBy, ChildOf, Fuller}
use Rattle.lf_view_laws.proofs.Members.{kept_from, kept_in, filters_swap}

-- The first answers have the second.
pub record Answers (rs us : List Entry) (fs gs : List Failed) : Type 0 where
  pub realized : (e : Entry) → Contains us e → Contains rs e
  pub failed : (f : Failed) → Contains gs f → Contains fs f
  pub once : HasNamesOnce rs
  pub one : (f : Failed) (e : Entry) → Contains fs f → Contains rs e → f.name ≡ e.info.name → ⊥

no_answers : Answers [] [] [] []
no_answers = record {
  realized = λ e w. w;
  failed = λ f w. w;
  once = λ d e w v m. absurd (none_contained d w);
  one = λ f e w v m. none_contained f w;
}

-- What stands before a limit, with these answers.
abbrev pub cut_view : ℕ → View → List Entry → List Failed → ℕ → Bool → View
cut_view limit V rs fs position for_base = record {
  entries = entries_before limit V.entries;
  branches = branches_before limit V.branches;
  realized = rs;
  failed = fs;
  position = position;
  for_base = for_base;
}

module _ (V U : View) (f : Fuller V U) (limit : ℕ) where
  answers_before : Answers (entries_before limit V.realized) (entries_before limit U.realized) (failed_before limit V.failed) (failed_before limit U.failed)
  answers_before = record {
    realized = λ e w. let k = kept_from (λ d. stands_before limit d.position) U.realized e w in
        kept_in (λ d. stands_before limit d.position) V.realized e (f.realized e k.0) k.1;
    failed = λ g w. let k = kept_from (λ d. stands_before limit d.position) U.failed g w in
        kept_in (λ d. stands_before limit d.position) V.failed g (f.failed g k.0) k.1;
    once = λ d e w v. f.realized_once d e (kept_from (λ d. stands_before limit d.position) V.realized d w).0
        (kept_from (λ d. stands_before limit d.position) V.realized e v).0;
    one = λ g e w v. f.one_answer g e (kept_from (λ d. stands_before limit d.position) V.failed g w).0
        (kept_from (λ d. stands_before limit d.position) V.realized e v).0;
  }

  shown_before : (es : List Entry) (e : Entry) → stands_before limit e.position ≡ true → ShownBy es e → ShownBy (entries_before limit es) e
  shown_before es e h s = record {
    entry = s.entry;
    within = kept_in (λ d. stands_before limit d.position) es s.entry s.within (ap (stands_before limit) s.position ∙ h);
    position = s.position;
    shape = s.shape;
  }

  stands : (e : Entry) → stands_before limit e.position ≡ true → Contains V.entries e ⊎ (Contains U.branches (branch_of e) × ShownBy V.entries e)
      → Contains (entries_before limit V.entries) e
      ⊎ (Contains (branches_before limit U.branches) (branch_of e) × ShownBy (entries_before limit V.entries) e)
  stands e h (inl w) = inl (kept_in (λ d. stands_before limit d.position) V.entries e w h)
  stands e h (inr (b, s)) = inr (kept_in (λ c. stands_before limit c.position) U.branches (branch_of e) b h, shown_before V.entries e h s)

  known : (e : Entry) → stands_before limit e.position ≡ true → ShownBy U.entries e ⊎ ChildOf U.branches e
      → ShownBy (entries_before limit U.entries) e ⊎ ChildOf (branches_before limit U.branches) e
  known e h (inl s) = inl (shown_before U.entries e h s)
  known e h (inr c) = inr (record {
    branch = c.branch;
    within = kept_in (λ d. stands_before limit d.position) U.branches c.branch c.within (ap (stands_before limit) c.position ∙ h);
    child = c.child;
    position = c.position;
  })

  pub cut : {rs us : List Entry} {fs gs : List Failed} → Answers rs us fs gs → (position : ℕ) (for_base : Bool)
      → Fuller (cut_view limit V rs fs position for_base) (cut_view limit U us gs position for_base)
  cut a position for_base = record {
    position = refl;
    for_base = refl;
    entries = λ e w. let k = kept_from (λ d. stands_before limit d.position) U.entries e w in stands e k.1 (f.entries e k.0);
    no_others = λ e w. let k = kept_from (λ d. stands_before limit d.position) V.entries e w in known e k.1 (f.no_others e k.0);
    branches = λ b w. let k = kept_from (λ d. stands_before limit d.position) V.branches b w in
        kept_in (λ d. stands_before limit d.position) U.branches b (f.branches b k.0) k.1;
    realized = a.realized;
    failed = a.failed;
    axioms = filters_swap (λ e. is_axiom e.info.kind) (λ e. stands_before limit e.position) V.entries
        ∙ ap (filter (λ e. stands_before limit e.position)) f.axioms
        ∙ filters_swap (λ e. stands_before limit e.position) (λ e. is_axiom e.info.kind) U.entries;
    entries_once = λ d e w v. f.entries_once d e (kept_from (λ d. stands_before limit d.position) V.entries d w).0
        (kept_from (λ d. stands_before limit d.position) V.entries e v).0;
    realized_once = a.once;
    one_answer = a.one;
  }

pub fuller_at : (V U : View) → Fuller V U → (p : ℕ) → Fuller (view_at V p) (view_at U p)
fuller_at V U f p = cut V U f p (answers_before V U f p) p false

pub fuller_real_at : (V U : View) → Fuller V U → (p : ℕ) → Fuller (view_real_at V p) (view_real_at U p)
fuller_real_at V U f p = at (nat_eq p base_position) refl
  where
    base : Fuller (cut_view 0 V [] [] 0 true) (cut_view 0 U [] [] 0 true)
    base = cut V U f 0 no_answers 0 true

    at : (b : Bool) → nat_eq p base_position ≡ b → Fuller (view_real_at V p) (view_real_at U p)
    at true h = rw h base
    at false h = rw h (cut V U f (suc p) (answers_before V U f p) p false)
