-- What a view needs comes before: its open branches are of earlier commands, and so are the parents of its realizable names.
use Rattle.std.proofs.Common.{
  ◌≡◌,
  ◌<◌,
  ◌≤◌,
  ◌⊎◌,
  inl,
  inr,
  ℕ,
  suc,
  ◌+◌,
  Bool,
  true,
  false,
  ◌&&◌,
  ◌||◌,
  nat_eq,
  nat_lt,
  if◌then◌else◌,
  List,
  [],
  ◌∷◌,
  Option,
  Some,
  None,
  Contains,
  filter,
  refl,
  sym,
  ap,
  subst,
  ◌∙◌,
  arith,
}
use Rattle.std.proofs.lemmas.Bool.{lt-ltb, ltb-true, eqb-true, eqb-false, eq-eqb}
use Rattle.std.proofs.Math.Nat.{eq-or-lt_of_le}
use Rattle.lf_core.specs.Term.{Path}
use Rattle.lf_name.proofs.Names.{path_is}
use Rattle.lf_core.specs.Same.{same_path}
use Rattle.lf_core.specs.Suffix.{suffix_of, fits_kind}
use Rattle.lf_core.specs.declared.suffix.Suffix.{Suffix}
use Rattle.lf_core.specs.declared.constant.TaskKey.{TaskKey}
use Rattle.lf_core.specs.declared.constant.TaskKey.TheVariants.{Head, Body, Real}
use Rattle.lf_checker.specs.View.{
  View,
  Entry,
  OpenBranch,
  base_position,
  stands_before,
  find_entry,
  branch_over,
  parent_of,
  last_of,
  absent,
  need_body,
  need_real,
  answer_of,
  by_parent,
  by_suffix,
  by_branch,
  by_entry,
  lookup_of,
  position_of,
  entries_before,
  branches_before,
  failed_before,
  view_at,
  view_real_at,
}
use Rattle.lf_extension_laws.specs.Needs.{IsWanted}
use Rattle.lf_resolution_laws.specs.Needs.{ResolutionWaits}
use Rattle.lf_elaboration_laws.specs.Extension.{AreDistinct}
use Rattle.lf_elaboration_laws.proofs.Reached.{cons_cases, here, there, none_in}
use Rattle.lf_document.specs.TaskValue.{Outcome, has, waits_for, real_value, head_value, body_value}
use Rattle.lf_document.specs.Rank.{rank_of, is_lower}
use Rattle.lf_document_laws.specs.Needs.{OutcomeWaits, OfCommands, ComesBefore, at_position, NeedsHaveLowerRank}
use Rattle.lf_document_laws.proofs.Tasks.{values_wait}

-- ---- Tests of numbers

lower_first : (i j : ℕ) (a b : ℕ) → i < j → is_lower (i, a) (j, b) ≡ true
lower_first i j a b h = ap (λ t. t || (nat_eq i j && nat_lt a b)) (lt-ltb i j h)

true_or : (b : Bool) → (b || true) ≡ true
true_or true = refl
true_or false = refl

strictly : (i j : ℕ) → i ≤ j → (i + 1 ≡ j + 1 → ⊥) → i + 1 < j + 1
strictly i j h n = at (eq-or-lt_of_le h)
  where
    at : (i ≡ j) ⊎ (i < j) → i + 1 < j + 1
    at (inl e) = absurd (n (ap (λ k. k + 1) e))
    at (inr l) = omega arith

-- A body's rank is below that of what is realized of its command and of later ones.
lower_body : (i j : ℕ) → i ≤ j → is_lower (i + 1, 1) (j + 1, 2) ≡ true
lower_body i j h = at (nat_eq (i + 1) (j + 1)) refl
  where
    at : (b : Bool) → nat_eq (i + 1) (j + 1) ≡ b → is_lower (i + 1, 1) (j + 1, 2) ≡ true
    at true q = ap (λ b. nat_lt (i + 1) (j + 1) || (b && true)) q ∙ true_or (nat_lt (i + 1) (j + 1))
    at false q =
        let apart : i + 1 ≡ j + 1 → ⊥ = eqb-false (i + 1) (j + 1) q in
        lower_first (i + 1) (j + 1) 1 2 (strictly i j h apart)

-- ---- What stands before

-- Of the base, or before the position.
before_cases : (limit p : ℕ) → stands_before limit p ≡ true → (p ≡ base_position) ⊎ (p < limit)
before_cases limit p h = at (nat_eq p base_position) refl h
  where
    at : (b : Bool) → nat_eq p base_position ≡ b → (b || nat_lt p limit) ≡ true → (p ≡ base_position) ⊎ (p < limit)
    at true q g = inl (eqb-true p base_position q)
    at false q g = inr (ltb-true p limit g)

-- ---- Open branches

in_filter : (f : OpenBranch → Bool) (bs : List OpenBranch) (b : OpenBranch) → Contains (filter f bs) b → Contains bs b × (f b ≡ true)
in_filter f [] b h = absurd (none_in b h)
in_filter f (x ∷ bs) b h = at (f x) refl h (in_filter f bs b)
  where
    cases : f x ≡ true → (Contains (filter f bs) b → Contains bs b × (f b ≡ true)) → (x ≡ b) ⊎ Contains (filter f bs) b → Contains (x ∷ bs) b × (f b ≡ true)
    cases q r (inl e) = (subst (λ z. Contains (x ∷ bs) z) e (here x bs), subst (λ z. f z ≡ true) e q)
    cases q r (inr i) = let g : Contains bs b × (f b ≡ true) = r i in (there x b bs g.0, g.1)

    at : (c : Bool) → f x ≡ c → Contains (if c then x ∷ filter f bs else filter f bs) b → (Contains (filter f bs) b → Contains bs b × (f b ≡ true))
        → Contains (x ∷ bs) b × (f b ≡ true)
    at true q g r = cases q r (cons_cases x b (filter f bs) g)
    at false q g r = let i : Contains bs b × (f b ≡ true) = r g in (there x b bs i.0, i.1)

-- A branch that is open before a position is of a command before it.
earlier : (V : View) → OfCommands V → (limit p : ℕ) → (b : OpenBranch) × Contains (branches_before limit V.branches) b × (b.position ≡ p) → p < limit
earlier V of limit p h =
    let i : Contains V.branches h.0 × (stands_before limit h.0.position ≡ true) = in_filter (λ b. stands_before limit b.position) V.branches h.0 h.1 in
    at (before_cases limit h.0.position i.1) (of h.0 i.0)
  where
    at : (h.0.position ≡ base_position) ⊎ (h.0.position < limit) → (h.0.position ≡ base_position → ⊥) → p < limit
    at (inl e) n = absurd (n e)
    at (inr l) n = subst (λ q. q < limit) h.2 l

-- ---- Realizable names

-- The parent of a realizable name stands before, and the view isn't made for the base.
pub record HasParent (W : View) (n : Path) : Type 0 where
  pub parent : Entry
  pub finds : find_entry W.entries (parent_of n) ≡ Some parent
  pub before : stands_before W.position parent.position ≡ true
  pub not_base : W.for_base ≡ false

module _ (W : View) (n : Path) where
  by_parent_has : (s : Suffix) (o : Option Entry) → find_entry W.entries (parent_of n) ≡ o → W.for_base ≡ false → by_parent W n s o ≡ need_real → HasParent W n
  by_parent_has s (Some e) q f h = at (fits_kind s e.info.kind) (stands_before W.position e.position) refl h
    where
      at : (a b : Bool) → stands_before W.position e.position ≡ b → (if a && b then answer_of W n else absent) ≡ need_real → HasParent W n
      at true true r g = record { parent = e; finds = q; before = r; not_base = f }
      at true false r g = absurd (cc)
      at false b r g = absurd (cc)
  by_parent_has s None q f h = at (branch_over W.branches (parent_of n)) refl
    where
      at : (o : Option ℕ) → branch_over W.branches (parent_of n) ≡ o → HasParent W n
      at (Some p) r =
          let is : by_parent W n s None ≡ need_body p = rw r refl in
          let not : need_body p ≡ need_real = sym is ∙ h in absurd (cc)
      at None r =
          let is : by_parent W n s None ≡ absent = rw r refl in
          let not : absent ≡ need_real = sym is ∙ h in absurd (cc)

  by_suffix_has : (o : Option Suffix) → by_suffix W n o ≡ need_real → HasParent W n
  by_suffix_has None h = absurd (cc)
  by_suffix_has (Some s) h = at W.for_base refl h
    where
      at : (b : Bool) → W.for_base ≡ b → (if b then absent else by_parent W n s (find_entry W.entries (parent_of n))) ≡ need_real → HasParent W n
      at true f g = absurd (cc)
      at false f g = by_parent_has s (find_entry W.entries (parent_of n)) refl f g

  by_branch_has : (o : Option ℕ) → by_branch W n o ≡ need_real → HasParent W n
  by_branch_has (Some p) h = absurd (cc)
  by_branch_has None h = by_suffix_has (suffix_of (last_of n)) h

  by_entry_has : (o : Option Entry) → by_entry W n o ≡ need_real → HasParent W n
  by_entry_has (Some e) h = absurd (cc)
  by_entry_has None h = by_branch_has (branch_over W.branches n) h

  has_parent : lookup_of W n ≡ need_real → HasParent W n
  has_parent h = by_entry_has (find_entry W.entries n) h

-- ---- Ranks of what is needed

base_rank : (n : Path) (o : ℕ) → o ≡ base_position → rank_of (Real n) o ≡ (0, 2)
base_rank n o h = ap (λ b. if b then (0, 2) else (o + 1, 2)) (eq-eqb o base_position h)

-- Of the base, or of a command before: below the ranks of each command from there on.
origin_lower : (p k o : ℕ) (n : Path) → stands_before p o ≡ true → is_lower (rank_of (Real n) o) (p + 1, k) ≡ true
origin_lower p k o n h = at (before_cases p o h)
  where
    later : o < p → (b : Bool) → is_lower (if b then (0, 2) else (o + 1, 2)) (p + 1, k) ≡ true
    later l true = lower_first 0 (p + 1) 2 k (omega arith)
    later l false = lower_first (o + 1) (p + 1) 2 k (omega arith)

    at : (o ≡ base_position) ⊎ (o < p) → is_lower (rank_of (Real n) o) (p + 1, k) ≡ true
    at (inl q) = subst (λ r. is_lower r (p + 1, k) ≡ true) (sym (base_rank n o q)) (lower_first 0 (p + 1) 2 k (omega arith))
    at (inr l) = later l (nat_eq o base_position)

-- What is found before a position is what is found of all, where no two entries have one name.
found_of_all : (p : ℕ) (es : List Entry) (m : Path) (d : Entry) → AreDistinct es → find_entry (entries_before p es) m ≡ Some d → find_entry es m ≡ Some d
found_of_all p [] m d a h = absurd (cc)
found_of_all p (e ∷ es) m d a h = at (stands_before p e.position) h (found_of_all p es m d a.1)
  where
    other : find_entry es m ≡ Some d → (c : Bool) → same_path e.info.name m ≡ c → (if c then Some e else find_entry es m) ≡ Some d
    other g true q =
        let none : find_entry es m ≡ None = subst (λ n. find_entry es n ≡ None) (path_is e.info.name m q) a.0 in
        let not : None ≡ Some d = sym none ∙ g in absurd (cc)
    other g false q = g

    same : (find_entry (entries_before p es) m ≡ Some d → find_entry es m ≡ Some d) → (c : Bool)
        → (if c then Some e else find_entry (entries_before p es) m) ≡ Some d → (if c then Some e else find_entry es m) ≡ Some d
    same r true g = g
    same r false g = r g

    at : (b : Bool) → find_entry (if b then e ∷ entries_before p es else entries_before p es) m ≡ Some d
        → (find_entry (entries_before p es) m ≡ Some d → find_entry es m ≡ Some d) → (if same_path e.info.name m then Some e else find_entry es m) ≡ Some d
    at true g r = same r (same_path e.info.name m) g
    at false g r = other (r g) (same_path e.info.name m) refl

-- So its origin is the position of its parent, which stands before.
parent_lower : (V : View) → AreDistinct V.entries → (q p k : ℕ) (n : Path) (d : Entry) → find_entry (entries_before q V.entries) (parent_of n) ≡ Some d
    → stands_before p d.position ≡ true → ComesBefore V (p + 1, k) (Real n)
parent_lower V a q p k n d h b =
    subst (λ o. is_lower (rank_of (Real n) (position_of o)) (p + 1, k) ≡ true) (sym (found_of_all q V.entries (parent_of n) d a h))
    (origin_lower p k d.position n b)

command_before : (V : View) → AreDistinct V.entries → OfCommands V → (p k : ℕ) (n : TaskKey) → IsWanted (view_at V p) n → ComesBefore V (p + 1, k) n
command_before V a of p k (Head i) h = absurd h
command_before V a of p k (Body q) h = let l : q < p = earlier V of p q h in lower_first (q + 1) (p + 1) 1 k (omega arith)
command_before V a of p k (Real n) h =
    let g : HasParent (view_at V p) n = has_parent (view_at V p) n h in parent_lower V a p p k n g.parent g.finds g.before

-- Where the realized constants of the base are made nothing is needed.
abbrev base_view_of : View → View
base_view_of V = record {
  entries = entries_before 0 V.entries;
  branches = branches_before 0 V.branches;
  realized = [];
  failed = [];
  position = 0;
  for_base = true;
}

abbrev command_view_of : View → ℕ → View
command_view_of V origin = record {
  entries = entries_before (suc origin) V.entries;
  branches = branches_before (suc origin) V.branches;
  realized = entries_before origin V.realized;
  failed = failed_before origin V.failed;
  position = origin;
  for_base = false;
}

of_base : (V : View) → OfCommands V → (k : TaskKey) → IsWanted (base_view_of V) k → ⊥
of_base V of (Head i) h = h
of_base V of (Body q) h = let l : q < 0 = earlier V of 0 q h in omega arith
of_base V of (Real n) h = let g : HasParent (base_view_of V) n = has_parent (base_view_of V) n h in let f : true ≡ false = g.not_base in cc

of_command : (V : View) → AreDistinct V.entries → OfCommands V → (origin : ℕ) (k : TaskKey) → IsWanted (command_view_of V origin) k
    → ComesBefore V (origin + 1, 2) k
of_command V a of origin (Head i) h = absurd h
of_command V a of origin (Body q) h = let l : q < suc origin = earlier V of (suc origin) q h in lower_body q origin (omega arith)
of_command V a of origin (Real n) h =
    let g : HasParent (command_view_of V origin) n = has_parent (command_view_of V origin) n h in
    parent_lower V a (suc origin) origin 2 n g.parent g.finds g.before

real_before : (V : View) → AreDistinct V.entries → OfCommands V → (origin : ℕ) (n : Path) (k : TaskKey) → IsWanted (view_real_at V origin) k
    → ComesBefore V (rank_of (Real n) origin) k
real_before V a of origin n k = at (nat_eq origin base_position)
  where
    at : (b : Bool) → IsWanted (if b then base_view_of V else command_view_of V origin) k → ComesBefore V (if b then (0, 2) else (origin + 1, 2)) k
    at true h = absurd (of_base V of k h)
    at false h = of_command V a of origin k h

-- ---- The law

outcome_before : (Key Rank : TaskKey → Type 0) → ((k : TaskKey) → Key k → Rank k) → (o : Outcome) → OutcomeWaits Key o → OutcomeWaits Rank o
outcome_before Key Rank f (has v) h = tt
outcome_before Key Rank f (waits_for k) h = f k h

pub needs_lower : ResolutionWaits → NeedsHaveLowerRank
needs_lower res = record {
  heads = λ V a of s p budget own c.
      outcome_before _ _ (command_before V a of p 0) (head_value (at_position V s p budget) c)
      ((values_wait res).heads (at_position V s p budget) own c);
  bodies = λ V a of s p budget own c h.
      outcome_before _ _ (command_before V a of p 1) (body_value (at_position V s p budget) c h)
      ((values_wait res).bodies (at_position V s p budget) own c h);
  reals = λ V a of origin units n.
      outcome_before _ _ (real_before V a of origin n) (real_value (view_real_at V origin) units n)
      ((values_wait res).reals (view_real_at V origin) units n);
}
