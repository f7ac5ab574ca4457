-- What a joined branch makes of the view that the code's entries make.
use Rattle.std.specs.Prelude.{◌≡◌, ℕ, suc, not, List, [], ◌∷◌, ◌++◌, map, filter, Option, Some, None, All, length}
use Rattle.std.proofs.Common.{◌<◌, get_or, arith, refl, sym, ◌∙◌, ap, subst}
use Rattle.std.specs.List.{AllByRecursion}
use Rattle.std.specs.Option.{option_map}
use Rattle.lf_core.specs.Term.{Path}
use Rattle.lf_core.specs.Same.{same_path}
use Rattle.lf_core.specs.declared.constant.ConstInfo.{ConstInfo}
use Rattle.lf_checker.specs.View.{View, Entry, OpenBranch, find_entry, find_branch, with_constant, closed_branch, joined_branch}
use Rattle.lf_env.specs.Answer.{DistinctNames, CanJoin}
use Rattle.lf_env.specs.Layer.{settled, is_open, branch_of, entries_at, AreBacked, shown}
use Rattle.lf_env.proofs.Shown.{settled_find, open_at, branch_found}
use Rattle.lf_env.proofs.Changes.{not_backed, backed_through, backed_grown, backed_one, settled_more, settled_joined, open_joined, joined_is, last_same}

unmapped : (f : Entry → Entry) (o : Option Entry) → option_map f o ≡ None → o ≡ None
unmapped f (Some e) h = cc
unmapped f None h = refl

-- The branch is open: its header isn't joined, and was opened at the position.
record Opened (js os : List Entry) (n : Path) (p : ℕ) : Type 0 where
  pub unjoined : find_entry js n ≡ None
  pub header : Entry
  pub stored : find_entry os n ≡ Some header
  pub placed : header.position ≡ p

opened_by : (js os : List Entry) (n : Path) (p : ℕ) (x y : Option Entry) → find_entry js n ≡ x → find_entry os n ≡ y → open_at x y ≡ Some p → Opened js os n p
opened_by js os n p (Some j) y h g q = absurd (cc)
opened_by js os n p None (Some o) h g q = record { unjoined = h; header = o; stored = g; placed = cc }
opened_by js os n p None None h g q = absurd (cc)

each_unjoined : (js es : List Entry) (p : ℕ) (cs : List ConstInfo) → AreBacked js es → All (λ c. find_entry es c.name ≡ None) cs
    → AllByRecursion (λ e. find_entry js e.info.name ≡ None) (entries_at p cs)
each_unjoined js es p [] backed h = tt
each_unjoined js es p (c ∷ cs) backed h =
    (not_backed js es backed c.name (h 0 c (omega arith)), each_unjoined js es p cs backed (λ k d l. h (suc k) d (omega arith)))

module _ (es js os rs fs : List Entry) (q : ℕ) (b : _) (V : View) (v : shown es js os rs fs q b ≡ V) (jo : AreBacked js os) (oe : AreBacked os es)
    (p : ℕ) (cs helpers : List ConstInfo) (header : ConstInfo) (can : CanJoin V p cs) (are : cs ≡ helpers ++ header ∷ []) where
  same : (helpers ≡ can.helpers) × (header ≡ can.header)
  same = last_same helpers can.helpers header can.header (sym are ∙ can.are)

  pub fresh_helpers : All (λ c. find_entry es c.name ≡ None) helpers
  fresh_helpers =
      let told : All (λ c. find_entry V.entries c.name ≡ None) helpers =
      subst (All (λ (c : ConstInfo). find_entry V.entries c.name ≡ None)) (sym same.0) can.fresh in
      λ k d l.
      let n = (get_or helpers k d).name in
      unmapped (settled js) (find_entry es n) (sym (settled_find js es n) ∙ ap (λ s. find_entry s.entries n) v ∙ told k d l)

  pub distinct_helpers : DistinctNames helpers
  distinct_helpers = subst DistinctNames (sym same.0) can.distinct

  opened : Opened js os header.name p
  opened =
      let n = header.name in
      opened_by js os n p (find_entry js n) (find_entry os n) refl refl
      (sym (branch_found js os n) ∙ ap (λ s. find_branch s.branches n) v ∙ ap (λ (c : ConstInfo). find_branch V.branches c.name) same.1 ∙ can.open_there)

  pub header_unjoined : find_entry js header.name ≡ None
  header_unjoined = opened.unjoined

  abbrev settling : Entry
  settling = record { info = header; position = p }

  pub joined_backed : AreBacked (js ++ settling ∷ []) os
  joined_backed = backed_one js os settling opened.header jo opened.stored opened.placed

  pub joined_view : shown (es ++ entries_at p helpers) (js ++ settling ∷ []) os rs fs q b ≡ joined_branch V p cs
  joined_view =
      let old : View = shown es js os rs fs q b in
      let grown : List Entry = map (settled js) es ++ entries_at p helpers in
      ap (λ l. record old { entries = l; branches = map branch_of (filter (is_open (js ++ settling ∷ [])) os) })
      (settled_joined js header p opened.unjoined (es ++ entries_at p helpers))
      ∙ ap (λ l. record old { entries = map (with_constant header) l; branches = map branch_of (filter (is_open (js ++ settling ∷ [])) os) })
      (settled_more js es (entries_at p helpers) (each_unjoined js es p helpers (backed_through js os es jo oe) fresh_helpers))
      ∙ ap (λ l. record old { entries = map (with_constant header) grown; branches = l }) (open_joined js header p opened.unjoined os)
      ∙ ap (λ (s : View). closed_branch (record s { entries = s.entries ++ entries_at p helpers }) header) v
      ∙ sym (joined_is V p helpers header) ∙ ap (joined_branch V p) (sym are)
