-- What the code keeps of a view: the entries of shared tables that count, those of several tables in turn, and the view that they make.
use Rattle.std.specs.Prelude.{ℕ, ◌≤◌, ◌<◌, ◌^◌, ◌≡◌, Bool, true, false, Option, Some, None, List, [], ◌∷◌, ◌++◌, length, map, filter}
use Rattle.std.specs.List.{IsDistinct}
use Rattle.lf_core.specs.Term.{Path}
use Rattle.lf_core.specs.Same.{same_path}
use Rattle.lf_core.specs.declared.constant.ConstInfo.{ConstInfo}
use Rattle.lf_checker.specs.View.{View, Entry, OpenBranch, Failed, stands_before, find_entry, entries_before, branches_before}
use Rattle.lf_env.specs.Names.{same_entry}

-- Where there is a limit, only what stands before it counts.
abbrev pub is_within : Option ℕ → Entry → Bool
is_within None e = true
is_within (Some limit) e = stands_before limit e.position

abbrev pub entries_of : List (List Entry) → List Entry
entries_of [] = []
entries_of (es ∷ ess) = es ++ entries_of ess

abbrev pub has_name : Path → Entry → Bool
has_name n e = same_path e.info.name n

-- What a view keeps of its entries: no two have one name, and a usize counts them.
pub record AreSound (es : List Entry) (most : ℕ) : Type 0 where
  pub distinct : IsDistinct same_entry es
  pub bounded : length es ≤ most
  pub fits : most < 2 ^ 64

-- These constants at one position.
abbrev pub entries_at : ℕ → List ConstInfo → List Entry
entries_at p cs = map (λ c. record { info = c; position = p }) cs

-- The entry with what its joined branch made of it, which keeps its position.
abbrev pub settled_by : Entry → Option Entry → Entry
settled_by e (Some j) = record e { info = j.info }
settled_by e None = e

abbrev pub settled : List Entry → Entry → Entry
settled joined e = settled_by e (find_entry joined e.info.name)

abbrev pub is_none : Option Entry → Bool
is_none (Some e) = false
is_none None = true

-- Its branch isn't joined.
abbrev pub is_open : List Entry → Entry → Bool
is_open joined e = is_none (find_entry joined e.info.name)

abbrev pub branch_of : Entry → OpenBranch
branch_of e = record { prefix = e.info.name; position = e.position }

abbrev pub failed_of : Entry → Failed
failed_of e = record { name = e.info.name; position = e.position }

-- The view of these entries as they were pushed, of which some have a joined branch and some a branch that was opened; of what was realized,
-- and of what failed, each name by an entry that is never shown.
abbrev pub shown : List Entry → List Entry → List Entry → List Entry → List Entry → ℕ → Bool → View
shown entries joined opened realized failed position for_base = record {
  entries = map (settled joined) entries;
  branches = map branch_of (filter (is_open joined) opened);
  realized = realized;
  failed = map failed_of failed;
  position = position;
  for_base = for_base;
}

-- Each of the first is an entry of the second by its name, at its position.
abbrev pub AreBacked : List Entry → List Entry → Type 0
AreBacked es of' = (n : Path) (e : Entry) → find_entry es n ≡ Some e → (d : Entry) × (find_entry of' n ≡ Some d) × (d.position ≡ e.position)

-- What stands before the limit, with these answers.
abbrev pub narrowed : ℕ → View → List Entry → List Entry → ℕ → Bool → View
narrowed limit V realized failed position for_base = record {
  entries = entries_before limit V.entries;
  branches = branches_before limit V.branches;
  realized = realized;
  failed = map failed_of failed;
  position = position;
  for_base = for_base;
}
