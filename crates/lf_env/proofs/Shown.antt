-- What is found in the view that the code's entries make.
use Rattle.std.specs.Prelude.{◌≡◌, ℕ, zero, suc, Bool, true, false, not, cond, if◌then◌else◌, List, [], ◌∷◌, ◌++◌, map, filter, Option, Some, None}
use Rattle.std.proofs.Common.{refl, sym, ◌∙◌, ap, subst}
use Rattle.std.specs.List.{IsDistinct, AllByRecursion}
use Rattle.std.proofs.lemmas.Map.Keys.{IsDistinct-head, IsDistinct-tail, IsDistinct-cons}
use Rattle.std.specs.Option.{option_map}
use Rattle.lf_core.specs.Term.{Path}
use Rattle.lf_core.specs.Same.{same_path}
use Rattle.lf_name.proofs.Names.{path_equivalence, path_is}
use Rattle.lf_checker.specs.View.{Entry, OpenBranch, Failed, find_entry, find_branch, has_failed, placed_from}
use Rattle.lf_env.specs.Names.{same_entry}
use Rattle.lf_env.specs.Layer.{settled, settled_by, is_none, is_open, branch_of, failed_of, AreBacked}
use Rattle.lf_env.proofs.Entries.{IsDistinct-pushed}

-- ---- One list of entries

name_step : (b : Bool) (d e : Entry) (n : Path) (rest : Option Entry) → same_path d.info.name n ≡ b → (rest ≡ Some e → e.info.name ≡ n)
    → cond b (Some d) rest ≡ Some e → e.info.name ≡ n
name_step true d e n rest q r h = let same : d ≡ e = cc in ap (λ (x : Entry). x.info.name) (sym same) ∙ path_is d.info.name n q
name_step false d e n rest q r h = r h

pub found_named : (es : List Entry) (n : Path) (e : Entry) → find_entry es n ≡ Some e → e.info.name ≡ n
found_named [] n e h = cc
found_named (d ∷ es) n e h = name_step (same_path d.info.name n) d e n (find_entry es n) refl (found_named es n e) h

unplaced_step : (b : Bool) (d : Entry) (v : ℕ × ℕ) (rest : Option Entry) (more : Option (ℕ × ℕ)) → (rest ≡ None → more ≡ None) → cond b (Some d) rest ≡ None
    → cond b (Some v) more ≡ None
unplaced_step true d v rest more r h = cc
unplaced_step false d v rest more r h = r h

pub unplaced : (k : ℕ) (es : List Entry) (n : Path) → find_entry es n ≡ None → placed_from k es n ≡ None
unplaced k [] n h = refl
unplaced k (d ∷ es) n h = unplaced_step (same_path d.info.name n) d (d.position, k) (find_entry es n) (placed_from (suc k) es n) (unplaced (suc k) es n) h

unfound_step : (b : Bool) (d : Entry) (v : ℕ × ℕ) (rest : Option Entry) (more : Option (ℕ × ℕ)) → (more ≡ None → rest ≡ None) → cond b (Some v) more ≡ None
    → cond b (Some d) rest ≡ None
unfound_step true d v rest more r h = cc
unfound_step false d v rest more r h = r h

pub unfound : (k : ℕ) (es : List Entry) (n : Path) → placed_from k es n ≡ None → find_entry es n ≡ None
unfound k [] n h = refl
unfound k (d ∷ es) n h = unfound_step (same_path d.info.name n) d (d.position, k) (find_entry es n) (placed_from (suc k) es n) (unfound (suc k) es n) h

pub pushed_distinct : (es : List Entry) (e : Entry) → IsDistinct same_entry es → find_entry es e.info.name ≡ None → IsDistinct same_entry (es ++ e ∷ [])
pushed_distinct es e d h = IsDistinct-pushed es e d (sym (unplaced 0 es e.info.name h))

-- ---- Entries with what joined branches made of them

pub settled_name : (joined : List Entry) (e : Entry) → (settled joined e).info.name ≡ e.info.name
settled_name joined e = at (find_entry joined e.info.name) refl
  where
    at : (o : Option Entry) → find_entry joined e.info.name ≡ o → (settled_by e o).info.name ≡ e.info.name
    at (Some j) h = found_named joined e.info.name j h
    at None h = refl

-- Names that differ still do.
settled_same : (joined : List Entry) (d e : Entry) → same_entry (settled joined d) (settled joined e) ≡ same_entry d e
settled_same joined d e = ap (same_path (settled joined d).info.name) (settled_name joined e) ∙ ap (λ n. same_path n e.info.name) (settled_name joined d)

settled_apart : (joined : List Entry) (d : Entry) (es : List Entry) → AllByRecursion (λ e. same_entry d e ≡ false) es
    → AllByRecursion (λ e. same_entry (settled joined d) e ≡ false) (map (settled joined) es)
settled_apart joined d [] a = tt
settled_apart joined d (e ∷ es) a = (settled_same joined d e ∙ a.0, settled_apart joined d es a.1)

pub settled_distinct : (joined es : List Entry) → IsDistinct same_entry es → IsDistinct same_entry (map (settled joined) es)
settled_distinct joined [] d = d
settled_distinct joined (e ∷ es) d =
    IsDistinct-cons same_entry (settled joined e) (map (settled joined) es) (settled_apart joined e es (IsDistinct-head same_entry e es d))
    (settled_distinct joined es (IsDistinct-tail same_entry e es d))

pub settled_position : (joined : List Entry) (e : Entry) → (settled joined e).position ≡ e.position
settled_position joined e = at (find_entry joined e.info.name)
  where
    at : (o : Option Entry) → (settled_by e o).position ≡ e.position
    at (Some j) = refl
    at None = refl

find_step : (b : Bool) (f : Entry → Entry) (e : Entry) (rest more : Option Entry) → rest ≡ option_map f more
    → cond b (Some (f e)) rest ≡ option_map f (cond b (Some e) more)
find_step true f e rest more h = refl
find_step false f e rest more h = h

pub settled_find : (joined es : List Entry) (n : Path) → find_entry (map (settled joined) es) n ≡ option_map (settled joined) (find_entry es n)
settled_find joined [] n = refl
settled_find joined (e ∷ es) n =
    ap (λ m. cond (same_path m n) (Some (settled joined e)) (find_entry (map (settled joined) es) n)) (settled_name joined e)
    ∙ find_step (same_path e.info.name n) (settled joined) e (find_entry (map (settled joined) es) n) (find_entry es n) (settled_find joined es n)

pub placed_settled : (joined : List Entry) (k : ℕ) (es : List Entry) (n : Path) → placed_from k (map (settled joined) es) n ≡ placed_from k es n
placed_settled joined k [] n = refl
placed_settled joined k (e ∷ es) n =
    ap (λ m. cond (same_path m n) (Some ((settled joined e).position, k)) (placed_from (suc k) (map (settled joined) es) n)) (settled_name joined e)
    ∙ ap (λ p. cond (same_path e.info.name n) (Some (p, k)) (placed_from (suc k) (map (settled joined) es) n)) (settled_position joined e)
    ∙ ap (λ o. cond (same_path e.info.name n) (Some (e.position, k)) o) (placed_settled joined (suc k) es n)

abbrev pub first_of : Option Entry → Option Entry → Option Entry
first_of (Some j) o = Some j
first_of None o = o

-- The entry of a name: of those that were joined, or else of those that were pushed.
pub entry_found : (joined es : List Entry) → AreBacked joined es → (n : Path)
    → find_entry (map (settled joined) es) n ≡ first_of (find_entry joined n) (find_entry es n)
entry_found joined es backed n = settled_find joined es n ∙ at (find_entry joined n) refl
  where
    at_settled : (o : Option Entry) (d : Entry) → find_entry joined n ≡ o → find_entry es n ≡ Some d → settled joined d ≡ settled_by d o
    at_settled o d h q = ap (λ m. settled_by d (find_entry joined m)) (found_named es n d q) ∙ ap (settled_by d) h

    none : (o : Option Entry) → find_entry joined n ≡ None → find_entry es n ≡ o → option_map (settled joined) o ≡ o
    none (Some d) h q = ap Some (at_settled None d h q)
    none None h q = refl

    at : (o : Option Entry) → find_entry joined n ≡ o → option_map (settled joined) (find_entry es n) ≡ first_of o (find_entry es n)
    at (Some j) h =
        let b = backed n j h in
        ap (option_map (settled joined)) b.1 ∙ ap Some (at_settled (Some j) b.0 h b.1) ∙ ap (λ p. Some (record { info = j.info; position = p })) b.2
    at None h = none (find_entry es n) h refl

-- ---- Branches

abbrev pub open_at : Option Entry → Option Entry → Option ℕ
open_at (Some j) o = None
open_at None (Some e) = Some e.position
open_at None None = None

branch_step : (joined : List Entry) (n : Path) (b c : Bool) (e : Entry) (es : List Entry) (rest : Option Entry) → same_path e.info.name n ≡ b
    → is_none (find_entry joined e.info.name) ≡ c
    → find_branch (map branch_of es) n ≡ open_at (find_entry joined n) rest
    → find_branch (map branch_of (cond c (e ∷ es) es)) n ≡ open_at (find_entry joined n) (cond b (Some e) rest)
branch_step joined n true true e es rest q o r =
    ap (λ t. cond t (Some e.position) (find_branch (map branch_of es) n)) q
    ∙ sym (at (find_entry joined n) (ap (λ m. is_none (find_entry joined m)) (sym (path_is e.info.name n q)) ∙ o))
  where
    at : (x : Option Entry) → is_none x ≡ true → open_at x (Some e) ≡ Some e.position
    at (Some j) h = cc
    at None h = refl
branch_step joined n true false e es rest q o r = r ∙ at (find_entry joined n) (ap (λ m. is_none (find_entry joined m)) (sym (path_is e.info.name n q)) ∙ o)
  where
    at : (x : Option Entry) → is_none x ≡ false → open_at x rest ≡ open_at x (Some e)
    at (Some j) h = refl
    at None h = cc
branch_step joined n false true e es rest q o r = ap (λ t. cond t (Some e.position) (find_branch (map branch_of es) n)) q ∙ r
branch_step joined n false false e es rest q o r = r

pub branch_found : (joined es : List Entry) (n : Path)
    → find_branch (map branch_of (filter (is_open joined) es)) n ≡ open_at (find_entry joined n) (find_entry es n)
branch_found joined [] n = at (find_entry joined n)
  where
    at : (x : Option Entry) → None ≡ open_at x None
    at (Some j) = refl
    at None = refl
branch_found joined (e ∷ es) n =
    branch_step joined n (same_path e.info.name n) (is_open joined e) e (filter (is_open joined) es) (find_entry es n) refl refl (branch_found joined es n)

-- ---- Answers

failed_step : (b : Bool) (e : Entry) (rest : Bool) (more : Option Entry) → rest ≡ not (is_none more) → cond b true rest ≡ not (is_none (cond b (Some e) more))
failed_step true e rest more h = refl
failed_step false e rest more h = h

pub failed_found : (es : List Entry) (n : Path) → has_failed (map failed_of es) n ≡ not (is_none (find_entry es n))
failed_found [] n = refl
failed_found (e ∷ es) n = failed_step (same_path e.info.name n) e (has_failed (map failed_of es) n) (find_entry es n) (failed_found es n)
