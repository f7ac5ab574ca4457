-- What calls make of the view that the code's entries make.
use Rattle.std.specs.Prelude.{
  ◌≡◌,
  ◌≢◌,
  ℕ,
  zero,
  suc,
  Bool,
  true,
  false,
  not,
  ◌&&◌,
  cond,
  if◌then◌else◌,
  List,
  [],
  ◌∷◌,
  ◌++◌,
  map,
  filter,
  Option,
  Some,
  None,
  All,
  length,
}
use Rattle.std.proofs.Common.{◌<◌, get_or, arith, refl, sym, ◌∙◌, ap, subst, append_assoc, append-nil, length-append}
use Rattle.std.proofs.Math.Seq.{get_or-append_seam}
use Rattle.std.proofs.Math.ListN.{get_or-append}
use Rattle.lf_env.specs.Answer.{DistinctNames}
use Rattle.std.specs.List.{IsDistinct, AllByRecursion, list_any}
use Rattle.std.specs.Option.{option_map}
use Rattle.std.proofs.lemmas.Map.Keys.{IsDistinct-head, IsDistinct-tail}
use Rattle.lf_core.specs.Term.{Path}
use Rattle.lf_core.specs.Same.{same_path}
use Rattle.lf_core.specs.declared.constant.ConstInfo.{ConstInfo}
use Rattle.lf_name.proofs.Names.{path_equivalence, path_is}
use Rattle.lf_checker.specs.View.{
  View,
  Entry,
  OpenBranch,
  Failed,
  find_entry,
  find_branch,
  stands_before,
  pushed,
  with_constant,
  closed_branch,
  joined_branch,
  entries_before,
  branches_before,
  failed_before,
}
use Rattle.lf_env.specs.Names.{same_entry}
use Rattle.lf_env.specs.Layer.{settled, settled_by, is_none, is_open, branch_of, failed_of, entries_at, AreBacked, has_name, shown, narrowed}
use Rattle.lf_env.proofs.Entries.{found_first, found_later, absent_found, others_apart, filter-append}
use Rattle.lf_env.proofs.Shown.{found_named, settled_name, settled_position, settled_find}

-- ---- Backed entries

backed_own : (es of' : List Entry) → AreBacked es of' → (n : Path) → find_entry of' n ≡ None → (o : Option Entry) → find_entry es n ≡ o → o ≡ None
backed_own es of' backed n h (Some e) q = let b = backed n e q in absurd (cc)
backed_own es of' backed n h None q = refl

-- A name that isn't there isn't backed.
pub not_backed : (es of' : List Entry) → AreBacked es of' → (n : Path) → find_entry of' n ≡ None → find_entry es n ≡ None
not_backed es of' backed n h = backed_own es of' backed n h (find_entry es n) refl

pub backed_through : (xs ys zs : List Entry) → AreBacked xs ys → AreBacked ys zs → AreBacked xs zs
backed_through xs ys zs first second n e h =
    let b = first n e h in
    let d = second n b.0 b.1 in
    (d.0, d.1, d.2 ∙ b.2)

pub backed_grown : (es of' more : List Entry) → AreBacked es of' → AreBacked es (of' ++ more)
backed_grown es of' more backed n e h = let b = backed n e h in (b.0, sym (found_first of' more n b.0 (sym b.1)), b.2)

one_found : (o e : Entry) (n : Path) (b : Bool) → same_path o.info.name n ≡ b → cond b (Some o) None ≡ Some e → (o ≡ e) × (o.info.name ≡ n)
one_found o e n true q h = let same : o ≡ e = cc in (same, path_is o.info.name n q)
one_found o e n false q h = cc

pub backed_one : (es of' : List Entry) (o d : Entry) → AreBacked es of' → find_entry of' o.info.name ≡ Some d → d.position ≡ o.position
    → AreBacked (es ++ o ∷ []) of'
backed_one es of' o d backed h p n e q = at (find_entry es n) refl
  where
    at : (x : Option Entry) → find_entry es n ≡ x → (d : Entry) × (find_entry of' n ≡ Some d) × (d.position ≡ e.position)
    at (Some x) r =
        let same : Some x ≡ Some e = found_first es (o ∷ []) n x (sym r) ∙ q in
        backed n e (r ∙ same)
    at None r =
        let own = one_found o e n (same_path o.info.name n) refl (sym (found_later es (o ∷ []) n (sym r)) ∙ q) in
        (d, ap (find_entry of') (sym own.1) ∙ h, p ∙ ap (λ (x : Entry). x.position) own.0)

-- ---- What stands before a limit

abbrev counted : (Entry → Bool) → Option Entry → Option Entry
counted p (Some e) = cond (p e) (Some e) None
counted p None = None

counted_step : (p : Entry → Bool) (n : Path) (b c : Bool) (e : Entry) (es : List Entry) → same_path e.info.name n ≡ b → p e ≡ c
    → (b ≡ true → find_entry (filter p es) n ≡ None)
    → find_entry (filter p es) n ≡ counted p (find_entry es n)
    → find_entry (cond c (e ∷ filter p es) (filter p es)) n ≡ counted p (cond b (Some e) (find_entry es n))
counted_step p n true true e es q k none rest =
    ap (λ b. cond b (Some e) (find_entry (filter p es) n)) q ∙ ap (λ b. cond b (Some e) None) (sym k)
counted_step p n true false e es q k none rest = none refl ∙ ap (λ b. cond b (Some e) None) (sym k)
counted_step p n false true e es q k none rest = ap (λ b. cond b (Some e) (find_entry (filter p es) n)) q ∙ rest
counted_step p n false false e es q k none rest = rest

find_counted : (p : Entry → Bool) (es : List Entry) (n : Path) → IsDistinct same_entry es → find_entry (filter p es) n ≡ counted p (find_entry es n)
find_counted p [] n d = refl
find_counted p (e ∷ es) n d =
    counted_step p n (same_path e.info.name n) (p e) e es refl refl
    (λ q. sym (absent_found p es n (others_apart e es n q (IsDistinct-head same_entry e es d))))
    (find_counted p es n (IsDistinct-tail same_entry e es d))

counted_is : (p : Entry → Bool) (o : Option Entry) (e : Entry) → counted p o ≡ Some e → (o ≡ Some e) × (p e ≡ true)
counted_is p (Some d) e h = at (p d) refl h
  where
    at : (b : Bool) → p d ≡ b → cond b (Some d) None ≡ Some e → (Some d ≡ Some e) × (p e ≡ true)
    at true q r = let same : d ≡ e = cc in (r, ap p (sym same) ∙ q)
    at false q r = cc
counted_is p None e h = cc

module _ (limit : ℕ) where
  abbrev earlier : Entry → Bool
  earlier e = stands_before limit e.position

  pub backed_before : (es of' : List Entry) → IsDistinct same_entry es → IsDistinct same_entry of' → AreBacked es of'
      → AreBacked (entries_before limit es) (entries_before limit of')
  backed_before es of' d g backed n e h =
      let own = counted_is earlier (find_entry es n) e (sym (find_counted earlier es n d) ∙ h) in
      let b = backed n e own.0 in
      let early : earlier b.0 ≡ true = ap (stands_before limit) b.2 ∙ own.1 in
      (b.0, find_counted earlier of' n g ∙ ap (counted earlier) b.1 ∙ ap (λ c. cond c (Some b.0) None) early, b.2)

  -- An entry of these names stands at the position of the other.
  abbrev Agree : List Entry → Entry → Type 0
  Agree joined e = (j : Entry) → find_entry joined e.info.name ≡ Some j → j.position ≡ e.position

  same_found : (joined : List Entry) (e : Entry) → IsDistinct same_entry joined → Agree joined e → earlier e ≡ true
      → find_entry (entries_before limit joined) e.info.name ≡ find_entry joined e.info.name
  same_found joined e d agree early = find_counted earlier joined e.info.name d ∙ at (find_entry joined e.info.name) refl
    where
      at : (o : Option Entry) → find_entry joined e.info.name ≡ o → counted earlier o ≡ o
      at (Some j) h = ap (λ c. cond c (Some j) None) (ap (stands_before limit) (agree j h) ∙ early)
      at None h = refl

  entries_step : (joined : List Entry) (b : Bool) (e : Entry) (es rest : List Entry) → earlier e ≡ b
      → (b ≡ true → find_entry (entries_before limit joined) e.info.name ≡ find_entry joined e.info.name)
      → rest ≡ map (settled (entries_before limit joined)) es
      → cond b (settled joined e ∷ rest) rest ≡ map (settled (entries_before limit joined)) (cond b (e ∷ es) es)
  entries_step joined true e es rest q same h = ap (λ o. settled_by e o ∷ rest) (sym (same refl)) ∙ ap (λ l. settled (entries_before limit joined) e ∷ l) h
  entries_step joined false e es rest q same h = h

  entries_shown : (joined : List Entry) (es : List Entry) → IsDistinct same_entry joined → AllByRecursion (Agree joined) es
      → entries_before limit (map (settled joined) es) ≡ map (settled (entries_before limit joined)) (entries_before limit es)
  entries_shown joined [] d all = refl
  entries_shown joined (e ∷ es) d all =
      ap (λ p. cond (stands_before limit p) (settled joined e ∷ entries_before limit (map (settled joined) es))
      (entries_before limit (map (settled joined) es))) (settled_position joined e)
      ∙ entries_step joined (earlier e) e (entries_before limit es) (entries_before limit (map (settled joined) es)) refl
      (λ early. same_found joined e d all.0 early) (entries_shown joined es d all.1)

  branch_step : (joined : List Entry) (o b c : Bool) (e : Entry) (es rest : List Entry) → is_open joined e ≡ o → earlier e ≡ b
      → (b ≡ true → is_open (entries_before limit joined) e ≡ o)
      → branches_before limit (map branch_of rest) ≡ map branch_of (filter (is_open (entries_before limit joined)) es)
      → branches_before limit (map branch_of (cond o (e ∷ rest) rest)) ≡ map branch_of (filter (is_open (entries_before limit joined)) (cond b (e ∷ es) es))
  branch_step joined true true c e es rest q early same h =
      ap (λ t. cond t (branch_of e ∷ branches_before limit (map branch_of rest)) (branches_before limit (map branch_of rest))) early
      ∙ ap (λ l. branch_of e ∷ l) h ∙ ap (λ t. map branch_of
      (cond t (e ∷ filter (is_open (entries_before limit joined)) es) (filter (is_open (entries_before limit joined)) es))) (sym (same refl))
  branch_step joined true false c e es rest q early same h =
      ap (λ t. cond t (branch_of e ∷ branches_before limit (map branch_of rest)) (branches_before limit (map branch_of rest))) early ∙ h
  branch_step joined false true c e es rest q early same h =
      h ∙ ap (λ t. map branch_of (cond t (e ∷ filter (is_open (entries_before limit joined)) es) (filter (is_open (entries_before limit joined)) es)))
      (sym (same refl))
  branch_step joined false false c e es rest q early same h = h

  branches_shown : (joined : List Entry) (es : List Entry) → IsDistinct same_entry joined → AllByRecursion (Agree joined) es
      → branches_before limit (map branch_of (filter (is_open joined) es))
      ≡ map branch_of (filter (is_open (entries_before limit joined)) (entries_before limit es))
  branches_shown joined [] d all = refl
  branches_shown joined (e ∷ es) d all =
      branch_step joined (is_open joined e) (earlier e) true e (entries_before limit es) (filter (is_open joined) es) refl refl
      (λ early. ap is_none (same_found joined e d all.0 early)) (branches_shown joined es d all.1)

  failed_step : (b : Bool) (e : Entry) (es : List Entry) (rest : List Failed) → rest ≡ map failed_of es
      → cond b (failed_of e ∷ rest) rest ≡ map failed_of (cond b (e ∷ es) es)
  failed_step true e es rest h = ap (λ l. failed_of e ∷ l) h
  failed_step false e es rest h = h

  pub failed_shown : (es : List Entry) → failed_before limit (map failed_of es) ≡ map failed_of (entries_before limit es)
  failed_shown [] = refl
  failed_shown (e ∷ es) = failed_step (earlier e) e (entries_before limit es) (failed_before limit (map failed_of es)) (failed_shown es)

-- ---- Entries of distinct names

own_later : (e : Entry) (es : List Entry) (xs : List Entry) → AllByRecursion (λ d. same_entry e d ≡ false) xs
    → AllByRecursion (λ d. find_entry es d.info.name ≡ Some d) xs
    → AllByRecursion (λ d. find_entry (e ∷ es) d.info.name ≡ Some d) xs
own_later e es [] a h = tt
own_later e es (x ∷ xs) a h = (ap (λ b. cond b (Some e) (find_entry es x.info.name)) a.0 ∙ h.0, own_later e es xs a.1 h.1)

own_found : (es : List Entry) → IsDistinct same_entry es → AllByRecursion (λ d. find_entry es d.info.name ≡ Some d) es
own_found [] d = tt
own_found (e ∷ es) d = (
  ap (λ b. cond b (Some e) (find_entry es e.info.name)) (path_equivalence.refl e.info.name),
  own_later e es es (IsDistinct-head same_entry e es d) (own_found es (IsDistinct-tail same_entry e es d)),
)

agree_each : (joined es : List Entry) (xs : List Entry) → AreBacked joined es → AllByRecursion (λ d. find_entry es d.info.name ≡ Some d) xs
    → AllByRecursion (λ e. (j : Entry) → find_entry joined e.info.name ≡ Some j → j.position ≡ e.position) xs
agree_each joined es [] backed h = tt
agree_each joined es (x ∷ xs) backed h =
    ((λ j q. let b = backed x.info.name j q in let same : b.0 ≡ x = cc in sym b.2 ∙ ap (λ (e : Entry). e.position) same), agree_each joined es xs backed h.1)

pub entries_shown_before : (limit : ℕ) (joined es : List Entry) → IsDistinct same_entry joined → IsDistinct same_entry es → AreBacked joined es
    → entries_before limit (map (settled joined) es) ≡ map (settled (entries_before limit joined)) (entries_before limit es)
entries_shown_before limit joined es d g backed = entries_shown limit joined es d (agree_each joined es es backed (own_found es g))

pub branches_shown_before : (limit : ℕ) (joined es : List Entry) → IsDistinct same_entry joined → IsDistinct same_entry es → AreBacked joined es
    → branches_before limit (map branch_of (filter (is_open joined) es))
    ≡ map branch_of (filter (is_open (entries_before limit joined)) (entries_before limit es))
branches_shown_before limit joined es d g backed = branches_shown limit joined es d (agree_each joined es es backed (own_found es g))

-- ---- One more entry, one more branch

map_step : (f : Entry → Entry) (xs ys : List Entry) → map f (xs ++ ys) ≡ map f xs ++ map f ys
map_step f [] ys = refl
map_step f (x ∷ xs) ys = ap (λ l. f x ∷ l) (map_step f xs ys)

pub settled_fresh : (joined : List Entry) (e : Entry) → find_entry joined e.info.name ≡ None → settled joined e ≡ e
settled_fresh joined e h = ap (settled_by e) h

-- Entries of names that aren't joined show as they are.
pub settled_more : (joined es more : List Entry) → AllByRecursion (λ e. find_entry joined e.info.name ≡ None) more
    → map (settled joined) (es ++ more) ≡ map (settled joined) es ++ more
settled_more joined es more h = map_step (settled joined) es more ∙ ap (λ l. map (settled joined) es ++ l) (same more h)
  where
    same : (xs : List Entry) → AllByRecursion (λ e. find_entry joined e.info.name ≡ None) xs → map (settled joined) xs ≡ xs
    same [] a = refl
    same (x ∷ xs) a = ap (λ y. y ∷ map (settled joined) xs) (settled_fresh joined x a.0) ∙ ap (λ l. x ∷ l) (same xs a.1)

pub branches_more : (joined es : List Entry) (e : Entry) → find_entry joined e.info.name ≡ None
    → map branch_of (filter (is_open joined) (es ++ e ∷ [])) ≡ map branch_of (filter (is_open joined) es) ++ branch_of e ∷ []
branches_more joined [] e h = ap (λ o. map branch_of (cond (is_none o) (e ∷ []) [])) h
branches_more joined (x ∷ es) e h = at (is_open joined x) (branches_more joined es e h)
  where
    at : (b : Bool) → map branch_of (filter (is_open joined) (es ++ e ∷ [])) ≡ map branch_of (filter (is_open joined) es) ++ branch_of e ∷ []
        → map branch_of (cond b (x ∷ filter (is_open joined) (es ++ e ∷ [])) (filter (is_open joined) (es ++ e ∷ [])))
        ≡ map branch_of (cond b (x ∷ filter (is_open joined) es) (filter (is_open joined) es)) ++ branch_of e ∷ []
    at true q = ap (λ l. branch_of x ∷ l) q
    at false q = q

pub failed_more : (es : List Entry) (e : Entry) → map failed_of (es ++ e ∷ []) ≡ map failed_of es ++ failed_of e ∷ []
failed_more [] e = refl
failed_more (x ∷ es) e = ap (λ l. failed_of x ∷ l) (failed_more es e)

pub settled_none : (es : List Entry) → map (settled []) es ≡ es
settled_none [] = refl
settled_none (e ∷ es) = ap (λ l. e ∷ l) (settled_none es)

-- ---- A joined branch

module _ (joined : List Entry) (c : ConstInfo) (p : ℕ) (fresh : find_entry joined c.name ≡ None) where
  header : Entry
  header = record { info = c; position = p }

  joined_find : (n : Path) (o : Option Entry) → find_entry joined n ≡ o
      → (same_path n c.name ≡ true → o ≡ None) × (find_entry (joined ++ record { info = c; position = p } ∷ []) n
      ≡ cond (same_path n c.name) (Some (record { info = c; position = p })) o)
  joined_find n (Some j) h = at (same_path n c.name) refl
    where
      at : (b : Bool) → same_path n c.name ≡ b → (b ≡ true → Some j ≡ None)
          × (find_entry (joined ++ record { info = c; position = p } ∷ []) n ≡ cond b (Some (record { info = c; position = p })) (Some j))
      at true q = let same : find_entry joined c.name ≡ Some j = ap (find_entry joined) (sym (path_is n c.name q)) ∙ h in absurd (cc)
      at false q = ((λ e. cc), sym (found_first joined (record { info = c; position = p } ∷ []) n j (sym h)))
  joined_find n None h = (
    (λ e. refl),
    found_later joined (record { info = c; position = p } ∷ []) n (sym h)
        ∙ ap (λ b. cond b (Some (record { info = c; position = p })) None) (path_equivalence.symm c.name n),
  )

  settled_one : (e : Entry) → settled (joined ++ record { info = c; position = p } ∷ []) e ≡ with_constant c (settled joined e)
  settled_one e = at (find_entry joined e.info.name) refl (same_path e.info.name c.name) refl
    where
      at : (o : Option Entry) → find_entry joined e.info.name ≡ o → (b : Bool) → same_path e.info.name c.name ≡ b
          → settled (joined ++ record { info = c; position = p } ∷ []) e ≡ with_constant c (settled joined e)
      at o h true q =
          let f = joined_find e.info.name o h in
          let none : o ≡ None = f.0 q in
          let own : settled joined e ≡ e = settled_fresh joined e (h ∙ none) in
          ap (settled_by e) (f.1 ∙ ap (λ b. cond b (Some (record { info = c; position = p })) o) q)
          ∙ sym (ap (with_constant c) own ∙ ap (λ b. cond b (record e { info = c }) e) q)
      at o h false q =
          let f = joined_find e.info.name o h in
          let shown : settled joined e ≡ settled_by e o = ap (settled_by e) h in
          let named : same_path (settled joined e).info.name c.name ≡ false = ap (λ m. same_path m c.name) (settled_name joined e) ∙ q in
          ap (settled_by e) (f.1 ∙ ap (λ b. cond b (Some (record { info = c; position = p })) o) q) ∙ sym shown
          ∙ sym (ap (λ b. cond b (record (settled joined e) { info = c }) (settled joined e)) named)

  pub settled_joined : (es : List Entry) → map (settled (joined ++ record { info = c; position = p } ∷ [])) es ≡ map (with_constant c) (map (settled joined) es)
  settled_joined [] = refl
  settled_joined (e ∷ es) = ap (λ x. x ∷ map (settled (joined ++ record { info = c; position = p } ∷ [])) es) (settled_one e)
      ∙ ap (λ l. with_constant c (settled joined e) ∷ l) (settled_joined es)

  open_one : (e : Entry) → is_open (joined ++ record { info = c; position = p } ∷ []) e ≡ (is_open joined e && not (same_path e.info.name c.name))
  open_one e = at (find_entry joined e.info.name) refl
    where
      by : (b : Bool) → (o : Option Entry) → (b ≡ true → o ≡ None) → is_none (cond b (Some (record { info = c; position = p })) o) ≡ (is_none o && not b)
      by true (Some j) h = let n = h refl in cc
      by true None h = refl
      by false (Some j) h = refl
      by false None h = refl

      at : (o : Option Entry) → find_entry joined e.info.name ≡ o
          → is_open (joined ++ record { info = c; position = p } ∷ []) e ≡ (is_open joined e && not (same_path e.info.name c.name))
      at o h =
          let f = joined_find e.info.name o h in
          ap is_none f.1 ∙ by (same_path e.info.name c.name) o f.0 ∙ ap (λ x. is_none x && not (same_path e.info.name c.name)) (sym h)

  pub open_joined : (es : List Entry) → map branch_of (filter (is_open (joined ++ record { info = c; position = p } ∷ [])) es)
      ≡ filter (λ b. not (same_path b.prefix c.name)) (map branch_of (filter (is_open joined) es))
  open_joined [] = refl
  open_joined (e ∷ es) =
      ap (λ b. map branch_of (cond b (e ∷ filter (is_open (joined ++ record { info = c; position = p } ∷ [])) es)
      (filter (is_open (joined ++ record { info = c; position = p } ∷ [])) es))) (open_one e)
      ∙ at (open_joined es) (is_open joined e) (not (same_path e.info.name c.name)) refl
    where
      at : map branch_of (filter (is_open (joined ++ record { info = c; position = p } ∷ [])) es)
          ≡ filter (λ b. not (same_path b.prefix c.name)) (map branch_of (filter (is_open joined) es))
          → (a b : Bool) → not (same_path e.info.name c.name) ≡ b
          → map branch_of (cond (a && b) (e ∷ filter (is_open (joined ++ record { info = c; position = p } ∷ [])) es)
          (filter (is_open (joined ++ record { info = c; position = p } ∷ [])) es))
          ≡ filter (λ b. not (same_path b.prefix c.name)) (map branch_of (cond a (e ∷ filter (is_open joined) es) (filter (is_open joined) es)))
      at h true true q =
          ap (λ l. branch_of e ∷ l) h
          ∙ sym (ap (λ t. cond t (branch_of e ∷ filter (λ b. not (same_path b.prefix c.name)) (map branch_of (filter (is_open joined) es)))
          (filter (λ b. not (same_path b.prefix c.name)) (map branch_of (filter (is_open joined) es)))) q)
      at h true false q =
          h
          ∙ sym (ap (λ t. cond t (branch_of e ∷ filter (λ b. not (same_path b.prefix c.name)) (map branch_of (filter (is_open joined) es)))
          (filter (λ b. not (same_path b.prefix c.name)) (map branch_of (filter (is_open joined) es)))) q)
      at h false b q = h

-- The helpers, then the header.
pub joined_is : (V : View) (p : ℕ) (helpers : List ConstInfo) (c : ConstInfo)
    → joined_branch V p (helpers ++ c ∷ []) ≡ closed_branch (record V { entries = V.entries ++ entries_at p helpers }) c
joined_is V p [] c = ap (λ es. closed_branch (record V { entries = es }) c) (sym (append-nil V.entries))
joined_is V p (d ∷ []) c = refl
joined_is V p (d ∷ e ∷ ds) c =
    joined_is (pushed V d p) p (e ∷ ds) c
    ∙ ap (λ es. closed_branch (record V { entries = es }) c) (append_assoc V.entries (record { info = d; position = p } ∷ []) (entries_at p (e ∷ ds)))

-- ---- The views that calls make

pub narrowed_is : (limit : ℕ) (es js os own joins opens : List Entry) (V : View) (realized failed rs fs : List Entry) (p q : ℕ) (b d : Bool)
    → IsDistinct same_entry es → IsDistinct same_entry js
    → IsDistinct same_entry os → AreBacked js os → AreBacked os es → own ≡ entries_before limit es → joins ≡ entries_before limit js
    → opens ≡ entries_before limit os
    → shown es js os rs fs q d ≡ V → shown own joins opens realized failed p b ≡ narrowed limit V realized failed p b
narrowed_is limit es js os own joins opens V realized failed rs fs p q b d de dj do' jo oe m j o v =
    ap (λ x. shown x joins opens realized failed p b) m ∙ ap (λ x. shown (entries_before limit es) x opens realized failed p b) j
    ∙ ap (λ x. shown (entries_before limit es) (entries_before limit js) x realized failed p b) o
    ∙ ap (λ x. record {
      entries = x;
      branches = map branch_of (filter (is_open (entries_before limit js)) (entries_before limit os));
      realized = realized;
      failed = map failed_of failed;
      position = p;
      for_base = b;
    }) (sym (entries_shown_before limit js es dj de (backed_through js os es jo oe)))
    ∙ ap (λ x. record {
      entries = entries_before limit (map (settled js) es);
      branches = x;
      realized = realized;
      failed = map failed_of failed;
      position = p;
      for_base = b;
    }) (sym (branches_shown_before limit js os dj do' jo))
    ∙ ap (λ s. narrowed limit s realized failed p b) v

-- ---- Constants one after another

named_step : (p : ℕ) (x : ConstInfo) (n : Path) (b : Bool) (rest : Option Entry) → same_path x.name n ≡ b → x.name ≢ n → rest ≡ None
    → cond b (Some (record { info = x; position = p })) rest ≡ None
named_step p x n true rest q differs h = absurd (differs (path_is x.name n q))
named_step p x n false rest q differs h = h

none_named : (p : ℕ) (xs : List ConstInfo) (n : Path) → ((k : ℕ) (d : ConstInfo) → k < length xs → (get_or xs k d).name ≢ n)
    → find_entry (entries_at p xs) n ≡ None
none_named p [] n h = refl
none_named p (x ∷ xs) n h =
    named_step p x n (same_path x.name n) (find_entry (entries_at p xs) n) refl (h 0 x (omega arith)) (none_named p xs n (λ k d l. h (suc k) d (omega arith)))

find_none : (xs ys : List Entry) (n : Path) → find_entry xs n ≡ None → find_entry ys n ≡ None → find_entry (xs ++ ys) n ≡ None
find_none xs ys n h g = found_later xs ys n (sym h) ∙ g

-- The next constant has a name that neither the entries nor the constants before it have.
pub next_fresh : (es : List Entry) (p : ℕ) (cs xs : List ConstInfo) (x : ConstInfo) (ys : List ConstInfo) → xs ++ x ∷ ys ≡ cs
    → All (λ c. find_entry es c.name ≡ None) cs → DistinctNames cs
    → find_entry (es ++ entries_at p xs) x.name ≡ None
next_fresh es p cs xs x ys is fresh distinct =
    let within : length xs < length (xs ++ x ∷ ys) = omega (arith, length-append xs (x ∷ ys)) in
    let whole : All (λ c. find_entry es c.name ≡ None) (xs ++ x ∷ ys) = subst (All (λ (c : ConstInfo). find_entry es c.name ≡ None)) (sym is) fresh in
    let apart : DistinctNames (xs ++ x ∷ ys) = subst DistinctNames (sym is) distinct in
    find_none es (entries_at p xs) x.name
    (subst (λ (c : ConstInfo). find_entry es c.name ≡ None) (get_or-append_seam xs x ys x) (whole (length xs) x within))
    (none_named p xs x.name λ k d l e.
    apart k (length xs) d l within
    (ap (λ (c : ConstInfo). c.name) (get_or-append xs (x ∷ ys) d k l) ∙ e ∙ sym (ap (λ (c : ConstInfo). c.name) (get_or-append_seam xs x ys d))))

entries_at-append : (p : ℕ) (xs ys : List ConstInfo) → entries_at p (xs ++ ys) ≡ entries_at p xs ++ entries_at p ys
entries_at-append p [] ys = refl
entries_at-append p (x ∷ xs) ys = ap (λ l. record { info = x; position = p } ∷ l) (entries_at-append p xs ys)

pub one_pushed : (es : List Entry) (p : ℕ) (xs : List ConstInfo) (x : ConstInfo)
    → (es ++ entries_at p xs) ++ record { info = x; position = p } ∷ [] ≡ es ++ entries_at p (xs ++ x ∷ [])
one_pushed es p xs x =
    append_assoc es (entries_at p xs) (record { info = x; position = p } ∷ []) ∙ ap (λ l. es ++ l) (sym (entries_at-append p xs (x ∷ [])))

pub left_over : (xs cs all rest more : List ConstInfo) (x : ConstInfo) → xs ++ rest ≡ all → rest ≡ x ∷ more → (xs ++ x ∷ []) ++ more ≡ all
left_over xs cs all rest more x h r = append_assoc xs (x ∷ []) more ∙ ap (λ l. xs ++ l) (sym r) ∙ h

-- The last of a list, and those before it, are what they are.
pub last_same : (xs ys : List ConstInfo) (x y : ConstInfo) → xs ++ x ∷ [] ≡ ys ++ y ∷ [] → (xs ≡ ys) × (x ≡ y)
last_same [] [] x y h = let e : x ≡ y = cc in (refl, e)
last_same [] (z ∷ []) x y h = cc
last_same [] (z ∷ w ∷ ys) x y h = cc
last_same (z ∷ []) [] x y h = cc
last_same (z ∷ w ∷ xs) [] x y h = cc
last_same (z ∷ xs) (w ∷ ys) x y h =
    let e : z ≡ w = cc in
    let t : xs ++ x ∷ [] ≡ ys ++ y ∷ [] = cc in
    let rest = last_same xs ys x y t in
    (ap (λ u. u ∷ xs) e ∙ ap (λ l. w ∷ l) rest.0, rest.1)
