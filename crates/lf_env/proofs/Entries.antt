-- Lists of entries: what counts of them, what is found in them, names that differ.
use Rattle.std.specs.Prelude.{
  ◌≡◌,
  ◌≢◌,
  ℕ,
  zero,
  suc,
  ◌+◌,
  ◌-◌,
  ◌≤◌,
  ◌<◌,
  Bool,
  true,
  false,
  ◌&&◌,
  ◌||◌,
  cond,
  nat_eq,
  nat_lt,
  min,
  List,
  [],
  ◌∷◌,
  ◌++◌,
  length,
  take,
  filter,
  slice_get,
  Option,
  Some,
  None,
}
use Rattle.std.proofs.Common.{refl, sym, ◌∙◌, ap, subst, arith, append_assoc, append-nil, get_or}
use Rattle.std.specs.List.{IsDistinct, AllByRecursion, list_any}
use Rattle.std.proofs.lemmas.Bool.Decides.{nat_tests}
use Rattle.std.proofs.lemmas.Map.Keys.{IsDistinct-head, IsDistinct-tail, IsDistinct-cons, IsDistinct-push, IsDistinct-from_apart}
use Rattle.indexmap.specs.IndexSet.{insert_key, insert_all}
use Rattle.lf_core.specs.Term.{Path}
use Rattle.lf_core.specs.Same.{same_path}
use Rattle.lf_core.specs.declared.constant.ConstInfo.{ConstInfo}
use Rattle.lf_checker.specs.View.{Entry, base_position, stands_before, find_entry, placed_from, base_entries, parent_of, last_of}
use Rattle.lf_env.specs.Names.{same_entry, entry_equivalence}
use Rattle.lf_name.proofs.Names.{path_equivalence, path_is}
use Rattle.lf_env.specs.Answer.{DistinctNames}
use Rattle.lf_env.specs.Layer.{is_within, entries_of, has_name}

-- Parts of a test that holds or fails.
or_left : (b c : Bool) → (b || c) ≡ false → b ≡ false
or_left true c h = cc
or_left false c h = refl

or_right : (b c : Bool) → (b || c) ≡ false → c ≡ false
or_right true c h = cc
or_right false c h = h

-- ---- What counts

pub filter_all : (es : List Entry) → filter (is_within None) es ≡ es
filter_all [] = refl
filter_all (e ∷ es) = ap (λ l. e ∷ l) (filter_all es)

filter_step : (b : Bool) (e : Entry) (xs ys : List Entry) → cond b (e ∷ (xs ++ ys)) (xs ++ ys) ≡ cond b (e ∷ xs) xs ++ ys
filter_step true e xs ys = refl
filter_step false e xs ys = refl

pub filter-append : (p : Entry → Bool) (xs ys : List Entry) → filter p (xs ++ ys) ≡ filter p xs ++ filter p ys
filter-append p [] ys = refl
filter-append p (x ∷ xs) ys = ap (λ l. cond (p x) (x ∷ l) l) (filter-append p xs ys) ∙ filter_step (p x) x (filter p xs) (filter p ys)

both_step : (p q : Entry → Bool) (b : Bool) (e : Entry) (xs : List Entry) → filter q (cond b (e ∷ xs) xs) ≡ cond (b && q e) (e ∷ filter q xs) (filter q xs)
both_step p q true e xs = refl
both_step p q false e xs = refl

pub filter-filter : (p q : Entry → Bool) (es : List Entry) → filter q (filter p es) ≡ filter (λ e. p e && q e) es
filter-filter p q [] = refl
filter-filter p q (e ∷ es) = both_step p q (p e) e (filter p es) ∙ ap (λ l. cond (p e && q e) (e ∷ l) l) (filter-filter p q es)

length_step : (b : Bool) (e : Entry) (xs : List Entry) (n : ℕ) → length xs ≤ n → length (cond b (e ∷ xs) xs) ≤ suc n
length_step true e xs n h = omega arith
length_step false e xs n h = omega arith

pub length-filter : (p : Entry → Bool) (es : List Entry) → length (filter p es) ≤ length es
length-filter p [] = omega arith
length-filter p (e ∷ es) = length_step (p e) e (filter p es) (length es) (length-filter p es)

-- ---- The limit

bounded : (b : Bool) (p l m : ℕ) → (b || nat_lt p (min l m)) ≡ ((b || nat_lt p m) && (b || nat_lt p l))
bounded true p l m = refl
bounded false p l m = grind (arith, nat_tests)

-- The nearer of two limits: both hold.
pub nearer : (l m : ℕ) (e : Entry) → is_within (Some (min l m)) e ≡ (is_within (Some m) e && stands_before l e.position)
nearer l m e = bounded (nat_eq e.position base_position) e.position l m

pub filter_nearer : (l m : ℕ) (es : List Entry) → filter (is_within (Some (min l m))) es
    ≡ filter (λ e. stands_before l e.position) (filter (is_within (Some m)) es)
filter_nearer l m es = ap (λ (f : Entry → Bool). filter f es) (λ i e. nearer l m e i)
    ∙ sym (filter-filter (is_within (Some m)) (λ e. stands_before l e.position) es)

pub filter_first : (l : ℕ) (es : List Entry) → filter (is_within (Some l)) es ≡ filter (λ e. stands_before l e.position) (filter (is_within None) es)
filter_first l es = ap (filter (is_within (Some l))) (sym (filter_all es))

-- ---- What is found

pub entries_of-append : (ess : List (List Entry)) (es : List Entry) → entries_of (ess ++ es ∷ []) ≡ entries_of ess ++ es
entries_of-append [] es = append-nil es
entries_of-append (x ∷ ess) es = ap (λ l. x ++ l) (entries_of-append ess es) ∙ sym (append_assoc x (entries_of ess) es)

absent_step : (p : Entry → Bool) (b : Bool) (e : Entry) (xs : List Entry) (n : Path) → has_name n e ≡ false → None ≡ find_entry xs n
    → None ≡ find_entry (cond b (e ∷ xs) xs) n
absent_step p true e xs n h r = r ∙ ap (λ b. cond b (Some e) (find_entry xs n)) (sym h)
absent_step p false e xs n h r = r

pub absent_found : (p : Entry → Bool) (es : List Entry) (n : Path) → list_any (has_name n) es ≡ false → None ≡ find_entry (filter p es) n
absent_found p [] n h = refl
absent_found p (e ∷ es) n h =
    absent_step p (p e) e (filter p es) n (or_left (has_name n e) (list_any (has_name n) es) h)
    (absent_found p es n (or_right (has_name n e) (list_any (has_name n) es) h))

absent_place_step : (b : Bool) (e : Entry) (xs : List Entry) (n : Path) (k : ℕ) → has_name n e ≡ false → ((j : ℕ) → None ≡ placed_from j xs n)
    → None ≡ placed_from k (cond b (e ∷ xs) xs) n
absent_place_step true e xs n k h r = r (suc k) ∙ ap (λ b. cond b (Some (e.position, k)) (placed_from (suc k) xs n)) (sym h)
absent_place_step false e xs n k h r = r k

pub absent_placed : (p : Entry → Bool) (es : List Entry) (n : Path) → list_any (has_name n) es ≡ false → (k : ℕ) → None ≡ placed_from k (filter p es) n
absent_placed p [] n h k = refl
absent_placed p (e ∷ es) n h k =
    absent_place_step (p e) e (filter p es) n k (or_left (has_name n e) (list_any (has_name n) es) h)
    (absent_placed p es n (or_right (has_name n e) (list_any (has_name n) es) h))

-- No entry has a name that the entry in front of them has.
pub others_apart : (e : Entry) (es : List Entry) (n : Path) → has_name n e ≡ true → AllByRecursion (λ d. same_entry e d ≡ false) es
    → list_any (has_name n) es ≡ false
others_apart e [] n h a = refl
others_apart e (d ∷ es) n h a =
    let apart : has_name n d ≡ false =
    path_equivalence.symm d.info.name n ∙ sym (path_equivalence.congr e.info.name n d.info.name h) ∙ a.0 in
    ap (λ b. b || list_any (has_name n) es) apart ∙ others_apart e es n h a.1

-- An entry behind one that differs from all behind it.
apart_at : (e d : Entry) (es : List Entry) (i : ℕ) (n : Path) → slice_get es i ≡ Some d → has_name n d ≡ true
    → AllByRecursion (λ d. same_entry e d ≡ false) es → has_name n e ≡ false
apart_at e d [] i n g h a = cc
apart_at e d (c ∷ es) zero n g h a =
    let same : c ≡ d = cc in
    path_equivalence.symm e.info.name n ∙ sym (path_equivalence.congr d.info.name n e.info.name h) ∙ path_equivalence.symm d.info.name e.info.name
    ∙ ap (λ (x : Entry). same_entry e x) (sym same) ∙ a.0
apart_at e d (c ∷ es) (suc i) n g h a = apart_at e d es i n g h a.1

module _ (p : Entry → Bool) (n : Path) where
  found_head : (b : Bool) (e : Entry) (xs : List Entry) → has_name n e ≡ true → None ≡ find_entry xs n
      → cond b (Some e) None ≡ find_entry (cond b (e ∷ xs) xs) n
  found_head true e xs h r = ap (λ b. cond b (Some e) (find_entry xs n)) (sym h)
  found_head false e xs h r = r

  found_tail : (b : Bool) (e : Entry) (xs : List Entry) → has_name n e ≡ false → find_entry xs n ≡ find_entry (cond b (e ∷ xs) xs) n
  found_tail true e xs h = ap (λ b. cond b (Some e) (find_entry xs n)) (sym h)
  found_tail false e xs h = refl

  -- The entry of a name in a list without doubles, where it counts.
  pub found_at : (es : List Entry) (i : ℕ) (e : Entry) → IsDistinct same_entry es → slice_get es i ≡ Some e → has_name n e ≡ true
      → cond (p e) (Some e) None ≡ find_entry (filter p es) n
  found_at [] i e d g h = cc
  found_at (c ∷ es) zero e d g h =
      let same : c ≡ e = cc in
      let held : has_name n c ≡ true = ap (has_name n) same ∙ h in
      ap (λ (x : Entry). cond (p x) (Some x) None) (sym same)
      ∙ found_head (p c) c (filter p es) held (absent_found p es n (others_apart c es n held (IsDistinct-head same_entry c es d)))
  found_at (c ∷ es) (suc i) e d g h =
      found_at es i e (IsDistinct-tail same_entry c es d) g h
      ∙ found_tail (p c) c (filter p es) (apart_at c e es i n g h (IsDistinct-head same_entry c es d))

  placed_head : (b : Bool) (e : Entry) (xs : List Entry) (k : ℕ) → has_name n e ≡ true → ((j : ℕ) → None ≡ placed_from j xs n)
      → cond b (Some (e.position, k)) None ≡ placed_from k (cond b (e ∷ xs) xs) n
  placed_head true e xs k h r = ap (λ b. cond b (Some (e.position, k)) (placed_from (suc k) xs n)) (sym h)
  placed_head false e xs k h r = r k

  placed_tail : (b : Bool) (c : Entry) (xs ys : List Entry) (v : ℕ → Option (ℕ × ℕ)) (k : ℕ) → has_name n c ≡ false
      → ((j : ℕ) → v (j + length ys) ≡ placed_from j xs n) → v (k + length (cond b (c ∷ ys) ys)) ≡ placed_from k (cond b (c ∷ xs) xs) n
  placed_tail true c xs ys v k h r =
      let step : k + suc (length ys) ≡ suc k + length ys = omega arith in
      ap v step ∙ r (suc k) ∙ ap (λ b. cond b (Some (c.position, k)) (placed_from (suc k) xs n)) (sym h)
  placed_tail false c xs ys v k h r = r k

  -- Its place: the number of those before it that count.
  pub placed_at : (es : List Entry) (i : ℕ) (e : Entry) → IsDistinct same_entry es → slice_get es i ≡ Some e → has_name n e ≡ true → (k : ℕ)
      → cond (p e) (Some (e.position, k + length (filter p (take i es)))) None ≡ placed_from k (filter p es) n
  placed_at [] i e d g h k = cc
  placed_at (c ∷ es) zero e d g h k =
      let same : c ≡ e = cc in
      let held : has_name n c ≡ true = ap (has_name n) same ∙ h in
      let start : k + 0 ≡ k = omega arith in
      ap (λ (x : Entry). cond (p x) (Some (x.position, k + 0)) None) (sym same)
      ∙ ap (λ j. cond (p c) (Some (c.position, j)) None) start
      ∙ placed_head (p c) c (filter p es) k held (absent_placed p es n (others_apart c es n held (IsDistinct-head same_entry c es d)))
  placed_at (c ∷ es) (suc i) e d g h k =
      placed_tail (p c) c (filter p es) (filter p (take i es)) (λ j. cond (p e) (Some (e.position, j)) None) k
      (apart_at c e es i n g h (IsDistinct-head same_entry c es d)) (placed_at es i e (IsDistinct-tail same_entry c es d) g h)

take_step : (b : Bool) (e : Entry) (xs ys : List Entry) → length xs ≤ length ys → length (cond b (e ∷ xs) xs) ≤ length (cond b (e ∷ ys) ys)
take_step true e xs ys h = omega arith
take_step false e xs ys h = h

pub length-filter-take : (p : Entry → Bool) (i : ℕ) (es : List Entry) → length (filter p (take i es)) ≤ length (filter p es)
length-filter-take p zero es = omega arith
length-filter-take p (suc i) [] = omega arith
length-filter-take p (suc i) (e ∷ es) = take_step (p e) e (filter p (take i es)) (filter p es) (length-filter-take p i es)

-- The same of a list that is what counts of another.
module _ (p : Entry → Bool) (n : Path) {own es ks : List Entry} (is : filter p es ≡ own) (same : ks ≡ es) where
  pub none_in : list_any (has_name n) ks ≡ false → None ≡ find_entry own n
  none_in h = absent_found p es n (ap (list_any (has_name n)) (sym same) ∙ h) ∙ ap (λ l. find_entry l n) is

  pub none_placed_in : (k : ℕ) → list_any (has_name n) ks ≡ false → None ≡ placed_from k own n
  none_placed_in k h = absent_placed p es n (ap (list_any (has_name n)) (sym same) ∙ h) k ∙ ap (λ l. placed_from k l n) is

  module _ (i : ℕ) (e : Entry) (apart : IsDistinct same_entry es) (stored : slice_get ks i ≡ Some e) (named : has_name n e ≡ true) where
    at : slice_get es i ≡ Some e
    at = ap (λ l. slice_get l i) (sym same) ∙ stored

    pub one_in : true ≡ p e → Some e ≡ find_entry own n
    one_in counts = ap (λ b. cond b (Some e) None) counts ∙ found_at p n es i e apart at named ∙ ap (λ l. find_entry l n) is

    pub left_out : false ≡ p e → None ≡ find_entry own n
    left_out counts = ap (λ b. cond b (Some e) None) counts ∙ found_at p n es i e apart at named ∙ ap (λ l. find_entry l n) is

    pub one_placed_in : (k m : ℕ) → m ≡ length (filter p (take i ks)) → true ≡ p e → Some (e.position, k + m) ≡ placed_from k own n
    one_placed_in k m count counts =
        ap (λ j. Some (e.position, k + j)) (count ∙ ap (λ l. length (filter p (take i l))) same)
        ∙ ap (λ b. cond b (Some (e.position, k + length (filter p (take i es)))) None) counts
        ∙ placed_at p n es i e apart at named k ∙ ap (λ l. placed_from k l n) is

    pub left_out_placed : (k : ℕ) → false ≡ p e → None ≡ placed_from k own n
    left_out_placed k counts =
        ap (λ b. cond b (Some (e.position, k + length (filter p (take i es)))) None) counts
        ∙ placed_at p n es i e apart at named k ∙ ap (λ l. placed_from k l n) is

    pub place_fits : (k m : ℕ) → k + length own ≤ 18446744073709551615 → m ≡ length (filter p (take i ks)) → k + m ≤ 18446744073709551615
    place_fits k m h count =
        let shown : m ≡ length (filter p (take i es)) = count ∙ ap (λ l. length (filter p (take i l))) same in
        let whole : length (filter p es) ≡ length own = ap length is in
        let part : length (filter p (take i es)) ≤ length (filter p es) = length-filter-take p i es in
        omega arith

-- ---- What counts of a shared table

pub all_of : (es ks : List Entry) → ks ≡ es → filter (is_within None) ks ≡ es
all_of es ks e = filter_all ks ∙ e

pub fewer : (p : Entry → Bool) (own es : List Entry) (n : ℕ) → filter p es ≡ own → n ≡ length es → length own ≤ n
fewer p own es n is count = let part = length-filter p es in let whole : length (filter p es) ≡ length own = ap length is in omega arith

pub first_limit : (limit near : ℕ) (l : Option ℕ) (own es ks : List Entry) → near ≡ limit → l ≡ None → ks ≡ es → filter (is_within l) es ≡ own
    → filter (is_within (Some near)) ks ≡ filter (λ e. stands_before limit e.position) own
first_limit limit near l own es ks n none same is =
    ap (λ m. filter (is_within (Some m)) ks) n ∙ ap (filter (is_within (Some limit))) same ∙ filter_first limit es
    ∙ ap (filter (λ e. stands_before limit e.position)) (ap (λ m. filter (is_within m) es) (sym none) ∙ is)

pub nearer_limit : (limit other near : ℕ) (l : Option ℕ) (own es ks : List Entry) → near ≡ min limit other → l ≡ Some other → ks ≡ es
    → filter (is_within l) es ≡ own → filter (is_within (Some near)) ks ≡ filter (λ e. stands_before limit e.position) own
nearer_limit limit other near l own es ks n some same is =
    ap (λ m. filter (is_within (Some m)) ks) n ∙ ap (filter (is_within (Some (min limit other)))) same ∙ filter_nearer limit other es
    ∙ ap (filter (λ e. stands_before limit e.position)) (ap (λ m. filter (is_within m) es) (sym some) ∙ is)

-- ---- Lists in turn

first_step : (b : Bool) (d e : Entry) (rest more : Option Entry) → (Some e ≡ rest → Some e ≡ more) → Some e ≡ cond b (Some d) rest
    → Some e ≡ cond b (Some d) more
first_step true d e rest more r h = h
first_step false d e rest more r h = r h

pub found_first : (xs ys : List Entry) (n : Path) (e : Entry) → Some e ≡ find_entry xs n → Some e ≡ find_entry (xs ++ ys) n
found_first [] ys n e h = cc
found_first (x ∷ xs) ys n e h = first_step (has_name n x) x e (find_entry xs n) (find_entry (xs ++ ys) n) (found_first xs ys n e) h

later_step : (b : Bool) (d : Entry) (rest more last : Option Entry) → (None ≡ rest → more ≡ last) → None ≡ cond b (Some d) rest → cond b (Some d) more ≡ last
later_step true d rest more last r h = cc
later_step false d rest more last r h = r h

pub found_later : (xs ys : List Entry) (n : Path) → None ≡ find_entry xs n → find_entry (xs ++ ys) n ≡ find_entry ys n
found_later [] ys n h = refl
found_later (x ∷ xs) ys n h = later_step (has_name n x) x (find_entry xs n) (find_entry (xs ++ ys) n) (find_entry ys n) (found_later xs ys n) h

place_step : (b : Bool) (v w : ℕ × ℕ) (rest more : Option (ℕ × ℕ)) → (Some w ≡ rest → Some w ≡ more) → Some w ≡ cond b (Some v) rest
    → Some w ≡ cond b (Some v) more
place_step true v w rest more r h = h
place_step false v w rest more r h = r h

pub placed_first : (k : ℕ) (xs ys : List Entry) (n : Path) (v : ℕ × ℕ) → Some v ≡ placed_from k xs n → Some v ≡ placed_from k (xs ++ ys) n
placed_first k [] ys n v h = cc
placed_first k (x ∷ xs) ys n v h =
    place_step (has_name n x) (x.position, k) v (placed_from (suc k) xs n) (placed_from (suc k) (xs ++ ys) n) (placed_first (suc k) xs ys n v) h

later_place_step : (b : Bool) (v : ℕ × ℕ) (rest more last : Option (ℕ × ℕ)) → (None ≡ rest → more ≡ last) → None ≡ cond b (Some v) rest
    → cond b (Some v) more ≡ last
later_place_step true v rest more last r h = cc
later_place_step false v rest more last r h = r h

pub placed_later : (k : ℕ) (xs ys : List Entry) (n : Path) → None ≡ placed_from k xs n → placed_from k (xs ++ ys) n ≡ placed_from (k + length xs) ys n
placed_later k [] ys n h = let same : k ≡ k + 0 = omega arith in ap (λ j. placed_from j ys n) same
placed_later k (x ∷ xs) ys n h =
    let same : suc k + length xs ≡ k + suc (length xs) = omega arith in
    later_place_step (has_name n x) (x.position, k) (placed_from (suc k) xs n) (placed_from (suc k) (xs ++ ys) n) (placed_from (k + suc (length xs)) ys n)
    (λ r. placed_later (suc k) xs ys n r ∙ ap (λ j. placed_from j ys n) same) h

pub entries_of-both : (xs ys : List (List Entry)) → entries_of (xs ++ ys) ≡ entries_of xs ++ entries_of ys
entries_of-both [] ys = refl
entries_of-both (x ∷ xs) ys = ap (λ l. x ++ l) (entries_of-both xs ys) ∙ sym (append_assoc x (entries_of xs) (entries_of ys))

-- ---- Names that differ

pub IsDistinct-later : (xs ys : List Entry) → IsDistinct same_entry (xs ++ ys) → IsDistinct same_entry ys
IsDistinct-later [] ys d = d
IsDistinct-later (x ∷ xs) ys d = IsDistinct-later xs ys (IsDistinct-tail same_entry x (xs ++ ys) d)

kept_step : (b : Bool) (e d : Entry) (xs : List Entry) → same_entry e d ≡ false → AllByRecursion (λ d. same_entry e d ≡ false) xs
    → AllByRecursion (λ d. same_entry e d ≡ false) (cond b (d ∷ xs) xs)
kept_step true e d xs h a = (h, a)
kept_step false e d xs h a = a

kept_apart : (p : Entry → Bool) (e : Entry) (es : List Entry) → AllByRecursion (λ d. same_entry e d ≡ false) es
    → AllByRecursion (λ d. same_entry e d ≡ false) (filter p es)
kept_apart p e [] a = tt
kept_apart p e (d ∷ es) a = kept_step (p d) e d (filter p es) a.0 (kept_apart p e es a.1)

distinct_step : (b : Bool) (e : Entry) (xs : List Entry) → AllByRecursion (λ d. same_entry e d ≡ false) xs → IsDistinct same_entry xs
    → IsDistinct same_entry (cond b (e ∷ xs) xs)
distinct_step true e xs a d = IsDistinct-cons same_entry e xs a d
distinct_step false e xs a d = d

pub IsDistinct-filter : (p : Entry → Bool) (es : List Entry) → IsDistinct same_entry es → IsDistinct same_entry (filter p es)
IsDistinct-filter p [] d = d
IsDistinct-filter p (e ∷ es) d =
    distinct_step (p e) e (filter p es) (kept_apart p e es (IsDistinct-head same_entry e es d)) (IsDistinct-filter p es (IsDistinct-tail same_entry e es d))

apart_from : (e d : Entry) (xs ys : List Entry) → AllByRecursion (λ x. same_entry e x ≡ false) (xs ++ d ∷ ys) → same_entry d e ≡ false
apart_from e d [] ys a = entry_equivalence.symm d e ∙ a.0
apart_from e d (x ∷ xs) ys a = apart_from e d xs ys a.1

fresh : (xs : List Entry) (y : Entry) (ys : List Entry) → IsDistinct same_entry (xs ++ y ∷ ys) → list_any (same_entry y) xs ≡ false
fresh [] y ys d = refl
fresh (x ∷ xs) y ys d =
    ap (λ b. b || list_any (same_entry y) xs) (apart_from x y xs ys (IsDistinct-head same_entry x (xs ++ y ∷ ys) d))
    ∙ fresh xs y ys (IsDistinct-tail same_entry x (xs ++ y ∷ ys) d)

-- Entries whose names differ are put in as they are.
pub insert_all_distinct : (xs ys : List Entry) → IsDistinct same_entry (xs ++ ys) → insert_all same_entry xs ys ≡ xs ++ ys
insert_all_distinct xs [] d = sym (append-nil xs)
insert_all_distinct xs (y ∷ ys) d =
    let same : (xs ++ y ∷ []) ++ ys ≡ xs ++ y ∷ ys = append_assoc xs (y ∷ []) ys in
    let put : insert_key same_entry xs y ≡ xs ++ y ∷ [] = ap (λ b. cond b xs (xs ++ y ∷ [])) (fresh xs y ys d) in
    ap (λ l. insert_all same_entry l ys) put
    ∙ insert_all_distinct (xs ++ y ∷ []) ys (subst (IsDistinct same_entry) (sym same) d) ∙ same

pub distinct_nil : IsDistinct same_entry []
unfolding IsDistinct
distinct_nil = tt

same_name : ConstInfo → ConstInfo → Bool
same_name c d = same_path c.name d.name

differ_step : (x y : Path) (b : Bool) → same_path x y ≡ b → x ≢ y → b ≡ false
differ_step x y true h ne = absurd (ne (path_is x y h))
differ_step x y false h ne = refl

names_apart : (cs : List ConstInfo) → DistinctNames cs → IsDistinct same_name cs
unfolding same_name
names_apart cs d =
    IsDistinct-from_apart same_name cs (λ i j c before within.
    differ_step (get_or cs i c).name (get_or cs j c).name (same_path (get_or cs i c).name (get_or cs j c).name) refl (d i j c before within))

base_apart : (c : ConstInfo) (cs : List ConstInfo) → AllByRecursion (λ d. same_name c d ≡ false) cs
    → AllByRecursion (λ d. same_entry (record { info = c; position = base_position }) d ≡ false) (base_entries cs)
unfolding same_name
base_apart c [] a = tt
base_apart c (d ∷ cs) a = (a.0, base_apart c cs a.1)

base_distinct : (cs : List ConstInfo) → IsDistinct same_name cs → IsDistinct same_entry (base_entries cs)
base_distinct [] d = distinct_nil
base_distinct (c ∷ cs) d =
    IsDistinct-cons same_entry (record { info = c; position = base_position }) (base_entries cs)
    (base_apart c cs (IsDistinct-head same_name c cs d)) (base_distinct cs (IsDistinct-tail same_name c cs d))

pub IsDistinct-base : (cs : List ConstInfo) → DistinctNames cs → IsDistinct same_entry (base_entries cs)
IsDistinct-base cs d = base_distinct cs (names_apart cs d)

pub length-base : (cs : List ConstInfo) → length (base_entries cs) ≡ length cs
length-base [] = refl
length-base (c ∷ cs) = ap suc (length-base cs)

pub base_entries-append : (cs : List ConstInfo) (c : ConstInfo)
    → base_entries (cs ++ c ∷ []) ≡ base_entries cs ++ record { info = c; position = base_position } ∷ []
base_entries-append [] c = refl
base_entries-append (d ∷ cs) c = ap (λ l. record { info = d; position = base_position } ∷ l) (base_entries-append cs c)

-- A name without a place is no entry's.
free_step : (b s : Bool) (v : ℕ × ℕ) (rest : Option (ℕ × ℕ)) (others : Bool) → s ≡ b → (None ≡ rest → others ≡ false) → None ≡ cond b (Some v) rest
    → (s || others) ≡ false
free_step true s v rest others e r h = cc
free_step false s v rest others e r h = ap (λ x. x || others) e ∙ r h

pub free : (k : ℕ) (es : List Entry) (e : Entry) → None ≡ placed_from k es e.info.name → list_any (same_entry e) es ≡ false
free k [] e h = refl
free k (d ∷ es) e h =
    free_step (has_name e.info.name d) (same_entry e d) (d.position, k) (placed_from (suc k) es e.info.name) (list_any (same_entry e) es)
    (entry_equivalence.symm e d) (free (suc k) es e) h

pub IsDistinct-pushed : (es : List Entry) (e : Entry) → IsDistinct same_entry es → None ≡ placed_from 0 es e.info.name → IsDistinct same_entry (es ++ e ∷ [])
IsDistinct-pushed es e d h = IsDistinct-push entry_equivalence es e d (free 0 es e h)

-- ---- The parts of a name

parent_take : (n : Path) (k : ℕ) → length n ≡ suc k → take k n ≡ parent_of n
parent_take [] k h = absurd (omega arith)
parent_take (x ∷ []) zero h = refl
parent_take (x ∷ []) (suc k) h = absurd (omega arith)
parent_take (x ∷ y ∷ n) zero h = absurd (omega arith)
parent_take (x ∷ y ∷ n) (suc k) h = ap (λ l. x ∷ l) (parent_take (y ∷ n) k (omega arith))

last_place : (n : Path) (k : ℕ) (d : List ℕ) → length n ≡ suc k → get_or n k d ≡ last_of n
last_place [] k d h = absurd (omega arith)
last_place (x ∷ []) zero d h = refl
last_place (x ∷ []) (suc k) d h = absurd (omega arith)
last_place (x ∷ y ∷ n) zero d h = absurd (omega arith)
last_place (x ∷ y ∷ n) (suc k) d h = last_place (y ∷ n) k d (omega arith)

pub parent_of-take : (n : Path) → 1 ≤ length n → take (length n - 1) n ≡ parent_of n
parent_of-take n h = parent_take n (length n - 1) (omega arith)

pub last_of-place : (n : Path) (d : List ℕ) → 1 ≤ length n → get_or n (length n - 1) d ≡ last_of n
last_of-place n d h = last_place n (length n - 1) d (omega arith)

-- ---- Names

named_step : (x e : Entry) (n : Path) (b : Bool) (rest : Option Entry) → has_name n x ≡ b → (Some e ≡ rest → has_name n e ≡ true)
    → Some e ≡ cond b (Some x) rest → has_name n e ≡ true
named_step x e n true rest h r s = cc
named_step x e n false rest h r s = r s

pub found_named : (es : List Entry) (n : Path) (e : Entry) → Some e ≡ find_entry es n → has_name n e ≡ true
found_named [] n e s = cc
found_named (x ∷ xs) n e s = named_step x e n (has_name n x) (find_entry xs n) refl (found_named xs n e) s

pub nothing_unnamed : (es : List Entry) (e : Entry) → Some e ≡ find_entry es [] → 0 < length e.info.name → find_entry es [] ≡ None
nothing_unnamed es e s h = let none : e.info.name ≡ [] = path_is e.info.name [] (found_named es [] e s) in absurd (omega (arith, h, ap (λ n. length n) none))
