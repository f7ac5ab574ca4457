use Rattle.std.proofs.Common.{
  ⊎_elim,
  ◌↔◌,
  add-one,
  Contains,
  ◌≡◌,
  ℕ,
  ◌≤◌,
  ◌<◌,
  List,
  [],
  ◌∷◌,
  ◌++◌,
  length,
  take,
  drop,
  get_or,
  Bool,
  true,
  false,
  cond,
  ◌&&◌,
  refl,
  sym,
  ap,
  ◌∙◌,
  arith,
  Some,
  None,
  zero,
  suc,
  Ordering,
}
use Rattle.std.specs.Ordering.{nat_cmp, is_lt, is_eq, ordering_reverse}
use Rattle.std.specs.declared.cmp.Ordering.TheVariants.{Less, Equal, Greater}
use Rattle.std.specs.Cmp.Lexicographic.{slice_cmp}
use Rattle.std.proofs.lemmas.Cmp.{nat_list_cmp_total}
use Rattle.std.proofs.lemmas.Map.Text.{is_eq-slice_cmp}
use Rattle.std.proofs.lemmas.List.{map-append}
use Rattle.std.proofs.Math.Seq.{split_at}
use Rattle.std.specs.Prelude.{bytes_eq}
use Rattle.std.specs.List.Sorted.{IsPartitionPoint, IsNonDecreasingBy}
use Rattle.std.specs.Ordering.{ordering_index}
use Rattle.std.proofs.lemmas.List.Sorted.{searchable_from_sorted}
use Rattle.std.proofs.lemmas.Bool.{cases_lt}
use Rattle.std.proofs.lemmas.Slice.Eq.{bytes_eq-Decides}
use Rattle.std.specs.Borrow.{Bor}
use Rattle.lf_tables.specs.Rows.{Row, rows_of, is_before, keys_rise, value_of}

-- what the comparison of two keys gives
abbrev compare : List ℕ → List ℕ → Ordering
compare a b = slice_cmp nat_cmp a b

less_from : (o : Ordering) → is_lt o ≡ true → o ≡ Less
less_from Less e = refl
less_from Equal e = cc
less_from Greater e = cc

before_less : (a b : List ℕ) → is_before a b ≡ true → compare a b ≡ Less
before_less a b e = less_from (compare a b) e

reversed : (o p : Ordering) → o ≡ ordering_reverse p → o ≡ Greater → p ≡ Less
reversed o Less e f = refl
reversed o Equal e f = cc
reversed o Greater e f = cc

less_from_greater : (a b : List ℕ) → compare a b ≡ Greater → compare b a ≡ Less
less_from_greater a b e = reversed (compare a b) (compare b a) (nat_list_cmp_total.antisymm a b) e

greater_from_less : (a b : List ℕ) → compare a b ≡ Less → compare b a ≡ Greater
greater_from_less a b e = nat_list_cmp_total.antisymm b a ∙ ap ordering_reverse e

and_left : (a b : Bool) → a && b ≡ true → a ≡ true
and_left true b e = refl
and_left false b e = e

and_right : (a b : Bool) → a && b ≡ true → b ≡ true
and_right true b e = e
and_right false b e = cc

-- keys of which one comes before the other are not the same
apart : (a b : List ℕ) → compare a b ≡ Less → bytes_eq a b ≡ false
apart a b e = sym (is_eq-slice_cmp a b) ∙ ap is_eq e

apart_after : (a b : List ℕ) → compare b a ≡ Less → bytes_eq a b ≡ false
apart_after a b e = sym (is_eq-slice_cmp a b) ∙ ap is_eq (greater_from_less b a e)

-- the first row comes before each later one
first_before : {V : Type 0} (r : Row V) (front : List (Row V)) (m : Row V) (back : List (Row V)) →
    keys_rise (r ∷ (front ++ m ∷ back)) ≡ true → compare r.0 m.0 ≡ Less
first_before r [] m back e = before_less r.0 m.0 (and_left (is_before r.0 m.0) (keys_rise (m ∷ back)) e)
first_before r (s ∷ front) m back e =
    nat_list_cmp_total.trans r.0 s.0 m.0
    (before_less r.0 s.0 (and_left (is_before r.0 s.0) (keys_rise (s ∷ (front ++ m ∷ back))) e))
    (first_before s front m back (and_right (is_before r.0 s.0) (keys_rise (s ∷ (front ++ m ∷ back))) e))

rise_tail : {V : Type 0} (r : Row V) (rows : List (Row V)) → keys_rise (r ∷ rows) ≡ true → keys_rise rows ≡ true
rise_tail r [] e = refl
rise_tail r (s ∷ rows) e = and_right (is_before r.0 s.0) (keys_rise (s ∷ rows)) e

less_equal : (a m key : List ℕ) → compare a m ≡ Less → compare m key ≡ Equal → compare a key ≡ Less
less_equal a m key l q = less_from_greater key a (sym (nat_list_cmp_total.congr m key a q) ∙ greater_from_less a m l)

-- the key of a row has that row's value
value_of-at : {V : Type 0} (key : List ℕ) (front : List (Row V)) (m : Row V) (back : List (Row V)) →
    keys_rise (front ++ m ∷ back) ≡ true → compare m.0 key ≡ Equal → value_of key (front ++ m ∷ back) ≡ Some m.1
value_of-at key [] m back e q = ap (λ b. cond b (Some m.1) (value_of key back)) (sym (is_eq-slice_cmp m.0 key) ∙ ap is_eq q)
value_of-at key (r ∷ front) m back e q =
    ap (λ b. cond b (Some r.1) (value_of key (front ++ m ∷ back)))
    (apart r.0 key (less_equal r.0 m.0 key (first_before r front m back e) q))
    ∙ value_of-at key front m back (rise_tail r (front ++ m ∷ back) e) q

get_or-rows : {V : Type 0} (rs : List (Bor (List ℕ) × V)) (i : ℕ) (d : Bor (List ℕ) × V) → i < length rs →
    rows_of rs ≡ rows_of (take i rs) ++ ((get_or rs i d).0.now, (get_or rs i d).1) ∷ rows_of (drop (suc i) rs)
get_or-rows rs i d l = ap rows_of (split_at rs i d l) ∙ map-append (λ r. (r.0.now, r.1)) (take i rs) (get_or rs i d ∷ drop (suc i) rs)

-- the row at a place whose key is this one
pub found : {V : Type 0} (key : List ℕ) (rs : List (Bor (List ℕ) × V)) (i : ℕ) (d : Bor (List ℕ) × V) → keys_rise (rows_of rs) ≡ true →
    i < length rs → compare (get_or rs i d).0.now key ≡ Equal → value_of key (rows_of rs) ≡ Some (get_or rs i d).1
found {V} key rs i d e l q =
    let cut : rows_of rs ≡ rows_of (take i rs) ++ ((get_or rs i d).0.now, (get_or rs i d).1) ∷ rows_of (drop (suc i) rs) = get_or-rows rs i d l in
    ap (value_of key) cut ∙ value_of-at key (rows_of (take i rs)) ((get_or rs i d).0.now, (get_or rs i d).1) (rows_of (drop (suc i) rs))
    (sym (ap keys_rise cut) ∙ e) q

none_found : {V : Type 0} (key : List ℕ) (rs : List (Bor (List ℕ) × V)) →
    ((k : ℕ) (d : Bor (List ℕ) × V) → k < length rs → bytes_eq (get_or rs k d).0.now key ≡ false) → value_of key (rows_of rs) ≡ None
none_found key [] f = refl
none_found key (r ∷ rs) f =
    ap (λ b. cond b (Some r.1) (value_of key (rows_of rs))) (f 0 r (omega arith))
    ∙ none_found key rs (λ k d l. f (suc k) d (omega arith))

-- where each key is before or after this one, it is no row's
pub missing : {V : Type 0} (key : List ℕ) (rs : List (Bor (List ℕ) × V)) (i : ℕ) →
    IsPartitionPoint (λ y. compare y.0.now key ≡ Less) (λ y. compare y.0.now key ≡ Greater) rs i → value_of key (rows_of rs) ≡ None
missing {V} key rs i p =
    none_found key rs (λ k d l. ⊎_elim
    (λ (below : k < i). apart (get_or rs k d).0.now key (p.0 k d (omega arith) below))
    (λ (above : i ≤ k). apart_after (get_or rs k d).0.now key (less_from_greater (get_or rs k d).0.now key (p.1 k d above l)))
    (cases_lt k i))

not_less : (a b : List ℕ) → is_before a b ≡ true → is_lt (compare b a) ≡ false
not_less a b e = ap is_lt (greater_from_less a b (before_less a b e))

rise_step : {V : Type 0} (rs : List (Bor (List ℕ) × V)) (k : ℕ) (d : Bor (List ℕ) × V) → keys_rise (rows_of rs) ≡ true →
    suc k < length rs → is_lt (compare (get_or rs (suc k) d).0.now (get_or rs k d).0.now) ≡ false
rise_step [] k d e l = absurd (omega arith)
rise_step (r ∷ []) k d e l = absurd (omega arith)
rise_step (r ∷ s ∷ rs) zero d e l = not_less r.0.now s.0.now (and_left (is_before r.0.now s.0.now) (keys_rise (rows_of (s ∷ rs))) e)
rise_step (r ∷ s ∷ rs) (suc k) d e l =
    rise_step (s ∷ rs) k d (and_right (is_before r.0.now s.0.now) (keys_rise (rows_of (s ∷ rs))) e) (omega arith)

-- rows whose keys rise can be searched by halving
pub searchable : {V : Type 0} (rs : List (Bor (List ℕ) × V)) (key : List ℕ) → keys_rise (rows_of rs) ≡ true →
    IsNonDecreasingBy (λ y. ordering_index (compare y.0.now key)) rs
searchable {V} rs key e =
    searchable_from_sorted nat_list_cmp_total (λ (y : Bor (List ℕ) × V). y.0.now) rs key
    (λ k d z l. let m : suc k < length rs = omega arith in rw add-one (rise_step rs k d e m))

equal_from : (o : Ordering) → is_eq o ≡ true → o ≡ Equal
equal_from Less e = cc
equal_from Equal e = refl
equal_from Greater e = cc

bytes_eq_same : (a : List ℕ) → bytes_eq a a ≡ true
bytes_eq_same a = (bytes_eq-Decides a a).1 refl

compare_same : (a : List ℕ) → compare a a ≡ Equal
compare_same a = equal_from (compare a a) (is_eq-slice_cmp a a ∙ bytes_eq_same a)

row_found : {V : Type 0} (key : List ℕ) (rows : List (Row V)) (v : V) → keys_rise rows ≡ true → Contains rows (key, v) → value_of key rows ≡ Some v
row_found {V} key rows v e (k, l, is) =
    let cut : rows ≡ take k rows ++ (key, v) ∷ drop (suc k) rows = split_at rows k (key, v) l ∙ ap (λ (m : Row V). take k rows ++ m ∷ drop (suc k) rows) is in
    ap (value_of key) cut ∙ value_of-at key (take k rows) (key, v) (drop (suc k) rows) (sym (ap keys_rise cut) ∙ e) (compare_same key)

row_step : {V : Type 0} (key : List ℕ) (r : Row V) (rows : List (Row V)) (v : V) (b : Bool) → bytes_eq r.0 key ≡ b →
    (value_of key rows ≡ Some v → Contains rows (key, v)) → cond b (Some r.1) (value_of key rows) ≡ Some v → Contains (r ∷ rows) (key, v)
row_step key r rows v true e ih f =
    let same : r.0 ≡ key = (bytes_eq-Decides r.0 key).0 e in
    let value : r.1 ≡ v = cc in
    (0, omega arith, ap (λ k. (k, r.1)) same ∙ ap (λ w. (key, w)) value)
row_step key r rows v false e ih f = let (k, l, is) = ih f in (suc k, omega arith, is)

row_there : {V : Type 0} (key : List ℕ) (rows : List (Row V)) (v : V) → value_of key rows ≡ Some v → Contains rows (key, v)
row_there key [] v f = cc
row_there key (r ∷ rows) v f = row_step key r rows v (bytes_eq r.0 key) refl (row_there key rows v) f

-- the value found is that of a written row
pub written : {V : Type 0} (key : List ℕ) (rows : List (Row V)) (v : V) → keys_rise rows ≡ true → value_of key rows ≡ Some v ↔ Contains rows (key, v)
written key rows v e = (row_there key rows v, row_found key rows v e)
