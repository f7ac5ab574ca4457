-- Each symbol reads by its rows.
use Rattle.std.proofs.Common.{◌≡◌, ℕ, List, [], ◌∷◌, ◌++◌, Option, None, Some, Result, Ok, Err, refl, sym, ap, subst, ◌∙◌, eq-eqb}
use Rattle.lf_parse_term.specs.View.{piece}
use Rattle.lf_parse_term.specs.declared.piece.Spot.{Spot}
use Rattle.std.specs.Prelude.{option_map, Bool, true, false, ◌&&◌, nat_eq}
use Rattle.lf_syntax.specs.declared.leaf.Num.{Num}
use Rattle.lf_syntax.specs.Tree.{LevelTree, level_name, level_plus, level_max, level_imax, levels_of}
use Rattle.lf_parse_term.proofs.Lists.{behind_then}
use Rattle.lf_syntax.specs.declared.leaf.Ident.{Ident}
use Rattle.lf_syntax.specs.Piece.{Piece, Class, word, name, number, operator, wrong, word_code, spelling_code}
use Rattle.lf_syntax.specs.Predictive.{Takes}
use Rattle.lf_syntax.specs.Symbol.{Symbol, Tree}
use Rattle.lf_syntax.specs.Symbol as symbol
use Rattle.lf_syntax.specs.Predictive.{join}
use Rattle.lf_syntax.specs.Grammar.{grammar}
use Rattle.lf_syntax.specs.Row.{
  Row,
  Prod,
  then,
  first_row,
  begins_as,
  row_then,
  and_then,
  try,
  if_true,
  is_one_part,
  on_word,
  on_name,
  on_one_part,
  on_spelling,
  on_number,
  on_digit,
  on_operator,
}
use Rattle.lf_parse_term.specs.Machine as machine
use Rattle.lf_parse_term.specs.Machine.{Move, goes, ends, stops}
use Rattle.lf_parse_term.proofs.Machine.{then_same, then_ok, then_then, moved, split, none}
use Rattle.lf_parse_term.specs.declared.halt.Halt.TheVariants.{Stuck}
use Rattle.lf_syntax.specs.Rows.{rows, without, level_atom_rows, one_part_rows, binder_name_rows, plus_row, plus}
use Rattle.lf_syntax.specs.Levels.{is_add}
use Rattle.lf_text.specs.declared.word.Word.{Word}
use Rattle.lf_parse_term.specs.Front.{word_rows}
use Rattle.lf_parse_term.specs.Descent.{stuck, Reading, read, reading, by_row, seq, maybe, or_else, behind, ◌>>=◌}
use Rattle.lf_parse_term.specs.Level.{named, max_of, imax_of}
use Rattle.lf_parse_term.specs.declared.halt.Halt.{Halt}
use Rattle.lf_text.specs.declared.word.Word.TheVariants as words

seq_is : {V : Type 0} (xs : List Symbol) (ts : List Piece) (f : Takes Tree xs V) → machine.all grammar ts xs f ≡ seq xs ts f
unfolding read
seq_is [] ts f = none grammar ts f
seq_is {V} (x ∷ xs) ts f =
    split grammar ts (x ∷ []) xs (λ v. v) f ∙
    then_same (read x ts) (λ v rest. machine.all grammar rest xs (f v)) (λ v rest. seq xs rest (f v)) (λ v rest. seq_is xs rest (f v))

begins : (x : Symbol) (t : Piece) (ts : List Piece) (o : Option (Prod (Tree x))) →
    moved grammar t ts (elim o as (λ _. Move grammar (Tree x)) [
      | Some p ↦ goes (p.body ++ []) (join Tree (Tree x) p.body [] p.build (λ v. v))
      | None ↦ elim (without x) [ None ↦ stops | Some v ↦ ends v ]
    ]) ≡ by_row o (without x) t ts
begins x t ts (Some p) =
    split grammar ts p.body [] p.build (λ v. v) ∙
    then_same (machine.all grammar ts p.body p.build) (λ v rest. machine.all grammar rest [] v) (λ v rest. Ok (v, rest)) (λ v rest. none grammar rest v) ∙
    then_ok (machine.all grammar ts p.body p.build) ∙ seq_is p.body ts p.build
begins x t ts None = skips (without x)
  where
    skips : (o : Option (Tree x)) → moved grammar t ts (elim o as (λ _. Move grammar (Tree x)) [ None ↦ stops | Some v ↦ ends v ]) ≡ or_else o (t ∷ ts)
    skips None = refl
    skips (Some v) = refl

ends_with : {V : Type 0} (o : Option V) → ◌≡◌ {A = Reading V} (elim o [ None ↦ Err (Stuck 0) | Some v ↦ Ok (v, []) ]) (or_else o [])
ends_with None = refl
ends_with (Some v) = refl

pub read_is : (x : Symbol) (ts : List Piece) → read x ts ≡ reading (rows x) (without x) ts
unfolding read machine.all
read_is x [] = ends_with (without x)
read_is x (t ∷ ts) = begins x t ts (first_row (rows x) t.class t.at)

-- Rows that go on are read as the rows alone, and then the rest.
abbrev pub going : {A V : Type 0} (ys : List Symbol) → (A → Takes Tree ys V) → Option V → Option A → List Piece → Reading V
going ys k o None ts = or_else o ts
going ys k o (Some a) ts = seq ys ts (k a)

pub seq_join : {A V : Type 0} (xs ys : List Symbol) (ts : List Piece) (f : Takes Tree xs A) (k : A → Takes Tree ys V) →
    seq (xs ++ ys) ts (join Tree V xs ys f k) ≡ (seq xs ts f >>= (λ a rest. seq ys rest (k a)))
seq_join [] ys ts f k = refl
seq_join (x ∷ xs) ys ts f k =
    then_same (read x ts) (λ v rest. seq (xs ++ ys) rest (join Tree _ xs ys (f v) k)) (λ v rest. seq xs rest (f v) >>= (λ a more. seq ys more (k a)))
    (λ v rest. seq_join xs ys rest (f v) k) ∙
    sym (then_then (read x ts) (λ v rest. seq xs rest (f v)) (λ a rest. seq ys rest (k a)))

if_mapped : {A V : Type 0} (b : Bool) (p : Prod A) (ys : List Symbol) (k : A → Takes Tree ys V)
    → if_true b (and_then p ys k) ≡ option_map (λ q. and_then q ys k) (if_true b p)
if_mapped true p ys k = refl
if_mapped false p ys k = refl

begun_row : {A V : Type 0} (r : Row A) (ys : List Symbol) (k : A → Takes Tree ys V) (c : Class) (at : ℕ)
    → try (row_then r ys k) c at ≡ option_map (λ p. and_then p ys k) (try r c at)
begun_row (on_word w f) ys k (word v) at = if_mapped (nat_eq (word_code w) (word_code v)) (f at) ys k
begun_row (on_word w f) ys k (name s x) at = refl
begun_row (on_word w f) ys k (number n digits) at = refl
begun_row (on_word w f) ys k (operator o) at = refl
begun_row (on_word w f) ys k (wrong e) at = refl
begun_row (on_name f) ys k (word v) at = refl
begun_row (on_name f) ys k (name s x) at = refl
begun_row (on_name f) ys k (number n digits) at = refl
begun_row (on_name f) ys k (operator o) at = refl
begun_row (on_name f) ys k (wrong e) at = refl
begun_row (on_one_part f) ys k (word v) at = refl
begun_row (on_one_part f) ys k (name s x) at = if_mapped (is_one_part s) (f (record { at = at; name = x })) ys k
begun_row (on_one_part f) ys k (number n digits) at = refl
begun_row (on_one_part f) ys k (operator o) at = refl
begun_row (on_one_part f) ys k (wrong e) at = refl
begun_row (on_spelling r f) ys k (word v) at = refl
begun_row (on_spelling r f) ys k (name s x) at = if_mapped (nat_eq (spelling_code r) (spelling_code s)) (f (record { at = at; name = x })) ys k
begun_row (on_spelling r f) ys k (number n digits) at = refl
begun_row (on_spelling r f) ys k (operator o) at = refl
begun_row (on_spelling r f) ys k (wrong e) at = refl
begun_row (on_number f) ys k (word v) at = refl
begun_row (on_number f) ys k (name s x) at = refl
begun_row (on_number f) ys k (number n digits) at = refl
begun_row (on_number f) ys k (operator o) at = refl
begun_row (on_number f) ys k (wrong e) at = refl
begun_row (on_digit d f) ys k (word v) at = refl
begun_row (on_digit d f) ys k (name s x) at = refl
begun_row (on_digit d f) ys k (number n digits) at = if_mapped (nat_eq d n && nat_eq 1 digits) (f at) ys k
begun_row (on_digit d f) ys k (operator o) at = refl
begun_row (on_digit d f) ys k (wrong e) at = refl
begun_row (on_operator test f) ys k (word v) at = refl
begun_row (on_operator test f) ys k (name s x) at = refl
begun_row (on_operator test f) ys k (number n digits) at = refl
begun_row (on_operator test f) ys k (operator o) at = if_mapped (test o) (f o) ys k
begun_row (on_operator test f) ys k (wrong e) at = refl

pub first_begun : {A V : Type 0} (rs : List (Row A)) (ys : List Symbol) (k : A → Takes Tree ys V) (c : Class) (at : ℕ) →
    first_row (begins_as rs ys k) c at ≡ option_map (λ p. and_then p ys k) (first_row rs c at)
first_begun [] ys k c at = refl
first_begun {A} {V} (r ∷ rs) ys k c at =
    ap (λ (o : Option (Prod V)). elim o as (λ _. Option (Prod V)) [ Some p ↦ Some p | None ↦ first_row (begins_as rs ys k) c at ]) (begun_row r ys k c at) ∙
    go (try r c at) (first_begun rs ys k c at)
  where
    go : (o : Option (Prod A)) → first_row (begins_as rs ys k) c at ≡ option_map (λ p. and_then p ys k) (first_row rs c at) →
        ◌≡◌ {A = Option (Prod V)} (elim (option_map (λ p. and_then p ys k) o) [ Some p ↦ Some p | None ↦ first_row (begins_as rs ys k) c at ])
        (option_map (λ p. and_then p ys k) (elim o as (λ _. Option (Prod A)) [ Some p ↦ Some p | None ↦ first_row rs c at ]))
    go (Some p) more = refl
    go None more = more

goes_on : {A V : Type 0} (p : Prod A) (ys : List Symbol) (k : A → Takes Tree ys V) (o : Option V) (ts : List Piece) →
    seq (p.body ++ ys) ts (join Tree V p.body ys p.build k) ≡ (seq (p.body ++ []) ts (join Tree (Option A) p.body [] p.build (λ a. Some a)) >>= going ys k o)
goes_on {A} {V} p ys k o ts =
    seq_join p.body ys ts p.build k ∙
    sym (ap (λ (m : Reading (Option A)). m >>= going ys k o) (seq_join p.body [] ts p.build (λ a. Some a)) ∙
    then_then (seq p.body ts p.build) (λ a rest. Ok (Some a, rest)) (going ys k o))

-- Rows that go on are read as the rows alone, and then the rest.
pub begun : {A V : Type 0} (rs : List (Row A)) (ys : List Symbol) (k : A → Takes Tree ys V) (o : Option V) (ts : List Piece) →
    reading (begins_as rs ys k) o ts ≡ (maybe rs ts >>= going ys k o)
begun rs ys k o [] = refl
begun {A} {V} rs ys k o (t ∷ ts) =
    ap (λ (q : Option (Prod V)). by_row q o t ts) (first_begun rs ys k t.class t.at) ∙ go (first_row rs t.class t.at) ∙
    sym (ap (λ (q : Option (Prod (Option A))). by_row q (Some None) t ts >>= going ys k o) (first_begun rs [] (λ a. Some a) t.class t.at))
  where
    go : (q : Option (Prod A)) → by_row (option_map (λ p. and_then p ys k) q) o t ts
        ≡ (by_row (option_map (λ p. and_then p [] (λ a. Some a)) q) (Some None) t ts >>= going ys k o)
    go None = refl
    go (Some p) = goes_on p ys k o ts

abbrev pub need : {V : Type 0} → Option V → List Piece → Reading V
need (Some v) ts = Ok (v, ts)
need None ts = stuck ts

-- What has to be read.
pub needed : {A : Type 0} (rs : List (Row A)) (ts : List Piece) → reading rs None ts ≡ (maybe rs ts >>= need)
needed rs [] = refl
needed {A} rs (t ∷ ts) =
    go (first_row rs t.class t.at) ∙
    sym (ap (λ (q : Option (Prod (Option A))). by_row q (Some None) t ts >>= need) (first_begun rs [] (λ a. Some a) t.class t.at))
  where
    go : (q : Option (Prod A)) → by_row q None t ts ≡ (by_row (option_map (λ p. and_then p [] (λ a. Some a)) q) (Some None) t ts >>= need)
    go None = refl
    go (Some p) =
        sym (ap (λ (m : Reading (Option A)). m >>= need) (seq_join p.body [] ts p.build (λ a. Some a)) ∙
        then_then (seq p.body ts p.build) (λ a rest. Ok (Some a, rest)) need ∙ then_ok (seq p.body ts p.build))

pub read_number : (ts : List Piece) → read symbol.number_token ts ≡ reading (rows symbol.number_token) None ts
read_number ts = read_is symbol.number_token ts

pub read_plus : (ts : List Piece) → read symbol.plus_option ts ≡ reading (rows symbol.plus_option) (Some None) ts
read_plus ts = read_is symbol.plus_option ts

pub read_level : (ts : List Piece) → read symbol.level ts ≡ reading (rows symbol.level) None ts
read_level ts = read_is symbol.level ts

abbrev pub first_row_by : {V : Type 0} → Bool → Prod V → Option (Prod V)
first_row_by b p = elim (if_true b p) [ Some q ↦ Some q | None ↦ None ]

word_test : (b : Bool) (t : Piece) (ts : List Piece) (at : ℕ) →
    ◌≡◌ {A = Reading (Unit {0})} (by_row (first_row_by b (then [] tt)) None t ts) (by_row (first_row_by b (then [] at)) None t ts >>= (λ p rest. Ok (tt, rest)))
word_test true t ts at = refl
word_test false t ts at = refl

word_class : (w : Word) (t : Piece) (ts : List Piece) (c : Class) (at : ℕ) →
    by_row (first_row (rows (symbol.token w)) c at) None t ts ≡ (by_row (first_row (word_rows w) c at) None t ts >>= (λ p rest. Ok (tt, rest)))
word_class w t ts (word v) at = word_test (nat_eq (word_code w) (word_code v)) t ts at
word_class w t ts (name s x) at = refl
word_class w t ts (number n digits) at = refl
word_class w t ts (operator o) at = refl
word_class w t ts (wrong e) at = refl

pub read_word : (w : Word) (ts : List Piece) → read (symbol.token w) ts ≡ (reading (word_rows w) None ts >>= (λ at rest. Ok (tt, rest)))
read_word w [] = read_is (symbol.token w) []
read_word w (t ∷ ts) = read_is (symbol.token w) (t ∷ ts) ∙ word_class w t ts t.class t.at

pub read_level_atom : (ts : List Piece) → read symbol.level_atom ts ≡ (maybe level_atom_rows ts >>= need)
read_level_atom ts = read_is symbol.level_atom ts ∙ needed level_atom_rows ts

pub read_level_atoms : (ts : List Piece) → read symbol.level_atoms ts
    ≡ (maybe level_atom_rows ts >>= going (symbol.level_atoms ∷ []) (λ l ls. l ∷ ls) (Some []))
read_level_atoms ts = read_is symbol.level_atoms ts ∙ begun level_atom_rows (symbol.level_atoms ∷ []) (λ l ls. l ∷ ls) (Some []) ts

abbrev level_rest : (x : Ident) (ys : List Symbol) → (LevelTree → Takes Tree ys LevelTree) → Option LevelTree → List Piece → Reading LevelTree
level_rest x ys k m rest = elim m [ None ↦ named x rest | Some a ↦ seq ys rest (k a) ]

-- Where no atom of a level comes next, the word is a name.
name_alone : (x : Ident) (t : Piece) (ts : List Piece) (c : Class) (at : ℕ) →
    by_row (first_row (plus_row x ∷ []) c at) (Some (level_name x)) t ts ≡
    (by_row (first_row (rows symbol.plus_option) c at) (Some None) t ts >>= (λ m rest. Ok (plus x.at (level_name x) m, rest)))
name_alone x t ts (word v) at = refl
name_alone x t ts (name s y) at = refl
name_alone x t ts (number n digits) at = refl
name_alone x t ts (wrong e) at = refl
name_alone x t ts (operator o) at = tested (is_add o)
  where
    tested : (b : Bool) →
        by_row (first_row_by b (then (symbol.number_token ∷ []) (λ n. level_plus x.at (level_name x) n))) (Some (level_name x)) t ts ≡
        (by_row (first_row_by b (then (symbol.number_token ∷ []) (λ n. Some n))) (Some None) t ts >>= (λ m rest. Ok (plus x.at (level_name x) m, rest)))
    tested false = refl
    tested true = sym (then_then (read symbol.number_token ts) (λ n rest. Ok (Some n, rest)) (λ m rest. Ok (plus x.at (level_name x) m, rest)))

pub goes_on_by : {A V : Type 0} (p : Prod A) (ys : List Symbol) (k : A → Takes Tree ys V) (h : Option A → List Piece → Reading V) (ts : List Piece) →
    ((a : A) (rest : List Piece) → seq ys rest (k a) ≡ h (Some a) rest) →
    seq (p.body ++ ys) ts (join Tree V p.body ys p.build k) ≡ (seq (p.body ++ []) ts (join Tree (Option A) p.body [] p.build (λ a. Some a)) >>= h)
goes_on_by {A} {V} p ys k h ts e =
    seq_join p.body ys ts p.build k ∙
    then_same (seq p.body ts p.build) (λ a rest. seq ys rest (k a)) (λ a rest. h (Some a) rest) e ∙
    sym (ap (λ (m : Reading (Option A)). m >>= h) (seq_join p.body [] ts p.build (λ a. Some a)) ∙
    then_then (seq p.body ts p.build) (λ a rest. Ok (Some a, rest)) h)

words_row : (x : Ident) (ys : List Symbol) (k : LevelTree → Takes Tree ys LevelTree) (t : Piece) (ts : List Piece) (c : Class) (at : ℕ) →
    named x (t ∷ ts) ≡ Ok (level_name x, t ∷ ts) →
    by_row (first_row (begins_as level_atom_rows ys k) c at) (Some (level_name x)) t ts ≡
    (by_row (first_row (begins_as level_atom_rows [] (λ l. Some l)) c at) (Some None) t ts >>= level_rest x ys k)
words_row x ys k t ts c at h =
    ap (λ (q : Option (Prod LevelTree)). by_row q (Some (level_name x)) t ts) (first_begun level_atom_rows ys k c at) ∙ go (first_row level_atom_rows c at) ∙
    sym (ap (λ (q : Option (Prod (Option LevelTree))). by_row q (Some None) t ts >>= level_rest x ys k) (first_begun level_atom_rows [] (λ a. Some a) c at))
  where
    go : (q : Option (Prod LevelTree)) → by_row (option_map (λ p. and_then p ys k) q) (Some (level_name x)) t ts ≡
        (by_row (option_map (λ p. and_then p [] (λ a. Some a)) q) (Some None) t ts >>= level_rest x ys k)
    go None = sym h
    go (Some p) = goes_on_by p ys k (level_rest x ys k) ts (λ a rest. refl)

words_class : (x : Ident) (ys : List Symbol) (k : LevelTree → Takes Tree ys LevelTree) (t : Piece) (ts : List Piece) (c : Class) (at : ℕ) →
    named x (t ∷ ts) ≡ by_row (first_row (plus_row x ∷ []) c at) (Some (level_name x)) t ts →
    by_row (first_row (plus_row x ∷ begins_as level_atom_rows ys k) c at) (Some (level_name x)) t ts ≡
    (by_row (first_row (begins_as level_atom_rows [] (λ l. Some l)) c at) (Some None) t ts >>= level_rest x ys k)
words_class x ys k t ts (word v) at h = words_row x ys k t ts (word v) at h
words_class x ys k t ts (name s y) at h = words_row x ys k t ts (name s y) at h
words_class x ys k t ts (number n digits) at h = words_row x ys k t ts (number n digits) at h
words_class x ys k t ts (wrong e) at h = words_row x ys k t ts (wrong e) at h
words_class x ys k t ts (operator o) at h = sym h

named_is : (x : Ident) (t : Piece) (ts : List Piece) → named x (t ∷ ts) ≡ by_row (first_row (plus_row x ∷ []) t.class t.at) (Some (level_name x)) t ts
named_is x t ts =
    ap (λ (m : Reading (Option Num)). m >>= (λ n rest. Ok (plus x.at (level_name x) n, rest))) (read_plus (t ∷ ts)) ∙ sym (name_alone x t ts t.class t.at)

-- Behind a word that is the name of a level, or goes on as these rows.
words_level : (x : Ident) (ys : List Symbol) (k : LevelTree → Takes Tree ys LevelTree) (ts : List Piece) →
    reading (plus_row x ∷ begins_as level_atom_rows ys k) (Some (level_name x)) ts ≡
    (maybe level_atom_rows ts >>= (λ m rest. elim m as (λ _. Reading LevelTree) [ None ↦ named x rest | Some a ↦ seq ys rest (k a) ]))
words_level x ys k [] = sym (ap (λ (m : Reading (Option Num)). m >>= (λ n rest. Ok (plus x.at (level_name x) n, rest))) (read_plus []))
words_level x ys k (t ∷ ts) = words_class x ys k t ts t.class t.at (named_is x t ts)

pub read_max : (x : Ident) (ts : List Piece) → read (symbol.max_rest x) ts ≡ (maybe level_atom_rows ts >>= max_of x)
read_max x ts =
    read_is (symbol.max_rest x) ts ∙ words_level x (symbol.level_atom ∷ symbol.level_atoms ∷ []) (λ k l ls. level_max x.at (levels_of (k ∷ l ∷ ls))) ts ∙
    then_same (maybe level_atom_rows ts) (λ m rest.
    elim m as (λ _. Reading LevelTree) [
      | None ↦ named x rest
      | Some a ↦
          seq (symbol.level_atom ∷ symbol.level_atoms ∷ []) rest (λ l ls. level_max x.at (levels_of (a ∷ l ∷ ls)))
    ]) (max_of x) go
  where
    go : (m : Option LevelTree) (rest : List Piece) →
        ◌≡◌ {A = Reading LevelTree} (elim m [
          | None ↦ named x rest
          | Some a ↦
              seq (symbol.level_atom ∷ symbol.level_atoms ∷ []) rest (λ l ls. level_max x.at (levels_of (a ∷ l ∷ ls)))
        ]) (max_of x m rest)
    go None rest = refl
    go (Some a) rest =
        then_same (read symbol.level_atom rest) (λ l more. seq (symbol.level_atoms ∷ []) more (λ ls. level_max x.at (levels_of (a ∷ l ∷ ls))))
        (λ l more. behind (a ∷ l ∷ []) (read symbol.level_atoms more) >>= (λ ks end. Ok (level_max x.at (levels_of ks), end)))
        (λ l more. sym (behind_then (a ∷ l ∷ []) (read symbol.level_atoms more) (λ ks end. Ok (level_max x.at (levels_of ks), end))))

pub read_imax : (x : Ident) (ts : List Piece) → read (symbol.imax_rest x) ts ≡ (maybe level_atom_rows ts >>= imax_of x)
read_imax x ts = read_is (symbol.imax_rest x) ts ∙ words_level x (symbol.level_atom ∷ []) (λ k l. level_imax x.at k l) ts ∙
    then_same (maybe level_atom_rows ts) (λ m rest.
    elim m as (λ _. Reading LevelTree) [ None ↦ named x rest | Some a ↦ seq (symbol.level_atom ∷ []) rest (λ l. level_imax x.at a l) ]) (imax_of x) go
  where
    go : (m : Option LevelTree) (rest : List Piece) →
        ◌≡◌ {A = Reading LevelTree} (elim m [ None ↦ named x rest | Some a ↦ seq (symbol.level_atom ∷ []) rest (λ l. level_imax x.at a l) ]) (imax_of x m rest)
    go None rest = refl
    go (Some a) rest = refl

pub read_more_levels : (ts : List Piece) → read symbol.more_levels ts ≡ reading (rows symbol.more_levels) None ts
read_more_levels ts = read_is symbol.more_levels ts

pub read_written_levels : (ts : List Piece) → read symbol.written_levels ts ≡ reading (rows symbol.written_levels) (Some []) ts
read_written_levels ts = read_is symbol.written_levels ts

pub word_taken : (w v : Word) (s : Spot) (rest ts : List Piece) → v ≡ w → piece (word v) s ∷ rest ≡ ts → read (symbol.token w) ts ≡ Ok (tt, rest)
word_taken w v s rest ts e h =
    subst (λ (us : List Piece). ◌≡◌ {A = Reading (Unit {0})} (read (symbol.token w) us) (Ok (tt, rest))) h
    (read_is (symbol.token w) (piece (word v) s ∷ rest) ∙
    ap (λ (b : Bool). by_row {V = Unit {0}} (first_row_by b (then [] tt)) None (piece (word v) s) rest)
    (eq-eqb (word_code w) (word_code v) (ap word_code (sym e))))

pub read_any_name : (ts : List Piece) → read symbol.any_name ts ≡ reading (rows symbol.any_name) None ts
read_any_name ts = read_is symbol.any_name ts

pub read_one_part : (ts : List Piece) → read symbol.one_part ts ≡ (maybe one_part_rows ts >>= need)
read_one_part ts = read_is symbol.one_part ts ∙ needed one_part_rows ts

pub read_binder_name : (ts : List Piece) → read symbol.binder_name ts ≡ (maybe binder_name_rows ts >>= need)
read_binder_name ts = read_is symbol.binder_name ts ∙ needed binder_name_rows ts

pub read_optional_name : (ts : List Piece) → read symbol.optional_name ts ≡ reading (rows symbol.optional_name) (Some None) ts
read_optional_name ts = read_is symbol.optional_name ts

pub read_any_names : (ts : List Piece) → read symbol.any_names ts ≡ reading (rows symbol.any_names) (Some []) ts
read_any_names ts = read_is symbol.any_names ts

pub read_one_parts : (ts : List Piece) → read symbol.one_parts ts ≡ (maybe one_part_rows ts >>= going (symbol.one_parts ∷ []) (λ x xs. x ∷ xs) (Some []))
read_one_parts ts = read_is symbol.one_parts ts ∙ begun one_part_rows (symbol.one_parts ∷ []) (λ x xs. x ∷ xs) (Some []) ts

pub read_binder_names : (ts : List Piece) → read symbol.binder_names ts
    ≡ (maybe binder_name_rows ts >>= going (symbol.binder_names ∷ []) (λ x xs. x ∷ xs) (Some []))
read_binder_names ts = read_is symbol.binder_names ts ∙ begun binder_name_rows (symbol.binder_names ∷ []) (λ x xs. x ∷ xs) (Some []) ts

pub read_more_level_names : (ts : List Piece) → read symbol.more_level_names ts ≡ reading (rows symbol.more_level_names) None ts
read_more_level_names ts = read_is symbol.more_level_names ts

pub read_level_names : (ts : List Piece) → read symbol.level_names ts ≡ reading (rows symbol.level_names) (Some []) ts
read_level_names ts = read_is symbol.level_names ts

pub read_type_option : (ts : List Piece) → read symbol.type_option ts ≡ reading (rows symbol.type_option) (Some None) ts
read_type_option ts = read_is symbol.type_option ts

pub read_implicit_end : (ts : List Piece) → read symbol.implicit_end ts ≡ reading (rows symbol.implicit_end) None ts
read_implicit_end ts = read_is symbol.implicit_end ts

pub read_block : (ts : List Piece) → read symbol.block ts ≡ reading (rows symbol.block) None ts
read_block ts = read_is symbol.block ts

pub read_more_items : (ts : List Piece) → read symbol.more_items ts ≡ reading (rows symbol.more_items) None ts
read_more_items ts = read_is symbol.more_items ts

pub read_item : (ts : List Piece) → read symbol.item ts ≡ reading (rows symbol.item) None ts
read_item ts = read_is symbol.item ts

pub read_more_rules : (ts : List Piece) → read symbol.more_rules ts ≡ reading (rows symbol.more_rules) None ts
read_more_rules ts = read_is symbol.more_rules ts

pub read_arrow : (ts : List Piece) → read symbol.arrow_token ts ≡ reading (rows symbol.arrow_token) None ts
read_arrow ts = read_is symbol.arrow_token ts

pub some_taken : (w v : Word) (s : Spot) (rest ts : List Piece) → v ≡ w → piece (word v) s ∷ rest ≡ ts → maybe (word_rows w) ts ≡ Ok (Some s.at, rest)
some_taken w v s rest ts e h =
    subst (λ (us : List Piece). maybe (word_rows w) us ≡ Ok (Some s.at, rest)) h
    (ap (λ (b : Bool). by_row {V = Option ℕ} (first_row_by b (then [] (Some s.at))) (Some None) (piece (word v) s) rest)
    (eq-eqb (word_code w) (word_code v) (ap word_code (sym e))))
