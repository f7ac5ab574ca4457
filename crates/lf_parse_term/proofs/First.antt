-- Rows of which the first is looked at by itself.
use Rattle.std.proofs.Common.{◌≡◌, ℕ, Bool, true, false, nat_eq, List, [], ◌∷◌, ◌++◌, Option, None, Some, Result, Ok, Err, refl, sym, ap, ◌∙◌}
use Rattle.std.specs.Prelude.{option_map}
use Rattle.lf_text.specs.declared.operator.Op.{Op}
use Rattle.lf_text.specs.declared.word.Word.{Word}
use Rattle.lf_text.specs.declared.word.Word.TheVariants as words
use Rattle.lf_syntax.specs.declared.leaf.Ident.{Ident}
use Rattle.lf_syntax.specs.Predictive.{Takes, join}
use Rattle.lf_syntax.specs.Piece.{Piece, Class, word, name, number, operator, wrong, word_code}
use Rattle.lf_syntax.specs.Symbol.{Symbol, Tree}
use Rattle.lf_syntax.specs.Levels.{is_arrow}
use Rattle.lf_syntax.specs.Build.{underscore_at}
use Rattle.lf_syntax.specs.Row.{Row, Prod, then, first_row, begins_as, and_then, try, if_true, is_one_part, on_word, on_one_part, on_operator}
use Rattle.lf_syntax.specs.Rows.{one_part_rows, binder_name_rows}
use Rattle.lf_parse_term.specs.Descent.{stuck, Reading, read, reading, by_row, seq, maybe, or_else, ◌>>=◌}
use Rattle.lf_parse_term.specs.Front.{word_rows, arrow_rows}
use Rattle.lf_parse_term.proofs.Machine.{then_same, then_ok, then_then}
use Rattle.lf_parse_term.proofs.Laws.{read_is, begun, needed, need, going, first_begun, goes_on_by, seq_join}

-- What may be read, or else what stands for it.
abbrev pub else_by : {A : Type 0} → Option A → Option A → List Piece → Reading A
else_by o None ts = or_else o ts
else_by o (Some a) ts = Ok (a, ts)

pub offered : {A : Type 0} (rs : List (Row A)) (o : Option A) (ts : List Piece) → reading rs o ts ≡ (maybe rs ts >>= else_by o)
offered rs o [] = refl
offered {A} rs o (t ∷ ts) =
    go (first_row rs t.class t.at) ∙
    sym (ap (λ (q : Option (Prod (Option A))). by_row q (Some None) t ts >>= else_by o) (first_begun rs [] (λ a. Some a) t.class t.at))
  where
    go : (q : Option (Prod A)) → by_row q o t ts ≡ (by_row (option_map (λ p. and_then p [] (λ a. Some a)) q) (Some None) t ts >>= else_by o)
    go None = refl
    go (Some p) =
        sym (ap (λ (m : Reading (Option A)). m >>= else_by o) (seq_join p.body [] ts p.build (λ a. Some a)) ∙
        then_then (seq p.body ts p.build) (λ a rest. Ok (Some a, rest)) (else_by o) ∙ then_ok (seq p.body ts p.build))

-- What has to be read, and the symbols behind it.
pub gone : {A V : Type 0} (rs : List (Row A)) (ys : List Symbol) (k : A → Takes Tree ys V) (ts : List Piece) →
    reading (begins_as rs ys k) None ts ≡ (reading rs None ts >>= (λ a rest. seq ys rest (k a)))
gone {A} {V} rs ys k ts =
    begun rs ys k None ts ∙
    sym (ap (λ (m : Reading A). m >>= (λ a rest. seq ys rest (k a))) (needed rs ts) ∙
    then_then (maybe rs ts) need (λ a rest. seq ys rest (k a)) ∙
    then_same (maybe rs ts) (λ m rest. need m rest >>= (λ a more. seq ys more (k a))) (going ys k None) go)
  where
    go : (m : Option A) (rest : List Piece) → (need m rest >>= (λ a more. seq ys more (k a))) ≡ going ys k None m rest
    go None rest = refl
    go (Some a) rest = refl

abbrev pub first_or : {V : Type 0} → Option (Prod V) → Option (Prod V) → Option (Prod V)
first_or o more = elim o [ Some p ↦ Some p | None ↦ more ]

-- The production where the first is there, else the other rows.
abbrev pub first_by : {A V : Type 0} → (A → Prod V) → List (Row V) → Option V → Option A → List Piece → Reading V
first_by F qs o (Some a) ts = seq (F a).body ts (F a).build
first_by F qs o None ts = reading qs o ts

tested : {A V : Type 0} (b : Bool) (a : A) (F : A → Prod V) (qs : List (Row V)) (o : Option V) (more : Option (Prod V)) (t : Piece) (ts : List Piece) →
    reading qs o (t ∷ ts) ≡ by_row more o t ts →
    by_row (first_or (if_true b (F a)) more) o t ts ≡ (by_row (first_or (if_true b (then [] (Some a))) None) (Some None) t ts >>= first_by F qs o)
tested true a F qs o more t ts h = refl
tested false a F qs o more t ts h = sym h

word_class : {V : Type 0} (w : Word) (F : ℕ → Prod V) (qs : List (Row V)) (o : Option V) (t : Piece) (ts : List Piece) (c : Class) (at : ℕ) →
    reading qs o (t ∷ ts) ≡ by_row (first_row qs c at) o t ts →
    by_row (first_row (on_word w F ∷ qs) c at) o t ts
    ≡ (by_row (first_row (begins_as (word_rows w) [] (λ a. Some a)) c at) (Some None) t ts >>= first_by F qs o)
word_class w F qs o t ts (word v) at h = tested (nat_eq (word_code w) (word_code v)) at F qs o (first_row qs (word v) at) t ts h
word_class w F qs o t ts (name s x) at h = sym h
word_class w F qs o t ts (number n digits) at h = sym h
word_class w F qs o t ts (operator p) at h = sym h
word_class w F qs o t ts (wrong e) at h = sym h

pub word_first : {V : Type 0} (w : Word) (F : ℕ → Prod V) (qs : List (Row V)) (o : Option V) (ts : List Piece) →
    reading (on_word w F ∷ qs) o ts ≡ (maybe (word_rows w) ts >>= first_by F qs o)
word_first w F qs o [] = refl
word_first w F qs o (t ∷ ts) = word_class w F qs o t ts t.class t.at refl

part_class : {V : Type 0} (F : Ident → Prod V) (qs : List (Row V)) (o : Option V) (t : Piece) (ts : List Piece) (c : Class) (at : ℕ) →
    reading qs o (t ∷ ts) ≡ by_row (first_row qs c at) o t ts →
    by_row (first_row (on_one_part F ∷ qs) c at) o t ts
    ≡ (by_row (first_row (begins_as one_part_rows [] (λ a. Some a)) c at) (Some None) t ts >>= first_by F qs o)
part_class F qs o t ts (word v) at h = sym h
part_class F qs o t ts (name s x) at h = tested (is_one_part s) (record { at = at; name = x }) F qs o (first_row qs (name s x) at) t ts h
part_class F qs o t ts (number n digits) at h = sym h
part_class F qs o t ts (operator p) at h = sym h
part_class F qs o t ts (wrong e) at h = sym h

pub part_first : {V : Type 0} (F : Ident → Prod V) (qs : List (Row V)) (o : Option V) (ts : List Piece) →
    reading (on_one_part F ∷ qs) o ts ≡ (maybe one_part_rows ts >>= first_by F qs o)
part_first F qs o [] = refl
part_first F qs o (t ∷ ts) = part_class F qs o t ts t.class t.at refl

abbrev pub named_rows : {V : Type 0} → (Ident → Prod V) → List (Row V) → List (Row V)
named_rows F qs = on_one_part F ∷ on_word words.Underscore (λ p. F (underscore_at p)) ∷ qs

name_class : {V : Type 0} (F : Ident → Prod V) (qs : List (Row V)) (o : Option V) (t : Piece) (ts : List Piece) (c : Class) (at : ℕ) →
    reading qs o (t ∷ ts) ≡ by_row (first_row qs c at) o t ts →
    by_row (first_row (named_rows F qs) c at) o t ts
    ≡ (by_row (first_row (begins_as binder_name_rows [] (λ a. Some a)) c at) (Some None) t ts >>= first_by F qs o)
name_class F qs o t ts (word v) at h = tested (nat_eq (word_code words.Underscore) (word_code v)) (underscore_at at) F qs o (first_row qs (word v) at) t ts h
name_class F qs o t ts (name s x) at h = tested (is_one_part s) (record { at = at; name = x }) F qs o (first_row qs (name s x) at) t ts h
name_class F qs o t ts (number n digits) at h = sym h
name_class F qs o t ts (operator p) at h = sym h
name_class F qs o t ts (wrong e) at h = sym h

pub name_first : {V : Type 0} (F : Ident → Prod V) (qs : List (Row V)) (o : Option V) (ts : List Piece) →
    reading (named_rows F qs) o ts ≡ (maybe binder_name_rows ts >>= first_by F qs o)
name_first F qs o [] = refl
name_first F qs o (t ∷ ts) = name_class F qs o t ts t.class t.at refl

arrow_class : {V : Type 0} (P : Prod V) (qs : List (Row V)) (o : Option V) (t : Piece) (ts : List Piece) (c : Class) (at : ℕ) →
    reading qs o (t ∷ ts) ≡ by_row (first_row qs c at) o t ts →
    by_row (first_row (on_operator is_arrow (λ _. P) ∷ qs) c at) o t ts
    ≡ (by_row (first_row (begins_as arrow_rows [] (λ a. Some a)) c at) (Some None) t ts >>= first_by (λ _. P) qs o)
arrow_class P qs o t ts (word v) at h = sym h
arrow_class P qs o t ts (name s x) at h = sym h
arrow_class P qs o t ts (number n digits) at h = sym h
arrow_class P qs o t ts (operator p) at h = tested {A = Unit {0}} (is_arrow p) tt (λ _. P) qs o (first_row qs (operator p) at) t ts h
arrow_class P qs o t ts (wrong e) at h = sym h

pub arrow_first : {V : Type 0} (P : Prod V) (qs : List (Row V)) (o : Option V) (ts : List Piece) →
    reading (on_operator is_arrow (λ _. P) ∷ qs) o ts ≡ (maybe arrow_rows ts >>= first_by (λ _. P) qs o)
arrow_first P qs o [] = refl
arrow_first P qs o (t ∷ ts) = arrow_class P qs o t ts t.class t.at refl

pub first_append : {V : Type 0} (ps qs : List (Row V)) (c : Class) (at : ℕ) → first_row (ps ++ qs) c at ≡ first_or (first_row ps c at) (first_row qs c at)
first_append [] qs c at = refl
first_append {V} (p ∷ ps) qs c at = go (try p c at) (first_append ps qs c at)
  where
    go : (o : Option (Prod V)) → first_row (ps ++ qs) c at ≡ first_or (first_row ps c at) (first_row qs c at) →
        first_or o (first_row (ps ++ qs) c at) ≡ first_or (first_or o (first_row ps c at)) (first_row qs c at)
    go (Some q) ih = refl
    go None ih = ih

-- The symbols behind what is there, else the other rows.
abbrev pub append_by : {A V : Type 0} (ys : List Symbol) → (A → Takes Tree ys V) → List (Row V) → Option V → Option A → List Piece → Reading V
append_by ys k qs o None ts = reading qs o ts
append_by ys k qs o (Some a) ts = seq ys ts (k a)

pub append_first : {A V : Type 0} (rs : List (Row A)) (ys : List Symbol) (k : A → Takes Tree ys V) (qs : List (Row V)) (o : Option V) (ts : List Piece) →
    reading (begins_as rs ys k ++ qs) o ts ≡ (maybe rs ts >>= append_by ys k qs o)
append_first rs ys k qs o [] = refl
append_first {A} {V} rs ys k qs o (t ∷ ts) =
    ap (λ (q : Option (Prod V)). by_row q o t ts)
    (first_append (begins_as rs ys k) qs t.class t.at
    ∙ ap (λ (q : Option (Prod V)). first_or q (first_row qs t.class t.at)) (first_begun rs ys k t.class t.at)) ∙
    go (first_row rs t.class t.at) ∙
    sym (ap (λ (q : Option (Prod (Option A))). by_row q (Some None) t ts >>= append_by ys k qs o) (first_begun rs [] (λ a. Some a) t.class t.at))
  where
    go : (q : Option (Prod A)) → by_row (first_or (option_map (λ p. and_then p ys k) q) (first_row qs t.class t.at)) o t ts ≡
        (by_row (option_map (λ p. and_then p [] (λ a. Some a)) q) (Some None) t ts >>= append_by ys k qs o)
    go None = refl
    go (Some p) = goes_on_by p ys k (append_by ys k qs o) ts (λ a rest. refl)
