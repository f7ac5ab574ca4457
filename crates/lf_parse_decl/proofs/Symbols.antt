-- Each symbol that commands have reads by its rows.
use Rattle.std.proofs.Common.{◌≡◌, ℕ, List, [], ◌∷◌, ◌<◌, length, Option, None, Some, Ok, Err, refl, sym, ap, ◌∙◌, arith}
use Rattle.lf_text.specs.declared.word.Word.TheVariants as words
use Rattle.lf_syntax.specs.declared.leaf.Ident.{Ident}
use Rattle.lf_syntax.specs.declared.term.Binders.{Binders}
use Rattle.lf_syntax.specs.declared.pattern.Pattern.{Pattern}
use Rattle.lf_syntax.specs.declared.pattern.Pattern.TheVariants.{Constructor, Zero, Successor}
use Rattle.lf_syntax.specs.declared.pattern.Alternative.{Alternative}
use Rattle.lf_syntax.specs.declared.command.CtorDecl.{CtorDecl}
use Rattle.lf_syntax.specs.declared.command.Helper.{Helper}
use Rattle.lf_syntax.specs.Piece.{Piece}
use Rattle.lf_syntax.specs.Predictive.{Takes}
use Rattle.lf_syntax.specs.Symbol.{Symbol, Tree, DefBody, by_value, by_alternatives}
use Rattle.lf_syntax.specs.Symbol as symbol
use Rattle.lf_syntax.specs.Row.{Row, Prod, then, begins_as, on_name, on_one_part}
use Rattle.lf_syntax.specs.Rows.{rows, binder_rows, binder_name_rows, one_part_rows, alternatives_rows}
use Rattle.lf_parse_term.specs.Descent.{stuck, Reading, read, reading, seq, maybe, ◌>>=◌}
use Rattle.lf_parse_term.specs.Front.{word_rows}
use Rattle.lf_parse_term.specs.declared.halt.Halt.{Halt}
use Rattle.lf_parse_term.specs.declared.halt.Halt.TheVariants.{Stuck}
use Rattle.lf_parse_term.proofs.Machine.{then_same, then_then}
use Rattle.lf_parse_term.proofs.Laws.{read_is, read_binder_names, seq_join, begun, needed, need, going}
use Rattle.lf_parse_term.proofs.First.{word_first, first_by, gone}
use Rattle.lf_parse_decl.specs.Parts.{digit_rows, add_rows, typed_value, alternative, ctor, some_alternatives, alternatives_body}
use Rattle.lf_parse_decl.specs.declared.head.TypedValue.{TypedValue}
use Rattle.lf_parse_decl.proofs.First.{no_rows, digit_first, add_first}

abbrev pub one_by : Option ℕ → List Piece → Reading (Unit {0})
one_by (Some at) ts = Ok (tt, ts)
one_by None ts = stuck ts

pub read_numeral_one : (ts : List Piece) → read symbol.numeral_one ts ≡ (maybe (digit_rows 1) ts >>= one_by)
read_numeral_one ts =
    read_is symbol.numeral_one ts ∙
    digit_first 1 (λ _. then [] tt) [] None ts ∙
    then_same (maybe (digit_rows 1) ts) (first_by (λ _. then [] tt) [] None) one_by go
  where
    go : (m : Option ℕ) (rest : List Piece) → first_by {V = Unit {0}} (λ _. then [] tt) [] None m rest ≡ one_by m rest
    go (Some at) rest = refl
    go None rest = no_rows None rest

pub read_axioms_word : (ts : List Piece) → read symbol.axioms_word ts ≡ reading (rows symbol.axioms_word) None ts
read_axioms_word ts = read_is symbol.axioms_word ts

pub read_where_option : (ts : List Piece) → read symbol.where_option ts ≡ reading (rows symbol.where_option) (Some tt) ts
read_where_option ts = read_is symbol.where_option ts

pub read_binder : (ts : List Piece) → read symbol.binder ts ≡ (maybe binder_rows ts >>= need)
read_binder ts = read_is symbol.binder ts ∙ needed binder_rows ts

pub read_parameters : (ts : List Piece) → read symbol.parameters ts ≡ (maybe binder_rows ts >>= going (symbol.parameters ∷ []) (λ b bs. b ∷ bs) (Some []))
read_parameters ts = read_is symbol.parameters ts ∙ begun binder_rows (symbol.parameters ∷ []) (λ b bs. b ∷ bs) (Some []) ts

-- Patterns.

abbrev pub named_rows : List (Row Pattern)
named_rows = on_one_part (λ x. then (symbol.pattern_rest x ∷ []) (λ p. p)) ∷ on_name (λ x. then (symbol.binder_names ∷ []) (Constructor x)) ∷ []

abbrev pub pattern_by : Option ℕ → List Piece → Reading Pattern
pattern_by (Some at) ts = Ok (Zero at, ts)
pattern_by None ts = reading named_rows None ts

pub read_pattern : (ts : List Piece) → read symbol.pattern ts ≡ (maybe (digit_rows 0) ts >>= pattern_by)
read_pattern ts =
    read_is symbol.pattern ts ∙
    digit_first 0 (λ at. then [] (Zero at)) named_rows None ts ∙
    then_same (maybe (digit_rows 0) ts) (first_by (λ at. then [] (Zero at)) named_rows None) pattern_by go
  where
    go : (m : Option ℕ) (rest : List Piece) → first_by (λ at. then [] (Zero at)) named_rows None m rest ≡ pattern_by m rest
    go (Some at) rest = refl
    go None rest = refl

-- A list of names behind what makes a tree of them.
names_of : {V : Type 0} (k : List Ident → V) (ts : List Piece) →
    reading (begins_as binder_name_rows (symbol.binder_names ∷ []) (λ y ys. k (y ∷ ys))) (Some (k [])) ts ≡ seq (symbol.binder_names ∷ []) ts k
names_of {V} k ts =
    begun binder_name_rows (symbol.binder_names ∷ []) (λ y ys. k (y ∷ ys)) (Some (k [])) ts ∙
    sym (ap (λ (m : Reading (List Ident)). m >>= (λ xs rest. Ok (k xs, rest))) (read_binder_names ts) ∙
    then_then (maybe binder_name_rows ts) (going (symbol.binder_names ∷ []) (λ x xs. x ∷ xs) (Some [])) (λ xs rest. Ok (k xs, rest)) ∙
    then_same (maybe binder_name_rows ts)
    (λ m rest. going (symbol.binder_names ∷ []) (λ x xs. x ∷ xs) (Some []) m rest >>= (λ xs more. Ok (k xs, more)))
    (going (symbol.binder_names ∷ []) (λ y ys. k (y ∷ ys)) (Some (k []))) go)
  where
    go : (m : Option Ident) (rest : List Piece) →
        (going (symbol.binder_names ∷ []) (λ x xs. x ∷ xs) (Some []) m rest >>= (λ xs more. Ok (k xs, more)))
        ≡ going (symbol.binder_names ∷ []) (λ y ys. k (y ∷ ys)) (Some (k [])) m rest
    go None rest = refl
    go (Some y) rest = then_then (read symbol.binder_names rest) (λ ys more. Ok (y ∷ ys, more)) (λ xs more. Ok (k xs, more))

abbrev pub pattern_rest_by : Ident → Option (Unit {0}) → List Piece → Reading Pattern
pattern_rest_by x (Some u) ts = seq (symbol.numeral_one ∷ []) ts (λ _. Successor x)
pattern_rest_by x None ts = seq (symbol.binder_names ∷ []) ts (λ xs. Constructor x xs)

abbrev names_rows : Ident → List (Row Pattern)
names_rows x = begins_as binder_name_rows (symbol.binder_names ∷ []) (λ y ys. Constructor x (y ∷ ys))

pub read_pattern_rest : (x : Ident) (ts : List Piece) → read (symbol.pattern_rest x) ts ≡ (maybe add_rows ts >>= pattern_rest_by x)
read_pattern_rest x ts =
    read_is (symbol.pattern_rest x) ts ∙
    add_first (then (symbol.numeral_one ∷ []) (λ _. Successor x)) (names_rows x) (Some (Constructor x [])) ts ∙
    then_same (maybe add_rows ts) (first_by (λ _. then (symbol.numeral_one ∷ []) (λ _. Successor x)) (names_rows x) (Some (Constructor x [])))
    (pattern_rest_by x) go
  where
    go : (m : Option (Unit {0})) (rest : List Piece) →
        first_by (λ _. then (symbol.numeral_one ∷ []) (λ _. Successor x)) (names_rows x) (Some (Constructor x [])) m rest ≡ pattern_rest_by x m rest
    go (Some u) rest = refl
    go None rest = names_of (λ xs. Constructor x xs) rest

-- Alternatives and constructors, each behind its `|`.

abbrev pub alternatives_by : Option ℕ → List Piece → Reading (List Alternative)
alternatives_by None ts = Ok ([], ts)
alternatives_by (Some at) ts = alternative at ts >>= (λ a rest. read symbol.alternatives rest >>= (λ more end. Ok (a ∷ more, end)))

abbrev alternative_row : ℕ → Prod (List Alternative)
alternative_row at =
    then (symbol.pattern ∷ symbol.token words.FatArrow ∷ symbol.term 0 ∷ symbol.alternatives ∷ [])
    (λ p _ t more. record { at = at; pattern = p; term = t } ∷ more)

pub read_alternatives : (ts : List Piece) → read symbol.alternatives ts ≡ (maybe (word_rows words.Bar) ts >>= alternatives_by)
unfolding alternative
read_alternatives ts =
    read_is symbol.alternatives ts ∙
    word_first words.Bar alternative_row [] (Some []) ts ∙
    then_same (maybe (word_rows words.Bar) ts) (first_by alternative_row [] (Some [])) alternatives_by go
  where
    go : (m : Option ℕ) (rest : List Piece) → first_by alternative_row [] (Some []) m rest ≡ alternatives_by m rest
    go (Some at) rest =
        seq_join (symbol.pattern ∷ symbol.token words.FatArrow ∷ symbol.term 0 ∷ []) (symbol.alternatives ∷ []) rest
        (λ p _ t. record { at = at; pattern = p; term = t }) (λ a more. a ∷ more)
    go None rest = no_rows (Some []) rest

abbrev pub ctors_by : Option ℕ → List Piece → Reading (List CtorDecl)
ctors_by None ts = Ok ([], ts)
ctors_by (Some at) ts = ctor at ts >>= (λ c rest. read symbol.ctors rest >>= (λ more end. Ok (c ∷ more, end)))

abbrev ctor_row : ℕ → Prod (List CtorDecl)
ctor_row at =
    then (symbol.one_part ∷ symbol.parameters ∷ symbol.type_option ∷ symbol.ctors ∷ [])
    (λ x bs ty more. record { at = at; name = x; binders = bs; ty = ty } ∷ more)

pub read_ctors : (ts : List Piece) → read symbol.ctors ts ≡ (maybe (word_rows words.Bar) ts >>= ctors_by)
unfolding ctor
read_ctors ts =
    read_is symbol.ctors ts ∙
    word_first words.Bar ctor_row [] (Some []) ts ∙
    then_same (maybe (word_rows words.Bar) ts) (first_by ctor_row [] (Some [])) ctors_by go
  where
    go : (m : Option ℕ) (rest : List Piece) → first_by ctor_row [] (Some []) m rest ≡ ctors_by m rest
    go (Some at) rest =
        seq_join (symbol.one_part ∷ symbol.parameters ∷ symbol.type_option ∷ []) (symbol.ctors ∷ []) rest
        (λ x bs ty. record { at = at; name = x; binders = bs; ty = ty }) (λ c more. c ∷ more)
    go None rest = no_rows (Some []) rest

-- Fields and helpers.

pub read_field : (ts : List Piece) → read symbol.field ts ≡
    seq (symbol.one_part ∷ symbol.one_parts ∷ symbol.token words.Colon ∷ symbol.term 0 ∷ []) ts (λ x xs _ ty. record { at = x.at; names = x ∷ xs; ty = ty })
read_field ts =
    read_is symbol.field ts ∙
    gone one_part_rows (symbol.one_parts ∷ symbol.token words.Colon ∷ symbol.term 0 ∷ []) (λ x xs _ ty. record { at = x.at; names = x ∷ xs; ty = ty }) ts ∙
    sym (ap (λ (m : Reading Ident). m >>= (λ x rest. seq (symbol.one_parts ∷ symbol.token words.Colon ∷ symbol.term 0 ∷ []) rest
    (λ xs _ ty. record { at = x.at; names = x ∷ xs; ty = ty }))) (read_is symbol.one_part ts))

pub read_more_fields : (ts : List Piece) → read symbol.more_fields ts ≡ reading (rows symbol.more_fields) None ts
read_more_fields ts = read_is symbol.more_fields ts

pub read_fields_option : (ts : List Piece) → read symbol.fields_option ts ≡ reading (rows symbol.fields_option) (Some []) ts
read_fields_option ts = read_is symbol.fields_option ts

-- A type and a value, and the symbols behind them.
pub typed_then : {V : Type 0} (ys : List Symbol) (k : TypedValue → Takes Tree ys V) (ts : List Piece) →
    seq (symbol.token words.Colon ∷ symbol.term 0 ∷ symbol.token words.Assign ∷ symbol.term 0 ∷ ys) ts (λ _ ty _ v. k (record { ty = ty; value = v }))
    ≡ (typed_value ts >>= (λ s rest. seq ys rest (k s)))
unfolding typed_value
typed_then ys k ts =
    seq_join (symbol.token words.Colon ∷ symbol.term 0 ∷ symbol.token words.Assign ∷ symbol.term 0 ∷ []) ys ts (λ _ ty _ v. record { ty = ty; value = v }) k

abbrev pub helper_of : Ident → List Binders → TypedValue → Helper
helper_of x bs s = record { at = x.at; name = x; binders = bs; ty = s.ty; value = s.value }

abbrev helper_behind : Ident → List Piece → Reading Helper
helper_behind x ts =
    seq (symbol.parameters ∷ symbol.token words.Colon ∷ symbol.term 0 ∷ symbol.token words.Assign ∷ symbol.term 0 ∷ []) ts
    (λ bs _ ty _ v. record { at = x.at; name = x; binders = bs; ty = ty; value = v })

pub read_helper : (ts : List Piece) → read symbol.helper ts ≡
    (read symbol.one_part ts >>= (λ x rest. read symbol.parameters rest >>= (λ bs more. typed_value more >>= (λ s end. Ok (helper_of x bs s, end)))))
read_helper ts =
    read_is symbol.helper ts ∙
    gone one_part_rows (symbol.parameters ∷ symbol.token words.Colon ∷ symbol.term 0 ∷ symbol.token words.Assign ∷ symbol.term 0 ∷ [])
    (λ x bs _ ty _ v. record { at = x.at; name = x; binders = bs; ty = ty; value = v }) ts ∙
    sym (ap (λ (m : Reading Ident). m >>= helper_behind) (read_is symbol.one_part ts)) ∙
    then_same (read symbol.one_part ts) helper_behind
    (λ x rest. read symbol.parameters rest >>= (λ bs more. typed_value more >>= (λ s end. Ok (helper_of x bs s, end))))
    (λ x rest. then_same (read symbol.parameters rest)
    (λ bs more. seq (symbol.token words.Colon ∷ symbol.term 0 ∷ symbol.token words.Assign ∷ symbol.term 0 ∷ []) more
    (λ _ ty _ v. helper_of x bs (record { ty = ty; value = v })))
    (λ bs more. typed_value more >>= (λ s end. Ok (helper_of x bs s, end)))
    (λ bs more. typed_then [] (λ s. helper_of x bs s) more))

pub read_more_helpers : (ts : List Piece) → read symbol.more_helpers ts ≡ reading (rows symbol.more_helpers) None ts
read_more_helpers ts = read_is symbol.more_helpers ts

pub read_helpers : (ts : List Piece) → read symbol.helpers ts ≡ reading (rows symbol.helpers) (Some []) ts
read_helpers ts = read_is symbol.helpers ts

-- What a definition says of its name.

pub read_def_rest : (ts : List Piece) → read symbol.def_rest ts ≡ reading (rows symbol.def_rest) None ts
read_def_rest ts = read_is symbol.def_rest ts

abbrev body_row : ℕ → Prod DefBody
body_row at =
    then (symbol.pattern ∷ symbol.token words.FatArrow ∷ symbol.term 0 ∷ symbol.alternatives ∷ [])
    (λ p _ t more. by_alternatives (record { at = at; pattern = p; term = t } ∷ more))

alternatives_is : (ts : List Piece) → reading (begins_as alternatives_rows [] by_alternatives) None ts ≡ alternatives_body ts
unfolding alternatives_body alternative
alternatives_is ts =
    word_first words.Bar body_row [] None ts ∙
    sym (ap (λ (m : Reading (List Alternative)). m >>= some_alternatives) (read_alternatives ts) ∙
    then_then (maybe (word_rows words.Bar) ts) alternatives_by some_alternatives ∙
    then_same (maybe (word_rows words.Bar) ts) (λ m rest. alternatives_by m rest >>= some_alternatives) (first_by body_row [] None) go)
  where
    go : (m : Option ℕ) (rest : List Piece) → (alternatives_by m rest >>= some_alternatives) ≡ first_by body_row [] None m rest
    go None rest = sym (no_rows None rest)
    go (Some at) rest =
        then_then (alternative at rest) (λ a more. read symbol.alternatives more >>= (λ all end. Ok (a ∷ all, end))) some_alternatives ∙
        then_same (alternative at rest) (λ a more. read symbol.alternatives more >>= (λ all end. Ok (a ∷ all, end)) >>= some_alternatives)
        (λ a more. seq (symbol.alternatives ∷ []) more (λ all. by_alternatives (a ∷ all)))
        (λ a more. then_then (read symbol.alternatives more) (λ all end. Ok (a ∷ all, end)) some_alternatives) ∙
        sym (seq_join (symbol.pattern ∷ symbol.token words.FatArrow ∷ symbol.term 0 ∷ []) (symbol.alternatives ∷ []) rest
        (λ p _ t. record { at = at; pattern = p; term = t }) (λ a all. by_alternatives (a ∷ all)))

abbrev pub def_body_by : Option ℕ → List Piece → Reading DefBody
def_body_by (Some at) ts = seq (symbol.term 0 ∷ symbol.helpers ∷ []) ts by_value
def_body_by None ts = alternatives_body ts

pub read_def_body : (ts : List Piece) → read symbol.def_body ts ≡ (maybe (word_rows words.Assign) ts >>= def_body_by)
read_def_body ts =
    read_is symbol.def_body ts ∙
    word_first words.Assign (λ _. then (symbol.term 0 ∷ symbol.helpers ∷ []) by_value) (begins_as alternatives_rows [] by_alternatives) None ts ∙
    then_same (maybe (word_rows words.Assign) ts)
    (first_by (λ _. then (symbol.term 0 ∷ symbol.helpers ∷ []) by_value) (begins_as alternatives_rows [] by_alternatives) None) def_body_by go
  where
    go : (m : Option ℕ) (rest : List Piece) →
        first_by (λ _. then (symbol.term 0 ∷ symbol.helpers ∷ []) by_value) (begins_as alternatives_rows [] by_alternatives) None m rest ≡ def_body_by m rest
    go (Some at) rest = refl
    go None rest = alternatives_is rest

pub body_err : (ts : List Piece) (e : Halt) → read symbol.alternatives ts ≡ Err e → alternatives_body ts ≡ Err e
unfolding alternatives_body
body_err ts e h = ap (λ (m : Reading (List Alternative)). m >>= some_alternatives) h

pub body_empty : (all : List Alternative) (ts rest : List Piece) → read symbol.alternatives ts ≡ Ok (all, rest) → length all ≡ 0
    → alternatives_body ts ≡ Err (Stuck (length rest))
unfolding alternatives_body
body_empty [] ts rest h e = ap (λ (m : Reading (List Alternative)). m >>= some_alternatives) h
body_empty (a ∷ all) ts rest h e = absurd (omega arith)

pub body_some : (all : List Alternative) (ts rest : List Piece) → read symbol.alternatives ts ≡ Ok (all, rest) → 0 < length all
    → alternatives_body ts ≡ Ok (by_alternatives all, rest)
unfolding alternatives_body
body_some [] ts rest h e = absurd (omega arith)
body_some (a ∷ all) ts rest h e = ap (λ (m : Reading (List Alternative)). m >>= some_alternatives) h
