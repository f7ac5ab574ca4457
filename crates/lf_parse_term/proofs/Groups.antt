-- What stands behind names in parentheses and brackets.
use Rattle.std.proofs.Common.{◌≡◌, ℕ, Bool, true, false, nat_eq, List, [], ◌∷◌, ◌++◌, map, Option, None, Some, Result, Ok, Err, refl, sym, ap, ◌∙◌}
use Rattle.lf_name.specs.declared.binder.BinderKind.TheVariants.{Inst}
use Rattle.lf_text.specs.declared.operator.Op.{Op}
use Rattle.lf_text.specs.declared.word.Word.{Word}
use Rattle.lf_text.specs.declared.word.Word.TheVariants as words
use Rattle.lf_syntax.specs.declared.leaf.Ident.{Ident}
use Rattle.lf_syntax.specs.declared.term.Binders.{Binders}
use Rattle.lf_syntax.specs.Piece.{Piece, Class, word, name, number, operator, wrong, word_code}
use Rattle.lf_syntax.specs.Predictive.{Takes}
use Rattle.lf_syntax.specs.Symbol.{Symbol, Tree, Spine, GroupEnd, BinderEnd, arrow_to, arguments_to}
use Rattle.lf_syntax.specs.Symbol as symbol
use Rattle.lf_syntax.specs.Tree.{LevelTree, TermTree, paren, option_of, hole, ident}
use Rattle.lf_syntax.specs.Levels.{operand_level, is_arrow}
use Rattle.lf_syntax.specs.Build.{underscore_at, is_underscore, with_arguments, applied, chain, name_term, names_spine, group_of, close_of}
use Rattle.lf_syntax.specs.Row.{Row, Prod, then, first_row, begins_as, if_true, on_one_part, on_word, on_operator}
use Rattle.lf_syntax.specs.Rows.{
  rows,
  operand_rows,
  argument_rows,
  operator_rows,
  group_end_rows,
  written_levels_rows,
  name_levels_rows,
  group_names_rows_by,
  binder_end_rows,
  binder_name_rows,
  bracket_name_rows,
  binders_at,
  unnamed,
}
use Rattle.lf_parse_term.specs.Descent.{stuck, Reading, read, reading, by_row, seq, maybe, or_else, ◌>>=◌}
use Rattle.lf_parse_term.specs.Front.{word_rows, arrow_rows}
use Rattle.lf_parse_term.specs.Spine.{
  settled,
  list_of,
  extend,
  extended,
  chained,
  chain_of,
  operation,
  closed_rows,
  name_terms,
  last_levels,
  end_by,
  named_close,
  names_end,
  bracket_type,
  bracket_end,
  bracket_name_by,
}
use Rattle.lf_parse_term.proofs.Machine.{then_same, then_ok, then_then}
use Rattle.lf_parse_term.proofs.Laws.{read_is, begun, going}
use Rattle.lf_parse_term.proofs.First.{
  word_first,
  part_first,
  name_first,
  arrow_first,
  append_first,
  first_append,
  first_by,
  first_or,
  named_rows,
  append_by,
  offered,
  else_by,
  gone,
}
use Rattle.lf_parse_term.proofs.Arguments.{read_arguments}

-- The terms with more arguments are this term, with operators behind it.
record Opens (terms : List TermTree) (T : List TermTree → TermTree) : Type 0 where
  opens : (more : List TermTree) (ts : List Piece) → chain_of 0 (extend terms more) ts ≡ chained (T more) (read (symbol.operators 0 operand_level) ts)

-- Arguments and operators behind the terms, and this symbol.
abbrev ending : {V : Type 0} (E : Symbol) → (TermTree → Tree E → V) → (List TermTree → TermTree) → List TermTree → List Piece → Reading V
ending E kE T more ts = seq (symbol.operators 0 operand_level ∷ E ∷ []) ts (λ ops e. kE (chain (T more) ops) e)

ended : {V : Type 0} (E : Symbol) (kE : TermTree → Tree E → V) (terms : List TermTree) (T : List TermTree → TermTree) → Opens terms T
    → (m : Reading (List TermTree)) →
    (m >>= ending E kE T) ≡ ((extended terms m >>= chain_of 0) >>= (λ t rest. seq (E ∷ []) rest (kE t)))
unfolding extended chained
ended E kE terms T o (Err e) = refl
ended {V} E kE terms T o (Ok x) =
    sym (ap (λ (m : Reading TermTree). m >>= (λ t rest. seq (E ∷ []) rest (kE t))) (o.opens x.0 x.1) ∙
    then_then (read (symbol.operators 0 operand_level) x.1) (λ ops rest. Ok (chain (T x.0) ops, rest)) (λ t rest. seq (E ∷ []) rest (kE t)))

operation_is : {V : Type 0} (E : Symbol) (kE : TermTree → Tree E → V) (terms : List TermTree) (T : List TermTree → TermTree) → Opens terms T
    → (ts : List Piece) →
    (read symbol.arguments ts >>= ending E kE T) ≡ (operation 0 terms ts >>= (λ t rest. seq (E ∷ []) rest (kE t)))
unfolding operation
operation_is E kE terms T o ts = ended E kE terms T o (read symbol.arguments ts)

abbrev operand_part : {V : Type 0} (E : Symbol) → (TermTree → Tree E → V) → (List TermTree → TermTree) → List (Row V)
operand_part E kE T = begins_as operand_rows (symbol.operators 0 operand_level ∷ E ∷ []) (λ s ops e. kE (chain (T (list_of s)) ops) e)

abbrev operator_part : {V : Type 0} (E : Symbol) → (TermTree → Tree E → V) → (List TermTree → TermTree) → List (Row V)
operator_part E kE T = begins_as (operator_rows 0 operand_level) (E ∷ []) (λ ops e. kE (chain (T []) ops) e)

operators_tail : {V : Type 0} (E : Symbol) (kE : TermTree → Tree E → V) (T : List TermTree → TermTree) (C : List (Row V)) →
    ((ts : List Piece) → reading C None ts ≡ seq (E ∷ []) ts (kE (T []))) → (ts : List Piece)
    → reading (operator_part E kE T ++ C) None ts ≡ ending E kE T [] ts
operators_tail {V} E kE T C h ts =
    append_first (operator_rows 0 operand_level) (E ∷ []) (λ ops e. kE (chain (T []) ops) e) C None ts ∙
    sym (ap (λ (m : Reading (List (Op × TermTree))). m >>= (λ ops rest. seq (E ∷ []) rest (kE (chain (T []) ops))))
    (read_is (symbol.operators 0 operand_level) ts ∙ offered (operator_rows 0 operand_level) (Some []) ts) ∙
    then_then (maybe (operator_rows 0 operand_level) ts) (else_by (Some [])) (λ ops rest. seq (E ∷ []) rest (kE (chain (T []) ops))) ∙
    then_same (maybe (operator_rows 0 operand_level) ts) (λ m rest. else_by (Some []) m rest >>= (λ ops more. seq (E ∷ []) more (kE (chain (T []) ops))))
    (append_by (E ∷ []) (λ ops e. kE (chain (T []) ops) e) C None) go)
  where
    go : (m : Option (List (Op × TermTree))) (rest : List Piece) →
        (else_by (Some []) m rest >>= (λ ops more. seq (E ∷ []) more (kE (chain (T []) ops))))
        ≡ append_by (E ∷ []) (λ ops e. kE (chain (T []) ops) e) C None m rest
    go None rest = sym (h rest)
    go (Some ops) rest = refl

tail : {V : Type 0} (E : Symbol) (kE : TermTree → Tree E → V) (T : List TermTree → TermTree) (C : List (Row V)) →
    ((ts : List Piece) → reading C None ts ≡ seq (E ∷ []) ts (kE (T []))) → (ts : List Piece) →
    reading (operand_part E kE T ++ (operator_part E kE T ++ C)) None ts ≡ (read symbol.arguments ts >>= ending E kE T)
tail {V} E kE T C h ts =
    append_first operand_rows (symbol.operators 0 operand_level ∷ E ∷ []) (λ s ops e. kE (chain (T (list_of s)) ops) e) (operator_part E kE T ++ C) None ts ∙
    sym (ap (λ (m : Reading (List TermTree)). m >>= ending E kE T) (read_arguments ts) ∙
    then_then (maybe operand_rows ts) (going [] list_of (Some [])) (ending E kE T) ∙
    then_same (maybe operand_rows ts) (λ m rest. going [] list_of (Some []) m rest >>= ending E kE T)
    (append_by (symbol.operators 0 operand_level ∷ E ∷ []) (λ s ops e. kE (chain (T (list_of s)) ops) e) (operator_part E kE T ++ C) None) go)
  where
    go : (m : Option Spine) (rest : List Piece) →
        (going [] list_of (Some []) m rest >>= ending E kE T) ≡
        append_by (symbol.operators 0 operand_level ∷ E ∷ []) (λ s ops e. kE (chain (T (list_of s)) ops) e) (operator_part E kE T ++ C) None m rest
    go None rest = sym (operators_tail E kE T C h rest)
    go (Some s) rest = refl

-- Names as terms.
plain_name : (b : Bool) (x : Ident) (ls : List LevelTree) (more : List TermTree) →
    list_of (settled (elim b [ true ↦ hole x.at | false ↦ ident x.at false x ls ]) more) ≡ (elim b [ true ↦ hole x.at | false ↦ ident x.at false x ls ]) ∷ more
plain_name true x ls more = refl
plain_name false x ls more = refl

names_extend : (before : List Ident) (x : Ident) (ls : List LevelTree) (more : List TermTree)
    → extend (name_terms before x ls) more ≡ name_terms before x ls ++ more
names_extend [] x ls more = plain_name (is_underscore x.name) x ls more
names_extend (y ∷ []) x ls more = ap (λ ts. name_term y [] ∷ ts) (names_extend [] x ls more)
names_extend (y ∷ z ∷ before) x ls more = ap (λ ts. name_term y [] ∷ ts) (names_extend (z ∷ before) x ls more)

abbrev spine_with : List Ident → Ident → List LevelTree → List TermTree → TermTree
spine_with before x ls more = applied (names_spine before x ls).head ((names_spine before x ls).arguments ++ more)

names_opens : (before : List Ident) (x : Ident) (ls : List LevelTree) → Opens (name_terms before x ls) (spine_with before x ls)
names_opens before x ls = record { opens = λ more ts. ap (λ us. chain_of 0 us ts) (names_extend before x ls more) ∙ go before more ts }
  where
    go : (bs : List Ident) (more : List TermTree) (ts : List Piece) →
        chain_of 0 (name_terms bs x ls ++ more) ts ≡ chained (spine_with bs x ls more) (read (symbol.operators 0 operand_level) ts)
    go [] more ts = refl
    go (y ∷ bs) more ts = refl

-- The levels that may stand behind a name, and then the rest.
levels_tail : {V : Type 0} (E : Symbol) (kE : TermTree → Tree E → V) (T : List LevelTree → List TermTree → TermTree) (qs : List (Row V)) →
    ((ts : List Piece) → reading qs None ts ≡ (read symbol.arguments ts >>= ending E kE (T []))) → (ts : List Piece) →
    reading (begins_as written_levels_rows (symbol.arguments ∷ symbol.operators 0 operand_level ∷ E ∷ []) (λ ls more ops e. kE (chain (T ls more) ops) e)
    ++ qs) None ts ≡
    (read symbol.written_levels ts >>= (λ ls rest. read symbol.arguments rest >>= ending E kE (T ls)))
levels_tail {V} E kE T qs h ts =
    append_first written_levels_rows (symbol.arguments ∷ symbol.operators 0 operand_level ∷ E ∷ []) (λ ls more ops e. kE (chain (T ls more) ops) e) qs None ts ∙
    sym (ap (λ (m : Reading (List LevelTree)). m >>= (λ ls rest. read symbol.arguments rest >>= ending E kE (T ls)))
    (read_is symbol.written_levels ts ∙ offered written_levels_rows (Some []) ts) ∙
    then_then (maybe written_levels_rows ts) (else_by (Some [])) (λ ls rest. read symbol.arguments rest >>= ending E kE (T ls)) ∙
    then_same (maybe written_levels_rows ts) (λ m rest. else_by (Some []) m rest >>= (λ ls more. read symbol.arguments more >>= ending E kE (T ls)))
    (append_by (symbol.arguments ∷ symbol.operators 0 operand_level ∷ E ∷ []) (λ ls more ops e. kE (chain (T ls more) ops) e) qs None) go)
  where
    go : (m : Option (List LevelTree)) (rest : List Piece) →
        (else_by (Some []) m rest >>= (λ ls more. read symbol.arguments more >>= ending E kE (T ls))) ≡
        append_by (symbol.arguments ∷ symbol.operators 0 operand_level ∷ E ∷ []) (λ ls more ops e. kE (chain (T ls more) ops) e) qs None m rest
    go None rest = sym (h rest)
    go (Some ls) rest = refl

abbrev group_make : ℕ → TermTree → GroupEnd → Spine
group_make at t e = with_arguments (paren at t (option_of e.ty)) e.arguments

pub closed_is : (at : ℕ) (t : TermTree) (ts : List Piece) → seq (symbol.group_end ∷ []) ts (group_make at t) ≡ reading (closed_rows at t) None ts
closed_is at t ts =
    ap (λ (m : Reading GroupEnd). m >>= (λ e rest. Ok (group_make at t e, rest))) (read_is symbol.group_end ts)
    ∙ sym (gone group_end_rows [] (group_make at t) ts)

group_tail : (at : ℕ) (before : List Ident) (x : Ident) (ls : List LevelTree) (ts : List Piece) →
    (read symbol.arguments ts >>= ending symbol.group_end (group_make at) (spine_with before x ls)) ≡
    (operation 0 (name_terms before x ls) ts >>= (λ t rest. reading (closed_rows at t) None rest))
group_tail at before x ls ts =
    operation_is symbol.group_end (group_make at) (name_terms before x ls) (spine_with before x ls) (names_opens before x ls) ts ∙
    then_same (operation 0 (name_terms before x ls) ts) (λ t rest. seq (symbol.group_end ∷ []) rest (group_make at t))
    (λ t rest. reading (closed_rows at t) None rest)
    (λ t rest. closed_is at t rest)

abbrev rest_rows : ℕ → List Ident → Ident → List (Row Spine)
rest_rows at before x =
    begins_as argument_rows (symbol.operators 0 operand_level ∷ symbol.group_end ∷ []) (λ ts ops e. group_of at (names_spine before x []) ts ops e) ++
    begins_as (operator_rows 0 operand_level) (symbol.group_end ∷ []) (λ ops e. group_of at (names_spine before x []) [] ops e) ++
    begins_as group_end_rows [] (λ e. group_of at (names_spine before x []) [] [] e)

rest_is : (at : ℕ) (before : List Ident) (x : Ident) (ts : List Piece) →
    reading (rest_rows at before x) None ts ≡ (read symbol.arguments ts >>= ending symbol.group_end (group_make at) (spine_with before x []))
rest_is at before x ts =
    tail symbol.group_end (group_make at) (spine_with before x []) (begins_as group_end_rows [] (λ e. group_of at (names_spine before x []) [] [] e))
    (λ us. sym (closed_is at (spine_with before x [] []) us)) ts

named_rest : (b : Bool) (at : ℕ) (before : List Ident) (x : Ident) (ts : List Piece) →
    reading (name_levels_rows b at before x ++ rest_rows at before x) None ts ≡
    ((elim b as (λ _. Reading (List LevelTree)) [ true ↦ Ok ([], ts) | false ↦ read symbol.written_levels ts ]) >>=
    (λ ls more. operation 0 (name_terms before x ls) more >>= (λ t end. reading (closed_rows at t) None end)))
named_rest true at before x ts = rest_is at before x ts ∙ group_tail at before x [] ts
named_rest false at before x ts =
    levels_tail symbol.group_end (group_make at) (λ ls. spine_with before x ls) (rest_rows at before x) (λ us. rest_is at before x us) ts ∙
    then_same (read symbol.written_levels ts) (λ ls rest. read symbol.arguments rest >>= ending symbol.group_end (group_make at) (spine_with before x ls))
    (λ ls more. operation 0 (name_terms before x ls) more >>= (λ t end. reading (closed_rows at t) None end)) (λ ls rest. group_tail at before x ls rest)

end_is : (k : BinderEnd → Spine) (ts : List Piece) → (read symbol.binder_end ts >>= (λ e rest. Ok (k e, rest))) ≡ (maybe arrow_rows ts >>= end_by k)
end_is k ts =
    ap (λ (m : Reading BinderEnd). m >>= (λ e rest. Ok (k e, rest)))
    (read_is symbol.binder_end ts ∙ arrow_first (then (symbol.term 0 ∷ []) arrow_to) (begins_as argument_rows [] arguments_to) (Some (arguments_to [])) ts) ∙
    then_then (maybe arrow_rows ts) (first_by {A = Unit {0}} (λ _. then (symbol.term 0 ∷ []) arrow_to) (begins_as argument_rows [] arguments_to)
    (Some (arguments_to []))) (λ e rest. Ok (k e, rest)) ∙
    then_same (maybe arrow_rows ts)
    (λ m rest. first_by {A = Unit {0}} (λ _. then (symbol.term 0 ∷ []) arrow_to) (begins_as argument_rows [] arguments_to) (Some (arguments_to [])) m rest
    >>= (λ e more. Ok (k e, more)))
    (end_by k) go
  where
    arguments_by : (m : Option Spine) (rest : List Piece) →
        (going [] (λ s. arguments_to (list_of s)) (Some (arguments_to [])) m rest >>= (λ e more. Ok (k e, more))) ≡
        (going [] list_of (Some []) m rest >>= (λ us end. Ok (k (arguments_to us), end)))
    arguments_by None rest = refl
    arguments_by (Some s) rest = refl

    go : (m : Option (Unit {0})) (rest : List Piece) →
        (first_by {A = Unit {0}} (λ _. then (symbol.term 0 ∷ []) arrow_to) (begins_as argument_rows [] arguments_to) (Some (arguments_to [])) m rest
        >>= (λ e more. Ok (k e, more))) ≡ end_by k m rest
    go (Some u) rest = then_then (read (symbol.term 0) rest) (λ b more. Ok (arrow_to b, more)) (λ e more. Ok (k e, more))
    go None rest =
        ap (λ (m : Reading BinderEnd). m >>= (λ e more. Ok (k e, more))) (begun operand_rows [] (λ s. arguments_to (list_of s)) (Some (arguments_to [])) rest) ∙
        then_then (maybe operand_rows rest) (going [] (λ s. arguments_to (list_of s)) (Some (arguments_to []))) (λ e more. Ok (k e, more)) ∙
        then_same (maybe operand_rows rest) (λ m end. going [] (λ s. arguments_to (list_of s)) (Some (arguments_to [])) m end >>= (λ e more. Ok (k e, more)))
        (λ m end. going [] list_of (Some []) m end >>= (λ us more. Ok (k (arguments_to us), more))) arguments_by ∙
        sym (ap (λ (m : Reading (List TermTree)). m >>= (λ us end. Ok (k (arguments_to us), end))) (read_arguments rest) ∙
        then_then (maybe operand_rows rest) (going [] list_of (Some [])) (λ us end. Ok (k (arguments_to us), end)))

-- A symbol that begins with a word alone.
worded : {V : Type 0} (w : Word) (ys : List Symbol) (k : Takes Tree ys V) (ts : List Piece) →
    reading (on_word w (λ _. then ys k) ∷ []) None ts ≡ (read (symbol.token w) ts >>= (λ _ rest. seq ys rest k))
worded {V} w ys k ts =
    word_first w (λ _. then ys k) [] None ts ∙
    sym (ap (λ (m : Reading (Unit {0})). m >>= (λ _ rest. seq ys rest k)) (read_is (symbol.token w) ts ∙ word_first w (λ _. then [] tt) [] None ts) ∙
    then_then (maybe (word_rows w) ts) (first_by (λ _. then [] tt) [] None) (λ _ rest. seq ys rest k) ∙
    then_same (maybe (word_rows w) ts) (λ m rest. first_by {V = Unit {0}} (λ _. then [] tt) [] None m rest >>= (λ _ more. seq ys more k))
    (first_by (λ _. then ys k) [] None) go)
  where
    go : (m : Option ℕ) (rest : List Piece) → (first_by {V = Unit {0}} (λ _. then [] tt) [] None m rest >>= (λ _ more. seq ys more k))
        ≡ first_by (λ _. then ys k) [] None m rest
    go (Some at) rest = refl
    go None [] = refl
    go None (t ∷ us) = refl

close_is : (at : ℕ) (before : List Ident) (x : Ident) (ty : TermTree) (ts : List Piece)
    → seq (symbol.group_close ∷ []) ts (close_of at before x ty) ≡ named_close at before x ty ts
unfolding named_close
close_is at before x ty ts =
    ap (λ (m : Reading BinderEnd). m >>= (λ e rest. Ok (close_of at before x ty e, rest)))
    (read_is symbol.group_close ts ∙ worded words.RightParen (symbol.binder_end ∷ []) (λ e. e) ts) ∙
    then_then (read (symbol.token words.RightParen) ts) (λ _ rest. seq (symbol.binder_end ∷ []) rest (λ e. e))
    (λ e rest. Ok (close_of at before x ty e, rest)) ∙
    then_same (read (symbol.token words.RightParen) ts)
    (λ _ rest. seq (symbol.binder_end ∷ []) rest (λ e. e) >>= (λ e more. Ok (close_of at before x ty e, more)))
    (λ _ rest. maybe arrow_rows rest >>= end_by (close_of at before x ty))
    (λ _ rest. ap (λ (m : Reading BinderEnd). m >>= (λ e more. Ok (close_of at before x ty e, more))) (then_ok (read symbol.binder_end rest))
    ∙ end_is (close_of at before x ty) rest)

colon_is : (at : ℕ) (before : List Ident) (x : Ident) (ts : List Piece) →
    reading (on_word words.Colon (λ _. then (symbol.term 0 ∷ symbol.group_close ∷ []) (close_of at before x))
    ∷ name_levels_rows (is_underscore x.name) at before x ++ rest_rows at before x) None ts ≡
    names_end at before x ts
unfolding names_end
colon_is at before x ts =
    word_first words.Colon (λ _. then (symbol.term 0 ∷ symbol.group_close ∷ []) (close_of at before x))
    (name_levels_rows (is_underscore x.name) at before x ++ rest_rows at before x) None ts ∙
    then_same (maybe (word_rows words.Colon) ts)
    (first_by (λ _. then (symbol.term 0 ∷ symbol.group_close ∷ []) (close_of at before x))
    (name_levels_rows (is_underscore x.name) at before x ++ rest_rows at before x) None)
    (λ m rest. elim m as (λ _. Reading Spine) [
      | Some _ ↦ read (symbol.term 0) rest >>= (λ ty more. named_close at before x ty more)
      | None ↦ last_levels x rest >>= (λ ls more. operation 0 (name_terms before x ls) more >>= (λ t end. reading (closed_rows at t) None end))
    ]) go
  where
    go : (m : Option ℕ) (rest : List Piece) →
        first_by (λ _. then (symbol.term 0 ∷ symbol.group_close ∷ []) (close_of at before x))
        (name_levels_rows (is_underscore x.name) at before x ++ rest_rows at before x) None m rest ≡
        elim m as (λ _. Reading Spine) [
          | Some _ ↦ read (symbol.term 0) rest >>= (λ ty more. named_close at before x ty more)
          | None ↦ last_levels x rest >>= (λ ls more. operation 0 (name_terms before x ls) more >>= (λ t end. reading (closed_rows at t) None end))
        ]
    go (Some p) rest =
        then_same (read (symbol.term 0) rest) (λ ty more. seq (symbol.group_close ∷ []) more (close_of at before x ty))
        (λ ty more. named_close at before x ty more)
        (λ ty more. close_is at before x ty more)
    go None rest = named_rest (is_underscore x.name) at before x rest

abbrev pub group_names_by : ℕ → List Ident → Ident → Option Ident → List Piece → Reading Spine
group_names_by at before x (Some y) ts = read (symbol.group_names at (before ++ (x ∷ [])) y) ts
group_names_by at before x None ts = names_end at before x ts

abbrev more_rows : ℕ → List Ident → Ident → List (Row Spine)
more_rows at before x =
    on_word words.Colon (λ _. then (symbol.term 0 ∷ symbol.group_close ∷ []) (close_of at before x))
    ∷ name_levels_rows (is_underscore x.name) at before x ++ rest_rows at before x

rows_by : (b : Bool) (at : ℕ) (before : List Ident) (x : Ident) →
    group_names_rows_by b at before x ≡
    named_rows (λ y. then (symbol.group_names at (before ++ (x ∷ [])) y ∷ []) (λ s. s))
    (on_word words.Colon (λ _. then (symbol.term 0 ∷ symbol.group_close ∷ []) (close_of at before x)) ∷ name_levels_rows b at before x ++ rest_rows at before x)
rows_by true at before x = refl
rows_by false at before x = refl

pub read_group_names : (at : ℕ) (before : List Ident) (x : Ident) (ts : List Piece) →
    read (symbol.group_names at before x) ts ≡ (maybe binder_name_rows ts >>= group_names_by at before x)
read_group_names at before x ts =
    read_is (symbol.group_names at before x) ts ∙
    ap (λ rs. reading rs None ts) (rows_by (is_underscore x.name) at before x) ∙
    name_first (λ y. then (symbol.group_names at (before ++ (x ∷ [])) y ∷ []) (λ s. s)) (more_rows at before x) None ts ∙
    then_same (maybe binder_name_rows ts) (first_by (λ y. then (symbol.group_names at (before ++ (x ∷ [])) y ∷ []) (λ s. s)) (more_rows at before x) None)
    (group_names_by at before x) go
  where
    go : (m : Option Ident) (rest : List Piece) →
        first_by (λ y. then (symbol.group_names at (before ++ (x ∷ [])) y ∷ []) (λ s. s)) (more_rows at before x) None m rest
        ≡ group_names_by at before x m rest
    go (Some y) rest = then_ok (read (symbol.group_names at (before ++ (x ∷ [])) y) rest)
    go None rest = colon_is at before x rest

-- A word's row may as well come last.
or_none : {V : Type 0} (o : Option (Prod V)) → first_or o None ≡ o
or_none None = refl
or_none (Some p) = refl

last_tested : {V : Type 0} (b : Bool) (at : ℕ) (F : ℕ → Prod V) (qs ps : List (Row V)) (more : Option (Prod V)) (t : Piece) (ts : List Piece) →
    reading ps None (t ∷ ts) ≡ by_row (first_or more (first_or (if_true b (F at)) None)) None t ts →
    by_row (first_or (if_true b (F at)) more) None t ts ≡ (by_row (first_or (if_true b (then [] (Some at))) None) (Some None) t ts >>= first_by F ps None)
last_tested true at F qs ps more t ts h = refl
last_tested false at F qs ps more t ts h = sym (h ∙ ap (λ o. by_row o None t ts) (or_none more))

last_class : {V : Type 0} (w : Word) (F : ℕ → Prod V) (qs : List (Row V)) (t : Piece) (ts : List Piece) (c : Class) (at : ℕ) →
    reading (qs ++ (on_word w F ∷ [])) None (t ∷ ts) ≡ by_row (first_or (first_row qs c at) (first_row (on_word w F ∷ []) c at)) None t ts →
    by_row (first_row (on_word w F ∷ qs) c at) None t ts ≡
    (by_row (first_row (begins_as (word_rows w) [] (λ a. Some a)) c at) (Some None) t ts >>= first_by F (qs ++ (on_word w F ∷ [])) None)
last_class w F qs t ts (word v) at h = last_tested (nat_eq (word_code w) (word_code v)) at F qs (qs ++ (on_word w F ∷ [])) (first_row qs (word v) at) t ts h
last_class w F qs t ts (name s x) at h = sym (h ∙ ap (λ o. by_row o None t ts) (or_none (first_row qs (name s x) at)))
last_class w F qs t ts (number n digits) at h = sym (h ∙ ap (λ o. by_row o None t ts) (or_none (first_row qs (number n digits) at)))
last_class w F qs t ts (operator p) at h = sym (h ∙ ap (λ o. by_row o None t ts) (or_none (first_row qs (operator p) at)))
last_class w F qs t ts (wrong e) at h = sym (h ∙ ap (λ o. by_row o None t ts) (or_none (first_row qs (wrong e) at)))

word_last : {V : Type 0} (w : Word) (F : ℕ → Prod V) (qs : List (Row V)) (ts : List Piece) →
    reading (on_word w F ∷ qs) None ts ≡ (maybe (word_rows w) ts >>= first_by F (qs ++ (on_word w F ∷ [])) None)
word_last w F qs [] = refl
word_last w F qs (t ∷ ts) = last_class w F qs t ts t.class t.at (ap (λ o. by_row o None t ts) (first_append qs (on_word w F ∷ []) t.class t.at))

abbrev close_make : ℕ → TermTree → Unit {0} → Binders
close_make at t u = unnamed at t

name_opens : (x : Ident) (ls : List LevelTree) → Opens (name_term x ls ∷ []) (applied (name_term x ls))
name_opens x ls = names_opens [] x ls

abbrev bracket_rest : ℕ → Ident → List (Row Binders)
bracket_rest at x =
    begins_as written_levels_rows (symbol.arguments ∷ symbol.operators 0 operand_level ∷ symbol.token words.RightBracket ∷ [])
    (λ ls ts ops _. unnamed at (chain (applied (name_term x ls) ts) ops)) ++
    begins_as argument_rows (symbol.operators 0 operand_level ∷ symbol.token words.RightBracket ∷ [])
    (λ ts ops _. unnamed at (chain (applied (name_term x []) ts) ops)) ++
    begins_as (operator_rows 0 operand_level) (symbol.token words.RightBracket ∷ []) (λ ops _. unnamed at (chain (name_term x []) ops))

abbrev close_row : ℕ → Ident → ℕ → Prod Binders
close_row at x p = then [] (unnamed at (name_term x []))

type_is : (at : ℕ) (x : Ident) (ts : List Piece) → reading (bracket_rest at x ++ (on_word words.RightBracket (close_row at x) ∷ [])) None ts
    ≡ bracket_type at x ts
type_is at x ts =
    levels_tail (symbol.token words.RightBracket) (close_make at) (λ ls. applied (name_term x ls))
    (operand_part (symbol.token words.RightBracket) (close_make at) (applied (name_term x [])) ++
    (operator_part (symbol.token words.RightBracket) (close_make at) (applied (name_term x [])) ++ (on_word words.RightBracket (close_row at x) ∷ [])))
    (λ us. tail (symbol.token words.RightBracket) (close_make at) (applied (name_term x [])) (on_word words.RightBracket (close_row at x) ∷ [])
    (λ vs. worded words.RightBracket [] (unnamed at (name_term x [])) vs) us) ts ∙
    then_same (read symbol.written_levels ts)
    (λ ls rest. read symbol.arguments rest >>= ending (symbol.token words.RightBracket) (close_make at) (applied (name_term x ls)))
    (λ ls rest. operation 0 (name_term x ls ∷ []) rest >>= (λ ty more. seq (symbol.token words.RightBracket ∷ []) more (λ _. unnamed at ty)))
    (λ ls rest. operation_is (symbol.token words.RightBracket) (close_make at) (name_term x ls ∷ []) (applied (name_term x ls)) (name_opens x ls) rest)

pub read_bracket_name : (at : ℕ) (x : Ident) (ts : List Piece)
    → read (symbol.bracket_name at x) ts ≡ (maybe (word_rows words.Colon) ts >>= bracket_name_by at x)
read_bracket_name at x ts =
    read_is (symbol.bracket_name at x) ts ∙
    word_first words.Colon (λ _. then (symbol.term 0 ∷ symbol.token words.RightBracket ∷ []) (λ ty _. binders_at at Inst (x ∷ []) ty))
    (on_word words.RightBracket (close_row at x) ∷ bracket_rest at x) None ts ∙
    then_same (maybe (word_rows words.Colon) ts)
    (first_by (λ _. then (symbol.term 0 ∷ symbol.token words.RightBracket ∷ []) (λ ty _. binders_at at Inst (x ∷ []) ty))
    (on_word words.RightBracket (close_row at x) ∷ bracket_rest at x) None)
    (bracket_name_by at x) go
  where
    closes : (m : Option ℕ) (rest : List Piece) →
        first_by (close_row at x) (bracket_rest at x ++ (on_word words.RightBracket (close_row at x) ∷ [])) None m rest ≡ bracket_end at x m rest
    closes (Some p) rest = refl
    closes None rest = type_is at x rest

    go : (m : Option ℕ) (rest : List Piece) →
        first_by (λ _. then (symbol.term 0 ∷ symbol.token words.RightBracket ∷ []) (λ ty _. binders_at at Inst (x ∷ []) ty))
        (on_word words.RightBracket (close_row at x) ∷ bracket_rest at x) None m rest ≡
        bracket_name_by at x m rest
    go (Some p) rest = refl
    go None rest =
        word_last words.RightBracket (close_row at x) (bracket_rest at x) rest ∙
        then_same (maybe (word_rows words.RightBracket) rest)
        (first_by (close_row at x) (bracket_rest at x ++ (on_word words.RightBracket (close_row at x) ∷ [])) None) (bracket_end at x) closes
