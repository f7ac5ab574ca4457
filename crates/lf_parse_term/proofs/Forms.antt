-- Terms: heads with arguments, operators, groups.
use Rattle.std.proofs.Common.{
  ◌≡◌,
  ◌<◌,
  ◌≤◌,
  ◌+◌,
  ℕ,
  Bool,
  true,
  false,
  List,
  [],
  ◌∷◌,
  ◌++◌,
  map,
  length,
  Option,
  None,
  Some,
  Result,
  Ok,
  Err,
  refl,
  sym,
  ap,
  subst,
  ◌∙◌,
  arith,
}
use Rattle.std.specs.Borrow.{Bor}
use Rattle.lf_text.specs.declared.operator.Op.{Op}
use Rattle.lf_text.specs.Operators.{op_level, right_of}
use Rattle.lf_text.specs.declared.word.Word.TheVariants as words
use Rattle.lf_syntax.specs.declared.leaf.Ident.{Ident}
use Rattle.lf_syntax.specs.declared.term.LBinder.{LBinder}
use Rattle.lf_syntax.specs.declared.term.Rule.{Rule}
use Rattle.lf_syntax.specs.declared.term.Binders.{Binders}
use Rattle.lf_parse_term.specs.declared.halt.Halt.TheVariants.{Stuck}
use Rattle.lf_name.specs.declared.binder.BinderKind.TheVariants.{Inst}
use Rattle.lf_syntax.specs.Piece.{Piece}
use Rattle.lf_syntax.specs.Symbol.{Symbol, Tree, Spine}
use Rattle.lf_syntax.specs.Symbol as symbol
use Rattle.lf_syntax.specs.Tree.{TermTree, LBinderTree, not_term, oper, place, rule, binders_of, rules_of, paren, option_of, binder_and, rule_and, RuleTree}
use Rattle.lf_syntax.specs.TermNode.{lbinder_tree, lbinder_trees, rule_tree, rule_trees}
use Rattle.lf_syntax.specs.Levels.{operand_level, not_level, takes}
use Rattle.lf_syntax.specs.Build.{name_term, with_arguments, applied, chain}
use Rattle.lf_syntax.specs.Rows.{
  rows,
  term_rows,
  group_end_rows,
  operand_rows,
  operator_rows,
  binder_name_rows,
  one_part_rows,
  lambda_binder_rows,
  binders_at,
  unnamed,
}
use Rattle.lf_parse_term.specs.Descent.{stuck, Reading, read, reading, seq, maybe, Shorter, ◌>>=◌}
use Rattle.lf_parse_term.specs.Front.{word_rows}
use Rattle.lf_parse_term.specs.Spine.{list_of, extended, chained, chain_of, applied_all, operation, closed_rows, names_end, bracket_name_by, Within, weight}
use Rattle.lf_parse_term.specs.View.{piece}
use Rattle.lf_parse_term.specs.declared.element.Element.{Element}
use Rattle.lf_parse_term.specs.declared.element.Element.TheVariants.{Atom, Lead}
use Rattle.lf_parse_term.specs.declared.piece.Spot.{Spot}
use Rattle.lf_parse_term.specs.declared.piece.Piece as code
use Rattle.lf_parse_term.specs.declared.halt.Halt.{Halt}
use Rattle.lf_syntax.specs.Predictive.{Takes}
use Rattle.lf_syntax.specs.Symbol.{GroupEnd}
use Rattle.lf_syntax.specs.Row.{Row, then, begins_as}
use Rattle.lf_parse_term.proofs.Machine.{then_same, then_ok, then_then}
use Rattle.lf_parse_term.proofs.First.{word_first, part_first, name_first, arrow_first, append_first, first_by, append_by, offered, else_by, gone}
use Rattle.lf_parse_term.proofs.Groups.{closed_is}
use Rattle.lf_parse_term.proofs.Arguments.{read_arguments, extend_nil}
use Rattle.lf_parse_term.proofs.Laws.{read_is, begun, needed, need, going}

-- A term begins with a `¬` or is an application, with operators behind it.
abbrev pub term_by : ℕ → Option ℕ → List Piece → Reading TermTree
term_by least (Some at) ts = read (symbol.term 40) ts >>= (λ t rest. chained (not_term at t) (read (symbol.operators least operand_level) rest))
term_by least None ts = operation least [] ts

abbrev plain_rows : ℕ → List (Row TermTree)
plain_rows least = begins_as operand_rows (symbol.operators least operand_level ∷ []) (λ s ops. chain (applied s.head s.arguments) ops)

plain_by : (least : ℕ) (m : Reading (Option Spine)) →
    (m >>= going (symbol.operators least operand_level ∷ []) (λ s ops. chain (applied s.head s.arguments) ops) None) ≡
    (extended [] (m >>= going [] list_of (Some [])) >>= chain_of least)
unfolding chained extended
plain_by least (Err e) = refl
plain_by least (Ok x) = go x.0 x.1
  where
    go : (o : Option Spine) (rest : List Piece) →
        going (symbol.operators least operand_level ∷ []) (λ s ops. chain (applied s.head s.arguments) ops) None o rest ≡
        (extended [] (going [] list_of (Some []) o rest) >>= chain_of least)
    go None rest = refl
    go (Some s) rest = refl

plain_term : (least : ℕ) (ts : List Piece) → reading (plain_rows least) None ts ≡ operation least [] ts
unfolding operation
plain_term least ts =
    begun operand_rows (symbol.operators least operand_level ∷ []) (λ s ops. chain (applied s.head s.arguments) ops) None ts ∙
    plain_by least (maybe operand_rows ts) ∙
    sym (ap (λ (m : Reading (List TermTree)). extended [] m >>= chain_of least) (read_arguments ts))

pub read_term : (least : ℕ) (ts : List Piece) → read (symbol.term least) ts ≡ (maybe (word_rows words.NotSign) ts >>= term_by least)
unfolding chained operation extended
read_term least ts =
    read_is (symbol.term least) ts ∙
    word_first words.NotSign (λ at. then (symbol.term not_level ∷ symbol.operators least operand_level ∷ []) (λ t ops. chain (not_term at t) ops))
    (plain_rows least) None ts ∙
    then_same (maybe (word_rows words.NotSign) ts)
    (first_by (λ at. then (symbol.term not_level ∷ symbol.operators least operand_level ∷ []) (λ t ops. chain (not_term at t) ops)) (plain_rows least) None)
    (term_by least) go
  where
    go : (m : Option ℕ) (rest : List Piece) →
        first_by (λ at. then (symbol.term not_level ∷ symbol.operators least operand_level ∷ []) (λ t ops. chain (not_term at t) ops)) (plain_rows least) None
        m rest ≡ term_by least m rest
    go (Some at) rest = refl
    go None rest = plain_term least rest

pub read_operators : (least left : ℕ) (ts : List Piece) → read (symbol.operators least left) ts ≡ reading (operator_rows least left) (Some []) ts
read_operators least left ts = read_is (symbol.operators least left) ts

pub chained_one : (t u : TermTree) (o : Op) (m : Reading (List (Op × TermTree))) →
    chained t (m >>= (λ more rest. Ok ((o, u) ∷ more, rest))) ≡ chained (oper (place t) o t u) m
unfolding chained
chained_one t u o (Ok x) = refl
chained_one t u o (Err e) = refl

pub chained_err : (t : TermTree) (e : Halt) → chained t (Err e) ≡ Err e
unfolding chained
chained_err t e = refl

pub chained_end : (t : TermTree) (rest : List Piece) → chained t (Ok ([], rest)) ≡ Ok (t, rest)
unfolding chained
chained_end t rest = refl

-- Behind a parenthesis: names, or a term.
abbrev pub group_by : ℕ → Option Ident → List Piece → Reading Spine
group_by at (Some x) ts = read (symbol.group_names at [] x) ts
group_by at None ts = read (symbol.term 0) ts >>= (λ t rest. reading (closed_rows at t) None rest)

gone_term : {V : Type 0} (ys : List Symbol) (k : TermTree → Takes Tree ys V) (ts : List Piece) →
    reading (begins_as (term_rows 0) ys k) None ts ≡ (read (symbol.term 0) ts >>= (λ t rest. seq ys rest (k t)))
gone_term ys k ts = gone (term_rows 0) ys k ts ∙ sym (ap (λ (m : Reading TermTree). m >>= (λ t rest. seq ys rest (k t))) (read_is (symbol.term 0) ts))

abbrev inside_rows : ℕ → List (Row Spine)
inside_rows at = begins_as (term_rows 0) (symbol.group_end ∷ []) (λ t e. with_arguments (paren at t (option_of e.ty)) e.arguments)

pub read_group : (at : ℕ) (ts : List Piece) → read (symbol.group at) ts ≡ (maybe binder_name_rows ts >>= group_by at)
read_group at ts =
    read_is (symbol.group at) ts ∙
    name_first (λ x. then (symbol.group_names at [] x ∷ []) (λ s. s)) (inside_rows at) None ts ∙
    then_same (maybe binder_name_rows ts) (first_by (λ x. then (symbol.group_names at [] x ∷ []) (λ s. s)) (inside_rows at) None) (group_by at) go
  where
    go : (m : Option Ident) (rest : List Piece) → first_by (λ x. then (symbol.group_names at [] x ∷ []) (λ s. s)) (inside_rows at) None m rest
        ≡ group_by at m rest
    go (Some x) rest = then_ok (read (symbol.group_names at [] x) rest)
    go None rest =
        gone_term (symbol.group_end ∷ []) (λ t e. with_arguments (paren at t (option_of e.ty)) e.arguments) rest ∙
        then_same (read (symbol.term 0) rest) (λ t more. seq (symbol.group_end ∷ []) more (λ e. with_arguments (paren at t (option_of e.ty)) e.arguments))
        (λ t more. reading (closed_rows at t) None more) (λ t more. closed_is at t more)

-- Behind a bracket: a name, or a type.
abbrev pub bracket_by : ℕ → Option Ident → List Piece → Reading Binders
bracket_by at (Some x) ts = read (symbol.bracket_name at x) ts
bracket_by at None ts = seq (symbol.term 0 ∷ symbol.token words.RightBracket ∷ []) ts (λ ty _. unnamed at ty)

abbrev type_rows : ℕ → List (Row Binders)
type_rows at = begins_as (term_rows 0) (symbol.token words.RightBracket ∷ []) (λ ty _. unnamed at ty)

pub read_bracket : (at : ℕ) (ts : List Piece) → read (symbol.bracket at) ts ≡ (maybe one_part_rows ts >>= bracket_by at)
read_bracket at ts =
    read_is (symbol.bracket at) ts ∙
    part_first (λ x. then (symbol.bracket_name at x ∷ []) (λ b. b)) (type_rows at) None ts ∙
    then_same (maybe one_part_rows ts) (first_by (λ x. then (symbol.bracket_name at x ∷ []) (λ b. b)) (type_rows at) None) (bracket_by at) go
  where
    go : (m : Option Ident) (rest : List Piece) → first_by (λ x. then (symbol.bracket_name at x ∷ []) (λ b. b)) (type_rows at) None m rest
        ≡ bracket_by at m rest
    go (Some x) rest = then_ok (read (symbol.bracket_name at x) rest)
    go None rest = gone_term (symbol.token words.RightBracket ∷ []) (λ ty _. unnamed at ty) rest

pub lambdas_are : (bs : List LBinder) → lbinder_trees bs ≡ binders_of (map lbinder_tree bs)
lambdas_are [] = refl
lambdas_are (b ∷ bs) = ap (binder_and (lbinder_tree b)) (lambdas_are bs)

pub rules_are : (rs : List Rule) → rule_trees rs ≡ rules_of (map rule_tree rs)
rules_are [] = refl
rules_are (r ∷ rs) = ap (rule_and (rule_tree r)) (rules_are rs)

pub map_one : {A B : Type 0} (f : A → B) (xs : List A) (x : A) → map f (xs ++ (x ∷ [])) ≡ map f xs ++ (f x ∷ [])
map_one f [] x = refl
map_one f (y ∷ xs) x = ap (λ ys. f y ∷ ys) (map_one f xs x)

pub read_lambda_binder : (ts : List Piece) → read symbol.lambda_binder ts ≡ (maybe lambda_binder_rows ts >>= need)
read_lambda_binder ts = read_is symbol.lambda_binder ts ∙ needed lambda_binder_rows ts

pub read_lambda_binders : (ts : List Piece) →
    read symbol.lambda_binders ts ≡ (maybe lambda_binder_rows ts >>= going (symbol.lambda_binders ∷ []) (λ b bs. b ∷ bs) (Some []))
read_lambda_binders ts = read_is symbol.lambda_binders ts ∙ begun lambda_binder_rows (symbol.lambda_binders ∷ []) (λ b bs. b ∷ bs) (Some []) ts

abbrev pub rule_by : Option ℕ → List Piece → Reading RuleTree
rule_by (Some at) ts = seq (symbol.term 0 ∷ []) ts (rule at true)
rule_by None ts = seq (symbol.term 0 ∷ []) ts (λ t. rule (place t) false t)

pub read_rule : (ts : List Piece) → read symbol.rw_rule ts ≡ (maybe (word_rows words.BackArrow) ts >>= rule_by)
read_rule ts =
    read_is symbol.rw_rule ts ∙
    word_first words.BackArrow (λ at. then (symbol.term 0 ∷ []) (rule at true)) (begins_as (term_rows 0) [] (λ t. rule (place t) false t)) None ts ∙
    then_same (maybe (word_rows words.BackArrow) ts)
    (first_by (λ at. then (symbol.term 0 ∷ []) (rule at true)) (begins_as (term_rows 0) [] (λ t. rule (place t) false t)) None) rule_by go
  where
    go : (m : Option ℕ) (rest : List Piece) →
        first_by (λ at. then (symbol.term 0 ∷ []) (rule at true)) (begins_as (term_rows 0) [] (λ t. rule (place t) false t)) None m rest ≡ rule_by m rest
    go (Some at) rest = refl
    go None rest = gone_term [] (λ t. rule (place t) false t) rest

pub within_shorter : (r : Result (Option Element × Bor (List code.Piece)) Halt) (ts : List code.Piece) (n : ℕ) → Shorter r ts → length ts < n
    → Within r weight n
within_shorter (Ok x) ts n h k = go x.0
  where
    go : (e : Option Element) → length x.1.now + weight e ≤ n
    go None = omega arith
    go (Some e) = omega arith
within_shorter (Err e) ts n h k = tt
