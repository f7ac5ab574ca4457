-- Heads and the arguments behind them.
use Rattle.std.proofs.Common.{◌≡◌, ◌<◌, ◌≤◌, ◌+◌, ℕ, true, List, [], ◌∷◌, ◌++◌, length, Option, None, Some, Result, Ok, Err, refl, sym, ap, ◌∙◌, arith}
use Rattle.lf_syntax.specs.Piece.{Piece}
use Rattle.lf_syntax.specs.Symbol.{Spine}
use Rattle.lf_syntax.specs.Symbol as symbol
use Rattle.lf_syntax.specs.Tree.{
  LevelTree,
  TermTree,
  ident,
  numeral,
  hole,
  sorry_term,
  prop,
  type_u,
  sort_u,
  paren,
  app,
  oper,
  not_term,
  fun_term,
  forall_term,
  let_term,
  by_term,
  arrow,
}
use Rattle.lf_syntax.specs.Levels.{operand_level}
use Rattle.lf_syntax.specs.Build.{with_arguments, sort_spine, sort_or_none, level_of}
use Rattle.lf_syntax.specs.Rows.{operand_rows}
use Rattle.lf_parse_term.specs.Descent.{stuck, Reading, read, reading, seq, maybe, ◌>>=◌}
use Rattle.lf_parse_term.specs.Spine.{settled, list_of, after, after_maybe, extend, extended, chained, chain_of, applied_all, operation}
use Rattle.lf_parse_term.specs.declared.element.Element.{Element}
use Rattle.lf_parse_term.specs.declared.element.Element.TheVariants.{Atom, Lead}
use Rattle.lf_parse_term.specs.declared.halt.Halt.{Halt}
use Rattle.lf_parse_term.specs.declared.halt.Halt.TheVariants.{Stuck}
use Rattle.lf_parse_term.proofs.Machine.{then_then}
use Rattle.lf_parse_term.proofs.Laws.{read_is, begun, going}

-- A term is a `Type` or a `Sort` without a level, or keeps its arguments as they are.
pub data Kind : TermTree → Type 0 where
  type_kind : {at : ℕ} → Kind (type_u at None)
  sort_kind : {at : ℕ} → Kind (sort_u at None)
  plain_kind : {t : TermTree} → ((ts : List TermTree) → settled t ts ≡ with_arguments t ts) → Kind t

pub kind : (t : TermTree) → Kind t
kind (ident at e x ls) = plain_kind (λ ts. refl)
kind (numeral n) = plain_kind (λ ts. refl)
kind (hole at) = plain_kind (λ ts. refl)
kind (sorry_term at) = plain_kind (λ ts. refl)
kind (prop at) = plain_kind (λ ts. refl)
kind (type_u at None) = type_kind
kind (type_u at (Some l)) = plain_kind (λ ts. refl)
kind (sort_u at None) = sort_kind
kind (sort_u at (Some l)) = plain_kind (λ ts. refl)
kind (paren at t u) = plain_kind (λ ts. refl)
kind (app at h ts) = plain_kind (λ ts. refl)
kind (oper at o l r) = plain_kind (λ ts. refl)
kind (not_term at t) = plain_kind (λ ts. refl)
kind (fun_term at bs t) = plain_kind (λ ts. refl)
kind (forall_term at bs t) = plain_kind (λ ts. refl)
kind (let_term at x u v t) = plain_kind (λ ts. refl)
kind (by_term at items) = plain_kind (λ ts. refl)
kind (arrow at b t) = plain_kind (λ ts. refl)

single : (t : TermTree) → Kind t → list_of (settled t []) ≡ t ∷ []
single _ type_kind = refl
single _ sort_kind = refl
single t (plain_kind keeps) = ap list_of (keeps [])

pub extend_nil : (terms : List TermTree) → extend terms [] ≡ terms
extend_nil [] = refl
extend_nil (a ∷ []) = single a (kind a)
extend_nil (a ∷ b ∷ more) = ap (λ ts. a ∷ ts) (extend_nil (b ∷ more))

-- What makes a sort of a level makes no level.
record Sorts (make : Option LevelTree → TermTree) : Type 0 where
  bare : (ts : List TermTree) → settled (make None) ts ≡ sort_spine make ts
  with_level : (l : LevelTree) (ts : List TermTree) → settled (make (Some l)) ts ≡ with_arguments (make (Some l)) ts
  no_level : (o : Option LevelTree) → level_of (make o) true ≡ None

types : (at : ℕ) → Sorts (type_u at)
types at = record { bare = λ ts. refl; with_level = λ l ts. refl; no_level = λ o. refl }

sorts : (at : ℕ) → Sorts (sort_u at)
sorts at = record { bare = λ ts. refl; with_level = λ l ts. refl; no_level = λ o. refl }

-- Behind a sort with another sort behind it.
sort_sort : (make other : Option LevelTree → TermTree) → Sorts make → Sorts other → (ts : List TermTree) →
    list_of (sort_spine make (list_of (sort_spine other ts))) ≡ make None ∷ list_of (sort_spine other ts)
sort_sort make other s q [] = ap (λ o. list_of (sort_or_none make (other None) [] o)) (q.no_level None)
sort_sort make other s q (t ∷ ts) = go (level_of t true)
  where
    go : (o : Option LevelTree) →
        list_of (sort_spine make (list_of (sort_or_none other t ts o))) ≡ make None ∷ list_of (sort_or_none other t ts o)
    go None = ap (λ o. list_of (sort_or_none make (other None) (t ∷ ts) o)) (q.no_level None)
    go (Some l) = ap (λ o. list_of (sort_or_none make (other (Some l)) ts o)) (q.no_level (Some l))

-- Behind a sort with a term behind it that is none.
sort_plain : (make : Option LevelTree → TermTree) → Sorts make → (t : TermTree) → ((ts : List TermTree) → settled t ts ≡ with_arguments t ts)
    → (ts : List TermTree) (o : Option LevelTree) →
    list_of (sort_or_none make t ts o) ≡ extend (list_of (sort_or_none make t [] o)) ts
sort_plain make s t keeps ts None = ap (λ (x : Spine). make None ∷ list_of x) (sym (keeps ts))
sort_plain make s t keeps ts (Some l) = ap list_of (sym (s.with_level l ts))

sort_more : (make : Option LevelTree → TermTree) → Sorts make → (t : TermTree) → Kind t → (ts : List TermTree) →
    list_of (sort_spine make (list_of (settled t ts))) ≡ extend (list_of (sort_spine make (t ∷ []))) ts
sort_more make s _ (type_kind {at}) ts =
    sort_sort make (type_u at) s (types at) ts ∙ sym (ap (λ o. extend (list_of (sort_or_none make (type_u at None) [] o)) ts) ((types at).no_level None))
sort_more make s _ (sort_kind {at}) ts =
    sort_sort make (sort_u at) s (sorts at) ts ∙ sym (ap (λ o. extend (list_of (sort_or_none make (sort_u at None) [] o)) ts) ((sorts at).no_level None))
sort_more make s t (plain_kind keeps) ts =
    ap (λ (x : Spine). list_of (sort_spine make (list_of x))) (keeps ts) ∙ sort_plain make s t keeps ts (level_of t true)

one_more : (a t : TermTree) → Kind a → (ts : List TermTree) → list_of (settled a (list_of (settled t ts))) ≡ extend (list_of (settled a (t ∷ []))) ts
one_more _ t (type_kind {at}) ts = sort_more (type_u at) (types at) t (kind t) ts
one_more _ t (sort_kind {at}) ts = sort_more (sort_u at) (sorts at) t (kind t) ts
one_more a t (plain_kind keeps) ts = ap list_of (keeps (list_of (settled t ts))) ∙ sym (ap (λ (x : Spine). extend (list_of x) ts) (keeps (t ∷ [])))

front_kept : (a b : TermTree) (more us ts : List TermTree) → extend (a ∷ extend (b ∷ more) us) ts ≡ a ∷ extend (extend (b ∷ more) us) ts
front_kept a b [] us ts = refl
front_kept a b (c ∷ more) us ts = refl

pub extend_more : (terms : List TermTree) (t : TermTree) (ts : List TermTree) → extend terms (list_of (settled t ts)) ≡ extend (extend terms (t ∷ [])) ts
extend_more [] t ts = refl
extend_more (a ∷ []) t ts = one_more a t (kind a) ts
extend_more (a ∷ b ∷ more) t ts = ap (λ us. a ∷ us) (extend_more (b ∷ more) t ts) ∙ sym (front_kept a b more (t ∷ []) ts)

pub read_arguments : (ts : List Piece) → read symbol.arguments ts ≡ (maybe operand_rows ts >>= going [] list_of (Some []))
read_arguments ts = read_is symbol.arguments ts ∙ begun operand_rows [] list_of (Some []) ts

behind_element : (terms : List TermTree) (ts : List Piece) (m : Reading (Option Spine)) → maybe operand_rows ts ≡ m →
    extended terms (read symbol.arguments ts) ≡ extended terms (m >>= going [] list_of (Some []))
behind_element terms ts m h = ap (extended terms) (read_arguments ts ∙ ap (λ (o : Reading (Option Spine)). o >>= going [] list_of (Some [])) h)

pub argument_none : (terms : List TermTree) (ts rest : List Piece) → maybe operand_rows ts ≡ after_maybe None rest
    → extended terms (read symbol.arguments ts) ≡ Ok (terms, rest)
unfolding extended after_maybe
argument_none terms ts rest h = behind_element terms ts (Ok (None, rest)) h ∙ ap (λ (us : List TermTree). Ok (us, rest)) (extend_nil terms)

atom_more : (terms : List TermTree) (t : TermTree) (m : Reading (List TermTree)) →
    extended terms ((m >>= (λ more rest. Ok (Some (settled t more), rest))) >>= going [] list_of (Some [])) ≡ extended (extend terms (t ∷ [])) m
unfolding extended
atom_more terms t (Ok x) = ap (λ (us : List TermTree). Ok (us, x.1)) (extend_more terms t x.0)
atom_more terms t (Err e) = refl

pub argument_atom : (terms : List TermTree) (t : TermTree) (ts rest : List Piece) → maybe operand_rows ts ≡ after_maybe (Some (Atom t)) rest →
    extended terms (read symbol.arguments ts) ≡ extended (extend terms (t ∷ [])) (read symbol.arguments rest)
unfolding after_maybe
argument_atom terms t ts rest h =
    behind_element terms ts (read symbol.arguments rest >>= (λ more behind. Ok (Some (settled t more), behind))) h
    ∙ atom_more terms t (read symbol.arguments rest)

pub argument_lead : (terms : List TermTree) (t : TermTree) (ts rest : List Piece) → maybe operand_rows ts ≡ after_maybe (Some (Lead t)) rest →
    extended terms (read symbol.arguments ts) ≡ Ok (extend terms (t ∷ []), rest)
unfolding extended after_maybe
argument_lead terms t ts rest h = behind_element terms ts (Ok (Some (with_arguments t []), rest)) h

pub argument_err : (terms : List TermTree) (ts : List Piece) (e : Halt) → maybe operand_rows ts ≡ Err e → extended terms (read symbol.arguments ts) ≡ Err e
unfolding extended
argument_err terms ts e h = behind_element terms ts (Err e) h

pub group_some : (m : Reading Spine) (e : Element) (rest : List Piece) → m ≡ after e rest → (m >>= (λ s more. Ok (Some s, more))) ≡ after_maybe (Some e) rest
unfolding after after_maybe
group_some m (Atom t) rest h =
    ap (λ (o : Reading Spine). o >>= (λ s more. Ok (Some s, more))) h ∙
    then_then (read symbol.arguments rest) (λ more behind. Ok (settled t more, behind)) (λ s more. Ok (Some s, more))
group_some m (Lead t) rest h = ap (λ (o : Reading Spine). o >>= (λ s more. Ok (Some s, more))) h

pub operation_err : (least : ℕ) (terms : List TermTree) (ts : List Piece) (e : Halt) →
    extended terms (read symbol.arguments ts) ≡ Err e → operation least terms ts ≡ Err e
unfolding operation
operation_err least terms ts e h = ap (λ (m : Reading (List TermTree)). m >>= chain_of least) h

pub operation_empty : (least : ℕ) (terms all : List TermTree) (ts rest : List Piece) →
    extended terms (read symbol.arguments ts) ≡ Ok (all, rest) → length all ≡ 0 → operation least terms ts ≡ Err (Stuck (length rest))
unfolding operation
operation_empty least terms [] ts rest h e = ap (λ (m : Reading (List TermTree)). m >>= chain_of least) h
operation_empty least terms (t ∷ all) ts rest h e = absurd (omega arith)

pub operation_some : (least : ℕ) (terms all : List TermTree) (ts rest : List Piece) →
    extended terms (read symbol.arguments ts) ≡ Ok (all, rest) → 0 < length all →
    operation least terms ts ≡ chained (applied_all all) (read (symbol.operators least operand_level) rest)
unfolding operation
operation_some least terms [] ts rest h e = absurd (omega arith)
operation_some least terms (t ∷ all) ts rest h e = ap (λ (m : Reading (List TermTree)). m >>= chain_of least) h
