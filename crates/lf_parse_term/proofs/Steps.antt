-- What follows from the answers of several calls.
use Rattle.std.proofs.Common.{◌≡◌, ℕ, true, List, [], ◌∷◌, ◌++◌, map, drop, Option, None, Some, Result, Ok, Err, refl, sym, ap, subst, ◌∙◌}
use Rattle.lf_name.specs.declared.binder.BinderKind.TheVariants.{Implicit}
use Rattle.lf_text.specs.declared.operator.Op.{Op}
use Rattle.lf_text.specs.Operators.{op_level, right_of}
use Rattle.lf_text.specs.declared.word.Word.{Word}
use Rattle.lf_text.specs.declared.word.Word.TheVariants as words
use Rattle.lf_syntax.specs.declared.leaf.Ident.{Ident}
use Rattle.lf_syntax.specs.declared.term.LBinder.{LBinder}
use Rattle.lf_syntax.specs.Piece.{Piece, word, operator}
use Rattle.lf_syntax.specs.Symbol.{Spine}
use Rattle.lf_syntax.specs.Symbol as symbol
use Rattle.lf_syntax.specs.Tree.{TermTree, LBinderTree, LBinderTrees, arrow, binders, paren, some_term, oper, place, binders_of}
use Rattle.lf_syntax.specs.TermNode.{lbinder_tree, lbinder_trees}
use Rattle.lf_syntax.specs.Levels.{takes}
use Rattle.lf_syntax.specs.Build.{applied, names_spine}
use Rattle.lf_syntax.specs.Row.{then}
use Rattle.lf_syntax.specs.Rows.{operand_rows, operator_rows, lambda_binder_rows, implicit_binder}
use Rattle.lf_parse_term.specs.Descent.{Reading, read, reading, by_row, seq, maybe, behind, ◌>>=◌}
use Rattle.lf_parse_term.specs.Front.{arrow_rows}
use Rattle.lf_parse_term.specs.Spine.{after, after_maybe, chained, some_lead, named_close, end_by, applied_all, name_terms}
use Rattle.lf_parse_term.specs.View.{piece}
use Rattle.lf_parse_term.specs.declared.piece.Spot.{Spot}
use Rattle.lf_parse_term.specs.declared.element.Element.TheVariants.{Atom}
use Rattle.lf_parse_term.proofs.Lists.{behind_tail, behind_whole}
use Rattle.lf_parse_term.proofs.Laws.{first_row_by}
use Rattle.lf_parse_term.proofs.Forms.{read_operators, lambdas_are, chained_one}

pub binding_told : (make : LBinderTrees → TermTree → TermTree) (w : Word) (b : LBinderTree) (bs : List LBinder) (t : TermTree) (ts us vs ws rest : List Piece) →
    read symbol.lambda_binder ts ≡ Ok (b, us) → behind (b ∷ []) (read symbol.lambda_binders us) ≡ Ok (map lbinder_tree bs, vs) →
    read (symbol.token w) vs ≡ Ok (tt, ws) → read (symbol.term 0) ws ≡ Ok (t, rest) →
    seq (symbol.lambda_binder ∷ symbol.lambda_binders ∷ symbol.token w ∷ symbol.term 0 ∷ []) ts (λ a more _ u. some_lead (make (binders_of (a ∷ more)) u)) ≡
    Ok (some_lead (make (lbinder_trees bs) t), rest)
binding_told make w b bs t ts us vs ws rest e f g h =
    let all : List LBinderTree = map lbinder_tree bs in
    rw e (rw (behind_tail (b ∷ []) (read symbol.lambda_binders us) all vs f) (rw g (rw h
    (ap (λ (xs : LBinderTrees). Ok (some_lead (make xs t), rest))
    (ap binders_of (behind_whole (b ∷ []) (read symbol.lambda_binders us) all vs f) ∙ sym (lambdas_are bs))))))

pub brace_told : (at : ℕ) (x : Ident) (names : List Ident) (ty : TermTree) (ts us vs ws ys rest : List Piece) →
    read symbol.binder_name ts ≡ Ok (x, us) → behind (x ∷ []) (read symbol.binder_names us) ≡ Ok (names, vs) →
    read (symbol.token words.Colon) vs ≡ Ok (tt, ws) → read (symbol.term 0) ws ≡ Ok (ty, ys) → read (symbol.token words.RightBrace) ys ≡ Ok (tt, rest) →
    seq (symbol.binder_name ∷ symbol.binder_names ∷ symbol.token words.Colon ∷ symbol.term 0 ∷ symbol.token words.RightBrace ∷ symbol.arrow_token
    ∷ symbol.term 0 ∷ []) ts
    (λ a more _ u _ _ t. some_lead (arrow at (binders at Implicit (a ∷ more) u) t)) ≡
    seq (symbol.arrow_token ∷ symbol.term 0 ∷ []) rest (λ _ t. some_lead (arrow at (binders at Implicit names ty) t))
brace_told at x names ty ts us vs ws ys rest e f g h k =
    rw e (rw (behind_tail (x ∷ []) (read symbol.binder_names us) names vs f) (rw g (rw h (rw k
    (ap (λ (xs : List Ident). seq (symbol.arrow_token ∷ symbol.term 0 ∷ []) rest (λ _ t. some_lead (arrow at (binders at Implicit xs ty) t)))
    (behind_whole (x ∷ []) (read symbol.binder_names us) names vs f))))))

pub implicit_told : (s : Spot) (x : Ident) (names : List Ident) (ty : Option TermTree) (ts us vs ws rest : List Piece) →
    piece (word words.LeftBrace) s ∷ us ≡ ts → read symbol.binder_name us ≡ Ok (x, vs) → behind (x ∷ []) (read symbol.binder_names vs) ≡ Ok (names, ws) →
    read symbol.implicit_end ws ≡ Ok (ty, rest) → maybe lambda_binder_rows ts ≡ Ok (Some (implicit_binder s.at names ty), rest)
implicit_told s x names ty ts us vs ws rest e f g h =
    subst (λ (zs : List Piece). maybe lambda_binder_rows zs ≡ Ok (Some (implicit_binder s.at names ty), rest)) e
    (rw f (rw (behind_tail (x ∷ []) (read symbol.binder_names vs) names ws g) (rw h
    (ap (λ (xs : List Ident). Ok (Some (implicit_binder s.at xs ty), rest)) (behind_whole (x ∷ []) (read symbol.binder_names vs) names ws g)))))

spine_all : (before : List Ident) (x : Ident) → applied (names_spine before x []).head (names_spine before x []).arguments
    ≡ applied_all (name_terms before x [])
spine_all [] x = refl
spine_all (y ∷ before) x = refl

pub close_told : (at : ℕ) (before : List Ident) (x : Ident) (ty : TermTree) (ts us rest : List Piece) →
    read (symbol.token words.RightParen) ts ≡ Ok (tt, us) → maybe arrow_rows us ≡ Ok (None, rest) →
    named_close at before x ty ts ≡ after (Atom (paren at (applied_all (name_terms before x [])) (some_term ty))) rest
unfolding named_close after
close_told at before x ty ts us rest e f =
    rw e (rw f (ap (λ (t : TermTree). after (Atom (paren at t (some_term ty))) rest) (spine_all before x)))

pub op_step : (left right : TermTree) (least level : ℕ) (o : Op) (s : Spot) (ts us rest : List Piece) →
    takes least level o ≡ true → piece (operator o) s ∷ us ≡ ts → read (symbol.term (right_of o)) us ≡ Ok (right, rest) →
    chained left (read (symbol.operators least level) ts) ≡ chained (oper (place left) o left right) (read (symbol.operators least (op_level o)) rest)
op_step left right least level o s ts us rest e f g =
    subst (λ (zs : List Piece). chained left (read (symbol.operators least level) zs)
    ≡ chained (oper (place left) o left right) (read (symbol.operators least (op_level o)) rest)) f
    (ap (chained left) (read_operators least level (piece (operator o) s ∷ us) ∙
    ap (λ b. by_row (first_row_by b (then (symbol.term (right_of o) ∷ symbol.operators least (op_level o) ∷ []) (λ t more. (o, t) ∷ more))) (Some [])
    (piece (operator o) s) us) e ∙
    ap (λ (m : Reading TermTree). m >>= (λ t more. read (symbol.operators least (op_level o)) more >>= (λ ops end. Ok ((o, t) ∷ ops, end)))) g) ∙
    chained_one left right o (read (symbol.operators least (op_level o)) rest))
