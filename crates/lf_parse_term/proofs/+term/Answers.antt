use Rattle.std.proofs.Common.{◌≡◌, ◌∙◌, sym, ap, subst, arith, rules, true, List, [], ◌∷◌, map, Option, Some, Ok}
use Rattle.lf_syntax.specs.Piece.{word}
use Rattle.lf_syntax.specs.Symbol as symbol
use Rattle.lf_syntax.specs.Tree.{TermTree, LBinderTree, fun_term, forall_term, arrow, binders, paren, some_term}
use Rattle.lf_syntax.specs.declared.leaf.Ident.{Ident}
use Rattle.lf_name.specs.declared.binder.BinderKind.TheVariants.{Implicit}
use Rattle.lf_syntax.specs.TermNode.{lbinder_tree}
use Rattle.lf_syntax.specs.Levels.{takes}
use Rattle.lf_syntax.specs.Rows.{operand_rows}
use Rattle.lf_text.specs.declared.word.Word.TheVariants as words
use Rattle.lf_parse_term.specs.Descent.{Reading, read, seq, maybe, behind}
use Rattle.lf_parse_term.specs.Spine.{ToldThen, after, after_maybe, chained, some_lead, applied_all, name_terms}
use Rattle.lf_parse_term.specs.View.{piece, views}
use Rattle.lf_parse_term.specs.declared.element.Element.TheVariants.{Atom, Lead}
use Rattle.lf_parse_term.proofs.Arguments.{group_some}
use Rattle.lf_parse_term.proofs.Steps.{binding_told, brace_told, implicit_told, close_told, op_step}
use Rattle.lf_parse_term.proofs.+term.Goals as goal

pub terms::chain-list-preserved : goal.terms::chain-list-preserved
terms::chain-list-preserved t c =
    let o = c.in-Operator in
    let r = c.in_ok-right in
    let taken : takes c.args.least c.list.level o.op ≡ true = sym c.takes.ensures ∙ c.if-not-takes.false in
    record {
      told =
          c.list.invariant.told ∙
          op_step c.list.left r.right c.args.least c.list.level o.op o.field-1 (views c.list.rest.now) (views o.more.now) (views r.more.now)
          taken o.ensures.front (ap (λ n. read (symbol.term n) (views o.more.now)) (sym c.right.ensures) ∙ r.ensures.told) ∙
          (λ i. chained (sym c.in_ok-left.ensures i) (read (symbol.operators c.args.least (sym c.level-level.ensures i)) (views r.more.now)));
      shorter = omega (arith, r.ensures.shorter, o.ensures.behind, c.list.invariant.shorter);
    }

pub terms::element-returns-in_ok-inside-in-LeftParen-clause-told : goal.terms::element-returns-in_ok-inside-in-LeftParen-clause-told
terms::element-returns-in_ok-inside-in-LeftParen-clause-told t c =
    let w = c.in-Word in
    let g = c.in_ok-inside-in-LeftParen in
    subst (λ us. maybe operand_rows us ≡ after_maybe (Some g.inside) (views g.rest.now))
    (ap (λ v. piece (word v) w.spot ∷ views w.rest.now) (sym c.in-LeftParen.is) ∙ w.ensures.front)
    (group_some (read (symbol.group w.spot.at) (views w.rest.now)) g.inside (views g.rest.now) g.ensures.told)

pub terms::forall_term-returns-clause-told : goal.terms::forall_term-returns-clause-told
unfolding after_maybe
terms::forall_term-returns-clause-told t c =
    let a = c.in_ok-first in
    let b = c.in_ok-binders in
    let first : behind (lbinder_tree a.first ∷ []) (read symbol.lambda_binders (views a.rest.now)) ≡ Ok (map lbinder_tree b.binders.items, views b.rest.now) =
    ap (λ xs. behind (map lbinder_tree xs) (read symbol.lambda_binders (views a.rest.now))) (sym c.in_ok-one.ensures) ∙ b.ensures.told in
    binding_told (forall_term c.args.at) words.Comma (lbinder_tree a.first) b.binders.items c.in_ok-body.body
    (views c.args.toks.now) (views a.rest.now) (views b.rest.now) (views c.in_ok-rest.rest.now) (views c.in_ok-body.rest.now)
    a.ensures.told first c.in_ok-rest.ensures.told c.in_ok-body.ensures.told ∙
    ap (λ (u : TermTree). Ok (some_lead u, views c.in_ok-body.rest.now)) (sym c.in_ok-term.ensures)

pub terms::fun_term-returns-clause-told : goal.terms::fun_term-returns-clause-told
unfolding after_maybe
terms::fun_term-returns-clause-told t c =
    let a = c.in_ok-first in
    let b = c.in_ok-binders in
    let first : behind (lbinder_tree a.first ∷ []) (read symbol.lambda_binders (views a.rest.now)) ≡ Ok (map lbinder_tree b.binders.items, views b.rest.now) =
    ap (λ xs. behind (map lbinder_tree xs) (read symbol.lambda_binders (views a.rest.now))) (sym c.in_ok-one.ensures) ∙ b.ensures.told in
    binding_told (fun_term c.args.at) words.FatArrow (lbinder_tree a.first) b.binders.items c.in_ok-body.body
    (views c.args.toks.now) (views a.rest.now) (views b.rest.now) (views c.in_ok-rest.rest.now) (views c.in_ok-body.rest.now)
    a.ensures.told first c.in_ok-rest.ensures.told c.in_ok-body.ensures.told ∙
    ap (λ (u : TermTree). Ok (some_lead u, views c.in_ok-body.rest.now)) (sym c.in_ok-term.ensures)

pub terms::named_close-returns-in_ok-term-in-None-clause-told : goal.terms::named_close-returns-in_ok-term-in-None-clause-told
terms::named_close-returns-in_ok-term-in-None-clause-told t c =
    let p = c.in_ok-rest in
    let q = c.in_ok-arrow in
    let inside : applied_all (name_terms c.args.before.items c.args.last []) ≡ c.in_ok-inside-in-None.inside =
    ap applied_all (ap (name_terms c.args.before.items c.args.last) (sym c.new.ensures.items) ∙ sym c.in_ok-terms-in-None.ensures.terms)
    ∙ sym c.in_ok-inside-in-None.ensures in
    close_told c.args.at c.args.before.items c.args.last c.args.ty (views c.args.toks.now) (views p.rest.now) (views q.rest.now)
    p.ensures.told (q.ensures.told ∙ ap (λ o. Ok (o, views q.rest.now)) c.in-None.is) ∙
    ap (λ (u : TermTree). after (Atom u) (views q.rest.now))
    (ap (λ (u : TermTree). paren c.args.at u (some_term c.args.ty)) inside ∙ sym c.in_ok-term-in-None.ensures)

pub terms::some_lambda_binder-returns-in_ok-implicit-in-Word-LeftBrace-default-default-clause-told :
    goal.terms::some_lambda_binder-returns-in_ok-implicit-in-Word-LeftBrace-default-default-clause-told
terms::some_lambda_binder-returns-in_ok-implicit-in-Word-LeftBrace-default-default-clause-told t c =
    let w = c.in-Word-LeftBrace-default-default in
    let a = c.in_ok-first-in-Word-LeftBrace-default-default in
    let b = c.in_ok-names-in-Word-LeftBrace-default-default in
    let d = c.in_ok-ty-in-Word-LeftBrace-default-default in
    let names : behind (a.first ∷ []) (read symbol.binder_names (views a.rest.now)) ≡ Ok (b.names.items, views b.rest.now) =
    ap (λ xs. behind xs (read symbol.binder_names (views a.rest.now))) (sym c.in_ok-one-in-Word-LeftBrace-default-default.ensures) ∙ b.ensures.told in
    implicit_told w.spot a.first b.names.items d.ty (views c.args.toks.now) (views w.rest.now) (views a.rest.now) (views b.rest.now) (views d.rest.now)
    (ap (λ v. piece (word v) w.spot ∷ views w.rest.now) (sym w.field-0-is) ∙ w.ensures.front) a.ensures.told names d.ensures.told ∙
    ap (λ (u : LBinderTree). Ok (Some u, views d.rest.now)) (sym c.in_ok-implicit-in-Word-LeftBrace-default-default.ensures)

pub terms::brace_arrow-returns-clause-told : goal.terms::brace_arrow-returns-clause-told
terms::brace_arrow-returns-clause-told t c =
    let a = c.in_ok-first in
    let b = c.in_ok-names in
    let names : behind (a.first ∷ []) (read symbol.binder_names (views a.rest.now)) ≡ Ok (b.names.items, views b.rest.now) =
    ap (λ xs. behind xs (read symbol.binder_names (views a.rest.now))) (sym c.in_ok-one.ensures) ∙ b.ensures.told in
    subst (ToldThen c.arrow_behind.result after_maybe)
    (sym (brace_told c.args.at a.first b.names.items c.in_ok-ty.ty (views c.args.toks.now) (views a.rest.now) (views b.rest.now) (views c.in_ok-rest.rest.now)
    (views c.in_ok-ty.rest.now) (views c.in_ok-rest-2.rest.now) a.ensures.told names c.in_ok-rest.ensures.told c.in_ok-ty.ensures.told
    c.in_ok-rest-2.ensures.told ∙
    ap (λ (xs : List Ident). seq (symbol.arrow_token ∷ symbol.term 0 ∷ []) (views c.in_ok-rest-2.rest.now)
    (λ _ u. some_lead (arrow c.args.at (binders c.args.at Implicit xs c.in_ok-ty.ty) u)))
    (sym c.in_ok-names-2.ensures)))
    c.arrow_behind.ensures.told
