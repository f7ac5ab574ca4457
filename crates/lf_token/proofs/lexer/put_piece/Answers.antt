use Rattle.std.proofs.Common.{◌≡◌, ℕ, ◌-◌, List, ◌++◌, length, take, sym, ap, ◌∙◌, arith, Option}
use Rattle.std.specs.Prelude.{option_map}
use Rattle.std.specs.Option.{option_to_list}
use Rattle.std.specs.Str.{encode_utf8_all}
use Rattle.lf_text.specs.declared.token.Token.{Token}
use Rattle.lf_text.specs.declared.token.TokenKind.{TokenKind}
use Rattle.lf_text.specs.Layout.{laid_out}
use Rattle.lf_text.specs.Lexemes.{piece_at, lexeme}
use Rattle.lf_token.specs.Layouts.{token_between}
use Rattle.lf_token.proofs.Rooms.{Room, room_of}
use Rattle.lf_token.proofs.lexer.put_piece.Goals as goal

pub range-requires-clause-start_boundary : goal.range-requires-clause-start_boundary
range-requires-clause-start_boundary c = λ _.
    let r : Room c.args.text.now c.args.place.at c.past-end.result.at (take c.shape_at-shape.result.1 c.args.cs.now) =
    room_of c.args.text.now c.args.place.at c.past-end.result.at c.shape_at-shape.result.1 c.args.cs.now c.requires.within c.requires.spelled c.requires.scalars
    c.shape_at-shape.ensures.within c.past-end.ensures.at in r.from

pub range-requires-clause-end_boundary : goal.range-requires-clause-end_boundary
range-requires-clause-end_boundary c =
    let r : Room c.args.text.now c.args.place.at c.past-end.result.at (take c.shape_at-shape.result.1 c.args.cs.now) =
    room_of c.args.text.now c.args.place.at c.past-end.result.at c.shape_at-shape.result.1 c.args.cs.now c.requires.within c.requires.spelled c.requires.scalars
    c.shape_at-shape.ensures.within c.past-end.ensures.at in r.to

pub kind_by-kind-requires-clause-spelled : goal.kind_by-kind-requires-clause-spelled
kind_by-kind-requires-clause-spelled c =
    let r : Room c.args.text.now c.args.place.at c.past-end.result.at (take c.shape_at-shape.result.1 c.args.cs.now) =
    room_of c.args.text.now c.args.place.at c.past-end.result.at c.shape_at-shape.result.1 c.args.cs.now c.requires.within c.requires.spelled c.requires.scalars
    c.shape_at-shape.ensures.within c.past-end.ensures.at in c.range.ensures.value ∙ r.slice

pub put_kind-requires-clause-from : goal.put_kind-requires-clause-from
put_kind-requires-clause-from c =
    let r : Room c.args.text.now c.args.place.at c.past-end.result.at (take c.shape_at-shape.result.1 c.args.cs.now) =
    room_of c.args.text.now c.args.place.at c.past-end.result.at c.shape_at-shape.result.1 c.args.cs.now c.requires.within c.requires.spelled c.requires.scalars
    c.shape_at-shape.ensures.within c.past-end.ensures.at in r.from

pub put_kind-requires-clause-to : goal.put_kind-requires-clause-to
put_kind-requires-clause-to c =
    let r : Room c.args.text.now c.args.place.at c.past-end.result.at (take c.shape_at-shape.result.1 c.args.cs.now) =
    room_of c.args.text.now c.args.place.at c.past-end.result.at c.shape_at-shape.result.1 c.args.cs.now c.requires.within c.requires.spelled c.requires.scalars
    c.shape_at-shape.ensures.within c.past-end.ensures.at in r.to

pub returns-clause-goes : goal.returns-clause-goes
returns-clause-goes c =
    let cs = c.args.cs.now in
    let n = c.shape_at-shape.result.1 in
    let at : ℕ = c.args.place.at in
    let old = c.args.layout.now in
    let kind : (piece_at cs).0 ≡ c.kind_by-kind.result =
    ap (λ (p : Option TokenKind × ℕ). p.0) c.shape_at-shape.ensures.piece ∙ sym c.kind_by-kind.ensures in
    let len : length (encode_utf8_all (take n cs)) ≡ c.past-end.result.at - at = omega (arith, c.past-end.ensures.at) in
    let same : lexeme at (take n cs) (piece_at cs).0 ≡ token_between at c.past-end.result.at c.kind_by-kind.result =
    ap (lexeme at (take n cs)) kind
    ∙ ap (λ (k : ℕ). option_to_list (option_map (λ t. let token : Token = record { at = at; len = k; kind = t } in token) c.kind_by-kind.result)) len in (
      sym (ap (λ (p : Option TokenKind × ℕ). p.1) c.shape_at-shape.ensures.piece),
      λ rest. ap (λ (ts : List Token). old.stack.tokens ++ laid_out c.args.text.now old.previous old.stack.frames (ts ++ rest)) same
          ∙ c.in_ok-put_kind.ensures.goes rest,
    )
