use Rattle.std.proofs.Common.{ℕ, ◌+◌, ◌-◌, List, ◌++◌, length, take, drop, sym, ap, ◌∙◌, arith}
use Rattle.lf_text.specs.declared.token.Token.{Token}
use Rattle.lf_text.specs.Layout.{laid_out}
use Rattle.lf_text.specs.Lexemes.{lexemes_from}
use Rattle.lf_token.proofs.Turns.{Turn, turn_of, next_place, next_within, next_tokens, first_place, first_tokens}
use Rattle.lf_token.proofs.lexer.tokens.Goals as goal

pub pieces-init : goal.pieces-init
pieces-init c = record {
  within = omega arith;
  place = first_place;
  knows = c.new-layout.ensures.knows c.as_str-bytes.result.now;
  whole = first_tokens c.as_str-bytes.result.now c.in_ok-cs.cs.items c.new-layout.result.stack.tokens c.new-layout.result.previous
      c.new-layout.result.stack.frames
      c.in_ok-cs.ensures c.new-layout.ensures.stack.0 c.new-layout.ensures.stack.1 c.new-layout.ensures.previous;
}

pub put_piece-requires-clause-within : goal.put_piece-requires-clause-within
put_piece-requires-clause-within c =
    let t : Turn c.as_str-bytes.result.now c.in_ok-cs.cs.items (take (length c.deref.result.now - c.pieces.done) (drop c.pieces.done c.deref.result.now))
    c.pieces.place c.pieces.done =
    turn_of c.as_str-bytes.result.now c.in_ok-cs.cs.items c.deref.result.now c.pieces.place c.pieces.done c.as_str-bytes.utf8 c.in_ok-cs.ensures
    c.deref.ensures.value
    c.pieces.invariant.within c.pieces.invariant.place in
    t.within

pub put_piece-requires-clause-spelled : goal.put_piece-requires-clause-spelled
put_piece-requires-clause-spelled c =
    let t : Turn c.as_str-bytes.result.now c.in_ok-cs.cs.items (take (length c.deref.result.now - c.pieces.done) (drop c.pieces.done c.deref.result.now))
    c.pieces.place c.pieces.done =
    turn_of c.as_str-bytes.result.now c.in_ok-cs.cs.items c.deref.result.now c.pieces.place c.pieces.done c.as_str-bytes.utf8 c.in_ok-cs.ensures
    c.deref.ensures.value
    c.pieces.invariant.within c.pieces.invariant.place in
    t.spelled

pub put_piece-requires-clause-scalars : goal.put_piece-requires-clause-scalars
put_piece-requires-clause-scalars c =
    let t : Turn c.as_str-bytes.result.now c.in_ok-cs.cs.items (take (length c.deref.result.now - c.pieces.done) (drop c.pieces.done c.deref.result.now))
    c.pieces.place c.pieces.done =
    turn_of c.as_str-bytes.result.now c.in_ok-cs.cs.items c.deref.result.now c.pieces.place c.pieces.done c.as_str-bytes.utf8 c.in_ok-cs.ensures
    c.deref.ensures.value
    c.pieces.invariant.within c.pieces.invariant.place in
    t.scalars

pub put_piece-requires-clause-line : goal.put_piece-requires-clause-line
put_piece-requires-clause-line c =
    let t : Turn c.as_str-bytes.result.now c.in_ok-cs.cs.items (take (length c.deref.result.now - c.pieces.done) (drop c.pieces.done c.deref.result.now))
    c.pieces.place c.pieces.done =
    turn_of c.as_str-bytes.result.now c.in_ok-cs.cs.items c.deref.result.now c.pieces.place c.pieces.done c.as_str-bytes.utf8 c.in_ok-cs.ensures
    c.deref.ensures.value
    c.pieces.invariant.within c.pieces.invariant.place in
    t.line

pub put_piece-requires-clause-column : goal.put_piece-requires-clause-column
put_piece-requires-clause-column c =
    let t : Turn c.as_str-bytes.result.now c.in_ok-cs.cs.items (take (length c.deref.result.now - c.pieces.done) (drop c.pieces.done c.deref.result.now))
    c.pieces.place c.pieces.done =
    turn_of c.as_str-bytes.result.now c.in_ok-cs.cs.items c.deref.result.now c.pieces.place c.pieces.done c.as_str-bytes.utf8 c.in_ok-cs.ensures
    c.deref.ensures.value
    c.pieces.invariant.within c.pieces.invariant.place in
    t.column

pub put_piece-requires-clause-low : goal.put_piece-requires-clause-low
put_piece-requires-clause-low c =
    let t : Turn c.as_str-bytes.result.now c.in_ok-cs.cs.items (take (length c.deref.result.now - c.pieces.done) (drop c.pieces.done c.deref.result.now))
    c.pieces.place c.pieces.done =
    turn_of c.as_str-bytes.result.now c.in_ok-cs.cs.items c.deref.result.now c.pieces.place c.pieces.done c.as_str-bytes.utf8 c.in_ok-cs.ensures
    c.deref.ensures.value
    c.pieces.invariant.within c.pieces.invariant.place in
    t.bounds.line

pub put_piece-requires-clause-left : goal.put_piece-requires-clause-left
put_piece-requires-clause-left c =
    let t : Turn c.as_str-bytes.result.now c.in_ok-cs.cs.items (take (length c.deref.result.now - c.pieces.done) (drop c.pieces.done c.deref.result.now))
    c.pieces.place c.pieces.done =
    turn_of c.as_str-bytes.result.now c.in_ok-cs.cs.items c.deref.result.now c.pieces.place c.pieces.done c.as_str-bytes.utf8 c.in_ok-cs.ensures
    c.deref.ensures.value
    c.pieces.invariant.within c.pieces.invariant.place in
    t.bounds.column

pub pieces-preserved : goal.pieces-preserved
pieces-preserved c =
    let rest : List ℕ = take (length c.deref.result.now - c.pieces.done) (drop c.pieces.done c.deref.result.now) in
    let t : Turn c.as_str-bytes.result.now c.in_ok-cs.cs.items (take (length c.deref.result.now - c.pieces.done) (drop c.pieces.done c.deref.result.now))
    c.pieces.place c.pieces.done =
    turn_of c.as_str-bytes.result.now c.in_ok-cs.cs.items c.deref.result.now c.pieces.place c.pieces.done c.as_str-bytes.utf8 c.in_ok-cs.ensures
    c.deref.ensures.value
    c.pieces.invariant.within c.pieces.invariant.place in
    let old = c.pieces.layout in
    let behind : List Token = lexemes_from c.in_ok-len.end.at 0 (drop (c.pieces.done + c.in_ok-len.len) c.in_ok-cs.cs.items) in
    record {
      within = next_within c.in_ok-cs.cs.items rest c.pieces.done c.in_ok-len.len t.rest_is c.pieces.invariant.within c.in_ok-len.ensures.within;
      place = next_place c.in_ok-cs.cs.items rest c.pieces.done c.in_ok-len.len c.in_ok-len.end t.rest_is
          (c.in_ok-len.ensures.place (take c.pieces.done c.in_ok-cs.cs.items) c.pieces.invariant.place);
      knows = c.in_ok-len.ensures.knows;
      whole = sym (c.in_ok-len.ensures.goes.1 behind)
          ∙ ap (λ (ts : List Token). old.stack.tokens ++ laid_out c.as_str-bytes.result.now old.previous old.stack.frames ts)
          (sym (next_tokens c.in_ok-cs.cs.items rest c.pieces.place.at c.in_ok-len.end.at c.pieces.done c.in_ok-len.len t.rest_is c.in_ok-len.ensures.some
          c.in_ok-len.ensures.within
          c.in_ok-len.ensures.goes.0 c.in_ok-len.ensures.at))
          ∙ c.pieces.invariant.whole;
    }
