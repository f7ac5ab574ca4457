use Rattle.std.proofs.Common.{◌≡◌, ℕ, List, [], ◌∷◌, ◌++◌, Bool, true, false, cond, ◌&&◌, refl, sym, ap, ◌∙◌, append_assoc, append-nil, drop}
use Rattle.std.specs.Prelude.{replicate}
use Rattle.lf_text.specs.declared.frame.Frame.{Frame}
use Rattle.lf_text.specs.declared.frame.Frame.TheVariants.{Block}
use Rattle.lf_text.specs.declared.token.Token.{Token}
use Rattle.lf_text.specs.declared.word.Word.TheVariants.{LayoutOpen, LayoutSep, LayoutClose}
use Rattle.lf_text.specs.declared.role.Role.{Role}
use Rattle.lf_text.specs.declared.role.Role.TheVariants.{Command, Where, Closing}
use Rattle.lf_text.specs.Roles.{is}
use Rattle.lf_text.specs.Layout.{
  Put,
  mark,
  nothing,
  close,
  open_block,
  part_items,
  new_line,
  at_where,
  close_bracket,
  at_closing,
  put_inside,
  end_command,
  put_led,
  blocks,
  blocks_above,
  deeper_blocks,
  has_bracket,
  is_block_at,
}

-- the tokens so far, and then those of a step
abbrev pub prepend : List Token → Put → Put
prepend done put = record { tokens = done ++ put.tokens; frames = put.frames }

abbrev pub put_of : List Token → List Frame → Put
put_of tokens frames = record { tokens = tokens; frames = frames }

close_after : (done : List Token) (at n : ℕ) (put : Put) → close at n (prepend done put) ≡ prepend done (close at n put)
close_after done at n put = ap (λ ts. put_of ts (drop n put.frames)) (append_assoc done put.tokens (replicate n (mark LayoutClose at)))

open_after : (done : List Token) (at column : ℕ) (put : Put) → open_block at column (prepend done put) ≡ prepend done (open_block at column put)
open_after done at column put = ap (λ ts. put_of ts (Block column ∷ put.frames)) (append_assoc done put.tokens (mark LayoutOpen at ∷ []))

part_after : (done : List Token) (at column : ℕ) (put : Put) → part_items at column (prepend done put) ≡ prepend done (part_items at column put)
part_after done at column put =
    ap (λ ts. put_of ts put.frames) (append_assoc done put.tokens (cond (is_block_at column put.frames) (mark LayoutSep at ∷ []) []))

line_after : (done : List Token) (at column : ℕ) (put : Put) → new_line at column (prepend done put) ≡ prepend done (new_line at column put)
line_after done at column put =
    ap (part_items at column) (close_after done at (deeper_blocks column put.frames) put)
    ∙ part_after done at column (close at (deeper_blocks column put.frames) put)

cond_after : (done : List Token) (b : Bool) (x y : Put → Put) (put : Put) → x (prepend done put) ≡ prepend done (x put)
    → y (prepend done put) ≡ prepend done (y put) →
    cond b (x (prepend done put)) (y (prepend done put)) ≡ prepend done (cond b (x put) (y put))
cond_after done true x y put e f = e
cond_after done false x y put e f = f

where_after : (done : List Token) (at : ℕ) (role : Role) (put : Put) → at_where at role (prepend done put) ≡ prepend done (at_where at role put)
where_after done at role put = cond_after done (is Where role) (λ p. close at (blocks_above p.frames) p) (λ p. p) put
    (close_after done at (blocks_above put.frames) put) refl

leave_after : (done : List Token) (at : ℕ) (put : Put) → close_bracket at (prepend done put) ≡ prepend done (close_bracket at put)
leave_after done at put =
    ap (λ ts. put_of ts (drop 1 (drop (blocks_above put.frames) put.frames)))
    (append_assoc done put.tokens (replicate (blocks_above put.frames) (mark LayoutClose at)))

closing_after : (done : List Token) (at : ℕ) (role : Role) (put : Put) → at_closing at role (prepend done put) ≡ prepend done (at_closing at role put)
closing_after done at role put = cond_after done (is Closing role && has_bracket put.frames) (close_bracket at) (λ p. p) put (leave_after done at put) refl

inner_after : (done : List Token) (at column : ℕ) (role : Role) (opens first : Bool) (put : Put) →
    cond opens (at_where at role (open_block at column (prepend done put)))
    (cond first (new_line at column (at_where at role (prepend done put))) (at_where at role (prepend done put)))
    ≡ prepend done (cond opens (at_where at role (open_block at column put)) (cond first (new_line at column (at_where at role put)) (at_where at role put)))
inner_after done at column role opens first put =
    cond_after done opens (λ p. at_where at role (open_block at column p)) (λ p. cond first (new_line at column (at_where at role p)) (at_where at role p)) put
    (ap (at_where at role) (open_after done at column put) ∙ where_after done at role (open_block at column put))
    (cond_after done first (λ p. new_line at column (at_where at role p)) (at_where at role) put
    (ap (new_line at column) (where_after done at role put) ∙ line_after done at column (at_where at role put))
    (where_after done at role put))

inside_after : (done : List Token) (at column : ℕ) (role : Role) (opens first : Bool) (put : Put) →
    put_inside at column role opens first (prepend done put) ≡ prepend done (put_inside at column role opens first put)
inside_after done at column role opens first put =
    ap (at_closing at role) (inner_after done at column role opens first put)
    ∙ closing_after done at role (cond opens (at_where at role (open_block at column put))
    (cond first (new_line at column (at_where at role put)) (at_where at role put)))

end_after : (done : List Token) (at : ℕ) (put : Put) → end_command at (prepend done put) ≡ prepend done (end_command at put)
end_after done at put = ap (λ ts. put_of ts []) (append_assoc done put.tokens (replicate (blocks put.frames) (mark LayoutClose at)))

led_after : (done : List Token) (at column end : ℕ) (role : Role) (opens first : Bool) (put : Put) →
    put_led at column end role opens first (prepend done put) ≡ prepend done (put_led at column end role opens first put)
led_after done at column end role opens first put =
    cond_after done (is Command role) (end_command end) (put_inside at column role opens first) put (end_after done end put)
    (inside_after done at column role opens first put)

whole : (put : Put) → put ≡ prepend put.tokens (nothing put.frames)
whole put = ap (λ ts. put_of ts put.frames) (sym (append-nil put.tokens))

-- the rules add their tokens to those that are there
pub led_whole : (at column end : ℕ) (role : Role) (opens first : Bool) (put : Put) →
    put_led at column end role opens first put ≡ prepend put.tokens (put_led at column end role opens first (nothing put.frames))
led_whole at column end role opens first put =
    ap (put_led at column end role opens first) (whole put) ∙ led_after put.tokens at column end role opens first (nothing put.frames)
