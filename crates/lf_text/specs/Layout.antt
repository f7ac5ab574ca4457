-- The rules of layout: what they put before each token.
use Rattle.std.specs.Prelude.{ℕ, ◌+◌, List, [], ◌∷◌, ◌++◌, take, drop, Bool, true, false, not, ◌||◌, ◌&&◌, ◌==◌, nat_lt, if◌then◌else◌, replicate, count_by}
use Rattle.std.specs.List.{prefix_len}
use Rattle.lf_text.specs.declared.frame.Frame.{Frame}
use Rattle.lf_text.specs.declared.frame.Frame.TheVariants.{Block, Bracket}
use Rattle.lf_text.specs.declared.role.Role.{Role}
use Rattle.lf_text.specs.declared.role.Role.TheVariants.{Command, BlockOpener, Where, Bar, Opening, Closing}
use Rattle.lf_text.specs.declared.token.Token.{Token}
use Rattle.lf_text.specs.declared.token.TokenKind.TheVariants as kind
use Rattle.lf_text.specs.declared.word.Word.{Word}
use Rattle.lf_text.specs.declared.word.Word.TheVariants.{LayoutOpen, LayoutSep, LayoutClose}
use Rattle.lf_text.specs.Roles.{role_of, is}
use Rattle.lf_text.specs.Place.{line_of, column_of}

-- the bytes of a token
abbrev pub spelled : List ℕ → Token → List ℕ
spelled bytes t = take t.len (drop t.at bytes)

-- a layout token at a place
abbrev pub mark : Word → ℕ → Token
mark word at = record { at = at; len = 0; kind = kind.Word word }

-- the token is the first on its line, where this one comes before it
abbrev pub is_first : List ℕ → Token → Token → Bool
is_first bytes previous t = nat_lt (line_of bytes previous.at) (line_of bytes t.at)

-- a block opens between two tokens: after `by`, `·`, and a `where` whose next token isn't `|`
abbrev pub opens_block : Role → Role → Bool
opens_block previous role = is BlockOpener previous || (is Where previous && not (is Bar role))

-- What is open is listed from the innermost on.

abbrev pub is_block : Frame → Bool
is_block (Block column) = true
is_block Bracket = false

abbrev pub is_bracket : Frame → Bool
is_bracket (Block column) = false
is_bracket Bracket = true

-- a block of a greater column
abbrev pub is_deeper : ℕ → Frame → Bool
is_deeper column (Block c) = nat_lt column c
is_deeper column Bracket = false

-- how many blocks are open, how many of them above the innermost open bracket, and how many, from
-- the innermost on, have a greater column
abbrev pub blocks : List Frame → ℕ
blocks frames = count_by is_block frames

abbrev pub blocks_above : List Frame → ℕ
blocks_above frames = prefix_len is_block frames

abbrev pub deeper_blocks : ℕ → List Frame → ℕ
deeper_blocks column frames = prefix_len (is_deeper column) frames

-- a bracket is open
abbrev pub has_bracket : List Frame → Bool
has_bracket frames = nat_lt 0 (count_by is_bracket frames)

-- the innermost thing open is a block of this column
abbrev pub is_block_at : ℕ → List Frame → Bool
is_block_at column [] = false
is_block_at column (Block c ∷ frames) = c == column
is_block_at column (Bracket ∷ frames) = false

-- layout tokens, and what is open after them
pub record Put : Type 0 where
  pub tokens : List Token
  pub frames : List Frame

-- nothing yet
abbrev pub nothing : List Frame → Put
nothing frames = record { tokens = []; frames = frames }

-- the innermost n blocks close
abbrev pub close : ℕ → ℕ → Put → Put
close at n put = record { tokens = put.tokens ++ replicate n (mark LayoutClose at); frames = drop n put.frames }

-- a block of this column opens
abbrev pub open_block : ℕ → ℕ → Put → Put
open_block at column put = record { tokens = put.tokens ++ mark LayoutOpen at ∷ []; frames = Block column ∷ put.frames }

-- a Sep, where a block of this column is the innermost thing open
abbrev pub part_items : ℕ → ℕ → Put → Put
part_items at column put =
    record put { tokens = put.tokens ++ (if is_block_at column put.frames then mark LayoutSep at ∷ [] else []) }

-- at a token that is the first on its line: deeper blocks close, and a block of its column goes on
abbrev pub new_line : ℕ → ℕ → Put → Put
new_line at column put = part_items at column (close at (deeper_blocks column put.frames) put)

-- at a `where`: all blocks above the innermost open bracket close
abbrev pub at_where : ℕ → Role → Put → Put
at_where at role put = if is Where role then close at (blocks_above put.frames) put else put

-- the innermost bracket closes, and the blocks above it
abbrev pub close_bracket : ℕ → Put → Put
close_bracket at put = let closed = close at (blocks_above put.frames) put in record closed { frames = drop 1 closed.frames }

-- at a closing bracket: it closes its bracket, if one is open
abbrev pub at_closing : ℕ → Role → Put → Put
at_closing at role put = if is Closing role && has_bracket put.frames then close_bracket at put else put

-- inside a command: what the rules put before a token of this column, behind which a block opens or which is the first on its line
abbrev pub put_inside : ℕ → ℕ → Role → Bool → Bool → Put → Put
put_inside at column role opens first put =
    at_closing at role
    (if opens then at_where at role (open_block at column put)
    else (if first then new_line at column (at_where at role put) else at_where at role put))

-- the end of a command, behind its last token, closes all its blocks
abbrev pub end_command : ℕ → Put → Put
end_command at put = record { tokens = put.tokens ++ replicate (blocks put.frames) (mark LayoutClose at); frames = [] }

-- what is put before a token; the command before it ends at a place
abbrev pub put_led : ℕ → ℕ → ℕ → Role → Bool → Bool → Put → Put
put_led at column end role opens first put = if is Command role then end_command end put else put_inside at column role opens first put

abbrev pub put_before : List ℕ → Token → List Frame → Token → Put
put_before bytes previous frames t =
    put_led t.at (column_of bytes t.at) (previous.at + previous.len) (role_of t.kind) (opens_block (role_of previous.kind) (role_of t.kind))
    (is_first bytes previous t)
    (nothing frames)

-- what is open behind a token
abbrev pub frames_after : Role → List Frame → List Frame
frames_after role frames = if is Opening role then Bracket ∷ frames else frames

-- the tokens with the layout tokens of the rules; `previous` comes before them
abbrev pub laid_out : List ℕ → Token → List Frame → List Token → List Token
laid_out bytes previous frames [] = replicate (blocks frames) (mark LayoutClose (previous.at + previous.len))
laid_out bytes previous frames (t ∷ tokens) =
    let put = put_before bytes previous frames t in
    put.tokens ++ (t ∷ laid_out bytes t (frames_after (role_of t.kind) put.frames) tokens)
