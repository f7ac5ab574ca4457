use Rattle.std.specs.Prelude.{◌≡◌, ℕ, ◌+◌, ◌≤◌, List, [], ◌∷◌, ◌++◌, ◌-◌, length, Option, option_map}
use Rattle.lf_text.specs.declared.token.Token.{Token}
use Rattle.lf_text.specs.Place.{line_of}
use Rattle.lf_text.specs.Layout.{put_before, frames_after, laid_out}
use Rattle.lf_text.specs.declared.token.TokenKind.{TokenKind}
use Rattle.std.specs.Option.{option_to_list}
use Rattle.lf_token.specs.declared.layout.Layout.{Layout}
use Rattle.lf_text.specs.Roles.{role_of}

-- what is kept of the last token is right
pub record Knows (bytes : List ℕ) (layout : Layout) : Type 0 where
  pub role : layout.role ≡ role_of layout.previous.kind
  pub line : layout.line ≡ line_of bytes layout.previous.at
  pub within : layout.previous.at + layout.previous.len ≤ length bytes

-- a token was put, and before it what the rules say
pub record Puts (bytes : List ℕ) (old : Layout) (t : Token) (new : Layout) : Type 0 where
  pub previous : new.previous ≡ t
  pub tokens : new.stack.tokens ≡ old.stack.tokens ++ ((put_before bytes old.previous old.stack.frames t).tokens ++ t ∷ [])
  pub frames : new.stack.frames ≡ frames_after (role_of t.kind) (put_before bytes old.previous old.stack.frames t).frames

-- the tokens so far and those that are still to be laid out are the same before and after
abbrev pub Goes : List ℕ → Layout → List Token → Layout → List Token → Type 0
Goes bytes old before new after =
    old.stack.tokens ++ laid_out bytes old.previous old.stack.frames before ≡ new.stack.tokens ++ laid_out bytes new.previous new.stack.frames after

-- the token of this kind between two places, if there is one
abbrev pub token_between : ℕ → ℕ → Option TokenKind → List Token
token_between at end kind = option_to_list (option_map (λ k. record { at = at; len = end - at; kind = k }) kind)
