-- The nesting number of each token.
use Rattle.std.specs.Prelude.{ℕ, zero, suc, ◌+◌, List, [], ◌∷◌}
use Rattle.lf_text.specs.declared.nesting.Count.{Count}
use Rattle.lf_text.specs.declared.nesting.Enclosure.{Enclosure}
use Rattle.lf_text.specs.declared.nesting.Enclosure.TheVariants.{Block, Bracket}
use Rattle.lf_text.specs.declared.role.Role.{Role}
use Rattle.lf_text.specs.declared.role.Role.TheVariants.{
  Command,
  BlockOpener,
  Where,
  Bar,
  Opening,
  Closing,
  Let,
  Semicolon,
  Nesting,
  BlockOpen,
  BlockSep,
  BlockClose,
  Other,
}
use Rattle.lf_text.specs.declared.token.Token.{Token}
use Rattle.lf_text.specs.Roles.{role_of}

-- the count at a token, and what is open there, from the innermost on
pub record Nest : Type 0 where
  pub count : Count
  pub open_ : List Enclosure

abbrev pub nest : ℕ → ℕ → List Enclosure → Nest
nest number waiting open_ = record { count = record { number = number; waiting = waiting }; open_ = open_ }

abbrev pub outermost : Nest
outermost = nest 0 0 []

abbrev pub deeper : Nest → Nest
deeper n = nest (n.count.number + 1) n.count.waiting n.open_

-- a block goes on: the number at its opening again, and no `let` waits in it
abbrev pub next_item : Nest → List Enclosure → Nest
next_item n [] = n
next_item n (Block c ∷ more) = nest c.number 0 n.open_
next_item n (Bracket c ∷ more) = n

-- a block or a bracket has ended: the count at its opening again
abbrev pub leave_block : Nest → List Enclosure → Nest
leave_block n [] = n
leave_block n (Block c ∷ more) = record { count = c; open_ = more }
leave_block n (Bracket c ∷ more) = n

abbrev pub leave_bracket : Nest → List Enclosure → Nest
leave_bracket n [] = n
leave_bracket n (Block c ∷ more) = n
leave_bracket n (Bracket c ∷ more) = record { count = c; open_ = more }

-- a `;` is that of a `let`, where one waits
abbrev pub at_semicolon : Nest → ℕ → Nest
at_semicolon n zero = next_item n n.open_
at_semicolon n (suc waiting) = nest n.count.number waiting n.open_

-- the nesting behind a token of this role
abbrev pub nesting_after : Nest → Role → Nest
nesting_after n Command = outermost
nesting_after n BlockOpener = deeper n
nesting_after n Where = n
nesting_after n Bar = nest 0 n.count.waiting n.open_
nesting_after n Opening = nest (n.count.number + 1) 0 (Bracket n.count ∷ n.open_)
nesting_after n Closing = leave_bracket n n.open_
nesting_after n Let = nest (n.count.number + 1) (n.count.waiting + 1) n.open_
nesting_after n Semicolon = at_semicolon n n.count.waiting
nesting_after n Nesting = deeper n
nesting_after n BlockOpen = nest n.count.number 0 (Block n.count ∷ n.open_)
nesting_after n BlockSep = next_item n n.open_
nesting_after n BlockClose = leave_block n n.open_
nesting_after n Other = n

-- the nesting number of each token of a list, at the token
abbrev pub nesting_of : Nest → List Token → List ℕ
nesting_of n [] = []
nesting_of n (t ∷ tokens) = let after = nesting_after n (role_of t.kind) in after.count.number ∷ nesting_of after tokens
