-- Nesting numbers are at most the number of tokens.
use Rattle.std.proofs.Common.{◌≡◌, ℕ, ◌+◌, ◌≤◌, ◌<◌, List, [], ◌∷◌, length, drop, get_or, zero, suc, refl, arith, add-one, drop-cons}
use Rattle.lf_text.specs.declared.nesting.Count.{Count}
use Rattle.lf_text.specs.declared.nesting.Enclosure.{Enclosure}
use Rattle.lf_text.specs.declared.nesting.Enclosure.TheVariants.{Block, Bracket}
use Rattle.lf_text.specs.declared.role.Role.{Role}
use Rattle.lf_text.specs.declared.role.Role.TheVariants.{
  Command,
  BlockOpener,
  Where,
  Bar,
  Opening,
  Closing,
  Let,
  Semicolon,
  Nesting,
  BlockOpen,
  BlockSep,
  BlockClose,
  Other,
}
use Rattle.lf_text.specs.declared.token.Token.{Token}
use Rattle.lf_text.specs.Roles.{role_of}
use Rattle.lf_text.specs.Nesting.{Nest, nesting_of, nesting_after, next_item, leave_block, leave_bracket, at_semicolon}

abbrev pub CountWithin : ℕ → Count → Type 0
CountWithin k c = (c.number ≤ k) × (c.waiting ≤ k)

abbrev pub AllWithin : ℕ → List Enclosure → Type 0
AllWithin k [] = Unit {0}
AllWithin k (Block c ∷ more) = CountWithin k c × AllWithin k more
AllWithin k (Bracket c ∷ more) = CountWithin k c × AllWithin k more

-- no count is above k
abbrev pub Within : ℕ → Nest → Type 0
Within k n = CountWithin k n.count × AllWithin k n.open_

count_later : (k : ℕ) (c : Count) → CountWithin k c → CountWithin (k + 1) c
count_later k c h = (omega (arith, h.0), omega (arith, h.1))

all_later : (k : ℕ) (open_ : List Enclosure) → AllWithin k open_ → AllWithin (k + 1) open_
all_later k [] h = tt
all_later k (Block c ∷ more) h = (count_later k c h.0, all_later k more h.1)
all_later k (Bracket c ∷ more) h = (count_later k c h.0, all_later k more h.1)

later : (k : ℕ) (n : Nest) → Within k n → Within (k + 1) n
later k n h = (count_later k n.count h.0, all_later k n.open_ h.1)

next_within : (k : ℕ) (n : Nest) (open_ : List Enclosure) → Within k n → AllWithin k open_ → Within (k + 1) (next_item n open_)
next_within k n [] h g = later k n h
next_within k n (Block c ∷ more) h g = ((omega (arith, g.0.0), omega arith), all_later k n.open_ h.1)
next_within k n (Bracket c ∷ more) h g = later k n h

block_within : (k : ℕ) (n : Nest) (open_ : List Enclosure) → Within k n → AllWithin k open_ → Within (k + 1) (leave_block n open_)
block_within k n [] h g = later k n h
block_within k n (Block c ∷ more) h g = (count_later k c g.0, all_later k more g.1)
block_within k n (Bracket c ∷ more) h g = later k n h

bracket_within : (k : ℕ) (n : Nest) (open_ : List Enclosure) → Within k n → AllWithin k open_ → Within (k + 1) (leave_bracket n open_)
bracket_within k n [] h g = later k n h
bracket_within k n (Block c ∷ more) h g = later k n h
bracket_within k n (Bracket c ∷ more) h g = (count_later k c g.0, all_later k more g.1)

semicolon_within : (k : ℕ) (n : Nest) (waiting : ℕ) → waiting ≤ k → Within k n → Within (k + 1) (at_semicolon n waiting)
semicolon_within k n zero l h = next_within k n n.open_ h h.1
semicolon_within k n (suc waiting) l h = ((omega (arith, h.0.0), omega (arith, l)), all_later k n.open_ h.1)

pub after_within : (k : ℕ) (n : Nest) (r : Role) → Within k n → Within (k + 1) (nesting_after n r)
after_within k n Command h = ((omega arith, omega arith), tt)
after_within k n BlockOpener h = ((omega (arith, h.0.0), omega (arith, h.0.1)), all_later k n.open_ h.1)
after_within k n Where h = later k n h
after_within k n Bar h = ((omega arith, omega (arith, h.0.1)), all_later k n.open_ h.1)
after_within k n Opening h = ((omega (arith, h.0.0), omega arith), (count_later k n.count h.0, all_later k n.open_ h.1))
after_within k n Closing h = bracket_within k n n.open_ h h.1
after_within k n Let h = ((omega (arith, h.0.0), omega (arith, h.0.1)), all_later k n.open_ h.1)
after_within k n Semicolon h = semicolon_within k n n.count.waiting h.0.1 h
after_within k n Nesting h = ((omega (arith, h.0.0), omega (arith, h.0.1)), all_later k n.open_ h.1)
after_within k n BlockOpen h = ((omega (arith, h.0.0), omega arith), (count_later k n.count h.0, all_later k n.open_ h.1))
after_within k n BlockSep h = next_within k n n.open_ h h.1
after_within k n BlockClose h = block_within k n n.open_ h h.1
after_within k n Other h = later k n h

-- the numbers of one token and of the rest
pub numbers_step : (n : Nest) (tokens : List Token) (i : ℕ) (d : Token) → i < length tokens →
    nesting_of n (drop i tokens) ≡ (nesting_after n (role_of (get_or tokens i d).kind)).count.number
    ∷ nesting_of (nesting_after n (role_of (get_or tokens i d).kind)) (drop (i + 1) tokens)
numbers_step n tokens i d l = rw (add-one, drop-cons tokens i d) refl
