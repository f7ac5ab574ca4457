-- The commands of a text are nested as the rules say.
use Rattle.std.proofs.Common.{◌≡◌, ℕ, ◌≤◌, List, [], ◌∷◌, take, drop, zero, suc, Bool, true, false, cond, Option, Some, None, refl, sym, subst, arith}
use Rattle.std.specs.Prelude.{nat_lt}
use Rattle.std.specs.List.{prefix_len}
use Rattle.std.proofs.lemmas.Bool.Decides.{nat_tests}
use Rattle.lf_text.specs.declared.token.Token.{Token}
use Rattle.lf_text.specs.declared.token.TokenKind.{TokenKind}
use Rattle.lf_text.specs.declared.token.TokenKind.TheVariants as kind
use Rattle.lf_text.specs.declared.role.Role.{Role}
use Rattle.lf_text.specs.Roles.{role_of}
use Rattle.lf_text.specs.Nesting.{Nest, outermost, nesting_after, nesting_of}
use Rattle.lf_text.specs.Layout.{spelled}
use Rattle.lf_text.specs.Tokens.{tokens_of}
use Rattle.lf_syntax.specs.Piece.{Piece}
use Rattle.lf_syntax.specs.Classes.{class_of, pieces, pieces_of}
use Rattle.lf_syntax.specs.Document.{most_nested, first_deep, inside, IsCommand, too_deep, derived, unexpected, unfinished, AreCommands}
use Rattle.lf_syntax.specs.declared.command.Command.{Command}
use Rattle.lf_depth_laws.specs.Depth.{class_role, NestedWithin, All, ShallowTexts}
use Rattle.lf_depth_laws.specs.Height.{command_height}
use Rattle.lf_depth_laws.proofs.Derivations.{command_low}

-- The tokens have their nesting numbers.
abbrev Counted : Nest → List Piece → Type 0
Counted n [] = Unit {0}
Counted n (t ∷ ts) = let after : Nest = nesting_after n (class_role t.class) in (t.nesting ≡ after.count.number) × Counted after ts

role_same : (text : List ℕ) (k : TokenKind) → class_role (class_of text k) ≡ role_of k
role_same text (kind.Ident s) = refl
role_same text (kind.Word w) = refl
role_same text (kind.Operator o) = refl
role_same text (kind.Num n) = refl
role_same text kind.BadChar = refl
role_same text kind.OpenComment = refl
role_same text kind.BadNum = refl
role_same text kind.WideNum = refl

counted_pieces : (bytes : List ℕ) (n : Nest) (tokens : List Token) → Counted n (pieces bytes tokens (nesting_of n tokens))
counted_pieces bytes n [] = tt
counted_pieces bytes n (t ∷ tokens) =
    let e : role_of t.kind ≡ class_role (class_of (spelled bytes t) t.kind) = sym (role_same (spelled bytes t) t.kind) in
    let after : Nest = nesting_after n (role_of t.kind) in
    subst (λ (ρ : Role). (after.count.number ≡ (nesting_after n ρ).count.number)
    × Counted (nesting_after n ρ) (pieces bytes tokens (nesting_of (nesting_after n (role_of t.kind)) tokens))) e
    (refl, counted_pieces bytes (nesting_after n (role_of t.kind)) tokens)

counted_take : (k : ℕ) (n : Nest) (ts : List Piece) → Counted n ts → Counted n (take k ts)
counted_take zero n ts h = tt
counted_take (suc k) n [] h = tt
counted_take (suc k) n (t ∷ ts) h = (h.0, counted_take k (nesting_after n (class_role t.class)) ts h.1)

counted_drop : (k : ℕ) (n : Nest) (ts : List Piece) → Counted n ts → (m : Nest) × Counted m (drop k ts)
counted_drop zero n ts h = (n, h)
counted_drop (suc k) n [] h = (n, tt)
counted_drop (suc k) n (t ∷ ts) h = counted_drop k (nesting_after n (class_role t.class)) ts h.1

none_deep : (b : Bool) (t : Piece) (o : Option Piece) → cond b (Some t) o ≡ None → (b ≡ false) × (o ≡ None)
none_deep true t o e = cc
none_deep false t o e = (refl, e)

not_above : (n : ℕ) → nat_lt most_nested n ≡ false → n ≤ 256
not_above n e = grind (arith, nat_tests)

within : (n : Nest) (ts : List Piece) → Counted n ts → first_deep ts ≡ None → NestedWithin 256 n ts
within n [] h e = tt
within n (t ∷ ts) h e =
    let g = none_deep (nat_lt most_nested t.nesting) t (first_deep ts) e in
    (h.0, not_above t.nesting g.0, within (nesting_after n (class_role t.class)) ts h.1 g.1)

shallow : (n : Nest) (ts : List Piece) (c : Command) → Counted n ts → IsCommand ts c → command_height c ≤ 774
shallow n ts _ h (too_deep t e) = omega arith
shallow n ts _ h (derived c e d) = command_low 256 n ts c (within n ts h e) d
shallow n ts _ h (unexpected t more e d) = omega arith
shallow n ts _ h (unfinished e d) = omega arith

all_shallow : (n : Nest) (ts : List Piece) (cs : List Command) → Counted n ts → AreCommands ts cs → All (λ c. command_height c ≤ 774) cs
all_shallow n ts [] h a = tt
all_shallow n [] (c ∷ cs) h a = absurd a
all_shallow n (t ∷ ts) (c ∷ cs) h a =
    let k : ℕ = prefix_len inside ts in
    let (m, rest) = counted_drop k (nesting_after n (class_role t.class)) ts h.1 in
    (shallow n (t ∷ take k ts) c (h.0, counted_take k (nesting_after n (class_role t.class)) ts h.1) a.0, all_shallow m (drop k ts) cs rest a.1)

pub shallow_texts : ShallowTexts
shallow_texts bytes cs h = all_shallow outermost (pieces_of bytes) cs (counted_pieces bytes outermost (tokens_of bytes)) h
