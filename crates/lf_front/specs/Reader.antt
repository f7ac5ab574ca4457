-- Reading a text of axioms, test by test.
use Rattle.std.specs.Prelude.{◌≡◌, ℕ, ◌++◌, nat_le, Bool, true, false, if◌then◌else◌, Option, Some, None, Result, Ok, Err, List, [], ◌∷◌, codes}
use Rattle.std.specs.Str.{bytes_eq}
use Rattle.std.specs.Borrow.{Bor}
use Rattle.lf_core.specs.Term.{Path, Term, sort}
use Rattle.lf_core.specs.Size.{depth}
use Rattle.lf_rules.specs.Environment.{Environment}
use Rattle.lf_core.specs.declared.constant.ConstInfo.{ConstInfo}
use Rattle.lf_front.specs.Infer.{Inferred, type_of}
use Rattle.lf_front.specs.declared.token.Token.{Token}
use Rattle.lf_front.specs.declared.token.Token.TheVariants as token
use Rattle.lf_front.specs.declared.names.Refusal.{Refusal}
use Rattle.lf_front.specs.declared.names.Refusal.TheVariants.{NotBuilt, NoMemory}
use Rattle.lf_front.specs.Grammar.{is_declared}
use Rattle.lf_front.specs.Parser.{Parse, term, after_identifier, identified_axiom}
use Rattle.lf_front.specs.Declares.{Accepts, Declares, nesting, axiom_of}
use Rattle.lf_front.specs.Report.{report_of}

-- An axiom and the tokens behind it.
abbrev pub One : Type 0
One = Option (ConstInfo × List Token)

-- The term of an axiom nests at most 64 deep, and one deeper than that is none.
unfoldable pub axiom_term : Environment → List Token → Parse
axiom_term E ts = term 65 E [] ts

abbrev pub is_sort : Inferred → Bool
is_sort (Ok (sort l)) = true
is_sort _ = false

abbrev pub typed_axiom : Path → Term → List Token → Inferred → One
typed_axiom n t rest ty = if is_sort ty then Some (axiom_of n t, rest) else None

abbrev pub read_axiom : Environment → Path → Parse → One
read_axiom E n (Some p) = if nat_le (depth p.0) 1024 then typed_axiom n p.0 p.1 (type_of E [] p.0) else None
read_axiom E n None = None

abbrev pub flat_axiom : Environment → Path → List Token → One
flat_axiom E n ts = if nat_le (nesting ts) 64 then read_axiom E n (axiom_term E ts) else None

abbrev pub new_axiom : Environment → Path → List Token → One
new_axiom E n ts = if is_declared E n then None else flat_axiom E n ts

abbrev pub headed_axiom : Environment → Option (Path × List Token) → One
headed_axiom E (Some p) = new_axiom E p.0 p.1
headed_axiom E None = None

-- The name and the tokens behind `axiom n :`.
abbrev pub axiom_head : List Token → Option (Path × List Token)
axiom_head (token.Axiom ∷ ts) = identified_axiom (after_identifier ts)
axiom_head _ = None

abbrev pub axiom_at : Environment → List Token → One
axiom_at E ts = headed_axiom E (axiom_head ts)

abbrev pub ReadsOne : Result (ConstInfo × Bor (List Token)) Refusal → One → Type 0
ReadsOne (Ok p) o = o ≡ Some (p.0, p.1.now)
ReadsOne (Err NotBuilt) o = o ≡ None
ReadsOne (Err NoMemory) o = Unit {0}

-- The axioms that the tokens declare over these; where they are refused, there are none.
abbrev pub ReadsAll : List Token → Result Environment Refusal → Type 0
ReadsAll ts (Ok E) = Declares [] ts E
ReadsAll ts (Err NotBuilt) = (E : Environment) → Declares [] ts E → ⊥
ReadsAll ts (Err NoMemory) = Unit {0}

-- The report of an accepted text.
abbrev pub Reports : List ℕ → List ℕ → Type 0
Reports bytes text = (axioms : Environment) × Accepts bytes axioms × (text ≡ report_of axioms)

-- Why a text has none: it isn't accepted.
abbrev pub Refuses : List ℕ → Refusal → Type 0
Refuses bytes NotBuilt = (axioms : Environment) → Accepts bytes axioms → ⊥
Refuses bytes NoMemory = Unit {0}

-- Whether the words are two and the second is `check`.
abbrev pub asks : List (List ℕ) → Bool
asks (name ∷ word ∷ []) = bytes_eq word (codes "check")
asks _ = false
