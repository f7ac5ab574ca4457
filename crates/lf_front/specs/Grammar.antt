-- What the tokens of a text of axioms spell.
use Rattle.std.specs.Prelude.{◌≡◌, ℕ, zero, suc, ◌≤◌, Bool, true, false, Option, Some, None, List, [], ◌∷◌, ◌++◌, length, codes, if◌then◌else◌}
use Rattle.std.specs.List.{list_any}
use Rattle.lf_core.specs.Term.{Path, Universe, level_zero, level_succ, Term, bound, sort, const, pi}
use Rattle.lf_core.specs.Same.{same_path}
use Rattle.lf_rules.specs.Environment.{Environment}
use Rattle.lf_name.specs.declared.binder.Binder.{Binder}
use Rattle.lf_name.specs.declared.binder.BinderKind.TheVariants.{Explicit}
use Rattle.lf_core.specs.declared.constant.ConstInfo.{ConstInfo}
use Rattle.lf_front.specs.declared.token.Token.{Token}
use Rattle.lf_front.specs.declared.token.Token.TheVariants as token
use Rattle.lf_front.specs.declared.names.Local.{Local}
use Rattle.lf_front.specs.declared.names.Local.TheVariants.{Named, Unnamed}

-- The level that a numeral writes.
abbrev pub level_of : ℕ → Universe
level_of zero = level_zero
level_of (suc n) = level_succ (level_of n)

abbrev pub or_here : Option ℕ → Bool → ℕ → Option ℕ
or_here (Some i) here n = Some i
or_here None true n = Some n
or_here None false n = None

-- The de Bruijn index of the innermost local of this name; the innermost stands last.
abbrev pub innermost : Path → List Local → Option ℕ
innermost x [] = None
innermost x (Named y ∷ ys) = or_here (innermost x ys) (same_path x y) (length ys)
innermost x (Unnamed ∷ ys) = innermost x ys

abbrev pub is_declared : Environment → Path → Bool
is_declared E x = list_any (λ c. same_path x c.name) E

abbrev pub or_constant : Option ℕ → Bool → Path → Option Term
or_constant (Some i) declared x = Some (bound i)
or_constant None true x = Some (const x [])
or_constant None false x = None

-- What an identifier stands for: the innermost local of its name, or the axiom of that name before it.
abbrev pub named_by : Environment → List Local → Path → Option Term
named_by E L x = or_constant (innermost x L) (is_declared E x) x

abbrev pub explicit : Path → Binder
explicit x = record { name = x; kind = Explicit }

abbrev pub begins_with_number : List Token → Bool
begins_with_number (token.Number n ∷ ts) = true
begins_with_number _ = false

abbrev pub begins_with_arrow : List Token → Bool
begins_with_arrow (token.Arrow ∷ ts) = true
begins_with_arrow _ = false

-- An atom, or a term, stands at the front of the tokens, behind which the rest follows. An optional part is taken where it can be. The
-- variable of an arrow has no name.
mutual
  pub data Atom (E : Environment) : List Local → List Token → List Token → Term → Type 0 where
    identifier : {L : List Local} {rest : List Token} {t : Term} (x : Path) → named_by E L x ≡ Some t → Atom E L (token.Ident x ∷ rest) rest t
    prop : {L : List Local} {rest : List Token} → Atom E L (token.Prop ∷ rest) rest (sort level_zero)
    type : {L : List Local} {rest : List Token} → begins_with_number rest ≡ false → Atom E L (token.Type ∷ rest) rest (sort (level_of 1))
    type_at : {L : List Local} {rest : List Token} (n : ℕ) → Atom E L (token.Type ∷ token.Number n ∷ rest) rest (sort (level_of (suc n)))
    plain_sort : {L : List Local} {rest : List Token} → begins_with_number rest ≡ false → Atom E L (token.Sort ∷ rest) rest (sort level_zero)
    sort_at : {L : List Local} {rest : List Token} (n : ℕ) → Atom E L (token.Sort ∷ token.Number n ∷ rest) rest (sort (level_of n))
    parentheses : {L : List Local} {ts rest : List Token} {t : Term} → Spelled E L ts (token.Close ∷ rest) t → Atom E L (token.Open ∷ ts) rest t

  pub data Spelled (E : Environment) : List Local → List Token → List Token → Term → Type 0 where
    alone : {L : List Local} {ts rest : List Token} {t : Term} → Atom E L ts rest t → begins_with_arrow rest ≡ false → Spelled E L ts rest t
    arrow : {L : List Local} {ts us rest : List Token} {A B : Term} → Atom E L ts (token.Arrow ∷ us) A → Spelled E (L ++ Unnamed ∷ []) us rest B
        → Spelled E L ts rest (pi (explicit (codes "a" ∷ [])) A B)
    for_all : {L : List Local} {ts us rest : List Token} {A B : Term} (x : List ℕ) → Spelled E L ts (token.Close ∷ token.Comma ∷ us) A
        → Spelled E (L ++ Named (x ∷ []) ∷ []) us rest B
        → Spelled E L (token.Forall ∷ token.Open ∷ token.Ident (x ∷ []) ∷ token.Colon ∷ ts) rest (pi (explicit (x ∷ [])) A B)
