-- The predictive parser of a text of axioms, by the nesting that is left.
use Rattle.std.specs.Prelude.{◌≡◌, ℕ, zero, suc, Option, Some, None, Result, Ok, Err, List, [], ◌∷◌, ◌++◌, length, ◌==◌, if◌then◌else◌, codes}
use Rattle.lf_core.specs.Term.{Path, Term, level_zero, sort, pi}
use Rattle.lf_rules.specs.Environment.{Environment}
use Rattle.lf_front.specs.declared.token.Token.{Token}
use Rattle.lf_front.specs.declared.token.Token.TheVariants as token
use Rattle.lf_front.specs.declared.names.Local.{Local}
use Rattle.lf_front.specs.declared.names.Local.TheVariants.{Named, Unnamed}
use Rattle.std.specs.Borrow.{Bor}
use Rattle.lf_front.specs.declared.names.Refusal.{Refusal}
use Rattle.lf_front.specs.declared.names.Refusal.TheVariants.{NotBuilt, NoMemory}
use Rattle.lf_front.specs.Grammar.{level_of, named_by, explicit}

-- A term and the tokens behind it.
abbrev pub Parse : Type 0
Parse = Option (Term × List Token)

abbrev pub after_open : List Token → Option (List Token)
after_open (token.Open ∷ ts) = Some ts
after_open _ = None

abbrev pub after_close : List Token → Option (List Token)
after_close (token.Close ∷ ts) = Some ts
after_close _ = None

abbrev pub after_colon : List Token → Option (List Token)
after_colon (token.Colon ∷ ts) = Some ts
after_colon _ = None

abbrev pub after_comma : List Token → Option (List Token)
after_comma (token.Comma ∷ ts) = Some ts
after_comma _ = None

abbrev pub after_arrow : List Token → Option (List Token)
after_arrow (token.Arrow ∷ ts) = Some ts
after_arrow _ = None

abbrev pub after_number : List Token → Option (ℕ × List Token)
after_number (token.Number n ∷ ts) = Some (n, ts)
after_number _ = None

abbrev pub after_identifier : List Token → Option (Path × List Token)
after_identifier (token.Ident x ∷ ts) = Some (x, ts)
after_identifier _ = None

abbrev pub behind : Option Term → List Token → Parse
behind (Some t) ts = Some (t, ts)
behind None ts = None

-- `Type` and `Sort` with the numeral that may follow.
abbrev pub type_at : List Token → Option (ℕ × List Token) → Parse
type_at ts None = Some (sort (level_of 1), ts)
type_at ts (Some p) = Some (sort (level_of (suc p.0)), p.1)

abbrev pub sort_at : List Token → Option (ℕ × List Token) → Parse
sort_at ts None = Some (sort level_zero, ts)
sort_at ts (Some p) = Some (sort (level_of p.0), p.1)

abbrev pub closed_with : Term → Option (List Token) → Parse
closed_with t (Some ts) = Some (t, ts)
closed_with t None = None

abbrev pub closed : Parse → Parse
closed (Some p) = closed_with p.0 (after_close p.1)
closed None = None

abbrev pub atom : (List Local → List Token → Parse) → Environment → List Local → List Token → Parse
atom inner E L (token.Ident x ∷ ts) = behind (named_by E L x) ts
atom inner E L (token.Prop ∷ ts) = Some (sort level_zero, ts)
atom inner E L (token.Type ∷ ts) = type_at ts (after_number ts)
atom inner E L (token.Sort ∷ ts) = sort_at ts (after_number ts)
atom inner E L (token.Open ∷ ts) = closed (inner L ts)
atom inner E L _ = None

abbrev pub arrow_to : Term → Parse → Parse
arrow_to A (Some p) = Some (pi (explicit (codes "a" ∷ [])) A p.0, p.1)
arrow_to A None = None

abbrev pub after_domain : (List Local → List Token → Parse) → List Local → Term → List Token → Option (List Token) → Parse
after_domain inner L A ts None = Some (A, ts)
after_domain inner L A ts (Some us) = arrow_to A (inner (L ++ Unnamed ∷ []) us)

abbrev pub after_atom : (List Local → List Token → Parse) → List Local → Parse → Parse
after_atom inner L (Some p) = after_domain inner L p.0 p.1 (after_arrow p.1)
after_atom inner L None = None

abbrev pub all_over : Path → Term → Parse → Parse
all_over x A (Some p) = Some (pi (explicit x) A p.0, p.1)
all_over x A None = None

abbrev pub after_bound : (List Local → List Token → Parse) → List Local → Path → Term → Option (List Token) → Parse
after_bound inner L x A (Some ts) = all_over x A (inner (L ++ Named x ∷ []) ts)
after_bound inner L x A None = None

abbrev pub comma_of : Option (List Token) → Option (List Token)
comma_of (Some ts) = after_comma ts
comma_of None = None

abbrev pub after_type : (List Local → List Token → Parse) → List Local → Path → Parse → Parse
after_type inner L x (Some p) = after_bound inner L x p.0 (comma_of (after_close p.1))
after_type inner L x None = None

abbrev pub one_part : Path → List Token → Option (Path × List Token)
one_part x ts = if length x == 1 then Some (x, ts) else None

abbrev pub named_head : Path → Option (List Token) → Option (Path × List Token)
named_head x (Some ts) = one_part x ts
named_head x None = None

abbrev pub identified : Option (Path × List Token) → Option (Path × List Token)
identified (Some p) = named_head p.0 (after_colon p.1)
identified None = None

abbrev pub colon_behind : Path → Option (List Token) → Option (Path × List Token)
colon_behind x (Some ts) = Some (x, ts)
colon_behind x None = None

abbrev pub identified_axiom : Option (Path × List Token) → Option (Path × List Token)
identified_axiom (Some p) = colon_behind p.0 (after_colon p.1)
identified_axiom None = None

-- The name behind a `(`, and the tokens behind its colon.
abbrev pub group_head : Option (List Token) → Option (Path × List Token)
group_head (Some ts) = identified (after_identifier ts)
group_head None = None

abbrev pub group : (List Local → List Token → Parse) → List Local → Option (Path × List Token) → Parse
group inner L (Some p) = after_type inner L p.0 (inner L p.1)
group inner L None = None

abbrev pub after_forall : List Token → Option (List Token)
after_forall (token.Forall ∷ ts) = Some ts
after_forall _ = None

abbrev pub by_front : (List Local → List Token → Parse) → Environment → List Local → List Token → Option (List Token) → Parse
by_front inner E L ts (Some us) = group inner L (group_head (after_open us))
by_front inner E L ts None = after_atom inner L (atom inner E L ts)

abbrev pub term : ℕ → Environment → List Local → List Token → Parse
term zero E L ts = None
term (suc n) E L ts = by_front (term n E) E L ts (after_forall ts)

-- What code gives for a parse.
abbrev pub Parses : Result (Term × Bor (List Token)) Refusal → Parse → Type 0
Parses (Ok p) o = o ≡ Some (p.0, p.1.now)
Parses (Err NotBuilt) o = o ≡ None
Parses (Err NoMemory) o = Unit {0}

abbrev pub GivesTerm : Result Term Refusal → Option Term → Type 0
GivesTerm (Ok t) o = o ≡ Some t
GivesTerm (Err NotBuilt) o = o ≡ None
GivesTerm (Err NoMemory) o = Unit {0}

-- The tokens behind one that is looked for.
abbrev pub IsRest : Option (Bor (List Token)) → Option (List Token) → Type 0
IsRest (Some b) o = o ≡ Some b.now
IsRest None o = o ≡ None

abbrev pub IsNumber : Option (ℕ × Bor (List Token)) → Option (ℕ × List Token) → Type 0
IsNumber (Some p) o = o ≡ Some (p.0, p.1.now)
IsNumber None o = o ≡ None

abbrev pub IsHead : Option (Bor Path × Bor (List Token)) → Option (Path × List Token) → Type 0
IsHead (Some p) o = o ≡ Some (p.0.now, p.1.now)
IsHead None o = o ≡ None
