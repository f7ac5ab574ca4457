-- The parser reads what the tokens spell, and nothing else.
use Rattle.std.proofs.Common.{
  ◌≡◌,
  ℕ,
  zero,
  suc,
  ◌+◌,
  ◌≤◌,
  ◌<◌,
  ◌==◌,
  Bool,
  true,
  false,
  Option,
  Some,
  None,
  IfSome,
  List,
  [],
  ◌∷◌,
  ◌++◌,
  length,
  refl,
  sym,
  subst,
  ap,
  ◌∙◌,
  arith,
  codes,
}
use Rattle.std.proofs.lemmas.Bool.{eqb-true}
use Rattle.lf_core.specs.Term.{Path, Term, sort, pi, level_zero}
use Rattle.lf_rules.specs.Environment.{Environment}
use Rattle.lf_front.specs.declared.token.Token.{Token}
use Rattle.lf_front.specs.declared.token.Token.TheVariants as token
use Rattle.lf_front.specs.declared.names.Local.{Local}
use Rattle.lf_front.specs.declared.names.Local.TheVariants.{Named, Unnamed}
use Rattle.lf_front.specs.Grammar as grammar
use Rattle.lf_front.specs.Grammar.{Atom, Spelled, level_of, named_by, explicit, begins_with_number, begins_with_arrow}
use Rattle.lf_front.specs.Parser as parser
use Rattle.lf_front.specs.Parser.{Parse, term, atom, after_forall, after_arrow, after_atom, after_close, after_number}
use Rattle.lf_front.specs.Declares.{nesting}

-- What is read leaves no more nesting behind it.
mutual
  atom_flat : {E : Environment} {L : List Local} {ts rest : List Token} {t : Term} → Atom E L ts rest t → nesting rest ≤ nesting ts
  atom_flat (grammar.identifier x e) = omega arith
  atom_flat grammar.prop = omega arith
  atom_flat (grammar.type e) = omega arith
  atom_flat (grammar.type_at n) = omega arith
  atom_flat (grammar.plain_sort e) = omega arith
  atom_flat (grammar.sort_at n) = omega arith
  atom_flat (grammar.parentheses s) = let inside = spelled_flat s in omega arith

  spelled_flat : {E : Environment} {L : List Local} {ts rest : List Token} {t : Term} → Spelled E L ts rest t → nesting rest ≤ nesting ts
  spelled_flat (grammar.alone a e) = atom_flat a
  spelled_flat (grammar.arrow a s) = let first = atom_flat a in let then = spelled_flat s in omega arith
  spelled_flat (grammar.for_all x s u) = let first = spelled_flat s in let then = spelled_flat u in omega arith

-- An atom begins with no `∀`.
atom_front : {E : Environment} {L : List Local} {ts rest : List Token} {t : Term} → Atom E L ts rest t → after_forall ts ≡ None
atom_front (grammar.identifier x e) = refl
atom_front grammar.prop = refl
atom_front (grammar.type e) = refl
atom_front (grammar.type_at n) = refl
atom_front (grammar.plain_sort e) = refl
atom_front (grammar.sort_at n) = refl
atom_front (grammar.parentheses s) = refl

no_number : (ts : List Token) → begins_with_number ts ≡ false → after_number ts ≡ None
no_number [] e = refl
no_number (token.Number n ∷ ts) e = cc
no_number (_ ∷ ts) e = refl

no_arrow : (ts : List Token) → begins_with_arrow ts ≡ false → after_arrow ts ≡ None
no_arrow [] e = refl
no_arrow (token.Arrow ∷ ts) e = cc
no_arrow (_ ∷ ts) e = refl

never_below : (m n : ℕ) → m ≤ n → n < 0 + m → ⊥
never_below m n l k = omega arith

-- What the tokens spell is read, where the nesting that is left suffices.
mutual
  atom_complete : {E : Environment} {L : List Local} {ts rest : List Token} {t : Term} → Atom E L ts rest t → (n : ℕ) → nesting ts ≤ n + nesting rest
      → atom (term n E) E L ts ≡ Some (t, rest)
  atom_complete (grammar.identifier x e) n l = rw e refl
  atom_complete grammar.prop n l = refl
  atom_complete (grammar.type {rest = rest} e) n l = rw (no_number rest e) refl
  atom_complete (grammar.type_at m) n l = refl
  atom_complete (grammar.plain_sort {rest = rest} e) n l = rw (no_number rest e) refl
  atom_complete (grammar.sort_at m) n l = refl
  atom_complete (grammar.parentheses s) n l = rw (spelled_complete s n (omega arith)) refl

  pub spelled_complete : {E : Environment} {L : List Local} {ts rest : List Token} {t : Term} → Spelled E L ts rest t → (n : ℕ) → nesting ts < n + nesting rest
      → term n E L ts ≡ Some (t, rest)
  spelled_complete s zero l = absurd (never_below _ _ (spelled_flat s) l)
  spelled_complete (grammar.alone {rest = rest} a e) (suc n) l = rw (atom_front a, atom_complete a n (omega arith), no_arrow rest e) refl
  spelled_complete (grammar.arrow a s) (suc n) l =
      let first = atom_flat a in let behind = spelled_flat s in rw (atom_front a, atom_complete a n (omega arith), spelled_complete s n (omega arith)) refl
  spelled_complete (grammar.for_all x s u) (suc n) l =
      let first = spelled_flat s in let behind = spelled_flat u in rw (spelled_complete s n (omega arith), spelled_complete u n (omega arith)) refl

-- What is read is spelled.
abbrev pub SpelledBy : Environment → List Local → List Token → Parse → Type 0
SpelledBy E L ts o = IfSome o (λ p. Spelled E L ts p.1 p.0)

abbrev AtomBy : Environment → List Local → List Token → Parse → Type 0
AtomBy E L ts o = IfSome o (λ p. Atom E L ts p.1 p.0)

name_sound : (E : Environment) (L : List Local) (x : Path) (ts : List Token) (o : Option Term) → named_by E L x ≡ o
    → AtomBy E L (token.Ident x ∷ ts) (parser.behind o ts)
name_sound E L x ts (Some t) e = grammar.identifier x e
name_sound E L x ts None e = tt

type_sound : (E : Environment) (L : List Local) (ts : List Token) → AtomBy E L (token.Type ∷ ts) (parser.type_at ts (after_number ts))
type_sound E L [] = grammar.type refl
type_sound E L (token.Number n ∷ ts) = grammar.type_at n
type_sound E L (_ ∷ ts) = grammar.type refl

sort_sound : (E : Environment) (L : List Local) (ts : List Token) → AtomBy E L (token.Sort ∷ ts) (parser.sort_at ts (after_number ts))
sort_sound E L [] = grammar.plain_sort refl
sort_sound E L (token.Number n ∷ ts) = grammar.sort_at n
sort_sound E L (_ ∷ ts) = grammar.plain_sort refl

closed_sound : (E : Environment) (L : List Local) (ts : List Token) (t : Term) (us : List Token) → Spelled E L ts us t
    → AtomBy E L (token.Open ∷ ts) (parser.closed_with t (after_close us))
closed_sound E L ts t [] s = tt
closed_sound E L ts t (token.Close ∷ us) s = grammar.parentheses s
closed_sound E L ts t (_ ∷ us) s = tt

parentheses_sound : (E : Environment) (L : List Local) (ts : List Token) (o : Parse) → SpelledBy E L ts o → AtomBy E L (token.Open ∷ ts) (parser.closed o)
parentheses_sound E L ts None s = tt
parentheses_sound E L ts (Some p) s = closed_sound E L ts p.0 p.1 s

atom_sound : (E : Environment) (inner : List Local → List Token → Parse) → ((L : List Local) (ts : List Token) → SpelledBy E L ts (inner L ts))
    → (L : List Local) (ts : List Token)
    → AtomBy E L ts (atom inner E L ts)
atom_sound E inner ih L [] = tt
atom_sound E inner ih L (token.Ident x ∷ ts) = name_sound E L x ts (named_by E L x) refl
atom_sound E inner ih L (token.Prop ∷ ts) = grammar.prop
atom_sound E inner ih L (token.Type ∷ ts) = type_sound E L ts
atom_sound E inner ih L (token.Sort ∷ ts) = sort_sound E L ts
atom_sound E inner ih L (token.Open ∷ ts) = parentheses_sound E L ts (inner L ts) (ih L ts)
atom_sound E inner ih L (_ ∷ ts) = tt

codomain_sound : (E : Environment) (L : List Local) (ts us : List Token) (A : Term) (o : Parse) → Atom E L ts (token.Arrow ∷ us) A
    → SpelledBy E (L ++ Unnamed ∷ []) us o
    → SpelledBy E L ts (parser.arrow_to A o)
codomain_sound E L ts us A None a s = tt
codomain_sound E L ts us A (Some p) a s = grammar.arrow a s

domain_sound : (E : Environment) (inner : List Local → List Token → Parse) → ((L : List Local) (ts : List Token) → SpelledBy E L ts (inner L ts))
    → (L : List Local) (ts : List Token) (A : Term)
    (us : List Token) → Atom E L ts us A → SpelledBy E L ts (parser.after_domain inner L A us (after_arrow us))
domain_sound E inner ih L ts A [] a = grammar.alone a refl
domain_sound E inner ih L ts A (token.Arrow ∷ us) a = codomain_sound E L ts us A (inner (L ++ Unnamed ∷ []) us) a (ih (L ++ Unnamed ∷ []) us)
domain_sound E inner ih L ts A (_ ∷ us) a = grammar.alone a refl

arrows_sound : (E : Environment) (inner : List Local → List Token → Parse) → ((L : List Local) (ts : List Token) → SpelledBy E L ts (inner L ts))
    → (L : List Local) (ts : List Token) (o : Parse)
    → AtomBy E L ts o → SpelledBy E L ts (after_atom inner L o)
arrows_sound E inner ih L ts None a = tt
arrows_sound E inner ih L ts (Some p) a = domain_sound E inner ih L ts p.0 p.1 a

not_one : (n : ℕ) → suc (suc n) ≡ 1 → ⊥
not_one n e = omega arith

all_sound : (E : Environment) (L : List Local) (ts us : List Token) (x : List ℕ) (A : Term) (o : Parse) → Spelled E L ts (token.Close ∷ token.Comma ∷ us) A
    → SpelledBy E (L ++ Named (x ∷ []) ∷ []) us o
    → SpelledBy E L (token.Forall ∷ token.Open ∷ token.Ident (x ∷ []) ∷ token.Colon ∷ ts) (parser.all_over (x ∷ []) A o)
all_sound E L ts us x A None s u = tt
all_sound E L ts us x A (Some p) s u = grammar.for_all x s u

bound_sound : (E : Environment) (inner : List Local → List Token → Parse) → ((L : List Local) (ts : List Token) → SpelledBy E L ts (inner L ts))
    → (L : List Local) (ts : List Token) (x : List ℕ)
    (A : Term) (us : List Token) → Spelled E L ts us A
    → SpelledBy E L (token.Forall ∷ token.Open ∷ token.Ident (x ∷ []) ∷ token.Colon ∷ ts)
    (parser.after_bound inner L (x ∷ []) A (parser.comma_of (after_close us)))
bound_sound E inner ih L ts x A [] s = tt
bound_sound E inner ih L ts x A (token.Close ∷ []) s = tt
bound_sound E inner ih L ts x A (token.Close ∷ token.Comma ∷ us) s = all_sound E L ts us x A (inner (L ++ Named (x ∷ []) ∷ []) us) s
    (ih (L ++ Named (x ∷ []) ∷ []) us)
bound_sound E inner ih L ts x A (token.Close ∷ _ ∷ us) s = tt
bound_sound E inner ih L ts x A (_ ∷ us) s = tt

typed_sound : (E : Environment) (inner : List Local → List Token → Parse) → ((L : List Local) (ts : List Token) → SpelledBy E L ts (inner L ts))
    → (L : List Local) (ts : List Token) (x : List ℕ)
    (o : Parse) → SpelledBy E L ts o → SpelledBy E L (token.Forall ∷ token.Open ∷ token.Ident (x ∷ []) ∷ token.Colon ∷ ts)
    (parser.after_type inner L (x ∷ []) o)
typed_sound E inner ih L ts x None s = tt
typed_sound E inner ih L ts x (Some p) s = bound_sound E inner ih L ts x p.0 p.1 s

two_parts : (n : ℕ) (b : Bool) → (suc (suc n) == 1) ≡ b → b ≡ false
two_parts n false e = refl
two_parts n true e = let same : suc (suc n) ≡ 1 = eqb-true (suc (suc n)) 1 e in absurd (not_one n same)

one_sound : (E : Environment) (inner : List Local → List Token → Parse) → ((L : List Local) (ts : List Token) → SpelledBy E L ts (inner L ts))
    → (L : List Local) (x : Path) (ts : List Token)
    → SpelledBy E L (token.Forall ∷ token.Open ∷ token.Ident x ∷ token.Colon ∷ ts) (parser.group inner L (parser.one_part x ts))
one_sound E inner ih L [] ts = tt
one_sound E inner ih L (x ∷ []) ts = typed_sound E inner ih L ts x (inner L ts) (ih L ts)
one_sound E inner ih L (x ∷ y ∷ ys) ts = rw (two_parts (length ys) _ refl) tt

colon_sound : (E : Environment) (inner : List Local → List Token → Parse) → ((L : List Local) (ts : List Token) → SpelledBy E L ts (inner L ts))
    → (L : List Local) (x : Path) (ts : List Token)
    → SpelledBy E L (token.Forall ∷ token.Open ∷ token.Ident x ∷ ts) (parser.group inner L (parser.named_head x (parser.after_colon ts)))
colon_sound E inner ih L x [] = tt
colon_sound E inner ih L x (token.Colon ∷ ts) = one_sound E inner ih L x ts
colon_sound E inner ih L x (_ ∷ ts) = tt

forall_sound : (E : Environment) (inner : List Local → List Token → Parse) → ((L : List Local) (ts : List Token) → SpelledBy E L ts (inner L ts))
    → (L : List Local) (ts : List Token)
    → SpelledBy E L (token.Forall ∷ ts) (parser.group inner L (parser.group_head (parser.after_open ts)))
forall_sound E inner ih L [] = tt
forall_sound E inner ih L (token.Open ∷ []) = tt
forall_sound E inner ih L (token.Open ∷ token.Ident x ∷ ts) = colon_sound E inner ih L x ts
forall_sound E inner ih L (token.Open ∷ _ ∷ ts) = tt
forall_sound E inner ih L (_ ∷ ts) = tt

front_sound : (E : Environment) (inner : List Local → List Token → Parse) → ((L : List Local) (ts : List Token) → SpelledBy E L ts (inner L ts))
    → (L : List Local) (ts : List Token)
    → SpelledBy E L ts (parser.by_front inner E L ts (after_forall ts))
front_sound E inner ih L [] = tt
front_sound E inner ih L (token.Forall ∷ ts) = forall_sound E inner ih L ts
front_sound E inner ih L (t ∷ ts) = arrows_sound E inner ih L (t ∷ ts) (atom inner E L (t ∷ ts)) (atom_sound E inner ih L (t ∷ ts))

pub term_sound : (n : ℕ) (E : Environment) (L : List Local) (ts : List Token) → SpelledBy E L ts (term n E L ts)
term_sound zero E L ts = tt
term_sound (suc n) E L ts = front_sound E (term n E) (λ M us. term_sound n E M us) L ts

mutual
  atom_shorter : {E : Environment} {L : List Local} {ts rest : List Token} {t : Term} → Atom E L ts rest t → length rest < length ts
  atom_shorter (grammar.identifier x e) = omega arith
  atom_shorter grammar.prop = omega arith
  atom_shorter (grammar.type e) = omega arith
  atom_shorter (grammar.type_at n) = omega arith
  atom_shorter (grammar.plain_sort e) = omega arith
  atom_shorter (grammar.sort_at n) = omega arith
  atom_shorter (grammar.parentheses s) = let inside = spelled_shorter s in omega arith

  pub spelled_shorter : {E : Environment} {L : List Local} {ts rest : List Token} {t : Term} → Spelled E L ts rest t → length rest < length ts
  spelled_shorter (grammar.alone a e) = atom_shorter a
  spelled_shorter (grammar.arrow a s) = let first = atom_shorter a in let behind = spelled_shorter s in omega arith
  spelled_shorter (grammar.for_all x s u) = let first = spelled_shorter s in let behind = spelled_shorter u in omega arith
