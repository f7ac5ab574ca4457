-- An axiom is read exactly where one is declared, and it is one alone.
use Rattle.std.proofs.Common.{
  ◌≡◌,
  ℕ,
  zero,
  suc,
  ◌+◌,
  ◌≤◌,
  ◌<◌,
  ◌==◌,
  nat_le,
  Bool,
  true,
  false,
  Option,
  Some,
  None,
  IfSome,
  Ok,
  Err,
  List,
  [],
  ◌∷◌,
  ◌++◌,
  length,
  refl,
  sym,
  subst,
  ap,
  ◌∙◌,
  arith,
  All,
  append_assoc,
  append-nil,
}
use Rattle.std.specs.Prelude.{unwrap_or, if◌then◌else◌}
use Rattle.std.proofs.lemmas.Bool.Decides.{nat_tests}
use Rattle.std.proofs.lemmas.Bool.{eqb-true}
use Rattle.std.proofs.lemmas.List.Elements.{All-append}
use Rattle.lf_core.specs.Term.{Path, Universe, Term, bound, free, meta, sort, const, app, lam, pi, letin, lit}
use Rattle.lf_core.specs.Size.{depth}
use Rattle.lf_rules.specs.Environment.{Environment}
use Rattle.lf_core.specs.declared.constant.ConstInfo.{ConstInfo}
use Rattle.lf_front.specs.Answers.{IsShallow}
use Rattle.lf_front.specs.Infer.{Inferred, type_of}
use Rattle.lf_front.specs.declared.token.Token.{Token}
use Rattle.lf_front.specs.declared.token.Token.TheVariants as token
use Rattle.lf_front.specs.declared.names.Refusal.{Refusal}
use Rattle.lf_front.specs.declared.names.Refusal.TheVariants.{NotBuilt, NoMemory}
use Rattle.lf_front.specs.Grammar.{Spelled, is_declared}
use Rattle.lf_front.specs.Parser.{Parse, term, after_identifier, after_colon, identified_axiom}
use Rattle.lf_front.specs.Declares.{Declares, DeclaresOne, nesting, axiom_of}
use Rattle.lf_front.specs.Reader as reader
use Rattle.lf_front.specs.Reader.{One, ReadsOne, ReadsAll, axiom_at, axiom_head, axiom_term, is_sort}
use Rattle.lf_front.proofs.Parsing.{SpelledBy, spelled_complete, spelled_shorter, term_sound}

no_more : (n : ℕ) → suc n < 1 → ⊥
no_more n l = omega arith

le_yes : (m n : ℕ) → m ≤ n → nat_le m n ≡ true
le_yes m n l = grind (arith, nat_tests)

le_from : (m n : ℕ) → nat_le m n ≡ true → m ≤ n
le_from m n e = grind (arith, nat_tests)

-- A declared axiom is read.
pub one_complete : (E : Environment) (ts : List Token) (c : ConstInfo) (rest : List Token) → DeclaresOne E ts c rest → axiom_at E ts ≡ Some (c, rest)
unfolding axiom_term
one_complete E ts c rest one =
    let read : term 65 E [] one.behind ≡ Some (one.type, rest) = spelled_complete one.spelled 65 (omega (arith, one.flat)) in
    rw (one.tokens, one.new, le_yes (nesting one.behind) 64 one.flat, read, le_yes (depth one.type) 1024 one.shallow, one.typed, one.constant) refl

-- What is said of an axiom that is read.
abbrev pub OneBy : Environment → List Token → One → Type 0
OneBy E ts o = IfSome o (λ p. DeclaresOne E ts p.0 p.1)

typed_one : (E : Environment) (n : Path) (ts behind rest : List Token) (t : Term) (r : Inferred) → type_of E [] t ≡ r
    → ts ≡ token.Axiom ∷ token.Ident n ∷ token.Colon ∷ behind
    → is_declared E n ≡ false → nesting behind ≤ 64 → Spelled E [] behind rest t → depth t ≤ 1024 → OneBy E ts (reader.typed_axiom n t rest r)
typed_one E n ts behind rest t (Ok (sort l)) e is new flat spelled shallow =
    record {
      name = n;
      behind = behind;
      type = t;
      level = l;
      tokens = is;
      new = new;
      flat = flat;
      spelled = spelled;
      shallow = shallow;
      typed = e;
      constant =
          refl;
    }
typed_one E n ts behind rest t (Ok _) e is new flat spelled shallow = tt
typed_one E n ts behind rest t (Err h) e is new flat spelled shallow = tt

shallow_one : (E : Environment) (n : Path) (ts behind rest : List Token) (t : Term) (b : Bool) → nat_le (depth t) 1024 ≡ b
    → ts ≡ token.Axiom ∷ token.Ident n ∷ token.Colon ∷ behind
    → is_declared E n ≡ false → nesting behind ≤ 64 → Spelled E [] behind rest t → OneBy E ts (reader.read_axiom E n (Some (t, rest)))
shallow_one E n ts behind rest t true e is new flat spelled = rw e (typed_one E n ts behind rest t _ refl is new flat spelled (le_from (depth t) 1024 e))
shallow_one E n ts behind rest t false e is new flat spelled = rw e tt

read_one : (E : Environment) (n : Path) (ts behind : List Token) (o : Parse) → ts ≡ token.Axiom ∷ token.Ident n ∷ token.Colon ∷ behind
    → is_declared E n ≡ false → nesting behind ≤ 64 → SpelledBy E [] behind o → OneBy E ts (reader.read_axiom E n o)
read_one E n ts behind None is new flat spelled = tt
read_one E n ts behind (Some p) is new flat spelled = shallow_one E n ts behind p.1 p.0 _ refl is new flat spelled

flat_one : (E : Environment) (n : Path) (ts behind : List Token) (b : Bool) → nat_le (nesting behind) 64 ≡ b
    → ts ≡ token.Axiom ∷ token.Ident n ∷ token.Colon ∷ behind
    → is_declared E n ≡ false → OneBy E ts (reader.flat_axiom E n behind)
unfolding axiom_term
flat_one E n ts behind true e is new = rw e (read_one E n ts behind (term 65 E [] behind) is new (le_from (nesting behind) 64 e) (term_sound 65 E [] behind))
flat_one E n ts behind false e is new = rw e tt

new_one : (E : Environment) (n : Path) (ts behind : List Token) (b : Bool) → is_declared E n ≡ b → ts ≡ token.Axiom ∷ token.Ident n ∷ token.Colon ∷ behind
    → OneBy E ts (reader.new_axiom E n behind)
new_one E n ts behind true e is = rw e tt
new_one E n ts behind false e is = rw e (flat_one E n ts behind _ refl is e)

colon_one : (E : Environment) (n : Path) (us : List Token)
    → OneBy E (token.Axiom ∷ token.Ident n ∷ us) (reader.headed_axiom E (identified_axiom (Some (n, us))))
colon_one E n [] = tt
colon_one E n (token.Colon ∷ us) = new_one E n (token.Axiom ∷ token.Ident n ∷ token.Colon ∷ us) us _ refl refl
colon_one E n (_ ∷ us) = tt

-- What is read is declared.
pub one_sound : (E : Environment) (ts : List Token) → OneBy E ts (axiom_at E ts)
one_sound E [] = tt
one_sound E (token.Axiom ∷ []) = tt
one_sound E (token.Axiom ∷ token.Ident n ∷ ts) = colon_one E n ts
one_sound E (token.Axiom ∷ _ ∷ ts) = tt
one_sound E (_ ∷ ts) = tt

one_shallow : (c : ConstInfo) → IsShallow c → All IsShallow (c ∷ [])
one_shallow c l zero d k = l
one_shallow c l (suc n) d k = absurd (no_more n k)

-- What loops keep: all that the rest of the tokens declares is what the whole declares.
abbrev pub Forward : List Token → Environment → List Token → Type 0
Forward tokens E rest = (cs : Environment) → Declares E rest cs → Declares [] tokens (E ++ cs)

abbrev pub Backward : List Token → Environment → List Token → Type 0
Backward tokens E rest = (F : Environment) → Declares [] tokens F → (cs : Environment) × (F ≡ E ++ cs) × Declares E rest cs

pub forward_step : (tokens : List Token) (E : Environment) (ts : List Token) (c : ConstInfo) (rest : List Token) → Forward tokens E ts
    → axiom_at E ts ≡ Some (c, rest)
    → Forward tokens (E ++ c ∷ []) rest
forward_step tokens E ts c rest f e = λ cs more.
    let one : DeclaresOne E ts c rest = subst (OneBy E ts) e (one_sound E ts) in
    subst (Declares [] tokens) (sym (append_assoc E (c ∷ []) cs)) (f (c ∷ cs) (rest, one, more))

abbrev one_of : ConstInfo → List Token → One
one_of c us = Some (c, us)

same_constant : (c d : ConstInfo) (us vs : List Token) → one_of c us ≡ one_of d vs → c ≡ d
same_constant c d us vs e = ap (λ (o : One). (unwrap_or o (c, us)).0) e

same_rest : (c d : ConstInfo) (us vs : List Token) → one_of c us ≡ one_of d vs → us ≡ vs
same_rest c d us vs e = ap (λ (o : One). (unwrap_or o (c, us)).1) e

back_one : (E : Environment) (ts : List Token) (c : ConstInfo) (rest : List Token) (F : Environment) → axiom_at E ts ≡ Some (c, rest) → (cs : Environment)
    → F ≡ E ++ cs
    → Declares E ts cs → (ds : Environment) × (F ≡ (E ++ c ∷ []) ++ ds) × Declares (E ++ c ∷ []) rest ds
back_one E ts c rest F e [] is none = let head : axiom_at E ts ≡ None = rw none refl in cc
back_one E ts c rest F e (d ∷ ds) is more =
    let both : one_of d more.0 ≡ one_of c rest = sym (one_complete E ts d more.0 more.1) ∙ e in
    let first : d ≡ c = same_constant d c more.0 rest both in
    let behind : more.0 ≡ rest = same_rest d c more.0 rest both in
    let tail : Declares (E ++ c ∷ []) more.0 ds = subst (λ (x : ConstInfo). Declares (E ++ x ∷ []) more.0 ds) first more.2 in (
      ds,
      is ∙ ap (λ (x : ConstInfo). E ++ x ∷ ds) first ∙ sym (append_assoc E (c ∷ []) ds),
      subst (λ (us : List Token). Declares (E ++ c ∷ []) us ds) behind
          tail,
    )

pub backward_step : (tokens : List Token) (E : Environment) (ts : List Token) (c : ConstInfo) (rest : List Token) → Backward tokens E ts
    → axiom_at E ts ≡ Some (c, rest)
    → Backward tokens (E ++ c ∷ []) rest
backward_step tokens E ts c rest f e = λ F all. let was = f F all in back_one E ts c rest F e was.0 was.1 was.2

refused_one : (E : Environment) (ts : List Token) → axiom_at E ts ≡ None → (ts ≡ [] → ⊥) → (cs : Environment) → Declares E ts cs → ⊥
refused_one E ts e some [] none = some none
refused_one E ts e some (d ∷ ds) more = let read = one_complete E ts d more.0 more.1 in cc

-- Where no axiom is read before the end, none are declared.
pub refused : (tokens : List Token) (E : Environment) (ts : List Token) → Backward tokens E ts → axiom_at E ts ≡ None → (ts ≡ [] → ⊥) → (F : Environment)
    → Declares [] tokens F → ⊥
refused tokens E ts f e some F all = let was = f F all in refused_one E ts e some was.0 was.2

-- At the end all are declared.
pub ended : (tokens : List Token) (E : Environment) (ts : List Token) → Forward tokens E ts → ts ≡ [] → Declares [] tokens E
ended tokens E ts f e = subst (Declares [] tokens) (append-nil E) (f [] e)

pub shallow_step : (E : Environment) (ts : List Token) (c : ConstInfo) (rest : List Token) → All IsShallow E → axiom_at E ts ≡ Some (c, rest)
    → All IsShallow (E ++ c ∷ [])
shallow_step E ts c rest all e =
    let one : DeclaresOne E ts c rest = subst (OneBy E ts) e (one_sound E ts) in
    All-append IsShallow E (c ∷ []) all (one_shallow c (subst IsShallow (sym one.constant) one.shallow))

pub shorter : (E : Environment) (ts : List Token) (c : ConstInfo) (rest : List Token) → axiom_at E ts ≡ Some (c, rest) → length rest < length ts
shorter E ts c rest e =
    let one : DeclaresOne E ts c rest = subst (OneBy E ts) e (one_sound E ts) in
    let less : length rest < length one.behind = spelled_shorter one.spelled in rw one.tokens (omega arith)

pub refused_all : (tokens : List Token) (E : Environment) (ts : List Token) (r : Refusal) → Backward tokens E ts → ReadsOne (Err r) (axiom_at E ts)
    → (ts ≡ [] → ⊥) → ReadsAll tokens (Err r)
refused_all tokens E ts NotBuilt f e some = refused tokens E ts f e some
refused_all tokens E ts NoMemory f e some = tt

not_none : (n : ℕ) → suc n ≡ 0 → ⊥
not_none n e = omega arith

pub no_tokens : (ts : List Token) → (length ts == 0) ≡ true → ts ≡ []
no_tokens [] e = refl
no_tokens (t ∷ ts) e = let none : suc (length ts) ≡ 0 = eqb-true (suc (length ts)) 0 e in absurd (not_none (length ts) none)

pub some_token : (ts : List Token) → (length ts == 0) ≡ false → ts ≡ [] → ⊥
some_token [] e is = cc
some_token (t ∷ ts) e is = cc

-- The loop's step, and its end where an axiom is refused, over what code has.
pub refused_at : (tokens : List Token) (E D : Environment) (ts : List Token) (r : Refusal) → Backward tokens E ts → D ≡ E → ReadsOne (Err r) (axiom_at D ts)
    → (length ts == 0) ≡ false
    → ReadsAll tokens (Err r)
refused_at tokens E D ts r f same e some = refused_all tokens E ts r f (subst (λ (F : Environment). ReadsOne (Err r) (axiom_at F ts)) same e)
    (some_token ts some)

pub read_at : (E D : Environment) (ts : List Token) (o : One) → D ≡ E → axiom_at D ts ≡ o → axiom_at E ts ≡ o
read_at E D ts o same e = subst (λ (F : Environment). axiom_at F ts ≡ o) same e

-- Tokens declare one list of axioms.
pub declares_one : (E : Environment) (ts : List Token) (cs ds : Environment) → Declares E ts cs → Declares E ts ds → cs ≡ ds
declares_one E ts [] [] a b = refl
declares_one E ts [] (d ∷ ds) a b = let none : axiom_at E ts ≡ None = rw a refl in let some = one_complete E ts d b.0 b.1 in cc
declares_one E ts (c ∷ cs) [] a b = let none : axiom_at E ts ≡ None = rw b refl in let some = one_complete E ts c a.0 a.1 in cc
declares_one E ts (c ∷ cs) (d ∷ ds) a b =
    let both : one_of c a.0 ≡ one_of d b.0 = sym (one_complete E ts c a.0 a.1) ∙ one_complete E ts d b.0 b.1 in
    let first : c ≡ d = same_constant c d a.0 b.0 both in
    let behind : a.0 ≡ b.0 = same_rest c d a.0 b.0 both in
    let tail : Declares (E ++ c ∷ []) a.0 ds = subst (λ (us : List Token). Declares (E ++ c ∷ []) us ds) (sym behind)
    (subst (λ (x : ConstInfo). Declares (E ++ x ∷ []) b.0 ds) (sym first) b.2) in
    let rest : cs ≡ ds = declares_one (E ++ c ∷ []) a.0 cs ds a.2 tail in λ i. first i ∷ rest i
