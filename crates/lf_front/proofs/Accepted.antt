-- What a text declares is derived.
use Rattle.std.proofs.Common.{
  ◌≡◌,
  ℕ,
  zero,
  suc,
  ◌+◌,
  ◌≤◌,
  ◌<◌,
  Bool,
  true,
  false,
  Option,
  Some,
  None,
  List,
  [],
  ◌∷◌,
  ◌++◌,
  length,
  refl,
  sym,
  subst,
  ap,
  ◌∙◌,
  arith,
  append_assoc,
  append-nil,
  length-append,
  Ok,
}
use Rattle.std.specs.Prelude.{Contains, ◌||◌, unwrap_or, slice_index_or}
use Rattle.std.proofs.lemmas.Slice.Eq.{bytes_eq-Decides}
use Rattle.std.proofs.Math.Bool.{or-true}
use Rattle.std.specs.List.{list_any}
use Rattle.lf_core.specs.Term.{Path, Universe, Term, bound, sort, const, pi, level_zero, level_succ}
use Rattle.lf_core.specs.Same.{same_path}
use Rattle.lf_core.specs.Scope.{Scoped}
use Rattle.lf_rules.specs.Environment.{Environment, Declared, Fresh, NamesDeclared, ParametersBelow, LevelsBelow}
use Rattle.lf_rules.specs.Judgment.{HasType}
use Rattle.lf_rules.specs.Derived.{Derived, with_axiom}
use Rattle.lf_core.specs.declared.constant.ConstInfo.{ConstInfo}
use Rattle.lf_front.proofs.Sound.{typed_by}
use Rattle.lf_name.proofs.Names.{path_is}
use Rattle.lf_front.specs.declared.token.Token.{Token}
use Rattle.lf_front.specs.declared.names.Local.{Local}
use Rattle.lf_front.specs.declared.names.Local.TheVariants.{Named, Unnamed}
use Rattle.lf_front.specs.Grammar as grammar
use Rattle.lf_front.specs.Grammar.{Atom, Spelled, innermost, or_here, or_constant, is_declared, named_by, level_of}
use Rattle.lf_front.specs.Declares.{Declares, DeclaresOne, axiom_of}

-- What is said of the index, where there is one.
abbrev IfBelow : ℕ → Option ℕ → Type 0
IfBelow n (Some i) = i < n
IfBelow n None = Unit {0}

here_below : (o : Option ℕ) (b : Bool) (n : ℕ) → IfBelow n o → IfBelow (suc n) (or_here o b n)
here_below (Some i) b n l = omega arith
here_below None true n l = omega arith
here_below None false n l = tt

weaker : (o : Option ℕ) (n : ℕ) → IfBelow n o → IfBelow (suc n) o
weaker (Some i) n l = omega arith
weaker None n l = tt

innermost_below : (x : Path) (L : List Local) → IfBelow (length L) (innermost x L)
innermost_below x [] = tt
innermost_below x (Named y ∷ ys) = here_below (innermost x ys) (same_path x y) (length ys) (innermost_below x ys)
innermost_below x (Unnamed ∷ ys) = weaker (innermost x ys) (length ys) (innermost_below x ys)

further : (n : Path) (d : ConstInfo) (E : Environment) → Declared E n → Declared (d ∷ E) n
further n d E h = (h.0, (suc h.1.0, omega (arith, h.1.1), h.1.2), h.2)

declared_step : (E : Environment) (n : Path) (d : ConstInfo) (b : Bool) → same_path n d.name ≡ b → (is_declared E n ≡ true → Declared E n)
    → b || is_declared E n ≡ true → Declared (d ∷ E) n
declared_step E n d true e ih h = (d, (0, omega arith, refl), sym (path_is n d.name e))
declared_step E n d false e ih h = further n d E (ih h)

declared_by : (E : Environment) (n : Path) → is_declared E n ≡ true → Declared E n
declared_by [] n e = cc
declared_by (d ∷ E) n e = declared_step E n d (same_path n d.name) refl (declared_by E n) e

-- A term that is read is in scope, names declared constants alone, and has no level parameter.
pub record IsPlain (E : Environment) (L : List Local) (t : Term) : Type 0 where
  pub scoped : Scoped (length L) 0 t
  pub named : NamesDeclared E t
  pub levels : LevelsBelow 0 t

name_plain : (E : Environment) (L : List Local) (x : Path) (t : Term) (o : Option ℕ) (b : Bool) → IfBelow (length L) o → is_declared E x ≡ b
    → or_constant o b x ≡ Some t → IsPlain E L t
name_plain E L x t (Some i) b l e is = subst (IsPlain E L) (ap (λ (o : Option Term). unwrap_or o t) is) (record { scoped = l; named = tt; levels = tt })
name_plain E L x t None true l e is =
    subst (IsPlain E L) (ap (λ (o : Option Term). unwrap_or o t) is) (record { scoped = tt; named = declared_by E x e; levels = tt })
name_plain E L x t None false l e is = cc

level_plain : (n : ℕ) → ParametersBelow 0 (level_of n)
level_plain zero = tt
level_plain (suc n) = level_plain n

sort_plain : (E : Environment) (L : List Local) (n : ℕ) → IsPlain E L (sort (level_of n))
sort_plain E L n = record { scoped = tt; named = tt; levels = level_plain n }

one_longer : (L : List Local) (l : Local) → length (L ++ l ∷ []) ≡ suc (length L)
one_longer L l = length-append L (l ∷ []) ∙ omega arith

mutual
  atom_plain : {E : Environment} {L : List Local} {ts rest : List Token} {t : Term} → Atom E L ts rest t → IsPlain E L t
  atom_plain {E} {L} {t = t} (grammar.identifier x e) = name_plain E L x t (innermost x L) (is_declared E x) (innermost_below x L) refl e
  atom_plain {E} {L} grammar.prop = sort_plain E L 0
  atom_plain {E} {L} (grammar.type e) = sort_plain E L 1
  atom_plain {E} {L} (grammar.type_at n) = sort_plain E L (suc n)
  atom_plain {E} {L} (grammar.plain_sort e) = sort_plain E L 0
  atom_plain {E} {L} (grammar.sort_at n) = sort_plain E L n
  atom_plain (grammar.parentheses s) = spelled_plain s

  pub spelled_plain : {E : Environment} {L : List Local} {ts rest : List Token} {t : Term} → Spelled E L ts rest t → IsPlain E L t
  spelled_plain (grammar.alone a e) = atom_plain a
  spelled_plain {E} {L} (grammar.arrow {B = B} a s) =
      let left = atom_plain a in
      let right = spelled_plain s in
      record {
        scoped = (left.scoped, subst (λ (n : ℕ). Scoped n 0 B) (one_longer L Unnamed) right.scoped);
        named = (left.named, right.named);
        levels =
            (left.levels, right.levels);
      }
  spelled_plain {E} {L} (grammar.for_all {B = B} x s u) =
      let left = spelled_plain s in
      let right = spelled_plain u in
      record {
        scoped = (left.scoped, subst (λ (n : ℕ). Scoped n 0 B) (one_longer L (Named (x ∷ []))) right.scoped);
        named = (left.named, right.named);
        levels =
            (left.levels, right.levels);
      }

path_same : (x : Path) → same_path x x ≡ true
path_same [] = refl
path_same (x ∷ xs) = rw ((bytes_eq-Decides x x).1 refl) (path_same xs)

no_place : (k : ℕ) → k < 0 → ⊥
no_place k l = omega arith

declared_at : (E : Environment) (n : Path) (c d : ConstInfo) (k : ℕ) → k < length E → slice_index_or E k d ≡ c → c.name ≡ n → is_declared E n ≡ true
declared_at [] n c d k l is named = absurd (no_place k l)
declared_at (e ∷ E) n c d zero l is named = rw (is, named) (rw (path_same n) refl)
declared_at (e ∷ E) n c d (suc k) l is named = rw (declared_at E n c d k (omega arith) is named) (or-true (same_path n e.name))

fresh_by : (E : Environment) (n : Path) → is_declared E n ≡ false → Fresh E n
fresh_by E n e = λ h. let yes : is_declared E n ≡ true = declared_at E n h.0 h.0 h.1.0 h.1.1 h.1.2 h.2 in cc

one_derived : (E : Environment) (ts : List Token) (c : ConstInfo) (rest : List Token) → Derived E → DeclaresOne E ts c rest → Derived (E ++ c ∷ [])
one_derived E ts c rest derived one =
    let plain = spelled_plain one.spelled in
    let typed : HasType E [] one.type (sort one.level) = typed_by E [] [] one.type (sort one.level) refl one.typed plain.scoped in
    subst (λ (d : ConstInfo). Derived (E ++ d ∷ [])) (sym one.constant)
    (with_axiom (axiom_of one.name one.type) derived
    (record {
      fresh = fresh_by E one.name one.new;
      plain = refl;
      level = one.level;
      type = record { typed = typed; named = plain.named; levels = plain.levels };
    }) refl refl)

pub declares_derived : (E : Environment) (ts : List Token) (cs : Environment) → Derived E → Declares E ts cs → Derived (E ++ cs)
declares_derived E ts [] derived d = rw (append-nil E) derived
declares_derived E ts (c ∷ cs) derived d =
    let one = one_derived E ts c d.0 derived d.1 in
    subst Derived (append_assoc E (c ∷ []) cs) (declares_derived (E ++ c ∷ []) d.0 cs one d.2)
