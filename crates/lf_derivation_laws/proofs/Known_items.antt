-- The constants that a view knows of a list are a list that it knows.
use Rattle.std.proofs.Common.{◌≡◌, ℕ, true, false, List, refl, sym, ap, subst, ◌∙◌, Contains}
use Rattle.lf_core.specs.Term.{Path, Term, bound, free, meta, sort, const, app, lam, pi, letin, lit, proj}
use Rattle.lf_rules.specs.Environment.{Environment, Declared, nat, NamesDeclared, LevelsBelow}
use Rattle.lf_core.specs.declared.constant.ConstInfo.{ConstInfo}
use Rattle.lf_core.specs.declared.literal.LitOut.{LitOut}
use Rattle.lf_core.specs.declared.literal.LitOut.TheVariants as literal
use Rattle.lf_checker.specs.View.{View, Lookup, found, absent, need_body, need_real, lookup_of}
use Rattle.lf_checker_laws.specs.Soundness.{Held, HeldValue, HeldBeside, Names}
use Rattle.lf_checker_laws.specs.Declarations.{FindsAll, Asked, Knows, HasBeside}
use Rattle.lf_checker_laws.proofs.Tests.{no_false}
use Rattle.lf_checker_laws.proofs.Views.{found_is}
use Rattle.lf_derivation_laws.specs.Lists.{Item, constants_of, name_of, all_constants, is_found, knows, known, DeclaredValue, Beside, AllBeside, Reads}
use Rattle.lf_derivation_laws.proofs.Lists_of_items.{Within, first_of, first_named, first_within, item_of, of_item, known_of, known_if}

found_if : (l : Lookup) → is_found l ≡ true → (c : ConstInfo) × (l ≡ found c)
found_if (found c) e = (c, refl)
found_if absent e = no_false e
found_if (need_body p) e = no_false e
found_if need_real e = no_false e

-- What the list knows stands in the whole list.
pub known_within : (V : View) (J : List Item) → Within (all_constants (known V J)) (all_constants J)
known_within V J c w =
    let i = item_of (known V J) c w in
    of_item J i.0 c (known_of V J i.0 i.1).0 i.2

-- An item that is known has all its constants found.
pub item_found : (V : View) (J : List Item) → Reads V J → (i : Item) → Contains J i → knows V i ≡ true → FindsAll V (constants_of i)
item_found V J r i w k =
    let f = found_if (lookup_of V (name_of i)) k in
    r.whole i w (first_of i) f.0 (first_within i) (subst (λ n. lookup_of V n ≡ found f.0) (sym (first_named i)) f.1)

-- A constant of the list that the view finds is among what it knows.
pub known_by : (V : View) (J : List Item) → Reads V J → (c x : ConstInfo) → Contains (all_constants J) c → lookup_of V c.name ≡ found x
    → Contains (all_constants (known V J)) c
known_by V J r c x w q =
    let i = item_of J c w in
    let all : FindsAll V (constants_of i.0) = r.whole i.0 i.1 c x i.2 q in
    let e : lookup_of V (name_of i.0) ≡ found (first_of i.0) = subst (λ n. lookup_of V n ≡ found (first_of i.0)) (first_named i.0)
    (all (first_of i.0) (first_within i.0)) in
    of_item (known V J) i.0 c (known_if V J i.0 i.1 (ap is_found e)) i.2

-- ---- Names that the view finds in one list are in another.

pub held_value_in : (V : View) (E F : Environment) → ((n : Path) → Held V E n → Held V F n) → (r : LitOut) → HeldValue V E r → HeldValue V F r
held_value_in V E F m (literal.Nat k) h = tt
held_value_in V E F m (literal.Bool true) h = m _ h
held_value_in V E F m (literal.Bool false) h = m _ h

pub beside_in : (V : View) (E F : Environment) → ((n : Path) → Held V E n → Held V F n) → (n : Path) → HeldBeside V E n → HeldBeside V F n
beside_in V E F m n h = record { zero = λ e. m nat (h.zero e); operation = λ i j r e. held_value_in V E F m r (h.operation i j r e) }

pub names_in : (V : View) (E F : Environment) (top : ℕ) → ((n : Path) → Held V E n → Held V F n) → (t : Term) → Names V E top t → Names V F top t
names_in V E F top m (bound i) h = tt
names_in V E F top m (free i) h = tt
names_in V E F top m (meta i) h = tt
names_in V E F top m (sort u) h = h
names_in V E F top m (const n ls) h = (m n h.0, beside_in V E F m n h.1, h.2)
names_in V E F top m (app f a) h = (names_in V E F top m f h.0, names_in V E F top m a h.1)
names_in V E F top m (lam x A b) h = (names_in V E F top m A h.0, names_in V E F top m b h.1)
names_in V E F top m (pi x A b) h = (names_in V E F top m A h.0, names_in V E F top m b h.1)
names_in V E F top m (letin x A v b) h = (names_in V E F top m A h.0, names_in V E F top m v h.1, names_in V E F top m b h.2)
names_in V E F top m (lit n) h = m nat h
names_in V E F top m (proj S i t) h = (m S h.0, names_in V E F top m t h.1)

pub held_known : (V : View) (J : List Item) → Reads V J → (n : Path) → Held V (all_constants J) n → Held V (all_constants (known V J)) n
held_known V J r n h c q = known_by V J r c c (h c q) (subst (λ m. lookup_of V m ≡ found c) (sym (r.own_name n c q)) q)

pub asked_known : (V : View) (J : List Item) → Reads V J → (top : ℕ) (t : Term) → Asked V (all_constants J) top t → Asked V (all_constants (known V J)) top t
asked_known V J r top t a = record { names = names_in V (all_constants J) (all_constants (known V J)) top (held_known V J r) t a.names; literals = a.literals }

-- ---- The list is known.

pub list_known : (V : View) (J : List Item) → Reads V J → Knows V (all_constants (known V J))
list_known V J r = record {
  found_there = λ c w.
      let i = item_of (known V J) c w in
      let k = known_of V J i.0 i.1 in
      item_found V J r i.0 k.0 k.1 c i.2;
  own_name = r.own_name;
  whole = λ n c ind index own fields q e d.
      known_by V J r c c (r.constructors n c ind index own fields q e (d.0, known_within V J d.0 d.1, d.2))
      (subst (λ m. lookup_of V m ≡ found c) (sym (r.own_name n c q)) q);
}

-- ---- What stands in the list is held.

pub held_if_declared : (V : View) (J : List Item) → Reads V J → (n : Path) → Declared (all_constants J) n → Held V (all_constants J) n
held_if_declared V J r n (d, w, e) c q =
    let i = item_of J d w in
    let f : lookup_of V d.name ≡ found d = r.whole i.0 i.1 d c i.2 (subst (λ m. lookup_of V m ≡ found c) (sym e) q) d i.2 in
    subst (Contains (all_constants J)) (found_is d c (sym f ∙ subst (λ m. lookup_of V m ≡ found c) (sym e) q)) w

pub held_value : (V : View) (E : Environment) → ((n : Path) → Declared E n → Held V E n) → (r : LitOut) → DeclaredValue E r → HeldValue V E r
held_value V E m (literal.Nat k) h = tt
held_value V E m (literal.Bool true) h = m _ h
held_value V E m (literal.Bool false) h = m _ h

pub held_beside : (V : View) (E : Environment) → ((n : Path) → Declared E n → Held V E n) → (n : Path) → Beside E n → HeldBeside V E n
held_beside V E m n b = record { zero = λ e. m nat (b.zero e); operation = λ i j r e. held_value V E m r (b.operation i j r e) }

pub list_beside : (V : View) (J : List Item) → Reads V J → AllBeside (all_constants J) (all_constants J) → HasBeside V (all_constants (known V J))
list_beside V J r b c w = beside_in V (all_constants J) (all_constants (known V J)) (held_known V J r) c.name
    (held_beside V (all_constants J) (held_if_declared V J r) c.name (b c (known_within V J c w)))

-- What is declared is held, and with it what counts as named beside it: so is a term whose names are declared.
pub names_held : (V : View) (E : Environment) → ((n : Path) → Declared E n → Held V E n) → AllBeside E E → (top : ℕ) (t : Term) → NamesDeclared E t
    → LevelsBelow top t → Names V E top t
names_held V E m b top (bound i) h l = tt
names_held V E m b top (free i) h l = tt
names_held V E m b top (meta i) h l = tt
names_held V E m b top (sort u) h l = l
names_held V E m b top (const n ls) h l = (m n h, subst (HeldBeside V E) h.2 (held_beside V E m h.0.name (b h.0 h.1)), l)
names_held V E m b top (app f a) h l = (names_held V E m b top f h.0 l.0, names_held V E m b top a h.1 l.1)
names_held V E m b top (lam x A t) h l = (names_held V E m b top A h.0 l.0, names_held V E m b top t h.1 l.1)
names_held V E m b top (pi x A t) h l = (names_held V E m b top A h.0 l.0, names_held V E m b top t h.1 l.1)
names_held V E m b top (letin x A v t) h l = (names_held V E m b top A h.0 l.0, names_held V E m b top v h.1 l.1, names_held V E m b top t h.2 l.2)
names_held V E m b top (lit n) h l = m nat h
names_held V E m b top (proj S i t) h l = (m S h.0, names_held V E m b top t h.1 l)
