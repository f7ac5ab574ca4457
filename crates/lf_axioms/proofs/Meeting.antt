-- Slots that meet the entries, as names are put at their places.
use Rattle.std.proofs.Common.{
  ◌≡◌,
  ℕ,
  zero,
  suc,
  ◌+◌,
  ◌<◌,
  Bool,
  true,
  false,
  ◌&&◌,
  ◌||◌,
  Option,
  Some,
  None,
  List,
  [],
  ◌∷◌,
  ◌++◌,
  refl,
  sym,
  ap,
  ◌∙◌,
  subst,
  if◌then◌else◌,
  arith,
  true≢false,
  length,
  take,
  get_or,
}
use Rattle.std.specs.List.{IsDistinct, AllByRecursion}
use Rattle.std.specs.Option.{option_map}
use Rattle.std.proofs.lemmas.Map.Keys.{IsDistinct-head, IsDistinct-tail}
use Rattle.std.proofs.Math.Seq.{take-suc}
use Rattle.lf_core.specs.Term.{Path}
use Rattle.lf_core.specs.Same.{same_path}
use Rattle.lf_name.proofs.Names.{path_is, path_equivalence}
use Rattle.lf_rules.specs.Recursor.{is_among}
use Rattle.lf_checker.specs.View.{
  View,
  Entry,
  is_axiom,
  find_entry,
  Lookup,
  found,
  absent,
  need_body,
  need_real,
  by_entry,
  lookup_of,
  placed_from,
  placed_of,
}
use Rattle.lf_env.specs.Names.{same_entry}
use Rattle.lf_elaboration.specs.Axioms.{axioms_among}
use Rattle.lf_axioms.specs.declared.item.Visited.{Visited}
use Rattle.lf_axioms.specs.Walked.{visited}
use Rattle.lf_axioms.proofs.Items.{visited_more}
use Rattle.lf_axioms.specs.Slots.{with_at, somes, place_of, axiom_place_by, axiom_place, with_axiom, slot_of, Meets}

-- ---- The place by recursion on the entries

abbrev place_in : List Entry → Path → Option ℕ
place_in [] n = None
place_in (e ∷ es) n = if same_path e.info.name n then (if is_axiom e.info.kind then Some 0 else None) else option_map suc (place_in es n)

abbrev by_found : Option Entry → Option (ℕ × ℕ) → Option ℕ
by_found None p = None
by_found (Some e) p = if is_axiom e.info.kind then place_of p else None

shift : (i : ℕ) (o : Option ℕ) → option_map (λ k. suc i + k) o ≡ option_map (λ k. i + k) (option_map suc o)
shift i None = refl
shift i (Some k) = ap Some (omega arith)

own : (i p : ℕ) (b : Bool) → (if b then place_of (Some (p, i)) else None) ≡ option_map (λ k. i + k) (if b then Some 0 else None)
own i p true = ap Some (omega arith)
own i p false = refl

place_from : (i : ℕ) (es : List Entry) (n : Path) → by_found (find_entry es n) (placed_from i es n) ≡ option_map (λ k. i + k) (place_in es n)
place_from i [] n = refl
place_from i (e ∷ es) n = at (same_path e.info.name n) (place_from (suc i) es n)
  where
    at : (b : Bool) → by_found (find_entry es n) (placed_from (suc i) es n) ≡ option_map (λ k. suc i + k) (place_in es n)
        → by_found (if b then Some e else find_entry es n) (if b then Some (e.position, i) else placed_from (suc i) es n)
        ≡ option_map (λ k. i + k) (if b then (if is_axiom e.info.kind then Some 0 else None) else option_map suc (place_in es n))
    at true h = own i e.position (is_axiom e.info.kind)
    at false h = h ∙ shift i (place_in es n)

plain : (o : Option ℕ) → option_map (λ k. 0 + k) o ≡ o
plain None = refl
plain (Some k) = ap Some (omega arith)

not_placed : (i : ℕ) (es : List Entry) (n : Path) → find_entry es n ≡ None → placed_from i es n ≡ None
not_placed i [] n h = refl
not_placed i (e ∷ es) n h = at (same_path e.info.name n) (not_placed (suc i) es n) h
  where
    at : (b : Bool) → (find_entry es n ≡ None → placed_from (suc i) es n ≡ None) → (if b then Some e else find_entry es n) ≡ None
        → (if b then Some (e.position, i) else placed_from (suc i) es n) ≡ None
    at true r g = absurd (cc)
    at false r g = r g

no_place : (b : Bool) (o : Option (ℕ × ℕ)) → o ≡ None → (if b then place_of o else None) ≡ None
no_place true o h = ap place_of h
no_place false o h = refl

unplaced : (V : View) (n : Path) (l : Lookup) → placed_of V n ≡ None → axiom_place_by V n l ≡ None
unplaced V n (found c) h = no_place (is_axiom c.kind) (placed_of V n) h
unplaced V n absent h = refl
unplaced V n (need_body p) h = refl
unplaced V n need_real h = refl

placed_by : (V : View) (n : Path) (o : Option Entry) → find_entry V.entries n ≡ o → axiom_place_by V n (by_entry V n o) ≡ by_found o (placed_of V n)
placed_by V n None h = unplaced V n (by_entry V n None) (not_placed 0 V.entries n h)
placed_by V n (Some e) h = refl

place_is : (V : View) (n : Path) → axiom_place V n ≡ place_in V.entries n
place_is V n = placed_by V n (find_entry V.entries n) refl ∙ place_from 0 V.entries n ∙ plain (place_in V.entries n)

-- ---- Meeting

nothing_left : (b : Bool) (n : Path) (ns : List Path) → (if b then n ∷ ns else ns) ≡ [] → (b ≡ false) × (ns ≡ [])
nothing_left true n ns h = absurd (cc)
nothing_left false n ns h = (refl, h)

empty_slot : (seen : List Path) (e : Entry) → is_axiom e.info.kind && is_among e.info.name seen ≡ false → None ≡ slot_of seen e
empty_slot seen e h = ap (λ b. if b then Some e.info.name else None) (sym h)

slot_empty : (b : Bool) (n : Path) → None ≡ (if b then Some n else None) → b ≡ false
slot_empty true n h = absurd (cc)
slot_empty false n h = refl

-- No slot is one slot without a name, and no slot.
opened : (seen : List Path) (e : Entry) (es : List Entry) → Meets [] seen (e ∷ es) → (None ≡ slot_of seen e) × Meets [] seen es
opened seen e es h =
    let r = nothing_left (is_axiom e.info.kind && is_among e.info.name seen) e.info.name (axioms_among seen es) h in
    (empty_slot seen e r.0, r.1)

closed : (seen : List Path) (e : Entry) (es : List Entry) → None ≡ slot_of seen e → Meets [] seen es → Meets [] seen (e ∷ es)
closed seen e es h m =
    let f : is_axiom e.info.kind && is_among e.info.name seen ≡ false = slot_empty (is_axiom e.info.kind && is_among e.info.name seen) e.info.name h in
    ap (λ b. if b then e.info.name ∷ axioms_among seen es else axioms_among seen es) f ∙ m

pub somes_meet : (ss : List (Option Path)) (seen : List Path) (es : List Entry) → Meets ss seen es → somes ss ≡ axioms_among seen es
somes_meet [] seen es h = sym h
somes_meet (s ∷ ss) seen [] h = absurd h
somes_meet (s ∷ ss) seen (e ∷ es) h =
    ap (λ o. somes (o ∷ ss)) h.0 ∙ at (is_axiom e.info.kind && is_among e.info.name seen) (somes_meet ss seen es h.1)
  where
    at : (b : Bool) → somes ss ≡ axioms_among seen es
        → somes ((if b then Some e.info.name else None) ∷ ss) ≡ (if b then e.info.name ∷ axioms_among seen es else axioms_among seen es)
    at true r = ap (λ l. e.info.name ∷ l) r
    at false r = r

-- ---- One name more

-- An entry of another name keeps its slot.
other_slot : (seen : List Path) (n : Path) (e : Entry) → same_path e.info.name n ≡ false → slot_of seen e ≡ slot_of (n ∷ seen) e
other_slot seen n e h = ap (λ b. if is_axiom e.info.kind && (b || is_among e.info.name seen) then Some e.info.name else None) (sym h)

others : (ss : List (Option Path)) (seen : List Path) (n : Path) (es : List Entry) → AllByRecursion (λ y. same_path y.info.name n ≡ false) es
    → Meets ss seen es → Meets ss (n ∷ seen) es
others [] seen n [] a h = refl
others [] seen n (e ∷ es) a h =
    let o = opened seen e es h in
    closed (n ∷ seen) e es (o.0 ∙ other_slot seen n e a.0) (others [] seen n es a.1 o.1)
others (s ∷ ss) seen n [] a h = absurd h
others (s ∷ ss) seen n (e ∷ es) a h = (h.0 ∙ other_slot seen n e a.0, others ss seen n es a.1 h.1)

apart : (e : Entry) (n : Path) (es : List Entry) → e.info.name ≡ n → AllByRecursion (λ y. same_entry e y ≡ false) es
    → AllByRecursion (λ y. same_path y.info.name n ≡ false) es
apart e n [] q a = tt
apart e n (d ∷ es) q a = (path_equivalence.symm d.info.name n ∙ subst (λ x. same_path x d.info.name ≡ false) q a.0, apart e n es q a.1)

-- An entry of this name that is no axiom has no slot.
bare_slot : (seen ns : List Path) (e : Entry) → is_axiom e.info.kind ≡ false → slot_of seen e ≡ slot_of ns e
bare_slot seen ns e h =
    ap (λ b. if b && is_among e.info.name seen then Some e.info.name else None) h
    ∙ ap (λ b. if b && is_among e.info.name ns then Some e.info.name else None) (sym h)

full_slot : (seen : List Path) (n : Path) (e : Entry) → same_path e.info.name n ≡ true → is_axiom e.info.kind ≡ true → Some n ≡ slot_of (n ∷ seen) e
full_slot seen n e h a =
    ap Some (sym (path_is e.info.name n h))
    ∙ ap (λ b. if b && true then Some e.info.name else None) (sym a)
    ∙ ap (λ b. if is_axiom e.info.kind && (b || is_among e.info.name seen) then Some e.info.name else None) (sym h)

module _ (seen : List Path) (n : Path) (e : Entry) (es : List Entry) where
  -- at the entry itself
  here : (a : Bool) → is_axiom e.info.kind ≡ a → same_path e.info.name n ≡ true → AllByRecursion (λ y. same_path y.info.name n ≡ false) es
      → (ss : List (Option Path)) → Meets ss seen (e ∷ es) → Meets (with_axiom ss n (if a then Some 0 else None)) (n ∷ seen) (e ∷ es)
  here true a h d [] m = let o = opened seen e es m in (full_slot seen n e h a, others [] seen n es d o.1)
  here true a h d (s ∷ ss) m = (full_slot seen n e h a, others ss seen n es d m.1)
  here false a h d [] m =
      let o = opened seen e es m in
      closed (n ∷ seen) e es (o.0 ∙ bare_slot seen (n ∷ seen) e a) (others [] seen n es d o.1)
  here false a h d (s ∷ ss) m = (m.0 ∙ bare_slot seen (n ∷ seen) e a, others ss seen n es d m.1)

  -- behind it
  later : same_path e.info.name n ≡ false → (o : Option ℕ)
      → ((ss : List (Option Path)) → Meets ss seen es → Meets (with_axiom ss n o) (n ∷ seen) es)
      → (ss : List (Option Path)) → Meets ss seen (e ∷ es) → Meets (with_axiom ss n (option_map suc o)) (n ∷ seen) (e ∷ es)
  later h None r [] m = let o = opened seen e es m in closed (n ∷ seen) e es (o.0 ∙ other_slot seen n e h) (r [] o.1)
  later h (Some k) r [] m = let o = opened seen e es m in (o.0 ∙ other_slot seen n e h, r [] o.1)
  later h None r (s ∷ ss) m = (m.0 ∙ other_slot seen n e h, r ss m.1)
  later h (Some k) r (s ∷ ss) m = (m.0 ∙ other_slot seen n e h, r ss m.1)

put_in : (seen : List Path) (n : Path) (es : List Entry) → IsDistinct same_entry es → (ss : List (Option Path)) → Meets ss seen es
    → Meets (with_axiom ss n (place_in es n)) (n ∷ seen) es
put_in seen n [] d [] m = refl
put_in seen n [] d (s ∷ ss) m = absurd m
put_in seen n (e ∷ es) d ss m = at (same_path e.info.name n) refl (put_in seen n es (IsDistinct-tail same_entry e es d))
  where
    at : (b : Bool) → same_path e.info.name n ≡ b
        → ((ss : List (Option Path)) → Meets ss seen es → Meets (with_axiom ss n (place_in es n)) (n ∷ seen) es)
        → Meets (with_axiom ss n (if b then (if is_axiom e.info.kind then Some 0 else None) else option_map suc (place_in es n))) (n ∷ seen) (e ∷ es)
    at true h r =
        here seen n e es (is_axiom e.info.kind) refl h (apart e n es (path_is e.info.name n h) (IsDistinct-head same_entry e es d)) ss m
    at false h r = later seen n e es h (place_in es n) r ss m

pub put_meets : (V : View) (n : Path) (seen : List Path) (ss : List (Option Path)) → IsDistinct same_entry V.entries → Meets ss seen V.entries
    → Meets (with_axiom ss n (axiom_place V n)) (n ∷ seen) V.entries
put_meets V n seen ss d m = subst (λ o. Meets (with_axiom ss n o) (n ∷ seen) V.entries) (sym (place_is V n)) (put_in seen n V.entries d ss m)

pub nothing_meets : (es : List Entry) → Meets [] [] es
nothing_meets [] = refl
nothing_meets (e ∷ es) = closed [] e es (none (is_axiom e.info.kind)) (nothing_meets es)
  where
    none : (b : Bool) → None ≡ (if b && false then Some e.info.name else None)
    none true = refl
    none false = refl

-- A turn of the loop.
pub put_turn : (V : View) (ks : List Visited) (i : ℕ) (k : Visited) (n : Path) (ss news : List (Option Path)) → IsDistinct same_entry V.entries
    → i < length ks → k ≡ get_or ks i k → n ≡ k.name.now → news ≡ with_axiom ss n (axiom_place V n) → Meets ss (visited (take i ks)) V.entries
    → Meets news (visited (take (i + 1) ks)) V.entries
put_turn V ks i k n ss news d l g q e m =
    let next : take (i + 1) ks ≡ take i ks ++ k ∷ [] = (λ j. take (successor i j) ks) ∙ take-suc ks i k l ∙ ap (λ x. take i ks ++ x ∷ []) (sym g) in
    let names : visited (take (i + 1) ks) ≡ n ∷ visited (take i ks) =
    ap visited next ∙ visited_more (take i ks) k ∙ ap (λ x. x ∷ visited (take i ks)) (sym q) in
    subst (λ x. Meets x (visited (take (i + 1) ks)) V.entries) (sym e)
    (subst (λ ns. Meets (with_axiom ss n (axiom_place V n)) ns V.entries) (sym names) (put_meets V n (visited (take i ks)) ss d m))
  where
    successor : (j : ℕ) → j + 1 ≡ suc j
    successor j = omega arith
