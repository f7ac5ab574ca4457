-- Walks along the metavariables, from one number on.
use Rattle.std.proofs.Common.{◌≡◌, ℕ, zero, suc, ◌+◌, ◌-◌, ◌<◌, ◌≤◌, Bool, true, false, nat_lt, List, [], ◌∷◌, length, drop, slice_get, refl, sym, ap, ◌∙◌, subst, arith}
use Rattle.std.specs.Prelude.{◌||◌, ◌&&◌, not, max, nat_le, if◌then◌else◌, Option, Some, None, is_some, option_map}
use Rattle.std.proofs.lemmas.Bool.{lt-ltb, ltb-false, ltb-true, false_from_ne_true}
use Rattle.lf_core.specs.Term.{Term, bound, free, meta, sort, const, app, lam, pi, letin, lit, proj}
use Rattle.lf_core.specs.Summary.{free_bound}
use Rattle.lf_elaboration.specs.Metavariables.{
  Changes,
  Metavariable,
  metavariables,
  value,
  level_value,
  level_count,
  unassigned,
  unassigned_from,
  level_unassigned_from,
  speaks_outside,
  escaping_from,
  or_first,
  outside,
}
use Rattle.lf_forms.specs.Escapes.{escapes_by}

-- ---- Variables outside of a context

either_by : (p q : Bool) (n a b : ℕ) → p ≡ nat_lt n a → q ≡ nat_lt n b → nat_lt n (max a b) ≡ (p || q)
either_by true q n a b e f = let h = ltb-true n a (sym e) in lt-ltb n (max a b) (omega arith)
either_by false true n a b e f = let h = ltb-true n b (sym f) in lt-ltb n (max a b) (omega arith)
either_by false false n a b e f =
    let h = ltb-false n a (sym e) in
    let k = ltb-false n b (sym f) in
    false_from_ne_true (nat_lt n (max a b)) (λ g. let l = ltb-true n (max a b) g in absurd (omega arith))

either : (n a b : ℕ) → nat_lt n (max a b) ≡ (nat_lt n a || nat_lt n b)
either n a b = either_by (nat_lt n a) (nat_lt n b) n a b refl refl

never : (n : ℕ) → false ≡ nat_lt n 0
never n = sym (false_from_ne_true (nat_lt n 0) (λ g. let l = ltb-true n 0 g in absurd (omega arith)))

variable_by : (p : Bool) (n k : ℕ) → p ≡ nat_lt k n → is_some (if p then None else Some k) ≡ nat_lt n (k + 1)
variable_by true n k e =
    let h = ltb-true k n (sym e) in
    sym (false_from_ne_true (nat_lt n (k + 1)) (λ g. let l = ltb-true n (k + 1) g in absurd (omega arith)))
variable_by false n k e = let h = ltb-false k n (sym e) in sym (lt-ltb n (k + 1) (omega arith))

two : (n : ℕ) (o p : Option ℕ) (a b : ℕ) → is_some o ≡ nat_lt n a → is_some p ≡ nat_lt n b → is_some (or_first o p) ≡ nat_lt n (max a b)
two n (Some k) p a b e f = let h = ltb-true n a (sym e) in sym (lt-ltb n (max a b) (omega arith))
two n None p a b e f = f ∙ sym (either n a b ∙ ap (λ q. q || nat_lt n b) (sym e))

pub outside_is : (n : ℕ) (t : Term) → is_some (outside n t) ≡ nat_lt n (free_bound t)
outside_is n (bound i) = never n
outside_is n (free k) = variable_by (nat_lt k n) n k refl
outside_is n (meta k) = never n
outside_is n (sort l) = never n
outside_is n (const c ls) = never n
outside_is n (app f a) = two n _ _ _ _ (outside_is n f) (outside_is n a)
outside_is n (lam x a b) = two n _ _ _ _ (outside_is n a) (outside_is n b)
outside_is n (pi x a b) = two n _ _ _ _ (outside_is n a) (outside_is n b)
outside_is n (letin x a v b) = two n _ _ _ _ (outside_is n a) (two n _ _ _ _ (outside_is n v) (outside_is n b))
outside_is n (lit i) = never n
outside_is n (proj s i t) = outside_is n t

-- ---- The item at a place

pub record At {A : Type 0} (k : ℕ) (xs : List A) : Type 0 where
  pub item : A
  pub rest : drop k xs ≡ item ∷ drop (suc k) xs
  pub there : slice_get xs k ≡ Some item

at_place : {A : Type 0} (k : ℕ) (xs : List A) → k < length xs → At k xs
at_place k [] h = absurd (omega (arith, h))
at_place zero (x ∷ xs) h = record { item = x; rest = refl; there = refl }
at_place (suc k) (x ∷ xs) h = let r = at_place k xs (omega (arith, h)) in record { item = r.item; rest = r.rest; there = r.there }

at_end : {A : Type 0} (k : ℕ) (xs : List A) → length xs ≤ k → drop k xs ≡ []
at_end zero [] h = refl
at_end (suc k) [] h = refl
at_end zero (x ∷ xs) h = absurd (omega (arith, h))
at_end (suc k) (x ∷ xs) h = at_end k xs (omega (arith, h))

-- ---- Unassigned ones

ended_in : (cs : Changes) (start k : ℕ) (ms : List Metavariable) → ms ≡ [] → unassigned_from cs start k ms ≡ None
ended_in cs start k [] e = refl
ended_in cs start k (m ∷ ms) e = cc

pub ended : (cs : Changes) (start k : ℕ) → length (metavariables cs) ≤ k → unassigned_from cs start k (drop k (metavariables cs)) ≡ None
ended cs start k h = ended_in cs start k _ (at_end k (metavariables cs) h)

pub le_true : (a b : ℕ) → a ≤ b → nat_le a b ≡ true
le_true a b h = grind (arith, h)

pub le_false : (a b : ℕ) → b < a → nat_le a b ≡ false
le_false a b h = grind (arith, h)

chosen : (p q : Bool) (x y : Option ℕ) → p ≡ true → q ≡ true → (if p && q then x else y) ≡ x
chosen true true x y e f = refl
chosen true false x y e f = cc
chosen false q x y e f = cc

not_chosen : (p q : Bool) (x y : Option ℕ) → q ≡ false → (if p && q then x else y) ≡ y
not_chosen true false x y f = refl
not_chosen false false x y f = refl
not_chosen true true x y f = cc
not_chosen false true x y f = cc

first_false : (p q : Bool) (x y : Option ℕ) → p ≡ false → (if p && q then x else y) ≡ y
first_false false q x y f = refl
first_false true q x y f = cc

pub passed : (cs : Changes) (start k : ℕ) → k < length (metavariables cs) → is_some (value cs k) ≡ true
    → unassigned_from cs start k (drop k (metavariables cs)) ≡ unassigned_from cs start (k + 1) (drop (k + 1) (metavariables cs))
passed cs start k h e =
    let r = at_place k (metavariables cs) h in
    let one : k + 1 ≡ suc k = omega arith in
    ap (unassigned_from cs start k) r.rest ∙ not_chosen (nat_le start k) (not (is_some (value cs k))) _ _ (ap not e)
    ∙ ap (λ j. unassigned_from cs start j (drop j (metavariables cs))) (sym one)

pub found : (cs : Changes) (start k : ℕ) → start ≤ k → k < length (metavariables cs) → value cs k ≡ None
    → unassigned_from cs start k (drop k (metavariables cs)) ≡ option_map (λ m. m.at) (slice_get (metavariables cs) k)
found cs start k l h e =
    let r = at_place k (metavariables cs) h in
    ap (unassigned_from cs start k) r.rest ∙ chosen (nat_le start k) (not (is_some (value cs k))) _ _ (le_true start k l) (ap (λ o. not (is_some o)) e)
    ∙ sym (ap (option_map (λ m. m.at)) r.there)

begun_at : (cs : Changes) (start k d : ℕ) (ms : List Metavariable) → k + d ≡ start → unassigned_from cs start k ms ≡ unassigned_from cs start start (drop d ms)
begun_at cs start k zero ms e = let s : k ≡ start = omega (arith, e) in ap (λ j. unassigned_from cs start j ms) s
begun_at cs start k (suc d) [] e = refl
begun_at cs start k (suc d) (m ∷ ms) e =
    first_false (nat_le start k) (not (is_some (value cs k))) _ _ (le_false start k (omega (arith, e)))
    ∙ begun_at cs start (suc k) d ms (omega (arith, e))

pub begun : (cs : Changes) (start : ℕ) → unassigned_from cs start start (drop start (metavariables cs)) ≡ unassigned cs start
begun cs start = sym (begun_at cs start 0 start (metavariables cs) (omega arith))

-- ---- Levels

left_some : (n k : ℕ) → k < n → (d : ℕ) × (n - k ≡ suc d) × (n - (k + 1) ≡ d)
left_some n k h = (n - (k + 1), omega (arith, h), refl)

pub level_ended : (cs : Changes) (k : ℕ) → level_count cs ≤ k → level_unassigned_from cs k (level_count cs - k) ≡ false
level_ended cs k h = let e : level_count cs - k ≡ 0 = omega (arith, h) in ap (level_unassigned_from cs k) e

none_or : (p q : Bool) → p ≡ true → (not p || q) ≡ q
none_or true q e = refl
none_or false q e = cc

pub level_passed : (cs : Changes) (k : ℕ) → k < level_count cs → is_some (level_value cs k) ≡ true
    → level_unassigned_from cs k (level_count cs - k) ≡ level_unassigned_from cs (k + 1) (level_count cs - (k + 1))
level_passed cs k h e =
    let r = left_some (level_count cs) k h in
    let one : k + 1 ≡ suc k = omega arith in
    ap (level_unassigned_from cs k) r.1 ∙ none_or (is_some (level_value cs k)) _ e
    ∙ ap (λ j. level_unassigned_from cs j r.0) (sym one) ∙ ap (level_unassigned_from cs (k + 1)) (sym r.2)

pub level_found : (cs : Changes) (k : ℕ) → k < level_count cs → level_value cs k ≡ None → level_unassigned_from cs k (level_count cs - k) ≡ true
level_found cs k h e =
    let r = left_some (level_count cs) k h in
    ap (level_unassigned_from cs k) r.1 ∙ ap (λ o. not (is_some o) || level_unassigned_from cs (suc k) r.0) e

-- ---- Values that speak of other locals

escape_none : (cs : Changes) (n k : ℕ) (ms : List Metavariable) → ms ≡ [] → escaping_from cs n k ms ≡ None
escape_none cs n k [] e = refl
escape_none cs n k (m ∷ ms) e = cc

pub escape_ended : (cs : Changes) (n k : ℕ) → length (metavariables cs) ≤ k → escaping_from cs n k (drop k (metavariables cs)) ≡ None
escape_ended cs n k h = escape_none cs n k _ (at_end k (metavariables cs) h)

taken : (b c : Bool) (x y : Option ℕ) → b ≡ c → (if b then x else y) ≡ (if c then x else y)
taken b c x y e = ap (λ d. if d then x else y) e

pub escape_passed : (cs : Changes) (n k : ℕ) → k < length (metavariables cs)
    → escapes_by cs n k (option_map (λ m. m.locals) (slice_get (metavariables cs) k)) ≡ false
    → escaping_from cs n k (drop k (metavariables cs)) ≡ escaping_from cs n (k + 1) (drop (k + 1) (metavariables cs))
escape_passed cs n k h e =
    let r = at_place k (metavariables cs) h in
    let one : k + 1 ≡ suc k = omega arith in
    ap (escaping_from cs n k) r.rest
    ∙ taken _ false _ _ (sym (ap (λ o. escapes_by cs n k (option_map (λ m. m.locals) o)) r.there) ∙ e)
    ∙ ap (λ j. escaping_from cs n j (drop j (metavariables cs))) (sym one)

pub escape_found : (cs : Changes) (n k : ℕ) → k < length (metavariables cs)
    → escapes_by cs n k (option_map (λ m. m.locals) (slice_get (metavariables cs) k)) ≡ true
    → escaping_from cs n k (drop k (metavariables cs)) ≡ option_map (λ m. m.at) (slice_get (metavariables cs) k)
escape_found cs n k h e =
    let r = at_place k (metavariables cs) h in
    ap (escaping_from cs n k) r.rest
    ∙ taken _ true _ _ (sym (ap (λ o. escapes_by cs n k (option_map (λ m. m.locals) o)) r.there) ∙ e)
    ∙ sym (ap (option_map (λ m. m.at)) r.there)
