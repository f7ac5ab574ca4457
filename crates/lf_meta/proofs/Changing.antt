-- What one change more, or less, does to what the changes tell.
use Rattle.std.proofs.Common.{
  ◌≡◌,
  ℕ,
  zero,
  suc,
  ◌+◌,
  ◌-◌,
  ◌<◌,
  ◌≤◌,
  Bool,
  true,
  false,
  List,
  [],
  ◌∷◌,
  ◌++◌,
  length,
  take,
  refl,
  sym,
  ap,
  subst,
  arith,
  append_assoc,
  ◌∙◌,
}
use Rattle.std.proofs.lemmas.List.{append-nil, length-append, take-append-le, take_all}
use Rattle.std.proofs.lemmas.Bool.Decides.{nat_tests}
use Rattle.std.specs.Prelude.{Option, Some, None, nat_eq, slice_set, if◌then◌else◌}
use Rattle.lf_core.specs.Term.{Universe, Term}
use Rattle.lf_elaboration.specs.declared.change.Change.{Change}
use Rattle.lf_elaboration.specs.declared.change.Change.TheVariants.{Made, LevelMade, Assigned, LevelAssigned}
use Rattle.lf_elaboration.specs.Metavariables.{Changes, metavariables, count, level_count, types_of, value, level_value}
use Rattle.lf_meta.specs.declared.made.Origin.{Origin}
use Rattle.lf_meta.proofs.Tables.{written}
use Rattle.lf_meta.specs.Kept.{stands_at, IsNew, AreNew, origins_in, IsKept}

-- ---- One more at the end

pub types_after : (cs : Changes) (c : Change) → types_of (cs ++ c ∷ []) ≡ types_of cs ++ types_of (c ∷ [])
types_after [] c = refl
types_after (Made A n p ∷ cs) c = ap (λ ts. A ∷ ts) (types_after cs c)
types_after (LevelMade ∷ cs) c = types_after cs c
types_after (Assigned m t ∷ cs) c = types_after cs c
types_after (LevelAssigned m l ∷ cs) c = types_after cs c

pub origins_after : (cs : Changes) (c : Change) → origins_in (cs ++ c ∷ []) ≡ origins_in cs ++ origins_in (c ∷ [])
origins_after [] c = refl
origins_after (Made A n p ∷ cs) c = ap (λ os. record { locals = n; at = p } ∷ os) (origins_after cs c)
origins_after (LevelMade ∷ cs) c = origins_after cs c
origins_after (Assigned m t ∷ cs) c = origins_after cs c
origins_after (LevelAssigned m l ∷ cs) c = origins_after cs c

pub count_after : (cs : Changes) (c : Change) → count (cs ++ c ∷ []) ≡ count cs + count (c ∷ [])
count_after [] c = omega arith
count_after (Made A n p ∷ cs) c = let h = count_after cs c in omega (arith, h)
count_after (LevelMade ∷ cs) c = count_after cs c
count_after (Assigned m t ∷ cs) c = count_after cs c
count_after (LevelAssigned m l ∷ cs) c = count_after cs c

pub level_count_after : (cs : Changes) (c : Change) → level_count (cs ++ c ∷ []) ≡ level_count cs + level_count (c ∷ [])
level_count_after [] c = omega arith
level_count_after (Made A n p ∷ cs) c = level_count_after cs c
level_count_after (LevelMade ∷ cs) c = let h = level_count_after cs c in omega (arith, h)
level_count_after (Assigned m t ∷ cs) c = level_count_after cs c
level_count_after (LevelAssigned m l ∷ cs) c = level_count_after cs c

-- The first of two that is something.
abbrev either : {A : Type 0} → Option A → Option A → Option A
either (Some x) o = Some x
either None o = o

either_none : {A : Type 0} (o : Option A) → either o None ≡ o
either_none (Some x) = refl
either_none None = refl

either_if : {A : Type 0} (b : Bool) (x : A) (o p : Option A) → (if b then Some x else either o p) ≡ either (if b then Some x else o) p
either_if true x o p = refl
either_if false x o p = refl

value_after : (cs : Changes) (c : Change) (m : ℕ) → value (cs ++ c ∷ []) m ≡ either (value cs m) (value (c ∷ []) m)
value_after [] c m = refl
value_after (Made A n p ∷ cs) c m = value_after cs c m
value_after (LevelMade ∷ cs) c m = value_after cs c m
value_after (Assigned k t ∷ cs) c m =
    ap (λ o. if nat_eq k m then Some t else o) (value_after cs c m) ∙ either_if (nat_eq k m) t (value cs m) (value (c ∷ []) m)
value_after (LevelAssigned k l ∷ cs) c m = value_after cs c m

level_value_after : (cs : Changes) (c : Change) (m : ℕ) → level_value (cs ++ c ∷ []) m ≡ either (level_value cs m) (level_value (c ∷ []) m)
level_value_after [] c m = refl
level_value_after (Made A n p ∷ cs) c m = level_value_after cs c m
level_value_after (LevelMade ∷ cs) c m = level_value_after cs c m
level_value_after (Assigned k t ∷ cs) c m = level_value_after cs c m
level_value_after (LevelAssigned k l ∷ cs) c m =
    ap (λ o. if nat_eq k m then Some l else o) (level_value_after cs c m) ∙ either_if (nat_eq k m) l (level_value cs m) (level_value (c ∷ []) m)

new_after : (before cs : Changes) (c : Change) → AreNew before cs → IsNew (before ++ cs) c → AreNew before (cs ++ c ∷ [])
new_after before [] c h k = (subst (λ b. IsNew b c) (append-nil before) k, tt)
new_after before (d ∷ cs) c h k = (h.0, new_after (before ++ d ∷ []) cs c h.1 (subst (λ b. IsNew b c) (sym (append_assoc before (d ∷ []) cs)) k))

new_before : (before cs : Changes) (c : Change) → AreNew before (cs ++ c ∷ []) → AreNew before cs × IsNew (before ++ cs) c
new_before before [] c h = (tt, subst (λ b. IsNew b c) (sym (append-nil before)) h.0)
new_before before (d ∷ cs) c h =
    let p = new_before (before ++ d ∷ []) cs c h.1 in
    ((h.0, p.0), subst (λ b. IsNew b c) (append_assoc before (d ∷ []) cs) p.1)

-- Where a number was unassigned, it is the one that a row is written for.
assigned_row : {A : Type 0} (b : Bool) (x : A) (o : Option A) → (b ≡ true → o ≡ None) → (if b then Some x else o) ≡ either o (if b then Some x else None)
assigned_row true x o h = sym (ap (λ p. either p (Some x)) (h refl))
assigned_row false x o h = sym (either_none o)

cleared_row : {A : Type 0} (b : Bool) (x : A) (o : Option A) → (b ≡ true → o ≡ None) → (if b then None else either o (if b then Some x else None)) ≡ o
cleared_row true x o h = sym (h refl)
cleared_row false x o h = either_none o

same_number : (m k : ℕ) → nat_eq m k ≡ true → m ≡ k
same_number m k h = grind (arith, nat_tests)

-- ---- The tables after a change

pub with_made : {cs : Changes} {types : List Term} {origins : List Origin} {values : List (Option Term)} {levels : ℕ}
    {level_values : List (Option Universe)} (A : Term) (n p : ℕ) → IsKept cs types origins values levels level_values → count cs < 4294967295
    → IsKept (cs ++ Made A n p ∷ []) (types ++ A ∷ []) (origins ++ record { locals = n; at = p } ∷ []) values levels level_values
with_made {cs} A n p h few = record {
  types = ap (λ ts. ts ++ A ∷ []) h.types ∙ sym (types_after cs (Made A n p));
  origins = ap (λ os. os ++ record { locals = n; at = p } ∷ []) h.origins ∙ sym (origins_after cs (Made A n p));
  values = λ m. h.values m ∙ sym (value_after cs (Made A n p) m ∙ either_none (value cs m));
  levels = let e = h.levels in let f = level_count_after cs (Made A n p) in omega (arith, e, f);
  level_values = λ m. h.level_values m ∙ sym (level_value_after cs (Made A n p) m ∙ either_none (level_value cs m));
  new = new_after [] cs (Made A n p) h.new tt;
  few = let e = count_after cs (Made A n p) in omega (arith, e, few);
}

pub with_level_made : {cs : Changes} {types : List Term} {origins : List Origin} {values : List (Option Term)} {levels : ℕ}
    {level_values : List (Option Universe)} → IsKept cs types origins values levels level_values
    → IsKept (cs ++ LevelMade ∷ []) types origins values (levels + 1) level_values
with_level_made {cs} h = record {
  types = h.types ∙ sym (types_after cs LevelMade ∙ append-nil (types_of cs));
  origins = h.origins ∙ sym (origins_after cs LevelMade ∙ append-nil (origins_in cs));
  values = λ m. h.values m ∙ sym (value_after cs LevelMade m ∙ either_none (value cs m));
  levels = let e = h.levels in let f = level_count_after cs LevelMade in omega (arith, e, f);
  level_values = λ m. h.level_values m ∙ sym (level_value_after cs LevelMade m ∙ either_none (level_value cs m));
  new = new_after [] cs LevelMade h.new tt;
  few = let e = count_after cs LevelMade in let f = h.few in omega (arith, e, f);
}

pub with_assigned : {cs : Changes} {types : List Term} {origins : List Origin} {values new : List (Option Term)} {levels : ℕ}
    {level_values : List (Option Universe)} (m : ℕ) (t : Term) → IsKept cs types origins values levels level_values → value cs m ≡ None
    → ((k : ℕ) → stands_at new k ≡ (if nat_eq m k then Some t else stands_at values k))
    → IsKept (cs ++ Assigned m t ∷ []) types origins new levels level_values
with_assigned {cs} m t h none w = record {
  types = h.types ∙ sym (types_after cs (Assigned m t) ∙ append-nil (types_of cs));
  origins = h.origins ∙ sym (origins_after cs (Assigned m t) ∙ append-nil (origins_in cs));
  values = λ k. w k ∙ ap (λ o. if nat_eq m k then Some t else o) (h.values k)
      ∙ assigned_row (nat_eq m k) t (value cs k) (λ e. ap (value cs) (sym (same_number m k e)) ∙ none)
      ∙ sym (value_after cs (Assigned m t) k);
  levels = let e = h.levels in let f = level_count_after cs (Assigned m t) in omega (arith, e, f);
  level_values = λ k. h.level_values k ∙ sym (level_value_after cs (Assigned m t) k ∙ either_none (level_value cs k));
  new = new_after [] cs (Assigned m t) h.new none;
  few = let e = count_after cs (Assigned m t) in let f = h.few in omega (arith, e, f);
}

pub with_level_assigned : {cs : Changes} {types : List Term} {origins : List Origin} {values : List (Option Term)} {levels : ℕ}
    {level_values new : List (Option Universe)} (m : ℕ) (l : Universe) → IsKept cs types origins values levels level_values → level_value cs m ≡ None
    → ((k : ℕ) → stands_at new k ≡ (if nat_eq m k then Some l else stands_at level_values k))
    → IsKept (cs ++ LevelAssigned m l ∷ []) types origins values levels new
with_level_assigned {cs} m l h none w = record {
  types = h.types ∙ sym (types_after cs (LevelAssigned m l) ∙ append-nil (types_of cs));
  origins = h.origins ∙ sym (origins_after cs (LevelAssigned m l) ∙ append-nil (origins_in cs));
  values = λ k. h.values k ∙ sym (value_after cs (LevelAssigned m l) k ∙ either_none (value cs k));
  levels = let e = h.levels in let f = level_count_after cs (LevelAssigned m l) in omega (arith, e, f);
  level_values = λ k. w k ∙ ap (λ o. if nat_eq m k then Some l else o) (h.level_values k)
      ∙ assigned_row (nat_eq m k) l (level_value cs k) (λ e. ap (level_value cs) (sym (same_number m k e)) ∙ none)
      ∙ sym (level_value_after cs (LevelAssigned m l) k);
  new = new_after [] cs (LevelAssigned m l) h.new none;
  few = let e = count_after cs (LevelAssigned m l) in let f = h.few in omega (arith, e, f);
}

-- ---- The tables before it

without_last : {A : Type 0} (xs ys : List A) (y : A) → ys ≡ xs ++ y ∷ [] → take (length ys - 1) ys ≡ xs
without_last xs ys y e =
    let n : length ys - 1 ≡ length xs = let f = ap length e in let g = length-append xs (y ∷ []) in omega (arith, f, g) in
    ap (λ k. take k ys) n ∙ ap (take (length xs)) e ∙ take-append-le (length xs) xs (y ∷ []) (omega arith) ∙ take_all (length xs) xs (omega arith)

pub before_made : {cs : Changes} {types : List Term} {origins : List Origin} {values : List (Option Term)} {levels : ℕ}
    {level_values : List (Option Universe)} (A : Term) (n p : ℕ)
    → IsKept (cs ++ Made A n p ∷ []) types origins values levels level_values
    → IsKept cs (take (length types - 1) types) (take (length origins - 1) origins) values levels level_values
before_made {cs} {types} {origins} A n p h = record {
  types = without_last (types_of cs) types A (h.types ∙ types_after cs (Made A n p));
  origins = without_last (origins_in cs) origins (record { locals = n; at = p }) (h.origins ∙ origins_after cs (Made A n p));
  values = λ m. h.values m ∙ value_after cs (Made A n p) m ∙ either_none (value cs m);
  levels = let e = h.levels in let f = level_count_after cs (Made A n p) in omega (arith, e, f);
  level_values = λ m. h.level_values m ∙ level_value_after cs (Made A n p) m ∙ either_none (level_value cs m);
  new = (new_before [] cs (Made A n p) h.new).0;
  few = let e = count_after cs (Made A n p) in let f = h.few in omega (arith, e, f);
}

pub before_level_made : {cs : Changes} {types : List Term} {origins : List Origin} {values : List (Option Term)} {levels : ℕ}
    {level_values : List (Option Universe)} → IsKept (cs ++ LevelMade ∷ []) types origins values levels level_values
    → IsKept cs types origins values (levels - 1) level_values
before_level_made {cs} h = record {
  types = h.types ∙ types_after cs LevelMade ∙ append-nil (types_of cs);
  origins = h.origins ∙ origins_after cs LevelMade ∙ append-nil (origins_in cs);
  values = λ m. h.values m ∙ value_after cs LevelMade m ∙ either_none (value cs m);
  levels = let e = h.levels in let f = level_count_after cs LevelMade in omega (arith, e, f);
  level_values = λ m. h.level_values m ∙ level_value_after cs LevelMade m ∙ either_none (level_value cs m);
  new = (new_before [] cs LevelMade h.new).0;
  few = let e = count_after cs LevelMade in let f = h.few in omega (arith, e, f);
}

pub some_level : (cs : Changes) (n : ℕ) → n ≡ level_count (cs ++ LevelMade ∷ []) → 0 < n
some_level cs n e = let f = level_count_after cs LevelMade in omega (arith, e, f)

pub before_assigned : {cs : Changes} {types : List Term} {origins : List Origin} {values new : List (Option Term)} {levels : ℕ}
    {level_values : List (Option Universe)} (m : ℕ) (t : Term) → IsKept (cs ++ Assigned m t ∷ []) types origins values levels level_values
    → ((k : ℕ) → stands_at new k ≡ (if nat_eq m k then None else stands_at values k))
    → IsKept cs types origins new levels level_values
before_assigned {cs} m t h w = record {
  types = h.types ∙ types_after cs (Assigned m t) ∙ append-nil (types_of cs);
  origins = h.origins ∙ origins_after cs (Assigned m t) ∙ append-nil (origins_in cs);
  values = λ k. w k ∙ ap (λ o. if nat_eq m k then None else o) (h.values k ∙ value_after cs (Assigned m t) k)
      ∙ cleared_row (nat_eq m k) t (value cs k)
      (λ e. ap (value cs) (sym (same_number m k e)) ∙ (new_before [] cs (Assigned m t) h.new).1);
  levels = let e = h.levels in let f = level_count_after cs (Assigned m t) in omega (arith, e, f);
  level_values = λ k. h.level_values k ∙ level_value_after cs (Assigned m t) k ∙ either_none (level_value cs k);
  new = (new_before [] cs (Assigned m t) h.new).0;
  few = let e = count_after cs (Assigned m t) in let f = h.few in omega (arith, e, f);
}

pub before_level_assigned : {cs : Changes} {types : List Term} {origins : List Origin} {values : List (Option Term)} {levels : ℕ}
    {level_values new : List (Option Universe)} (m : ℕ) (l : Universe) → IsKept (cs ++ LevelAssigned m l ∷ []) types origins values levels level_values
    → ((k : ℕ) → stands_at new k ≡ (if nat_eq m k then None else stands_at level_values k))
    → IsKept cs types origins values levels new
before_level_assigned {cs} m l h w = record {
  types = h.types ∙ types_after cs (LevelAssigned m l) ∙ append-nil (types_of cs);
  origins = h.origins ∙ origins_after cs (LevelAssigned m l) ∙ append-nil (origins_in cs);
  values = λ k. h.values k ∙ value_after cs (LevelAssigned m l) k ∙ either_none (value cs k);
  levels = let e = h.levels in let f = level_count_after cs (LevelAssigned m l) in omega (arith, e, f);
  level_values = λ k. w k ∙ ap (λ o. if nat_eq m k then None else o) (h.level_values k ∙ level_value_after cs (LevelAssigned m l) k)
      ∙ cleared_row (nat_eq m k) l (level_value cs k)
      (λ e. ap (level_value cs) (sym (same_number m k e)) ∙ (new_before [] cs (LevelAssigned m l) h.new).1);
  new = (new_before [] cs (LevelAssigned m l) h.new).0;
  few = let e = count_after cs (LevelAssigned m l) in let f = h.few in omega (arith, e, f);
}

-- A row that was pushed in vain is taken back.
pub pushed_back : {A : Type 0} (xs : List A) (x : A) → take (length (xs ++ x ∷ []) - 1) (xs ++ x ∷ []) ≡ xs
pushed_back xs x = without_last xs (xs ++ x ∷ []) x refl

-- There are as many types as metavariables.
pub as_long : (cs : Changes) → length (types_of cs) ≡ count cs
as_long [] = refl
as_long (Made A n p ∷ cs) = ap suc (as_long cs)
as_long (LevelMade ∷ cs) = as_long cs
as_long (Assigned m t ∷ cs) = as_long cs
as_long (LevelAssigned m l ∷ cs) = as_long cs

-- The same, where the lists are known by equations.
pub made_kept : (cs new : Changes) (ts ts' : List Term) (os os' : List Origin) {vs : List (Option Term)} {n : ℕ} {ls : List (Option Universe)}
    (A : Term) (locals place : ℕ) → IsKept cs ts os vs n ls → count cs < 4294967295 → new ≡ cs ++ Made A locals place ∷ [] → ts' ≡ ts ++ A ∷ []
    → os' ≡ os ++ record { locals = locals; at = place } ∷ [] → IsKept new ts' os' vs n ls
made_kept cs new ts ts' os os' {vs} {n} {ls} A locals place h few e f g =
    let k = with_made A locals place h few in
    subst (λ x. IsKept x ts' os' vs n ls) (sym e) (subst (λ x. IsKept (cs ++ Made A locals place ∷ []) x os' vs n ls) (sym f)
    (subst (λ x. IsKept (cs ++ Made A locals place ∷ []) (ts ++ A ∷ []) x vs n ls) (sym g) k))

pub level_made_kept : (cs new : Changes) {ts : List Term} {os : List Origin} {vs : List (Option Term)} (n n' : ℕ) {ls : List (Option Universe)}
    → IsKept cs ts os vs n ls → new ≡ cs ++ LevelMade ∷ [] → n' ≡ n + 1 → IsKept new ts os vs n' ls
level_made_kept cs new {ts} {os} {vs} n n' {ls} h e f =
    subst (λ x. IsKept x ts os vs n' ls) (sym e) (subst (λ x. IsKept (cs ++ LevelMade ∷ []) ts os vs x ls) (sym f) (with_level_made h))

pub assigned_kept : (cs new : Changes) {ts : List Term} {os : List Origin} (vs ws vs' : List (Option Term)) {n : ℕ} {ls : List (Option Universe)}
    (m : ℕ) (t s : Term) → IsKept cs ts os vs n ls → value cs m ≡ None → new ≡ cs ++ Assigned m t ∷ []
    → ((k : ℕ) → stands_at ws k ≡ stands_at vs k) → m < length ws → s ≡ t → vs' ≡ slice_set ws m (Some s) → IsKept new ts os vs' n ls
assigned_kept cs new {ts} {os} vs ws vs' {n} {ls} m t s h none e same lt p f =
    subst (λ x. IsKept x ts os vs' n ls) (sym e) (with_assigned m t h none
    (λ k. ap (λ x. stands_at x k) f ∙ written ws m k (Some s) lt ∙ (λ i. if nat_eq m k then Some (p i) else same k i)))

pub level_assigned_kept : (cs new : Changes) {ts : List Term} {os : List Origin} {vs : List (Option Term)} {n : ℕ}
    (ls ws ls' : List (Option Universe)) (m : ℕ) (l s : Universe) → IsKept cs ts os vs n ls → level_value cs m ≡ None
    → new ≡ cs ++ LevelAssigned m l ∷ [] → ((k : ℕ) → stands_at ws k ≡ stands_at ls k) → m < length ws → s ≡ l → ls' ≡ slice_set ws m (Some s)
    → IsKept new ts os vs n ls'
level_assigned_kept cs new {ts} {os} {vs} {n} ls ws ls' m l s h none e same lt p f =
    subst (λ x. IsKept x ts os vs n ls') (sym e) (with_level_assigned m l h none
    (λ k. ap (λ x. stands_at x k) f ∙ written ws m k (Some s) lt ∙ (λ i. if nat_eq m k then Some (p i) else same k i)))

-- The changes before the last, which is known by an equation.
before_it : {ts : List Term} {os : List Origin} {vs : List (Option Term)} {n : ℕ} {ls : List (Option Universe)} (cs old : Changes) (c d : Change)
    → IsKept old ts os vs n ls → old ≡ cs ++ c ∷ [] → c ≡ d → IsKept (cs ++ d ∷ []) ts os vs n ls
before_it {ts} {os} {vs} {n} {ls} cs old c d h e f = subst (λ x. IsKept x ts os vs n ls) (e ∙ ap (λ x. cs ++ x ∷ []) f) h

pub made_taken : {vs : List (Option Term)} {n : ℕ} {ls : List (Option Universe)} (cs old : Changes) (c : Change) (A : Term) (locals place : ℕ)
    (ts ts' : List Term) (os os' : List Origin) → IsKept old ts os vs n ls → old ≡ cs ++ c ∷ [] → c ≡ Made A locals place
    → ts' ≡ take (length ts - 1) ts → os' ≡ take (length os - 1) os → IsKept cs ts' os' vs n ls
made_taken {vs} {n} {ls} cs old c A locals place ts ts' os os' h e f g i =
    subst (λ x. IsKept cs x os' vs n ls) (sym g) (subst (λ x. IsKept cs (take (length ts - 1) ts) x vs n ls) (sym i)
    (before_made A locals place (before_it cs old c (Made A locals place) h e f)))

pub level_made_taken : {ts : List Term} {os : List Origin} {vs : List (Option Term)} {n : ℕ} {ls : List (Option Universe)} (cs old : Changes) (c : Change)
    → IsKept old ts os vs n ls → old ≡ cs ++ c ∷ [] → c ≡ LevelMade → IsKept cs ts os vs (n - 1) ls
level_made_taken cs old c h e f = before_level_made (before_it cs old c LevelMade h e f)

pub assigned_taken : {ts : List Term} {os : List Origin} {vs vs' : List (Option Term)} {n : ℕ} {ls : List (Option Universe)} (cs old : Changes)
    (c : Change) (m : ℕ) (t : Term) → IsKept old ts os vs n ls → old ≡ cs ++ c ∷ [] → c ≡ Assigned m t
    → ((k : ℕ) → stands_at vs' k ≡ (if nat_eq m k then None else stands_at vs k)) → IsKept cs ts os vs' n ls
assigned_taken cs old c m t h e f w = before_assigned m t (before_it cs old c (Assigned m t) h e f) w

pub level_assigned_taken : {ts : List Term} {os : List Origin} {vs : List (Option Term)} {n : ℕ} {ls ls' : List (Option Universe)} (cs old : Changes)
    (c : Change) (m : ℕ) (l : Universe) → IsKept old ts os vs n ls → old ≡ cs ++ c ∷ [] → c ≡ LevelAssigned m l
    → ((k : ℕ) → stands_at ls' k ≡ (if nat_eq m k then None else stands_at ls k)) → IsKept cs ts os vs n ls'
level_assigned_taken cs old c m l h e f w = before_level_assigned m l (before_it cs old c (LevelAssigned m l) h e f) w
