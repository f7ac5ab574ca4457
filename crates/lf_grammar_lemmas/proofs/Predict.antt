-- The machine gives the tree of each derivation, and nothing else.
use Rattle.std.proofs.Common.{◌≡◌, List, [], ◌∷◌, ◌++◌, Option, Some, None, refl, ap, ◌∙◌}
use Rattle.lf_syntax.specs.Predictive.{Takes, join, Production, Grammar, Quiet, Reads, nothing, left_out, taken, tree}
use Rattle.lf_grammar_lemmas.specs.Machine.{Stack, step, end, Outcome, Done, Stuck, ended, run}

abbrev then : {R : Type 0} (g : Grammar) (t : g.T) (ts : List g.T) → Option (Stack g R) → Outcome g.T R
then g t ts o = elim o [ None ↦ Stuck (t ∷ ts) | Some s ↦ run g ts s.symbols s.gives ]

-- A symbol that is left out makes no difference.
skip_end : {R : Type 0} (g : Grammar) (x : g.S) (xs : List g.S) (k : Takes g.Tree (x ∷ xs) R) (v : g.Tree x) → g.without x ≡ Some v
    → end g (x ∷ xs) k ≡ end g xs (k v)
skip_end {R} g x xs k v e = ap (λ (o : Option (g.Tree x)). elim o as (λ _. Option R) [ None ↦ None | Some w ↦ end g xs (k w) ]) e

skip_step : {R : Type 0} (g : Grammar) (x : g.S) (xs : List g.S) (k : Takes g.Tree (x ∷ xs) R) (v : g.Tree x) (t : g.T) →
    g.without x ≡ Some v → g.begin x t ≡ None → step g (x ∷ xs) k t ≡ step g xs (k v) t
skip_step {R} g x xs k v t e q =
    ap (λ (o : Option (Production g.S g.Tree (g.Tree x))). elim o as (λ _. Option (Stack g R)) [
      | Some p ↦ Some (record { symbols = p.body ++ xs; gives = join g.Tree R p.body xs p.build k })
      | None ↦ elim (g.without x) [ None ↦ None | Some w ↦ step g xs (k w) t ]
    ]) q ∙
    ap (λ (o : Option (g.Tree x)). elim o as (λ _. Option (Stack g R)) [ None ↦ None | Some w ↦ step g xs (k w) t ]) e

pub skip : {R : Type 0} (g : Grammar) (x : g.S) (xs : List g.S) (k : Takes g.Tree (x ∷ xs) R) (v : g.Tree x) → g.without x ≡ Some v →
    (ts : List g.T) → Quiet g x ts → run g ts (x ∷ xs) k ≡ run g ts xs (k v)
skip g x xs k v e [] q = ap ended (skip_end g x xs k v e)
skip g x xs k v e (t ∷ ts) q = ap (then g t ts) (skip_step g x xs k v t e q)

pub take_step : {R : Type 0} (g : Grammar) (x : g.S) (xs : List g.S) (k : Takes g.Tree (x ∷ xs) R) (t : g.T) (p : Production g.S g.Tree (g.Tree x)) →
    g.begin x t ≡ Some p → step g (x ∷ xs) k t ≡ Some (record { symbols = p.body ++ xs; gives = join g.Tree R p.body xs p.build k })
take_step {R} g x xs k t p e =
    ap (λ (o : Option (Production g.S g.Tree (g.Tree x))). elim o as (λ _. Option (Stack g R)) [
      | Some q ↦ Some (record { symbols = q.body ++ xs; gives = join g.Tree R q.body xs q.build k })
      | None ↦ elim (g.without x) [ None ↦ None | Some w ↦ step g xs (k w) t ]
    ]) e

-- What a derivation reads, the machine reads, whatever is below on the stack.
pub complete : (g : Grammar) {A R : Type 0} {xs : List g.S} {ts rest : List g.T} (d : Reads g xs ts rest) (f : Takes g.Tree xs A) (ys : List g.S)
    (k : A → Takes g.Tree ys R) →
    run g ts (xs ++ ys) (join g.Tree R xs ys f k) ≡ run g rest ys (k (tree d f))
complete g nothing f ys k = refl
complete g {R} (left_out {x} {xs} {ts} v e q d) f ys k =
    skip g x (xs ++ ys) (λ w. join g.Tree R xs ys (f w) k) v e ts q ∙ complete g d (f v) ys k
complete g {R} (taken {x} {xs} {ts} {us} t p e b d) f ys k =
    ap (then g t ts) (take_step g x (xs ++ ys) (λ w. join g.Tree R xs ys (f w) k) t p e) ∙
    complete g b p.build (xs ++ ys) (λ w. join g.Tree R xs ys (f w) k) ∙
    complete g d (f (tree b p.build)) ys k

-- A derivation of two lists of symbols is one of each.
pub record Split (g : Grammar) {A R : Type 0} (xs ys : List g.S) (ts rest : List g.T) (f : Takes g.Tree xs A) (k : A → Takes g.Tree ys R) (r : R) : Type 0 where
  pub mid : List g.T
  pub first : Reads g xs ts mid
  pub second : Reads g ys mid rest
  pub same : tree second (k (tree first f)) ≡ r

pub split : {A R : Type 0} (g : Grammar) (xs : List g.S) {ys : List g.S} {ts rest : List g.T} (d : Reads g (xs ++ ys) ts rest) (f : Takes g.Tree xs A)
    (k : A → Takes g.Tree ys R) →
    Split g xs ys ts rest f k (tree d (join g.Tree R xs ys f k))
split g [] {ts} d f k = record { mid = ts; first = nothing; second = d; same = refl }
split g (x ∷ xs) (left_out v e q d) f k =
    let s = split g xs d (f v) k in
    record { mid = s.mid; first = left_out v e q s.first; second = s.second; same = s.same }
split g (x ∷ xs) (taken t p e b d) f k =
    let s = split g xs d (f (tree b p.build)) k in
    record { mid = s.mid; first = taken t p e b s.first; second = s.second; same = s.same }

-- A derivation that gives r.
pub record Gives {R : Type 0} (g : Grammar) (xs : List g.S) (k : Takes g.Tree xs R) (ts : List g.T) (r : R) : Type 0 where
  pub reads : Reads g xs ts []
  pub same : tree reads k ≡ r

sound_end : {R : Type 0} (g : Grammar) (xs : List g.S) (k : Takes g.Tree xs R) (r : R) → ended {T = g.T} (end g xs k) ≡ Done r → Gives g xs k [] r
sound_end g [] k r e = record { reads = nothing; same = cc }
sound_end {R} g (x ∷ xs) k r e = go (g.without x) refl e (λ v. sound_end g xs (k v) r)
  where
    go : (o : Option (g.Tree x)) → g.without x ≡ o →
        ended {T = g.T} (elim o as (λ _. Option R) [ None ↦ None | Some v ↦ end g xs (k v) ]) ≡ Done r →
        ((v : g.Tree x) → ended {T = g.T} (end g xs (k v)) ≡ Done r → Gives g xs (k v) [] r) → Gives g (x ∷ xs) k [] r
    go None h e ih = cc
    go (Some v) h e ih = let d = ih v e in record { reads = left_out v h tt d.reads; same = d.same }

-- By a step the first symbol that isn't left out takes the token.
sound_step : {R : Type 0} (g : Grammar) (xs : List g.S) (k : Takes g.Tree xs R) (t : g.T) (ts : List g.T) (r : R) →
    ((ys : List g.S) (j : Takes g.Tree ys R) → run g ts ys j ≡ Done r → Gives g ys j ts r) →
    then g t ts (step g xs k t) ≡ Done r → Gives g xs k (t ∷ ts) r
sound_step g [] k t ts r ih e = cc
sound_step {R} g (x ∷ xs) k t ts r ih e = go (g.begin x t) refl e
    (λ v. sound_step g xs (k v) t ts r ih)
  where
    skips : g.begin x t ≡ None → (o : Option (g.Tree x)) → g.without x ≡ o →
        then g t ts (elim o as (λ _. Option (Stack g R)) [ None ↦ None | Some v ↦ step g xs (k v) t ]) ≡ Done r →
        ((v : g.Tree x) → then g t ts (step g xs (k v) t) ≡ Done r → Gives g xs (k v) (t ∷ ts) r) → Gives g (x ∷ xs) k (t ∷ ts) r
    skips q None h e ihs = cc
    skips q (Some v) h e ihs = let d = ihs v e in record { reads = left_out v h q d.reads; same = d.same }

    go : (o : Option (Production g.S g.Tree (g.Tree x))) → g.begin x t ≡ o →
        then g t ts (elim o as (λ _. Option (Stack g R)) [
          | Some p ↦ Some (record { symbols = p.body ++ xs; gives = join g.Tree R p.body xs p.build k })
          | None ↦ elim (g.without x) [ None ↦ None | Some v ↦ step g xs (k v) t ]
        ]) ≡ Done r →
        ((v : g.Tree x) → then g t ts (step g xs (k v) t) ≡ Done r → Gives g xs (k v) (t ∷ ts) r) → Gives g (x ∷ xs) k (t ∷ ts) r
    go (Some p) h e ihs =
        let d = ih (p.body ++ xs) (join g.Tree R p.body xs p.build k) e in
        let s = split g p.body d.reads p.build k in
        record { reads = taken t p h s.first s.second; same = s.same ∙ d.same }
    go None h e ihs = skips h (g.without x) refl e ihs

pub sound : {R : Type 0} (g : Grammar) (ts : List g.T) (xs : List g.S) (k : Takes g.Tree xs R) (r : R) → run g ts xs k ≡ Done r → Gives g xs k ts r
sound g [] xs k r e = sound_end g xs k r e
sound g (t ∷ ts) xs k r e = sound_step g xs k t ts r (λ ys j. sound g ts ys j r) e
