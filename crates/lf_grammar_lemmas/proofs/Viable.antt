-- Where each stack can be finished, the machine is stuck exactly at the first token that doesn't belong.
use Rattle.std.proofs.Common.{◌≡◌, List, [], ◌∷◌, ◌++◌, Option, Some, None, refl, sym, ap, ◌∙◌, append_assoc}
use Rattle.lf_syntax.specs.Predictive.{Takes, join, Production, Grammar, Reads, nothing, left_out, taken, tree, Derives, Begins, BadAt, EndsEarly}
use Rattle.lf_grammar_lemmas.specs.Machine.{Stack, step, end, Outcome, Done, Stuck, Short, ended, run}
use Rattle.lf_grammar_lemmas.proofs.Predict.{complete, skip, take_step, sound, Gives}

-- Stacks that can be finished, and stay so.
pub record Viable (g : Grammar) : Type 1 where
  pub Good : List g.S → Type 0
  pub below : (x : g.S) (xs : List g.S) → Good (x ∷ xs) → Good xs
  pub push : (x : g.S) (xs : List g.S) (t : g.T) (p : Production g.S g.Tree (g.Tree x)) → Good (x ∷ xs) → g.begin x t ≡ Some p → Good (p.body ++ xs)
  pub closes : (xs : List g.S) → Good xs → (more : List g.T) × Reads g xs more []

abbrev then : {R : Type 0} (g : Grammar) (t : g.T) (ts : List g.T) → Option (Stack g R) → Outcome g.T R
then g t ts o = elim o [ None ↦ Stuck (t ∷ ts) | Some s ↦ run g ts s.symbols s.gives ]

abbrev Fine : (g : Grammar) (v : Viable g) (R : Type 0) → Option (Stack g R) → Type 0
Fine g v R None = Unit {0}
Fine g v R (Some s) = v.Good s.symbols

step_fine : (R : Type 0) (g : Grammar) (v : Viable g) (xs : List g.S) (k : Takes g.Tree xs R) (t : g.T) → v.Good xs → Fine g v R (step g xs k t)
step_fine R g v [] k t h = tt
step_fine R g v (x ∷ xs) k t h = go (g.begin x t) refl (λ w. step_fine R g v xs (k w) t (v.below x xs h))
  where
    skips : (o : Option (g.Tree x)) → ((w : g.Tree x) → Fine g v R (step g xs (k w) t))
        → Fine g v R (elim o as (λ _. Option (Stack g R)) [ None ↦ None | Some w ↦ step g xs (k w) t ])
    skips None ih = tt
    skips (Some w) ih = ih w

    go : (o : Option (Production g.S g.Tree (g.Tree x))) → g.begin x t ≡ o → ((w : g.Tree x) → Fine g v R (step g xs (k w) t)) →
        Fine g v R (elim o as (λ _. Option (Stack g R)) [
          | Some p ↦ Some (record { symbols = p.body ++ xs; gives = join g.Tree R p.body xs p.build k })
          | None ↦ elim (g.without x) [ None ↦ None | Some w ↦ step g xs (k w) t ]
        ])
    go (Some p) e ih = v.push x xs t p h e
    go None e ih = skips (g.without x) ih

-- Where the machine comes to by these tokens, whatever follows.
pub record Reaches (R : Type 0) (g : Grammar) (v : Viable g) (xs : List g.S) (k : Takes g.Tree xs R) (ts : List g.T) : Type 0 where
  pub stack : Stack g R
  pub good : v.Good stack.symbols
  pub reach : (us : List g.T) → run g (ts ++ us) xs k ≡ run g us stack.symbols stack.gives

abbrev more_reached : (R : Type 0) (g : Grammar) (v : Viable g) (xs : List g.S) (k : Takes g.Tree xs R) (t : g.T) (ts : List g.T) (s : Stack g R)
    → step g xs k t ≡ Some s →
    Reaches R g v s.symbols s.gives ts → Reaches R g v xs k (t ∷ ts)
more_reached R g v xs k t ts s e r = record {
  stack = r.stack;
  good = r.good;
  reach = λ us. ap (then g t (ts ++ us)) e ∙ r.reach us;
}

pub record StuckAt (R : Type 0) (g : Grammar) (v : Viable g) (xs : List g.S) (k : Takes g.Tree xs R) (ts last : List g.T) : Type 0 where
  pub before : List g.T
  pub bad : g.T
  pub more : List g.T
  pub place : last ≡ bad ∷ more
  pub tokens : ts ≡ before ++ last
  pub reached : Reaches R g v xs k before
  pub stuck : step g reached.stack.symbols reached.stack.gives bad ≡ None

stuck_step : (R : Type 0) (g : Grammar) (v : Viable g) (xs : List g.S) (k : Takes g.Tree xs R) (t : g.T) (ts last : List g.T) (o : Option (Stack g R)) →
    v.Good xs → Fine g v R o → step g xs k t ≡ o → then g t ts o ≡ Stuck last →
    ((ys : List g.S) (j : Takes g.Tree ys R) → v.Good ys → run g ts ys j ≡ Stuck last → StuckAt R g v ys j ts last) → StuckAt R g v xs k (t ∷ ts) last
stuck_step R g v xs k t ts last None h f e q ih = record {
  before = [];
  bad = t;
  more = ts;
  place = cc;
  tokens = cc;
  reached = record { stack = record { symbols = xs; gives = k }; good = h; reach = λ us. refl };
  stuck = e;
}
stuck_step R g v xs k t ts last (Some s) h f e q ih =
    let r : StuckAt R g v s.symbols s.gives ts last = ih s.symbols s.gives f q in
    record {
      before = t ∷ r.before;
      bad = r.bad;
      more = r.more;
      place = r.place;
      tokens = ap (λ (us : List g.T). t ∷ us) r.tokens;
      reached = more_reached R g v xs k t r.before s e r.reached;
      stuck = r.stuck;
    }

not_stuck : {T R : Type 0} (o : Option R) (last : List T) → ended o ≡ Stuck last → ⊥
not_stuck None last e = cc
not_stuck (Some r) last e = cc

stuck_at : (R : Type 0) (g : Grammar) (v : Viable g) (ts : List g.T) (xs : List g.S) (k : Takes g.Tree xs R) (last : List g.T) → v.Good xs
    → run g ts xs k ≡ Stuck last → StuckAt R g v xs k ts last
stuck_at R g v [] xs k last h e = absurd (not_stuck (end g xs k) last e)
stuck_at R g v (t ∷ ts) xs k last h e =
    stuck_step R g v xs k t ts last (step g xs k t) h (step_fine R g v xs k t h) refl e (λ ys j. stuck_at R g v ts ys j last)

short_step : (R : Type 0) (g : Grammar) (v : Viable g) (xs : List g.S) (k : Takes g.Tree xs R) (t : g.T) (ts : List g.T) (o : Option (Stack g R)) →
    Fine g v R o → step g xs k t ≡ o → then g t ts o ≡ Short →
    ((ys : List g.S) (j : Takes g.Tree ys R) → v.Good ys → run g ts ys j ≡ Short → Reaches R g v ys j ts) → Reaches R g v xs k (t ∷ ts)
short_step R g v xs k t ts None f e q ih = cc
short_step R g v xs k t ts (Some s) f e q ih = more_reached R g v xs k t ts s e (ih s.symbols s.gives f q)

short_reaches : (R : Type 0) (g : Grammar) (v : Viable g) (ts : List g.T) (xs : List g.S) (k : Takes g.Tree xs R) → v.Good xs → run g ts xs k ≡ Short
    → Reaches R g v xs k ts
short_reaches R g v [] xs k h e = record { stack = record { symbols = xs; gives = k }; good = h; reach = λ us. refl }
short_reaches R g v (t ∷ ts) xs k h e =
    short_step R g v xs k t ts (step g xs k t) (step_fine R g v xs k t h) refl e (λ ys j. short_reaches R g v ts ys j)

-- The machine on one symbol gives its tree.
abbrev pub outcome : (g : Grammar) (x : g.S) → List g.T → Outcome g.T (g.Tree x)
outcome g x ts = run g ts (x ∷ []) (λ v. v)

pub done : (g : Grammar) (x : g.S) (ts : List g.T) (d : Reads g (x ∷ []) ts []) → outcome g x ts ≡ Done (tree d (λ v. v))
done g x ts d = complete g d (λ v. v) [] (λ v. v)

pub derives : (g : Grammar) (x : g.S) (ts : List g.T) (r : g.Tree x) → outcome g x ts ≡ Done r → Derives g x ts r
derives g x ts r e = let d = sound g ts (x ∷ []) (λ v. v) r e in record { reads = d.reads; same = d.same }

complete_all : (R : Type 0) (g : Grammar) {xs : List g.S} {ts : List g.T} (d : Reads g xs ts []) (k : Takes g.Tree xs R) → run g ts xs k ≡ Done (tree d k)
complete_all R g nothing k = refl
complete_all R g (left_out {x} {xs} {ts} v e q d) k = skip g x xs k v e ts q ∙ complete_all R g d (k v)
complete_all R g (taken {x} {xs} {ts} t p e b d) k =
    ap (then g t ts) (take_step g x xs k t p e) ∙ complete g b p.build xs k ∙ complete_all R g d (k (tree b p.build))

begins : (g : Grammar) (v : Viable g) (x : g.S) (ts : List g.T) → Reaches (g.Tree x) g v (x ∷ []) (λ w. w) ts → Begins g x ts
begins g v x ts r =
    let c = v.closes r.stack.symbols r.good in
    let e : run g c.0 r.stack.symbols r.stack.gives ≡ Done (tree c.1 r.stack.gives) = complete_all (g.Tree x) g c.1 r.stack.gives in
    let d : Gives g (x ∷ []) (λ w. w) (ts ++ c.0) (tree c.1 r.stack.gives) = sound g (ts ++ c.0) (x ∷ []) (λ w. w) (tree c.1 r.stack.gives) (r.reach c.0 ∙ e) in
    record { more = c.0; reads = d.reads }

done_not_stuck : {T R : Type 0} (r : R) (last : List T) → Done r ≡ Stuck last → ⊥
done_not_stuck r last e = cc

done_not_short : {T R : Type 0} (r : R) → ◌≡◌ {A = Outcome T R} (Done r) Short → ⊥
done_not_short r e = cc

never_begins : (g : Grammar) (v : Viable g) (x : g.S) (before : List g.T) (bad : g.T) (r : Reaches (g.Tree x) g v (x ∷ []) (λ w. w) before) →
    step g r.stack.symbols r.stack.gives bad ≡ None → Begins g x (before ++ (bad ∷ [])) → ⊥
never_begins g v x before bad r e b =
    done_not_stuck (tree b.reads (λ w. w)) (bad ∷ b.more)
    (sym (done g x ((before ++ (bad ∷ [])) ++ b.more) b.reads) ∙ ap (λ (us : List g.T). outcome g x us) (append_assoc before (bad ∷ []) b.more) ∙
    r.reach (bad ∷ b.more) ∙ ap (then g bad b.more) e)

pub bad_at : (g : Grammar) (v : Viable g) (x : g.S) (ts last : List g.T) → v.Good (x ∷ []) → outcome g x ts ≡ Stuck last → BadAt g x ts last
bad_at g v x ts last h e =
    let r : StuckAt (g.Tree x) g v (x ∷ []) (λ w. w) ts last = stuck_at (g.Tree x) g v ts (x ∷ []) (λ w. w) last h e in
    record {
      before = r.before;
      bad = r.bad;
      more = r.more;
      place = r.place;
      tokens = r.tokens;
      begins = begins g v x r.before r.reached;
      ends = never_begins g v x r.before r.bad r.reached r.stuck;
    }

pub ends_early : (g : Grammar) (v : Viable g) (x : g.S) (ts : List g.T) → v.Good (x ∷ []) → outcome g x ts ≡ Short → EndsEarly g x ts
ends_early g v x ts h e = record {
  begins = begins g v x ts (short_reaches (g.Tree x) g v ts (x ∷ []) (λ w. w) h e);
  none = λ d. done_not_short (tree d (λ w. w)) (sym (done g x ts d) ∙ e);
}

-- A list of tokens has one tree at most.
pub one_tree : (g : Grammar) (x : g.S) (ts : List g.T) (r s : g.Tree x) → Derives g x ts r → Derives g x ts s → r ≡ s
one_tree g x ts r s p q =
    let e : ◌≡◌ {A = Outcome g.T (g.Tree x)} (Done (tree p.reads (λ w. w))) (Done (tree q.reads (λ w. w))) = sym (done g x ts p.reads) ∙ done g x ts q.reads in
    sym p.same ∙ same_done (tree p.reads (λ w. w)) (tree q.reads (λ w. w)) e ∙ q.same
  where
    same_done : (a b : g.Tree x) → ◌≡◌ {A = Outcome g.T (g.Tree x)} (Done a) (Done b) → a ≡ b
    same_done a b e = cc
