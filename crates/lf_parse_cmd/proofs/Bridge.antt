-- The machine that the reader of terms mirrors, which may leave tokens, and the machine of the grammar's lemmas go the same way.
use Rattle.std.proofs.Common.{◌≡◌, List, [], ◌∷◌, ◌++◌, Option, None, Some, Ok, Err, length, refl}
use Rattle.lf_syntax.specs.Predictive.{Takes, join, Production, Grammar}
use Rattle.lf_grammar_lemmas.specs.Machine.{Stack, step, end, Outcome, Done, Stuck, Short, ended, run}
use Rattle.lf_parse_term.specs.Machine.{Reading, Move, goes, ends, stops, move, finish, all}
use Rattle.lf_parse_term.specs.declared.halt.Halt.TheVariants as halt

-- A tree with these tokens left.
abbrev pub left : {T R : Type 0} → R → List T → Outcome T R
left r [] = Done r
left r (t ∷ more) = Stuck (t ∷ more)

-- No tree, and these tokens are left.
abbrev pub stopped : {T R : Type 0} → List T → Outcome T R
stopped [] = Short
stopped (t ∷ more) = Stuck (t ∷ more)

abbrev pub Agrees : {T R : Type 0} → Reading T R → Outcome T R → Type 0
Agrees (Ok x) o = o ≡ left x.0 x.1
Agrees {T} (Err (halt.Stuck n)) o = (last : List T) × (length last ≡ n) × (o ≡ stopped last)
Agrees (Err halt.NoMemory) o = ⊥

agree_end : (R : Type 0) (g : Grammar) (xs : List g.S) (k : Takes g.Tree xs R) → Agrees (finish g xs k) (ended {T = g.T} (end g xs k))
agree_end R g [] k = refl
agree_end R g (x ∷ xs) k = go (g.without x) (λ v. agree_end R g xs (k v))
  where
    go : (o : Option (g.Tree x)) → ((v : g.Tree x) → Agrees (finish g xs (k v)) (ended {T = g.T} (end g xs (k v)))) →
        Agrees (elim o as (λ _. Reading g.T R) [ None ↦ Err (halt.Stuck 0) | Some v ↦ finish g xs (k v) ])
        (ended {T = g.T} (elim o as (λ _. Option R) [ None ↦ None | Some v ↦ end g xs (k v) ]))
    go None ih = ([], refl, refl)
    go (Some v) ih = ih v

abbrev moved : {R : Type 0} (g : Grammar) → g.T → List g.T → Move g R → Reading g.T R
moved g t ts m = elim m [
  | goes ys j ↦ all g ts ys j
  | ends r ↦ Ok (r, t ∷ ts)
  | stops ↦ Err (halt.Stuck (length (t ∷ ts)))
]

abbrev stepped : {R : Type 0} (g : Grammar) → g.T → List g.T → Option (Stack g R) → Outcome g.T R
stepped g t ts o = elim o [ None ↦ Stuck (t ∷ ts) | Some s ↦ run g ts s.symbols s.gives ]

agree_step : (R : Type 0) (g : Grammar) (xs : List g.S) (k : Takes g.Tree xs R) (t : g.T) (ts : List g.T) →
    ((ys : List g.S) (j : Takes g.Tree ys R) → Agrees (all g ts ys j) (run g ts ys j)) →
    Agrees (moved g t ts (move g xs k t)) (stepped g t ts (step g xs k t))
agree_step R g [] k t ts more = refl
agree_step R g (x ∷ xs) k t ts more = taken (g.begin x t) (λ v. agree_step R g xs (k v) t ts more)
  where
    skips : (o : Option (g.Tree x)) → ((v : g.Tree x) → Agrees (moved g t ts (move g xs (k v) t)) (stepped g t ts (step g xs (k v) t))) →
        Agrees (moved g t ts (elim o as (λ _. Move g R) [ None ↦ stops | Some v ↦ move g xs (k v) t ]))
        (stepped g t ts (elim o as (λ _. Option (Stack g R)) [ None ↦ None | Some v ↦ step g xs (k v) t ]))
    skips None ih = (t ∷ ts, refl, refl)
    skips (Some v) ih = ih v

    taken : (o : Option (Production g.S g.Tree (g.Tree x))) →
        ((v : g.Tree x) → Agrees (moved g t ts (move g xs (k v) t)) (stepped g t ts (step g xs (k v) t))) →
        Agrees (moved g t ts (elim o as (λ _. Move g R) [
          | Some p ↦ goes (p.body ++ xs) (join g.Tree R p.body xs p.build k)
          | None ↦ elim (g.without x) [ None ↦ stops | Some v ↦ move g xs (k v) t ]
        ]))
        (stepped g t ts (elim o as (λ _. Option (Stack g R)) [
          | Some p ↦ Some (record { symbols = p.body ++ xs; gives = join g.Tree R p.body xs p.build k })
          | None ↦ elim (g.without x) [ None ↦ None | Some v ↦ step g xs (k v) t ]
        ]))
    taken (Some p) ih = more (p.body ++ xs) (join g.Tree R p.body xs p.build k)
    taken None ih = skips (g.without x) ih

pub agree : (R : Type 0) (g : Grammar) (ts : List g.T) (xs : List g.S) (k : Takes g.Tree xs R) → Agrees (all g ts xs k) (run g ts xs k)
unfolding all
agree R g [] xs k = agree_end R g xs k
agree R g (t ∷ ts) xs k = agree_step R g xs k t ts (λ ys j. agree R g ts ys j)
