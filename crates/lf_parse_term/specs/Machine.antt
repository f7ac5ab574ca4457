-- What some symbols of a grammar of one token give, and what is left behind them.
use Rattle.std.specs.Prelude.{ℕ, List, [], ◌∷◌, ◌++◌, length, Option, None, Some, Result, Ok, Err}
use Rattle.lf_syntax.specs.Predictive.{Takes, Grammar, join}
use Rattle.lf_parse_term.specs.declared.halt.Halt.{Halt}
use Rattle.lf_parse_term.specs.declared.halt.Halt.TheVariants.{Stuck}

-- A tree, and the tokens behind it; or how many tokens are left from the first on that can't stand there.
abbrev pub Reading : Type 0 → Type 0 → Type 0
Reading T V = Result (V × List T) Halt

-- By a token the first symbol that isn't left out goes on, or all are left out, or it can't stand there.
pub data Move (g : Grammar) (R : Type 0) : Type 0 where
  goes : (xs : List g.S) → Takes g.Tree xs R → Move g R
  ends : R → Move g R
  stops : Move g R

abbrev pub move : {R : Type 0} (g : Grammar) (xs : List g.S) → Takes g.Tree xs R → g.T → Move g R
move g [] k t = ends k
move {R} g (x ∷ xs) k t = elim (g.begin x t) [
  | Some p ↦ goes (p.body ++ xs) (join g.Tree R p.body xs p.build k)
  | None ↦ elim (g.without x) [ None ↦ stops | Some v ↦ move g xs (k v) t ]
]

abbrev pub finish : {R : Type 0} (g : Grammar) (xs : List g.S) → Takes g.Tree xs R → Reading g.T R
finish g [] k = Ok (k, [])
finish g (x ∷ xs) k = elim (g.without x) [ None ↦ Err (Stuck 0) | Some v ↦ finish g xs (k v) ]

unfoldable pub all : {R : Type 0} (g : Grammar) → List g.T → (xs : List g.S) → Takes g.Tree xs R → Reading g.T R
all g [] xs k = finish g xs k
all g (t ∷ ts) xs k = elim (move g xs k t) [
  | goes ys j ↦ all g ts ys j
  | ends r ↦ Ok (r, t ∷ ts)
  | stops ↦ Err (Stuck (length (t ∷ ts)))
]
