-- The predictive machine: a stack of symbols, and what their trees give. It takes one token a step.
use Rattle.std.specs.Prelude.{List, [], ◌∷◌, ◌++◌, Option, None, Some}
use Rattle.lf_syntax.specs.Predictive.{Takes, Grammar, join}

pub record Stack (g : Grammar) (R : Type 0) : Type 0 where
  pub symbols : List g.S
  pub gives : Takes g.Tree symbols R

-- Where the machine goes by a token, if it can: the first symbol takes it, or is left out.
abbrev pub step : {R : Type 0} (g : Grammar) (xs : List g.S) → Takes g.Tree xs R → g.T → Option (Stack g R)
step {R} g [] k t = None
step {R} g (x ∷ xs) k t = elim (g.begin x t) [
  | Some p ↦ Some (record { symbols = p.body ++ xs; gives = join g.Tree R p.body xs p.build k })
  | None ↦ elim (g.without x) [ None ↦ None | Some v ↦ step g xs (k v) t ]
]

-- What the trees give, if the tokens end here.
abbrev pub end : {R : Type 0} (g : Grammar) (xs : List g.S) → Takes g.Tree xs R → Option R
end g [] k = Some k
end g (x ∷ xs) k = elim (g.without x) [ None ↦ None | Some v ↦ end g xs (k v) ]

-- What the tokens give; or the tokens from the first that can't go on; or an end that comes too early.
pub data Outcome (T R : Type 0) : Type 0 where
  Done : R → Outcome T R
  Stuck : List T → Outcome T R
  Short : Outcome T R

abbrev pub ended : {T R : Type 0} → Option R → Outcome T R
ended (Some r) = Done r
ended None = Short

abbrev pub run : {R : Type 0} (g : Grammar) → List g.T → (xs : List g.S) → Takes g.Tree xs R → Outcome g.T R
run g [] xs k = ended (end g xs k)
run g (t ∷ ts) xs k = elim (step g xs k t) [ None ↦ Stuck (t ∷ ts) | Some s ↦ run g ts s.symbols s.gives ]
