-- What a walk that puts in a motive gives: a term within a limit of nodes and depth. A device of the proof.
use Rattle.std.specs.Prelude.{◌≡◌, ℕ, ◌+◌, ◌-◌, ◌<◌, max, Bool, true, false, nat_eq, Result, Ok, Err}
use Rattle.lf_core.specs.Term.{Term, level_meta, bound, free, meta, sort, const, app, lam, pi, letin, lit, proj}
use Rattle.lf_core.specs.Size.{node_count, depth}
use Rattle.lf_elaboration.specs.Metavariables.{Put, with_values}
use Rattle.lf_elaboration.specs.Induction.{motive_number, motive_for}
use Rattle.lf_cases.specs.declared.limit.Limit.{Limit}
use Rattle.lf_cases.specs.declared.limit.PutFault.{PutFault}
use Rattle.lf_cases.specs.declared.limit.PutFault.TheVariants.{TooLarge}
use Rattle.lf_cases.specs.declared.motive.Reduced.{Reduced}

-- By how much nodes and depth pass the limit.
abbrev pub excess : Limit → ℕ → ℕ → ℕ
excess l nodes deep = (nodes - l.room) + (deep - l.deep)

-- Only a firm limit is said to be passed, and then it is.
pub record Refuses (l : Limit) (nodes deep : ℕ) (e : PutFault) : Type 0 where
  pub firm : e ≡ TooLarge → l.firm ≡ true
  pub large : e ≡ TooLarge → 0 < excess l nodes deep

abbrev pub PutsTerm : Limit → Term → Result Term PutFault → Type 0
PutsTerm l t (Ok s) = (s ≡ t) × (excess l (node_count t) (depth t) ≡ 0)
PutsTerm l t (Err e) = Refuses l (node_count t) (depth t) e

-- The parts of a node, beside each other.
abbrev pub PutsPair : Limit → Term → Term → Result (Term × Term) PutFault → Type 0
PutsPair l a b (Ok r) = (r.0 ≡ a) × (r.1 ≡ b) × (excess l (node_count a + node_count b + 1) (max (depth a) (depth b) + 1) ≡ 0)
PutsPair l a b (Err e) = Refuses l (node_count a + node_count b + 1) (max (depth a) (depth b) + 1) e

abbrev pub PutsThree : Limit → Term → Term → Term → Result (Term × Term × Term) PutFault → Type 0
PutsThree l a v b (Ok r) = (r.0 ≡ a) × (r.1 ≡ v) × (r.2 ≡ b)
    × (excess l (node_count a + node_count v + node_count b + 1) (max (depth a) (max (depth v) (depth b)) + 1) ≡ 0)
PutsThree l a v b (Err e) = Refuses l (node_count a + node_count v + node_count b + 1) (max (depth a) (max (depth v) (depth b)) + 1) e

-- The term, and how many of its leading lambdas an application of it still reduces.
abbrev pub Puts : Limit → Put → Result Reduced PutFault → Type 0
Puts l p (Ok r) = (r.term ≡ p.term) × (r.lambdas ≡ p.lambdas) × (excess l (node_count p.term) (depth p.term) ≡ 0)
Puts l p (Err e) = Refuses l (node_count p.term) (depth p.term) e

-- What is left for a part beside parts with so many nodes.
abbrev pub Inner : Limit → ℕ → Result Limit PutFault → Type 0
Inner l used (Ok m) = (m.firm ≡ l.firm) × (m.room + used + 1 ≡ l.room) × (m.deep + 1 ≡ l.deep)
Inner l used (Err e) = Refuses l (used + 1) 1 e

-- What is left beside parts with so many nodes, at the same depth.
abbrev pub Beside : Limit → ℕ → Result Limit PutFault → Type 0
Beside l used (Ok m) = (m.firm ≡ l.firm) × (m.room + used ≡ l.room) × (m.deep ≡ l.deep)
Beside l used (Err e) = Refuses l used 0 e

-- The limit of what may be reduced away.
abbrev pub loose : Limit
loose = record { firm = false; room = 16777216; deep = 4294967295 }

-- What the code has of a term, as the definition has it.
abbrev pub read : Reduced → Put
read r = record { term = r.term; lambdas = r.lambdas }

-- A term with this motive put in.
abbrev pub put_of : Term → Term → Put
put_of M t = with_values (λ k. level_meta k) (motive_for M) t

-- Whether an application is reduced when the motive is put in.
abbrev pub head_is_motive : Term → Bool
head_is_motive (bound i) = false
head_is_motive (free k) = false
head_is_motive (meta k) = nat_eq k motive_number
head_is_motive (sort l) = false
head_is_motive (const c ls) = false
head_is_motive (app f a) = head_is_motive f
head_is_motive (lam x A b) = false
head_is_motive (pi x A B) = false
head_is_motive (letin x A v b) = false
head_is_motive (lit n) = false
head_is_motive (proj s i t) = false
