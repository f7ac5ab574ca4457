-- What a walk that puts in gives: a level or a term within a limit of nodes and depth.
use Rattle.std.specs.Prelude.{◌≡◌, ℕ, ◌+◌, ◌-◌, ◌<◌, max, true, false, List, ◌++◌, Result, Ok, Err}
use Rattle.lf_core.specs.Term.{Universe, Term}
use Rattle.lf_core.specs.Size.{level_node_count, level_depth, levels_node_count, levels_depth, node_count, depth}
use Rattle.lf_elaboration.specs.Metavariables.{Changes, Put, with_values, level_at, term_at}
use Rattle.lf_meta.specs.declared.limit.Limit.{Limit}
use Rattle.lf_meta.specs.declared.limit.PutFault.{PutFault}
use Rattle.lf_meta.specs.declared.limit.PutFault.TheVariants.{TooLarge, NoMemory}
use Rattle.lf_meta.specs.declared.reach.Reach.{Reach}
use Rattle.lf_meta.specs.declared.put_term.Reduced.{Reduced}

-- By how much nodes and depth pass the limit.
abbrev pub excess : Limit → ℕ → ℕ → ℕ
excess l nodes deep = (nodes - l.room) + (deep - l.deep)

-- Only a firm limit is said to be passed, and then it is.
pub record Refuses (l : Limit) (nodes deep : ℕ) (e : PutFault) : Type 0 where
  pub firm : e ≡ TooLarge → l.firm ≡ true
  pub large : e ≡ TooLarge → 0 < excess l nodes deep

abbrev pub PutsLevel : Limit → Universe → Result Universe PutFault → Type 0
PutsLevel l u (Ok v) = (v ≡ u) × (excess l (level_node_count u) (level_depth u) ≡ 0)
PutsLevel l u (Err e) = Refuses l (level_node_count u) (level_depth u) e

-- The levels come behind those of a list.
abbrev pub AddsLevels : Limit → List Universe → List Universe → Result (Unit {0}) PutFault → List Universe → Type 0
AddsLevels l before us (Ok x) after = (after ≡ before ++ us) × (excess l (levels_node_count us) (levels_depth us) ≡ 0)
AddsLevels l before us (Err e) after = Refuses l (levels_node_count us) (levels_depth us) e

abbrev pub PutsTerm : Limit → Term → Result Term PutFault → Type 0
PutsTerm l t (Ok s) = (s ≡ t) × (excess l (node_count t) (depth t) ≡ 0)
PutsTerm l t (Err e) = Refuses l (node_count t) (depth t) e

-- The parts of a node, beside each other.
abbrev pub PutsSides : Limit → Universe → Universe → Result (Universe × Universe) PutFault → Type 0
PutsSides l a b (Ok r) = (r.0 ≡ a) × (r.1 ≡ b)
    × (excess l (level_node_count a + level_node_count b + 1) (max (level_depth a) (level_depth b) + 1) ≡ 0)
PutsSides l a b (Err e) = Refuses l (level_node_count a + level_node_count b + 1) (max (level_depth a) (level_depth b) + 1) e

abbrev pub PutsPair : Limit → Term → Term → Result (Term × Term) PutFault → Type 0
PutsPair l a b (Ok r) = (r.0 ≡ a) × (r.1 ≡ b) × (excess l (node_count a + node_count b + 1) (max (depth a) (depth b) + 1) ≡ 0)
PutsPair l a b (Err e) = Refuses l (node_count a + node_count b + 1) (max (depth a) (depth b) + 1) e

abbrev pub PutsThree : Limit → Term → Term → Term → Result (Term × Term × Term) PutFault → Type 0
PutsThree l a v b (Ok r) = (r.0 ≡ a) × (r.1 ≡ v) × (r.2 ≡ b)
    × (excess l (node_count a + node_count v + node_count b + 1) (max (depth a) (max (depth v) (depth b)) + 1) ≡ 0)
PutsThree l a v b (Err e) = Refuses l (node_count a + node_count v + node_count b + 1) (max (depth a) (max (depth v) (depth b)) + 1) e

-- The term, and how many of its leading lambdas an application of it still reduces.
abbrev pub Puts : Limit → Put → Result Reduced PutFault → Type 0
Puts l p (Ok r) = (r.term ≡ p.term) × (r.lambdas ≡ p.lambdas) × (excess l (node_count p.term) (depth p.term) ≡ 0)
Puts l p (Err e) = Refuses l (node_count p.term) (depth p.term) e

-- What is left for a part beside parts with so many nodes.
abbrev pub Inner : Limit → ℕ → Result Limit PutFault → Type 0
Inner l used (Ok m) = (m.firm ≡ l.firm) × (m.room + used + 1 ≡ l.room) × (m.deep + 1 ≡ l.deep)
Inner l used (Err e) = Refuses l (used + 1) 1 e

-- What is left beside parts with so many nodes, at the same depth.
abbrev pub Beside : Limit → ℕ → Result Limit PutFault → Type 0
Beside l used (Ok m) = (m.firm ≡ l.firm) × (m.room + used ≡ l.room) × (m.deep ≡ l.deep)
Beside l used (Err e) = Refuses l used 0 e

-- One call deeper.
abbrev pub Deeper : Reach → Result Reach PutFault → Type 0
Deeper r (Ok s) = (s.chain ≡ r.chain) × (s.nesting + 1 ≡ r.nesting)
Deeper r (Err e) = e ≡ NoMemory

-- One assignment and one call further.
abbrev pub Further : Reach → Result Reach PutFault → Type 0
Further r (Ok s) = (s.chain + 1 ≡ r.chain) × (s.nesting + 1 ≡ r.nesting)
Further r (Err e) = e ≡ NoMemory

-- The limit of what may be reduced away.
abbrev pub loose : Limit
loose = record { firm = false; room = 16777216; deep = 4294967295 }

-- What the code has of a term, as the definition has it.
abbrev pub read : Reduced → Put
read r = record { term = r.term; lambdas = r.lambdas }

-- A term with its metavariables put in, along at most n assignments.
abbrev pub put_of : Changes → ℕ → Term → Put
put_of cs n t = with_values (level_at cs n) (term_at cs n) t
