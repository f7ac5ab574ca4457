-- Which term is the instance of a type: that of the least tree of candidates. Nothing here is searched, and nothing costs.
use Rattle.std.specs.Prelude.{◌≡◌, ◌<◌, ℕ, suc, true, Some, List, [], ◌∷◌, slice_get}
use Rattle.lf_core.specs.Term.{Term}
use Rattle.lf_rules.specs.Environment.{Context}
use Rattle.lf_checker.specs.View.{View}
use Rattle.lf_checker.specs.Run as checker
use Rattle.lf_checker.specs.Checker.{whnf}
use Rattle.lf_elaboration.specs.Scope.{Scope}
use Rattle.lf_elaboration.specs.Metavariables.{Changes, put_in}
use Rattle.lf_elaboration.specs.Run.{done}
use Rattle.lf_elaboration.specs.Unifier.{unify}
use Rattle.lf_resolution.specs.Candidate.{Source, sources, Candidate, candidate, has_class}
use Rattle.lf_resolution.specs.Attempt.{Attempt, attempt, is_settled, in_brackets, goals_of, are_determined, with_terms}

-- What the checker and the unifier give where nesting and units suffice.
abbrev pub HasForm : View → Context → Term → Term → Type 0
HasForm V C t W = (depth u v : ℕ) × (whnf V depth C t u ≡ checker.done W v)

abbrev pub Unifies : View → Context → Term → Term → Changes → Changes → Type 0
Unifies V C a b before after = (depth u v : ℕ) × (unify V depth C a b u before ≡ done true v after)

-- A candidate, by its place among what may be tried, and a tree for each goal that it leaves.
mutual
  pub data Tree : Type 0 where
    tree : ℕ → Trees → Tree

  pub data Trees : Type 0 where
    no_tree : Trees
    tree_and : Tree → Trees → Trees

-- The candidate's type, but its pis, unifies with the goal; then each metavariable that isn't in brackets is assigned, and the types of those in
-- brackets have no metavariable left.
pub record Fits (V : View) (C : Context) (goal : Term) (a : Attempt) (after : Changes) : Type 0 where
  pub unifies : Unifies V C a.rest goal a.changes after
  pub settled : is_settled after a.given ≡ true
  pub determined : are_determined (goals_of after (in_brackets a.given)) ≡ true

-- The whole term, once those in brackets have theirs.
abbrev pub term_of : Attempt → Changes → List Term → Term
term_of a after ts = put_in (with_terms after (in_brackets a.given) ts) a.term

-- A tree of depth at most d for a goal, with its term; and one for each of the goals, in order.
mutual
  pub data IsTree (V : View) (S : Scope) (C : Context) : ℕ → Term → Tree → Term → Type 0 where
    by_source : {d i : ℕ} {goal W : Term} {s : Source} {ts : Trees} {t : Term} → HasForm V C goal W → has_class V S W ≡ true
        → slice_get (sources S C) i ≡ Some s → IsBranch V S C d goal s ts t → IsTree V S C (suc d) goal (tree i ts) t

  pub data IsBranch (V : View) (S : Scope) (C : Context) : ℕ → Term → Source → Trees → Term → Type 0 where
    by_candidate : {d : ℕ} {goal : Term} {s : Source} {e : Candidate} {after : Changes} {ts : Trees} {terms : List Term} → candidate V S C s ≡ Some e
        → Fits V C goal (attempt C e) after → AreTrees V S C d (goals_of after (in_brackets (attempt C e).given)) ts terms
        → IsBranch V S C d goal s ts (term_of (attempt C e) after terms)

  pub data AreTrees (V : View) (S : Scope) (C : Context) : ℕ → List Term → Trees → List Term → Type 0 where
    none : {d : ℕ} → AreTrees V S C d [] no_tree []
    one_and : {d : ℕ} {goal : Term} {goals : List Term} {T : Tree} {t : Term} {Ts : Trees} {ts : List Term} → IsTree V S C d goal T t
        → AreTrees V S C d goals Ts ts → AreTrees V S C d (goal ∷ goals) (tree_and T Ts) (t ∷ ts)

-- The order of trees: by the candidate's place, and then by the trees from the left.
mutual
  pub data Less : Tree → Tree → Type 0 where
    earlier : {i j : ℕ} {ts us : Trees} → i < j → Less (tree i ts) (tree j us)
    same_place : {i : ℕ} {ts us : Trees} → AllLess ts us → Less (tree i ts) (tree i us)

  pub data AllLess : Trees → Trees → Type 0 where
    first : {t u : Tree} {ts us : Trees} → Less t u → AllLess (tree_and t ts) (tree_and u us)
    later : {t : Tree} {ts us : Trees} → AllLess ts us → AllLess (tree_and t ts) (tree_and t us)

-- The instance of a type is the term of a tree of depth at most 32 than which no tree is less.
abbrev pub greatest_tree : ℕ
greatest_tree = 32

pub record IsLeast (V : View) (S : Scope) (C : Context) (d : ℕ) (goal t : Term) : Type 0 where
  pub tree : Tree
  pub is_tree : IsTree V S C d goal tree t
  pub least : (other : Tree) (s : Term) → IsTree V S C d goal other s → Less other tree → ⊥

abbrev pub IsInstance : View → Scope → Context → Term → Term → Type 0
IsInstance V S C goal t = IsLeast V S C greatest_tree goal t

-- There is no tree.
abbrev pub HasNone : View → Scope → Context → ℕ → Term → Type 0
HasNone V S C d goal = (T : Tree) (t : Term) → IsTree V S C d goal T t → ⊥
