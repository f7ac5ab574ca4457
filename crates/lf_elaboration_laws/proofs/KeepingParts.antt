-- The parts of elaboration, and what is done where a binder closes: what they do to the state, and what they wait for.
use Rattle.std.proofs.Common.{ℕ, zero, suc, Bool, true, false, if◌then◌else◌, List, [], ◌∷◌, ◌++◌, length, Option, Some, None, slice_get, filter}
use Rattle.lf_core.specs.Term.{Path, Universe, Term}
use Rattle.lf_rules.specs.Environment.{Context}
use Rattle.lf_syntax.specs.declared.leaf.Ident.{Ident}
use Rattle.lf_syntax.specs.Tree as written
use Rattle.lf_syntax.specs.Tree.{LevelTree, LevelTrees, TermTree, ItemTree}
use Rattle.lf_checker.specs.View.{View}
use Rattle.lf_checker.specs.Calls.{Seen, known, unknown, missing, see, Mode, unchecked}
use Rattle.lf_checker.specs.declared.fault.TypeFault.{TypeFault}
use Rattle.lf_checker.specs.declared.fault.TypeFault.TheVariants as fault
use Rattle.lf_elaboration.specs.declared.hole.Hole.{Hole}
use Rattle.lf_elaboration.specs.Metavariables.{Changes, count, Metavariable, metavariables, types_of, unassigned, escaping}
use Rattle.lf_elaboration.specs.Run.{Answer, done, failed, out, need, go_on, ◌>>=◌, ◌>>◌}
use Rattle.lf_elaboration.specs.Part.{Part, Locals, State, Run, Calls, Trailing, unify, fault_at, refusal_at, type_of, level_in, sort_of}
use Rattle.lf_elaboration.specs.Identifiers.{
  level_of,
  greatest_of,
  levels_of,
  fresh_levels,
  parameter_at,
  position_from,
  levels_at,
  own_levels_at,
  Meaning,
  own_type,
  constant,
  nothing,
  waits,
  is_own,
  or_next,
  first_found,
  meaning_of,
  own_at,
  of_meaning,
  of_local,
  identifier,
  by_name,
  constant_named,
}
use Rattle.lf_elaboration.specs.Scope.{candidates_of, local_named}
use Rattle.lf_elaboration.specs.Closing.{
  after_block,
  as_block,
  proved_by,
  unless_assigned,
  sorry_for,
  settled,
  run_block,
  instance_found,
  find_instance,
  run_by,
  run_made,
  run_hole,
  run_holes,
  is_from,
  undetermined_at,
  all_assigned,
  none_escapes,
  levels_from,
  close,
  close_binder,
}
use Rattle.lf_core.specs.declared.constant.TaskKey.{TaskKey}
use Rattle.lf_extension_laws.proofs.Only.{Only, SeenIn, Reads, Asks, only_then, only_spend, only_caught, only_choose, only_put, only_made, only_opening}
use Rattle.lf_elaboration_laws.specs.Once.{dropped}
use Rattle.lf_elaboration_laws.proofs.Keeping.{
  Steps,
  Leaving,
  Held,
  keeps_then,
  keeps_choose,
  keeps_or_fail,
  keeps_spend,
  keeps_answered,
  keeps_checks,
  keeps_back,
  keeps_instantiated,
  keeps_instantiated_all,
  keeps_placeholder,
  keeps_fresh_level,
  keeps_assign,
  keeps_ask,
  keeps_weaker,
  keeps_marked,
  keeps_closed,
}
use Rattle.lf_elaboration_laws.proofs.Calm.{Calm}

ruleset keeps = (
  keeps_then,
  keeps_choose,
  keeps_or_fail,
  keeps_spend,
  keeps_checks,
  keeps_instantiated,
  keeps_instantiated_all,
  keeps_placeholder,
  keeps_fresh_level,
  keeps_assign,
  keeps_ask,
)

-- What is asked of the checker.
ruleset only = (only_then, only_spend, only_caught, only_choose, only_put, only_made, only_opening)

-- What the calls of elaboration leave.
pub record KeepingCalls (Terms Proofs End : State → State → Type 0) (Key : TaskKey → Type 0) (c : Calls) : Type 0 where
  pub elaborate : (t : Trailing) (L : Locals) (s : TermTree) (E : Option Term) (u : ℕ) (w : State) → Held Terms End Key w (c.elaborate t L s E u w)
  pub prove : (L : Locals) (goal : Term) (is : List ItemTree) (u : ℕ) (w : State) → Held Proofs End Key w (c.prove L goal is u w)
  pub unify : (C : Context) (a b : Term) (u : ℕ) (cs : Changes) → Calm Key cs (c.unify C a b u cs)
  pub check : Asks Key c.check
  pub synthesize : (C : Context) (t : Term) (u : ℕ) → Only true Key (c.synthesize C t u)

-- What a name stands for, where the view waits for such keys.
abbrev pub MeaningIn : (TaskKey → Type 0) → Meaning → Type 0
MeaningIn Key (waits k) = Key k
MeaningIn Key (own_type n) = Unit {0}
MeaningIn Key (constant n c) = Unit {0}
MeaningIn Key nothing = Unit {0}

found_next : (Key : TaskKey → Type 0) (n : Path) (s : Seen) (m : Meaning) → SeenIn Key s → MeaningIn Key m → MeaningIn Key (or_next n s m)
found_next Key n (known c) m h i = tt
found_next Key n unknown m h i = i
found_next Key n (missing k) m h i = h

found_in : (Key : TaskKey → Type 0) (V : View) → ((n : Path) → SeenIn Key (see V n)) → (own : Option Path) (ns : List Path)
    → MeaningIn Key (first_found V own ns)
found_in Key V h own [] = tt
found_in Key V h own (n ∷ ns) = at (found_next Key n (see V n) (first_found V own ns) (h n) (found_in Key V h own ns)) (is_own own n)
  where
    at : MeaningIn Key (or_next n (see V n) (first_found V own ns)) → (b : Bool)
        → MeaningIn Key (if b then own_type n else or_next n (see V n) (first_found V own ns))
    at i true = tt
    at i false = i

module _ (To End : State → State → Type 0) (g : Steps To End) (Key : TaskKey → Type 0) where
  -- ---- Errors, levels, names

  pub keeps_fault : (A : Type 0) (P : Part) (names : List Path) (at : ℕ) (f : TypeFault) (u : ℕ) (s : State)
      → Held To End Key s (fault_at {A = A} P names at f u s)
  keeps_fault A P names at (fault.Unknown n) u s = g.ends s s (g.same s)
  keeps_fault A P names at (fault.Levels n) u s = g.ends s s (g.same s)
  keeps_fault A P names at (fault.NotFunction T) u s = search (keeps, only, g, g.same, g.ends) depth 12
  keeps_fault A P names at (fault.Argument S T) u s = search (keeps, only, g, g.same, g.ends) depth 14
  keeps_fault A P names at (fault.NotType T) u s = search (keeps, only, g, g.same, g.ends) depth 12
  keeps_fault A P names at (fault.Value S T) u s = search (keeps, only, g, g.same, g.ends) depth 14
  keeps_fault A P names at fault.NotClosed u s = g.ends s s (g.same s)
  keeps_fault A P names at (fault.NotStructure T) u s = search (keeps, only, g, g.same, g.ends) depth 12
  keeps_fault A P names at (fault.NotPositive n k) u s = g.ends s s (g.same s)
  keeps_fault A P names at (fault.BadResult n) u s = g.ends s s (g.same s)
  keeps_fault A P names at (fault.LevelTooHigh n k) u s = g.ends s s (g.same s)
  keeps_fault A P names at fault.BadType u s = g.ends s s (g.same s)
  keeps_fault A P names at (fault.Duplicate n p) u s = g.ends s s (g.same s)

  keeps_parameter : (x : Ident) (o : Option ℕ) (u : ℕ) (s : State) → Held To End Key s (parameter_at x o u s)
  keeps_parameter x (Some k) u s = g.same s
  keeps_parameter x None u s = g.ends s s (g.same s)

  mutual
    keeps_level : (names : List Path) (l : LevelTree) (u : ℕ) (s : State) → Held To End Key s (level_of names l u s)
    keeps_level names (written.level_number n) u s = search (keeps, only, g, g.same, g.ends) depth 12
    keeps_level names (written.level_name x) u s = keeps_parameter x (position_from 0 names x.name) u s
    keeps_level names (written.level_plus at l n) u s = search (keeps, only, g, g.same, g.ends, keeps_level names l) depth 14
    keeps_level names (written.level_max at ls) u s = search (keeps, only, g, g.same, g.ends, keeps_greatest names ls) depth 14
    keeps_level names (written.level_imax at l m) u s = search (keeps, only, g, g.same, g.ends, keeps_level names l, keeps_level names m) depth 14

    keeps_greatest : (names : List Path) (ls : LevelTrees) (u : ℕ) (s : State) → Held To End Key s (greatest_of names ls u s)
    keeps_greatest names written.no_level u s = g.same s
    keeps_greatest names (written.level_and l ls) u s = search (keeps, only, g, g.same, g.ends, keeps_level names l, keeps_greatest names ls) depth 14

  keeps_levels_of : (names : List Path) (ls : List LevelTree) (u : ℕ) (s : State) → Held To End Key s (levels_of names ls u s)
  keeps_levels_of names [] u s = g.same s
  keeps_levels_of names (l ∷ ls) u s = search (keeps, only, g, g.same, g.ends, keeps_level, keeps_levels_of names ls) depth 14

  pub keeps_fresh_levels : (n : ℕ) (u : ℕ) (s : State) → Held To End Key s (fresh_levels n u s)
  keeps_fresh_levels zero u s = g.same s
  keeps_fresh_levels (suc n) u s = search (keeps, only, g, g.same, g.ends, keeps_fresh_levels n) depth 14

  keeps_levels_at : (names : List Path) (x : Ident) (n : Path) (k : ℕ) (ls : List LevelTree) (u : ℕ) (s : State)
      → Held To End Key s (levels_at names x n k ls u s)
  keeps_levels_at names x n k [] u s = keeps_fresh_levels k u s
  keeps_levels_at names x n k (l ∷ ls) u s = search (keeps, only, g, g.same, g.ends, keeps_levels_of) depth 12

  keeps_own_levels : (names : List Path) (x : Ident) (n : Path) (ls : List LevelTree) (u : ℕ) (s : State) → Held To End Key s (own_levels_at names x n ls u s)
  keeps_own_levels names x n [] u s = g.same s
  keeps_own_levels names x n (l ∷ ls) u s = keeps_levels_at names x n (length names) (l ∷ ls) u s

  pub keeps_level_of : (names : List Path) (l : LevelTree) (u : ℕ) (s : State) → Held To End Key s (level_of names l u s)
  keeps_level_of = keeps_level

  module _ (P : Part) (reads : Reads P.view Key) where
    keeps_own_at : (n : Path) (y : Ident) (ls : List Universe) (q : Seen) (u : ℕ) (s : State) → SeenIn Key q → Held To End Key s (own_at n y ls q u s)
    keeps_own_at n y ls (known c) u s h = search (keeps, only, g, g.same, g.ends) depth 12
    keeps_own_at n y ls unknown u s h = g.ends s s (g.same s)
    keeps_own_at n y ls (missing k) u s h = h

    keeps_meaning : (y : Ident) (ls : List LevelTree) (m : Meaning) (u : ℕ) (s : State) → MeaningIn Key m → Held To End Key s (of_meaning P y ls m u s)
    keeps_meaning y ls (waits k) u s h = h
    keeps_meaning y ls nothing u s h = g.ends s s (g.same s)
    keeps_meaning y ls (own_type k) u s h = search (keeps, only, g, g.same, g.ends, keeps_own_levels, keeps_own_at, reads.sees) depth 14
    keeps_meaning y ls (constant k c) u s h = search (keeps, only, g, g.same, g.ends, keeps_levels_at) depth 18

    pub keeps_means : (x : Path) → MeaningIn Key (meaning_of P x)
    keeps_means x = found_in Key P.view reads.sees P.own (candidates_of P.scope P.inside x)

    pub keeps_identifier : (L : Locals) (y : Ident) (ls : List LevelTree) (u : ℕ) (s : State) → Held To End Key s (identifier P L y ls u s)
    keeps_identifier L y ls u s = at (local_named L.names y.name)
      where
        at : (o : Option ℕ) → Held To End Key s (of_local P L y ls o u s)
        at (Some k) = g.same s
        at None = keeps_meaning y ls (meaning_of P y.name) u s (keeps_means y.name)

    keeps_by_name : (at : ℕ) (n : Path) (q : Seen) (u : ℕ) (s : State) → SeenIn Key q → Held To End Key s (by_name P at n q u s)
    keeps_by_name at n (known c) u s h = search (keeps, only, g, g.same, g.ends, keeps_fresh_levels) depth 14
    keeps_by_name at n unknown u s h = g.ends s s (g.same s)
    keeps_by_name at n (missing k) u s h = h

    pub keeps_named : (at : ℕ) (n : Path) (u : ℕ) (s : State) → Held To End Key s (constant_named P at n u s)
    keeps_named at n u s = keeps_by_name at n (see P.view n) u s (reads.sees n)

  -- ---- Closing

  keeps_undetermined : (o : Option ℕ) (u : ℕ) (s : State) → Held To End Key s (undetermined_at o u s)
  keeps_undetermined (Some at) u s = g.ends s s (g.same s)
  keeps_undetermined None u s = g.same s

  pub keeps_all_assigned : (k : ℕ) (u : ℕ) (s : State) → Held To End Key s (all_assigned k u s)
  keeps_all_assigned k u s = keeps_undetermined (unassigned s.changes k) u s

  pub keeps_none_escapes : (k : ℕ) (u : ℕ) (s : State) → Held To End Key s (none_escapes k u s)
  keeps_none_escapes k u s = keeps_undetermined (escaping s.changes k) u s

  keeps_levels_from : (P : Part) (o : Option ℕ) (u : ℕ) (s : State) → Held To End Key s (levels_from P o u s)
  keeps_levels_from P None u s = g.same s
  keeps_levels_from P (Some k) u s = search (keeps, only, g, g.same, g.ends) depth 10

module _ (To End : State → State → Type 0) (g : Steps To End) (Key : TaskKey → Type 0) (P : Part) (c : Calls) (check : Asks Key c.check)
    (unifies : (C : Context) (a b : Term) (u : ℕ) (cs : Changes) → Calm Key cs (c.unify C a b u cs)) where
  pub keeps_unify : (L : Locals) (a b : Term) (u : ℕ) (w : State) → Held To End Key w (unify c L a b u w)
  keeps_unify L a b u w = keeps_back To End Key g w (c.unify L.types a b u w.changes) (unifies L.types a b u w.changes)

  keeps_type_of : (L : Locals) (at : ℕ) (t : Term) (u : ℕ) (w : State) → Held To End Key w (type_of P c L at t u w)
  keeps_type_of L at t u w =
      let m : Mode = unchecked (types_of w.changes) in
      keeps_answered To End Key g (refusal_at P L at) w (c.check.infer m L.types t u) (check.infer m L.types t u)
      (λ r v. keeps_fault To End g Key Term P (L.names ++ r.opened) at r.fault v w)

  keeps_level_in : (L : Locals) (at : ℕ) (S : Term) (o : Option Universe) (u : ℕ) (w : State) → Held To End Key w (level_in P L at S o u w)
  keeps_level_in L at S (Some l) u w = g.same w
  keeps_level_in L at S None u w = keeps_fault To End g Key Universe P L.names at (fault.NotType S) u w

  pub keeps_sort_of : (L : Locals) (at : ℕ) (t : Term) (u : ℕ) (w : State) → Held To End Key w (sort_of P c L at t u w)
  keeps_sort_of L at t u w = search (keeps, only, g, g.same, g.ends, check.whnf, keeps_type_of, keeps_level_in) depth 16

  pub keeps_proved_by : (L : Locals) (at m : ℕ) (goal t : Term) (u : ℕ) (w : State)
      → Held To End Key w (proved_by P c L at m goal t u w)
  keeps_proved_by L at m goal t u w = search (keeps, only, g, g.same, g.ends, keeps_unify) depth 16

module _ (Terms Proofs End : State → State → Type 0) (law : Leaving Terms Proofs End) (Key : TaskKey → Type 0) (P : Part) (c : Calls)
    (k : KeepingCalls Terms Proofs End Key c) where
  keeps_sorry_for : (L : Locals) (at : ℕ) (A : Term) (u : ℕ) (w : State)
      → Held Proofs End Key w (sorry_for P c L at A u w)
  keeps_sorry_for L at A u w =
      search (keeps, only, law.proofs, law.proofs.same, law.proofs.ends, keeps_sort_of Proofs End law.proofs Key P c k.check k.unify) depth 14

  keeps_unless_assigned : (m : ℕ) (n : Run (Unit {0})) (u : ℕ) (w : State) → ((v : ℕ) (z : State) → Held Proofs End Key z (n v z))
      → Held Proofs End Key w (unless_assigned m n u w)
  keeps_unless_assigned m n u w h = search (keeps, only, law.proofs, law.proofs.same, law.proofs.ends, h) depth 14

  keeps_settled : (L : Locals) (at m : ℕ) (goal : Term) (o : Option Term) (u : ℕ) (w : State)
      → Held Proofs End Key w (settled P c L at m goal o u w)
  keeps_settled L at m goal (Some t) u w = keeps_proved_by Proofs End law.proofs Key P c k.check k.unify L at m goal t u w
  keeps_settled L at m goal None u w = search (keeps, only, law.proofs, law.proofs.same, law.proofs.ends, keeps_unless_assigned, keeps_sorry_for) depth 14

  keeps_block : {A : Type 0} (s : State) (o : Answer State A) → Held Proofs End Key (record s { nodes = [] }) o → Held Proofs End Key s (after_block s o)
  keeps_block s (done x u t) h = law.block s t _ h
  keeps_block s (failed m u t) h = law.block_fails s t _ h
  keeps_block s (out t) h = law.block_ends s t _ h
  keeps_block s (need k) h = h

  keeps_as_block : (L : Locals) (goal : Term) (is : List ItemTree) (u : ℕ) (w : State)
      → Held Proofs End Key w (as_block (c.prove L goal is) u w)
  keeps_as_block L goal is u w =
      keeps_block w (c.prove L goal is u (record w { nodes = [] })) (k.prove L goal is u (record w { nodes = [] }))

  keeps_run_block : (L : Locals) (at m : ℕ) (A : Term) (is : List ItemTree) (u : ℕ) (w : State)
      → Held Proofs End Key w (run_block P c L at m A is u w)
  keeps_run_block L at m A is u w = search (keeps, only, law.proofs, law.proofs.same, law.proofs.ends, keeps_as_block, keeps_settled) depth 20

  keeps_found : (L : Locals) (at m : ℕ) (goal : Term) (o : Option Term) (u : ℕ) (w : State) → Held Proofs End Key w (instance_found P L at m goal o u w)
  keeps_found L at m goal (Some t) u w = search (keeps, only, law.proofs, law.proofs.same, law.proofs.ends) depth 14
  keeps_found L at m goal None u w = search (keeps, only, law.proofs, law.proofs.same, law.proofs.ends) depth 12

  keeps_find_instance : (L : Locals) (at m : ℕ) (A : Term) (u : ℕ) (w : State)
      → Held Proofs End Key w (find_instance P c L at m A u w)
  keeps_find_instance L at m A u w = search (keeps, only, law.proofs, law.proofs.same, law.proofs.ends, k.synthesize, keeps_found) depth 20

  keeps_run_by : (L : Locals) (h : ℕ) (m : Metavariable) (o : Option (List ItemTree)) (u : ℕ) (w : State)
      → Held Proofs End Key w (run_by P c L h m o u w)
  keeps_run_by L h m (Some is) u w = keeps_run_block L m.at h m.ty is u w
  keeps_run_by L h m None u w = search (keeps_unless_assigned, keeps_find_instance)

  keeps_run_made : (L : Locals) (h : Hole) (o : Option Metavariable) (u : ℕ) (w : State)
      → Held Proofs End Key w (run_made P c L h o u w)
  keeps_run_made L h None u w = law.proofs.ends w w (law.proofs.same w)
  keeps_run_made L h (Some m) u w = keeps_run_by L h.metavariable m h.items u w

  keeps_run_holes : (L : Locals) (hs : List Hole) (u : ℕ) (w : State) → Held Proofs End Key w (run_holes P c L hs u w)
  keeps_run_holes L [] u w = law.proofs.same w
  keeps_run_holes L (h ∷ hs) u w =
      keeps_then Proofs End Key law.proofs w (run_hole P c L h u w) (λ x. run_holes P c L hs)
      (keeps_run_made L h (slice_get (metavariables w.changes) h.metavariable) u w)
      (λ x v z. keeps_run_holes L hs v z)

  pub keeps_close : (L : Locals) (i : ℕ) (levels : Option ℕ) (u : ℕ) (w : State)
      → Held Proofs End Key (dropped i w) (close P c L i levels u w)
  keeps_close L i levels u w = keeps_then Proofs End Key law.proofs (dropped i w) (run_holes P c L (filter (is_from i) w.pending) u (dropped i w)) _
      (keeps_run_holes L (filter (is_from i) w.pending) u (dropped i w))
      (λ x v z. keeps_then Proofs End Key law.proofs z (all_assigned i v z) _ (keeps_all_assigned Proofs End law.proofs Key i v z)
      (λ y q r. keeps_levels_from Proofs End law.proofs Key P levels q r))

  pub keeps_close_binder : (L : Locals) (i n : ℕ) (u : ℕ) (w : State)
      → Held Proofs End Key (dropped i w) (close_binder P c L i n u w)
  keeps_close_binder L i n u w = keeps_then Proofs End Key law.proofs (dropped i w) (close P c L i None u w) _ (keeps_close L i None u w)
      (λ x v z. keeps_none_escapes Proofs End law.proofs Key n v z)

  -- In a term.
  pub keeps_binder : (L : Locals) (i n : ℕ) (u : ℕ) (w : State) → Held Terms End Key (dropped i w) (close_binder P c L i n u w)
  keeps_binder L i n u w = keeps_weaker Terms Proofs End Key law (dropped i w) (close_binder P c L i n u w) (keeps_close_binder L i n u w)

  -- What was made since the mark of a term closes behind it: as a binder, and as the term of an item.
  pub keeps_bracket : {A B : Type 0} (L : Locals) (n : ℕ) (s : State) (o : Answer State A) (g : A → Run B) → Held Terms End Key s o
      → ((x : A) (u : ℕ) (t : State) → Held Terms End Key t (g x u t)) → Held Terms End Key s (go_on o (λ x. close_binder P c L (count s.changes) n >> g x))
  keeps_bracket L n s o g h i = keeps_marked Terms Proofs End Key law s o (λ x. close_binder P c L (count s.changes) n >> g x) h
      (λ x u t. keeps_then Terms End Key law.terms (dropped (count s.changes) t) (close_binder P c L (count s.changes) n u t) (λ y. g x)
      (keeps_binder L (count s.changes) n u t) (λ y v z. i x v z))

  pub keeps_closing : {A B : Type 0} (L : Locals) (levels : Option ℕ) (s : State) (o : Answer State A) (g : A → Run B) → Held Terms End Key s o
      → ((x : A) (u : ℕ) (t : State) → Held Proofs End Key t (g x u t)) → Held Proofs End Key s (go_on o (λ x. close P c L (count s.changes) levels >> g x))
  keeps_closing L levels s o g h i = keeps_closed Terms Proofs End Key law s o (λ x. close P c L (count s.changes) levels >> g x) h
      (λ x u t. keeps_then Proofs End Key law.proofs (dropped (count s.changes) t) (close P c L (count s.changes) levels u t) (λ y. g x)
      (keeps_close L (count s.changes) levels u t) (λ y v z. i x v z))
