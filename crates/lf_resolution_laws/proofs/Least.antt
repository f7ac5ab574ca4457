-- The walk finds the least tree: by induction on the depth, and along the goals and the candidates.
use Rattle.std.proofs.Common.{
  ◌≡◌,
  ℕ,
  zero,
  suc,
  Bool,
  true,
  false,
  if◌then◌else◌,
  Option,
  Some,
  None,
  List,
  [],
  ◌∷◌,
  length,
  slice_get,
  refl,
  sym,
  subst,
  ◌∙◌,
  arith,
}
use Rattle.lf_core.specs.Term.{Term}
use Rattle.lf_rules.specs.Environment.{Context}
use Rattle.lf_rules.specs.Telescope.{pi_count}
use Rattle.lf_checker.specs.View.{View}
use Rattle.lf_checker.specs.Run as checker
use Rattle.lf_checker.specs.Run.{Run, ◌>>=◌, gives, choose}
use Rattle.lf_checker.specs.Checker.{calls}
use Rattle.lf_elaboration.specs.Scope.{Scope}
use Rattle.lf_elaboration.specs.Metavariables.{Changes}
use Rattle.lf_elaboration.specs.Run as run
use Rattle.lf_elaboration.specs.Unifier.{unify}
use Rattle.lf_resolution.specs.Candidate as candidates
use Rattle.lf_resolution.specs.Candidate.{Source, sources, Candidate, candidate}
use Rattle.lf_resolution.specs.Attempt.{Attempt, before_pis, attempt, is_settled, in_brackets, goals_of, are_determined, with_terms}
use Rattle.lf_resolution.specs.Tree.{
  HasForm,
  Unifies,
  Tree,
  tree,
  Trees,
  no_tree,
  tree_and,
  Fits,
  term_of,
  IsTree,
  by_source,
  IsBranch,
  AreTrees,
  none,
  one_and,
  Less,
  earlier,
  same_place,
  AllLess,
  first,
  later,
  greatest_tree,
  IsLeast,
  HasNone,
}
use Rattle.lf_resolution.specs.Tree as trees
use Rattle.lf_resolution.specs.Walk.{
  has_class,
  candidate_at,
  for_pis,
  unified,
  unifies,
  instantiated,
  and_next,
  goals_left,
  Resolve,
  on_found,
  instances,
  whole_term,
  settled,
  by_candidate,
  try,
  or_next,
  try_all,
  walk_body,
  walk,
}
use Rattle.lf_resolution_laws.specs.Least.{Finds, Ends, WalkFindsLeast}
use Rattle.lf_resolution_laws.proofs.Steady.{Differs, Steady, steady}
use Rattle.lf_resolution_laws.proofs.Ends.{ends_then, ends_map, ends_choose, ends_instantiated, ends_class, ends_candidate, ends_pis, determined, ends_goals}

none_less : (ts : Trees) → AllLess ts no_tree → ⊥
none_less ts l = elim l [ ]

module _ (V : View) (same_always : Steady V) (S : Scope) (C : Context) where
  -- ---- The goals that a candidate leaves

  record LeastTrees (d : ℕ) (gs ts : List Term) : Type 0 where
    trees : Trees
    are : AreTrees V S C d gs trees ts
    least : (other : Trees) (us : List Term) → AreTrees V S C d gs other us → AllLess other trees → ⊥

  abbrev FindsAll : ℕ → List Term → Option (List Term) → Type 0
  FindsAll d gs (Some ts) = LeastTrees d gs ts
  FindsAll d gs None = (Ts : Trees) (ts : List Term) → AreTrees V S C d gs Ts ts → ⊥

  no_first : (d : ℕ) (g : Term) (gs : List Term) → HasNone V S C d g → (Ts : Trees) (ts : List Term) → AreTrees V S C d (g ∷ gs) Ts ts → ⊥
  no_first d g gs h (tree_and T Ts) (t ∷ ts) (one_and x r) = h T t x
  no_first d g gs h no_tree ts a = elim a [ ]
  no_first d g gs h (tree_and T Ts) [] a = elim a [ ]

  no_later : (d : ℕ) (g : Term) (gs : List Term) → ((Ts : Trees) (ts : List Term) → AreTrees V S C d gs Ts ts → ⊥) → (Ts : Trees) (ts : List Term)
      → AreTrees V S C d (g ∷ gs) Ts ts → ⊥
  no_later d g gs h (tree_and T Ts) (t ∷ ts) (one_and x r) = h Ts ts r
  no_later d g gs h no_tree ts a = elim a [ ]
  no_later d g gs h (tree_and T Ts) [] a = elim a [ ]

  least_and : (d : ℕ) (g t : Term) (gs ts : List Term) (h : IsLeast V S C d g t) (k : LeastTrees d gs ts) (other : Trees) (us : List Term)
      → AreTrees V S C d (g ∷ gs) other us → AllLess other (tree_and h.tree k.trees) → ⊥
  least_and d g t gs ts h k (tree_and T Ts) (u ∷ us) (one_and x r) (first l) = h.least T u x l
  least_and d g t gs ts h k (tree_and T Ts) (u ∷ us) (one_and x r) (later l) = k.least Ts us r l
  least_and d g t gs ts h k no_tree us a l = elim a [ ]
  least_and d g t gs ts h k (tree_and T Ts) [] a l = elim a [ ]

  both : (d : ℕ) (g t : Term) (gs : List Term) → IsLeast V S C d g t → (o : Option (List Term)) → FindsAll d gs o → FindsAll d (g ∷ gs) (and_next t o)
  both d g t gs h None k = no_later d g gs k
  both d g t gs h (Some ts) k = record { trees = tree_and h.tree k.trees; are = one_and h.is_tree k.are; least = least_and d g t gs ts h k }

  no_goal : (d : ℕ) (other : Trees) (us : List Term) → AreTrees V S C d [] other us → AllLess other no_tree → ⊥
  no_goal d other us a l = none_less other l

  module _ (d : ℕ) (self : Resolve) (found : (g : Term) (u : ℕ) → Ends (Finds V S C d g) (self g u)) where
    ends_instances : (gs : List Term) (u : ℕ) → Ends (FindsAll d gs) (instances self gs u)
    ends_instances [] u = record { trees = no_tree; are = none; least = no_goal d }
    ends_instances (g ∷ gs) u =
        ends_then (Finds V S C d g) (FindsAll d (g ∷ gs)) (self g u) (λ t. on_found t λ x. instances self gs >>= (λ o. gives (and_next x o))) (found g u)
        (at (λ v. ends_instances gs v))
      where
        at : ((v : ℕ) → Ends (FindsAll d gs) (instances self gs v)) → (o : Option Term) (v : ℕ) → Finds V S C d g o
            → Ends (FindsAll d (g ∷ gs)) (on_found o (λ x. instances self gs >>= (λ o. gives (and_next x o))) v)
        at more None v h = no_first d g gs h
        at more (Some t) v h = ends_then (FindsAll d gs) (FindsAll d (g ∷ gs)) (instances self gs v) (λ o. gives (and_next t o)) (more v)
            (λ o w k. both d g t gs h o k)

    -- ---- A candidate

    record LeastBranch (goal : Term) (s : Source) (t : Term) : Type 0 where
      trees : Trees
      is : IsBranch V S C d goal s trees t
      least : (other : Trees) (r : Term) → IsBranch V S C d goal s other r → AllLess other trees → ⊥

    abbrev HasNoBranch : Term → Source → Type 0
    HasNoBranch goal s = (Ts : Trees) (t : Term) → IsBranch V S C d goal s Ts t → ⊥

    abbrev FindsBranch : Term → Source → Option Term → Type 0
    FindsBranch goal s (Some t) = LeastBranch goal s t
    FindsBranch goal s None = HasNoBranch goal s

    -- What a branch tells of its candidate, and of the changes where these are known.
    record Parts (goal : Term) (e : Candidate) (Ts : Trees) : Type 0 where
      after : Changes
      fits : Fits V C goal (attempt C e) after
      terms : List Term
      are : AreTrees V S C d (goals_of after (in_brackets (attempt C e).given)) Ts terms

    record Branch (goal : Term) (s : Source) (Ts : Trees) : Type 0 where
      of : Candidate
      is : candidate V S C s ≡ Some of
      parts : Parts goal of Ts

    branch : (goal : Term) (s : Source) (Ts : Trees) (t : Term) → IsBranch V S C d goal s Ts t → Branch goal s Ts
    branch goal s Ts t (trees.by_candidate {e = e} {after = cs} {terms = ts} h f a) =
        record { of = e; is = h; parts = record { after = cs; fits = f; terms = ts; are = a } }

    same_candidate : (o : Option Candidate) (e f : Candidate) → o ≡ Some e → o ≡ Some f → e ≡ f
    same_candidate o e f h k = cc

    record Left (e : Candidate) (cs : Changes) (Ts : Trees) : Type 0 where
      settled : is_settled cs (attempt C e).given ≡ true
      determined : are_determined (goals_of cs (in_brackets (attempt C e).given)) ≡ true
      terms : List Term
      are : AreTrees V S C d (goals_of cs (in_brackets (attempt C e).given)) Ts terms

    parts_of : (goal : Term) (s : Source) (e : Candidate) → candidate V S C s ≡ Some e → (Ts : Trees) (t : Term) → IsBranch V S C d goal s Ts t
        → Parts goal e Ts
    parts_of goal s e h Ts t b =
        let r : Branch goal s Ts = branch goal s Ts t b in
        subst (λ q. Parts goal q Ts) (same_candidate (candidate V S C s) r.of e r.is h) r.parts

    left : (goal : Term) (s : Source) (e : Candidate) → candidate V S C s ≡ Some e → (cs : Changes)
        → Unifies V C (attempt C e).rest goal (attempt C e).changes cs → (Ts : Trees) (t : Term) → IsBranch V S C d goal s Ts t → Left e cs Ts
    left goal s e h cs k Ts t b =
        let a : Attempt = attempt C e in
        let p : Parts goal e Ts = parts_of goal s e h Ts t b in
        subst (λ q. Left e q Ts) (same_always.changes C a.rest goal a.changes p.after cs p.fits.unifies k)
        (record { settled = p.fits.settled; determined = p.fits.determined; terms = p.terms; are = p.are })

    module _ (goal : Term) (s : Source) (e : Candidate) (h : candidate V S C s ≡ Some e) (cs : Changes)
        (k : Unifies V C (attempt C e).rest goal (attempt C e).changes cs) where
      abbrev goals : List Term
      goals = goals_of cs (in_brackets (attempt C e).given)

      least_branch : is_settled cs (attempt C e).given ≡ true → are_determined goals ≡ true → (ts : List Term) → LeastTrees d goals ts
          → LeastBranch goal s (term_of (attempt C e) cs ts)
      least_branch i j ts l = record {
        trees = l.trees;
        is = trees.by_candidate h (record { unifies = k; settled = i; determined = j }) l.are;
        least = λ other r b m. let q : Left e cs other = left goal s e h cs k other r b in l.least other q.terms q.are m;
      }

      ends_found : is_settled cs (attempt C e).given ≡ true → are_determined goals ≡ true → (o : Option (List Term)) (u : ℕ) → FindsAll d goals o
          → Ends (FindsBranch goal s) (on_found o (whole_term (attempt C e) cs) u)
      ends_found i j None u l = λ Ts t b. let q : Left e cs Ts = left goal s e h cs k Ts t b in l Ts q.terms q.are
      ends_found i j (Some ts) u l =
          let a : Attempt = attempt C e in
          ends_then (λ t. t ≡ term_of a cs ts) (FindsBranch goal s) (instantiated (with_terms cs (in_brackets a.given) ts) a.term u) (λ t. gives (Some t))
          (ends_instantiated (with_terms cs (in_brackets a.given) ts) a.term u)
          (λ t v m. subst (λ q. LeastBranch goal s q) (sym m) (least_branch i j ts l))

      abbrev on_goals : List Term → Run (Option Term)
      on_goals gs = instances self gs >>= (λ o. on_found o (whole_term (attempt C e) cs))

      ends_left : is_settled cs (attempt C e).given ≡ true → (D : Bool) → are_determined goals ≡ D → (o : Option (List Term)) (u : ℕ)
          → o ≡ (if D then Some goals else None) → Ends (FindsBranch goal s) (on_found o on_goals u)
      ends_left i true j o u m = subst (λ q. Ends (FindsBranch goal s) (on_found q on_goals u)) (sym m)
          (ends_then (FindsAll d goals) (FindsBranch goal s) (instances self goals u) (λ o. on_found o (whole_term (attempt C e) cs)) (ends_instances goals u)
          (λ o v l. ends_found i j o v l))
      ends_left i false j o u m = subst (λ q. Ends (FindsBranch goal s) (on_found q on_goals u)) (sym m)
          (λ Ts t b. let q : Left e cs Ts = left goal s e h cs k Ts t b in absurd (no_both q.determined j))
        where
          no_both : {b : Bool} → b ≡ true → b ≡ false → ⊥
          no_both x y = absurd (cc)

      ends_settled : (u : ℕ) → Ends (FindsBranch goal s) (settled self (attempt C e) cs u)
      ends_settled u = ends_choose (FindsBranch goal s) (is_settled cs (attempt C e).given)
          (goals_left cs (in_brackets (attempt C e).given) >>= (λ o. on_found o on_goals)) (gives None) u
          (λ i. ends_then (λ o. o ≡ determined goals) (FindsBranch goal s) (goals_left cs (in_brackets (attempt C e).given) u) (λ o. on_found o on_goals)
          (ends_goals cs (in_brackets (attempt C e).given) u) (λ o v m. ends_left i (are_determined goals) refl o v m))
          (λ i. λ Ts t b. let q : Left e cs Ts = left goal s e h cs k Ts t b in absurd (no_both q.settled i))
        where
          no_both : {b : Bool} → b ≡ true → b ≡ false → ⊥
          no_both x y = absurd (cc)

    module _ (depth : ℕ) (goal : Term) where
      abbrev Verdict : Attempt → Option Changes → Type 0
      Verdict a (Some cs) = Unifies V C a.rest goal a.changes cs
      Verdict a None = Differs V C a.rest goal a.changes

      ends_unifies : (a : Attempt) (u : ℕ) → Ends (Verdict a) (unifies (unify V depth) C a goal u)
      ends_unifies a u = at (unify V depth C a.rest goal u a.changes) refl
        where
          at : (o : run.Answer Changes Bool) → unify V depth C a.rest goal u a.changes ≡ o → Ends (Verdict a) (unified o)
          at (run.done true v cs) e = (depth, u, v, e)
          at (run.done false v cs) e = (depth, u, v, cs, e)
          at (run.failed m v cs) e = tt
          at (run.out cs) e = tt
          at (run.need k) e = tt

      ends_verdict : (s : Source) (e : Candidate) → candidate V S C s ≡ Some e → (o : Option Changes) (u : ℕ) → Verdict (attempt C e) o
          → Ends (FindsBranch goal s) (on_found o (settled self (attempt C e)) u)
      ends_verdict s e h None u k = λ Ts t b.
          let a : Attempt = attempt C e in
          let p : Parts goal e Ts = parts_of goal s e h Ts t b in
          same_always.verdict C a.rest goal a.changes p.after p.fits.unifies k
      ends_verdict s e h (Some cs) u k = ends_settled goal s e h cs k u

      ends_by_candidate : (s : Source) (e : Candidate) → candidate V S C s ≡ Some e → (u : ℕ)
          → Ends (FindsBranch goal s) (by_candidate (unify V depth) self C goal e u)
      ends_by_candidate s e h u =
          let next : Attempt → Run (Option Term) = λ a. unifies (unify V depth) C a goal >>= (λ cs. on_found cs (settled self a)) in
          ends_then (λ a. a ≡ attempt C e) (FindsBranch goal s) (for_pis (length C) (pi_count e.ty) (before_pis e) u) next
          (ends_pis (length C) (pi_count e.ty) (before_pis e) u)
          (λ a v m. subst (λ q. Ends (FindsBranch goal s) (next q v)) (sym m)
          (ends_then (Verdict (attempt C e)) (FindsBranch goal s) (unifies (unify V depth) C (attempt C e) goal v)
          (λ cs. on_found cs (settled self (attempt C e)))
          (ends_unifies (attempt C e) v) (λ o w k. ends_verdict s e h o w k)))

      ends_try : (s : Source) (u : ℕ) → Ends (FindsBranch goal s) (try V S (unify V depth) self C goal s u)
      ends_try s u =
          ends_then (λ o. o ≡ candidate V S C s) (FindsBranch goal s) (candidate_at V S C s u) (λ o. on_found o (by_candidate (unify V depth) self C goal))
          (ends_candidate V S C s u) at
        where
          no_candidate : {o : Option Candidate} {e : Candidate} → None ≡ o → o ≡ Some e → ⊥
          no_candidate x y = absurd (cc)

          at : (o : Option Candidate) (v : ℕ) → o ≡ candidate V S C s → Ends (FindsBranch goal s) (on_found o (by_candidate (unify V depth) self C goal) v)
          at None v h = λ Ts t b. no_candidate h (branch goal s Ts t b).is
          at (Some e) v h = ends_by_candidate s e (sym h) v

      -- ---- All candidates

      record LeastFrom (ss : List Source) (t : Term) : Type 0 where
        place : ℕ
        source : Source
        is_at : slice_get ss place ≡ Some source
        taken : LeastBranch goal source t
        least : (i : ℕ) (s : Source) (other : Trees) (r : Term) → slice_get ss i ≡ Some s → IsBranch V S C d goal s other r
            → Less (tree i other) (tree place taken.trees) → ⊥

      abbrev FindsFrom : List Source → Option Term → Type 0
      FindsFrom ss (Some t) = LeastFrom ss t
      FindsFrom ss None = (i : ℕ) (s : Source) (Ts : Trees) (t : Term) → slice_get ss i ≡ Some s → IsBranch V S C d goal s Ts t → ⊥

      same_source : (s r : Source) → Some s ≡ Some r → s ≡ r
      same_source s r e = cc

      of_first : (s : Source) → HasNoBranch goal s → (r : Source) → Some s ≡ Some r → HasNoBranch goal r
      of_first s h r e = subst (λ q. HasNoBranch goal q) (same_source s r e) h

      lower : (i j : ℕ) (ts us : Trees) → Less (tree (suc i) ts) (tree (suc j) us) → Less (tree i ts) (tree j us)
      lower i j ts us (earlier h) = earlier (omega arith)
      lower i j ts us (same_place l) = same_place l

      least_first : (s : Source) (ss : List Source) (t : Term) (h : LeastBranch goal s t) (i : ℕ) (r : Source) (other : Trees) (x : Term)
          → slice_get (s ∷ ss) i ≡ Some r → IsBranch V S C d goal r other x → Less (tree i other) (tree 0 h.trees) → ⊥
      least_first s ss t h zero r other x e b (earlier l) = absurd (omega arith)
      least_first s ss t h zero r other x e b (same_place l) = h.least other x (subst (λ q. IsBranch V S C d goal q other x) (sym (same_source s r e)) b) l
      least_first s ss t h (suc i) r other x e b (earlier l) = absurd (omega arith)

      least_later : (s : Source) (ss : List Source) (t : Term) → HasNoBranch goal s → (k : LeastFrom ss t) (i : ℕ) (r : Source) (other : Trees) (x : Term)
          → slice_get (s ∷ ss) i ≡ Some r → IsBranch V S C d goal r other x → Less (tree i other) (tree (suc k.place) k.taken.trees) → ⊥
      least_later s ss t h k zero r other x e b l = of_first s h r e other x b
      least_later s ss t h k (suc i) r other x e b l = k.least i r other x e b (lower i k.place other k.taken.trees l)

      no_source : (s : Source) (ss : List Source) → HasNoBranch goal s → FindsFrom ss None → FindsFrom (s ∷ ss) None
      no_source s ss h k zero r Ts t e b = of_first s h r e Ts t b
      no_source s ss h k (suc i) r Ts t e b = k i r Ts t e b

      from_rest : (s : Source) (ss : List Source) → HasNoBranch goal s → (o : Option Term) → FindsFrom ss o → FindsFrom (s ∷ ss) o
      from_rest s ss h None k = no_source s ss h k
      from_rest s ss h (Some t) k = record { place = suc k.place; source = k.source; is_at = k.is_at; taken = k.taken; least = least_later s ss t h k }

      no_more : FindsFrom [] None
      no_more i s Ts t e b = absurd (cc)

      ends_all : (ss : List Source) (u : ℕ) → Ends (FindsFrom ss) (try_all V S (unify V depth) self C goal ss u)
      ends_all [] u = no_more
      ends_all (s ∷ ss) u =
          ends_then (FindsBranch goal s) (FindsFrom (s ∷ ss)) (try V S (unify V depth) self C goal s u)
          (λ o. or_next o (try_all V S (unify V depth) self C goal ss)) (ends_try s u) (at (λ v. ends_all ss v))
        where
          at : ((v : ℕ) → Ends (FindsFrom ss) (try_all V S (unify V depth) self C goal ss v)) → (o : Option Term) (v : ℕ) → FindsBranch goal s o
              → Ends (FindsFrom (s ∷ ss)) (or_next o (try_all V S (unify V depth) self C goal ss) v)
          at more (Some t) v h = record { place = 0; source = s; is_at = refl; taken = h; least = least_first s ss t h }
          at more None v h = ends_map (FindsFrom ss) (FindsFrom (s ∷ ss)) (try_all V S (unify V depth) self C goal ss v) (more v) (λ o k. from_rest s ss h o k)

      -- ---- A goal

      least_tree : (W : Term) → HasForm V C goal W → candidates.has_class V S W ≡ true → (t : Term) → LeastFrom (sources S C) t
          → IsLeast V S C (suc d) goal t
      least_tree W f c t k = record {
        tree = tree k.place k.taken.trees;
        is_tree = by_source f c k.is_at k.taken.is;
        least = at;
      }
        where
          at : (other : Tree) (r : Term) → IsTree V S C (suc d) goal other r → Less other (tree k.place k.taken.trees) → ⊥
          at (tree i ts) r (by_source hf hc hs hb) l = k.least i _ ts r hs hb l

      no_tree_from : FindsFrom (sources S C) None → HasNone V S C (suc d) goal
      no_tree_from k (tree i ts) t (by_source hf hc hs hb) = k i _ ts t hs hb

      no_class_tree : (W : Term) → HasForm V C goal W → candidates.has_class V S W ≡ false → HasNone V S C (suc d) goal
      no_class_tree W f c (tree i ts) t (by_source hf hc hs hb) =
          no_both (subst (λ q. candidates.has_class V S q ≡ true) (same_always.form C goal _ W hf f) hc) c
        where
          no_both : {b : Bool} → b ≡ true → b ≡ false → ⊥
          no_both x y = absurd (cc)

      as_goal : (W : Term) → HasForm V C goal W → candidates.has_class V S W ≡ true → (o : Option Term) → FindsFrom (sources S C) o
          → Finds V S C (suc d) goal o
      as_goal W f c None k = no_tree_from k
      as_goal W f c (Some t) k = least_tree W f c t k

      ends_form : (u : ℕ) → Ends (HasForm V C goal) ((calls V depth).whnf true C goal u)
      ends_form u = at ((calls V depth).whnf true C goal u) refl
        where
          at : (o : checker.Answer Term) → (calls V depth).whnf true C goal u ≡ o → Ends (HasForm V C goal) o
          at (checker.done W v) e = (depth, u, v, e)
          at (checker.refused r v) e = tt
          at checker.out e = tt
          at (checker.need k) e = tt

      ends_body : (u : ℕ) → Ends (Finds V S C (suc d) goal) (walk_body V S (calls V depth) (unify V depth) self C goal u)
      ends_body u =
          let all : Run (Option Term) = try_all V S (unify V depth) self C goal (sources S C) in
          ends_then (HasForm V C goal) (Finds V S C (suc d) goal) ((calls V depth).whnf true C goal u)
          (λ W. has_class V S W >>= (λ b. choose b all (gives None))) (ends_form u)
          (λ W v f. ends_then (λ b. b ≡ candidates.has_class V S W) (Finds V S C (suc d) goal) (has_class V S W v) (λ b. choose b all (gives None))
          (ends_class V S W v) (λ b w c. ends_choose (Finds V S C (suc d) goal) b all (gives None) w
          (λ e. ends_map (FindsFrom (sources S C)) (Finds V S C (suc d) goal) (all w) (ends_all (sources S C) w) (λ o k. as_goal W f (sym c ∙ e) o k))
          (λ e. no_class_tree W f (sym c ∙ e))))

  no_depth : (goal : Term) → HasNone V S C 0 goal
  no_depth goal T t x = elim x [ ]

  ends_walk : (depth d : ℕ) (goal : Term) (u : ℕ) → Ends (Finds V S C d goal) (walk V S depth d C goal u)
  ends_walk depth zero goal u = no_depth goal
  ends_walk zero (suc d) goal u = tt
  ends_walk (suc depth) (suc d) goal u = ends_body d (walk V S depth d C) (λ g v. ends_walk depth d g v) depth goal u

pub finds_least : WalkFindsLeast
finds_least V S depth C goal u = ends_walk V (steady V) S C depth greatest_tree goal u
