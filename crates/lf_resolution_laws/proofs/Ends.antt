-- What holds of the values of runs, and the steps of the walk that are functions: they give what the definition of trees speaks of.
use Rattle.std.proofs.Common.{
  ◌≡◌,
  ℕ,
  zero,
  suc,
  ◌-◌,
  Bool,
  true,
  false,
  not,
  ◌&&◌,
  nat_lt,
  if◌then◌else◌,
  Option,
  Some,
  None,
  List,
  [],
  ◌∷◌,
  slice_get,
  refl,
  ap,
  subst,
  ◌∙◌,
}
use Rattle.lf_core.specs.Term.{Path, Term}
use Rattle.lf_core.specs.Size.{node_count, depth}
use Rattle.lf_core.specs.Spine.{head_of}
use Rattle.lf_rules.specs.Environment.{Context}
use Rattle.lf_rules.specs.Recursor.{is_among}
use Rattle.lf_checker.specs.View.{View}
use Rattle.lf_checker.specs.Run.{
  Answer,
  done,
  refused,
  out,
  need,
  greatest_depth,
  greatest_variable,
  Run,
  go_on,
  ◌>>=◌,
  gives,
  gives_up,
  choose,
  spend,
  put,
  made,
}
use Rattle.lf_checker.specs.Calls.{Seen, known, unknown, missing, see}
use Rattle.lf_elaboration.specs.Scope.{Scope}
use Rattle.lf_elaboration.specs.Forms.{Binding, Instance, as_pi, as_constant}
use Rattle.lf_elaboration.specs.Metavariables.{Changes, count, put_in, has_assigned}
use Rattle.lf_elaboration.specs.Unifier.{has_any_metavariable}
use Rattle.lf_elaboration.specs.Apply.{Given}
use Rattle.lf_resolution.specs.Candidate as candidates
use Rattle.lf_resolution.specs.Candidate.{
  is_known,
  Source,
  of_local,
  of_instance,
  Candidate,
  as_local,
  local_candidate,
  at_fresh_levels,
  instance_candidate,
  candidate,
}
use Rattle.lf_resolution.specs.Attempt as attempts
use Rattle.lf_resolution.specs.Attempt.{Attempt, with_given, if_pi, goals_of, are_determined}
use Rattle.lf_resolution.specs.Walk.{
  seen,
  names_class,
  has_class,
  tried,
  local_at,
  instance_seen,
  candidate_at,
  with_pi,
  for_pis,
  instantiated,
  and_next,
  goals_left,
}
use Rattle.lf_resolution_laws.specs.Least.{Ends}

pub ends_then : {A B : Type 0} (P : A → Type 0) (Q : B → Type 0) (o : Answer A) (f : A → Run B) → Ends P o → ((x : A) (u : ℕ) → P x → Ends Q (f x u))
    → Ends Q (go_on o f)
ends_then P Q (done x u) f h k = k x u h
ends_then P Q (refused e u) f h k = tt
ends_then P Q out f h k = tt
ends_then P Q (need n) f h k = tt

pub ends_any : {A : Type 0} (o : Answer A) → Ends (λ x. Unit {0}) o
ends_any (done x u) = tt
ends_any (refused e u) = tt
ends_any out = tt
ends_any (need n) = tt

pub ends_map : {A : Type 0} (P Q : A → Type 0) (o : Answer A) → Ends P o → ((x : A) → P x → Q x) → Ends Q o
ends_map P Q (done x u) h k = k x h
ends_map P Q (refused e u) h k = tt
ends_map P Q out h k = tt
ends_map P Q (need n) h k = tt

pub ends_choose : {A : Type 0} (P : A → Type 0) (b : Bool) (m n : Run A) (u : ℕ) → (b ≡ true → Ends P (m u)) → (b ≡ false → Ends P (n u))
    → Ends P (choose b m n u)
ends_choose P true m n u h k = h refl
ends_choose P false m n u h k = k refl

pub ends_spend : {A : Type 0} (P : A → Type 0) (n : ℕ) (m : Run A) (u : ℕ) → ((v : ℕ) → Ends P (m v)) → Ends P (spend n m u)
ends_spend {A} P n m u h = at (nat_lt u n)
  where
    at : (b : Bool) → Ends P (if b then out else m (u - n))
    at true = tt
    at false = h (u - n)

pub ends_made : (t : Term) (u : ℕ) → Ends (λ x. x ≡ t) (made t u)
ends_made t u = ends_spend (λ x. x ≡ t) (node_count t) (put t) u
    (λ v. ends_choose (λ x. x ≡ t) (nat_lt greatest_depth (depth t)) gives_up (gives t) v (λ e. tt) (λ e. refl))

pub ends_instantiated : (cs : Changes) (t : Term) (u : ℕ) → Ends (λ x. x ≡ put_in cs t) (instantiated cs t u)
ends_instantiated cs t u = ends_choose (λ x. x ≡ put_in cs t) (has_assigned cs t) (made (put_in cs t)) (gives (put_in cs t)) u
    (λ e. ends_made (put_in cs t) u) (λ e. refl)

-- ---- Classes and candidates

ends_seen : (q : Seen) (u : ℕ) → Ends (λ b. b ≡ is_known q) (seen q u)
ends_seen (known k) u = refl
ends_seen unknown u = refl
ends_seen (missing k) u = tt

ends_names : (V : View) (S : Scope) (o : Option Instance) (u : ℕ) → Ends (λ b. b ≡ candidates.names_class V S o) (names_class V S o u)
ends_names V S None u = refl
ends_names V S (Some c) u = at (is_among c.name S.classes)
  where
    at : (b : Bool) → Ends (λ r. r ≡ (b && is_known (see V c.name))) (choose b (seen (see V c.name)) (gives false) u)
    at true = ends_seen (see V c.name) u
    at false = refl

pub ends_class : (V : View) (S : Scope) (t : Term) (u : ℕ) → Ends (λ b. b ≡ candidates.has_class V S t) (has_class V S t u)
ends_class V S t u = ends_names V S (as_constant (head_of t)) u

ends_tried : (e : Candidate) (u : ℕ) → Ends (λ o. o ≡ Some e) (tried e u)
ends_tried e u = ends_spend (λ o. o ≡ Some e) 1 (gives (Some e)) u (λ v. refl)

ends_both : (b m : Bool) (e : Candidate) (u : ℕ)
    → Ends (λ o. o ≡ (if b && not m then Some e else None)) (choose b (choose m (gives None) (tried e)) (gives None) u)
ends_both true true e u = refl
ends_both true false e u = ends_tried e u
ends_both false m e u = refl

ends_local : (V : View) (S : Scope) (k : ℕ) (o : Option Term) (u : ℕ) → Ends (λ r. r ≡ local_candidate V S k o) (local_at V S k o u)
ends_local V S k None u = refl
ends_local V S k (Some A) u =
    let m : Bool = has_any_metavariable A in
    let e : Candidate = as_local k A in
    ends_then (λ b. b ≡ candidates.has_class V S A) (λ r. r ≡ local_candidate V S k (Some A)) (has_class V S A u)
    (λ b. choose b (choose m (gives None) (tried e)) (gives None)) (ends_class V S A u)
    (λ b v h. subst (λ q. Ends (λ r. r ≡ (if q && not m then Some e else None)) (choose b (choose m (gives None) (tried e)) (gives None) v)) h
    (ends_both b m e v))

ends_instance : (n : Path) (q : Seen) (u : ℕ) → Ends (λ r. r ≡ instance_candidate n q) (instance_seen n q u)
ends_instance n (known k) u =
    let e : Candidate = at_fresh_levels n k in
    ends_spend (λ r. r ≡ Some e) 1 (made e.ty >>= (λ T. gives (Some e))) u
    (λ v. ends_then (λ T. Unit {0}) (λ r. r ≡ Some e) (made e.ty v) (λ T. gives (Some e)) (ends_any (made e.ty v)) (λ T w h. refl))
ends_instance n unknown u = refl
ends_instance n (missing k) u = tt

pub ends_candidate : (V : View) (S : Scope) (C : Context) (s : Source) (u : ℕ) → Ends (λ r. r ≡ candidate V S C s) (candidate_at V S C s u)
ends_candidate V S C (of_local k) u = ends_local V S k (slice_get C k) u
ends_candidate V S C (of_instance n) u = ends_instance n (see V n) u

-- ---- Metavariables, and the goals that are left

pub ends_pis : (locals n : ℕ) (a : Attempt) (u : ℕ) → Ends (λ r. r ≡ attempts.for_pis locals n a) (for_pis locals n a u)
ends_pis locals zero a u = refl
ends_pis locals (suc n) a u = at (λ b v. ends_pis locals n b v) (as_pi a.rest)
  where
    at : ((b : Attempt) (v : ℕ) → Ends (λ r. r ≡ attempts.for_pis locals n b) (for_pis locals n b v)) → (o : Option Binding)
        → Ends (λ r. r ≡ if_pi a o (λ p. attempts.for_pis locals n (with_given locals a p))) (with_pi locals a o (for_pis locals n) u)
    at more None = refl
    at more (Some p) =
        let b : Attempt = with_given locals a p in
        let Q : Attempt → Type 0 = λ r. r ≡ attempts.for_pis locals n b in
        ends_choose Q (nat_lt greatest_variable (count a.changes)) gives_up (put b.term >>= (λ f. made b.rest >>= (λ B. for_pis locals n b))) u (λ e. tt)
        (λ e. ends_then (λ f. Unit {0}) Q (put b.term u) (λ f. made b.rest >>= (λ B. for_pis locals n b)) (ends_any (put b.term u))
        (λ f v h. ends_then (λ B. Unit {0}) Q (made b.rest v) (λ B. for_pis locals n b) (ends_any (made b.rest v)) (λ B w i. more b w)))

abbrev pub determined : List Term → Option (List Term)
determined ts = if are_determined ts then Some ts else None

next_determined : (D : Bool) (t : Term) (ts : List Term) → and_next t (if D then Some ts else None) ≡ (if D then Some (t ∷ ts) else None)
next_determined true t ts = refl
next_determined false t ts = refl

pub ends_goals : (cs : Changes) (gs : List Given) (u : ℕ) → Ends (λ o. o ≡ determined (goals_of cs gs)) (goals_left cs gs u)
ends_goals cs [] u = refl
ends_goals cs (g ∷ gs) u =
    ends_then (λ t. t ≡ put_in cs g.ty) (λ o. o ≡ determined (goals_of cs (g ∷ gs))) (instantiated cs g.ty u)
    (λ t. choose (has_any_metavariable t) (gives None) (goals_left cs gs >>= (λ o. gives (and_next t o)))) (ends_instantiated cs g.ty u)
    (λ t v h. subst (λ q. Ends (λ o. o ≡ determined (q ∷ goals_of cs gs)) (choose (has_any_metavariable t) (gives None)
    (goals_left cs gs >>= (λ o. gives (and_next t o))) v)) h (at (λ w. ends_goals cs gs w) t v (has_any_metavariable t)))
  where
    at : ((w : ℕ) → Ends (λ o. o ≡ determined (goals_of cs gs)) (goals_left cs gs w)) → (t : Term) (v : ℕ) (b : Bool)
        → Ends (λ o. o ≡ (if not b && are_determined (goals_of cs gs) then Some (t ∷ goals_of cs gs) else None))
        (choose b (gives None) (goals_left cs gs >>= (λ o. gives (and_next t o))) v)
    at more t v true = refl
    at more t v false = ends_then (λ o. o ≡ determined (goals_of cs gs))
        (λ o. o ≡ (if are_determined (goals_of cs gs) then Some (t ∷ goals_of cs gs) else None)) (goals_left cs gs v) (λ o. gives (and_next t o)) (more v)
        (λ o w e. ap (and_next t) e ∙ next_determined (are_determined (goals_of cs gs)) t (goals_of cs gs))
