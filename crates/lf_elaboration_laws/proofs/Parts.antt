-- The extension law of the parts of elaboration that read names, types and levels, and of what is done where a binder closes.
use Rattle.std.proofs.Common.{◌≡◌, ℕ, Bool, true, false, if◌then◌else◌, not, List, [], ◌∷◌, length, Option, Some, None, is_some, slice_get, refl, ap, subst}
use Rattle.lf_core.specs.Term.{Path, Universe, Term}
use Rattle.lf_syntax.specs.declared.leaf.Ident.{Ident}
use Rattle.lf_syntax.specs.Tree.{LevelTree, ItemTree}
use Rattle.lf_checker.specs.View.{View, Lookup, found, absent, need_body, need_real, lookup_of, placed_of}
use Rattle.lf_checker.specs.Extends.{Shape, IsAnswered, position_placed, Tells}
use Rattle.lf_checker.specs.Calls.{Seen, known, unknown, missing, seen_as, see, Mode, unchecked}
use Rattle.lf_extension_laws.proofs.Kept.{SameSeen, see_kept}
use Rattle.lf_elaboration.specs.declared.hole.Hole.{Hole}
use Rattle.lf_elaboration.specs.Metavariables.{Changes, Metavariable, metavariables, types_of}
use Rattle.lf_elaboration.specs.Run as run
use Rattle.lf_elaboration.specs.Run.{Answer, done, failed, out, need, go_on, ◌>>=◌, ◌>>◌, choose, or_else_fail, checks, checks_or}
use Rattle.lf_elaboration.specs.Part.{Part, Locals, State, Run, Calls, Typed, back, unify, whnf, ask, type_of, sort_of, refusal_at}
use Rattle.lf_elaboration.specs.Identifiers.{
  levels_at,
  own_levels_at,
  constant_at,
  Meaning,
  own_type,
  constant,
  nothing,
  waits,
  is_own,
  or_next,
  first_found,
  meaning_of,
  is_realized,
  own_at,
  of_meaning,
  of_local,
  identifier,
  by_name,
  constant_named,
}
use Rattle.lf_elaboration.specs.Scope.{candidates_of, local_named}
use Rattle.lf_elaboration.specs.Closing.{
  after_block,
  as_block,
  proved_by,
  unless_assigned,
  sorry_for,
  settled,
  run_block,
  find_instance,
  run_by,
  run_made,
  run_hole,
  run_holes,
  close,
  close_binder,
}
use Rattle.lf_elaboration_laws.specs.Extension.{Kept, Synthesis, Agree, on_view}
use Rattle.lf_elaboration_laws.proofs.Kept.{kept_self, kept_then, kept_choose, kept_or_fail, kept_spend, kept_answered, kept_checks}

-- A part and the same part on a view that tells more, with what a call may call on each.
pub record Setting : Type 0 where
  pub part : Part
  pub view : View
  pub synthesis : Synthesis
  pub tells : Tells view part.view
  pub left : Calls
  pub right : Calls
  pub agree : Agree left right

abbrev pub larger : Setting → Part
larger e = on_view e.part e.view e.synthesis

ruleset kept = (kept_self, kept_then, kept_choose, kept_or_fail, kept_spend)

pub kept_back : {A : Type 0} (s : State) (o p : Answer Changes A) → Kept o p → Kept (back s o) (back s p)
kept_back s (done x u cs) p h = subst (λ q. Kept (back s (done x u cs)) (back s q)) h refl
kept_back s (failed m u cs) p h = subst (λ q. Kept (back s (failed m u cs)) (back s q)) h refl
kept_back s (out cs) p h = subst (λ q. Kept (back s (out cs)) (back s q)) h refl
kept_back s (need k) p h = tt

pub kept_block : {A : Type 0} (s : State) (o p : Answer State A) → Kept o p → Kept (after_block s o) (after_block s p)
kept_block s (done x u t) p h = subst (λ q. Kept (after_block s (done x u t)) (after_block s q)) h refl
kept_block s (failed m u t) p h = subst (λ q. Kept (after_block s (failed m u t)) (after_block s q)) h refl
kept_block s (out t) p h = subst (λ q. Kept (after_block s (out t)) (after_block s q)) h refl
kept_block s (need k) p h = tt

-- ---- Names

known_answered : (n : Path) (c : Shape) (l : Lookup) → seen_as n l ≡ known c → IsAnswered l
known_answered n c (found d) h = tt
known_answered n c absent h = tt
known_answered n c (need_body p) h = absurd (cc)
known_answered n c need_real h = tt

some_position : (o p : Option (ℕ × ℕ)) → position_placed o ≡ position_placed p → is_some o ≡ is_some p
some_position (Some a) (Some b) h = refl
some_position (Some a) None h = absurd (cc)
some_position None (Some b) h = absurd (cc)
some_position None None h = refl

pub realized_kept : (U V : View) → Tells V U → (n : Path) (c : Shape) → see U n ≡ known c → is_realized U n ≡ is_realized V n
realized_kept U V x n c h =
    ap not (some_position (placed_of U n) (placed_of V n) (x.entries n (known_answered n c (lookup_of U n) h)))

abbrev pub SameMeaning : View → View → Meaning → Meaning → Type 0
SameMeaning U V (waits k) m = Unit {0}
SameMeaning U V (own_type n) m = own_type n ≡ m
SameMeaning U V (constant n c) m = (constant n c ≡ m) × (is_realized U n ≡ is_realized V n)
SameMeaning U V nothing m = nothing ≡ m

next_kept : (U V : View) → Tells V U → (n : Path) (s : Seen) → see U n ≡ s → (l m : Meaning) → SameMeaning U V l m
    → SameMeaning U V (or_next n s l) (or_next n (see V n) m)
next_kept U V x n (known c) q l m h =
    let same : known c ≡ see V n = subst (λ r. SameSeen r (see V n)) q (see_kept U V x n) in
    (ap (λ r. or_next n r m) same, realized_kept U V x n c q)
next_kept U V x n unknown q l m h =
    let same : unknown ≡ see V n = subst (λ r. SameSeen r (see V n)) q (see_kept U V x n) in
    subst (λ r. SameMeaning U V l (or_next n r m)) same h
next_kept U V x n (missing k) q l m h = tt

pub found_kept : (U V : View) → Tells V U → (own : Option Path) (ns : List Path) → SameMeaning U V (first_found U own ns) (first_found V own ns)
found_kept U V x own [] = refl
found_kept U V x own (n ∷ ns) = at (found_kept U V x own ns) (is_own own n)
  where
    at : SameMeaning U V (first_found U own ns) (first_found V own ns) → (b : Bool)
        → SameMeaning U V (if b then own_type n else or_next n (see U n) (first_found U own ns))
        (if b then own_type n else or_next n (see V n) (first_found V own ns))
    at h true = refl
    at h false = next_kept U V x n (see U n) refl (first_found U own ns) (first_found V own ns) h

module _ (e : Setting) where
  pub kept_unify : (L : Locals) (a b : Term) (u : ℕ) (w : State) → Kept (unify e.left L a b u w) (unify e.right L a b u w)
  kept_unify L a b u w = kept_back w _ _ (e.agree.unify L.types a b u w.changes)

  pub kept_whnf : (L : Locals) (t : Term) (u : ℕ) (w : State) → Kept (whnf e.left L t u w) (whnf e.right L t u w)
  kept_whnf L t u w = kept_checks (e.left.check.whnf true L.types t) (e.right.check.whnf true L.types t) u w (e.agree.check.whnf true L.types t u)

  pub kept_type_of : (L : Locals) (at : ℕ) (t : Term) (u : ℕ) (w : State) → Kept (type_of e.part e.left L at t u w) (type_of (larger e) e.right L at t u w)
  kept_type_of L at t u w =
      let m : Mode = unchecked (types_of w.changes) in
      kept_answered (refusal_at e.part L at) (refusal_at (larger e) L at) w (e.left.check.infer m L.types t u) (e.right.check.infer m L.types t u)
      (e.agree.check.infer m L.types t u) (λ r v. kept_self (refusal_at e.part L at r v w))

  pub kept_sort_of : (L : Locals) (at : ℕ) (t : Term) (u : ℕ) (w : State) → Kept (sort_of e.part e.left L at t u w) (sort_of (larger e) e.right L at t u w)
  kept_sort_of L at t u w = search (kept, kept_type_of, kept_whnf) depth 12

  -- ---- Identifiers

  kept_own_at : (n : Path) (y : Ident) (ls : List Universe) (s t : Seen) → SameSeen s t → (u : ℕ) (w : State) → Kept (own_at n y ls s u w) (own_at n y ls t u w)
  kept_own_at n y ls (known c) t h u w = subst (λ q. Kept (own_at n y ls (known c) u w) (own_at n y ls q u w)) h (kept_self (own_at n y ls (known c) u w))
  kept_own_at n y ls unknown t h u w = subst (λ q. Kept (own_at n y ls unknown u w) (own_at n y ls q u w)) h refl
  kept_own_at n y ls (missing k) t h u w = tt

  kept_meaning : (y : Ident) (ls : List LevelTree) (m n : Meaning) → SameMeaning e.part.view e.view m n → (u : ℕ) (w : State)
      → Kept (of_meaning e.part y ls m u w) (of_meaning (larger e) y ls n u w)
  kept_meaning y ls (waits k) n h u w = tt
  kept_meaning y ls nothing n h u w = subst (λ q. Kept (of_meaning e.part y ls nothing u w) (of_meaning (larger e) y ls q u w)) h refl
  kept_meaning y ls (own_type k) n h u w =
      subst (λ q. Kept (of_meaning e.part y ls (own_type k) u w) (of_meaning (larger e) y ls q u w)) h
      (kept_then (own_levels_at e.part.levels y k ls u w) (own_levels_at e.part.levels y k ls u w) (λ ms. own_at k y ms (see e.part.view k))
      (λ ms. own_at k y ms (see e.view k)) (kept_self (own_levels_at e.part.levels y k ls u w))
      (λ ms v z. kept_own_at k y ms (see e.part.view k) (see e.view k) (see_kept e.part.view e.view e.tells k) v z))
  kept_meaning y ls (constant k c) n h u w =
      let by : Bool → Answer State Typed = λ b. go_on (choose b (ask k) (run.gives tt) u w)
      (λ z. levels_at e.part.levels y k (length c.levels) ls >>= (λ ms. constant_at k ms c.ty)) in
      subst (λ q. Kept (of_meaning e.part y ls (constant k c) u w) (of_meaning (larger e) y ls q u w)) h.0
      (subst (λ b. Kept (by (is_realized e.part.view k)) (by b)) h.1 (kept_self (by (is_realized e.part.view k))))

  pub kept_identifier : (L : Locals) (y : Ident) (ls : List LevelTree) (u : ℕ) (w : State)
      → Kept (identifier e.part L y ls u w) (identifier (larger e) L y ls u w)
  kept_identifier L y ls u w = at (local_named L.names y.name)
    where
      at : (o : Option ℕ) → Kept (of_local e.part L y ls o u w) (of_local (larger e) L y ls o u w)
      at (Some k) = refl
      at None =
          kept_meaning y ls (meaning_of e.part y.name) (meaning_of (larger e) y.name)
          (found_kept e.part.view e.view e.tells e.part.own (candidates_of e.part.scope e.part.inside y.name)) u w

  pub kept_named : (at : ℕ) (n : Path) (u : ℕ) (w : State) → Kept (constant_named e.part at n u w) (constant_named (larger e) at n u w)
  kept_named at n u w = by (see e.part.view n) (see e.view n) (see_kept e.part.view e.view e.tells n)
    where
      by : (s t : Seen) → SameSeen s t → Kept (by_name e.part at n s u w) (by_name (larger e) at n t u w)
      by (known c) t h = subst (λ q. Kept (by_name e.part at n (known c) u w) (by_name (larger e) at n q u w)) h (kept_self (by_name e.part at n (known c) u w))
      by unknown t h = subst (λ q. Kept (by_name e.part at n unknown u w) (by_name (larger e) at n q u w)) h refl
      by (missing k) t h = tt

  -- ---- Closing

  pub kept_proved_by : (L : Locals) (at m : ℕ) (goal t : Term) (u : ℕ) (w : State)
      → Kept (proved_by e.part e.left L at m goal t u w) (proved_by (larger e) e.right L at m goal t u w)
  kept_proved_by L at m goal t u w = search (kept, kept_unify) depth 12

  kept_sorry_for : (L : Locals) (at : ℕ) (A : Term) (u : ℕ) (w : State)
      → Kept (sorry_for e.part e.left L at A u w) (sorry_for (larger e) e.right L at A u w)
  kept_sorry_for L at A u w = search (kept, kept_sort_of) depth 10

  kept_unless_assigned : (m : ℕ) (n k : Run (Unit {0})) (u : ℕ) (w : State) → ((v : ℕ) (z : State) → Kept (n v z) (k v z))
      → Kept (unless_assigned m n u w) (unless_assigned m k u w)
  kept_unless_assigned m n k u w h = search (kept, h) depth 10

  kept_settled : (L : Locals) (at m : ℕ) (goal : Term) (o : Option Term) (u : ℕ) (w : State)
      → Kept (settled e.part e.left L at m goal o u w) (settled (larger e) e.right L at m goal o u w)
  kept_settled L at m goal (Some t) u w = kept_proved_by L at m goal t u w
  kept_settled L at m goal None u w = search (kept, kept_unless_assigned, kept_sorry_for) depth 10

  kept_as_block : (L : Locals) (goal : Term) (is : List ItemTree) (u : ℕ) (w : State)
      → Kept (as_block (e.left.prove L goal is) u w) (as_block (e.right.prove L goal is) u w)
  kept_as_block L goal is u w =
      kept_block w (e.left.prove L goal is u (record w { nodes = [] })) (e.right.prove L goal is u (record w { nodes = [] }))
      (e.agree.prove L goal is u (record w { nodes = [] }))

  kept_run_block : (L : Locals) (at m : ℕ) (A : Term) (is : List ItemTree) (u : ℕ) (w : State)
      → Kept (run_block e.part e.left L at m A is u w) (run_block (larger e) e.right L at m A is u w)
  kept_run_block L at m A is u w = search (kept, kept_as_block, kept_settled) depth 16

  kept_find_instance : (L : Locals) (at m : ℕ) (A : Term) (u : ℕ) (w : State)
      → Kept (find_instance e.part e.left L at m A u w) (find_instance (larger e) e.right L at m A u w)
  kept_find_instance L at m A u w = search (kept, kept_checks, e.agree.synthesize) depth 16

  kept_run_by : (L : Locals) (h : ℕ) (m : Metavariable) (o : Option (List ItemTree)) (u : ℕ) (w : State)
      → Kept (run_by e.part e.left L h m o u w) (run_by (larger e) e.right L h m o u w)
  kept_run_by L h m (Some is) u w = kept_run_block L m.at h m.ty is u w
  kept_run_by L h m None u w = search (kept_unless_assigned, kept_find_instance)

  kept_run_made : (L : Locals) (h : Hole) (o : Option Metavariable) (u : ℕ) (w : State)
      → Kept (run_made e.part e.left L h o u w) (run_made (larger e) e.right L h o u w)
  kept_run_made L h None u w = refl
  kept_run_made L h (Some m) u w = kept_run_by L h.metavariable m h.items u w

  kept_run_holes : (L : Locals) (hs : List Hole) (u : ℕ) (w : State) → Kept (run_holes e.part e.left L hs u w) (run_holes (larger e) e.right L hs u w)
  kept_run_holes L [] u w = refl
  kept_run_holes L (h ∷ hs) u w =
      kept_then (run_hole e.part e.left L h u w) (run_hole (larger e) e.right L h u w) (λ x. run_holes e.part e.left L hs)
      (λ x. run_holes (larger e) e.right L hs) (kept_run_made L h (slice_get (metavariables w.changes) h.metavariable) u w)
      (λ x v z. kept_run_holes L hs v z)

  pub kept_close : (L : Locals) (k : ℕ) (levels : Option ℕ) (u : ℕ) (w : State)
      → Kept (close e.part e.left L k levels u w) (close (larger e) e.right L k levels u w)
  kept_close L k levels u w = search (kept, kept_run_holes) depth 12

  pub kept_close_binder : (L : Locals) (k n : ℕ) (u : ℕ) (w : State)
      → Kept (close_binder e.part e.left L k n u w) (close_binder (larger e) e.right L k n u w)
  kept_close_binder L k n u w = search (kept, kept_close) depth 8
