-- The unifier, rule by rule: it only adds changes, never answers with an error, and waits for what the view needs.
use Rattle.std.proofs.Common.{ℕ, zero, suc, Bool, true, false, List, [], ◌∷◌, Option, Some, None, refl}
use Rattle.lf_core.specs.Term.{Path, Universe, Term, bound, free, meta, sort, const, app, lam, pi, letin, lit, proj}
use Rattle.lf_rules.specs.Environment.{Context}
use Rattle.lf_checker.specs.View.{View}
use Rattle.lf_checker.specs.Calls.{Calls}
use Rattle.lf_checker.specs.Checker.{calls}
use Rattle.lf_checker.specs.Equal.{Verdict, decided, again, undecided}
use Rattle.lf_elaboration.specs.Forms.{Binding, Instance, Applied, Projection, as_constant, as_projection}
use Rattle.lf_elaboration.specs.Metavariables.{Changes}
use Rattle.lf_elaboration.specs.Run.{Answer, done, failed, out, need, Run, gives, spend, as_before, or_as_before}
use Rattle.lf_elaboration.specs.Unifier.{
  Unify,
  without_metavariables,
  Pattern,
  pattern_type,
  types_unify,
  solve,
  by_pattern,
  by_whnf,
  unify_bodies,
  unify_binders,
  lambda_left,
  lambda_right,
  by_sorts,
  by_pis,
  by_lambdas,
  successor_left,
  successor_right,
  by_form,
  unify_constants,
  unify_projections,
  unify_heads,
  unify_all,
  unify_spines,
  by_heads,
  unify_turn,
  unify_loop,
  unify_body,
  unify,
}
use Rattle.lf_core.specs.declared.constant.TaskKey.{TaskKey}
use Rattle.lf_extension_laws.specs.Needs.{IsWanted}
use Rattle.lf_extension_laws.proofs.Only.{Reads, Asks, only_then, only_spend, only_caught, only_choose, only_put, only_made, only_opening}
use Rattle.lf_extension_laws.proofs.OnlyEqual.{only_unfolding}
use Rattle.lf_extension_laws.proofs.OnlyInfer.{calls_ask}
use Rattle.lf_extension_laws.proofs.Wanted.{reads_wanted}
use Rattle.lf_extension_laws.proofs.Calm.{Any, reads_any}
use Rattle.lf_elaboration_laws.specs.Unifier.{Leaves, UnifierIsCalm}
use Rattle.lf_elaboration_laws.specs.Needs.{Waits, UnifierWaits}
use Rattle.lf_elaboration_laws.proofs.Calm.{
  Calm,
  Left,
  same,
  calm_then,
  calm_choose,
  calm_spend,
  calm_checks,
  calm_refused,
  calm_before,
  calm_leaves,
  calm_and,
  calm_level,
  calm_levels,
  calm_instantiated,
  calm_abstraction,
  calm_decided,
  calm_decides,
  calm_if_true,
  calm_predecessors,
}

ruleset calm = (same, calm_then, calm_choose, calm_checks, calm_refused)

-- What is asked of the checker.
ruleset only = (only_then, only_spend, only_caught, only_choose, only_put, only_made, only_opening)

module _ (Key : TaskKey → Type 0) (c : Calls) (a : Asks Key c) (f : Unify)
    (h : (C : Context) (a b : Term) (u : ℕ) (cs : Changes) → Calm Key cs (f C a b u cs)) where
  calm_pattern_type : (C : Context) (p : Pattern) (ks : List ℕ) (q : Term) (u : ℕ) (cs : Changes) → Calm Key cs (pattern_type c C p ks q u cs)
  calm_pattern_type C p [] q u cs = same cs
  calm_pattern_type C p (k ∷ ks) q u cs = search (calm, only, a.infer) depth 10

  calm_types : (C : Context) (A B : Option Term) (u : ℕ) (cs : Changes) → Calm Key cs (types_unify f C A B u cs)
  calm_types C (Some A) (Some B) u cs = h C A B u cs
  calm_types C (Some A) None u cs = same cs
  calm_types C None B u cs = same cs

  calm_solve : (C : Context) (p : Pattern) (q t : Term) (u : ℕ) (cs : Changes) → Calm Key cs (solve c f C p q t u cs)
  calm_solve C p q t u cs = search (calm, only, a.infer, calm_pattern_type, calm_types, calm_and Key, calm_abstraction Key) depth 18

  calm_pattern : (C : Context) (o : Option Pattern) (q t : Term) (u : ℕ) (cs : Changes) → Calm Key cs (by_pattern c f C o q t u cs)
  calm_pattern C None q t u cs = same cs
  calm_pattern C (Some p) q t u cs = search (calm_decides Key, calm_solve)

  calm_bodies : (C : Context) (A s t : Term) (u : ℕ) (cs : Changes) → Calm Key cs (unify_bodies f C A s t u cs)
  calm_bodies C A s t u cs = search (calm, only, h) depth 14

  calm_binders : (C : Context) (A s B t : Term) (u : ℕ) (cs : Changes) → Calm Key cs (unify_binders f C A s B t u cs)
  calm_binders C A s B t u cs = search (calm, only, h, calm_and Key, calm_bodies) depth 14

  calm_lambda_left : (C : Context) (A s t : Term) (u : ℕ) (cs : Changes) → Calm Key cs (lambda_left f C A s t u cs)
  calm_lambda_left C A s t u cs = search (calm, only, h) depth 14

  calm_lambda_right : (C : Context) (t A s : Term) (u : ℕ) (cs : Changes) → Calm Key cs (lambda_right f C t A s u cs)
  calm_lambda_right C t A s u cs = search (calm, only, h) depth 14

  calm_sorts : (x y : Option Universe) (u : ℕ) (cs : Changes) → Calm Key cs (by_sorts x y u cs)
  calm_sorts (Some l) (Some m) u cs = search (calm_decides Key, calm_level Key)
  calm_sorts (Some l) None u cs = same cs
  calm_sorts None y u cs = same cs

  calm_pis : (C : Context) (x y : Option Binding) (u : ℕ) (cs : Changes) → Calm Key cs (by_pis f C x y u cs)
  calm_pis C (Some x) (Some y) u cs = search (calm_decides Key, calm_binders)
  calm_pis C (Some x) None u cs = same cs
  calm_pis C None y u cs = same cs

  calm_lambdas : (C : Context) (s t : Term) (x y : Option Binding) (u : ℕ) (cs : Changes) → Calm Key cs (by_lambdas f C s t x y u cs)
  calm_lambdas C s t (Some x) (Some y) u cs = search (calm_decides Key, calm_binders)
  calm_lambdas C s t (Some x) None u cs = search (calm_decides Key, calm_lambda_left)
  calm_lambdas C s t None (Some y) u cs = search (calm_decides Key, calm_lambda_right)
  calm_lambdas C s t None None u cs = same cs

  calm_successor_left : (C : Context) (x : Option Applied) (y : Option ℕ) (u : ℕ) (cs : Changes) → Calm Key cs (successor_left f C x y u cs)
  calm_successor_left C (Some x) (Some (suc n)) u cs = search (calm_predecessors Key, h)
  calm_successor_left C (Some x) (Some zero) u cs = same cs
  calm_successor_left C (Some x) None u cs = same cs
  calm_successor_left C None y u cs = same cs

  calm_successor_right : (C : Context) (x : Option ℕ) (y : Option Applied) (u : ℕ) (cs : Changes) → Calm Key cs (successor_right f C x y u cs)
  calm_successor_right C (Some (suc n)) (Some y) u cs = search (calm_predecessors Key, h)
  calm_successor_right C (Some zero) (Some y) u cs = same cs
  calm_successor_right C (Some n) None u cs = same cs
  calm_successor_right C None y u cs = same cs

  calm_form : (C : Context) (s t : Term) (u : ℕ) (cs : Changes) → Calm Key cs (by_form f C s t u cs)
  calm_form C s t u cs = search (calm, only, calm_decided Key, calm_sorts, calm_pis, calm_lambdas, calm_successor_left, calm_successor_right) depth 24

  calm_constants : (n : Path) (ls : List Universe) (x : Option Instance) (u : ℕ) (cs : Changes) → Calm Key cs (unify_constants n ls x u cs)
  calm_constants n ls (Some x) u cs = search (calm, only, calm_levels Key)
  calm_constants n ls None u cs = same cs

  calm_projections : (C : Context) (S : Path) (i : ℕ) (t : Term) (x : Option Projection) (u : ℕ) (cs : Changes)
      → Calm Key cs (unify_projections f C S i t x u cs)
  calm_projections C S i t (Some x) u cs = search (calm, only, h)
  calm_projections C S i t None u cs = same cs

  calm_heads : (C : Context) (s t : Term) (u : ℕ) (cs : Changes) → Calm Key cs (unify_heads f C s t u cs)
  calm_heads C (const n ls) t u cs = calm_constants n ls (as_constant t) u cs
  calm_heads C (proj S i s) t u cs = calm_projections C S i s (as_projection t) u cs
  calm_heads C (free k) t u cs = same cs
  calm_heads C (meta k) t u cs = same cs
  calm_heads C (bound k) t u cs = same cs
  calm_heads C (sort l) t u cs = same cs
  calm_heads C (app r s) t u cs = same cs
  calm_heads C (lam x A s) t u cs = same cs
  calm_heads C (pi x A B) t u cs = same cs
  calm_heads C (letin x A v s) t u cs = same cs
  calm_heads C (lit n) t u cs = same cs

  calm_all : (C : Context) (xs ys : List Term) (u : ℕ) (cs : Changes) → Calm Key cs (unify_all f C xs ys u cs)
  calm_all C [] [] u cs = same cs
  calm_all C (x ∷ xs) (y ∷ ys) u cs = search (calm, only, h, calm_and Key, calm_all C xs ys) depth 14
  calm_all C [] (y ∷ ys) u cs = same cs
  calm_all C (x ∷ xs) [] u cs = same cs

  calm_spines : (C : Context) (s t : Term) (u : ℕ) (cs : Changes) → Calm Key cs (unify_spines f C s t u cs)
  calm_spines C s t u cs = search (calm, only, calm_heads, calm_and Key, calm_all) depth 14

  calm_or_before : (m : Run Changes Bool) (u : ℕ) (cs : Changes) → Calm Key cs (m u cs) → Calm Key cs (or_as_before m u cs)
  calm_or_before m u cs k = calm_leaves Key cs (as_before cs (m u cs)) (calm_before Key cs (m u cs) k)

  calm_by_heads : (C : Context) (s t : Term) (u : ℕ) (cs : Changes) → Calm Key cs (by_heads f C s t u cs)
  calm_by_heads C s t u cs = search (calm, only, calm_if_true Key, calm_or_before, calm_spines) depth 14

  calm_without : (C : Context) (s t : Term) (u : ℕ) (cs : Changes) → Calm Key cs (without_metavariables c C s t u cs)
  calm_without C s t u cs = search (calm, only, a.equal, calm_decides Key) depth 12

  calm_whnf : (C : Context) (s t : Term) (u : ℕ) (cs : Changes) → Calm Key cs (by_whnf c C s t u cs)
  calm_whnf C s t u cs = search (calm, only, a.whnf) depth 16

  module _ (V : View) (reads : Reads V Key) where
    calm_turn : (C : Context) (s t : Term) (u : ℕ) (cs : Changes) → Calm Key cs (unify_turn V c f C s t u cs)
    calm_turn C s t u cs =
        search (calm, only, only_unfolding V Key reads true, calm_decided Key, calm_without, calm_pattern, calm_whnf, calm_form, calm_by_heads) depth 44

    calm_loop : (C : Context) (n : ℕ) (s t : Term) (u : ℕ) (cs : Changes) → Calm Key cs (unify_loop V c f C n s t u cs)
    calm_loop C zero s t u cs = same cs
    calm_loop C (suc n) s t u cs = calm_then Key cs (unify_turn V c f C s t u cs) _ (calm_turn C s t u cs) (more (λ y z v ds. calm_loop C n y z v ds))
      where
        more : ((y z : Term) (v : ℕ) (ds : Changes) → Calm Key ds (unify_loop V c f C n y z v ds)) → (r : Verdict) (v : ℕ) (ds : Changes)
            → Calm Key ds ((elim r as (λ q. Run Changes Bool) [ decided b ↦ gives b | again y z ↦ unify_loop V c f C n y z | undecided ↦ gives false ]) v ds)
        more k (decided b) v ds = same ds
        more k (again y z) v ds = k y z v ds
        more k undecided v ds = same ds

    calm_body : (C : Context) (s t : Term) (u : ℕ) (cs : Changes) → Calm Key cs (unify_body V c f C s t u cs)
    unfolding unify_body
    calm_body C s t u cs = search (calm, only, calm_instantiated Key, calm_loop) depth 14

pub unifier_left : (V : View) (Key : TaskKey → Type 0) → Reads V Key → (n : ℕ) (C : Context) (s t : Term) (u : ℕ) (cs : Changes)
    → Left Key cs (unify V n C s t u cs)
unifier_left V Key reads zero C s t u cs = refl
unifier_left V Key reads (suc n) C s t u cs =
    let m : Run Changes Bool = unify_body V (calls V n) (unify V n) C s t in
    calm_before Key cs (spend 1 m u cs) (calm_spend Key 1 m u cs (λ v. calm_body Key (calls V n) (calls_ask V Key reads n) (unify V n)
    (λ D y z w ds. calm_leaves Key ds (unify V n D y z w ds) (unifier_left V Key reads n D y z w ds)) V reads C s t v cs))

left_leaves : (cs : Changes) (o : Answer Changes Bool) → Left Any cs o → Leaves cs o
left_leaves cs (done true u new) h = h
left_leaves cs (done false u new) h = h
left_leaves cs (failed m u new) h = h
left_leaves cs (out new) h = h
left_leaves cs (need k) h = tt

pub unifier_is_calm : UnifierIsCalm
unifier_is_calm V n C s t u cs = left_leaves cs (unify V n C s t u cs) (unifier_left V Any (reads_any V) n C s t u cs)

left_waits : (V : View) (cs : Changes) (o : Answer Changes Bool) → Left (IsWanted V) cs o → Waits V o
left_waits V cs (done x u new) h = tt
left_waits V cs (failed m u new) h = tt
left_waits V cs (out new) h = tt
left_waits V cs (need k) h = h

pub unifier_waits : UnifierWaits
unifier_waits V n C s t u cs = left_waits V cs (unify V n C s t u cs) (unifier_left V (IsWanted V) (reads_wanted V) n C s t u cs)
