-- The type that `infer` gives to a constructor at its parameters.
use Rattle.std.proofs.Common.{◌≡◌, ℕ, zero, suc, ◌+◌, Bool, true, List, [], ◌∷◌, length, map, refl, sym, ap, subst, ◌∙◌, arith, nat_eq}
use Rattle.std.proofs.lemmas.List.{length-map}
use Rattle.lf_core.specs.Term.{Path, Universe, Term, const, app, pi}
use Rattle.lf_core.specs.Substitution.{instantiate_at, instantiate, level_substitute, level_instantiate}
use Rattle.lf_core.specs.Spine.{apply}
use Rattle.lf_rules.specs.Environment.{Context}
use Rattle.lf_name.specs.declared.binder.Binder.{Binder}
use Rattle.lf_core.specs.declared.constant.ConstInfo.{ConstInfo}
use Rattle.lf_checker.specs.View.{View, Lookup, found, absent, need_body, need_real, lookup_of}
use Rattle.lf_checker.specs.Run.{Run, ◌>>=◌, refuse, made}
use Rattle.lf_checker.specs.declared.fault.TypeFault.TheVariants.{Levels}
use Rattle.lf_checker.specs.Calls.{checked, Calls, seen_as}
use Rattle.lf_checker.specs.Whnf.{turn_limit, whnf_body}
use Rattle.lf_checker.specs.Infer.{of_constant, on_pi, argument_fits, infer_body}
use Rattle.lf_checker.specs.Checker.{turn, calls}
use Rattle.lf_inductive_laws.specs.Declarations.{EndsIn}
use Rattle.lf_checker_laws.specs.Soundness.{Post}
use Rattle.lf_checker_laws.proofs.Runs.{post_then, post_any, post_spend, post_choose, post_made}

instantiate_at-apply : (d : ℕ) (a f : Term) (xs : List Term)
    → instantiate_at d (apply f xs) a ≡ apply (instantiate_at d f a) (map (λ x. instantiate_at d x a) xs)
instantiate_at-apply d a f [] = refl
instantiate_at-apply d a f (x ∷ xs) = instantiate_at-apply d a (app f x) xs

level_instantiate-apply : (ls : List Universe) (f : Term) (xs : List Term)
    → level_instantiate ls (apply f xs) ≡ apply (level_instantiate ls f) (map (level_instantiate ls) xs)
level_instantiate-apply ls f [] = refl
level_instantiate-apply ls f (x ∷ xs) = level_instantiate-apply ls (app f x) xs

instantiate_ends : (T : Path) (n m d : ℕ) (a A : Term) → EndsIn T n m A → EndsIn T n m (instantiate_at d A a)
instantiate_ends T zero m d a A (ls, xs, e, l) = (
  ls,
  map (λ x. instantiate_at d x a) xs,
  ap (λ t. instantiate_at d t a) e ∙ instantiate_at-apply d a (const T ls) xs,
  length-map xs
      (λ x. instantiate_at d x a) ∙ l,
)
instantiate_ends T (suc n) m d a (pi x A B) h = instantiate_ends T n m (suc d) a B h
instantiate_ends T (suc n) m d a _ h = absurd h

levels_end : (T : Path) (n m : ℕ) (ks : List Universe) (A : Term) → EndsIn T n m A → EndsIn T n m (level_instantiate ks A)
levels_end T zero m ks A (ls, xs, e, l) = (
  map (level_substitute ks) ls,
  map (level_instantiate ks) xs,
  ap (level_instantiate ks) e ∙ level_instantiate-apply ks (const T ls) xs,
  length-map xs
      (level_instantiate ks) ∙ l,
)
levels_end T (suc n) m ks (pi x A B) h = levels_end T n m ks B h
levels_end T (suc n) m ks _ h = absurd h

-- The constant k, at arguments that leave n of its p pis.
pub data Spine (k : Path) (p : ℕ) : ℕ → Term → Type 0 where
  bare : (ms : List Universe) → Spine k p p (const k ms)
  more : {n : ℕ} {f : Term} (a : Term) → Spine k p (suc n) f → Spine k p n (app f a)

spine_apply : (k : Path) (p n : ℕ) (f : Term) (xs : List Term) → Spine k p (length xs + n) f → Spine k p n (apply f xs)
spine_apply k p n f [] s = let e : 0 + n ≡ n = omega arith in subst (λ m. Spine k p m f) e s
spine_apply k p n f (x ∷ xs) s =
    let e : length (x ∷ xs) + n ≡ suc (length xs + n) = omega arith in
    spine_apply k p n (app f x) xs (more x (subst (λ m. Spine k p m f) e s))

pub spine_of : (k : Path) (ms : List Universe) (xs : List Term) → Spine k (length xs) 0 (apply (const k ms) xs)
spine_of k ms xs = let e : length xs ≡ length xs + 0 = omega arith in spine_apply k (length xs) 0 (const k ms) xs
    (subst (λ n. Spine k (length xs) n (const k ms)) e (bare ms))

abbrev pub TypeEnds : View → Path → Path → ℕ → ℕ → Type 0
TypeEnds V k T p q = (c : ConstInfo) → lookup_of V k ≡ found c → EndsIn T p q c.ty

pub record Ends (V : View) (c : Calls) : Type 0 where
  pub stays : (d : Bool) (C : Context) (x : Binder) (A B : Term) (u : ℕ) → Post (λ r. r ≡ pi x A B) (c.whnf d C (pi x A B) u)
  pub ends : (C : Context) (k T : Path) (p q : ℕ) → TypeEnds V k T p q → (n : ℕ) (t : Term) (u : ℕ) → Spine k p n t
      → Post (EndsIn T n q) (c.infer checked C t u)

found_ends : (V : View) (k T : Path) (p q : ℕ) (ms : List Universe) (l : Lookup) (u : ℕ) → lookup_of V k ≡ l → TypeEnds V k T p q
    → Post (EndsIn T p q) (of_constant k ms (seen_as k l) u)
found_ends V k T p q ms (found c) u e h =
    post_choose (EndsIn T p q) (nat_eq (length ms) (length c.levels)) (made (level_instantiate ms c.ty)) (refuse (Levels k)) u
    (λ w. post_made (EndsIn T p q) (level_instantiate ms c.ty) u (levels_end T p q ms c.ty (h c e)))
    (λ w. tt)
found_ends V k T p q ms absent u e h = tt
found_ends V k T p q ms (need_body j) u e h = tt
found_ends V k T p q ms need_real u e h = tt

-- The rest of the inference of an application, from the type of its function.
abbrev from_function : Calls → Context → Term → Term → Run Term
from_function c C a F = c.whnf true C F >>= λ P. on_pi F P (λ A B. argument_fits c checked C a A >>= λ fits. made (instantiate B a))

on_ends : (c : Calls) (C : Context) (a F P T : _) (n q : ℕ) (u : ℕ) → EndsIn T (suc n) q P
    → Post (EndsIn T n q) (on_pi F P (λ A B. argument_fits c checked C a A >>= λ fits. made (instantiate B a)) u)
on_ends c C a F (pi x A B) T n q u h =
    post_then (λ z. Unit {0}) (EndsIn T n q) (argument_fits c checked C a A u) _ (post_any (argument_fits c checked C a A u)) λ z v w.
    post_made (EndsIn T n q) (instantiate B a) v (instantiate_ends T n q 0 a B h)
on_ends c C a F _ T n q u h = absurd h

function_ends : (V : View) (c : Calls) → Ends V c → (C : Context) (a F : Term) (T : Path) (n q : ℕ) (u : ℕ) → EndsIn T (suc n) q F
    → Post (EndsIn T n q) (from_function c C a F u)
function_ends V c s C a (pi x A B) T n q u h =
    post_then (λ r. r ≡ pi x A B) (EndsIn T n q) (c.whnf true C (pi x A B) u) _ (s.stays true C x A B u) λ P v e.
    on_ends c C a (pi x A B) P T n q v (subst (EndsIn T (suc n) q) (sym e) h)
function_ends V c s C a _ T n q u h = absurd h

form_ends : (V : View) (c : Calls) → Ends V c → (C : Context) (k T : Path) (p q : ℕ) → TypeEnds V k T p q → (n : ℕ) (t : Term) (u : ℕ) → Spine k p n t
    → Post (EndsIn T n q) (infer_body V c checked C t u)
unfolding infer_body
form_ends V c s C k T p q h n t u (bare ms) = found_ends V k T p q ms (lookup_of V k) u refl h
form_ends V c s C k T p q h n t u (more {f = f} a sp) =
    post_then (EndsIn T (suc n) q) (EndsIn T n q) (c.infer checked C f u) _ (s.ends C k T p q h (suc n) f u sp) λ F v hF.
    function_ends V c s C a F T n q v hF

pi_stays : (V : View) (c : Calls) (d : Bool) (C : Context) (x : Binder) (A B : Term) (u : ℕ) → Post (λ r. r ≡ pi x A B) (whnf_body V c d C (pi x A B) u)
unfolding whnf_body turn_limit
pi_stays V c d C x A B u = refl

turn_ends : (V : View) (c : Calls) → Ends V c → Ends V (turn V c)
turn_ends V c s = record {
  stays = λ d C x A B u. post_spend (λ r. r ≡ pi x A B) 1 (whnf_body V c d C (pi x A B)) u λ v. pi_stays V c d C x A B v;
  ends = λ C k T p q h n t u sp. post_spend (EndsIn T n q) 1 (infer_body V c checked C t) u λ v. form_ends V c s C k T p q h n t v sp;
}

pub calls_ends : (V : View) (n : ℕ) → Ends V (calls V n)
calls_ends V zero = record { stays = λ d C x A B u. tt; ends = λ C k T p q h n t u sp. tt }
calls_ends V (suc n) = turn_ends V (calls V n) (calls_ends V n)
