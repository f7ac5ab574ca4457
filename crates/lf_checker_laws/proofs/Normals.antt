-- What `normalize` gives is equal to the term.
use Rattle.std.proofs.Common.{◌≡◌, ◌<◌, ◌^◌, ℕ, suc, nat_lt, true, ◌&&◌, List, [], ◌∷◌, length, sym, subst}
use Rattle.std.proofs.lemmas.Bool.{cond_both, ltb-true, and_parts}
use Rattle.lf_core.specs.Term.{Term, bound, free, meta, sort, const, app, lam, pi, letin, lit, proj}
use Rattle.lf_core.specs.Same.{same}
use Rattle.lf_core.specs.Substitution.{abstract}
use Rattle.lf_core.specs.Spine.{apply, head_of, arguments_of}
use Rattle.lf_rules.specs.Environment.{Environment, Context, with, opened, nat_zero, nat_succ}
use Rattle.lf_rules.specs.Step.{literal_zero, literal_succ}
use Rattle.lf_rules.specs.Judgment.{
  Equal,
  reflexive,
  symmetric,
  transitive,
  applications,
  lambdas,
  pis,
  step,
  literal,
  Formed,
  has_type,
  equal_to,
  lambda_domain,
  lambda_body,
  pi_domain,
  pi_codomain,
  projected,
  projected_part,
}
use Rattle.lf_judgment_laws.proofs.Variables.{rebuilt, opened-abstract}
use Rattle.lf_checker.specs.View.{View}
use Rattle.lf_checker.specs.Run.{◌>>=◌, gives, put}
use Rattle.lf_checker.specs.Calls.{Calls}
use Rattle.lf_checker.specs.Normalize.{
  normalize_all,
  as_literal,
  normalize_body_of_binder,
  normalize_head,
  normalize_arguments,
  normalize_parts,
  normalize_body,
}
use Rattle.lf_checker_laws.specs.Soundness.{Fits, AllFit, ContextFits, Post, Reduct, Sound}
use Rattle.lf_core.proofs.Trees.{term_is}
use Rattle.lf_checker_laws.proofs.Runs.{post_then, post_map, post_put, post_put_then, post_made, post_opening_then}
use Rattle.lf_checker_laws.proofs.Fitting.{opened_fits, closed_fits, context_with, apply_fits, head_fits, arguments_fit}
use Rattle.lf_checker_laws.proofs.Forming.{AllFormed, formed_as, formed_arguments}
use Rattle.lf_checker_laws.proofs.Reduces.{Fit}
use Rattle.lf_checker_laws.proofs.Turns.{zero_parts}

-- Terms that are equal stay so with these arguments.
abbrev pub ArgumentsEqual : Environment → Context → List Term → List Term → Type 0
ArgumentsEqual E C xs ys = (f g : Term) → Equal E C f g → Equal E C (apply f xs) (apply g ys)

abbrev Normal : View → Environment → ℕ → Context → List Term → List Term → Type 0
Normal V E top C xs ys = ArgumentsEqual E C xs ys × AllFit V E top (length C) ys

all_sound : (V : View) (E : Environment) (top : ℕ) (c : Calls) → Sound V E top c → (C : Context) (xs : List Term) (u : ℕ) → ContextFits V E top C
    → AllFit V E top (length C) xs → AllFormed E C xs → Post (Normal V E top C xs) (normalize_all c C xs u)
all_sound V E top c s C [] u fine fx gx = ((λ f g h. h), tt)
all_sound V E top c s C (x ∷ xs) u fine fx gx =
    post_then (Reduct V E top C x) (Normal V E top C (x ∷ xs)) (c.normalize C x u) _ (s.normalize C x u fine fx.0 gx.0) λ y v hy.
    post_then (Normal V E top C xs) (Normal V E top C (x ∷ xs)) (normalize_all c C xs v) (λ ys. gives (y ∷ ys)) (all_sound V E top c s C xs v fine fx.1 gx.1)
    λ ys w hs.
    ((λ f g h. hs.0 (app f x) (app g y) (applications h hy.0)), (hy.1, hs.1))

literal_sound : (V : View) (E : Environment) (top : ℕ) (C : Context) (t : Term) → Fit V E top C t → Reduct V E top C t (as_literal t)
literal_sound V E top C (const n ls) h =
    cond_both (same (const n ls) nat_zero) (lit 0) (const n ls) (Reduct V E top C (const n ls))
    (λ b.
    let e : const n ls ≡ nat_zero = term_is (const n ls) nat_zero b in
    (subst (λ z. Equal E C z (lit 0)) (sym e) (symmetric (step literal_zero tt (has_type (literal 0)))), (tt, zero_parts V E n ls h.1.1 e)))
    (λ b. (reflexive (const n ls), h))
literal_sound V E top C (app f (lit k)) h =
    cond_both (same f nat_succ && nat_lt (suc k) (2 ^ 128)) (lit (suc k)) (app f (lit k)) (Reduct V E top C (app f (lit k)))
    (λ b.
    let p = and_parts (same f nat_succ) (nat_lt (suc k) (2 ^ 128)) b in
    let e : f ≡ nat_succ = term_is f nat_succ p.0 in
    let l : suc k < 2 ^ 128 = ltb-true (suc k) (2 ^ 128) p.1 in
    (subst (λ z. Equal E C (app z (lit k)) (lit (suc k))) (sym e) (symmetric (step (literal_succ k l) tt (has_type (literal (suc k))))), (tt, h.1.1)))
    (λ b. (reflexive (app f (lit k)), h))
literal_sound V E top C _ h = (reflexive _, h)

-- A body, closed again, is equal to the body as it was.
abbrev BodyIs : View → Environment → ℕ → Context → Term → Term → Term → Type 0
BodyIs V E top C A b d = Equal E (with C A) (opened C b) (opened C d) × Fits V E top 1 (length C) d

binder_sound : (V : View) (E : Environment) (top : ℕ) (c : Calls) → Sound V E top c → (C : Context) (A b : Term) (u : ℕ) → ContextFits V E top C
    → Fit V E top C A → Fits V E top 1 (length C) b → Formed E (with C A) (opened C b) → Post (BodyIs V E top C A b) (normalize_body_of_binder c C A b u)
binder_sound V E top c s C A b u fine fA fb gb =
    post_opening_then (BodyIs V E top C A b) C b _ u λ v.
    post_then (Reduct V E top (with C A) (opened C b)) (BodyIs V E top C A b) (c.normalize (with C A) (opened C b) v) _
    (s.normalize (with C A) (opened C b) v (context_with V E top C A fine fA) (opened_fits V E top C A b fb) gb) λ n w hn.
    post_made (BodyIs V E top C A b) (abstract n (length C)) w
    (subst (Equal E (with C A) (opened C b)) (sym (opened-abstract C (length (with C A)) n hn.1.0)) hn.0, closed_fits V E top C A n hn.1)

head_sound : (V : View) (E : Environment) (top : ℕ) (c : Calls) → Sound V E top c → (C : Context) (h : Term) (u : ℕ) → ContextFits V E top C → Fit V E top C h
    → Formed E C h → Post (Reduct V E top C h) (normalize_head c C h u)
head_sound V E top c s C (proj S i t) u fine fh gh =
    post_then (Reduct V E top C t) (Reduct V E top C (proj S i t)) (c.normalize C t u) (λ n. gives (proj S i n))
    (s.normalize C t u fine (fh.0, fh.1.1) (projected_part gh)) λ n v k.
    (projected S i k.0, (k.1.0, (fh.1.0, k.1.1)))
head_sound V E top c s C h u fine fh gh = (reflexive h, fh)

spine_sound : (V : View) (E : Environment) (top : ℕ) (c : Calls) → Sound V E top c → (C : Context) (t : Term) (u : ℕ) → ContextFits V E top C → Fit V E top C t
    → Formed E C t
    → Post (Reduct V E top C t) (normalize_arguments c C t u)
spine_sound V E top c s C t u fine fi ft =
    post_then (Normal V E top C (arguments_of t)) (Reduct V E top C t) (normalize_all c C (arguments_of t) u) _
    (all_sound V E top c s C (arguments_of t) u fine (arguments_fit V E top (length C) t fi) (formed_arguments E C t ft)) λ xs v h.
    post_then (Reduct V E top C (head_of t)) (Reduct V E top C t) (normalize_head c C (head_of t) v) (λ g. put (apply g xs) >>= λ z. gives (as_literal z))
    (head_sound V E top c s C (head_of t) v fine (head_fits V E top (length C) t fi) (formed_as E C t (head_of t) (arguments_of t) (rebuilt t) ft).0) λ g v' hg.
    let r : Term = apply g xs in
    let e : Equal E C t r = subst (λ z. Equal E C z r) (sym (rebuilt t)) (h.0 (head_of t) g hg.0) in
    let fr : Fit V E top C r = apply_fits V E top (length C) g xs hg.1 h.1 in
    post_put_then (Reduct V E top C t) r (λ z. gives (as_literal z)) v' λ w.
    let l : Reduct V E top C r (as_literal r) = literal_sound V E top C r fr in
    (transitive e l.0, l.1)

parts_sound : (V : View) (E : Environment) (top : ℕ) (c : Calls) → Sound V E top c → (C : Context) (t : Term) (u : ℕ) → ContextFits V E top C → Fit V E top C t
    → Formed E C t → Post (Reduct V E top C t) (normalize_parts c C t u)
parts_sound V E top c s C (lam x A b) u fine fi ft =
    let Q : Term → Type 0 = Reduct V E top C (lam x A b) in
    let fA : Fit V E top C A = (fi.0.0, fi.1.0) in
    let fb : Fits V E top 1 (length C) b = (fi.0.1, fi.1.1) in
    post_then (Reduct V E top C A) Q (c.normalize C A u) _ (s.normalize C A u fine fA (lambda_domain ft)) λ B v hB.
    post_then (BodyIs V E top C A b) Q (normalize_body_of_binder c C A b v) _ (binder_sound V E top c s C A b v fine fA fb (lambda_body ft)) λ d w hd.
    post_put Q (lam x B d) w (lambdas (lambda_domain ft) hB.0 fb.0 hd.1.0 hd.0, ((hB.1.0, hd.1.0), (hB.1.1, hd.1.1)))
parts_sound V E top c s C (pi x A b) u fine fi ft =
    let Q : Term → Type 0 = Reduct V E top C (pi x A b) in
    let fA : Fit V E top C A = (fi.0.0, fi.1.0) in
    let fb : Fits V E top 1 (length C) b = (fi.0.1, fi.1.1) in
    post_then (Reduct V E top C A) Q (c.normalize C A u) _ (s.normalize C A u fine fA (pi_domain ft)) λ B v hB.
    post_then (BodyIs V E top C A b) Q (normalize_body_of_binder c C A b v) _ (binder_sound V E top c s C A b v fine fA fb (pi_codomain ft)) λ d w hd.
    post_put Q (pi x B d) w (pis (pi_domain ft) hB.0 fb.0 hd.1.0 hd.0, ((hB.1.0, hd.1.0), (hB.1.1, hd.1.1)))
parts_sound V E top c s C (app f a) u fine fi ft = spine_sound V E top c s C (app f a) u fine fi ft
parts_sound V E top c s C (bound i) u fine fi ft = spine_sound V E top c s C (bound i) u fine fi ft
parts_sound V E top c s C (free i) u fine fi ft = spine_sound V E top c s C (free i) u fine fi ft
parts_sound V E top c s C (meta i) u fine fi ft = spine_sound V E top c s C (meta i) u fine fi ft
parts_sound V E top c s C (sort l) u fine fi ft = spine_sound V E top c s C (sort l) u fine fi ft
parts_sound V E top c s C (const n ls) u fine fi ft = spine_sound V E top c s C (const n ls) u fine fi ft
parts_sound V E top c s C (letin x A v b) u fine fi ft = spine_sound V E top c s C (letin x A v b) u fine fi ft
parts_sound V E top c s C (lit n) u fine fi ft = spine_sound V E top c s C (lit n) u fine fi ft
parts_sound V E top c s C (proj S i t) u fine fi ft = spine_sound V E top c s C (proj S i t) u fine fi ft

pub normalize_sound : (V : View) (E : Environment) (top : ℕ) (c : Calls) → Sound V E top c → (C : Context) (t : Term) (u : ℕ) → ContextFits V E top C
    → Fit V E top C t → Formed E C t → Post (Reduct V E top C t) (normalize_body c C t u)
unfolding normalize_body
normalize_sound V E top c s C t u fine fi ft =
    post_then (Reduct V E top C t) (Reduct V E top C t) (c.whnf true C t u) (λ w. normalize_parts c C w) (s.whnf true C t u fine fi ft) λ w v hw.
    post_map (Reduct V E top C w) (Reduct V E top C t) (normalize_parts c C w v) (parts_sound V E top c s C w v fine hw.1 (equal_to ft hw.0)) λ r h.
    (transitive hw.0 h.0, h.1)
