-- Parts of inference as functions of their own.
use Rattle.std.proofs.Common.{◌≡◌, ℕ, true, refl}
use Rattle.lf_core.specs.Term.{Path, Term, Universe}
use Rattle.lf_core.specs.Spine.{head_of, arguments_of}
use Rattle.lf_rules.specs.Environment.{Context}
use Rattle.lf_checker.specs.View.{View}
use Rattle.lf_checker.specs.Run.{Answer, done, refused, out, need, Run, go_on, gives}
use Rattle.lf_checker.specs.Calls.{Mode, Calls}
use Rattle.lf_checker.specs.Infer.{on_sort, on_structure, sort_of}
use Rattle.lf_check.specs.Bodies.{formed, projection}

-- What goes on from a type and its weak head form.
second : {B : Type 0} (T : Term) (k : Term → Term → Run B) (o : Answer Term)
    → go_on o (k T) ≡ go_on {A = Term × Term} (go_on {B = Term × Term} o (λ W. gives (T, W))) (λ p. k p.0 p.1)
second T k (done W u) = refl
second T k (refused e u) = refl
second T k out = refl
second T k (need j) = refl

first : {B : Type 0} (m : Term → Run Term) (k : Term → Term → Run B) (o : Answer Term)
    → go_on o (λ T u. go_on (m T u) (k T)) ≡ go_on {A = Term × Term} (go_on {B = Term × Term} o (λ T u. go_on {B = Term × Term} (m T u) (λ W. gives (T, W))))
    (λ p. k p.0 p.1)
first m k (done T u) = second T k (m T u)
first m k (refused e u) = refl
first m k out = refl
first m k (need j) = refl

pub formed_then : {B : Type 0} (c : Calls) (m : Mode) (C : Context) (t : Term) (k : Term → Term → Run B) (u : ℕ)
    → go_on (c.infer m C t u) (λ T u. go_on (c.whnf true C T u) (k T)) ≡ go_on (formed c m C t u) (λ p. k p.0 p.1)
formed_then c m C t k u = first (λ T. c.whnf true C T) k (c.infer m C t u)

pub sort_is : (c : Calls) (m : Mode) (C : Context) (A : Term) (u : ℕ) → sort_of c m C A u ≡ go_on (formed c m C A u) (λ p. on_sort p.0 p.1)
sort_is c m C A u = formed_then c m C A on_sort u

pub projection_is : (V : View) (c : Calls) (m : Mode) (C : Context) (S : Path) (i : ℕ) (t : Term) (u : ℕ)
    → projection V c m C S i t u ≡ go_on (formed c m C t u) (λ p. on_structure V p.0 S i t (head_of p.1) (arguments_of p.1))
projection_is V c m C S i t u = formed_then c m C t (λ T W. on_structure V T S i t (head_of W) (arguments_of W)) u
