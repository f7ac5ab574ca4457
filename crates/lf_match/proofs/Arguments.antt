-- The first test, each step with what follows it.
use Rattle.std.proofs.Common.{◌≡◌, ℕ, zero, suc, Bool, true, false, List, [], length, refl, ap, sym, ◌∙◌, arith}
use Rattle.std.specs.Prelude.{◌&&◌, nat_eq, if◌then◌else◌, Some, None}
use Rattle.lf_core.specs.Term.{Path, Term}
use Rattle.lf_core.specs.Spine.{head_of, arguments_of}
use Rattle.lf_rules.specs.Environment.{Context, with}
use Rattle.lf_rules.specs.Telescope.{Telescope, Opened, types}
use Rattle.lf_checker.specs.View.{View}
use Rattle.lf_checker.specs.Run as checker
use Rattle.lf_checker.specs.Run.{Answer, done, refused, out, need, Run, go_on, gives, attempt, opening}
use Rattle.lf_checker.specs.Calls.{checked, Calls}
use Rattle.lf_core.specs.declared.constant.Detail.TheVariants.{Ind}
use Rattle.lf_elaboration.specs.Forms.{Binding, Instance, as_pi, as_sort, as_constant}
use Rattle.lf_elaboration.specs.Statement.{open_pis}
use Rattle.lf_equations.specs.declared.fault.EquationFault.TheVariants.{NotInductive}
use Rattle.lf_equations.specs.Outcome as outcome
use Rattle.lf_equations.specs.Outcome.{Outcome, Compiling, gets, or_fault, runs}
use Rattle.lf_equations.specs.Argument.{Inductive, Argument, inductive_by, inductive_of, wanted, level_of, argument}
use Rattle.lf_match.proofs.Ends.{runs_then, wanted_or, wanted_then, on_same, goes_same}
use Rattle.lf_match.specs.Parts as parts
use Rattle.lf_match.specs.Parts.{on_some, at_inductive, at_binding, at_form, argument_at}

pub with_indices : (I : Instance) (xs : List Term) (levels params indices : ℕ) (ctors : List Path) (large : Bool) → nat_eq indices 0 ≡ false
    → inductive_by I xs levels (Ind params indices ctors large) ≡ None
with_indices I xs levels params zero ctors large h = cc
with_indices I xs levels params (suc i) ctors large h = refl

pub without_indices : (I : Instance) (xs : List Term) (levels params indices : ℕ) (ctors : List Path) (large : Bool) → indices ≡ 0
    → inductive_by I xs levels (Ind params indices ctors large)
    ≡ (if nat_eq (length I.levels) levels && nat_eq (length xs) params
    then Some (record { name = I.name; levels = I.levels; params = xs; constructors = ctors; large = large })
    else None)
without_indices I xs levels params zero ctors large h = refl
without_indices I xs levels params (suc i) ctors large h = absurd (omega (arith, h))

pub level_is : (c : Calls) (C : Context) (A : Term) (u : ℕ) → level_of c C A u ≡ parts.level_of c C A u
level_is c C A u =
    wanted_then (attempt (c.infer checked C A) u)
    (λ S. outcome.◌>>=◌ (runs (c.whnf true C S)) (λ W. or_fault NotInductive (as_sort W)))
    ∙ goes_same (attempt (c.infer checked C A) u) _ _ (λ o v. on_same o _ _ v (λ S w. runs_then (c.whnf true C S w) (λ W. or_fault NotInductive (as_sort W))))

-- What follows the inductive type, and the pi.
abbrev behind_inductive : Calls → Telescope → Binding → Inductive → Compiling Argument
behind_inductive c xs p I = outcome.◌>>=◌ (runs (opening (types xs) p.body)) (λ R.
    outcome.◌>>=◌ (level_of c (with (types xs) p.domain) R) (λ l. outcome.gives (record { binders = xs; binding = p; ind = I; level = l })))

abbrev behind_domain : View → Calls → Telescope → Binding → Term → Compiling Argument
behind_domain V c xs p W = outcome.◌>>=◌ (wanted (inductive_of V (as_constant (head_of W)) (arguments_of W))) (behind_inductive c xs p)

abbrev behind_pi : View → Calls → Telescope → Binding → Compiling Argument
behind_pi V c xs p = outcome.◌>>=◌ (runs (c.whnf true (types xs) p.domain)) (behind_domain V c xs p)

inductive_is : (c : Calls) (xs : Telescope) (p : Binding) (I : Inductive) (u : ℕ) → behind_inductive c xs p I u ≡ at_inductive c xs p I u
inductive_is c xs p I u = runs_then (opening (types xs) p.body u) _

domain_is : (V : View) (c : Calls) (xs : Telescope) (p : Binding) (W : Term) (u : ℕ)
    → behind_domain V c xs p W u ≡ go_on (inductive_of V (as_constant (head_of W)) (arguments_of W) u) (λ I. on_some I (at_inductive c xs p))
domain_is V c xs p W u = wanted_then (inductive_of V (as_constant (head_of W)) (arguments_of W) u) (behind_inductive c xs p)
    ∙ goes_same (inductive_of V (as_constant (head_of W)) (arguments_of W) u) _ _ (λ I v. on_same I _ _ v (inductive_is c xs p))

pi_is : (V : View) (c : Calls) (xs : Telescope) (p : Binding) (u : ℕ) → behind_pi V c xs p u ≡ at_binding V c xs p u
pi_is V c xs p u = runs_then (c.whnf true (types xs) p.domain u) (behind_domain V c xs p)
    ∙ goes_same (c.whnf true (types xs) p.domain u) _ _ (domain_is V c xs p)

or_pi : (V : View) (c : Calls) (xs : Telescope) (T : Term) (u : ℕ)
    → go_on (or_fault NotInductive (as_pi T) u) (outcome.go_on (behind_pi V c xs)) ≡ on_some (as_pi T) (at_binding V c xs) u
or_pi V c xs T u = wanted_or (as_pi T) (behind_pi V c xs) u ∙ on_same (as_pi T) _ _ u (pi_is V c xs)

pub argument_is : (V : View) (c : Calls) (n : ℕ) (ty : Term) (u : ℕ) → argument V c n ty u ≡ argument_at V c n ty u
argument_is V c n ty u = runs_then (open_pis n [] ty u) (λ o. outcome.◌>>=◌ (runs (c.whnf true (types o.locals) o.rest)) (λ T.
    outcome.◌>>=◌ (or_fault NotInductive (as_pi T)) (behind_pi V c o.locals)))
    ∙ goes_same (open_pis n [] ty u) _ _ (λ o v. runs_then (c.whnf true (types o.locals) o.rest v) (λ T.
    outcome.◌>>=◌ (or_fault NotInductive (as_pi T)) (behind_pi V c o.locals))
    ∙ goes_same (c.whnf true (types o.locals) o.rest v) _ _ (λ T w. or_pi V c o.locals T w))

pub argument_end : (V : View) (c : Calls) (n : ℕ) (ty : Term) (u : ℕ) (o : Opened) (u1 : ℕ) (C : Context) (T : Term) (u2 : ℕ) → open_pis n [] ty u ≡ done o u1
    → C ≡ types o.locals → c.whnf true C o.rest u1 ≡ done T u2 → argument V c n ty u ≡ at_form V c o.locals T u2
argument_end V c n ty u o u1 C T u2 e k w =
    argument_is V c n ty u ∙ ap (λ x. go_on x (λ o. checker.◌>>=◌ (c.whnf true (types o.locals) o.rest) (at_form V c o.locals))) e
    ∙ ap (λ D. go_on (c.whnf true D o.rest u1) (at_form V c o.locals)) (sym k) ∙ ap (λ x. go_on x (at_form V c o.locals)) w
