-- Parts of the definition's runs that are functions of their own in the code. A device of the proof.
use Rattle.std.specs.Prelude.{ℕ, Option, Some}
use Rattle.lf_name.specs.declared.binder.Binder.{Binder}
use Rattle.lf_rules.specs.Environment.{Context}
use Rattle.lf_core.specs.Term.{Universe, Term, sort, lam, pi}
use Rattle.lf_elaboration.specs.Run.{◌>>=◌, gives, choose, checks, opening, put}
use Rattle.lf_elaboration.specs.Part.{Part, Locals, Run, Calls, Typed, fresh_level, unify, closed_over}
use Rattle.lf_elaboration.specs.Closing.{sorry_for, becomes, instance_found}
use Rattle.lf_elaboration.specs.Terms.{no_type}
use Rattle.lf_elaboration.specs.Application as application
use Rattle.lf_forms.specs.declared.application.Giving.{Giving}
use Rattle.lf_forms.specs.declared.application.Giving.TheVariants.{ToUnify, ToResolve, ToElaborate}

abbrev pub becomes_sorry : Part → Calls → Locals → ℕ → ℕ → Term → Run (Unit {0})
becomes_sorry P c L at m goal = sorry_for P c L at goal >>= (λ t. becomes P L at m goal t)

abbrev pub instance_in : Part → Calls → Locals → ℕ → ℕ → Term → Run (Unit {0})
instance_in P c L at m goal = do
  t ← checks (c.synthesize L.types goal)
  instance_found P L at m goal t

abbrev pub sort_of_metavariable : Part → Calls → Locals → ℕ → Term → Term → Run Universe
sort_of_metavariable P c L at T W = do
  l ← fresh_level
  is_sort ← unify c L W (sort l)
  choose is_sort (gives l) (no_type P L at T)

abbrev pub opened_body : Context → Term → Run (Option Term)
opened_body C b = do
  B ← opening C b
  gives (Some B)

abbrev pub lambda_closed : ℕ → Binder → Term → Term → Term → Run Typed
lambda_closed k x A T b = do
  B ← closed_over k T
  f ← put (lam x A b)
  F ← put (pi x A B)
  gives (record { term = f; ty = F })

abbrev pub giving : Giving → application.Giving
giving ToUnify = application.to_unify
giving ToResolve = application.to_resolve
giving ToElaborate = application.to_elaborate
