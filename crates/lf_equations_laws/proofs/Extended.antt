-- The extension law of compiling, step by step.
use Rattle.std.proofs.Common.{ℕ, List, [], ◌∷◌, Option, Some, None, refl}
use Rattle.lf_core.specs.Term.{Path, Term}
use Rattle.lf_rules.specs.Environment.{Context}
use Rattle.lf_checker.specs.View.{View}
use Rattle.lf_checker.specs.Extends.{Tells}
use Rattle.lf_checker.specs.Calls.{Calls, see}
use Rattle.lf_checker.specs.Checker.{calls}
use Rattle.lf_extension_laws.specs.Extension.{Kept, Agree}
use Rattle.lf_extension_laws.proofs.Kept.{kept_self, kept_then, kept_choose, kept_spend, kept_caught, kept_seen, see_kept}
use Rattle.lf_extension_laws.proofs.Extended.{calls_kept}
use Rattle.lf_elaboration.specs.Forms.{Instance}
use Rattle.lf_elaboration.specs.Induction.{fields_seen, recursor_path}
use Rattle.lf_equations.specs.declared.alternative.Case.{Case}
use Rattle.lf_equations.specs.Outcome.{Outcome, gets, fault, Compiling, go_on}
use Rattle.lf_equations.specs.Argument.{Argument, inductive_seen, inductive_of, level_of, argument}
use Rattle.lf_equations.specs.Coverage.{is_case, all_cases}
use Rattle.lf_equations.specs.Compile.{type_seen, type_at_motive, compile_body}
use Rattle.lf_equations_laws.specs.Extension.{CompilingExtends}

kept_on : {A B : Type 0} (f g : A → Compiling B) (o : Outcome A) (u : ℕ) → ((x : A) (v : ℕ) → Kept (f x v) (g x v)) → Kept (go_on f o u) (go_on g o u)
kept_on f g (gets x) u h = h x u
kept_on f g (fault e) u h = refl

ruleset kept = (kept_self, kept_then, kept_choose, kept_spend, kept_caught, kept_on)

module _ (U V : View) (x : Tells V U) (c d : Calls) (a : Agree c d) where
  kept_inductive : (o : Option Instance) (xs : List Term) (u : ℕ) → Kept (inductive_of U o xs u) (inductive_of V o xs u)
  kept_inductive None xs u = refl
  kept_inductive (Some I) xs u = kept_seen (see U I.name) (see V I.name) (λ q. inductive_seen I xs q u) (λ q. inductive_seen I xs q u) (λ k. refl)
      (λ q. kept_self (inductive_seen I xs q u)) (see_kept U V x I.name)

  kept_level : (C : Context) (A : Term) (u : ℕ) → Kept (level_of c C A u) (level_of d C A u)
  kept_level C A u = search (kept, a.whnf, a.infer) depth 16

  pub kept_argument : (n : ℕ) (ty : Term) (u : ℕ) → Kept (argument U c n ty u) (argument V d n ty u)
  kept_argument n ty u = search (kept, a.whnf, kept_inductive, kept_level) depth 40

  kept_fields : (n : Path) (u : ℕ) → Kept (fields_seen (see U n) u) (fields_seen (see V n) u)
  kept_fields n u = kept_seen (see U n) (see V n) (λ q. fields_seen q u) (λ q. fields_seen q u) (λ k. refl) (λ q. kept_self (fields_seen q u))
      (see_kept U V x n)

  kept_case : (ns : List Path) (e : Case) (u : ℕ) → Kept (is_case U ns e u) (is_case V ns e u)
  kept_case ns e u = search (kept, kept_fields) depth 10

  kept_cases : (ns : List Path) (es : List Case) (u : ℕ) → Kept (all_cases U ns es u) (all_cases V ns es u)
  kept_cases ns [] u = refl
  kept_cases ns (e ∷ es) u = search (kept, kept_case, kept_cases ns es) depth 16

  kept_type : (g : Argument) (u : ℕ) → Kept (type_at_motive U g u) (type_at_motive V g u)
  kept_type g u = search (kept, at) depth 10
    where
      at : (v : ℕ) → Kept (type_seen g (see U (recursor_path g.ind.name)) v) (type_seen g (see V (recursor_path g.ind.name)) v)
      at v = kept_seen (see U (recursor_path g.ind.name)) (see V (recursor_path g.ind.name)) (λ q. type_seen g q v) (λ q. type_seen g q v) (λ k. refl)
          (λ q. kept_self (type_seen g q v)) (see_kept U V x (recursor_path g.ind.name))

  kept_body : (ty : Term) (n : ℕ) (es : List Case) (u : ℕ) → Kept (compile_body U c ty n es u) (compile_body V d ty n es u)
  kept_body ty n es u = search (kept, kept_argument, kept_cases, kept_type) depth 30

pub compiling_extends : CompilingExtends
compiling_extends U V x depth ty n es u = kept_spend 1 (compile_body U (calls U depth) ty n es) (compile_body V (calls V depth) ty n es) u
    (λ v. kept_body U V x (calls U depth) (calls V depth) (calls_kept U V x depth) ty n es v)
