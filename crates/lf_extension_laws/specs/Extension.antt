-- The extension law: a view that tells more gives the same answers, units left included.
use Rattle.std.specs.Prelude.{◌≡◌, ℕ, Bool}
use Rattle.lf_core.specs.Term.{Path, Term}
use Rattle.lf_rules.specs.Environment.{Context}
use Rattle.lf_core.specs.declared.constant.ConstInfo.{ConstInfo}
use Rattle.lf_core.specs.declared.constant.IndDecl.{IndDecl}
use Rattle.lf_checker.specs.View.{View}
use Rattle.lf_checker.specs.Extends.{Tells}
use Rattle.lf_checker.specs.Run.{Answer, need}
use Rattle.lf_checker.specs.Calls.{Mode, Calls}
use Rattle.lf_checker.specs.Checker.{calls, add_header, add_decl}
use Rattle.lf_checker.specs.Admission.{add_inductive}

-- An answer that isn't a need is the other answer.
abbrev pub Kept : {A : Type 0} → Answer A → Answer A → Type 0
Kept (need k) p = Unit {0}
Kept o p = o ≡ p

pub record Agree (c d : Calls) : Type 0 where
  pub whnf : (f : Bool) (C : Context) (t : Term) (u : ℕ) → Kept (c.whnf f C t u) (d.whnf f C t u)
  pub equal : (C : Context) (a b : Term) (u : ℕ) → Kept (c.equal C a b u) (d.equal C a b u)
  pub infer : (m : Mode) (C : Context) (t : Term) (u : ℕ) → Kept (c.infer m C t u) (d.infer m C t u)
  pub normalize : (C : Context) (t : Term) (u : ℕ) → Kept (c.normalize C t u) (d.normalize C t u)

pub record AgreeOn (U V : View) (depth : ℕ) : Type 0 where
  pub calls : Agree (calls U depth) (calls V depth)
  pub add_header : (n : Path) (ty : Term) (u : ℕ) → Kept (add_header U depth n ty u) (add_header V depth n ty u)
  pub add_decl : (c : ConstInfo) (u : ℕ) → Kept (add_decl U depth c u) (add_decl V depth c u)
  pub add_inductive : (d : IndDecl) (u : ℕ) → Kept (add_inductive U depth d u) (add_inductive V depth d u)

abbrev pub ExtensionLaw : Type 0
ExtensionLaw = (U V : View) → Tells V U → (depth : ℕ) → AgreeOn U V depth
