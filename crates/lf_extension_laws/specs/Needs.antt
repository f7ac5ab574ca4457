-- What a need names: an open branch of the view, or a realizable name that has no answer there.
use Rattle.std.specs.Prelude.{◌≡◌, ℕ, Bool, Contains}
use Rattle.lf_core.specs.Term.{Path, Term}
use Rattle.lf_core.specs.declared.constant.ConstInfo.{ConstInfo}
use Rattle.lf_core.specs.declared.constant.TaskKey.{TaskKey}
use Rattle.lf_core.specs.declared.constant.TaskKey.TheVariants.{Head, Body, Real}
use Rattle.lf_rules.specs.Environment.{Context}
use Rattle.lf_checker.specs.View.{View, OpenBranch, need_real, lookup_of}
use Rattle.lf_checker.specs.Run.{Answer, done, refused, out, need}
use Rattle.lf_checker.specs.Calls.{Mode, Calls}
use Rattle.lf_checker.specs.Checker.{calls, add_header, add_decl}

abbrev pub IsWanted : View → TaskKey → Type 0
IsWanted V (Head p) = ⊥
IsWanted V (Body p) = (b : OpenBranch) × Contains V.branches b × (b.position ≡ p)
IsWanted V (Real n) = lookup_of V n ≡ need_real

-- An answer waits for nothing but what the view needs.
abbrev pub Waits : View → {A : Type 0} → Answer A → Type 0
Waits V (need k) = IsWanted V k
Waits V (done x u) = Unit {0}
Waits V (refused e u) = Unit {0}
Waits V out = Unit {0}

pub record CallsWait (V : View) (c : Calls) : Type 0 where
  pub whnf : (f : Bool) (C : Context) (t : Term) (u : ℕ) → Waits V (c.whnf f C t u)
  pub equal : (C : Context) (a b : Term) (u : ℕ) → Waits V (c.equal C a b u)
  pub infer : (m : Mode) (C : Context) (t : Term) (u : ℕ) → Waits V (c.infer m C t u)
  pub normalize : (C : Context) (t : Term) (u : ℕ) → Waits V (c.normalize C t u)

pub record WaitsOn (V : View) (depth : ℕ) : Type 0 where
  pub calls : CallsWait V (calls V depth)
  pub add_header : (n : Path) (ty : Term) (u : ℕ) → Waits V (add_header V depth n ty u)
  pub add_decl : (c : ConstInfo) (u : ℕ) → Waits V (add_decl V depth c u)

abbrev pub CheckerWaits : Type 0
CheckerWaits = (V : View) (depth : ℕ) → WaitsOn V depth
