-- From what the definition answers, and what its answers are worth, to the calls.
use Rattle.std.proofs.Common.{◌≡◌, ℕ, true, Bool, List, subst, sym}
use Rattle.lf_core.specs.Term.{Path, Universe, Term}
use Rattle.lf_core.specs.declared.constant.ConstInfo.{ConstInfo}
use Rattle.lf_core.specs.declared.constant.IndDecl.{IndDecl}
use Rattle.lf_core.specs.declared.constant.Ans.{Ans}
use Rattle.lf_core.specs.declared.constant.Ans.TheVariants.{Done, Refused, Out, Need, Stopped, NoMemory}
use Rattle.lf_rules.specs.Environment.{Context}
use Rattle.lf_checker.specs.View.{View}
use Rattle.lf_checker.specs.Run.{Answer}
use Rattle.lf_checker.specs.Calls.{checked}
use Rattle.lf_checker.specs.Checker.{calls, add_header, add_decl}
use Rattle.lf_checker.specs.Admission.{add_inductive}
use Rattle.lf_checker.specs.declared.fault.TypeFault.{TypeFault}
use Rattle.lf_check.specs.Answers.{Answers}
use Rattle.lf_checker_laws.specs.Soundness.{Post}
use Rattle.lf_checker_laws.proofs.All.{calls_sound}
use Rattle.lf_checker_laws.proofs.Accepted.{accepted_is_derived}
use Rattle.lf_admission_laws.proofs.All.{admission_is_sound}
use Rattle.lf_kernel_laws.specs.Calls.{
  IfDone,
  GivesEqual,
  AreEqual,
  GivesType,
  GivesLevel,
  StatesConstant,
  KeepsDerived,
  AdmitsDeclaration,
  KeepsDerivedWith,
}

says : {A : Type 0} (P : A → Type 0) (o : Answer A) (r : Ans A TypeFault) (u : ℕ) (names : List Path) → Answers o r u names → Post P o → IfDone r P
says P o (Done a) u names h p = subst (Post P) h.0 p
says P o (Refused e) u names h p = tt
says P o Out u names h p = tt
says P o (Need k) u names h p = tt
says P o Stopped u names h p = tt
says P o NoMemory u names h p = tt

pub whnf_is_sound : (V : View) (depth : ℕ) (C : Context) (t : Term) (u : ℕ) (r : Ans Term TypeFault) (left : ℕ) (names : List Path)
    → Answers ((calls V depth).whnf true C t u) r left names → GivesEqual V C t r
whnf_is_sound V depth C t u r left names h E top closed context fits formed =
    says _ _ r left names h ((calls_sound V E closed top depth).whnf true C t u context fits formed)

pub nf_is_sound : (V : View) (depth : ℕ) (C : Context) (t : Term) (u : ℕ) (r : Ans Term TypeFault) (left : ℕ) (names : List Path)
    → Answers ((calls V depth).normalize C t u) r left names → GivesEqual V C t r
nf_is_sound V depth C t u r left names h E top closed context fits formed =
    says _ _ r left names h ((calls_sound V E closed top depth).normalize C t u context fits formed)

pub equal_is_sound : (V : View) (depth : ℕ) (C : Context) (a b : Term) (u : ℕ) (r : Ans Bool TypeFault) (left : ℕ) (names : List Path)
    → Answers ((calls V depth).equal C a b u) r left names → AreEqual V C a b r
equal_is_sound V depth C a b u r left names h E top closed context fa fb ga gb =
    says _ _ r left names h ((calls_sound V E closed top depth).equal C a b u context fa fb ga gb)

pub infer_is_sound : (V : View) (depth : ℕ) (C : Context) (t : Term) (u : ℕ) (r : Ans Term TypeFault) (left : ℕ) (names : List Path)
    → Answers ((calls V depth).infer checked C t u) r left names → GivesType V C t r
infer_is_sound V depth C t u r left names h E top closed context fits =
    says _ _ r left names h ((calls_sound V E closed top depth).infer C t u context fits)

pub header_is_typed : (V : View) (depth : ℕ) (n : Path) (ty : Term) (u : ℕ) (r : Ans Universe TypeFault) (left : ℕ) (names : List Path)
    → Answers (add_header V depth n ty u) r left names → GivesLevel V ty r
header_is_typed V depth n ty u r left names h E top derived knows beside named =
    says _ _ r left names h ((accepted_is_derived V E derived knows beside depth).header n ty u top named)

pub header_is_stated : (V : View) (depth : ℕ) (n : Path) (ty : Term) (u : ℕ) (r : Ans Universe TypeFault) (left : ℕ) (names : List Path)
    → Answers (add_header V depth n ty u) r left names → StatesConstant V n ty r
header_is_stated V depth n ty u r left names h E c derived knows beside is_named is_typed has plain asked =
    let p : n ≡ c.name = sym is_named in
    let q : ty ≡ c.ty = sym is_typed in
    says _ _ r left names (subst (λ a. Answers a r left names) (λ i. add_header V depth (p i) (q i) u) h)
    ((accepted_is_derived V E derived knows beside depth).stated c u has plain asked)

pub value_is_derived : (V : View) (depth : ℕ) (c : ConstInfo) (u : ℕ) (r : Ans ℕ TypeFault) (left : ℕ) (names : List Path)
    → Answers (add_decl V depth c u) r left names → KeepsDerived V c r
value_is_derived V depth c u r left names h E v derived knows beside stated kind has asked =
    says _ _ r left names h ((accepted_is_derived V E derived knows beside depth).value c v u stated kind has asked)

pub declaration_is_admitted : (V : View) (depth : ℕ) (d : IndDecl) (u : ℕ) (r : Ans (List ConstInfo) TypeFault) (left : ℕ) (names : List Path)
    → Answers (add_inductive V depth d u) r left names → AdmitsDeclaration V d r
declaration_is_admitted V depth d u r left names h E derived knows beside named =
    says _ _ r left names h ((admission_is_sound V E derived knows beside depth).admitted d u named)

pub declaration_is_derived : (V : View) (depth : ℕ) (d : IndDecl) (u : ℕ) (r : Ans (List ConstInfo) TypeFault) (left : ℕ) (names : List Path)
    → Answers (add_inductive V depth d u) r left names → KeepsDerivedWith V d r
declaration_is_derived V depth d u r left names h E derived knows beside named =
    says _ _ r left names h ((admission_is_sound V E derived knows beside depth).derived d u named)
