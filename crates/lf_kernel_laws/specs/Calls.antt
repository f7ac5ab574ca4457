-- What the answers of the checker's and the kernel's calls are worth, over a list of constants that the view knows.
use Rattle.std.specs.Prelude.{◌≡◌, ◌⊎◌, ℕ, true, Bool, Some, List, [], ◌∷◌, ◌++◌, length}
use Rattle.lf_core.specs.Term.{Path, Universe, Term, sort}
use Rattle.lf_core.specs.declared.constant.ConstInfo.{ConstInfo}
use Rattle.lf_core.specs.declared.constant.IndDecl.{IndDecl}
use Rattle.lf_core.specs.declared.constant.Ans.{Ans}
use Rattle.lf_core.specs.declared.constant.Ans.TheVariants.{Done, Refused, Out, Need, Stopped, NoMemory}
use Rattle.lf_core.specs.declared.constant.ConstKind.TheVariants.{Def, Theorem}
use Rattle.lf_core.specs.declared.constant.Detail.TheVariants.{Plain}
use Rattle.lf_rules.specs.Environment.{Environment, Context, ParametersBelow}
use Rattle.lf_rules.specs.Judgment.{Equal, HasType, Formed}
use Rattle.lf_rules.specs.Derived.{Derived, Stated}
use Rattle.lf_checker.specs.View.{View}
use Rattle.lf_checker.specs.declared.fault.TypeFault.{TypeFault}
use Rattle.lf_checker_laws.specs.Soundness.{ClosedList, Names, Fits, ContextFits, Typed, Reduct}
use Rattle.lf_checker_laws.specs.Declarations.{Asked, HasEntry, Knows, HasBeside}
use Rattle.lf_admission_laws.specs.Admission as admission
use Rattle.lf_admission_laws.specs.Admission.{Admits}

-- What is said of the value, where there is one.
abbrev pub IfDone : {A : Type 0} → Ans A TypeFault → (A → Type 0) → Type 0
IfDone (Done a) P = P a
IfDone (Refused e) P = Unit {0}
IfDone Out P = Unit {0}
IfDone (Need k) P = Unit {0}
IfDone Stopped P = Unit {0}
IfDone NoMemory P = Unit {0}

-- A weak head form, or a normal form, is equal to the term, and names only what the list has.
abbrev pub GivesEqual : View → Context → Term → Ans Term TypeFault → Type 0
GivesEqual V C t r = (E : Environment) (top : ℕ) → ClosedList V E → ContextFits V E top C → Fits V E top 0 (length C) t → Formed E C t
    → IfDone r (Reduct V E top C t)

-- Terms of which it is said are equal.
abbrev pub AreEqual : View → Context → Term → Term → Ans Bool TypeFault → Type 0
AreEqual V C a b r = (E : Environment) (top : ℕ) → ClosedList V E → ContextFits V E top C → Fits V E top 0 (length C) a → Fits V E top 0 (length C) b
    → Formed E C a → Formed E C b → IfDone r (λ same. same ≡ true → Equal E C a b)

-- The term has the type, which names only what the list has.
abbrev pub GivesType : View → Context → Term → Ans Term TypeFault → Type 0
GivesType V C t r = (E : Environment) (top : ℕ) → ClosedList V E → ContextFits V E top C → Fits V E top 0 (length C) t → IfDone r (Typed V E top C t)

-- The level that is given is that of a sort of the type.
abbrev pub GivesLevel : View → Term → Ans Universe TypeFault → Type 0
GivesLevel V ty r = (E : Environment) (top : ℕ) → Derived E → Knows V E → HasBeside V E → Names V E top ty
    → IfDone r (λ l. HasType E [] ty (sort l) × ParametersBelow top l)

-- A constant of this name and type is stated over a derived list that the view knows.
abbrev pub StatesConstant : View → Path → Term → Ans Universe TypeFault → Type 0
StatesConstant V n ty r = (E : Environment) (c : ConstInfo) → Derived E → Knows V E → HasBeside V E → c.name ≡ n → c.ty ≡ ty → HasEntry V E c.name
    → c.detail ≡ Plain → Asked V E (length c.levels) c.ty → IfDone r (λ l. Stated E c)

-- With a stated definition or theorem whose value is accepted the list stays derived.
abbrev pub KeepsDerived : View → ConstInfo → Ans ℕ TypeFault → Type 0
KeepsDerived V c r = (E : Environment) (v : Term) → Derived E → Knows V E → HasBeside V E → Stated E c → (c.kind ≡ Def) ⊎ (c.kind ≡ Theorem)
    → c.value ≡ Some v → Asked V E (length c.levels) v → IfDone r (λ h. Derived (E ++ c ∷ []))

-- The constants that are given are those of the declaration, which is admitted under new names over a derived list that the view knows.
abbrev pub AdmitsDeclaration : View → IndDecl → Ans (List ConstInfo) TypeFault → Type 0
AdmitsDeclaration V d r = (E : Environment) → Derived E → Knows V E → HasBeside V E → admission.Names V E d → IfDone r (Admits E d)

-- With the constants that are given the list stays derived.
abbrev pub KeepsDerivedWith : View → IndDecl → Ans (List ConstInfo) TypeFault → Type 0
KeepsDerivedWith V d r = (E : Environment) → Derived E → Knows V E → HasBeside V E → admission.Names V E d → IfDone r (λ given. Derived (E ++ given))
