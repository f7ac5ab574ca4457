-- Over a derived list that the view knows, what is accepted is admitted.
use Rattle.std.proofs.Common.{◌≡◌, ℕ, zero, [], length, refl, sym, ap, ◌∙◌, arith, Contains}
use Rattle.lf_core.specs.Term.{Path}
use Rattle.lf_rules.specs.Environment.{Environment}
use Rattle.lf_rules.specs.Inductive.{type_constant}
use Rattle.lf_rules.specs.Derived.{Derived}
use Rattle.lf_core.specs.declared.constant.ConstInfo.{ConstInfo}
use Rattle.lf_core.specs.declared.constant.Detail.{Detail}
use Rattle.lf_core.specs.declared.constant.Detail.TheVariants.{Plain, Ind, Ctor, Rec}
use Rattle.lf_core.specs.declared.constant.IndDecl.{IndDecl}
use Rattle.lf_checker.specs.View.{View}
use Rattle.lf_inductive_laws.specs.Declarations.{ConstructorDeclared}
use Rattle.lf_inductive_laws.proofs.Declared.{as_declared}
use Rattle.lf_checker_laws.specs.Soundness.{ClosedList}
use Rattle.lf_checker_laws.specs.Declarations.{HasEntry}
use Rattle.lf_checker_laws.proofs.Declared.{derived_is_closed_list}
use Rattle.lf_checker_laws.proofs.Entering.{fresh_if}
use Rattle.lf_admission_laws.specs.Admission.{AdmissionIsSound}
use Rattle.lf_admission_laws.proofs.Pushed.{names_grow}
use Rattle.lf_admission_laws.proofs.New_names.{NamesNew}
use Rattle.lf_admission_laws.proofs.Accepted.{accepts}

-- What the constructor of a derived list is a constructor of is declared there.
constructor_name : (E : Environment) (c : ConstInfo) (ind : Path) (index own fields : ℕ) (k : ConstructorDeclared E c) → c.detail ≡ Ctor ind index own fields
    → k.at.declaration.name ≡ ind
constructor_name E c ind index own fields k q = ap named_by (sym (ap (λ x. x.detail) k.is) ∙ q)
  where
    named_by : Detail → Path
    named_by (Ctor i j p f) = i
    named_by Plain = []
    named_by (Ind p j cs l) = []
    named_by (Rec i p m j rs) = []

no_other : (V : View) (E : Environment) (d : IndDecl) → Derived E → HasEntry V E d.name → NamesNew V d → (c : ConstInfo) (index own fields : ℕ) → Contains E c
    → c.detail ≡ Ctor d.name index own fields → ⊥
no_other V E d h all n c index own fields w q =
    let k : ConstructorDeclared E c = (as_declared E h).constructors c d.name index own fields w q in
    let t : ConstInfo = type_constant k.at.declaration k.at.large in
    fresh_if V E d.name all n.type (t, k.at.within t (zero, omega arith, refl), constructor_name E c d.name index own fields k q)

pub admission_is_sound : AdmissionIsSound
admission_is_sound V E h k b depth = accepts V E depth h λ d n.
    let list : ClosedList V E = derived_is_closed_list V E h k b in
    record {
      list = list;
      names = n;
      added = λ s new. record {
        list = list;
        closed = s;
        beside = n.beside;
        new = new.type;
        named = names_grow V E d (length d.levels) d.ty new.type
            n.type.names;
        fresh = no_other V E d h n.type_entry new;
      };
    }
