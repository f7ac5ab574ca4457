-- What is told of the fields' names is what the command does at them.
use Rattle.std.proofs.Common.{◌≡◌, Bool, true, false, List, [], ◌∷◌, ◌++◌, refl, ◌∙◌}
use Rattle.std.specs.Prelude.{codes}
use Rattle.lf_core.specs.Term.{Path}
use Rattle.lf_rules.specs.Recursor.{is_among}
use Rattle.lf_syntax.specs.declared.leaf.Ident.{Ident}
use Rattle.lf_checker.specs.View.{View, There, there, not_there, not_known, there_of}
use Rattle.lf_elaboration.specs.Run.{gives, choose}
use Rattle.lf_elaboration.specs.Part.{Run}
use Rattle.lf_msg.specs.declared.naming.NamingError.TheVariants.{Duplicate}
use Rattle.lf_msg.specs.declared.diagnostic.Diagnostic.TheVariants.{Naming}
use Rattle.lf_document.specs.Setting.{Declaration}
use Rattle.lf_document.specs.StructureCommand.{field_name, field_there, unless_taken, constructor_name, recursor_name}
use Rattle.lf_document.specs.Task.{Judged, wrong}
use Rattle.lf_fields.specs.declared.taken.FieldNames.{FieldNames}
use Rattle.lf_fields.specs.Meant.{meant, placed, beside, and_then, all}

one_is : {A : Type 0} (D : Declaration) (f : Ident) (t : There) (b : Bool) (v : FieldNames) (m : Run (Judged A))
    → field_there D f t (choose b (gives (wrong f.at (Naming (Duplicate (field_name D f))))) (meant v m))
    ≡ meant (and_then (beside (placed f.at (field_name D f) t) f.at (field_name D f) b) v) m
one_is D f (there p) b v m = refl
one_is D f (not_known k) b v m = refl
one_is D f not_there true v m = refl
one_is D f not_there false v m = refl

all_is : {A : Type 0} (V : View) (D : Declaration) (taken : List Path) (fs : List Ident) (m : Run (Judged A))
    → unless_taken V D taken fs m ≡ meant (all V D.name taken fs) m
all_is V D taken [] m = refl
all_is V D taken (f ∷ fs) m =
    (λ i. field_there D f (there_of V (field_name D f)) (choose (is_among (field_name D f) taken)
    (gives (wrong f.at (Naming (Duplicate (field_name D f))))) (all_is V D (field_name D f ∷ taken) fs m i)))
    ∙ one_is D f (there_of V (field_name D f)) (is_among (field_name D f) taken) (all V D.name (field_name D f ∷ taken) fs) m

pub told_means : {A : Type 0} (V : View) (D : Declaration) (n : Path) (fs : List Ident) (m : Run (Judged A)) → D.name ≡ n
    → unless_taken V D (constructor_name D ∷ recursor_name D ∷ []) fs m
    ≡ meant (all V n ((n ++ codes "mk" ∷ []) ∷ (n ++ codes "rec" ∷ []) ∷ []) fs) m
told_means V D n fs m h =
    all_is V D (constructor_name D ∷ recursor_name D ∷ []) fs m
    ∙ (λ i. meant (all V (h i) ((h i ++ codes "mk" ∷ []) ∷ (h i ++ codes "rec" ∷ []) ∷ []) fs) m)
