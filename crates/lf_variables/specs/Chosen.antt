-- What a round over the variables works on.
use Rattle.std.specs.Prelude.{Bool, true, false, List, [], ◌∷◌, flat_map}
use Rattle.lf_name.specs.declared.binder.BinderKind.{BinderKind}
use Rattle.lf_name.specs.declared.binder.BinderKind.TheVariants.{Explicit, Implicit, Inst}
use Rattle.lf_elaboration.specs.References.{term_references}
use Rattle.lf_elaboration.specs.Variables.{goes_along, is_named, named_by}
use Rattle.lf_elaboration.specs.declared.reference.Reference.{Reference}
use Rattle.lf_elaboration.specs.declared.variable.Variable.{Variable}

-- The references of the variables' types.
abbrev pub of_types : List Variable → List Reference
of_types vs = flat_map (λ v. term_references v.ty) vs

-- Whether a variable is taken where these are, of which `rs` has the header's references and those of their types.
abbrev pub is_asked_for : List Variable → List Reference → List Variable → BinderKind → Variable → Bool
is_asked_for vs rs taken Explicit v = is_named rs v
is_asked_for vs rs taken Implicit v = is_named rs v
is_asked_for vs rs taken Inst v = goes_along taken (named_by vs v)

-- Those whose flag is set.
abbrev pub chosen : List Variable → List Bool → List Variable
chosen [] fs = []
chosen (v ∷ vs) [] = []
chosen (v ∷ vs) (true ∷ fs) = v ∷ chosen vs fs
chosen (v ∷ vs) (false ∷ fs) = chosen vs fs
