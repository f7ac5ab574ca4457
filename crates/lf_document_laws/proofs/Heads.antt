-- The extension law of heads, by the forms of commands.
use Rattle.std.proofs.Common.{◌≡◌, ℕ, false, List, [], ◌++◌, length, map, Option, None, refl}
use Rattle.lf_core.specs.declared.constant.ConstInfo.{ConstInfo}
use Rattle.lf_core.specs.declared.constant.ConstKind.{ConstKind}
use Rattle.lf_name.specs.declared.binder.BinderKind.{BinderKind}
use Rattle.lf_syntax.specs.Tree.{TermTree}
use Rattle.lf_syntax.specs.declared.command.CtorDecl.{CtorDecl}
use Rattle.lf_syntax.specs.declared.command.FieldDecl.{FieldDecl}
use Rattle.lf_checker.specs.View.{View, not_there, stands_before, there_of}
use Rattle.lf_checker.specs.Extends.{Tells}
use Rattle.lf_elaboration.specs.Variables.{level_names}
use Rattle.lf_elaboration.specs.Part.{State, Run, Part}
use Rattle.lf_elaboration_laws.specs.Extension as elaborating
use Rattle.lf_elaboration_laws.proofs.Kept as kept_run
use Rattle.lf_core.specs.Term.{Path}
use Rattle.lf_msg.specs.declared.diagnostic.Diagnostic.{Diagnostic}
use Rattle.lf_document.specs.Task.{Log, Judged, judged, in_part}
use Rattle.lf_document.specs.Setting.{Setting, Declaration, most_levels, most_levels_of_type, part, of_groups, taken_binders}
use Rattle.lf_document.specs.Headers.{header_part, Stated, axiom_constants, stated_for_value, constants_made, in_one_part, axiom_head, definition_head}
use Rattle.lf_document.specs.Values.{whole_definition}
use Rattle.lf_document.specs.Inductives.{constructing, inductive_constants, inductive_head}
use Rattle.lf_document.specs.StructureCommand.{structure_constants, structure_head}
use Rattle.lf_document.specs.Queries.{told, query, variable_types, checked_term, reduced_term}
use Rattle.lf_document.specs.TaskValue.{value_part, untyped_head}
use Rattle.lf_document_laws.specs.Extension.{Kept, on_view, HeadsExtend}
use Rattle.lf_document_laws.proofs.Kept.{kept_self, kept_then, kept_part, kept_judged}
use Rattle.lf_document_laws.proofs.Naming.{kept_at_most, kept_named, kept_named_new}
use Rattle.lf_document_laws.proofs.Wholes.{kept_stated, kept_stated_for_value, kept_whole_definition}
use Rattle.lf_document_laws.proofs.Inductives.{kept_inductive}
use Rattle.lf_document_laws.proofs.Structures.{kept_structure_constants}
use Rattle.lf_document_laws.proofs.Queries.{kept_variable, kept_checked, kept_reduced}

module _ (X : Setting) (V : View) (x : Tells V X.view) (g : Log) where
  kept_one_part : (limit : ℕ) (D : Declaration) (m k : Run (Judged (List ConstInfo)))
      → (there_of X.view D.name ≡ not_there → (u : ℕ) (s : State) → elaborating.Kept (m u s) (k u s))
      → Kept (in_one_part X limit D m g) (in_one_part (on_view X V) limit D k g)
  kept_one_part limit D m k h =
      kept_then _ _ _ _ (kept_named_new X.view V x limit D (in_part X.budget D.at m) (in_part X.budget D.at k) g (λ e. kept_part X.budget D.at m k g (h e)))
      (λ r l. kept_self (constants_made D.at r.erred r.value l))

  kept_axiom : (D : Declaration) → Kept (axiom_head X D g) (axiom_head (on_view X V) D g)
  kept_axiom D =
      kept_one_part most_levels D (axiom_constants (header_part X D) D) (axiom_constants (header_part (on_view X V) D) D)
      (λ e u s. kept_run.kept_then _ _ _ _ (kept_stated X X.view V x D.levels None D.at D.name D.binders D.ty u s) (λ y v z. refl))

  kept_definition : (kind : ConstKind) (D : Declaration) → Kept (definition_head X kind D g) (definition_head (on_view X V) kind D g)
  kept_definition kind D =
      let m : Run Stated = stated_for_value (header_part X D) D.name D.binders D.ty in
      let k : Run Stated = stated_for_value (header_part (on_view X V) D) D.name D.binders D.ty in
      kept_then _ _ _ _ (kept_named X.view V x most_levels D (in_part X.budget D.at (judged m)) (in_part X.budget D.at (judged k)) g
      (kept_part X.budget D.at (judged m) (judged k) g
      (λ u s. kept_judged m k u s (kept_stated_for_value X X.view V x D.levels None D.at D.name D.binders D.ty u s)))) (λ r l. refl)

  kept_untyped : (D : Declaration) (v : TermTree) → Kept (untyped_head X D v g) (untyped_head (on_view X V) D v g)
  kept_untyped D v =
      kept_one_part most_levels D (whole_definition (header_part X D) (value_part X D) D v)
      (whole_definition (header_part (on_view X V) D) (value_part (on_view X V) D) D v)
      (λ e u s. kept_whole_definition X X.view V x D.levels D.name D.at D v u s)

  kept_inductive_head : (D : Declaration) (ks : List CtorDecl) → Kept (inductive_head X D ks g) (inductive_head (on_view X V) D ks g)
  kept_inductive_head D ks =
      kept_one_part most_levels_of_type D (judged (inductive_constants X D (map (constructing D.name) ks)))
      (judged (inductive_constants (on_view X V) D (map (constructing D.name) ks)))
      (λ e u s. kept_judged (inductive_constants X D (map (constructing D.name) ks)) (inductive_constants (on_view X V) D (map (constructing D.name) ks)) u s
      (kept_inductive X V x D e (map (constructing D.name) ks) u s))

  kept_structure_head : stands_before X.view.position X.position ≡ false → (kind : BinderKind) (D : Declaration) (fs : List FieldDecl)
      → Kept (structure_head X kind D fs g) (structure_head (on_view X V) kind D fs g)
  kept_structure_head own kind D fs =
      kept_one_part most_levels_of_type D (structure_constants X kind D fs) (structure_constants (on_view X V) kind D fs)
      (λ e u s. kept_structure_constants X V x own kind D e fs u s)

  kept_query : (at : ℕ) (levels : List Path) (f : Part → Run (Option Diagnostic))
      → ((u : ℕ) (s : State) → elaborating.Kept (f (part X X.view levels None at) u s) (f (part X V levels None at) u s))
      → Kept (query X at levels f g) (query (on_view X V) at levels f g)
  kept_query at levels f h =
      let m : Run (Option Diagnostic) = f (part X X.view levels None at) in
      let k : Run (Option Diagnostic) = f (part X V levels None at) in
      kept_then _ _ _ _ (kept_at_most most_levels at (length levels) (in_part X.budget at (judged m)) (in_part X.budget at (judged k)) g
      (kept_part X.budget at (judged m) (judged k) g (λ u s. kept_judged m k u s (h u s))))
      (λ r l. kept_self (told at r.value l))

pub heads_extend : HeadsExtend
heads_extend = record {
  axioms = λ D X V x g. kept_axiom X V x g D;
  headers = λ kind D X V x g. kept_definition X V x g kind D;
  definitions = λ D v X V x g. kept_untyped X V x g D v;
  inductives = λ D ks X V x g. kept_inductive_head X V x g D ks;
  structures = λ kind D fs X V x own g. kept_structure_head X V x g own kind D fs;
  variables = λ c at bs X V x g. kept_query X V x g at (level_names X.scope [] c) (variable_types (taken_binders X.scope c ++ of_groups bs))
      (kept_variable X X.view V x (level_names X.scope [] c) at (taken_binders X.scope c ++ of_groups bs));
  checks = λ c at t X V x g. kept_query X V x g at (level_names X.scope [] c) (checked_term (taken_binders X.scope c) t)
      (kept_checked X X.view V x (level_names X.scope [] c) at (taken_binders X.scope c) t);
  reductions = λ c at t X V x g. kept_query X V x g at (level_names X.scope [] c) (reduced_term (taken_binders X.scope c) t)
      (kept_reduced X X.view V x (level_names X.scope [] c) at (taken_binders X.scope c) t);
}
