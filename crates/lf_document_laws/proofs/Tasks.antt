-- What heads and bodies wait for, and that what they tell grows, for each command.
use Rattle.std.proofs.Common.{◌≡◌, ℕ, Bool, true, false, not, ◌&&◌, ◌||◌, if◌then◌else◌, List, [], ◌∷◌, ◌++◌, length, map, Option, Some, None, refl}
use Rattle.lf_core.specs.Term.{Path, Term}
use Rattle.lf_core.specs.Suffix.{suffix_of}
use Rattle.lf_core.specs.declared.suffix.Suffix.{Suffix}
use Rattle.lf_core.specs.declared.constant.ConstInfo.{ConstInfo}
use Rattle.lf_core.specs.declared.constant.ConstKind.{ConstKind}
use Rattle.lf_core.specs.declared.constant.ConstKind.TheVariants.{Def as DefKind, Theorem as TheoremKind}
use Rattle.lf_core.specs.declared.constant.TaskKey.{TaskKey}
use Rattle.lf_name.specs.declared.binder.BinderKind.{BinderKind}
use Rattle.lf_name.specs.declared.binder.BinderKind.TheVariants.{Explicit, Inst}
use Rattle.lf_rules.specs.Environment.{Context}
use Rattle.lf_rules.specs.Inductive.{type_alone}
use Rattle.lf_syntax.specs.Tree.{TermTree}
use Rattle.lf_syntax.specs.declared.leaf.Ident.{Ident}
use Rattle.lf_syntax.specs.declared.command.CtorDecl.{CtorDecl}
use Rattle.lf_syntax.specs.declared.command.FieldDecl.{FieldDecl}
use Rattle.lf_syntax.specs.declared.command.Helper.{Helper}
use Rattle.lf_syntax.specs.declared.pattern.Alternative.{Alternative}
use Rattle.lf_syntax.specs.declared.command.Command.{Command}
use Rattle.lf_syntax.specs.declared.command.Command.TheVariants.{
  Axiom,
  Def,
  Equations,
  Theorem,
  Inductive,
  Structure,
  Class,
  Instance,
  Namespace,
  Section,
  End,
  OpenNames,
  Universe,
  Variable,
  Check,
  Reduce,
  PrintAxioms,
  Bad,
}
use Rattle.lf_checker.specs.View.{View, is_child, last_of, there_of}
use Rattle.lf_checker.specs.Run as checker
use Rattle.lf_checker.specs.Checker.{height_of}
use Rattle.lf_checker.specs.Structures as structures
use Rattle.lf_checker.specs.Structures.{structure_of}
use Rattle.lf_checker.specs.Admission.{view_with_type, add_inductive}
use Rattle.lf_branch.specs.Branch.{Branch, Verdict, not_owned, by_there, by_suffix, verdict}
use Rattle.lf_extension_laws.specs.Needs.{IsWanted}
use Rattle.lf_extension_laws.proofs.Only.{Only, Reads}
use Rattle.lf_extension_laws.proofs.OnlyWhnf.{only_structure}
use Rattle.lf_resolution.specs.Walk.{resolve}
use Rattle.lf_resolution_laws.specs.Needs.{ResolutionWaits}
use Rattle.lf_elaboration.specs.Closing.{sorry_of}
use Rattle.lf_elaboration.specs.Part.{Part, Run, State}
use Rattle.lf_elaboration.specs.Realizers.{Realized, makes, makes_none, waits, realize}
use Rattle.lf_elaboration.specs.Scope.{Scope, is_mismatched_end}
use Rattle.lf_elaboration.specs.Variables.{level_names}
use Rattle.lf_elaboration_laws.specs.Keeping.{Grows}
use Rattle.lf_elaboration_laws.proofs.Growing.{grows_same}
use Rattle.lf_elaboration_laws.proofs.Keeping.{keeps_then}
use Rattle.lf_elaboration_laws.proofs.RealizingWaits.{realizing_waits}
use Rattle.lf_msg.specs.declared.naming.NamingError.TheVariants.{MismatchedEnd}
use Rattle.lf_msg.specs.declared.diagnostic.Diagnostic.{Diagnostic}
use Rattle.lf_msg.specs.declared.diagnostic.Diagnostic.TheVariants.{Naming, Syntax, UsesSorry}
use Rattle.lf_document.specs.Diagnoses.{syntax_error}
use Rattle.lf_document.specs.Task.{Log, nothing_told, Attempt, done, need, Task, Judged, gives, tells_if, judged, in_part}
use Rattle.lf_document.specs.Setting.{Setting, Declaration, declaration, nesting, most_levels, most_levels_of_type, part, by_kernel, of_groups, taken_binders}
use Rattle.lf_document.specs.Constants.{Valued, with_value, Header, Made, nothing_made, entries_made, is_marked, is_one_marked}
use Rattle.lf_document.specs.Headers.{header_part, Stated, stated_for_value, constants_made, in_one_part, axiom_constants, axiom_head, definition_head}
use Rattle.lf_document.specs.Values.{height_read, value_or_sorry, warned, completed, written_value, whole_definition}
use Rattle.lf_document.specs.Inductives.{
  own_part,
  with_family,
  declaring,
  Constructing,
  constructing,
  declared,
  family_type,
  whole_declaration,
  inductive_constants,
  inductive_head,
}
use Rattle.lf_document.specs.StructureCommand.{
  constructor_of_fields,
  constructor_name,
  recursor_name,
  field_names,
  all_fields,
  pushed_all,
  with_definitions,
  if_structure,
  structure_constants,
  structure_head,
}
use Rattle.lf_document.specs.EquationsBody.{equations_value}
use Rattle.lf_document.specs.Helpers.{helper_name, helper_part, helper_header, with_helper, helpers}
use Rattle.lf_document.specs.Queries.{told, query, variable_types, checked_term, reduced_term, axioms_of}
use Rattle.lf_document.specs.Asking.{names_of}
use Rattle.lf_document.specs.TaskValue.{
  outcome,
  task_value,
  value_part,
  untyped_head,
  def_head,
  head,
  head_value,
  branch_of,
  value_in,
  with_helpers,
  written_body,
  equations_body,
  body_of,
  body,
  body_value,
  real_outcome,
  real_value,
}
use Rattle.lf_document_laws.specs.Extension.{IsOwn}
use Rattle.lf_document_laws.specs.Needs.{Lasts, OutcomeWaits, TasksLast, ValuesWait}
use Rattle.lf_document_laws.proofs.Wants.{Wants, reads_of, only_of, type_childless, wants_pushed, MayAdd, own_may, wants_all, may_still}
use Rattle.lf_document_laws.proofs.Asked.{only_height, only_inductive}
use Rattle.lf_document_laws.proofs.Lasting.{steps, On, on_judged, on_kernel, on_stated_for_value, on_axiom, on_written_value, on_whole_definition}
use Rattle.lf_document_laws.proofs.LastingCommands.{
  only_all_fields,
  on_unless_taken,
  on_family,
  on_whole_declaration,
  on_variable,
  on_checked,
  on_reduced,
  on_axioms,
  on_equations,
}
use Rattle.lf_document_laws.proofs.Lasts.{
  grew_same,
  LastsWith,
  lasts_then,
  lasts_with,
  with_then,
  with_with,
  lasts_tells,
  lasts_tells_if,
  lasts_part,
  VerdictIn,
  verdict_there,
  lasts_taken,
  lasts_at_most,
  lasts_named,
  lasts_ask_all,
}

-- Given what resolution waits for, of a view that needs such keys.
module _ (res : ResolutionWaits) (Key : TaskKey → Type 0) where
  resolving : (W : View) → Wants W Key → (S : Scope) (n : ℕ) (C : Context) (t : Term) (u : ℕ) → Only true Key (resolve W S n C t u)
  resolving W w S n C t u = only_of W Key w (resolve W S n C t u) (res W S n C t u)

  module _ (X : Setting) (w : Wants X.view Key) where
    abbrev reads : Reads X.view Key
    reads = reads_of X.view Key w

    abbrev found : (n : ℕ) (C : Context) (t : Term) (u : ℕ) → Only true Key (resolve X.view X.scope n C t u)
    found = resolving X.view w X.scope

    lasts_made : (at : ℕ) (erred : Bool) (o : Option (List ConstInfo)) (g : Log) → Lasts Key g (constants_made at erred o g)
    lasts_made at erred (Some cs) g =
        lasts_then Key g (tells_if (is_one_marked cs && not erred) at UsesSorry g) (λ y. gives (entries_made cs))
        (lasts_tells_if Key (is_one_marked cs && not erred) at UsesSorry g) (λ y l. grew_same l)
    lasts_made at erred None g = grew_same g

    lasts_one_part : (limit : ℕ) (D : Declaration) (m : Run (Judged (List ConstInfo))) (g : Log) → ((u : ℕ) (s : State) → On Key s (m u s))
        → Lasts Key g (in_one_part X limit D m g)
    lasts_one_part limit D m g h =
        lasts_then Key g _ _ (lasts_named Key X.view reads limit D (in_part X.budget D.at m) g (lasts_part Key X.budget D.at m g h))
        (λ r l. lasts_made D.at r.erred r.value l)

    lasts_axiom : (D : Declaration) (g : Log) → Lasts Key g (axiom_head X D g)
    lasts_axiom D g = lasts_one_part most_levels D (axiom_constants (header_part X D) D) g (on_axiom Key (header_part X D) reads found D)

    lasts_header : (kind : ConstKind) (D : Declaration) (g : Log) → Lasts Key g (definition_head X kind D g)
    lasts_header kind D g =
        let m : Run Stated = stated_for_value (header_part X D) D.name D.binders D.ty in
        lasts_then Key g _ _
        (lasts_named Key X.view reads most_levels D (in_part X.budget D.at (judged m)) g
        (lasts_part Key X.budget D.at (judged m) g
        (λ u s. on_judged Key m u s (on_stated_for_value Key (header_part X D) reads found D.name D.binders D.ty u s))))
        (λ r l. grew_same l)

    lasts_untyped : (D : Declaration) (v : TermTree) (g : Log) → Lasts Key g (untyped_head X D v g)
    lasts_untyped D v g =
        lasts_one_part most_levels D (whole_definition (header_part X D) (value_part X D) D v) g
        (on_whole_definition Key (header_part X D) (value_part X D) reads found reads found D v)

    -- ---- Inductive types

    on_declared : (D : Declaration) (ks : List Constructing) (u : ℕ) (s : State) → On Key s (declared X D ks u s)
    on_declared D ks u s =
        keeps_then Grows Grows Key steps s (family_type (own_part X D) D u s) (λ T. whole_declaration (with_family X D T) D T ks)
        (on_family Key (own_part X D) reads found D u s)
        (λ T v z.
        let also : Wants (view_with_type X.view (declaring D T [])) Key
        = wants_pushed X.view (type_alone (declaring D T [])) X.view.position
        (type_childless X.view (type_alone (declaring D T [])) X.view.position refl) Key w in
        on_whole_declaration Key (with_family X D T) (reads_of (view_with_type X.view (declaring D T [])) Key also)
        (resolving (view_with_type X.view (declaring D T [])) also X.scope) D T ks v z)

    on_inductive : (D : Declaration) (ks : List Constructing) (u : ℕ) (s : State) → On Key s (inductive_constants X D ks u s)
    on_inductive D ks u s =
        keeps_then Grows Grows Key steps s (declared X D ks u s) (λ d. by_kernel (own_part X D) (add_inductive X.view nesting d))
        (on_declared D ks u s)
        (λ d v z. on_kernel Key (own_part X D) reads found (add_inductive X.view nesting d) v z (only_inductive X.view Key w nesting d v))

    lasts_inductive : (D : Declaration) (ks : List CtorDecl) (g : Log) → Lasts Key g (inductive_head X D ks g)
    lasts_inductive D ks g =
        lasts_one_part most_levels_of_type D (judged (inductive_constants X D (map (constructing D.name) ks))) g
        (λ u s. on_judged Key (inductive_constants X D (map (constructing D.name) ks)) u s (on_inductive D (map (constructing D.name) ks) u s))

    -- ---- Structures

    module _ (may : MayAdd Key X.view.position X.position) where
      added : (cs : List ConstInfo) → Wants (pushed_all X.view cs X.position) Key
      added cs = wants_all Key cs X.view X.position may w

      on_definitions : (kind : BinderKind) (D : Declaration) (fs : List Ident) (cs : List ConstInfo) (T : Term) (u : ℕ) (s : State)
          → On Key s (with_definitions X kind D fs cs T u s)
      on_definitions kind D fs cs T u s =
          on_unless_taken Key X.view reads D (constructor_name D ∷ recursor_name D ∷ []) fs _ u s
          (keeps_then Grows Grows Key steps s _ _
          (on_kernel Key (own_part X D) reads found (all_fields kind (pushed_all X.view cs X.position) X.position D fs T) u s
          (only_all_fields Key X.position D kind (pushed_all X.view cs X.position) (added cs) (may_still Key cs X.view X.position may) fs T u))
          (λ ds v z. grows_same z))

      on_if_structure : (kind : BinderKind) (D : Declaration) (fs : List Ident) (cs : List ConstInfo) (o : Option structures.Structure) (u : ℕ) (s : State)
          → On Key s (if_structure X kind D fs cs o u s)
      on_if_structure kind D fs cs (Some r) u s = on_definitions kind D fs cs r.ty u s
      on_if_structure kind D fs cs None u s = grows_same s

      on_structure : (kind : BinderKind) (D : Declaration) (fs : List FieldDecl) (u : ℕ) (s : State) → On Key s (structure_constants X kind D fs u s)
      on_structure kind D fs u s =
          keeps_then Grows Grows Key steps s _ _ (on_inductive D (constructor_of_fields D fs ∷ []) u s)
          (λ cs v z. keeps_then Grows Grows Key steps z _ _
          (on_kernel Key (own_part X D) reads found (structure_of (pushed_all X.view cs X.position) D.name) v z
          (only_structure (pushed_all X.view cs X.position) Key (reads_of (pushed_all X.view cs X.position) Key (added cs)) true D.name v))
          (λ o i j. on_if_structure kind D (field_names fs) cs o i j))

      lasts_structure : (kind : BinderKind) (D : Declaration) (fs : List FieldDecl) (g : Log) → Lasts Key g (structure_head X kind D fs g)
      lasts_structure kind D fs g = lasts_one_part most_levels_of_type D (structure_constants X kind D fs) g (on_structure kind D fs)

    -- ---- Commands that ask

    lasts_told : (at : ℕ) (o : Option (Option Diagnostic)) (g : Log) → Lasts Key g (told at o g)
    lasts_told at (Some (Some d)) g = lasts_tells Key at d g
    lasts_told at (Some None) g = grew_same g
    lasts_told at None g = grew_same g

    lasts_query : (at : ℕ) (levels : List Path) (f : Part → Run (Option Diagnostic))
        → ((u : ℕ) (s : State) → On Key s (f (part X X.view levels None at) u s)) → (g : Log) → Lasts Key g (query X at levels f g)
    lasts_query at levels f h g =
        let m : Run (Option Diagnostic) = f (part X X.view levels None at) in
        lasts_then Key g _ _
        (lasts_at_most Key most_levels at (length levels) (in_part X.budget at (judged m)) g
        (lasts_part Key X.budget at (judged m) g (λ u s. on_judged Key m u s (h u s)))) (λ r l. lasts_told at r.value l)

    lasts_def : (D : Declaration) (v : TermTree) (o : Option TermTree) (g : Log) → Lasts Key g (def_head X D v o g)
    lasts_def D v (Some t) g = lasts_header DefKind D g
    lasts_def D v None g = lasts_untyped D v g

    lasts_head : MayAdd Key X.view.position X.position → (c : Command) (g : Log) → Lasts Key g (head X c g)
    lasts_head may (Axiom d) g = lasts_axiom (declaration X.scope (Axiom d) d) g
    lasts_head may (Def d v hs) g = lasts_def (declaration X.scope (Def d v hs) d) v d.ty g
    lasts_head may (Equations d alts) g = lasts_header DefKind (declaration X.scope (Equations d alts) d) g
    lasts_head may (Theorem d v hs) g = lasts_header TheoremKind (declaration X.scope (Theorem d v hs) d) g
    lasts_head may (Inductive d ks) g = lasts_inductive (declaration X.scope (Inductive d ks) d) ks g
    lasts_head may (Structure d fs) g = lasts_structure may Explicit (declaration X.scope (Structure d fs) d) fs g
    lasts_head may (Class d fs) g = lasts_structure may Inst (declaration X.scope (Class d fs) d) fs g
    lasts_head may (Instance d v) g = lasts_header DefKind (declaration X.scope (Instance d v) d) g
    lasts_head may (Namespace at n) g = grew_same g
    lasts_head may (Section at n) g = grew_same g
    lasts_head may (End at n) g =
        lasts_then Key g (tells_if (is_mismatched_end X.scope (End at n)) at (Naming MismatchedEnd) g) (λ y. gives nothing_made)
        (lasts_tells_if Key (is_mismatched_end X.scope (End at n)) at (Naming MismatchedEnd) g) (λ y l. grew_same l)
    lasts_head may (OpenNames at ns) g = grew_same g
    lasts_head may (Universe at ns) g = grew_same g
    lasts_head may (Variable at bs) g =
        lasts_query at (level_names X.scope [] (Variable at bs)) (variable_types (taken_binders X.scope (Variable at bs) ++ of_groups bs))
        (on_variable Key (part X X.view (level_names X.scope [] (Variable at bs)) None at) reads found
        (taken_binders X.scope (Variable at bs) ++ of_groups bs)) g
    lasts_head may (Check at t) g =
        lasts_query at (level_names X.scope [] (Check at t)) (checked_term (taken_binders X.scope (Check at t)) t)
        (on_checked Key (part X X.view (level_names X.scope [] (Check at t)) None at) reads found (taken_binders X.scope (Check at t)) t) g
    lasts_head may (Reduce at t) g =
        lasts_query at (level_names X.scope [] (Reduce at t)) (reduced_term (taken_binders X.scope (Reduce at t)) t)
        (on_reduced Key (part X X.view (level_names X.scope [] (Reduce at t)) None at) reads found (taken_binders X.scope (Reduce at t)) t) g
    lasts_head may (PrintAxioms at n) g =
        lasts_query at [] (axioms_of n) (on_axioms Key (part X X.view [] None at) reads found w n) g
    lasts_head may (Bad at f) g = lasts_tells Key at (Syntax (syntax_error f)) g

  -- ---- Bodies, over views with more constants of the command

  lasts_read : (o : checker.Answer ℕ) → Only true Key o → (g : Log) → Lasts Key g (height_read o g)
  lasts_read (checker.done h u) k g = grew_same g
  lasts_read (checker.refused e u) k g = grew_same g
  lasts_read checker.out k g = grew_same g
  lasts_read (checker.need i) k g = k

  lasts_or_sorry : (W : View) → Wants W Key → (h : Header) (o : Option Valued) (g : Log) → Lasts Key g (value_or_sorry W h o g)
  lasts_or_sorry W w h (Some v) g = grew_same g
  lasts_or_sorry W w h None g =
      lasts_then Key g _ _
      (lasts_read (height_of W (sorry_of h.sort h.info.ty) 0) (only_height W Key (reads_of W Key w) (sorry_of h.sort h.info.ty) 0) g)
      (λ k l. grew_same l)

  lasts_completed : (X : Setting) (W : View) → Wants W Key → (at : ℕ) (h : Header) (m : Run (Judged Valued)) → ((u : ℕ) (s : State) → On Key s (m u s))
      → (g : Log) → Lasts Key g (completed X W at h m g)
  lasts_completed X W w at h m e g =
      lasts_then Key g _ _ (lasts_part Key X.budget at m g e)
      (λ r l. lasts_then Key l _ _ (lasts_or_sorry W w h r.value l)
      (λ v j. lasts_then Key j (warned at (h.erred || r.erred) (with_value h.info v) j) (λ y. gives v)
      (lasts_tells_if Key (is_marked (with_value h.info v) && not (h.erred || r.erred)) at UsesSorry j) (λ y i. grew_same i)))

  -- A branch that needs such keys, to which constants may be added.
  abbrev Open : Branch → Type 0
  Open b = Wants b.view Key × MayAdd Key b.view.position b.position

  suffix_in : (o : Option Suffix) (v : Verdict) → VerdictIn Key v → VerdictIn Key (by_suffix o v)
  suffix_in (Some s) v h = tt
  suffix_in None v h = h

  verdict_in : (b : Branch) → Open b → (n : Path) → VerdictIn Key (verdict b n)
  verdict_in b o n = at (is_child b.prefix n)
    where
      at : (c : Bool) → VerdictIn Key (if c then by_suffix (suffix_of (last_of n)) (by_there (there_of b.view n)) else not_owned)
      at true =
          suffix_in (suffix_of (last_of n)) (by_there (there_of b.view n)) (verdict_there Key (there_of b.view n) ((reads_of b.view Key o.0).theres n))
      at false = tt

  module _ (X : Setting) (h : Header) where
    lasts_helper_header : (b : Branch) → Open b → (x : Helper) (g : Log) → Lasts Key g (helper_header X h b x g)
    lasts_helper_header b o x g =
        let P : Part = helper_part X h b x h.info.name in
        let m : Run Stated = stated_for_value P (helper_name h x) (of_groups x.binders) (Some x.ty) in
        lasts_then Key g _ _
        (lasts_taken Key x.name.at (helper_name h x) (verdict b (helper_name h x)) (in_part X.budget x.name.at (judged m)) g (verdict_in b o (helper_name h x))
        (lasts_part Key X.budget x.name.at (judged m) g
        (λ u s. on_judged Key m u s
        (on_stated_for_value Key P (reads_of b.view Key o.0) (resolving b.view o.0 X.scope) (helper_name h x) (of_groups x.binders) (Some x.ty) u s))))
        (λ r l. grew_same l)

    lasts_with_helper : (b : Branch) → Open b → (x : Helper) (k : Option Header) (g : Log) → LastsWith Key Open g (with_helper X h b x k g)
    lasts_with_helper b o x None g = (o, grew_same g)
    lasts_with_helper b o x (Some k) g =
        let P : Part = helper_part X h b x (helper_name h x) in
        with_then Key Open g _ _
        (lasts_completed X b.view o.0 x.name.at k (written_value P k.info (length (of_groups x.binders)) x.value)
        (on_written_value Key P (reads_of b.view Key o.0) (resolving b.view o.0 X.scope) k.info (length (of_groups x.binders)) x.value) g)
        (λ v l. ((o.1 b.view refl (with_value k.info v) o.0, o.1), grew_same l))

    lasts_helpers : (xs : List Helper) (b : Branch) → Open b → (g : Log) → LastsWith Key Open g (helpers X h b xs g)
    lasts_helpers [] b o g = (o, grew_same g)
    lasts_helpers (x ∷ xs) b o g =
        let rest : (c : Branch) (l : Log) → Open c → LastsWith Key Open l (helpers X h c xs l) = λ c l p. lasts_helpers xs c p l in
        with_then Key Open g _ _ (lasts_helper_header b o x g) (λ k l. with_with Key Open Open l _ _ (lasts_with_helper b o x k l) rest)

    abbrev ValueLasts : ℕ → (Part → Run (Judged Valued)) → Type 0
    ValueLasts at m = (W : View) → Wants W Key → (u : ℕ) (s : State) → On Key s (m (part X W h.info.levels (Some h.info.name) at) u s)

    lasts_value_in : (at : ℕ) (m : Part → Run (Judged Valued)) → ValueLasts at m → (b : Branch) (g : Log) → Open b → Lasts Key g (value_in X h at b m g)
    lasts_value_in at m e b g o = lasts_then Key g _ _ (lasts_completed X b.view o.0 at h _ (e b.view o.0) g) (λ v l. grew_same l)

    lasts_with_helpers : Open (branch_of X h) → (at : ℕ) (hs : List Helper) (m : Part → Run (Judged Valued)) → ValueLasts at m → (g : Log)
        → Lasts Key g (with_helpers X h at hs m g)
    lasts_with_helpers o at hs m e g = lasts_with Key Open g _ _ (lasts_helpers hs (branch_of X h) o g) (lasts_value_in at m e)

    lasts_written : Open (branch_of X h) → (D : Declaration) (v : TermTree) (hs : List Helper) (g : Log) → Lasts Key g (written_body X h D v hs g)
    lasts_written o D v hs g =
        lasts_with_helpers o D.at hs (λ P. written_value P h.info (length D.binders) v)
        (λ W w. on_written_value Key (part X W h.info.levels (Some h.info.name) D.at) (reads_of W Key w) (resolving W w X.scope) h.info (length D.binders) v) g

    lasts_equations : Open (branch_of X h) → (D : Declaration) (own : Path) (alts : List Alternative) (g : Log)
        → Lasts Key g (equations_body X h D own alts g)
    lasts_equations o D own alts g =
        lasts_with_helpers o D.at [] (λ P. equations_value P h.info own (length D.binders) alts)
        (λ W w. on_equations Key (part X W h.info.levels (Some h.info.name) D.at) (reads_of W Key w) (resolving W w X.scope) h.info own (length D.binders)
        alts) g

    lasts_body_of : Open (branch_of X h) → (c : Command) (g : Log) → Lasts Key g (body_of X h c g)
    lasts_body_of o (Def d v hs) g = lasts_written o (declaration X.scope (Def d v hs) d) v hs g
    lasts_body_of o (Equations d alts) g = lasts_equations o (declaration X.scope (Equations d alts) d) d.name.name alts g
    lasts_body_of o (Theorem d v hs) g = lasts_written o (declaration X.scope (Theorem d v hs) d) v hs g
    lasts_body_of o (Instance d v) g = lasts_written o (declaration X.scope (Instance d v) d) v [] g
    lasts_body_of o _ g = grew_same g

  lasts_body : (X : Setting) → Wants X.view Key → MayAdd Key X.view.position X.position → (c : Command) (h : Option Header) (g : Log)
      → Lasts Key g (body X c h g)
  lasts_body X w may c (Some h) g = lasts_body_of X h (w, may) c g
  lasts_body X w may c None g = grew_same g

own_adds : (X : Setting) → IsOwn X → MayAdd (IsWanted X.view) X.view.position X.position
own_adds X own = own_may (IsWanted X.view) X.view.position X.position own

pub tasks_last : ResolutionWaits → TasksLast
tasks_last res = record {
  heads = λ X own c g. lasts_head res (IsWanted X.view) X (λ k h. h) (own_adds X own) c g;
  bodies = λ X own c h g. lasts_body res (IsWanted X.view) X (λ k i. i) (own_adds X own) c h g;
}

-- ---- Values

outcome_waits : (Key : TaskKey → Type 0) (g : Log) (o : Attempt Made) → Lasts Key g o → OutcomeWaits Key (outcome o)
outcome_waits Key g (done m l) h = tt
outcome_waits Key g (need k) h = h

value_waits : (Key : TaskKey → Type 0) (V : View) → Wants V Key → (t : Task Made) → ((g : Log) → Lasts Key g (t g)) → OutcomeWaits Key (task_value V t)
value_waits Key V w t h =
    outcome_waits Key nothing_told _
    (lasts_then Key nothing_told _ _ (h nothing_told)
    (λ m l. lasts_then Key l _ _ (lasts_ask_all Key V (reads_of V Key w) (names_of m) l) (λ y j. grew_same j)))

real_waits : (V : View) (r : Realized) → ((k : TaskKey) → r ≡ waits k → IsWanted V k) → OutcomeWaits (IsWanted V) (real_outcome r)
real_waits V (makes c) h = tt
real_waits V makes_none h = tt
real_waits V (waits k) h = h k refl

pub real_value_waits : (V : View) (units : ℕ) (n : Path) → OutcomeWaits (IsWanted V) (real_value V units n)
real_value_waits V units n = real_waits V (realize V units nesting n) (realizing_waits V units nesting n)

module _ (res : ResolutionWaits) (Key : TaskKey → Type 0) (X : Setting) (w : Wants X.view Key) (may : MayAdd Key X.view.position X.position) where
  pub head_waits : (c : Command) → OutcomeWaits Key (head_value X c)
  head_waits c = value_waits Key X.view w (head X c) (λ g. lasts_head res Key X w may c g)

  pub body_waits : (c : Command) (h : Option Header) → OutcomeWaits Key (body_value X c h)
  body_waits c h = value_waits Key X.view w (body X c h) (λ g. lasts_body res Key X w may c h g)

pub values_wait : ResolutionWaits → ValuesWait
values_wait res = record {
  heads = λ X own c. head_waits res (IsWanted X.view) X (λ k h. h) (own_adds X own) c;
  bodies = λ X own c h. body_waits res (IsWanted X.view) X (λ k i. i) (own_adds X own) c h;
  reals = real_value_waits;
}
