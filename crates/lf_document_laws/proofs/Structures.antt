-- The extension law of structures and classes: what is added to the view for the fields extends as the view does.
use Rattle.std.proofs.Common.{◌≡◌, ℕ, suc, false, List, [], ◌∷◌, Option, Some, None, length, refl, subst}
use Rattle.lf_core.specs.Term.{Path, Term}
use Rattle.lf_core.specs.declared.constant.ConstInfo.{ConstInfo}
use Rattle.lf_core.specs.declared.constant.ConstKind.TheVariants.{Axiom}
use Rattle.lf_core.specs.declared.constant.Detail.{Detail}
use Rattle.lf_core.specs.declared.constant.Detail.TheVariants.{Ind}
use Rattle.lf_name.specs.declared.binder.BinderKind.{BinderKind}
use Rattle.lf_rules.specs.Recursor.{is_among}
use Rattle.lf_rules.specs.Telescope.{Telescope}
use Rattle.lf_syntax.specs.declared.leaf.Ident.{Ident}
use Rattle.lf_syntax.specs.declared.command.FieldDecl.{FieldDecl}
use Rattle.lf_checker.specs.View.{View, There, there, not_there, not_known, stands_before, there_of, pushed}
use Rattle.lf_checker.specs.Extends.{Shape, Tells}
use Rattle.lf_checker.specs.Run as checker
use Rattle.lf_checker.specs.Calls.{Seen, known, unknown, missing, see}
use Rattle.lf_checker.specs.Structures.{Structure, constructor_seen, by_type, structure_seen, structure_of}
use Rattle.lf_checker.specs.Checker.{add_header, add_decl}
use Rattle.lf_checker.specs.Admission.{add_inductive}
use Rattle.lf_extension_laws.specs.Extension as checking
use Rattle.lf_extension_laws.proofs.Kept as kept_checker
use Rattle.lf_extension_laws.proofs.Kept.{kept_seen, see_kept}
use Rattle.lf_extension_laws.proofs.Extended_declarations.{SameThere, there_kept, header_kept, decl_kept}
use Rattle.lf_elaboration.specs.Forms.{Binding, as_pi}
use Rattle.lf_elaboration.specs.Part.{Run, State}
use Rattle.lf_elaboration.specs.Statement.{open_pis}
use Rattle.lf_elaboration_laws.specs.Extension.{Kept}
use Rattle.lf_elaboration_laws.proofs.Kept.{kept_then, kept_choose}
use Rattle.lf_document.specs.Task.{Judged}
use Rattle.lf_document.specs.Setting.{Setting, Declaration, nesting, no_locals, by_kernel}
use Rattle.lf_document.specs.Inductives.{Constructing, own_part, declared, inductive_constants}
use Rattle.lf_document.specs.StructureCommand.{
  field_name,
  field_there,
  unless_taken,
  with_self,
  field_constant,
  field_definition,
  at_field,
  field_definitions,
  all_fields,
  pushed_all,
  with_definitions,
  if_structure,
  structure_constants,
  constructor_of_fields,
  constructor_name,
  recursor_name,
  field_names,
}
use Rattle.lf_document_laws.specs.Extension.{on_view}
use Rattle.lf_document_laws.proofs.Gives.{Gives, gives_then, gives_with, gives_header, kept_given, Makes, makes_then, makes_answered, kept_made}
use Rattle.lf_document_laws.proofs.Pushed.{IsTold, AllTold, own_still, one_extends, all_extend}
use Rattle.lf_document_laws.proofs.Added.{told_of, added_told}
use Rattle.lf_document_laws.proofs.Parts.{kept_kernel}
use Rattle.lf_document_laws.proofs.Inductives.{named_both, kept_inductive}

ruleset checked = (kept_checker.kept_self, kept_checker.kept_then, kept_checker.kept_choose)

-- ---- That a type is a structure

module _ (U V : View) (x : Tells V U) where
  kept_constructor_seen : (S : Path) (l p : ℕ) (n : Path) (u : ℕ)
      → checking.Kept (constructor_seen S l p n (see U n) u) (constructor_seen S l p n (see V n) u)
  kept_constructor_seen S l p n u = kept_seen (see U n) (see V n) (λ q. constructor_seen S l p n q u) (λ q. constructor_seen S l p n q u) (λ i. refl)
      (λ q. kept_checker.kept_self (constructor_seen S l p n q u)) (see_kept U V x n)

  kept_by_type : (S : Path) (k : Shape) (e : Detail) (u : ℕ) → checking.Kept (by_type U S k e u) (by_type V S k e u)
  kept_by_type S k (Ind p i (n ∷ []) g) u = search (checked, kept_constructor_seen) depth 6
  kept_by_type S k _ u = refl

  kept_structure_seen : (S : Path) (q : Seen) (u : ℕ) → checking.Kept (structure_seen U S q u) (structure_seen V S q u)
  kept_structure_seen S (known k) u = kept_by_type S k k.detail u
  kept_structure_seen S unknown u = refl
  kept_structure_seen S (missing k) u = tt

  kept_structure : (S : Path) (u : ℕ) → checking.Kept (structure_of U S u) (structure_of V S u)
  kept_structure S u = kept_seen (see U S) (see V S) (λ q. structure_seen U S q u) (λ q. structure_seen V S q u) (λ k. refl)
      (λ q. kept_structure_seen S q u) (see_kept U V x S)

-- ---- The definitions of the fields, each of which is added for the next

-- What may be added to a view.
abbrev MayAdd : View → ConstInfo → Type 0
MayAdd U c = IsTold (there_of U c.name) × (c.kind ≡ Axiom → ⊥)

module _ (p : ℕ) (D : Declaration) (xs : Telescope) where
  -- Once the type and the value are made.
  abbrev valued : View → Ident → Term → Term → checker.Run ConstInfo
  valued U f T t = checker.◌>>=◌ (add_decl U nesting (field_constant D f T t 0)) λ h. checker.gives (field_constant D f T t h)

  abbrev defined : View → Ident → Term → Term → checker.Run ConstInfo
  defined U f T t = checker.◌>>=◌ (add_header U nesting (field_name D f) T) λ l. valued U f T t

  gives_valued : (U : View) (f : Ident) (T t : Term) (u : ℕ) → IsTold (there_of U (field_name D f)) → Gives (MayAdd U) (valued U f T t u)
  gives_valued U f T t u h =
      let may : (k : ℕ) → MayAdd U (field_constant D f T t k) = λ k. (h, λ e. cc) in
      search (gives_then, may) depth 6

  field_added : (U : View) (i : ℕ) (f : Ident) (A : Term) (u : ℕ) → Gives (MayAdd U) (field_definition U D xs i f A u)
  field_added U i f A u =
      let last : (T t : Term) (v : ℕ) → Gives (MayAdd U) (defined U f T t v)
      = λ T t v. gives_with (λ l. there_of U (field_name D f) ≡ not_there) (MayAdd U) _ _ (gives_header U nesting (field_name D f) T v)
      (λ l w e. gives_valued U f T t w (told_of (there_of U (field_name D f)) e)) in
      search (gives_then, last) depth 8

  kept_field : (U V : View) → Tells V U → (i : ℕ) (f : Ident) (A : Term) (u : ℕ)
      → checking.Kept (field_definition U D xs i f A u) (field_definition V D xs i f A u)
  kept_field U V x i f A u = search (checked, header_kept U V x, decl_kept U V x) depth 16

  kept_fields : (fs : List Ident) (i : ℕ) (U V : View) → Tells V U → stands_before U.position p ≡ false → (T : Term) (u : ℕ)
      → checking.Kept (field_definitions p D xs i fs U T u) (field_definitions p D xs i fs V T u)
  kept_fields [] i U V x own T u = refl
  kept_fields (f ∷ fs) i U V x own T u = at (as_pi T) (λ c y B v. kept_fields fs (suc i) (pushed U c p) (pushed V c p) y own B v)
    where
      at : (o : Option Binding)
          → ((c : ConstInfo) → Tells (pushed V c p) (pushed U c p) → (B : Term) (v : ℕ)
          → checking.Kept (field_definitions p D xs (suc i) fs (pushed U c p) B v) (field_definitions p D xs (suc i) fs (pushed V c p) B v))
          → checking.Kept (at_field U p D xs i f o (field_definitions p D xs (suc i) fs) u) (at_field V p D xs i f o (field_definitions p D xs (suc i) fs) u)
      at (Some b) rest =
          kept_given (MayAdd U) _ _ _ _ (field_added U i f b.domain u) (kept_field U V x i f b.domain u)
          (λ c v may. kept_checker.kept_then _ _ _ _ (kept_checker.kept_self _)
          (λ B w. kept_checker.kept_then _ _ _ _ (rest c (one_extends U V x c p own may.1 may.0) B w) (λ cs y. refl)))
      at None rest = refl

kept_all_fields : (kind : BinderKind) (U V : View) → Tells V U → (p : ℕ) → stands_before U.position p ≡ false → (D : Declaration) (fs : List Ident) (T : Term)
    (u : ℕ)
    → checking.Kept (all_fields kind U p D fs T u) (all_fields kind V p D fs T u)
kept_all_fields kind U V x p own D fs T u =
    kept_checker.kept_then _ _ _ _ (kept_checker.kept_self (open_pis (length D.binders) [] T u))
    (λ o v. kept_fields p D (with_self kind D o.locals) fs 0 U V x own o.rest v)

-- ---- The names of the fields

module _ {A : Type 0} (U V : View) (x : Tells V U) (D : Declaration) where
  kept_field_there : (f : Ident) (s t : There) → SameThere s t → (m k : Run (Judged A)) (u : ℕ) (w : State) → Kept (m u w) (k u w)
      → Kept (field_there D f s m u w) (field_there D f t k u w)
  kept_field_there f (there p) t h m k u w g =
      subst (λ r. Kept (field_there D f (there p) m u w) (field_there D f r k u w)) h refl
  kept_field_there f not_there t h m k u w g = subst (λ r. Kept (m u w) (field_there D f r k u w)) h g
  kept_field_there f (not_known i) t h m k u w g = tt

  kept_unless_taken : (taken : List Path) (fs : List Ident) (m k : Run (Judged A)) (u : ℕ) (w : State) → Kept (m u w) (k u w)
      → Kept (unless_taken U D taken fs m u w) (unless_taken V D taken fs k u w)
  kept_unless_taken taken [] m k u w h = h
  kept_unless_taken taken (f ∷ fs) m k u w h =
      kept_field_there f (there_of U (field_name D f)) (there_of V (field_name D f)) (there_kept U V x (field_name D f)) _ _ u w
      (kept_choose (is_among (field_name D f) taken) _ _ _ _ u w refl (kept_unless_taken (field_name D f ∷ taken) fs m k u w h))

-- ---- The command

module _ (X : Setting) (V : View) (x : Tells V X.view) (own : stands_before X.view.position X.position ≡ false) (kind : BinderKind) (D : Declaration) where
  kept_definitions : (cs : List ConstInfo) → AllTold X.view cs → (fs : List Ident) (T : Term) (u : ℕ) (w : State)
      → Kept (with_definitions X kind D fs cs T u w) (with_definitions (on_view X V) kind D fs cs T u w)
  kept_definitions cs told fs T u w =
      kept_unless_taken X.view V x D (constructor_name D ∷ recursor_name D ∷ []) fs _ _ u w
      (kept_then _ _ _ _
      (kept_kernel (named_both X X.view V x D) (all_fields kind (pushed_all X.view cs X.position) X.position D fs T)
      (all_fields kind (pushed_all V cs X.position) X.position D fs T) u w
      (kept_all_fields kind (pushed_all X.view cs X.position) (pushed_all V cs X.position) (all_extend cs X.view V x X.position own told) X.position
      (own_still cs X.view X.position own) D fs T u))
      (λ ds v z. refl))

  kept_if_structure : (cs : List ConstInfo) → AllTold X.view cs → (fs : List Ident) (o : Option Structure) (u : ℕ) (w : State)
      → Kept (if_structure X kind D fs cs o u w) (if_structure (on_view X V) kind D fs cs o u w)
  kept_if_structure cs told fs (Some s) u w = kept_definitions cs told fs s.ty u w
  kept_if_structure cs told fs None u w = refl

  inductive_told : (ks : List Constructing) (u : ℕ) (w : State) → Makes (AllTold X.view) (inductive_constants X D ks u w)
  inductive_told ks u w =
      makes_then (AllTold X.view) (declared X D ks u w) (λ d. by_kernel (own_part X D) (add_inductive X.view nesting d))
      (λ d v z. makes_answered (AllTold X.view) (own_part X D) no_locals D.at z (add_inductive X.view nesting d v) (added_told X.view nesting d v))

  pub kept_structure_constants : there_of X.view D.name ≡ not_there → (fs : List FieldDecl) (u : ℕ) (w : State)
      → Kept (structure_constants X kind D fs u w) (structure_constants (on_view X V) kind D fs u w)
  kept_structure_constants new fs u w =
      kept_made (AllTold X.view) _ _ _ _ (inductive_told (constructor_of_fields D fs ∷ []) u w)
      (kept_inductive X V x D new (constructor_of_fields D fs ∷ []) u w)
      (λ cs v z told. kept_then _ _ _ _
      (kept_kernel (named_both X X.view V x D) (structure_of (pushed_all X.view cs X.position) D.name) (structure_of (pushed_all V cs X.position) D.name) v z
      (kept_structure (pushed_all X.view cs X.position) (pushed_all V cs X.position) (all_extend cs X.view V x X.position own told) D.name v))
      (λ s y r. kept_if_structure cs told (field_names fs) s y r))
