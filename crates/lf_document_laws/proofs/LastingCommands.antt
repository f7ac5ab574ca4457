-- What the parts of inductive types, structures, definitions by equations and of the commands that ask leave and wait for.
use Rattle.std.proofs.Common.{◌≡◌, ℕ, zero, suc, ◌-◌, Bool, true, false, List, [], ◌∷◌, length, if◌then◌else◌, Option, Some, None, refl}
use Rattle.lf_core.specs.Term.{Path, Term}
use Rattle.lf_core.specs.declared.constant.ConstInfo.{ConstInfo}
use Rattle.lf_core.specs.declared.constant.CtorInfo.{CtorInfo}
use Rattle.lf_core.specs.declared.constant.TaskKey.{TaskKey}
use Rattle.lf_name.specs.declared.binder.BinderKind.{BinderKind}
use Rattle.lf_rules.specs.Recursor.{is_among}
use Rattle.lf_rules.specs.Telescope.{Telescope}
use Rattle.lf_syntax.specs.Tree.{TermTree}
use Rattle.lf_syntax.specs.declared.leaf.Ident.{Ident}
use Rattle.lf_syntax.specs.declared.pattern.Alternative.{Alternative}
use Rattle.lf_syntax.specs.declared.pattern.Pattern.{Pattern}
use Rattle.lf_syntax.specs.declared.pattern.Pattern.TheVariants.{Constructor, Zero, Successor}
use Rattle.lf_checker.specs.View.{View, There, there, not_there, not_known, there_of, pushed}
use Rattle.lf_checker.specs.Calls.{Seen, known, unknown, missing, see}
use Rattle.lf_checker.specs.Checker.{normalize}
use Rattle.lf_extension_laws.proofs.Only.{
  Only,
  SeenIn,
  ThereIn,
  Reads,
  only_then,
  only_spend,
  only_caught,
  only_choose,
  only_put,
  only_made,
  only_opening,
}
use Rattle.lf_extension_laws.proofs.OnlyInfer.{calls_ask}
use Rattle.lf_extension_laws.proofs.Waiting.{only_header, only_decl}
use Rattle.lf_elaboration.specs.Forms.{Binding, as_pi}
use Rattle.lf_elaboration.specs.Axioms as axioms
use Rattle.lf_elaboration.specs.Run.{gives, checks}
use Rattle.lf_elaboration.specs.Scope.{candidates_of}
use Rattle.lf_elaboration.specs.Part.{Part, Locals, State, Run, ask}
use Rattle.lf_elaboration.specs.Identifiers.{
  Meaning,
  own_type,
  constant,
  nothing,
  waits,
  is_own,
  or_next,
  first_found,
  meaning_of,
  is_realized,
  ask_if_realized,
}
use Rattle.lf_elaboration.specs.Statement.{open_pis}
use Rattle.lf_elaboration.specs.Terms.{OneBinder}
use Rattle.lf_elaboration_laws.proofs.Wanted.{walk_wants}
use Rattle.lf_elaboration_laws.specs.Keeping.{Grows}
use Rattle.lf_elaboration_laws.proofs.Growing.{grows_same}
use Rattle.lf_elaboration_laws.proofs.Keeping.{
  keeps_then,
  keeps_choose,
  keeps_or_fail,
  keeps_spend,
  keeps_checks,
  keeps_instantiated,
  keeps_instantiated_all,
  keeps_ask,
}
use Rattle.lf_elaboration_laws.proofs.KeepingParts.{MeaningIn}
use Rattle.lf_elaboration_laws.proofs.KeepingItems.{Resolves}
use Rattle.lf_elaboration_laws.proofs.OnlySteps.{only_codomain}
use Rattle.lf_equations.specs.Outcome.{Outcome, gets, fault, Compiling}
use Rattle.lf_equations.specs.Argument.{Argument, argument}
use Rattle.lf_equations.specs.Compile.{compile}
use Rattle.lf_document.specs.Task.{Judged}
use Rattle.lf_document.specs.Setting.{Declaration, nesting, calls_of, no_locals}
use Rattle.lf_document.specs.Binders.{pi_over, nothing_over, under_binders}
use Rattle.lf_document.specs.Headers.{type_or_default}
use Rattle.lf_document.specs.Queries.{
  nothing_under,
  variable_types,
  term_under,
  whole_term,
  checked_term,
  reduced_term,
  constant_by,
  constant_of,
  axioms_walked,
  axioms_of,
}
use Rattle.lf_document.specs.Inductives.{
  family_type,
  Constructing,
  result_type,
  fields_type,
  implicit_pi,
  constructor_type,
  constructors,
  instantiated_types,
  whole_declaration,
}
use Rattle.lf_document.specs.StructureCommand.{
  field_name,
  field_there,
  unless_taken,
  with_self,
  field_definition,
  at_field,
  field_definitions,
  all_fields,
}
use Rattle.lf_document.specs.EquationsBody.{
  Resolved,
  constructor_of,
  resolved,
  on_outcome,
  compiles,
  type_seen,
  fields_opened,
  fields_for,
  first_of,
  close_locals,
  term_against,
  alternative_term,
  alternative_terms,
  bodies,
  with_props,
  cases_with,
  valued,
  compiled,
  by_argument,
  tested,
  equations_value,
}
use Rattle.lf_document_laws.proofs.Wants.{Wants, reads_of, MayAdd}
use Rattle.lf_document_laws.proofs.Asked.{only_open, only_pis, only_lambdas, only_argument, only_compile}
use Rattle.lf_document_laws.proofs.Lasting.{
  steps,
  On,
  called,
  on_term,
  on_type,
  on_close,
  on_close_binder,
  on_accepted,
  on_under_binders,
  on_under_pis,
  on_pi_over,
  on_default,
}

ruleset keeps = (
  keeps_then,
  keeps_choose,
  keeps_or_fail,
  keeps_spend,
  keeps_checks,
  keeps_instantiated,
  keeps_instantiated_all,
  keeps_ask,
)

ruleset only = (only_then, only_spend, only_caught, only_choose, only_put, only_made, only_opening)

-- ---- The fields of a structure, as the kernel tests them

module _ (Key : TaskKey → Type 0) (p : ℕ) (D : Declaration) (xs : Telescope) where
  only_field : (U : View) → Reads U Key → (i : ℕ) (f : Ident) (A : Term) (u : ℕ) → Only true Key (field_definition U D xs i f A u)
  only_field U reads i f A u =
      search (only, only_pis Key, only_lambdas Key, only_header U Key reads nesting, only_decl U Key reads nesting) depth 16

  only_fields : (fs : List Ident) (i : ℕ) (U : View) → Wants U Key → MayAdd Key U.position p → (T : Term) (u : ℕ)
      → Only true Key (field_definitions p D xs i fs U T u)
  only_fields [] i U w may T u = tt
  only_fields (f ∷ fs) i U w may T u = at (as_pi T) (λ c B v. only_fields fs (suc i) (pushed U c p) (may U refl c w) may B v)
    where
      at : (o : Option Binding)
          → ((c : ConstInfo) (B : Term) (v : ℕ) → Only true Key (field_definitions p D xs (suc i) fs (pushed U c p) B v))
          → Only true Key (at_field U p D xs i f o (field_definitions p D xs (suc i) fs) u)
      at (Some b) rest = search (only, only_field U (reads_of U Key w), rest) depth 14
      at None rest = tt

pub only_all_fields : (Key : TaskKey → Type 0) (p : ℕ) (D : Declaration) (kind : BinderKind) (U : View) → Wants U Key → MayAdd Key U.position p
    → (fs : List Ident) (T : Term) (u : ℕ) → Only true Key (all_fields kind U p D fs T u)
only_all_fields Key p D kind U w may fs T u =
    only_then true Key (open_pis (length D.binders) [] T u) _ (only_open Key (length D.binders) [] T u)
    (λ o v. only_fields Key p D (with_self kind D o.locals) fs 0 U w may o.rest v)

-- ---- The names of the fields

module _ (Key : TaskKey → Type 0) (V : View) (reads : Reads V Key) (D : Declaration) {A : Type 0} where
  on_field_there : (f : Ident) (s : There) → ThereIn Key s → (m : Run (Judged A)) (u : ℕ) (w : State) → On Key w (m u w) → On Key w (field_there D f s m u w)
  on_field_there f (there p) h m u w g = grows_same w
  on_field_there f not_there h m u w g = g
  on_field_there f (not_known k) h m u w g = h

  pub on_unless_taken : (taken : List Path) (fs : List Ident) (m : Run (Judged A)) (u : ℕ) (w : State) → On Key w (m u w)
      → On Key w (unless_taken V D taken fs m u w)
  on_unless_taken taken [] m u w h = h
  on_unless_taken taken (f ∷ fs) m u w h =
      on_field_there f (there_of V (field_name D f)) (reads.theres (field_name D f)) _ u w
      (keeps_choose Grows Grows Key (is_among (field_name D f) taken) _ _ u w (grows_same w) (on_unless_taken (field_name D f ∷ taken) fs m u w h))

-- ---- What an identifier stands for

found_next : (Key : TaskKey → Type 0) (n : Path) (s : Seen) (m : Meaning) → SeenIn Key s → MeaningIn Key m → MeaningIn Key (or_next n s m)
found_next Key n (known c) m h i = tt
found_next Key n unknown m h i = i
found_next Key n (missing k) m h i = h

found_in : (Key : TaskKey → Type 0) (V : View) → Reads V Key → (own : Option Path) (ns : List Path) → MeaningIn Key (first_found V own ns)
found_in Key V h own [] = tt
found_in Key V h own (n ∷ ns) = at (found_next Key n (see V n) (first_found V own ns) (h.sees n) (found_in Key V h own ns)) (is_own own n)
  where
    at : MeaningIn Key (or_next n (see V n) (first_found V own ns)) → (b : Bool)
        → MeaningIn Key (if b then own_type n else or_next n (see V n) (first_found V own ns))
    at i true = tt
    at i false = i

-- ---- Parts of a command whose view needs such keys

module _ (Key : TaskKey → Type 0) (P : Part) (reads : Reads P.view Key) (resolves : Resolves Key P) where
  -- ---- Inductive types

  pub on_family : (D : Declaration) (u : ℕ) (w : State) → On Key w (family_type P D u w)
  on_family D u w =
      let bound : (v : ℕ) (z : State) → On Key z (under_binders P (calls_of P) pi_over (type_or_default P (calls_of P) D.ty) no_locals D.binders v z)
      = λ v z. on_under_binders Key P reads resolves pi_over (type_or_default P (calls_of P) D.ty) (on_pi_over Key P reads resolves)
      (on_default Key P reads resolves D.ty) no_locals D.binders v z in
      search (keeps, only, steps, bound, on_close Key P reads resolves) depth 16

  on_result : (D : Declaration) (o : Option TermTree) (L : Locals) (u : ℕ) (w : State) → On Key w (result_type P (calls_of P) D o L u w)
  on_result D (Some s) L u w = search (keeps, only, steps, grows_same, on_type Key P reads resolves) depth 10
  on_result D None L u w = search (keeps, only, steps) depth 10

  on_fields : (D : Declaration) (k : Constructing) (L : Locals) (B : Term) (u : ℕ) (w : State) → On Key w (fields_type P (calls_of P) D k L B u w)
  on_fields D k L B u w =
      on_under_binders Key P reads resolves pi_over (result_type P (calls_of P) D k.ty) (on_pi_over Key P reads resolves) (on_result D k.ty) L k.binders u w

  on_constructor : (D : Declaration) (T : Term) (k : Constructing) (u : ℕ) (w : State) → On Key w (constructor_type P D T k u w)
  on_constructor D T k u w =
      on_under_pis Key P reads resolves implicit_pi (fields_type P (calls_of P) D k) (on_fields D k) (length D.binders) no_locals T u w

  on_constructors : (D : Declaration) (T : Term) (ks : List Constructing) (u : ℕ) (w : State) → On Key w (constructors P D T ks u w)
  on_constructors D T [] u w = grows_same w
  on_constructors D T (k ∷ ks) u w = search (keeps, only, steps, grows_same, on_constructor, on_constructors D T ks) depth 12

  on_instantiated : (ks : List CtorInfo) (u : ℕ) (w : State) → On Key w (instantiated_types ks u w)
  on_instantiated [] u w = grows_same w
  on_instantiated (k ∷ ks) u w = search (keeps, only, steps, grows_same, on_instantiated ks) depth 12

  pub on_whole_declaration : (D : Declaration) (T : Term) (ks : List Constructing) (u : ℕ) (w : State) → On Key w (whole_declaration P D T ks u w)
  on_whole_declaration D T ks u w =
      search (keeps, only, steps, grows_same, on_constructors, on_close Key P reads resolves, on_instantiated) depth 20

  -- ---- Commands that ask

  pub on_variable : (bs : List OneBinder) (u : ℕ) (w : State) → On Key w (variable_types bs P u w)
  on_variable bs u w =
      let bound : (v : ℕ) (z : State) → On Key z (under_binders P (calls_of P) nothing_over nothing_under no_locals bs v z)
      = λ v z. on_under_binders Key P reads resolves nothing_over nothing_under (λ k x T r i j. grows_same j) (λ L i j. grows_same j) no_locals bs v z in
      search (keeps, only, steps, grows_same, bound, on_close Key P reads resolves) depth 16

  on_under : (s : TermTree) (L : Locals) (u : ℕ) (w : State) → On Key w (term_under P s L u w)
  on_under s L u w = search (keeps, only, steps, grows_same, on_term Key P reads resolves) depth 10

  on_whole_term : (bs : List OneBinder) (s : TermTree) (u : ℕ) (w : State) → On Key w (whole_term P bs s u w)
  on_whole_term bs s u w =
      let bound : (v : ℕ) (z : State) → On Key z (under_binders P (calls_of P) nothing_over (term_under P s) no_locals bs v z)
      = λ v z. on_under_binders Key P reads resolves nothing_over (term_under P s) (λ k x T r i j. grows_same j) (on_under s) no_locals bs v z in
      search (keeps, only, steps, grows_same, bound, on_close Key P reads resolves) depth 16

  pub on_checked : (bs : List OneBinder) (s : TermTree) (u : ℕ) (w : State) → On Key w (checked_term bs s P u w)
  on_checked bs s u w = search (keeps, only, steps, grows_same, on_whole_term) depth 16

  on_normal : (L : Locals) (t : Term) (u : ℕ) (w : State) → On Key w (checks (normalize P.view nesting L.types t) u w)
  on_normal L t u w =
      keeps_checks Grows Grows Key steps (normalize P.view nesting L.types t) u w ((calls_ask P.view Key reads nesting).normalize true L.types t u)

  pub on_reduced : (bs : List OneBinder) (s : TermTree) (u : ℕ) (w : State) → On Key w (reduced_term bs s P u w)
  on_reduced bs s u w = search (keeps, only, steps, grows_same, on_whole_term, on_normal) depth 22

  on_constant_by : (x : Ident) (m : Meaning) → MeaningIn Key m → (u : ℕ) (w : State) → On Key w (constant_by P x m u w)
  on_constant_by x (constant n c) h u w =
      keeps_then Grows Grows Key steps w (ask_if_realized P.view n u w) (λ y. gives n)
      (keeps_choose Grows Grows Key (is_realized P.view n) (ask n) (gives tt) u w (keeps_ask Grows Grows steps Key n u w) (grows_same w))
      (λ y v z. grows_same z)
  on_constant_by x (own_type n) h u w = grows_same w
  on_constant_by x nothing h u w = grows_same w
  on_constant_by x (waits k) h u w = h

  on_constant : (x : Ident) (u : ℕ) (w : State) → On Key w (constant_of P x u w)
  on_constant x u w =
      on_constant_by x (meaning_of P x.name) (found_in Key P.view reads P.own (candidates_of P.scope P.inside x.name)) u w

  on_walked : Wants P.view Key → (n : Path) (u : ℕ) (w : State) → On Key w (axioms_walked (axioms.reached P.view n) u w)
  on_walked wants n u w = at (axioms.reached P.view n) refl
    where
      at : (o : axioms.Walk) → axioms.reached P.view n ≡ o → On Key w (axioms_walked o u w)
      at (axioms.ended ns) q = grows_same w
      at (axioms.waits k) q = wants k (walk_wants P.view n k q)
      at axioms.unended q = grows_same w

  pub on_axioms : Wants P.view Key → (x : Ident) (u : ℕ) (w : State) → On Key w (axioms_of x P u w)
  on_axioms wants x u w = search (keeps, only, steps, grows_same, on_constant, on_walked wants) depth 14

  -- ---- Definitions by equations

  on_pattern : (p : Pattern) (u : ℕ) (w : State) → On Key w (constructor_of P p u w)
  on_pattern (Constructor x fs) u w = on_constant x u w
  on_pattern (Zero at) u w = grows_same w
  on_pattern (Successor x) u w = grows_same w

  on_resolved : (alts : List Alternative) (u : ℕ) (w : State) → On Key w (resolved P alts u w)
  on_resolved [] u w = grows_same w
  on_resolved (a ∷ alts) u w = search (keeps, only, steps, grows_same, on_pattern, on_resolved alts) depth 12

  on_fault : {A B : Type 0} (f : A → Run (Judged B)) → ((y : A) (u : ℕ) (w : State) → On Key w (f y u w)) → (o : Outcome A) (u : ℕ) (w : State)
      → On Key w (on_outcome P f o u w)
  on_fault f h (gets y) u w = h y u w
  on_fault f h (fault i) u w = grows_same w

  on_compiles : {A B : Type 0} (m : Compiling A) (f : A → Run (Judged B)) → ((v : ℕ) → Only true Key (m v))
      → ((y : A) (u : ℕ) (w : State) → On Key w (f y u w)) → (u : ℕ) (w : State) → On Key w (compiles P m f u w)
  on_compiles m f k h u w =
      keeps_then Grows Grows Key steps w (checks m u w) (on_outcome P f) (keeps_checks Grows Grows Key steps m u w (k u)) (λ o v z. on_fault f h o v z)

  only_type_seen : (g : Argument) (q : Seen) (u : ℕ) → SeenIn Key q → Only true Key (type_seen g q u)
  only_type_seen g (known k) u h = search (only, only_codomain) depth 12
  only_type_seen g unknown u h = tt
  only_type_seen g (missing k) u h = h

  only_opened : (g : Argument) (L : Locals) (a : Resolved) (o : Option Term) (u : ℕ) → Only true Key (fields_opened g L a o u)
  only_opened g L a None u = tt
  only_opened g L a (Some A) u = search (only, only_open Key) depth 10

  on_fields_for : (g : Argument) (L : Locals) (a : Resolved) (u : ℕ) (w : State) → On Key w (checks (fields_for P.view g L a) u w)
  on_fields_for g L a u w =
      keeps_checks Grows Grows Key steps (fields_for P.view g L a) u w
      (only_then true Key (type_seen g (see P.view a.constructor) u) (fields_opened g L a)
      (only_type_seen g (see P.view a.constructor) u (reads.sees a.constructor)) (λ o v. only_opened g L a o v))

  on_close_locals : (k n : ℕ) (L : Locals) (u : ℕ) (w : State) → On Key w (close_locals P (calls_of P) k n L u w)
  on_close_locals k zero L u w = grows_same w
  on_close_locals k (suc n) L u w =
      keeps_then Grows Grows Key steps w _ _ (on_close_binder Key P reads resolves L k (length L.types - 1) u w)
      (λ y v z. on_close_locals k n (first_of L (length L.types - 1)) v z)

  on_term_against : (L : Locals) (n : ℕ) (s : TermTree) (E : Term) (u : ℕ) (w : State) → On Key w (term_against P L n s E u w)
  on_term_against L n s E u w = search (keeps, only, steps, grows_same, on_term Key P reads resolves, on_close_locals) depth 16

  on_alternative : (g : Argument) (L : Locals) (a : Resolved) (u : ℕ) (w : State) → On Key w (alternative_term P g L a u w)
  on_alternative g L a u w = search (keeps, only, steps, on_fields_for, on_term_against) depth 16

  on_alternatives : (g : Argument) (L : Locals) (alts : List Resolved) (u : ℕ) (w : State) → On Key w (alternative_terms P g L alts u w)
  on_alternatives g L [] u w = grows_same w
  on_alternatives g L (a ∷ alts) u w = search (keeps, only, steps, grows_same, on_alternative, on_alternatives g L alts) depth 12

  on_bodies : (g : Argument) (own : Path) (T : Term) (alts : List Resolved) (u : ℕ) (w : State) → On Key w (bodies P g own T alts u w)
  on_bodies g own T alts u w = search (keeps, only, steps, on_alternatives, on_close Key P reads resolves) depth 16

  on_valued : (c : ConstInfo) (t : Term) (u : ℕ) (w : State) → On Key w (valued P c t u w)
  on_valued c t u w = search (keeps, only, steps, grows_same, on_accepted Key P reads resolves) depth 10

  on_compiled : (c : ConstInfo) (n : ℕ) (alts : List Resolved) (ts : List Term) (u : ℕ) (w : State) → On Key w (compiled P c n alts ts u w)
  on_compiled c n alts ts u w =
      on_compiles (compile P.view nesting c.ty n (cases_with alts ts)) (valued P c)
      (λ v. only_compile P.view Key reads nesting c.ty n (cases_with alts ts) v) (on_valued c) u w

  on_by_argument : (c : ConstInfo) (own : Path) (n : ℕ) (alts : List Resolved) (g : Argument) (u : ℕ) (w : State)
      → On Key w (by_argument P c own n alts g u w)
  on_by_argument c own n alts g u w = search (keeps, only, steps, on_bodies, on_compiled) depth 10

  on_tested : (c : ConstInfo) (own : Path) (n : ℕ) (alts : List Resolved) (t : Term) (u : ℕ) (w : State) → On Key w (tested P c own n alts t u w)
  on_tested c own n alts t u w =
      on_compiles (argument P.view (calls_of P).check n c.ty) (by_argument P c own n alts)
      (λ v. only_argument P.view Key reads (calls_of P).check (called Key P reads resolves).check n c.ty v) (on_by_argument c own n alts) u w

  pub on_equations : (c : ConstInfo) (own : Path) (n : ℕ) (alts : List Alternative) (u : ℕ) (w : State) → On Key w (equations_value P c own n alts u w)
  on_equations c own n alts u w =
      keeps_then Grows Grows Key steps w _ _ (on_resolved alts u w)
      (λ rs v z. on_compiles (compile P.view nesting c.ty n (with_props rs)) (tested P c own n rs)
      (λ i. only_compile P.view Key reads nesting c.ty n (with_props rs) i) (on_tested c own n rs) v z)
