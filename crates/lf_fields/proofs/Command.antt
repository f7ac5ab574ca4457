-- The definitions over their parts are the command's.
use Rattle.std.proofs.Common.{◌≡◌, ℕ, suc, List, [], ◌∷◌, ◌++◌, length, refl, sym, subst, ◌∙◌}
use Rattle.std.specs.Prelude.{Option, Some, None, Result}
use Rattle.lf_core.specs.Term.{Term}
use Rattle.lf_core.specs.Substitution.{instantiate}
use Rattle.lf_core.specs.declared.constant.ConstInfo.{ConstInfo}
use Rattle.lf_core.specs.declared.constant.CtorInfo.{CtorInfo}
use Rattle.lf_name.specs.declared.binder.BinderKind.{BinderKind}
use Rattle.lf_rules.specs.Telescope.{Telescope}
use Rattle.lf_syntax.specs.declared.leaf.Ident.{Ident}
use Rattle.lf_checker.specs.View.{View, pushed}
use Rattle.lf_checker.specs.Run.{Answer, done, refused, out, need, Run, go_on, gives, made}
use Rattle.lf_elaboration.specs.Forms.{Binding, as_pi}
use Rattle.lf_elaboration.specs.Statement.{open_pis}
use Rattle.lf_document.specs.Setting.{Declaration, nesting}
use Rattle.lf_document.specs.Inductives as command
use Rattle.lf_document.specs.StructureCommand as spec
use Rattle.lf_fields.specs.declared.owner.Owner.{Owner}
use Rattle.lf_fields.specs.Parts as own
use Rattle.lf_fields.specs.Within.{IsOf}
use Rattle.lf_steps.specs.Runs.{RunsAs}
use Rattle.lf_steps.specs.declared.halt.Halt.{Halt}

pub parameters_are : (o : Owner) (D : Declaration) → IsOf o D → own.at_parameters o.name.now o.levels.now o.params ≡ command.at_parameters D
parameters_are o D h = λ i. own.at_parameters (sym h.0 i) (sym h.1 i) (sym h.2 i)

pub declaring_is : (o : Owner) (D : Declaration) (T : Term) (ks : List CtorInfo) → IsOf o D
    → own.declaring o.name.now o.levels.now o.params T ks ≡ command.declaring D T ks
declaring_is o D T ks h = λ i. own.declaring (sym h.0 i) (sym h.1 i) (sym h.2 i) T ks

abbrev pair : ConstInfo → Term → ConstInfo × Term
pair c B = (c, B)

paired : (c : ConstInfo) (b : Answer Term) (k : ConstInfo → Term → Run (List ConstInfo))
    → go_on (go_on b (λ B. gives (pair c B))) (λ r. k r.0 r.1) ≡ go_on b (λ B. k c B)
paired c (done B v) k = refl
paired c (refused e v) k = refl
paired c out k = refl
paired c (need j) k = refl

in_pairs : (a : Answer ConstInfo) (m : ConstInfo → Run Term) (k : ConstInfo → Term → Run (List ConstInfo))
    → go_on (go_on a (λ c u. go_on (m c u) (λ B. gives (pair c B)))) (λ r. k r.0 r.1) ≡ go_on a (λ c u. go_on (m c u) (λ B. k c B))
in_pairs (done c u) m k = paired c (m c u) k
in_pairs (refused e u) m k = refl
in_pairs out m k = refl
in_pairs (need j) m k = refl

field_is : (W : View) (p : ℕ) (D : Declaration) (xs : Telescope) (i : ℕ) (f : Ident) (o : Option Binding) (rest : View → Term → Run (List ConstInfo)) (u : ℕ)
    → own.at_field nesting W p D.name D.levels (length D.binders) xs i (D.name ++ f.name) o rest u ≡ spec.at_field W p D xs i f o rest u
unfolding own.field_definition
field_is W p D xs i f (Some b) rest u =
    in_pairs (spec.field_definition W D xs i f b.domain u) (λ c. made (instantiate b.body (spec.at_self D xs f)))
    (λ c B. own.onto (c ∷ []) (rest (pushed W c p) B))
field_is W p D xs i f None rest u = refl

definitions_are : (p : ℕ) (D : Declaration) (xs : Telescope) (i : ℕ) (fs : List Ident)
    → own.definitions nesting p D.name D.levels (length D.binders) xs i fs ≡ spec.field_definitions p D xs i fs
unfolding own.definitions
definitions_are p D xs i [] = refl
definitions_are p D xs i (f ∷ fs) =
    (λ j W t. own.at_field nesting W p D.name D.levels (length D.binders) xs i (D.name ++ f.name) (as_pi t) (definitions_are p D xs (suc i) fs j))
    ∙ (λ j W t u. field_is W p D xs i f (as_pi t) (spec.field_definitions p D xs (suc i) fs) u j)

all_are : (kind : BinderKind) (W : View) (p : ℕ) (D : Declaration) (fs : List Ident) (A : Term)
    → own.all_fields nesting kind W p D.name D.levels (length D.binders) fs A ≡ spec.all_fields kind W p D fs A
all_are kind W p D fs A = λ j u. go_on (open_pis (length D.binders) [] A u)
    (λ o. definitions_are p D (spec.with_self kind D o.locals) 0 fs j W o.rest)

all_fields_are : (depth : ℕ) (kind : BinderKind) (W : View) (p : ℕ) (o : Owner) (D : Declaration) (fs : List Ident) (A : Term) (u : ℕ)
    → depth ≡ nesting → IsOf o D → own.all_fields depth kind W p o.name.now o.levels.now o.params fs A u ≡ spec.all_fields kind W p D fs A u
all_fields_are depth kind W p o D fs A u d h =
    (λ i. own.all_fields (d i) kind W p (sym h.0 i) (sym h.1 i) (sym h.2 i) fs A u) ∙ (λ i. all_are kind W p D fs A i u)

pub all_fields_run : {B : Type 0} (f : B → List ConstInfo) (depth : ℕ) (kind : BinderKind) (W : View) (p : ℕ) (o : Owner) (D : Declaration) (fs : List Ident)
    (A : Term) (u v : ℕ) (r : Result B Halt) → depth ≡ nesting → IsOf o D
    → RunsAs f (own.all_fields depth kind W p o.name.now o.levels.now o.params fs A u) r v → RunsAs f (spec.all_fields kind W p D fs A u) r v
all_fields_run f depth kind W p o D fs A u v r d h k = subst (λ a. RunsAs f a r v) (all_fields_are depth kind W p o D fs A u d h) k
