-- What the parts of commands leave and wait for: what was asked for is asked for still, and needs are such keys. Types, values, declarations.
use Rattle.std.proofs.Common.{ℕ, zero, suc, true, List, [], ◌∷◌, ◌++◌, Option, Some, None}
use Rattle.lf_core.specs.Term.{Path, Term, lam}
use Rattle.lf_core.specs.declared.constant.ConstInfo.{ConstInfo}
use Rattle.lf_core.specs.declared.constant.TaskKey.{TaskKey}
use Rattle.lf_name.specs.declared.binder.Binder.{Binder}
use Rattle.lf_syntax.specs.Tree.{TermTree}
use Rattle.lf_checker.specs.Run as checker
use Rattle.lf_checker.specs.Checker.{add_header, add_decl}
use Rattle.lf_extension_laws.proofs.Only.{Only, Reads, only_then, only_spend, only_caught, only_choose, only_put, only_made, only_opening}
use Rattle.lf_extension_laws.proofs.Waiting.{only_header, only_decl}
use Rattle.lf_elaboration.specs.Forms.{Binding, as_pi}
use Rattle.lf_elaboration.specs.Run.{Answer, done, failed, out, need}
use Rattle.lf_elaboration.specs.Part.{Part, Locals, State, Run, given, refusal_at}
use Rattle.lf_elaboration.specs.Closing.{close, close_binder}
use Rattle.lf_elaboration.specs.Terms.{OneBinder, as_type, domain_type}
use Rattle.lf_elaboration_laws.specs.Keeping.{Grows}
use Rattle.lf_elaboration_laws.specs.Once.{dropped}
use Rattle.lf_elaboration_laws.proofs.Growing.{grows_same, growing}
use Rattle.lf_elaboration_laws.proofs.Keeping.{
  Steps,
  Held,
  keeps_then,
  keeps_choose,
  keeps_or_fail,
  keeps_spend,
  keeps_answered,
  keeps_checks,
  keeps_instantiated,
  keeps_instantiated_all,
  keeps_placeholder,
  keeps_fresh_level,
  keeps_ask,
}
use Rattle.lf_elaboration_laws.proofs.KeepingParts.{KeepingCalls, keeps_fault, keeps_close, keeps_close_binder}
use Rattle.lf_elaboration_laws.proofs.KeepingTerms.{keeps_as_type}
use Rattle.lf_elaboration_laws.proofs.KeepingItems.{Resolves, calls_keep}
use Rattle.lf_document.specs.Task.{judged}
use Rattle.lf_document.specs.Setting.{Declaration, nesting, calls_of, no_locals, by_kernel}
use Rattle.lf_document.specs.Binders.{Over, pi_over, under_binders, under_pi, under_pis}
use Rattle.lf_document.specs.Headers.{type_or_default, whole_type, stated, stated_for_value, axiom_constants}
use Rattle.lf_document.specs.Values.{against, whole_value, accepted, written_value, whole_function, definition_of, whole_definition}

ruleset keeps = (
  keeps_then,
  keeps_choose,
  keeps_or_fail,
  keeps_spend,
  keeps_checks,
  keeps_instantiated,
  keeps_instantiated_all,
  keeps_placeholder,
  keeps_fresh_level,
  keeps_ask,
)

ruleset only = (only_then, only_spend, only_caught, only_choose, only_put, only_made, only_opening)

pub steps : Steps Grows Grows
steps = growing.terms

-- What an answer leaves of a state, with needs that are such keys.
abbrev pub On : (TaskKey → Type 0) → {A : Type 0} → State → Answer State A → Type 0
On Key s o = Held Grows Grows Key s o

undropped : (Key : TaskKey → Type 0) {A : Type 0} (k : ℕ) (s : State) (o : Answer State A) → On Key (dropped k s) o → On Key s o
undropped Key k s (done x u t) h = record { changes = h.changes; asked = h.asked; nodes = h.nodes }
undropped Key k s (failed m u t) h = record { changes = h.changes; asked = h.asked; nodes = h.nodes }
undropped Key k s (out t) h = record { changes = h.changes; asked = h.asked; nodes = h.nodes }
undropped Key k s (need n) h = h

pub on_judged : (Key : TaskKey → Type 0) {A : Type 0} (m : Run A) (u : ℕ) (w : State) → On Key w (m u w) → On Key w (judged m u w)
on_judged Key m u w h = keeps_then Grows Grows Key steps w (m u w) _ h (λ x v z. grows_same z)

-- A part of a command whose view needs such keys.
module _ (Key : TaskKey → Type 0) (P : Part) (reads : Reads P.view Key) (resolves : Resolves Key P) where
  pub called : KeepingCalls Grows Grows Grows Key (calls_of P)
  called = calls_keep Grows Grows Grows growing Key P reads resolves nesting

  pub on_term : (L : Locals) (s : TermTree) (E : Option Term) (u : ℕ) (w : State) → On Key w ((calls_of P).elaborate given L s E u w)
  on_term L s E u w = called.elaborate given L s E u w

  pub on_type : (L : Locals) (s : TermTree) (u : ℕ) (w : State) → On Key w (as_type P (calls_of P) L s u w)
  on_type L s u w = keeps_as_type Grows Grows Grows growing Key P reads (calls_of P) called L s u w

  pub on_close : (L : Locals) (i : ℕ) (levels : Option ℕ) (u : ℕ) (w : State) → On Key w (close P (calls_of P) L i levels u w)
  on_close L i levels u w =
      undropped Key i w (close P (calls_of P) L i levels u w) (keeps_close Grows Grows Grows growing Key P (calls_of P) called L i levels u w)

  pub on_close_binder : (L : Locals) (i n : ℕ) (u : ℕ) (w : State) → On Key w (close_binder P (calls_of P) L i n u w)
  on_close_binder L i n u w =
      undropped Key i w (close_binder P (calls_of P) L i n u w) (keeps_close_binder Grows Grows Grows growing Key P (calls_of P) called L i n u w)

  -- ---- The kernel

  pub on_kernel : {A : Type 0} (m : checker.Run A) (u : ℕ) (w : State) → Only true Key (m u) → On Key w (by_kernel P m u w)
  on_kernel {A} m u w h =
      keeps_answered Grows Grows Key steps (refusal_at P no_locals P.place) w (m u) h
      (λ r v. keeps_fault Grows Grows steps Key A P (no_locals.names ++ r.opened) P.place r.fault v w)

  pub on_header : (n : Path) (T : Term) (u : ℕ) (w : State) → On Key w (by_kernel P (add_header P.view nesting n T) u w)
  on_header n T u w = on_kernel (add_header P.view nesting n T) u w (only_header P.view Key reads nesting n T u)

  on_decl : (c : ConstInfo) (u : ℕ) (w : State) → On Key w (by_kernel P (add_decl P.view nesting c) u w)
  on_decl c u w = on_kernel (add_decl P.view nesting c) u w (only_decl P.view Key reads nesting c u)

  pub on_accepted : (c : ConstInfo) (t : Term) (u : ℕ) (w : State) → On Key w (accepted P c t u w)
  on_accepted c t u w = search (keeps, only, steps, grows_same, on_decl) depth 10

  -- ---- Binders

  pub on_domain : (L : Locals) (b : OneBinder) (o : Option TermTree) (u : ℕ) (w : State) → On Key w (domain_type P (calls_of P) L b o u w)
  on_domain L b (Some s) u w = on_type L s u w
  on_domain L b None u w = search (keeps, only, steps, grows_same) depth 12

  pub on_under_binders : {A : Type 0} (over : Over A) (f : Locals → Run A)
      → ((k : ℕ) (x : Binder) (T : Term) (r : A) (u : ℕ) (w : State) → On Key w (over k x T r u w))
      → ((L : Locals) (u : ℕ) (w : State) → On Key w (f L u w)) → (L : Locals) (bs : List OneBinder) (u : ℕ) (w : State)
      → On Key w (under_binders P (calls_of P) over f L bs u w)
  on_under_binders over f o h L [] u w = h L u w
  on_under_binders {A} over f o h L (b ∷ bs) u w =
      let rest : (M : Locals) (v : ℕ) (z : State) → On Key {A = A} z (under_binders P (calls_of P) over f M bs v z)
      = λ M v z. on_under_binders over f o h M bs v z in
      search (keeps, only, steps, grows_same, on_domain, rest, on_close_binder, o) depth 24

  on_under_pi : (over : Binder → Term → Term → Term) (L : Locals) (o : Option Binding) (f : Locals → Term → Run Term)
      → ((M : Locals) (B : Term) (u : ℕ) (w : State) → On Key w (f M B u w)) → (u : ℕ) (w : State) → On Key w (under_pi P (calls_of P) over L o f u w)
  on_under_pi over L (Some p) f h u w = search (keeps, only, steps, grows_same, h, on_close_binder) depth 24
  on_under_pi over L None f h u w = grows_same w

  pub on_under_pis : (over : Binder → Term → Term → Term) (f : Locals → Term → Run Term)
      → ((M : Locals) (B : Term) (u : ℕ) (w : State) → On Key w (f M B u w)) → (n : ℕ) (L : Locals) (T : Term) (u : ℕ) (w : State)
      → On Key w (under_pis P (calls_of P) over f n L T u w)
  on_under_pis over f h zero L T u w = h L T u w
  on_under_pis over f h (suc n) L T u w =
      on_under_pi over L (as_pi T) (under_pis P (calls_of P) over f n) (λ M B v z. on_under_pis over f h n M B v z) u w

  pub on_pi_over : (k : ℕ) (x : Binder) (A t : Term) (u : ℕ) (w : State) → On Key w (pi_over k x A t u w)
  on_pi_over k x A t u w = search (keeps, only, steps) depth 14

  -- ---- Types

  pub on_default : (o : Option TermTree) (L : Locals) (u : ℕ) (w : State) → On Key w (type_or_default P (calls_of P) o L u w)
  on_default (Some s) L u w = search (keeps, only, steps, grows_same, on_type) depth 10
  on_default None L u w = grows_same w

  on_whole_type : (bs : List OneBinder) (s : Option TermTree) (u : ℕ) (w : State) → On Key w (whole_type P bs s u w)
  on_whole_type bs s u w =
      let bound : (v : ℕ) (z : State) → On Key z (under_binders P (calls_of P) pi_over (type_or_default P (calls_of P) s) no_locals bs v z)
      = λ v z. on_under_binders pi_over (type_or_default P (calls_of P) s) on_pi_over (on_default s) no_locals bs v z in
      search (keeps, only, steps, bound, on_close) depth 16

  pub on_stated : (n : Path) (bs : List OneBinder) (s : Option TermTree) (u : ℕ) (w : State) → On Key w (stated P n bs s u w)
  on_stated n bs s u w = search (keeps, only, steps, grows_same, on_whole_type, on_header) depth 12

  pub on_stated_for_value : (n : Path) (bs : List OneBinder) (s : Option TermTree) (u : ℕ) (w : State) → On Key w (stated_for_value P n bs s u w)
  on_stated_for_value n bs s u w = search (keeps, only, steps, grows_same, on_stated) depth 14

  pub on_axiom : (D : Declaration) (u : ℕ) (w : State) → On Key w (axiom_constants P D u w)
  on_axiom D u w = search (keeps, only, steps, grows_same, on_stated) depth 10

  -- ---- Values

  on_against : (s : TermTree) (L : Locals) (B : Term) (u : ℕ) (w : State) → On Key w (against (calls_of P) s L B u w)
  on_against s L B u w = search (keeps, only, steps, grows_same, on_term) depth 10

  on_whole_value : (n : ℕ) (T : Term) (s : TermTree) (u : ℕ) (w : State) → On Key w (whole_value P n T s u w)
  on_whole_value n T s u w =
      let under : (v : ℕ) (z : State) → On Key z (under_pis P (calls_of P) lam (against (calls_of P) s) n no_locals T v z)
      = λ v z. on_under_pis lam (against (calls_of P) s) (on_against s) n no_locals T v z in
      search (keeps, only, steps, under, on_close) depth 16

  pub on_written_value : (c : ConstInfo) (n : ℕ) (s : TermTree) (u : ℕ) (w : State) → On Key w (written_value P c n s u w)
  on_written_value c n s u w = search (keeps, only, steps, grows_same, on_whole_value, on_accepted) depth 12

-- A definition without a stated type, whose types and value are elaborated in two parts over one view.
module _ (Key : TaskKey → Type 0) (P Q : Part) (reads : Reads P.view Key) (resolves : Resolves Key P) (also : Reads Q.view Key) (too : Resolves Key Q) where
  on_whole_function : (s : TermTree) (L : Locals) (bs : List OneBinder) (u : ℕ) (w : State) → On Key w (whole_function P Q s L bs u w)
  on_whole_function s L [] u w = on_term Key Q also too L s None u w
  on_whole_function s L (b ∷ bs) u w =
      let rest : (M : Locals) (v : ℕ) (z : State) → On Key z (whole_function P Q s M bs v z) = λ M v z. on_whole_function s M bs v z in
      search (keeps, only, steps, grows_same, on_domain Key P reads resolves, rest, on_close_binder Key Q also too) depth 26

  on_definition_of : (D : Declaration) (t T : Term) (u : ℕ) (w : State) → On Key w (definition_of Q D t T u w)
  on_definition_of D t T u w = search (keeps, only, steps, grows_same, on_header Key Q also too, on_accepted Key Q also too) depth 12

  pub on_whole_definition : (D : Declaration) (s : TermTree) (u : ℕ) (w : State) → On Key w (whole_definition P Q D s u w)
  on_whole_definition D s u w = search (keeps, only, steps, on_whole_function, on_close Key Q also too, on_definition_of) depth 20
