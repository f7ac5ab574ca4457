-- What is accepted over a derived environment keeps it derived.
use Rattle.std.proofs.Common.{◌≡◌, ℕ, Bool, true, ◌&&◌, [], ◌∷◌, ◌++◌, length, sym, subst, Some}
use Rattle.std.proofs.lemmas.Bool.{and_parts}
use Rattle.lf_core.specs.Term.{Path, Universe, Term, sort}
use Rattle.lf_core.specs.Scope.{Scoped}
use Rattle.lf_rules.specs.Environment.{Environment, Fresh}
use Rattle.lf_rules.specs.Judgment.{Equal, HasType, conversion, has_type, is_type}
use Rattle.lf_rules.specs.Derived.{Checked, Stated, Derived, with_axiom, with_value}
use Rattle.lf_core.specs.declared.constant.ConstInfo.{ConstInfo}
use Rattle.lf_core.specs.declared.constant.Detail.TheVariants.{Plain}
use Rattle.lf_checker.specs.View.{View, there_of}
use Rattle.lf_checker.specs.Run.{Run, refuse, choose}
use Rattle.lf_checker.specs.declared.fault.TypeFault.TheVariants.{NotClosed, Value}
use Rattle.lf_checker.specs.Calls.{checked, Calls}
use Rattle.lf_checker.specs.Infer.{sort_of}
use Rattle.lf_checker.specs.Checker.{calls, is_closed, is_value_closed, unless_there, add_header, height_of, check_value, add_decl}
use Rattle.lf_checker_laws.specs.Soundness.{Names, ClosedList, Post, Typed, Sound}
use Rattle.lf_checker_laws.specs.Declarations.{AllFound, Asked, Knows, HasEntry, AcceptedIsDerived}
use Rattle.lf_checker_laws.proofs.Runs.{post_then, post_any, post_both, post_map, post_choose, Yes}
use Rattle.lf_checker_laws.proofs.Types.{InSort, sort_sound}
use Rattle.lf_checker_laws.proofs.All.{calls_sound}
use Rattle.lf_checker_laws.proofs.Known.{names_of}
use Rattle.lf_checker_laws.proofs.Fitting.{names_below}
use Rattle.lf_checker_laws.proofs.Found.{sort_finds, calls_find, declared_if_found}
use Rattle.lf_checker_laws.proofs.Declared.{derived_is_closed_list}
use Rattle.lf_checker_laws.proofs.Entering.{scoped_is, unless_sound, fresh_if}

header_sound : (V : View) (E : Environment) (top : ℕ) → ClosedList V E → (depth : ℕ) (n : Path) (ty : Term) (u : ℕ) → Names V E top ty
    → Post (InSort E top [] ty) (add_header V depth n ty u)
header_sound V E top cl depth n ty u h =
    post_choose (InSort E top [] ty) (is_closed ty) (unless_there n (there_of V n) (sort_of (calls V depth) checked [] ty)) (refuse NotClosed) u
    (λ e. unless_sound (InSort E top [] ty) n (there_of V n) (sort_of (calls V depth) checked [] ty) u
    (λ q. sort_sound V E top (calls V depth) (calls_sound V E cl top depth) [] ty u tt (scoped_is 0 ty e, h)))
    (λ e. tt)

header_found : (V : View) (depth : ℕ) (n : Path) (ty : Term) (u : ℕ) → Post (λ l. AllFound V ty) (add_header V depth n ty u)
header_found V depth n ty u =
    let Q : Universe → Type 0 = λ l. AllFound V ty in
    post_choose Q (is_closed ty) (unless_there n (there_of V n) (sort_of (calls V depth) checked [] ty)) (refuse NotClosed) u
    (λ e. unless_sound Q n (there_of V n) (sort_of (calls V depth) checked [] ty) u (λ q. sort_finds V (calls V depth) (calls_find V depth) [] ty u))
    (λ e. tt)

-- A term with what is asked of it is checked, where the view finds its names and it has the type.
checked_by : (V : View) (E : Environment) → ClosedList V E → (c : ConstInfo) (t A : Term) → Asked V E (length c.levels) t → AllFound V t → HasType E [] t A
    → Checked E c t A
checked_by V E cl c t A a f h = record {
  typed = h;
  named = declared_if_found V E (length c.levels) t cl.own_name a.names a.literals f;
  levels = names_below V E (length c.levels) t a.names;
}

type_checked : (V : View) (E : Environment) → ClosedList V E → (depth : ℕ) (c : ConstInfo) (u : ℕ) → Asked V E (length c.levels) c.ty
    → Post (λ l. Checked E c c.ty (sort l)) (add_header V depth c.name c.ty u)
type_checked V E cl depth c u a =
    let top : ℕ = length c.levels in
    post_map (λ l. InSort E top [] c.ty l × AllFound V c.ty) (λ l. Checked E c c.ty (sort l)) (add_header V depth c.name c.ty u)
    (post_both (InSort E top [] c.ty) (λ l. AllFound V c.ty) (add_header V depth c.name c.ty u) (header_sound V E top cl depth c.name c.ty u a.names)
    (header_found V depth c.name c.ty u)) λ l h.
    checked_by V E cl c c.ty (sort l) a h.1 h.0.0

value_sound : (V : View) (E : Environment) (top : ℕ) → ClosedList V E → (depth : ℕ) (ty v : Term) (l : Universe) (u : ℕ) → Scoped 0 0 ty → Scoped 0 0 v
    → Names V E top ty → Names V E top v → HasType E [] ty (sort l)
    → Post (λ h. HasType E [] v ty × AllFound V v) (check_value V depth ty (Some v) u)
value_sound V E top cl depth ty v l u st sv nt nv ht =
    let c : Calls = calls V depth in
    let s : Sound V E top c = calls_sound V E cl top depth in
    let Q : ℕ → Type 0 = λ h. HasType E [] v ty × AllFound V v in
    post_then (λ X. Typed V E top [] v X × AllFound V v) Q (c.infer checked [] v u) _
    (post_both (Typed V E top [] v) (λ X. AllFound V v) (c.infer checked [] v u) (s.infer [] v u tt (sv, nv)) ((calls_find V depth).infer [] v u)) λ X u1 hX.
    post_then (Yes (Equal E [] X ty)) Q (c.equal [] X ty u1) _ (s.equal [] X ty u1 tt hX.0.1 (st, nt) (is_type hX.0.0) (has_type ht)) λ r u2 hr.
    post_choose Q r (height_of V v) (refuse (Value X ty)) u2
    (λ y. post_map (λ h. Unit {0}) Q (height_of V v u2) (post_any (height_of V v u2)) (λ h z. (conversion hX.0.0 (hr y), hX.1))) (λ y. tt)

value_checked : (V : View) (E : Environment) → Knows V E → ClosedList V E → (depth : ℕ) (c : ConstInfo) (v : Term) (l : Universe) (u : ℕ) → c.value ≡ Some v
    → Checked E c c.ty (sort l) → Asked V E (length c.levels) v
    → Post (λ h. Checked E c v c.ty) (add_decl V depth c u)
value_checked V E k cl depth c v l u q t a =
    let top : ℕ = length c.levels in
    let Q : ℕ → Type 0 = λ h. Checked E c v c.ty in
    post_choose Q (is_closed c.ty && is_value_closed c.value) (unless_there c.name (there_of V c.name) (check_value V depth c.ty c.value)) (refuse NotClosed) u
    (λ e. unless_sound Q c.name (there_of V c.name) (check_value V depth c.ty c.value) u λ z.
    let p = and_parts (is_closed c.ty) (is_value_closed c.value) e in
    let sv : Scoped 0 0 v = scoped_is 0 v (subst (λ o. is_value_closed o ≡ true) q p.1) in
    subst (λ o. Post Q (check_value V depth c.ty o u)) (sym q)
    (post_map (λ h. HasType E [] v c.ty × AllFound V v) Q (check_value V depth c.ty (Some v) u)
    (value_sound V E top cl depth c.ty v l u (scoped_is 0 c.ty p.0) sv (names_of V E top k.found_there cl.beside c.ty t.named t.levels) a.names t.typed) λ h x.
    checked_by V E cl c v c.ty a x.1 x.0))
    (λ e. tt)

new_by : {A : Type 0} (V : View) (E : Environment) (n : Path) (b : Bool) (m : Run A) (u : ℕ) → HasEntry V E n
    → Post (λ x. Fresh E n) (choose b (unless_there n (there_of V n) m) (refuse NotClosed) u)
new_by V E n b m u all =
    post_choose (λ x. Fresh E n) b (unless_there n (there_of V n) m) (refuse NotClosed) u
    (λ e. unless_sound (λ x. Fresh E n) n (there_of V n) m u
    (λ q. post_map (λ x. Unit {0}) (λ x. Fresh E n) (m u) (post_any (m u)) (λ x z. fresh_if V E n all q))) (λ e. tt)

new_header : (V : View) (E : Environment) (depth : ℕ) (n : Path) (ty : Term) (u : ℕ) → HasEntry V E n → Post (λ l. Fresh E n) (add_header V depth n ty u)
new_header V E depth n ty u has = new_by V E n (is_closed ty) (sort_of (calls V depth) checked [] ty) u has

stated_by : (V : View) (E : Environment) → ClosedList V E → (depth : ℕ) (c : ConstInfo) (u : ℕ) → HasEntry V E c.name → c.detail ≡ Plain
    → Asked V E (length c.levels) c.ty → Post (λ l. Stated E c) (add_header V depth c.name c.ty u)
stated_by V E cl depth c u has plain a =
    post_map (λ l. Checked E c c.ty (sort l) × Fresh E c.name) (λ l. Stated E c) (add_header V depth c.name c.ty u)
    (post_both (λ l. Checked E c c.ty (sort l)) (λ l. Fresh E c.name) (add_header V depth c.name c.ty u) (type_checked V E cl depth c u a)
    (new_header V E depth c.name c.ty u has))
    λ l h. record { fresh = h.1; plain = plain; level = l; type = h.0 }

pub accepted_is_derived : AcceptedIsDerived
accepted_is_derived V E d k b depth = let cl : ClosedList V E = derived_is_closed_list V E d k b in record {
  header = λ n ty u top h. header_sound V E top cl depth n ty u h;
  checked_type = λ c u a. type_checked V E cl depth c u a;
  checked_value = λ c v l u q t a. value_checked V E k cl depth c v l u q t a;
  stated = λ c u has plain a. stated_by V E cl depth c u has plain a;
  assumed = λ c u has plain a kind none. post_map (λ l. Stated E c) (λ l. Derived (E ++ c ∷ [])) (add_header V depth c.name c.ty u)
      (stated_by V E cl depth c u has plain a) λ l s. with_axiom c d s kind none;
  value = λ c v u s kind q a. post_map (λ h. Checked E c v c.ty) (λ h. Derived (E ++ c ∷ [])) (add_decl V depth c u)
      (value_checked V E k cl depth c v s.level u q s.type a) λ h t. with_value c v d s kind q t;
  new_header = λ n ty u has. new_header V E depth n ty u has;
  new_value = λ c u has. new_by V E c.name (is_closed c.ty && is_value_closed c.value) (check_value V depth c.ty c.value) u has;
}
