-- What the test of a declaration accepts is admitted, and keeps a derived list derived.
use Rattle.std.proofs.Common.{◌≡◌, ℕ, ◌≤◌, nat_le, Bool, true, ◌&&◌, Option, Some, None, List, [], ◌∷◌, ◌++◌, length, refl, sym, subst}
use Rattle.std.proofs.lemmas.Bool.{and_parts, leb-true}
use Rattle.std.proofs.lemmas.List.Elements.{Contains-append_left}
use Rattle.lf_core.specs.Term.{Universe, Term, sort}
use Rattle.lf_core.specs.Scope.{Scoped}
use Rattle.lf_rules.specs.Environment.{Environment, NamesDeclared}
use Rattle.lf_rules.specs.Structure.{result_level}
use Rattle.lf_rules.specs.Judgment.{HasType}
use Rattle.lf_rules.specs.Telescope.{types, pi_count}
use Rattle.lf_rules.specs.Recursor.{Family, recursor_type, recursor_family, motive_level, recursor_rules}
use Rattle.lf_rules.specs.Inductive.{own_family, declared_constants, with_type, type_alone}
use Rattle.lf_rules.specs.Derived.{ConstructorsNamed, Derived, with_inductive}
use Rattle.lf_core.specs.declared.constant.ConstInfo.{ConstInfo}
use Rattle.lf_core.specs.declared.constant.CtorInfo.{CtorInfo}
use Rattle.lf_core.specs.declared.constant.IndDecl.{IndDecl}
use Rattle.lf_judgment_laws.specs.Growth.{Grows}
use Rattle.lf_judgment_laws.proofs.Grows.{relations_grow, self_tells}
use Rattle.lf_checker.specs.View.{View}
use Rattle.lf_checker.specs.Run.{Run, gives, refuse}
use Rattle.lf_checker.specs.declared.fault.TypeFault.TheVariants.{NotClosed, BadType}
use Rattle.lf_checker.specs.Calls.{checked}
use Rattle.lf_checker.specs.Infer.{sort_of}
use Rattle.lf_checker.specs.Checker.{calls, is_closed}
use Rattle.lf_checker.specs.Admission.{
  Read,
  admit_constructors,
  eliminates_everywhere,
  put_all,
  given,
  on_result,
  view_with_type,
  admit,
  are_closed,
  unless_declared,
  add_inductive,
}
use Rattle.lf_inductive_laws.specs.Telescopes.{InSorts}
use Rattle.lf_checker_laws.specs.Soundness.{ClosedList, Post, Sound}
use Rattle.lf_checker_laws.specs.Declarations.{AllFound}
use Rattle.lf_checker_laws.proofs.Runs.{post_then, post_map, post_both, post_choose, post_put}
use Rattle.lf_checker_laws.proofs.Types.{InSort, sort_sound}
use Rattle.lf_checker_laws.proofs.All.{calls_sound}
use Rattle.lf_checker_laws.proofs.Fitting.{names_below}
use Rattle.lf_checker_laws.proofs.Found.{sort_finds, calls_find, declared_if_found}
use Rattle.lf_checker_laws.proofs.Entering.{scoped_is}
use Rattle.lf_admission_laws.specs.Admission.{ConstructorsAsked, Names, Admits, Accepts}
use Rattle.lf_admission_laws.proofs.Constructors.{domains_typed, sorts_grow}
use Rattle.lf_admission_laws.proofs.Reading.{ReadsAll, TypesFit, constructors_sound, all_right, eliminates}
use Rattle.lf_admission_laws.proofs.Naming.{Naming, AllNamed, domains_named, constructors_named}
use Rattle.lf_admission_laws.proofs.Pushed.{Added, added_is_closed}
use Rattle.lf_admission_laws.proofs.New_names.{NamesNew, declared_sound, all_fresh}

put_all_sound : {A : Type 0} (Q : A → Type 0) (ts : List Term) (m : Run A) (u : ℕ) → ((v : ℕ) → Post Q (m v)) → Post Q (put_all ts m u)
put_all_sound Q [] m u h = h u
put_all_sound Q (t ∷ ts) m u h = post_then (λ s. Unit {0}) Q _ _ (post_put (λ s. Unit {0}) t u tt) λ s v z. put_all_sound Q ts m v h

pub given_sound : (Q : List ConstInfo → Type 0) (d : IndDecl) (large : Bool) (u : ℕ) → Q (declared_constants d large) → Post Q (given d large u)
given_sound Q d large u h = put_all_sound Q (recursor_type (recursor_family d large) (motive_level large) ∷ recursor_rules d large)
    (gives (declared_constants d large)) u (λ v. h)

pub on_result_sound : {A : Type 0} (Q : A → Type 0) (o : Option Universe) (f : Universe → Run A) (u : ℕ) → ((r : Universe) → o ≡ Some r → Post Q (f r u))
    → Post Q (on_result o f u)
on_result_sound Q (Some r) f u h = h r refl
on_result_sound Q None f u h = tt

-- Closed types of constructors that name the list with the type.
abbrev pub ClosedTypes : List CtorInfo → Type 0
ClosedTypes [] = Unit {0}
ClosedTypes (c ∷ cs) = Scoped 0 0 c.ty × ClosedTypes cs

closed_types : (cs : List CtorInfo) → are_closed cs ≡ true → ClosedTypes cs
closed_types [] e = tt
closed_types (c ∷ cs) e = let p = and_parts (is_closed c.ty) (are_closed cs) e in (scoped_is 0 c.ty p.0, closed_types cs p.1)

longer : (E : Environment) (d : IndDecl) → Grows E (with_type E d)
longer E d c w = (c, Contains-append_left E (type_alone d ∷ []) c w, self_tells c)

-- What is asked of view, list and declaration.
pub record Ready (V : View) (E : Environment) (d : IndDecl) : Type 0 where
  pub list : ClosedList V E
  pub names : Names V E d
  pub added : Scoped 0 0 d.ty → NamesNew V d → Added V E d

types_fit : (V : View) (E : Environment) (top : ℕ) (cs : List CtorInfo) → ConstructorsAsked V E top cs → ClosedTypes cs → TypesFit V E top cs
types_fit V E top [] h s = tt
types_fit V E top (c ∷ cs) h s = ((s.0, h.0.names), types_fit V E top cs h.1 s.1)

introduced_by : (V : View) (E : Environment) (d : IndDecl) → Ready V E d → NamesNew V d → ClosedTypes d.ctors → (l r : Universe) (ks : List Read)
    → HasType E [] d.ty (sort l) → NamesDeclared E d.ty → d.params ≤ pi_count d.ty → result_level d.ty ≡ Some r
    → ReadsAll (with_type E d) (own_family d) r d.ctors ks → ConstructorsNamed (with_type E d) d d.ctors
    → Admits E d (declared_constants d (eliminates_everywhere (own_family d) r ks))
introduced_by V E d k n cl l r ks t nt p q h nc =
    let top : ℕ = length d.levels in
    let F : Environment = with_type E d in
    let f : Family = own_family d in
    let fit : TypesFit (view_with_type V d) F top d.ctors = types_fit (view_with_type V d) F top d.ctors k.names.constructors cl in
    let sorts : InSorts F [] (types f.params) = sorts_grow E F (longer E d) [] (types f.params) (domains_typed E [] d.params d.ty (l, t)) in
    let large : Bool = eliminates_everywhere f r ks in
    record {
      large = large;
      is = refl;
      introduced = record {
        fresh = all_fresh V E d large k.names.type_entry k.names.constructor_entries k.names.recursor_entry n;
        admitted = record {
          level = l;
          typed = t;
          params = p;
          result = r;
          ends = q;
          constructors = all_right (view_with_type V d) F top f r d.ctors ks sorts fit h;
          elimination = eliminates (view_with_type V d) F top f r d.ctors ks sorts fit h;
        };
        named = nt;
        levels = names_below V E top d.ty k.names.type.names;
        constructors = nc;
      };
    }

admit_sound : (V : View) (E : Environment) (d : IndDecl) (depth : ℕ) → Ready V E d → Scoped 0 0 d.ty → ClosedTypes d.ctors → NamesNew V d → (u : ℕ)
    → Post (Admits E d) (admit V depth d u)
admit_sound V E d depth k sd cl n u =
    let top : ℕ = length d.levels in
    let W : View = view_with_type V d in
    let F : Environment = with_type E d in
    let f : Family = own_family d in
    let Q : List ConstInfo → Type 0 = Admits E d in
    let list : ClosedList W F = added_is_closed V E d (k.added sd n) in
    let s : Sound W F top (calls W depth) = calls_sound W F list top depth in
    let find : Naming W F (calls W depth) = record { own_name = list.own_name; finds = calls_find W depth } in
    let fit : TypesFit W F top d.ctors = types_fit W F top d.ctors k.names.constructors cl in
    post_then (λ l. InSort E top [] d.ty l × AllFound V d.ty) Q (sort_of (calls V depth) checked [] d.ty u) _
    (post_both (InSort E top [] d.ty) (λ l. AllFound V d.ty) (sort_of (calls V depth) checked [] d.ty u)
    (sort_sound V E top (calls V depth) (calls_sound V E k.list top depth) [] d.ty u tt (sd, k.names.type.names))
    (sort_finds V (calls V depth) (calls_find V depth) [] d.ty u)) λ l v hl.
    let nt : NamesDeclared E d.ty = declared_if_found V E top d.ty k.list.own_name k.names.type.names k.names.type.literals hl.1 in
    let params : AllNamed F (types f.params) = domains_named F 0 d.params d.ty ((relations_grow E F (longer E d)).named d.ty nt) in
    post_choose Q (nat_le d.params (pi_count d.ty)) _ (refuse BadType) v
    (λ e. on_result_sound Q (result_level d.ty) _ v λ r q.
    post_then (λ ks. ReadsAll F f r d.ctors ks × ConstructorsNamed F d d.ctors) Q (admit_constructors (calls W depth) f r d.ctors v) _
    (post_both (ReadsAll F f r d.ctors) (λ ks. ConstructorsNamed F d d.ctors) (admit_constructors (calls W depth) f r d.ctors v)
    (constructors_sound W F top (calls W depth) s f r d.ctors v fit)
    (constructors_named W F d (calls W depth) find f r d.ctors v params k.names.constructors)) λ ks w hs.
    given_sound Q d (eliminates_everywhere f r ks) w (introduced_by V E d k n cl l r ks hl.0.0 nt (leb-true d.params (pi_count d.ty) e) q hs.0 hs.1))
    (λ e. tt)

add_sound : (V : View) (E : Environment) (d : IndDecl) (depth : ℕ) → Ready V E d → (u : ℕ) → Post (Admits E d) (add_inductive V depth d u)
add_sound V E d depth k u =
    post_choose (Admits E d) (is_closed d.ty && are_closed d.ctors) (unless_declared V d (admit V depth d)) (refuse NotClosed) u
    (λ e. let p = and_parts (is_closed d.ty) (are_closed d.ctors) e in declared_sound (Admits E d) V d (admit V depth d) u λ n. admit_sound V E d depth k
    (scoped_is 0 d.ty p.0) (closed_types d.ctors p.1) n u)
    (λ e. tt)

pub accepts : (V : View) (E : Environment) (depth : ℕ) → Derived E → ((d : IndDecl) → Names V E d → Ready V E d) → Accepts V E depth
accepts V E depth h ready = record {
  admitted = λ d u n. add_sound V E d depth (ready d n) u;
  derived = λ d u n. post_map (Admits E d) (λ cs. Derived (E ++ cs)) (add_inductive V depth d u) (add_sound V E d depth (ready d n) u) λ cs a.
      subst (λ x. Derived (E ++ x)) (sym a.is) (with_inductive d a.large h a.introduced);
}
