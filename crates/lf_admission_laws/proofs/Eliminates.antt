-- What the last test of an inductive declaration answers, where it asks for no levels of fields.
use Rattle.std.proofs.Common.{◌≡◌, ℕ, ◌≤◌, nat_le, true, ◌&&◌, Some, List, [], ◌∷◌, length, refl, sym, ap, subst, ◌∙◌, arith}
use Rattle.std.proofs.lemmas.Bool.{or_left}
use Rattle.lf_core.specs.Term.{Universe, level_zero, level_succ}
use Rattle.lf_core.specs.Size.{level_depth}
use Rattle.lf_rules.specs.Structure.{result_level}
use Rattle.lf_rules.specs.Telescope.{pi_count}
use Rattle.lf_rules.specs.Recursor.{Family}
use Rattle.lf_rules.specs.Inductive.{NeverZero, own_family, declared_constants}
use Rattle.lf_core.specs.declared.constant.ConstInfo.{ConstInfo}
use Rattle.lf_core.specs.declared.constant.CtorInfo.{CtorInfo}
use Rattle.lf_core.specs.declared.constant.IndDecl.{IndDecl}
use Rattle.lf_level.specs.Parameters.{HasNoMetavariable, parameters_of}
use Rattle.lf_checker.specs.View.{View}
use Rattle.lf_checker.specs.Run.{refuse}
use Rattle.lf_checker.specs.declared.fault.TypeFault.TheVariants.{NotClosed, BadType}
use Rattle.lf_checker.specs.Calls.{checked, Calls}
use Rattle.lf_checker.specs.Infer.{sort_of}
use Rattle.lf_checker.specs.Checker.{calls, is_closed}
use Rattle.lf_checker.specs.Admission.{
  Read,
  admit_constructors,
  is_never_zero,
  are_proofs_or_indices,
  eliminates_everywhere,
  view_with_type,
  admit,
  are_closed,
  unless_declared,
  add_inductive,
}
use Rattle.lf_inductive_laws.proofs.Right.{some_is}
use Rattle.lf_checker_laws.specs.Soundness.{Post}
use Rattle.lf_checker_laws.proofs.Runs.{post_then, post_any, post_choose}
use Rattle.lf_checker_laws.proofs.Tests.{order_exact}
use Rattle.lf_admission_laws.specs.Elimination.{EliminatesAsAsked}
use Rattle.lf_admission_laws.proofs.New_names.{declared_sound}
use Rattle.lf_admission_laws.proofs.Accepted.{given_sound, on_result_sound}

-- What holds of the answer holds of what is given, whatever was read of the constructors.
given_by : (V : View) (depth : ℕ) (d : IndDecl) (P : List Read → Type 0)
    → ((c : Calls) (r : Universe) (u : ℕ) → Post P (admit_constructors c (own_family d) r d.ctors u))
    → ((r : Universe) (ks : List Read) → result_level d.ty ≡ Some r → P ks → eliminates_everywhere (own_family d) r ks ≡ true) → (u : ℕ)
    → Post (λ given. given ≡ declared_constants d true) (add_inductive V depth d u)
given_by V depth d P reads large u =
    let Q : List ConstInfo → Type 0 = λ given. given ≡ declared_constants d true in
    let f : Family = own_family d in
    let c : Calls = calls (view_with_type V d) depth in
    post_choose Q (is_closed d.ty && are_closed d.ctors) (unless_declared V d (admit V depth d)) (refuse NotClosed) u
    (λ e. declared_sound Q V d (admit V depth d) u λ n.
    post_then (λ l. Unit {0}) Q (sort_of (calls V depth) checked [] d.ty u) _ (post_any (sort_of (calls V depth) checked [] d.ty u)) λ l v z.
    post_choose Q (nat_le d.params (pi_count d.ty)) _ (refuse BadType) v
    (λ p. on_result_sound Q (result_level d.ty) _ v λ r q.
    post_then P Q (admit_constructors c f r d.ctors v) _ (reads c r v) λ ks w hs.
    given_sound Q d (eliminates_everywhere f r ks) w (ap (declared_constants d) (large r ks q hs)))
    (λ p. tt))
    (λ e. tt)

never_zero_passes : (r : Universe) → HasNoMetavariable r → level_depth r ≤ 1024 → length (parameters_of (level_succ level_zero) r) ≤ 8 → NeverZero r
    → is_never_zero r ≡ true
never_zero_passes r n d p h = (order_exact (level_succ level_zero) r tt n (omega arith) d p).1 (λ s. let z = h s in omega (arith, z))

everywhere_if : (f : Family) (r : Universe) (ks : List Read) → is_never_zero r ≡ true → eliminates_everywhere f r ks ≡ true
everywhere_if f r [] e = refl
everywhere_if f r (k ∷ []) e = or_left (is_never_zero r) (are_proofs_or_indices (length f.params) k.levels k.indices) e
everywhere_if f r (k ∷ j ∷ ks) e = e

none_read : (c : Calls) (f : Family) (r : Universe) (cs : List CtorInfo) (u : ℕ) → cs ≡ [] → Post (λ ks. ks ≡ []) (admit_constructors c f r cs u)
none_read c f r cs u e = subst (λ xs. Post (λ ks. ks ≡ []) (admit_constructors c f r xs u)) (sym e) refl

pub eliminates_as_asked : EliminatesAsAsked
eliminates_as_asked = record {
  never_proposition = λ V depth d u r q n e p h. given_by V depth d (λ ks. Unit {0}) (λ c s v. post_any (admit_constructors c (own_family d) s d.ctors v))
      (λ s ks g z. everywhere_if (own_family d) s ks (subst (λ l. is_never_zero l ≡ true) (some_is (sym q ∙ g)) (never_zero_passes r n e p h))) u;
  no_constructor = λ V depth d u e. given_by V depth d (λ ks. ks ≡ []) (λ c s v. none_read c (own_family d) s d.ctors v e)
      (λ s ks g z. ap (eliminates_everywhere (own_family d) s) z) u;
}
