-- The recursor that is given has passed the tests of depth.
use Rattle.std.proofs.Common.{◌≡◌, ℕ, ◌≤◌, nat_le, nat_lt, Bool, true, false, ◌&&◌, List, [], ◌∷◌, refl, arith}
use Rattle.std.proofs.lemmas.Bool.Decides.{nat_tests}
use Rattle.lf_core.specs.Term.{Term}
use Rattle.lf_core.specs.Size.{depth}
use Rattle.lf_rules.specs.Structure.{result_level}
use Rattle.lf_rules.specs.Telescope.{pi_count}
use Rattle.lf_rules.specs.Recursor.{Family, recursor_family, recursor_type, recursor_rules, motive_level}
use Rattle.lf_rules.specs.Inductive.{own_family, declared_constants}
use Rattle.lf_core.specs.declared.constant.ConstInfo.{ConstInfo}
use Rattle.lf_core.specs.declared.constant.IndDecl.{IndDecl}
use Rattle.lf_checker.specs.View.{View}
use Rattle.lf_checker.specs.Run.{Run, gives, gives_up, refuse, put}
use Rattle.lf_checker.specs.declared.fault.TypeFault.TheVariants.{NotClosed, BadType}
use Rattle.lf_checker.specs.Calls.{checked, Calls}
use Rattle.lf_checker.specs.Checker.{calls, is_closed}
use Rattle.lf_checker.specs.Infer.{sort_of}
use Rattle.lf_checker.specs.Admission.{
  Read,
  admit_constructors,
  eliminates_everywhere,
  put_all,
  given,
  view_with_type,
  admit,
  are_closed,
  unless_declared,
  add_inductive,
}
use Rattle.lf_checker_laws.specs.Soundness.{Post}
use Rattle.lf_checker_laws.proofs.Runs.{post_then, post_any, post_choose}
use Rattle.lf_admission_laws.specs.Shallow.{AllShallow, Shallow, RecursorsAreShallow}
use Rattle.lf_admission_laws.proofs.New_names.{declared_sound}
use Rattle.lf_admission_laws.proofs.Accepted.{on_result_sound}

not_deeper : (n : ℕ) → nat_lt 1024 n ≡ false → n ≤ 1024
not_deeper n e = grind (arith, nat_tests)

put_shallow : (t : Term) (u : ℕ) → Post (λ s. depth t ≤ 1024) (put t u)
put_shallow t u = post_choose (λ s. depth t ≤ 1024) (nat_lt 1024 (depth t)) gives_up (gives t) u (λ e. tt) (λ e. not_deeper (depth t) e)

all_shallow : {A : Type 0} (P : A → Type 0) (ts : List Term) (m : Run A) (u : ℕ) → (AllShallow ts → (v : ℕ) → Post P (m v)) → Post P (put_all ts m u)
all_shallow P [] m u h = h tt u
all_shallow P (t ∷ ts) m u h =
    post_then (λ s. depth t ≤ 1024) P (put t u) (λ s. put_all ts m) (put_shallow t u) λ s v d.
    all_shallow P ts m v λ a w. h (d, a) w

given_shallow : (d : IndDecl) (large : Bool) (u : ℕ) → Post (Shallow d) (given d large u)
given_shallow d large u =
    all_shallow (Shallow d) (recursor_type (recursor_family d large) (motive_level large) ∷ recursor_rules d large) (gives (declared_constants d large)) u
    λ a v. record { large = large; is = refl; type = a.0; rules = a.1 }

pub recursors_are_shallow : RecursorsAreShallow
recursors_are_shallow V depth d u =
    let f : Family = own_family d in
    let c : Calls = calls (view_with_type V d) depth in
    post_choose (Shallow d) (is_closed d.ty && are_closed d.ctors) (unless_declared V d (admit V depth d)) (refuse NotClosed) u
    (λ e. declared_sound (Shallow d) V d (admit V depth d) u λ n.
    post_then (λ l. Unit {0}) (Shallow d) (sort_of (calls V depth) checked [] d.ty u) _ (post_any (sort_of (calls V depth) checked [] d.ty u)) λ l v z.
    post_choose (Shallow d) (nat_le d.params (pi_count d.ty)) _ (refuse BadType) v
    (λ p. on_result_sound (Shallow d) (result_level d.ty) _ v λ r q.
    post_then (λ ks. Unit {0}) (Shallow d) (admit_constructors c f r d.ctors v) _ (post_any (admit_constructors c f r d.ctors v)) λ ks w hs.
    given_shallow d (eliminates_everywhere f r ks) w)
    (λ p. tt))
    (λ e. tt)
