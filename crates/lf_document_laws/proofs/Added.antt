-- What the kernel gives for an inductive declaration has names that the view tells not to be there, so that its constants may be added to it.
use Rattle.std.proofs.Common.{◌≡◌, ℕ, suc, Bool, ◌&&◌, List, [], ◌∷◌, ◌++◌, Option, Some, None, subst, sym}
use Rattle.lf_core.specs.Term.{Path, Universe, Term}
use Rattle.lf_core.specs.declared.constant.ConstInfo.{ConstInfo}
use Rattle.lf_core.specs.declared.constant.CtorInfo.{CtorInfo}
use Rattle.lf_core.specs.declared.constant.IndDecl.{IndDecl}
use Rattle.lf_rules.specs.Recursor.{is_among, recursor_name, recursor_type, recursor_family, motive_level, recursor_rules, recursor_of}
use Rattle.lf_rules.specs.Inductive.{constructors_from, declared_constants}
use Rattle.lf_checker.specs.View.{View, There, not_there, there_of}
use Rattle.lf_checker.specs.Run.{Run, gives, refuse}
use Rattle.lf_checker.specs.declared.fault.TypeFault.TheVariants.{NotClosed, Duplicate}
use Rattle.lf_checker.specs.Checker.{is_closed}
use Rattle.lf_checker.specs.Admission.{put_all, given, on_result, admit, are_closed, unless_taken, unless_declared, add_inductive}
use Rattle.lf_document_laws.proofs.Pushed.{IsTold, AllTold}
use Rattle.lf_document_laws.proofs.Gives.{Gives, gives_then, gives_choose, gives_unless}

pub told_of : (s : There) → s ≡ not_there → IsTold s
told_of s h = subst IsTold (sym h) tt

abbrev ConstructorsTold : View → List CtorInfo → Type 0
ConstructorsTold V [] = Unit {0}
ConstructorsTold V (k ∷ ks) = IsTold (there_of V k.name) × ConstructorsTold V ks

constants_told : (V : View) (d : IndDecl) (large : Bool) (i : ℕ) (ks : List CtorInfo) → ConstructorsTold V ks → IsTold (there_of V (recursor_name d))
    → AllTold V (constructors_from d i ks ++ recursor_of d large ∷ [])
constants_told V d large i [] h r = (r, λ e. cc, tt)
constants_told V d large i (k ∷ ks) h r = (h.0, λ e. cc, constants_told V d large (suc i) ks h.1 r)

module _ {A : Type 0} (P : A → Type 0) where
  gives_put_all : (ts : List Term) (m : Run A) (u : ℕ) → ((v : ℕ) → Gives P (m v)) → Gives P (put_all ts m u)
  gives_put_all [] m u h = h u
  gives_put_all (t ∷ ts) m u h =
      let rest : (v : ℕ) → Gives P (put_all ts m v) = λ v. gives_put_all ts m v h in
      search (gives_then, rest) depth 6

  gives_on_result : (o : Option Universe) (f : Universe → Run A) (u : ℕ) → ((r : Universe) → Gives P (f r u)) → Gives P (on_result o f u)
  gives_on_result (Some r) f u h = h r
  gives_on_result None f u h = tt

  gives_taken : (V : View) (taken : List Path) (ks : List CtorInfo) (m : Run A) (u : ℕ) → (ConstructorsTold V ks → Gives P (m u))
      → Gives P (unless_taken V taken ks m u)
  gives_taken V taken [] m u h = h tt
  gives_taken V taken (k ∷ ks) m u h =
      gives_unless P k.name (there_of V k.name) _ u
      (λ e. gives_choose P (is_among k.name taken) (refuse (Duplicate k.name V.position)) (unless_taken V (k.name ∷ taken) ks m) u tt
      (gives_taken V (k.name ∷ taken) ks m u (λ g. h (told_of (there_of V k.name) e, g))))

  gives_declared : (V : View) (d : IndDecl) (m : Run A) (u : ℕ)
      → (IsTold (there_of V d.name) → ConstructorsTold V d.ctors → IsTold (there_of V (recursor_name d)) → Gives P (m u)) → Gives P (unless_declared V d m u)
  gives_declared V d m u h =
      gives_unless P d.name (there_of V d.name) _ u
      (λ e. gives_taken V (d.name ∷ recursor_name d ∷ []) d.ctors _ u
      (λ g. gives_unless P (recursor_name d) (there_of V (recursor_name d)) m u
      (λ f. h (told_of (there_of V d.name) e) g (told_of (there_of V (recursor_name d)) f))))

gives_admit : (P : List ConstInfo → Type 0) (V : View) (depth : ℕ) (d : IndDecl) (u : ℕ) → ((large : Bool) (v : ℕ) → Gives P (given d large v))
    → Gives P (admit V depth d u)
gives_admit P V depth d u h = search (gives_then, gives_choose, gives_on_result, h) depth 16

pub added_told : (V : View) (depth : ℕ) (d : IndDecl) (u : ℕ) → Gives (AllTold V) (add_inductive V depth d u)
added_told V depth d u =
    gives_choose (AllTold V) (is_closed d.ty && are_closed d.ctors) (unless_declared V d (admit V depth d)) (refuse NotClosed) u
    (gives_declared (AllTold V) V d (admit V depth d) u
    (λ t ks r. gives_admit (AllTold V) V depth d u
    (λ large v. gives_put_all (AllTold V)
    (recursor_type (recursor_family d large) (motive_level large) ∷ recursor_rules d large) (gives (declared_constants d large)) v
    (λ w. (t, λ e. cc, constants_told V d large 0 d.ctors ks r))))) tt
