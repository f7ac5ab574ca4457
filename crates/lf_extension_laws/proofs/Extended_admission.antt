-- The extension law of inductive declarations, and with it the whole law.
use Rattle.std.proofs.Common.{◌≡◌, ℕ, suc, ◌&&◌, List, [], ◌∷◌, Option, Some, None, refl, sym, ap}
use Rattle.lf_core.specs.Term.{Path, Universe, Term, pi}
use Rattle.lf_rules.specs.Environment.{Context}
use Rattle.lf_rules.specs.Telescope.{Telescope}
use Rattle.lf_rules.specs.Recursor.{Family, is_among, recursor_name}
use Rattle.lf_core.specs.declared.constant.CtorInfo.{CtorInfo}
use Rattle.lf_core.specs.declared.constant.IndDecl.{IndDecl}
use Rattle.lf_checker.specs.View.{View, not_there, there_of}
use Rattle.lf_checker.specs.Extends.{Tells}
use Rattle.lf_checker.specs.Run.{Run, refuse, choose}
use Rattle.lf_checker.specs.declared.fault.TypeFault.TheVariants.{NotClosed, Duplicate}
use Rattle.lf_checker.specs.Calls.{Calls}
use Rattle.lf_checker.specs.Checker.{calls, is_closed, unless_there}
use Rattle.lf_checker.specs.Admission.{
  admit_end,
  admit_fields,
  admit_constructor,
  admit_constructors,
  on_result,
  view_with_type,
  admit,
  are_closed,
  unless_taken,
  unless_declared,
  add_inductive,
}
use Rattle.lf_extension_laws.specs.Extension.{Kept, Agree, ExtensionLaw}
use Rattle.lf_extension_laws.proofs.Kept.{kept_self, kept_then, kept_named, kept_choose}
use Rattle.lf_extension_laws.proofs.Extended.{kept_sort, calls_kept}
use Rattle.lf_extension_laws.proofs.Extended_declarations.{there_kept, kept_unless, header_kept, decl_kept}
use Rattle.lf_extension_laws.proofs.Pushed.{type_extends}

ruleset kept = (kept_self, kept_then, kept_named, kept_choose)

-- ---- A constructor, by calls that agree.

kept_end : (c d : Calls) → Agree c d → (f : Family) (n : Path) (C : Context) (t : Term) (u : ℕ) → Kept (admit_end c f n C t u) (admit_end d f n C t u)
kept_end c d a f n C t u = search (kept, kept_sort c d a) depth 10

kept_fields : (c d : Calls) → Agree c d → (f : Family) (r : Universe) (n : Path) (i m : ℕ) (C : Context) (t : Term) (u : ℕ)
    → Kept (admit_fields c f r n i m C t u) (admit_fields d f r n i m C t u)
kept_fields c d a f r n i (suc m) C (pi x A B) u = search (kept, kept_sort c d a, λ (D : Context) (t : Term) (v : ℕ). kept_fields c d a f r n (suc i) m D t v)
    depth 14
kept_fields c d a f r n i m C t u = kept_end c d a f n C t u

kept_constructor : (c d : Calls) → Agree c d → (f : Family) (r : Universe) (n : Path) (xs : Telescope) (C : Context) (t : Term) (u : ℕ)
    → Kept (admit_constructor c f r n xs C t u) (admit_constructor d f r n xs C t u)
kept_constructor c d a f r n [] C t u = kept_fields c d a f r n 1 _ C t u
kept_constructor c d a f r n (x ∷ xs) C (pi y A B) u = search (kept, λ (D : Context) (t : Term) (v : ℕ). kept_constructor c d a f r n xs D t v) depth 14
kept_constructor c d a f r n (x ∷ xs) C t u = refl

kept_constructors : (c d : Calls) → Agree c d → (f : Family) (r : Universe) (ks : List CtorInfo) (u : ℕ)
    → Kept (admit_constructors c f r ks u) (admit_constructors d f r ks u)
kept_constructors c d a f r [] u = refl
kept_constructors c d a f r (k ∷ ks) u = search (kept, kept_constructor c d a, λ (v : ℕ). kept_constructors c d a f r ks v) depth 12

-- ---- The declaration. Its constructors are judged on the view with its type, which extends where its name isn't there.

kept_on_result : {A : Type 0} (o : Option Universe) (m n : Universe → Run A) (u : ℕ) → ((l : Universe) → Kept (m l u) (n l u))
    → Kept (on_result o m u) (on_result o n u)
kept_on_result (Some l) m n u h = h l
kept_on_result None m n u h = refl

kept_admit : (U V : View) → Tells V U → (depth : ℕ) (d : IndDecl) → there_of U d.name ≡ not_there → (u : ℕ) → Kept (admit U depth d u) (admit V depth d u)
kept_admit U V x depth d e u =
    let a : Agree (calls U depth) (calls V depth) = calls_kept U V x depth in
    let b : Agree (calls (view_with_type U d) depth) (calls (view_with_type V d) depth) = calls_kept (view_with_type U d) (view_with_type V d)
    (type_extends U V x d e) depth in
    search (
      kept,
      kept_sort (calls U depth) (calls V depth) a,
      kept_constructors (calls (view_with_type U d) depth) (calls (view_with_type V d) depth) b,
      kept_on_result,
    ) depth 14

kept_taken : {A : Type 0} (U V : View) → Tells V U → (taken : List Path) (cs : List CtorInfo) (m k : Run A) (u : ℕ) → Kept (m u) (k u)
    → Kept (unless_taken U taken cs m u) (unless_taken V taken cs k u)
kept_taken U V x taken [] m k u h = h
kept_taken {A = A} U V x taken (c ∷ cs) m k u h =
    let again : Kept (refuse {A = A} (Duplicate c.name U.position) u) (refuse (Duplicate c.name V.position) u) = ap (λ p. refuse (Duplicate c.name p) u)
    (sym x.position) in
    kept_unless c.name (there_of U c.name) (there_of V c.name)
    (choose (is_among c.name taken) (refuse (Duplicate c.name U.position)) (unless_taken U (c.name ∷ taken) cs m)) _ u (there_kept U V x c.name)
    λ e. kept_choose (is_among c.name taken) _ _ _ _ u again (kept_taken U V x (c.name ∷ taken) cs m k u h)

kept_declared : {A : Type 0} (U V : View) → Tells V U → (d : IndDecl) (m k : Run A) (u : ℕ) → (there_of U d.name ≡ not_there → Kept (m u) (k u))
    → Kept (unless_declared U d m u) (unless_declared V d k u)
kept_declared U V x d m k u h =
    let recursor : there_of U d.name ≡ not_there
    → Kept (unless_there (recursor_name d) (there_of U (recursor_name d)) m u) (unless_there (recursor_name d) (there_of V (recursor_name d)) k u)
    = λ e. kept_unless (recursor_name d) (there_of U (recursor_name d)) (there_of V (recursor_name d)) m k u (there_kept U V x (recursor_name d)) (λ f. h e) in
    kept_unless d.name (there_of U d.name) (there_of V d.name) _ _ u (there_kept U V x d.name)
    (λ e. kept_taken U V x (d.name ∷ recursor_name d ∷ []) d.ctors _ _ u (recursor e))

inductive_kept : (U V : View) → Tells V U → (depth : ℕ) (d : IndDecl) (u : ℕ) → Kept (add_inductive U depth d u) (add_inductive V depth d u)
inductive_kept U V x depth d u =
    kept_choose (is_closed d.ty && are_closed d.ctors) (unless_declared U d (admit U depth d)) (refuse NotClosed) (unless_declared V d (admit V depth d))
    (refuse NotClosed) u
    (kept_declared U V x d (admit U depth d) (admit V depth d) u (λ e. kept_admit U V x depth d e u)) refl

pub extension_law : ExtensionLaw
extension_law U V x depth = record {
  calls = calls_kept U V x depth;
  add_header = header_kept U V x depth;
  add_decl = decl_kept U V x depth;
  add_inductive =
      inductive_kept U V x depth;
}
