-- Parts of the definitions of `add_header`, `add_decl` and `add_inductive` as functions of their own. Devices of the proof.
use Rattle.std.specs.Prelude.{ℕ, Bool, ◌&&◌, List, [], ◌∷◌}
use Rattle.lf_core.specs.Term.{Path, Term}
use Rattle.lf_checker.specs.View.{View, there_of}
use Rattle.lf_checker.specs.Run.{Run, ◌>>=◌, gives, choose, refuse}
use Rattle.lf_core.specs.declared.constant.CtorInfo.{CtorInfo}
use Rattle.lf_core.specs.declared.constant.IndDecl.{IndDecl}
use Rattle.lf_rules.specs.Recursor.{is_among, recursor_name}
use Rattle.lf_checker.specs.declared.fault.TypeFault.TheVariants.{Value, NotClosed, Duplicate}
use Rattle.lf_checker.specs.Checker.{is_closed, height_of, unless_there}
use Rattle.lf_checker.specs.Admission.{are_closed, unless_taken}

abbrev pub fitting : View → Bool → Term → Term → Term → Run ℕ
fitting V fits has ty v = choose fits (height_of V v) (refuse (Value has ty))

-- What comes behind the test of a name.
abbrev pub behind_name : {A : Type 0} → View → Path → Run A → Run A
behind_name V n m = unless_there n (there_of V n) (gives (tt {0})) >>= λ _. m

-- The tests of a declaration are opened by their names alone.

-- That a constructor's name isn't there, and isn't among those that are taken.
unfoldable pub name_new : View → List Path → Path → Run (Unit {0})
name_new V taken n = behind_name V n (choose (is_among n taken) (refuse (Duplicate n V.position)) (gives (tt {0})))

-- The same of each constructor's name, beside those before it.
unfoldable pub names_untaken : View → List Path → List CtorInfo → Run (Unit {0})
names_untaken V taken cs = unless_taken V taken cs (gives (tt {0}))

-- All names: the type's, the constructors', the recursor's.
abbrev pub names_new : View → IndDecl → Run (Unit {0})
names_new V d = behind_name V d.name do
  a ← names_untaken V (d.name ∷ recursor_name d ∷ []) d.ctors
  unless_there (recursor_name d) (there_of V (recursor_name d)) (gives (tt {0}))

-- What is asked of a declaration before its types are judged.
unfoldable pub declarable : View → IndDecl → Run (Unit {0})
declarable V d = choose (is_closed d.ty && are_closed d.ctors) (names_new V d) (refuse NotClosed)
