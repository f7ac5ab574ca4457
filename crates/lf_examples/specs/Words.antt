-- Names, binders and terms as they are written down here. A text is its bytes.
use Rattle.std.specs.Prelude.{ℕ, List, [], ◌∷◌, codes}
use Rattle.std.specs.Str.{encode_utf8_all}
use Prim.Native.String.{String}
use Rattle.lf_core.specs.Term.{Path, Universe, level_zero, level_succ, level_param, Term, sort, const, app, pi}
use Rattle.lf_name.specs.declared.binder.Binder.{Binder}
use Rattle.lf_core.specs.declared.constant.CtorInfo.{CtorInfo}
use Rattle.lf_core.specs.declared.constant.IndDecl.{IndDecl}
use Rattle.lf_name.specs.declared.binder.BinderKind.TheVariants.{Explicit, Implicit}

abbrev pub text : String → List ℕ
text t = encode_utf8_all (codes t)

-- A name of one part, and one of two.
abbrev pub word : String → Path
word a = text a ∷ []

abbrev pub dotted : String → String → Path
dotted a b = text a ∷ text b ∷ []

-- (x : A) and {x : A}
abbrev pub explicit : String → Binder
explicit x = record { name = word x; kind = Explicit }

abbrev pub implicit : String → Binder
implicit x = record { name = word x; kind = Implicit }

-- A → B, whose binder is `a`; B stands under it.
infixr 25 ◌⟶◌
abbrev pub ◌⟶◌ : Term → Term → Term
A ⟶ B = pi (explicit "a") A B

-- f a b and f a b c
abbrev pub two : Term → Term → Term → Term
two f a b = app (app f a) b

abbrev pub three : Term → Term → Term → Term → Term
three f a b c = app (two f a b) c

-- The first level parameter, and the level 1.
abbrev pub u : Universe
u = level_param 0

abbrev pub one : Universe
one = level_succ level_zero

abbrev pub prop : Term
prop = sort level_zero

abbrev pub type : Term
type = sort one

abbrev pub at : String → Term
at a = const (word a) []

-- A declaration without level parameters, and one constructor.
abbrev pub inductive_type : String → ℕ → Term → List CtorInfo → IndDecl
inductive_type name params A cs = record { name = word name; levels = []; params = params; ty = A; ctors = cs }

abbrev pub constructor : String → String → Term → CtorInfo
constructor name last A = record { name = dotted name last; ty = A }

-- The same with one level parameter, `u`.
abbrev pub inductive_type_u : String → ℕ → Term → List CtorInfo → IndDecl
inductive_type_u name params A cs = record { name = word name; levels = word "u" ∷ []; params = params; ty = A; ctors = cs }

abbrev pub at_u : String → Term
at_u a = const (word a) (u ∷ [])
