-- Parts of the test that are functions of their own in the code. A device of the proof.
use Rattle.std.specs.Prelude.{ℕ, suc, ◌-◌, Bool, false, ◌||◌, nat_lt, Option, Some, None, List, [], ◌∷◌, ◌++◌}
use Rattle.lf_core.specs.Term.{Path, Universe, Term}
use Rattle.lf_core.specs.Size.{depth}
use Rattle.lf_core.specs.declared.constant.Ans.{Ans}
use Rattle.lf_core.specs.declared.constant.Ans.TheVariants.{Done, Refused, Out, Need, Stopped, NoMemory}
use Rattle.lf_core.specs.declared.constant.ConstInfo.{ConstInfo}
use Rattle.lf_core.specs.declared.constant.ConstKind.TheVariants.{Inductive}
use Rattle.lf_core.specs.declared.constant.CtorInfo.{CtorInfo}
use Rattle.lf_core.specs.declared.constant.Detail.{Detail}
use Rattle.lf_core.specs.declared.constant.Detail.TheVariants.{Plain, Ind, Ctor, Rec}
use Rattle.lf_core.specs.declared.constant.IndDecl.{IndDecl}
use Rattle.lf_rules.specs.Environment.{Context, with}
use Rattle.lf_rules.specs.Telescope.{Telescope, pi_count}
use Rattle.lf_rules.specs.Inductive.{own_family}
use Rattle.lf_rules.specs.Recursor.{Family}
use Rattle.lf_checker.specs.Run.{Run, ◌>>=◌, gives, refuse, choose, under, opening}
use Rattle.lf_checker.specs.declared.fault.TypeFault.{TypeFault}
use Rattle.lf_checker.specs.declared.fault.TypeFault.TheVariants.{NotPositive, BadResult, LevelTooHigh, BadType}
use Rattle.lf_checker.specs.Calls.{checked, Calls}
use Rattle.lf_checker.specs.Infer.{sort_of}
use Rattle.lf_checker.specs.Admission.{
  is_positive,
  is_low,
  Read,
  with_field,
  admit_end,
  admit_fields,
  admit_constructor,
  admit_constructors,
  eliminates_everywhere,
}
use Rattle.lf_checker.specs.Admission as admission
use Rattle.lf_induct.specs.declared.front.Front.{Front}

-- The level of a field that is positive and low enough.
abbrev pub fits : Family → Universe → Path → ℕ → Term → Universe → Run Universe
fits f r n i A l = choose (is_positive f A) (choose (is_low l r) (gives l) (refuse (LevelTooHigh n i))) (refuse (NotPositive n i))

abbrev pub field : Calls → Family → Universe → Path → ℕ → Context → Term → Run Universe
field c f r n i C A = do
  l ← sort_of c checked C A
  fits f r n i A l

-- The fields from this one of the m that are left, or the end.
abbrev pub at_front : Calls → Family → Universe → Path → ℕ → ℕ → Context → Term → Option Front → Run Read
at_front c f r n i m C t (Some p) = do
  l ← field c f r n i C p.domain.now
  o ← opening C p.body.now
  k ← under p.binder.now.name (admit_fields c f r n (suc i) (m - 1) (with C p.domain.now) o)
  gives (with_field l k)
at_front c f r n i m C t None = admit_end c f n C t

-- What stands behind this parameter, or that there is none.
abbrev pub at_parameter : Calls → Family → Universe → Path → Telescope → Context → Option Front → Run Read
at_parameter c f r n xs C (Some p) = do
  o ← opening C p.body.now
  under p.binder.now.name (admit_constructor c f r n xs (with C p.domain.now) o)
at_parameter c f r n xs C None = refuse (BadResult n)

-- These, and then what is read of the others.
abbrev pub admit_into : Calls → Family → Universe → List Read → List CtorInfo → Run (List Read)
admit_into c f r ready ks = do
  rest ← admit_constructors c f r ks
  gives (ready ++ rest)

abbrev pub type_with : IndDecl → List Path → Bool → ConstInfo
type_with d names large = record {
  name = d.name;
  kind = Inductive;
  levels = d.levels;
  ty = d.ty;
  value = None;
  height = 0;
  detail = Ind d.params (pi_count d.ty - d.params) names large;
}

abbrev pub any_deep : List Term → Bool
any_deep [] = false
any_deep (t ∷ ts) = nat_lt 1024 (depth t) || any_deep ts

abbrev pub rules_deep : Detail → Bool
rules_deep (Rec ind params minors indices rules) = any_deep rules
rules_deep Plain = false
rules_deep (Ind params indices ctors large) = false
rules_deep (Ctor ind index params fields) = false

abbrev pub is_deep : ConstInfo → Bool
is_deep c = nat_lt 1024 (depth c.ty) || rules_deep c.detail

abbrev pub on_shape : Option Universe → (Universe → Run (List ConstInfo)) → Run (List ConstInfo)
on_shape (Some r) f = f r
on_shape None f = refuse BadType

-- These two are opened by their names alone.
unfoldable pub given : IndDecl → Bool → Run (List ConstInfo)
given d large = admission.given d large

unfoldable pub admit_all : Calls → IndDecl → Universe → Run (List ConstInfo)
admit_all c d r = do
  reads ← admit_constructors c (own_family d) r d.ctors
  given d (eliminates_everywhere (own_family d) r reads)

-- An answer with its value read by g.
abbrev pub answer_map : {A B : Type 0} → (A → B) → Ans A TypeFault → Ans B TypeFault
answer_map g (Done a) = Done (g a)
answer_map g (Refused e) = Refused e
answer_map g Out = Out
answer_map g (Need k) = Need k
answer_map g Stopped = Stopped
answer_map g NoMemory = NoMemory
