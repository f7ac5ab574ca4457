-- What the comparison with Carneiro's rules says of environments: those with the numbers, since a literal has a type in each.
use Rattle.std.specs.Prelude.{◌≡◌, true, None, List, [], ◌∷◌, codes}
use Rattle.lf_core.specs.Term.{Path, level_zero, level_succ, Term, sort, const, app, pi, lit}
use Rattle.lf_rules.specs.Environment.{Environment, Declared, nat, nat_type, nat_succ}
use Rattle.lf_rules.specs.Judgment.{HasType}
use Rattle.lf_name.specs.declared.binder.Binder.{Binder}
use Rattle.lf_name.specs.declared.binder.BinderKind.TheVariants.{Explicit}
use Rattle.lf_core.specs.declared.constant.ConstInfo.{ConstInfo}
use Rattle.lf_core.specs.declared.constant.ConstKind.TheVariants.{Inductive, Constructor}
use Rattle.lf_core.specs.declared.constant.Detail.TheVariants.{Ind, Ctor}
use Rattle.lf_judgment_laws.specs.Pure.{PureEqual, PureType, Metatheory}

abbrev pub zero_name : Path
zero_name = codes "Nat" ∷ codes "zero" ∷ []

abbrev pub succ_name : Path
succ_name = codes "Nat" ∷ codes "succ" ∷ []

abbrev pub n : Binder
n = record { name = codes "n" ∷ []; kind = Explicit }

-- The numbers' type and its constructors.
abbrev pub numbers : Environment
numbers = record {
  name = nat;
  kind = Inductive;
  levels = [];
  ty = sort (level_succ level_zero);
  value = None;
  height = 0;
  detail = Ind 0 0
      (zero_name ∷ succ_name ∷ []) true;
}
    ∷ record { name = zero_name; kind = Constructor; levels = []; ty = nat_type; value = None; height = 0; detail = Ctor nat 0 0 0 }
    ∷ record { name = succ_name; kind = Constructor; levels = []; ty = pi n nat_type nat_type; value = None; height = 0; detail = Ctor nat 1 0 1 } ∷ []

pub record PureNumbers : Type 0 where
  -- an environment with the properties that are known of the pure relations declares `Nat`
  pub declared : (E : Environment) → Metatheory E → Declared E nat
  -- and there the pure relations speak of literals: over these numbers the literal 3 is the successor of 2, both typed
  pub three : PureType numbers [] (app nat_succ (lit 2)) nat_type
  pub unfolds : PureEqual numbers [] (lit 3) (app nat_succ (lit 2))
  -- so here too
  pub typed : HasType numbers [] (app nat_succ (lit 2)) nat_type
