-- The code's values as the definition's.
use Rattle.std.specs.Prelude.{Result, Ok, Err}
use Rattle.lf_core.specs.declared.constant.Ans.{Ans}
use Rattle.lf_core.specs.declared.constant.Ans.TheVariants.{Done, Refused, Out, Need, Stopped, NoMemory}
use Rattle.lf_checker.specs.declared.fault.TypeFault.{TypeFault}
use Rattle.lf_equations.specs.Outcome.{Outcome, gets, fault}
use Rattle.lf_equations.specs.declared.fault.EquationFault.{EquationFault}
use Rattle.lf_equations.specs.Argument as argument
use Rattle.lf_match.specs.declared.argument.Argument.{Argument}
use Rattle.lf_match.specs.declared.argument.Inductive.{Inductive}

abbrev pub inductive : Inductive → argument.Inductive
inductive i = record { name = i.name; levels = i.levels; params = i.params.items; constructors = i.constructors; large = i.large }

abbrev pub argument_of : Argument → argument.Argument
argument_of g = record {
  binders = g.binders.items;
  binding = record { binder = g.binder; domain = g.domain; body = g.codomain };
  ind = inductive g.ind;
  level = g.level;
}

-- A value or a fault.
abbrev pub outcome_of : {A B : Type 0} → (A → B) → Result A EquationFault → Outcome B
outcome_of f (Ok a) = gets (f a)
outcome_of f (Err e) = fault e

-- An answer with its value read by g.
abbrev pub answer_map : {A B : Type 0} → (A → B) → Ans A TypeFault → Ans B TypeFault
answer_map g (Done a) = Done (g a)
answer_map g (Refused e) = Refused e
answer_map g Out = Out
answer_map g (Need k) = Need k
answer_map g Stopped = Stopped
answer_map g NoMemory = NoMemory
