-- A small base: numbers, truth values, equality, conjunction, and what terms are made of by items; and the parts that are elaborated over it.
use Rattle.std.specs.Prelude.{true, Some, None, List, [], ◌∷◌, ◌++◌}
use Rattle.lf_core.specs.Term.{Path, Term, bound, sort, const, app, pi, lit}
use Rattle.lf_core.specs.declared.constant.ConstInfo.{ConstInfo}
use Rattle.lf_core.specs.declared.constant.ConstKind.TheVariants.{Axiom, Def}
use Rattle.lf_core.specs.declared.constant.Detail.TheVariants.{Plain}
use Rattle.lf_rules.specs.Inductive.{declared_constants}
use Rattle.lf_checker.specs.View.{View, base_view, base_position}
use Rattle.lf_checker.specs.Run as checker
use Rattle.lf_examples.specs.Words.{word, dotted, explicit, implicit, three, u, one, type, at, at_u, ◌⟶◌}
use Rattle.lf_examples.specs.Declarations.{
  nat,
  nat_succ,
  nat_declaration,
  eq_declaration,
  and_declaration,
  true_declaration,
}
use Rattle.lf_elaboration.specs.Scope.{start}
use Rattle.lf_elaboration.specs.Part.{Part, Locals, State}

-- An axiom with the one level parameter `u`.
abbrev pub axiom_u : Path → Term → ConstInfo
axiom_u n A = record { name = n; kind = Axiom; levels = word "u" ∷ []; ty = A; value = None; height = 0; detail = Plain }

abbrev pub constant : Path → Term → ConstInfo
constant n A = record { name = n; kind = Axiom; levels = []; ty = A; value = None; height = 0; detail = Plain }

abbrev pub equation : Term → Term → Term → Term
equation A l r = three (at_u "Eq") A l r

abbrev pub nat_equation : Term → Term → Term
nat_equation l r = three (const (word "Eq") (one ∷ [])) nat l r

-- rfl {α : Sort u} {a : α} : a = a
abbrev pub rfl_info : ConstInfo
rfl_info = axiom_u (word "rfl") (pi (implicit "α") (sort u) (pi (implicit "a") (bound 0) (equation (bound 1) (bound 0) (bound 0))))

-- Eq.symm {α : Sort u} {a b : α} (h : a = b) : b = a
abbrev pub symm_info : ConstInfo
symm_info = axiom_u (dotted "Eq" "symm") (pi (implicit "α") (sort u) (pi (implicit "a") (bound 0) (pi (implicit "b") (bound 1)
    (pi (explicit "h") (equation (bound 2) (bound 1) (bound 0)) (equation (bound 3) (bound 1) (bound 2))))))

-- sorryAx (α : Sort u) : α
abbrev pub sorry_info : ConstInfo
sorry_info = axiom_u (word "sorryAx") (pi (explicit "α") (sort u) (bound 0))

-- def f : Nat := 1, with its equation, which was made
abbrev pub f_info : ConstInfo
f_info = record {
  name = word "f";
  kind = Def;
  levels = [];
  ty = nat;
  value = Some (lit 1);
  height = 1;
  detail = Plain;
}

abbrev pub f_equation : ConstInfo
f_equation = constant (dotted "f" "eq_1") (nat_equation (at "f") (lit 1))

-- Nat.succ.inj {n n' : Nat} : Nat.succ n = Nat.succ n' → n = n'
abbrev pub inj_name : Path
inj_name = dotted "Nat" "succ" ++ word "inj"

abbrev pub inj_info : ConstInfo
inj_info = constant inj_name (pi (implicit "n") nat (pi (implicit "n'") nat
    (pi (explicit "h") (nat_equation (app nat_succ (bound 1)) (app nat_succ (bound 0))) (nat_equation (bound 2) (bound 1)))))

abbrev pub base : List ConstInfo
base = declared_constants nat_declaration true ++ (declared_constants eq_declaration true ++ (declared_constants and_declaration true
    ++ (declared_constants true_declaration true
    ++ constant (word "Bool") type ∷ sorry_info ∷ rfl_info ∷ symm_info ∷ f_info ∷ constant (word "g") (nat ⟶ nat)
    ∷ constant (word "r") (pi (explicit "x") nat (pi (explicit "h") (pi (explicit "y") nat (nat_equation (bound 1) (app nat_succ (bound 0)))) (at "True")))
    ∷ [])))

abbrev pub V : View
V = record (base_view base) {
  realized = record { info = f_equation; position = base_position } ∷ record { info = inj_info; position = base_position } ∷ [];
}

abbrev pub P : Part
P = record { view = V; scope = start; levels = []; inside = None; own = None; place = 0; synthesize = λ d C t. checker.gives None }

abbrev pub no_locals : Locals
no_locals = record { types = []; names = [] }

abbrev pub fresh : State
fresh = record { changes = []; pending = []; asked = []; nodes = [] }
