-- A larger base: a type, propositions and a predicate by other names, addition, and a namespace with an addition of its own.
use Rattle.std.specs.Prelude.{Bool, false, Option, Some, None, List, [], ◌∷◌, ◌++◌}
use Rattle.lf_core.specs.Term.{Path, Term, bound, const, app, lam, pi}
use Rattle.lf_core.specs.declared.constant.ConstInfo.{ConstInfo}
use Rattle.lf_core.specs.declared.constant.ConstKind.TheVariants.{Def}
use Rattle.lf_core.specs.declared.constant.Detail.TheVariants.{Plain}
use Rattle.lf_syntax.specs.declared.command.Command.TheVariants.{Namespace}
use Rattle.lf_syntax.specs.Tree.{TermTree, ItemTree}
use Rattle.lf_checker.specs.View.{View, base_view}
use Rattle.lf_checker.specs.Checker as checking
use Rattle.lf_checker.specs.Run as checker
use Rattle.lf_elaboration.specs.Run.{Answer, ◌>>=◌, ◌>>◌}
use Rattle.lf_elaboration.specs.Scope.{start, scope_after}
use Rattle.lf_elaboration.specs.Part.{Part, Locals, State, Run, instantiated}
use Rattle.lf_elaboration.specs.Elaboration.{elaborate, prove, close}
use Rattle.lf_examples.specs.Words.{text, word, dotted, explicit, implicit, two, prop, type, at, ◌⟶◌}
use Rattle.lf_examples.specs.Declarations.{nat}
use Rattle.lf_elaboration_answers.specs.Base.{base, constant, axiom_u, P, fresh, nat_equation}
use Rattle.lf_elaboration_answers.specs.Written.{ident}
use Rattle.lf_elaboration_answers.specs.Worked.{value_of, checked}

abbrev definition : Path → Term → Term → ConstInfo
definition n A v = record { name = n; kind = Def; levels = []; ty = A; value = Some v; height = 1; detail = Plain }

abbrev pub add : Term → Term → Term
add m n = two (const (dotted "Nat" "add") []) m n

-- def T : Type := Nat; def D : Prop := ∀ {x : Nat}, x = x; def No (p : Prop) : Prop := p → C; an axiom c.{u} : Nat;
-- and def G : Prop := ∀ (x : Nat), g x = x
abbrev pub W : View
W = base_view (base ++ definition (word "T") type nat ∷ constant (dotted "Nat" "add") (nat ⟶ (nat ⟶ nat))
    ∷ definition (word "D") prop (pi (implicit "x") nat (nat_equation (bound 0) (bound 0))) ∷ constant (word "C") prop
    ∷ definition (word "No") (prop ⟶ prop) (lam (explicit "p") prop (bound 0 ⟶ at "C")) ∷ axiom_u (word "c") nat
    ∷ definition (word "G") prop (pi (explicit "x") nat (nat_equation (app (at "g") (bound 0)) (bound 0)))
    ∷ constant (text "N" ∷ text "Nat" ∷ text "add" ∷ []) (nat ⟶ (nat ⟶ nat)) ∷ [])

abbrev pub Q : Part
Q = record P { view = W }

-- In the namespace N.
abbrev pub in_n : Part
in_n = record Q { scope = scope_after start (Namespace 0 (ident 0 "N")) }

-- A term against a type, closed at its end; and its type.
abbrev pub whole : Part → Locals → TermTree → Option Term → Run Term
whole p L s E = do
  r ← elaborate p 512 L s E
  close p 512 L 0 (Some 0)
  instantiated r.term

abbrev pub elaborated_in : Part → Locals → TermTree → Option Term → Answer State Term
elaborated_in p L s E = whole p L s E 10000 fresh

abbrev pub whole_type : Locals → TermTree → Option Term → Run Term
whole_type L s E = do
  r ← elaborate Q 512 L s E
  close Q 512 L 0 (Some 0)
  instantiated r.ty

abbrev pub type_of : Locals → TermTree → Option Term → Option Term
type_of L s E = value_of (whole_type L s E 10000 fresh)

abbrev pub proved_in : Locals → Term → List ItemTree → Answer State Term
proved_in L goal is = prove Q 512 L goal is 10000 fresh

abbrev has_type : Locals → Term → Term → checker.Run Bool
has_type L A t = checker.◌>>=◌ (checking.infer W 512 L.types t) (λ B. checking.equal W 512 L.types B A)

abbrev proves : Locals → Term → Option Term → Bool
proves L A None = false
proves L A (Some t) = checked (has_type L A t 100000)

-- A proof that the checker takes.
abbrev pub is_proof_in : Locals → Term → List ItemTree → Bool
is_proof_in L goal is = proves L goal (value_of (proved_in L goal is))
