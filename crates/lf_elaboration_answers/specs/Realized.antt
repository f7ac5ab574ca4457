-- Constants that are made on demand: their statements as they are printed; that the kernel accepts their proofs is part of being made.
use Rattle.std.specs.Prelude.{◌≡◌, ℕ, true, false, Option, Some, None, List, [], ◌∷◌, ◌++◌}
use Rattle.lf_core.specs.Term.{Path, Universe, level_zero, level_imax, level_param, Term, bound, sort, const, app, lam, pi, lit}
use Rattle.lf_core.specs.Spine.{apply}
use Rattle.lf_core.specs.declared.constant.ConstInfo.{ConstInfo}
use Rattle.lf_core.specs.declared.constant.ConstKind.TheVariants.{Axiom, Def}
use Rattle.lf_core.specs.declared.constant.Detail.TheVariants.{Plain}
use Rattle.lf_rules.specs.Inductive.{declared_constants}
use Rattle.lf_print.specs.Printed.{print_text}
use Rattle.lf_checker.specs.View.{View, base_view}
use Rattle.lf_elaboration.specs.Axioms as axioms
use Rattle.lf_elaboration.specs.Realizers.{Realized, makes, makes_none, waits, realize}
use Rattle.lf_core.specs.declared.constant.IndDecl.{IndDecl}
use Rattle.lf_examples.specs.Words.{text, word, dotted, explicit, implicit, two, three, u, one, prop, at, inductive_type, constructor, ◌⟶◌}
use Rattle.lf_examples.specs.Declarations.{nat, nat_succ, list_declaration}
use Rattle.lf_elaboration_answers.specs.Base.{base}

abbrev pub v : Universe
v = level_param 1

abbrev pub in_v : Universe → Term → Term → Term → Term
in_v l A s t = three (const (word "Eq") (l ∷ [])) A s t

abbrev pub axiom_uv : Path → Term → ConstInfo
axiom_uv n A = record { name = n; kind = Axiom; levels = word "u" ∷ word "v" ∷ []; ty = A; value = None; height = 0; detail = Plain }

abbrev pub plain : Path → Term → ConstInfo
plain n A = record { name = n; kind = Axiom; levels = []; ty = A; value = None; height = 0; detail = Plain }

-- congrArg {α : Sort u} {β : Sort v} {a b : α} (f : α → β) (h : a = b) : f a = f b
abbrev pub congr_arg : ConstInfo
congr_arg = axiom_uv (word "congrArg") (pi (implicit "α") (sort u) (pi (implicit "β") (sort v) (pi (implicit "a") (bound 1) (pi (implicit "b") (bound 2)
    (pi (explicit "f") (bound 3 ⟶ bound 3) (pi (explicit "h") (in_v u (bound 4) (bound 2) (bound 1))
    (in_v v (bound 4) (app (bound 1) (bound 3)) (app (bound 1) (bound 2)))))))))

-- congr {α : Sort u} {β : Sort v} {f g : α → β} {a b : α} (h : f = g) (k : a = b) : f a = g b
abbrev pub congr : ConstInfo
congr = axiom_uv (word "congr") (pi (implicit "α") (sort u) (pi (implicit "β") (sort v) (pi (implicit "f") (bound 1 ⟶ bound 1)
    (pi (implicit "g") (bound 2 ⟶ bound 2) (pi (implicit "a") (bound 3) (pi (implicit "b") (bound 4)
    (pi (explicit "h") (in_v (level_imax u v) (bound 5 ⟶ bound 5) (bound 3) (bound 2)) (pi (explicit "k") (in_v u (bound 6) (bound 2) (bound 1))
    (in_v v (bound 6) (app (bound 5) (bound 3)) (app (bound 4) (bound 2)))))))))))

-- Iff (a b : Prop) : Prop where | intro (mp : a → b) (mpr : b → a) : Iff a b
abbrev pub iff_declaration : IndDecl
iff_declaration = inductive_type "Iff" 2 (pi (explicit "a") prop (pi (explicit "b") prop prop))
    (constructor "Iff" "intro" (pi (implicit "a") prop (pi (implicit "b") prop
    (pi (explicit "mp") (bound 1 ⟶ bound 1) (pi (explicit "mpr") (bound 1 ⟶ bound 3) (two (at "Iff") (bound 3) (bound 2)))))) ∷ [])

-- propext {a b : Prop} : (a ↔ b) → a = b
abbrev pub propext : ConstInfo
propext = plain (word "propext") (pi (implicit "a") prop (pi (implicit "b") prop (two (at "Iff") (bound 1) (bound 0) ⟶ in_v one prop (bound 2) (bound 1))))

-- And.left {a b : Prop} (h : a ∧ b) : a, and And.right
abbrev pub and_left : ConstInfo
and_left = plain (dotted "And" "left") (pi (implicit "a") prop (pi (implicit "b") prop (pi (explicit "h") (two (at "And") (bound 1) (bound 0)) (bound 2))))

abbrev pub and_right : ConstInfo
and_right = plain (dotted "And" "right") (pi (implicit "a") prop (pi (implicit "b") prop (pi (explicit "h") (two (at "And") (bound 1) (bound 0)) (bound 1))))

abbrev pub definition : Path → Term → Term → ConstInfo
definition n A e = record { name = n; kind = Def; levels = []; ty = A; value = Some e; height = 1; detail = Plain }

-- def next (n : Nat) : Nat := Nat.succ n
abbrev pub next : ConstInfo
next = definition (word "next") (pi (explicit "n") nat nat) (lam (explicit "n") nat (app nat_succ (bound 0)))

-- def dbl : Nat → Nat | 0 => 0 | n + 1 => Nat.succ (Nat.succ (dbl n))
abbrev pub dbl : ConstInfo
dbl = definition (word "dbl") (nat ⟶ nat) (lam (explicit "a") nat (apply (const (dotted "Nat" "rec") (one ∷ []))
    (lam (explicit "a") nat nat ∷ lit 0 ∷ lam (explicit "n") nat (lam (explicit "n_ih") nat (app nat_succ (app nat_succ (bound 0)))) ∷ bound 0 ∷ [])))

-- def len : List (List Nat) → Nat | nil => 0 | cons head tail => Nat.succ (len tail), where the first field is a list too, but of numbers
abbrev pub list_of : Term → Term
list_of A = app (const (dotted "Demo" "List") (level_zero ∷ [])) A

abbrev pub lists : Term
lists = list_of (list_of nat)

abbrev pub len : ConstInfo
len = definition (word "len") (lists ⟶ nat) (lam (explicit "a") lists
    (apply (const (text "Demo" ∷ text "List" ∷ text "rec" ∷ []) (one ∷ level_zero ∷ []))
    (list_of nat ∷ lam (explicit "a") lists nat ∷ lit 0
    ∷ lam (explicit "head") (list_of nat) (lam (explicit "tail") lists (lam (explicit "tail_ih") nat (app nat_succ (bound 0)))) ∷ bound 0 ∷ [])))

-- def s : Nat := sorryAx Nat
abbrev pub unproved : ConstInfo
unproved = definition (word "s") nat (app (const (word "sorryAx") (one ∷ [])) nat)

-- def t : Nat := next s
abbrev pub by_unproved : ConstInfo
by_unproved = definition (word "t") nat (app (at "next") (at "s"))

abbrev pub V : View
V = base_view (base ++ (declared_constants iff_declaration false ++ (declared_constants list_declaration true
    ++ congr_arg ∷ congr ∷ propext ∷ and_left ∷ and_right ∷ next ∷ dbl ∷ len ∷ unproved ∷ by_unproved ∷ [])))

abbrev pub statement : Realized → Option (List ℕ)
statement (makes c) = Some (print_text [] c.levels c.ty)
statement makes_none = None
statement (waits k) = None

abbrev pub made : Path → Option (List ℕ)
made n = statement (realize V 1000000 512 n)

abbrev pub of_successor : Path
of_successor = dotted "Nat" "succ"

abbrev pub reached : Path → Option (List Path)
reached n = ended_by (axioms.reached V n)
  where
    ended_by : axioms.Walk → Option (List Path)
    ended_by (axioms.ended ns) = Some ns
    ended_by (axioms.waits k) = None
    ended_by axioms.unended = None

pub record RealizedAnswers : Type 0 where
  pub unfolding_of_constant : made (dotted "f" "eq_1") ≡ Some (text "f = 1")
  pub unfolding_of_function : made (dotted "next" "eq_1") ≡ Some (text "∀ (n : Nat), next n = Nat.succ n")
  pub unfolding_by_other_name : made (dotted "next" "eq_def") ≡ Some (text "∀ (n : Nat), next n = Nat.succ n")
  pub unfolding_of_unproved : made (dotted "s" "eq_1") ≡ None
  pub injectivity : made (of_successor ++ word "inj") ≡ Some (text "∀ {n : Nat}, ∀ {n' : Nat}, Nat.succ n = Nat.succ n' → n = n'")
  pub injectivity_of_proofs : made (dotted "And" "intro" ++ word "inj") ≡ Some
      (text "∀ {a : Prop}, ∀ {b : Prop}, ∀ {left : a}, ∀ {right : b}, ∀ {left' : a}, ∀ {right' : b}, And.intro a b left right = And.intro a b left' right' → left = left' ∧ right = right'")
  pub without_fields : made (dotted "Nat" "zero" ++ word "inj") ≡ None
  pub equivalence : made (of_successor ++ word "injEq") ≡ Some
      (text "∀ {n : Nat}, ∀ {n' : Nat}, (Nat.succ n = Nat.succ n') = (n = n')")
  pub equivalence_of_two : made (text "Demo" ∷ text "List" ∷ text "cons" ∷ text "injEq" ∷ []) ≡ Some
      (text "∀ {α : Type u}, ∀ {head : α}, ∀ {tail : Demo.List α}, ∀ {head' : α}, ∀ {tail' : Demo.List α}, (Demo.List.cons α head tail = Demo.List.cons α head' tail') = (head = head' ∧ tail = tail')")
  pub first_case : made (dotted "dbl" "eq_2") ≡ Some (text "dbl Nat.zero = 0")
  pub second_case : made (dotted "dbl" "eq_3") ≡ Some (text "∀ (n : Nat), dbl (Nat.succ n) = Nat.succ (Nat.succ (dbl n))")
  -- a field of the parameter's type isn't recursive
  pub list_of_lists : made (dotted "len" "eq_3") ≡ Some
      (text "∀ (head : Demo.List Nat), ∀ (tail : Demo.List (Demo.List Nat)), len (Demo.List.cons (Demo.List Nat) head tail) = Nat.succ (len tail)")
  pub no_third_case : made (dotted "dbl" "eq_4") ≡ None
  pub no_recursion : made (dotted "next" "eq_2") ≡ None
  pub too_few_units : statement (realize V 3 512 (dotted "f" "eq_1")) ≡ None
  -- the axioms that are reached, through a definition
  pub axioms_of_definition : reached (word "t") ≡ Some (word "sorryAx" ∷ [])
  pub no_axioms : reached (word "dbl") ≡ Some []
