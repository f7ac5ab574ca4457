-- What would come of conditions that are left out: over the constants of two declarations as if they were admitted into every sort, the
-- checker accepts a proof of 0 = 1.
use Rattle.std.specs.Prelude.{◌≡◌, Some, [], ◌∷◌}
use Rattle.lf_core.specs.Term.{Universe, level_zero, Term, bound, const, app, lam, pi, lit}
use Rattle.lf_checker.specs.Checker.{whnf, infer}
use Rattle.lf_examples.specs.Words.{word, dotted, explicit, two, three, one, prop, at}
use Rattle.lf_examples.specs.Declarations.{nat, nat_zero}
use Rattle.lf_examples.specs.Elimination.{hidden}
use Rattle.lf_examples.specs.Refused.{other_levels}
use Rattle.lf_examples.specs.Views.{with_equality_and}
use Rattle.lf_inductive_answers.specs.Admissions.{given}

abbrev pub equal_at : Universe → Term → Term → Term → Term
equal_at l A a b = three (const (word "Eq") (l ∷ [])) A a b

abbrev pub refl_at : Universe → Term → Term → Term
refl_at l A a = two (const (dotted "Eq" "refl") (l ∷ [])) A a

abbrev pub t_at : Universe → Term
t_at l = const (word "T") (l ∷ [])

-- ---- A type at other levels than its own, in a field.

-- T.rec.{1, 0} (fun t => Prop) (fun A => A) (fun x ih => ih) (T.up.{0} (T.base.{1} Nat)), a proposition that is Nat
abbrev pub nat_as_proposition : Term
nat_as_proposition =
    let M : Term = lam (explicit "t") (t_at level_zero) prop in
    let base : Term = lam (explicit "A") prop (bound 0) in
    let up : Term = lam (explicit "x") (t_at one) (lam (explicit "ih") prop (bound 0)) in
    two (two (const (dotted "T" "rec") (one ∷ level_zero ∷ [])) M base) up
    (app (const (dotted "T" "up") (level_zero ∷ [])) (app (const (dotted "T" "base") (one ∷ [])) nat))

-- ∀ (p : Prop) (a b : p), a = b, with its proof
abbrev pub irrelevance : Term
irrelevance = pi (explicit "p") prop (pi (explicit "a") (bound 0) (pi (explicit "b") (bound 1) (equal_at level_zero (bound 2) (bound 1) (bound 0))))

abbrev pub irrelevance_proof : Term
irrelevance_proof = lam (explicit "p") prop (lam (explicit "a") (bound 0) (lam (explicit "b") (bound 1) (refl_at level_zero (bound 2) (bound 1))))

-- at that proposition and the numbers 0 and 1
abbrev pub collapsed : Term
collapsed = app (lam (explicit "h") irrelevance (three (bound 0) nat_as_proposition (lit 0) (lit 1))) irrelevance_proof

-- ---- A field that is hidden in an index.

-- P.rec.{1} (fun i t => Nat) (fun n => n) Nat.zero t: the number that a proof of P Nat.zero holds
abbrev pub number_of : Term → Term
number_of t =
    let M : Term = lam (explicit "i") nat (lam (explicit "t") (app (at "P") (bound 0)) nat) in
    two (two (const (dotted "P" "rec") (one ∷ [])) M (lam (explicit "n") nat (bound 0))) nat_zero t

-- ∀ (a b : P Nat.zero), number a = number b, with its proof
abbrev pub same_number : Term
same_number = pi (explicit "a") (app (at "P") nat_zero)
    (pi (explicit "b") (app (at "P") nat_zero) (equal_at one nat (number_of (bound 1)) (number_of (bound 0))))

abbrev pub same_number_proof : Term
same_number_proof = lam (explicit "a") (app (at "P") nat_zero) (lam (explicit "b") (app (at "P") nat_zero) (refl_at one nat (number_of (bound 1))))

-- at the proofs that hold 0 and 1, where a proof of 0 = 1 is asked for
abbrev pub uncovered : Term
uncovered =
    let held : Term = app (lam (explicit "h") same_number (two (bound 0) (app (const (dotted "P" "mk") []) (lit 0)) (app (const (dotted "P" "mk") []) (lit 1))))
    same_number_proof in
    app (lam (explicit "z") (equal_at one nat (lit 0) (lit 1)) (lit 7)) held

pub record LeftOut : Type 0 where
  -- fields at other levels than the type's own
  pub number_in_prop : given (whnf (with_equality_and other_levels) 512 [] nat_as_proposition 1000000) ≡ Some nat
  pub at_other_levels : given (infer (with_equality_and other_levels) 512 [] collapsed 1000000) ≡ Some (equal_at level_zero nat_as_proposition (lit 0) (lit 1))
  -- a field that occurs in an index, and is none
  pub hidden_in_index : given (infer (with_equality_and hidden) 512 [] uncovered 1000000) ≡ Some nat
