-- Projections of propositions make all numbers equal.
use Rattle.std.proofs.Common.{◌≡◌, ℕ, zero, suc, false, ◌<◌, Some, [], ◌∷◌, refl, sym, subst, ◌∙◌, arith}
use Rattle.lf_core.specs.Term.{Universe, level_zero, level_succ, Term, sort, const, app, lit, proj}
use Rattle.lf_rules.specs.Environment.{Environment, nat}
use Rattle.lf_core.specs.Level.{value_of}
use Rattle.lf_rules.specs.Structure.{here}
use Rattle.lf_judgment_laws.specs.Propositions.{
  AtAnyLevel,
  FreelyEqual,
  symmetric,
  transitive,
  projected,
  field,
  proof_irrelevance,
  FreelyTyped,
  constant,
  application,
  literal,
  projection,
  some,
  some_type,
  some_number,
  PropositionsCollapse,
  StructuresAreNoPropositions,
}

abbrev known : Environment
known = some_type ∷ some_number ∷ []

other_name : nat ≡ some → ⊥
other_name e = cc

abbrev structure : AtAnyLevel known some
structure = record {
  type = some_type;
  constructor = some_number;
  params = 0;
  fields = 1;
  large = false;
  level = level_zero;
  within = (zero, omega arith, refl);
  named = refl;
  detail = refl;
  result = refl;
  constructor_within = (suc zero, omega arith, refl);
  constructs = refl;
  flat = (other_name, tt);
}

abbrev made : ℕ → Term
made n = app (const some_number.name []) (lit n)

typed : (n : ℕ) → FreelyTyped known [] (made n) (const some [])
typed n = application (constant some_number [] (suc zero, omega arith, refl) refl) (literal n)

number : (n : ℕ) → FreelyEqual known [] (proj some 0 (made n)) (lit n)
number n = field structure 0 (lit n) [] (lit n ∷ []) refl refl (tt, tt) (projection structure 0 [] [] (typed n) refl refl (omega arith) here)

pub propositions_collapse : PropositionsCollapse
propositions_collapse m n =
    let p : FreelyTyped known [] (const some []) (sort level_zero) = constant some_type [] (zero, omega arith, refl) refl in
    let e : FreelyEqual known [] (made m) (made n) = proof_irrelevance (typed m) (typed n) p in
    transitive (symmetric (number m)) (transitive (projected some 0 e) (number n))

pub structures_are_no_propositions : StructuresAreNoPropositions
structures_are_no_propositions E S s l e a = at (level_is (sym s.result ∙ e))
  where
    level_is : {x y : Universe} → Some x ≡ Some y → x ≡ y
    level_is q = cc

    at : level_succ s.level ≡ l → 0 < value_of a l
    at q = subst (λ m. 0 < value_of a m) q (omega arith)
