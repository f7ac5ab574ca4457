-- Two lists of constants from which falsity follows.
use Rattle.std.proofs.Common.{◌≡◌, [], ◌∷◌, refl, ap, arith, inl, Some, None, length, slice_index_or, codes}
use Rattle.lf_core.specs.Term.{Path, Universe, level_zero, level_succ, level_imax, Term, bound, free, sort, const, app, lam, pi, lit}
use Rattle.lf_core.specs.Scope.{Scoped}
use Rattle.lf_rules.specs.Environment.{Environment, nat, nat_type, nat_succ, Declared}
use Rattle.lf_core.specs.declared.literal.LitOut.TheVariants.{Nat}
use Rattle.lf_rules.specs.Step.{beta, delta, literal_succ, operation}
use Rattle.lf_rules.specs.Judgment.{
  Equal,
  symmetric,
  transitive,
  reflexive,
  applications,
  sorts,
  step,
  HasType,
  variable,
  sort_type,
  constant,
  application,
  lambda,
  pi_type,
  literal,
  conversion,
  has_type,
}
use Rattle.lf_rules.specs.Derived.{Derived, empty, with_axiom, with_value}
use Rattle.lf_core.specs.declared.constant.ConstInfo.{ConstInfo}
use Rattle.lf_core.specs.declared.constant.ConstKind.TheVariants.{Axiom, Def}
use Rattle.lf_core.specs.declared.constant.Detail.TheVariants.{Plain}
use Rattle.lf_judgment_laws.specs.Names.{falsity, TwiceNamed, OddNumbers}
use Rattle.lf_judgment_laws.proofs.Collapses.{named}
use Rattle.lf_judgment_laws.proofs.Freshness.{fresh_from}

abbrev prop : Term
prop = sort level_zero

abbrev false_prop : Term
false_prop = falsity named

abbrev truth : Term
truth = pi named prop (pi named (bound 0) (bound 1))

abbrev trivial : Term
trivial = lam named prop (lam named (bound 0) (bound 0))

abbrev one : Universe
one = level_succ level_zero

-- In the empty context, in that of one number and in that of two.
truth_0 : (E : Environment) → HasType E [] truth prop
truth_0 E =
    let p : HasType E (prop ∷ []) (free 0) prop = variable 0 refl in
    let q : HasType E (prop ∷ free 0 ∷ []) (free 0) prop = variable 0 refl in
    conversion (pi_type one (level_imax level_zero level_zero) (sort_type level_zero) (omega arith, omega arith)
    (pi_type level_zero level_zero p (omega arith) q)) (sorts (λ s. refl))

truth_1 : (E : Environment) → HasType E (nat_type ∷ []) truth prop
truth_1 E =
    let p : HasType E (nat_type ∷ prop ∷ []) (free 1) prop = variable 1 refl in
    let q : HasType E (nat_type ∷ prop ∷ free 1 ∷ []) (free 1) prop = variable 1 refl in
    conversion (pi_type one (level_imax level_zero level_zero) (sort_type level_zero) (omega arith, omega arith)
    (pi_type level_zero level_zero p (omega arith) q)) (sorts (λ s. refl))

truth_2 : (E : Environment) → HasType E (nat_type ∷ nat_type ∷ []) truth prop
truth_2 E =
    let p : HasType E (nat_type ∷ nat_type ∷ prop ∷ []) (free 2) prop = variable 2 refl in
    let q : HasType E (nat_type ∷ nat_type ∷ prop ∷ free 2 ∷ []) (free 2) prop = variable 2 refl in
    conversion (pi_type one (level_imax level_zero level_zero) (sort_type level_zero) (omega arith, omega arith)
    (pi_type level_zero level_zero p (omega arith) q)) (sorts (λ s. refl))

falsity_0 : (E : Environment) → HasType E [] false_prop prop
falsity_0 E =
    let p : HasType E (prop ∷ []) (free 0) prop = variable 0 refl in
    conversion (pi_type one level_zero (sort_type level_zero) (omega arith) p) (sorts (λ s. refl))

falsity_1 : (E : Environment) → HasType E (nat_type ∷ []) false_prop prop
falsity_1 E =
    let p : HasType E (nat_type ∷ prop ∷ []) (free 1) prop = variable 1 refl in
    conversion (pi_type one level_zero (sort_type level_zero) (omega arith) p) (sorts (λ s. refl))

trivial_typed : (E : Environment) → HasType E [] trivial truth
trivial_typed E =
    let p : HasType E (prop ∷ []) (free 0) prop = variable 0 refl in
    let x : HasType E (prop ∷ free 0 ∷ []) (free 1) (free 0) = variable 1 refl in
    lambda one (sort_type level_zero) (omega arith, omega arith) (omega arith, omega arith) (lambda level_zero p (omega arith) (omega arith) x)

abbrev defined : Path → Term → Term → ConstInfo
defined n A v = record { name = n; kind = Def; levels = []; ty = A; value = Some v; height = 1; detail = Plain }

-- Truth and falsity under one name.

abbrev claim : Path
claim = codes "claim" ∷ []

pub twice_named : TwiceNamed
twice_named =
    let a : ConstInfo = defined claim prop truth in
    let b : ConstInfo = defined claim prop false_prop in
    let E : Environment = a ∷ b ∷ [] in
    let c : HasType E [] (const claim []) prop = constant a [] (0, omega arith, refl) refl in
    let p : Equal E [] (const claim []) truth = step (delta a truth [] (0, omega arith, refl) refl refl refl) tt (has_type c) in
    let q : Equal E [] (const claim []) false_prop = step (delta b false_prop [] (1, omega arith, refl) refl refl refl) tt (has_type c) in
    record {
      first = a;
      second = b;
      same_name = refl;
      first_right = record {
        level = one;
        type = record { typed = sort_type level_zero; named = tt; levels = tt };
        value = truth;
        has = refl;
        typed = record
            { typed = truth_0 []; named = (tt, (tt, tt)); levels = (tt, (tt, tt)) };
      };
      second_right = record {
        level = one;
        type = record { typed = sort_type level_zero; named = tt; levels = tt };
        value = false_prop;
        has = refl;
        typed =
            record { typed = falsity_0 (a ∷ []); named = (tt, tt); levels = (tt, tt) };
      };
      binder = named;
      proof = trivial;
      proves = conversion (trivial_typed E) (transitive (symmetric p) q);
    }

-- A successor and a sum that are propositions.

abbrev succ_name : Path
succ_name = codes "Nat" ∷ codes "succ" ∷ []

abbrev add_name : Path
add_name = codes "Nat" ∷ codes "add" ∷ []

abbrev numbers : ConstInfo
numbers = record { name = nat; kind = Axiom; levels = []; ty = sort one; value = None; height = 0; detail = Plain }

abbrev to_prop : Term
to_prop = pi named nat_type prop

abbrev all_false : Term
all_false = lam named nat_type false_prop

abbrev all_true : Term
all_true = lam named nat_type (lam named nat_type truth)

abbrev successor : ConstInfo
successor = defined succ_name to_prop all_false

abbrev addition : ConstInfo
addition = defined add_name (pi named nat_type to_prop) all_true

abbrev odd : Environment
odd = numbers ∷ successor ∷ addition ∷ []

path_length : {p q : Path} → p ≡ q → length p ≡ length q
path_length e = ap (λ r. length r) e

last_length : {p q : Path} → p ≡ q → length (slice_index_or p 1 []) ≡ length (slice_index_or q 1 [])
last_length e = ap (λ r. length (slice_index_or r 1 [])) e

derived_numbers : Derived (numbers ∷ [])
derived_numbers = with_axiom numbers empty
    (record { fresh = fresh_from [] nat tt; plain = refl; level = level_succ one; type = record { typed = sort_type one; named = tt; levels = tt } }) refl refl

derived_successor : Derived (numbers ∷ successor ∷ [])
derived_successor =
    let E : Environment = numbers ∷ [] in
    let N : HasType E [] nat_type (sort one) = constant numbers [] (0, omega arith, refl) refl in
    let d : Declared E nat = (numbers, (0, omega arith, refl), refl) in
    with_value successor all_false derived_numbers
    (record {
      fresh = fresh_from E succ_name ((λ e. omega (arith, path_length e)), tt);
      plain = refl;
      level = level_imax one one;
      type = record
          { typed = pi_type one one N tt (sort_type level_zero); named = (d, tt); levels = (tt, tt) };
    })
    (inl refl) refl
    (record { typed = lambda one N (tt, omega arith) tt (falsity_1 E); named = (d, (tt, tt)); levels = (tt, (tt, tt)) })

derived_odd : Derived odd
derived_odd =
    let E : Environment = numbers ∷ successor ∷ [] in
    let N : HasType E [] nat_type (sort one) = constant numbers [] (0, omega arith, refl) refl in
    let N' : HasType E (nat_type ∷ []) nat_type (sort one) = constant numbers [] (0, omega arith, refl) refl in
    let d : Declared E nat = (numbers, (0, omega arith, refl), refl) in
    with_value addition all_true derived_successor
    (record {
      fresh = fresh_from E add_name ((λ e. omega (arith, path_length e)), ((λ e. omega (arith, last_length e)), tt));
      plain = refl;
      level = level_imax one (level_imax one one);
      type = record {
        typed = pi_type one (level_imax one one) N (tt, tt) (pi_type one one N' tt (sort_type level_zero));
        named = (d, (d, tt));
        levels =
            (tt, (tt, tt));
      };
    })
    (inl refl) refl
    (record {
      typed = lambda one N (tt, (tt, (omega arith, omega arith))) (tt, tt) (lambda one N' (tt, (omega arith, omega arith)) tt (truth_2 E));
      named =
          (d, (d, (tt, (tt, tt))));
      levels = (tt, (tt, (tt, (tt, tt))));
    })

odd_equal : Equal odd [] truth false_prop
odd_equal =
    let E : Environment = odd in
    let N : HasType E [] nat_type (sort one) = constant numbers [] (0, omega arith, refl) refl in
    let N' : HasType E (nat_type ∷ []) nat_type (sort one) = constant numbers [] (0, omega arith, refl) refl in
    let plus : HasType E [] (const add_name []) (pi named nat_type to_prop) = constant addition [] (2, omega arith, refl) refl in
    let plus' : HasType E [] all_true (pi named nat_type to_prop) =
    lambda one N (tt, (tt, (omega arith, omega arith))) (tt, tt) (lambda one N' (tt, (omega arith, omega arith)) tt (truth_2 E)) in
    let next : HasType E [] nat_succ to_prop = constant successor [] (1, omega arith, refl) refl in
    let next' : HasType E [] all_false to_prop = lambda one N (tt, omega arith) tt (falsity_1 E) in
    let sum : HasType E [] (app (app (const add_name []) (lit 0)) (lit 1)) prop = application (application plus (literal 0)) (literal 1) in
    let inner : HasType E [] (app all_true (lit 0)) to_prop = application plus' (literal 0) in
    -- by its definition the sum is true
    let p1 : Equal E [] (const add_name []) all_true = step (delta addition all_true [] (2, omega arith, refl) refl refl refl) tt (has_type plus) in
    let s1 : Scoped 0 0 (app all_true (lit 0)) = ((tt, (tt, (tt, (omega arith, omega arith)))), tt) in
    let p2 : Equal E [] (app all_true (lit 0)) (lam named nat_type truth) = step (beta named nat_type (lam named nat_type truth) (lit 0)) s1 (has_type inner) in
    let q2 : HasType E [] (lam named nat_type truth) to_prop = lambda one N (tt, (omega arith, omega arith)) tt (truth_1 E) in
    let s2 : Scoped 0 0 (app (lam named nat_type truth) (lit 1)) = ((tt, (tt, (omega arith, omega arith))), tt) in
    let p3 : Equal E [] (app (lam named nat_type truth) (lit 1)) truth = step (beta named nat_type truth (lit 1)) s2 (has_type (application q2 (literal 1))) in
    let p : Equal E [] (app (app (const add_name []) (lit 0)) (lit 1)) truth = transitive
    (applications (transitive (applications p1 (reflexive (lit 0))) p2) (reflexive (lit 1))) p3 in
    -- by the step of literals it is 1, the successor of 0, which is falsity
    let r1 : Equal E [] (app (app (const add_name []) (lit 0)) (lit 1)) (lit 1) = step (operation add_name 0 1 (Nat 1) refl) ((tt, tt), tt) (has_type sum) in
    let r2 : Equal E [] (lit 1) (app nat_succ (lit 0)) = step (literal_succ 0 (omega arith)) tt (has_type (literal 1)) in
    let r3 : Equal E [] nat_succ all_false = step (delta successor all_false [] (1, omega arith, refl) refl refl refl) tt (has_type next) in
    let s3 : Scoped 0 0 (app all_false (lit 0)) = ((tt, (tt, omega arith)), tt) in
    let r4 : Equal E [] (app all_false (lit 0)) false_prop = step (beta named nat_type false_prop (lit 0)) s3 (has_type (application next' (literal 0))) in
    let r : Equal E [] (app (app (const add_name []) (lit 0)) (lit 1)) false_prop = transitive r1
    (transitive r2 (transitive (applications r3 (reflexive (lit 0))) r4)) in
    transitive (symmetric p) r

pub odd_numbers : OddNumbers
odd_numbers = record { environment = odd; derived = derived_odd; binder = named; proof = trivial; proves = conversion (trivial_typed odd) odd_equal }
