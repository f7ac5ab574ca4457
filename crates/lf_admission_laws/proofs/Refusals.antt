-- What the exact tests of form tell of declarations that are kept out.
use Rattle.std.proofs.Common.{◌≡◌, true, ◌<◌, Some, List, [], ◌∷◌, refl, sym, subst, arith}
use Rattle.std.specs.Char.{encode_utf8}
use Rattle.lf_core.specs.Term.{Path, Universe, level_zero, Term, const, app, pi}
use Rattle.lf_core.specs.Level.{Assignment, value_of}
use Rattle.lf_core.specs.Same.{same}
use Rattle.lf_rules.specs.Environment.{Environment, Context}
use Rattle.lf_rules.specs.Telescope.{Local, Telescope}
use Rattle.lf_rules.specs.Recursor.{Family}
use Rattle.lf_rules.specs.Inductive.{end, field, Constructs, fields, parameter}
use Rattle.lf_name.specs.declared.binder.Binder.{Binder}
use Rattle.lf_checker.specs.Admission.{is_at_indices, is_positive}
use Rattle.lf_checker_laws.proofs.Tests.{no_false}
use Rattle.lf_admission_laws.specs.Refusals.{RulesKeepOut}
use Rattle.lf_admission_laws.proofs.Exact_forms.{term_same, end_no_pi, passes_at_indices, passes_positive}

-- The first field is positive.
first_field : {E : Environment} {f : Family} {r : Universe} {C : Context} {x : Binder} {A B : Term} {ls : List Universe} {is : List Term}
    → Constructs E f r [] C (pi x A B) ls is → is_positive f A ≡ true
first_field {f = f} (fields (end l a h)) = end_no_pi f a
first_field {f = f} {A = A} (fields (field l h p q g)) = passes_positive f A p

-- Where no field stands, the type at indices does.
end_of_constant : {E : Environment} {f : Family} {r : Universe} {C : Context} {n : Path} {ms : List Universe} {ls : List Universe} {is : List Term}
    → Constructs E f r [] C (const n ms) ls is → is_at_indices f (const n ms) ≡ true
end_of_constant {f = f} {n = n} {ms = ms} {is = is} (fields (end l a h)) = passes_at_indices f (const n ms) is a

end_of_application : {E : Environment} {f : Family} {r : Universe} {C : Context} {g a : Term} {ls : List Universe} {is : List Term}
    → Constructs E f r [] C (app g a) ls is → is_at_indices f (app g a) ≡ true
end_of_application {f = f} {g = g} {a = x} {is = is} (fields (end l a h)) = passes_at_indices f (app g x) is a

-- The first parameter's type is the same tree.
first_parameter : {E : Environment} {f : Family} {r : Universe} {x : Local} {xs : Telescope} {C : Context} {y : Binder} {A B : Term} {ls : List Universe}
    {is : List Term} → Constructs E f r (x ∷ xs) C (pi y A B) ls is → same x.ty A ≡ true
first_parameter {x = x} (parameter e g) = subst (λ t. same x.ty t ≡ true) e (term_same x.ty)

zeros : Assignment
zeros = record { parameter = λ k. 0; metavariable = λ k. 0 }

pub rules_keep_out : RulesKeepOut
unfolding encode_utf8
rules_keep_out = record {
  in_a_domain = λ E large a. no_false (first_field a.constructors.0.constructs);
  in_another_type = λ E large a. no_false (first_field a.constructors.0.constructs);
  under_a_projection = λ E large a. no_false (first_field a.constructors.0.constructs);
  as_a_structure = λ E large a. no_false (first_field a.constructors.0.constructs);
  field_at_other_levels = λ E large a. no_false (first_field a.constructors.1.0.constructs);
  end_at_levels = λ E large a. no_false (end_of_constant a.constructors.0.constructs);
  too_few_indices = λ E large a. no_false (end_of_constant a.constructors.0.constructs);
  too_many_indices = λ E large a. no_false (end_of_application a.constructors.0.constructs);
  other_parameter = λ E large a. no_false (first_parameter a.constructors.0.constructs);
  two_constructors = λ E a. nothing_below (a.elimination refl zeros) a.ends;
}
  where
    nothing_below : {r : Universe} → 0 < value_of zeros r → Some level_zero ≡ Some r → ⊥
    nothing_below {r = r} h e = let q : level_zero ≡ r = cc in let z : 0 < value_of zeros level_zero = subst (λ l. 0 < value_of zeros l) (sym q) h in omega
        (arith, z)
