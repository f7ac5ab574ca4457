-- The parts of a term that is formed, and equality of applications.
use Rattle.std.proofs.Common.{◌≡◌, List, [], ◌∷◌, subst}
use Rattle.lf_core.specs.Term.{Term, app}
use Rattle.lf_core.specs.Spine.{apply, head_of, arguments_of}
use Rattle.lf_rules.specs.Environment.{Environment, Context}
use Rattle.lf_rules.specs.Judgment.{Equal, reflexive, applications, Formed, function, argument}
use Rattle.lf_judgment_laws.proofs.Variables.{rebuilt}

abbrev pub AllFormed : Environment → Context → List Term → Type 0
AllFormed E C [] = Unit {0}
AllFormed E C (x ∷ xs) = Formed E C x × AllFormed E C xs

pub formed_parts : (E : Environment) (C : Context) (f : Term) (xs : List Term) → Formed E C (apply f xs) → Formed E C f × AllFormed E C xs
formed_parts E C f [] h = (h, tt)
formed_parts E C f (x ∷ xs) h = let r = formed_parts E C (app f x) xs h in (function r.0, (argument r.0, r.1))

pub formed_as : (E : Environment) (C : Context) (t h : Term) (xs : List Term) → t ≡ apply h xs → Formed E C t → Formed E C h × AllFormed E C xs
formed_as E C t h xs e f = formed_parts E C h xs (subst (Formed E C) e f)

pub formed_arguments : (E : Environment) (C : Context) (t : Term) → Formed E C t → AllFormed E C (arguments_of t)
formed_arguments E C t f = (formed_as E C t (head_of t) (arguments_of t) (rebuilt t) f).1

pub equal_apply : (E : Environment) (C : Context) (f g : Term) (xs : List Term) → Equal E C f g → Equal E C (apply f xs) (apply g xs)
equal_apply E C f g [] h = h
equal_apply E C f g (x ∷ xs) h = equal_apply E C (app f x) (app g x) xs (applications h (reflexive x))
