-- What elaboration answers, from the units that it may spend and the state that it changes, and the ways to put runs together. The state is
-- the changes of the metavariables for the unifier, and more for terms.
use Rattle.std.specs.Prelude.{ℕ, ◌-◌, ◌++◌, Bool, true, false, nat_lt, if◌then◌else◌, Option, Some, None, [], ◌∷◌, length, take}
use Rattle.lf_core.specs.Term.{Universe, level_meta, Term, meta}
use Rattle.lf_rules.specs.Environment.{Context}
use Rattle.lf_core.specs.declared.constant.TaskKey.{TaskKey}
use Rattle.lf_checker.specs.Run as checker
use Rattle.lf_checker.specs.Run.{Refusal}
use Rattle.lf_checker.specs.Calls.{Calls, unchecked}
use Rattle.lf_elaboration.specs.declared.change.Change.TheVariants.{Made, LevelMade, Assigned, LevelAssigned}
use Rattle.lf_elaboration.specs.Metavariables.{Changes, count, level_count, types_of, put_in, has_assigned, Unassigned, refused, level_refused}
use Rattle.lf_elaboration.specs.Messages.{Message}

-- A value, or the error that ends what runs, with the units that are left; or the units, the nesting or the depth don't suffice; or something
-- has to be made first. After an error and a spent budget, too, the state tells what was asked for and said.
pub data Answer (S A : Type 0) : Type 0 where
  done : A → ℕ → S → Answer S A
  failed : Message → ℕ → S → Answer S A
  out : S → Answer S A
  need : TaskKey → Answer S A

abbrev pub Run : Type 0 → Type 0 → Type 0
Run S A = ℕ → S → Answer S A

abbrev pub go_on : {S A B : Type 0} → Answer S A → (A → Run S B) → Answer S B
go_on (done x u s) f = f x u s
go_on (failed m u s) f = failed m u s
go_on (out s) f = out s
go_on (need k) f = need k

infixl 20 ◌>>=◌
abbrev pub ◌>>=◌ : {S A B : Type 0} → Run S A → (A → Run S B) → Run S B
◌>>=◌ m f = λ u s. go_on (m u s) f

infixl 20 ◌>>◌
abbrev pub ◌>>◌ : {S A B : Type 0} → Run S A → Run S B → Run S B
◌>>◌ m n = λ u s. go_on (m u s) (λ x. n)

abbrev pub gives : {S A : Type 0} → A → Run S A
gives x = λ u s. done x u s

abbrev pub fails : {S A : Type 0} → Message → Run S A
fails m = λ u s. failed m u s

abbrev pub gives_up : {S A : Type 0} → Run S A
gives_up = λ u s. out s

abbrev pub needs : {S A : Type 0} → TaskKey → Run S A
needs k = λ u s. need k

abbrev pub choose : {S A : Type 0} → Bool → Run S A → Run S A → Run S A
choose true m n = m
choose false m n = n

-- Nothing where the test holds, and else the error.
abbrev pub or_else_fail : {S : Type 0} → Bool → Run S (Unit {0}) → Run S (Unit {0})
or_else_fail true m = gives tt
or_else_fail false m = m

-- n units, or it gives up.
abbrev pub spend : {S A : Type 0} → ℕ → Run S A → Run S A
spend n m u s = if nat_lt u n then out s else m (u - n) s

-- The state as it is.
abbrev pub reading : {S A : Type 0} → (S → Run S A) → Run S A
reading f = λ u s. f s u s

-- ---- The checker's runs, which change no state

abbrev pub answered : {S A : Type 0} → (Refusal → Run S A) → S → checker.Answer A → Answer S A
answered h s (checker.done x u) = done x u s
answered h s (checker.refused e u) = h e u s
answered h s checker.out = out s
answered h s (checker.need k) = need k

-- With what is done after a refusal.
abbrev pub checks_or : {S A : Type 0} → (Refusal → Run S A) → checker.Run A → Run S A
checks_or h m = λ u s. answered h s (m u)

-- One that never refuses.
abbrev pub checks : {S A : Type 0} → checker.Run A → Run S A
checks m = checks_or (λ e. gives_up) m

abbrev pub put : {S : Type 0} → Term → Run S Term
put t = checks (checker.put t)

abbrev pub made : {S : Type 0} → Term → Run S Term
made t = checks (checker.made t)

abbrev pub opening : {S : Type 0} → Context → Term → Run S Term
opening C b = checks (checker.opening C b)

-- A context with one more variable has a number for it.
abbrev pub room : {S : Type 0} → Context → Run S (Unit {0})
room C = choose (nat_lt checker.greatest_variable (length C)) gives_up (gives tt)

-- ---- Metavariables

-- A term with its assigned metavariables put in costs its nodes, where one stands in it.
abbrev pub instantiated : Term → Run Changes Term
instantiated t = reading λ cs. choose (has_assigned cs t) (made (put_in cs t)) (gives t)

-- A type as `infer` gives it without tests; a metavariable has the type that it was made with.
abbrev pub type_unchecked : Calls → Context → Term → Run Changes (Option Term)
type_unchecked c C t = reading λ cs. checks (checker.attempt (c.infer (unchecked (types_of cs)) C t))

abbrev pub changed : {A : Type 0} → Changes → A → Run Changes A
changed more x = λ u cs. done x u (cs ++ more)

abbrev pub within_numbers : {S A : Type 0} → ℕ → Run S A → Run S A
within_numbers n m = choose (nat_lt checker.greatest_variable n) gives_up m

-- A metavariable of this type for a context of so many locals, made by the node at this place.
abbrev pub fresh : Term → ℕ → ℕ → Run Changes Term
fresh A locals at = reading λ cs. within_numbers (count cs) (changed (Made A locals at ∷ []) (meta (count cs)))

abbrev pub fresh_level : Run Changes Universe
fresh_level = reading λ cs. within_numbers (level_count cs) (changed (LevelMade ∷ []) (level_meta (level_count cs)))

abbrev pub unless_refused : Changes → Option Unassigned → Run Changes Bool
unless_refused more None = changed more true
unless_refused more (Some r) = gives false

-- Whether the metavariable is assigned this value.
abbrev pub assign : ℕ → Term → Run Changes Bool
assign m t = reading λ cs. unless_refused (Assigned m t ∷ []) (refused cs m t)

abbrev pub assign_level : ℕ → Universe → Run Changes Bool
assign_level m l = reading λ cs. unless_refused (LevelAssigned m l ∷ []) (level_refused cs m l)

-- The changes are as before after each answer but true.
abbrev pub as_before : Changes → Answer Changes Bool → Answer Changes Bool
as_before cs (done true u new) = done true u new
as_before cs (done false u new) = done false u (take (length cs) new)
as_before cs (failed m u new) = failed m u (take (length cs) new)
as_before cs (out new) = out (take (length cs) new)
as_before cs (need k) = need k

abbrev pub or_as_before : Run Changes Bool → Run Changes Bool
or_as_before m = λ u cs. as_before cs (m u cs)
