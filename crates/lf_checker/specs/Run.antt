-- What a call of the checker answers, from the units that it may spend, and the ways to put calls together. This project's own.
use Rattle.std.specs.Prelude.{ℕ, ◌-◌, Bool, true, false, nat_lt, if◌then◌else◌, Option, Some, None, List, [], ◌∷◌, length}
use Rattle.lf_core.specs.Term.{Path, Term}
use Rattle.lf_core.specs.Size.{node_count, depth}
use Rattle.lf_core.specs.Spine.{apply}
use Rattle.lf_rules.specs.Environment.{Context, opened}
use Rattle.lf_core.specs.declared.constant.TaskKey.{TaskKey}
use Rattle.lf_checker.specs.declared.fault.TypeFault.{TypeFault}

-- With the names of the binders that were opened round the place, from the outside in.
pub record Refusal : Type 0 where
  pub fault : TypeFault
  pub opened : List Path

-- A value or a refusal, with the units that are left; or the units, the nesting or the depth don't suffice; or something has to be made first.
pub data Answer (A : Type 0) : Type 0 where
  done : A → ℕ → Answer A
  refused : Refusal → ℕ → Answer A
  out : Answer A
  need : TaskKey → Answer A

abbrev pub Run : Type 0 → Type 0
Run A = ℕ → Answer A

abbrev pub go_on : {A B : Type 0} → Answer A → (A → Run B) → Answer B
go_on (done x u) f = f x u
go_on (refused e u) f = refused e u
go_on out f = out
go_on (need k) f = need k

infixl 20 ◌>>=◌
abbrev pub ◌>>=◌ : {A B : Type 0} → Run A → (A → Run B) → Run B
◌>>=◌ m f = λ u. go_on (m u) f

abbrev pub gives : {A : Type 0} → A → Run A
gives x = λ u. done x u

abbrev pub refuse : {A : Type 0} → TypeFault → Run A
refuse e = λ u. refused (record { fault = e; opened = [] }) u

abbrev pub gives_up : {A : Type 0} → Run A
gives_up = λ u. out

abbrev pub needs : {A : Type 0} → TaskKey → Run A
needs k = λ u. need k

-- The first where the test holds, and else the second.
abbrev pub choose : {A : Type 0} → Bool → Run A → Run A → Run A
choose true m n = m
choose false m n = n

-- n units, or it gives up.
abbrev pub spend : {A : Type 0} → ℕ → Run A → Run A
spend n m u = if nat_lt u n then out else m (u - n)

abbrev pub caught : {A : Type 0} → Answer A → Answer (Option A)
caught (done x u) = done (Some x) u
caught (refused e u) = done None u
caught out = out
caught (need k) = need k

-- A refusal is none, and goes on.
abbrev pub attempt : {A : Type 0} → Run A → Run (Option A)
attempt m = λ u. caught (m u)

abbrev pub named_in : {A : Type 0} → Path → Answer A → Answer A
named_in x (refused e u) = refused (record { fault = e.fault; opened = x ∷ e.opened }) u
named_in x (done a u) = done a u
named_in x out = out
named_in x (need k) = need k

-- A run in the body of a binder of this name.
abbrev pub under : {A : Type 0} → Path → Run A → Run A
under x m = λ u. named_in x (m u)

abbrev pub greatest_depth : ℕ
greatest_depth = 1024

-- A term that is put together costs nothing; one that is too deep gives up.
abbrev pub put : Term → Run Term
put t = choose (nat_lt greatest_depth (depth t)) gives_up (gives t)

-- A term that is made by substitution costs its nodes; it is put before these arguments.
abbrev pub made_before : List Term → Term → Run Term
made_before xs t = spend (node_count t) (put (apply t xs))

abbrev pub made : Term → Run Term
made t = made_before [] t

abbrev pub greatest_variable : ℕ
greatest_variable = 4294967294

-- The body of a binder, opened by the next variable.
abbrev pub opening : Context → Term → Run Term
opening C b = choose (nat_lt greatest_variable (length C)) gives_up (made (opened C b))
