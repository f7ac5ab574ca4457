-- `rw` and `unfold`: each rule an equation, whose left side is fixed by the first subterm of the goal that unifies with it.
use Rattle.std.specs.Prelude.{ℕ, zero, suc, Bool, true, false, Option, Some, None, is_some, List, [], ◌∷◌, ◌++◌, codes, length}
use Rattle.lf_core.specs.Term.{Path, level_zero, Term, free, const}
use Rattle.lf_core.specs.Same.{same}
use Rattle.lf_core.specs.Spine.{apply}
use Rattle.lf_core.specs.Suffix.{is_definition}
use Rattle.lf_syntax.specs.declared.leaf.Ident.{Ident}
use Rattle.lf_syntax.specs.Tree as written
use Rattle.lf_syntax.specs.Tree.{RuleTrees, place}
use Rattle.lf_checker.specs.LevelTest.{is_same}
use Rattle.lf_checker.specs.Whnf.{turn_limit}
use Rattle.lf_checker.specs.Extends.{Shape}
use Rattle.lf_checker.specs.Calls.{Seen, known, unknown, missing, see}
use Rattle.lf_elaboration.specs.Scope.{local_named}
use Rattle.lf_elaboration.specs.Forms.{as_pi}
use Rattle.lf_elaboration.specs.Messages as says
use Rattle.lf_elaboration.specs.Messages.{ProofItem}
use Rattle.lf_elaboration.specs.Run.{◌>>=◌, ◌>>◌, gives, gives_up, needs, choose, or_else_fail, spend, checks, put}
use Rattle.lf_elaboration.specs.Part.{Part, Locals, Run, Calls, Typed, left_open, instantiated, unify, whnf, ask, sort_of}
use Rattle.lf_elaboration.specs.Identifiers.{fresh_levels, constant_at, Meaning, own_type, constant, nothing, waits, meaning_of, is_realized}
use Rattle.lf_elaboration.specs.Closing.{Mark, mark, all_assigned, all_levels_assigned, close}
use Rattle.lf_elaboration.specs.Motive.{places_for}
use Rattle.lf_elaboration.specs.Step.{Step, proof_by}
use Rattle.lf_elaboration.specs.Equations.{Equation, as_equation, equation_term, turned, symmetric, eq_part, rewritten}
use Rattle.lf_elaboration.specs.Direct.{Rest, fails_as, proves_one, ends_with}
use Rattle.lf_elaboration.specs.Apply.{Opened, for_pi}

-- Metavariables for all pis that are left, along weak head forms.
abbrev pub open_all : Calls → Locals → ℕ → ℕ → Opened → Run Opened
open_all c L at zero o = gives_up
open_all c L at (suc n) o = do
  W ← whnf c L o.ty
  for_pi L at (record o { ty = W }) (as_pi W) (open_all c L at n)

-- The first of these terms that unifies with l.
abbrev pub first_unified : Calls → Locals → Term → List Term → Run Bool
first_unified c L l [] = gives false
first_unified c L l (t ∷ ts) = do
  fits ← unify c L t l
  choose fits (gives true) (first_unified c L l ts)

abbrev pub sided : Bool → Equation → Equation
sided true e = turned e
sided false e = e

-- With `←` the sides change places.
abbrev pub proof_sided : Bool → Equation → Term → Term
proof_sided true e h = symmetric e h
proof_sided false e h = h

abbrev pub step_or_fail : {A : Type 0} → ℕ → ProofItem → Option A → Run A
step_or_fail at i (Some s) = gives s
step_or_fail at i None = fails_as at i

-- The equation e, proved by h, on the goal: its left side is fixed by the first subterm that unifies with it.
abbrev pub rewrite_by : Part → Calls → Locals → ℕ → ProofItem → Mark → Term → Equation → Term → Run Step
rewrite_by P c L at i k goal e h = do
  fits ← first_unified c L e.left (places_for e.left goal)
  or_else_fail fits (fails_as at i)
  all_assigned k.terms
  all_levels_assigned P k.levels
  t ← instantiated (equation_term e)
  fixed ← step_or_fail at i (as_equation t)
  h' ← instantiated h
  s ← checks (rewritten goal fixed h')
  step_or_fail at i s

abbrev pub rewrite_with : Part → Calls → Locals → ℕ → ProofItem → Bool → Mark → Term → Term → Option Equation → Run Step
rewrite_with P c L at i back k goal h None = fails_as at i
rewrite_with P c L at i back k goal h (Some e) = do
  proof ← put (proof_sided back e h)
  rewrite_by P c L at i k goal (sided back e) proof

-- A rule on a goal in `Prop`: the term's pis are opened, and its type has to be an equation.
abbrev pub rule_step : Part → Calls → Locals → ℕ → ProofItem → ℕ → Bool → Term → Run Typed → Run Step
rule_step P c L at i term_at back goal term = do
  l ← sort_of P c L at goal
  or_else_fail (is_same l level_zero) (fails_as at i)
  k ← mark
  r ← term
  close P c L k.terms None
  T ← instantiated r.ty
  o ← open_all c L term_at turn_limit (record { term = r.term; ty = T; given = [] })
  rewrite_with P c L at i back k goal o.term (as_equation o.ty)

abbrev pub proved_by : Step → Run Term → Run Term
proved_by s m = do
  p ← m
  checks (proof_by s (p ∷ []))

abbrev pub first_goal : Step → Term
first_goal s = head_or s.goals
  where
    head_or : List Term → Term
    head_or [] = free 0
    head_or (g ∷ gs) = g

-- A goal `s = s` of two same trees.
abbrev pub is_reflexive : Option Equation → Bool
is_reflexive None = false
is_reflexive (Some e) = same e.left e.right

abbrev pub reflexivity : Option Equation → Term
reflexivity None = free 0
reflexivity (Some e) = apply (const (eq_part (codes "refl")) e.levels) (e.ty ∷ e.left ∷ [])

abbrev pub after_rules : Rest → Locals → Term → Run Term
after_rules rest L goal =
    choose (is_reflexive (as_equation goal)) (put (reflexivity (as_equation goal)) >>= (λ p. ends_with rest L p)) (proves_one rest L goal)

-- Each rule in order; then a goal that is closed so is closed.
abbrev pub rw : Part → Calls → Locals → ℕ → RuleTrees → Rest → Term → Run Term
rw P c L at written.end_rules rest goal = after_rules rest L goal
rw P c L at (written.rule_and (written.rule p back t) rs) rest goal = do
  s ← rule_step P c L at says.Rw (place t) back goal (c.elaborate left_open L t None)
  proved_by s (rw P c L at rs rest (first_goal s))

-- The equation of a definition, which has to have been made, as one call.
abbrev pub equation_of : Path → Path
equation_of n = n ++ codes "eq_1" ∷ []

abbrev pub equation_when : Bool → ℕ → Path → Shape → Run Typed
equation_when false at n k = fails_as at says.Unfold
equation_when true at n k = ask n >> spend 1 (fresh_levels (length k.levels) >>= (λ ls. constant_at n ls k.ty))

abbrev pub made_equation : Part → ℕ → Path → Seen → Run Typed
made_equation P at n (known k) = equation_when (is_realized P.view n) at n k
made_equation P at n unknown = fails_as at says.Unfold
made_equation P at n (missing k) = needs k

abbrev pub equation_for : Part → ℕ → Meaning → Run Typed
equation_for P at (constant n k) = choose (is_definition k.kind) (made_equation P at (equation_of n) (see P.view (equation_of n))) (fails_as at says.Unfold)
equation_for P at (own_type n) = fails_as at says.Unfold
equation_for P at nothing = fails_as at says.Unfold
equation_for P at (waits k) = needs k

-- A local of the name hides the definition.
abbrev pub unfolding_term : Part → Locals → ℕ → Ident → Run Typed
unfolding_term P L at x = choose (is_some (local_named L.names x.name)) (fails_as at says.Unfold) (equation_for P at (meaning_of P x.name))

abbrev pub unfold_item : Part → Calls → Locals → ℕ → Ident → Rest → Term → Run Term
unfold_item P c L at x rest goal = do
  s ← rule_step P c L at says.Unfold x.at false goal (unfolding_term P L at x)
  proved_by s (proves_one rest L (first_goal s))
