-- Parts of the definition's runs that are functions of their own in the code, over the parts of the values that they need. A device of the proof.
use Rattle.std.specs.Prelude.{ℕ, Bool, false, Option, Some, None, List}
use Rattle.lf_core.specs.Term.{Path, Term}
use Rattle.lf_syntax.specs.declared.leaf.Ident.{Ident}
use Rattle.lf_syntax.specs.Tree.{TermTree, ItemTree, RuleTrees, place}
use Rattle.lf_elaboration.specs.Messages as says
use Rattle.lf_elaboration.specs.Messages.{ProofItem}
use Rattle.lf_elaboration.specs.Run.{◌>>=◌, ◌>>◌}
use Rattle.lf_elaboration.specs.Part.{Part, Locals, Run, Calls, left_open, instantiated}
use Rattle.lf_elaboration.specs.Closing.{mark, close, sorry_for}
use Rattle.lf_elaboration.specs.Step.{Step}
use Rattle.lf_elaboration.specs.Direct.{Goal, Rest, proves_one, ends_with, closed_term, closed_type, fails_as}
use Rattle.lf_elaboration.specs.Proof.{item, proof_of}
use Rattle.lf_elaboration.specs.Apply.{Given, goals_given}
use Rattle.lf_elaboration.specs.Rewrite.{first_goal, unfolding_term, rw}
use Rattle.lf_elaboration.specs.Forms.{Binding}
use Rattle.lf_goals.specs.Between.{goal_pi, ready}
use Rattle.lf_goals.specs.Behind.{have_of, intro_behind}
use Rattle.lf_opening.specs.Cycle.{after_proof}
use Rattle.lf_opening.specs.Goals.{applied}
use Rattle.lf_opening.specs.Rules.{in_prop, by_rule, proved, reflexive_proof}

-- An item on a goal.
unfoldable pub on_goal : Part → Calls → Locals → Term → ItemTree → Rest → Run Term
on_goal P c L goal i rest = ready i goal >>= (λ G. item P c L G i rest)

-- A goal that one item proves, with what stands behind that.
unfoldable pub in_block : Part → Calls → Locals → ℕ → Goal → ItemTree → Rest → Run Term
in_block P c L at g i rest = proof_of P c L at g (on_goal P c L g.ty i rest)

unfoldable pub exact : Part → Calls → Locals → Term → TermTree → Rest → Run Term
exact P c L goal t rest = closed_term P c L t (Some goal) >>= ends_with rest L

unfoldable pub sorry : Part → Calls → ℕ → Locals → Term → Rest → Run Term
sorry P c at L goal rest = sorry_for P c L at goal >>= ends_with rest L

-- `have`, with the type elaborated first.
unfoldable pub have : Part → Calls → Locals → Term → Ident → TermTree → TermTree → Rest → Run Term
have P c L goal x ty v rest = do
  A ← closed_type P c L ty
  have_of P c L goal x.name A v rest

-- A local for the pi, where the goal is one, and then for the other names.
abbrev pub intro_with : Calls → ℕ → Path → List Ident → Rest → Locals → Option Binding → Run Term
intro_with c at x xs rest L (Some p) = intro_behind c at xs rest L x p.binder p.domain p.body
intro_with c at x xs rest L None = fails_as at says.Intro

-- A local for the first of these names, and then for the others.
unfoldable pub intro_name : Calls → ℕ → Ident → List Ident → Rest → Locals → Term → Run Term
intro_name c at x xs rest L goal = goal_pi c L goal >>= intro_with c at x.name xs rest L

-- ---- apply

-- The term, once these goals are proved.
unfoldable pub apply_rest : Locals → Rest → Term → List Given → Run Term
apply_rest L rest t gs = do
  rest L (goals_given gs)
  instantiated t

-- The goals of the elaborated term, left to what stands behind.
unfoldable pub apply_behind : Part → Calls → Locals → ℕ → ℕ → ℕ → Term → Term → Term → Rest → Run Term
apply_behind P c L at terms levels goal t A rest = do
  close P c L terms None
  o ← applied P c L at levels goal t A
  apply_rest L rest o.term o.given

unfoldable pub apply_item : Part → Calls → Locals → Term → TermTree → Rest → Run Term
apply_item P c L goal t rest = do
  k ← mark
  r ← c.elaborate left_open L t None
  apply_behind P c L (place t) k.terms k.levels goal r.term r.ty rest

-- ---- rw and unfold

-- The elaborated term of a rule on the goal.
unfoldable pub rule_behind : Part → Calls → Locals → ℕ → ProofItem → ℕ → Bool → ℕ → ℕ → Term → Term → Term → Run Step
rule_behind P c L at i term_at back terms levels goal t A = do
  close P c L terms None
  by_rule P c L at i term_at back terms levels goal t A

-- A rule of `rw` on a goal in `Prop`.
unfoldable pub rule_step : Part → Calls → Locals → ℕ → Bool → TermTree → Term → Run Step
rule_step P c L at back t goal = do
  in_prop P c L at says.Rw goal
  k ← mark
  r ← c.elaborate left_open L t None
  rule_behind P c L at says.Rw (place t) back k.terms k.levels goal r.term r.ty

-- The other rules on the goal that a step leaves.
unfoldable pub rw_behind : Part → Calls → Locals → ℕ → RuleTrees → Rest → Step → Run Term
rw_behind P c L at rs rest s = do
  p ← rw P c L at rs rest (first_goal s)
  proved s p

-- The first of these rules, and then the others.
unfoldable pub rw_rule : Part → Calls → Locals → ℕ → Bool → TermTree → RuleTrees → Rest → Term → Run Term
rw_rule P c L at back t rs rest goal = rule_step P c L at back t goal >>= rw_behind P c L at rs rest

-- The equation of a definition on a goal in `Prop`.
unfoldable pub unfold_step : Part → Calls → Locals → ℕ → Ident → Term → Run Step
unfold_step P c L at x goal = do
  in_prop P c L at says.Unfold goal
  k ← mark
  r ← unfolding_term P L at x
  rule_behind P c L at says.Unfold x.at false k.terms k.levels goal r.term r.ty

-- The goal that a step leaves, left to what stands behind.
unfoldable pub one_behind : Locals → Rest → Step → Run Term
one_behind L rest s = do
  p ← proves_one rest L (first_goal s)
  proved s p

unfoldable pub unfold_item : Part → Calls → Locals → ℕ → Ident → Rest → Term → Run Term
unfold_item P c L at x rest goal = unfold_step P c L at x goal >>= one_behind L rest

-- The goal behind the last rule.
unfoldable pub after_rules : Rest → Locals → Term → Run Term
after_rules rest L goal = reflexive_proof goal >>= after_proof rest L goal
