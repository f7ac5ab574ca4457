-- Injectivity of a constructor as an equation of propositions, with its proof: that two applications are equal is that their fields are.
use Rattle.std.specs.Prelude.{ℕ, suc, Option, Some, None, List, [], ◌∷◌, codes, length}
use Rattle.lf_core.specs.Term.{Universe, level_zero, level_succ, Term, free, sort, const, app}
use Rattle.lf_core.specs.Spine.{apply}
use Rattle.lf_rules.specs.Environment.{Context}
use Rattle.lf_rules.specs.Telescope.{Telescope, types}
use Rattle.lf_rules.specs.Recursor.{named}
use Rattle.lf_checker.specs.View.{View}
use Rattle.lf_checker.specs.Run.{Run, ◌>>=◌, gives}
use Rattle.lf_checker.specs.Calls.{checked, Calls}
use Rattle.lf_checker.specs.Infer.{sort_of}
use Rattle.lf_elaboration.specs.Statement.{Statement, pis_closed, lambdas_closed}
use Rattle.lf_elaboration.specs.Injectivity.{
  Field,
  Sides,
  equation,
  whole_equation,
  field_equation,
  conjunction,
  conjoined,
  and_part,
  congruence,
  field_proofs,
  hypothesis,
}

-- The parts of a conjunction that h proves, in order.
abbrev pub parts : List Field → Term → List Term
parts [] h = []
parts (f ∷ []) h = h ∷ []
parts (f ∷ g ∷ fs) h =
    let a : Term = field_equation f in
    let b : Term = conjunction (g ∷ fs) in
    apply (const (and_part (codes "left")) []) (a ∷ b ∷ h ∷ []) ∷ parts (g ∷ fs) (apply (const (and_part (codes "right")) []) (a ∷ b ∷ h ∷ []))

-- The constructor at more and more fields: what is left of its type, with the level of that, the two sides so far, and their equation's proof.
abbrev pub congr_step : Universe → Universe → Term → Term → Term → Term → Term → Term → Term → Term → Term
congr_step l m A B f g a b h k = apply (const (named (codes "congr")) (l ∷ m ∷ [])) (A ∷ B ∷ f ∷ g ∷ a ∷ b ∷ h ∷ k ∷ [])

-- The types behind the first field, behind the second, and so on, with their levels.
abbrev pub rest_types : Calls → Context → ℕ → Telescope → Term → Run (List (Term × Universe))
rest_types c C k [] R = gives []
rest_types c C k (x ∷ xs) R = do
  B ← pis_closed (suc k) xs R
  l ← sort_of c checked C B
  more ← rest_types c C (suc k) xs R
  gives ((B, l) ∷ more)

abbrev pub further : Sides → Term → Term → Term → List Field → List (Term × Universe) → List Term → Term
further s f g e (x ∷ xs) (B ∷ Bs) (h ∷ hs) = further s (app f x.left) (app g x.right) (congr_step x.level B.1 x.ty B.0 f g x.left x.right e h) xs Bs hs
further s f g e [] Bs hs = e
further s f g e (x ∷ xs) [] hs = e
further s f g e (x ∷ xs) (B ∷ Bs) [] = e

abbrev pub rebuilt : Sides → List (Term × Universe) → List Term → Term
rebuilt s (B ∷ Bs) (h ∷ hs) = by_first s.fields
  where
    by_first : List Field → Term
    by_first [] = h
    by_first (x ∷ xs) =
        let f : Term = apply (const s.constructor s.levels) s.params in
        further s (app f x.left) (app f x.right) (congruence x.level B.1 x.ty B.0 x.left x.right f h) xs Bs hs
rebuilt s [] hs = const (codes "True" ∷ codes "intro" ∷ []) []
rebuilt s (B ∷ Bs) [] = const (codes "True" ∷ codes "intro" ∷ []) []

abbrev pub both_ways : Sides → Term → Term → Term
both_ways s there back =
    let a : Term = whole_equation s in
    let b : Term = conjunction s.fields in
    apply (const (named (codes "propext")) []) (a ∷ b ∷ apply (const (codes "Iff" ∷ codes "intro" ∷ []) []) (a ∷ b ∷ there ∷ back ∷ []) ∷ [])

abbrev pub equivalence_by : Calls → Sides → Option (List Term) → Run (Option Statement)
equivalence_by c s None = gives None
equivalence_by c s (Some ps) = do
  let k = length s.all
  Bs ← rest_types c (types s.all) (length s.params) s.telescope s.ty
  there ← lambdas_closed k (hypothesis (whole_equation s) ∷ []) (conjoined s.fields ps)
  back ← lambdas_closed k (hypothesis (conjunction s.fields) ∷ []) (rebuilt s Bs (parts s.fields (free k)))
  T ← pis_closed 0 s.all (equation (level_succ level_zero) (sort level_zero) (whole_equation s) (conjunction s.fields))
  p ← lambdas_closed 0 s.all (both_ways s there back)
  gives (Some (record { ty = T; proof = p }))

abbrev pub equivalence : View → Calls → Option Sides → Run (Option Statement)
equivalence V c None = gives None
equivalence V c (Some s) = do
  ps ← field_proofs V s (free (length s.all)) 0 s.fields
  equivalence_by c s ps
