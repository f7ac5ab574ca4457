-- What the forms of terms ask for, found out before any nested call. A device of the proof.
use Rattle.std.specs.Prelude.{ℕ, Bool, true, false, Option, Some, None, List, [], ◌∷◌, take, drop}
use Rattle.lf_core.specs.Term.{Path, Universe, Term, pi}
use Rattle.lf_core.specs.Same.{same_path}
use Rattle.lf_core.specs.Substitution.{instantiate}
use Rattle.lf_checker.specs.Infer.{domain_at, of_structure}
use Rattle.lf_checker.specs.View.{View}
use Rattle.lf_checker.specs.Structures.{structure_of}
use Rattle.lf_rules.specs.Environment.{Context}
use Rattle.lf_checker.specs.Run.{Run, ◌>>=◌, gives, refuse, choose, made}
use Rattle.lf_checker.specs.declared.fault.TypeFault.TheVariants.{NotFunction, NotStructure}
use Rattle.lf_checker.specs.Calls.{Mode, checked, unchecked, Calls}
use Rattle.lf_checker.specs.Equal as equal
use Rattle.lf_checker.specs.Equal.{
  Verdict,
  decided,
  again,
  undecided,
  decides,
  equal_binders,
  eta_expansion,
  against_left,
  against_right,
  Built,
  equal_all,
  equal_fields,
  and_then,
}
use Rattle.lf_check.specs.declared.form.Form.{Form}
use Rattle.lf_check.specs.declared.form.Form.TheVariants.{Settled, Binders, Other}
use Rattle.lf_check.specs.declared.form.Side.{Side}
use Rattle.lf_check.specs.declared.form.Side.TheVariants.{Left, Right, Neither}

abbrev pub by_form : Calls → Context → Form → Run Verdict
by_form c C (Settled r) = gives (decided r)
by_form c C (Binders A b B d) = decides (equal_binders c C A.now b.now B.now d.now)
by_form c C Other = gives undecided

abbrev pub by_eta : Calls → Context → Term → Term → Side → Run Verdict
by_eta c C a b Left = do
  e ← eta_expansion c C b
  against_left c C a e
by_eta c C a b Right = do
  e ← eta_expansion c C a
  against_right c C b e
by_eta c C a b Neither = gives undecided

-- Two terms that stand for the verdict decide by their equality.
abbrev pub compared : Calls → Context → Verdict → Run Verdict
compared c C (decided r) = gives (decided r)
compared c C (again x y) = decides (c.equal C x y)
compared c C undecided = gives undecided

-- Two terms that stand for the answer answer by their equality.
abbrev pub answered : Calls → Context → Verdict → Run Bool
answered c C (decided r) = gives r
answered c C (again x y) = c.equal C x y
answered c C undecided = gives false

-- Parameters and then fields, where the type fits.
abbrev pub if_fits : Calls → Context → Built → Term → List Term → Bool → Run Bool
if_fits c C b y ps fits = choose fits (do
  r ← equal_all c C (take b.structure.params b.arguments) ps
  and_then r (equal_fields c C b.name 0 y (drop b.structure.params b.arguments))) (gives false)

-- The domain and the codomain of a pi, or a refusal for a term of this type.
abbrev pub on_parts : Term → Option (Term × Term) → (Term → Term → Run Term) → Run Term
on_parts has (Some p) f = f p.0 p.1
on_parts has None f = refuse (NotFunction has)

-- An expansion costs its nodes.
abbrev pub expanded : Option Term → Run (Option Term)
expanded (Some t) = do
  e ← made t
  gives (Some e)
expanded None = gives None

abbrev pub codomain_of : Term → Option Term
codomain_of (pi x A B) = Some B
codomain_of _ = None

abbrev pub behind : Term → Option Term → (Term → Run Term) → Run Term
behind has (Some B) f = f B
behind has None f = refuse (NotStructure has)

-- `domain_at`, by the arguments first.
abbrev pub along : Term → Term → List Term → Run Term
along has T [] = domain_at has T []
along has T (y ∷ ys) = behind has (codomain_of T) λ B. do
  D ← made (instantiate B y)
  along has D ys

abbrev pub with_structure : View → Term → Path → ℕ → Term → List Universe → List Term → Run Term
with_structure V has S i t ls ps = do
  s ← structure_of V S
  of_structure has S i t ls ps s

abbrev pub at_constant : View → Term → Path → ℕ → Term → Path → List Universe → List Term → Run Term
at_constant V has S i t n ls ps = choose (same_path n S) (with_structure V has S i t ls ps) (refuse (NotStructure has))
