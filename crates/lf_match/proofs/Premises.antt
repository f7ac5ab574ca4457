-- Minor premises, one alternative at a time, and the recursor's type at the motive.
use Rattle.std.proofs.Common.{◌≡◌, ℕ, List, [], ◌∷◌, ◌++◌, refl, ap, sym, ◌∙◌, append_assoc}
use Rattle.std.proofs.lemmas.List.{append-nil}
use Rattle.std.specs.Prelude.{Option, Some, None}
use Rattle.lf_core.specs.Term.{Path, Term}
use Rattle.lf_rules.specs.Telescope.{Telescope}
use Rattle.lf_checker.specs.View.{View}
use Rattle.lf_checker.specs.Run.{Answer, done, refused, out, need, go_on}
use Rattle.lf_checker.specs.Calls.{see}
use Rattle.lf_elaboration.specs.Forms.{as_pi}
use Rattle.lf_elaboration.specs.Induction.{recursor_path}
use Rattle.lf_equations.specs.declared.alternative.Case.{Case}
use Rattle.lf_equations.specs.declared.fault.EquationFault.TheVariants.{NotInductive}
use Rattle.lf_equations.specs.Outcome as outcome
use Rattle.lf_equations.specs.Outcome.{Outcome, Compiling, gets, fault, gives, or_fault}
use Rattle.lf_equations.specs.Argument.{Argument}
use Rattle.lf_equations.specs.Recursion.{minor}
use Rattle.lf_equations.specs.Compile.{motive, type_seen, type_at_motive, type_of_minor, Minor, minors}
use Rattle.lf_match.proofs.Ends.{runs_then}
use Rattle.lf_match.specs.Parts.{on_some, term_of, minor_of, onto}

pub none_left : (before : List Minor) (ty : Term) (g : Argument) (T : Term) (u : ℕ) → onto before (minors ty g T []) u ≡ done (gets before) u
none_left before ty g T u = ap (λ ms. done (gets ms) u) (append-nil before)

put_behind : (before : List Minor) (m : Minor) (o : Answer (Outcome (List Minor)))
    → go_on (go_on o (outcome.go_on (λ ms. gives (m ∷ ms)))) (outcome.go_on (λ ms. gives (before ++ ms)))
    ≡ go_on o (outcome.go_on (λ ms. gives ((before ++ m ∷ []) ++ ms)))
put_behind before m (done (gets ms) u) = ap (λ ns. done (gets ns) u) (sym (append_assoc before (m ∷ []) ms))
put_behind before m (done (fault e) u) = refl
put_behind before m (refused e u) = refl
put_behind before m out = refl
put_behind before m (need k) = refl

by_term : (before : List Minor) (ty : Term) (g : Argument) (T : Term) (a : Case) (alts : List Case) (o : Answer (Outcome Term))
    → go_on (go_on o (outcome.go_on (λ t. outcome.◌>>=◌ (minors ty g T alts) (λ ms. gives (record { constructor = a.constructor; term = t } ∷ ms)))))
    (outcome.go_on (λ ms. gives (before ++ ms)))
    ≡ go_on (go_on o (outcome.go_on (λ t. gives (record { constructor = a.constructor; term = t }))))
    (outcome.go_on (λ m. onto (before ++ m ∷ []) (minors ty g T alts)))
by_term before ty g T a alts (done (gets t) u) = put_behind before (record { constructor = a.constructor; term = t }) (minors ty g T alts u)
by_term before ty g T a alts (done (fault e) u) = refl
by_term before ty g T a alts (refused e u) = refl
by_term before ty g T a alts out = refl
by_term before ty g T a alts (need k) = refl

by_type : (before : List Minor) (ty : Term) (g : Argument) (T : Term) (a : Case) (alts : List Case) (o : Option Term) (u : ℕ)
    → go_on (go_on (or_fault NotInductive o u) (outcome.go_on (λ A. outcome.◌>>=◌ (minor g.binders ty (motive g) A a)
    (λ t. outcome.◌>>=◌ (minors ty g T alts) (λ ms. gives (record { constructor = a.constructor; term = t } ∷ ms))))))
    (outcome.go_on (λ ms. gives (before ++ ms)))
    ≡ go_on (go_on (on_some o (λ A. minor g.binders ty (motive g) A a) u) (outcome.go_on (λ t. gives (record { constructor = a.constructor; term = t }))))
    (outcome.go_on (λ m. onto (before ++ m ∷ []) (minors ty g T alts)))
by_type before ty g T a alts None u = refl
by_type before ty g T a alts (Some A) u = by_term before ty g T a alts (minor g.binders ty (motive g) A a u)

pub one_more : (before : List Minor) (ty : Term) (g : Argument) (T : Term) (a : Case) (alts : List Case) (u : ℕ)
    → onto before (minors ty g T (a ∷ alts)) u ≡ go_on (minor_of ty g T a u) (outcome.go_on (λ m. onto (before ++ m ∷ []) (minors ty g T alts)))
one_more before ty g T a alts u = by_type before ty g T a alts (type_of_minor g.ind.constructors a.constructor (as_pi T)) u

all_of : (o : Answer (Outcome (List Minor))) → go_on o (outcome.go_on (λ ms. gives ([] ++ ms))) ≡ o
all_of (done (gets ms) u) = refl
all_of (done (fault e) u) = refl
all_of (refused e u) = refl
all_of out = refl
all_of (need k) = refl

pub from_none : (ty : Term) (g : Argument) (T : Term) (alts : List Case) (u : ℕ) → onto [] (minors ty g T alts) u ≡ minors ty g T alts u
from_none ty g T alts u = all_of (minors ty g T alts u)

pub type_is : (V : View) (g : Argument) (u : ℕ)
    → type_at_motive V g u ≡ go_on (type_seen g (see V (recursor_path g.ind.name)) u) (or_fault NotInductive)
type_is V g u = runs_then (type_seen g (see V (recursor_path g.ind.name)) u) (or_fault NotInductive)

pub term_is : (ty : Term) (g : Argument) (T : Term) (a : Case) (u : ℕ) (bs : Telescope) (M A : Term) (cs : List Path)
    → Some A ≡ type_of_minor cs a.constructor (as_pi T) → cs ≡ g.ind.constructors → bs ≡ g.binders → M ≡ motive g
    → term_of ty g T a u ≡ minor bs ty M A a u
term_is ty g T a u bs M A cs e c b m =
    ap (λ ds. on_some (type_of_minor ds a.constructor (as_pi T)) (λ A. minor g.binders ty (motive g) A a) u) (sym c)
    ∙ ap (λ o. on_some o (λ A. minor g.binders ty (motive g) A a) u) (sym e)
    ∙ ap (λ B. minor B ty (motive g) A a u) (sym b)
    ∙ ap (λ N. minor bs ty N A a u) (sym m)
