-- A minor premise behind its fields and hypotheses, as the code has them.
use Rattle.std.proofs.Common.{◌≡◌, ℕ, List, [], ◌∷◌, ◌++◌, length, ap, sym, ◌∙◌}
use Rattle.lf_core.specs.Term.{Term}
use Rattle.lf_rules.specs.Telescope.{Telescope, Opened, types, pi_count}
use Rattle.lf_checker.specs.Run as checker
use Rattle.lf_checker.specs.Run.{done, go_on}
use Rattle.lf_elaboration.specs.Statement.{open_pis}
use Rattle.lf_equations.specs.declared.alternative.Case.{Case}
use Rattle.lf_equations.specs.Recursion.{minor}
use Rattle.lf_match.proofs.Calls.{minor_is}
use Rattle.lf_match.specs.Parts.{behind_hypotheses}

pub minor_end : (bs : Telescope) (ty M A : Term) (a : Case) (u m n v w : ℕ) (C D E : List Term) (xs hs : Opened) (F G H : Telescope)
    → C ≡ types bs ++ ty ∷ [] → m ≡ length a.fields → open_pis m C A u ≡ done xs v → D ≡ C ++ types F → F ≡ xs.locals → n ≡ pi_count xs.rest → E ≡ D
    → open_pis n E xs.rest v ≡ done hs w → G ≡ xs.locals → H ≡ hs.locals → minor bs ty M A a u ≡ behind_hypotheses bs M G H a w
minor_end bs ty M A a u m n v w C D E xs hs F G H k l e d f c s o g h =
    minor_is bs ty M A a u
    ∙ ap (λ B. go_on (open_pis (length a.fields) B A u) (λ xs. checker.◌>>=◌ (open_pis (pi_count xs.rest) (B ++ types xs.locals) xs.rest)
    (λ hs. behind_hypotheses bs M xs.locals hs.locals a))) (sym k)
    ∙ ap (λ i. go_on (open_pis i C A u) (λ xs. checker.◌>>=◌ (open_pis (pi_count xs.rest) (C ++ types xs.locals) xs.rest)
    (λ hs. behind_hypotheses bs M xs.locals hs.locals a))) (sym l)
    ∙ ap (λ r. go_on r (λ xs. checker.◌>>=◌ (open_pis (pi_count xs.rest) (C ++ types xs.locals) xs.rest)
    (λ hs. behind_hypotheses bs M xs.locals hs.locals a))) e
    ∙ ap (λ ys. go_on (open_pis (pi_count xs.rest) (C ++ types ys) xs.rest v) (λ hs. behind_hypotheses bs M xs.locals hs.locals a)) (sym f)
    ∙ ap (λ B. go_on (open_pis (pi_count xs.rest) B xs.rest v) (λ hs. behind_hypotheses bs M xs.locals hs.locals a)) (sym d)
    ∙ ap (λ B. go_on (open_pis (pi_count xs.rest) B xs.rest v) (λ hs. behind_hypotheses bs M xs.locals hs.locals a)) (sym s)
    ∙ ap (λ i. go_on (open_pis i E xs.rest v) (λ hs. behind_hypotheses bs M xs.locals hs.locals a)) (sym c)
    ∙ ap (λ r. go_on r (λ hs. behind_hypotheses bs M xs.locals hs.locals a)) o
    ∙ ap (λ ys. behind_hypotheses bs M ys hs.locals a w) (sym g)
    ∙ ap (λ ys. behind_hypotheses bs M G ys a w) (sym h)
