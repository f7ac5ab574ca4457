-- Whether an application is reduced when metavariables are put in.
use Rattle.std.specs.Prelude.{Bool, false, is_some}
use Rattle.lf_core.specs.Term.{Term, bound, free, meta, sort, const, app, lam, pi, letin, lit, proj}
use Rattle.lf_elaboration.specs.Metavariables.{Changes, value}

abbrev pub head_is_assigned : Changes → Term → Bool
head_is_assigned cs (bound i) = false
head_is_assigned cs (free k) = false
head_is_assigned cs (meta k) = is_some (value cs k)
head_is_assigned cs (sort l) = false
head_is_assigned cs (const c ls) = false
head_is_assigned cs (app f a) = head_is_assigned cs f
head_is_assigned cs (lam x A b) = false
head_is_assigned cs (pi x A B) = false
head_is_assigned cs (letin x A v b) = false
head_is_assigned cs (lit n) = false
head_is_assigned cs (proj s i t) = false
