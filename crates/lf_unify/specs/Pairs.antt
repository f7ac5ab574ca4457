-- What two terms are together. A device of the proof.
use Rattle.std.specs.Prelude.{ℕ, zero, suc, ◌^◌, Bool, true, false, ◌&&◌, nat_lt, Option, Some, None}
use Rattle.lf_core.specs.Term.{Term}
use Rattle.lf_core.specs.Same.{same}
use Rattle.lf_rules.specs.Environment.{nat_succ}
use Rattle.lf_elaboration.specs.Forms.{Applied}

abbrev pub both : {A B : Type 0} → Option A → Option B → Option (A × B)
both (Some x) (Some y) = Some (x, y)
both (Some x) None = None
both None y = None

abbrev pub some_when : {A : Type 0} → Bool → A → Option A
some_when true x = Some x
some_when false x = None

-- The number before n, where f is the successor and there is one.
unfoldable pub number_before : Term → ℕ → Option ℕ
number_before f zero = None
number_before f (suc n) = some_when (same f nat_succ && nat_lt (suc n) (2 ^ 128)) n

abbrev pub beside : {A B : Type 0} → A → Option B → Option (A × B)
beside x (Some y) = Some (x, y)
beside x None = None

-- Of the successor of a term and a literal that isn't 0: the term, and the number before.
abbrev pub predecessors : Option Applied → Option ℕ → Option (Term × ℕ)
predecessors (Some s) (Some n) = beside s.argument (number_before s.function n)
predecessors (Some s) None = None
predecessors None n = None
