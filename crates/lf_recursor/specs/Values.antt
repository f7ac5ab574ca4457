-- What opened terms, families and what recursors are made of stand for.
use Rattle.std.specs.Prelude.{◌≡◌}
use Rattle.lf_rules.specs.Telescope.{Opened}
use Rattle.lf_rules.specs.Recursor.{Family, Called, shared}
use Rattle.lf_recursor.specs.declared.telescope.Opened.{Opened as CodeOpened}
use Rattle.lf_recursor.specs.declared.family.Family.{Family as CodeFamily}
use Rattle.lf_recursor.specs.declared.recursor.Called.{Called as CodeCalled}
use Rattle.lf_recursor.specs.declared.recursor.Scheme.{Scheme as CodeScheme}

abbrev pub opened_of : CodeOpened → Opened
opened_of o = record { locals = o.locals.items; rest = o.rest }

abbrev pub family_of : CodeFamily → Family
family_of f = record { name = f.name; levels = f.levels; params = f.params.items; rest = f.rest; cases = f.cases.items }

abbrev pub called_of : CodeCalled → Called
called_of c = record { name = c.name; levels = c.levels }

-- Its parameters, motive and minor premises are those of the family.
abbrev pub Shares : CodeScheme → Type 0
Shares s = s.shared.items ≡ shared (family_of s.family) s.level
