-- What is marked as done of a text, as the joined environment reads it: the values of heads and bodies by the numbers of their commands, and of
-- realized names. What isn't marked has made nothing.
use Rattle.std.specs.Prelude.{ℕ, zero, suc, ◌+◌, Bool, if◌then◌else◌, Option, Some, None, List, [], ◌∷◌, ◌++◌, flat_map}
use Rattle.lf_core.specs.Term.{Path}
use Rattle.lf_core.specs.Suffix.{spelling, fits_kind}
use Rattle.lf_core.specs.declared.suffix.Suffix.{Suffix}
use Rattle.lf_core.specs.declared.suffix.Suffix.TheVariants.{EqAt}
use Rattle.lf_core.specs.declared.constant.ConstInfo.{ConstInfo}
use Rattle.lf_document.specs.TaskValue.{TaskValue}
use Rattle.lf_document.specs.Constants.{Header}
use Rattle.lf_document.specs.Sequential.{Answers, Elaborated, elaborated, completed_by, nothing_done, suffixes}
use Rattle.lf_document.specs.Joined.{as_list, constant_names}

abbrev pub value_or : Option TaskValue → TaskValue
value_or (Some v) = v
value_or None = nothing_done

abbrev pub command_of : (ℕ → Option TaskValue) → (ℕ → Option TaskValue) → ℕ → Elaborated
command_of heads bodies i = elaborated (value_or (heads i)) (value_or (bodies i))

-- What the body of a header made.
abbrev pub body_made : Header → TaskValue → List ConstInfo
body_made h b = b.entries ++ completed_by h b.value

-- The first n commands.
abbrev pub commands_until : (ℕ → Option TaskValue) → (ℕ → Option TaskValue) → ℕ → List Elaborated
commands_until heads bodies zero = []
commands_until heads bodies (suc n) = commands_until heads bodies n ++ command_of heads bodies n ∷ []

abbrev pub made_by : (Path → Option TaskValue) → Answers
made_by reals n = (value_or (reals n)).made

-- ---- Realized constants, by a test of what was asked for

abbrev pub if_passed : (Path → Bool) → Answers → Path → List ConstInfo
if_passed p made n = if p n then as_list (made n) else []

abbrev pub with_suffix : (Path → Bool) → Answers → ConstInfo → Suffix → List ConstInfo
with_suffix p made c s = if fits_kind s c.kind then if_passed p made (c.name ++ spelling s ∷ []) else []

-- Of the first n numbered equations.
unfoldable pub numbered_until : (Path → Bool) → Answers → ConstInfo → ℕ → List ConstInfo
numbered_until p made c zero = []
numbered_until p made c (suc n) = numbered_until p made c n ++ with_suffix p made c (EqAt (n + 2))

unfoldable pub realized_of : (Path → Bool) → Answers → ConstInfo → List ConstInfo
realized_of p made c = flat_map (with_suffix p made c) suffixes

abbrev pub realized_by : (Path → Bool) → Answers → List ConstInfo → List ConstInfo
realized_by p made cs = flat_map (realized_of p made) cs

-- ---- What is gathered

abbrev pub group_with : (Path → Bool) → Answers → List ConstInfo → List ConstInfo
group_with p made cs = cs ++ realized_by p made cs

abbrev pub names_with : (Path → Bool) → Answers → List ConstInfo → List Path
names_with p made cs = constant_names (realized_by p made cs)

abbrev pub constants_in : (Path → Bool) → Answers → List ConstInfo → List Elaborated → List ConstInfo
constants_in p made base es = group_with p made base ++ flat_map (λ e. group_with p made e.constants) es

abbrev pub names_among : (Path → Bool) → Answers → List ConstInfo → List Elaborated → List Path
names_among p made base es = names_with p made base ++ flat_map (λ e. names_with p made e.constants) es
