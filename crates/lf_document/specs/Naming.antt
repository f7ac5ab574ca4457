-- What is asked of a declared name and of its level names, before anything is elaborated: the name isn't reserved, then that it is new, that no
-- written level name repeats another, and that there aren't too many.
use Rattle.std.specs.Prelude.{ℕ, ◌&&◌, nat_lt, if◌then◌else◌, Option, Some, None, length}
use Rattle.lf_core.specs.Term.{Path}
use Rattle.lf_core.specs.Suffix.{suffix_of, fits_kind}
use Rattle.lf_core.specs.declared.suffix.Suffix.{Suffix}
use Rattle.lf_syntax.specs.declared.leaf.Ident.{Ident}
use Rattle.lf_checker.specs.View.{View, There, there, not_there, not_known, stands_before, parent_of, last_of, there_of}
use Rattle.lf_checker.specs.Calls.{Seen, known, unknown, missing, see}
use Rattle.lf_branch.specs.Branch.{Verdict, not_owned, reserved, duplicate, waits, taken, by_there}
use Rattle.lf_elaboration.specs.Variables.{repeated_level}
use Rattle.lf_msg.specs.declared.naming.NamingError.TheVariants.{Reserved, Duplicate, TooManyLevelNames, DuplicateLevel}
use Rattle.lf_msg.specs.declared.diagnostic.Diagnostic.TheVariants.{Naming}
use Rattle.lf_document.specs.Task.{Task, Ended, needs, choose, refuses}
use Rattle.lf_document.specs.Setting.{Declaration}

-- As realizable names are looked up: by the parent, an entry of a fitting kind and of an earlier command, or a child that isn't known yet.
abbrev pub by_parent : View → Suffix → There → Seen → Verdict → Verdict
by_parent V s (there p) (known c) v = if fits_kind s c.kind && stands_before V.position p then reserved else v
by_parent V s (there p) unknown v = v
by_parent V s (there p) (missing k) v = waits k
by_parent V s (not_known k) q v = waits k
by_parent V s not_there q v = v

abbrev pub by_suffix : View → Path → Option Suffix → Verdict → Verdict
by_suffix V n (Some s) v = by_parent V s (there_of V (parent_of n)) (see V (parent_of n)) v
by_suffix V n None v = v

-- What a declared name is told.
abbrev pub verdict : View → Path → Verdict
verdict V n = by_suffix V n (suffix_of (last_of n)) (by_there (there_of V n))

-- The errors stand at the name. A helper's name is always owned: by the grammar it is the declared name and one part more.
abbrev pub if_taken : {A : Type 0} → ℕ → Path → Verdict → Task (Ended A) → Task (Ended A)
if_taken at n reserved m = refuses at (Naming (Reserved n))
if_taken at n (duplicate p) m = refuses at (Naming (Duplicate n))
if_taken at n (waits k) m = needs k
if_taken at n taken m = m
if_taken at n not_owned m = m

abbrev pub unless_repeated : {A : Type 0} → Option Ident → Task (Ended A) → Task (Ended A)
unless_repeated (Some x) m = refuses x.at (Naming (DuplicateLevel x.name))
unless_repeated None m = m

abbrev pub at_most : {A : Type 0} → ℕ → ℕ → ℕ → Task (Ended A) → Task (Ended A)
at_most limit at n m = choose (nat_lt limit n) (refuses at (Naming (TooManyLevelNames limit))) m

-- A declaration that may have so many level names.
abbrev pub if_named : {A : Type 0} → View → ℕ → Declaration → Task (Ended A) → Task (Ended A)
if_named V limit D m = if_taken D.at D.name (verdict V D.name) (unless_repeated (repeated_level D.written) (at_most limit D.at (length D.levels) m))
