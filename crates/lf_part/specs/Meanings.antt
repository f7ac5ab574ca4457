-- What the code finds for an identifier, as the definition has it, and parts of the definition's runs that are functions of the code.
use Rattle.std.specs.Prelude.{ℕ, List, length}
use Rattle.lf_core.specs.Term.{Path, Universe}
use Rattle.lf_core.specs.declared.constant.ConstInfo.{ConstInfo}
use Rattle.lf_syntax.specs.declared.leaf.Ident.{Ident}
use Rattle.lf_syntax.specs.Tree.{LevelTree}
use Rattle.lf_checker.specs.View.{View}
use Rattle.lf_checker.specs.Calls.{see}
use Rattle.lf_checker.specs.Extends.{shape_of}
use Rattle.lf_elaboration.specs.Messages as says
use Rattle.lf_elaboration.specs.Run.{◌>>=◌, gives}
use Rattle.lf_elaboration.specs.Part.{Part, Run, Typed, error}
use Rattle.lf_elaboration.specs.Identifiers as spec
use Rattle.lf_elaboration.specs.Identifiers.{fresh_levels, levels_at, constant_at}
use Rattle.lf_part.specs.declared.identifiers.Meaning.{Meaning}
use Rattle.lf_part.specs.declared.identifiers.Meaning.TheVariants.{OwnType, Constant, Nothing, Waits}

abbrev pub meaning : Meaning → spec.Meaning
meaning (OwnType n) = spec.own_type n
meaning (Constant n c) = spec.constant n (shape_of c.now)
meaning Nothing = spec.nothing
meaning (Waits k) = spec.waits k

abbrev pub own_at : View → Path → Ident → List Universe → Run Typed
own_at V n x ls = spec.own_at n x ls (see V n)

abbrev pub of_constant : Part → Ident → List LevelTree → Path → ConstInfo → Run Typed
of_constant P x ls n c = spec.of_meaning P x ls (spec.constant n (shape_of c))

abbrev pub at_written_levels : Part → Ident → List LevelTree → Path → ConstInfo → Run Typed
at_written_levels P x ls n c = do
  ms ← levels_at P.levels x n (length c.levels) ls
  constant_at n ms c.ty

abbrev pub unknown_at : ℕ → Path → Run Typed
unknown_at at n = error at (says.unknown_identifier n)

abbrev pub at_fresh_levels : Path → ConstInfo → Run Typed
at_fresh_levels n c = do
  ls ← fresh_levels (length c.levels)
  constant_at n ls c.ty
