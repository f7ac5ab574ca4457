-- The definition's runs behind the elaborated term or type, where so many nested calls are still allowed.
use Rattle.std.specs.Prelude.{ℕ, List, [], ◌∷◌}
use Rattle.lf_core.specs.Term.{Path, Term}
use Rattle.lf_core.specs.declared.constant.ConstInfo.{ConstInfo}
use Rattle.lf_core.specs.declared.constant.ConstKind.TheVariants.{Def}
use Rattle.lf_checker.specs.Checker.{add_header, add_decl}
use Rattle.lf_elaboration.specs.Run.{◌>>=◌, ◌>>◌, gives, put}
use Rattle.lf_elaboration.specs.Part.{Part, Run}
use Rattle.lf_elaboration.specs.Closing.{sorry_of}
use Rattle.lf_document.specs.Task.{Judged, right}
use Rattle.lf_document.specs.Setting.{by_kernel}
use Rattle.lf_document.specs.Constants.{Valued, without_value, with_value}
use Rattle.lf_document.specs.Headers.{Stated}

abbrev pub stated_at : Part → ℕ → Path → Term → Run Stated
stated_at P d n T = do
  l ← by_kernel P (add_header P.view d n T)
  gives (record { ty = T; sort = l })

abbrev pub for_value : Stated → Run Stated
for_value h = do
  put (sorry_of h.sort h.ty)
  gives h

abbrev pub accepted_at : Part → ℕ → ConstInfo → Term → Run Valued
accepted_at P d c t = do
  h ← by_kernel P (add_decl P.view d (with_value c (record { term = t; height = 0 })))
  gives (record { term = t; height = h })

abbrev pub definition_at : Part → ℕ → Path → List Path → Term → Term → Run (Judged (List ConstInfo))
definition_at P d n ls t T = do
  l ← by_kernel P (add_header P.view d n T)
  v ← accepted_at P d (without_value n Def ls T) t
  gives (right (with_value (without_value n Def ls T) v ∷ []))
