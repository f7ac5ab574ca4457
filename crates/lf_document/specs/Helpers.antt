-- The definitions behind a `where`: children of the declared name, which a branch takes one after another, each with a header and a value of its
-- own. Later ones and the value see those before.
use Rattle.std.specs.Prelude.{Option, Some, None, List, [], ◌∷◌, ◌++◌, length}
use Rattle.lf_core.specs.Term.{Path}
use Rattle.lf_core.specs.declared.constant.ConstKind.TheVariants.{Def}
use Rattle.lf_syntax.specs.declared.command.Helper.{Helper}
use Rattle.lf_branch.specs.Branch.{Branch, verdict, with_constant}
use Rattle.lf_elaboration.specs.Part.{Part}
use Rattle.lf_document.specs.Task.{Task, ◌>>=◌, gives, judged, in_part}
use Rattle.lf_document.specs.Setting.{Setting, part, of_groups}
use Rattle.lf_document.specs.Naming.{if_taken}
use Rattle.lf_document.specs.Constants.{Header, with_value}
use Rattle.lf_document.specs.Headers.{stated_for_value, header_of}
use Rattle.lf_document.specs.Values.{written_value, completed}

abbrev pub helper_name : Header → Helper → Path
helper_name h x = h.info.name ++ x.name.name

-- It has the level names of its declaration. Its header is looked up from the declared name, and its value from its own name.
abbrev pub helper_part : Setting → Header → Branch → Helper → Path → Part
helper_part X h b x inside = part X b.view h.info.levels (Some inside) x.name.at

abbrev pub helper_header : Setting → Header → Branch → Helper → Task (Option Header)
helper_header X h b x = do
  r ← if_taken x.name.at (helper_name h x) (verdict b (helper_name h x)) (in_part X.budget x.name.at
      (judged (stated_for_value (helper_part X h b x h.info.name) (helper_name h x) (of_groups x.binders) (Some x.ty))))
  gives (header_of (helper_name h x) Def h.info.levels r.erred r.value)

-- One that is refused adds nothing, and the next one follows.
abbrev pub with_helper : Setting → Header → Branch → Helper → Option Header → Task Branch
with_helper X h b x None = gives b
with_helper X h b x (Some k) = do
  v ← completed X b.view x.name.at k
      (written_value (helper_part X h b x (helper_name h x)) k.info (length (of_groups x.binders)) x.value)
  gives (with_constant b (with_value k.info v))

abbrev pub helpers : Setting → Header → Branch → List Helper → Task Branch
helpers X h b [] = gives b
helpers X h b (x ∷ xs) = do
  k ← helper_header X h b x
  b' ← with_helper X h b x k
  helpers X h b' xs
