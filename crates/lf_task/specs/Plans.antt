-- What a text is elaborated by: its bytes, its commands and the units of each part; and the scope before each command.
use Rattle.std.specs.Prelude.{ℕ, List, [], ◌∷◌, fold, take}
use Rattle.lf_syntax.specs.declared.command.Command.{Command}
use Rattle.lf_elaboration.specs.Scope.{Scope, start, scope_after}

pub record Plan : Type 0 where
  pub text : List ℕ
  pub commands : List Command
  pub budget : ℕ

abbrev pub scope_before : List Command → ℕ → Scope
scope_before cs i = fold scope_after start (take i cs)

-- From a scope on, the scope before each command.
abbrev pub scopes_from : Scope → List Command → List Scope
scopes_from s [] = []
scopes_from s (c ∷ cs) = s ∷ scopes_from (scope_after s c) cs
