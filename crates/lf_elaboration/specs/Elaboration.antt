-- Terms and proofs, tied together by the number of nested calls that are still allowed. Each call of elaboration costs a unit at its start.
use Rattle.std.specs.Prelude.{ℕ, zero, suc, ◌-◌, Option, List, length}
use Rattle.lf_core.specs.Term.{Term}
use Rattle.lf_syntax.specs.Tree.{TermTree, ItemTree}
use Rattle.lf_checker.specs.Checker as checker
use Rattle.lf_elaboration.specs.Unifier as unifier
use Rattle.lf_elaboration.specs.Run.{gives_up, spend}
use Rattle.lf_elaboration.specs.Part.{Part, Locals, Run, Calls, Typed, given}
use Rattle.lf_elaboration.specs.Terms.{elaborate_body}
use Rattle.lf_elaboration.specs.Proof.{prove_body}
use Rattle.lf_elaboration.specs.Closing as closing

-- Where so many nested calls are still allowed.
abbrev pub calls : Part → ℕ → Calls
calls P zero = record {
  elaborate = λ t L s E. gives_up;
  prove = λ L goal is. gives_up;
  unify = unifier.unify P.view zero;
  check = checker.calls P.view zero;
  synthesize = P.synthesize zero;
}
calls P (suc n) = record {
  elaborate = λ t L s E. spend 1 (elaborate_body P (calls P n) t L s E);
  prove = λ L goal is. prove_body P (calls P n) L goal is;
  unify = unifier.unify P.view (suc n);
  check = checker.calls P.view (suc n);
  synthesize = P.synthesize (suc n);
}

-- A term against an expected type.
abbrev pub elaborate : Part → ℕ → Locals → TermTree → Option Term → Run Typed
elaborate P depth L s E = (calls P depth).elaborate given L s E

-- A proof of a goal by items.
abbrev pub prove : Part → ℕ → Locals → Term → List ItemTree → Run Term
prove P depth L goal is = (calls P depth).prove L goal is

-- What is done at the end of a part: for the metavariables from a number on, and for those of levels from a number on, where one is given.
abbrev pub close : Part → ℕ → Locals → ℕ → Option ℕ → Run (Unit {0})
close P depth L k levels = closing.close P (calls P depth) L k levels

-- What is done where the binder of the innermost of these locals closes.
abbrev pub close_binder : Part → ℕ → Locals → ℕ → Run (Unit {0})
close_binder P depth L k = closing.close_binder P (calls P depth) L k (length L.types - 1)
