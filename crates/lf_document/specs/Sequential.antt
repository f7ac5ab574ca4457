-- A text elaborated one command after another, each over all that stands before it: a fold over the commands, over a base and a way in which
-- names are realized. No branch is open and no name is unanswered in its views.
use Rattle.std.specs.Prelude.{
  ℕ,
  zero,
  suc,
  ◌+◌,
  not,
  Option,
  Some,
  None,
  is_some,
  List,
  [],
  ◌∷◌,
  ◌++◌,
  fold,
  map,
  filter,
  flat_map,
  take,
  slice_get,
}
use Rattle.lf_core.specs.Term.{Path}
use Rattle.lf_core.specs.Suffix.{spelling, fits_kind}
use Rattle.lf_core.specs.declared.constant.ConstInfo.{ConstInfo}
use Rattle.lf_core.specs.declared.constant.TaskKey.{TaskKey}
use Rattle.lf_core.specs.declared.constant.TaskKey.TheVariants.{Head, Body, Real}
use Rattle.lf_core.specs.declared.suffix.Suffix.{Suffix}
use Rattle.lf_core.specs.declared.suffix.Suffix.TheVariants.{Eq1, EqDef, Inj, InjEq, EqAt}
use Rattle.lf_syntax.specs.declared.command.Command.{Command}
use Rattle.lf_checker.specs.View.{View, base_view, base_position, find_entry, origin_of, answered, view_at, view_real_at}
use Rattle.lf_elaboration.specs.Scope.{Scope, start, scope_after}
use Rattle.lf_document.specs.Task.{nothing_told}
use Rattle.lf_document.specs.Setting.{Setting}
use Rattle.lf_document.specs.Constants.{Valued, Header, nothing_made, with_value}
use Rattle.lf_document.specs.StructureCommand.{pushed_all}
use Rattle.lf_document.specs.TaskValue.{TaskValue, made_and_told, Outcome, has, waits_for, head_value, body_value, real_value, real_made}

-- ---- Realizable names

abbrev pub numbered : ℕ → ℕ → List Suffix
numbered k zero = []
numbered k (suc n) = EqAt k ∷ numbered (suc k) n

-- In the order in which the constants that they name stand behind their parent's: `eq_1`, `eq_def`, `inj`, `injEq`, and then `eq_2` to `eq_65`.
abbrev pub suffixes : List Suffix
suffixes = Eq1 ∷ EqDef ∷ Inj ∷ InjEq ∷ numbered 2 64

abbrev pub realizable_by : ConstInfo → List Path
realizable_by c = map (λ s. c.name ++ spelling s ∷ []) (filter (λ s. fits_kind s c.kind) suffixes)

-- Those of the constants, but for names that have an entry.
abbrev pub realizable : View → List ConstInfo → List Path
realizable V cs = filter (λ n. not (is_some (find_entry V.entries n))) (flat_map realizable_by cs)

-- What stands for realizable names of a view.
abbrev pub Answers : Type 0
Answers = Path → Option ConstInfo

abbrev pub with_answers : Answers → View → List Path → View
with_answers f V [] = V
with_answers f V (n ∷ ns) = with_answers f (answered V n (f n)) ns

-- ---- What a text is elaborated over

-- The constants of the base, how names are realized over the view of their origin, those of the base too, and the units of each part.
pub record Ground : Type 0 where
  pub base : List ConstInfo
  pub realizes : View → Answers
  pub budget : ℕ

abbrev pub made_by : Outcome → Option ConstInfo
made_by (has v) = v.made
made_by (waits_for k) = None

-- By the rules of realized constants, in units of their own.
abbrev pub realized_in : ℕ → View → Answers
realized_in units V n = made_by (real_value V units n)

-- No name stands for anything.
abbrev pub none_realized : View → Answers
none_realized V n = None

-- Over these constants as the base, where all names are realized by the rules, each in as many units as a part has.
abbrev pub over_base : List ConstInfo → ℕ → Ground
over_base base units = record { base = base; realizes = realized_in units; budget = units }

-- ---- The fold

-- A command's head and body, and the constants that it makes, in order: those of its branch, and then its own.
pub record Elaborated : Type 0 where
  pub head : TaskValue
  pub body : TaskValue
  pub constants : List ConstInfo

-- All that is known behind the commands so far, the scope there, and their values, in order.
pub record Progress : Type 0 where
  pub view : View
  pub scope : Scope
  pub position : ℕ
  pub commands : List Elaborated

-- The base, and an answer for each of its realizable names, over the base alone.
abbrev pub ground_view : Ground → View
ground_view G = with_answers (G.realizes (view_real_at (base_view G.base) base_position)) (base_view G.base) (realizable (base_view G.base) G.base)

abbrev pub before_all : Ground → Progress
before_all G = record { view = ground_view G; scope = start; position = 0; commands = [] }

-- A view in which nothing is open leaves nothing to wait for.
abbrev pub nothing_done : TaskValue
nothing_done = made_and_told nothing_made nothing_told

abbrev pub value_or_nothing : Outcome → TaskValue
value_or_nothing (has v) = v
value_or_nothing (waits_for k) = nothing_done

abbrev pub setting_at : Ground → Progress → Setting
setting_at G P = record { view = view_at P.view P.position; scope = P.scope; position = P.position; budget = G.budget }

abbrev pub head_at : Ground → Progress → Command → TaskValue
head_at G P c = value_or_nothing (head_value (setting_at G P) c)

abbrev pub body_at : Ground → Progress → Command → Option Header → TaskValue
body_at G P c h = value_or_nothing (body_value (setting_at G P) c h)

abbrev pub body_for : Ground → Progress → Command → TaskValue
body_for G P c = body_at G P c (head_at G P c).header

abbrev pub completed_by : Header → Option Valued → List ConstInfo
completed_by h (Some v) = with_value h.info v ∷ []
completed_by h None = []

abbrev pub constants_by : Option Header → TaskValue → TaskValue → List ConstInfo
constants_by (Some h) a b = b.entries ++ completed_by h b.value
constants_by None a b = a.entries

abbrev pub elaborated : TaskValue → TaskValue → Elaborated
elaborated a b = record { head = a; body = b; constants = constants_by a.header a b }

-- The constants stand in the view, in their order; and then each of their realizable names is answered, over the view without these answers.
abbrev pub all_answered : Ground → View → ℕ → List ConstInfo → View
all_answered G V i cs = with_answers (G.realizes (view_real_at V i)) V (realizable V cs)

abbrev pub progress_with : Ground → Progress → Command → Elaborated → Progress
progress_with G P c e = record {
  view = all_answered G (pushed_all P.view e.constants P.position) P.position e.constants;
  scope = scope_after P.scope c;
  position = P.position + 1;
  commands = P.commands ++ e ∷ [];
}

abbrev pub elaborated_at : Ground → Progress → Command → Elaborated
elaborated_at G P c = elaborated (head_at G P c) (body_for G P c)

abbrev pub elaborate_command : Ground → Progress → Command → Progress
elaborate_command G P c = progress_with G P c (elaborated_at G P c)

abbrev pub elaborate_document : Ground → List Command → Progress
elaborate_document G cs = fold (elaborate_command G) (before_all G) cs

abbrev pub constants_of : Progress → List ConstInfo
constants_of P = flat_map (λ e. e.constants) P.commands

-- ---- The value of each task of a text: a head or a body over all that stands before its command, a realized constant over what stands at its
-- origin, without the other realized constants of that.

abbrev pub at_command : (Command → TaskValue) → Option Command → TaskValue
at_command f (Some c) = f c
at_command f None = nothing_done

abbrev pub real_for : Ground → View → Path → TaskValue
real_for G V n = real_made (G.realizes (view_real_at V (origin_of V n)) n)

abbrev pub value_for : Ground → List Command → TaskKey → TaskValue
value_for G cs (Head i) = at_command (head_at G (elaborate_document G (take i cs))) (slice_get cs i)
value_for G cs (Body i) = at_command (body_for G (elaborate_document G (take i cs))) (slice_get cs i)
value_for G cs (Real n) = real_for G (elaborate_document G cs).view n
