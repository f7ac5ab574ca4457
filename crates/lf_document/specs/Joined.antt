-- The joined environment: the base; then for each command the constants of its branch and its own; and behind each of these groups the realized
-- constants of its members that some command asked for.
use Rattle.std.specs.Prelude.{ℕ, Option, Some, None, if◌then◌else◌, List, [], ◌∷◌, ◌++◌, map, flat_map, length}
use Rattle.lf_core.specs.Term.{Path}
use Rattle.lf_core.specs.declared.constant.ConstInfo.{ConstInfo}
use Rattle.lf_rules.specs.Recursor.{is_among}
use Rattle.lf_syntax.specs.declared.command.Command.{Command}
use Rattle.lf_checker.specs.View.{View, Entry, find_entry}
use Rattle.lf_msg.specs.declared.message.Message.{Message}
use Rattle.lf_document.specs.Sequential.{Answers, realizable_by, Ground, Elaborated, Progress, elaborate_document}

-- The text and the units of its parts, all constants, how many of them are the base's, the names of the realized ones, and the messages, in order.
pub record Joined : Type 0 where
  pub text : List ℕ
  pub budget : ℕ
  pub base : ℕ
  pub constants : List ConstInfo
  pub realized : List Path
  pub messages : List Message

-- ---- What was asked for, by heads and bodies

abbrev pub asked_by : Elaborated → List Path
asked_by e = e.head.asked ++ e.body.asked

-- ---- The realized constants of some constants, in the order of these and then of the suffixes

abbrev pub as_list : Option ConstInfo → List ConstInfo
as_list (Some c) = c ∷ []
as_list None = []

abbrev pub if_asked : Answers → List Path → Path → List ConstInfo
if_asked made asked n = if is_among n asked then as_list (made n) else []

abbrev pub realized_for : Answers → List Path → List ConstInfo → List ConstInfo
realized_for made asked cs = flat_map (if_asked made asked) (flat_map realizable_by cs)

-- ---- The groups: the base, and each command

abbrev pub groups : List ConstInfo → List Elaborated → List (List ConstInfo)
groups base es = base ∷ map (λ e. e.constants) es

abbrev pub with_realized : Answers → List Path → List ConstInfo → List ConstInfo
with_realized made asked cs = cs ++ realized_for made asked cs

abbrev pub constant_names : List ConstInfo → List Path
constant_names cs = map (λ c. c.name) cs

-- The messages of a head come before those of its body.
abbrev pub messages_of : Elaborated → List Message
messages_of e = e.head.messages.messages ++ e.body.messages.messages

-- From the values of a text's heads and bodies, and what was made of the names that they asked for.
abbrev pub joined : List ℕ → ℕ → List ConstInfo → Answers → List Elaborated → Joined
joined text units base made es = record {
  text = text;
  budget = units;
  base = length base;
  constants = flat_map (with_realized made (flat_map asked_by es)) (groups base es);
  realized = constant_names (flat_map (realized_for made (flat_map asked_by es)) (groups base es));
  messages = flat_map messages_of es;
}

-- ---- Of a text

abbrev pub info_of : Option Entry → Option ConstInfo
info_of (Some e) = Some e.info
info_of None = None

-- What a view has for realizable names.
abbrev pub made_in : View → Answers
made_in V n = info_of (find_entry V.realized n)

abbrev pub joined_progress : Ground → List ℕ → Progress → Joined
joined_progress G text P = joined text G.budget G.base (made_in P.view) P.commands

abbrev pub joined_document : Ground → List ℕ → List Command → Joined
joined_document G text cs = joined_progress G text (elaborate_document G cs)
