-- The texts for each row, by the machine.
use Rattle.std.proofs.Common.{◌≡◌, refl}
use Rattle.std.specs.Str.{chars}
use Rattle.std.specs.Char.{encode_utf8}
use Rattle.unicode_ident.proofs.Computing.{unicode_ident}
use Rattle.lf_text.specs.Lexemes.{lexemes_of, starts_part, continues_part}
use Rattle.lf_text.specs.Tokens.{tokens_of}
use Rattle.lf_syntax.specs.Classes.{pieces_of}
use Rattle.lf_grammar_lemmas.specs.Outcome.{outcome, answer_of}
use Rattle.lf_grammar_laws.specs.Worked.{Text, Right}
use Rattle.lf_grammar_lemmas.proofs.Grammar.{machine_answers}
use Rattle.lf_grammar_texts.specs.EachRow as texts
use Rattle.lf_grammar_texts.specs.EachRow.{EachRow}

right : (t : Text) → answer_of (outcome (pieces_of t.bytes)) ≡ t.answer (pieces_of t.bytes) → Right t
right t e = (machine_answers (pieces_of t.bytes) (t.answer (pieces_of t.bytes))).1 e

argument_1 : Right texts.argument_1
unfolding lexemes_of tokens_of chars starts_part continues_part unicode_ident encode_utf8
argument_1 = right texts.argument_1 refl

argument_2 : Right texts.argument_2
unfolding lexemes_of tokens_of chars starts_part continues_part unicode_ident encode_utf8
argument_2 = right texts.argument_2 refl

argument_3 : Right texts.argument_3
unfolding lexemes_of tokens_of chars starts_part continues_part unicode_ident encode_utf8
argument_3 = right texts.argument_3 refl

argument_4 : Right texts.argument_4
unfolding lexemes_of tokens_of chars starts_part continues_part unicode_ident encode_utf8
argument_4 = right texts.argument_4 refl

argument_5 : Right texts.argument_5
unfolding lexemes_of tokens_of chars starts_part continues_part unicode_ident encode_utf8
argument_5 = right texts.argument_5 refl

argument_6 : Right texts.argument_6
unfolding lexemes_of tokens_of chars starts_part continues_part unicode_ident encode_utf8
argument_6 = right texts.argument_6 refl

argument_7 : Right texts.argument_7
unfolding lexemes_of tokens_of chars starts_part continues_part unicode_ident encode_utf8
argument_7 = right texts.argument_7 refl

argument_8 : Right texts.argument_8
unfolding lexemes_of tokens_of chars starts_part continues_part unicode_ident encode_utf8
argument_8 = right texts.argument_8 refl

head_1 : Right texts.head_1
unfolding lexemes_of tokens_of chars starts_part continues_part unicode_ident encode_utf8
head_1 = right texts.head_1 refl

head_2 : Right texts.head_2
unfolding lexemes_of tokens_of chars starts_part continues_part unicode_ident encode_utf8
head_2 = right texts.head_2 refl

head_3 : Right texts.head_3
unfolding lexemes_of tokens_of chars starts_part continues_part unicode_ident encode_utf8
head_3 = right texts.head_3 refl

head_4 : Right texts.head_4
unfolding lexemes_of tokens_of chars starts_part continues_part unicode_ident encode_utf8
head_4 = right texts.head_4 refl

head_5 : Right texts.head_5
unfolding lexemes_of tokens_of chars starts_part continues_part unicode_ident encode_utf8
head_5 = right texts.head_5 refl

head_6 : Right texts.head_6
unfolding lexemes_of tokens_of chars starts_part continues_part unicode_ident encode_utf8
head_6 = right texts.head_6 refl

head_7 : Right texts.head_7
unfolding lexemes_of tokens_of chars starts_part continues_part unicode_ident encode_utf8
head_7 = right texts.head_7 refl

head_8 : Right texts.head_8
unfolding lexemes_of tokens_of chars starts_part continues_part unicode_ident encode_utf8
head_8 = right texts.head_8 refl

head_9 : Right texts.head_9
unfolding lexemes_of tokens_of chars starts_part continues_part unicode_ident encode_utf8
head_9 = right texts.head_9 refl

binder_1 : Right texts.binder_1
unfolding lexemes_of tokens_of chars starts_part continues_part unicode_ident encode_utf8
binder_1 = right texts.binder_1 refl

binder_2 : Right texts.binder_2
unfolding lexemes_of tokens_of chars starts_part continues_part unicode_ident encode_utf8
binder_2 = right texts.binder_2 refl

binder_3 : Right texts.binder_3
unfolding lexemes_of tokens_of chars starts_part continues_part unicode_ident encode_utf8
binder_3 = right texts.binder_3 refl

binder_4 : Right texts.binder_4
unfolding lexemes_of tokens_of chars starts_part continues_part unicode_ident encode_utf8
binder_4 = right texts.binder_4 refl

binder_5 : Right texts.binder_5
unfolding lexemes_of tokens_of chars starts_part continues_part unicode_ident encode_utf8
binder_5 = right texts.binder_5 refl

binder_6 : Right texts.binder_6
unfolding lexemes_of tokens_of chars starts_part continues_part unicode_ident encode_utf8
binder_6 = right texts.binder_6 refl

binder_7 : Right texts.binder_7
unfolding lexemes_of tokens_of chars starts_part continues_part unicode_ident encode_utf8
binder_7 = right texts.binder_7 refl

binder_8 : Right texts.binder_8
unfolding lexemes_of tokens_of chars starts_part continues_part unicode_ident encode_utf8
binder_8 = right texts.binder_8 refl

binder_9 : Right texts.binder_9
unfolding lexemes_of tokens_of chars starts_part continues_part unicode_ident encode_utf8
binder_9 = right texts.binder_9 refl

binder_10 : Right texts.binder_10
unfolding lexemes_of tokens_of chars starts_part continues_part unicode_ident encode_utf8
binder_10 = right texts.binder_10 refl

binder_11 : Right texts.binder_11
unfolding lexemes_of tokens_of chars starts_part continues_part unicode_ident encode_utf8
binder_11 = right texts.binder_11 refl

binder_12 : Right texts.binder_12
unfolding lexemes_of tokens_of chars starts_part continues_part unicode_ident encode_utf8
binder_12 = right texts.binder_12 refl

binder_13 : Right texts.binder_13
unfolding lexemes_of tokens_of chars starts_part continues_part unicode_ident encode_utf8
binder_13 = right texts.binder_13 refl

binder_14 : Right texts.binder_14
unfolding lexemes_of tokens_of chars starts_part continues_part unicode_ident encode_utf8
binder_14 = right texts.binder_14 refl

binder_15 : Right texts.binder_15
unfolding lexemes_of tokens_of chars starts_part continues_part unicode_ident encode_utf8
binder_15 = right texts.binder_15 refl

binder_16 : Right texts.binder_16
unfolding lexemes_of tokens_of chars starts_part continues_part unicode_ident encode_utf8
binder_16 = right texts.binder_16 refl

binder_17 : Right texts.binder_17
unfolding lexemes_of tokens_of chars starts_part continues_part unicode_ident encode_utf8
binder_17 = right texts.binder_17 refl

binder_18 : Right texts.binder_18
unfolding lexemes_of tokens_of chars starts_part continues_part unicode_ident encode_utf8
binder_18 = right texts.binder_18 refl

binder_19 : Right texts.binder_19
unfolding lexemes_of tokens_of chars starts_part continues_part unicode_ident encode_utf8
binder_19 = right texts.binder_19 refl

binder_20 : Right texts.binder_20
unfolding lexemes_of tokens_of chars starts_part continues_part unicode_ident encode_utf8
binder_20 = right texts.binder_20 refl

level_1 : Right texts.level_1
unfolding lexemes_of tokens_of chars starts_part continues_part unicode_ident encode_utf8
level_1 = right texts.level_1 refl

level_2 : Right texts.level_2
unfolding lexemes_of tokens_of chars starts_part continues_part unicode_ident encode_utf8
level_2 = right texts.level_2 refl

level_3 : Right texts.level_3
unfolding lexemes_of tokens_of chars starts_part continues_part unicode_ident encode_utf8
level_3 = right texts.level_3 refl

level_4 : Right texts.level_4
unfolding lexemes_of tokens_of chars starts_part continues_part unicode_ident encode_utf8
level_4 = right texts.level_4 refl

level_5 : Right texts.level_5
unfolding lexemes_of tokens_of chars starts_part continues_part unicode_ident encode_utf8
level_5 = right texts.level_5 refl

level_6 : Right texts.level_6
unfolding lexemes_of tokens_of chars starts_part continues_part unicode_ident encode_utf8
level_6 = right texts.level_6 refl

level_7 : Right texts.level_7
unfolding lexemes_of tokens_of chars starts_part continues_part unicode_ident encode_utf8
level_7 = right texts.level_7 refl

level_8 : Right texts.level_8
unfolding lexemes_of tokens_of chars starts_part continues_part unicode_ident encode_utf8
level_8 = right texts.level_8 refl

level_9 : Right texts.level_9
unfolding lexemes_of tokens_of chars starts_part continues_part unicode_ident encode_utf8
level_9 = right texts.level_9 refl

level_10 : Right texts.level_10
unfolding lexemes_of tokens_of chars starts_part continues_part unicode_ident encode_utf8
level_10 = right texts.level_10 refl

level_11 : Right texts.level_11
unfolding lexemes_of tokens_of chars starts_part continues_part unicode_ident encode_utf8
level_11 = right texts.level_11 refl

level_12 : Right texts.level_12
unfolding lexemes_of tokens_of chars starts_part continues_part unicode_ident encode_utf8
level_12 = right texts.level_12 refl

level_13 : Right texts.level_13
unfolding lexemes_of tokens_of chars starts_part continues_part unicode_ident encode_utf8
level_13 = right texts.level_13 refl

level_14 : Right texts.level_14
unfolding lexemes_of tokens_of chars starts_part continues_part unicode_ident encode_utf8
level_14 = right texts.level_14 refl

operator_1 : Right texts.operator_1
unfolding lexemes_of tokens_of chars starts_part continues_part unicode_ident encode_utf8
operator_1 = right texts.operator_1 refl

operator_2 : Right texts.operator_2
unfolding lexemes_of tokens_of chars starts_part continues_part unicode_ident encode_utf8
operator_2 = right texts.operator_2 refl

operator_3 : Right texts.operator_3
unfolding lexemes_of tokens_of chars starts_part continues_part unicode_ident encode_utf8
operator_3 = right texts.operator_3 refl

operator_4 : Right texts.operator_4
unfolding lexemes_of tokens_of chars starts_part continues_part unicode_ident encode_utf8
operator_4 = right texts.operator_4 refl

operator_5 : Right texts.operator_5
unfolding lexemes_of tokens_of chars starts_part continues_part unicode_ident encode_utf8
operator_5 = right texts.operator_5 refl

operator_6 : Right texts.operator_6
unfolding lexemes_of tokens_of chars starts_part continues_part unicode_ident encode_utf8
operator_6 = right texts.operator_6 refl

operator_7 : Right texts.operator_7
unfolding lexemes_of tokens_of chars starts_part continues_part unicode_ident encode_utf8
operator_7 = right texts.operator_7 refl

operator_8 : Right texts.operator_8
unfolding lexemes_of tokens_of chars starts_part continues_part unicode_ident encode_utf8
operator_8 = right texts.operator_8 refl

operator_9 : Right texts.operator_9
unfolding lexemes_of tokens_of chars starts_part continues_part unicode_ident encode_utf8
operator_9 = right texts.operator_9 refl

operator_10 : Right texts.operator_10
unfolding lexemes_of tokens_of chars starts_part continues_part unicode_ident encode_utf8
operator_10 = right texts.operator_10 refl

operator_11 : Right texts.operator_11
unfolding lexemes_of tokens_of chars starts_part continues_part unicode_ident encode_utf8
operator_11 = right texts.operator_11 refl

operator_12 : Right texts.operator_12
unfolding lexemes_of tokens_of chars starts_part continues_part unicode_ident encode_utf8
operator_12 = right texts.operator_12 refl

operator_13 : Right texts.operator_13
unfolding lexemes_of tokens_of chars starts_part continues_part unicode_ident encode_utf8
operator_13 = right texts.operator_13 refl

operator_14 : Right texts.operator_14
unfolding lexemes_of tokens_of chars starts_part continues_part unicode_ident encode_utf8
operator_14 = right texts.operator_14 refl

operator_15 : Right texts.operator_15
unfolding lexemes_of tokens_of chars starts_part continues_part unicode_ident encode_utf8
operator_15 = right texts.operator_15 refl

operator_16 : Right texts.operator_16
unfolding lexemes_of tokens_of chars starts_part continues_part unicode_ident encode_utf8
operator_16 = right texts.operator_16 refl

operator_17 : Right texts.operator_17
unfolding lexemes_of tokens_of chars starts_part continues_part unicode_ident encode_utf8
operator_17 = right texts.operator_17 refl

operator_18 : Right texts.operator_18
unfolding lexemes_of tokens_of chars starts_part continues_part unicode_ident encode_utf8
operator_18 = right texts.operator_18 refl

operator_19 : Right texts.operator_19
unfolding lexemes_of tokens_of chars starts_part continues_part unicode_ident encode_utf8
operator_19 = right texts.operator_19 refl

item_1 : Right texts.item_1
unfolding lexemes_of tokens_of chars starts_part continues_part unicode_ident encode_utf8
item_1 = right texts.item_1 refl

item_2 : Right texts.item_2
unfolding lexemes_of tokens_of chars starts_part continues_part unicode_ident encode_utf8
item_2 = right texts.item_2 refl

item_3 : Right texts.item_3
unfolding lexemes_of tokens_of chars starts_part continues_part unicode_ident encode_utf8
item_3 = right texts.item_3 refl

item_4 : Right texts.item_4
unfolding lexemes_of tokens_of chars starts_part continues_part unicode_ident encode_utf8
item_4 = right texts.item_4 refl

command_1 : Right texts.command_1
unfolding lexemes_of tokens_of chars starts_part continues_part unicode_ident encode_utf8
command_1 = right texts.command_1 refl

command_2 : Right texts.command_2
unfolding lexemes_of tokens_of chars starts_part continues_part unicode_ident encode_utf8
command_2 = right texts.command_2 refl

command_3 : Right texts.command_3
unfolding lexemes_of tokens_of chars starts_part continues_part unicode_ident encode_utf8
command_3 = right texts.command_3 refl

command_4 : Right texts.command_4
unfolding lexemes_of tokens_of chars starts_part continues_part unicode_ident encode_utf8
command_4 = right texts.command_4 refl

command_5 : Right texts.command_5
unfolding lexemes_of tokens_of chars starts_part continues_part unicode_ident encode_utf8
command_5 = right texts.command_5 refl

command_6 : Right texts.command_6
unfolding lexemes_of tokens_of chars starts_part continues_part unicode_ident encode_utf8
command_6 = right texts.command_6 refl

command_7 : Right texts.command_7
unfolding lexemes_of tokens_of chars starts_part continues_part unicode_ident encode_utf8
command_7 = right texts.command_7 refl

command_8 : Right texts.command_8
unfolding lexemes_of tokens_of chars starts_part continues_part unicode_ident encode_utf8
command_8 = right texts.command_8 refl

command_9 : Right texts.command_9
unfolding lexemes_of tokens_of chars starts_part continues_part unicode_ident encode_utf8
command_9 = right texts.command_9 refl

command_10 : Right texts.command_10
unfolding lexemes_of tokens_of chars starts_part continues_part unicode_ident encode_utf8
command_10 = right texts.command_10 refl

command_11 : Right texts.command_11
unfolding lexemes_of tokens_of chars starts_part continues_part unicode_ident encode_utf8
command_11 = right texts.command_11 refl

command_12 : Right texts.command_12
unfolding lexemes_of tokens_of chars starts_part continues_part unicode_ident encode_utf8
command_12 = right texts.command_12 refl

command_13 : Right texts.command_13
unfolding lexemes_of tokens_of chars starts_part continues_part unicode_ident encode_utf8
command_13 = right texts.command_13 refl

command_14 : Right texts.command_14
unfolding lexemes_of tokens_of chars starts_part continues_part unicode_ident encode_utf8
command_14 = right texts.command_14 refl

command_15 : Right texts.command_15
unfolding lexemes_of tokens_of chars starts_part continues_part unicode_ident encode_utf8
command_15 = right texts.command_15 refl

command_16 : Right texts.command_16
unfolding lexemes_of tokens_of chars starts_part continues_part unicode_ident encode_utf8
command_16 = right texts.command_16 refl

command_17 : Right texts.command_17
unfolding lexemes_of tokens_of chars starts_part continues_part unicode_ident encode_utf8
command_17 = right texts.command_17 refl

command_18 : Right texts.command_18
unfolding lexemes_of tokens_of chars starts_part continues_part unicode_ident encode_utf8
command_18 = right texts.command_18 refl

command_19 : Right texts.command_19
unfolding lexemes_of tokens_of chars starts_part continues_part unicode_ident encode_utf8
command_19 = right texts.command_19 refl

command_20 : Right texts.command_20
unfolding lexemes_of tokens_of chars starts_part continues_part unicode_ident encode_utf8
command_20 = right texts.command_20 refl

command_21 : Right texts.command_21
unfolding lexemes_of tokens_of chars starts_part continues_part unicode_ident encode_utf8
command_21 = right texts.command_21 refl

command_22 : Right texts.command_22
unfolding lexemes_of tokens_of chars starts_part continues_part unicode_ident encode_utf8
command_22 = right texts.command_22 refl

command_23 : Right texts.command_23
unfolding lexemes_of tokens_of chars starts_part continues_part unicode_ident encode_utf8
command_23 = right texts.command_23 refl

command_24 : Right texts.command_24
unfolding lexemes_of tokens_of chars starts_part continues_part unicode_ident encode_utf8
command_24 = right texts.command_24 refl

command_25 : Right texts.command_25
unfolding lexemes_of tokens_of chars starts_part continues_part unicode_ident encode_utf8
command_25 = right texts.command_25 refl

command_26 : Right texts.command_26
unfolding lexemes_of tokens_of chars starts_part continues_part unicode_ident encode_utf8
command_26 = right texts.command_26 refl

command_27 : Right texts.command_27
unfolding lexemes_of tokens_of chars starts_part continues_part unicode_ident encode_utf8
command_27 = right texts.command_27 refl

command_28 : Right texts.command_28
unfolding lexemes_of tokens_of chars starts_part continues_part unicode_ident encode_utf8
command_28 = right texts.command_28 refl

command_29 : Right texts.command_29
unfolding lexemes_of tokens_of chars starts_part continues_part unicode_ident encode_utf8
command_29 = right texts.command_29 refl

command_30 : Right texts.command_30
unfolding lexemes_of tokens_of chars starts_part continues_part unicode_ident encode_utf8
command_30 = right texts.command_30 refl

command_31 : Right texts.command_31
unfolding lexemes_of tokens_of chars starts_part continues_part unicode_ident encode_utf8
command_31 = right texts.command_31 refl

command_32 : Right texts.command_32
unfolding lexemes_of tokens_of chars starts_part continues_part unicode_ident encode_utf8
command_32 = right texts.command_32 refl

command_33 : Right texts.command_33
unfolding lexemes_of tokens_of chars starts_part continues_part unicode_ident encode_utf8
command_33 = right texts.command_33 refl

command_34 : Right texts.command_34
unfolding lexemes_of tokens_of chars starts_part continues_part unicode_ident encode_utf8
command_34 = right texts.command_34 refl

reach_1 : Right texts.reach_1
unfolding lexemes_of tokens_of chars starts_part continues_part unicode_ident encode_utf8
reach_1 = right texts.reach_1 refl

reach_2 : Right texts.reach_2
unfolding lexemes_of tokens_of chars starts_part continues_part unicode_ident encode_utf8
reach_2 = right texts.reach_2 refl

reach_3 : Right texts.reach_3
unfolding lexemes_of tokens_of chars starts_part continues_part unicode_ident encode_utf8
reach_3 = right texts.reach_3 refl

reach_4 : Right texts.reach_4
unfolding lexemes_of tokens_of chars starts_part continues_part unicode_ident encode_utf8
reach_4 = right texts.reach_4 refl

reach_5 : Right texts.reach_5
unfolding lexemes_of tokens_of chars starts_part continues_part unicode_ident encode_utf8
reach_5 = right texts.reach_5 refl

reach_6 : Right texts.reach_6
unfolding lexemes_of tokens_of chars starts_part continues_part unicode_ident encode_utf8
reach_6 = right texts.reach_6 refl

reach_7 : Right texts.reach_7
unfolding lexemes_of tokens_of chars starts_part continues_part unicode_ident encode_utf8
reach_7 = right texts.reach_7 refl

reach_8 : Right texts.reach_8
unfolding lexemes_of tokens_of chars starts_part continues_part unicode_ident encode_utf8
reach_8 = right texts.reach_8 refl

reach_9 : Right texts.reach_9
unfolding lexemes_of tokens_of chars starts_part continues_part unicode_ident encode_utf8
reach_9 = right texts.reach_9 refl

reach_10 : Right texts.reach_10
unfolding lexemes_of tokens_of chars starts_part continues_part unicode_ident encode_utf8
reach_10 = right texts.reach_10 refl

reach_11 : Right texts.reach_11
unfolding lexemes_of tokens_of chars starts_part continues_part unicode_ident encode_utf8
reach_11 = right texts.reach_11 refl

reach_12 : Right texts.reach_12
unfolding lexemes_of tokens_of chars starts_part continues_part unicode_ident encode_utf8
reach_12 = right texts.reach_12 refl

reach_13 : Right texts.reach_13
unfolding lexemes_of tokens_of chars starts_part continues_part unicode_ident encode_utf8
reach_13 = right texts.reach_13 refl

reach_14 : Right texts.reach_14
unfolding lexemes_of tokens_of chars starts_part continues_part unicode_ident encode_utf8
reach_14 = right texts.reach_14 refl

reach_15 : Right texts.reach_15
unfolding lexemes_of tokens_of chars starts_part continues_part unicode_ident encode_utf8
reach_15 = right texts.reach_15 refl

reach_16 : Right texts.reach_16
unfolding lexemes_of tokens_of chars starts_part continues_part unicode_ident encode_utf8
reach_16 = right texts.reach_16 refl

reach_17 : Right texts.reach_17
unfolding lexemes_of tokens_of chars starts_part continues_part unicode_ident encode_utf8
reach_17 = right texts.reach_17 refl

reach_18 : Right texts.reach_18
unfolding lexemes_of tokens_of chars starts_part continues_part unicode_ident encode_utf8
reach_18 = right texts.reach_18 refl

reach_19 : Right texts.reach_19
unfolding lexemes_of tokens_of chars starts_part continues_part unicode_ident encode_utf8
reach_19 = right texts.reach_19 refl

reach_20 : Right texts.reach_20
unfolding lexemes_of tokens_of chars starts_part continues_part unicode_ident encode_utf8
reach_20 = right texts.reach_20 refl

reach_21 : Right texts.reach_21
unfolding lexemes_of tokens_of chars starts_part continues_part unicode_ident encode_utf8
reach_21 = right texts.reach_21 refl

reach_22 : Right texts.reach_22
unfolding lexemes_of tokens_of chars starts_part continues_part unicode_ident encode_utf8
reach_22 = right texts.reach_22 refl

bad_1 : Right texts.bad_1
unfolding lexemes_of tokens_of chars starts_part continues_part unicode_ident encode_utf8
bad_1 = right texts.bad_1 refl

bad_2 : Right texts.bad_2
unfolding lexemes_of tokens_of chars starts_part continues_part unicode_ident encode_utf8
bad_2 = right texts.bad_2 refl

bad_3 : Right texts.bad_3
unfolding lexemes_of tokens_of chars starts_part continues_part unicode_ident encode_utf8
bad_3 = right texts.bad_3 refl

bad_4 : Right texts.bad_4
unfolding lexemes_of tokens_of chars starts_part continues_part unicode_ident encode_utf8
bad_4 = right texts.bad_4 refl

bad_5 : Right texts.bad_5
unfolding lexemes_of tokens_of chars starts_part continues_part unicode_ident encode_utf8
bad_5 = right texts.bad_5 refl

bad_6 : Right texts.bad_6
unfolding lexemes_of tokens_of chars starts_part continues_part unicode_ident encode_utf8
bad_6 = right texts.bad_6 refl

bad_7 : Right texts.bad_7
unfolding lexemes_of tokens_of chars starts_part continues_part unicode_ident encode_utf8
bad_7 = right texts.bad_7 refl

bad_8 : Right texts.bad_8
unfolding lexemes_of tokens_of chars starts_part continues_part unicode_ident encode_utf8
bad_8 = right texts.bad_8 refl

bad_9 : Right texts.bad_9
unfolding lexemes_of tokens_of chars starts_part continues_part unicode_ident encode_utf8
bad_9 = right texts.bad_9 refl

bad_10 : Right texts.bad_10
unfolding lexemes_of tokens_of chars starts_part continues_part unicode_ident encode_utf8
bad_10 = right texts.bad_10 refl

bad_11 : Right texts.bad_11
unfolding lexemes_of tokens_of chars starts_part continues_part unicode_ident encode_utf8
bad_11 = right texts.bad_11 refl

bad_12 : Right texts.bad_12
unfolding lexemes_of tokens_of chars starts_part continues_part unicode_ident encode_utf8
bad_12 = right texts.bad_12 refl

bad_13 : Right texts.bad_13
unfolding lexemes_of tokens_of chars starts_part continues_part unicode_ident encode_utf8
bad_13 = right texts.bad_13 refl

bad_14 : Right texts.bad_14
unfolding lexemes_of tokens_of chars starts_part continues_part unicode_ident encode_utf8
bad_14 = right texts.bad_14 refl

bad_15 : Right texts.bad_15
unfolding lexemes_of tokens_of chars starts_part continues_part unicode_ident encode_utf8
bad_15 = right texts.bad_15 refl

bad_16 : Right texts.bad_16
unfolding lexemes_of tokens_of chars starts_part continues_part unicode_ident encode_utf8
bad_16 = right texts.bad_16 refl

bad_17 : Right texts.bad_17
unfolding lexemes_of tokens_of chars starts_part continues_part unicode_ident encode_utf8
bad_17 = right texts.bad_17 refl

bad_18 : Right texts.bad_18
unfolding lexemes_of tokens_of chars starts_part continues_part unicode_ident encode_utf8
bad_18 = right texts.bad_18 refl

bad_19 : Right texts.bad_19
unfolding lexemes_of tokens_of chars starts_part continues_part unicode_ident encode_utf8
bad_19 = right texts.bad_19 refl

bad_20 : Right texts.bad_20
unfolding lexemes_of tokens_of chars starts_part continues_part unicode_ident encode_utf8
bad_20 = right texts.bad_20 refl

bad_21 : Right texts.bad_21
unfolding lexemes_of tokens_of chars starts_part continues_part unicode_ident encode_utf8
bad_21 = right texts.bad_21 refl

bad_22 : Right texts.bad_22
unfolding lexemes_of tokens_of chars starts_part continues_part unicode_ident encode_utf8
bad_22 = right texts.bad_22 refl

bad_23 : Right texts.bad_23
unfolding lexemes_of tokens_of chars starts_part continues_part unicode_ident encode_utf8
bad_23 = right texts.bad_23 refl

bad_24 : Right texts.bad_24
unfolding lexemes_of tokens_of chars starts_part continues_part unicode_ident encode_utf8
bad_24 = right texts.bad_24 refl

bad_25 : Right texts.bad_25
unfolding lexemes_of tokens_of chars starts_part continues_part unicode_ident encode_utf8
bad_25 = right texts.bad_25 refl

bad_26 : Right texts.bad_26
unfolding lexemes_of tokens_of chars starts_part continues_part unicode_ident encode_utf8
bad_26 = right texts.bad_26 refl

bad_27 : Right texts.bad_27
unfolding lexemes_of tokens_of chars starts_part continues_part unicode_ident encode_utf8
bad_27 = right texts.bad_27 refl

bad_28 : Right texts.bad_28
unfolding lexemes_of tokens_of chars starts_part continues_part unicode_ident encode_utf8
bad_28 = right texts.bad_28 refl

bad_29 : Right texts.bad_29
unfolding lexemes_of tokens_of chars starts_part continues_part unicode_ident encode_utf8
bad_29 = right texts.bad_29 refl

bad_30 : Right texts.bad_30
unfolding lexemes_of tokens_of chars starts_part continues_part unicode_ident encode_utf8
bad_30 = right texts.bad_30 refl

bad_31 : Right texts.bad_31
unfolding lexemes_of tokens_of chars starts_part continues_part unicode_ident encode_utf8
bad_31 = right texts.bad_31 refl

bad_32 : Right texts.bad_32
unfolding lexemes_of tokens_of chars starts_part continues_part unicode_ident encode_utf8
bad_32 = right texts.bad_32 refl

bad_33 : Right texts.bad_33
unfolding lexemes_of tokens_of chars starts_part continues_part unicode_ident encode_utf8
bad_33 = right texts.bad_33 refl

bad_34 : Right texts.bad_34
unfolding lexemes_of tokens_of chars starts_part continues_part unicode_ident encode_utf8
bad_34 = right texts.bad_34 refl

bad_35 : Right texts.bad_35
unfolding lexemes_of tokens_of chars starts_part continues_part unicode_ident encode_utf8
bad_35 = right texts.bad_35 refl

bad_36 : Right texts.bad_36
unfolding lexemes_of tokens_of chars starts_part continues_part unicode_ident encode_utf8
bad_36 = right texts.bad_36 refl

bad_37 : Right texts.bad_37
unfolding lexemes_of tokens_of chars starts_part continues_part unicode_ident encode_utf8
bad_37 = right texts.bad_37 refl

bad_38 : Right texts.bad_38
unfolding lexemes_of tokens_of chars starts_part continues_part unicode_ident encode_utf8
bad_38 = right texts.bad_38 refl

bad_39 : Right texts.bad_39
unfolding lexemes_of tokens_of chars starts_part continues_part unicode_ident encode_utf8
bad_39 = right texts.bad_39 refl

bad_40 : Right texts.bad_40
unfolding lexemes_of tokens_of chars starts_part continues_part unicode_ident encode_utf8
bad_40 = right texts.bad_40 refl

bad_41 : Right texts.bad_41
unfolding lexemes_of tokens_of chars starts_part continues_part unicode_ident encode_utf8
bad_41 = right texts.bad_41 refl

bad_42 : Right texts.bad_42
unfolding lexemes_of tokens_of chars starts_part continues_part unicode_ident encode_utf8
bad_42 = right texts.bad_42 refl

bad_43 : Right texts.bad_43
unfolding lexemes_of tokens_of chars starts_part continues_part unicode_ident encode_utf8
bad_43 = right texts.bad_43 refl

bad_44 : Right texts.bad_44
unfolding lexemes_of tokens_of chars starts_part continues_part unicode_ident encode_utf8
bad_44 = right texts.bad_44 refl

bad_45 : Right texts.bad_45
unfolding lexemes_of tokens_of chars starts_part continues_part unicode_ident encode_utf8
bad_45 = right texts.bad_45 refl

bad_46 : Right texts.bad_46
unfolding lexemes_of tokens_of chars starts_part continues_part unicode_ident encode_utf8
bad_46 = right texts.bad_46 refl

bad_47 : Right texts.bad_47
unfolding lexemes_of tokens_of chars starts_part continues_part unicode_ident encode_utf8
bad_47 = right texts.bad_47 refl

bad_48 : Right texts.bad_48
unfolding lexemes_of tokens_of chars starts_part continues_part unicode_ident encode_utf8
bad_48 = right texts.bad_48 refl

bad_49 : Right texts.bad_49
unfolding lexemes_of tokens_of chars starts_part continues_part unicode_ident encode_utf8
bad_49 = right texts.bad_49 refl

bad_50 : Right texts.bad_50
unfolding lexemes_of tokens_of chars starts_part continues_part unicode_ident encode_utf8
bad_50 = right texts.bad_50 refl

bad_51 : Right texts.bad_51
unfolding lexemes_of tokens_of chars starts_part continues_part unicode_ident encode_utf8
bad_51 = right texts.bad_51 refl

bad_52 : Right texts.bad_52
unfolding lexemes_of tokens_of chars starts_part continues_part unicode_ident encode_utf8
bad_52 = right texts.bad_52 refl

bad_53 : Right texts.bad_53
unfolding lexemes_of tokens_of chars starts_part continues_part unicode_ident encode_utf8
bad_53 = right texts.bad_53 refl

bad_54 : Right texts.bad_54
unfolding lexemes_of tokens_of chars starts_part continues_part unicode_ident encode_utf8
bad_54 = right texts.bad_54 refl

bad_55 : Right texts.bad_55
unfolding lexemes_of tokens_of chars starts_part continues_part unicode_ident encode_utf8
bad_55 = right texts.bad_55 refl

bad_56 : Right texts.bad_56
unfolding lexemes_of tokens_of chars starts_part continues_part unicode_ident encode_utf8
bad_56 = right texts.bad_56 refl

bad_57 : Right texts.bad_57
unfolding lexemes_of tokens_of chars starts_part continues_part unicode_ident encode_utf8
bad_57 = right texts.bad_57 refl

bad_58 : Right texts.bad_58
unfolding lexemes_of tokens_of chars starts_part continues_part unicode_ident encode_utf8
bad_58 = right texts.bad_58 refl

bad_59 : Right texts.bad_59
unfolding lexemes_of tokens_of chars starts_part continues_part unicode_ident encode_utf8
bad_59 = right texts.bad_59 refl

bad_60 : Right texts.bad_60
unfolding lexemes_of tokens_of chars starts_part continues_part unicode_ident encode_utf8
bad_60 = right texts.bad_60 refl

bad_61 : Right texts.bad_61
unfolding lexemes_of tokens_of chars starts_part continues_part unicode_ident encode_utf8
bad_61 = right texts.bad_61 refl

bad_62 : Right texts.bad_62
unfolding lexemes_of tokens_of chars starts_part continues_part unicode_ident encode_utf8
bad_62 = right texts.bad_62 refl

bad_63 : Right texts.bad_63
unfolding lexemes_of tokens_of chars starts_part continues_part unicode_ident encode_utf8
bad_63 = right texts.bad_63 refl

bad_64 : Right texts.bad_64
unfolding lexemes_of tokens_of chars starts_part continues_part unicode_ident encode_utf8
bad_64 = right texts.bad_64 refl

pub each_row : EachRow
each_row = (argument_1, (argument_2, (argument_3, (argument_4, (argument_5, (argument_6, (argument_7, (argument_8, (head_1, (head_2, (head_3, (head_4, (head_5, (head_6, (head_7, (head_8, (head_9, (binder_1, (binder_2, (binder_3, (binder_4, (binder_5, (binder_6, (binder_7, (binder_8, (binder_9, (binder_10, (binder_11, (binder_12, (binder_13, (binder_14, (binder_15, (binder_16, (binder_17, (binder_18, (binder_19, (binder_20, (level_1, (level_2, (level_3, (level_4, (level_5, (level_6, (level_7, (level_8, (level_9, (level_10, (level_11, (level_12, (level_13, (level_14, (operator_1, (operator_2, (operator_3, (operator_4, (operator_5, (operator_6, (operator_7, (operator_8, (operator_9, (operator_10, (operator_11, (operator_12, (operator_13, (operator_14, (operator_15, (operator_16, (operator_17, (operator_18, (operator_19, (item_1, (item_2, (item_3, (item_4, (command_1, (command_2, (command_3, (command_4, (command_5, (command_6, (command_7, (command_8, (command_9, (command_10, (command_11, (command_12, (command_13, (command_14, (command_15, (command_16, (command_17, (command_18, (command_19, (command_20, (command_21, (command_22, (command_23, (command_24, (command_25, (command_26, (command_27, (command_28, (command_29, (command_30, (command_31, (command_32, (command_33, (command_34, (reach_1, (reach_2, (reach_3, (reach_4, (reach_5, (reach_6, (reach_7, (reach_8, (reach_9, (reach_10, (reach_11, (reach_12, (reach_13, (reach_14, (reach_15, (reach_16, (reach_17, (reach_18, (reach_19, (reach_20, (reach_21, (reach_22, (bad_1, (bad_2, (bad_3, (bad_4, (bad_5, (bad_6, (bad_7, (bad_8, (bad_9, (bad_10, (bad_11, (bad_12, (bad_13, (bad_14, (bad_15, (bad_16, (bad_17, (bad_18, (bad_19, (bad_20, (bad_21, (bad_22, (bad_23, (bad_24, (bad_25, (bad_26, (bad_27, (bad_28, (bad_29, (bad_30, (bad_31, (bad_32, (bad_33, (bad_34, (bad_35, (bad_36, (bad_37, (bad_38, (bad_39, (bad_40, (bad_41, (bad_42, (bad_43, (bad_44, (bad_45, (bad_46, (bad_47, (bad_48, (bad_49, (bad_50, (bad_51, (bad_52, (bad_53, (bad_54, (bad_55, (bad_56, (bad_57, (bad_58, (bad_59, (bad_60, (bad_61, (bad_62, (bad_63, (bad_64, tt))))))))))))))))))))))))))))))))))))))))))))))))))))))))))))))))))))))))))))))))))))))))))))))))))))))))))))))))))))))))))))))))))))))))))))))))))))))))))))))))))))))))))))))))))))))))))))))))))
