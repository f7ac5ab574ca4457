use Rattle.std.proofs.Common.{◌≡◌, ◌++◌, drop, string_bytes}
use Rattle.lf_front.specs.Lexemes.{parts_of}
use Rattle.lf_front.proofs.Parts.{onto_first_part}
use Rattle.lf_front.proofs.token.parts_of.Given as goal

abbrev pub invariant-bytes : goal.invariant-bytes
invariant-bytes l = l.words ++ onto_first_part (string_bytes l.part) (parts_of (drop l.c-index l.cs)) ≡ parts_of l.cs
