-- Each list of tokens is one command, and each text one list of commands.
use Rattle.std.proofs.Common.{◌≡◌, ℕ, zero, suc, ◌≤◌, List, [], ◌∷◌, length, take, drop, Option, Some, None, refl, sym, ap, ◌∙◌, subst, arith, length-drop}
use Rattle.std.specs.List.{prefix_len}
use Rattle.lf_syntax.specs.declared.leaf.SyntaxFault.TheVariants.{Deep}
use Rattle.lf_syntax.specs.declared.command.Command.{Command}
use Rattle.lf_syntax.specs.declared.command.Command.TheVariants.{Bad}
use Rattle.lf_syntax.specs.Predictive.{Grammar, Takes, Reads, nothing, left_out, taken, tree}
use Rattle.lf_syntax.specs.Piece.{Piece}
use Rattle.lf_syntax.specs.Symbol.{command, DefBody, by_value, by_alternatives}
use Rattle.lf_syntax.specs.Row.{Prod}
use Rattle.lf_syntax.specs.Rows.{command_rows, defined, decl_of}
use Rattle.lf_syntax.specs.declared.command.Decl.{Decl}
use Rattle.lf_syntax.specs.Grammar.{grammar, Answer, IsAnswer, is_command, is_bad, is_short}
use Rattle.lf_syntax.specs.Document.{first_deep, IsCommand, too_deep, derived, unexpected, unfinished, inside, AreCommands}
use Rattle.lf_syntax.specs.Classes.{pieces_of}
use Rattle.lf_grammar_lemmas.specs.Outcome.{
  outcome,
  answer_of,
  command_for,
  machine_command,
  machine_commands,
  MachineDocument,
  OneCommand,
  OneDocument,
  NeverBad,
}
use Rattle.lf_grammar_lemmas.proofs.Grammar.{machine_answers, one_of}
use Rattle.lf_grammar_lemmas.proofs.Found.{InRows, found}

command_by : (ts : List Piece) (a : Answer) → first_deep ts ≡ None → IsAnswer ts a → IsCommand ts (command_for ts a)
command_by ts (is_command c) e h = derived c e h
command_by ts (is_bad []) e h = absurd (empty h.place)
  where
    empty : {t : Piece} {us : List Piece} → [] ≡ t ∷ us → ⊥
    empty e = cc
command_by ts (is_bad (t ∷ more)) e h = unexpected t more e h
command_by ts is_short e h = unfinished e h

record For (ts : List Piece) (c : Command) : Type 0 where
  answer : Answer
  is : IsAnswer ts answer
  same : c ≡ command_for ts answer

none_some : {A : Type 0} (o : Option A) (a : A) → o ≡ None → o ≡ Some a → ⊥
none_some o a e f = cc

answer_for : (ts : List Piece) (c : Command) → first_deep ts ≡ None → IsCommand ts c → For ts c
answer_for ts _ e (too_deep t f) = absurd (none_some (first_deep ts) t e f)
answer_for ts _ e (derived c f d) = record { answer = is_command c; is = d; same = refl }
answer_for ts _ e (unexpected t more f d) = record { answer = is_bad (t ∷ more); is = d; same = refl }
answer_for ts _ e (unfinished f d) = record { answer = is_short; is = d; same = refl }

deep_for : (ts : List Piece) (c : Command) (t : Piece) → first_deep ts ≡ Some t → IsCommand ts c → c ≡ Bad t.at Deep
deep_for ts _ t e (too_deep u f) = ap (λ (z : Piece). Bad z.at Deep) (some_same (sym f ∙ e))
  where
    some_same : {a b : Piece} → ◌≡◌ {A = Option Piece} (Some a) (Some b) → a ≡ b
    some_same e = cc
deep_for ts _ t e (derived c f d) = absurd (none_some (first_deep ts) t f e)
deep_for ts _ t e (unexpected u more f d) = absurd (none_some (first_deep ts) t f e)
deep_for ts _ t e (unfinished f d) = absurd (none_some (first_deep ts) t f e)

-- What the machine finds, with the first token that is nested too deeply given apart.
abbrev found_command : List Piece → Option Piece → Command
found_command ts (Some t) = Bad t.at Deep
found_command ts None = command_for ts (answer_of (outcome ts))

answered : (ts : List Piece) → IsAnswer ts (answer_of (outcome ts))
answered ts = (machine_answers ts (answer_of (outcome ts))).1 refl

is_found : (ts : List Piece) (o : Option Piece) → first_deep ts ≡ o → IsCommand ts (found_command ts o)
is_found ts (Some t) e = too_deep t e
is_found ts None e = command_by ts (answer_of (outcome ts)) e (answered ts)

only_found : (ts : List Piece) (o : Option Piece) → first_deep ts ≡ o → (d : Command) → IsCommand ts d → d ≡ found_command ts o
only_found ts (Some t) e d h = deep_for ts d t e h
only_found ts None e d h =
    let f = answer_for ts d e h in
    f.same ∙ ap (command_for ts) (one_of ts f.answer (answer_of (outcome ts)) f.is (answered ts))

pub machine_finds : (ts : List Piece) → IsCommand ts (machine_command ts)
machine_finds ts = is_found ts (first_deep ts) refl

pub one_command : OneCommand
one_command ts = (machine_command ts, machine_finds ts, only_found ts (first_deep ts) refl)

machine_cuts : (n : ℕ) (ts : List Piece) → length ts ≤ n → AreCommands ts (machine_commands n ts)
machine_cuts zero [] h = refl
machine_cuts zero (t ∷ ts) h = absurd (omega arith)
machine_cuts (suc n) [] h = refl
machine_cuts (suc n) (t ∷ ts) h =
    let k : ℕ = prefix_len inside ts in
    (machine_finds (t ∷ take k ts), machine_cuts n (drop k ts) (omega (arith, length-drop k ts)))

same_cut : (ts : List Piece) (cs ds : List Command) → AreCommands ts cs → AreCommands ts ds → cs ≡ ds
same_cut ts [] [] p q = refl
same_cut [] [] (d ∷ ds) p q = absurd q
same_cut (t ∷ ts) [] (d ∷ ds) p q = cc
same_cut [] (c ∷ cs) ds p q = absurd p
same_cut (t ∷ ts) (c ∷ cs) [] p q = cc
same_cut (t ∷ ts) (c ∷ cs) (d ∷ ds) p q =
    let k : ℕ = prefix_len inside ts in
    let us : List Piece = t ∷ take k ts in
    let e : c ≡ d = only_found us (first_deep us) refl c p.0 ∙ sym (only_found us (first_deep us) refl d q.0) in
    let f : cs ≡ ds = same_cut (drop k ts) cs ds p.1 q.1 in
    λ i. e i ∷ f i

pub machine_document : MachineDocument
machine_document bytes = machine_cuts (length (pieces_of bytes)) (pieces_of bytes) (omega arith)

pub one_document : OneDocument
one_document bytes =
    let cs : List Command = machine_commands (length (pieces_of bytes)) (pieces_of bytes) in
    (cs, machine_document bytes, λ ds h. same_cut (pieces_of bytes) ds cs h (machine_document bytes))

-- What holds of all that a build gives holds of the tree of a derivation.
abbrev Always : (g : Grammar) {R : Type 0} → (R → Type 0) → (xs : List g.S) → Takes g.Tree xs R → Type 0
Always g P [] r = P r
Always g P (x ∷ xs) f = (v : g.Tree x) → Always g P xs (f v)

tree_is : (g : Grammar) {R : Type 0} (P : R → Type 0) {xs : List g.S} {ts rest : List g.T} (d : Reads g xs ts rest) (f : Takes g.Tree xs R) → Always g P xs f
    → P (tree d f)
tree_is g P nothing f h = h
tree_is g P (left_out v e q d) f h = tree_is g P d (f v) (h v)
tree_is g P (taken t p e b d) f h = tree_is g P d (f (tree b p.build)) (h (tree b p.build))

abbrev IsGood : Command → Type 0
IsGood (Bad at f) = ⊥
IsGood _ = Unit {0}

defined_good : (d : Decl) (b : DefBody) → IsGood (defined d b)
defined_good d (by_value v hs) = tt
defined_good d (by_alternatives more) = tt

commands_good : InRows (λ (p : Prod Command). Always grammar IsGood p.body p.build) command_rows
commands_good = (
  λ at x ls bs u ty. tt,
  (
    λ at x ls bs d.
        defined_good (decl_of at x ls bs d.ty) d.body,
    (
      λ at x ls bs u ty v e hs. tt,
      (
        λ at x ls bs ty u cs.
            tt,
        (
          λ at x ls bs ty fs. tt,
          (
            λ at x ls bs ty fs.
                tt,
            (
              λ at x ls bs u ty v t. tt,
              (
                λ at x. tt,
                (
                  λ at x.
                      tt,
                  (λ at x. tt, (λ at x xs. tt, (λ at x xs. tt, (λ at b bs. tt, (λ at t. tt, (λ at t. tt, (λ at u x. tt, tt))))))),
                ),
              ),
            ),
          ),
        ),
      ),
    ),
  ),
)

reads_good : (ts rest : List Piece) (d : Reads grammar (command ∷ []) ts rest) → IsGood (tree d (λ c. c))
reads_good ts rest (left_out v e q d) = cc
reads_good ts rest (taken t p e b nothing) =
    tree_is grammar IsGood b p.build (found (λ (q : Prod Command). Always grammar IsGood q.body q.build) command_rows t.class t.at p commands_good e)

pub never_bad : NeverBad
never_bad ts at f d = subst IsGood d.same (reads_good ts [] d.reads)
