-- What is read of the tokens of a command says which command they are.
use Rattle.std.proofs.Common.{◌≡◌, ℕ, ◌+◌, ◌-◌, ◌≤◌, List, [], ◌∷◌, ◌++◌, Ok, Err, None, length, drop, refl, sym, ap, ◌∙◌, subst, arith, length-append}
use Rattle.std.proofs.lemmas.List.{drop_all, length-map}
use Rattle.lf_syntax.specs.Piece as syntax
use Rattle.lf_syntax.specs.Symbol as symbol
use Rattle.lf_syntax.specs.declared.command.Command.{Command}
use Rattle.lf_syntax.specs.Grammar.{grammar, BadAt, is_short}
use Rattle.lf_syntax.specs.Document.{IsCommand, derived, unexpected, unfinished, first_deep}
use Rattle.lf_grammar_lemmas.specs.Outcome.{outcome, answer_of}
use Rattle.lf_grammar_lemmas.proofs.Grammar.{sound, stuck_is_local, machine_answers}
use Rattle.lf_parse_term.specs.Descent.{Reading, read}
use Rattle.lf_parse_term.specs.View.{view, views}
use Rattle.lf_parse_term.specs.declared.piece.Piece.{Piece}
use Rattle.lf_parse_term.specs.declared.halt.Halt.TheVariants as halt
use Rattle.lf_parse_cmd.specs.Faults.{bad, finished}
use Rattle.lf_parse_cmd.proofs.Cut.{drop_views}
use Rattle.lf_parse_cmd.proofs.Bridge.{Agrees, agree, stopped}

agrees : (ts : List syntax.Piece) → Agrees (read symbol.command ts) (outcome ts)
unfolding read
agrees ts = agree Command grammar ts (symbol.command ∷ []) (λ c. c)

agrees_as : (ts : List syntax.Piece) (m : Reading Command) → read symbol.command ts ≡ m → Agrees m (outcome ts)
agrees_as ts m e = subst (λ (r : Reading Command). Agrees r (outcome ts)) e (agrees ts)

-- The tokens from the first on that can't stand there.
is_bad : (ts last : List syntax.Piece) → first_deep ts ≡ None → outcome ts ≡ stopped last → IsCommand ts (bad ts last)
is_bad ts [] e h = unfinished e ((machine_answers ts is_short).1 (ap answer_of h))
is_bad ts (t ∷ more) e h = unexpected t more e (stuck_is_local ts (t ∷ more) h)

-- A tree was read, and these tokens are left.
pub read_on : (ts rest : List syntax.Piece) (c : Command) → first_deep ts ≡ None → read symbol.command ts ≡ Ok (c, rest) → IsCommand ts (finished c rest)
read_on ts [] c e h = derived c e (sound ts c (agrees_as ts (Ok (c, [])) h))
read_on ts (t ∷ more) c e h = unexpected t more e (stuck_is_local ts (t ∷ more) (agrees_as ts (Ok (c, t ∷ more)) h))

dropped : {A : Type 0} (before last : List A) → drop (length before) (before ++ last) ≡ last
dropped [] last = refl
dropped (a ∷ before) last = dropped before last

-- So many of the tokens are the last.
pub record Last (ts last : List syntax.Piece) : Type 0 where
  pub fits : length last ≤ length ts
  pub is : drop (length ts - length last) ts ≡ last

behind : (before last : List syntax.Piece) → Last (before ++ last) last
behind before last =
    let e : length (before ++ last) ≡ length before + length last = length-append before last in
    let f : length (before ++ last) - length last ≡ length before = omega (arith, e) in
    record { fits = omega (arith, e); is = ap (λ (n : ℕ). drop n (before ++ last)) f ∙ dropped before last }

last_of : (ts last : List syntax.Piece) → outcome ts ≡ stopped last → Last ts last
last_of ts [] h = record { fits = omega arith; is = drop_all (length ts - 0) ts (omega arith) }
last_of ts (t ∷ more) h =
    let b : BadAt ts (t ∷ more) = stuck_is_local ts (t ∷ more) h in
    subst (λ (us : List syntax.Piece). Last us (t ∷ more)) (sym b.tokens) (behind b.before (t ∷ more))

pub read_fits : (ps : List Piece) (n : ℕ) → read symbol.command (views ps) ≡ Err (halt.Stuck n) → n ≤ length ps
read_fits ps n h =
    let ts : List syntax.Piece = views ps in
    let a = agrees_as ts (Err (halt.Stuck n)) h in
    let l : Last ts a.0 = last_of ts a.0 a.2 in
    let f : n ≤ length ts = subst (λ (k : ℕ). k ≤ length ts) a.1 l.fits in
    subst (λ (k : ℕ). n ≤ k) (length-map ps view) f

-- No tree was read, and so many tokens are left.
pub read_no : (ps : List Piece) (n : ℕ) → first_deep (views ps) ≡ None → read symbol.command (views ps) ≡ Err (halt.Stuck n)
    → IsCommand (views ps) (bad (views ps) (views (drop (length ps - n) ps)))
read_no ps n e h =
    let ts : List syntax.Piece = views ps in
    let a = agrees_as ts (Err (halt.Stuck n)) h in
    let l : Last ts a.0 = last_of ts a.0 a.2 in
    let d : views (drop (length ps - n) ps) ≡ a.0 =
    sym (drop_views (length ps - n) ps) ∙ ap (λ (k : ℕ). drop (k - n) ts) (sym (length-map ps view)) ∙ ap (λ (k : ℕ). drop (length ts - k) ts) (sym a.1)
    ∙ l.is in
    subst (λ (us : List syntax.Piece). IsCommand ts (bad ts us)) (sym d) (is_bad ts a.0 e a.2)
