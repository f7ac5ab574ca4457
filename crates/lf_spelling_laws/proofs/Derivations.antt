-- A derived tree writes its tokens.
use Rattle.std.proofs.Common.{List, [], ◌∷◌, subst}
use Rattle.lf_syntax.specs.Predictive.{Takes, Reads, nothing, left_out, taken, tree}
use Rattle.lf_syntax.specs.Piece.{Piece}
use Rattle.lf_syntax.specs.Symbol.{Symbol, Tree}
use Rattle.lf_syntax.specs.Rows.{rows}
use Rattle.lf_syntax.specs.Grammar.{grammar}
use Rattle.lf_syntax.specs.declared.command.Command.{Command}
use Rattle.lf_spelling_laws.specs.Spells.{command, SpellsItsTokens}
use Rattle.lf_spelling_laws.proofs.Found.{found}
use Rattle.lf_spelling_laws.proofs.Says.{Says, Sp}
use Rattle.lf_spelling_laws.proofs.Rows.{all_say, left_says}

reads_say : (A : Type 0) (R : A → List Piece → List Piece →
    Type 0) {xs : List Symbol} {ts us : List Piece} (d : Reads grammar xs ts us) (f : Takes Tree xs A) (start : List Piece) → Sp R start xs f ts →
    R (tree d f) start us
reads_say A R nothing f start h = h
reads_say A R (left_out {x} {xs} {ts} v e q d) f start h = reads_say A R d (f v) start (h v ts (left_says x v e ts))
reads_say A R (taken {x} {xs} {ts} {us} t p e b d) f start h =
    let v : Tree x = tree b p.build in
    let s : Says x (tree b p.build) (t ∷ ts) us = reads_say (Tree x) (Says x) b p.build (t ∷ ts) (found (λ t p. (ts : List Piece) → Sp (Says x) (t ∷
    ts) p.body p.build ts) (rows x) t p (all_say x) e ts) in
    reads_say A R d (f v) start (h v us s)

pub spells_its_tokens : SpellsItsTokens
spells_its_tokens ts c d = subst (λ (z : Command). command z ts []) d.same (reads_say Command command d.reads (λ v. v) ts (λ v us h. h))
