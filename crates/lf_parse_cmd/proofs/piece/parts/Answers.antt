use Rattle.std.proofs.Common.{◌++◌, ◌∷◌, [], List, ℕ, sym, ap, ◌∙◌, arith, rules, append_assoc}
use Rattle.std.proofs.lemmas.Str.Pattern.{split_parts}
use Rattle.lf_name.specs.Name.{Path}
use Rattle.lf_syntax.specs.Classes.{parts_of}
use Rattle.lf_parse_cmd.proofs.Parts.{parts_alone, parts_cut}
use Rattle.lf_parse_cmd.proofs.piece.parts.Goals as goal

pub parts-preserved : goal.parts-preserved
parts-preserved c =
    let l = c.parts in
    let part : List ℕ = c.in-Some.part.now in
    let more : List ℕ = c.in-Some.more.now in
    let cut = rw c.in-Some.is at (split_parts 46 l.rest.now c.split_once.result c.split_once.ensures.cases (omega arith)) in (
      search rules,
      ap (λ (ps : Path). ps ++ parts_of more) c.in_ok-push.ensures.ok ∙ ap (λ (w : List ℕ). (l.parts ++ (w ∷ [])) ++ parts_of more) c.in_ok-new.ensures
          ∙ append_assoc l.parts (part ∷ []) (parts_of more) ∙ ap (λ (ps : Path). l.parts ++ ps) (sym (parts_cut part more cut.1))
          ∙ ap (λ (bs : List ℕ). l.parts ++ parts_of bs) (sym cut.0) ∙ l.invariant.1,
    )

pub returns-clause-parts : goal.returns-clause-parts
returns-clause-parts c =
    let l = c.parts in
    let none = rw c.in_default.is at (split_parts 46 l.rest.now c.split_once.result c.split_once.ensures.cases (omega arith)) in
    c.in_ok-push-2.ensures.ok ∙ ap (λ (w : List ℕ). l.parts ++ (w ∷ [])) c.in_ok-new-2.ensures
    ∙ ap (λ (ps : Path). l.parts ++ ps) (sym (parts_alone l.rest.now none)) ∙ l.invariant.1
