use Rattle.std.proofs.Common.{◌≡◌, ◌∙◌, ◌++◌, ℕ, List, ap, sym, subst, IfOk, if◌then◌else◌, decimal}
use Rattle.lf_print.specs.Printed.{cut}
use Rattle.lf_print.proofs.printing.write_number.Goals as goal

pub returns : goal.returns
returns c =
    let shown : c.as_bytes.result.now ≡ decimal c.args.number = c.as_bytes.ensures.value ∙ c.as_str.ensures.value ∙ c.in_ok-text.ensures.ok in
    subst (λ (t : List ℕ). IfOk c.write.result (λ more. (rest : List ℕ)
    → c.args.page.now.bytes.items ++ cut c.args.page.now.left (t ++ rest)
    ≡ (if more then c.write.new.self.bytes.items ++ cut c.write.new.self.left rest else c.write.new.self.bytes.items)))
    shown c.write.ensures
