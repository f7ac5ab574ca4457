use Rattle.std.proofs.Common.{◌≡◌, ◌+◌, ◌<◌, length, take, get_or, arith, ◌∙◌, below_more, ap}
use Rattle.std.proofs.lemmas.Grind.{get_or_default_zero}
use Rattle.std.specs.Char.{len_utf8}
use Rattle.lf_token.specs.Spelling.{width}
use Rattle.lf_token.proofs.Symbols.{width_step, chars_exact}
use Rattle.lf_token.proofs.scan.chars_in.Goals as goal

pub characters-preserved : goal.characters-preserved
characters-preserved c =
    let in_range : c.characters.n < length c.args.cs.now = omega arith in
    let step : width (take (c.characters.n + 1) c.args.cs.now) ≡ width (take c.characters.n c.args.cs.now) + len_utf8 (get_or c.args.cs.now c.characters.n 0) =
    width_step c.args.cs.now c.characters.n in_range in
    let item : c.index-cs-n.result ≡ get_or c.args.cs.now c.characters.n 0 =
    c.index-cs-n.is ∙ get_or_default_zero c.args.cs.now c.characters.n c.index-cs-n.result in_range in
    let len : c.len_utf8-passed.result ≡ len_utf8 (get_or c.args.cs.now c.characters.n 0) = c.len_utf8-passed.ensures.value ∙ ap len_utf8 item in
    record {
      within = omega arith;
      passed = omega (arith, c.characters.invariant.passed);
      bound = omega arith;
      before = below_more _ _ c.characters.invariant.before (omega (arith, c.characters.invariant.passed));
    }

pub returns-after-characters : goal.returns-after-characters
returns-after-characters c =
    chars_exact c.args.cs.now c.characters.n c.args.bytes c.characters.invariant.within c.characters.invariant.before
    (λ l. omega (arith, c.characters.invariant.passed))
