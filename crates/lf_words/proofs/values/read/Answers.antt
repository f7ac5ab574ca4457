use Rattle.std.proofs.Common.{ap, sym, refl, ◌≡◌, ◌∙◌, nat_eq, codes, true, map, string_bytes, length, List, []}
use Rattle.clap.specs.Words.{Text, app_of, rows_of, found_of, matches_of, first_of, fault_of, is_simple, is_simple_and_free}
use Rattle.clap.proofs.OnLiterals.{clap_on_literals}
use Rattle.clap.proofs.WalkLemmas.{first_value-rows}
use Rattle.lf_words.specs.Words.{app, is_taken, value}
use Rattle.lf_words.proofs.values.read.Goals as goal

simple : is_simple app ≡ true
unfolding clap_on_literals
simple = refl

free : is_simple_and_free app ≡ true
unfolding clap_on_literals
free = refl

pub returns-in-Ok : goal.returns-in-Ok
returns-in-Ok c =
    let words : List Text = map string_bytes c.args.words.now in
    let found = found_of c.in-Ok.m in
    let app_is : app_of c.in_ok-command.command ≡ app = c.in_ok-command.ensures in
    let rows : rows_of found ≡ matches_of app words = (c.in-Ok.ensures.matches (ap is_simple app_is ∙ simple)).0 ∙ ap (λ a. matches_of a words) app_is in
    let none : fault_of app words ≡ [] = ap (λ a. fault_of a words) (sym app_is) ∙ c.in-Ok.ensures.kinds (ap is_simple_and_free app_is ∙ free) in
    let taken : is_taken words ≡ true = ap (λ k. nat_eq (length k) 0) none in
    let is : (id : Text) → first_of id (rows_of found) ≡ value id words = λ id. ap (first_of id) rows in
    let mode = c.get_str.ensures ∙ (first_value-rows found (codes "mode") ∙ is (codes "mode")) in
    let count = c.get_str-in-Ok.ensures ∙ (first_value-rows found (codes "count") ∙ is (codes "count")) in
    let workers = c.get_str-in-Ok-2.ensures ∙ (first_value-rows found (codes "workers") ∙ is (codes "workers")) in
    let budget = c.get_str-in-Ok-3.ensures ∙ (first_value-rows found (codes "budget") ∙ is (codes "budget")) in
    rw (taken, mode, count, workers, budget) refl
