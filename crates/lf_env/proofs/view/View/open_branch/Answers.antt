use Rattle.std.proofs.Common.{◌≡◌, ℕ, suc, cond, Bool, ◌∙◌, refl, ap, sym, subst, Option, Some, None, List, [], ◌∷◌, ◌++◌, IsSomeAnd, Bor, map, true, false}
use Rattle.std.specs.Option.{option_map, option_copied, is_some}
use Rattle.lf_core.specs.Term.{Path}
use Rattle.lf_core.specs.Same.{same_path}
use Rattle.lf_checker.specs.View.{View, Entry, OpenBranch, find_entry, placed_from, opened_branch}
use Rattle.lf_env.specs.Answer.{HasEntryAt}
use Rattle.lf_env.specs.Layer.{AreBacked, settled, shown, branch_of}
use Rattle.lf_env.proofs.Shown.{found_named, placed_settled}
use Rattle.lf_env.proofs.Changes.{backed_grown, backed_one, not_backed, branches_more}
use Rattle.lf_env.proofs.view.View.open_branch.Goals as goal

not_some : (o : Option (Bor Entry)) → is_some o ≡ false → option_copied o ≡ None
not_some (Some a) h = cc
not_some None h = refl

place_step : (b : Bool) (d e : Entry) (k p : ℕ) (rest : Option Entry) (more : Option (ℕ × ℕ)) → (rest ≡ Some e → IsSomeAnd more (λ v. v.0 ≡ p) → e.position ≡ p)
    → cond b (Some d) rest ≡ Some e → IsSomeAnd (cond b (Some (d.position, k)) more) (λ v. v.0 ≡ p) → e.position ≡ p
place_step true d e k p rest more r h q = let same : d ≡ e = cc in ap (λ (x : Entry). x.position) (sym same) ∙ q
place_step false d e k p rest more r h q = r h q

-- An entry stands where it is placed.
place_is : (k : ℕ) (es : List Entry) (n : Path) (e : Entry) (p : ℕ) → find_entry es n ≡ Some e → IsSomeAnd (placed_from k es n) (λ v. v.0 ≡ p) → e.position ≡ p
place_is k [] n e p h q = cc
place_is k (d ∷ es) n e p h q = place_step (same_path d.info.name n) d e k p (find_entry es n) (placed_from (suc k) es n) (place_is (suc k) es n e p) h q

-- The header's entry stands at the position.
header_position : (es js : List Entry) (V : View) (n : Path) (p : ℕ) (e : Entry) → HasEntryAt V n p → V.entries ≡ map (settled js) es
    → find_entry es n ≡ Some e → e.position ≡ p
header_position es js V n p e has v h =
    place_is 0 es n e p h (subst (λ o. IsSomeAnd o (λ d. d.0 ≡ p)) (ap (λ l. placed_from 0 l n) v ∙ placed_settled js 0 es n) has)

pub with-requires : goal.with-requires
with-requires c =
    let v = c.self.inside in
    let e = c.in_ok-header-in-Some.header in
    let unopened : find_entry v.opened c.args.prefix ≡ None =
    ap (find_entry v.opened) (sym c.parts.ensures.parts) ∙ sym c.find.ensures ∙ not_some c.find.result (sym c.is_some.ensures ∙ c.if-is_some.false) in
    let stored : find_entry v.entries c.args.prefix ≡ Some e =
    ap (find_entry v.entries) (sym c.parts-2.ensures.parts) ∙ sym c.find-2.ensures ∙ ap option_copied c.in-Some.is
    ∙ ap Some (sym c.in_ok-header-in-Some.ensures) in
    ap (find_entry v.opened) (found_named v.entries c.args.prefix e stored) ∙ unopened

pub invariant_of-self : goal.invariant_of-self
invariant_of-self c =
    let v = c.self.inside in
    let e = c.in_ok-header-in-Some.header in
    let stored : find_entry v.entries c.args.prefix ≡ Some e =
    ap (find_entry v.entries) (sym c.parts-2.ensures.parts) ∙ sym c.find-2.ensures ∙ ap option_copied c.in-Some.is
    ∙ ap Some (sym c.in_ok-header-in-Some.ensures) in
    let own : find_entry v.entries e.info.name ≡ Some e = ap (find_entry v.entries) (found_named v.entries c.args.prefix e stored) ∙ stored in (
      subst (λ l. AreBacked v.joined l) (sym c.in_ok-opened.ensures) (backed_grown v.joined v.opened (e ∷ []) c.self.invariant.0),
      subst (λ l. AreBacked l v.entries) (sym c.in_ok-opened.ensures) (backed_one v.opened v.entries e e c.self.invariant.1 own refl),
    )

pub returns-clause-ok : goal.returns-clause-ok
returns-clause-ok c =
    let v = c.self.inside in
    let e = c.in_ok-header-in-Some.header in
    let n = c.args.prefix in
    let unopened : find_entry v.opened n ≡ None =
    ap (find_entry v.opened) (sym c.parts.ensures.parts) ∙ sym c.find.ensures ∙ not_some c.find.result (sym c.is_some.ensures ∙ c.if-is_some.false) in
    let stored : find_entry v.entries n ≡ Some e =
    ap (find_entry v.entries) (sym c.parts-2.ensures.parts) ∙ sym c.find-2.ensures ∙ ap option_copied c.in-Some.is
    ∙ ap Some (sym c.in_ok-header-in-Some.ensures) in
    let named : e.info.name ≡ n = found_named v.entries n e stored in
    let unjoined : find_entry v.joined e.info.name ≡ None = ap (find_entry v.joined) named ∙ not_backed v.joined v.opened c.self.invariant.0 n unopened in
    let placed : e.position ≡ c.args.position =
    header_position v.entries v.joined c.args.self.now n c.args.position e c.requires (ap (λ s. s.entries) (sym c.self.view_is)) stored in
    let old : View = shown v.entries v.joined v.opened v.realized v.failed v.position v.for_base in
    ap (λ o. shown v.entries v.joined o v.realized v.failed v.position v.for_base) c.in_ok-opened.ensures
    ∙ ap (λ bs. record old { branches = bs }) (branches_more v.joined v.opened e unjoined)
    ∙ ap (λ m. record old { branches = old.branches ++ record { prefix = m; position = e.position } ∷ [] }) named
    ∙ ap (λ p. record old { branches = old.branches ++ record { prefix = n; position = p } ∷ [] }) placed
    ∙ ap (λ s. opened_branch s n c.args.position) c.self.view_is
