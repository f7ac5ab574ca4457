-- Trees that the tests of sameness take for the same are equal; trees of which something else is kept are not.
use Rattle.std.proofs.Common.{◌≡◌, true, false, ◌&&◌, ◌==◌, List, [], ◌∷◌, refl, sym, ap, ap₂, ◌∙◌, true≢false}
use Rattle.std.proofs.lemmas.Bool.{eqb-true, and_parts, false_from_ne_true}
use Rattle.lf_core.specs.Term.{
  Universe,
  level_zero,
  level_succ,
  level_max,
  level_imax,
  level_param,
  level_meta,
  Term,
  bound,
  free,
  meta,
  sort,
  const,
  app,
  lam,
  pi,
  letin,
  lit,
  proj,
}
use Rattle.lf_core.specs.Same.{same_path, same_universe, same_universes, same_binder, same}
use Rattle.lf_name.proofs.Names.{path_is, binder_is}
use Rattle.lf_core.specs.Size.{level_node_count, level_depth, node_count, depth}
use Rattle.lf_core.specs.Summary.{
  OfLevel,
  OfTerm,
  level_has_metavariable,
  level_has_parameter,
  loose_bound,
  free_bound,
  has_metavariable,
  has_level_metavariable,
  has_parameter,
}
use Rattle.lf_core.specs.declared.summary.LevelSummary.{LevelSummary}
use Rattle.lf_core.specs.declared.summary.Summary.{Summary}

no_false : {P : Type 0} → false ≡ true → P
no_false e = absurd (true≢false (sym e))

pub universe_is : (a b : Universe) → same_universe a b ≡ true → a ≡ b
universe_is level_zero level_zero h = refl
universe_is (level_succ a) (level_succ b) h = ap level_succ (universe_is a b h)
universe_is (level_max a c) (level_max b d) h = let p = and_parts (same_universe a b) (same_universe c d) h in ap₂ level_max (universe_is a b p.0)
    (universe_is c d p.1)
universe_is (level_imax a c) (level_imax b d) h = let p = and_parts (same_universe a b) (same_universe c d) h in ap₂ level_imax (universe_is a b p.0)
    (universe_is c d p.1)
universe_is (level_param a) (level_param b) h = ap level_param (eqb-true a b h)
universe_is (level_meta a) (level_meta b) h = ap level_meta (eqb-true a b h)
universe_is _ _ h = no_false h

pub universes_are : (a b : List Universe) → same_universes a b ≡ true → a ≡ b
universes_are [] [] h = refl
universes_are (a ∷ c) (b ∷ d) h = let p = and_parts (same_universe a b) (same_universes c d) h in ap₂ (λ x xs. x ∷ xs) (universe_is a b p.0)
    (universes_are c d p.1)
universes_are _ _ h = no_false h

pub term_is : (a b : Term) → same a b ≡ true → a ≡ b
term_is (bound a) (bound b) h = ap bound (eqb-true a b h)
term_is (free a) (free b) h = ap free (eqb-true a b h)
term_is (meta a) (meta b) h = ap meta (eqb-true a b h)
term_is (sort a) (sort b) h = ap sort (universe_is a b h)
term_is (const a c) (const b d) h = let p = and_parts (same_path a b) (same_universes c d) h in ap₂ const (path_is a b p.0) (universes_are c d p.1)
term_is (app a c) (app b d) h = let p = and_parts (same a b) (same c d) h in ap₂ app (term_is a b p.0) (term_is c d p.1)
term_is (lam x a c) (lam y b d) h =
    let p = and_parts (same_binder x y && same a b) (same c d) h in
    let q = and_parts (same_binder x y) (same a b) p.0 in
    cc (binder_is x y q.0, term_is a b q.1, term_is c d p.1)
term_is (pi x a c) (pi y b d) h =
    let p = and_parts (same_binder x y && same a b) (same c d) h in
    let q = and_parts (same_binder x y) (same a b) p.0 in
    cc (binder_is x y q.0, term_is a b q.1, term_is c d p.1)
term_is (letin x a c e) (letin y b d f) h =
    let p = and_parts (same_binder x y && same a b && same c d) (same e f) h in
    let q = and_parts (same_binder x y && same a b) (same c d) p.0 in
    let r = and_parts (same_binder x y) (same a b) q.0 in
    cc (binder_is x y r.0, term_is a b r.1, term_is c d q.1, term_is e f p.1)
term_is (lit a) (lit b) h = ap lit (eqb-true a b h)
term_is (proj r i a) (proj s j b) h =
    let p = and_parts (same_path r s && (i == j)) (same a b) h in
    let q = and_parts (same_path r s) (i == j) p.0 in
    cc (path_is r s q.0, eqb-true i j q.1, term_is a b p.1)
term_is _ _ h = no_false h

-- What is kept is a function of the tree.
kept_level : (r s : LevelSummary) (l m : Universe) → OfLevel r l → OfLevel s m → l ≡ m → r ≡ s
kept_level r s l m p q e = λ i. record {
  nodes = (p.nodes ∙ ap level_node_count e ∙ sym q.nodes) i;
  depth = (p.depth ∙ ap level_depth e ∙ sym q.depth) i;
  metavariable = (p.metavariable ∙ ap level_has_metavariable e ∙ sym q.metavariable) i;
  parameter = (p.parameter ∙ ap level_has_parameter e ∙ sym q.parameter) i;
}

kept_term : (r s : Summary) (t u : Term) → OfTerm r t → OfTerm s u → t ≡ u → r ≡ s
kept_term r s t u p q e = λ i. record {
  nodes = (p.nodes ∙ ap node_count e ∙ sym q.nodes) i;
  depth = (p.depth ∙ ap depth e ∙ sym q.depth) i;
  loose = (p.loose ∙ ap loose_bound e ∙ sym q.loose) i;
  free = (p.free ∙ ap free_bound e ∙ sym q.free) i;
  metavariable = (p.metavariable ∙ ap has_metavariable e ∙ sym q.metavariable) i;
  level_metavariable = (p.level_metavariable ∙ ap has_level_metavariable e ∙ sym q.level_metavariable) i;
  parameter = (p.parameter ∙ ap has_parameter e ∙ sym q.parameter) i;
}

pub levels_apart : (r s : LevelSummary) (l m : Universe) → OfLevel r l → OfLevel s m → (r ≡ s → ⊥) → l ≡ m → ⊥
levels_apart r s l m p q n e = n (kept_level r s l m p q e)

pub terms_apart : (r s : Summary) (t u : Term) → OfTerm r t → OfTerm s u → (r ≡ s → ⊥) → t ≡ u → ⊥
terms_apart r s t u p q n e = n (kept_term r s t u p q e)

pub levels_differ : (r s : LevelSummary) (l m : Universe) → OfLevel r l → OfLevel s m → (r ≡ s → ⊥) → same_universe l m ≡ false
levels_differ r s l m p q n = false_from_ne_true (same_universe l m) (λ h. levels_apart r s l m p q n (universe_is l m h))

pub terms_differ : (r s : Summary) (t u : Term) → OfTerm r t → OfTerm s u → (r ≡ s → ⊥) → same t u ≡ false
terms_differ r s t u p q n = false_from_ne_true (same t u) (λ h. terms_apart r s t u p q n (term_is t u h))
