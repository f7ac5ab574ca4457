-- Codes by which trees are told apart.
use Rattle.std.specs.Prelude.{zero, suc, List, [], ◌∷◌, ◌≡◌, refl}
use Rattle.std.proofs.Common.{ap, sym, ◌∙◌}
use Rattle.std.specs.Coded.{Coded}
use base.Stored.{Gv, gnil, gnum, gcons}
pub use Rattle.lf_name.specs.Codes.{path, to_path, path_back, kind, to_kind, kind_back, binder, to_binder, binder_back}
use Rattle.lf_core.specs.Term.{
  Universe,
  level_zero,
  level_succ,
  level_max,
  level_imax,
  level_param,
  level_meta,
  Term,
  bound,
  free,
  meta,
  sort,
  const,
  app,
  lam,
  pi,
  letin,
  lit,
  proj,
}

-- A level as a tree of numbers, and back.
abbrev pub code : Universe → Gv
code level_zero = gnil
code (level_succ l) = gcons (gnum 0) (code l)
code (level_max l m) = gcons (gnum 1) (gcons (code l) (code m))
code (level_imax l m) = gcons (gnum 2) (gcons (code l) (code m))
code (level_param k) = gcons (gnum 3) (gnum k)
code (level_meta k) = gnum k

abbrev pub decode : Gv → Universe
decode (gnum k) = level_meta k
decode (gcons (gnum zero) l) = level_succ (decode l)
decode (gcons (gnum (suc zero)) (gcons l m)) = level_max (decode l) (decode m)
decode (gcons (gnum (suc (suc zero))) (gcons l m)) = level_imax (decode l) (decode m)
decode (gcons (gnum (suc (suc (suc zero)))) (gnum k)) = level_param k
decode _ = level_zero

pub back : (l : Universe) → decode (code l) ≡ l
back level_zero = refl
back (level_succ l) = ap level_succ (back l)
back (level_max l m) = λ i. level_max (back l i) (back m i)
back (level_imax l m) = λ i. level_imax (back l i) (back m i)
back (level_param k) = refl
back (level_meta k) = refl

abbrev pub coded_universe : Coded Universe
coded_universe = record { code = code; inj = λ x y p. sym (back x) ∙ ap decode p ∙ back y }

abbrev pub levels : List Universe → Gv
levels [] = gnil
levels (l ∷ ls) = gcons (code l) (levels ls)

abbrev pub to_levels : Gv → List Universe
to_levels (gcons l ls) = decode l ∷ to_levels ls
to_levels _ = []

pub levels_back : (ls : List Universe) → to_levels (levels ls) ≡ ls
levels_back [] = refl
levels_back (l ∷ ls) = λ i. back l i ∷ levels_back ls i

abbrev pub term : Term → Gv
term (bound k) = gnum k
term (free k) = gcons (gnum 0) (gnum k)
term (meta k) = gcons (gnum 1) (gnum k)
term (sort l) = gcons (gnum 2) (code l)
term (const n ls) = gcons (gnum 3) (gcons (path n) (levels ls))
term (app f a) = gcons (gnum 4) (gcons (term f) (term a))
term (lam x a b) = gcons (gnum 5) (gcons (binder x) (gcons (term a) (term b)))
term (pi x a b) = gcons (gnum 6) (gcons (binder x) (gcons (term a) (term b)))
term (letin x a v b) = gcons (gnum 7) (gcons (binder x) (gcons (term a) (gcons (term v) (term b))))
term (lit n) = gcons gnil (gnum n)
term (proj s i t) = gcons (gnum 8) (gcons (path s) (gcons (gnum i) (term t)))

abbrev pub to_term : Gv → Term
to_term (gnum k) = bound k
to_term (gcons gnil (gnum n)) = lit n
to_term (gcons (gnum zero) (gnum k)) = free k
to_term (gcons (gnum (suc zero)) (gnum k)) = meta k
to_term (gcons (gnum (suc (suc zero))) l) = sort (decode l)
to_term (gcons (gnum (suc (suc (suc zero)))) (gcons n ls)) = const (to_path n) (to_levels ls)
to_term (gcons (gnum (suc (suc (suc (suc zero))))) (gcons f a)) = app (to_term f) (to_term a)
to_term (gcons (gnum (suc (suc (suc (suc (suc zero)))))) (gcons x (gcons a b))) = lam (to_binder x) (to_term a) (to_term b)
to_term (gcons (gnum (suc (suc (suc (suc (suc (suc zero))))))) (gcons x (gcons a b))) = pi (to_binder x) (to_term a) (to_term b)
to_term (gcons (gnum (suc (suc (suc (suc (suc (suc (suc zero)))))))) (gcons x (gcons a (gcons v b)))) = letin (to_binder x) (to_term a) (to_term v) (to_term b)
to_term (gcons (gnum (suc (suc (suc (suc (suc (suc (suc (suc zero))))))))) (gcons s (gcons (gnum i) t))) = proj (to_path s) i (to_term t)
to_term _ = bound 0

pub term_back : (t : Term) → to_term (term t) ≡ t
term_back (bound k) = refl
term_back (free k) = refl
term_back (meta k) = refl
term_back (sort l) = λ i. sort (back l i)
term_back (const n ls) = λ i. const (path_back n i) (levels_back ls i)
term_back (app f a) = λ i. app (term_back f i) (term_back a i)
term_back (lam x a b) = λ i. lam (binder_back x i) (term_back a i) (term_back b i)
term_back (pi x a b) = λ i. pi (binder_back x i) (term_back a i) (term_back b i)
term_back (letin x a v b) = λ i. letin (binder_back x i) (term_back a i) (term_back v i) (term_back b i)
term_back (lit n) = refl
term_back (proj s j t) = λ i. proj (path_back s i) j (term_back t i)

abbrev pub coded_term : Coded Term
coded_term = record { code = term; inj = λ x y p. sym (term_back x) ∙ ap to_term p ∙ term_back y }
