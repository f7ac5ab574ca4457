-- A term behind others.
use Rattle.std.proofs.Common.{◌≡◌, ◌≤◌, ◌+◌, ℕ, true, List, [], ◌∷◌, ◌++◌, length, Option, None, Some, refl, sym, ap, ◌∙◌, arith, length-append}
use Rattle.lf_syntax.specs.Symbol.{Spine}
use Rattle.lf_syntax.specs.Tree.{LevelTree, TermTree, type_u, sort_u}
use Rattle.lf_syntax.specs.Build.{sort_or_none, level_of}
use Rattle.lf_parse_term.specs.Spine.{settled, list_of, extend}
use Rattle.lf_parse_term.proofs.Arguments.{Kind, kind, type_kind, sort_kind, plain_kind}

pub extend_end : (before : List TermTree) (a : TermTree) (ts : List TermTree) → extend (before ++ (a ∷ [])) ts ≡ before ++ list_of (settled a ts)
extend_end [] a ts = refl
extend_end (b ∷ []) a ts = refl
extend_end (b ∷ c ∷ before) a ts = ap (λ us. b ∷ us) (extend_end (c ∷ before) a ts)

one_length : (make : Option LevelTree → TermTree) (t : TermTree) (o : Option LevelTree) → length (list_of (sort_or_none make t [] o)) ≤ 2
one_length make t None = omega arith
one_length make t (Some l) = omega arith

joined : (a t : TermTree) → Kind a → length (list_of (settled a (t ∷ []))) ≤ 2
joined _ t (type_kind {at}) = one_length (type_u at) t (level_of t true)
joined _ t (sort_kind {at}) = one_length (sort_u at) t (level_of t true)
joined a t (plain_kind keeps) = rw (keeps (t ∷ [])) (omega arith)

pub joined_length : (before : List TermTree) (a t : TermTree) → length (before ++ list_of (settled a (t ∷ []))) ≤ length (before ++ (a ∷ [])) + 1
joined_length before a t = omega (arith, length-append before (list_of (settled a (t ∷ []))), length-append before (a ∷ []), joined a t (kind a))
