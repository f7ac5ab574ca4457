-- Terms and proof items as they are written, by the places of their first tokens.
use Rattle.std.specs.Prelude.{ℕ, true, false, Some, List, [], ◌∷◌}
use Prim.Native.String.{String}
use Rattle.lf_core.specs.Term.{Path}
use Rattle.lf_name.specs.declared.binder.BinderKind.TheVariants.{Explicit}
use Rattle.lf_syntax.specs.declared.leaf.Ident.{Ident}
use Rattle.lf_syntax.specs.Tree as tree
use Rattle.lf_syntax.specs.Tree.{TermTree, ItemTree, terms_of, items_of, binders_of, rules_of}
use Rattle.lf_text.specs.declared.operator.Op.TheVariants as op
use Rattle.lf_examples.specs.Words.{word, dotted}

abbrev pub named : ℕ → Path → Ident
named p n = record { at = p; name = n }

abbrev pub ident : ℕ → String → Ident
ident p x = named p (word x)

abbrev pub name : ℕ → String → TermTree
name p x = tree.ident p false (ident p x) []

abbrev pub name_of_two : ℕ → String → String → TermTree
name_of_two p x y = tree.ident p false (named p (dotted x y)) []

abbrev pub at_name : ℕ → String → TermTree
at_name p x = tree.ident p true (ident p x) []

abbrev pub number : ℕ → ℕ → TermTree
number p n = tree.numeral (record { at = p; value = n })

abbrev pub equals : TermTree → TermTree → TermTree
equals l r = tree.oper (tree.place l) op.Eq l r

abbrev pub plus : TermTree → TermTree → TermTree
plus l r = tree.oper (tree.place l) op.Add l r

abbrev pub applied : TermTree → List TermTree → TermTree
applied f xs = tree.app (tree.place f) f (terms_of xs)

abbrev pub hole : ℕ → TermTree
hole p = tree.hole p

abbrev pub typed : TermTree → TermTree → TermTree
typed s u = tree.paren (tree.place s) s (tree.some_term u)

-- (s)
abbrev pub bracketed : ℕ → TermTree → TermTree
bracketed p s = tree.paren p s tree.no_term

-- let x := v; s
abbrev pub let_of : ℕ → Ident → TermTree → TermTree → TermTree
let_of p x v s = tree.let_term p x tree.no_term v s

-- Type n
abbrev pub type_above : ℕ → ℕ → ℕ → TermTree
type_above p q n = tree.type_u p (Some (tree.level_number (record { at = q; value = n })))

abbrev pub by_items : ℕ → List ItemTree → TermTree
by_items p is = tree.by_term p (items_of is)

abbrev pub fun_of : ℕ → Ident → TermTree → TermTree
fun_of p x s = tree.fun_term p (binders_of (tree.plain x ∷ [])) s

-- fun x y => s
abbrev pub fun_of_two : ℕ → Ident → Ident → TermTree → TermTree
fun_of_two p x y s = tree.fun_term p (binders_of (tree.plain x ∷ tree.plain y ∷ [])) s

-- fun {x} => s
abbrev pub fun_implicit : ℕ → Ident → TermTree → TermTree
fun_implicit p x s = tree.fun_term p (binders_of (tree.implicit x.at (x ∷ []) ∷ [])) s

-- ∀ (xs : t), s
abbrev pub all_of : ℕ → List Ident → TermTree → TermTree → TermTree
all_of p xs t s = tree.forall_term p (binders_of (tree.typed (tree.binders p Explicit xs t) ∷ [])) s

-- fun (x : t) => s
abbrev pub fun_typed : ℕ → Ident → TermTree → TermTree → TermTree
fun_typed p x t s = tree.fun_term p (binders_of (tree.typed (tree.binders x.at Explicit (x ∷ []) t) ∷ [])) s

abbrev pub rw : ℕ → TermTree → ItemTree
rw p s = tree.rw_item p (rules_of (tree.rule (tree.place s) false s ∷ []))

abbrev pub block : ℕ → List ItemTree → ItemTree
block p is = tree.block p (items_of is)

-- rw [s], the equation turned
abbrev pub rw_back : ℕ → TermTree → ItemTree
rw_back p s = tree.rw_item p (rules_of (tree.rule (tree.place s) true s ∷ []))
