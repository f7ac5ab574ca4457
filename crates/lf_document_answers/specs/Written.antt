-- Commands and terms as they are written, by the places of their tokens.
use Rattle.std.specs.Prelude.{ℕ, ◌+◌, false, true, Option, Some, List, [], ◌∷◌, ◌++◌}
use Prim.Native.String.{String}
use Rattle.lf_name.specs.declared.binder.BinderKind.TheVariants.{Explicit}
use Rattle.lf_syntax.specs.declared.leaf.Ident.{Ident}
use Rattle.lf_syntax.specs.declared.term.Binders.{Binders}
use Rattle.lf_syntax.specs.declared.command.Decl.{Decl}
use Rattle.lf_syntax.specs.declared.command.FieldDecl.{FieldDecl}
use Rattle.lf_syntax.specs.declared.command.Helper.{Helper}
use Rattle.lf_syntax.specs.Tree as tree
use Rattle.lf_syntax.specs.Tree.{TermTree, ItemTree, terms_of, items_of}
use Rattle.lf_text.specs.declared.operator.Op.TheVariants as op
use Rattle.lf_examples.specs.Words.{word, dotted}

abbrev pub ident : ℕ → String → Ident
ident p x = record { at = p; name = word x }

abbrev pub ident_of_two : ℕ → String → String → Ident
ident_of_two p x y = record { at = p; name = dotted x y }

abbrev pub ident_of_three : ℕ → String → String → String → Ident
ident_of_three p x y z = record { at = p; name = dotted x y ++ word z }

abbrev pub name : ℕ → String → TermTree
name p x = tree.ident p false (ident p x) []

abbrev pub name_of_two : ℕ → String → String → TermTree
name_of_two p x y = tree.ident p false (ident_of_two p x y) []

-- @x.y
abbrev pub at_name_of_two : ℕ → String → String → TermTree
at_name_of_two p x y = tree.ident p true (ident_of_two (p + 1) x y) []

abbrev pub number : ℕ → ℕ → TermTree
number p n = tree.numeral (record { at = p; value = n })

abbrev pub applied : TermTree → List TermTree → TermTree
applied f xs = tree.app (tree.place f) f (terms_of xs)

abbrev pub equals : TermTree → TermTree → TermTree
equals l r = tree.oper (tree.place l) op.Eq l r

abbrev pub arrow : TermTree → TermTree → TermTree
arrow l r = tree.oper (tree.place l) op.Arrow l r

abbrev pub parens : ℕ → TermTree → TermTree
parens p t = tree.paren p t tree.no_term

abbrev pub by_items : ℕ → List ItemTree → TermTree
by_items p is = tree.by_term p (items_of is)

-- (x : t)
abbrev pub binder : ℕ → ℕ → String → TermTree → Binders
binder p q x t = record { at = p; kind = Explicit; names = ident q x ∷ []; ty = t }

abbrev pub decl : ℕ → Ident → List Binders → Option TermTree → Decl
decl p x bs t = record { at = p; name = x; levels = []; binders = bs; ty = t }

-- With these level names.
abbrev pub levelled : Decl → List Ident → Decl
levelled d ls = record d { levels = ls }

-- Type u
abbrev pub type_u : ℕ → ℕ → TermTree
type_u p q = tree.type_u p (Some (tree.level_name (ident q "u")))

-- Sort u
abbrev pub sort_u : ℕ → ℕ → TermTree
sort_u p q = tree.sort_u p (Some (tree.level_name (ident q "u")))

-- ∀ (x : A), B
abbrev pub for_all : ℕ → ℕ → ℕ → String → TermTree → TermTree → TermTree
for_all p q r x A B = tree.forall_term p (tree.binders_of (tree.typed (tree.binders q Explicit (ident r x ∷ []) A) ∷ [])) B

-- x : t
abbrev pub field : Ident → TermTree → FieldDecl
field x t = record { at = x.at; names = x ∷ []; ty = t }

-- x : t := v
abbrev pub helping : Ident → TermTree → TermTree → Helper
helping x t v = record { at = x.at; name = x; binders = []; ty = t; value = v }
