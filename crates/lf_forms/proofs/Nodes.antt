-- Messages and nodes, one after another.
use Rattle.std.proofs.Common.{◌≡◌, ℕ, ◌+◌, List, [], ◌∷◌, ◌++◌, reverse, refl, sym, ap, ◌∙◌, append_assoc, add_assoc, arith}
use Rattle.std.specs.Prelude.{map}
use Rattle.std.proofs.lemmas.List.{append-nil, map-append}
use Rattle.lf_elaboration.specs.Messages as found
use Rattle.lf_elaboration.specs.Messages.{messages_of, nodes_of}
use Rattle.lf_part.specs.declared.message.Message.{Message}
use Rattle.lf_part.specs.declared.message.Node.{Node}
use Rattle.lf_part.specs.Says.{message, node}
use Rattle.lf_forms.proofs.Turned.{turned, back}

pub messages_begun : (all messages : List Message) → all ++ reverse (reverse messages) ≡ all ++ messages
messages_begun all messages = ap (λ ms. all ++ ms) (back messages)

pub messages_more : (all xs ys : List Message) (x : Message) → ys ≡ xs ++ x ∷ [] → (all ++ x ∷ []) ++ reverse xs ≡ all ++ reverse ys
messages_more all xs ys x e = append_assoc all (x ∷ []) (reverse xs) ∙ ap (λ r. all ++ r) (sym (turned xs x)) ∙ ap (λ r. all ++ reverse r) (sym e)

pub messages_over : (all xs : List Message) → xs ≡ [] → all ++ reverse xs ≡ all
messages_over all xs e = ap (λ r. all ++ reverse r) e ∙ append-nil all

pub nodes_begun : (all : List found.Message) (ns : List Node) → all ++ messages_of (map node (reverse (reverse ns))) ≡ all ++ messages_of (map node ns)
nodes_begun all ns = ap (λ r. all ++ messages_of (map node r)) (back ns)

pub counts_begun : (ns : List Node) → 0 + nodes_of (map node (reverse (reverse ns))) ≡ nodes_of (map node ns)
counts_begun ns = let e = ap (λ r. nodes_of (map node r)) (back ns) in omega (arith, e)

pub nodes_more : (all ms : List Message) (xs ys : List Node) (x : Node) → ys ≡ xs ++ x ∷ [] → x.messages.items ≡ ms
    → map message (all ++ ms) ++ messages_of (map node (reverse xs)) ≡ map message all ++ messages_of (map node (reverse ys))
nodes_more all ms xs ys x e f =
    ap (λ r. r ++ messages_of (map node (reverse xs))) (map-append message all ms)
    ∙ append_assoc (map message all) (map message ms) (messages_of (map node (reverse xs)))
    ∙ ap (λ r. map message all ++ (map message r ++ messages_of (map node (reverse xs)))) (sym f)
    ∙ ap (λ r. map message all ++ messages_of (map node r)) (sym (turned xs x))
    ∙ ap (λ r. map message all ++ messages_of (map node (reverse r))) (sym e)

pub counts_more : (n : ℕ) (xs ys : List Node) (x : Node) → ys ≡ xs ++ x ∷ []
    → n + x.nodes + nodes_of (map node (reverse xs)) ≡ n + nodes_of (map node (reverse ys))
counts_more n xs ys x e =
    let p = ap (λ r. nodes_of (map node r)) (turned xs x) in
    let q = ap (λ r. nodes_of (map node (reverse r))) e in
    omega (arith, p, q)

pub nodes_over : (all : List found.Message) (xs : List Node) → xs ≡ [] → all ++ messages_of (map node (reverse xs)) ≡ all
nodes_over all xs e = ap (λ r. all ++ messages_of (map node (reverse r))) e ∙ append-nil all

pub counts_over : (n : ℕ) (xs : List Node) → xs ≡ [] → n + nodes_of (map node (reverse xs)) ≡ n
counts_over n xs e = let p = ap (λ r. nodes_of (map node (reverse r))) e in omega (arith, p)
