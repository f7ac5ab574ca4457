-- Whether one of the blocks behind a place has said anything.
use Rattle.std.proofs.Common.{◌≡◌, ◌<◌, ◌+◌, ℕ, Bool, true, false, ◌||◌, List, [], ◌∷◌, ◌++◌, length, drop, get_or, map, refl, sym, ap, ◌∙◌}
use Rattle.std.proofs.lemmas.List.{drop_more}
use Rattle.lf_elaboration.specs.Messages as found
use Rattle.lf_elaboration.specs.Messages.{messages_of}
use Rattle.lf_document.specs.Task.{is_some_message}
use Rattle.lf_part.specs.declared.message.Node.{Node}
use Rattle.lf_part.specs.Says.{message, node}

first_or : (ms ns : List found.Message) → is_some_message (ms ++ ns) ≡ (is_some_message ms || is_some_message ns)
first_or [] ns = refl
first_or (m ∷ ms) ns = refl

abbrev pub told_from : List Node → ℕ → Bool
told_from ns i = is_some_message (messages_of (map node (drop i ns)))

one_more : (ns : List Node) (i : ℕ) (n : Node) → i < length ns → n ≡ get_or ns i n
    → told_from ns i ≡ (is_some_message (map message n.messages.items) || told_from ns (i + 1))
one_more ns i n l e =
    ap (λ ds. is_some_message (messages_of (map node ds))) (drop_more ns i n l ∙ ap (λ d. d ∷ drop (i + 1) ns) (sym e))
    ∙ first_or (map message n.messages.items) (messages_of (map node (drop (i + 1) ns)))

pub one_tells : (ns : List Node) (i : ℕ) (n : Node) → i < length ns → n ≡ get_or ns i n → is_some_message (map message n.messages.items) ≡ true
    → told_from ns i ≡ true
one_tells ns i n l e h = one_more ns i n l e ∙ ap (λ b. b || told_from ns (i + 1)) h

pub none_tells : (ns : List Node) (i : ℕ) (n : Node) → i < length ns → n ≡ get_or ns i n → is_some_message (map message n.messages.items) ≡ false
    → told_from ns (i + 1) ≡ told_from ns i
none_tells ns i n l e h = sym (one_more ns i n l e ∙ ap (λ b. b || told_from ns (i + 1)) h)
