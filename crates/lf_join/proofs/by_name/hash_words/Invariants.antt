use Rattle.std.proofs.Common.{◌≡◌, drop}
use Rattle.std.specs.List.{flat_map, fold}
use Rattle.std.specs.Hash as fed
use Rattle.lf_join.proofs.by_name.hash_words.Given as goal

abbrev pub invariant-loop-word : goal.invariant-loop-word
invariant-loop-word g l =
    fold g.H.Hasher.write l.state (flat_map fed.str (drop l.word-index l.words)) ≡ fold g.H.Hasher.write l.fn.state (flat_map fed.str l.words)
