-- Locals without the last one.
use Rattle.std.specs.Prelude.{List, [], ◌∷◌}
use Rattle.lf_elaboration.specs.Part.{Locals}

abbrev pub before : {A : Type 0} → A → List A → List A → List A
before x [] rest = []
before x (y ∷ ys) rest = x ∷ rest

unfoldable pub front : {A : Type 0} → List A → List A
front [] = []
front (x ∷ xs) = before x xs (front xs)

abbrev pub without_last : Locals → Locals
without_last L = record { types = front L.types; names = front L.names }
