-- The document of a number of definitions, each with a theorem that unfolds it.
use Rattle.std.specs.Prelude.{ℕ, zero, suc, List, [], ◌++◌, codes, decimal}

-- `def gI (x : Nat) : Nat := x + I`, and a line feed.
abbrev pub definition : ℕ → List ℕ
definition i = codes "def g" ++ (decimal i ++ (codes " (x : Nat) : Nat := x + " ++ (decimal i ++ codes "\n")))

-- `gI x = x + I`
abbrev pub equation : ℕ → List ℕ
equation i = codes "g" ++ (decimal i ++ (codes " x = x + " ++ decimal i))

-- `theorem tI (x : Nat) : gI x = x + I := by unfold gI; rfl`, and a line feed.
abbrev pub theorem : ℕ → List ℕ
theorem i = codes "theorem t" ++ (decimal i ++ (codes " (x : Nat) : " ++ (equation i ++ (codes " := by unfold g" ++ (decimal i ++ codes "; rfl\n")))))

-- Both for 1, 2 and so on.
abbrev pub document : ℕ → List ℕ
document zero = []
document (suc k) = document k ++ definition (suc k) ++ theorem (suc k)
