-- Grammars in which one token decides how to go on (predictive grammars), their derivations, and trees by synthesized attributes.
use Rattle.std.specs.Prelude.{◌≡◌, List, [], ◌∷◌, ◌++◌, Option, None, Some}

-- What takes one tree for each of these symbols and gives an R.
abbrev pub Takes : {S : Type 0} → (S → Type 0) → List S → Type 0 → Type 0
Takes Tree [] R = R
Takes Tree (x ∷ xs) R = Tree x → Takes Tree xs R

-- The trees of xs, made into an A, and then those of ys.
abbrev pub join : {S : Type 0} (Tree : S → Type 0) {A : Type 0} (R : Type 0) (xs ys : List S) → Takes Tree xs A → (A → Takes Tree ys R)
    → Takes Tree (xs ++ ys) R
join Tree R [] ys a k = k a
join Tree R (x ∷ xs) ys f k = λ v. join Tree R xs ys (f v) k

-- The symbols that follow a first token, and what comes of their trees.
pub record Production (S : Type 0) (Tree : S → Type 0) (V : Type 0) : Type 0 where
  pub body : List S
  pub build : Takes Tree body V

pub record Grammar : Type 1 where
  -- Symbols, tokens, the tree of each symbol.
  pub S : Type 0
  pub T : Type 0
  pub Tree : S → Type 0
  -- How the symbol goes on where it begins with this token.
  pub begin : (x : S) → T → Option (Production S Tree (Tree x))
  -- Its tree where it is left out, if it may be.
  pub without : (x : S) → Option (Tree x)

-- The symbol can't begin with what comes next.
abbrev pub Quiet : (g : Grammar) → g.S → List g.T → Type 0
Quiet g x [] = Unit {0}
Quiet g x (t ∷ ts) = g.begin x t ≡ None

-- The symbols, one after another, are these tokens up to the rest.
-- A symbol is left out only where it can't begin with the token that comes next.
pub data Reads (g : Grammar) : List g.S → List g.T → List g.T → Type 0 where
  nothing : {ts : List g.T} → Reads g [] ts ts
  left_out : {x : g.S} {xs : List g.S} {ts rest : List g.T} (v : g.Tree x) →
      g.without x ≡ Some v → Quiet g x ts → Reads g xs ts rest → Reads g (x ∷ xs) ts rest
  taken : {x : g.S} {xs : List g.S} {ts us rest : List g.T} (t : g.T) (p : Production g.S g.Tree (g.Tree x)) →
      g.begin x t ≡ Some p → Reads g p.body ts us → Reads g xs us rest → Reads g (x ∷ xs) (t ∷ ts) rest

-- What the trees of the symbols give.
abbrev pub tree : {g : Grammar} {xs : List g.S} {ts rest : List g.T} {R : Type 0} → Reads g xs ts rest → Takes g.Tree xs R → R
tree nothing f = f
tree (left_out v e q d) f = tree d (f v)
tree (taken t p e b d) f = tree d (f (tree b p.build))

-- The tokens are those of a derivation of the symbol, and this is its tree.
pub record Derives (g : Grammar) (x : g.S) (ts : List g.T) (r : g.Tree x) : Type 0 where
  pub reads : Reads g (x ∷ []) ts []
  pub same : tree reads (λ v. v) ≡ r

-- Some tokens behind these make a derivation.
pub record Begins (g : Grammar) (x : g.S) (ts : List g.T) : Type 0 where
  pub more : List g.T
  pub reads : Reads g (x ∷ []) (ts ++ more) []

-- The last are the tokens from the first on that doesn't belong: those before it begin a derivation, and with it they don't.
pub record BadAt (g : Grammar) (x : g.S) (ts last : List g.T) : Type 0 where
  pub before : List g.T
  pub bad : g.T
  pub more : List g.T
  pub place : last ≡ bad ∷ more
  pub tokens : ts ≡ before ++ last
  pub begins : Begins g x before
  pub ends : Begins g x (before ++ (bad ∷ [])) → ⊥

-- All tokens begin a derivation and are none.
pub record EndsEarly (g : Grammar) (x : g.S) (ts : List g.T) : Type 0 where
  pub begins : Begins g x ts
  pub none : Reads g (x ∷ []) ts [] → ⊥
