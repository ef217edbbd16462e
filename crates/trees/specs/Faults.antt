-- What is wrong with a row of nodes that is refused, and that every refusal names such a fault.
use Rattle.std.specs.Prelude.{◌≡◌, ℕ, zero, suc, ◌<◌, ◌≤◌, true, ◌⊎◌, List, [], ◌∷◌, ◌++◌, length, Err, slice_index}
use Rattle.refusal.specs.declared.Refusal.{Refusal}
use Rattle.refusal.specs.declared.Refusal.TheVariants.{TableSize, BadIndex, CountPassed, BadKind, NoSuch, BadRule, DefinedArgument, NotAdmitted, BadPlan, Unnumbered, NodeCount, BadLink, BadNode, TooDeep, NotOpened, TooFewCells, PassOpen, ForeignSlip, AllFinished, WalkEnded, NoInstance, NotFinished, Undefined, ListingTooLong, OutOfMemory}
use Rattle.grammar.specs.Grammar.{Grammar}
use Rattle.trees.specs.declared.node.Node.{Node}
use Rattle.trees.specs.Checking.{node, fits, children_symbols, checking}

-- the index names a node other than the root
abbrev pub Names : List Node → ℕ → Type 0
Names nodes i = (1 ≤ i) × (i < length nodes)

-- the index that leads to the child of a parent that has k elder brothers
abbrev pub link : List Node → ℕ → ℕ → ℕ
link nodes parent zero = (node nodes parent).first_child
link nodes parent (suc k) = (node nodes (link nodes parent k)).next_brother

-- the node that holds that index: the parent, or the brother before
abbrev pub holder : List Node → ℕ → ℕ → ℕ
holder nodes parent zero = parent
holder nodes parent (suc k) = link nodes parent k

-- the chain of a parent's children has k nodes at least
abbrev pub Chained : List Node → ℕ → ℕ → Type 0
Chained nodes parent zero = Unit {0}
Chained nodes parent (suc k) = Chained nodes parent k × Names nodes (link nodes parent k)

-- a node may stand for a symbol: it has the symbol, and a production of it or 0 at a terminal
abbrev pub Fitting : Grammar → List Node → ℕ → ℕ → Type 0
Fitting g nodes n s = ((node nodes n).symbol ≡ s) × (fits g s (node nodes n).production ≡ true)

-- the symbols that the children of a node should have
abbrev pub wanted : Grammar → List Node → ℕ → List ℕ
wanted g nodes n = children_symbols g (node nodes n).production

-- From a node n that should have symbol s the links lead to a node m that should have symbol x.
-- A path tells at each level how many elder brothers there are; each node on the way fits, and its right side has that position.
abbrev pub Leads : Grammar → List Node → ℕ → ℕ → List ℕ → ℕ → ℕ → Type 0
Leads g nodes n s [] m x = (m ≡ n) × (x ≡ s)
Leads g nodes n s (k ∷ path) m x =
    Fitting g nodes n s × (k < length (wanted g nodes n)) × Chained nodes n (suc k)
    × Leads g nodes (link nodes n k) (slice_index (wanted g nodes n) k) path m x

-- the links lead from the root, which should have the start symbol, to n, which should have symbol s; its depth is one more than the path is long
abbrev pub Reached : Grammar → List Node → List ℕ → ℕ → ℕ → Type 0
Reached g nodes path n s = Leads g nodes 0 g.vocabulary.start path n s

-- the place of one path is read before that of another: a parent before its children, and an elder brother, with all that is below it, before a younger
abbrev pub Before : List ℕ → List ℕ → Type 0
Before [] [] = ⊥
Before [] (y ∷ ys) = Unit {0}
Before (x ∷ xs) [] = ⊥
Before (x ∷ xs) (y ∷ ys) = (x < y) ⊎ ((x ≡ y) × Before xs ys)

-- n is reached at a place that is read before this one
pub record Earlier (g : Grammar) (nodes : List Node) (n : ℕ) (place : List ℕ) : Type 0 where
  pub other : List ℕ
  pub symbol : ℕ
  pub reached : Reached g nodes other n symbol
  pub before : Before other place

-- the chain of children ends before the right side does, or goes on after it
pub record WrongCount (g : Grammar) (nodes : List Node) (n : ℕ) : Type 0 where
  pub children : ℕ
  pub chain : Chained nodes n children
  pub fault : ((children < length (wanted g nodes n)) × (link nodes n children ≡ 0)) ⊎ ((children ≡ length (wanted g nodes n)) × (1 ≤ link nodes n children))

-- n is reached at depth 64 at most, and does not fit the symbol that it should have, or has too few or too many children
pub record WrongNode (g : Grammar) (nodes : List Node) (n : ℕ) : Type 0 where
  pub path : List ℕ
  pub symbol : ℕ
  pub reached : Reached g nodes path n symbol
  pub shallow : suc (length path) ≤ 64
  pub fault : (Fitting g nodes n symbol → ⊥) ⊎ (Fitting g nodes n symbol × WrongCount g nodes n)

-- n is reached at depth 65
pub record Deep (g : Grammar) (nodes : List Node) (n : ℕ) : Type 0 where
  pub path : List ℕ
  pub symbol : ℕ
  pub reached : Reached g nodes path n symbol
  pub deep : suc (length path) ≡ 65

-- An index of h leads to a child that the right side of a reached node has, and names no node of the row, or one that is reached at an earlier place.
pub record WrongLink (g : Grammar) (nodes : List Node) (h : ℕ) : Type 0 where
  pub path : List ℕ
  pub parent : ℕ
  pub symbol : ℕ
  pub elder : ℕ
  pub reached : Reached g nodes path parent symbol
  pub shallow : suc (length path) ≤ 64
  pub fitting : Fitting g nodes parent symbol
  pub within : elder < length (wanted g nodes parent)
  pub chain : Chained nodes parent elder
  pub held : h ≡ holder nodes parent elder
  pub not_end : 1 ≤ link nodes parent elder
  pub fault : (length nodes ≤ link nodes parent elder) ⊎ Earlier g nodes (link nodes parent elder) (path ++ elder ∷ [])

-- a node of the row to which no links lead from the root
abbrev pub Stray : Grammar → List Node → ℕ → Type 0
Stray g nodes n = (n < length nodes) × ((path : List ℕ) (s : ℕ) → Reached g nodes path n s → ⊥)

-- what is wrong with the row, by the refusal
abbrev pub Fault : Grammar → List Node → Refusal → Type 0
Fault g nodes NodeCount = (1 ≤ length nodes) × (length nodes ≤ 4096) → ⊥
Fault g nodes (BadNode n) = WrongNode g nodes n
Fault g nodes (TooDeep n) = Deep g nodes n
Fault g nodes (BadLink h) = WrongLink g nodes h ⊎ Stray g nodes h
Fault g nodes TableSize = ⊥
Fault g nodes (BadIndex n) = ⊥
Fault g nodes (CountPassed n) = ⊥
Fault g nodes (BadKind n) = ⊥
Fault g nodes (NoSuch n) = ⊥
Fault g nodes (BadRule n) = ⊥
Fault g nodes (DefinedArgument n) = ⊥
Fault g nodes (NotAdmitted n) = ⊥
Fault g nodes (BadPlan n) = ⊥
Fault g nodes (Unnumbered n) = ⊥
Fault g nodes NotOpened = ⊥
Fault g nodes TooFewCells = ⊥
Fault g nodes (PassOpen n) = ⊥
Fault g nodes (ForeignSlip n) = ⊥
Fault g nodes (AllFinished n) = ⊥
Fault g nodes WalkEnded = ⊥
Fault g nodes (NoInstance n) = ⊥
Fault g nodes (NotFinished n) = ⊥
Fault g nodes (Undefined n) = ⊥
Fault g nodes (ListingTooLong n) = ⊥
Fault g nodes OutOfMemory = ⊥

-- A row that is refused has the fault that the refusal names.
abbrev pub RefusalNamesAFault : Type 0
RefusalNamesAFault = (g : Grammar) (nodes : List Node) (e : Refusal) → checking g nodes ≡ Err e → Fault g nodes e
