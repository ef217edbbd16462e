-- The path of a pass: the nodes that are entered and not left, each with the position of its child that was entered last.
use Rattle.std.specs.Prelude.{◌≡◌, ℕ, suc, ◌≤◌, Bool, cond, ◌||◌, List, [], ◌∷◌, ◌++◌, length, Some, None, Option, ◌==◌, nat_lt}
use Rattle.plans.specs.declared.Direction.{Direction}
use Rattle.plans.specs.declared.Direction.TheVariants.{Left, Right}
use Rattle.grammar.specs.Grammar.{Vocabulary, Grammar, is_inner}
use Rattle.trees.specs.declared.node.Node.{Node}
use Rattle.trees.specs.Checking.{node, children_symbols}
use Rattle.trees.specs.Trees.{Tree, tree_depth, Stands}
use Rattle.walk.specs.declared.entry.Entry.{Entry}
use Rattle.walk.specs.Positions.{at_position}
use Rattle.walk.specs.Walks.{Step, enter, leave, joined, walk}

-- position j is yet to come after the last one that was entered, where 0 says that none was
abbrev pub to_come : Direction → ℕ → ℕ → Bool
to_come Left last j = nat_lt last j
to_come Right last j = last == 0 || nat_lt j last

-- the positions that have inner symbols, from the first position on, in the order of the direction
abbrev pub inner_positions : Vocabulary → Direction → ℕ → List ℕ → List ℕ
inner_positions v d position [] = []
inner_positions v d position (s ∷ ss) =
    cond (is_inner v s) (joined d (position ∷ []) (inner_positions v d (suc position) ss)) (inner_positions v d (suc position) ss)

-- the first of the positions that is yet to come
abbrev pub first_to_come : Direction → ℕ → List ℕ → Option ℕ
first_to_come d last [] = None
first_to_come d last (j ∷ js) = cond (to_come d last j) (Some j) (first_to_come d last js)

-- an entry of which no child was entered
abbrev pub fresh : ℕ → Entry
fresh n = record { node = n; last = 0 }

-- the path at the beginning of a pass
abbrev pub root_path : List Entry
root_path = fresh 0 ∷ []

module _ (g : Grammar) (nodes : List Node) (d : Direction) where
  -- the position of the inner child that comes next at an entry, if there is one
  abbrev pub next_position : Entry → Option ℕ
  next_position e =
      first_to_come d e.last (inner_positions g.vocabulary d 1 (children_symbols g (node nodes e.node).production))

  -- a move at the innermost entry enters the inner child that comes next, or leaves the node where there is none
  abbrev pub step_to : Entry → Option ℕ → Step
  step_to e None = leave e.node
  step_to e (Some j) = enter e.node j (at_position nodes e.node j)

  abbrev pub path_to : Entry → List Entry → Option ℕ → List Entry
  path_to e path None = path
  path_to e path (Some j) = fresh (at_position nodes e.node j) ∷ record { node = e.node; last = j } ∷ path

  abbrev pub step_at : Entry → Step
  step_at e = step_to e (next_position e)

  abbrev pub path_after : Entry → List Entry → List Entry
  path_after e path = path_to e path (next_position e)

  -- moves from one path to another perform the steps; the innermost entry of a path stands first
  abbrev pub Performs : List Entry → List Step → List Entry → Type 0
  Performs path [] end = end ≡ path
  Performs [] (s ∷ steps) end = ⊥
  Performs (e ∷ path) (s ∷ steps) end = (step_at e ≡ s) × Performs (path_after e path) steps end

-- From the root's entry on, moves perform exactly the walk, and then the path is empty.
abbrev pub MovesPerformTheWalk : Type 0
MovesPerformTheWalk = (g : Grammar) (nodes : List Node) (t : Tree) → Stands g nodes t → (d : Direction)
    → Performs g nodes d root_path (walk d t) []

-- The moves that lead to a path are the beginning of the walk, and from the path on they perform the rest of it.
abbrev pub MovesFollowTheWalk : Type 0
MovesFollowTheWalk = (g : Grammar) (nodes : List Node) (t : Tree) → Stands g nodes t → (d : Direction)
    → (steps : List Step) (path : List Entry) → Performs g nodes d root_path steps path
    → (rest : List Step) × (walk d t ≡ steps ++ rest) × Performs g nodes d path rest []

-- A path tells the moves that led to it.
abbrev pub PathTellsTheMoves : Type 0
PathTellsTheMoves = (g : Grammar) (nodes : List Node) (t : Tree) → Stands g nodes t → (d : Direction)
    → (steps others : List Step) (path : List Entry) → Performs g nodes d root_path steps path → Performs g nodes d root_path others path
    → steps ≡ others

-- No path is longer than the tree is deep.
abbrev pub PathIsWithinTheDepth : Type 0
PathIsWithinTheDepth = (g : Grammar) (nodes : List Node) (t : Tree) → Stands g nodes t → (d : Direction)
    → (steps : List Step) (path : List Entry) → Performs g nodes d root_path steps path → length path ≤ tree_depth t
