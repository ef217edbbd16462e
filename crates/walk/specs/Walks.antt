-- The walk of a derivation tree in a direction: the steps of a pass over its inner nodes.
use Rattle.std.specs.Prelude.{◌≡◌, ℕ, zero, suc, ◌+◌, ◌*◌, ◌<◌, true, List, [], ◌∷◌, ◌++◌, map, length, count_by, nat_eq}
use Rattle.std.specs.List.{flat_map}
use Rattle.plans.specs.declared.Direction.{Direction}
use Rattle.plans.specs.declared.Direction.TheVariants.{Left, Right}
use Rattle.grammar.specs.Members.{◌∈◌}
use Rattle.grammar.specs.Grammar.{Grammar, is_inner}
use Rattle.grammar.specs.Lawful.{Lawful}
use Rattle.trees.specs.declared.node.Node.{Node}
use Rattle.trees.specs.Checking.{node}
use Rattle.grammar.specs.Members.{Apart}
use Rattle.trees.specs.Trees.{Forest, none, brother, Tree, tree_numbers, Stands}
use Rattle.trees.specs.Laws.{Within, Child}

-- a step enters the child at a position of its parent, or leaves a node
pub data Step : Type 0 where
  enter : (parent position child : ℕ) → Step
  leave : (node : ℕ) → Step

-- the inner nodes of a forest, which have productions, each before what is below it
abbrev pub inners : Forest → List ℕ
inners none = []
inners (brother n s zero below rest) = inners rest
inners (brother n s (suc p) below rest) = n ∷ (inners below ++ inners rest)

abbrev pub inner_nodes : Tree → List ℕ
inner_nodes t = 0 ∷ inners t.children

-- two lists one after the other, the first one first in a left pass and last in a right pass
abbrev pub joined : {A : Type 0} → Direction → List A → List A → List A
joined Left xs ys = xs ++ ys
joined Right xs ys = ys ++ xs

-- The steps over brothers, whose parent and first position are given: each inner one is entered, what is below it is walked, and it is left.
abbrev pub tour : Direction → ℕ → ℕ → Forest → List Step
tour d parent position none = []
tour d parent position (brother n s zero below rest) = tour d parent (suc position) rest
tour d parent position (brother n s (suc p) below rest) =
    joined d (enter parent position n ∷ (tour d n 1 below ++ leave n ∷ [])) (tour d parent (suc position) rest)

-- a pass stands at the root, walks what is below it, and leaves it
abbrev pub walk : Direction → Tree → List Step
walk d t = tour d 0 1 t.children ++ leave 0 ∷ []

-- the nodes that the steps enter
abbrev pub entered : List Step → List ℕ
entered [] = []
entered (enter parent position child ∷ steps) = child ∷ entered steps
entered (leave n ∷ steps) = entered steps

-- the nodes that the steps leave
abbrev pub left : List Step → List ℕ
left [] = []
left (enter parent position child ∷ steps) = left steps
left (leave n ∷ steps) = n ∷ left steps

-- an inner child of a node: its position, its number and what is below it
pub record InnerChild : Type 0 where
  pub position : ℕ
  pub node : ℕ
  pub below : Forest

-- the inner ones of some brothers, in the order of the direction
abbrev pub inner_children : Direction → ℕ → Forest → List InnerChild
inner_children d position none = []
inner_children d position (brother n s zero below rest) = inner_children d (suc position) rest
inner_children d position (brother n s (suc p) below rest) =
    joined d (record { position = position; node = n; below = below } ∷ []) (inner_children d (suc position) rest)

-- the visit of an inner child, from its enter to its leave
abbrev pub visit : Direction → ℕ → InnerChild → List Step
visit d parent c = enter parent c.position c.node ∷ (tour d c.node 1 c.below ++ leave c.node ∷ [])

-- a pass in the direction comes to position j before it comes to position k
abbrev pub Sooner : Direction → ℕ → ℕ → Type 0
Sooner Left j k = j < k
Sooner Right j k = k < j

-- each position comes sooner than those behind it
abbrev pub InDirection : Direction → List ℕ → Type 0
InDirection d [] = Unit {0}
InDirection d (j ∷ js) = ((k : ℕ) → k ∈ js → Sooner d j k) × InDirection d js

-- one list stands in another, whole
pub record Inside {A : Type 0} (part whole : List A) : Type 0 where
  pub before : List A
  pub behind : List A
  pub split : whole ≡ before ++ (part ++ behind)

-- a list has each of these once, and no others
pub record OnceEach (xs these : List ℕ) : Type 0 where
  pub once : (n : ℕ) → n ∈ these → count_by (nat_eq n) xs ≡ 1
  pub only : (n : ℕ) → n ∈ xs → n ∈ these

-- The inner nodes of a tree that a row holds are the nodes of the row that have inner symbols, each listed once.
pub record ListsTheInnerNodes (g : Grammar) (nodes : List Node) (t : Tree) : Type 0 where
  pub inner : (n : ℕ) → n ∈ inner_nodes t → (n < length nodes) × (is_inner g.vocabulary (node nodes n).symbol ≡ true)
  pub all : (n : ℕ) → n < length nodes → is_inner g.vocabulary (node nodes n).symbol ≡ true → n ∈ inner_nodes t
  pub once : Apart (inner_nodes t)

abbrev pub InnerNodesHaveInnerSymbols : Type 0
InnerNodesHaveInnerSymbols = (g : Grammar) (nodes : List Node) (t : Tree) → Lawful g → Stands g nodes t → ListsTheInnerNodes g nodes t

-- A walk over N inner nodes has 2N - 1 steps.
abbrev pub WalkLength : Type 0
WalkLength = (d : Direction) (t : Tree) → length (walk d t) + 1 ≡ 2 * length (inner_nodes t)

-- A walk enters each inner node but the root once, and no other node.
abbrev pub WalkEntersEachOnce : Type 0
WalkEntersEachOnce = (d : Direction) (t : Tree) → Apart (tree_numbers t) → OnceEach (entered (walk d t)) (inners t.children)

-- A walk leaves each inner node once, and no other node.
abbrev pub WalkLeavesEachOnce : Type 0
WalkLeavesEachOnce = (d : Direction) (t : Tree) → Apart (tree_numbers t) → OnceEach (left (walk d t)) (inner_nodes t)

-- Brothers are visited whole, one after the other, in the order of the direction.
abbrev pub BrothersAreVisitedInOrder : Type 0
BrothersAreVisitedInOrder = (d : Direction) (parent position : ℕ) (f : Forest)
    → (tour d parent position f ≡ flat_map (visit d parent) (inner_children d position f))
    × InDirection d (map (λ c. c.position) (inner_children d position f))

-- What is below a node is walked between its enter, at its position of its parent, and its leave.
abbrev pub WalkNests : Type 0
WalkNests = (g : Grammar) (nodes : List Node) (t : Tree) → Stands g nodes t → (d : Direction)
    → (n s p : ℕ) (below : Forest) → Within t.children n s (suc p) below
    → (parent : ℕ) × (position : ℕ) × Child t parent position n
    × Inside (visit d parent (record { position = position; node = n; below = below })) (walk d t)
