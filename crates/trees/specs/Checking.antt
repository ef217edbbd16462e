-- Checking a row of nodes in reading order: a derivation tree, or the first fault that is met.
use Rattle.std.specs.Prelude.{ℕ, zero, suc, ◌-◌, Bool, true, false, cond, not, ◌&&◌, ◌||◌, List, [], ◌∷◌, length, replicate, Ok, Err, Result, ◌==◌, nat_le, slice_index_or, slice_set}
use Rattle.refusal.specs.declared.Refusal.{Refusal}
use Rattle.refusal.specs.declared.Refusal.TheVariants.{NodeCount, BadLink, BadNode, TooDeep}
use Rattle.grammar.specs.Grammar.{Grammar, Production, is_symbol, is_inner, names}
use Rattle.trees.specs.declared.node.Node.{Node}

abbrev pub no_node : Node
no_node = record { symbol = 0; production = 0; first_child = 0; next_brother = 0 }

-- the node with a number, which counts from 0
abbrev pub node : List Node → ℕ → Node
node nodes n = slice_index_or nodes n no_node

abbrev pub no_production : Production
no_production = record { left = 0; right = []; rules = [] }

-- the production with a number, which counts from 1
abbrev pub production : Grammar → ℕ → Production
production g p = slice_index_or g.productions (p - 1) no_production

-- a number is that of a production with this left side
abbrev pub is_production : Grammar → ℕ → ℕ → Bool
is_production g symbol p = names (length g.productions) p && (production g p).left == symbol

abbrev pub is_terminal : Grammar → ℕ → Bool
is_terminal g symbol = is_symbol g.vocabulary symbol && not (is_inner g.vocabulary symbol)

-- what may stand at a node of a symbol: a production of that symbol, or 0 at a terminal
abbrev pub fits : Grammar → ℕ → ℕ → Bool
fits g symbol p = cond (is_inner g.vocabulary symbol) (is_production g symbol p) (is_terminal g symbol && p == 0)

-- the symbols of the children: the right side, or none at a terminal
abbrev pub children_symbols : Grammar → ℕ → List ℕ
children_symbols g p = cond (p == 0) [] (production g p).right

-- a check goes from the nodes reached so far to those reached then, or to a refusal
abbrev pub Check : Type 0
Check = List Bool → Result (List Bool) Refusal

abbrev pub and_then : Result (List Bool) Refusal → Check → Result (List Bool) Refusal
and_then (Ok reached) k = k reached
and_then (Err e) k = Err e

-- the first of so many nodes, counted on from n, that is not reached is a fault
abbrev pub all_reached : ℕ → ℕ → List Bool → Result (Unit {0}) Refusal
all_reached n zero reached = Ok tt
all_reached n (suc count) reached = cond (slice_index_or reached n false) (all_reached (suc n) count reached) (Err (BadLink n))

module _ (g : Grammar) (nodes : List Node) where
  -- The children of a parent along their chain, from an index that a holder has, each a subtree of its symbol of the right side.
  -- `subtree` checks one by its node and symbol.
  unfoldable pub children : (ℕ → ℕ → Check) → ℕ → ℕ → ℕ → List ℕ → Check
  children subtree parent holder index [] reached = cond (index == 0) (Ok reached) (Err (BadNode parent))
  children subtree parent holder index (s ∷ ss) reached =
      cond (index == 0) (Err (BadNode parent))
      (cond (nat_le (length nodes) index || slice_index_or reached index false) (Err (BadLink holder))
      (and_then (subtree index s (slice_set reached index true))
      (children subtree parent index (node nodes index).next_brother ss)))

  -- The subtree at a node of a symbol, in as many levels as there is room for.
  unfoldable pub subtree : ℕ → ℕ → ℕ → Check
  subtree zero n symbol reached = Err (TooDeep n)
  subtree (suc room) n symbol reached =
      cond ((node nodes n).symbol == symbol && fits g symbol (node nodes n).production)
      (children (subtree room) n n (node nodes n).first_child (children_symbols g (node nodes n).production) reached)
      (Err (BadNode n))

  abbrev pub then_all : Result (List Bool) Refusal → Result (Unit {0}) Refusal
  then_all (Ok reached) = all_reached 0 (length nodes) reached
  then_all (Err e) = Err e

  -- the whole row: how many nodes there are, the tree from the root, of at most 64 levels, and then whether every node was reached
  abbrev pub checking : Result (Unit {0}) Refusal
  checking =
      cond (nat_le 1 (length nodes) && nat_le (length nodes) 4096)
      (then_all (subtree 64 0 g.vocabulary.start (slice_set (replicate 4096 false) 0 true)))
      (Err NodeCount)
