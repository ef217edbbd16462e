-- The room falls by one a level; what the children that are left give is what the whole subtree gives.
use Rattle.std.proofs.Common.{◌≡◌, ◌-◌, drop}
use Rattle.trees.specs.Checking.{subtree, children}
use Rattle.grammar.specs.OfBook.{grammar_of}
use Rattle.trees.proofs.check.Row.+check_subtree.Given as goal

abbrev pub decreases-check_subtree : goal.decreases-check_subtree
decreases-check_subtree l = l.room

abbrev pub invariant-loop-expected : goal.invariant-loop-expected
invariant-loop-expected l =
    (l.self.nodes ≡ l.initial.self.nodes) × (
    children (grammar_of l.book) l.initial.self.nodes.now (subtree (grammar_of l.book) l.initial.self.nodes.now (l.room - 1)) l.n l.holder l.index (drop l.expected-index l.right) l.self.reached
    ≡ subtree (grammar_of l.book) l.initial.self.nodes.now l.room l.n l.symbol l.initial.self.reached)
