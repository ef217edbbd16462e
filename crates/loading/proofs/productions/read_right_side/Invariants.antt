use Rattle.std.proofs.Common.{ℕ, ◌-◌, ◌≤◌, Bool, [], vec_items, vec_len}
use Rattle.grammar.specs.Grammar.{vocabulary_view}
use Rattle.tables.specs.Chains.{along}
use Rattle.tables.specs.Reading.{position}
use Rattle.tables.proofs.Along.{Left}
use Rattle.loading.proofs.productions.read_right_side.Given as goal

abbrev pub invariant-positions : goal.invariant-positions
invariant-positions l =
    (vec_len l.right ≤ 8)
    × ((admitted : ℕ → ℕ → ℕ → Bool)
    → Left l.table.bytes.now (position l.table.bytes.now (vocabulary_view l.vocabulary) admitted) 8 (vec_len l.right) (vec_items l.right) l.link l.reached
    (along l.table.bytes.now (position l.table.bytes.now (vocabulary_view l.vocabulary) admitted) 8 [] l.fn.at.place l.fn.at.w2 l.initial.reached))

abbrev pub decreases-positions : goal.decreases-positions
decreases-positions l = 8 - vec_len l.right
