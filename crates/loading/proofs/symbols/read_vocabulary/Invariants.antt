use Rattle.std.proofs.Common.{◌-◌, ◌≤◌, [], vec_items, vec_len}
use Rattle.tables.specs.Chains.{along}
use Rattle.tables.specs.Reading.{Gathered, symbol}
use Rattle.tables.proofs.Along.{Left}
use Rattle.loading.proofs.symbols.read_vocabulary.Given as goal

abbrev pub invariant-symbols : goal.invariant-symbols
invariant-symbols l =
    let none : Gathered = record { symbols = []; attributes = [] } in
    let so_far : Gathered = record { symbols = vec_items l.symbols; attributes = vec_items l.attributes } in
    (vec_len l.symbols ≤ 48) × (vec_len l.attributes ≤ 64)
    × Left l.table.bytes.now (symbol l.table.bytes.now l.start) 48 (vec_len l.symbols) so_far l.link l.reached
    (along l.table.bytes.now (symbol l.table.bytes.now l.start) 48 none 0 l.first l.initial.reached)

abbrev pub decreases-symbols : goal.decreases-symbols
decreases-symbols l = 48 - vec_len l.symbols
