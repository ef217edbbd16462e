use Rattle.std.proofs.Common.{◌+◌, ◌-◌, ◌≤◌, vec_items, vec_len}
use Rattle.tables.specs.Chains.{along}
use Rattle.tables.specs.Reading.{attribute}
use Rattle.tables.proofs.Along.{Left}
use Rattle.loading.proofs.symbols.read_attributes.Given as goal

abbrev pub invariant-attributes : goal.invariant-attributes
invariant-attributes l =
    (vec_len l.attributes ≤ 64) × (l.before ≤ vec_len l.attributes) × (vec_len l.attributes ≤ l.before + 16)
    × Left l.table.bytes.now (attribute l.table.bytes.now l.owner.number l.owner.kind l.owner.starts) 16 (vec_len l.attributes - l.before) (vec_items l.attributes) l.link l.reached
    (along l.table.bytes.now (attribute l.table.bytes.now l.owner.number l.owner.kind l.owner.starts) 16 (vec_items l.initial.attributes) l.fn.at.place l.fn.at.w2 l.initial.reached)

abbrev pub decreases-attributes : goal.decreases-attributes
decreases-attributes l = 64 - vec_len l.attributes
