use Rattle.std.proofs.Common.{◌≡◌, ◌+◌, ◌-◌, ◌<◌, ◌≤◌, [], map, vec_items, vec_len}
use Rattle.grammar.specs.Arcs.{with_arguments, with_rules, with_productions}
use Rattle.grammar.specs.Grammar.{vocabulary_view, rule_view, production_view}
use Rattle.tables.specs.Chains.{free, along}
use Rattle.tables.specs.Reading.{argument, rule, production}
use Rattle.tables.proofs.Along.{Left}
use Rattle.loading.proofs.productions.read_productions.Given as goal

abbrev pub invariant-arguments : goal.invariant-arguments
invariant-arguments g l =
    (vec_len l.arguments ≤ 8)
    × (free l.reached + vec_len l.rules.rules < 4096)
    × (l.board ≡ with_arguments (vocabulary_view l.vocabulary) l.target.occurrence (vec_items l.arguments) l.initial.board)
    × Left l.table.bytes.now (argument l.table.bytes.now (vocabulary_view l.vocabulary) (g.K.ValueKind.admitted l.kind) l.production.w1 (vec_items l.sides.1.1.0)) 8 (vec_len l.arguments) (vec_items l.arguments) l.argument_link l.reached
    (along l.table.bytes.now (argument l.table.bytes.now (vocabulary_view l.vocabulary) (g.K.ValueKind.admitted l.kind) l.production.w1 (vec_items l.sides.1.1.0)) 8 [] l.rule.place l.rule.w3 l.initial.reached)

abbrev pub decreases-arguments : goal.decreases-arguments
decreases-arguments g l = 8 - vec_len l.arguments

abbrev pub invariant-rules : goal.invariant-rules
invariant-rules g l =
    (free l.reached + vec_len l.rules.rules ≤ 4096)
    × (l.board ≡ with_rules (vocabulary_view l.vocabulary) (map rule_view (vec_items l.rules.rules)) l.initial.board)
    × Left l.table.bytes.now (rule l.table.bytes.now (vocabulary_view l.vocabulary) (g.K.ValueKind.admitted l.kind) l.production.w1 (vec_items l.sides.1.1.0)) 4096 (vec_len l.rules.rules) (map rule_view (vec_items l.rules.rules)) l.rule_link l.reached
    (along l.table.bytes.now (rule l.table.bytes.now (vocabulary_view l.vocabulary) (g.K.ValueKind.admitted l.kind) l.production.w1 (vec_items l.sides.1.1.0)) 4096 [] l.production.place l.production.w3 l.initial.reached)

abbrev pub decreases-rules : goal.decreases-rules
decreases-rules g l = 4096 - vec_len l.rules.rules

abbrev pub invariant-productions : goal.invariant-productions
invariant-productions g l =
    (vec_len l.productions ≤ 128)
    × (l.board ≡ with_productions (vocabulary_view l.vocabulary) (map production_view (vec_items l.productions)) l.initial.board)
    × Left l.table.bytes.now (production l.table.bytes.now (vocabulary_view l.vocabulary) (g.K.ValueKind.admitted l.kind)) 128 (vec_len l.productions) (map production_view (vec_items l.productions)) l.link l.reached
    (along l.table.bytes.now (production l.table.bytes.now (vocabulary_view l.vocabulary) (g.K.ValueKind.admitted l.kind)) 128 [] 0 l.fn.first l.initial.reached)

abbrev pub decreases-productions : goal.decreases-productions
decreases-productions g l = 128 - vec_len l.productions
