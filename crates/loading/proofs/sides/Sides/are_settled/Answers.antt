use Rattle.std.proofs.Common.{ℕ, ◌+◌, ◌-◌, ◌≡◌, Bool, not, ◌&&◌, ◌||◌, length, vec_items, map, ap, ◌∙◌, rules, tests, arith}
use Rattle.std.proofs.lemmas.Iterator.{YieldsList-from_range}
use Rattle.std.proofs.lemmas.Iterator.Search.{all_from_yields_List}
use Rattle.grammar.specs.Grammar.{vocabulary_view, occurs, defined, settled}
use Rattle.grammar.specs.Rules.{has_rule, target_of}
use Rattle.loading.proofs.Settling.{every_of_range}
use Rattle.loading.proofs.sides.Sides.are_settled.Goals as goal

pub returns : goal.returns
returns c =
    let s = c.args.self.now in
    let v = vocabulary_view s.vocabulary.now in
    let targets = map target_of (vec_items c.args.rules.now.rules) in
    let test : ℕ → Bool = λ a. not (occurs v s.left (vec_items s.right) (record { position = c.args.position; attribute = a }) && defined v (record { position = c.args.position; attribute = a })) || has_rule targets (record { position = c.args.position; attribute = a }) in
    let many : c.len.result + 1 - 1 ≡ length (vec_items s.vocabulary.now.attributes) = omega (arith, s.vocabulary.now.attributes.ok.0) in
    all_from_yields_List test _ _ _ c.all.ensures.ran (YieldsList-from_range 1 (c.len.result + 1) _ (cc) many) (λ x b q k. search (rules, tests))
    ∙ every_of_range test (settled v s.left (vec_items s.right) targets c.args.position) 1 _ (λ k. ap test (omega arith))
