use Rattle.std.proofs.Common.{ℕ, suc, ◌+◌, ◌-◌, ◌≡◌, Bool, length, vec_items, map, ap, ◌∙◌, rules, tests, arith}
use Rattle.std.proofs.lemmas.Iterator.{YieldsList-from_range}
use Rattle.std.proofs.lemmas.Iterator.Search.{all_from_yields_List}
use Rattle.grammar.specs.Grammar.{vocabulary_view, every_below, settled}
use Rattle.grammar.specs.Rules.{target_of}
use Rattle.loading.proofs.Settling.{every_of_range}
use Rattle.loading.proofs.sides.Sides.is_complete.Goals as goal

pub returns : goal.returns
returns c =
    let s = c.args.self.now in
    let v = vocabulary_view s.vocabulary.now in
    let targets = map target_of (vec_items c.args.rules.now.rules) in
    let test : ℕ → Bool = λ position. every_below (length (vec_items s.vocabulary.now.attributes)) (settled v s.left (vec_items s.right) targets position) in
    let many : c.len.result + 1 - 0 ≡ suc (length (vec_items s.right)) = omega (arith, s.right.ok.0) in
    all_from_yields_List test _ _ _ c.all.ensures.ran (YieldsList-from_range 0 (c.len.result + 1) _ (cc) many) (λ x b q k. search (rules, tests))
    ∙ every_of_range test test 0 (suc (length (vec_items s.right))) (λ k. ap test (omega arith))
