use Rattle.std.proofs.Common.{rules, ◌≡◌, ◌+◌, map, length, vec_len, vec_items, sym, ◌∙◌, arith}
use Rattle.std.proofs.lemmas.List.{map_push}
use lib.ListN.{length-map}
use Rattle.grammar.specs.Rules.{target_of}
use Rattle.grammar.proofs.Slots.{indexed_more}
use Rattle.loading.proofs.Finishing.{no_rule_yet}
use Rattle.loading.proofs.rules.Rules.add.Goals as goal

pub invariant_of-self-2 : goal.invariant_of-self-2
invariant_of-self-2 g c =
    let before = c.args.self.now in
    let targets = map target_of (vec_items before.rules) in
    let count : vec_len before.rules ≡ length targets = before.rules.ok.0 ∙ sym (length-map (vec_items before.rules) target_of) in
    let number : c.len-2.result ≡ vec_len before.rules + 1 = omega (arith, c.len-2.ensures, c.in_ok-push.ensures.len) in
    let long : length before.slots ≡ 576 = search rules in
    let more = indexed_more before.slots targets c.args.target.occurrence (vec_len before.rules) long count c.args.target.within (no_rule_yet targets c.args.target.occurrence c.requires.first) before.indexed in
    record { indexed = rw (c.slot.ensures, number, c.in_ok-push.ensures.items, map_push) more }
