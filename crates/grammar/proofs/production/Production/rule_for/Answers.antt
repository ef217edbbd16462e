-- The slot of an occurrence in range has its rule's number.
use Rattle.std.proofs.Common.{◌≡◌, arith, rules}
use Rattle.grammar.specs.Rules.{slot}
use Rattle.grammar.proofs.FoundRules.{rule_in_slot}
use Rattle.grammar.proofs.production.Production.rule_for.Goals as goal

pub returns : goal.returns
returns c =
    let p = c.args.self.now in
    record {
      within = λ w.
          let here : c.in_ok-slot.field-0 ≡ slot c.args.occurrence = search rules in
          let e = rule_in_slot p.slots p.rules.items c.args.occurrence p.indexed w in
          grind (arith, rules);
      outside = search rules;
    }
