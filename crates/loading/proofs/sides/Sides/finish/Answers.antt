use Rattle.std.proofs.Common.{map, vec_items, ap, ◌∙◌, inr}
use Rattle.std.proofs.lemmas.List.{map_push}
use Rattle.grammar.specs.Grammar.{vocabulary_view, production_view}
use Rattle.loading.proofs.Finishing.{production_lacking, production_finished}
use Rattle.loading.proofs.sides.Sides.finish.Goals as goal

pub returns-then-not-is_complete-clause-value : goal.returns-then-not-is_complete-clause-value
returns-then-not-is_complete-clause-value c = λ bytes admitted s.
    inr (production_lacking bytes (vocabulary_view c.args.self.vocabulary.now) admitted (map production_view (vec_items c.args.productions.now)) c.args.found (vec_items c.args.self.right) (vec_items c.args.rules.rules) s
    c.args.self.left c.requires c.if-not-is_complete.ensures)

pub returns-clause-value : goal.returns-clause-value
returns-clause-value c = λ bytes admitted s.
    production_finished bytes (vocabulary_view c.args.self.vocabulary.now) admitted (map production_view (vec_items c.args.productions.now)) c.args.found (vec_items c.args.self.right) (vec_items c.args.rules.rules) s
    c.args.self.left c.requires (map production_view (vec_items c.push.new.self)) c.if-not-is_complete.ensures
    (ap (map production_view) c.in_ok-push.ensures.items ∙ map_push production_view (vec_items c.args.productions.now) _)
