-- Each turn looks at one attribute more.
use Rattle.std.proofs.Common.{◌&&◌, ltb, sym, ap, ◌∙◌, arith}
use Rattle.std.proofs.lemmas.Bool.{and_left, and_right, le-ltb}
use Rattle.bitset.specs.Sets.{has}
use Rattle.bitset.proofs.Digits.{has_none}
use Rattle.grammar.specs.Books.{wanting_at}
use Rattle.grammar.proofs.numbers.wanting.Goals as goal

pub loop-place-init : goal.loop-place-init
loop-place-init c p = ap (λ s. has s p) c.default-wanted.ensures ∙ has_none p ∙ sym (and_right (ltb p 64) (ltb p 0 && wanting_at c.args.attributes.now p) (and_left (ltb p 0) (wanting_at c.args.attributes.now p) (le-ltb p 0 (omega arith))))
