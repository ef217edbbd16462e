-- The numbers of the four grammars' attributes, by computation.
use Rattle.std.proofs.Common.{refl, lit<, lit≤}
use Rattle.numbering.specs.Deletion.{member, keep, none, delete, remaining, number, after, numbering}
use Rattle.examples.specs.Examples.{PNumbers, QNumbers, TNumbers}
use Rattle.examples.proofs.Grammars.{grammar_P, grammar_Q, grammar_T}

pub numbers_P : PNumbers grammar_P
unfolding member keep none delete remaining number after numbering
numbers_P = record {
  left = ((refl, lit≤ tt, lit≤ tt), (refl, lit≤ tt, lit≤ tt), (refl, lit≤ tt, lit≤ tt));
  right_start = lit< tt;
  right_total = (refl, lit≤ tt, lit≤ tt);
  right_width = (refl, lit≤ tt, lit≤ tt);
  right_right_start = (refl, lit≤ tt, lit≤ tt);
}

pub numbers_Q : QNumbers grammar_Q
unfolding member keep none delete remaining number after numbering
numbers_Q = record { left_left_start = (refl, lit≤ tt, lit≤ tt); left_right_start = (refl, lit≤ tt, lit≤ tt) }

pub numbers_T : TNumbers grammar_T
unfolding member keep none delete remaining number after numbering
numbers_T = record {
  left = ((refl, lit≤ tt, lit≤ tt), (refl, lit≤ tt, lit≤ tt), (refl, lit≤ tt, lit≤ tt));
  right = (lit< tt, lit< tt, lit< tt);
  right_left = ((refl, lit≤ tt, lit≤ tt), (refl, lit≤ tt, lit≤ tt), (refl, lit≤ tt, lit≤ tt));
}
