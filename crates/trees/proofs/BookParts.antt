-- What a book has under the number of a production, as parts of its grammar.
use Rattle.std.proofs.Common.{◌≡◌, ℕ, zero, suc, ◌-◌, ◌<◌, false, eqb, [], length, map, get_or, vec_items, vec_len, sym, refl, ap, ◌∙◌, inl, inr, arith}
use lib.ListN.{length-map}
use Rattle.std.specs.Option.{option_map_or}
use Rattle.std.proofs.lemmas.List.{get_or-map, get_or_past}
use Rattle.std.proofs.lemmas.Option.{slice_get_cases}
use Rattle.std.proofs.lemmas.Bool.Decides.{nat_tests}
use Rattle.grammar.specs.declared.book.Book.{Book}
use Rattle.grammar.specs.declared.production.Production.{Production}
use Rattle.grammar.specs.Grammar.{production_view}
use Rattle.grammar.specs.Members.{numbered}
use Rattle.grammar.specs.OfBook.{grammar_of}
use Rattle.trees.specs.Checking.{production, no_production, is_production, children_symbols}

module _ (b : Book) where
  pub productions_long : length (grammar_of b).productions ≡ vec_len b.productions
  productions_long = length-map (vec_items b.productions) production_view ∙ sym b.productions.ok.0

  pub production_is : (p : ℕ) (x : Production) → p - 1 < vec_len b.productions → x ≡ get_or (vec_items b.productions) (p - 1) x
      → production (grammar_of b) p ≡ production_view x
  production_is p x l e =
      let k : p - 1 < length (vec_items b.productions) = omega (arith, b.productions.ok.0) in
      get_or-map production_view (vec_items b.productions) (p - 1) x no_production k ∙ ap production_view (sym e)

  pub left_side : (p left : ℕ) → is_production (grammar_of b) left p ≡ option_map_or (λ (x : Production). eqb x.left left) (numbered (vec_items b.productions) p) false
  left_side zero left = refl
  left_side (suc n) left =
      let here : suc n - 1 ≡ n = omega arith in
      let long = length-map (vec_items b.productions) production_view in
      elim (slice_get_cases (vec_items b.productions) n).1 [
        | inl found ↦ let view = get_or-map production_view (vec_items b.productions) n found.0 no_production found.1 in grind (arith, nat_tests)
        | inr past ↦ grind (arith, nat_tests)
      ]

  pub right_side : (p : ℕ) → children_symbols (grammar_of b) p ≡ option_map_or (λ (x : Production). vec_items x.right) (numbered (vec_items b.productions) p) []
  right_side zero = refl
  right_side (suc n) =
      let here : suc n - 1 ≡ n = omega arith in
      let long = length-map (vec_items b.productions) production_view in
      elim (slice_get_cases (vec_items b.productions) n).1 [
        | inl found ↦ let view = get_or-map production_view (vec_items b.productions) n found.0 no_production found.1 in grind (arith, nat_tests)
        | inr past ↦
            let none = get_or_past (map production_view (vec_items b.productions)) n no_production (omega (arith, past.0)) in
            grind (arith, nat_tests)
      ]
