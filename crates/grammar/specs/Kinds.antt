-- The numbers by which a table names kinds of symbols and of attributes.
use Rattle.std.specs.Prelude.{◌≡◌, ℕ, cond, Some, None, Option, Result, ◌==◌, MatchResult}
use Rattle.grammar.specs.declared.vocabulary.SymbolKind.{SymbolKind}
use Rattle.grammar.specs.declared.vocabulary.SymbolKind.TheVariants.{Inner, Terminal}
use Rattle.grammar.specs.declared.vocabulary.AttributeKind.{AttributeKind}
use Rattle.grammar.specs.declared.vocabulary.AttributeKind.TheVariants.{Inherited, Synthesized, Given}
use Rattle.refusal.specs.declared.Unlisted.{Unlisted}

abbrev pub symbol_kind : ℕ → Option SymbolKind
symbol_kind n = cond (n == 1) (Some Inner) (cond (n == 2) (Some Terminal) None)

abbrev pub attribute_kind : ℕ → Option AttributeKind
attribute_kind n = cond (n == 1) (Some Inherited) (cond (n == 2) (Some Synthesized) (cond (n == 3) (Some Given) None))

-- the kind that a number names, or the number where it names none
abbrev pub Named : {A : Type 0} → (ℕ → Option A) → ℕ → Result A Unlisted → Type 0
Named kind n r = MatchResult r (λ k. kind n ≡ Some k) (λ e. (e.0 ≡ n) × (kind n ≡ None))
