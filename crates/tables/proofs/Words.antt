-- Kinds and their words.
use Rattle.std.proofs.Common.{◌≡◌, ℕ, Bool, true, false, cond, eqb, Some, None, Option, refl, arith}
use Rattle.std.proofs.lemmas.Bool.Decides.{nat_tests}
use Rattle.grammar.specs.declared.vocabulary.SymbolKind.{SymbolKind}
use Rattle.grammar.specs.declared.vocabulary.SymbolKind.TheVariants.{Inner, Terminal}
use Rattle.grammar.specs.declared.vocabulary.AttributeKind.{AttributeKind}
use Rattle.grammar.specs.declared.vocabulary.AttributeKind.TheVariants.{Inherited, Synthesized, Given}
use Rattle.grammar.specs.Lawful.{may_stand}
use Rattle.grammar.specs.Kinds.{symbol_kind, attribute_kind}
use Rattle.tables.specs.Reading.{standing}
use Rattle.tables.specs.Tables.{symbol_word, attribute_word}

-- a word that is known is its kind's
pub symbol_known : (w : ℕ) (k : SymbolKind) → symbol_kind w ≡ Some k → symbol_word k ≡ w
symbol_known w Inner e = grind (arith, nat_tests)
symbol_known w Terminal e = grind (arith, nat_tests)

pub attribute_known : (w : ℕ) (k : AttributeKind) → attribute_kind w ≡ Some k → attribute_word k ≡ w
attribute_known w Inherited e = grind (arith, nat_tests)
attribute_known w Synthesized e = grind (arith, nat_tests)
attribute_known w Given e = grind (arith, nat_tests)

pub symbol_word_known : (k : SymbolKind) → symbol_kind (symbol_word k) ≡ Some k
symbol_word_known Inner = refl
symbol_word_known Terminal = refl

pub attribute_word_known : (k : AttributeKind) → attribute_kind (attribute_word k) ≡ Some k
attribute_word_known Inherited = refl
attribute_word_known Synthesized = refl
attribute_word_known Given = refl

-- the kind for a word, where there is one
abbrev pub symbol_kind_of : ℕ → SymbolKind
symbol_kind_of w = cond (eqb w 1) Inner Terminal

abbrev pub attribute_kind_of : ℕ → AttributeKind
attribute_kind_of w = cond (eqb w 1) Inherited (cond (eqb w 2) Synthesized Given)

pub symbol_kind_is : (w : ℕ) (kind : SymbolKind) → symbol_kind w ≡ Some kind → kind ≡ symbol_kind_of w
symbol_kind_is w kind = go (eqb w 1) (eqb w 2)
  where
    go : (a b : Bool) → cond a (Some Inner) (cond b (Some Terminal) None) ≡ Some kind → kind ≡ cond a Inner Terminal
    go true b e = cc
    go false true e = cc
    go false false e = cc

pub attribute_kind_is : (w : ℕ) (kind : AttributeKind) → attribute_kind w ≡ Some kind → kind ≡ attribute_kind_of w
attribute_kind_is w kind = go (eqb w 1) (eqb w 2) (eqb w 3)
  where
    go : (a b c : Bool) → cond a (Some Inherited) (cond b (Some Synthesized) (cond c (Some Given) None)) ≡ Some kind → kind ≡ cond a Inherited (cond b Synthesized Given)
    go true b c e = cc
    go false true c e = cc
    go false false true e = cc
    go false false false e = cc

-- a kind that is there and may stand
pub standing_known : (symbol : SymbolKind) (starts : Bool) (o : Option AttributeKind) (kind : AttributeKind) → standing symbol starts o ≡ Some kind → (o ≡ Some kind) × (may_stand symbol starts kind ≡ true)
standing_known symbol starts None kind e = cc
standing_known symbol starts (Some k) kind e = go (may_stand symbol starts k) refl e
  where
    go : (b : Bool) → may_stand symbol starts k ≡ b → cond b (Some k) None ≡ Some kind → (Some k ≡ Some kind) × (may_stand symbol starts kind ≡ true)
    go true h e = (e, cc)
    go false h e = cc
