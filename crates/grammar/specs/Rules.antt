-- Rules by the occurrences that they set.
use Rattle.std.specs.Prelude.{◌≡◌, ℕ, suc, ◌+◌, ◌-◌, ◌*◌, ◌≤◌, Bool, cond, not, ◌&&◌, List, [], ◌∷◌, ◌==◌, slice_index}
use Rattle.grammar.specs.declared.production.Occurrence.{Occurrence}
use Rattle.grammar.specs.declared.production.Rule.{Rule}

abbrev pub target_of : Rule → Occurrence
target_of r = r.target

abbrev pub same : Occurrence → Occurrence → Bool
same o p = o.position == p.position && o.attribute == p.attribute

-- the number of the first rule, counted on from n, whose target is the occurrence, or 0
abbrev pub numbered_from : ℕ → List Occurrence → Occurrence → ℕ
numbered_from n [] o = 0
numbered_from n (t ∷ ts) o = cond (same t o) n (numbered_from (suc n) ts o)

-- the number of the rule for an occurrence among rules with these targets, or 0 where it has none
abbrev pub rule_number : List Occurrence → Occurrence → ℕ
rule_number targets o = numbered_from 1 targets o

abbrev pub has_rule : List Occurrence → Occurrence → Bool
has_rule targets o = not (rule_number targets o == 0)

-- where the number of an occurrence's rule is kept
abbrev pub slot : Occurrence → ℕ
slot o = 64 * o.position + (o.attribute - 1)

-- the positions and attribute numbers that a production can have
abbrev pub Within : Occurrence → Type 0
Within o = (o.position ≤ 8) × (1 ≤ o.attribute) × (o.attribute ≤ 64)

-- every occurrence that a production can have finds its rule's number in its slot
abbrev pub Indexed : List ℕ → List Occurrence → Type 0
Indexed slots targets = (o : Occurrence) → Within o → slice_index slots (slot o) ≡ rule_number targets o
