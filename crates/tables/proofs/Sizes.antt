-- The test of a table's size, and what it says.
use Rattle.std.proofs.Common.{◌≡◌, ℕ, ◌%◌, true, ◌&&◌, eqb, ltb, leb, List, length}
use Rattle.std.proofs.lemmas.Bool.{and_parts, and_from, eqb-true, ltb-true, leb-true, eq-eqb, lt-ltb, le-leb}
use Rattle.tables.specs.Chains.{Sized, sized}

pub sized_is : (bytes : List ℕ) → sized bytes ≡ true → Sized bytes
sized_is bytes h =
    let p = and_parts (eqb (length bytes % 12) 0) (ltb 0 (length bytes) && leb (length bytes) 49152) h in
    let q = and_parts (ltb 0 (length bytes)) (leb (length bytes) 49152) p.1 in
    (eqb-true (length bytes % 12) 0 p.0, ltb-true 0 (length bytes) q.0, leb-true (length bytes) 49152 q.1)

pub is_sized : (bytes : List ℕ) → Sized bytes → sized bytes ≡ true
is_sized bytes h = and_from _ _ (eq-eqb _ _ h.0) (and_from _ _ (lt-ltb _ _ h.1) (le-leb _ _ h.2))
