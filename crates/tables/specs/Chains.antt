-- Reading a table of records along its chains.
use Rattle.std.specs.Prelude.{◌≡◌, ℕ, zero, suc, ◌+◌, ◌*◌, ◌%◌, ◌<◌, ◌≤◌, Bool, true, false, cond, ◌&&◌, ◌||◌, List, [], ◌∷◌, length, Some, None, Ok, Err, Option, Result, ◌==◌, nat_le, nat_lt, slice_index, slice_index_or, slice_set}
use Rattle.tables.specs.declared.record.Record.{Record}
use Rattle.refusal.specs.declared.Refusal.{Refusal}
use Rattle.refusal.specs.declared.Refusal.TheVariants.{BadIndex, CountPassed}

-- word k of the record at a place, low byte first
abbrev pub word : List ℕ → ℕ → ℕ → ℕ
word bytes place k = slice_index bytes (12 * place + 2 * k) + 256 * slice_index bytes (12 * place + 2 * k + 1)

abbrev pub record_at : List ℕ → ℕ → Record
record_at bytes place = record {
  place = place;
  next = word bytes place 0;
  w1 = word bytes place 1;
  w2 = word bytes place 2;
  w3 = word bytes place 3;
  w4 = word bytes place 4;
  w5 = word bytes place 5;
}

-- A reading goes from the records reached so far to a value and those reached then, or to a refusal.
abbrev pub Reading : Type 0 → Type 0
Reading A = List Bool → Result (A × List Bool) Refusal

-- what code returned and left, as a reading's outcome
abbrev pub yields : {A : Type 0} → Result A Refusal → List Bool → Result (A × List Bool) Refusal
yields (Ok a) reached = Ok (a, reached)
yields (Err e) reached = Err e

-- the index names no record of the table, or one already reached
abbrev pub lost : List ℕ → ℕ → List Bool → Bool
lost bytes index reached = nat_lt (length bytes) (12 * index + 12) || slice_index_or reached index false

abbrev pub follow : List ℕ → ℕ → ℕ → Reading (Option Record)
follow bytes holder index reached =
    cond (index == 0) (Ok (None, reached))
    (cond (lost bytes index reached) (Err (BadIndex holder))
    (Ok (Some (record_at bytes index), slice_set reached index true)))

-- how many records are not reached
abbrev pub free : List Bool → ℕ
free [] = 0
free (b ∷ bs) = cond b 0 1 + free bs

abbrev pub one : {A : Type 0} → Option A → ℕ
one None = 0
one (Some a) = 1

-- a table has 1 to 4096 records of 12 bytes
abbrev pub Sized : List ℕ → Type 0
Sized bytes = (length bytes % 12 ≡ 0) × (0 < length bytes) × (length bytes ≤ 49152)

-- one reading after another
abbrev pub and_then : {A B : Type 0} → Result (A × List Bool) Refusal → (A → Reading B) → Result (B × List Bool) Refusal
and_then (Ok p) k = k p.0 p.1
and_then (Err e) k = Err e

abbrev pub sized : List ℕ → Bool
sized bytes = length bytes % 12 == 0 && (nat_lt 0 (length bytes) && nat_le (length bytes) 49152)

module _ {B : Type 0} (bytes : List ℕ) (step : B → Record → Reading B) where
  -- From what an index was found to name on to the end of the chain: each record is taken in by `step`,
  -- and there are at most as many of them as there is room for.
  unfoldable pub met : ℕ → B → Option Record → Reading B
  met room b None reached = Ok (b, reached)
  met zero b (Some r) reached = Err (CountPassed r.place)
  met (suc room) b (Some r) reached =
      and_then (step b r reached) (λ b' reached'.
      and_then (follow bytes r.place r.next reached') (met room b'))

  -- the chain that begins at an index of its holder
  unfoldable pub along : ℕ → B → ℕ → ℕ → Reading B
  along room b holder index reached = and_then (follow bytes holder index reached) (met room b)
