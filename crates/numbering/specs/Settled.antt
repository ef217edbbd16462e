-- What one pass can compute, of the attributes that wait for a number. Sets are tests on ℕ.
use Rattle.std.specs.Prelude.{◌≡◌, ℕ, Bool, true, false}

-- A set of waiting attributes that one pass can compute together: whatever waits and precedes a member is a member too, behind no bar.
pub record Stable (precedes barred : ℕ → ℕ → Bool) (waiting s : ℕ → Bool) : Type 0 where
  pub within : (b : ℕ) → s b ≡ true → waiting b ≡ true
  pub closed : (a b : ℕ) → precedes a b ≡ true → s b ≡ true → waiting a ≡ true → s a ≡ true
  pub unbarred : (a b : ℕ) → precedes a b ≡ true → s b ≡ true → waiting a ≡ true → barred a b ≡ false

-- The greatest stable set.
pub record Settled (precedes barred : ℕ → ℕ → Bool) (waiting s : ℕ → Bool) : Type 0 where
  pub stable : Stable precedes barred waiting s
  pub greatest : (t : ℕ → Bool) → Stable precedes barred waiting t → (b : ℕ) → t b ≡ true → s b ≡ true

-- One round of deletions from the candidates s. It deletes nothing that a stable set within s has, and if it deletes nothing then s is stable.
pub record Swept (precedes barred : ℕ → ℕ → Bool) (waiting s kept : ℕ → Bool) (same : Type 0) : Type 0 where
  pub within : (b : ℕ) → kept b ≡ true → s b ≡ true
  pub keeps : (t : ℕ → Bool) → Stable precedes barred waiting t → ((b : ℕ) → t b ≡ true → s b ≡ true) → (b : ℕ) → t b ≡ true → kept b ≡ true
  pub closed : same → (a b : ℕ) → precedes a b ≡ true → s b ≡ true → waiting a ≡ true → s a ≡ true
  pub unbarred : same → (a b : ℕ) → precedes a b ≡ true → s b ≡ true → waiting a ≡ true → barred a b ≡ false
