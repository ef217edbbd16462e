-- A test of each number of a range, as definitions make it.
use Rattle.std.proofs.Common.{◌≡◌, ℕ, zero, suc, ◌+◌, Bool, true, false, ◌&&◌, refl, ap, ◌∙◌, arith, add-zero}
use Rattle.std.specs.List.{list_all, range_with_len}
use Rattle.grammar.specs.Grammar.{every_below}

first_and_last : (a b c : Bool) → (a && (b && c)) ≡ (b && (a && c))
first_and_last true b c = refl
first_and_last false true c = refl
first_and_last false false c = refl

last_apart : (test : ℕ → Bool) (a n : ℕ) → list_all test (range_with_len a (suc n)) ≡ (test (a + n) && list_all test (range_with_len a n))
last_apart test a zero = rw add-zero refl
last_apart test a (suc n) =
    let sum : a + 1 + n ≡ a + suc n = omega arith in
    ap (λ b. test a && b) (last_apart test (a + 1) n ∙ ap (λ m. test m && list_all test (range_with_len (a + 1) n)) sum)
    ∙ first_and_last (test a) (test (a + suc n)) _

-- a test of n numbers from a on, by their places
pub every_of_range : (test of : ℕ → Bool) (a n : ℕ) → ((k : ℕ) → test (a + k) ≡ of k) → list_all test (range_with_len a n) ≡ every_below n of
every_of_range test of a zero same = refl
every_of_range test of a (suc n) same =
    last_apart test a n ∙ ap (λ b. b && list_all test (range_with_len a n)) (same n) ∙ ap (λ b. of n && b) (every_of_range test of a n same)
