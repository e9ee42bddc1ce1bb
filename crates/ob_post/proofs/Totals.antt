-- Sums over keys: where each customer-second has one key, the keys' sums add up to the whole.
use Rattle.std.proofs.Common.{◌≡◌, ◌∙◌, ap, ap₂, refl, ℕ, zero, suc, ◌+◌, ◌<◌, ◌≤◌, ◌==◌, ◌&&◌, Bool, true, false, cond, List, get_or, sum_by, count_by, inl, inr, eq-eqb, zero-add, arith}
use Rattle.std.specs.List.{All, range_with_len}
use Rattle.std.proofs.lemmas.Bool.{cases_eq, ne_eqb}
use Rattle.std.proofs.lemmas.List.Sums.{sum_by-cons}
use Rattle.ob_cust.specs.declared.Customer.{Customer}
use Rattle.ob_cust.specs.WithoutSupply.{customer_seconds}
use Rattle.ob_post.proofs.Sums.{sum_of_zeros, sum_of_same, sum_where_same, swap_sums}

-- a pair that counts does so under one key
one_pair : (test : Bool) (has : ℕ → Bool) (ks : List ℕ) → count_by has ks ≡ 1 → count_by (λ k. test && has k) ks ≡ cond test 1 0
one_pair true has ks h = h
one_pair false has ks h = sum_of_zeros ks

at_second : (test : Customer → Bool) (has : ℕ → Customer → Bool) (ks : List ℕ) (roll : List Customer) → All (λ c. count_by (λ k. has k c) ks ≡ 1) roll
    → sum_by (λ k. count_by (λ c. test c && has k c) roll) ks ≡ count_by test roll
at_second test has ks roll h =
    swap_sums (λ k c. cond (test c && has k c) 1 0) ks roll
    ∙ sum_where_same (λ c. count_by (λ k. test c && has k c) ks) (λ c. cond (test c) 1 0) roll (λ i d l. one_pair (test (get_or roll i d)) (λ k. has k (get_or roll i d)) ks (h i d l))

-- where each customer-second has one key, the customer-seconds under the keys are all
pub add_up : (test : Customer → ℕ → Bool) (has : ℕ → Customer → ℕ → Bool) (ks when : List ℕ) (roll : List Customer) → All (λ s. All (λ c. count_by (λ k. has k c s) ks ≡ 1) roll) when
    → sum_by (λ k. customer_seconds (λ c s. test c s && has k c s) when roll) ks ≡ customer_seconds test when roll
add_up test has ks when roll h =
    swap_sums (λ k s. count_by (λ c. test c s && has k c s) roll) ks when
    ∙ sum_where_same (λ s. sum_by (λ k. count_by (λ c. test c s && has k c s) roll) ks) (λ s. count_by (λ c. test c s) roll) when
    (λ i d l. at_second (λ c. test c (get_or when i d)) (λ k c. has k c (get_or when i d)) ks roll (h i d l))

-- the same customer-seconds pass tests that are the same
pub same_seconds : (f g : Customer → ℕ → Bool) (when : List ℕ) (roll : List Customer) → ((c : Customer) (s : ℕ) → f c s ≡ g c s) → customer_seconds f when roll ≡ customer_seconds g when roll
same_seconds f g when roll h =
    sum_of_same (λ s. count_by (λ c. f c s) roll) (λ s. count_by (λ c. g c s) roll) when
    (λ s. sum_of_same (λ c. cond (f c s) 1 0) (λ c. cond (g c s) 1 0) roll (λ c. ap (λ (b : Bool). cond b 1 0) (h c s)))

none_in : (n a count : ℕ) → n < a → count_by (λ k. n == k) (range_with_len a count) ≡ 0
none_in n a zero h = refl
none_in n a (suc count) h =
    sum_by-cons (λ k. cond (n == k) 1 0) a (range_with_len (a + 1) count)
    ∙ ap₂ (λ (b : Bool) (m : ℕ). cond b 1 0 + m) (ne_eqb n a (λ e. omega arith)) (none_in n (a + 1) count (omega arith))

-- a number of a range is in it once
pub one_in : (n a count : ℕ) → a ≤ n → n < a + count → count_by (λ k. n == k) (range_with_len a count) ≡ 1
one_in n a zero h l = absurd (omega arith)
one_in n a (suc count) h l =
    sum_by-cons (λ k. cond (n == k) 1 0) a (range_with_len (a + 1) count)
    ∙ elim (cases_eq n a) [
      | inl same ↦ ap₂ (λ (b : Bool) (m : ℕ). cond b 1 0 + m) (eq-eqb n a same) (none_in n (a + 1) count (omega arith))
      | inr apart ↦
          let past : (n == a) ≡ false = ne_eqb n a apart in
          ap (λ (b : Bool). cond b 1 0 + count_by (λ k. n == k) (range_with_len (a + 1) count)) past
          ∙ zero-add (count_by (λ k. n == k) (range_with_len (a + 1) count))
          ∙ one_in n (a + 1) count (omega arith) (omega arith)
    ]
