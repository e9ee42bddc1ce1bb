-- What the blocks of a section add to figures, block by block.
use Rattle.std.proofs.Common.{◌≡◌, ℕ, ◌+◌, ◌*◌, ◌^◌, ◌<◌, ◌≤◌, cond, Bool, true, false, List, length, get_or, take, slice_index, nat_le, refl, ◌∙◌, ap, mul-le-mul, arith}
use Rattle.std.specs.List.{sum_by}
use Rattle.std.proofs.lemmas.List.Sums.{sum_by_more, sum_by_more_le, sum_by-take-le}
use Rattle.ob_cust.specs.declared.SectionBlock.{SectionBlock}
use Rattle.ob_selections.specs.Sums.{AreAtMost, AreMore, IsAtMost, at_least}
use Rattle.ob_selections.specs.declared.figures.Figures.{Figures}
use Rattle.ob_selections.specs.declared.figures.Tally.{Tally}

-- a sum, given for each number of a tally
abbrev pub Total : Type 0
Total = (Tally → ℕ) → ℕ

-- nothing more
pub more_none : (total : Total) (k : Figures) → total (λ t. t.sustained) ≡ 0 → total (λ t. t.seconds) ≡ 0 → total (λ t. t.momentary) ≡ 0 → total (λ t. t.served) ≡ 0
    → ((j : ℕ) → total (at_least (1 + j)) ≡ 0) → AreMore total k k
more_none total k s n m w each = record {
  sustained = omega (arith, s);
  seconds = omega (arith, n);
  momentary = omega (arith, m);
  customers = let none = each 0 in omega (arith, none);
  places = refl;
  each = λ j small. let none = each j in omega (arith, none);
  served = omega (arith, w);
  length = refl;
}

-- the same sum in another form
pub more_same : (total other : Total) (k m : Figures) → ((number : Tally → ℕ) → total number ≡ other number) → AreMore total k m → AreMore other k m
more_same total other k m same more = record {
  sustained = more.sustained ∙ ap (λ (n : ℕ). k.counts.ci + n) (same (λ t. t.sustained));
  seconds = more.seconds ∙ ap (λ (n : ℕ). k.counts.csi + n) (same (λ t. t.seconds));
  momentary = more.momentary ∙ ap (λ (n : ℕ). k.counts.mi + n) (same (λ t. t.momentary));
  customers = more.customers ∙ ap (λ (n : ℕ). k.counts.cn + n) (same (at_least 1));
  places = more.places;
  each = λ j small. more.each j small ∙ ap (λ (n : ℕ). slice_index k.counts.cn_n j + n) (same (at_least (1 + j)));
  served = more.served ∙ ap (λ (n : ℕ). k.served + n) (same (λ t. t.served));
  length = more.length;
}

-- two sums, one after the other
pub more_both : (first then both : Total) (k m n : Figures) → ((number : Tally → ℕ) → both number ≡ first number + then number) → AreMore first k m → AreMore then m n → AreMore both k n
more_both first then both k m n sum one two = record {
  sustained = add k.counts.ci m.counts.ci n.counts.ci (λ t. t.sustained) one.sustained two.sustained;
  seconds = add k.counts.csi m.counts.csi n.counts.csi (λ t. t.seconds) one.seconds two.seconds;
  momentary = add k.counts.mi m.counts.mi n.counts.mi (λ t. t.momentary) one.momentary two.momentary;
  customers = add k.counts.cn m.counts.cn n.counts.cn (at_least 1) one.customers two.customers;
  places = two.places ∙ one.places;
  each = λ j small. add (slice_index k.counts.cn_n j) (slice_index m.counts.cn_n j) (slice_index n.counts.cn_n j) (at_least (1 + j)) (one.each j small) (two.each j small);
  served = add k.served m.served n.served (λ t. t.served) one.served two.served;
  length = two.length ∙ one.length;
}
  where
    add : (a b c : ℕ) (number : Tally → ℕ) → b ≡ a + first number → c ≡ b + then number → c ≡ a + both number
    add a b c number was now = let all = sum number in omega (arith, was, now, all)

-- nothing is above a higher bound
pub at_most_more : (low high : ℕ) (k : Figures) → low ≤ high → AreAtMost low k → AreAtMost high k
at_most_more low high k le most = record {
  sustained = let x = most.sustained in omega (arith, x, le);
  seconds = let x = most.seconds in omega (arith, x, le);
  momentary = let x = most.momentary in omega (arith, x, le);
  customers = let x = most.customers in omega (arith, x, le);
  each = λ j small. let x = most.each j small in omega (arith, x, le);
  served = let x = most.served in omega (arith, x, le);
}

times_le : (n a b : ℕ) → a ≤ b → n * a ≤ n * b
times_le n a b l = mul-le-mul {n₁ = n} {m₁ = a} {n₂ = n} {m₂ = b} (omega arith) l

at_most_one : (b : Bool) → cond b 1 0 ≤ 1
at_most_one true = omega arith
at_most_one false = omega arith

-- so many customers with a tally
abbrev pub times : ℕ → Tally → Total
times n t number = n * number t

-- the customers of blocks
abbrev pub customers_in : List SectionBlock → ℕ
customers_in blocks = sum_by (λ c. c.block.count) blocks

module _ (node : ℕ) (blocks : List SectionBlock) (i : ℕ) (d : SectionBlock) (l : i < length blocks) where
  abbrev pub count : ℕ
  count = (get_or blocks i d).block.count

  -- the bound with the first n blocks
  abbrev pub bound : ℕ → ℕ
  bound n = node * 2 ^ 42 + customers_in (take n blocks) * 2 ^ 25

  -- a number that is so much greater is within the bound with one block more
  pub next_bound : (a t : ℕ) → a ≤ bound i → t ≤ 2 ^ 25 → a + count * t ≤ bound (i + 1)
  next_bound a t le small =
      let more = sum_by_more (λ (c : SectionBlock). c.block.count) blocks i d l in
      let part = times_le count t (2 ^ 25) small in
      omega (arith, le, more, part)

  -- the bound is far below what a number may be
  pub bound_small : node < 1_024 → customers_in blocks ≤ 100_000 → bound (i + 1) < 2 ^ 53
  bound_small low few =
      let most = sum_by_more_le (λ (c : SectionBlock). c.block.count) blocks i d l in
      let more = sum_by_more (λ (c : SectionBlock). c.block.count) blocks i d l in
      omega (arith, low, few, most, more)

  pub next_at_most : (k m : Figures) (t : Tally) → AreAtMost (bound i) k → IsAtMost (2 ^ 25) t → AreMore (times count t) k m → AreAtMost (bound (i + 1)) m
  next_at_most k m t most few more = record {
    sustained = next k.counts.ci m.counts.ci t.sustained most.sustained few.sustained more.sustained;
    seconds = next k.counts.csi m.counts.csi t.seconds most.seconds few.seconds more.seconds;
    momentary = next k.counts.mi m.counts.mi t.momentary most.momentary few.momentary more.momentary;
    customers = next k.counts.cn m.counts.cn (at_least 1 t) most.customers (one 1) more.customers;
    each = λ j small. next (slice_index k.counts.cn_n j) (slice_index m.counts.cn_n j) (at_least (1 + j) t) (most.each j small) (one (1 + j)) (more.each j small);
    served = next k.served m.served t.served most.served few.served more.served;
  }
    where
      next : (a b x : ℕ) → a ≤ bound i → x ≤ 2 ^ 25 → b ≡ a + count * x → b ≤ bound (i + 1)
      next a b x le small is = let high = next_bound a x le small in omega (arith, high, is)

      one : (n : ℕ) → at_least n t ≤ 2 ^ 25
      one n = let le = at_most_one (nat_le n t.sustained) in omega (arith, le)

-- with all blocks it is within that of the next node
pub last_bound : (node : ℕ) (blocks : List SectionBlock) (n : ℕ) → customers_in blocks ≤ 100_000 → node * 2 ^ 42 + customers_in (take n blocks) * 2 ^ 25 ≤ (node + 1) * 2 ^ 42
last_bound node blocks n few = let most = sum_by-take-le (λ (c : SectionBlock). c.block.count) blocks n in omega (arith, few, most)
