-- What the blocks of a section add to the counts, block by block.
use Rattle.std.proofs.Common.{◌≡◌, ℕ, ◌+◌, ◌*◌, ◌^◌, ◌<◌, ◌≤◌, cond, Bool, true, false, List, [], ◌∷◌, Option, length, get_or, take, map, slice_index, refl, sym, ◌∙◌, ap, mul-le-mul, arith}
use Rattle.std.specs.List.{All, count_by, sum_by}
use Rattle.std.proofs.lemmas.List.Sums.{sum_by-cons, sum_by_more, sum_by_more_le, sum_by-le-sum_by}
use Rattle.ob_base.specs.Seconds.{seconds}
use Rattle.ob_cust.specs.Blocks.{sum_over_blocks}
use Rattle.ob_cust.specs.declared.Block.{Block}
use Rattle.ob_cust.specs.declared.Customer.{Customer}
use Rattle.ob_cust.specs.declared.SectionBlock.{SectionBlock}
use Rattle.ob_cust.specs.Service.{in_service}
use Rattle.ob_sweep.specs.declared.Run.{Run}
use Rattle.ob_time.specs.Calendar.{Calendar, first_second_of, end_second_of}
use Rattle.ob_index.specs.Blocks.{customer_in_service, seconds_of_blocks, sum_of_tallies}
use Rattle.ob_index.specs.Tallies.{at_least, tally_by_runs}
use Rattle.ob_index.specs.declared.figures.Counts.{Counts}
use Rattle.ob_index.specs.declared.figures.Which.{Which}
use Rattle.ob_index.specs.declared.tally.Tally.{Tally}

-- the counts m are k and the tallies of the customers of blocks, at most their seconds of service more
pub record AreAdded (period : Calendar) (marks : List (Option (List ℕ))) (which : Which) (runs : List Run) (blocks : List SectionBlock) (k m : Counts) : Type 0 where
  pub sustained : m.ci ≡ k.ci + sum_of_tallies (λ t. t.sustained) period marks which runs blocks
  pub seconds : m.csi ≡ k.csi + sum_of_tallies (λ t. t.seconds) period marks which runs blocks
  pub momentary : m.mi ≡ k.mi + sum_of_tallies (λ t. t.momentary) period marks which runs blocks
  pub customers : m.cn ≡ k.cn + sum_of_tallies (at_least 1) period marks which runs blocks
  pub places : length m.cn_n ≡ length k.cn_n
  pub each : (j : ℕ) → j < 10 → slice_index m.cn_n j ≡ slice_index k.cn_n j + sum_of_tallies (at_least (1 + j)) period marks which runs blocks
  pub few_sustained : m.ci ≤ k.ci + seconds_of_blocks period blocks
  pub few_seconds : m.csi ≤ k.csi + seconds_of_blocks period blocks
  pub few_momentary : m.mi ≤ k.mi + seconds_of_blocks period blocks

-- no block adds nothing
pub added_none : (period : Calendar) (marks : List (Option (List ℕ))) (which : Which) (runs : List Run) (blocks : List SectionBlock) (k : Counts) → length blocks ≡ 0 → AreAdded period marks which runs blocks k k
added_none period marks which runs [] k none = record {
  sustained = omega arith;
  seconds = omega arith;
  momentary = omega arith;
  customers = omega arith;
  places = refl;
  each = λ j small. omega arith;
  few_sustained = omega arith;
  few_seconds = omega arith;
  few_momentary = omega arith;
}
added_none period marks which runs (b ∷ bs) k none = absurd (omega (arith, none))

-- a tally asks for the service of its customer alone
pub by_service : (period : Calendar) (marks : List (Option (List ℕ))) (which : Which) (runs : List Run) (c : Customer)
    → tally_by_runs period marks which runs c ≡ tally_by_runs period marks which runs (customer_in_service c.since c.until)
by_service period marks which runs c = refl

-- so the customer stands for any with the service of a block
pub tally_of_block : (period : Calendar) (marks : List (Option (List ℕ))) (which : Which) (runs : List Run) (c : Customer) (b : SectionBlock) → c.since ≡ b.block.since → c.until ≡ b.block.until
    → tally_by_runs period marks which runs c ≡ tally_by_runs period marks which runs (customer_in_service b.block.since b.block.until)
tally_of_block period marks which runs c b since until =
    by_service period marks which runs c
    ∙ ap (λ (s : ℕ). tally_by_runs period marks which runs (customer_in_service s c.until)) since
    ∙ ap (λ (u : Option ℕ). tally_by_runs period marks which runs (customer_in_service b.block.since u)) until

-- the seconds of the period at which a customer of a block is in service
abbrev pub service_of_block : Calendar → SectionBlock → ℕ
service_of_block period b = count_by (in_service (customer_in_service b.block.since b.block.until)) (seconds (first_second_of period) (end_second_of period))

pub within_block : (period : Calendar) (c : Customer) (b : SectionBlock) (n : ℕ) → c.since ≡ b.block.since → c.until ≡ b.block.until
    → n ≤ count_by (in_service c) (seconds (first_second_of period) (end_second_of period)) → n ≤ service_of_block period b
within_block period c b n since until le =
    let one = ap (λ (s : ℕ). count_by (in_service (customer_in_service s c.until)) (seconds (first_second_of period) (end_second_of period))) since in
    let two = ap (λ (u : Option ℕ). count_by (in_service (customer_in_service b.block.since u)) (seconds (first_second_of period) (end_second_of period))) until in
    omega (arith, le, one, two)

-- no more of so many customers than there are
at_most_one : (b : Bool) → cond b 1 0 ≤ 1
at_most_one true = omega arith
at_most_one false = omega arith

times_le : (n a b : ℕ) → a ≤ b → n * a ≤ n * b
times_le n a b l = mul-le-mul {n₁ = n} {m₁ = a} {n₂ = n} {m₂ = b} (omega arith) l

times_at_most_one : (n a : ℕ) → a ≤ 1 → n * a ≤ n
times_at_most_one n a l = let le = times_le n a 1 l in omega (arith, le)

module _ (period : Calendar) (marks : List (Option (List ℕ))) (which : Which) (runs : List Run) (blocks : List SectionBlock) (i : ℕ) (d : SectionBlock) (l : i < length blocks) where
  -- the tally of a customer of the block at the place
  abbrev pub tally_at : Tally
  tally_at = tally_by_runs period marks which runs (customer_in_service (get_or blocks i d).block.since (get_or blocks i d).block.until)

  abbrev pub count_at : ℕ
  count_at = (get_or blocks i d).block.count

  more : (number : Tally → ℕ) → sum_of_tallies number period marks which runs (take (i + 1) blocks) ≡ sum_of_tallies number period marks which runs (take i blocks) + count_at * number tally_at
  more number = sum_by_more (λ (b : SectionBlock). b.block.count * number (tally_by_runs period marks which runs (customer_in_service b.block.since b.block.until))) blocks i d l

  more_service : seconds_of_blocks period (take (i + 1) blocks) ≡ seconds_of_blocks period (take i blocks) + count_at * service_of_block period (get_or blocks i d)
  more_service = sum_by_more (λ (b : SectionBlock). b.block.count * service_of_block period b) blocks i d l

  module _ (k m : Counts) (sofar : AreAdded period marks which runs (take i blocks) k m) (t : Tally) (is : t ≡ tally_at) where
    -- a number of this block's tally
    one_more : (number : Tally → ℕ) (a b c : ℕ) → b ≡ a + sum_of_tallies number period marks which runs (take i blocks) → c ≡ b + count_at * number t
        → c ≡ a + sum_of_tallies number period marks which runs (take (i + 1) blocks)
    one_more number a b c before now =
        let next = more number in
        let same : count_at * number t ≡ count_at * number tally_at = ap (λ (u : Tally). count_at * number u) is in
        omega (arith, before, now, next, same)

    few_more : (n a b c : ℕ) → n ≤ service_of_block period (get_or blocks i d) → b ≤ a + seconds_of_blocks period (take i blocks) → c ≡ b + count_at * n → c ≤ a + seconds_of_blocks period (take (i + 1) blocks)
    few_more n a b c few before now =
        let next = more_service in
        let le = times_le count_at n (service_of_block period (get_or blocks i d)) few in
        omega (arith, before, now, next, le)

    -- the counts n are m and the tallies of one block more
    pub added_more : (n : Counts) → t.sustained ≤ service_of_block period (get_or blocks i d) → t.seconds ≤ service_of_block period (get_or blocks i d) → t.momentary ≤ service_of_block period (get_or blocks i d)
        → n.ci ≡ m.ci + count_at * t.sustained → n.csi ≡ m.csi + count_at * t.seconds → n.mi ≡ m.mi + count_at * t.momentary → n.cn ≡ m.cn + count_at * at_least 1 t
        → length n.cn_n ≡ length m.cn_n → ((j : ℕ) → j < 10 → slice_index n.cn_n j ≡ slice_index m.cn_n j + count_at * at_least (1 + j) t)
        → AreAdded period marks which runs (take (i + 1) blocks) k n
    added_more n few_s few_n few_m s x w cn places each = record {
      sustained = one_more (λ u. u.sustained) k.ci m.ci n.ci sofar.sustained s;
      seconds = one_more (λ u. u.seconds) k.csi m.csi n.csi sofar.seconds x;
      momentary = one_more (λ u. u.momentary) k.mi m.mi n.mi sofar.momentary w;
      customers = one_more (at_least 1) k.cn m.cn n.cn sofar.customers cn;
      places = places ∙ sofar.places;
      each = λ j small. one_more (at_least (1 + j)) (slice_index k.cn_n j) (slice_index m.cn_n j) (slice_index n.cn_n j) (sofar.each j small) (each j small);
      few_sustained = few_more t.sustained k.ci m.ci n.ci few_s sofar.few_sustained s;
      few_seconds = few_more t.seconds k.csi m.csi n.csi few_n sofar.few_seconds x;
      few_momentary = few_more t.momentary k.mi m.mi n.mi few_m sofar.few_momentary w;
    }

  -- ---- how large the counts are with one block more
  module _ (all : seconds_of_blocks period blocks < 2 ^ 42) where
    pub next_small : (n a b : ℕ) → n ≤ service_of_block period (get_or blocks i d) → b ≤ a + seconds_of_blocks period (take i blocks) → a < 2 ^ 42 → b + count_at * n < 2 ^ 43
    next_small n a b few before small =
        let most = sum_by_more_le (λ (c : SectionBlock). c.block.count * service_of_block period c) blocks i d l in
        let le = times_le count_at n (service_of_block period (get_or blocks i d)) few in
        omega (arith, before, small, most, le, all)

  module _ (few : sum_by (λ b. b.block.count) blocks ≤ 100_000) where
    customers_le : (n : ℕ) (bs : List SectionBlock) → sum_of_tallies (at_least n) period marks which runs bs ≤ sum_by (λ b. b.block.count) bs
    customers_le n bs =
        sum_by-le-sum_by (λ (b : SectionBlock). b.block.count * at_least n (tally_by_runs period marks which runs (customer_in_service b.block.since b.block.until))) (λ b. b.block.count) bs
        (λ b. times_at_most_one b.block.count (at_least n (tally_by_runs period marks which runs (customer_in_service b.block.since b.block.until))) (at_most_one _))

    pub next_few : (n a b : ℕ) → b ≡ a + sum_of_tallies (at_least n) period marks which runs (take i blocks) → a < 2 ^ 42 → b + count_at < 2 ^ 43
    next_few n a b before small =
        let most = sum_by_more_le (λ (c : SectionBlock). c.block.count) blocks i d l in
        let le = customers_le n (take i blocks) in
        omega (arith, before, small, most, le, few)

-- blocks as ob_cust sums over them
pub over_blocks : (f : ℕ → Option ℕ → ℕ) (blocks : List SectionBlock) → sum_by (λ b. b.block.count * f b.block.since b.block.until) blocks ≡ sum_over_blocks f (map (λ b. b.block) blocks)
over_blocks f [] = refl
over_blocks f (b ∷ bs) =
    sum_by-cons (λ (c : SectionBlock). c.block.count * f c.block.since c.block.until) b bs
    ∙ ap (λ (n : ℕ). b.block.count * f b.block.since b.block.until + n) (over_blocks f bs)
    ∙ sym (sum_by-cons (λ (c : Block). c.count * f c.since c.until) b.block (map (λ c. c.block) bs))

-- blocks have customers
pub some_customers : (blocks : List SectionBlock) → All (λ b. 0 < b.block.count) blocks → 0 < length blocks → 0 < sum_over_blocks (λ since until. 1) (map (λ b. b.block) blocks)
some_customers [] positive some = absurd (omega (arith, some))
some_customers (b ∷ bs) positive some =
    let first = positive 0 b (omega arith) in
    let cons = sum_by-cons (λ (c : Block). c.count * 1) b.block (map (λ c. c.block) bs) in
    omega (arith, first, cons)
