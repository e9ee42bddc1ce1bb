-- The services of sections in order, each once with how many have it, and the sums of those before it.
use Rattle.std.specs.Prelude.{ℕ, ◌≡◌, ◌<◌, ◌≤◌, ◌-◌, ◌*◌, ◌^◌, ◌==◌, ◌&&◌, ◌||◌, Bool, nat_lt, List, Option, length, take, slice_index_or, if◌then◌else◌}
use Rattle.std.specs.List.{All, AllPairs, sum_by}
use Rattle.std.specs.Ordering.{nat_cmp, ordering_then}
use Rattle.std.specs.declared.cmp.Ordering.{Ordering}
use Rattle.std.specs.declared.cmp.Ordering.TheVariants.{Less}
use Rattle.ob_cust.specs.Blocks.{service_cmp, service_of}
use Rattle.ob_cust.specs.declared.SectionBlock.{SectionBlock}
use Rattle.ob_cust.specs.declared.services.Before.{Before}

-- the section and the service of a block
abbrev pub key : SectionBlock → ℕ × (ℕ × Option ℕ)
key b = (b.section, service_of b.block)

-- the order of blocks: by section, then by service
abbrev pub key_cmp : ℕ × (ℕ × Option ℕ) → ℕ × (ℕ × Option ℕ) → Ordering
key_cmp q r = ordering_then (nat_cmp q.0 r.0) (service_cmp q.1 r.1)

-- the block is of an earlier section, or of this one and begins before x
abbrev pub begins_before : ℕ → ℕ → SectionBlock → Bool
begins_before section x b = nat_lt b.section section || b.section == section && nat_lt b.block.since x

-- a number for each service of a section, summed, as many times as blocks count customers
abbrev pub sum_of : (ℕ → ℕ → Option ℕ → ℕ) → List SectionBlock → ℕ
sum_of f bs = sum_by (λ b. b.block.count * f b.section b.block.since b.block.until) bs

-- how many customers there are
abbrev pub customers_of : List SectionBlock → ℕ
customers_of bs = sum_of (λ section since until. 1) bs

-- how many seconds have passed at x since a service of the section began
abbrev pub since_start : ℕ → ℕ → ℕ → ℕ → Option ℕ → ℕ
since_start section x s since until = if s == section then x - since else 0

-- the blocks, and how many of them fit without memory
pub record ServicesState : Type 0 where
  pub blocks : List SectionBlock
  pub capacity : ℕ

-- the customers of a block of the section, and their first seconds of service
abbrev pub own_customers : ℕ → SectionBlock → ℕ
own_customers section b = if b.section == section then b.block.count else 0

abbrev pub own_seconds : ℕ → SectionBlock → ℕ
own_seconds section b = if b.section == section then b.block.count * b.block.since else 0

-- the sums over the blocks of the section
pub record IsBefore (section : ℕ) (front : List SectionBlock) (s : Before) : Type 0 where
  pub customers : s.customers ≡ sum_by (own_customers section) front
  pub seconds : s.seconds ≡ sum_by (own_seconds section) front

-- the k-th sums are those of the blocks before the k-th
abbrev pub IsBeforeAt : List SectionBlock → List Before → ℕ → Type 0
IsBeforeAt bs ss k = (d : SectionBlock) (e : Before) → IsBefore (slice_index_or bs k d).section (take k bs) (slice_index_or ss k e)

-- blocks in order, each of some customers, and not too many
pub record AreServices (bs : List SectionBlock) : Type 0 where
  pub ordered : AllPairs (λ a b. key_cmp (key a) (key b) ≡ Less) bs
  pub positive : All (λ b. 0 < b.block.count) bs
  pub small : All (λ b. b.block.since < 2 ^ 64) bs
  pub few : customers_of bs ≤ 100_000

-- and beside each its sums
pub record IsServices (bs : List SectionBlock) (ss : List Before) : Type 0 where
  pub services : AreServices bs
  pub len : length ss ≡ length bs
  pub sums : (k : ℕ) → k < length bs → IsBeforeAt bs ss k
