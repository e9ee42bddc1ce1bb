-- The blocks of a section, as the register gives them, have the services of its customers, each with its number of customers.
use Rattle.std.proofs.Common.{◌≡◌, ℕ, ◌<◌, ◌≤◌, List, [], ◌∷◌, Option, None, length, map, get_or, sym, subst, arith}
use Rattle.std.specs.List.{All, AllPairs, sum_by}
use Rattle.std.specs.declared.cmp.Ordering.TheVariants.{Less}
use Rattle.std.proofs.lemmas.List.{get_or-map, length-map}
use Rattle.std.proofs.lemmas.List.Elements.{All-map, All-tail}
use Rattle.std.proofs.lemmas.List.Sums.{sum_by-cons}
use Rattle.ob_cust.specs.Blocks.{service_cmp, service_of, sum_over_blocks, sum_over_customers}
use Rattle.ob_cust.specs.declared.Block.{Block}
use Rattle.ob_cust.specs.declared.Customer.{Customer}
use Rattle.ob_cust.specs.declared.SectionBlock.{SectionBlock}
use Rattle.ob_cust.proofs.Order.{AreOrdered}
use Rattle.ob_rows.specs.Services.{customers_with, services_of}
use Rattle.ob_rows.proofs.Services.{count_of, services_are}

-- no more blocks than customers
pub few_blocks : (blocks : List SectionBlock) → All (λ c. 0 < c.block.count) blocks → length blocks ≤ sum_by (λ c. c.block.count) blocks
few_blocks [] positive = omega arith
few_blocks (b ∷ blocks) positive =
    let rest = few_blocks blocks (All-tail (λ (c : SectionBlock). 0 < c.block.count) b blocks positive) in
    omega (arith, sum_by-cons (λ (c : SectionBlock). c.block.count) b blocks, rest, positive 0 b (omega arith))

abbrev pub plain : List SectionBlock → List Block
plain blocks = map (λ (c : SectionBlock). c.block) blocks

module _ (roll : List Customer) (v : ℕ) (blocks : List SectionBlock) (of_section : All (λ c. c.section ≡ v) blocks) (positive : All (λ c. 0 < c.block.count) blocks)
    (sums : (f : ℕ → Option ℕ → ℕ) → sum_over_blocks f (plain blocks) ≡ sum_over_customers f v roll) (ordered : AllPairs (λ a b. service_cmp (service_of a.block) (service_of b.block) ≡ Less) blocks) where
  at : (k : ℕ) (d : SectionBlock) (e : Block) → k < length blocks → get_or (plain blocks) k e ≡ (get_or blocks k d).block
  at k d e l = get_or-map (λ (c : SectionBlock). c.block) blocks k d e l

  absent : SectionBlock
  absent = record { section = 0; block = record { since = 0; until = None; count = 0 } }

  ordered_plain : AreOrdered (plain blocks)
  ordered_plain i j e l m =
      let n : j < length blocks = omega (arith, m, length-map blocks (λ (c : SectionBlock). c.block)) in
      subst (λ (a : Block). service_cmp (service_of a) (service_of (get_or (plain blocks) j e)) ≡ Less) (sym (at i absent e (omega arith)))
      (subst (λ (b : Block). service_cmp (service_of (get_or blocks i absent).block) (service_of b) ≡ Less) (sym (at j absent e n)) (ordered i j absent l n))

  positive_plain : All (λ (c : Block). 0 < c.count) (plain blocks)
  positive_plain = All-map (λ (c : Block). 0 < c.count) (λ (c : SectionBlock). c.block) blocks positive

  pub services : services_of v roll ≡ map service_of (plain blocks)
  services = services_are roll v (plain blocks) ordered_plain positive_plain sums

  pub counts : All (λ c. c.block.count ≡ customers_with roll c.section (service_of c.block)) blocks
  counts k d l =
      let own = (get_or blocks k d).block in
      let here : get_or (plain blocks) k own ≡ own = at k d own l in
      let n : k < length (plain blocks) = omega (arith, l, length-map blocks (λ (c : SectionBlock). c.block)) in
      subst (λ (w : ℕ). own.count ≡ customers_with roll w (service_of own)) (sym (of_section k d l))
      (subst (λ (b : Block). b.count ≡ customers_with roll v (service_of b)) here (count_of roll v (plain blocks) ordered_plain positive_plain sums k own n))
