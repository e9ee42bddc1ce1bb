use Rattle.std.proofs.Common.{◌≡◌, ◌<◌, ◌≤◌, ◌+◌, ◌-◌, ◌*◌, ◌==◌, ℕ, None, List, length, take, drop, get_or, cond, subst, ap, sym, ◌∙◌, arith, rules, inl, inr}
use Rattle.std.proofs.lemmas.Bool.{cases_lt}
use Rattle.std.specs.List.{All, AllPairs, AllWithin, sum_by}
use Rattle.std.specs.declared.cmp.Ordering.TheVariants.{Less}
use Rattle.ob_cust.specs.Blocks.{service_cmp, service_of}
use Rattle.ob_cust.specs.declared.SectionBlock.{SectionBlock}
use Rattle.ob_cust.proofs.Running.{sum_of_part, part_at, part_len, section_sum, other_section}
use Rattle.ob_cust.proofs.Keyed.{AreInOrder, service_less}
use Rattle.ob_cust.proofs.services.Services.of_section.Goals as goal

-- what the two searches find
record IsPart (bs : List SectionBlock) (s first end : ℕ) : Type 0 where
  pub rise : first ≤ end
  pub within : end ≤ length bs
  pub below : AllWithin (λ b. b.section < s) bs 0 first
  pub inside : AllWithin (λ b. b.section ≡ s) bs first end
  pub above : AllWithin (λ b. s < b.section) bs end (length bs)

part_is : (bs : List SectionBlock) (s first end : ℕ) → first ≤ length bs → AllWithin (λ b. b.section < s) bs 0 first → AllWithin (λ b. s ≤ b.section) bs first (length bs) → end ≤ length bs → AllWithin (λ b. b.section ≤ s) bs 0 end → AllWithin (λ b. s < b.section) bs end (length bs) → IsPart bs s first end
part_is bs s first end l below from m upto above =
    let none : SectionBlock = record { section = 0; block = record { since = 0; until = None; count = 0 } } in
    let rise : first ≤ end = elim (cases_lt end first) [
      | inl lt ↦ absurd (omega (arith, below end none (omega arith) lt, above end none (omega arith) (omega arith)))
      | inr ge ↦ ge
    ] in
    record {
      rise = rise;
      within = m;
      below = below;
      inside = λ k d lo hi. omega (arith, from k d lo (omega arith), upto k d (omega arith) hi);
      above = above;
    }

part : (c : goal.After-deref-3) → IsPart c.self.inside.blocks.items c.args.section c.first_of-first.result c.end_of-end.result
part c =
    part_is c.self.inside.blocks.items c.args.section c.first_of-first.result c.end_of-end.result
    (rw c.deref.ensures.value at c.first_of-first.ensures.bound)
    (rw c.deref.ensures.value at c.first_of-first.ensures.below)
    (rw c.deref.ensures.value at c.first_of-first.ensures.above)
    (rw c.deref-2.ensures.value at c.end_of-end.ensures.bound)
    (rw c.deref-2.ensures.value at c.end_of-end.ensures.below)
    (rw c.deref-2.ensures.value at c.end_of-end.ensures.above)

pub slice_bounds-result-count : goal.slice_bounds-result-count
slice_bounds-result-count c = (part c).rise

pub slice_bounds-result-start : goal.slice_bounds-result-start
slice_bounds-result-start c = let h : c.first_of-first.result ≤ c.end_of-end.result = (part c).rise in search rules

at_end : (c : goal.After-result-1) → IsPart c.deref-3.result.now c.args.section c.first_of-first.result c.end_of-end.result
at_end c =
    part_is c.deref-3.result.now c.args.section c.first_of-first.result c.end_of-end.result
    (rw (c.deref.ensures.value ∙ sym c.deref-3.ensures.value) at c.first_of-first.ensures.bound)
    (rw (c.deref.ensures.value ∙ sym c.deref-3.ensures.value) at c.first_of-first.ensures.below)
    (rw (c.deref.ensures.value ∙ sym c.deref-3.ensures.value) at c.first_of-first.ensures.above)
    (rw (c.deref-2.ensures.value ∙ sym c.deref-3.ensures.value) at c.end_of-end.ensures.bound)
    (rw (c.deref-2.ensures.value ∙ sym c.deref-3.ensures.value) at c.end_of-end.ensures.below)
    (rw (c.deref-2.ensures.value ∙ sym c.deref-3.ensures.value) at c.end_of-end.ensures.above)

all_inside : (P : SectionBlock → Type 0) (bs : List SectionBlock) (s first end : ℕ) → IsPart bs s first end → AllWithin P bs first end → All P (take (end - first) (drop first bs))
all_inside P bs s first end h all k d l =
    let m = part_len bs first end h.rise h.within in
    subst P (sym (part_at bs first (end - first) k d (omega arith))) (all (first + k) d (omega arith) (omega (arith, h.rise)))

pub returns-clause-of_section : goal.returns-clause-of_section
returns-clause-of_section c = all_inside (λ b. b.section ≡ c.args.section) c.deref-3.result.now c.args.section c.first_of-first.result c.end_of-end.result (at_end c) (at_end c).inside

pub returns-clause-positive : goal.returns-clause-positive
returns-clause-positive c =
    all_inside (λ b. 0 < b.block.count) c.deref-3.result.now c.args.section c.first_of-first.result c.end_of-end.result (at_end c)
    (rw c.deref-3.ensures.value (λ k d lo hi. c.self.invariant.services.positive k d (omega (arith, hi, (at_end c).within, ap (λ (bs : List SectionBlock). length bs) c.deref-3.ensures.value))))

pub returns-clause-sums : goal.returns-clause-sums
returns-clause-sums c f =
    let bs = c.deref-3.result.now in
    let s = c.args.section in
    let first = c.first_of-first.result in
    let end = c.end_of-end.result in
    let h = at_end c in
    let w : SectionBlock → ℕ = λ b. b.block.count * cond (b.section == s) (f b.block.since b.block.until) 0 in
    let here = section_sum f s (take (end - first) (drop first bs)) (all_inside (λ b. b.section ≡ s) bs s first end h h.inside) in
    let part = sum_of_part w bs first end h.rise h.within (λ k d lo hi. other_section (get_or bs k d) s f (λ q. omega (arith, q, h.below k d lo hi))) (λ k d lo hi. other_section (get_or bs k d) s f (λ q. omega (arith, q, h.above k d lo hi))) in
    here ∙ part ∙ rw (← c.self.view_is) (ap (λ (cs : List SectionBlock). sum_by w cs) c.deref-3.ensures.value)

ordered_part : (bs : List SectionBlock) (s first end : ℕ) → IsPart bs s first end → AreInOrder bs → AllPairs (λ a b. service_cmp (service_of a.block) (service_of b.block) ≡ Less) (take (end - first) (drop first bs))
ordered_part bs s first end h up i j d l m =
    let n = part_len bs first end h.rise h.within in
    let a = part_at bs first (end - first) i d (omega arith) in
    let b = part_at bs first (end - first) j d (omega arith) in
    let less = up (first + i) (first + j) d (omega arith) (omega (arith, h.rise, h.within)) in
    let same = h.inside (first + i) d (omega arith) (omega (arith, h.rise)) ∙ sym (h.inside (first + j) d (omega arith) (omega (arith, h.rise))) in
    subst (λ (x : SectionBlock). service_cmp (service_of x.block) (service_of (get_or (take (end - first) (drop first bs)) j d).block) ≡ Less) (sym a)
    (subst (λ (y : SectionBlock). service_cmp (service_of (get_or bs (first + i) d).block) (service_of y.block) ≡ Less) (sym b) (service_less (get_or bs (first + i) d) (get_or bs (first + j) d) less same))

pub returns-clause-ordered : goal.returns-clause-ordered
returns-clause-ordered c =
    ordered_part c.deref-3.result.now c.args.section c.first_of-first.result c.end_of-end.result (at_end c) (rw c.deref-3.ensures.value c.self.invariant.services.ordered)
