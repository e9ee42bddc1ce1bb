use Rattle.std.proofs.Common.{◌≡◌, ◌≢◌, ◌<◌, ◌≤◌, ◌+◌, ◌-◌, ◌*◌, ◌^◌, ℕ, true, false, List, length, take, get_or, subst, ap, sym, ◌∙◌, arith}
use Rattle.std.specs.List.{AllWithin, sum_by}
use Rattle.ob_cust.specs.declared.SectionBlock.{SectionBlock}
use Rattle.ob_cust.specs.declared.services.Before.{Before}
use Rattle.ob_cust.specs.Services.{AreServices, IsServices, IsBefore, begins_before, sum_of, since_start, own_customers, own_seconds}
use Rattle.ob_cust.proofs.Running.{passed_is, none_of_section, before_first, before_more, next_fits}
use Rattle.ob_cust.proofs.services.Services.seconds_passed.Goals as goal

none_zero : (bs : List SectionBlock) (s x n : ℕ) → n ≡ 0 → AllWithin (λ b. begins_before s x b ≡ true) bs 0 n → AllWithin (λ b. begins_before s x b ≡ false) bs n (length bs) → 0 ≡ sum_of (since_start s x) bs
none_zero bs s x n e below above =
    let l : n ≤ length bs = omega arith in
    let is = passed_is bs s x n l below above in
    let a = ap (λ (k : ℕ). sum_by (own_seconds s) (take k bs)) e in
    let b = ap (λ (k : ℕ). sum_by (own_customers s) (take k bs) * x) e in
    omega (arith, is, a, b)

none_other : (bs : List SectionBlock) (s x n : ℕ) (d : SectionBlock) → AreServices bs → 0 < n → n ≤ length bs → AllWithin (λ b. begins_before s x b ≡ true) bs 0 n → AllWithin (λ b. begins_before s x b ≡ false) bs n (length bs) → (get_or bs (n - 1) d).section ≢ s → 0 ≡ sum_of (since_start s x) bs
none_other bs s x n d h p l below above ne =
    let is = passed_is bs s x n l below above in
    let first = before_first bs n s l (none_of_section bs s x n d h p l below ne) in
    let e = ap (λ (k : ℕ). k * x) first.customers in
    omega (arith, is, first.seconds, e)

pub returns-then-place-eq0 : goal.returns-then-place-eq0
returns-then-place-eq0 c =
    rw (← c.self.view_is) (none_zero c.self.inside.blocks.items c.args.section c.args.x c.begun_before-place.result c.if-place-eq0.true
    (rw c.deref.ensures.value at c.begun_before-place.ensures.below)
    (rw c.deref.ensures.value at c.begun_before-place.ensures.above))

pub returns-then-last-section : goal.returns-then-last-section
returns-then-last-section c =
    rw (← c.self.view_is) (none_other c.self.inside.blocks.items c.args.section c.args.x c.begun_before-place.result c.index-last.result.now c.self.invariant.services (omega (arith, c.if-place-eq0.false))
    (rw c.deref.ensures.value at c.begun_before-place.ensures.bound)
    (rw c.deref.ensures.value at c.begun_before-place.ensures.below)
    (rw c.deref.ensures.value at c.begun_before-place.ensures.above)
    (λ q. c.if-last-section.true (ap (λ (b : SectionBlock). b.section) c.index-last.ensures ∙ q)))

-- the sums beside the last block before the place
last_fits : (bs : List SectionBlock) (ss : List Before) (at : ℕ) (b : SectionBlock) (s : Before) → IsServices bs ss → at < length bs → b ≡ get_or bs at b → s ≡ get_or ss at s → (s.customers + b.block.count ≤ 100000) × (s.seconds + b.block.count * b.block.since < 2 ^ 128)
last_fits bs ss at b s h l is is' =
    let fits = next_fits bs at b s h.services l (subst (λ (r : Before). IsBefore (get_or bs at b).section (take at bs) r) (sym is') (h.sums at l b s)) in
    subst (λ (a : SectionBlock). (s.customers + a.block.count ≤ 100000) × (s.seconds + a.block.count * a.block.since < 2 ^ 128)) (sym is) fits

pub with_own-sums-requires-clause-few : goal.with_own-sums-requires-clause-few
with_own-sums-requires-clause-few c =
    (last_fits c.self.inside.blocks.items c.self.inside.before.items (c.begun_before-place.result - 1) c.index-last.result.now c.index.result.now c.self.invariant (omega (arith, c.if-place-eq0.false, rw c.deref.ensures.value at c.begun_before-place.ensures.bound)) c.index-last.ensures c.index.ensures).0

pub with_own-sums-requires-clause-small : goal.with_own-sums-requires-clause-small
with_own-sums-requires-clause-small c =
    (last_fits c.self.inside.blocks.items c.self.inside.before.items (c.begun_before-place.result - 1) c.index-last.result.now c.index.result.now c.self.invariant (omega (arith, c.if-place-eq0.false, rw c.deref.ensures.value at c.begun_before-place.ensures.bound)) c.index-last.ensures c.index.ensures).1

-- the product less the first seconds
last_is : (bs : List SectionBlock) (ss : List Before) (n section x : ℕ) (b : SectionBlock) (s r : Before) → IsServices bs ss → 0 < n → n ≤ length bs → b ≡ get_or bs (n - 1) b → s ≡ get_or ss (n - 1) s → b.section ≡ section → r.customers ≡ s.customers + b.block.count → r.seconds ≡ s.seconds + b.block.count * b.block.since → AllWithin (λ a. begins_before section x a ≡ true) bs 0 n → AllWithin (λ a. begins_before section x a ≡ false) bs n (length bs) → sum_of (since_start section x) bs + r.seconds ≡ r.customers * x
last_is bs ss n section x b s r h p l is is' own more later below above =
    let at = n - 1 in
    let e : at + 1 ≡ n = omega arith in
    let m : at < length bs = omega arith in
    let here : (get_or bs at b).section ≡ section = ap (λ (a : SectionBlock). a.section) (sym is) ∙ own in
    let count = ap (λ (a : SectionBlock). s.customers + a.block.count) is in
    let first = ap (λ (a : SectionBlock). s.seconds + a.block.count * a.block.since) is in
    let front = subst (λ (k : ℕ). IsBefore k (take at bs) s) here (subst (λ (q : Before). IsBefore (get_or bs at b).section (take at bs) q) (sym is') (h.sums at m b s)) in
    let next = subst (λ (k : ℕ). IsBefore section (take k bs) r) e (before_more bs at section b s r m here front (more ∙ count) (later ∙ first)) in
    let whole = passed_is bs section x n l below above in
    rw (next.customers, next.seconds) whole

whole : (c : goal.After-struct_known-3-1) → sum_of (since_start c.args.section c.args.x) c.self.inside.blocks.items + c.with_own-sums.result.seconds ≡ c.with_own-sums.result.customers * c.args.x
whole c =
    last_is c.self.inside.blocks.items c.self.inside.before.items c.begun_before-place.result c.args.section c.args.x c.index-last.result.now c.index.result.now c.with_own-sums.result c.self.invariant (omega (arith, c.if-place-eq0.false))
    (rw c.deref.ensures.value at c.begun_before-place.ensures.bound) c.index-last.ensures c.index.ensures c.if-last-section.false c.with_own-sums.ensures.customers c.with_own-sums.ensures.seconds
    (rw c.deref.ensures.value at c.begun_before-place.ensures.below)
    (rw c.deref.ensures.value at c.begun_before-place.ensures.above)

pub overflow_sub-result : goal.overflow_sub-result
overflow_sub-result c = omega (arith, whole c)

pub returns : goal.returns
returns c = rw (← c.self.view_is) (omega (arith, whole c))
