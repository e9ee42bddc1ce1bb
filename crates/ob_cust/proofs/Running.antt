-- Sums over the blocks of a section that stand before a place.
use Rattle.std.proofs.Common.{◌≡◌, ◌≢◌, ℕ, ◌+◌, ◌-◌, ◌*◌, ◌^◌, ◌<◌, ◌≤◌, ◌==◌, ◌&&◌, ◌||◌, nat_lt, Bool, true, false, List, [], ◌∷◌, Option, None, length, map, take, drop, get_or, set, zero, suc, cond, refl, sym, ap, ◌∙◌, arith, inl, inr}
use Rattle.std.specs.List.{All, AllWithin, sum_by}
use Rattle.std.proofs.lemmas.Bool.{cases_Bool, cases_lt}
use Rattle.std.proofs.lemmas.Bool.Decides.{nat_tests}
use Rattle.std.proofs.lemmas.Nat.{mul-le}
use Rattle.std.proofs.lemmas.List.{length-take-le, get_or-take, get_or-drop, length-drop, drop-drop, get_or_default, get_or-set_same, get_or-set_other}
use Rattle.std.proofs.lemmas.List.Elements.{All-tail}
use Rattle.std.proofs.lemmas.List.Sums.{sum_by-cons, sum_by_more, sum_by-le, sum_by-take-le, sum_by-take-drop, sum_by-le-sum_by}
use Rattle.ob_cust.specs.Blocks.{sum_over_blocks}
use Rattle.ob_cust.specs.declared.Block.{Block}
use Rattle.ob_cust.specs.declared.SectionBlock.{SectionBlock}
use Rattle.ob_cust.specs.declared.services.Before.{Before}
use Rattle.ob_cust.specs.Services.{begins_before, own_customers, own_seconds, customers_of, sum_of, since_start, IsBefore, IsBeforeAt, AreServices}
use Rattle.ob_cust.proofs.Keyed.{sections_rise}

pub same : (m n : ℕ) → m ≡ n → (m == n) ≡ true
same m n e = grind (arith, nat_tests)

pub apart : (m n : ℕ) → m ≢ n → (m == n) ≡ false
apart m n ne = grind (arith, nat_tests)

-- where each term is 0, so is the sum
pub none : {X : Type 0} (w : X → ℕ) (xs : List X) → All (λ x. w x ≡ 0) xs → sum_by w xs ≡ 0
none {X} w xs h = omega (arith, sum_by-le w 0 xs (λ k d l. omega (arith, h k d l)))

pub none_front : {X : Type 0} (w : X → ℕ) (xs : List X) (at : ℕ) → at ≤ length xs → AllWithin (λ x. w x ≡ 0) xs 0 at → sum_by w (take at xs) ≡ 0
none_front {X} w xs at l h =
    let n = length-take-le at xs l in
    none w (take at xs) (λ k d m. ap w (get_or-take at xs k d (omega arith)) ∙ h k d (omega arith) (omega arith))

pub none_rest : {X : Type 0} (w : X → ℕ) (xs : List X) (at : ℕ) → AllWithin (λ x. w x ≡ 0) xs at (length xs) → sum_by w (drop at xs) ≡ 0
none_rest {X} w xs at h =
    let n = length-drop at xs in
    none w (drop at xs) (λ k d m. ap w (get_or-drop at xs k d) ∙ h (at + k) d (omega arith) (omega arith))

-- no block of the section stands before its first
pub before_first : (bs : List SectionBlock) (at s : ℕ) → at ≤ length bs → AllWithin (λ b. b.section ≢ s) bs 0 at → IsBefore s (take at bs) (record { customers = 0; seconds = 0 })
before_first bs at s l h = record {
  customers = sym (none_front (own_customers s) bs at l (λ k d lo hi. rw (apart (get_or bs k d).section s (h k d lo hi)) refl));
  seconds = sym (none_front (own_seconds s) bs at l (λ k d lo hi. rw (apart (get_or bs k d).section s (h k d lo hi)) refl));
}

-- one block more of the section
pub before_more : (bs : List SectionBlock) (at s : ℕ) (d : SectionBlock) (e r : Before) → at < length bs → (get_or bs at d).section ≡ s → IsBefore s (take at bs) e → r.customers ≡ e.customers + (get_or bs at d).block.count → r.seconds ≡ e.seconds + (get_or bs at d).block.count * (get_or bs at d).block.since → IsBefore s (take (at + 1) bs) r
before_more bs at s d e r l is h more later =
    let b = get_or bs at d in
    let one : own_customers s b ≡ b.block.count = rw (same b.section s is) refl in
    let two : own_seconds s b ≡ b.block.count * b.block.since = rw (same b.section s is) refl in
    record {
      customers = omega (arith, more, h.customers, sum_by_more (own_customers s) bs at d l, one);
      seconds = omega (arith, later, h.seconds, sum_by_more (own_seconds s) bs at d l, two);
    }

-- the sums are small
own_le : (t : Bool) (n : ℕ) → cond t n 0 ≤ n * 1
own_le true n = omega arith
own_le false n = omega arith

pub few_before : (s : ℕ) (bs : List SectionBlock) (at : ℕ) → sum_by (own_customers s) (take at bs) ≤ customers_of bs
few_before s bs at =
    omega (arith, sum_by-take-le (own_customers s) bs at, sum_by-le-sum_by (own_customers s) (λ (b : SectionBlock). b.block.count * 1) bs (λ b. own_le (b.section == s) b.block.count))

own_small : (t : Bool) (n x m : ℕ) → x ≤ m → cond t (n * x) 0 ≤ n * m
own_small true n x m l = mul-le n x n m (omega arith) l
own_small false n x m l = omega arith

one_more : (n r m : ℕ) → n * m + r * m ≡ (n * 1 + r) * m
one_more n r m = omega arith

pub small_sum : (s m : ℕ) (bs : List SectionBlock) → All (λ b. b.block.since ≤ m) bs → sum_by (own_seconds s) bs ≤ customers_of bs * m
small_sum s m [] h = omega arith
small_sum s m (b ∷ bs) h =
    let rest = small_sum s m bs (All-tail (λ (a : SectionBlock). a.block.since ≤ m) b bs h) in
    let one = own_small (b.section == s) b.block.count b.block.since m (h 0 b (omega arith)) in
    let more = sum_by-cons (own_seconds s) b bs in
    let all = sum_by-cons (λ (a : SectionBlock). a.block.count * 1) b bs in
    let e = one_more b.block.count (customers_of bs) m in
    rw all (omega (arith, rest, one, more, e))

times : (n m : ℕ) → n ≤ 100000 → n * m ≤ 100000 * m
times n m l = mul-le n m 100000 m l (omega arith)

pub small_before : (s : ℕ) (bs : List SectionBlock) (at : ℕ) → AreServices bs → sum_by (own_seconds s) (take at bs) ≤ 100000 * 2 ^ 64
small_before s bs at h =
    let all = small_sum s (2 ^ 64) bs (λ k d l. omega (arith, h.small k d l)) in
    omega (arith, all, sum_by-take-le (own_seconds s) bs at, times (customers_of bs) (2 ^ 64) h.few)

pub next_fits : (bs : List SectionBlock) (at : ℕ) (d : SectionBlock) (e : Before) → AreServices bs → at < length bs → IsBefore (get_or bs at d).section (take at bs) e → (e.customers + (get_or bs at d).block.count ≤ 100000) × (e.seconds + (get_or bs at d).block.count * (get_or bs at d).block.since < 2 ^ 128)
next_fits bs at d e h l is =
    let b = get_or bs at d in
    let r : Before = record { customers = e.customers + b.block.count; seconds = e.seconds + b.block.count * b.block.since } in
    let more = before_more bs at b.section d e r l refl is refl refl in
    let few : r.customers ≤ 100000 = omega (arith, more.customers, few_before b.section bs (at + 1), h.few) in
    let small : r.seconds < 2 ^ 128 = omega (arith, more.seconds, small_before b.section bs (at + 1) h) in
    (few, small)

-- the next sums put in their place
pub put_next : (bs : List SectionBlock) (ss : List Before) (at : ℕ) (s : Before) → length ss ≡ length bs → at < length bs → ((k : ℕ) → k < at → k < length bs → IsBeforeAt bs ss k) → ((d : SectionBlock) → IsBefore (get_or bs at d).section (take at bs) s) → (k : ℕ) → k < at + 1 → k < length bs → IsBeforeAt bs (set ss at s) k
put_next bs ss at s n l front here k m o d e =
    elim (cases_lt k at) [
      | inl lt ↦ let ne : k ≢ at = λ q. omega (arith, q, lt) in rw (get_or-set_other ss at k s e ne) (front k lt o d e)
      | inr ge ↦ let q : k ≡ at = omega arith in rw (q, get_or-set_same ss at s e (omega arith)) (here d)
    ]

pub kept_later : (bs : List SectionBlock) (ss : List Before) (at k : ℕ) (s : Before) → at < k → IsBeforeAt bs ss k → IsBeforeAt bs (set ss at s) k
kept_later bs ss at k s l h d e = let ne : k ≢ at = λ q. omega (arith, q, l) in rw (get_or-set_other ss at k s e ne) (h d e)

earlier_section : (m s a x : ℕ) → (nat_lt m s || m == s && nat_lt a x) ≡ true → m ≤ s
earlier_section m s a x h = grind (arith, nat_tests)

abbrev no_block : SectionBlock
no_block = record { section = 0; block = record { since = 0; until = None; count = 0 } }

-- what has passed since the blocks of a section began
abbrev pub own_passed : ℕ → ℕ → SectionBlock → ℕ
own_passed s x b = b.block.count * since_start s x b.section b.block.since b.block.until

split : (n a x : ℕ) → a ≤ x → n * (x - a) + n * a ≡ n * x
split zero a x l = omega arith
split (suc n) a x l =
    let rest = split n a x l in
    let e : suc n * (x - a) ≡ n * (x - a) + (x - a) = omega arith in
    let f : suc n * a ≡ n * a + a = omega arith in
    let g : suc n * x ≡ n * x + x = omega arith in
    omega (arith, rest, e, f, g)

begun_since : (m s a x : ℕ) → (nat_lt m s || m == s && nat_lt a x) ≡ true → m ≡ s → a ≤ x
begun_since m s a x h e = grind (arith, nat_tests)

not_begun : (m s a x : ℕ) → (nat_lt m s || m == s && nat_lt a x) ≡ false → m ≡ s → x ≤ a
not_begun m s a x h e = grind (arith, nat_tests)

is_same : (m n : ℕ) → (m == n) ≡ true → m ≡ n
is_same m n h = grind (arith, nat_tests)

zero_times : (x : ℕ) → 0 * x ≡ 0
zero_times x = omega arith

one_passed : (b : SectionBlock) (s x : ℕ) → begins_before s x b ≡ true → own_passed s x b + own_seconds s b ≡ own_customers s b * x
one_passed b s x h =
    elim (cases_Bool (b.section == s)) [
      | inl y ↦ rw y (split b.block.count b.block.since x (begun_since b.section s b.block.since x h (is_same b.section s y)))
      | inr n ↦ rw n (omega (arith, zero_times x))
    ]

more_times : (a b x : ℕ) → (a + b) * x ≡ a * x + b * x
more_times a b x = omega arith

pub passed_front : (bs : List SectionBlock) (s x n : ℕ) → n ≤ length bs → AllWithin (λ b. begins_before s x b ≡ true) bs 0 n → sum_by (own_passed s x) (take n bs) + sum_by (own_seconds s) (take n bs) ≡ sum_by (own_customers s) (take n bs) * x
passed_front bs s x zero l h = sym (zero_times x)
passed_front bs s x (suc n) l h =
    let rest = passed_front bs s x n (omega arith) (λ k d lo hi. h k d lo (omega arith)) in
    let b = get_or bs n no_block in
    let one = one_passed b s x (h n no_block (omega arith) (omega arith)) in
    let e : suc n ≡ n + 1 = omega arith in
    let a = sum_by_more (own_passed s x) bs n no_block (omega arith) in
    let c = sum_by_more (own_seconds s) bs n no_block (omega arith) in
    let d = sum_by_more (own_customers s) bs n no_block (omega arith) in
    let m = more_times (sum_by (own_customers s) (take n bs)) (own_customers s b) x in
    rw (e, d) (omega (arith, rest, one, a, c, m))

none_passed : (b : SectionBlock) (s x : ℕ) → begins_before s x b ≡ false → own_passed s x b ≡ 0
none_passed b s x h =
    elim (cases_Bool (b.section == s)) [
      | inl y ↦ rw y (let z : x - b.block.since ≡ 0 = omega (arith, not_begun b.section s b.block.since x h (is_same b.section s y)) in rw z (omega arith))
      | inr n ↦ rw n (omega arith)
    ]

-- the whole is what the customers before the place make, less their first seconds
pub passed_is : (bs : List SectionBlock) (s x n : ℕ) → n ≤ length bs → AllWithin (λ b. begins_before s x b ≡ true) bs 0 n → AllWithin (λ b. begins_before s x b ≡ false) bs n (length bs) → sum_of (since_start s x) bs + sum_by (own_seconds s) (take n bs) ≡ sum_by (own_customers s) (take n bs) * x
passed_is bs s x n l below above =
    let front = passed_front bs s x n l below in
    let rest = none_rest (own_passed s x) bs n (λ k d lo hi. none_passed (get_or bs k d) s x (above k d lo hi)) in
    let all : sum_by (own_passed s x) (take n bs) + sum_by (own_passed s x) (drop n bs) ≡ sum_of (since_start s x) bs = sum_by-take-drop (own_passed s x) bs n in
    omega (arith, front, rest, all)

-- where the last block before the place is of another section, none of the section is there
pub none_of_section : (bs : List SectionBlock) (s x n : ℕ) (d : SectionBlock) → AreServices bs → 0 < n → n ≤ length bs → AllWithin (λ b. begins_before s x b ≡ true) bs 0 n → (get_or bs (n - 1) d).section ≢ s → AllWithin (λ b. b.section ≢ s) bs 0 n
none_of_section bs s x n d h p l below ne k e lo hi q =
    let last = get_or bs (n - 1) e in
    let own = ap (λ (b : SectionBlock). b.section) (get_or_default bs (n - 1) d e (omega arith)) in
    let less = earlier_section last.section s last.block.since x (below (n - 1) e (omega arith) (omega arith)) in
    let rise = sections_rise bs h.ordered k (n - 1) e (omega arith) (omega arith) in
    ne (omega (arith, own, less, rise, q))

-- the blocks from the first of a section up to the first of a later one
pub sum_of_part : (w : SectionBlock → ℕ) (bs : List SectionBlock) (first end : ℕ) → first ≤ end → end ≤ length bs → AllWithin (λ b. w b ≡ 0) bs 0 first → AllWithin (λ b. w b ≡ 0) bs end (length bs) → sum_by w (take (end - first) (drop first bs)) ≡ sum_by w bs
sum_of_part w bs first end l m below above =
    let front = none_front w bs first (omega arith) below in
    let e : first + (end - first) ≡ end = omega arith in
    let rest = none_rest w bs end above in
    let behind = ap (λ (cs : List SectionBlock). sum_by w cs) (drop-drop (end - first) first bs) in
    let moved = ap (λ (k : ℕ). sum_by w (drop k bs)) e in
    omega (arith, front, rest, behind, moved, sum_by-take-drop w bs first, sum_by-take-drop w (drop first bs) (end - first))

pub part_at : {X : Type 0} (xs : List X) (first n k : ℕ) (d : X) → k < n → get_or (take n (drop first xs)) k d ≡ get_or xs (first + k) d
part_at {X} xs first n k d l = get_or-take n (drop first xs) k d l ∙ get_or-drop first xs k d

pub part_len : {X : Type 0} (xs : List X) (first end : ℕ) → first ≤ end → end ≤ length xs → length (take (end - first) (drop first xs)) ≡ end - first
part_len {X} xs first end l m = length-take-le (end - first) (drop first xs) (omega (arith, length-drop first xs))

-- on blocks of the section its numbers are those of the services alone
pub section_sum : (f : ℕ → Option ℕ → ℕ) (s : ℕ) (bs : List SectionBlock) → All (λ b. b.section ≡ s) bs → sum_over_blocks f (map (λ (b : SectionBlock). b.block) bs) ≡ sum_of (λ t since until. cond (t == s) (f since until) 0) bs
section_sum f s [] h = refl
section_sum f s (b ∷ bs) h =
    let rest = section_sum f s bs (All-tail (λ (a : SectionBlock). a.section ≡ s) b bs h) in
    let one : b.block.count * cond (b.section == s) (f b.block.since b.block.until) 0 ≡ b.block.count * f b.block.since b.block.until = rw (same b.section s (h 0 b (omega arith))) refl in
    let left = sum_by-cons (λ (a : Block). a.count * f a.since a.until) b.block (map (λ (a : SectionBlock). a.block) bs) in
    let right = sum_by-cons (λ (a : SectionBlock). a.block.count * cond (a.section == s) (f a.block.since a.block.until) 0) b bs in
    omega (arith, rest, one, left, right)

pub other_section : (b : SectionBlock) (s : ℕ) (f : ℕ → Option ℕ → ℕ) → b.section ≢ s → b.block.count * cond (b.section == s) (f b.block.since b.block.until) 0 ≡ 0
other_section b s f ne = rw (apart b.section s ne) (omega arith)
