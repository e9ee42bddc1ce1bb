-- What is known of blocks from their sums: how many they are at most, and that one with a service is among them.
use Rattle.std.proofs.Common.{◌≡◌, ◌≢◌, ℕ, ◌+◌, ◌-◌, ◌*◌, ◌<◌, ◌≤◌, ◌==◌, ◌&&◌, true, List, [], ◌∷◌, Option, length, get_or, zero, suc, cond, refl, sym, ap, ◌∙◌, arith, inl, inr}
use Rattle.std.specs.List.{All, AllWithin}
use Rattle.std.specs.Ordering.{is_eq}
use Rattle.std.specs.declared.cmp.Ordering.{Ordering}
use Rattle.std.specs.declared.cmp.Ordering.TheVariants.{Less, Equal, Greater}
use Rattle.std.proofs.lemmas.Bool.{cases_Bool, cases_lt, and_parts, false≢true}
use Rattle.std.proofs.lemmas.Bool.Decides.{nat_tests}
use Rattle.std.proofs.lemmas.Cmp.{tied_itself}
use Rattle.std.proofs.lemmas.List.Elements.{All-tail}
use Rattle.std.proofs.lemmas.List.Sums.{sum_by-cons}
use Rattle.ob_cust.specs.declared.SectionBlock.{SectionBlock}
use Rattle.ob_cust.specs.Services.{key, key_cmp, customers_of, sum_of}
use Rattle.ob_cust.proofs.Keyed.{keys_total}
use Rattle.ob_cust.proofs.Order.{is_same, same_test, same_from_test}
use Rattle.ob_cust.proofs.Running.{none, same}

-- no more blocks than customers
pub fewer_blocks : (bs : List SectionBlock) → All (λ b. 0 < b.block.count) bs → length bs ≤ customers_of bs
fewer_blocks [] h = omega arith
fewer_blocks (b ∷ bs) h =
    let rest = fewer_blocks bs (All-tail (λ (a : SectionBlock). 0 < a.block.count) b bs h) in
    omega (arith, sum_by-cons (λ (a : SectionBlock). a.block.count * 1) b bs, rest, h 0 b (omega arith))

-- one for each of a service of a section
abbrev pub one_at : ℕ × (ℕ × Option ℕ) → ℕ → ℕ → Option ℕ → ℕ
one_at q section since until = cond (section == q.0 && is_same (since, until) q.1) 1 0

pub one_there : (section since : ℕ) (until : Option ℕ) → one_at (section, (since, until)) section since until ≡ 1
one_there section since until = rw (same section section refl, same_test (since, until)) refl

number_is : (m n : ℕ) → (m == n) ≡ true → m ≡ n
number_is m n h = grind (arith, nat_tests)

same_pair : (m n : ℕ) (s t : ℕ × Option ℕ) → m ≡ n → s.0 ≡ t.0 → s.1 ≡ t.1 → key_cmp (m, s) (n, t) ≡ Equal
same_pair m n (a, p) (b, q) e f g = rw (e, f, g) (tied_itself keys_total (n, (b, q)))

pub not_there : (b : SectionBlock) (q : ℕ × (ℕ × Option ℕ)) → key_cmp (key b) q ≢ Equal → b.block.count * one_at q b.section b.block.since b.block.until ≡ 0
not_there b (m, t) ne =
    elim (cases_Bool (b.section == m && is_same (b.block.since, b.block.until) t)) [
      | inl y ↦ absurd (
          let both = and_parts (b.section == m) (is_same (b.block.since, b.block.until) t) y in
          let own = same_from_test (b.block.since, b.block.until) t both.1 in
          ne (same_pair b.section m (b.block.since, b.block.until) t (number_is b.section m both.0) own.0 own.1))
      | inr n ↦ rw n (omega arith)
    ]

not_less : (o : Ordering) → o ≡ Less → o ≢ Equal
not_less o l e = false≢true (ap is_eq (sym l ∙ e))

not_greater : (o : Ordering) → o ≡ Greater → o ≢ Equal
not_greater o l e = false≢true (ap is_eq (sym l ∙ e))

pub none_at : (bs : List SectionBlock) (p : ℕ) (q : ℕ × (ℕ × Option ℕ)) → AllWithin (λ b. key_cmp (key b) q ≡ Less) bs 0 p → AllWithin (λ b. key_cmp (key b) q ≡ Greater) bs p (length bs) → sum_of (one_at q) bs ≡ 0
none_at bs p q below above =
    none (λ (b : SectionBlock). b.block.count * one_at q b.section b.block.since b.block.until) bs (λ k d l. elim (cases_lt k p) [
      | inl lt ↦ not_there (get_or bs k d) q (not_less _ (below k d (omega arith) lt))
      | inr ge ↦ not_there (get_or bs k d) q (not_greater _ (above k d ge l))
    ])

-- one customer less of a block
pub one_less : (n x new old : ℕ) → 0 < n → new + n * x ≡ old + (n - 1) * x → new + x ≡ old
one_less zero x new old l h = absurd (omega arith)
one_less (suc n) x new old l h =
    let e : suc n - 1 ≡ n = omega arith in
    let m : suc n * x ≡ n * x + x = omega arith in
    let g = rw e at h in
    omega (arith, g, m)
