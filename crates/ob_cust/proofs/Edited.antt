-- Blocks where one has another count, one is put in or one is taken out, and the sums that stay right.
use Rattle.std.proofs.Common.{◌≡◌, ◌≢◌, ℕ, ◌+◌, ◌-◌, ◌*◌, ◌^◌, ◌<◌, ◌≤◌, List, [], ◌∷◌, ◌++◌, Option, None, length, take, drop, get_or, set, zero, suc, refl, sym, subst, ap, ◌∙◌, arith, inl, inr}
use Rattle.std.specs.List.{AllPairs, AllWithin, sum_by, insert, remove}
use Rattle.std.specs.Ordering.{ordering_reverse}
use Rattle.std.specs.declared.cmp.Ordering.TheVariants.{Less, Greater}
use Rattle.std.proofs.lemmas.Bool.{cases_lt, cases_eq}
use Rattle.std.proofs.lemmas.List.{length-take-le, get_or-take, length-set, get_or-set_same, get_or-set_other, get_or_default, take-append-le, take-take, take-set-le}
use Rattle.std.proofs.Math.Seq.{take-set-lt}
use Rattle.std.proofs.lemmas.List.Edits.{length-insert, length-remove, get_or-insert_below, get_or-insert_at, get_or-insert_above, get_or-remove_below, get_or-remove_above}
use Rattle.std.proofs.lemmas.List.Elements.{All-take, All-drop, All-append, All-cons, All-set}
use Rattle.std.proofs.lemmas.List.Quantifiers.{all_pairs_remove}
use Rattle.std.proofs.lemmas.List.Sums.{sum_by-cons, sum_by-set, sum_by-insert, sum_by-remove}
use Rattle.ob_cust.specs.declared.SectionBlock.{SectionBlock}
use Rattle.ob_cust.specs.declared.services.Before.{Before}
use Rattle.ob_cust.specs.Services.{key, key_cmp, own_customers, own_seconds, customers_of, IsBeforeAt, AreServices, IsServices}
use Rattle.ob_cust.proofs.Keyed.{keys_total, sections_rise}
use Rattle.ob_cust.proofs.Running.{apart}

-- a list up to a place that is not behind the edit
pub front_kept : {X : Type 0} (xs zs : List X) (k at : ℕ) → k ≤ at → at ≤ length xs → take k (take at xs ++ zs) ≡ take k xs
front_kept {X} xs zs k at l m = take-append-le k (take at xs) zs (omega (arith, length-take-le at xs m)) ∙ take-take k at xs l

-- sums up to a place behind the edit
pub sum_of_set : {X : Type 0} (w : X → ℕ) (xs : List X) (at k : ℕ) (y d : X) → at < k → k ≤ length xs → w y ≡ 0 → w (get_or xs at d) ≡ 0 → sum_by w (take k (set xs at y)) ≡ sum_by w (take k xs)
sum_of_set {X} w xs at k y d l m new old =
    let n = length-take-le k xs m in
    let moved = ap (λ (ys : List X). sum_by w ys) (take-set-lt k xs at y l) in
    let one = sum_by-set w (take k xs) at y d (omega arith) in
    let there = ap w (get_or-take k xs at d l) in
    omega (arith, moved, one, there, new, old)

pub sum_of_insert : {X : Type 0} (w : X → ℕ) (xs : List X) (at k : ℕ) (y : X) → at ≤ k → sum_by w (take (suc k) (insert xs at y)) ≡ sum_by w (take k xs) + w y
sum_of_insert {X} w xs zero k y l = sum_by-cons w y (take k xs) ∙ omega arith
sum_of_insert {X} w [] (suc at) zero y l = absurd (omega arith)
sum_of_insert {X} w [] (suc at) (suc k) y l = omega arith
sum_of_insert {X} w (x ∷ xs) (suc at) zero y l = absurd (omega arith)
sum_of_insert {X} w (x ∷ xs) (suc at) (suc k) y l =
    omega (arith, sum_by-cons w x (take (suc k) (insert xs at y)), sum_by-cons w x (take k xs), sum_of_insert w xs at k y (omega arith))

pub sum_of_remove : {X : Type 0} (w : X → ℕ) (xs : List X) (at k : ℕ) (d : X) → at ≤ k → at < length xs → sum_by w (take k (remove xs at)) + w (get_or xs at d) ≡ sum_by w (take (suc k) xs)
sum_of_remove {X} w [] at k d l m = absurd (omega arith)
sum_of_remove {X} w (x ∷ xs) zero k d l m = omega (arith, sum_by-cons w x (take k xs))
sum_of_remove {X} w (x ∷ xs) (suc at) zero d l m = absurd (omega arith)
sum_of_remove {X} w (x ∷ xs) (suc at) (suc k) d l m =
    omega (arith, sum_by-cons w x (take k (remove xs at)), sum_by-cons w x (take (suc k) xs), sum_of_remove w xs at k d (omega arith) (omega arith))

-- a block of another section has no part in a section's sums
pub no_part : (b : SectionBlock) (s : ℕ) → b.section ≢ s → (own_customers s b ≡ 0) × (own_seconds s b ≡ 0)
no_part b s ne = let e = apart b.section s ne in (rw e refl, rw e refl)

-- another count

pub same_keys : (bs : List SectionBlock) (at k : ℕ) (b d e : SectionBlock) → at < length bs → key b ≡ key (get_or bs at d) → key (get_or (set bs at b) k e) ≡ key (get_or bs k e)
same_keys bs at k b d e l is =
    elim (cases_eq k at) [
      | inl q ↦ rw (q, get_or-set_same bs at b e l) (is ∙ ap key (get_or_default bs at d e l))
      | inr ne ↦ rw (get_or-set_other bs at k b e ne) refl
    ]

pub set_services : (bs : List SectionBlock) (at : ℕ) (b d : SectionBlock) → AreServices bs → at < length bs → key b ≡ key (get_or bs at d) → 0 < b.block.count → b.block.since < 2 ^ 64 → customers_of bs + b.block.count ≤ 100000 + (get_or bs at d).block.count → AreServices (set bs at b)
set_services bs at b d h l is p m few = record {
  ordered = λ i j e lt le. subst (λ (q : ℕ × (ℕ × Option ℕ)). key_cmp q (key (get_or (set bs at b) j e)) ≡ Less) (sym (same_keys bs at i b d e l is))
      (subst (λ (q : ℕ × (ℕ × Option ℕ)). key_cmp (key (get_or bs i e)) q ≡ Less) (sym (same_keys bs at j b d e l is)) (h.ordered i j e lt (omega (arith, length-set bs at b))));
  positive = All-set (λ (a : SectionBlock). 0 < a.block.count) bs at b p h.positive;
  small = All-set (λ (a : SectionBlock). a.block.since < 2 ^ 64) bs at b m h.small;
  few = omega (arith, sum_by-set (λ (a : SectionBlock). a.block.count * 1) bs at b d l, few);
}

pub set_front : (bs : List SectionBlock) (ss : List Before) (at : ℕ) (b d : SectionBlock) → IsServices bs ss → at < length bs → (k : ℕ) → k < at → IsBeforeAt (set bs at b) ss k
set_front bs ss at b d h l k m e f =
    let ne : k ≢ at = λ q. omega (arith, q, m) in
    rw (get_or-set_other bs at k b e ne, take-set-le k bs at b (omega arith)) (h.sums k (omega arith) e f)

pub set_later : (bs : List SectionBlock) (ss : List Before) (at : ℕ) (b d : SectionBlock) → IsServices bs ss → at < length bs → b.section ≡ (get_or bs at d).section → (k : ℕ) (e : SectionBlock) → at ≤ k → k < length bs → b.section < (get_or (set bs at b) k e).section → IsBeforeAt (set bs at b) ss k
set_later bs ss at b d h l is k e m n later f g =
    let here = ap (λ (a : SectionBlock). a.section) (get_or_default (set bs at b) k e f (omega (arith, length-set bs at b))) in
    elim (cases_eq k at) [
      | inl q ↦ absurd (let own = ap (λ (a : SectionBlock). a.section) (ap (λ (j : ℕ). get_or (set bs at b) j e) q ∙ get_or-set_same bs at b e l) in omega arith)
      | inr ne ↦
          let there = ap (λ (a : SectionBlock). a.section) (get_or-set_other bs at k b f ne) in
          let s = (get_or bs k f).section in
          let new = no_part b s (λ q. omega arith) in
          let old = no_part (get_or bs at d) s (λ q. omega arith) in
          let was = h.sums k n f g in
          rw (get_or-set_other bs at k b f ne) (record {
            customers = was.customers ∙ sym (sum_of_set (own_customers s) bs at k b d (omega arith) (omega arith) new.0 old.0);
            seconds = was.seconds ∙ sym (sum_of_set (own_seconds s) bs at k b d (omega arith) (omega arith) new.1 old.1);
          })
    ]

pub set_from : (bs : List SectionBlock) (at : ℕ) (b d : SectionBlock) → AreServices bs → at < length bs → b.section ≡ (get_or bs at d).section → AllWithin (λ a. b.section ≤ a.section) (set bs at b) at (length bs)
set_from bs at b d h l is k e m n =
    elim (cases_eq k at) [
      | inl q ↦ rw (q, get_or-set_same bs at b e l) (omega arith)
      | inr ne ↦
          let own = ap (λ (a : SectionBlock). a.section) (get_or_default bs at d e l) in
          rw (get_or-set_other bs at k b e ne) (omega (arith, sections_rise bs h.ordered at k e m n))
    ]

-- one block more

pub between_pairs : {X : Type 0} (R : X → X → Type 0) (xs : List X) (at : ℕ) (y : X) → at ≤ length xs → AllPairs R xs → AllWithin (λ x. R x y) xs 0 at → AllWithin (λ x. R y x) xs at (length xs) → AllPairs R (insert xs at y)
between_pairs {X} R xs at y l h below above i j d m n =
    let len = length-insert xs at y l in
    elim (cases_lt j at) [
      | inl lt ↦ rw (get_or-insert_below xs at y d i (omega arith) l, get_or-insert_below xs at y d j lt l) (h i j d m (omega arith))
      | inr ge ↦
          elim (cases_eq j at) [
            | inl q ↦ rw (q, get_or-insert_below xs at y d i (omega arith) l, get_or-insert_at xs at y d l) (below i d (omega arith) (omega arith))
            | inr ne ↦
                let e : j ≡ (j - 1) + 1 = omega arith in
                let second : get_or (insert xs at y) j d ≡ get_or xs (j - 1) d = ap (λ (k : ℕ). get_or (insert xs at y) k d) e ∙ get_or-insert_above xs at y d (j - 1) (omega arith) l in
                elim (cases_lt i at) [
                  | inl lt ↦ rw (second, get_or-insert_below xs at y d i lt l) (h i (j - 1) d (omega arith) (omega arith))
                  | inr up ↦
                      elim (cases_eq i at) [
                        | inl q ↦ rw (second, q, get_or-insert_at xs at y d l) (above (j - 1) d (omega arith) (omega arith))
                        | inr other ↦
                            let f : i ≡ (i - 1) + 1 = omega arith in
                            let first : get_or (insert xs at y) i d ≡ get_or xs (i - 1) d = ap (λ (k : ℕ). get_or (insert xs at y) k d) f ∙ get_or-insert_above xs at y d (i - 1) (omega arith) l in
                            rw (second, first) (h (i - 1) (j - 1) d (omega arith) (omega arith))
                      ]
                ]
          ]
    ]

reversed : (q r : ℕ × (ℕ × Option ℕ)) → key_cmp q r ≡ Greater → key_cmp r q ≡ Less
reversed q r h = keys_total.antisymm r q ∙ ap ordering_reverse h

pub inserted_services : (bs : List SectionBlock) (at : ℕ) (b : SectionBlock) → AreServices bs → at ≤ length bs → AllWithin (λ a. key_cmp (key a) (key b) ≡ Less) bs 0 at → AllWithin (λ a. key_cmp (key a) (key b) ≡ Greater) bs at (length bs) → 0 < b.block.count → b.block.since < 2 ^ 64 → customers_of bs + b.block.count ≤ 100000 → AreServices (insert bs at b)
inserted_services bs at b h l below above p m few = record {
  ordered = between_pairs (λ (c : SectionBlock) (d : SectionBlock). key_cmp (key c) (key d) ≡ Less) bs at b l h.ordered below (λ k d lo hi. reversed (key (get_or bs k d)) (key b) (above k d lo hi));
  positive = All-append (λ (a : SectionBlock). 0 < a.block.count) (take at bs) (b ∷ drop at bs) (All-take (λ (a : SectionBlock). 0 < a.block.count) at bs h.positive) (All-cons (λ (a : SectionBlock). 0 < a.block.count) b (drop at bs) p (All-drop (λ (a : SectionBlock). 0 < a.block.count) at bs h.positive));
  small = All-append (λ (a : SectionBlock). a.block.since < 2 ^ 64) (take at bs) (b ∷ drop at bs) (All-take (λ (a : SectionBlock). a.block.since < 2 ^ 64) at bs h.small) (All-cons (λ (a : SectionBlock). a.block.since < 2 ^ 64) b (drop at bs) m (All-drop (λ (a : SectionBlock). a.block.since < 2 ^ 64) at bs h.small));
  few = omega (arith, sum_by-insert (λ (a : SectionBlock). a.block.count * 1) bs at b, few);
}

pub inserted_front : (bs : List SectionBlock) (ss : List Before) (at : ℕ) (b : SectionBlock) (s : Before) → IsServices bs ss → at ≤ length bs → (k : ℕ) → k < at → IsBeforeAt (insert bs at b) (insert ss at s) k
inserted_front bs ss at b s h l k m d e =
    rw (get_or-insert_below bs at b d k m l, get_or-insert_below ss at s e k m (omega (arith, h.len)), front_kept bs (b ∷ drop at bs) k at (omega arith) l) (h.sums k (omega arith) d e)

pub inserted_later : (bs : List SectionBlock) (ss : List Before) (at : ℕ) (b : SectionBlock) (s : Before) → IsServices bs ss → at ≤ length bs → (k : ℕ) (d : SectionBlock) → at ≤ k → k < length (insert bs at b) → b.section < (get_or (insert bs at b) k d).section → IsBeforeAt (insert bs at b) (insert ss at s) k
inserted_later bs ss at b s h l k d m n later e f =
    let len = length-insert bs at b l in
    let here = ap (λ (a : SectionBlock). a.section) (get_or_default (insert bs at b) k d e n) in
    elim (cases_eq k at) [
      | inl q ↦ absurd (let own = ap (λ (a : SectionBlock). a.section) (ap (λ (j : ℕ). get_or (insert bs at b) j d) q ∙ get_or-insert_at bs at b d l) in omega arith)
      | inr ne ↦
          let g : k ≡ suc (k - 1) = omega arith in
          let g' : k ≡ (k - 1) + 1 = omega arith in
          let moved : get_or (insert bs at b) k e ≡ get_or bs (k - 1) e = ap (λ (j : ℕ). get_or (insert bs at b) j e) g' ∙ get_or-insert_above bs at b e (k - 1) (omega arith) l in
          let beside : get_or (insert ss at s) k f ≡ get_or ss (k - 1) f = ap (λ (j : ℕ). get_or (insert ss at s) j f) g' ∙ get_or-insert_above ss at s f (k - 1) (omega arith) (omega (arith, h.len)) in
          let t = (get_or bs (k - 1) e).section in
          let there = ap (λ (a : SectionBlock). a.section) moved in
          let new = no_part b t (λ q. omega arith) in
          let was = h.sums (k - 1) (omega arith) e f in
          let one = ap (λ (j : ℕ). sum_by (own_customers t) (take j (insert bs at b))) g ∙ sum_of_insert (own_customers t) bs at (k - 1) b (omega arith) in
          let two = ap (λ (j : ℕ). sum_by (own_seconds t) (take j (insert bs at b))) g ∙ sum_of_insert (own_seconds t) bs at (k - 1) b (omega arith) in
          rw (moved, beside) (record {
            customers = omega (arith, was.customers, one, new.0);
            seconds = omega (arith, was.seconds, two, new.1);
          })
    ]

-- one block less

abbrev no_block : SectionBlock
no_block = record { section = 0; block = record { since = 0; until = None; count = 0 } }

pub removed_services : (bs : List SectionBlock) (at : ℕ) → AreServices bs → at < length bs → AreServices (remove bs at)
removed_services bs at h l = record {
  ordered = all_pairs_remove (λ (c : SectionBlock) (d : SectionBlock). key_cmp (key c) (key d) ≡ Less) bs at l h.ordered;
  positive = All-append (λ (a : SectionBlock). 0 < a.block.count) (take at bs) (drop (suc at) bs) (All-take (λ (a : SectionBlock). 0 < a.block.count) at bs h.positive) (All-drop (λ (a : SectionBlock). 0 < a.block.count) (suc at) bs h.positive);
  small = All-append (λ (a : SectionBlock). a.block.since < 2 ^ 64) (take at bs) (drop (suc at) bs) (All-take (λ (a : SectionBlock). a.block.since < 2 ^ 64) at bs h.small) (All-drop (λ (a : SectionBlock). a.block.since < 2 ^ 64) (suc at) bs h.small);
  few = omega (arith, sum_by-remove (λ (a : SectionBlock). a.block.count * 1) bs at no_block l, h.few);
}

pub removed_front : (bs : List SectionBlock) (ss : List Before) (at : ℕ) → IsServices bs ss → at < length bs → (k : ℕ) → k < at → IsBeforeAt (remove bs at) (remove ss at) k
removed_front bs ss at h l k m d e =
    rw (get_or-remove_below bs at d k m l, get_or-remove_below ss at e k m (omega (arith, h.len)), front_kept bs (drop (suc at) bs) k at (omega arith) (omega arith)) (h.sums k (omega arith) d e)

pub removed_later : (bs : List SectionBlock) (ss : List Before) (at : ℕ) (b : SectionBlock) → IsServices bs ss → at < length bs → b ≡ get_or bs at b → (k : ℕ) (d : SectionBlock) → at ≤ k → k < length (remove bs at) → b.section < (get_or (remove bs at) k d).section → IsBeforeAt (remove bs at) (remove ss at) k
removed_later bs ss at b h l is k d m n later e f =
    let len = length-remove bs at l in
    let here = ap (λ (a : SectionBlock). a.section) (get_or_default (remove bs at) k d e n) in
    let moved = get_or-remove_above bs at e k m l in
    let beside = get_or-remove_above ss at f k m (omega (arith, h.len)) in
    let t = (get_or bs (k + 1) e).section in
    let there = ap (λ (a : SectionBlock). a.section) moved in
    let g : k + 1 ≡ suc k = omega arith in
    let old = no_part b t (λ q. omega arith) in
    let was = h.sums (k + 1) (omega arith) e f in
    let one = ap (λ (j : ℕ). sum_by (own_customers t) (take j bs)) g ∙ sym (sum_of_remove (own_customers t) bs at k b m l) in
    let two = ap (λ (j : ℕ). sum_by (own_seconds t) (take j bs)) g ∙ sym (sum_of_remove (own_seconds t) bs at k b m l) in
    rw (moved, beside) (record {
      customers = omega (arith, was.customers, one, old.0, ap (own_customers t) is);
      seconds = omega (arith, was.seconds, two, old.1, ap (own_seconds t) is);
    })

pub removed_from : (bs : List SectionBlock) (at : ℕ) (b : SectionBlock) → AreServices bs → at < length bs → b ≡ get_or bs at b → AllWithin (λ a. b.section ≤ a.section) (remove bs at) at (length (remove bs at))
removed_from bs at b h l is k d m n =
    let len = length-remove bs at l in
    let own = ap (λ (a : SectionBlock). a.section) (is ∙ get_or_default bs at b d l) in
    rw (get_or-remove_above bs at d k m l) (omega (arith, own, sections_rise bs h.ordered at (k + 1) d (omega arith) (omega arith)))
