-- The runs from one second up to another, out of the runs that touch these seconds.
use Rattle.std.proofs.Common.{◌≡◌, ℕ, suc, ◌&&◌, ◌<◌, ◌≤◌, ◌-◌, nat_lt, max, min, cond, List, [], ◌∷◌, ◌++◌, refl, sym, ◌∙◌, ap, arith, inl, inr, map, take, drop}
use Rattle.std.specs.List.{All, AllByRecursion, AllPairs}
use Rattle.std.proofs.lemmas.Bool.{and_from, and_left, and_right, cases_lt, cond-false, cond-true, le-ltb, lt-ltb}
use Rattle.std.proofs.lemmas.List.Elements.{recursion_from_All}
use Rattle.ob_sweep.specs.declared.Run.{Run}
use Rattle.ob_sweep.specs.Splice.{back, front}
use Rattle.ob_sweep.specs.Tracks.{cut_to}
use Rattle.ob_sweep.proofs.Local.{left, right, whole}

-- each run has some second, and ends before those behind it begin
abbrev Rise : List Run → Type 0
Rise [] = Unit {0}
Rise (r ∷ rs) = (r.since < r.until) × AllByRecursion (λ s. r.until < s.since) rs × Rise rs

they_rise : (rs : List Run) → All (λ r. r.since < r.until) rs → AllPairs (λ r s. r.until < s.since) rs → Rise rs
they_rise [] some rising = tt
they_rise (r ∷ rs) some rising = (
  some 0 r (omega arith),
  recursion_from_All (λ s. r.until < s.since) rs (λ k d l. rising 0 (suc k) d (omega arith) (omega arith)),
  they_rise rs (λ k d l. some (suc k) d (omega arith)) (λ i j d l m. rising (suc i) (suc j) d (omega arith) (omega arith)),
)

each : (P Q : Run → Type 0) (rs : List Run) → ((r : Run) → P r → Q r) → AllByRecursion P rs → AllByRecursion Q rs
each P Q [] f h = tt
each P Q (r ∷ rs) f h = (f r h.0, each P Q rs f h.1)

module _ (v a b : ℕ) where
  abbrev of_it : Run → Run
  of_it r = record r { section = v }

  abbrev cut : Run → Run
  cut r = record { section = v; since = max r.since a; until = min r.until b; cutter = r.cutter }

  -- a run that lies in the seconds, and one that doesn't
  one_in : (r : Run) (rs : List Run) → a < r.until → r.since < b → cut_to v a b (r ∷ rs) ≡ cut r ∷ cut_to v a b rs
  one_in r rs l m = cond-true (nat_lt a r.until && nat_lt r.since b) (cut r ∷ cut_to v a b rs) (cut_to v a b rs) (and_from (nat_lt a r.until) (nat_lt r.since b) (lt-ltb a r.until l) (lt-ltb r.since b m))

  one_before : (r : Run) (rs : List Run) → r.until ≤ a → cut_to v a b (r ∷ rs) ≡ cut_to v a b rs
  one_before r rs l = cond-false (nat_lt a r.until && nat_lt r.since b) (cut r ∷ cut_to v a b rs) (cut_to v a b rs) (and_left (nat_lt a r.until) (nat_lt r.since b) (le-ltb a r.until l))

  one_after : (r : Run) (rs : List Run) → b ≤ r.since → cut_to v a b (r ∷ rs) ≡ cut_to v a b rs
  one_after r rs l = cond-false (nat_lt a r.until && nat_lt r.since b) (cut r ∷ cut_to v a b rs) (cut_to v a b rs) (and_right (nat_lt a r.until) (nat_lt r.since b) (le-ltb r.since b l))

  all_after : (rs : List Run) → AllByRecursion (λ r. b ≤ r.since) rs → cut_to v a b rs ≡ []
  all_after [] h = refl
  all_after (r ∷ rs) h = one_after r rs h.0 ∙ all_after rs h.1

  before_left : (xs rs : List Run) → AllByRecursion (λ r. (r.since < r.until) × (r.until < a)) xs → cut_to v a b (xs ++ rs) ≡ cut_to v a b rs
  before_left [] rs h = refl
  before_left (x ∷ xs) rs h = let l : x.until < a = h.0.1 in one_before x (xs ++ rs) (omega (arith, l)) ∙ before_left xs rs h.1

  after_left : (rs zs : List Run) → AllByRecursion (λ r. (r.since < r.until) × (b < r.since)) zs → cut_to v a b (rs ++ zs) ≡ cut_to v a b rs
  after_left [] zs h = all_after zs (each (λ r. (r.since < r.until) × (b < r.since)) (λ r. b ≤ r.since) zs (λ r k. omega (arith, k.1)) h)
  after_left (r ∷ rs) zs h = ap (λ q. cond (nat_lt a r.until && nat_lt r.since b) (cut r ∷ q) q) (after_left rs zs h)

  -- the parts of the front of runs
  front_late : (r : Run) (rs : List Run) → b ≤ r.since → front b (r ∷ rs) ≡ []
  front_late r rs l = cond-false (nat_lt r.since b) (cond (nat_lt r.until b) (r ∷ front b rs) (record r { until = b } ∷ [])) [] (le-ltb r.since b l)

  front_whole : (r : Run) (rs : List Run) → r.since < b → r.until < b → front b (r ∷ rs) ≡ r ∷ front b rs
  front_whole r rs l m =
      cond-true (nat_lt r.since b) (cond (nat_lt r.until b) (r ∷ front b rs) (record r { until = b } ∷ [])) [] (lt-ltb r.since b l)
      ∙ cond-true (nat_lt r.until b) (r ∷ front b rs) (record r { until = b } ∷ []) (lt-ltb r.until b m)

  front_cut : (r : Run) (rs : List Run) → r.since < b → b ≤ r.until → front b (r ∷ rs) ≡ record r { until = b } ∷ []
  front_cut r rs l m =
      cond-true (nat_lt r.since b) (cond (nat_lt r.until b) (r ∷ front b rs) (record r { until = b } ∷ [])) [] (lt-ltb r.since b l)
      ∙ cond-false (nat_lt r.until b) (r ∷ front b rs) (record r { until = b } ∷ []) (le-ltb r.until b m)

  -- and of what lies from a second on
  back_skip : (r : Run) (rs : List Run) → r.until ≤ a → back a (r ∷ rs) ≡ back a rs
  back_skip r rs l = cond-false (nat_lt a r.until) (cond (nat_lt r.since a) (record r { since = a }) r ∷ rs) (back a rs) (le-ltb a r.until l)

  back_whole : (r : Run) (rs : List Run) → a < r.until → back a (r ∷ rs) ≡ record r { since = max r.since a } ∷ rs
  back_whole r rs l =
      cond-true (nat_lt a r.until) (cond (nat_lt r.since a) (record r { since = a }) r ∷ rs) (back a rs) (lt-ltb a r.until l)
      ∙ ap (λ q. q ∷ rs)
      (elim (cases_lt r.since a) as (λ _. cond (nat_lt r.since a) (record r { since = a }) r ≡ record r { since = max r.since a }) [
        | inl m ↦
            let e : a ≡ max r.since a = omega (arith, m) in
            cond-true (nat_lt r.since a) (record r { since = a }) r (lt-ltb r.since a m) ∙ ap (λ n. record r { since = n }) e
        | inr m ↦
            let e : r.since ≡ max r.since a = omega (arith, m) in
            cond-false (nat_lt r.since a) (record r { since = a }) r (le-ltb r.since a m) ∙ ap (λ n. record r { since = n }) e
      ])

  -- those that lie in the seconds behind a, up to b
  front_in : (rs : List Run) → Rise rs → AllByRecursion (λ r. a ≤ r.since) rs → map of_it (front b rs) ≡ cut_to v a b rs
  front_in [] h k = refl
  front_in (r ∷ rs) h k =
      let some : r.since < r.until = h.0 in
      let from : a ≤ r.since = k.0 in
      let since : r.since ≡ max r.since a = omega (arith, from) in
      elim (cases_lt r.since b) as (λ _. map of_it (front b (r ∷ rs)) ≡ cut_to v a b (r ∷ rs)) [
        | inl l ↦ elim (cases_lt r.until b) as (λ _. map of_it (front b (r ∷ rs)) ≡ cut_to v a b (r ∷ rs)) [
          | inl m ↦
              let until : r.until ≡ min r.until b = omega (arith, m) in
              ap (map of_it) (front_whole r rs l m)
              ∙ ap (λ q. of_it r ∷ q) (front_in rs h.2 k.1)
              ∙ ap (λ n. record { section = v; since = n; until = r.until; cutter = r.cutter } ∷ cut_to v a b rs) since
              ∙ ap (λ n. record { section = v; since = max r.since a; until = n; cutter = r.cutter } ∷ cut_to v a b rs) until
              ∙ sym (one_in r rs (omega (arith, some, from)) l)
          | inr m ↦
              let until : b ≡ min r.until b = omega (arith, m) in
              ap (map of_it) (front_cut r rs l m)
              ∙ ap (λ n. record { section = v; since = n; until = b; cutter = r.cutter } ∷ []) since
              ∙ ap (λ n. record { section = v; since = max r.since a; until = n; cutter = r.cutter } ∷ []) until
              ∙ ap (λ q. cut r ∷ q) (sym (all_after rs (each (λ s. r.until < s.since) (λ s. b ≤ s.since) rs (λ s p. omega (arith, p, m)) h.1)))
              ∙ sym (one_in r rs (omega (arith, some, from)) l)
        ]
        | inr l ↦
            ap (map of_it) (front_late r rs l)
            ∙ sym (all_after rs (each (λ s. r.until < s.since) (λ s. b ≤ s.since) rs (λ s p. omega (arith, p, some, l)) h.1))
            ∙ sym (one_after r rs l)
      ]

  -- those that lie in the seconds from a up to b
  all_in : (rs : List Run) → a < b → Rise rs → map of_it (back a (front b rs)) ≡ cut_to v a b rs
  all_in [] by h = refl
  all_in (r ∷ rs) by h =
      let some : r.since < r.until = h.0 in
      elim (cases_lt a r.until) as (λ _. map of_it (back a (front b (r ∷ rs))) ≡ cut_to v a b (r ∷ rs)) [
        | inl n ↦ elim (cases_lt r.since b) as (λ _. map of_it (back a (front b (r ∷ rs))) ≡ cut_to v a b (r ∷ rs)) [
          | inl l ↦ elim (cases_lt r.until b) as (λ _. map of_it (back a (front b (r ∷ rs))) ≡ cut_to v a b (r ∷ rs)) [
            | inl m ↦
                let until : r.until ≡ min r.until b = omega (arith, m) in
                ap (λ q. map of_it (back a q)) (front_whole r rs l m)
                ∙ ap (map of_it) (back_whole r (front b rs) n)
                ∙ ap (λ t. record { section = v; since = max r.since a; until = t; cutter = r.cutter } ∷ map of_it (front b rs)) until
                ∙ ap (λ q. cut r ∷ q) (front_in rs h.2 (each (λ s. r.until < s.since) (λ s. a ≤ s.since) rs (λ s p. omega (arith, p, n)) h.1))
                ∙ sym (one_in r rs n l)
            | inr m ↦
                let until : b ≡ min r.until b = omega (arith, m) in
                ap (λ q. map of_it (back a q)) (front_cut r rs l m)
                ∙ ap (map of_it) (back_whole (record r { until = b }) [] by)
                ∙ ap (λ t. record { section = v; since = max r.since a; until = t; cutter = r.cutter } ∷ []) until
                ∙ ap (λ q. cut r ∷ q) (sym (all_after rs (each (λ s. r.until < s.since) (λ s. b ≤ s.since) rs (λ s p. omega (arith, p, m)) h.1)))
                ∙ sym (one_in r rs n l)
          ]
          | inr l ↦
              ap (λ q. map of_it (back a q)) (front_late r rs l)
              ∙ sym (all_after rs (each (λ s. r.until < s.since) (λ s. b ≤ s.since) rs (λ s p. omega (arith, p, some, l)) h.1))
              ∙ sym (one_after r rs l)
        ]
        | inr n ↦
            ap (λ q. map of_it (back a q)) (front_whole r rs (omega (arith, some, n, by)) (omega (arith, n, by)))
            ∙ ap (map of_it) (back_skip r (front b rs) n)
            ∙ all_in rs by h.2
            ∙ sym (one_before r rs n)
      ]

  -- those that touch these seconds are enough
  pub touching : (old : List Run) (from to : ℕ) → All (λ r. r.since < r.until) old → AllPairs (λ r s. r.until < s.since) old → a < b → from ≤ to
      → All (λ r. r.until < a) (take from old) → All (λ r. b < r.since) (drop to old)
      → cut_to v a b (take (to - from) (drop from old)) ≡ map of_it (back a (front b old))
  touching old from to some rising less rise before after =
      let ys : List Run = take (to - from) (drop from old) in
      let by : a ≤ b = omega arith in
      sym (after_left ys (drop to old) (right old [] a b from to some by rise before after))
      ∙ sym (before_left (take from old) (ys ++ drop to old) (left old [] a b from to some by rise before after))
      ∙ ap (cut_to v a b) (sym (whole old [] a b from to some by rise before after))
      ∙ sym (all_in old less (they_rise old some rising))

-- of no seconds there are none
pub none_between : (a b : ℕ) (rs : List Run) → b ≤ a → back a (front b rs) ≡ []
none_between a b [] by = refl
none_between a b (r ∷ rs) by =
    elim (cases_lt r.since b) as (λ _. back a (front b (r ∷ rs)) ≡ []) [
      | inl l ↦ elim (cases_lt r.until b) as (λ _. back a (front b (r ∷ rs)) ≡ []) [
        | inl m ↦ ap (back a) (front_whole 0 a b r rs l m) ∙ back_skip 0 a b r (front b rs) (omega (arith, m, by)) ∙ none_between a b rs by
        | inr m ↦ ap (back a) (front_cut 0 a b r rs l m) ∙ back_skip 0 a b (record r { until = b }) [] by
      ]
      | inr l ↦ ap (back a) (front_late 0 a b r rs l)
    ]
