-- The tally of the parts of the first runs of a list that pass a test, and of one more.
use Rattle.std.proofs.Common.{◌≡◌, ℕ, ◌+◌, ◌-◌, ◌<◌, ◌≤◌, ◌&&◌, Bool, true, false, not, cond, List, length, get_or, take, sym, ◌∙◌, ap, arith}
use Rattle.std.specs.List.{filter, count_by, sum_by}
use Rattle.std.proofs.lemmas.Bool.{and_parts, ltb-true}
use Rattle.std.proofs.lemmas.List.Sums.{sum_by_more}
use Rattle.ob_base.specs.Seconds.{seconds}
use Rattle.ob_base.specs.declared.interval.Interval.{Interval}
use Rattle.ob_cust.specs.Service.{in_service}
use Rattle.ob_cust.specs.declared.Customer.{Customer}
use Rattle.ob_sweep.specs.declared.Run.{Run}
use Rattle.ob_index.specs.Interruptions.{duration}
use Rattle.ob_index.specs.Tallies.{has_second, part_in_service, parts_in_service}
use Rattle.ob_index.proofs.Kept.{kept_more, sum_of_passing}
use Rattle.ob_index.proofs.Served.{served_in, served_is, served_short}
use Rattle.ob_selections.specs.Selections.{lasts_longer}
use Rattle.ob_selections.specs.declared.figures.Tally.{Tally}

-- the parts that pass
abbrev pub passing : (Interval → Bool) → Customer → List Run → List Interval
passing passes c runs = filter passes (parts_in_service c runs)

-- the tally is that of the first n runs, and at most their seconds of service
pub record AreTallied (passes : Interval → Bool) (longest : ℕ) (c : Customer) (runs : List Run) (n : ℕ) (t : Tally) : Type 0 where
  pub sustained : t.sustained ≡ count_by (lasts_longer longest) (passing passes c (take n runs))
  pub seconds : t.seconds ≡ sum_by duration (filter (lasts_longer longest) (passing passes c (take n runs)))
  pub momentary : t.momentary ≡ count_by (λ i. not (lasts_longer longest i)) (passing passes c (take n runs))
  pub few_sustained : t.sustained ≤ sum_by (served_in c) (take n runs)
  pub few_seconds : t.seconds ≤ sum_by (served_in c) (take n runs)
  pub few_momentary : t.momentary ≤ sum_by (served_in c) (take n runs)

at_most : (b : Bool) (n : ℕ) → cond b n 0 ≤ n
at_most true n = omega arith
at_most false n = omega arith

module _ (passes : Interval → Bool) (longest : ℕ) (c : Customer) (runs : List Run) (i : ℕ) (d : Run) (p : Interval) (t u : Tally)
    (l : i < length runs) (is : p ≡ part_in_service c (get_or runs i d).since (get_or runs i d).until) (sofar : AreTallied passes longest c runs i t) where
  abbrev parts : ℕ → List Interval
  parts n = passing passes c (take n runs)

  abbrev long : Interval → Bool
  long q = lasts_longer longest q

  -- a sum over the parts of one run more
  more : (f : Interval → ℕ) (b : Bool) → (has_second p && passes p) ≡ b → sum_by f (parts (i + 1)) ≡ sum_by f (parts i) + cond b (f p) 0
  more f b flag =
      kept_more (λ (r : Run). part_in_service c r.since r.until) has_second passes f runs i d l
      ∙ ap (λ (q : Interval). sum_by f (parts i) + cond (has_second q && passes q) (f q) 0) (sym is)
      ∙ ap (λ (x : Bool). sum_by f (parts i) + cond x (f p) 0) flag

  more_seconds : (b : Bool) → (has_second p && passes p) ≡ b
      → sum_by duration (filter long (parts (i + 1))) ≡ sum_by duration (filter long (parts i)) + cond b (cond (long p) (duration p) 0) 0
  more_seconds b flag =
      sum_of_passing long duration (parts (i + 1))
      ∙ more (λ (q : Interval). cond (long q) (duration q) 0) b flag
      ∙ ap (λ (n : ℕ). n + cond b (cond (long p) (duration p) 0) 0) (sym (sum_of_passing long duration (parts i)))

  more_service : sum_by (served_in c) (take (i + 1) runs) ≡ sum_by (served_in c) (take i runs) + duration p
  more_service = sum_by_more (served_in c) runs i d l ∙ ap (λ (q : Interval). sum_by (served_in c) (take i runs) + duration q) (sym is)

  -- a part that passes is added
  pub tallied_more : (has_second p && passes p) ≡ true
      → u.sustained ≡ t.sustained + cond (long p) 1 0 → u.seconds ≡ t.seconds + cond (long p) (duration p) 0 → u.momentary ≡ t.momentary + cond (not (long p)) 1 0
      → AreTallied passes longest c runs (i + 1) u
  tallied_more flag s n m =
      let some : p.since < p.until = ltb-true p.since p.until (and_parts (has_second p) (passes p) flag).0 in
      let service = more_service in
      let one = at_most (long p) 1 in
      let all = at_most (long p) (duration p) in
      let short = at_most (not (long p)) 1 in
      let few_s = sofar.few_sustained in
      let few_n = sofar.few_seconds in
      let few_m = sofar.few_momentary in
      record {
        sustained = s ∙ ap (λ (k : ℕ). k + cond (long p) 1 0) sofar.sustained ∙ sym (more (λ (q : Interval). cond (long q) 1 0) true flag);
        seconds = n ∙ ap (λ (k : ℕ). k + cond (long p) (duration p) 0) sofar.seconds ∙ sym (more_seconds true flag);
        momentary = m ∙ ap (λ (k : ℕ). k + cond (not (long p)) 1 0) sofar.momentary ∙ sym (more (λ (q : Interval). cond (not (long q)) 1 0) true flag);
        few_sustained = omega (arith, service, one, some, s, few_s);
        few_seconds = omega (arith, service, all, n, few_n);
        few_momentary = omega (arith, service, short, some, m, few_m);
      }

  -- a part that doesn't pass is left out
  pub tallied_same : (has_second p && passes p) ≡ false → AreTallied passes longest c runs (i + 1) t
  tallied_same flag =
      let service = more_service in
      let few_s = sofar.few_sustained in
      let few_n = sofar.few_seconds in
      let few_m = sofar.few_momentary in
      let s = more (λ (q : Interval). cond (long q) 1 0) false flag in
      let n = more_seconds false flag in
      let m = more (λ (q : Interval). cond (not (long q)) 1 0) false flag in
      let was_s = sofar.sustained in
      let was_n = sofar.seconds in
      let was_m = sofar.momentary in
      record {
        sustained = omega (arith, s, was_s);
        seconds = omega (arith, n, was_n);
        momentary = omega (arith, m, was_m);
        few_sustained = omega (arith, service, few_s);
        few_seconds = omega (arith, service, few_n);
        few_momentary = omega (arith, service, few_m);
      }

-- the seconds of service in an interval are no more than it has
pub service_short : (c : Customer) (a b : ℕ) → count_by (in_service c) (seconds a b) ≤ b - a
service_short c a b =
    let is = served_is c a b in
    let most = served_short c a b in
    omega (arith, is, most)

-- tallies with the same numbers are one
pub same_tally : (t u : Tally) → t.sustained ≡ u.sustained → t.seconds ≡ u.seconds → t.momentary ≡ u.momentary → t.served ≡ u.served → t ≡ u
same_tally t u s n m w =
    ap (λ (x : ℕ). let y : Tally = record { sustained = x; seconds = t.seconds; momentary = t.momentary; served = t.served } in y) s
    ∙ ap (λ (x : ℕ). let y : Tally = record { sustained = u.sustained; seconds = x; momentary = t.momentary; served = t.served } in y) n
    ∙ ap (λ (x : ℕ). let y : Tally = record { sustained = u.sustained; seconds = u.seconds; momentary = x; served = t.served } in y) m
    ∙ ap (λ (x : ℕ). let y : Tally = record { sustained = u.sustained; seconds = u.seconds; momentary = u.momentary; served = x } in y) w
