-- Rows of several runs, appended one run after another.
use Rattle.std.proofs.Common.{◌≡◌, ◌∙◌, refl, sym, ap, ℕ, suc, ◌+◌, ◌<◌, ◌≤◌, List, [], ◌∷◌, ◌++◌, length, take, drop, map, get_or, pos, ◌+ℤ◌, arith}
use Rattle.std.proofs.Math.Seq.{take-append_seam}
use Rattle.std.proofs.lemmas.Int.{ints}
use Rattle.std.proofs.lemmas.List.{append_assoc, take-append-drop, take_all}
use Rattle.std.proofs.lemmas.List.Sums.{sum_by-cons, sum_by_more}
use Rattle.std.proofs.lemmas.Slice.Zip.{get_or-zip}
use Rattle.std.specs.List.{zip}
use Rattle.ob_base.specs.declared.interval.Interval.{Interval}
use Rattle.ob_sheet.specs.declared.Entry.{Entry}
use Rattle.ob_cust.specs.declared.Customer.{Customer}
use Rattle.ob_sweep.specs.declared.Run.{Run}
use Rattle.ob_post.specs.declared.Dim.{Dim}
use Rattle.ob_post.specs.declared.Moved.{Moved}
use Rattle.ob_post.specs.Moved.{delta_of, HaveKeys}
use Rattle.ob_post.specs.RunAmounts.{customer_seconds_in}
use Rattle.ob_post.specs.SectionAmounts.{run_cause, amount_of_posted, amount_of_runs}

-- the rows of the first i runs stand after the old ones
pub record ArePosted (roll : List Customer) (runs : List Run) (causes : List ℕ) (feeder : ℕ) (days : List Interval) (count : ℕ) (old new : List Moved) (i : ℕ) : Type 0 where
  pub more : List Moved
  pub appended : new ≡ old ++ more
  pub keys : HaveKeys count old → HaveKeys count new
  pub amounts : (dim : Dim) (key : ℕ) → delta_of new dim key ≡ delta_of old dim key +ℤ pos (amount_of_posted roll days feeder (take i (zip runs causes)) dim key)

-- rows that begin with others are those and more
begin_with : (now new : List Moved) → take (length now) new ≡ now → new ≡ now ++ drop (length now) new
begin_with now new h = sym (take-append-drop (length now) new) ∙ ap (λ (ms : List Moved). ms ++ drop (length now) new) h

-- as many runs as causes make as many pairs
pairs : (runs : List Run) (causes : List ℕ) → length causes ≡ length runs → length (zip runs causes) ≡ length runs
pairs [] causes e = refl
pairs (r ∷ runs) [] e = absurd (omega (arith, e))
pairs (r ∷ runs) (c ∷ causes) e = ap suc (pairs runs causes (omega (arith, e)))

pub one_posted : (roll : List Customer) (runs : List Run) (causes : List ℕ) (feeder : ℕ) (days : List Interval) (count : ℕ) (old now new : List Moved) (i : ℕ) (d : Run) → ArePosted roll runs causes feeder days count old now i
    → length causes ≡ length runs → i < length runs → take (length now) new ≡ now → (HaveKeys count now → HaveKeys count new)
    → ((dim : Dim) (key : ℕ) → delta_of new dim key ≡ delta_of now dim key +ℤ pos (customer_seconds_in roll (get_or runs i d) (get_or causes i 0) feeder days dim key))
    → ArePosted roll runs causes feeder days count old new (i + 1)
one_posted roll runs causes feeder days count old now new i d so each_one l begins keys each = record {
  more = so.more ++ drop (length now) new;
  appended = begin_with now new begins ∙ ap (λ (ms : List Moved). ms ++ drop (length now) new) so.appended ∙ append_assoc old so.more (drop (length now) new);
  keys = λ k. keys (so.keys k);
  amounts = λ dim key.
      let amount : Run × ℕ → ℕ = λ p. customer_seconds_in roll p.0 p.1 feeder days dim key in
      let term : amount (get_or (zip runs causes) i (d, 0)) ≡ customer_seconds_in roll (get_or runs i d) (get_or causes i 0) feeder days dim key =
      ap amount (get_or-zip runs causes i (d, 0) l (omega (arith, l, each_one))) in
      let sum = sum_by_more amount (zip runs causes) i (d, 0) (omega (arith, l, pairs runs causes each_one)) in
      omega (arith, ints, each dim key, so.amounts dim key, term, sum);
}

-- the old rows stay, when a run's rows were appended in part too
pub first_stay : (old now new more : List Moved) → now ≡ old ++ more → take (length now) new ≡ now → take (length old) new ≡ old
first_stay old now new more e begins =
    ap (take (length old)) (begin_with now new begins ∙ ap (λ (ms : List Moved). ms ++ drop (length now) new) e ∙ append_assoc old more (drop (length now) new))
    ∙ take-append_seam old (more ++ drop (length now) new)

pub all_posted : (roll : List Customer) (runs : List Run) (causes : List ℕ) (feeder : ℕ) (days : List Interval) (count : ℕ) (old new : List Moved) (i : ℕ) (dim : Dim) (key : ℕ) → ArePosted roll runs causes feeder days count old new i
    → length causes ≡ length runs → length runs ≤ i → delta_of new dim key ≡ delta_of old dim key +ℤ pos (amount_of_posted roll days feeder (zip runs causes) dim key)
all_posted roll runs causes feeder days count old new i dim key so each_one l =
    so.amounts dim key
    ∙ ap (λ (ps : List (Run × ℕ)). delta_of old dim key +ℤ pos (amount_of_posted roll days feeder ps dim key)) (take_all i (zip runs causes) (omega (arith, l, pairs runs causes each_one)))

-- posted to the causes of their cutters, runs have their own amount
pub by_cutters : (entries : List Entry) (roll : List Customer) (days : List Interval) (feeder : ℕ) (runs : List Run) (dim : Dim) (key : ℕ)
    → amount_of_posted roll days feeder (zip runs (map (run_cause entries) runs)) dim key ≡ amount_of_runs entries roll days feeder runs dim key
by_cutters entries roll days feeder [] dim key = refl
by_cutters entries roll days feeder (r ∷ runs) dim key =
    sum_by-cons (λ (p : Run × ℕ). customer_seconds_in roll p.0 p.1 feeder days dim key) (r, run_cause entries r) (zip runs (map (run_cause entries) runs))
    ∙ ap (λ n. customer_seconds_in roll r (run_cause entries r) feeder days dim key + n) (by_cutters entries roll days feeder runs dim key)
    ∙ sym (sum_by-cons (λ (q : Run). customer_seconds_in roll q (run_cause entries q) feeder days dim key) r runs)
