-- The rows that are found from a section's outage intervals are those of its customers' interruptions.
use Rattle.std.proofs.Common.{◌≡◌, ℕ, ◌+◌, ◌-◌, ◌<◌, ◌≤◌, ◌==◌, Bool, true, not, List, [], ◌∷◌, ◌++◌, map, length, get_or, Option, Some, suc, zero, refl, sym, ap, ap₂, ◌∙◌, inl, inr, arith, eq-eqb}
use Rattle.std.specs.List.{All, filter, flat_map, prefix_len, range_with_len}
use Rattle.std.specs.Option.{option_and_then, option_map_or}
use Rattle.std.proofs.lemmas.Bool.{cases_Bool, lt-ltb}
use Rattle.std.proofs.lemmas.List.{length-map}
use Rattle.std.proofs.lemmas.List.Sums.{count_by-le-length, length-filter}
use Rattle.std.proofs.lemmas.List.Elements.{All-tail, Contains-get_or}
use Rattle.std.proofs.lemmas.List.Folds.{flat_map-map}
use Rattle.std.proofs.lemmas.List.FromFn.{length-range_with_len}
use Rattle.ob_base.specs.Seconds.{IsLongest, intervals, interval_from, seconds, starts_at}
use Rattle.ob_base.specs.declared.interval.Interval.{Interval}
use Rattle.ob_net.specs.Network.{home_feeder}
use Rattle.ob_cust.specs.Blocks.{service_of}
use Rattle.ob_cust.specs.declared.Block.{Block}
use Rattle.ob_cust.specs.declared.SectionBlock.{SectionBlock}
use Rattle.ob_sweep.specs.Cutters.{cutter_at}
use Rattle.ob_sweep.specs.Runs.{History, IsRun, as_run, history, start_of}
use Rattle.ob_sweep.specs.Timeline.{IsSection, runs_at}
use Rattle.ob_sweep.specs.declared.Run.{Run}
use Rattle.ob_time.specs.Calendar.{first_second_of, end_second_of}
use Rattle.ob_post.proofs.RunParts.{start_is}
use Rattle.ob_index.specs.Tallies.{has_second, parts_in_service}
use Rattle.ob_index.proofs.Parts.{parts_are_interruptions}
use Rattle.ob_state.specs.State.{BookState}
use Rattle.ob_state.specs.States.{AreRunsOf}
use Rattle.ob_rows.specs.Services.{Service, services_of}
use Rattle.ob_rows.specs.Rows.{customer_with, row_of, rows_of_node, rows_of_service}
use Rattle.ob_rows.specs.Outages.{IsOutage, part_of_run, rows_of_block, rows_of_run}
use Rattle.ob_rows.specs.declared.row.InterruptionRow.{InterruptionRow}

-- ---- where the interval that holds a second starts
-- a longest interval is the one that starts at its first second
starts_there : (test : ℕ → Bool) (a b : ℕ) (i : Interval) → IsLongest test a b i → starts_at test a i.since ≡ true
starts_there test a b i x =
    let here : test i.since ≡ true = x.holds i.since (omega arith) x.some in
    elim x.starts [
      | inl first ↦ let same : (i.since == a) ≡ true = eq-eqb i.since a first in rw here (rw same refl)
      | inr before ↦
          let off : not (test (i.since - 1)) ≡ true = before in
          rw here (elim (cases_Bool (i.since == a)) [ inl t ↦ rw t refl | inr f ↦ rw f off ])
    ]

pub reaches : (test : ℕ → Bool) (n s : ℕ) → ((t : ℕ) → s ≤ t → t < s + n → test t ≡ true) → prefix_len test (range_with_len s n) ≡ n
reaches test zero s h = refl
reaches test (suc n) s h = rw (h s (omega arith) (omega arith)) (omega (arith, reaches test n (s + 1) (λ t l k. h t (omega arith) (omega arith))))

-- its first second is found from each of its seconds
pub start_found : (h : History) (a b : ℕ) (i : Interval) (s : ℕ) → IsLongest h.deenergized a b i → i.since ≤ s → s < i.until → start_of h a s ≡ Some i.since
start_found h a b i s x low high =
    let some : i.since < i.until = x.some in
    let len = reaches h.deenergized (i.until - i.since) i.since (λ t l k. x.holds t l (omega arith)) in
    start_is h.deenergized a i.until i.since s x.from_a (starts_there h.deenergized a b i x) low (omega (arith, len))

-- ---- rows of runs
rows_of_parts : (b : BookState) (v feeder : ℕ) (s : Service) (runs : List Run)
    → flat_map (rows_of_run b v feeder s) runs ≡ map (row_of b v feeder s) (parts_in_service (customer_with v s) runs)
rows_of_parts b v feeder s [] = refl
rows_of_parts b v feeder s (r ∷ runs) = elim (cases_Bool (has_second (part_of_run v s r))) [
  | inl some ↦ rw some (ap (λ (rows : List InterruptionRow). row_of b v feeder s (part_of_run v s r) ∷ rows) (rows_of_parts b v feeder s runs))
  | inr none ↦ rw none (rows_of_parts b v feeder s runs)
]

-- a part with some second is one row
pub some_row : (b : BookState) (v feeder : ℕ) (s : Service) (r : Run) (p : Interval) (row : InterruptionRow) → p ≡ part_of_run v s r → p.since < p.until → row ≡ row_of b v feeder s p → rows_of_run b v feeder s r ≡ row ∷ []
some_row b v feeder s r p row is some same =
    let long : has_second (part_of_run v s r) ≡ true = sym (ap has_second is) ∙ lt-ltb p.since p.until some in
    rw long (ap (λ (q : Interval). row_of b v feeder s q ∷ []) (sym is) ∙ ap (λ (q : InterruptionRow). q ∷ []) (sym same))

same_pieces : {X A : Type 0} (f g : X → List A) (xs : List X) → ((x : X) → f x ≡ g x) → flat_map f xs ≡ flat_map g xs
same_pieces f g [] same = refl
same_pieces f g (x ∷ xs) same = ap₂ (λ (l m : List _). l ++ m) (same x) (same_pieces f g xs same)

-- a section's blocks, each with its section's number
pub of_own_section : (b : BookState) (v feeder : ℕ) (runs : List Run) (blocks : List SectionBlock) → All (λ c. c.section ≡ v) blocks
    → flat_map (λ (c : SectionBlock). rows_of_block b c.section feeder runs c) blocks ≡ flat_map (rows_of_block b v feeder runs) blocks
of_own_section b v feeder runs [] own = refl
of_own_section b v feeder runs (c ∷ blocks) own =
    ap₂ (λ (l m : List InterruptionRow). l ++ m) (ap (λ (w : ℕ). rows_of_block b w feeder runs c) (own 0 c (omega arith)))
    (of_own_section b v feeder runs blocks (All-tail (λ (d : SectionBlock). d.section ≡ v) c blocks own))

-- ---- the outage intervals of a section
module _ (b : BookState) (lists : List (List Run)) (runs : AreRunsOf b lists) (v : ℕ) (section : IsSection b.network v) where
  outage_from : (r : Run) → IsRun v (history b.network b.entries v) (first_second_of b.period) (end_second_of b.period) r → IsOutage b v r
  outage_from r x s low high =
      ap (option_and_then (cutter_at b.network b.entries v))
      (start_found (history b.network b.entries v) (first_second_of b.period) (end_second_of b.period) (record { since = r.since; until = r.until }) s x.longest low high)
      ∙ sym x.cutter

  -- each is one
  pub are_outages : All (IsOutage b v) (runs_at lists v)
  are_outages k d l = outage_from (get_or (runs_at lists v) k d) ((runs.related v section (get_or (runs_at lists v) k d)).0 (Contains-get_or (runs_at lists v) k d l))

  -- there are no more of them than seconds
  pub few_outages : length (runs_at lists v) ≤ end_second_of b.period - first_second_of b.period
  few_outages =
      let first = first_second_of b.period in
      let end = end_second_of b.period in
      let h = history b.network b.entries v in
      omega (
        arith,
        ap length (runs.defined v section),
        length-map (intervals h.deenergized first end) (as_run v h),
        length-map (filter (starts_at h.deenergized first) (seconds first end)) (interval_from h.deenergized end),
        length-filter (starts_at h.deenergized first) (seconds first end),
        count_by-le-length (starts_at h.deenergized first) (seconds first end),
        length-range_with_len first (end - first),
      )

  -- their parts in a service are the interruptions of its customers
  pub rows_are : (feeder : ℕ) (s : Service) → first_second_of b.period ≤ end_second_of b.period → flat_map (rows_of_run b v feeder s) (runs_at lists v) ≡ rows_of_service b v feeder s
  rows_are feeder s le =
      rows_of_parts b v feeder s (runs_at lists v)
      ∙ ap (λ (rs : List Run). map (row_of b v feeder s) (parts_in_service (customer_with v s) rs)) (runs.defined v section)
      ∙ ap (map (row_of b v feeder s)) (parts_are_interruptions b.network b.entries b.period (customer_with v s) le)

  -- block by block they are the rows of the node
  pub rows_of_blocks : (feeder : ℕ) (blocks : List SectionBlock) → first_second_of b.period ≤ end_second_of b.period → services_of v b.customers ≡ map service_of (map (λ (c : SectionBlock). c.block) blocks)
      → home_feeder b.network v ≡ Some feeder → flat_map (rows_of_block b v feeder (runs_at lists v)) blocks ≡ rows_of_node b v
  rows_of_blocks feeder blocks le services home =
      same_pieces (rows_of_block b v feeder (runs_at lists v)) (λ (c : SectionBlock). rows_of_service b v feeder (service_of c.block)) blocks (λ c. rows_are feeder (service_of c.block) le)
      ∙ sym (flat_map-map (λ (c : Block). rows_of_service b v feeder (service_of c)) (λ (c : SectionBlock). c.block) blocks)
      ∙ sym (flat_map-map (rows_of_service b v feeder) service_of (map (λ (c : SectionBlock). c.block) blocks))
      ∙ ap (flat_map (rows_of_service b v feeder)) (sym services)
      ∙ ap (λ (o : Option ℕ). option_map_or (λ (f : ℕ). flat_map (rows_of_service b v f) (services_of v b.customers)) o []) (sym home)
