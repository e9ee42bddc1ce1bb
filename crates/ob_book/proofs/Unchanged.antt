-- Nodes whose outage intervals a command leaves as they are.
use Rattle.std.proofs.Common.{◌≡◌, ◌∙◌, sym, ap, ap₂, refl, ℕ, suc, ◌+◌, ◌<◌, ◌≤◌, nat_eq, true, false, cond, List, [], ◌∷◌, map, length, get_or, Option, Some, None, is_some, IsSome, option_map, inl, inr, arith}
use Rattle.std.specs.List.{All}
use Rattle.std.specs.Option.{IfSome, option_eq}
use Rattle.std.proofs.lemmas.Bool.{cases_Bool, eq-eqb, ne_eqb}
use Rattle.std.proofs.lemmas.List.Elements.{All-head, All-same, All-tail}
use Rattle.ob_net.specs.Network.{home_feeder}
use Rattle.ob_sheet.specs.declared.Entry.{Entry}
use Rattle.ob_sheet.specs.Order.{entry_of}
use Rattle.ob_sheet.specs.Sheet.{AreNumbered}
use Rattle.ob_sweep.specs.Timeline.{runs_at}
use Rattle.ob_sweep.specs.declared.Run.{Run}
use Rattle.ob_post.specs.CauseLaws.{cause_with, EnteredCause, ChangedCause, SameCause}
use Rattle.ob_post.specs.Causes.{KeepsCause}
use Rattle.ob_post.specs.SectionAmounts.{run_cause}
use Rattle.ob_json.specs.Plans.{are_same_intervals, is_same_interval}
use Rattle.ob_json.specs.declared.plan.OutageInterval.{OutageInterval}
use Rattle.ob_state.specs.declared.resolved.Resolved.{Resolved}
use Rattle.ob_state.specs.declared.resolved.Resolved.TheVariants.{Cause, Node, Device, Life, Customer, Service, Entered, Corrected, Withdrawn, Marked, Unmarked}
use Rattle.ob_state.specs.declared.retiming.Retiming.{Retiming}
use Rattle.ob_state.proofs.Cutting.{runs_begin}
use Rattle.ob_state.specs.Resolved.{CanTake, change_by, next_by, node_change}
use Rattle.ob_state.specs.Retimings.{LeadsTo, runs_in}
use Rattle.ob_state.specs.State.{BookState}
use Rattle.ob_state.specs.States.{AreRunsOf}
use Rattle.ob_book.specs.Forecasts.{intervals_of, section_change}
use Rattle.ob_book.specs.Intervals.{cause_then, entry_said, interval_then, is_section_then, runs_then}
use Rattle.ob_book.proofs.PlannedIntervals.{none_before, none_next, runs_before, runs_next, some_true}

-- ---- commands that give no entry another cause
added_keeps : (feeder : Option ℕ) → KeepsCause (node_change feeder)
added_keeps None = tt
added_keeps (Some feeder) = tt

pub keeps_cause : (r : Resolved) → ((old new : Entry) → r ≡ Corrected old new → ⊥) → IfSome (change_by r) KeepsCause
keeps_cause (Cause code name) corrects = tt
keeps_cause (Node number node) corrects = added_keeps node.feeder
keeps_cause (Device number device) corrects = tt
keeps_cause (Life device old new) corrects = tt
keeps_cause (Customer c) corrects = tt
keeps_cause (Service old new) corrects = tt
keeps_cause (Entered e) corrects = tt
keeps_cause (Corrected old new) corrects = absurd (corrects old new refl)
keeps_cause (Withdrawn old new) corrects = tt
keeps_cause (Marked day engineer) corrects = tt
keeps_cause (Unmarked day) corrects = tt

-- ---- the next entry's number is no run's cutter
past_none : (entries : List Entry) (from n : ℕ) → ((k : ℕ) (d : Entry) → k < length entries → (get_or entries k d).«no» ≡ from + k) → from + length entries ≤ n → entry_of entries n ≡ None
past_none [] from n numbered past = refl
past_none (x ∷ xs) from n numbered past =
    let first : x.«no» ≡ from + 0 = numbered 0 x (omega arith) in
    ap (λ b. cond b (Some x) (entry_of xs n)) (ne_eqb x.«no» n (λ q. omega (arith, q, first, past)))
    ∙ past_none xs (from + 1) n (λ k d l. let at = numbered (suc k) d (omega (arith, l)) in omega (arith, at)) (omega (arith, past))

none_isnt : (s : ℕ) → option_map (λ (e : Entry). e.second) None ≡ Some s → ⊥
none_isnt s e = cc

no_cutter : (entries : List Entry) (cutter : Option ℕ) (s n : ℕ) → entry_of entries n ≡ None → IfSome cutter (λ m. option_map (λ (e : Entry). e.second) (entry_of entries m) ≡ Some s)
    → option_eq nat_eq cutter (Some n) ≡ false
no_cutter entries None s n none cut = refl
no_cutter entries (Some m) s n none cut = ne_eqb m n (λ q. none_isnt s (sym (ap (option_map (λ (e : Entry). e.second)) (ap (entry_of entries) q ∙ none)) ∙ cut))

-- ---- causes stay
cause_stays : (b : BookState) (r : Resolved) (run : Run) → SameCause → AreNumbered b.entries → CanTake b r → IfSome (change_by r) KeepsCause
    → IfSome run.cutter (λ m. option_map (λ (e : Entry). e.second) (entry_of b.entries m) ≡ Some run.since) → cause_then b.entries (entry_said r) run ≡ run_cause b.entries run
cause_stays b (Cause code name) run same numbered takes keeps cut = refl
cause_stays b (Node number node) run same numbered takes keeps cut = refl
cause_stays b (Device number device) run same numbered takes keeps cut = refl
cause_stays b (Life device old new) run same numbered takes keeps cut = refl
cause_stays b (Customer c) run same numbered takes keeps cut = refl
cause_stays b (Service old new) run same numbered takes keeps cut = refl
cause_stays b (Entered e) run same numbered takes keeps cut =
    let next : e.«no» ≡ length b.entries + 1 = ap (λ (x : Entry). x.«no») takes.entry in
    let none = past_none b.entries 1 e.«no» (λ k d l. let at = numbered k d l in omega (arith, at)) (omega (arith, next)) in
    ap (λ t. cond t e.cause (run_cause b.entries run)) (no_cutter b.entries run.cutter run.since e.«no» none cut)
cause_stays b (Corrected old new) run same numbered takes keeps cut =
    ap₂ (λ (number cause : ℕ). cause_with b.entries number cause run) (ap (λ (x : Entry). x.«no») takes.new) keeps ∙ same b.entries old.«no» old run takes.old.on
cause_stays b (Withdrawn old new) run same numbered takes keeps cut = refl
cause_stays b (Marked day engineer) run same numbered takes keeps cut = refl
cause_stays b (Unmarked day) run same numbered takes keeps cut = refl

intervals_stay : (entries : List Entry) (said : Option Entry) (runs : List Run) → All (λ r. cause_then entries said r ≡ run_cause entries r) runs
    → map (interval_then entries None) runs ≡ map (interval_then entries said) runs
intervals_stay entries said [] same = refl
intervals_stay entries said (r ∷ runs) same =
    let P : Run → Type 0 = λ r. cause_then entries said r ≡ run_cause entries r in
    ap₂ (λ (n : ℕ) (is : List OutageInterval). record { since = r.since; until = r.until; entry = r.cutter; cause = n } ∷ is)
    (sym (All-head P r runs same)) (intervals_stay entries said runs (All-tail P r runs same))

-- ---- a node that was there is a section if it was one
still_section : (b : BookState) (r : Resolved) (v : ℕ) → CanTake b r → v < length b.network.nodes → is_section_then b.network r v ≡ is_some (home_feeder b.network v)
still_section b (Cause code name) v takes there = refl
still_section b (Node number node) v takes there =
    let last : number ≡ length b.network.nodes = takes.number in
    rw (ne_eqb number v (λ q. omega (arith, q, last, there))) refl
still_section b (Device number device) v takes there = refl
still_section b (Life device old new) v takes there = refl
still_section b (Customer c) v takes there = refl
still_section b (Service old new) v takes there = refl
still_section b (Entered e) v takes there = refl
still_section b (Corrected old new) v takes there = refl
still_section b (Withdrawn old new) v takes there = refl
still_section b (Marked day engineer) v takes there = refl
still_section b (Unmarked day) v takes there = refl

-- a node that was there, whose runs a command leaves as they are, keeps its outage intervals
pub node_stays : (b c : BookState) (r : Resolved) (retiming : Retiming) (lists : List (List Run)) (v : ℕ) → EnteredCause → ChangedCause → SameCause → AreNumbered b.entries
    → CanTake b r → next_by b r ≡ c → AreRunsOf b lists → LeadsTo b c retiming → v < length b.network.nodes → IfSome (change_by r) KeepsCause
    → runs_then retiming lists v ≡ runs_at lists v → intervals_of b v ≡ intervals_of c v
node_stays b c r retiming lists v by_new by_change same numbered takes next are leads there keeps untouched =
    elim (cases_Bool (is_some (home_feeder b.network v))) as (λ _. intervals_of b v ≡ intervals_of c v) [
      | inl section ↦
          let begin = All-same (λ (run : Run). IfSome run.cutter (λ m. option_map (λ (e : Entry). e.second) (entry_of b.entries m) ≡ Some run.since)) (runs_at lists v) (runs_in b v)
          (are.defined v (some_true (home_feeder b.network v) section)) (runs_begin b v numbered) in
          sym (runs_before b lists v are section)
          ∙ intervals_stay b.entries (entry_said r) (runs_at lists v) (λ k d l. cause_stays b r (get_or (runs_at lists v) k d) same numbered takes keeps (begin k d l))
          ∙ ap (map (interval_then b.entries (entry_said r))) (sym untouched)
          ∙ runs_next b c r retiming lists v by_new by_change same numbered takes next are leads (still_section b r v takes there ∙ section)
      | inr out ↦ sym (none_before b v out) ∙ none_next b c r v takes next (still_section b r v takes there ∙ out)
    ]

-- ---- the same outage intervals aren't shown
same_entry : (entry : Option ℕ) → option_eq nat_eq entry entry ≡ true
same_entry None = refl
same_entry (Some n) = eq-eqb n n refl

same_interval : (i : OutageInterval) → is_same_interval i i ≡ true
same_interval i = rw (eq-eqb i.since i.since refl, eq-eqb i.until i.until refl, same_entry i.entry, eq-eqb i.cause i.cause refl) refl

same_intervals : (is : List OutageInterval) → are_same_intervals is is ≡ true
same_intervals [] = refl
same_intervals (i ∷ is) = rw (same_interval i) (same_intervals is)

pub not_shown : (b c : BookState) (v : ℕ) → intervals_of b v ≡ intervals_of c v → None ≡ section_change b c v
not_shown b c v stay =
    let same : are_same_intervals (intervals_of b v) (intervals_of c v) ≡ true = ap (are_same_intervals (intervals_of b v)) (sym stay) ∙ same_intervals (intervals_of b v) in
    rw same refl

-- ---- what a test of a look-up tells
pub is_found : (o : Option (List Run)) → IsSome o → is_some o ≡ true
is_found None h = cc
is_found (Some runs) h = refl

pub isnt_found : (o : Option (List Run)) → is_some o ≡ false → o ≡ None
isnt_found None e = refl
isnt_found (Some runs) e = cc
