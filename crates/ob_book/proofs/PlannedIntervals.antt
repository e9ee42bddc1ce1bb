-- Outage intervals after a command.
use Rattle.std.proofs.Common.{◌≡◌, ◌∙◌, sym, ap, ap₂, refl, ℕ, ◌<◌, ◌≤◌, ◌++◌, Bool, List, [], ◌∷◌, map, length, Option, Some, None, is_some, IsSome, unwrap_or, true, false, length-append, inl, inr, arith}
use Rattle.std.specs.List.{slice_get}
use Rattle.std.specs.Option.{option_and_then}
use Rattle.std.proofs.lemmas.Bool.{cases_eq, cases_lt, eq-eqb, ne_eqb}
use Rattle.std.proofs.lemmas.Option.{slice_get_past}
use Rattle.ob_net.specs.Network.{Network, home_feeder}
use Rattle.ob_net.specs.declared.net.Node.{Node as ANode}
use Rattle.ob_sheet.specs.declared.Entry.{Entry}
use Rattle.ob_sheet.specs.Sheet.{AreNumbered}
use Rattle.ob_sweep.specs.Deltas.{new_runs, IsDelta}
use Rattle.ob_sweep.specs.Timeline.{IsSection, runs_at}
use Rattle.ob_sweep.specs.declared.Run.{Run}
use Rattle.ob_post.specs.CauseLaws.{cause_with, EnteredCause, ChangedCause, SameCause}
use Rattle.ob_post.specs.SectionAmounts.{run_cause}
use Rattle.ob_json.specs.declared.plan.OutageInterval.{OutageInterval}
use Rattle.ob_state.specs.declared.resolved.Resolved.{Resolved}
use Rattle.ob_state.specs.declared.resolved.Resolved.TheVariants.{Cause, Node, Device, Life, Customer, Service, Entered, Corrected, Withdrawn, Marked, Unmarked}
use Rattle.ob_state.specs.declared.retiming.Retiming.{Retiming}
use Rattle.ob_state.specs.declared.retiming.Retiming.TheVariants.{Same, By}
use Rattle.ob_state.proofs.Amounting.{get-before}
use Rattle.ob_state.proofs.Kept.{section_within}
use Rattle.ob_state.specs.Resolved.{CanTake, next_by}
use Rattle.ob_state.specs.Retimings.{LeadsTo, runs_in}
use Rattle.ob_state.specs.State.{BookState}
use Rattle.ob_state.specs.States.{AreRunsOf}
use Rattle.ob_book.specs.Forecasts.{interval_in, intervals_of}
use Rattle.ob_book.specs.Intervals.{cause_then, entry_said, interval_then, is_section_then, runs_then}

pub some_true : {X : Type 0} (o : Option X) → is_some o ≡ true → IsSome o
some_true o e = e

-- ---- causes
pub cause_is : (b : BookState) (r : Resolved) (run : Run) → EnteredCause → ChangedCause → SameCause → AreNumbered b.entries → CanTake b r
    → run_cause (next_by b r).entries run ≡ cause_then b.entries (entry_said r) run
cause_is b (Cause code name) run by_new by_change same numbered takes = refl
cause_is b (Node number node) run by_new by_change same numbered takes = refl
cause_is b (Device number device) run by_new by_change same numbered takes = refl
cause_is b (Life device old new) run by_new by_change same numbered takes = refl
cause_is b (Customer c) run by_new by_change same numbered takes = refl
cause_is b (Service old new) run by_new by_change same numbered takes = refl
cause_is b (Entered e) run by_new by_change same numbered takes = by_new b.entries e run numbered (ap (λ (x : Entry). x.«no») takes.entry)
cause_is b (Corrected old new) run by_new by_change same numbered takes =
    let number : new.«no» ≡ old.«no» = ap (λ (x : Entry). x.«no») takes.new in
    by_change b.entries old.«no» (λ _. new) old run (λ d e. number) takes.old.on
    ∙ ap (λ (n : ℕ). cause_with b.entries n new.cause run) (sym number)
cause_is b (Withdrawn old new) run by_new by_change same numbered takes =
    by_change b.entries old.«no» (λ _. new) old run (λ d e. ap (λ (x : Entry). x.«no») takes.new) takes.old.on
    ∙ ap (λ (x : Entry). cause_with b.entries old.«no» x.cause run) takes.new
    ∙ same b.entries old.«no» old run takes.old.on
cause_is b (Marked day engineer) run by_new by_change same numbered takes = refl
cause_is b (Unmarked day) run by_new by_change same numbered takes = refl

pub intervals_same : (c : BookState) (entries : List Entry) (said : Option Entry) (runs : List Run) → ((r : Run) → run_cause c.entries r ≡ cause_then entries said r)
    → map (interval_then entries said) runs ≡ map (interval_in c) runs
intervals_same c entries said [] same = refl
intervals_same c entries said (r ∷ runs) same =
    ap₂ (λ (n : ℕ) (is : List OutageInterval). record { since = r.since; until = r.until; entry = r.cutter; cause = n } ∷ is) (sym (same r)) (intervals_same c entries said runs same)

-- ---- runs
found : (net : Network) (delta : List (ℕ × List Run)) (lists : List (List Run)) (now : ℕ → List Run) (v : ℕ) (o : Option (List Run)) → IsDelta net delta lists now → IsSection net v
    → new_runs delta v ≡ o → unwrap_or o (runs_at lists v) ≡ now v
found net delta lists now v None is section e = sym (is.others v section e)
found net delta lists now v (Some rs) is section e = (is.named v rs e).0

pub runs_lead : (b c : BookState) (retiming : Retiming) (lists : List (List Run)) (v : ℕ) → AreRunsOf b lists → LeadsTo b c retiming → IsSection c.network v
    → runs_then retiming lists v ≡ runs_in c v
runs_lead b c Same lists v are leads section = (leads lists are).defined v section
runs_lead b c (By delta) lists v are leads section =
    let at = leads lists are in found c.network delta lists (runs_in c) v (new_runs delta v) at.3 section refl

-- ---- sections
pub new_last : (nodes : List ANode) (node : ANode) → slice_get (nodes ++ node ∷ []) (length nodes) ≡ Some node
new_last [] node = refl
new_last (x ∷ nodes) node = new_last nodes node

abbrev has_feeder : Option ANode → Bool
has_feeder o = is_some (option_and_then (λ (n : ANode). n.feeder) o)

beyond : (n v : ℕ) → n ≤ v → (n ≡ v → ⊥) → n < v
beyond n v from other =
    elim (cases_lt n v) as (λ _. n < v) [ inl l ↦ l | inr not ↦ absurd (other (omega (arith, from, not))) ]

-- another node than the one that is added
before_last : (nodes : List ANode) (node : ANode) (v : ℕ) → (length nodes ≡ v → ⊥) → has_feeder (slice_get nodes v) ≡ has_feeder (slice_get (nodes ++ node ∷ []) v)
before_last nodes node v other =
    elim (cases_lt v (length nodes)) as (λ _. has_feeder (slice_get nodes v) ≡ has_feeder (slice_get (nodes ++ node ∷ []) v)) [
      | inl l ↦ ap has_feeder (sym (get-before nodes (node ∷ []) v l))
      | inr from ↦
          let past : length nodes < v = beyond (length nodes) v from other in
          let one = length-append nodes (node ∷ []) in
          ap has_feeder (slice_get_past nodes v (omega (arith, past)) ∙ sym (slice_get_past (nodes ++ node ∷ []) v (omega (arith, past, one))))
    ]

joined : (b : BookState) (number : ℕ) (node : ANode) (v : ℕ) → number ≡ length b.network.nodes
    → is_section_then b.network (Node number node) v ≡ is_some (home_feeder (next_by b (Node number node)).network v)
joined b number node v last =
    elim (cases_eq number v) as (λ _. is_section_then b.network (Node number node) v ≡ has_feeder (slice_get (b.network.nodes ++ node ∷ []) v)) [
      | inl same ↦
          let at : slice_get (b.network.nodes ++ node ∷ []) v ≡ Some node = ap (slice_get (b.network.nodes ++ node ∷ [])) (sym same ∙ last) ∙ new_last b.network.nodes node in
          rw (eq-eqb number v same) (ap has_feeder (sym at))
      | inr other ↦ rw (ne_eqb number v other) (before_last b.network.nodes node v (λ e. other (last ∙ e)))
    ]

pub section_is : (b : BookState) (r : Resolved) (v : ℕ) → CanTake b r → is_section_then b.network r v ≡ is_some (home_feeder (next_by b r).network v)
section_is b (Cause code name) v takes = refl
section_is b (Node number node) v takes = joined b number node v takes.number
section_is b (Device number device) v takes = refl
section_is b (Life device old new) v takes = refl
section_is b (Customer c) v takes = refl
section_is b (Service old new) v takes = refl
section_is b (Entered e) v takes = refl
section_is b (Corrected old new) v takes = refl
section_is b (Withdrawn old new) v takes = refl
section_is b (Marked day engineer) v takes = refl
section_is b (Unmarked day) v takes = refl

-- ---- places of the lists
pub has_list : (b : BookState) (lists : List (List Run)) (v : ℕ) → AreRunsOf b lists → is_some (home_feeder b.network v) ≡ true → v < length lists
has_list b lists v are section =
    let within = section_within b.network v (some_true (home_feeder b.network v) section) in
    let count = are.count in
    omega (arith, within, count)

pub has_list_then : (b c : BookState) (retiming : Retiming) (lists : List (List Run)) (v : ℕ) → AreRunsOf b lists → LeadsTo b c retiming → v < length c.network.nodes → v < length lists
has_list_then b c Same lists v are leads within = let count = (leads lists are).count in omega (arith, within, count)
has_list_then b c (By delta) lists v are leads within = let count = (leads lists are).1 in omega (arith, within, count)

-- ---- commands that are none of those
pub none_said : (r : Resolved) → ((e : Entry) → r ≡ Entered e → ⊥) → ((old new : Entry) → r ≡ Corrected old new → ⊥) → None ≡ entry_said r
none_said (Cause code name) entered corrected = refl
none_said (Node number node) entered corrected = refl
none_said (Device number device) entered corrected = refl
none_said (Life device old new) entered corrected = refl
none_said (Customer c) entered corrected = refl
none_said (Service old new) entered corrected = refl
none_said (Entered e) entered corrected = absurd (entered e refl)
none_said (Corrected old new) entered corrected = absurd (corrected old new refl)
none_said (Withdrawn old new) entered corrected = refl
none_said (Marked day engineer) entered corrected = refl
none_said (Unmarked day) entered corrected = refl

pub none_joins : (net : Network) (r : Resolved) (v : ℕ) → ((number : ℕ) (node : ANode) → r ≡ Node number node → ⊥) → is_some (home_feeder net v) ≡ is_section_then net r v
none_joins net (Cause code name) v joins = refl
none_joins net (Node number node) v joins = absurd (joins number node refl)
none_joins net (Device number device) v joins = refl
none_joins net (Life device old new) v joins = refl
none_joins net (Customer c) v joins = refl
none_joins net (Service old new) v joins = refl
none_joins net (Entered e) v joins = refl
none_joins net (Corrected old new) v joins = refl
none_joins net (Withdrawn old new) v joins = refl
none_joins net (Marked day engineer) v joins = refl
none_joins net (Unmarked day) v joins = refl

-- a node that isn't there is no section
pub not_there : (net : Network) (v : ℕ) → length net.nodes ≤ v → is_some (home_feeder net v) ≡ false
not_there net v past = ap has_feeder (slice_get_past net.nodes v past)

-- a section's runs in its state
pub runs_before : (b : BookState) (lists : List (List Run)) (v : ℕ) → AreRunsOf b lists → is_some (home_feeder b.network v) ≡ true → map (interval_then b.entries None) (runs_at lists v) ≡ intervals_of b v
runs_before b lists v are section =
    rw section
    (intervals_same b b.entries None (runs_at lists v) (λ r. refl) ∙ ap (map (interval_in b)) (are.defined v (some_true (home_feeder b.network v) section)))

-- and after a command
pub runs_next : (b c : BookState) (r : Resolved) (retiming : Retiming) (lists : List (List Run)) (v : ℕ) → EnteredCause → ChangedCause → SameCause → AreNumbered b.entries
    → CanTake b r → next_by b r ≡ c → AreRunsOf b lists → LeadsTo b c retiming → is_section_then b.network r v ≡ true
    → map (interval_then b.entries (entry_said r)) (runs_then retiming lists v) ≡ intervals_of c v
runs_next b c r retiming lists v by_new by_change same numbered takes next are leads section =
    let there : is_some (home_feeder c.network v) ≡ true = ap (λ (s : BookState). is_some (home_feeder s.network v)) (sym next) ∙ sym (section_is b r v takes) ∙ section in
    rw there
    (intervals_same c b.entries (entry_said r) (runs_then retiming lists v)
    (λ run. ap (λ (s : BookState). run_cause s.entries run) (sym next) ∙ cause_is b r run by_new by_change same numbered takes)
    ∙ ap (map (interval_in c)) (runs_lead b c retiming lists v are leads (some_true (home_feeder c.network v) there)))

-- a node that is no section then has none
pub none_next : (b c : BookState) (r : Resolved) (v : ℕ) → CanTake b r → next_by b r ≡ c → is_section_then b.network r v ≡ false → [] ≡ intervals_of c v
none_next b c r v takes next out =
    let there : is_some (home_feeder c.network v) ≡ false = ap (λ (s : BookState). is_some (home_feeder s.network v)) (sym next) ∙ sym (section_is b r v takes) ∙ out in
    rw there refl

-- a node that is no section has none
pub none_before : (b : BookState) (v : ℕ) → is_some (home_feeder b.network v) ≡ false → [] ≡ intervals_of b v
none_before b v out = rw out refl
