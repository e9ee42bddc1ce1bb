-- The runs of a state begin at their cutters.
use Rattle.std.proofs.Common.{◌≡◌, ◌∙◌, sym, ap, refl, ℕ, suc, ◌+◌, ◌<◌, ◌==◌, ◌&&◌, Bool, true, false, not, cond, List, [], ◌∷◌, length, get_or, Option, Some, None, option_map, inl, inr, arith}
use Rattle.std.specs.List.{All, filter}
use Rattle.std.specs.Option.{IfSome}
use Rattle.std.proofs.lemmas.Bool.{cases_eq, eq-eqb, false≢true, ne_eqb}
use Rattle.std.proofs.lemmas.List.Elements.{All-cons, All-filter, All-map, filter_passes}
use Rattle.ob_net.specs.Network.{Network}
use Rattle.ob_base.specs.declared.interval.Interval.{Interval}
use Rattle.ob_base.specs.Seconds.{intervals}
use Rattle.ob_sheet.specs.declared.Entry.{Entry}
use Rattle.ob_sheet.specs.Order.{before, entry_of, greatest, through}
use Rattle.ob_sheet.specs.Sheet.{AreNumbered}
use Rattle.ob_sheet.specs.Supply.{is_supplied_under}
use Rattle.ob_sweep.specs.Cutters.{cuts_off, cutter_at}
use Rattle.ob_sweep.specs.Runs.{as_run, history}
use Rattle.ob_sweep.specs.declared.Run.{Run}
use Rattle.ob_time.specs.Calendar.{end_second_of, first_second_of}
use Rattle.ob_state.specs.State.{BookState}
use Rattle.ob_state.specs.Retimings.{runs_in}
use Rattle.ob_post.specs.Causes.{BeginAtCutters}
use Rattle.ob_state.proofs.Untouched.{greatest_has}

-- an entry of a list of other numbers is the one with its number
only_one : (entries : List Entry) (from : ℕ) → ((k : ℕ) (d : Entry) → k < length entries → (get_or entries k d).«no» ≡ from + k) → All (λ e. entry_of entries e.«no» ≡ Some e) entries
only_one [] from h = λ k d l. absurd (omega arith)
only_one (x ∷ xs) from h =
    let first : x.«no» ≡ from + 0 = h 0 x (omega arith) in
    let rest = only_one xs (from + 1) (λ k d l. let at = h (suc k) d (omega (arith, l)) in omega (arith, at)) in
    All-cons (λ e. entry_of (x ∷ xs) e.«no» ≡ Some e) x xs
    (ap (λ b. cond b (Some x) (entry_of xs x.«no»)) (eq-eqb x.«no» x.«no» refl))
    (λ k d l.
    let e : Entry = get_or xs k d in
    let at : e.«no» ≡ from + suc k = h (suc k) d (omega (arith, l)) in
    ap (λ b. cond b (Some x) (entry_of xs e.«no»)) (ne_eqb x.«no» e.«no» (λ q. omega (arith, q, first, at))) ∙ rest k d l)

of_greatest : (entries : List Entry) (o : Option Entry) (s : ℕ) → IfSome o (λ e. (entry_of entries e.«no» ≡ Some e) × (e.second ≡ s))
    → IfSome (option_map (λ (e : Entry). e.«no») o) (λ n. option_map (λ (e : Entry). e.second) (entry_of entries n) ≡ Some s)
of_greatest entries None s h = tt
of_greatest entries (Some e) s h = ap (option_map (λ (f : Entry). f.second)) h.0 ∙ ap Some h.1

fails : (a b c d : Bool) → b ≡ false → (a && b && c && d) ≡ false
fails true b c d e = rw e refl
fails false b c d e = refl

second_is : (net : Network) (entries : List Entry) (v s : ℕ) (e : Entry) → cuts_off net entries v s e ≡ true → e.second ≡ s
second_is net entries v s e h =
    elim (cases_eq e.second s) as (λ _. e.second ≡ s) [
      | inl same ↦ same
      | inr other ↦ absurd (false≢true (sym (fails e.kept (e.second == s) (is_supplied_under net (before entries e) s v) (not (is_supplied_under net (through entries e) s v)) (ne_eqb e.second s other)) ∙ h))
    ]

cut_at : (net : Network) (entries : List Entry) (v s : ℕ) → AreNumbered entries → IfSome (cutter_at net entries v s) (λ n. option_map (λ (e : Entry). e.second) (entry_of entries n) ≡ Some s)
cut_at net entries v s numbered =
    let test = cuts_off net entries v s in
    let known = All-filter test (λ (e : Entry). entry_of entries e.«no» ≡ Some e) entries (only_one entries 1 (λ k d l. let at = numbered k d l in omega (arith, at))) in
    let passes = filter_passes test entries in
    of_greatest entries (greatest (filter test entries)) s
    (greatest_has (λ e. (entry_of entries e.«no» ≡ Some e) × (e.second ≡ s)) (filter test entries)
    (λ k d l. (known k d l, second_is net entries v s (get_or (filter test entries) k d) (passes k d l))))

pub runs_begin : (b : BookState) (v : ℕ) → AreNumbered b.entries → BeginAtCutters b.entries (runs_in b v)
runs_begin b v numbered =
    let h = history b.network b.entries v in
    All-map (λ (r : Run). IfSome r.cutter (λ n. option_map (λ (e : Entry). e.second) (entry_of b.entries n) ≡ Some r.since)) (as_run v h) (intervals h.deenergized (first_second_of b.period) (end_second_of b.period))
    (λ k d l.
    let i : Interval = get_or (intervals h.deenergized (first_second_of b.period) (end_second_of b.period)) k d in
    cut_at b.network b.entries v i.since numbered)
