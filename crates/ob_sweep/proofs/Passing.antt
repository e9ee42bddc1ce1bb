-- The step of the loop that passes lives: which nodes are supplied at the next second at which one turns, and the runs then.
use Rattle.std.proofs.Common.{◌≡◌, ℕ, ◌+◌, ◌-◌, ◌<◌, ◌≤◌, List, [], ◌∷◌, ◌++◌, Some, None, set, true, refl, sym, ◌∙◌, ap, arith, subst, length, get_or, IsTrue}
use Rattle.std.specs.List.{AllPairs, list_any}
use Rattle.std.proofs.lemmas.List.Elements.{All-cons, All-head, All-push, All-tail}
use Rattle.std.proofs.lemmas.List.{get_or-append-add, get_or_default, length-append, set-get_or}
use Rattle.ob_base.specs.Life.{turns_at}
use denote.Enum.Bare.{sameb}
use Rattle.ob_base.specs.contracts.Pos.{the_type}
use Rattle.ob_base.specs.declared.Pos.{Pos}
use Rattle.ob_base.specs.declared.Pos.TheVariants.{Opened, Closed}
use Rattle.ob_net.specs.Network.{Network, as_of}
use Rattle.ob_net.specs.declared.net.Device.{Device}
use Rattle.ob_sheet.specs.declared.Entry.{Entry}
use Rattle.ob_sheet.specs.Order.{is_before}
use Rattle.ob_sheet.specs.Positions.{entered, positions}
use Rattle.ob_sweep.specs.Steps.{AreKeptBefore, AreKeptUntil, all_runs_until, push_all, supplied_nodes}
use Rattle.ob_sweep.specs.Turns.{turns_between}
use Rattle.ob_sweep.proofs.Growth.{AllBefore, by_second}
use Rattle.ob_sweep.proofs.Sweeps.{AllEarlier, all_runs_more, entered_more}
use Rattle.ob_sweep.proofs.Turning.{turns_in_parts, one_turn_more}
use Rattle.ob_sweep.proofs.Turns.{IsAsAt, all_runs_turn, all_runs_wait, still_earlier}

-- kept entries up to a second are earlier than the next one
pub kept_until : (t : ℕ) (set : List Entry) → AreKeptUntil t set → AllEarlier (t + 1) set
kept_until t [] h = tt
kept_until t (e ∷ es) h =
    let at = All-head (λ (e : Entry). IsTrue e.kept × (e.second ≤ t)) e es h in
    (at.0, omega (arith, at.1), kept_until t es (All-tail (λ (e : Entry). IsTrue e.kept × (e.second ≤ t)) e es h))

-- between a second and the next one, no life turns
abbrev pub NoneTurns : Network → ℕ → ℕ → Type 0
NoneTurns net at next = (s : ℕ) → at ≤ s → s < next → (ps : List Pos) → as_of net.devices s ps ≡ as_of net.devices at ps

-- a search more where some life turns, up to a last second
pub counts_on : (net : Network) (from at next to n m k : ℕ) → from ≤ at → at < next → next ≤ to → IsTrue (list_any (λ (d : Device). turns_at d.life next) net.devices)
    → m ≤ n + turns_between net from at → k ≤ m + 1 → k ≤ n + turns_between net from next
counts_on net from at next to n m k l on up some so_far one_more = omega (arith, so_far, one_more, one_turn_more net from at next l on some)

pub counts_within : (net : Network) (from at to n k : ℕ) → from ≤ at → at ≤ to → k ≤ n + turns_between net from at → k ≤ n + turns_between net from to
counts_within net from at to n k l up so_far = omega (arith, so_far, turns_in_parts net from at to l up)

-- the runs once more lives have turned
pub passed : (net : Network) (ps : List Pos) (from at next lo hi : ℕ) (set : List Entry) → from ≤ at → at < next → next < hi → NoneTurns net at next
    → lo ≤ from → AllEarlier (from + 1) set → ps ≡ entered net set
    → push_all 0 (supplied_nodes net (as_of net.devices at ps)) (supplied_nodes net (as_of net.devices next ps)) next hi None (all_runs_until net set at lo hi) ≡ all_runs_until net set next lo hi
passed net ps from at next lo hi set l on below none some early is =
    ap (λ q. push_all 0 (supplied_nodes net (as_of net.devices at q)) (supplied_nodes net (as_of net.devices next q)) next hi None (all_runs_until net set at lo hi)) is
    ∙ all_runs_turn net lo hi set at next on (still_earlier (from + 1) (at + 1) set (omega (arith, l)) early) (λ s a b es. none s a b (entered net es)) (omega (arith, some, l, on)) below

-- and where none turns any more
pub waited : (net : Network) (from at to next lo hi : ℕ) (set : List Entry) → from ≤ at → at ≤ to → to < next → to < hi → NoneTurns net at next
    → lo ≤ from → AllEarlier (from + 1) set → all_runs_until net set to lo hi ≡ all_runs_until net set at lo hi
waited net from at to next lo hi set l up past below none some early =
    all_runs_wait net lo hi set at to up (still_earlier (from + 1) (at + 1) set (omega (arith, l)) early) (λ s a b es. none s a (omega (arith, b, past)) (entered net es)) (omega (arith, some, l)) (omega (arith, up, below))

-- kept entries that come before another
pub kept_before : (step : Entry) (set : List Entry) → AreKeptBefore step set → AllBefore step set
kept_before step [] h = tt
kept_before step (e ∷ es) h =
    let at = All-head (λ (e : Entry). IsTrue e.kept × IsTrue (is_before e step)) e es h in
    (at.0, at.1, kept_before step es (All-tail (λ (e : Entry). IsTrue e.kept × IsTrue (is_before e step)) e es h))

-- the runs over an entry, once the lives up to its second have turned
pub stepped : (net : Network) (ps : List Pos) (step : Entry) (lo hi : ℕ) (before : List Entry) → step.kept ≡ true → AreKeptBefore step before → lo ≤ step.second → step.second < hi
    → ps ≡ entered net before
    → push_all 0 (supplied_nodes net (as_of net.devices step.second ps)) (supplied_nodes net (as_of net.devices step.second (set ps step.device step.pos))) step.second hi (Some step.no)
    (all_runs_until net before step.second lo hi)
    ≡ all_runs_until net (before ++ step ∷ []) step.second lo hi
stepped net ps step lo hi before kept come l k is =
    ap (λ q. push_all 0 (supplied_nodes net (as_of net.devices step.second q)) (supplied_nodes net (as_of net.devices step.second (set q step.device step.pos))) step.second hi (Some step.no)
    (all_runs_until net before step.second lo hi)) is
    ∙ ap (λ q. push_all 0 (supplied_nodes net (as_of net.devices step.second (entered net before))) (supplied_nodes net (as_of net.devices step.second q)) step.second hi (Some step.no)
    (all_runs_until net before step.second lo hi)) (sym (entered_more before step (kept_before step before come) net))
    ∙ all_runs_more net before step lo hi kept (kept_before step before come) l k

same_position : (p q : Pos) → sameb the_type p q ≡ true → p ≡ q
same_position Opened Opened h = refl
same_position Opened Closed h = cc
same_position Closed Opened h = cc
same_position Closed Closed h = refl

-- a device that is in a position already stays where it is
pub unmoved : (ps : List Pos) (k device : ℕ) (p d : Pos) → k ≡ device → sameb the_type (get_or ps k d) p ≡ true → set ps device p ≡ ps
unmoved ps k device p d is same = ap (λ q. set ps device q) (sym (same_position (get_or ps k d) p same) ∙ ap (λ i. get_or ps i d) is) ∙ set-get_or ps device d

-- entries that are all earlier than a second are kept up to it
pub until_earlier : (t : ℕ) (set : List Entry) → AllEarlier t set → AreKeptUntil t set
until_earlier t [] h = λ k d l. absurd (omega (arith, l))
until_earlier t (e ∷ es) h = let past : e.second < t = h.1 in All-cons (λ (e : Entry). IsTrue e.kept × (e.second ≤ t)) e es (h.0, omega arith) (until_earlier t es h.2)

-- one more entry
pub until_more : (t u : ℕ) (set : List Entry) (e : Entry) → t ≤ u → e.kept ≡ true → e.second ≤ u → AreKeptUntil t set → AreKeptUntil u (set ++ e ∷ [])
until_more t u set e l kept past h =
    All-push (λ (e : Entry). IsTrue e.kept × (e.second ≤ u)) set e (λ k d m. let at = h k d m in (at.0, omega (arith, at.1, l))) (kept, past)

pub before_all : (e : Entry) (set : List Entry) → AllBefore e set → AreKeptBefore e set
before_all e [] h = λ k d l. absurd (omega (arith, l))
before_all e (f ∷ fs) h = All-cons (λ (f : Entry). IsTrue f.kept × IsTrue (is_before f e)) f fs (h.0, h.1) (before_all e fs h.2)

-- the steps behind one have its second or a later one
pub onwards_more : (base steps : List Entry) (i : ℕ) (x : Entry) → i < length steps → x ≡ get_or steps i x → AllPairs (λ a b. IsTrue (is_before a b)) (base ++ steps)
    → (k : ℕ) (d : Entry) → i + 1 ≤ k → k < length steps → x.second ≤ (get_or steps k d).second
onwards_more base steps i x l is ordered k d m n =
    let here : get_or (base ++ steps) (length base + i) d ≡ x = get_or-append-add base steps i d ∙ get_or_default steps i d x l ∙ sym is in
    let there : get_or (base ++ steps) (length base + k) d ≡ get_or steps k d = get_or-append-add base steps k d in
    let comes = ordered (length base + i) (length base + k) d (omega (arith, m)) (omega (arith, n, length-append base steps)) in
    by_second x (get_or steps k d) (subst (λ b. IsTrue (is_before x b)) there (subst (λ a. IsTrue (is_before a (get_or (base ++ steps) (length base + k) d))) here comes))

-- the searches up to an entry, and to the end
pub counts_step : (net : Network) (first at second i n m k : ℕ) → first ≤ at → at ≤ second → m ≤ n + (1 + i + turns_between net first at) → k ≤ m + (turns_between net at second + 1)
    → k ≤ n + (1 + (i + 1) + turns_between net first second)
counts_step net first at second i n m k l on so_far more = omega (arith, so_far, more, turns_in_parts net first at second l on)

pub counts_rest : (net : Network) (first at last i steps n m : ℕ) → first ≤ at → at ≤ last → i ≤ steps → m ≤ n + (1 + i + turns_between net first at)
    → m ≤ n + (1 + steps + turns_between net first last)
counts_rest net first at last i steps n m l on few so_far = omega (arith, few, so_far, turns_in_parts net first at last l on)

pub counts_end : (net : Network) (first at last i steps n m k : ℕ) → first ≤ at → at ≤ last → i ≤ steps → m ≤ n + (1 + i + turns_between net first at) → k ≤ m + turns_between net at last
    → k ≤ n + (1 + steps + turns_between net first last)
counts_end net first at last i steps n m k l on few so_far more = omega (arith, few, so_far, more, turns_in_parts net first at last l on)

-- at the last second, the lives are as at each later second of the interval
pub none_after : (net : Network) (hi s : ℕ) → hi - 1 ≤ s → s < hi → IsAsAt net s (hi - 1)
none_after net hi s l k = let same : s ≡ hi - 1 = omega (arith, l, k) in λ set. ap (positions net set) same
