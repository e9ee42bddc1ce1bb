-- What the sweep of a life's window is given, and what is new in the runs that it finds.
use Rattle.std.proofs.Common.{◌≡◌, ℕ, suc, ◌+◌, ◌-◌, ◌<◌, ◌≤◌, ◌==◌, ◌&&◌, nat_le, inl, inr, Bool, true, false, not, List, [], ◌∷◌, ◌++◌, Option, Some, None, length, map, take, drop, slice_get, refl, sym, ◌∙◌, ap, arith, subst, append_assoc, IsTrue}
use Rattle.std.specs.List.{All, AllByRecursion, Contains, filter}
use Rattle.std.specs.Prelude.{◌↔◌}
use Rattle.std.specs.Option.{option_map, option_map_or}
use Rattle.std.proofs.lemmas.Bool.{cases_eq, and_right, lt-leb, le-ltb, lt-ltb, ne_eqb}
use Rattle.std.proofs.lemmas.List.{append-nil}
use Rattle.std.proofs.lemmas.List.Elements.{All-filter, All-from_recursion, filter-append, filter_passes, recursion_from_All}
use Rattle.std.proofs.lemmas.Option.{none-some}
use Rattle.ob_base.specs.declared.life.Life.{Life}
use Rattle.ob_net.specs.Network.{Network, with_life, without_last_device}
use Rattle.ob_sheet.proofs.Ordered.{in_order_greatest, in_order_rises, rising_pairs}
use Rattle.ob_sheet.proofs.Sorting.{IsInOrder}
use Rattle.ob_sheet.specs.declared.Entry.{Entry}
use Rattle.ob_sheet.specs.Order.{before, through, greatest, in_order, is_before}
use Rattle.ob_sheet.specs.Sheet.{AreNumbered, NameDevices}
use Rattle.ob_sheet.specs.Supply.{is_supplied_under}
use Rattle.ob_sweep.specs.Cutters.{cuts_off}
use Rattle.ob_sweep.specs.Deltas.{IsDelta}
use Rattle.ob_sweep.specs.Lives.{first_differing, kept_within, last_lived, life_searches, never}
use Rattle.ob_sweep.specs.Runs.{IsRun, history, runs_between}
use Rattle.ob_sweep.specs.Splice.{splice}
use Rattle.ob_sweep.specs.Steps.{all_runs}
use Rattle.ob_sweep.specs.Timeline.{AreOfNode, AreRuns, IsSection, runs_at}
use Rattle.ob_sweep.specs.Turns.{turns_between}
use Rattle.ob_sweep.specs.Windows.{Spans}
use Rattle.ob_sweep.specs.declared.Run.{Run}
use Rattle.ob_sweep.specs.declared.window.Window.{Window}
use Rattle.ob_sweep.proofs.Counted.{kept_counted}
use Rattle.ob_sweep.proofs.Framed.{AreFramed, in_order_left}
use Rattle.ob_sweep.proofs.LifeLaw.{IsLifeWindow, cutter_same, dead_same, life_runs, life_still, none_is, same_runs, under_never, window_is}
use Rattle.ob_sweep.proofs.Ordered.{filter_alike, runs_in_order}
use Rattle.ob_sweep.proofs.Parted.{each_as, each_left, each_right}
use Rattle.ob_sweep.proofs.Planned.{AreReady, are_framed, between, is_delta_as, places_rise}
use Rattle.ob_sweep.proofs.Related.{at_section, listed_are_runs, runs_of_node}
use Rattle.ob_sweep.proofs.Replanned.{each_kept}

-- entries from a second on don't matter before it
module _ (net : Network) (v w : ℕ) (es after : List Entry) (late : AllByRecursion (λ f. w ≤ f.second) after) where
  none_left : (p : Entry → Bool) → ((f : Entry) → w ≤ f.second → p f ≡ false) → (fs : List Entry) → AllByRecursion (λ f. w ≤ f.second) fs → filter p fs ≡ []
  none_left p fails [] h = refl
  none_left p fails (f ∷ fs) h = rw (fails f h.0) (none_left p fails fs h.1)

  first_only : (p : Entry → Bool) → ((f : Entry) → w ≤ f.second → p f ≡ false) → filter p (es ++ after) ≡ filter p es
  first_only p fails = filter-append p es after ∙ ap (λ q. filter p es ++ q) (none_left p fails after late) ∙ append-nil (filter p es)

  dead_before : (s : ℕ) → s < w → (history net (es ++ after) v).deenergized s ≡ (history net es v).deenergized s
  dead_before s l =
      ap (λ q. not (is_supplied_under net q s v))
      (first_only (λ f. f.kept && nat_le f.second s) (λ f k. and_right f.kept (nat_le f.second s) (lt-leb f.second s (omega (arith, l, k)))))

  elsewhere : (k b c : Bool) → (k && false && b && c) ≡ false
  elsewhere true b c = refl
  elsewhere false b c = refl

  not_then : (all : List Entry) (s : ℕ) (e : Entry) → (e.second ≡ s → ⊥) → cuts_off net all v s e ≡ false
  not_then all s e apart =
      ap (λ b. e.kept && b && is_supplied_under net (before all e) s v && not (is_supplied_under net (through all e) s v)) (ne_eqb e.second s apart)
      ∙ elsewhere e.kept (is_supplied_under net (before all e) s v) (not (is_supplied_under net (through all e) s v))

  cuts_before : (s : ℕ) → s < w → (e : Entry) → cuts_off net (es ++ after) v s e ≡ cuts_off net es v s e
  cuts_before s l e = elim (cases_eq e.second s) as (λ _. cuts_off net (es ++ after) v s e ≡ cuts_off net es v s e) [
    | inl here ↦
        let first : before (es ++ after) e ≡ before es e =
        first_only (λ f. f.kept && is_before f e) (λ f k. rw (le-ltb f.second e.second (omega (arith, l, k, here)), ne_eqb f.second e.second (λ q. absurd (omega (arith, l, k, here, q)))) (and_right f.kept false refl)) in
        let second : through (es ++ after) e ≡ through es e =
        first_only (λ f. f.kept && not (is_before e f)) (λ f k. rw (lt-ltb e.second f.second (omega (arith, l, k, here))) (and_right f.kept false refl)) in
        ap (λ q. e.kept && e.second == s && is_supplied_under net q s v && not (is_supplied_under net (through (es ++ after) e) s v)) first
        ∙ ap (λ q. e.kept && e.second == s && is_supplied_under net (before es e) s v && not (is_supplied_under net q s v)) second
    | inr apart ↦ not_then (es ++ after) s e apart ∙ sym (not_then es s e apart)
  ]

  cutter_before : (s : ℕ) → s < w → (history net (es ++ after) v).cutter s ≡ (history net es v).cutter s
  cutter_before s l =
      ap (λ q. option_map (λ (e : Entry). e.no) (greatest q))
      (filter_alike (cuts_off net (es ++ after) v s) (cuts_off net es v s) (es ++ after) (cuts_before s l)
      ∙ first_only (cuts_off net es v s) (λ f k. not_then es s f (λ q. omega (arith, l, k, q))))

  pub runs_before : (a : ℕ) → a ≤ w → runs_between v (history net (es ++ after) v) a w ≡ runs_between v (history net es v) a w
  runs_before a le = same_runs v (history net es v) (history net (es ++ after) v) a w le (λ s l h. dead_before s h) (λ s l h. cutter_before s h)

-- a window that was found
module _ (entries : List Entry) (numbered : AreNumbered entries) (lo end : ℕ) (some : lo < end) (old new : Life) (w : Window)
    (first : first_differing old new lo end ≡ Some w.first) (is : Spans w.first (last_lived old new lo end) entries w) where
  abbrev z : ℕ
  z = last_lived old new lo end

  abbrev order : List Entry
  order = in_order entries

  abbrev base : List Entry
  base = take w.from order

  abbrev steps : List Entry
  steps = between w.from w.to order

  abbrev rest : List Entry
  rest = drop w.to order

  about : IsLifeWindow old new lo end w.first z
  about = window_is old new lo end some w.first first

  pub has_seconds : w.first < w.end
  has_seconds = omega (arith, is.last, about.some)

  pub rises : w.from ≤ w.to
  rises = places_rise order w.from w.to w.first w.end is.start is.earlier is.later has_seconds

  framed : AreFramed entries w.first z base steps rest
  framed = are_framed entries w.first z w.end w.from w.to is.last rises is.earlier is.onwards is.through is.later

  parts : order ≡ (base ++ steps) ++ rest
  parts = framed.whole ∙ sym (append_assoc base steps rest)

  each_part : (P : Entry → Type 0) → All P order → AllByRecursion P (base ++ steps)
  each_part P all = each_left P (base ++ steps) rest (subst (AllByRecursion P) parts (recursion_from_All P order all))

  pub ready : (devices : ℕ) → NameDevices devices entries → AreReady devices w.first w.end base steps
  ready devices names =
      let named : All (λ e. e.device < devices) order = each_kept entries (λ e. e.device < devices) (All-filter (λ e. e.kept) (λ e. e.device < devices) entries names) in
      record {
        kept = All-from_recursion (λ e. IsTrue e.kept) (base ++ steps) (each_part (λ e. IsTrue e.kept) (each_kept entries (λ e. IsTrue e.kept) (filter_passes (λ e. e.kept) entries)));
        ordered = rising_pairs (base ++ steps) (in_order_left (base ++ steps) rest (subst IsInOrder parts (in_order_rises entries numbered)));
        earlier = is.earlier;
        between =
            All-from_recursion (λ e. (w.first ≤ e.second) × (e.second < w.end)) steps
            (each_as (λ e. (w.first ≤ e.second) × (e.second ≤ z)) (λ e. (w.first ≤ e.second) × (e.second < w.end)) steps (λ e h. (h.0, omega (arith, h.1, is.last))) framed.inside);
        named = All-from_recursion (λ e. e.device < devices) steps (each_right (λ e. e.device < devices) base steps (each_part (λ e. e.device < devices) named));
      }

  counted : length steps ≡ kept_within entries w.first z
  counted = kept_counted entries base steps rest w.first z framed.whole framed.earlier framed.inside framed.later

  -- the searches of the window are counted
  pub few : (net : Network) → 1 + length steps + turns_between net w.first (w.end - 1) ≤ life_searches net entries old new lo end
  few net =
      let last : w.end - 1 ≡ z = omega (arith, is.last) in
      let all : life_searches net entries old new lo end ≡ 1 + kept_within entries w.first z + turns_between net w.first z =
      ap (λ (o : Option ℕ). option_map_or (λ a. 1 + kept_within entries a z + turns_between net a z) o 0) first in
      omega (arith, all, counted, ap (turns_between net w.first) last)

  -- a section's new runs are the old ones with those of the window in their places
  module _ (net : Network) (k : ℕ) (has : slice_get (map (λ d. d.life) net.devices) k ≡ Some new) (lists window : List (List Run))
      (were : AreRuns (with_life net k old) entries lo end lists) (found : window ≡ all_runs net (base ++ steps) w.first w.end) where
    inside : (v : ℕ) → IsSection net v → runs_at window v ≡ runs_between v (history net entries v) w.first w.end
    inside v section =
        ap (λ (ls : List (List Run)). runs_at ls v) found
        ∙ at_section net (base ++ steps) w.first w.end v section
        ∙ sym (runs_before net v w.end (base ++ steps) rest (recursion_from_All (λ e. w.end ≤ e.second) rest is.later) w.first (omega (arith, has_seconds)))
        ∙ ap (λ (q : List Entry). runs_between v (history net q v) w.first w.end) (sym parts)
        ∙ sym (runs_in_order entries (λ test. in_order_greatest test entries numbered) net v w.first w.end (omega (arith, has_seconds)))

    pub news : (v : ℕ) → IsSection net v → splice w.first w.end (runs_at lists v) (runs_at window v) ≡ runs_between v (history net entries v) lo end
    news v section =
        let next : w.end ≡ suc z = omega (arith, is.last) in
        ap (λ q. splice w.first w.end q (runs_at window v)) (were.defined v section)
        ∙ ap (splice w.first w.end (runs_between v (history (with_life net k old) entries v) lo end)) (inside v section)
        ∙ ap (λ t. splice w.first t (runs_between v (history (with_life net k old) entries v) lo end) (runs_between v (history net entries v) w.first t)) next
        ∙ sym (life_runs net entries k v old new has lo end w.first z about)

    pub news_of_node : (v : ℕ) → IsSection net v → AreOfNode v (splice w.first w.end (runs_at lists v) (runs_at window v))
    news_of_node v section = subst (AreOfNode v) (sym (news v section)) (runs_of_node v (history net entries v) lo end)

    pub news_are : (delta : List (ℕ × List Run)) → IsDelta net delta lists (λ v. splice w.first w.end (runs_at lists v) (runs_at window v))
        → IsDelta net delta lists (λ v. runs_between v (history net entries v) lo end)
    news_are delta given =
        is_delta_as net delta lists (λ v. splice w.first w.end (runs_at lists v) (runs_at window v)) (λ v. runs_between v (history net entries v) lo end) news given

-- where no section's runs change
pub nothing_new : (net : Network) (lists : List (List Run)) (now : ℕ → List Run) → ((v : ℕ) → IsSection net v → now v ≡ runs_at lists v) → IsDelta net [] lists now
nothing_new net lists now same =
    record {
      sections = λ v rs found. absurd (none-some rs found);
      named = λ v rs found. absurd (none-some rs found);
      others = λ v section none. same v section;
    }

-- no section's runs change where both lives hold the same seconds
pub unchanged : (net : Network) (entries : List Entry) (k : ℕ) (old new : Life) (lo end : ℕ) (lists : List (List Run)) → lo < end → slice_get (map (λ d. d.life) net.devices) k ≡ Some new
    → first_differing old new lo end ≡ None → AreRuns (with_life net k old) entries lo end lists → IsDelta net [] lists (λ v. runs_between v (history net entries v) lo end)
unchanged net entries k old new lo end lists some has none were =
    nothing_new net lists (λ v. runs_between v (history net entries v) lo end)
    (λ v section. life_still net entries k v old new has lo end (omega (arith, some)) (none_is old new lo end some none) ∙ sym (were.defined v section))

-- the runs without the last device are those where it is never alive
pub are_runs_never : (net : Network) (entries : List Entry) (k lo end : ℕ) (lists : List (List Run)) → length net.devices ≡ k + 1 → lo ≤ end
    → AreRuns (without_last_device net) entries lo end lists → AreRuns (with_life net k never) entries lo end lists
are_runs_never net entries k lo end lists last le were =
    let more : Network = with_life net k never in
    let less : Network = without_last_device net in
    let defined : (v : ℕ) → IsSection more v → runs_at lists v ≡ runs_between v (history more entries v) lo end = λ v section.
    were.defined v section
    ∙ sym (same_runs v (history less entries v) (history more entries v) lo end le
    (λ s l h. dead_same less more entries v s (under_never net k s v last)) (λ s l h. cutter_same less more entries v s (under_never net k s v last))) in
    record {
      count = were.count;
      places = were.places;
      empty = were.empty;
      defined = defined;
      related = λ v section r. subst (λ (rs : List Run). Contains rs r ↔ IsRun v (history more entries v) lo end r) (sym (defined v section)) (listed_are_runs v (history more entries v) lo end r);
    }
