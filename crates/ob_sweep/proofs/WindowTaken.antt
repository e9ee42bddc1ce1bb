-- The tracks of all nodes as the entries of a window are taken, second by second.
use Rattle.std.proofs.Common.{◌≡◌, ◌==◌, ◌&&◌, ◌+◌, ◌-◌, ◌<◌, ◌≤◌, ℕ, zero, suc, inl, inr, Bool, true, cond, List, [], ◌∷◌, ◌++◌, Option, None, Some, refl, sym, ◌∙◌, ap, subst, arith, length, get_or, take, drop}
use Rattle.std.specs.List.{All}
use Rattle.std.proofs.lemmas.Bool.{and_parts, cases_Bool, cond-false, cond-true, eqb-true, false≢true, or_cases}
use Rattle.std.proofs.lemmas.List.{drop_all, take-append-drop}
use Rattle.std.proofs.lemmas.List.Elements.{All-append, All-same, All-take, All-weaker}
use Rattle.std.proofs.lemmas.Option.{none-some, same_Some}
use Rattle.ob_base.specs.declared.Pos.{Pos}
use Rattle.ob_base.specs.declared.Pos.TheVariants.{Opened, Closed}
use Rattle.ob_net.specs.Apart.{device_at}
use Rattle.ob_net.specs.Network.{Network}
use Rattle.ob_net.specs.Nodes.{is_among}
use Rattle.ob_net.specs.Walk.{has_ends, is_closed, is_supplied}
use Rattle.ob_net.specs.declared.net.Device.{Device}
use Rattle.ob_net.specs.declared.tracer.CutEnd.{CutEnd}
use Rattle.ob_sheet.specs.declared.Entry.{Entry}
use Rattle.ob_sweep.specs.Acting.{moment_at, moment_of, moved, moved_all}
use Rattle.ob_sweep.specs.CutOffs.{GoOwnOutside, GoThrough, HasFound, IsCut, nodes_through, other_end}
use Rattle.ob_sweep.specs.Moments.{Moment}
use Rattle.ob_sweep.specs.OneChange.{IsFirst, IsOneChange, JoinsSections}
use Rattle.ob_sweep.specs.States.{IsGone, IsState, IsTaken}
use Rattle.ob_sweep.specs.Timeline.{IsSection}
use Rattle.ob_sweep.specs.Tracks.{AreTracked, GoBySections, IsSecond, IsTracked, goes_through}
use Rattle.ob_sweep.specs.declared.Run.{Run}
use Rattle.ob_sweep.specs.declared.cut_off.CutOff.{CutOff}
use Rattle.ob_sweep.specs.declared.difference.Differences.{Differences}
use Rattle.ob_sweep.specs.declared.track.Track.{Track}
use Rattle.ob_sweep.proofs.Passed.{second_passed}
use Rattle.ob_sweep.proofs.Tracked.{tracked_first}
use Rattle.ob_sweep.proofs.WindowMoments.{moment_of_none, moment_of_parts}

-- either end of a device that joins two sections is a section
end_section : (net : Network) (x y : ℕ) (d : Device) → has_ends x y d ≡ true → IsSection net d.a → IsSection net d.b → IsSection net x
end_section net x y d ends a b =
    elim (or_cases (d.a == x && d.b == y) (d.a == y && d.b == x) ends) as (λ _. IsSection net x) [
      | inl p ↦ subst (IsSection net) (eqb-true d.a x (and_parts (d.a == x) (d.b == y) p).0) a
      | inr p ↦ subst (IsSection net) (eqb-true d.b x (and_parts (d.a == y) (d.b == x) p).1) b
    ]

-- what the nodes that are supplied through it go by is a section
through_section : (net : Network) (ps : List Pos) (device : ℕ) (cut : Option CutEnd) (found : List ℕ) (v w : ℕ) (pos : Pos) → HasFound net ps device cut found → JoinsSections net device
    → is_among (nodes_through cut found) v ≡ true → cond (is_closed pos) (Some (other_end cut)) None ≡ Some w → IsSection net w
through_section net ps device (Some cut) found v w Closed h joins among is =
    subst (IsSection net) (same_Some cut.other w is) (end_section net cut.other cut.end (device_at net.devices device) h.ends joins.0 joins.1)
through_section net ps device (Some cut) found v w Opened h joins among is = absurd (none-some w is)
through_section net ps device None found v w pos h joins among is = absurd (false≢true among)

-- where each node goes by its own runs or through the device, a section goes by a section
pub by_sections : (net : Network) (c : CutOff) (tracks : List Track) → IsCut net c → JoinsSections net c.device → GoThrough c tracks → GoBySections net tracks
by_sections net c tracks of joins goes v w d l section is =
    let has : ℕ → Bool = is_among (nodes_through c.cut c.tracer.found) in
    let pos : Pos = get_or c.positions.items c.device Opened in
    let through : Option ℕ = cond (is_closed pos) (Some (other_end c.cut)) None in
    let source : goes_through has (other_end c.cut) pos v ≡ Some w = sym (goes v d l) ∙ is in
    elim (cases_Bool (has v)) as (λ _. IsSection net w) [
      | inl t ↦
          through_section net c.positions.items c.device c.cut c.tracer.found v w pos of.found joins t (sym (cond-true (has v) through (Some v) t) ∙ source)
      | inr n ↦ subst (IsSection net) (same_Some v w (sym (cond-false (has v) through (Some v) n) ∙ source)) section
    ]

-- before the entries a section goes by itself
pub own_sections : (net : Network) (device first : ℕ) (positions : List Pos) (x : Differences) → IsFirst device first positions x → GoBySections net x.tracks.items
own_sections net device first positions x h v w d l section is = subst (IsSection net) (same_Some v w (sym (h.own v d l).2 ∙ is)) section

-- and its track holds up to the first second
own_tracked : (net : Network) (device first end : ℕ) (positions : List Pos) (entries : List Entry) (lists : List (List Run)) (x : Differences) → IsFirst device first positions x
    → (change : IsOneChange net device first end positions entries lists) → AreTracked net change.old change.new change.lo first first x.tracks.items
own_tracked net device first end positions entries lists x h change v d l section =
    let own = h.own v d l in
    let y : Track = get_or x.tracks.items v d in
    let found : IsTracked change.old change.new change.lo first first v [] first (Some v) =
    tracked_first change.old change.new change.lo first change.from v (Some v) (λ s p q. (change.earlier v s p (omega (arith, q))).deenergized) in
    subst (λ (o : Option ℕ). IsTracked change.old change.new change.lo first first v y.runs.items y.reached o) (sym own.2)
    (subst (λ (n : ℕ). IsTracked change.old change.new change.lo first first v y.runs.items n (Some v)) (sym own.1)
    (subst (λ (rs : List Run). IsTracked change.old change.new change.lo first first v rs first (Some v)) (sym own.0) found))

-- the positions after some entries and more of them
moved_on : (net : Network) (t : ℕ) (ps : List Pos) (xs ys : List Entry) → moved_all net t ps (xs ++ ys) ≡ moved_all net t (moved_all net t ps xs) ys
moved_on net t ps [] ys = refl
moved_on net t ps (x ∷ xs) ys = moved_on net t (moved net t ps x) xs ys

-- the entries of a window were taken up to a place, all those up to a second, and the tracks hold up to its end
pub record IsGoneTo (net : Network) (device first end : ℕ) (positions : List Pos) (entries : List Entry) (lists : List (List Run)) (place : ℕ) (now : Differences) : Type 0 where
  pub last : ℕ
  pub from : first ≤ last
  pub upto : last < end
  pub before : All (λ e. e.second ≤ last) (take place entries)
  pub behind : All (λ e. last < e.second) (drop place entries)
  pub device_is : now.cut.device ≡ device
  pub second_as_of : now.cut.second ≡ first
  pub positions_are : now.positions.items ≡ moved_all net first positions (take place entries)
  pub through : GoThrough now.cut now.tracks.items
  pub tracked : (change : IsOneChange net device first end positions entries lists) → AreTracked net change.old change.new change.lo first (suc last) now.tracks.items

module _ (net : Network) (device first end : ℕ) (positions : List Pos) (entries : List Entry) (lists : List (List Run)) where
  -- a second as it is known of the change, about the positions before it and its own entries
  second_of : (change : IsOneChange net device first end positions entries lists) (c : CutOff) (ps qs : List Pos) (s : ℕ) (group : List Entry) → first ≤ s → s < end → c.device ≡ device
      → c.second ≡ first → qs ≡ ps → moment_at net first positions entries s ≡ moment_of net first ps group
      → IsSecond (λ v rs. is_supplied net rs v) c.device change.old change.new s (moment_of net c.second qs group)
  second_of change c ps qs s group a b device_is second_as_of at m =
      subst (λ (d : ℕ). IsSecond (λ v rs. is_supplied net rs v) d change.old change.new s (moment_of net c.second qs group)) (sym device_is)
      (subst (λ (t : ℕ). IsSecond (λ v rs. is_supplied net rs v) device change.old change.new s (moment_of net t qs group)) (sym second_as_of)
      (subst (λ (rs : List Pos). IsSecond (λ v us. is_supplied net us v) device change.old change.new s (moment_of net first rs group)) (sym at)
      (subst (λ (x : Moment). IsSecond (λ v us. is_supplied net us v) device change.old change.new s x) m (change.within s a b))))

  -- seconds without entries go by
  module _ (place : ℕ) (now : Differences) (state : IsState net now) (h : IsGoneTo net device first end positions entries lists place now)
      (change : IsOneChange net device first end positions entries lists) where
    none_passed : (s : ℕ) → first ≤ s → s < end → All (λ e. e.second < s) (take place entries) → All (λ e. s < e.second) (drop place entries)
        → AreTracked net change.old change.new change.lo first s now.tracks.items → AreTracked net change.old change.new change.lo first (suc s) now.tracks.items
    none_passed s a b before behind tracked =
        second_passed net now.cut [] now.tracks.items state.of tt h.through change.old change.new change.lo first s change.from
        (second_of change now.cut (moved_all net first positions (take place entries)) now.cut.positions.items s [] a b h.device_is h.second_as_of
        (sym state.positions ∙ h.positions_are) (moment_of_none net first positions entries place s before behind))
        tracked

    gap_passed : (n a : ℕ) → first ≤ a → a + n ≤ end → All (λ e. e.second < a) (take place entries) → All (λ e. a + n ≤ e.second) (drop place entries)
        → AreTracked net change.old change.new change.lo first a now.tracks.items → AreTracked net change.old change.new change.lo first (a + n) now.tracks.items
    gap_passed zero a l m before behind tracked =
        let same : a ≡ a + zero = omega arith in
        subst (λ k. AreTracked net change.old change.new change.lo first k now.tracks.items) same tracked
    gap_passed (suc n) a l m before behind tracked =
        let same : suc a + n ≡ a + suc n = omega arith in
        subst (λ k. AreTracked net change.old change.new change.lo first k now.tracks.items) same
        (gap_passed n (suc a) (omega (arith, l)) (omega (arith, m))
        (All-weaker (λ (e : Entry). e.second < a) (λ e. e.second < suc a) (λ e p. omega (arith, p)) (take place entries) before)
        (All-weaker (λ (e : Entry). a + suc n ≤ e.second) (λ e. suc a + n ≤ e.second) (λ e p. omega (arith, p)) (drop place entries) behind)
        (none_passed a l (omega (arith, m)) before
        (All-weaker (λ (e : Entry). a + suc n ≤ e.second) (λ e. a < e.second) (λ e p. omega (arith, p)) (drop place entries) behind) tracked))

    -- up to a second before which there are no more entries
    pub tracked_to : (s : ℕ) → h.last < s → s ≤ end → All (λ e. s ≤ e.second) (drop place entries) → AreTracked net change.old change.new change.lo first s now.tracks.items
    tracked_to s l m behind =
        let same : suc h.last + (s - suc h.last) ≡ s = omega (arith, l) in
        subst (λ k. AreTracked net change.old change.new change.lo first k now.tracks.items) same
        (gap_passed (s - suc h.last) (suc h.last) (omega (arith, h.from)) (omega (arith, same, m))
        (All-weaker (λ (e : Entry). e.second ≤ h.last) (λ e. e.second < suc h.last) (λ e p. omega (arith, p)) (take place entries) h.before)
        (All-weaker (λ (e : Entry). s ≤ e.second) (λ e. suc h.last + (s - suc h.last) ≤ e.second) (λ e p. omega (arith, p, same)) (drop place entries) behind)
        (h.tracked change))

  -- the entries of the first second
  pub gone_first : (place : ℕ) (was now : Differences) → first < end → IsFirst device first positions was → All (λ e. first ≤ e.second) entries
      → All (λ e. e.second ≤ first) (take place entries) → All (λ e. first < e.second) (drop place entries) → IsTaken net (take place entries) first lists was now
      → IsGoneTo net device first end positions entries lists place now
  gone_first place was now some h onwards before behind taken =
      let group : List Entry = take place entries in
      let own : GoOwnOutside was.cut was.tracks.items = λ v d l none. (h.own v d l).2 in
      let here : All (λ e. e.second ≡ first) group = λ k d l.
      let p : (get_or group k d).second ≤ first = before k d l in
      let q : first ≤ (get_or group k d).second = All-take (λ (e : Entry). first ≤ e.second) place entries onwards k d l in
      omega (arith, p, q) in
      record {
        last = first;
        from = omega arith;
        upto = some;
        before = before;
        behind = behind;
        device_is = taken.device ∙ h.device_is;
        second_as_of = taken.second_as_of ∙ h.second_as_of;
        positions_are = taken.positions ∙ ap (λ (t : ℕ). moved_all net t was.positions.items group) h.second_as_of ∙ ap (λ (ps : List Pos). moved_all net first ps group) h.positions_are;
        through = taken.through own;
        tracked = λ change.
            let next : first + 1 ≡ suc first = omega arith in
            subst (λ n. AreTracked net change.old change.new change.lo first n now.tracks.items) next
            (taken.tracked change.old change.new change.lo first change.hi change.from (omega (arith, some, change.upto)) change.runs (own_sections net device first positions was h) own
            (own_tracked net device first end positions entries lists was h change)
            (second_of change was.cut positions was.positions.items first group (omega arith) some h.device_is h.second_as_of h.positions_are
            (moment_of_parts first [] group (drop place entries) (λ k d l. absurd (omega (arith, l))) here behind net first positions entries (sym (take-append-drop place entries)))));
      }

  -- the entries of a later second
  pub gone_more : (place next second : ℕ) (group : List Entry) (was now : Differences) → IsState net was → JoinsSections net device
      → (h : IsGoneTo net device first end positions entries lists place was) → h.last < second → second < end
      → take next entries ≡ take place entries ++ group → drop place entries ≡ group ++ drop next entries
      → All (λ e. e.second ≡ second) group → All (λ e. second < e.second) (drop next entries) → IsGone net group second lists was now
      → IsGoneTo net device first end positions entries lists next now
  gone_more place next second group was now state joins h later within taken left own behind gone =
      let front : List Entry = take place entries in
      let earlier : All (λ e. e.second < second) front = All-weaker (λ (e : Entry). e.second ≤ h.last) (λ e. e.second < second) (λ e p. omega (arith, p, later)) front h.before in
      let onwards : All (λ e. second ≤ e.second) (drop place entries) =
      All-same (λ (e : Entry). second ≤ e.second) (drop place entries) (group ++ drop next entries) left
      (All-append (λ (e : Entry). second ≤ e.second) group (drop next entries)
      (All-weaker (λ (e : Entry). e.second ≡ second) (λ e. second ≤ e.second) (λ e p. omega (arith, p)) group own)
      (All-weaker (λ (e : Entry). second < e.second) (λ e. second ≤ e.second) (λ e p. omega (arith, p)) (drop next entries) behind)) in
      let parts : entries ≡ front ++ (group ++ drop next entries) = sym (take-append-drop place entries) ∙ ap (λ q. front ++ q) left in
      record {
        last = second;
        from = omega (arith, h.from, later);
        upto = within;
        before = All-same (λ (e : Entry). e.second ≤ second) (take next entries) (front ++ group) taken
            (All-append (λ (e : Entry). e.second ≤ second) front group
            (All-weaker (λ (e : Entry). e.second < second) (λ e. e.second ≤ second) (λ e p. omega (arith, p)) front earlier)
            (All-weaker (λ (e : Entry). e.second ≡ second) (λ e. e.second ≤ second) (λ e p. omega (arith, p)) group own));
        behind = behind;
        device_is = gone.device ∙ h.device_is;
        second_as_of = gone.second_as_of ∙ h.second_as_of;
        positions_are = gone.positions ∙ ap (λ (t : ℕ). moved_all net t was.positions.items group) h.second_as_of
            ∙ ap (λ (ps : List Pos). moved_all net first ps group) h.positions_are ∙ sym (moved_on net first positions front group)
            ∙ ap (moved_all net first positions) (sym taken);
        through = gone.through h.through;
        tracked = λ change.
            let one : second + 1 ≡ suc second = omega arith in
            subst (λ n. AreTracked net change.old change.new change.lo first n now.tracks.items) one
            (gone.tracked change.old change.new change.lo first change.hi change.from (omega (arith, within, change.upto)) change.runs
            (by_sections net was.cut was.tracks.items state.of (subst (JoinsSections net) (sym h.device_is) joins) h.through) h.through
            (tracked_to place was state h change second later (omega (arith, within)) onwards)
            (second_of change was.cut (moved_all net first positions front) was.positions.items second group (omega (arith, h.from, later)) within h.device_is h.second_as_of h.positions_are
            (moment_of_parts second front group (drop next entries) earlier own behind net first positions entries parts)));
      }

  -- after all entries
  pub gone_whole : (place : ℕ) (now : Differences) → IsState net now → (h : IsGoneTo net device first end positions entries lists place now) → length entries ≤ place
      → (change : IsOneChange net device first end positions entries lists) → AreTracked net change.old change.new change.lo first end now.tracks.items
  gone_whole place now state h whole change =
      tracked_to place now state h change end h.upto (omega arith)
      (All-same (λ (e : Entry). end ≤ e.second) (drop place entries) [] (drop_all place entries whole) (λ k d l. absurd (omega (arith, l))))
