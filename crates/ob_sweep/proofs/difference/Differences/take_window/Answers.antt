use Rattle.std.proofs.Common.{◌≡◌, ◌<◌, ◌≤◌, ◌+◌, ◌-◌, ◌++◌, ℕ, List, length, take, drop, map, get_or, sym, ap, ◌∙◌, arith, subst, inl, inr}
use Rattle.std.specs.List.{All, AllPairs}
use Rattle.std.proofs.lemmas.Bool.{cases_eq, cases_lt}
use Rattle.std.proofs.lemmas.List.{drop-drop, drop-take, get_or-drop, get_or-take, get_or_default, length-drop, length-take-le, take-append-drop, take-take}
use Rattle.std.proofs.lemmas.List.Elements.{All-drop, All-same, All-take}
use Rattle.ob_net.specs.Network.{Network}
use Rattle.ob_sheet.specs.declared.Entry.{Entry}
use Rattle.ob_sweep.specs.OneChange.{JoinsSections}
use Rattle.ob_sweep.specs.States.{IsGone, IsState}
use Rattle.ob_sweep.specs.declared.Run.{Run}
use Rattle.ob_sweep.specs.declared.difference.Differences.{Differences}
use Rattle.ob_sweep.proofs.WindowTaken.{by_sections, gone_first, gone_more, gone_whole}
use Rattle.ob_sweep.proofs.difference.Differences.take_window.Goals as goal

-- the second of the entry at a place
abbrev second_at : List Entry → ℕ → Entry → ℕ
second_at entries place x = (get_or entries place x).second

-- the entries between two places
abbrev group : List Entry → ℕ → ℕ → List Entry
group entries place next = take (next - place) (drop place entries)

module _ (entries : List Entry) (place : ℕ) (x : Entry) (within : place < length entries) where
  abbrev here : ℕ
  here = second_at entries place x

  front_earlier : AllPairs (λ a b. a.second ≤ b.second) entries → All (λ e. e.second ≤ here) (take place entries)
  front_earlier rising k d l =
      let size : length (take place entries) ≡ place = length-take-le place entries (omega (arith, within)) in
      let rise : (get_or entries k d).second ≤ (get_or entries place d).second = rising k place d (omega (arith, l, size)) within in
      subst (λ (e : Entry). e.second ≤ here) (sym (get_or-take place entries k d (omega (arith, l, size))))
      (subst (λ (e : Entry). (get_or entries k d).second ≤ e.second) (get_or_default entries place d x within) rise)

  rest_onwards : AllPairs (λ a b. a.second ≤ b.second) entries → All (λ e. here ≤ e.second) (drop place entries)
  rest_onwards rising k d l =
      let size : length (drop place entries) ≡ length entries - place = length-drop place entries in
      let same : here ≡ (get_or entries place d).second = ap (λ (e : Entry). e.second) (get_or_default entries place x d within) in
      subst (λ (e : Entry). here ≤ e.second) (sym (get_or-drop place entries k d))
      (elim (cases_eq k 0) as (λ _. here ≤ (get_or entries (place + k) d).second) [
        | inl none ↦ let at : place ≡ place + k = omega arith in subst (λ n. here ≤ (get_or entries n d).second) at (omega (arith, same))
        | inr some ↦
            let rise : (get_or entries place d).second ≤ (get_or entries (place + k) d).second = rising place (place + k) d (omega arith) (omega (arith, l, size)) in
            omega (arith, rise, same)
      ])

  -- what holds of each entry from the place on holds of the one there
  at_place : (P : Entry → Type 0) → All P (drop place entries) → P (get_or entries place x)
  at_place P h =
      let at : place + 0 ≡ place = omega arith in
      subst P (get_or-drop place entries 0 x ∙ ap (λ n. get_or entries n x) at) (h 0 x (omega (arith, within, length-drop place entries)))

-- the place behind the entries of a second is past each of them
place_ahead : (entries : List Entry) (place next : ℕ) (x : Entry) → place < length entries → place ≤ next → All (λ e. second_at entries place x < e.second) (drop next entries) → place < next
place_ahead entries place next x within from rest =
    elim (cases_lt place next) as (λ _. place < next) [
      | inl l ↦ l
      | inr g ↦
          let same : next ≡ place = omega (arith, from, g) in
          let bad : second_at entries place x < second_at entries place x =
          at_place entries place x within (λ e. second_at entries place x < e.second) (subst (λ n. All (λ e. second_at entries place x < e.second) (drop n entries)) same rest) in
          absurd (omega (arith, bad))
    ]

module _ (entries : List Entry) (place next : ℕ) (rises : place ≤ next) (within : next ≤ length entries) where
  abbrev between : List Entry
  between = group entries place next

  on : place + (next - place) ≡ next
  on = omega arith

  group_taken : drop place (take next entries) ≡ between
  group_taken = ap (λ n. drop place (take n entries)) (sym on) ∙ drop-take place (next - place) entries

  taken_parts : take next entries ≡ take place entries ++ between
  taken_parts = sym (take-append-drop place (take next entries)) ∙ ap (λ (q : List Entry). q ++ drop place (take next entries)) (take-take place next entries rises)
      ∙ ap (λ (q : List Entry). take place entries ++ q) group_taken

  left_parts : drop place entries ≡ between ++ drop next entries
  left_parts =
      sym (take-append-drop (next - place) (drop place entries))
      ∙ ap (λ (q : List Entry). between ++ q) (drop-drop (next - place) place entries ∙ ap (λ n. drop n entries) on)

  group_size : length between ≡ next - place
  group_size = length-take-le (next - place) (drop place entries) (omega (arith, length-drop place entries, within, rises))

  group_own : (x : Entry) → place < length entries → AllPairs (λ a b. a.second ≤ b.second) entries → All (λ e. e.second ≤ second_at entries place x) (take next entries)
      → All (λ e. e.second ≡ second_at entries place x) between
  group_own x small rising upto k d l =
      let low : second_at entries place x ≤ (get_or between k d).second =
      All-take (λ (e : Entry). second_at entries place x ≤ e.second) (next - place) (drop place entries) (rest_onwards entries place x small rising) k d l in
      let high : (get_or between k d).second ≤ second_at entries place x =
      All-same (λ (e : Entry). e.second ≤ second_at entries place x) between (drop place (take next entries)) (sym group_taken)
      (All-drop (λ (e : Entry). e.second ≤ second_at entries place x) place (take next entries) upto) k d l in
      omega (arith, low, high)

pub loop-place-init : goal.loop-place-init
loop-place-init c =
    let net : Network = c.args.net.now.network in
    let entries : List Entry = c.args.entries.now in
    let lists : List (List Run) = map (λ q. q.items) c.args.old.now in
    let place = c.place_behind-place.result in
    let behind = c.place_behind-place.ensures in
    let done = c.in_ok-take_second.ensures in
    record {
      within = behind.within;
      state = done.state;
      gone = gone_first net c.args.self.now.cut.device c.args.first c.args.end c.args.self.now.positions.items entries lists place c.args.self.now c.take_second.new.self
          c.requires.some c.requires.own (λ k d l. (c.requires.between k d l).0) behind.taken behind.rest done.taken;
      network = done.network;
      node_room = done.node_room;
      device_room = done.device_room;
      searches = omega (arith, done.searches, length-take-le place entries behind.within);
    }

pub place_behind-next-requires-clause-earlier : goal.place_behind-next-requires-clause-earlier
place_behind-next-requires-clause-earlier c =
    front_earlier c.args.entries.now c.loop-place.place c.index-entries-place.result c.loop-place-test.true c.requires.rising

pub loop-place-smaller : goal.loop-place-smaller
loop-place-smaller c =
    let ahead : c.loop-place.place < c.place_behind-next.result =
    place_ahead c.args.entries.now c.loop-place.place c.place_behind-next.result c.index-entries-place.result c.loop-place-test.true c.place_behind-next.ensures.later
    c.place_behind-next.ensures.rest in
    omega (arith, ahead, c.loop-place-test.true)

pub loop-place-preserved : goal.loop-place-preserved
loop-place-preserved c =
    let net : Network = c.args.net.now.network in
    let entries : List Entry = c.args.entries.now in
    let lists : List (List Run) = map (λ q. q.items) c.args.old.now in
    let place = c.loop-place.place in
    let next = c.place_behind-next.result in
    let x : Entry = c.index-entries-place.result in
    let small : place < length entries = c.loop-place-test.true in
    let behind = c.place_behind-next.ensures in
    let was : Differences = c.loop-place.self in
    let now : Differences = c.take.new.self in
    let h = c.loop-place.invariant in
    let done = c.in_ok-take.ensures in
    record {
      within = behind.within;
      state = subst (λ (n : Network). IsState n now) h.network done.state;
      gone = gone_more net c.args.self.now.cut.device c.args.first c.args.end c.args.self.now.positions.items entries lists place next (second_at entries place x) (group entries place next) was now
          h.state c.requires.ends h.gone (at_place entries place x small (λ e. h.gone.last < e.second) h.gone.behind) (c.requires.between place x small).1
          (taken_parts entries place next behind.later behind.within) (left_parts entries place next behind.later behind.within)
          (group_own entries place next behind.later behind.within x small c.requires.rising behind.taken) behind.rest
          (subst (λ (n : Network). IsGone n (group entries place next) (second_at entries place x) lists was now) h.network done.gone);
      network = done.network ∙ h.network;
      node_room = done.node_room ∙ h.node_room;
      device_room = done.device_room ∙ h.device_room;
      searches = omega (arith, done.searches, h.searches, group_size entries place next behind.later behind.within, behind.later);
    }

pub returns-clause-tracked : goal.returns-clause-tracked
returns-clause-tracked c =
    let net : Network = c.args.net.now.network in
    let entries : List Entry = c.args.entries.now in
    let lists : List (List Run) = map (λ q. q.items) c.args.old.now in
    let h = c.loop-place.invariant in λ change.
    gone_whole net c.args.self.now.cut.device c.args.first c.args.end c.args.self.now.positions.items entries lists c.loop-place.place c.loop-place.self h.state h.gone c.loop-place-test.false change

pub returns-clause-sections : goal.returns-clause-sections
returns-clause-sections c =
    let net : Network = c.args.net.now.network in
    let now : Differences = c.loop-place.self in
    let h = c.loop-place.invariant in
    by_sections net now.cut now.tracks.items h.state.of (subst (JoinsSections net) (sym h.gone.device_is) c.requires.ends) h.gone.through
