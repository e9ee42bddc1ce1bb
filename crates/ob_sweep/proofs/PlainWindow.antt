-- The window of a change whose device joins two sections, where no life begins or ends: what the change of one device is given.
use Rattle.std.proofs.Common.{◌≡◌, ℕ, ◌+◌, ◌-◌, ◌<◌, ◌≤◌, List, length, get_or, take, drop, sym, ◌∙◌, ap, arith, subst}
use Rattle.std.specs.List.{AllPairs}
use Rattle.ob_base.specs.declared.Pos.{Pos}
use Rattle.ob_net.specs.Network.{Network}
use Rattle.ob_net.specs.Walk.{is_supplied}
use Rattle.ob_sheet.specs.declared.Entry.{Entry}
use Rattle.ob_sheet.specs.Order.{in_order}
use Rattle.ob_sheet.specs.Positions.{positions}
use Rattle.ob_sheet.specs.Sheet.{AreNumbered, NameDevices}
use Rattle.ob_sweep.specs.Acting.{moment_at}
use Rattle.ob_sweep.specs.OneChange.{IsOneChange}
use Rattle.ob_sweep.specs.Plain.{IsPlain}
use Rattle.ob_sweep.specs.Runs.{History, history, runs_between}
use Rattle.ob_sweep.specs.SheetChanges.{CanChange, changed_order, with_change}
use Rattle.ob_sweep.specs.Timeline.{AreRuns, LieBetween}
use Rattle.ob_sweep.specs.Tracks.{IsSecond}
use Rattle.ob_sweep.specs.Windows.{IsWindow, device_of, first_changed, last_changed}
use Rattle.ob_sweep.specs.declared.change.SheetChange.{SheetChange}
use Rattle.ob_sweep.specs.declared.window.Window.{Window}
use Rattle.ob_sweep.specs.declared.Run.{Run}
use Rattle.ob_sweep.proofs.Framed.{AreFramed, first_from, first_to_last, last_below}
use Rattle.ob_sweep.proofs.Growth.{by_second}
use Rattle.ob_sweep.proofs.Planned.{between, framed_so, ready}
use Rattle.ob_sweep.proofs.Swept.{ordered_steps}
use Rattle.ob_sweep.proofs.WindowSeconds.{same_at_end, same_before, same_behind, second_of_window}

module _ (entries : List Entry) (change : SheetChange) (lo end : ℕ) (numbered : AreNumbered entries) (ok : CanChange change entries)
    (some : lo < end) (lie : LieBetween lo end entries) (lie_changed : LieBetween lo end (with_change change entries)) where
  abbrev a : ℕ
  a = first_changed change

  abbrev z : ℕ
  z = last_changed change entries (end - 1)

  -- the histories of the log before the change and after it
  abbrev pub before_change : Network → ℕ → History
  before_change net v = history net entries v

  abbrev pub after_change : Network → ℕ → History
  after_change net v = history net (with_change change entries) v

  module _ (front mid rest : List Entry) (framed : AreFramed entries a z front mid rest) (net : Network) (lists : List (List Run))
      (were : AreRuns net entries lo end lists) (names : NameDevices (length net.devices) entries) (names_after : NameDevices (length net.devices) (with_change change entries))
      (plain : IsPlain net (device_of change) a (z + 1)) where
    -- one second of these histories, where the new positions are those that the steps give from some first ones on
    abbrev Second : ℕ → ℕ → ℕ → List Pos → List Entry → Type 0
    Second s device first given steps =
        IsSecond (λ v ps. is_supplied net ps v) device (before_change net) (after_change net) s (moment_at net first given steps s)

    second_is : (s : ℕ) → a ≤ s → s ≤ z → Second s (device_of change) a (positions net front a) (changed_order change mid)
    second_is s l m =
        second_of_window entries change lo end numbered ok some lie lie_changed front mid rest framed net names names_after
        (λ t k n. plain.still t k (omega (arith, n))) s l m

    -- the window as it is given: its device, its seconds, the positions before it and its steps are those of the change
    module _ (device first until : ℕ) (given : List Pos) (steps : List Entry) (of_it : device ≡ device_of change) (first_is : first ≡ a) (until_is : until ≡ z + 1)
        (given_are : given ≡ positions net front a) (steps_are : steps ≡ changed_order change mid) where
      second_given : (s : ℕ) → first ≤ s → s < until → Second s device first given steps
      second_given s l m =
          subst (λ d. Second s d first given steps) (sym of_it)
          (subst (λ t. Second s (device_of change) t given steps) (sym first_is)
          (subst (λ (ps : List Pos). Second s (device_of change) a ps steps) (sym given_are)
          (subst (λ (es : List Entry). Second s (device_of change) a (positions net front a) es) (sym steps_are)
          (second_is s (omega (arith, l, first_is)) (omega (arith, m, until_is))))))

      pub one_change : IsOneChange net device first until given steps lists
      one_change =
          let last = last_below entries change lo end numbered ok some lie lie_changed in
          let rise = first_to_last entries change lo end numbered ok some lie lie_changed in
          let from = first_from entries change lo end numbered ok some lie lie_changed in
          record {
            old = before_change net;
            new = after_change net;
            lo = lo;
            hi = end;
            from = omega (arith, from, first_is);
            some = omega (arith, rise, first_is, until_is);
            upto = omega (arith, last, until_is);
            runs = were.defined;
            earlier = λ v s l m. same_before entries change lo end numbered ok some lie lie_changed front mid rest framed net v s (omega (arith, m, first_is));
            within = second_given;
            later = λ v s l m. same_behind entries change lo end numbered ok some lie lie_changed front mid rest framed net v s (omega (arith, l, until_is)) m;
            seam = λ v s l is.
                let at : s ≡ z = omega (arith, is, until_is) in
                subst (λ t. (after_change net v).deenergized t ≡ (before_change net v).deenergized t) (sym at)
                (same_at_end entries change lo end numbered ok some lie lie_changed front mid rest framed net v (omega (arith, l, until_is)));
          }

-- the same of a window that was found
module _ (entries : List Entry) (change : SheetChange) (lo end : ℕ) (numbered : AreNumbered entries) (ok : CanChange change entries)
    (some : lo < end) (lie : LieBetween lo end entries) (lie_changed : LieBetween lo end (with_change change entries)) (w : Window) (is : IsWindow change entries end w) where
  abbrev first_ones : List Entry
  first_ones = take w.from (in_order entries)

  abbrev window_steps : List Entry
  window_steps = changed_order change (between w.from w.to (in_order entries))

  -- the seconds of the steps rise
  pub steps_rise : (devices : ℕ) → NameDevices devices (with_change change entries) → AllPairs (λ e f. e.second ≤ f.second) window_steps
  steps_rise devices names i j d l m =
      let r = ready entries change lo end numbered ok some lie lie_changed w is devices names in
      let first_one : Entry = get_or window_steps i d in
      let other : Entry = get_or window_steps j d in
      by_second first_one other (ordered_steps first_ones window_steps r.ordered i j d l m)

  module _ (net : Network) (lists : List (List Run)) (were : AreRuns net entries lo end lists) (names : NameDevices (length net.devices) entries)
      (names_after : NameDevices (length net.devices) (with_change change entries))
      (plain : IsPlain net (device_of change) (first_changed change) (last_changed change entries (end - 1) + 1))
      (device : ℕ) (given : List Pos) (steps : List Entry) (of_it : device ≡ device_of change) (given_are : given ≡ positions net first_ones w.first) (steps_are : steps ≡ window_steps) where
    pub is_one_change : IsOneChange net device w.first w.end given steps lists
    is_one_change =
        one_change entries change lo end numbered ok some lie lie_changed first_ones (between w.from w.to (in_order entries)) (drop w.to (in_order entries))
        (framed_so entries change lo end numbered ok some lie lie_changed w is) net lists were names names_after plain device w.first w.end given steps of_it is.first is.last
        (given_are ∙ ap (positions net first_ones) is.first) steps_are

    -- what holds of the new runs by such a change holds of those of the changed log
    pub of_changed : (P : (ℕ → List Run) → Type 0)
        → ((found : IsOneChange net device w.first w.end given steps lists) → P (λ v. runs_between v (found.new v) found.lo found.hi))
        → P (λ v. runs_between v (history net (with_change change entries) v) lo end)
    unfolding is_one_change one_change
    of_changed P h = h is_one_change
