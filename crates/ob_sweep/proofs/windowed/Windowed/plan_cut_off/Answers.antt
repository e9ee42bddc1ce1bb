use Rattle.std.proofs.Common.{◌≡◌, ℕ, ◌≤◌, ◌<◌, IfOk, List, length, map, take, sym, ap, ◌∙◌, arith, subst}
use Rattle.std.specs.List.{All, AllPairs}
use Rattle.ob_net.proofs.Lives.{length-as_of}
use Rattle.ob_sheet.specs.declared.Entry.{Entry}
use Rattle.ob_sheet.specs.Order.{in_order}
use Rattle.ob_sheet.specs.Positions.{entered}
use Rattle.ob_sheet.specs.Sheet.{NameDevices}
use Rattle.ob_sweep.specs.Deltas.{IsDelta}
use Rattle.ob_sweep.specs.Runs.{history, runs_between}
use Rattle.ob_sweep.specs.SheetChanges.{changed_order, with_change}
use Rattle.ob_sweep.specs.Timeline.{AreRuns}
use Rattle.ob_sweep.specs.declared.Run.{Run}
use Rattle.ob_sweep.proofs.Nearby.{device_named, steps_named}
use Rattle.ob_sweep.proofs.PlainWindow.{is_one_change, of_changed, steps_rise}
use Rattle.ob_sweep.proofs.Planned.{few, has_seconds, ready, rises}
use Rattle.ob_sweep.proofs.Replanned.{each_kept}
use Rattle.ob_sweep.proofs.Sweeps.{length-entered}
use Rattle.ob_sweep.proofs.windowed.Windowed.plan_cut_off.Goals as goal

pub window_of-window-requires-clause-below : goal.window_of-window-requires-clause-below
window_of-window-requires-clause-below c =
    let entries = c.args.sheet.now.entries in
    λ k d l. (each_kept entries (λ e. (c.args.first ≤ e.second) × (e.second < c.args.end)) c.requires.between k d l).1

pub entries_in_order-requires-clause-rising : goal.entries_in_order-requires-clause-rising
entries_in_order-requires-clause-rising c =
    let x = c.window_of-window.ensures in
    let w = c.window_of-window.result in
    rises c.args.sheet.now.entries c.args.change.now c.args.first c.args.end x.numbered c.requires.applies c.requires.some c.requires.between c.requires.changed_between w x.window

pub plan_one_device-requires-clause-device : goal.plan_one_device-requires-clause-device
plan_one_device-requires-clause-device c =
    let devices = length c.args.net.now.network.devices in
    subst (λ (d : ℕ). d < devices) (sym c.entry_of_change-device.ensures.device)
    (device_named devices c.args.sheet.now.entries c.args.change.now c.requires.applies c.requires.devices c.requires.changed_devices)

pub plan_one_device-requires-clause-positions : goal.plan_one_device-requires-clause-positions
plan_one_device-requires-clause-positions c =
    let x = c.window_of-window.ensures in
    let w = c.window_of-window.result in
    let net = c.args.net.now.network in
    let base : List Entry = take w.from (in_order c.args.sheet.now.entries) in
    ap length c.in_ok-positions.ensures.positions ∙ length-as_of net.devices w.first (entered net base) ∙ length-entered net base

pub plan_one_device-requires-clause-devices : goal.plan_one_device-requires-clause-devices
plan_one_device-requires-clause-devices c =
    let x = c.window_of-window.ensures in
    let w = c.window_of-window.result in
    let steps = c.deref.ensures.value ∙ c.in_ok-change_in_order.ensures ∙ ap (changed_order c.args.change.now) c.in_ok-steps.ensures.entries in
    let devices = length c.args.net.now.network.devices in
    subst (λ (es : List Entry). NameDevices devices es) (sym steps)
    (steps_named c.args.sheet.now.entries c.args.change.now c.args.first c.args.end x.numbered c.requires.applies c.requires.some c.requires.between c.requires.changed_between w x.window devices c.requires.changed_devices)

pub plan_one_device-requires-clause-rising : goal.plan_one_device-requires-clause-rising
plan_one_device-requires-clause-rising c =
    let x = c.window_of-window.ensures in
    let w = c.window_of-window.result in
    let steps = c.deref.ensures.value ∙ c.in_ok-change_in_order.ensures ∙ ap (changed_order c.args.change.now) c.in_ok-steps.ensures.entries in
    subst (λ (es : List Entry). AllPairs (λ e f. e.second ≤ f.second) es) (sym steps)
    (steps_rise c.args.sheet.now.entries c.args.change.now c.args.first c.args.end x.numbered c.requires.applies c.requires.some c.requires.between c.requires.changed_between w x.window (length c.args.net.now.network.devices) c.requires.changed_devices)

pub plan_one_device-requires-clause-some : goal.plan_one_device-requires-clause-some
plan_one_device-requires-clause-some c =
    let x = c.window_of-window.ensures in
    let w = c.window_of-window.result in
    has_seconds c.args.sheet.now.entries c.args.change.now c.args.first c.args.end x.numbered c.requires.applies c.requires.some c.requires.between c.requires.changed_between w x.window

pub plan_one_device-requires-clause-between : goal.plan_one_device-requires-clause-between
plan_one_device-requires-clause-between c =
    let x = c.window_of-window.ensures in
    let w = c.window_of-window.result in
    let steps = c.deref.ensures.value ∙ c.in_ok-change_in_order.ensures ∙ ap (changed_order c.args.change.now) c.in_ok-steps.ensures.entries in
    let r = ready c.args.sheet.now.entries c.args.change.now c.args.first c.args.end x.numbered c.requires.applies c.requires.some c.requires.between c.requires.changed_between w x.window (length c.args.net.now.network.devices) c.requires.changed_devices in
    subst (λ (es : List Entry). All (λ e. (w.first ≤ e.second) × (e.second < w.end)) es) (sym steps) r.between

pub plan_one_device-requires-clause-known : goal.plan_one_device-requires-clause-known
plan_one_device-requires-clause-known c =
    let x = c.window_of-window.ensures in
    let w = c.window_of-window.result in
    let steps = c.deref.ensures.value ∙ c.in_ok-change_in_order.ensures ∙ ap (changed_order c.args.change.now) c.in_ok-steps.ensures.entries in
    let net = c.args.net.now.network in
    let lists : List (List Run) = map (λ l. l.items) c.lists.result.now in
    let same : lists ≡ c.args.self.now = c.lists.ensures.lists ∙ c.self.view_is in
    let were : AreRuns net c.args.sheet.now.entries c.args.first c.args.end lists =
    subst (AreRuns net c.args.sheet.now.entries c.args.first c.args.end) (sym same) c.requires.runs in
    is_one_change c.args.sheet.now.entries c.args.change.now c.args.first c.args.end x.numbered c.requires.applies c.requires.some c.requires.between c.requires.changed_between w x.window
    net lists were c.requires.devices c.requires.changed_devices c.requires.plain c.entry_of_change-device.result.0 c.in_ok-positions.positions.items c.deref.result.now
    c.entry_of_change-device.ensures.device c.in_ok-positions.ensures.positions steps

pub returns-clause-delta : goal.returns-clause-delta
returns-clause-delta c =
    let x = c.window_of-window.ensures in
    let w = c.window_of-window.result in
    let steps = c.deref.ensures.value ∙ c.in_ok-change_in_order.ensures ∙ ap (changed_order c.args.change.now) c.in_ok-steps.ensures.entries in
    let net = c.args.net.now.network in
    let lists : List (List Run) = map (λ l. l.items) c.lists.result.now in
    let same : lists ≡ c.args.self.now = c.lists.ensures.lists ∙ c.self.view_is in
    let were : AreRuns net c.args.sheet.now.entries c.args.first c.args.end lists =
    subst (AreRuns net c.args.sheet.now.entries c.args.first c.args.end) (sym same) c.requires.runs in
    subst (λ (ls : List (List Run)). IfOk c.plan_one_device.result
    (λ delta. IsDelta net delta ls (λ v. runs_between v (history net (with_change c.args.change.now c.args.sheet.now.entries) v) c.args.first c.args.end))) same
    (of_changed c.args.sheet.now.entries c.args.change.now c.args.first c.args.end x.numbered c.requires.applies c.requires.some c.requires.between c.requires.changed_between w x.window
    net lists were c.requires.devices c.requires.changed_devices c.requires.plain c.entry_of_change-device.result.0 c.in_ok-positions.positions.items c.deref.result.now
    c.entry_of_change-device.ensures.device c.in_ok-positions.ensures.positions steps
    (λ (now : ℕ → List Run). IfOk c.plan_one_device.result (λ delta. IsDelta net delta lists now)) c.plan_one_device.ensures.delta)

pub returns-clause-searches : goal.returns-clause-searches
returns-clause-searches c =
    let x = c.window_of-window.ensures in
    let w = c.window_of-window.result in
    let steps = c.deref.ensures.value ∙ c.in_ok-change_in_order.ensures ∙ ap (changed_order c.args.change.now) c.in_ok-steps.ensures.entries in
    omega (arith, c.plan_one_device.ensures.searches, ap length steps, few c.args.sheet.now.entries c.args.change.now c.args.first c.args.end x.numbered c.requires.applies c.requires.some c.requires.between c.requires.changed_between w x.window)
