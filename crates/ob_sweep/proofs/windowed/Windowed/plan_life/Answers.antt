use Rattle.std.proofs.Common.{◌≡◌, ◌≤◌, ◌<◌, ◌++◌, List, length, map, take, sym, ap, ◌∙◌, arith, subst, IsTrue}
use Rattle.std.proofs.lemmas.List.{length-map}
use Rattle.std.specs.List.{All, AllPairs}
use Rattle.ob_net.specs.Network.{Network}
use Rattle.ob_sheet.specs.declared.Entry.{Entry}
use Rattle.ob_sheet.specs.Order.{in_order, is_before}
use Rattle.ob_sheet.specs.Sheet.{NameDevices}
use Rattle.ob_sweep.specs.Deltas.{IsDelta}
use Rattle.ob_sweep.specs.Runs.{history, runs_between}
use Rattle.ob_sweep.specs.Splice.{splice}
use Rattle.ob_sweep.specs.Steps.{all_runs}
use Rattle.ob_sweep.specs.Timeline.{AreOfNode, IsSection, runs_at}
use Rattle.ob_sweep.specs.declared.Run.{Run}
use Rattle.ob_sweep.proofs.LifePlan.{few, has_seconds, news_are, news_of_node, ready, rises, unchanged}
use Rattle.ob_sweep.proofs.Planned.{between}
use Rattle.ob_sweep.proofs.Sweeps.{length-all_runs}
use Rattle.ob_sweep.proofs.windowed.Windowed.plan_life.Goals as goal

pub returns-in_default-clause-delta : goal.returns-in_default-clause-delta
returns-in_default-clause-delta c =
    let net = c.args.net.now.network in
    let entries = c.args.sheet.now.entries in
    subst (λ delta. IsDelta net delta c.args.self.now (λ v. runs_between v (history net entries v) c.args.first c.args.end)) (sym c.none.ensures)
    (unchanged net entries c.args.device c.args.old c.args.new c.args.first c.args.end c.args.self.now c.requires.some c.requires.new c.in_default.ensures c.requires.runs)

pub entries_in_order-requires-clause-rising : goal.entries_in_order-requires-clause-rising
entries_in_order-requires-clause-rising c =
    let x = c.in-Some.ensures in
    rises c.args.sheet.now.entries x.2 c.args.first c.args.end c.requires.some c.args.old c.args.new c.in-Some.window x.0 x.1

pub sweep-requires-clause-some : goal.sweep-requires-clause-some
sweep-requires-clause-some c =
    let x = c.in-Some.ensures in
    has_seconds c.args.sheet.now.entries x.2 c.args.first c.args.end c.requires.some c.args.old c.args.new c.in-Some.window x.0 x.1

pub sweep-requires-clause-kept : goal.sweep-requires-clause-kept
sweep-requires-clause-kept c =
    let x = c.in-Some.ensures in
    let w = c.in-Some.window in
    let r = ready c.args.sheet.now.entries x.2 c.args.first c.args.end c.requires.some c.args.old c.args.new w x.0 x.1 (length c.args.net.now.network.devices) c.requires.devices in
    subst (λ (es : List Entry). All (λ e. IsTrue e.kept) (take w.from (in_order c.args.sheet.now.entries) ++ es)) (sym (c.deref.ensures.value ∙ c.in_ok-steps.ensures.entries)) r.kept

pub sweep-requires-clause-ordered : goal.sweep-requires-clause-ordered
sweep-requires-clause-ordered c =
    let x = c.in-Some.ensures in
    let w = c.in-Some.window in
    let r = ready c.args.sheet.now.entries x.2 c.args.first c.args.end c.requires.some c.args.old c.args.new w x.0 x.1 (length c.args.net.now.network.devices) c.requires.devices in
    subst (λ (es : List Entry). AllPairs (λ a b. IsTrue (is_before a b)) (take w.from (in_order c.args.sheet.now.entries) ++ es)) (sym (c.deref.ensures.value ∙ c.in_ok-steps.ensures.entries)) r.ordered

pub sweep-requires-clause-between : goal.sweep-requires-clause-between
sweep-requires-clause-between c =
    let x = c.in-Some.ensures in
    let w = c.in-Some.window in
    let r = ready c.args.sheet.now.entries x.2 c.args.first c.args.end c.requires.some c.args.old c.args.new w x.0 x.1 (length c.args.net.now.network.devices) c.requires.devices in
    subst (λ (es : List Entry). All (λ e. (w.first ≤ e.second) × (e.second < w.end)) es) (sym (c.deref.ensures.value ∙ c.in_ok-steps.ensures.entries)) r.between

pub sweep-requires-clause-devices : goal.sweep-requires-clause-devices
sweep-requires-clause-devices c =
    let x = c.in-Some.ensures in
    let w = c.in-Some.window in
    let r = ready c.args.sheet.now.entries x.2 c.args.first c.args.end c.requires.some c.args.old c.args.new w x.0 x.1 (length c.args.net.now.network.devices) c.requires.devices in
    subst (λ (es : List Entry). NameDevices (length c.args.net.now.network.devices) es) (sym (c.deref.ensures.value ∙ c.in_ok-steps.ensures.entries)) r.named

pub returns-in_err-lists-clause-searches : goal.returns-in_err-lists-clause-searches
returns-in_err-lists-clause-searches c =
    let x = c.in-Some.ensures in
    let m = few c.args.sheet.now.entries x.2 c.args.first c.args.end c.requires.some c.args.old c.args.new c.in-Some.window x.0 x.1 c.args.net.now.network in
    omega (arith, c.sweep.ensures.searches, ap length (c.deref.ensures.value ∙ c.in_ok-steps.ensures.entries), m)

pub returns-in_err-splice_runs-clause-searches : goal.returns-in_err-splice_runs-clause-searches
returns-in_err-splice_runs-clause-searches c =
    let x = c.in-Some.ensures in
    let m = few c.args.sheet.now.entries x.2 c.args.first c.args.end c.requires.some c.args.old c.args.new c.in-Some.window x.0 x.1 c.args.net.now.network in
    omega (arith, c.sweep.ensures.searches, ap length (c.deref.ensures.value ∙ c.in_ok-steps.ensures.entries), m)

pub returns-clause-searches : goal.returns-clause-searches
returns-clause-searches c =
    let x = c.in-Some.ensures in
    let m = few c.args.sheet.now.entries x.2 c.args.first c.args.end c.requires.some c.args.old c.args.new c.in-Some.window x.0 x.1 c.args.net.now.network in
    omega (arith, c.sweep.ensures.searches, ap length (c.deref.ensures.value ∙ c.in_ok-steps.ensures.entries), m)

pub splice_runs-requires-clause-window : goal.splice_runs-requires-clause-window
splice_runs-requires-clause-window c =
    let w = c.in-Some.window in
    ap length c.deref-2.ensures.value
    ∙ sym (length-map c.in_ok-lists.lists.items (λ r. r.items))
    ∙ ap length c.in_ok-lists.ensures.runs
    ∙ length-all_runs c.args.net.now.network (take w.from (in_order c.args.sheet.now.entries) ++ c.deref.result.now) w.first w.end
    ∙ ap (λ (n : Network). length n.nodes) (sym c.sweep.ensures.network)

pub splice_runs-requires-clause-seconds : goal.splice_runs-requires-clause-seconds
splice_runs-requires-clause-seconds c =
    let x = c.in-Some.ensures in
    omega (arith, has_seconds c.args.sheet.now.entries x.2 c.args.first c.args.end c.requires.some c.args.old c.args.new c.in-Some.window x.0 x.1)

pub splice_runs-requires-clause-of_nodes : goal.splice_runs-requires-clause-of_nodes
splice_runs-requires-clause-of_nodes c = λ v section.
    let x = c.in-Some.ensures in
    let w = c.in-Some.window in
    let net = c.args.net.now.network in
    let entries = c.args.sheet.now.entries in
    let base : List Entry = take w.from (in_order entries) in
    let old : List (List Run) = map (λ r. r.items) c.lists.result.now in
    let window : List (List Run) = map (λ r. r.items) c.deref-2.result.now in
    let same : old ≡ c.args.self.now = c.lists.ensures.lists ∙ c.self.view_is in
    let found : window ≡ all_runs net (base ++ between w.from w.to (in_order entries)) w.first w.end =
    ap (map (λ r. r.items)) c.deref-2.ensures.value ∙ c.in_ok-lists.ensures.runs ∙ ap (λ es. all_runs net (base ++ es) w.first w.end) (c.deref.ensures.value ∙ c.in_ok-steps.ensures.entries) in
    let here : IsSection net v = subst (λ (n : Network). IsSection n v) c.sweep.ensures.network section in
    subst (λ (ls : List (List Run)). AreOfNode v (splice w.first w.end (runs_at ls v) (runs_at window v))) (sym same)
    (news_of_node entries x.2 c.args.first c.args.end c.requires.some c.args.old c.args.new w x.0 x.1 net c.args.device c.requires.new c.args.self.now window c.requires.runs found v here)

pub returns-clause-delta : goal.returns-clause-delta
returns-clause-delta c =
    let x = c.in-Some.ensures in
    let w = c.in-Some.window in
    let net = c.args.net.now.network in
    let entries = c.args.sheet.now.entries in
    let base : List Entry = take w.from (in_order entries) in
    let old : List (List Run) = map (λ r. r.items) c.lists.result.now in
    let window : List (List Run) = map (λ r. r.items) c.deref-2.result.now in
    let same : old ≡ c.args.self.now = c.lists.ensures.lists ∙ c.self.view_is in
    let found : window ≡ all_runs net (base ++ between w.from w.to (in_order entries)) w.first w.end =
    ap (map (λ r. r.items)) c.deref-2.ensures.value ∙ c.in_ok-lists.ensures.runs ∙ ap (λ es. all_runs net (base ++ es) w.first w.end) (c.deref.ensures.value ∙ c.in_ok-steps.ensures.entries) in
    let delta = c.in_ok-splice_runs.field-0 in
    let of_net : IsDelta net delta old (λ v. splice w.first w.end (runs_at old v) (runs_at window v)) =
    subst (λ (n : Network). IsDelta n delta old (λ v. splice w.first w.end (runs_at old v) (runs_at window v))) c.sweep.ensures.network c.in_ok-splice_runs.ensures.delta in
    news_are entries x.2 c.args.first c.args.end c.requires.some c.args.old c.args.new w x.0 x.1 net c.args.device c.requires.new c.args.self.now window c.requires.runs found delta
    (subst (λ (ls : List (List Run)). IsDelta net delta ls (λ v. splice w.first w.end (runs_at ls v) (runs_at window v))) same of_net)
