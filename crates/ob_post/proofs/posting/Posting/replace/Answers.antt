use Rattle.std.proofs.Common.{◌≡◌, subst, ℕ, ◌<◌, ◌≤◌, List, ◌++◌, Some, arith}
use Rattle.std.proofs.lemmas.Result.{on_ok_weaker}
use Rattle.std.specs.List.{AllPairs}
use Rattle.std.specs.Option.{option_map, IfSome}
use Rattle.ob_sheet.specs.declared.Entry.{Entry}
use Rattle.ob_sheet.specs.Order.{entry_of}
use Rattle.ob_sweep.specs.Changed.{changed}
use Rattle.ob_sweep.specs.declared.Run.{Run}
use Rattle.ob_time.specs.Calendar.{day_count, days_of, first_second_of, end_second_of}
use Rattle.ob_post.specs.SectionAmounts.{amount_of_runs, LieWithin}
use Rattle.ob_post.specs.declared.Dim.{Dim}
use Rattle.ob_post.specs.Balances.{together}
use Rattle.ob_post.specs.Causes.{BeginAtCutters}
use Rattle.ob_post.proofs.Balancing.{balances_as}
use Rattle.ob_post.proofs.RunLists.{all_left, all_right, pairs_right, amount_of_parts}
use Rattle.ob_post.proofs.posting.Posting.replace.Goals as goal

within_parts : (a b : ℕ) (front mid back : List Run) → LieWithin a b (front ++ (mid ++ back)) → LieWithin a b mid × LieWithin a b back
within_parts a b front mid back h =
    let rest = all_right (λ r. (a ≤ r.since) × (r.since < r.until) × (r.until ≤ b)) front (mid ++ back) h in
    (all_left (λ r. (a ≤ r.since) × (r.since < r.until) × (r.until ≤ b)) mid back rest, all_right (λ r. (a ≤ r.since) × (r.since < r.until) × (r.until ≤ b)) mid back rest)

rising_back : (front mid back : List Run) → AllPairs (λ r s. r.until < s.since) (front ++ (mid ++ back)) → AllPairs (λ r s. r.until < s.since) back
rising_back front mid back h = pairs_right (λ r s. r.until < s.since) mid back (pairs_right (λ r s. r.until < s.since) front (mid ++ back) h)

cut_back : (entries : List Entry) (front mid back : List Run) → BeginAtCutters entries (front ++ (mid ++ back)) → BeginAtCutters entries back
cut_back entries front mid back h =
    let begins = λ (r : Run). IfSome r.cutter (λ number. option_map (λ (e : Entry). e.second) (entry_of entries number) ≡ Some r.since) in
    all_right begins mid back (all_right begins front (mid ++ back) h)

pub replace_between-requires-clause-taken : goal.replace_between-requires-clause-taken
replace_between-requires-clause-taken c =
    let r = c.compare-runs.result in
    (within_parts (first_second_of c.args.basis.now.period.now) (end_second_of c.args.basis.now.period.now) r.front.now r.taken.now r.back.now
    (subst (LieWithin (first_second_of c.args.basis.now.period.now) (end_second_of c.args.basis.now.period.now)) c.compare-runs.ensures.old c.requires.old)).0

pub replace_between-requires-clause-given : goal.replace_between-requires-clause-given
replace_between-requires-clause-given c =
    let r = c.compare-runs.result in
    (within_parts (first_second_of c.args.basis.now.period.now) (end_second_of c.args.basis.now.period.now) r.front.now r.given.now r.back.now
    (subst (LieWithin (first_second_of c.args.basis.now.period.now) (end_second_of c.args.basis.now.period.now)) c.compare-runs.ensures.new c.requires.new)).0

pub relabel-requires-2-clause-within : goal.relabel-requires-2-clause-within
relabel-requires-2-clause-within c =
    let r = c.compare-runs.result in
    (within_parts (first_second_of c.args.basis.now.period.now) (end_second_of c.args.basis.now.period.now) r.front.now r.taken.now r.back.now
    (subst (LieWithin (first_second_of c.args.basis.now.period.now) (end_second_of c.args.basis.now.period.now)) c.compare-runs.ensures.old c.requires.old)).1

pub relabel-requires-2-clause-rising : goal.relabel-requires-2-clause-rising
relabel-requires-2-clause-rising c =
    let r = c.compare-runs.result in
    rising_back r.front.now r.taken.now r.back.now (subst (AllPairs (λ r s. r.until < s.since)) c.compare-runs.ensures.old c.requires.rising)

pub relabel-requires-2-clause-cut : goal.relabel-requires-2-clause-cut
relabel-requires-2-clause-cut c =
    let r = c.compare-runs.result in
    cut_back c.args.basis.now.sheet.now.entries r.front.now r.taken.now r.back.now (subst (BeginAtCutters c.args.basis.now.sheet.now.entries) c.compare-runs.ensures.old c.requires.cut)

pub returns-clause-posted : goal.returns-clause-posted
returns-clause-posted c = λ old new b.
    let was = c.args.basis.now.sheet.now.entries in
    let now = changed c.args.change.now was in
    let roll = c.args.basis.now.roll.now.customers in
    let days = days_of c.args.basis.now.period.now in
    let f = c.args.basis.now.feeder in
    let of : List Entry → List Run → Dim → ℕ → ℕ = λ entries runs. amount_of_runs entries roll days f runs in
    let r = c.compare-runs.result in
    let fronts = c.in_ok-relabel.ensures.posted old new b in
    let between = c.in_ok-replace_between.ensures.posted (together old (of was r.front.now)) (together new (of now r.front.now)) fronts in
    on_ok_weaker c.relabel-2.result
    (λ h. balances_as (day_count c.args.basis.now.period.now) c.relabel-2.new.self
    (together (together (together old (of was r.front.now)) (of was r.taken.now)) (of was r.back.now)) (together (together (together new (of now r.front.now)) (of now r.given.now)) (of now r.back.now))
    (together old (of was c.args.old.now)) (together new (of now c.args.new.now))
    (λ dim key. let parts = amount_of_parts was roll days f r.front.now r.taken.now r.back.now c.args.old.now dim key c.compare-runs.ensures.old in omega (arith, parts))
    (λ dim key. let parts = amount_of_parts now roll days f r.front.now r.given.now r.back.now c.args.new.now dim key c.compare-runs.ensures.new in omega (arith, parts))
    h)
    (c.relabel-2.ensures.posted (together (together old (of was r.front.now)) (of was r.taken.now)) (together (together new (of now r.front.now)) (of now r.given.now)) between)
