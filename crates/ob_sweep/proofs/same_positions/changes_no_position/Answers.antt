use Rattle.std.proofs.Common.{◌<◌, ◌&&◌, ℕ, length, sym, ap, ◌∙◌, subst}
use Rattle.ob_sweep.specs.SamePositions.{changes_no_position, repeats}
use Rattle.ob_sweep.specs.SheetChanges.{CanChange}
use Rattle.ob_sweep.proofs.KeptRuns.{corrected_repeats, old_repeats}
use Rattle.ob_sweep.proofs.Preceding.{old_named}
use Rattle.ob_sweep.proofs.same_positions.changes_no_position.Goals as goal

pub repeats-requires-in-Corrected : goal.repeats-requires-in-Corrected
repeats-requires-in-Corrected c =
    let entries = c.args.sheet.now.entries in
    let ok = subst (λ change. CanChange change entries) c.in-Corrected.is c.requires.applies in
    record { device = old_named (length c.args.net.now.network.devices) entries c.in-Corrected.old c.requires.devices ok.0.on }

pub repeats-requires-then-repeats : goal.repeats-requires-then-repeats
repeats-requires-then-repeats c =
    let entries = c.args.sheet.now.entries in
    let ok = subst (λ change. CanChange change entries) c.in-Corrected.is c.requires.applies in
    record {
      device = subst (λ (d : ℕ). d < length c.args.net.now.network.devices) (sym ok.2)
          (old_named (length c.args.net.now.network.devices) entries c.in-Corrected.old c.requires.devices ok.0.on);
    }

pub repeats-requires-in-Withdrawn : goal.repeats-requires-in-Withdrawn
repeats-requires-in-Withdrawn c =
    let entries = c.args.sheet.now.entries in
    let ok = subst (λ change. CanChange change entries) c.in-Withdrawn.is c.requires.applies in
    record { device = old_named (length c.args.net.now.network.devices) entries c.in-Withdrawn.old c.requires.devices ok.on }

pub returns-then-repeats-clause-same : goal.returns-then-repeats-clause-same
returns-then-repeats-clause-same c =
    let net = c.args.net.now.network in
    let entries = c.args.sheet.now.entries in
    let new = c.in-Corrected.new in
    let first = c.repeats-in-Corrected.ensures in
    let ok = subst (λ change. CanChange change entries) c.in-Corrected.is c.requires.applies in
    c.repeats-then-repeats.ensures.same
    ∙ sym (ap (λ b. b && repeats net entries new) (sym first.same ∙ c.if-repeats.true))
    ∙ corrected_repeats net entries c.in-Corrected.old new first.numbered ok
    ∙ ap (λ change. changes_no_position net change entries) (sym c.in-Corrected.is)

pub returns-else-repeats-clause-same : goal.returns-else-repeats-clause-same
returns-else-repeats-clause-same c =
    let net = c.args.net.now.network in
    let entries = c.args.sheet.now.entries in
    let new = c.in-Corrected.new in
    let first = c.repeats-in-Corrected.ensures in
    let ok = subst (λ change. CanChange change entries) c.in-Corrected.is c.requires.applies in
    c.if-repeats.false
    ∙ sym (ap (λ b. b && repeats net entries new) (sym first.same ∙ c.if-repeats.false))
    ∙ corrected_repeats net entries c.in-Corrected.old new first.numbered ok
    ∙ ap (λ change. changes_no_position net change entries) (sym c.in-Corrected.is)

pub returns-in-Withdrawn-clause-same : goal.returns-in-Withdrawn-clause-same
returns-in-Withdrawn-clause-same c =
    let net = c.args.net.now.network in
    let entries = c.args.sheet.now.entries in
    let x = c.repeats-in-Withdrawn.ensures in
    let ok = subst (λ change. CanChange change entries) c.in-Withdrawn.is c.requires.applies in
    x.same
    ∙ sym (old_repeats net entries x.numbered c.in-Withdrawn.old ok)
    ∙ ap (λ change. changes_no_position net change entries) (sym c.in-Withdrawn.is)
