use Rattle.std.proofs.Common.{◌<◌, ◌+◌, ◌-◌, ℕ, arith, sym, ◌∙◌}
use Rattle.std.specs.List.{prefix_len}
use Rattle.std.proofs.lemmas.List.Sums.{prefix_len-le-length}
use Rattle.ob_sheet.specs.ByDevice.{is_until_by_device}
use Rattle.ob_sheet.proofs.Listed.{listed_stand, listed_past, listed_within}
use Rattle.ob_sheet.proofs.by_device.place_near.Goals as goal

pub overflow_sub-by_device : goal.overflow_sub-by_device
overflow_sub-by_device c =
    omega (arith, c.requires.from, prefix_len-le-length (is_until_by_device c.args.entries.now c.args.until.device c.args.until.second c.args.until.«no») c.args.by_device.now)

pub is_number_until-requires-clause-some : goal.is_number_until-requires-clause-some
is_number_until-requires-clause-some c =
    (listed_stand c.args.entries.now c.args.by_device.now c.requires.numbered c.requires.by_device (c.args.from + c.args.gap - 1) 0 (omega arith)).0

pub is_number_until-requires-clause-within : goal.is_number_until-requires-clause-within
is_number_until-requires-clause-within c =
    (listed_stand c.args.entries.now c.args.by_device.now c.requires.numbered c.requires.by_device (c.args.from + c.args.gap - 1) 0 (omega arith)).1

pub place_by_device-requires-then-is_number_until-clause-from : goal.place_by_device-requires-then-is_number_until-clause-from
place_by_device-requires-then-is_number_until-clause-from c =
    let last : ℕ = c.args.from + c.args.gap - 1 in
    let found : last < prefix_len (is_until_by_device c.args.entries.now c.args.until.device c.args.until.second c.args.until.«no») c.args.by_device.now =
    listed_within c.args.entries.now c.args.by_device.now c.args.until.device c.args.until.second c.args.until.«no» last 0 c.requires.numbered c.requires.by_device (omega arith)
    (sym c.is_number_until.ensures ∙ c.if-is_number_until.true) in
    omega (arith, found)

pub place_between-requires-clause-to : goal.place_between-requires-clause-to
place_between-requires-clause-to c =
    listed_past c.args.entries.now c.args.by_device.now c.args.until.device c.args.until.second c.args.until.«no» (c.args.from + c.args.gap - 1) 0
    (sym c.is_number_until.ensures ∙ c.if-is_number_until.false)
