use Rattle.std.proofs.Common.{◌≡◌, ◌∙◌, ap, sym, pos, arith, rules}
use Rattle.jiff_core.specs.Date.{epoch_day}
use Rattle.jiff_core.proofs.SignedLemmas.{signed_arith}
use Rattle.ob_time.specs.Dates.{day_text}
use Rattle.ob_rows.proofs.Dates.{day_text-is, no_year_below_zero}
use Rattle.ob_rows.proofs.moment.date_of.Goals as goal

pub year_of-requires : goal.year_of-requires
year_of-requires c =
    let d = c.unwrap-date.result in
    let is : epoch_day d ≡ pos c.args.day = search rules in
    no_year_below_zero d (rw is (omega (arith, signed_arith)))

pub returns : goal.returns
returns c =
    let d = c.unwrap-date.result in
    let is : epoch_day d ≡ pos c.args.day = search rules in
    c.ymd_of.ensures ∙ sym (day_text-is d c.year_of.result c.year_of.ensures) ∙ ap day_text is
