use Rattle.ob_sql_rows.specs.Rows.{meta_row}
use Rattle.ob_sql_check.proofs.Rising.{one_rises}
use Rattle.ob_sql_check.proofs.parts.holds_heading.Goals as goal

pub holds-requires : goal.holds-requires
holds-requires g c = record { rises = one_rises (meta_row c.args.version c.args.first_day.now c.args.days c.args.zone.now) }
