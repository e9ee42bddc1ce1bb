use Rattle.std.proofs.Common.{List, [], sym, subst}
use Rattle.sqlite.specs.Held.{state}
use Rattle.sqlite.specs.Order.{Row}
use Rattle.ob_sql_rows.specs.Versions.{schema_of}
use Rattle.ob_sql_rows.specs.declared.version.Version.TheVariants.{Two}
use Rattle.ob_sql_read.specs.Faults.{HasNoMeaning}
use Rattle.ob_sql_read.specs.Reading.{IsHeading}
use Rattle.ob_sql_read.proofs.Headings.{meta_listing, heading_read, no_meaning, ok_always}
use Rattle.ob_sql_read.proofs.Selects.{lists_heading}
use Rattle.ob_sql_read.proofs.Rowing.{if_ok}
use Rattle.ob_sql_rows.specs.Queries.{IsAlwaysAnswered}
use Rattle.ob_sql_rows.proofs.Failing.{no_fault}
use Rattle.ob_sql_read.proofs.Failing.{answered_over}
use Rattle.ob_sql_read.proofs.heading.read_heading.Goals as goal

pub returns-in-Ok-clause-survives : goal.returns-in-Ok-clause-survives
returns-in-Ok-clause-survives g c = c.list_all.ensures.survives (schema_of Two) meta_listing (lists_heading Two) (sym c.select_of.ensures)

pub returns-in-Ok-clause-same : goal.returns-in-Ok-clause-same
returns-in-Ok-clause-same g c clean = ok_always c.heading_in.result (λ v has. (c.in-Ok.ensures.listed clean (schema_of v) meta_listing (lists_heading v) (sym c.select_of.ensures) has).1)

pub returns-in-Ok-clause-read : goal.returns-in-Ok-clause-read
returns-in-Ok-clause-read g c clean =
    let old = state g.S.Store c.args.conn.now in
    if_ok c.heading_in.result c.heading_in.ensures.heading (λ found is v has rows shows.
    let there : IsHeading found c.in-Ok.rows.items = subst (λ (l : List Row). IsHeading found l) c.deref.ensures.value is in
    heading_read old.now c.in-Ok.rows.items rows found (c.in-Ok.ensures.listed clean (schema_of v) meta_listing (lists_heading v) (sym c.select_of.ensures) has).0 shows there)

pub returns-in-Err-clause-survives : goal.returns-in-Err-clause-survives
returns-in-Err-clause-survives g c = c.list_all.ensures.survives (schema_of Two) meta_listing (lists_heading Two) (sym c.select_of.ensures)

pub returns-in-Err-clause-foreign : goal.returns-in-Err-clause-foreign
returns-in-Err-clause-foreign g c clean bad v = c.in-Err.ensures.foreign clean bad (schema_of v) meta_listing (lists_heading v) (sym c.select_of.ensures)

pub returns-in-Ok-clause-empty : goal.returns-in-Ok-clause-empty
returns-in-Ok-clause-empty g c none = let it = c.in-Ok.ensures.missed (no_meaning c.args.conn.now.schema c.select_of.result.now none c.select_of.ensures) in (it.0, λ late. absurd (it.1 late))

pub returns-in-Err-clause-empty : goal.returns-in-Err-clause-empty
returns-in-Err-clause-empty g c none = c.in-Err.ensures.missed (no_meaning c.args.conn.now.schema c.select_of.result.now none c.select_of.ensures)

pub returns-in-Ok-clause-kept : goal.returns-in-Ok-clause-kept
returns-in-Ok-clause-kept g c v = c.list_all.ensures.kept v meta_listing (lists_heading v) (sym c.select_of.ensures)

pub returns-in-Err-clause-kept : goal.returns-in-Err-clause-kept
returns-in-Err-clause-kept g c v = c.list_all.ensures.kept v meta_listing (lists_heading v) (sym c.select_of.ensures)

pub returns-in-Ok-clause-missed : goal.returns-in-Ok-clause-missed
returns-in-Ok-clause-missed g c none = let it = c.in-Ok.ensures.missed (subst (HasNoMeaning c.args.conn.now.schema) (sym c.select_of.ensures) none) in (it.0, λ late. absurd (it.1 late))

pub returns-in-Err-clause-missed : goal.returns-in-Err-clause-missed
returns-in-Err-clause-missed g c none = c.in-Err.ensures.missed (subst (HasNoMeaning c.args.conn.now.schema) (sym c.select_of.ensures) none)

pub returns-in-Ok-clause-cause : goal.returns-in-Ok-clause-cause
returns-in-Ok-clause-cause g c clean v has = no_fault (state g.S.Store c.args.conn.now) (state g.S.Store c.list_all.new.conn) c.heading_in.result c.heading_in.ensures.err

pub returns-in-Err-clause-cause : goal.returns-in-Err-clause-cause
returns-in-Err-clause-cause g c clean v has = c.in-Err.ensures.cause clean (subst (λ t. IsAlwaysAnswered c.args.conn.now.schema t []) (sym c.select_of.ensures) (answered_over meta_listing (lists_heading v) has))
