use Rattle.std.proofs.Common.{List, [], IsTrue, inl, inr, sym, subst}
use Rattle.std.specs.Prelude.{◌↔◌}
use Rattle.sqlite.specs.Held.{state}
use Rattle.sqlite.specs.Order.{Row}
use Rattle.sqlite.specs.State.{HasCleanDisk, IsUnchanged, Shown}
use Rattle.ob_sql_rows.specs.Creation.{old_schema}
use Rattle.ob_sql_rows.specs.Schema.{book_schema}
use Rattle.ob_sql_rows.specs.declared.version.Version.TheVariants.{One, Two}
use Rattle.ob_sql_read.specs.Faults.{HasNoMeaning}
use Rattle.ob_sql_read.specs.Listing.{Lists, ShowsNoWrite}
use Rattle.ob_sql_read.specs.Version.{IsOfBook, IsVersionRow}
use Rattle.ob_sql_read.proofs.Headings.{meta_listing, no_meaning, version_read}
use Rattle.ob_sql_read.proofs.Selects.{lists_heading, writes_nothing}
use Rattle.ob_sql_read.proofs.version.has_version.Given.{Over}
use Rattle.ob_sql_read.proofs.version.has_version.Goals.{After-drop-rows}
use Rattle.ob_sql_rows.specs.Queries.{IsAlwaysAnswered}
use Rattle.ob_sql_read.proofs.Failing.{answered_over}
use Rattle.ob_sql_rows.specs.declared.table.Table.TheVariants.{Meta}
use Rattle.ob_sql_read.proofs.version.has_version.Goals as goal

-- the rows are an answer over the tables of either version, and nothing changed
listed_over : (g : Over) (c : After-drop-rows g) → HasCleanDisk (state g.S.Store c.list_all.new.conn) → IsOfBook c.args.conn.now.schema
    → Lists meta_listing (state g.S.Store c.args.conn.now).now c.in-Ok.rows.items × IsUnchanged (state g.S.Store c.args.conn.now) (state g.S.Store c.list_all.new.conn)
listed_over g c clean (inl has) = c.in-Ok.ensures.listed clean book_schema meta_listing (lists_heading Two) (sym c.select_of.ensures) has
listed_over g c clean (inr has) = c.in-Ok.ensures.listed clean old_schema meta_listing (lists_heading One) (sym c.select_of.ensures) has

pub returns-in-Ok-clause-survives : goal.returns-in-Ok-clause-survives
returns-in-Ok-clause-survives g c = c.list_all.ensures.survives book_schema meta_listing (lists_heading Two) (sym c.select_of.ensures)

pub returns-in-Ok-clause-same : goal.returns-in-Ok-clause-same
returns-in-Ok-clause-same g c clean has = (listed_over g c clean has).1

pub returns-in-Ok-clause-version : goal.returns-in-Ok-clause-version
returns-in-Ok-clause-version g c clean has =
    version_read (state g.S.Store c.args.conn.now).now c.in-Ok.rows.items c.args.version c.is_version.result (listed_over g c clean has).0
    (subst (λ (l : List Row). IsTrue c.is_version.result ↔ IsVersionRow c.args.version l) c.deref.ensures.value c.is_version.ensures)

pub returns-in-Err-clause-survives : goal.returns-in-Err-clause-survives
returns-in-Err-clause-survives g c = c.list_all.ensures.survives book_schema meta_listing (lists_heading Two) (sym c.select_of.ensures)

pub returns-in-Err-clause-foreign : goal.returns-in-Err-clause-foreign
returns-in-Err-clause-foreign g c clean bad (inl has) = c.in-Err.ensures.foreign clean bad book_schema meta_listing (lists_heading Two) (sym c.select_of.ensures) has
returns-in-Err-clause-foreign g c clean bad (inr has) = c.in-Err.ensures.foreign clean bad old_schema meta_listing (lists_heading One) (sym c.select_of.ensures) has

pub returns-in-Ok-clause-empty : goal.returns-in-Ok-clause-empty
returns-in-Ok-clause-empty g c none = let it = c.in-Ok.ensures.missed (no_meaning c.args.conn.now.schema c.select_of.result.now none c.select_of.ensures) in (it.0, λ late. absurd (it.1 late))

pub returns-in-Err-clause-empty : goal.returns-in-Err-clause-empty
returns-in-Err-clause-empty g c none = c.in-Err.ensures.missed (no_meaning c.args.conn.now.schema c.select_of.result.now none c.select_of.ensures)

pub returns-in-Ok-clause-kept : goal.returns-in-Ok-clause-kept
returns-in-Ok-clause-kept g c v = c.list_all.ensures.kept v meta_listing (lists_heading v) (sym c.select_of.ensures)

pub returns-in-Err-clause-kept : goal.returns-in-Err-clause-kept
returns-in-Err-clause-kept g c v = c.list_all.ensures.kept v meta_listing (lists_heading v) (sym c.select_of.ensures)

pub returns-in-Ok-clause-missed : goal.returns-in-Ok-clause-missed
returns-in-Ok-clause-missed g c none = let it = c.in-Ok.ensures.missed (subst (HasNoMeaning c.args.conn.now.schema) (sym c.select_of.ensures) none) in (it.0, λ late. absurd (it.1 late))

pub returns-in-Err-clause-missed : goal.returns-in-Err-clause-missed
returns-in-Err-clause-missed g c none = c.in-Err.ensures.missed (subst (HasNoMeaning c.args.conn.now.schema) (sym c.select_of.ensures) none)

pub returns-in-Err-clause-cause : goal.returns-in-Err-clause-cause
returns-in-Err-clause-cause g c clean v has = c.in-Err.ensures.cause clean (subst (λ t. IsAlwaysAnswered c.args.conn.now.schema t []) (sym c.select_of.ensures) (answered_over meta_listing (lists_heading v) has))

pub returns-in-Ok-clause-shown : goal.returns-in-Ok-clause-shown
returns-in-Ok-clause-shown g c clean =
    let old = state g.S.Store c.args.conn.now in
    let new = state g.S.Store c.list_all.new.conn in
    let rows = c.in-Ok.rows.items in (
      rows,
      subst (λ t. Shown t [] old new rows) c.select_of.ensures (c.in-Ok.ensures.shown clean (subst ShowsNoWrite (sym c.select_of.ensures) (writes_nothing Meta))),
      subst (λ (l : List Row). IsTrue c.is_version.result ↔ IsVersionRow c.args.version l) c.deref.ensures.value c.is_version.ensures,
    )
