-- What the queries of whole tables mean.
use Rattle.std.proofs.Common.{[], lit≤, refl, true≢false}
use Rattle.sqlite.specs.Listing.{understood}
use Rattle.sqlite_tied.specs.Compute.{everything}
use Rattle.ob_sql_rows.specs.Listings.{select_of}
use Rattle.ob_sql_rows.specs.Queries.{IsAlwaysAnswered}
use Rattle.ob_sql_rows.specs.Versions.{Has, schema_of}
use Rattle.ob_sql_rows.specs.declared.table.Table.{Table}
use Rattle.ob_sql_rows.specs.declared.table.Table.TheVariants.{Meta, Cause, Node, Device, Life, Customer, Entry, Mark, Command, Moved, Posting}
use Rattle.ob_sql_rows.specs.declared.version.Version.{Version}
use Rattle.ob_sql_rows.specs.declared.version.Version.TheVariants.{One, Two}
use Rattle.ob_sql_read.specs.Listing.{IsListingOver, ShowsNoWrite}
use Rattle.ob_sql_read.specs.Parts.{listing_of}
use Rattle.ob_sql_read.proofs.Failing.{list_accepted}
use Rattle.ob_sql_read.proofs.NoWrite.{shows_no_write}

-- they show no rows of a write
pub writes_nothing : (t : Table) → ShowsNoWrite (select_of t)
unfolding everything
writes_nothing Meta = shows_no_write (select_of Meta) (λ schema base. refl)
writes_nothing Cause = shows_no_write (select_of Cause) (λ schema base. refl)
writes_nothing Node = shows_no_write (select_of Node) (λ schema base. refl)
writes_nothing Device = shows_no_write (select_of Device) (λ schema base. refl)
writes_nothing Life = shows_no_write (select_of Life) (λ schema base. refl)
writes_nothing Customer = shows_no_write (select_of Customer) (λ schema base. refl)
writes_nothing Entry = shows_no_write (select_of Entry) (λ schema base. refl)
writes_nothing Mark = shows_no_write (select_of Mark) (λ schema base. refl)
writes_nothing Command = shows_no_write (select_of Command) (λ schema base. refl)
writes_nothing Moved = shows_no_write (select_of Moved) (λ schema base. refl)
writes_nothing Posting = shows_no_write (select_of Posting) (λ schema base. refl)

-- and no database of these tables refuses it
is_answered : (v : Version) (t : Table) → Has v t → IsAlwaysAnswered (schema_of v) (select_of t) []
unfolding understood everything
is_answered Two Meta own = record { whole = lit≤ tt; given = refl; timeless = refl; plain = refl; accepted = list_accepted (schema_of Two) (listing_of Meta) true≢false }
is_answered Two Cause own = record { whole = lit≤ tt; given = refl; timeless = refl; plain = refl; accepted = list_accepted (schema_of Two) (listing_of Cause) true≢false }
is_answered Two Node own = record { whole = lit≤ tt; given = refl; timeless = refl; plain = refl; accepted = list_accepted (schema_of Two) (listing_of Node) true≢false }
is_answered Two Device own = record { whole = lit≤ tt; given = refl; timeless = refl; plain = refl; accepted = list_accepted (schema_of Two) (listing_of Device) true≢false }
is_answered Two Life own = record { whole = lit≤ tt; given = refl; timeless = refl; plain = refl; accepted = list_accepted (schema_of Two) (listing_of Life) true≢false }
is_answered Two Customer own = record { whole = lit≤ tt; given = refl; timeless = refl; plain = refl; accepted = list_accepted (schema_of Two) (listing_of Customer) true≢false }
is_answered Two Entry own = record { whole = lit≤ tt; given = refl; timeless = refl; plain = refl; accepted = list_accepted (schema_of Two) (listing_of Entry) true≢false }
is_answered Two Mark own = record { whole = lit≤ tt; given = refl; timeless = refl; plain = refl; accepted = list_accepted (schema_of Two) (listing_of Mark) true≢false }
is_answered Two Command own = record { whole = lit≤ tt; given = refl; timeless = refl; plain = refl; accepted = list_accepted (schema_of Two) (listing_of Command) true≢false }
is_answered Two Moved own = record { whole = lit≤ tt; given = refl; timeless = refl; plain = refl; accepted = list_accepted (schema_of Two) (listing_of Moved) true≢false }
is_answered Two Posting own = record { whole = lit≤ tt; given = refl; timeless = refl; plain = refl; accepted = list_accepted (schema_of Two) (listing_of Posting) true≢false }
is_answered One Meta own = record { whole = lit≤ tt; given = refl; timeless = refl; plain = refl; accepted = list_accepted (schema_of One) (listing_of Meta) true≢false }
is_answered One Cause own = record { whole = lit≤ tt; given = refl; timeless = refl; plain = refl; accepted = list_accepted (schema_of One) (listing_of Cause) true≢false }
is_answered One Node own = record { whole = lit≤ tt; given = refl; timeless = refl; plain = refl; accepted = list_accepted (schema_of One) (listing_of Node) true≢false }
is_answered One Device own = record { whole = lit≤ tt; given = refl; timeless = refl; plain = refl; accepted = list_accepted (schema_of One) (listing_of Device) true≢false }
is_answered One Life own = absurd own
is_answered One Customer own = record { whole = lit≤ tt; given = refl; timeless = refl; plain = refl; accepted = list_accepted (schema_of One) (listing_of Customer) true≢false }
is_answered One Entry own = record { whole = lit≤ tt; given = refl; timeless = refl; plain = refl; accepted = list_accepted (schema_of One) (listing_of Entry) true≢false }
is_answered One Mark own = record { whole = lit≤ tt; given = refl; timeless = refl; plain = refl; accepted = list_accepted (schema_of One) (listing_of Mark) true≢false }
is_answered One Command own = record { whole = lit≤ tt; given = refl; timeless = refl; plain = refl; accepted = list_accepted (schema_of One) (listing_of Command) true≢false }
is_answered One Moved own = record { whole = lit≤ tt; given = refl; timeless = refl; plain = refl; accepted = list_accepted (schema_of One) (listing_of Moved) true≢false }
is_answered One Posting own = record { whole = lit≤ tt; given = refl; timeless = refl; plain = refl; accepted = list_accepted (schema_of One) (listing_of Posting) true≢false }

-- one text means one query at the schema of each version that has the table
pub is_listing : (v : Version) (t : Table) → Has v t → IsListingOver (schema_of v) (listing_of t)
unfolding understood everything
is_listing Two Meta own = record { means = refl; plain = (refl, refl); unlisted = refl; silent = writes_nothing Meta; answered = is_answered Two Meta own }
is_listing Two Cause own = record { means = refl; plain = (refl, refl); unlisted = refl; silent = writes_nothing Cause; answered = is_answered Two Cause own }
is_listing Two Node own = record { means = refl; plain = (refl, refl); unlisted = refl; silent = writes_nothing Node; answered = is_answered Two Node own }
is_listing Two Device own = record { means = refl; plain = (refl, refl); unlisted = refl; silent = writes_nothing Device; answered = is_answered Two Device own }
is_listing Two Life own = record { means = refl; plain = (refl, refl); unlisted = refl; silent = writes_nothing Life; answered = is_answered Two Life own }
is_listing Two Customer own = record { means = refl; plain = (refl, refl); unlisted = refl; silent = writes_nothing Customer; answered = is_answered Two Customer own }
is_listing Two Entry own = record { means = refl; plain = (refl, refl); unlisted = refl; silent = writes_nothing Entry; answered = is_answered Two Entry own }
is_listing Two Mark own = record { means = refl; plain = (refl, refl); unlisted = refl; silent = writes_nothing Mark; answered = is_answered Two Mark own }
is_listing Two Command own = record { means = refl; plain = (refl, refl); unlisted = refl; silent = writes_nothing Command; answered = is_answered Two Command own }
is_listing Two Moved own = record { means = refl; plain = (refl, refl); unlisted = refl; silent = writes_nothing Moved; answered = is_answered Two Moved own }
is_listing Two Posting own = record { means = refl; plain = (refl, refl); unlisted = refl; silent = writes_nothing Posting; answered = is_answered Two Posting own }
is_listing One Meta own = record { means = refl; plain = (refl, refl); unlisted = refl; silent = writes_nothing Meta; answered = is_answered One Meta own }
is_listing One Cause own = record { means = refl; plain = (refl, refl); unlisted = refl; silent = writes_nothing Cause; answered = is_answered One Cause own }
is_listing One Node own = record { means = refl; plain = (refl, refl); unlisted = refl; silent = writes_nothing Node; answered = is_answered One Node own }
is_listing One Device own = record { means = refl; plain = (refl, refl); unlisted = refl; silent = writes_nothing Device; answered = is_answered One Device own }
is_listing One Life own = absurd own
is_listing One Customer own = record { means = refl; plain = (refl, refl); unlisted = refl; silent = writes_nothing Customer; answered = is_answered One Customer own }
is_listing One Entry own = record { means = refl; plain = (refl, refl); unlisted = refl; silent = writes_nothing Entry; answered = is_answered One Entry own }
is_listing One Mark own = record { means = refl; plain = (refl, refl); unlisted = refl; silent = writes_nothing Mark; answered = is_answered One Mark own }
is_listing One Command own = record { means = refl; plain = (refl, refl); unlisted = refl; silent = writes_nothing Command; answered = is_answered One Command own }
is_listing One Moved own = record { means = refl; plain = (refl, refl); unlisted = refl; silent = writes_nothing Moved; answered = is_answered One Moved own }
is_listing One Posting own = record { means = refl; plain = (refl, refl); unlisted = refl; silent = writes_nothing Posting; answered = is_answered One Posting own }

-- both versions have the heading and the commands
pub lists_heading : (v : Version) → IsListingOver (schema_of v) (listing_of Meta)
lists_heading One = is_listing One Meta tt
lists_heading Two = is_listing Two Meta tt

pub lists_commands : (v : Version) → IsListingOver (schema_of v) (listing_of Command)
lists_commands One = is_listing One Command tt
lists_commands Two = is_listing Two Command tt
