-- What the readings of the heading and of the commands say of a book.
use Rattle.std.proofs.Common.{◌≡◌, ◌<◌, ◌^◌, List, [], ◌∷◌, map, Option, Some, None, refl, subst, arith}
use Rattle.std.specs.List.Sorted.{IsPermutation}
use Rattle.std.proofs.lemmas.List.Sorted.{IsPermutation-refl}
use Rattle.sqlite.specs.Tree.{Trees}
use Rattle.ob_sql_rows.specs.Rows.{Columns, shown, tree_of}
use Rattle.ob_sql_rows.specs.declared.table.Table.TheVariants.{Meta, Command}
use Rattle.ob_record.specs.Tables.{Shows}
use Rattle.ob_time.specs.Calendar.{day_count}
use Rattle.ob_time.specs.Dates.{day_text}
use Rattle.ob_sql_read.specs.Reading.{AreFiled, IsCommands, IsHeading, heading_row}
use Rattle.ob_sql_read.specs.declared.commands.Commands.{Commands}
use Rattle.ob_sql_read.specs.declared.heading.Heading.{Heading}
use Rattle.ob_sql_rows.specs.declared.version.Version.{Version}
use Rattle.ob_store.specs.Finding.{HasNoBookIn, IsNamed}
use Rattle.ob_store.proofs.Laws.{dated_in}

-- the rows of the heading were read so
abbrev pub HeadingRead : Trees → Option Heading → Type 0
HeadingRead trees found = (rows : List Columns) → Shows trees Meta rows → IsHeading found rows

-- the rows of the commands were read so
abbrev pub CommandsRead : Version → Trees → Option Commands → Type 0
CommandsRead v trees found = AreFiled v found × ((rows : List Columns) → Shows trees Command rows → IsCommands v found rows)

pub no_heading : (v : Version) (trees : Trees) (found : Option Heading) → found ≡ None → HeadingRead trees found → HasNoBookIn v trees
no_heading v trees found none read b it =
    let days = (dated_in v b it.reached).period.days_in in
    let small : day_count b.book.period < 2 ^ 16 = omega (arith, days) in
    subst (λ f. HeadingRead trees f) none read (heading_row it.period.0 it.period.1 (day_text b.book.period.first_day) (day_count b.book.period) b.book.period.zone ∷ []) it.period.2
    it.period.0 it.period.1 (day_text b.book.period.first_day) (day_count b.book.period) b.book.period.zone small refl

pub no_commands : (v : Version) (trees : Trees) (found : Option Commands) → found ≡ None → CommandsRead v trees found → HasNoBookIn v trees
no_commands v trees found none read b it =
    let rows = map (shown Command) (trees (tree_of Command)) in
    (subst (λ f. CommandsRead v trees f) none read).1 rows (IsPermutation-refl rows) b.accepted it.few it.valid it.commands

pub named : (v : Version) (trees : Trees) (h : Heading) (l : Commands) (heading : Option Heading) (commands : Option Commands) → heading ≡ Some h → commands ≡ Some l → HeadingRead trees heading → CommandsRead v trees commands
    → IsNamed v trees (record { heading = h; commands = l.commands; counted = l.counted })
named v trees h l heading commands h_is l_is h_read l_read =
    let head = subst (λ f. HeadingRead trees f) h_is h_read in
    let list = subst (λ f. CommandsRead v trees f) l_is l_read in
    let heads = map (shown Meta) (trees (tree_of Meta)) in
    let rows = map (shown Command) (trees (tree_of Command)) in
    let one = head heads (IsPermutation-refl heads) in
    let all = list.1 rows (IsPermutation-refl rows) in
    record {
      heading = (one.0, one.1, subst (IsPermutation heads) one.2 (IsPermutation-refl heads));
      commands = all.0;
      counts = all.1;
      valid = list.0.1;
    }
