-- The command line: each subcommand with its options, as `clap` reads them.
use Rattle.std.specs.Prelude.{List, [], ◌∷◌, Some, true, codes, pos}
use Rattle.clap.specs.Words.{App, Rule, Text, new_app, new_rule, with_rule, with_subcommand}
use Rattle.clap.specs.declared.builder.action.ArgAction.TheVariants.{SetTrue}
use Rattle.clap.specs.declared.builder.value_parser.ValueParser.TheVariants as parser

-- an option with one value, `--name VALUE`
abbrev pub option_rule : Text → Rule
option_rule name = record (new_rule name) { long = Some name; value_names = 1 }

-- one that must be given
abbrev pub required_rule : Text → Rule
required_rule name = record (option_rule name) { required = true }

-- one that must be given, whose value is a number of 16 bits
abbrev pub number_rule : Text → Rule
number_rule name = record (required_rule name) { parser = Some (parser.Signed (pos 0) (pos 65535)) }

-- one with a default, whose value is a number of 64 bits
abbrev pub count_rule : Text → Text → Rule
count_rule name usual =
    record (option_rule name) { defaults = usual ∷ []; parser = Some (parser.Unsigned 0 18446744073709551615) }

-- a word that must stand by itself
abbrev pub word_rule : Text → Rule
word_rule name = record (new_rule name) { required = true }

-- the book that the program works on where the words name none
abbrev pub default_book : Text
default_book = codes "book.db"

-- an option without a value, `--name`
abbrev pub flag_rule : Text → Rule
flag_rule name = record (new_rule name) { long = Some name; action = Some SetTrue }

-- `--book FILE`
abbrev pub book_rule : Rule
book_rule = record (option_rule (codes "book")) { defaults = default_book ∷ [] }

-- a command with these options, in their order
abbrev pub with_rules : App → List Rule → App
with_rules a [] = a
with_rules a (r ∷ rest) = with_rules (with_rule a r) rest

-- a subcommand that works on a book
abbrev pub over_book : Text → App
over_book name = with_rule (new_app name) book_rule

-- `total`, without options
abbrev pub total_app : App
total_app = new_app (codes "total")

-- `init --book FILE --first DATE --days N --zone TEXT`
abbrev pub init_app : App
init_app = with_rules (over_book (codes "init"))
    (required_rule (codes "first") ∷ number_rule (codes "days") ∷ required_rule (codes "zone") ∷ [])

-- `table --book FILE`
abbrev pub table_app : App
table_app = over_book (codes "table")

-- `audit --book FILE`
abbrev pub audit_app : App
audit_app = over_book (codes "audit")

-- `migrate --book FILE`
abbrev pub migrate_app : App
migrate_app = over_book (codes "migrate")

-- `import --book FILE --whole INPUT`
abbrev pub import_app : App
import_app = with_rules (over_book (codes "import")) (flag_rule (codes "whole") ∷ word_rule (codes "INPUT") ∷ [])

-- `export --book FILE OUTPUT`
abbrev pub export_app : App
export_app = with_rule (over_book (codes "export")) (word_rule (codes "OUTPUT"))

-- `interruptions --book FILE OUTPUT`
abbrev pub interruptions_app : App
interruptions_app = with_rule (over_book (codes "interruptions")) (word_rule (codes "OUTPUT"))

-- what indices are listed by where the words name nothing: the whole book
abbrev pub default_by : Text
default_by = codes "whole"

-- the seconds of the longest momentary interruption where the words name none
abbrev pub default_over : Text
default_over = codes "300"

-- `--by WORD`
abbrev pub by_rule : Rule
by_rule = record (option_rule (codes "by")) { defaults = default_by ∷ [] }

-- `--over SECONDS`, from 1 to 99,999
abbrev pub over_rule : Rule
over_rule = record (option_rule (codes "over")) { defaults = default_over ∷ []; parser = Some (parser.Unsigned 1 99999) }

-- `indices --book FILE --by WORD --over SECONDS`
abbrev pub indices_app : App
indices_app = with_rules (over_book (codes "indices")) (by_rule ∷ over_rule ∷ [])

-- how many streams are served where the words name no number: none is no bound
abbrev pub default_streams : Text
default_streams = codes "0"

-- `serve --book FILE --port N --streams K`
abbrev pub serve_app : App
serve_app = with_rules (over_book (codes "serve")) (number_rule (codes "port") ∷ count_rule (codes "streams") default_streams ∷ [])

-- the program's own command, which needs a subcommand, or `--version`
abbrev pub bare_app : App
bare_app =
    let a = new_app (codes "outagebook") in
    record a { top = record a.top { subcommand_required = true; has_version = true } }

-- a command with these subcommands, in their order
abbrev pub with_subcommands : App → List App → App
with_subcommands a [] = a
with_subcommands a (s ∷ rest) = with_subcommands (with_subcommand a s.top) rest

-- the command line of the program
abbrev pub outagebook_app : App
outagebook_app = with_subcommands bare_app
    (total_app ∷ init_app ∷ import_app ∷ export_app ∷ interruptions_app ∷ table_app ∷ indices_app ∷ audit_app ∷ migrate_app ∷ serve_app ∷ [])
