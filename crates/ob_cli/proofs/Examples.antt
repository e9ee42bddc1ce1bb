-- Examples of the definitions, computed.
use Rattle.std.proofs.Common.{◌≡◌, List, [], ◌∷◌, Some, None, codes, true, false, refl}
use Rattle.clap.specs.Faults.{defaults_fault, walk_fault}
use Rattle.clap.specs.Walk.{walked}
use Rattle.clap.specs.Words.{Text}
use Rattle.clap.specs.declared.error.kind.ErrorKind.TheVariants as kind
use Rattle.ob_cli.specs.Jobs.{errors_of, job_of}
use Rattle.ob_cli.specs.declared.job.Job.TheVariants.{Total, Init, Import, Interruptions, Table, Audit, Migrate, Serve}

total_is_a_job : job_of (codes "outagebook" ∷ codes "total" ∷ []) ≡ Some Total
unfolding defaults_fault walk_fault walked
total_is_a_job = refl

no_word_is_no_job : job_of (codes "outagebook" ∷ []) ≡ None
unfolding defaults_fault walk_fault walked
no_word_is_no_job = refl

another_word_is_no_job : job_of (codes "outagebook" ∷ codes "totals" ∷ []) ≡ None
unfolding defaults_fault walk_fault walked
another_word_is_no_job = refl

total_asks_for_help : errors_of (codes "outagebook" ∷ codes "total" ∷ codes "--help" ∷ []) ≡ kind.DisplayHelp ∷ []
unfolding defaults_fault walk_fault walked
total_asks_for_help = refl

the_version_is_asked_for : errors_of (codes "outagebook" ∷ codes "--version" ∷ []) ≡ kind.DisplayVersion ∷ []
unfolding defaults_fault walk_fault walked
the_version_is_asked_for = refl

table_of_the_default_book : job_of (codes "outagebook" ∷ codes "table" ∷ []) ≡ Some (Table (codes "book.db"))
unfolding defaults_fault walk_fault walked
table_of_the_default_book = refl

audit_of_a_book : job_of (codes "outagebook" ∷ codes "audit" ∷ codes "--book" ∷ codes "a.db" ∷ [])
    ≡ Some (Audit (codes "a.db"))
unfolding defaults_fault walk_fault walked
audit_of_a_book = refl

migrate_of_a_book : job_of (codes "outagebook" ∷ codes "migrate" ∷ codes "--book=a.db" ∷ [])
    ≡ Some (Migrate (codes "a.db"))
unfolding defaults_fault walk_fault walked
migrate_of_a_book = refl

-- `init` from 2026-01-01 for these days, with these words after them
abbrev init_words : Text → List Text → List Text
init_words days rest =
    codes "outagebook" ∷ codes "init" ∷ codes "--first" ∷ codes "2026-01-01" ∷ codes "--days" ∷ days ∷ rest

init_is_a_job : job_of (init_words (codes "31") (codes "--zone=EST5" ∷ []))
    ≡ Some (Init (codes "book.db") (codes "2026-01-01") 31 (codes "EST5"))
unfolding defaults_fault walk_fault walked
init_is_a_job = refl

init_wants_a_zone : errors_of (init_words (codes "31") []) ≡ kind.MissingRequiredArgument ∷ []
unfolding defaults_fault walk_fault walked
init_wants_a_zone = refl

init_is_of_65535_days_at_most : errors_of (init_words (codes "65536") (codes "--zone=EST5" ∷ []))
    ≡ kind.ValueValidation ∷ []
unfolding defaults_fault walk_fault walked
init_is_of_65535_days_at_most = refl

import_of_a_file : job_of (codes "outagebook" ∷ codes "import" ∷ codes "year.csv" ∷ [])
    ≡ Some (Import (codes "book.db") (codes "year.csv") false)
unfolding defaults_fault walk_fault walked
import_of_a_file = refl

import_of_a_whole_file : job_of (codes "outagebook" ∷ codes "import" ∷ codes "--whole" ∷ codes "--book=a.db" ∷ codes "year.csv" ∷ [])
    ≡ Some (Import (codes "a.db") (codes "year.csv") true)
unfolding defaults_fault walk_fault walked
import_of_a_whole_file = refl

export_wants_a_file : errors_of (codes "outagebook" ∷ codes "export" ∷ []) ≡ kind.MissingRequiredArgument ∷ []
unfolding defaults_fault walk_fault walked
export_wants_a_file = refl

interruptions_into_a_file : job_of (codes "outagebook" ∷ codes "interruptions" ∷ codes "--book=a.db" ∷ codes "rows.csv" ∷ [])
    ≡ Some (Interruptions (codes "a.db") (codes "rows.csv"))
unfolding defaults_fault walk_fault walked
interruptions_into_a_file = refl

interruptions_want_a_file : errors_of (codes "outagebook" ∷ codes "interruptions" ∷ []) ≡ kind.MissingRequiredArgument ∷ []
unfolding defaults_fault walk_fault walked
interruptions_want_a_file = refl

-- `serve` with these words
abbrev serve_words : List Text → List Text
serve_words rest = codes "outagebook" ∷ codes "serve" ∷ rest

serve_without_end : job_of (serve_words (codes "--port=8080" ∷ [])) ≡ Some (Serve (codes "book.db") 8080 0)
unfolding defaults_fault walk_fault walked
serve_without_end = refl

serve_of_three_streams : job_of (serve_words (codes "--streams=3" ∷ codes "--book=a.db" ∷ codes "--port" ∷ codes "0" ∷ []))
    ≡ Some (Serve (codes "a.db") 0 3)
unfolding defaults_fault walk_fault walked
serve_of_three_streams = refl

serve_wants_a_port : errors_of (serve_words []) ≡ kind.MissingRequiredArgument ∷ []
unfolding defaults_fault walk_fault walked
serve_wants_a_port = refl

serve_has_ports_up_to_65535 : errors_of (serve_words (codes "--port=65536" ∷ [])) ≡ kind.ValueValidation ∷ []
unfolding defaults_fault walk_fault walked
serve_has_ports_up_to_65535 = refl
