-- The job that a list of words names, and the reason where they name none.
use Rattle.std.specs.Prelude.{◌≡◌, ◌≢◌, ℕ, List, [], ◌∷◌, Option, Some, None, codes, if◌then◌else◌, option_and_then}
use Rattle.std.specs.Str.{bytes_eq}
use Rattle.clap.specs.Words.{IsAmong, Kinds, Row, Text, fault_of, subcommand_of}
use Rattle.clap.specs.declared.error.kind.ErrorKind.{ErrorKind}
use Rattle.clap.specs.declared.error.kind.ErrorKind.TheVariants as kind
use Rattle.ob_base.specs.declared.stop.Fault.TheVariants.{OutOfMemory}
use Rattle.ob_cli.specs.Commands.{outagebook_app}
use Rattle.ob_cli.specs.Values.{flag_given, with_count, with_number, with_word}
use Rattle.ob_cli.specs.declared.job.By.{By}
use Rattle.ob_cli.specs.declared.job.By.TheVariants.{Whole, Feeder, Month, Day, Cause, Section}
use Rattle.ob_cli.specs.declared.job.Job.{Job}
use Rattle.ob_cli.specs.declared.job.Job.TheVariants.{Total, Init, Import, Export, Interruptions, Table, Indices, Audit, Migrate, Serve}
use Rattle.ob_cli.specs.declared.read.WrongWords.{WrongWords}
use Rattle.ob_cli.specs.declared.read.WrongWords.TheVariants as wrong

-- the job of each subcommand, of the values that its options were given
abbrev pub init_job : List Row → Option Job
init_job rows = with_word (codes "book") rows (λ book. with_word (codes "first") rows (λ first.
    with_number (codes "days") rows (λ days. with_word (codes "zone") rows (λ zone.
    Some (Init book first days zone)))))

abbrev pub import_job : List Row → Option Job
import_job rows = with_word (codes "book") rows (λ book. with_word (codes "INPUT") rows (λ input.
    Some (Import book input (flag_given (codes "whole") rows))))

abbrev pub export_job : List Row → Option Job
export_job rows = with_word (codes "book") rows (λ book. with_word (codes "OUTPUT") rows (λ output. Some (Export book output)))

abbrev pub interruptions_job : List Row → Option Job
interruptions_job rows =
    with_word (codes "book") rows (λ book. with_word (codes "OUTPUT") rows (λ output. Some (Interruptions book output)))

abbrev pub table_job : List Row → Option Job
table_job rows = with_word (codes "book") rows (λ book. Some (Table book))

-- what a word lists indices by
abbrev pub by_named : Text → Option By
by_named word =
    if bytes_eq word (codes "whole") then Some Whole
    else if bytes_eq word (codes "feeder") then Some Feeder
    else if bytes_eq word (codes "month") then Some Month
    else if bytes_eq word (codes "day") then Some Day
    else if bytes_eq word (codes "cause") then Some Cause
    else if bytes_eq word (codes "section") then Some Section
    else None

-- what indices are to be listed by
abbrev pub by_given : List Row → Option By
by_given rows = with_word (codes "by") rows by_named

abbrev pub indices_job : List Row → Option Job
indices_job rows = with_word (codes "book") rows (λ book. option_and_then (λ by. with_count (codes "over") rows (λ over.
    Some (Indices book by over))) (by_given rows))

abbrev pub audit_job : List Row → Option Job
audit_job rows = with_word (codes "book") rows (λ book. Some (Audit book))

abbrev pub migrate_job : List Row → Option Job
migrate_job rows = with_word (codes "book") rows (λ book. Some (Migrate book))

abbrev pub serve_job : List Row → Option Job
serve_job rows = with_word (codes "book") rows (λ book. with_number (codes "port") rows (λ port.
    with_count (codes "streams") rows (λ streams. Some (Serve book port streams))))

-- the job of a subcommand's name and of the values that were found for it
abbrev pub job_named : Text × List Row → Option Job
job_named p =
    if bytes_eq p.0 (codes "total") then Some Total
    else if bytes_eq p.0 (codes "init") then init_job p.1
    else if bytes_eq p.0 (codes "import") then import_job p.1
    else if bytes_eq p.0 (codes "export") then export_job p.1
    else if bytes_eq p.0 (codes "interruptions") then interruptions_job p.1
    else if bytes_eq p.0 (codes "table") then table_job p.1
    else if bytes_eq p.0 (codes "indices") then indices_job p.1
    else if bytes_eq p.0 (codes "audit") then audit_job p.1
    else if bytes_eq p.0 (codes "migrate") then migrate_job p.1
    else if bytes_eq p.0 (codes "serve") then serve_job p.1
    else None

-- the errors that the words may give, as `clap` reads them: none where it matches them
abbrev pub errors_of : List Text → Kinds
errors_of words = fault_of outagebook_app words

-- the job, where there are no errors
abbrev pub where_matched : Kinds → Option Job → Option Job
where_matched [] job = job
where_matched (k ∷ ks) job = None

-- the job that the words name: that of their subcommand and its options, where `clap` matches the words
abbrev pub job_of : List Text → Option Job
job_of words =
    where_matched (errors_of words) (option_and_then job_named (subcommand_of outagebook_app words))

-- why the words give no job: help and the version come only where they are asked for, a refusal only where the words
-- name no job and ask neither for help alone nor for the version alone, and a fault is that memory was refused
abbrev pub IsReason : List Text → WrongWords → Type 0
IsReason words (wrong.Help text) = IsAmong kind.DisplayHelp (errors_of words)
IsReason words (wrong.Version text) = IsAmong kind.DisplayVersion (errors_of words)
IsReason words (wrong.Wrong text) =
    (job_of words ≡ None) × (errors_of words ≢ kind.DisplayHelp ∷ []) × (errors_of words ≢ kind.DisplayVersion ∷ [])
IsReason words (wrong.Fault fault) = fault ≡ OutOfMemory

-- the reason that an error of this kind gives
abbrev pub IsReasonOf : ErrorKind → WrongWords → Type 0
IsReasonOf k (wrong.Help text) = k ≡ kind.DisplayHelp
IsReasonOf k (wrong.Version text) = k ≡ kind.DisplayVersion
IsReasonOf k (wrong.Wrong text) = (k ≢ kind.DisplayHelp) × (k ≢ kind.DisplayVersion) × (k ≢ kind.OutOfMemory)
IsReasonOf k (wrong.Fault fault) = fault ≡ OutOfMemory

-- memory was refused
abbrev pub out_of_memory : WrongWords
out_of_memory = wrong.Fault OutOfMemory

-- the status that the program ends with
abbrev pub status_of : WrongWords → ℕ
status_of (wrong.Help text) = 0
status_of (wrong.Version text) = 0
status_of (wrong.Wrong text) = 64
status_of (wrong.Fault fault) = 1
