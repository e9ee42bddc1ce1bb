-- The job of the words on the command line, which may not be readable.
use Rattle.std.specs.Prelude.{◌≡◌, ◌≢◌, ℕ, List, Some, Result, Ok, Err, codes, map, string_bytes}
use Rattle.std.specs.IoError.{error_kind}
use Rattle.std.specs.declared.io.Error.{Error}
use Rattle.std.specs.declared.io.ErrorKind.{ErrorKind}
use Rattle.std.specs.declared.io.ErrorKind.TheVariants as kind
use Rattle.std.specs.declared.string.String.{String}
use Rattle.std.specs.declared.vec.Vec.{Vec}
use Rattle.std.specs.declared.alloc.Global.{Global}
use Rattle.ob_base.specs.declared.stop.Fault.TheVariants.{OutOfMemory}
use Rattle.ob_cli.specs.Jobs.{IsReason, job_of}
use Rattle.ob_cli.specs.declared.job.Job.{Job}
use Rattle.ob_cli.specs.declared.read.WrongWords.{WrongWords}
use Rattle.ob_cli.specs.declared.read.WrongWords.TheVariants as wrong

-- the words as texts
abbrev pub texts : Vec (String Global) Global → List (List ℕ)
texts words = map string_bytes words.items

-- the complaint of words that are no texts, or memory was refused
abbrev pub IsUnread : ErrorKind → WrongWords → Type 0
IsUnread k (wrong.Help text) = ⊥
IsUnread k (wrong.Version text) = ⊥
IsUnread k (wrong.Wrong text) = (k ≢ kind.OutOfMemory) × (string_bytes text ≡ codes "error: the words are not UTF-8\n")
IsUnread k (wrong.Fault fault) = fault ≡ OutOfMemory

-- the job that the words name; or the reason why they name none; or they could not be read
abbrev pub IsJobOf : Result (Vec (String Global) Global) Error → Result Job WrongWords → Type 0
IsJobOf (Ok words) (Ok job) = job_of (texts words) ≡ Some job
IsJobOf (Ok words) (Err reason) = IsReason (texts words) reason
IsJobOf (Err error) (Ok job) = ⊥
IsJobOf (Err error) (Err reason) = IsUnread (error_kind error) reason
