-- What the job `total` does with a reader and a writer, and how it ends.
use Rattle.std.specs.Prelude.{◌≡◌, ◌≢◌, ◌⊎◌, ⊤, ℕ, List, Option, Result, Ok, Err, IfOk, IfErr}
use Rattle.ob_base.specs.declared.stop.Fault.TheVariants.{Output}
use Rattle.ob_base.specs.declared.stop.Stop.TheVariants.{Fault}
use Rattle.ob_stream.specs.Retrying.{BothTryAnew}
use Rattle.ob_stream.specs.Streams.{Passes}
use Rattle.ob_stream.specs.Watching.{HasJustFailed, watched_bytes}
use Rattle.ob_stream.specs.declared.watched.Watched.{Watched}
use Rattle.ob_cli.specs.declared.status.Unfinished.{Unfinished}
use Rattle.ob_cli.specs.declared.status.Unfinished.TheVariants.{Stopped}
use Rattle.ob_total.specs.Outcomes.{AnswersKnown, BeginsLine, HasCause, IsWithin, SpeaksOfText}
use Rattle.ob_total.specs.Totals.{total_line, total_of}
use Rattle.ob_total.specs.declared.total.TotalStop.{TotalStop}
use Rattle.ob_jobs.specs.Telling.{Writes, WritesNothing}

-- a total that was printed, or stopped at a row
abbrev pub total_end : Result ℕ TotalStop → Result ⊤ Unfinished
total_end (Ok total) = Ok tt
total_end (Err stop) = Err (Stopped stop.stop stop.row)

module _ {R W : Type 0} (remaining : R → Option (List ℕ)) (contents : W → Option (List ℕ)) where
  -- the total of what the reader gives and its line; or the text's first refusal, or a fault with its cause, and what then is written
  pub record TotalOf (was is : Watched R) (before after : Watched W) (done : Result ℕ TotalStop) : Type 0 where
    pub said : AnswersKnown total_of (watched_bytes remaining was) done
    pub written : IfOk done (λ n. Writes contents before after (total_line n))
    pub nothing : IfErr done (λ e. e.stop ≢ Fault Output → WritesNothing contents before after)
    pub front : IfErr done (λ e. e.stop ≡ Fault Output
        → BeginsLine (watched_bytes remaining was) (watched_bytes contents before) (watched_bytes contents after))
    pub length : SpeaksOfText done → IsWithin (watched_bytes remaining was) 268_435_456
    pub cause : IfErr done (λ e. HasCause e.stop (HasJustFailed is ⊎ Passes (watched_bytes remaining was) 268_435_456) (HasJustFailed after))
    pub tries : BothTryAnew was is before after done

  -- the same, of how the job ends
  abbrev pub PrintsTotal : Watched R → Watched R → Watched W → Watched W → Result ⊤ Unfinished → Type 0
  PrintsTotal was is before after result =
      (done : Result ℕ TotalStop) × (result ≡ total_end done) × TotalOf was is before after done
