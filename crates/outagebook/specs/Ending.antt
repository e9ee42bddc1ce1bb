-- What the program prints at its end, and the status that it ends with.
use Rattle.std.specs.Prelude.{◌≡◌, ◌⊎◌, ⊤, ℕ, List, [], ◌++◌, Option, None, Result, Ok, Err, codes, string_bytes}
use Rattle.ob_base.specs.declared.stop.Fault.{Fault as AFault}
use Rattle.ob_base.specs.declared.stop.Fault.TheVariants.{Output}
use Rattle.ob_base.specs.declared.stop.Stop.{Stop}
use Rattle.ob_base.specs.declared.stop.Stop.TheVariants.{Fault}
use Rattle.ob_stream.specs.declared.watched.Watched.{Watched}
use Rattle.ob_cli.specs.Complaints.{complaint_line}
use Rattle.ob_cli.specs.Statuses.{run_status, stopped_by}
use Rattle.ob_cli.specs.declared.read.WrongWords.TheVariants as wrong
use Rattle.ob_cli.specs.declared.status.Unfinished.{Unfinished}
use Rattle.ob_cli.specs.declared.status.Unfinished.TheVariants as ends
use Rattle.ob_jobs.specs.Telling.{FailsToWrite, Writes}

-- how a run ended
abbrev pub Run : Type 0
Run = Result ⊤ Unfinished

-- help or the version, where the words ask for it
abbrev pub answer_text : Run → List ℕ
answer_text (Ok done) = []
answer_text (Err (ends.Words (wrong.Help text))) = string_bytes text
answer_text (Err (ends.Words (wrong.Version text))) = string_bytes text
answer_text (Err (ends.Words (wrong.Wrong text))) = []
answer_text (Err (ends.Words (wrong.Fault fault))) = []
answer_text (Err (ends.Stopped stop row)) = []
answer_text (Err ends.Differs) = []

-- the line of a stop
abbrev pub stop_line : Stop → Option ℕ → List ℕ
stop_line stop row = complaint_line stop row ++ codes "\n"

module _ {W : Type 0} (contents : W → Option (List ℕ)) where
  -- the text is written; or the writer failed on it, and that is the answer
  abbrev pub WritesOrFails : Watched W → Watched W → List ℕ → Result ⊤ AFault → Type 0
  WritesOrFails old new text (Ok done) = Writes contents old new text
  WritesOrFails old new text (Err fault) = (fault ≡ Output) × FailsToWrite contents old new text

  -- the text is written, or the writer failed on it
  abbrev pub TriesToWrite : Watched W → Watched W → List ℕ → Type 0
  TriesToWrite old new text = Writes contents old new text ⊎ FailsToWrite contents old new text

  -- the same of a text that takes memory, which may be refused
  abbrev pub TriesToTell : Watched W → Watched W → List ℕ → Type 0
  TriesToTell old new text = TriesToWrite old new text ⊎ (new ≡ old)

  -- help or the version is written where the words ask for it, and the run ends as before; or it can't be written
  abbrev pub Answers : Run → Watched W → Watched W → Run → Type 0
  Answers run old new end =
      ((end ≡ run) × Writes contents old new (answer_text run))
      ⊎ ((end ≡ Err (stopped_by (Fault Output))) × FailsToWrite contents old new (answer_text run))

  -- why the job was not done is printed; nothing of one that was done, of help or the version, nor of an audit, which has printed it
  abbrev pub Complains : Run → Watched W → Watched W → Type 0
  Complains (Ok done) old new = new ≡ old
  Complains (Err (ends.Words (wrong.Help text))) old new = new ≡ old
  Complains (Err (ends.Words (wrong.Version text))) old new = new ≡ old
  Complains (Err (ends.Words (wrong.Wrong text))) old new = TriesToWrite old new (string_bytes text)
  Complains (Err (ends.Words (wrong.Fault fault))) old new = TriesToTell old new (stop_line (Fault fault) None)
  Complains (Err (ends.Stopped stop row)) old new = TriesToTell old new (stop_line stop row)
  Complains (Err ends.Differs) old new = new ≡ old

-- a run's end is printed on standard output and standard error, and its status is that of the run, or of help that can't be printed
abbrev pub TellsEnd : {W E : Type 0} → (W → Option (List ℕ)) → (E → Option (List ℕ)) → Run → Watched W → Watched W
    → Watched E → Watched E → ℕ → Type 0
TellsEnd contents kept run old new was is status =
    (end : Run) × Answers contents run old new end × Complains kept end was is × (status ≡ run_status end)
