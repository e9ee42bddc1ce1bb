-- What a sink that gathers lines before it writes them leaves behind.
use Rattle.std.specs.Prelude.{◌≡◌, ⊤, ℕ, List, [], ◌++◌, Option, Result, Ok, Err}
use Rattle.std.specs.Io.KnownBytes.{Appends}
use Rattle.ob_base.specs.declared.stop.Fault.{Fault as AFault}
use Rattle.ob_base.specs.declared.stop.Fault.TheVariants.{OutOfMemory, Output}
use Rattle.ob_stream.specs.Streams.{AppendsFront}
use Rattle.ob_stream.specs.Watching.{HasJustFailed, watched_bytes}
use Rattle.ob_stream.specs.declared.watched.Watched.{Watched}
use Rattle.ob_jobs.specs.Exporting.{AppendsPart}

-- a first part of what was gathered, with the text behind it, was written, and the rest is gathered
pub record Gathers (old new : Option (List ℕ)) (before after text : List ℕ) : Type 0 where
  pub written : List ℕ
  pub parts : before ++ text ≡ written ++ after
  pub appends : Appends old new written

module _ {W : Type 0} (contents : W → Option (List ℕ)) where
  -- the line was gathered or written whole; or a first part of all that was gathered, with the line behind it, was written, and
  -- then memory was refused or the writer's last call failed
  abbrev pub GathersLine : Watched W → List ℕ → Watched W → List ℕ → List ℕ → Result ⊤ AFault → Type 0
  GathersLine old before new after line (Ok done) =
      Gathers (watched_bytes contents old) (watched_bytes contents new) before after line
  GathersLine old before new after line (Err OutOfMemory) =
      AppendsPart (watched_bytes contents old) (watched_bytes contents new) (before ++ line)
  GathersLine old before new after line (Err Output) =
      AppendsPart (watched_bytes contents old) (watched_bytes contents new) (before ++ line) × HasJustFailed new
  GathersLine old before new after line (Err fault) = ⊥

  -- all that was gathered was written, and nothing is gathered; or a front of it, and then the writer's last call failed
  abbrev pub Empties : Watched W → List ℕ → Watched W → List ℕ → Result ⊤ AFault → Type 0
  Empties old before new after (Ok done) = Appends (watched_bytes contents old) (watched_bytes contents new) before × (after ≡ [])
  Empties old before new after (Err Output) = AppendsFront (watched_bytes contents old) (watched_bytes contents new) before × HasJustFailed new
  Empties old before new after (Err fault) = ⊥
