-- Whether a task is begun: a new book needs a period, and any other a file.
use Rattle.std.specs.Prelude.{◌≡◌, ◌↔◌, ⊤, Bool, Result, Ok, Err, IfErr, if◌then◌else◌}
use Rattle.ob_base.specs.Stop.{IsRefusedOrNoMemory}
use Rattle.ob_base.specs.declared.stop.Fault.TheVariants.{Store}
use Rattle.ob_base.specs.declared.stop.Refusal.TheVariants.{BadPeriod}
use Rattle.ob_base.specs.declared.stop.Stop.{Stop}
use Rattle.ob_base.specs.declared.stop.Stop.TheVariants.{Fault, Refused}
use Rattle.ob_store.specs.Creating.{HasNoPeriodText}
use Rattle.ob_jobs.specs.declared.tasks.Task.{Task}
use Rattle.ob_jobs.specs.declared.tasks.Task.TheVariants as tasks

-- the file's absence is a fault of the store
abbrev pub where_there : Bool → Result ⊤ Stop
where_there is_there = if is_there then Ok tt else Err (Fault Store)

-- a new book is refused exactly where the words name no period, as the making of its tables refuses it, unless memory was
-- refused; and any other task exactly where its file isn't there
abbrev pub Begins : {I O V : Type 0} → Task I O V → Bool → Result ⊤ Stop → Type 0
Begins (tasks.Init first days zone) is_there result =
    ((result ≡ Err (Refused BadPeriod)) ↔ HasNoPeriodText first.now days zone.now) × IfErr result (IsRefusedOrNoMemory BadPeriod)
Begins task is_there result = result ≡ where_there is_there
