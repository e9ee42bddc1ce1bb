-- The causes of runs once one entry of the sheet has changed.
use Rattle.std.specs.Prelude.{◌≡◌, ℕ, ◌+◌, ◌==◌, nat_eq, List, [], ◌∷◌, ◌++◌, Some, map, length, if◌then◌else◌}
use Rattle.std.specs.Option.{option_eq}
use Rattle.ob_sheet.specs.declared.Entry.{Entry}
use Rattle.ob_sheet.specs.Order.{entry_of}
use Rattle.ob_sheet.specs.Sheet.{AreNumbered}
use Rattle.ob_sweep.specs.declared.Run.{Run}
use Rattle.ob_post.specs.SectionAmounts.{run_cause}

-- the cause that a run is posted to, where the entry with a number has this cause
abbrev pub cause_with : List Entry → ℕ → ℕ → Run → ℕ
cause_with entries number cause r = if option_eq nat_eq r.cutter (Some number) then cause else run_cause entries r

-- after an entry more, its runs have its cause, and all others theirs
abbrev pub EnteredCause : Type 0
EnteredCause =
    (entries : List Entry) (e : Entry) (r : Run) → AreNumbered entries → e.no ≡ length entries + 1 → run_cause (entries ++ e ∷ []) r ≡ cause_with entries e.no e.cause r

-- after an entry has changed, its runs have the cause that it has then, and all others theirs
abbrev pub ChangedCause : Type 0
ChangedCause =
    (entries : List Entry) (number : ℕ) (change : Entry → Entry) (e : Entry) (r : Run) → ((d : Entry) → d.no ≡ number → (change d).no ≡ number) → entry_of entries number ≡ Some e
    → run_cause (map (λ d. if d.no == number then change d else d) entries) r ≡ cause_with entries number (change e).cause r

-- where its cause stays, all have theirs
abbrev pub SameCause : Type 0
SameCause = (entries : List Entry) (number : ℕ) (e : Entry) (r : Run) → entry_of entries number ≡ Some e → cause_with entries number e.cause r ≡ run_cause entries r
