-- What is handed to a sink of interruption rows.
use Rattle.std.specs.Prelude.{◌≡◌, ⊤, ℕ, List, [], ◌∷◌, ◌++◌, length, Result, Ok, Err}
use Rattle.ob_base.specs.declared.stop.Fault.{Fault as AFault}
use Rattle.ob_rows.specs.declared.row.InterruptionRow.{InterruptionRow}

-- what a take makes of a sink, whether it fails or not
abbrev pub Takes : Type 0 → Type 1
Takes V = V → InterruptionRow → Result ⊤ AFault → V → Type 0

module _ {V : Type 0} (takes : Takes V) where
  -- the sink took these, one after another
  abbrev pub TakesAll : V → List InterruptionRow → V → Type 0
  TakesAll old [] new = new ≡ old
  TakesAll old (r ∷ rows) new = (mid : V) × takes old r (Ok tt) mid × TakesAll mid rows new

  -- it took the first of these, and failed at the next one
  pub record FailsAmong (old : V) (all : List InterruptionRow) (fault : AFault) (new : V) : Type 0 where
    pub front : List InterruptionRow
    pub it : InterruptionRow
    pub rest : List InterruptionRow
    pub parts : all ≡ front ++ (it ∷ rest)
    pub mid : V
    pub took : TakesAll old front mid
    pub failed : takes mid it (Err fault) new

  -- the sink took all of these, so many; or a first part of them, and failed at the next one
  abbrev pub HandsRows : V → V → List InterruptionRow → Result ℕ AFault → Type 0
  HandsRows was is rows (Ok count) = TakesAll was rows is × (count ≡ length rows)
  HandsRows was is rows (Err fault) = FailsAmong was rows fault is
