-- Two histories of positions that differ in one device: what its position makes of the history of a section, second by second, and of
-- its runs over a stretch of seconds.
use Rattle.std.specs.Prelude.{◌≡◌, ℕ, ◌<◌, ◌≤◌, Bool, IsTrue, true, false, List, [], ◌∷◌, None, map, set, slice_index_or}
use Rattle.ob_base.specs.declared.Pos.{Pos}
use Rattle.ob_base.specs.declared.Pos.TheVariants.{Opened, Closed}
use Rattle.ob_sweep.specs.Moments.{Moment, Step, section_history}
use Rattle.ob_sweep.specs.Runs.{History, runs_between}
use Rattle.ob_sweep.specs.declared.Run.{Run}

-- the tests say which sections are supplied at some positions
abbrev pub Supplies : Type 0
Supplies = ℕ → List Pos → Bool

-- the device makes no difference to the section
abbrev pub IsIndifferent : Supplies → ℕ → ℕ → List Pos → Type 0
IsIndifferent lit device v positions = lit v (set positions device Opened) ≡ lit v (set positions device Closed)

-- the sections of the set are supplied through the device alone: where it is open none of them is, and where it is closed each is
-- exactly if the device's other end is; to that end and to the sections outside the set the device makes no difference
pub record AreThrough (lit : Supplies) (device other : ℕ) (has : ℕ → Bool) (positions : List Pos) : Type 0 where
  pub outside : (v : ℕ) → has v ≡ false → IsIndifferent lit device v positions
  pub opened : (v : ℕ) → IsTrue (has v) → lit v (set positions device Opened) ≡ false
  pub closed : (v : ℕ) → IsTrue (has v) → lit v (set positions device Closed) ≡ lit other (set positions device Opened)
  pub end : IsIndifferent lit device other positions

-- what holds of the positions before the steps and after each of them
abbrev pub AtEach : (List Pos → Type 0) → List Pos → List Step → Type 0
AtEach P positions [] = P positions
AtEach P positions (x ∷ xs) = P positions × AtEach P x.after xs

-- what holds of all positions of a second
abbrev pub AllDuring : (List Pos → Type 0) → Moment → Type 0
AllDuring P m = AtEach P m.before m.steps

-- the device has this position
abbrev pub Has : ℕ → Pos → List Pos → Type 0
Has device pos positions = slice_index_or positions device Opened ≡ pos

-- the positions are the same but for the device's
abbrev pub AreSameBut : ℕ → List Pos → List Pos → Type 0
AreSameBut device ps qs = set ps device Opened ≡ set qs device Opened

-- so are those before the steps and after each of them, and the steps have the same numbers
abbrev pub StepsDiffer : ℕ → List Pos → List Step → List Pos → List Step → Type 0
StepsDiffer device ps [] qs [] = AreSameBut device ps qs
StepsDiffer device ps (x ∷ xs) qs (y ∷ ys) = AreSameBut device ps qs × (x.«no» ≡ y.«no») × StepsDiffer device x.after xs y.after ys
StepsDiffer device ps [] qs (y ∷ ys) = ⊥
StepsDiffer device ps (x ∷ xs) qs [] = ⊥

-- two seconds differ in the device alone
abbrev pub DifferIn : ℕ → Moment → Moment → Type 0
DifferIn device m n = StepsDiffer device m.before m.steps n.before n.steps

-- two histories say the same of a second
pub record SaySame (g h : History) (s : ℕ) : Type 0 where
  pub deenergized : g.deenergized s ≡ h.deenergized s
  pub cutter : g.cutter s ≡ h.cutter s

-- the history has no supply at a second, and no entry that cuts off there
pub record IsStillOff (h : History) (s : ℕ) : Type 0 where
  pub deenergized : h.deenergized s ≡ true
  pub cutter : h.cutter s ≡ None

-- a second of which all positions differ in the device alone. A section to which the device makes no difference at any of them has the
-- old history there. Where the same set is supplied through the device at all of them, a section of the set has no supply if the device
-- is open in the new history, and has the old history of the device's other end if it is closed there.
pub record DiffersAt (lit : Supplies) (device : ℕ) (old new : ℕ → Moment) (s : ℕ) : Type 0 where
  pub indifferent : (v : ℕ) → AllDuring (IsIndifferent lit device v) (old s) → SaySame (section_history (lit v) new) (section_history (lit v) old) s
  pub opened : (other v : ℕ) (has : ℕ → Bool) → AllDuring (AreThrough lit device other has) (old s) → AllDuring (Has device Opened) (new s) → IsTrue (has v)
      → IsStillOff (section_history (lit v) new) s
  pub closed : (other v : ℕ) (has : ℕ → Bool) → AllDuring (AreThrough lit device other has) (old s) → AllDuring (Has device Closed) (new s) → IsTrue (has v)
      → SaySame (section_history (lit v) new) (section_history (lit other) old) s

-- over any two histories of positions
abbrev pub DifferenceLaw : Type 0
DifferenceLaw = (lit : Supplies) (device : ℕ) (old new : ℕ → Moment) (s : ℕ) → DifferIn device (old s) (new s) → DiffersAt lit device old new s

-- a stretch of seconds from a up to b over which the same set is supplied through the device
pub record IsStretch (lit : Supplies) (device other : ℕ) (has : ℕ → Bool) (old new : ℕ → Moment) (a b : ℕ) : Type 0 where
  pub some : a < b
  pub differ : (s : ℕ) → a ≤ s → s < b → DifferIn device (old s) (new s)
  pub through : (s : ℕ) → a ≤ s → s < b → AllDuring (AreThrough lit device other has) (old s)

-- the new runs over such a stretch: outside the set the old ones; in the set one without a cutter if the device is open, and those of the
-- device's other end if it is closed
pub record HasRunsOver (lit : Supplies) (device other : ℕ) (has : ℕ → Bool) (old new : ℕ → Moment) (a b v : ℕ) : Type 0 where
  pub outside : has v ≡ false → runs_between v (section_history (lit v) new) a b ≡ runs_between v (section_history (lit v) old) a b
  pub opened : IsTrue (has v) → ((s : ℕ) → a ≤ s → s < b → AllDuring (Has device Opened) (new s))
      → runs_between v (section_history (lit v) new) a b ≡ record { section = v; since = a; until = b; cutter = None } ∷ []
  pub closed : IsTrue (has v) → ((s : ℕ) → a ≤ s → s < b → AllDuring (Has device Closed) (new s))
      → runs_between v (section_history (lit v) new) a b ≡ map {A = Run} (λ r. record r { section = v }) (runs_between other (section_history (lit other) old) a b)

-- over any two histories of positions, at any section
abbrev pub StretchLaw : Type 0
StretchLaw =
    (lit : Supplies) (device other : ℕ) (has : ℕ → Bool) (old new : ℕ → Moment) (a b v : ℕ) → IsStretch lit device other has old new a b
    → HasRunsOver lit device other has old new a b v
