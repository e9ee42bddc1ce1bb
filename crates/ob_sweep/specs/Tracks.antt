-- How far the new runs of a section are found, and what it goes by from there on: the old history of a section, or no supply.
use Rattle.std.specs.Prelude.{◌≡◌, ℕ, ◌+◌, IsTrue, not, suc, ◌<◌, ◌≤◌, ◌==◌, ◌&&◌, nat_lt, max, min, Bool, true, false, List, [], ◌∷◌, Option, Some, None, map, length, slice_index_or, if◌then◌else◌}
use Rattle.ob_base.specs.declared.Pos.{Pos}
use Rattle.ob_net.specs.Network.{Network}
use Rattle.ob_net.specs.Nodes.{is_among}
use Rattle.ob_net.specs.Walk.{is_closed}
use Rattle.ob_sweep.specs.Differences.{AllDuring, IsIndifferent, SaySame, Supplies}
use Rattle.ob_sweep.specs.Moments.{Moment, at_end, section_history}
use Rattle.ob_sweep.specs.Runs.{History, runs_between}
use Rattle.ob_sweep.specs.Splice.{back, front, join}
use Rattle.ob_sweep.specs.Timeline.{IsSection, runs_at}
use Rattle.ob_sweep.specs.declared.Run.{Run}
use Rattle.ob_sweep.specs.declared.track.Track.{Track}

-- no supply at any second, and no entry that cuts off
abbrev pub without_supply : History
without_supply = record { deenergized = λ s. true; cutter = λ s. None }

-- what a section goes by
abbrev pub goes_by : (ℕ → History) → Option ℕ → History
goes_by old None = without_supply
goes_by old (Some w) = old w

-- where the sections of a set are supplied through a device alone, which has this position and this other end: what a section goes by
abbrev pub goes_through : (ℕ → Bool) → ℕ → Pos → ℕ → Option ℕ
goes_through has other pos v = if has v then (if is_closed pos then Some other else None) else Some v

-- its runs then, from a up to b, out of the old runs of all sections
abbrev pub part_of : List (List Run) → Option ℕ → ℕ → ℕ → ℕ → List Run
part_of lists None v a b = if nat_lt a b then record { section = v; since = a; until = b; cutter = None } ∷ [] else []
part_of lists (Some w) v a b = map {A = Run} (λ r. record r { section = v }) (back a (front b (runs_at lists w)))

-- runs as far as they lie in the seconds from a up to b, as those of the section v
abbrev pub cut_to : ℕ → ℕ → ℕ → List Run → List Run
cut_to v a b [] = []
cut_to v a b (r ∷ rs) =
    if nat_lt a r.until && nat_lt r.since b
    then record { section = v; since = max r.since a; until = min r.until b; cutter = r.cutter } ∷ cut_to v a b rs
    else cut_to v a b rs

-- the history with another cutter at one second
abbrev pub recut : ℕ → Option ℕ → History → History
recut a c h = record h { cutter = λ s. if s == a then c else h.cutter s }

-- the runs from a up to b, where those before a begin at lo. Where the section is without supply just before a, a run that begins at a
-- may have any cutter: joined to those before a it goes on from there.
pub record AreRunsFrom (v : ℕ) (h : History) (lo a b : ℕ) (runs : List Run) : Type 0 where
  pub cutter : Option ℕ
  pub are : runs ≡ runs_between v (recut a cutter h) a b
  pub due : ((s : ℕ) → lo ≤ s → suc s ≡ a → h.deenergized s ≡ false) → cutter ≡ h.cutter a

-- the new runs of a section from the first second of a window are found as far as they are reached, and from there up to t it goes by
-- the source
pub record IsTracked (old new : ℕ → History) (lo first t v : ℕ) (runs : List Run) (reached : ℕ) (source : Option ℕ) : Type 0 where
  pub from : first ≤ reached
  pub upto : reached ≤ t
  pub found : AreRunsFrom v (new v) lo first reached runs
  pub before : (s : ℕ) → lo ≤ s → suc s ≡ reached → (new v).deenergized s ≡ (goes_by old source).deenergized s
  pub rest : (s : ℕ) → reached ≤ s → s < t → SaySame (new v) (goes_by old source) s

-- one second of the old and the new histories, where the new positions are those of the moment: a section to which the device makes no
-- difference at any of them has its old history there, and one to which it makes none at the last of them has the old supply then
pub record IsSecond (lit : Supplies) (device : ℕ) (old new : ℕ → History) (s : ℕ) (m : Moment) : Type 0 where
  pub is : (v : ℕ) → SaySame (new v) (section_history (lit v) (λ t. m)) s
  pub same : (v : ℕ) → AllDuring (IsIndifferent lit device v) m → SaySame (new v) (old v) s
  pub end : (v : ℕ) → IsIndifferent lit device v (at_end m) → (new v).deenergized s ≡ (old v).deenergized s

-- the new runs of a section as they are kept
abbrev pub IsTrackedBy : (ℕ → History) → (ℕ → History) → ℕ → ℕ → ℕ → ℕ → Track → Type 0
IsTrackedBy old new lo first t v x = IsTracked old new lo first t v x.runs.items x.reached x.source

-- those of each section
abbrev pub AreTracked : Network → (ℕ → History) → (ℕ → History) → ℕ → ℕ → ℕ → List Track → Type 0
AreTracked net old new lo first t tracks =
    (v : ℕ) (d : Track) → v < length tracks → IsSection net v → IsTrackedBy old new lo first t v (slice_index_or tracks v d)

-- each source is one of so many nodes
abbrev pub AreWithin : ℕ → List Track → Type 0
AreWithin count tracks = (k w : ℕ) (d : Track) → k < length tracks → (slice_index_or tracks k d).source ≡ Some w → w < count

-- a section goes by a section
abbrev pub GoBySections : Network → List Track → Type 0
GoBySections net tracks = (v w : ℕ) (d : Track) → v < length tracks → IsSection net v → (slice_index_or tracks v d).source ≡ Some w → IsSection net w

-- the lists are the old runs of the sections
abbrev pub AreOldRuns : Network → (ℕ → History) → ℕ → ℕ → List (List Run) → Type 0
AreOldRuns net old lo hi lists = (v : ℕ) → IsSection net v → runs_at lists v ≡ runs_between v (old v) lo hi

-- a second was added to the track of a section that reached up to it: without supply then or with it, by this cutter; it is a node's own
-- from then on
pub record IsAdded (v second : ℕ) (is_supplied : Bool) (cutter : Option ℕ) (was now : Track) : Type 0 where
  pub runs : now.runs.items ≡ join second was.runs.items
      (if not is_supplied then record { section = v; since = second; until = second + 1; cutter = cutter } ∷ [] else [])
  pub reached : now.reached ≡ second + 1
  pub source : now.source ≡ Some v

-- to those of the listed nodes, where each has the supply and the cutter of one of its places in the list; the others are as they were
pub record AreAdded (nodes : List ℕ) (supplied : List Bool) (cutters : List (Option ℕ)) (second : ℕ) (was now : List Track) : Type 0 where
  pub count : length now ≡ length was
  pub listed : (v : ℕ) (d : Track) → IsTrue (is_among nodes v)
      → (k : ℕ) × (k < length nodes) × (slice_index_or nodes k 0 ≡ v)
      × IsAdded v second (slice_index_or supplied k false) (slice_index_or cutters k None) (slice_index_or was v d) (slice_index_or now v d)
  pub others : (v : ℕ) (d : Track) → is_among nodes v ≡ false → slice_index_or now v d ≡ slice_index_or was v d
