-- The tracks of all nodes after a second of which no entry alters what the device cuts off.
use Rattle.std.proofs.Common.{◌≡◌, ◌&&◌, ◌==◌, ◌<◌, ◌≤◌, ℕ, suc, inl, inr, Bool, true, false, List, [], ◌∷◌, Option, None, Some, refl, sym, ◌∙◌, ap, subst, arith, length, get_or}
use Rattle.std.specs.List.{All, AllByRecursion}
use Rattle.std.proofs.lemmas.List.Elements.{recursion_from_All}
use Rattle.ob_sheet.specs.Sheet.{NameDevices}
use Rattle.ob_sweep.proofs.Parted.{each_both}
use Rattle.std.proofs.lemmas.Bool.{and_parts, eqb-true, false≢true, true≢false, or_cases, or_left, or_right}
use Rattle.std.proofs.lemmas.List.{get_or-set_other, length-set}
use Rattle.ob_base.specs.declared.Pos.{Pos}
use Rattle.ob_base.specs.declared.Pos.TheVariants.{Opened}
use Rattle.ob_net.proofs.Connected.{connected_to}
use Rattle.ob_net.specs.Apart.{device_at, is_at}
use Rattle.ob_net.specs.CutOff.{other_closed}
use Rattle.ob_net.specs.Network.{Network}
use Rattle.ob_net.specs.Nodes.{is_among}
use Rattle.ob_net.specs.Walk.{has_ends, is_supplied}
use Rattle.ob_net.specs.declared.net.Device.{Device}
use Rattle.ob_net.specs.declared.tracer.CutEnd.{CutEnd}
use Rattle.ob_sheet.specs.declared.Entry.{Entry}
use Rattle.ob_sweep.specs.Acting.{moment_of, moved, moved_all, pos_as_of, steps_from}
use Rattle.ob_sweep.specs.CutOffs.{GoThrough, HasFound, IsCut, may_alter, nodes_through, other_end}
use Rattle.ob_sweep.specs.Differences.{AreThrough, AtEach, Has, SaySame, Supplies}
use Rattle.ob_sweep.specs.Runs.{History}
use Rattle.ob_sweep.specs.Tracks.{AreTracked, IsSecond, goes_by, goes_through}
use Rattle.ob_sweep.specs.declared.cut_off.CutOff.{CutOff}
use Rattle.ob_sweep.specs.declared.track.Track.{Track}
use Rattle.ob_sweep.proofs.Altering.{stays, through_found}
use Rattle.ob_sweep.proofs.Quiet.{quiet_second}
use Rattle.ob_sweep.proofs.Tracked.{tracked_pass}

-- the device with these ends is at a set that one of them is in
at_end_of : (has : ℕ → Bool) (x y : ℕ) (d : Device) → has_ends x y d ≡ true → has y ≡ true → is_at has d ≡ true
at_end_of has x y d ends t =
    elim (or_cases (d.a == x && d.b == y) (d.a == y && d.b == x) ends) as (λ _. is_at has d ≡ true) [
      | inl p ↦ or_right (has d.a) (has d.b) (ap has (eqb-true d.b y (and_parts (d.a == x) (d.b == y) p).1) ∙ t)
      | inr p ↦ or_left (has d.a) (has d.b) (ap has (eqb-true d.a y (and_parts (d.a == y) (d.b == x) p).0) ∙ t)
    ]

-- an entry of the device itself alters what it cuts off
own_alters : (net : Network) (t : ℕ) (ps : List Pos) (d : ℕ) (cut : Option CutEnd) (found : List ℕ) (e : Entry) (v : ℕ) → HasFound net ps d cut found
    → is_among (nodes_through cut found) v ≡ true → may_alter net t cut found e ≡ false → e.device ≡ d → ⊥
own_alters net t ps d (Some cut) found e v h among still is =
    let y : ℕ = cut.end in
    let has_end : is_among found y ≡ true = h.each y ∙ connected_to (other_closed net ps d) y y refl in
    true≢false (sym (at_end_of (is_among found) cut.other y (device_at net.devices d) h.ends has_end) ∙ sym (ap (λ k. is_at (is_among found) (device_at net.devices k)) is) ∙ still)
own_alters net t ps d None found e v h among still is = false≢true among

module _ (net : Network) (t d : ℕ) (cut : Option CutEnd) (found : List ℕ) where
  abbrev pub Quiet : List Entry → Type 0
  Quiet es = AllByRecursion (λ e. (may_alter net t cut found e ≡ false) × (e.device < length net.devices)) es

  abbrev lit : Supplies
  lit v ps = is_supplied net ps v

  abbrev has : ℕ → Bool
  has = is_among (nodes_through cut found)

  pub found_all : (ps : List Pos) (es : List Entry) → length ps ≡ length net.devices → Quiet es → HasFound net ps d cut found → HasFound net (moved_all net t ps es) d cut found
  found_all ps [] long quiet h = h
  found_all ps (e ∷ es) long quiet h =
      found_all (moved net t ps e) es (length-set ps e.device (pos_as_of net t e.device e.pos) ∙ long) quiet.1
      (stays net t ps d cut found e (omega (arith, long, quiet.0.1)) quiet.0.0 h)

  pub long_all : (ps : List Pos) (es : List Entry) → length (moved_all net t ps es) ≡ length ps
  long_all ps [] = refl
  long_all ps (e ∷ es) = long_all (moved net t ps e) es ∙ length-set ps e.device (pos_as_of net t e.device e.pos)

  through_each : (ps : List Pos) (es : List Entry) → length ps ≡ length net.devices → d < length net.devices → Quiet es → HasFound net ps d cut found
      → AtEach (AreThrough lit d (other_end cut) has) ps (steps_from net t ps es)
  through_each ps [] long within quiet h = through_found net ps d cut found (omega (arith, long, within)) h
  through_each ps (e ∷ es) long within quiet h = (
    through_found net ps d cut found (omega (arith, long, within)) h,
    through_each (moved net t ps e) es (length-set ps e.device (pos_as_of net t e.device e.pos) ∙ long) within quiet.1
        (stays net t ps d cut found e (omega (arith, long, quiet.0.1)) quiet.0.0 h),
  )

  has_each : (v : ℕ) (pos : Pos) (ps : List Pos) (es : List Entry) → length ps ≡ length net.devices → Quiet es → HasFound net ps d cut found → has v ≡ true → Has d pos ps
      → AtEach (Has d pos) ps (steps_from net t ps es)
  has_each v pos ps [] long quiet h among is = is
  has_each v pos ps (e ∷ es) long quiet h among is =
      let p : Pos = pos_as_of net t e.device e.pos in
      let apart : d ≡ e.device → ⊥ = λ q. own_alters net t ps d cut found e v h among quiet.0.0 (sym q) in (
        is,
        has_each v pos (moved net t ps e) es (length-set ps e.device p ∙ long) quiet.1 (stays net t ps d cut found e (omega (arith, long, quiet.0.1)) quiet.0.0 h) among
            (get_or-set_other ps e.device d p Opened apart ∙ is),
      )

  -- the device's own position is still the same
  pub still_position : (v : ℕ) (ps : List Pos) (es : List Entry) → length ps ≡ length net.devices → Quiet es → HasFound net ps d cut found → has v ≡ true
      → get_or (moved_all net t ps es) d Opened ≡ get_or ps d Opened
  still_position v ps [] long quiet h among = refl
  still_position v ps (e ∷ es) long quiet h among =
      let p : Pos = pos_as_of net t e.device e.pos in
      let apart : d ≡ e.device → ⊥ = λ q. own_alters net t ps d cut found e v h among quiet.0.0 (sym q) in
      still_position v (moved net t ps e) es (length-set ps e.device p ∙ long) quiet.1 (stays net t ps d cut found e (omega (arith, long, quiet.0.1)) quiet.0.0 h) among
      ∙ get_or-set_other ps e.device d p Opened apart

-- after such a second the tracks are what they were, and hold for it too
pub second_passed : (net : Network) (c : CutOff) (es : List Entry) (tracks : List Track) → IsCut net c → Quiet net c.second c.device c.cut c.tracer.found es → GoThrough c tracks
    → (g h : ℕ → History) (lo first second : ℕ) → lo ≤ first
    → IsSecond (λ v ps. is_supplied net ps v) c.device g h second (moment_of net c.second c.positions.items es)
    → AreTracked net g h lo first second tracks → AreTracked net g h lo first (suc second) tracks
second_passed net c es tracks of quiet goes g h lo first second la sec all v d l section =
    let lit : Supplies = λ w ps. is_supplied net ps w in
    let has : ℕ → Bool = is_among (nodes_through c.cut c.tracer.found) in
    let pos : Pos = get_or c.positions.items c.device Opened in
    let x : Track = get_or tracks v d in
    let through = through_each net c.second c.device c.cut c.tracer.found c.positions.items es of.positions of.device quiet of.found in
    let same : SaySame (h v) (goes_by g (goes_through has (other_end c.cut) pos v)) second =
    quiet_second lit c.device g h second (moment_of net c.second c.positions.items es) sec (other_end c.cut) has through pos v
    (λ t. has_each net c.second c.device c.cut c.tracer.found v pos c.positions.items es of.positions quiet of.found t refl) in
    tracked_pass g h lo first la second v x.runs.items x.reached x.source
    (subst (λ (o : Option ℕ). SaySame (h v) (goes_by g o) second) (sym (goes v d l)) same) (all v d l section)

pub quiet_all : (net : Network) (t d : ℕ) (cut : Option CutEnd) (found : List ℕ) (es : List Entry) → All (λ e. may_alter net t cut found e ≡ false) es → NameDevices (length net.devices) es
    → Quiet net t d cut found es
quiet_all net t d cut found es quiet names =
    each_both (λ e. may_alter net t cut found e ≡ false) (λ e. e.device < length net.devices) es
    (recursion_from_All (λ e. may_alter net t cut found e ≡ false) es quiet) (recursion_from_All (λ e. e.device < length net.devices) es names)
