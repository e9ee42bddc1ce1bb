-- A device has another life, and its old one again.
use Rattle.std.proofs.Common.{◌≡◌, ℕ, zero, suc, ◌+◌, ◌<◌, List, [], ◌∷◌, Some, length, map, take, get_or, slice_get, refl, sym, ap, arith}
use Rattle.std.proofs.lemmas.Option.{same_Some}
use Rattle.ob_base.specs.declared.life.Life.{Life}
use Rattle.ob_net.specs.declared.net.Device.{Device}
use Rattle.ob_net.specs.Network.{Network, with_life, with_life_at}
use Rattle.ob_sheet.specs.declared.Entry.{Entry}
use Rattle.ob_sheet.specs.Sheet.{NameDevices}
use Rattle.ob_sweep.specs.Timeline.{AreRuns}
use Rattle.ob_sweep.specs.declared.Run.{Run}
use Rattle.ob_time.specs.Calendar.{first_second_of, end_second_of}
use Rattle.bench_calls.specs.Builds.{Case, case_of}
use Rattle.bench_calls.specs.Lives.{HasRuns, life_from, with_lives, with_one_life}

pub count_lived : (ds : List Device) (k : ℕ) (life : Life) → length (with_life_at ds k life) ≡ length ds
count_lived [] k life = refl
count_lived (d ∷ ds) zero life = refl
count_lived (d ∷ ds) (suc k) life = ap suc (count_lived ds k life)

pub life_now : (ds : List Device) (k : ℕ) (life : Life) → k < length ds → slice_get (map (λ d. d.life) (with_life_at ds k life)) k ≡ Some life
life_now [] k life l = absurd (omega arith)
life_now (d ∷ ds) zero life l = refl
life_now (d ∷ ds) (suc k) life l = life_now ds k life (omega arith)

-- the devices as they were, where the life is as it was
pub life_again : (ds : List Device) (k : ℕ) (old new : Life) → slice_get (map (λ d. d.life) ds) k ≡ Some old → with_life_at (with_life_at ds k new) k old ≡ ds
life_again [] k old new has = refl
life_again (d ∷ ds) zero old new has = ap (λ life. record d { life = life } ∷ ds) (sym (same_Some d.life old has))
life_again (d ∷ ds) (suc k) old new has = ap (λ (q : List Device). d ∷ q) (life_again ds k old new has)

-- the next device's life
pub lives_more : (ds ss us : List ℕ) (case : Case) (k : ℕ) → k < length ds → k < length ss → k < length us
    → with_lives case (take (k + 1) ds) (take (k + 1) ss) (take (k + 1) us)
    ≡ with_one_life (with_lives case (take k ds) (take k ss) (take k us)) (get_or ds k 0) (life_from (first_second_of case.year) (get_or ss k 0) (get_or us k 0))
lives_more [] ss us case k l m n = absurd (omega arith)
lives_more (d ∷ ds) [] us case k l m n = absurd (omega arith)
lives_more (d ∷ ds) (s ∷ ss) [] case k l m n = absurd (omega arith)
lives_more (d ∷ ds) (s ∷ ss) (u ∷ us) case zero l m n = refl
lives_more (d ∷ ds) (s ∷ ss) (u ∷ us) case (suc k) l m n =
    let next : suc k + 1 ≡ suc (k + 1) = omega arith in
    rw next (lives_more ds ss us (with_one_life case d (life_from (first_second_of case.year) s u)) k (omega arith) (omega arith) (omega arith))

-- the entries still name devices of the network
pub devices_still : (net after : Network) (entries : List Entry) (k : ℕ) (life : Life) → after ≡ with_life net k life → NameDevices (length net.devices) entries → NameDevices (length after.devices) entries
devices_still net after entries k life is h = rw (is, count_lived net.devices k life) h

-- and where the lists are the runs then, the case has them
pub runs_then : (case : Case) (after : Network) (k : ℕ) (life : Life) (old lists : List (List Run)) → after ≡ with_life case.net k life → HasRuns case old
    → AreRuns after case.entries (first_second_of case.year) (end_second_of case.year) lists → HasRuns (case_of after case.entries case.year) lists
runs_then case after k life old lists is h runs = record {
  between = h.between;
  devices = devices_still case.net after case.entries k life is h.devices;
  sections = rw is h.sections;
  runs = runs;
}
