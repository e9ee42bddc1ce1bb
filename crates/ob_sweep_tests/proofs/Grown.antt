-- A network before a change and after it: for the tests.
use Rattle.std.proofs.Common.{◌≡◌, ◌∙◌, sym, ap, subst, refl, ℕ, zero, suc, ◌+◌, ◌-◌, ◌<◌, ◌≤◌, List, [], ◌∷◌, ◌++◌, Some, length, length-append, map, take, slice_get, arith}
use Rattle.std.specs.List.{All}
use Rattle.std.specs.Option.{option_and_then}
use Rattle.std.proofs.Math.Seq.{take-append_seam}
use Rattle.std.proofs.lemmas.List.Elements.{All-filter}
use Rattle.ob_net.specs.declared.Life.{Life}
use Rattle.ob_net.specs.declared.Pos.{Pos}
use Rattle.ob_net.specs.declared.net.Device.{Device}
use Rattle.ob_net.specs.declared.net.Node.{Node}
use Rattle.ob_net.specs.Network.{Network, IsNetwork, JoinsTwo, home_feeder, with_device, with_life, with_life_at, with_node, without_last_device, without_last_node}
use Rattle.ob_net.proofs.Lives.{length-with_life_at}
use Rattle.ob_sheet.specs.Sheet.{NameDevices}
use Rattle.ob_sheet.specs.declared.Entry.{Entry}
use Rattle.ob_sweep.specs.Changed.{IsLastNode}
use Rattle.ob_sweep.specs.Timeline.{LieBetween}

all_but_one : {X : Type 0} (xs : List X) (x : X) → length (xs ++ x ∷ []) - 1 ≡ length xs
all_but_one xs x = omega (arith, length-append xs (x ∷ []))

without_the_last : {X : Type 0} (xs : List X) (x : X) → take (length (xs ++ x ∷ []) - 1) (xs ++ x ∷ []) ≡ xs
without_the_last xs x = ap (λ n. take n (xs ++ x ∷ [])) (all_but_one xs x) ∙ take-append_seam xs (x ∷ [])

map_pushed : {X Y : Type 0} (f : X → Y) (xs : List X) (x : X) → slice_get (map f (xs ++ x ∷ [])) (length xs) ≡ Some (f x)
map_pushed f [] x = refl
map_pushed f (y ∷ xs) x = map_pushed f xs x

pushed : {X : Type 0} (xs : List X) (x : X) → slice_get (xs ++ x ∷ []) (length xs) ≡ Some x
pushed [] x = refl
pushed (y ∷ xs) x = pushed xs x

pub node_before : (net : Network) (node : Node) → without_last_node (with_node net node) ≡ net
node_before net node = ap (λ (ns : List Node). record net { nodes = ns }) (without_the_last net.nodes node)

pub last_node : (net : Network) (node : Node) → IsNetwork net → IsLastNode (with_node net node) node.feeder
last_node net node ok = record {
  some = omega (arith, length-append net.nodes (node ∷ []));
  feeder = ap (home_feeder (with_node net node)) (all_but_one net.nodes node) ∙ ap (option_and_then (λ (n : Node). n.feeder)) (pushed net.nodes node);
  free = subst (λ n. All (JoinsTwo n) net.devices) (sym (all_but_one net.nodes node)) ok.joins;
}

module _ (net after : Network) (node : Node) (is : after ≡ with_node net node) where
  pub without_node : without_last_node after ≡ net
  without_node = rw is (node_before net node)

  pub with_last : IsNetwork net → IsLastNode after node.feeder
  with_last ok = rw is (last_node net node ok)

  pub devices_stay : length net.devices ≤ length after.devices
  devices_stay = rw is (omega arith)

module _ (net : Network) (name a b : List ℕ) (normal : Pos) (life : Life) where
  abbrev more : Network
  more = with_device net name a b normal life

  pub device_before : without_last_device more ≡ net
  device_before = ap (λ (ds : List Device). record net { devices = ds }) (without_the_last net.devices _)

  last_device : (length more.devices ≡ length net.devices + 1) × (slice_get (map (λ d. d.life) more.devices) (length net.devices) ≡ Some life)
  last_device = (length-append net.devices _, map_pushed (λ (d : Device). d.life) net.devices _)

pub is_last_device : (net after : Network) (number : ℕ) (name a b : List ℕ) (normal : Pos) (life : Life) → number ≡ length net.devices → after ≡ with_device net name a b normal life
    → (length after.devices ≡ number + 1) × (slice_get (map (λ d. d.life) after.devices) number ≡ Some life)
is_last_device net after number name a b normal life at is = rw (at, is) (last_device net name a b normal life)

grown : (ds : List Device) (d : Device) → length ds ≤ length (ds ++ d ∷ [])
grown ds d = omega (arith, length-append ds (d ∷ []))

module _ (net after : Network) (name a b : List ℕ) (normal : Pos) (life : Life) (is : after ≡ with_device net name a b normal life) where
  pub without_device : without_last_device after ≡ net
  without_device = rw is (device_before net name a b normal life)

  pub one_device_more : length net.devices ≤ length after.devices
  one_device_more = rw is (grown net.devices _)

same : (x : Device) (old : Life) → Some x.life ≡ Some old → x.life ≡ old
same x old h = cc (h)

set_back : (ds : List Device) (k : ℕ) (old new : Life) → slice_get (map (λ d. d.life) ds) k ≡ Some old → with_life_at (with_life_at ds k new) k old ≡ ds
set_back [] k old new h = refl
set_back (x ∷ xs) zero old new h = ap (λ (l : Life). record x { life = l } ∷ xs) (sym (same x old h))
set_back (x ∷ xs) (suc k) old new h = ap (λ (ds : List Device). x ∷ ds) (set_back xs k old new h)

pub life_before : (net : Network) (k : ℕ) (old new : Life) → slice_get (map (λ d. d.life) net.devices) k ≡ Some old → with_life (with_life net k new) k old ≡ net
life_before net k old new h = ap (λ (ds : List Device). record net { devices = ds }) (set_back net.devices k old new h)

set_at : (ds : List Device) (k : ℕ) (life : Life) → k < length ds → slice_get (map (λ d. d.life) (with_life_at ds k life)) k ≡ Some life
set_at [] k life l = absurd (omega (arith, l))
set_at (x ∷ xs) zero life l = refl
set_at (x ∷ xs) (suc k) life l = set_at xs k life (omega (arith, l))

pub life_after : (net : Network) (k : ℕ) (life : Life) → k < length net.devices → slice_get (map (λ d. d.life) (with_life net k life).devices) k ≡ Some life
life_after net k life l = set_at net.devices k life l

pub as_many : (net : Network) (k : ℕ) (life : Life) → length (with_life net k life).devices ≡ length net.devices
as_many net k life = length-with_life_at net.devices k life

-- a sheet that names devices of a network names those of one with more
pub named_more : (n m : ℕ) (es after : List Entry) → n ≤ m → after ≡ es → NameDevices n es → NameDevices m after
named_more n m es after few is named = rw is (λ k d l. omega (arith, few, named k d l))

pub lie_still : (first end : ℕ) (es after : List Entry) → after ≡ es → All (λ e. (first ≤ e.second) × (e.second < end)) es → LieBetween first end after
lie_still first end es after is all = rw is (All-filter (λ e. e.kept) (λ e. (first ≤ e.second) × (e.second < end)) es all)
