-- The devices at each node as chains: from the last device at a node to the one before it, and so on.
use Rattle.std.specs.Prelude.{◌≡◌, ℕ, ◌<◌, ◌≤◌, List, length, map, slice_index_or}
use Rattle.std.specs.List.{All}
use Rattle.ob_net.specs.Joints.{AreNodes, last_at}
use Rattle.ob_net.specs.declared.joints.Joint.{Joint}

-- the ends of the devices
abbrev pub ends_of_joints : List Joint → List (ℕ × ℕ)
ends_of_joints joints = map (λ j. (j.a, j.b)) joints

-- the device with the number k names the devices before it at its ends
pub record IsLinked (ends : List (ℕ × ℕ)) (k : ℕ) (joint : Joint) : Type 0 where
  pub before_a : joint.before_a ≡ last_at ends joint.a k
  pub before_b : joint.before_b ≡ last_at ends joint.b k

-- each node names the last device at it, and each device those before it at its ends
pub record AreChained (last : List ℕ) (joints : List Joint) : Type 0 where
  pub few : length joints ≤ 2048
  pub nodes : All (AreNodes (length last)) (ends_of_joints joints)
  pub begins : (v : ℕ) → v < length last → slice_index_or last v 0 ≡ last_at (ends_of_joints joints) v (length joints)
  pub linked : (k : ℕ) (j : Joint) → k < length joints → IsLinked (ends_of_joints joints) k (slice_index_or joints k j)
