-- Gathering the devices that are closed after some entries or that steps close, and the steps of the devices at a set of nodes.
use Rattle.std.proofs.Common.{◌≡◌, ◌+◌, ◌<◌, ◌++◌, ℕ, Bool, true, false, cond, List, [], ◌∷◌, length, get_or, take, set, sym, ap, subst, ◌∙◌, length-set}
use Rattle.std.specs.List.{All, filter}
use Rattle.std.proofs.lemmas.List.{append-nil, take_more}
use Rattle.std.proofs.lemmas.List.Elements.{All-push, filter_more}
use Rattle.ob_base.specs.declared.Pos.{Pos}
use Rattle.ob_base.specs.declared.Pos.TheVariants.{Closed}
use Rattle.ob_net.specs.Apart.{HasEnds, IsApart, device_at}
use Rattle.ob_net.specs.Joints.{IsClosedAt}
use Rattle.ob_net.specs.Network.{Network}
use Rattle.ob_net.proofs.Switched.{closed_here, closed_more}
use Rattle.ob_sheet.specs.declared.Entry.{Entry}
use Rattle.ob_sheet.specs.Sheet.{NameDevices}
use Rattle.ob_sweep.specs.Near.{AreNear}

-- a step that closes its device leaves it closed
abbrev pub LeavesClosed : List Pos → Entry → Type 0
LeavesClosed now e = e.pos ≡ Closed → IsClosedAt now e.device

-- what the first so many steps close is closed, and what was closed still is
pub record Closing (first : List Pos) (steps : List Entry) (i : ℕ) (now : List Pos) : Type 0 where
  pub long : length now ≡ length first
  pub kept : (k : ℕ) → IsClosedAt first k → IsClosedAt now k
  pub closed : All (LeavesClosed now) (take i steps)

-- one more step, which closes its device
pub closing_more : (first : List Pos) (steps : List Entry) (i : ℕ) (x : Entry) (now : List Pos) → i < length steps → x ≡ get_or steps i x → x.device < length now
    → Closing first steps i now → Closing first steps (i + 1) (set now x.device Closed)
closing_more first steps i x now l is within h =
    let new : List Pos = set now x.device Closed in
    let here : LeavesClosed new x = λ c. closed_here now x.device within in
    record {
      long = length-set now x.device Closed ∙ h.long;
      kept = λ k c. closed_more now x.device k within (h.kept k c);
      closed =
          rw (take_more steps i x l)
          (All-push (LeavesClosed new) (take i steps) (get_or steps i x) (λ k d m c. closed_more now x.device (get_or (take i steps) k d).device within (h.closed k d m c)) (subst (LeavesClosed new) is here));
    }

-- or opens it
pub closing_open : (first : List Pos) (steps : List Entry) (i : ℕ) (x : Entry) (now : List Pos) → i < length steps → x ≡ get_or steps i x → (x.pos ≡ Closed → ⊥)
    → Closing first steps i now → Closing first steps (i + 1) now
closing_open first steps i x now l is opens h =
    let here : LeavesClosed now x = λ c. absurd (opens c) in
    record {
      long = h.long;
      kept = h.kept;
      closed = rw (take_more steps i x l) (All-push (LeavesClosed now) (take i steps) (get_or steps i x) h.closed (subst (LeavesClosed now) is here));
    }

-- a set that is apart under all these positions is one of the nodes near the device
pub near_of : (net : Network) (steps : List Entry) (device : ℕ) (has : ℕ → Bool) (first now : List Pos)
    → ((k : ℕ) → IsClosedAt first k → IsClosedAt now k) → All (LeavesClosed now) steps → NameDevices (length net.devices) steps
    → IsApart net now has → HasEnds has (device_at net.devices device) → AreNear net first steps device has
near_of net steps device has first now kept closed names apart ends =
    record {
      first = record { grid = apart.grid; keeps = λ k l c. apart.keeps k l (kept k c) };
      steps = λ k d l c. apart.keeps (get_or steps k d).device (names k d l) (closed k d l c);
      ends = ends;
    }

-- one more step of those that pass a test
pub passes_more : (p : Entry → Bool) (steps : List Entry) (i : ℕ) (x : Entry) → i < length steps → x ≡ get_or steps i x → p x ≡ true
    → filter p (take i steps) ++ x ∷ [] ≡ filter p (take (i + 1) steps)
passes_more p steps i x l is t =
    sym (filter_more p steps i x l
    ∙ ap (λ (y : Entry). filter p (take i steps) ++ cond (p y) (y ∷ []) []) (sym is)
    ∙ ap (λ b. filter p (take i steps) ++ cond b (x ∷ []) []) t)

pub fails_more : (p : Entry → Bool) (steps : List Entry) (i : ℕ) (x : Entry) → i < length steps → x ≡ get_or steps i x → p x ≡ false
    → filter p (take i steps) ≡ filter p (take (i + 1) steps)
fails_more p steps i x l is f =
    sym (filter_more p steps i x l
    ∙ ap (λ (y : Entry). filter p (take i steps) ++ cond (p y) (y ∷ []) []) (sym is)
    ∙ ap (λ b. filter p (take i steps) ++ cond b (x ∷ []) []) f
    ∙ append-nil (filter p (take i steps)))
