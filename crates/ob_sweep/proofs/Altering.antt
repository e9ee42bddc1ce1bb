-- What a device cuts off, while entries that don't alter it act; and what it tells of the supply.
use Rattle.std.proofs.Common.{◌≡◌, ◌&&◌, ℕ, ◌<◌, inl, inr, Bool, true, false, not, List, Option, Some, None, refl, sym, ◌∙◌, ap, length, get_or}
use Rattle.std.proofs.Math.ListN.{set}
use Rattle.std.proofs.lemmas.Bool.{cases_Bool, cases_eq, false≢true, true≢false}
use Rattle.std.proofs.lemmas.List.{get_or-set_same, get_or-set_other}
use Rattle.ob_base.specs.declared.Pos.{Pos}
use Rattle.ob_base.specs.declared.Pos.TheVariants.{Opened, Closed}
use Rattle.ob_net.proofs.CutOff.{cut_off_supply, joined_supply, stays_cut_off, stays_joined}
use Rattle.ob_net.specs.Apart.{device_at, is_at}
use Rattle.ob_net.specs.CutOff.{AreAlikeAt, AreClosedWithin, IsSuppliedThrough, is_within}
use Rattle.ob_net.specs.Network.{Network}
use Rattle.ob_net.specs.Nodes.{is_among}
use Rattle.ob_net.specs.Walk.{is_closed, is_supplied}
use Rattle.ob_net.specs.declared.tracer.CutEnd.{CutEnd}
use Rattle.ob_sheet.specs.declared.Entry.{Entry}
use Rattle.ob_sweep.specs.Acting.{moved, pos_as_of}
use Rattle.ob_sweep.specs.CutOffs.{HasFound, may_alter, nodes_through, other_end}
use Rattle.ob_sweep.specs.Differences.{AreThrough}

closed_pos : (p : Pos) → is_closed p ≡ true → p ≡ Closed
closed_pos Opened h = absurd (false≢true h)
closed_pos Closed h = refl

module _ (net : Network) (t : ℕ) where
  -- an entry that alters nothing leaves what was found
  pub stays : (ps : List Pos) (device : ℕ) (cut : Option CutEnd) (found : List ℕ) (e : Entry) → e.device < length ps → may_alter net t cut found e ≡ false
      → HasFound net ps device cut found → HasFound net (moved net t ps e) device cut found
  stays ps device (Some cut) found e within still h =
      let has : ℕ → Bool = is_among found in
      let p : Pos = pos_as_of net t e.device e.pos in
      let alike : AreAlikeAt has device net.devices ps (set ps e.device p) = λ k l other at.
      elim (cases_eq k e.device) as (λ _. get_or ps k Opened ≡ get_or (set ps e.device p) k Opened) [
        | inl here ↦ absurd (true≢false (sym at ∙ ap (λ n. is_at has (device_at net.devices n)) here ∙ still))
        | inr apart ↦ sym (get_or-set_other ps e.device k p Opened apart)
      ] in
      stays_cut_off net ps (set ps e.device p) device cut.other cut.end has alike h
  stays ps device None found e within still h =
      let has : ℕ → Bool = is_among found in
      let p : Pos = pos_as_of net t e.device e.pos in
      let closed : AreClosedWithin has device net.devices ps (set ps e.device p) = λ k l other at is.
      elim (cases_eq k e.device) as (λ _. get_or (set ps e.device p) k Opened ≡ Closed) [
        | inl here ↦
            let inside : is_within has (device_at net.devices e.device) ≡ true = sym (ap (λ n. is_within has (device_at net.devices n)) here) ∙ at in
            let is_closed_now : is_closed p ≡ true =
            elim (cases_Bool (is_closed p)) as (λ _. is_closed p ≡ true) [
              | inl y ↦ y
              | inr n ↦ absurd (true≢false (sym (ap (λ b. not b && is_within has (device_at net.devices e.device)) n ∙ inside) ∙ still))
            ] in
            ap (λ n. get_or (set ps e.device p) n Opened) here ∙ get_or-set_same ps e.device p Opened within ∙ closed_pos p is_closed_now
        | inr apart ↦ get_or-set_other ps e.device k p Opened apart ∙ is
      ] in
      stays_joined net ps (set ps e.device p) device has closed h

-- what is cut off is supplied through the device alone
pub through_found : (net : Network) (ps : List Pos) (device : ℕ) (cut : Option CutEnd) (found : List ℕ) → device < length ps → HasFound net ps device cut found
    → AreThrough (λ v qs. is_supplied net qs v) device (other_end cut) (is_among (nodes_through cut found)) ps
through_found net ps device (Some cut) found within h =
    let law : (v : ℕ) → IsSuppliedThrough net ps device cut.other (is_among found) v = λ v. cut_off_supply net ps device cut.other cut.end (is_among found) v within h in
    record {
      outside = λ v n. (law v).outside n;
      opened = λ v y. (law v).opened y;
      closed = λ v y. (law v).closed y;
      end = (law 0).other;
    }
through_found net ps device None found within h =
    record {
      outside = λ v n. joined_supply net ps device (is_among found) v h;
      opened = λ v y. absurd (false≢true y);
      closed = λ v y. absurd (false≢true y);
      end = joined_supply net ps device (is_among found) 0 h;
    }
