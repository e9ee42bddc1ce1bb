-- The entries of any second taken, whether they alter what the device cuts off or not.
use Rattle.std.proofs.Common.{◌≡◌, ◌+◌, ◌<◌, ℕ, suc, inl, inr, Bool, true, cond, List, Option, None, Some, sym, ◌∙◌, ap, subst, arith, length, get_or}
use Rattle.std.proofs.lemmas.Bool.{cases_Bool, cond-false}
use Rattle.ob_base.specs.declared.Pos.{Pos}
use Rattle.ob_base.specs.declared.Pos.TheVariants.{Opened}
use Rattle.ob_net.specs.Network.{Network}
use Rattle.ob_net.specs.Nodes.{is_among}
use Rattle.ob_net.specs.Traces.{TracerState}
use Rattle.ob_net.specs.Walk.{is_closed, is_supplied}
use Rattle.ob_net.specs.declared.tracer.CutEnd.{CutEnd}
use Rattle.ob_sheet.specs.declared.Entry.{Entry}
use Rattle.ob_sweep.specs.Acting.{moment_of, moved_all}
use Rattle.ob_sweep.specs.CutOffs.{GoOwnOutside, GoThrough, IsCut, nodes_through, other_end}
use Rattle.ob_sweep.specs.States.{IsGone, IsTaken}
use Rattle.ob_sweep.specs.Tracks.{AreTracked, IsSecond, goes_through}
use Rattle.ob_sweep.specs.declared.Run.{Run}
use Rattle.ob_sweep.specs.declared.cut_off.CutOff.{CutOff}
use Rattle.ob_sweep.specs.declared.difference.Differences.{Differences}
use Rattle.ob_sweep.specs.declared.track.Track.{Track}
use Rattle.ob_sweep.proofs.Passed.{Quiet, second_passed, still_position}

own_outside : (c : CutOff) (tracks : List Track) → GoThrough c tracks → GoOwnOutside c tracks
own_outside c tracks h v d l none =
    h v d l ∙ cond-false (is_among (nodes_through c.cut c.tracer.found) v) (cond (is_closed (get_or c.positions.items c.device Opened)) (Some (other_end c.cut)) None) (Some v) none

pub gone_taken : (net : Network) (entries : List Entry) (second : ℕ) (lists : List (List Run)) (was now : Differences) → IsTaken net entries second lists was now → IsGone net entries second lists was now
gone_taken net entries second lists was now h =
    record {
      device = h.device;
      second_as_of = h.second_as_of;
      positions = h.positions;
      through = λ all. h.through (own_outside was.cut was.tracks.items all);
      tracked = λ g k lo first hi l m olds by all tracked sec. h.tracked g k lo first hi l m olds by (own_outside was.cut was.tracks.items all) tracked sec;
    }

-- where it is closed or open as before, each node goes by what it went by
same_through : (cut : Option CutEnd) (found : List ℕ) (p q : Pos) (v : ℕ) → (is_among (nodes_through cut found) v ≡ true → p ≡ q)
    → goes_through (is_among (nodes_through cut found)) (other_end cut) p v ≡ goes_through (is_among (nodes_through cut found)) (other_end cut) q v
same_through cut found p q v same =
    let has : ℕ → Bool = is_among (nodes_through cut found) in
    elim (cases_Bool (has v)) as (λ _. goes_through has (other_end cut) p v ≡ goes_through has (other_end cut) q v) [
      | inl t ↦ ap (λ r. goes_through has (other_end cut) r v) (same t)
      | inr n ↦ cond-false (has v) (cond (is_closed p) (Some (other_end cut)) None) (Some v) n ∙ sym (cond-false (has v) (cond (is_closed q) (Some (other_end cut)) None) (Some v) n)
    ]

pub gone_passed : (net : Network) (entries : List Entry) (second : ℕ) (lists : List (List Run)) (was now : Differences) → IsCut net was.cut → was.positions.items ≡ was.cut.positions.items
    → Quiet net was.cut.second was.cut.device was.cut.cut was.cut.tracer.found entries
    → now.cut.device ≡ was.cut.device → now.cut.second ≡ was.cut.second → now.cut.cut ≡ was.cut.cut → now.cut.tracer ≡ was.cut.tracer
    → now.cut.positions.items ≡ moved_all net was.cut.second was.cut.positions.items entries → now.positions.items ≡ moved_all net was.cut.second was.positions.items entries
    → now.tracks.items ≡ was.tracks.items → IsGone net entries second lists was now
gone_passed net entries second lists was now of at quiet device as_of cut tracer moved_cut moved tracks =
    let c : CutOff = was.cut in
    let found : List ℕ = c.tracer.found in
    record {
      device = device;
      second_as_of = as_of;
      positions = moved;
      through = λ all v d l.
          let small : v < length was.tracks.items = subst (λ (ts : List Track). v < length ts) tracks l in
          ap (λ (ts : List Track). (get_or ts v d).source) tracks
          ∙ all v d small
          ∙ same_through c.cut found (get_or c.positions.items c.device Opened) (get_or (moved_all net c.second c.positions.items entries) c.device Opened) v
          (λ t. sym (still_position net c.second c.device c.cut found v c.positions.items entries of.positions quiet of.found t))
          ∙ ap (λ (ps : List Pos). goes_through (is_among (nodes_through c.cut found)) (other_end c.cut) (get_or ps c.device Opened) v) (sym moved_cut)
          ∙ ap (λ k. goes_through (is_among (nodes_through c.cut found)) (other_end c.cut) (get_or now.cut.positions.items k Opened) v) (sym device)
          ∙ ap (λ (o : Option CutEnd). goes_through (is_among (nodes_through o found)) (other_end o) (get_or now.cut.positions.items now.cut.device Opened) v) (sym cut)
          ∙ ap (λ (s : TracerState). goes_through (is_among (nodes_through now.cut.cut s.found)) (other_end now.cut.cut) (get_or now.cut.positions.items now.cut.device Opened) v) (sym tracer);
      tracked = λ g k lo first hi l m olds by all tracked sec.
          let here : IsSecond (λ v ps. is_supplied net ps v) c.device g k second (moment_of net c.second c.positions.items entries) =
          subst (λ (ps : List Pos). IsSecond (λ v qs. is_supplied net qs v) c.device g k second (moment_of net c.second ps entries)) at sec in
          let next : suc second ≡ second + 1 = omega arith in
          subst (λ (ts : List Track). AreTracked net g k lo first (second + 1) ts) (sym tracks)
          (subst (λ n. AreTracked net g k lo first n was.tracks.items) next
          (second_passed net c entries was.tracks.items of quiet all g k lo first second l here tracked));
    }
