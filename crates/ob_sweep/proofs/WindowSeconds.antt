-- The seconds of the window of a change: where no life begins or ends, each is one second of two histories that differ in the device of
-- the change; outside it they are the same.
use Rattle.std.proofs.Common.{◌≡◌, ◌==◌, ℕ, suc, ◌-◌, ◌<◌, ◌≤◌, nat_lt, inl, inr, Bool, not, List, [], ◌∷◌, ◌++◌, Some, refl, sym, ◌∙◌, ap, arith, subst, length}
use Rattle.std.proofs.Math.ListN.{set}
use Rattle.ob_base.specs.declared.Pos.TheVariants.{Opened}
use Rattle.std.specs.List.{AllByRecursion, filter}
use Rattle.std.proofs.lemmas.Bool.{cases_Bool, cond-true, cond-false, eq-eqb}
use Rattle.std.proofs.lemmas.List.Elements.{All-filter, recursion_from_All}
use Rattle.ob_base.specs.declared.Pos.{Pos}
use Rattle.ob_net.specs.Network.{Network, as_of}
use Rattle.ob_net.specs.Walk.{is_supplied}
use Rattle.ob_sheet.proofs.Ordered.{in_order_greatest}
use Rattle.ob_sheet.specs.declared.Entry.{Entry}
use Rattle.ob_sheet.specs.Order.{entry_of, in_order}
use Rattle.ob_sheet.specs.Positions.{entered}
use Rattle.ob_sheet.specs.Sheet.{AreNumbered, NameDevices}
use Rattle.ob_sweep.specs.Acting.{moment_at, moved_all}
use Rattle.ob_sweep.specs.Differences.{AreSameBut, SaySame, Supplies}
use Rattle.ob_sweep.specs.Moments.{section_history}
use Rattle.ob_sweep.specs.Runs.{History, history}
use Rattle.ob_sweep.specs.SheetChanges.{CanChange, changed_order, with_change}
use Rattle.ob_sweep.specs.Timeline.{LieBetween}
use Rattle.ob_sweep.specs.Tracks.{IsSecond}
use Rattle.ob_sweep.specs.Windows.{device_of, first_changed, last_changed}
use Rattle.ob_sweep.specs.declared.change.SheetChange.{SheetChange}
use Rattle.ob_sweep.proofs.Acted.{AreAbout, history_of_moment, its_own, earlier_ones}
use Rattle.ob_sweep.proofs.ButOne.{is_other, same_all, second_but_one}
use Rattle.ob_sweep.proofs.Framed.{AreFramed, are_parts, first_to_last, inside_after, joined, joined_after, kept, kept_after, named_mid, new_device, numbered_after, of_the_device, rise, rise_after}
use Rattle.ob_sweep.proofs.Law.{Alike, parts_before, parts_end, parts_past}
use Rattle.ob_sweep.proofs.Nearby.{old_device, passes_same}
use Rattle.ob_sweep.proofs.Ordered.{history_in_order}
use Rattle.ob_sweep.proofs.Parted.{each_as, each_left, each_right}
use Rattle.ob_sweep.proofs.Quiet.{say_same_back, say_same_on}
use Rattle.ob_sweep.proofs.Replanned.{each_kept}
use Rattle.ob_sweep.proofs.SameEnd.{IsOfDevice}

-- two filters in either order
either_filter : (p q : Entry → Bool) (es : List Entry) → filter q (filter p es) ≡ filter p (filter q es)
either_filter p q [] = refl
either_filter p q (e ∷ es) =
    let rest = either_filter p q es in
    elim (cases_Bool (p e)) as (λ _. filter q (filter p (e ∷ es)) ≡ filter p (filter q (e ∷ es))) [
      | inl t ↦ elim (cases_Bool (q e)) as (λ _. filter q (filter p (e ∷ es)) ≡ filter p (filter q (e ∷ es))) [
        | inl u ↦
            ap (filter q) (cond-true (p e) (e ∷ filter p es) (filter p es) t) ∙ cond-true (q e) (e ∷ filter q (filter p es)) (filter q (filter p es)) u
            ∙ ap (λ r. e ∷ r) rest
            ∙ sym (ap (filter p) (cond-true (q e) (e ∷ filter q es) (filter q es) u) ∙ cond-true (p e) (e ∷ filter p (filter q es)) (filter p (filter q es)) t)
        | inr n ↦
            ap (filter q) (cond-true (p e) (e ∷ filter p es) (filter p es) t) ∙ cond-false (q e) (e ∷ filter q (filter p es)) (filter q (filter p es)) n
            ∙ rest
            ∙ sym (ap (filter p) (cond-false (q e) (e ∷ filter q es) (filter q es) n))
      ]
      | inr n ↦
          ap (filter q) (cond-false (p e) (e ∷ filter p es) (filter p es) n) ∙ rest
          ∙ sym (elim (cases_Bool (q e)) as (λ _. filter p (filter q (e ∷ es)) ≡ filter p (filter q es)) [
            | inl u ↦
                ap (filter p) (cond-true (q e) (e ∷ filter q es) (filter q es) u) ∙ cond-false (p e) (e ∷ filter p (filter q es)) (filter p (filter q es)) n
            | inr m ↦ ap (filter p) (cond-false (q e) (e ∷ filter q es) (filter q es) m)
          ])
    ]

same_of : (g h : History) (s : ℕ) → Alike g h s → SaySame g h s
same_of g h s a = record { deenergized = a.dead; cutter = a.cutter }

module _ (entries : List Entry) (change : SheetChange) (lo end : ℕ) (numbered : AreNumbered entries) (ok : CanChange change entries)
    (some : lo < end) (lie : LieBetween lo end entries) (lie_changed : LieBetween lo end (with_change change entries))
    (front mid rest : List Entry) (framed : AreFramed entries (first_changed change) (last_changed change entries (end - 1)) front mid rest) (net : Network) where
  abbrev a : ℕ
  a = first_changed change

  abbrev z : ℕ
  z = last_changed change entries (end - 1)

  abbrev after : List Entry
  after = with_change change entries

  abbrev steps : List Entry
  steps = changed_order change mid

  abbrev d : ℕ
  d = device_of change

  abbrev pub old_of : ℕ → History
  old_of v = history net entries v

  abbrev pub new_of : ℕ → History
  new_of v = history net after v

  by_last : a ≤ z
  by_last = first_to_last entries change lo end numbered ok some lie lie_changed

  -- the histories are those of the entries in order
  old_in_order : (v s : ℕ) → SaySame (old_of v) (history net ((front ++ mid) ++ rest) v) s
  old_in_order v s =
      subst (λ (es : List Entry). SaySame (old_of v) (history net es v) s) (joined entries change lo end numbered ok some lie lie_changed front mid rest framed)
      (history_in_order entries (λ test. in_order_greatest test entries numbered) net v s)

  new_in_order : (v s : ℕ) → SaySame (new_of v) (history net ((front ++ steps) ++ rest) v) s
  new_in_order v s =
      subst (λ (es : List Entry). SaySame (new_of v) (history net es v) s) (joined_after entries change lo end numbered ok some lie lie_changed front mid rest framed)
      (history_in_order after (λ test. in_order_greatest test after (numbered_after entries change lo end numbered ok some lie lie_changed)) net v s)

  -- outside the window they are the same
  pub same_before : (v s : ℕ) → s < a → SaySame (new_of v) (old_of v) s
  same_before v s l =
      let g : History = history net ((front ++ mid) ++ rest) v in
      let h : History = history net ((front ++ steps) ++ rest) v in
      let p = are_parts entries change lo end numbered ok some lie lie_changed front mid rest framed net in
      say_same_on (new_of v) h (old_of v) s (new_in_order v s)
      (say_same_on h g (old_of v) s (same_of h g s (parts_before net v end a z front mid steps rest by_last p s l)) (say_same_back (old_of v) g s (old_in_order v s)))

  pub same_behind : (v s : ℕ) → suc z ≤ s → s < end → SaySame (new_of v) (old_of v) s
  same_behind v s l m =
      let g : History = history net ((front ++ mid) ++ rest) v in
      let h : History = history net ((front ++ steps) ++ rest) v in
      let p = are_parts entries change lo end numbered ok some lie lie_changed front mid rest framed net in
      say_same_on (new_of v) h (old_of v) s (new_in_order v s)
      (say_same_on h g (old_of v) s (say_same_back g h s (same_of g h s (parts_past net v end a z front mid steps rest by_last p (omega arith) s l)))
      (say_same_back (old_of v) g s (old_in_order v s)))

  pub same_at_end : (v : ℕ) → suc z < end → (new_of v).deenergized z ≡ (old_of v).deenergized z
  same_at_end v more =
      let p = are_parts entries change lo end numbered ok some lie lie_changed front mid rest framed net in
      (new_in_order v z).deenergized ∙ parts_end net v end a z front mid steps rest by_last p more ∙ sym (old_in_order v z).deenergized

  -- in it each second is one of two histories that differ in the device
  other_same : filter (is_other d) mid ≡ filter (is_other d) steps
  other_same =
      let named = named_mid entries change lo end numbered ok some lie lie_changed front mid rest framed in
      sym (passes_same (is_other d) d change mid (λ f is. ap not (eq-eqb f.device d is)) (new_device entries change ok) (old_device change)
      (each_as (λ f. entry_of entries f.«no» ≡ Some f) (IsOfDevice change) mid (λ f h. of_the_device entries change f ok h) named))

  others_of : (p : Entry → Bool) → filter (is_other d) (filter p mid) ≡ filter (is_other d) (filter p steps)
  others_of p = either_filter p (is_other d) mid ∙ ap (filter p) other_same ∙ sym (either_filter p (is_other d) steps)

  abbrev lit : Supplies
  lit v ps = is_supplied net ps v

  module _ (names : NameDevices (length net.devices) entries) (names_after : NameDevices (length net.devices) after)
      (lives : (s : ℕ) → a ≤ s → s ≤ z → (ps : List Pos) → as_of net.devices s ps ≡ as_of net.devices a ps) where
    named_parts : (es : List Entry) → NameDevices (length net.devices) es → AllByRecursion (λ f. f.device < length net.devices) (in_order es)
    named_parts es h =
        let P : Entry → Type 0 = λ e. e.device < length net.devices in
        recursion_from_All P (in_order es) (each_kept es P (All-filter (λ e. e.kept) P es h))

    middle : (es : List Entry) → AllByRecursion (λ f. f.device < length net.devices) ((front ++ es) ++ rest) → AllByRecursion (λ f. f.device < length net.devices) es
    middle es h =
        let P : Entry → Type 0 = λ e. e.device < length net.devices in
        each_right P front es (each_left P (front ++ es) rest h)

    old_about : AreAbout net a z front mid rest
    old_about =
        record {
          kept = kept entries change lo end numbered ok some lie lie_changed front mid rest framed;
          rise = rise entries change lo end numbered ok some lie lie_changed front mid rest framed;
          earlier = framed.earlier;
          inside = framed.inside;
          later = framed.later;
          named = middle mid (subst (AllByRecursion (λ f. f.device < length net.devices)) (joined entries change lo end numbered ok some lie lie_changed front mid rest framed) (named_parts entries names));
        }

    new_about : AreAbout net a z front steps rest
    new_about =
        record {
          kept = kept_after entries change lo end numbered ok some lie lie_changed front mid rest framed;
          rise = rise_after entries change lo end numbered ok some lie lie_changed front mid rest framed;
          earlier = framed.earlier;
          inside = inside_after entries change lo end numbered ok some lie lie_changed front mid rest framed;
          later = framed.later;
          named = middle steps (subst (AllByRecursion (λ f. f.device < length net.devices)) (joined_after entries change lo end numbered ok some lie lie_changed front mid rest framed) (named_parts after names_after));
        }

    pub second_of_window : (s : ℕ) → a ≤ s → s ≤ z → IsSecond lit d old_of new_of s (moment_at net a (as_of net.devices a (entered net front)) steps s)
    second_of_window s l m =
        let base : List Pos = as_of net.devices a (entered net front) in
        let ps : List Pos = moved_all net a base (earlier_ones s mid) in
        let qs : List Pos = moved_all net a base (earlier_ones s steps) in
        let before : AreSameBut d ps qs =
        same_all net a d base base (earlier_ones s mid) refl
        ∙ ap (λ es. set (moved_all net a base es) d Opened) (others_of (λ e. nat_lt e.second s))
        ∙ sym (same_all net a d base base (earlier_ones s steps) refl) in
        second_but_one net a d lit old_of new_of s ps qs (its_own s mid) (its_own s steps) before (others_of (λ e. e.second == s))
        (λ v. say_same_on (old_of v) (history net ((front ++ mid) ++ rest) v) (section_history (lit v) (λ _. moment_at net a base mid s)) s (old_in_order v s)
        (history_of_moment net a a z front mid rest old_about v s l m (lives s l m)))
        (λ v. say_same_on (new_of v) (history net ((front ++ steps) ++ rest) v) (section_history (lit v) (λ _. moment_at net a base steps s)) s (new_in_order v s)
        (history_of_moment net a a z front steps rest new_about v s l m (lives s l m)))
