-- What a change makes of the runs of the nodes near its device and of all others, where a window's steps are those near it alone.
use Rattle.std.proofs.Common.{◌≡◌, ◌-◌, ◌+◌, ◌<◌, ◌≤◌, ℕ, suc, Bool, true, false, not, cond, List, [], ◌∷◌, ◌++◌, Some, length, take, drop, refl, sym, ◌∙◌, ap, arith, subst, inl, inr, IsTrue}
use Rattle.std.specs.List.{All, AllPairs, AllByRecursion, filter}
use Rattle.std.proofs.lemmas.Bool.{cases_Bool, cond-true, cond-false}
use Rattle.std.proofs.lemmas.List.{length-append}
use Rattle.std.proofs.lemmas.List.Elements.{All-drop, All-filter, All-from_recursion, All-take, recursion_from_All}
use Rattle.std.proofs.Math.Seq.{get_or-append_seam}
use Rattle.ob_base.specs.declared.Pos.{Pos}
use Rattle.ob_net.specs.Apart.{KeepsTo, device_at, is_at}
use Rattle.ob_net.specs.Network.{Network}
use Rattle.ob_net.specs.Reach.{is_reached}
use Rattle.ob_net.proofs.Apart.{ends_keep}
use Rattle.ob_sheet.proofs.Ordered.{rising_pairs}
use Rattle.ob_sheet.proofs.Sorting.{IsInOrder}
use Rattle.ob_sheet.specs.declared.Entry.{Entry}
use Rattle.ob_sheet.specs.Order.{entry_of, in_order, is_before}
use Rattle.ob_sheet.specs.Positions.{entered}
use Rattle.ob_sheet.specs.Sheet.{AreNumbered, NameDevices}
use Rattle.ob_sweep.specs.Near.{AreNear, ClosesWithin, acts_at, spliced_near}
use Rattle.ob_sweep.specs.Runs.{history, runs_between}
use Rattle.ob_sweep.specs.SheetChanges.{CanChange, changed_order, others, with_change}
use Rattle.ob_sweep.specs.Splice.{splice}
use Rattle.ob_sweep.specs.Steps.{ArePositionsBefore, all_runs}
use Rattle.ob_sweep.specs.Timeline.{AreOfNode, AreRuns, IsSection, LieBetween, runs_at}
use Rattle.ob_sweep.specs.Windows.{IsWindow, count_within, device_of, first_changed, last_changed}
use Rattle.ob_sweep.specs.declared.Run.{Run}
use Rattle.ob_sweep.specs.declared.change.SheetChange.{SheetChange}
use Rattle.ob_sweep.specs.declared.change.SheetChange.TheVariants.{Entered, Corrected, Withdrawn}
use Rattle.ob_sweep.specs.declared.window.Window.{Window}
use Rattle.ob_sweep.proofs.Framed.{AreFramed, are_parts, first_to_last, in_order_left, named_mid, new_device, of_the_device, respliced_runs, rise_after, spliced_runs}
use Rattle.ob_sweep.proofs.Sides.{inside_without, keep_all, keep_first, keep_runs, outside_without}
use Rattle.ob_sweep.proofs.Parted.{OfNew, OfOld, each_as, each_changed, each_filter, each_join, each_left, each_right}
use Rattle.ob_sweep.proofs.Planned.{AreReady, between, few, framed_so, ready}
use Rattle.ob_sweep.proofs.Preceding.{old_named}
use Rattle.ob_sweep.proofs.Related.{at_section, runs_of_node}
use Rattle.ob_sweep.proofs.Replanned.{each_kept}
use Rattle.ob_sweep.proofs.SameEnd.{IsOfDevice, gone_other, put_other}

-- a filter that passes neither the old entry nor the new one passes the same after the change
gone_all : (q : Entry → Bool) (old : Entry) (es : List Entry) → q old ≡ false → ((f : Entry) → f.device ≡ old.device → q f ≡ q old)
    → AllByRecursion (λ f. f.«no» ≡ old.«no» → f.device ≡ old.device) es → AllByRecursion (λ f. f.«no» ≡ old.«no» → q f ≡ false) es
gone_all q old es none by h =
    each_as (λ f. f.«no» ≡ old.«no» → f.device ≡ old.device) (λ f. f.«no» ≡ old.«no» → q f ≡ false) es (λ f p is. by f (p is) ∙ none) h

pub passes_same : (q : Entry → Bool) (device : ℕ) (change : SheetChange) (es : List Entry) → ((f : Entry) → f.device ≡ device → q f ≡ false)
    → OfNew (λ e. e.device ≡ device) change → OfOld (λ e. e.device ≡ device) change → AllByRecursion (IsOfDevice change) es
    → filter q (changed_order change es) ≡ filter q es
passes_same q device (Entered new) es none is was h = put_other q new es (none new is)
passes_same q device (Corrected old new) es none is was h =
    put_other q new (others old.«no» es) (none new is)
    ∙ gone_other q old.«no» es (gone_all q old es (none old was) (λ f p. none f (p ∙ was) ∙ sym (none old was)) h)
passes_same q device (Withdrawn old) es none is was h =
    gone_other q old.«no» es (gone_all q old es (none old was) (λ f p. none f (p ∙ was) ∙ sym (none old was)) h)

pub old_device : (change : SheetChange) → OfOld (λ e. e.device ≡ device_of change) change
old_device (Entered new) = tt
old_device (Corrected old new) = refl
old_device (Withdrawn old) = refl

of_new_as : (P Q : Entry → Type 0) (change : SheetChange) → ((e : Entry) → P e → Q e) → OfNew P change → OfNew Q change
of_new_as P Q (Entered new) f h = f new h
of_new_as P Q (Corrected old new) f h = f new h
of_new_as P Q (Withdrawn old) f h = tt

-- entries in order, the last of them filtered
in_order_filter : (q : Entry → Bool) (ys : List Entry) → IsInOrder ys → IsInOrder (filter q ys)
in_order_filter q [] h = tt
in_order_filter q (y ∷ ys) h =
    elim (cases_Bool (q y)) [
      | inl t ↦ rw t (each_filter (λ f. IsTrue (is_before y f)) q ys h.0, in_order_filter q ys h.1)
      | inr n ↦ rw n (in_order_filter q ys h.1)
    ]

in_order_some : (q : Entry → Bool) (xs ys : List Entry) → IsInOrder (xs ++ ys) → IsInOrder (xs ++ filter q ys)
in_order_some q [] ys h = in_order_filter q ys h
in_order_some q (x ∷ xs) ys h = (
  each_join (λ f. IsTrue (is_before x f)) xs (filter q ys) (each_left (λ f. IsTrue (is_before x f)) xs ys h.0)
      (each_filter (λ f. IsTrue (is_before x f)) q ys (each_right (λ f. IsTrue (is_before x f)) xs ys h.0)),
  in_order_some q xs ys h.1,
)

fewer : (q : Entry → Bool) (es : List Entry) → length (filter q es) ≤ length es
fewer q [] = omega arith
fewer q (e ∷ es) =
    elim (cases_Bool (q e)) as (λ _. length (filter q (e ∷ es)) ≤ length (e ∷ es)) [
      | inl t ↦ rw t (omega (arith, fewer q es))
      | inr n ↦ rw n (omega (arith, fewer q es))
    ]

module _ (entries : List Entry) (change : SheetChange) (lo end : ℕ) (numbered : AreNumbered entries) (ok : CanChange change entries)
    (some : lo < end) (lie : LieBetween lo end entries) (lie_changed : LieBetween lo end (with_change change entries)) where
  abbrev a : ℕ
  a = first_changed change

  abbrev z : ℕ
  z = last_changed change entries (end - 1)

  module _ (front mid rest : List Entry) (framed : AreFramed entries a z front mid rest) (net : Network) (has : ℕ → Bool) (near : AreNear net (entered net front) mid (device_of change) has) where
    abbrev steps : List Entry
    steps = changed_order change mid

    -- no step closes a device that joins the set to a node outside but GRID
    closing_mid : AllByRecursion (ClosesWithin net has) mid
    closing_mid = recursion_from_All (ClosesWithin net has) mid near.steps

    closing_steps : AllByRecursion (ClosesWithin net has) steps
    closing_steps =
        let keeps : KeepsTo has (device_at net.devices (device_of change)) = ends_keep has (device_at net.devices (device_of change)) near.ends in
        each_changed (ClosesWithin net has) change mid
        (of_new_as (λ e. e.device ≡ device_of change) (ClosesWithin net has) change
        (λ e is closed. subst (λ (k : ℕ). KeepsTo has (device_at net.devices k)) (sym is) keeps) (new_device entries change ok)) closing_mid

    -- the runs of the window at a node of the set, from the steps near it alone
    pub inside_runs : (v : ℕ) → has v ≡ true
        → runs_between v (history net (front ++ filter (acts_at net has) steps) v) a (suc z) ≡ runs_between v (history net (front ++ steps) v) a (suc z)
    inside_runs v is =
        let p = are_parts entries change lo end numbered ok some lie lie_changed front mid rest framed net in
        let by = first_to_last entries change lo end numbered ok some lie lie_changed in
        keep_runs net has v (front ++ filter (acts_at net has) steps) (front ++ steps) a (suc z) (omega (arith, by))
        (keep_all net has v (acts_at net has) (inside_without net has v is) a front front steps p.new_window closing_steps (keep_first net has v front near.first))

    -- and at a node outside the old ones
    outside_runs : (v : ℕ) → has v ≡ false
        → runs_between v (history net (front ++ steps) v) a (suc z) ≡ runs_between v (history net (front ++ mid) v) a (suc z)
    outside_runs v is =
        let p = are_parts entries change lo end numbered ok some lie lie_changed front mid rest framed net in
        let by = first_to_last entries change lo end numbered ok some lie lie_changed in
        let q : Entry → Bool = λ e. not (acts_at net has e) in
        let named = named_mid entries change lo end numbered ok some lie lie_changed front mid rest framed in
        let of_device : AllByRecursion (IsOfDevice change) mid =
        each_as (λ f. entry_of entries f.«no» ≡ Some f) (IsOfDevice change) mid (λ f h. of_the_device entries change f ok h) named in
        let none : (f : Entry) → f.device ≡ device_of change → q f ≡ false = λ f h.
        ap (λ k. not (is_at has (device_at net.devices k))) h ∙ ap not near.ends.some in
        let same : filter q steps ≡ filter q mid = passes_same q (device_of change) change mid none (new_device entries change ok) (old_device change) of_device in
        sym (keep_runs net has v (front ++ filter q steps) (front ++ steps) a (suc z) (omega (arith, by))
        (keep_all net has v q (outside_without net has v is) a front front steps p.new_window closing_steps (keep_first net has v front near.first)))
        ∙ ap (λ es. runs_between v (history net (front ++ es) v) a (suc z)) same
        ∙ keep_runs net has v (front ++ filter q mid) (front ++ mid) a (suc z) (omega (arith, by))
        (keep_all net has v q (outside_without net has v is) a front front mid p.old_window closing_mid (keep_first net has v front near.first))

    pub runs_outside : (v : ℕ) → has v ≡ false → runs_between v (history net (with_change change entries) v) lo end ≡ runs_between v (history net entries v) lo end
    runs_outside v is =
        spliced_runs entries change lo end numbered ok some lie lie_changed front mid rest framed net v
        ∙ ap (splice a (suc z) (runs_between v (history net entries v) lo end)) (outside_runs v is)
        ∙ sym (respliced_runs entries change lo end numbered ok some lie lie_changed front mid rest framed net v)

    -- the new runs at any section
    module _ (old window : List (List Run)) (were : AreRuns net entries lo end old) (found : window ≡ all_runs net (front ++ filter (acts_at net has) steps) a (z + 1)) where
      pub new_at : (v : ℕ) → IsSection net v
          → cond (has v) (splice a (z + 1) (runs_at old v) (runs_at window v)) (runs_at old v) ≡ runs_between v (history net (with_change change entries) v) lo end
      new_at v section =
          let next : z + 1 ≡ suc z = omega arith in
          let near_steps : List Entry = filter (acts_at net has) steps in
          let was : List Run = runs_between v (history net entries v) lo end in
          elim (cases_Bool (has v)) as (λ _. cond (has v) (splice a (z + 1) (runs_at old v) (runs_at window v)) (runs_at old v) ≡ runs_between v (history net (with_change change entries) v) lo end) [
            | inl t ↦
                let inside : runs_at window v ≡ runs_between v (history net (front ++ near_steps) v) a (z + 1) =
                ap (λ (ls : List (List Run)). runs_at ls v) found ∙ at_section net (front ++ near_steps) a (z + 1) v section in
                cond-true (has v) (splice a (z + 1) (runs_at old v) (runs_at window v)) (runs_at old v) t
                ∙ ap (λ q. splice a (z + 1) q (runs_at window v)) (were.defined v section)
                ∙ ap (splice a (z + 1) was) inside
                ∙ ap (λ w. splice a w was (runs_between v (history net (front ++ near_steps) v) a w)) next
                ∙ ap (splice a (suc z) was) (inside_runs v t)
                ∙ sym (spliced_runs entries change lo end numbered ok some lie lie_changed front mid rest framed net v)
            | inr n ↦
                cond-false (has v) (splice a (z + 1) (runs_at old v) (runs_at window v)) (runs_at old v) n
                ∙ were.defined v section
                ∙ sym (runs_outside v n)
          ]

-- the same of a window that was found
module _ (entries : List Entry) (change : SheetChange) (lo end : ℕ) (numbered : AreNumbered entries) (ok : CanChange change entries)
    (some : lo < end) (lie : LieBetween lo end entries) (lie_changed : LieBetween lo end (with_change change entries)) (w : Window) (is : IsWindow change entries end w) where
  abbrev first_ones : List Entry
  first_ones = take w.from (in_order entries)

  abbrev old_steps : List Entry
  old_steps = between w.from w.to (in_order entries)

  abbrev all_steps : List Entry
  all_steps = changed_order change old_steps

  -- what the sweep asks of some of the steps
  pub some_ready : (q : Entry → Bool) (devices : ℕ) → NameDevices devices (with_change change entries) → AreReady devices w.first w.end first_ones (filter q all_steps)
  some_ready q devices names =
      let r = ready entries change lo end numbered ok some lie lie_changed w is devices names in
      let kept : AllByRecursion (λ e. IsTrue e.kept) (first_ones ++ all_steps) = recursion_from_All (λ e. IsTrue e.kept) (first_ones ++ all_steps) r.kept in
      record {
        kept =
            All-from_recursion (λ e. IsTrue e.kept) (first_ones ++ filter q all_steps)
            (each_join (λ e. IsTrue e.kept) first_ones (filter q all_steps) (each_left (λ e. IsTrue e.kept) first_ones all_steps kept)
            (each_filter (λ e. IsTrue e.kept) q all_steps (each_right (λ e. IsTrue e.kept) first_ones all_steps kept)));
        ordered =
            rising_pairs (first_ones ++ filter q all_steps)
            (in_order_some q first_ones all_steps
            (in_order_left (first_ones ++ all_steps) (drop w.to (in_order entries))
            (rise_after entries change lo end numbered ok some lie lie_changed first_ones old_steps (drop w.to (in_order entries)) (framed_so entries change lo end numbered ok some lie lie_changed w is))));
        earlier = r.earlier;
        between = All-filter q (λ e. (w.first ≤ e.second) × (e.second < w.end)) all_steps r.between;
        named = All-filter q (λ e. e.device < devices) all_steps r.named;
      }

  pub some_before : (q : Entry → Bool) (devices : ℕ) → NameDevices devices (with_change change entries) → (net : Network) (swept : List Entry) (now : List Pos)
      → swept ≡ filter q all_steps → now ≡ entered net first_ones → ArePositionsBefore net first_ones w.first swept now
  some_before q devices names net swept now is given =
      let r = some_ready q devices names in
      record {
        kept = subst (λ (es : List Entry). All (λ e. IsTrue e.kept) (first_ones ++ es)) (sym is) r.kept;
        ordered = subst (λ (es : List Entry). AllPairs (λ a b. IsTrue (is_before a b)) (first_ones ++ es)) (sym is) r.ordered;
        earlier = r.earlier;
        given = given;
      }

  pub steps_named : (devices : ℕ) → NameDevices devices (with_change change entries) → NameDevices devices all_steps
  steps_named devices names = (ready entries change lo end numbered ok some lie lie_changed w is devices names).named

  pub some_few : (q : Entry → Bool) → length (filter q all_steps) ≤ count_within change entries (first_changed change) (last_changed change entries (end - 1))
  some_few q = omega (arith, fewer q all_steps, few entries change lo end numbered ok some lie lie_changed w is)

  module _ (net : Network) (near : List Bool) (old window : List (List Run)) (apart : AreNear net (entered net first_ones) old_steps (device_of change) (is_reached near)) (were : AreRuns net entries lo end old)
      (found : window ≡ all_runs net (first_ones ++ filter (acts_at net (is_reached near)) all_steps) w.first w.end) where
    pub near_news : (v : ℕ) → IsSection net v → spliced_near near w.first w.end old window v ≡ runs_between v (history net (with_change change entries) v) lo end
    near_news v section =
        let some_steps : List Entry = filter (acts_at net (is_reached near)) all_steps in
        ap (λ t. cond (is_reached near v) (splice t w.end (runs_at old v) (runs_at window v)) (runs_at old v)) is.first
        ∙ ap (λ t. cond (is_reached near v) (splice (first_changed change) t (runs_at old v) (runs_at window v)) (runs_at old v)) is.last
        ∙ new_at entries change lo end numbered ok some lie lie_changed first_ones old_steps (drop w.to (in_order entries)) (framed_so entries change lo end numbered ok some lie lie_changed w is)
        net (is_reached near) apart old window were
        (found ∙ ap (λ t. all_runs net (first_ones ++ some_steps) t w.end) is.first ∙ ap (all_runs net (first_ones ++ some_steps) (first_changed change)) is.last) v section

    pub near_of_node : (v : ℕ) → IsSection net v → AreOfNode v (spliced_near near w.first w.end old window v)
    near_of_node v section = subst (AreOfNode v) (sym (near_news v section)) (runs_of_node v (history net (with_change change entries) v) lo end)

-- the devices of a part of the entries in order, and of the changed entry
pub part_named : (devices : ℕ) (entries : List Entry) (from to : ℕ) → NameDevices devices entries → NameDevices devices (between from to (in_order entries))
part_named devices entries from to names =
    let P : Entry → Type 0 = λ e. e.device < devices in
    All-take P (to - from) (drop from (in_order entries))
    (All-drop P from (in_order entries) (each_kept entries P (All-filter (λ e. e.kept) P entries names)))

pub device_named : (devices : ℕ) (entries : List Entry) (change : SheetChange) → CanChange change entries → NameDevices devices entries
    → NameDevices devices (with_change change entries) → device_of change < devices
device_named devices entries (Entered new) ok names later =
    let l : length entries < length (entries ++ new ∷ []) = omega (arith, length-append entries (new ∷ [])) in
    subst (λ (e : Entry). e.device < devices) (get_or-append_seam entries new [] new) (later (length entries) new l)
device_named devices entries (Corrected old new) ok names later = old_named devices entries old names ok.0.on
device_named devices entries (Withdrawn old) ok names later = old_named devices entries old names ok.on
