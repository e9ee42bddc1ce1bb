-- What a change that changes no position leaves as it was.
use Rattle.std.proofs.Common.{◌≡◌, ◌≢◌, ◌==◌, ◌&&◌, ◌+◌, ℕ, ◌≤◌, Bool, true, false, nat_le, List, [], ◌∷◌, Option, Some, None, refl, sym, ◌∙◌, ap, arith, subst, length, inl, inr}
use Rattle.std.specs.List.{All, AllByRecursion, filter, slice_get}
use Rattle.std.specs.Option.{option_map_or}
use Rattle.std.proofs.lemmas.Bool.{and_parts, cases_Bool, eq-eqb, true≢false}
use Rattle.std.proofs.lemmas.List.Elements.{filter_passes, recursion_from_All}
use Rattle.ob_base.specs.declared.Pos.{Pos}
use Rattle.ob_base.specs.declared.Pos.TheVariants.{Opened, Closed}
use Rattle.ob_net.specs.Network.{Network, as_of}
use Rattle.ob_sheet.proofs.Numbered.{stands_in_order}
use Rattle.ob_sheet.proofs.Ordered.{in_order_greatest, in_order_rises}
use Rattle.ob_sheet.proofs.Sorting.{IsInOrder, IsNumberedApart}
use Rattle.ob_sheet.specs.declared.Entry.{Entry}
use Rattle.ob_sheet.specs.Order.{before, in_order, is_before, put_in_order}
use Rattle.ob_sheet.specs.Positions.{entered}
use Rattle.ob_sheet.specs.Revisions.{change_entry}
use Rattle.ob_sheet.specs.Sheet.{AreNumbered}
use Rattle.ob_sweep.specs.Runs.{history, runs_between}
use Rattle.ob_sweep.specs.SamePositions.{KeepsPositions, changes_no_position, is_same, repeats}
use Rattle.ob_sweep.specs.SheetChanges.{CanChange, IsKeptOn, others, with_change}
use Rattle.ob_sweep.specs.declared.change.SheetChange.{SheetChange}
use Rattle.ob_sweep.specs.declared.change.SheetChange.TheVariants.{Entered, Corrected, Withdrawn}
use Rattle.ob_sweep.proofs.KeptPositions.{PassesEarlier, before_passes, same_entered_part, same_history, upto_passes}
use Rattle.ob_sweep.proofs.LifeLaw.{same_runs}
use Rattle.ob_sweep.proofs.Ordered.{runs_in_order}
use Rattle.ob_sweep.proofs.Placed.{are_numbered, corrected, entered as order_entered, gone, in_order-with_change}
use Rattle.ob_sweep.proofs.Preceding.{before_with, before_without, entered_in_order, place_in}
use Rattle.ob_sweep.proofs.Replanned.{each_kept}

-- two sheets leave the same positions as far as each test goes, and the same runs
pub record AreAlike (net : Network) (old new : List Entry) : Type 0 where
  pub parts : (r : Entry → Bool) → PassesEarlier (λ f. f.kept && r f) → entered net (filter (λ f. f.kept && r f) new) ≡ entered net (filter (λ f. f.kept && r f) old)
  pub runs : (v a b : ℕ) → a ≤ b → runs_between v (history net new v) a b ≡ runs_between v (history net old v) a b

alike_back : (net : Network) (old new : List Entry) → AreAlike net old new → AreAlike net new old
alike_back net old new same = record { parts = λ r q. sym (same.parts r q); runs = λ v a b l. sym (same.runs v a b l) }

alike_on : (net : Network) (x y z : List Entry) → AreAlike net x y → AreAlike net y z → AreAlike net x z
alike_on net x y z g h = record { parts = λ r q. h.parts r q ∙ g.parts r q; runs = λ v a b l. h.runs v a b l ∙ g.runs v a b l }

-- alike sheets have the same positions at every second
pub keeps_positions : (net : Network) (old new : List Entry) → AreAlike net old new → KeepsPositions net old new
keeps_positions net old new same s = ap (as_of net.devices s) (same.parts (λ f. nat_le f.second s) (upto_passes s))

same_position : (p q : Pos) → is_same p q ≡ true → p ≡ q
same_position Opened Opened h = refl
same_position Opened Closed h = absurd (true≢false (sym h))
same_position Closed Opened h = absurd (true≢false (sym h))
same_position Closed Closed h = refl

read_position : (p : Pos) (o : Option Pos) → option_map_or (is_same p) o false ≡ true → o ≡ Some p
read_position p None h = absurd (true≢false (sym h))
read_position p (Some q) h = ap Some (sym (same_position p q h))

kept_order : (es : List Entry) → AllByRecursion (λ f. f.kept ≡ true) (in_order es)
kept_order es = recursion_from_All (λ f. f.kept ≡ true) (in_order es) (each_kept es (λ f. f.kept ≡ true) (filter_passes (λ e. e.kept) es))

-- a sheet with an entry, in its place among those of a sheet without it
module _ (net : Network) (base more : List Entry) (e : Entry) (kept : e.kept ≡ true) (numbered : AreNumbered base) (numbered_more : AreNumbered more)
    (apart : IsNumberedApart e (in_order base)) (put : in_order more ≡ put_in_order e (in_order base)) where
  abbrev order : List Entry
  order = in_order base

  abbrev rise : IsInOrder order
  rise = in_order_rises base numbered

  abbrev first : List Entry
  first = (place_in e order rise (kept_order base) apart).left

  entered_first : entered net (before base e) ≡ entered net first
  entered_first =
      sym (entered_in_order net base (λ f. is_before f e) numbered)
      ∙ ap (entered net) (before_without e order rise (kept_order base) apart)

  entered_first_with : entered net (before more e) ≡ entered net first
  entered_first_with =
      sym (entered_in_order net more (λ f. is_before f e) numbered_more)
      ∙ ap (λ es. entered net (before es e)) put
      ∙ ap (entered net) (before_with e order rise (kept_order base) apart)

  -- the position before it doesn't depend on it
  pub repeats_either : repeats net base e ≡ repeats net more e
  repeats_either = ap (λ ps. option_map_or (is_same e.pos) (slice_get ps e.device) false) (entered_first ∙ sym entered_first_with)

  -- where it repeats that position, both sheets are alike
  pub alike_with : repeats net base e ≡ true → AreAlike net base more
  alike_with repeated =
      let at : slice_get (entered net first) e.device ≡ Some e.pos =
      ap (λ ps. slice_get ps e.device) (sym entered_first) ∙ read_position e.pos (slice_get (entered net (before base e)) e.device) repeated in
      record {
        parts = λ r earlier.
            sym (entered_in_order net more r numbered_more)
            ∙ ap (λ es. entered net (filter (λ f. f.kept && r f) es)) put
            ∙ same_entered_part net e order kept rise (kept_order base) apart at (λ f. f.kept && r f) earlier
            ∙ entered_in_order net base r numbered;
        runs = λ v a b l.
            runs_in_order more (λ test. in_order_greatest test more numbered_more) net v a b l
            ∙ ap (λ es. runs_between v (history net es v) a b) put
            ∙ same_runs v (history net order v) (history net (put_in_order e order) v) a b l
            (λ s c d. (same_history net e order kept rise (kept_order base) apart at v s).dead)
            (λ s c d. (same_history net e order kept rise (kept_order base) apart at v s).cutter)
            ∙ sym (runs_in_order base (λ test. in_order_greatest test base numbered) net v a b l);
      }

-- an entry with the next number has another number than each
next_apart : (entries : List Entry) (new : Entry) → AreNumbered entries → new.«no» ≡ length entries + 1 → IsNumberedApart new (in_order entries)
next_apart entries new numbered next =
    let each : All (λ f. new.«no» ≢ f.«no») (in_order entries) = λ k d l. λ same.
    let at = stands_in_order entries numbered k d l in
    absurd (omega (arith, at.0, at.1, next, same)) in
    recursion_from_All (λ f. new.«no» ≢ f.«no») (in_order entries) each

others_apart : (e : Entry) (number : ℕ) (es : List Entry) → e.«no» ≡ number → IsNumberedApart e (others number es)
others_apart e number [] is = tt
others_apart e number (f ∷ fs) is =
    elim (cases_Bool (f.«no» == number)) [
      | inl t ↦ rw t (others_apart e number fs is)
      | inr n ↦ rw n ((λ same. true≢false (sym (eq-eqb f.«no» number (sym same ∙ is)) ∙ n)), others_apart e number fs is)
    ]

unaltered : (number : ℕ) (es : List Entry) → change_entry number (λ e. e) es ≡ es
unaltered number [] = refl
unaltered number (e ∷ es) =
    elim (cases_Bool (e.«no» == number)) [
      | inl t ↦ rw t (ap (λ w. e ∷ w) (unaltered number es))
      | inr n ↦ rw n (ap (λ w. e ∷ w) (unaltered number es))
    ]

-- a sheet, and the one without one of its entries
module _ (net : Network) (entries : List Entry) (numbered : AreNumbered entries) (old : Entry) (on : IsKeptOn entries old) where
  abbrev base : List Entry
  base = with_change (Withdrawn old) entries

  pub numbered_without : AreNumbered base
  numbered_without = are_numbered (Withdrawn old) entries numbered on

  order_without : in_order base ≡ others old.«no» (in_order entries)
  order_without = gone entries old numbered on

  pub apart_without : (e : Entry) → e.«no» ≡ old.«no» → IsNumberedApart e (in_order base)
  apart_without e same = subst (IsNumberedApart e) (sym order_without) (others_apart e old.«no» (in_order entries) same)

  put_back : in_order entries ≡ put_in_order old (in_order base)
  put_back =
      ap in_order (sym (unaltered old.«no» entries))
      ∙ in_order-with_change entries numbered old (λ e. e) on.on on.kept on.kept refl
      ∙ ap (put_in_order old) (sym order_without)

  pub old_repeats : repeats net base old ≡ repeats net entries old
  old_repeats = repeats_either net base entries old on.kept numbered_without numbered (apart_without old refl) put_back

  pub alike_without : repeats net base old ≡ true → AreAlike net base entries
  alike_without = alike_with net base entries old on.kept numbered_without numbered (apart_without old refl) put_back

  -- where it repeats the position before it, another entry does so with it or without it
  pub repeats_with : (new : Entry) → repeats net base old ≡ true → repeats net base new ≡ repeats net entries new
  repeats_with new repeated =
      ap (λ ps. option_map_or (is_same new.pos) (slice_get ps new.device) false)
      (sym ((alike_without repeated).parts (λ f. is_before f new) (before_passes new)))

-- a change that changes no position leaves the sheet alike
pub change_is_alike : (net : Network) (change : SheetChange) (entries : List Entry) → AreNumbered entries → CanChange change entries
    → changes_no_position net change entries ≡ true → AreAlike net entries (with_change change entries)
change_is_alike net (Entered new) entries numbered ok same =
    alike_with net entries (with_change (Entered new) entries) new ok.1 numbered (are_numbered (Entered new) entries numbered ok)
    (next_apart entries new numbered ok.0) (order_entered entries new ok) same
change_is_alike net (Corrected old new) entries numbered ok same =
    let base : List Entry = with_change (Withdrawn old) entries in
    let both = and_parts (repeats net base old) (repeats net base new) same in
    let numbered_base : AreNumbered base = numbered_without net entries numbered old ok.0 in
    let put : in_order (with_change (Corrected old new) entries) ≡ put_in_order new (in_order base) =
    corrected entries old new numbered ok ∙ ap (put_in_order new) (sym (gone entries old numbered ok.0)) in
    alike_on net entries base (with_change (Corrected old new) entries)
    (alike_back net base entries (alike_without net entries numbered old ok.0 both.0))
    (alike_with net base (with_change (Corrected old new) entries) new ok.3 numbered_base (are_numbered (Corrected old new) entries numbered ok)
    (apart_without net entries numbered old ok.0 new ok.1) put both.1)
change_is_alike net (Withdrawn old) entries numbered ok same =
    alike_back net (with_change (Withdrawn old) entries) entries (alike_without net entries numbered old ok same)

-- of a corrected entry it is enough to look at the sheet as it is
pub corrected_repeats : (net : Network) (entries : List Entry) (old new : Entry) → AreNumbered entries → CanChange (Corrected old new) entries
    → (repeats net entries old && repeats net entries new) ≡ changes_no_position net (Corrected old new) entries
corrected_repeats net entries old new numbered ok =
    let base : List Entry = with_change (Withdrawn old) entries in
    let first = old_repeats net entries numbered old ok.0 in
    elim (cases_Bool (repeats net base old)) as (λ _. (repeats net entries old && repeats net entries new) ≡ (repeats net base old && repeats net base new)) [
      | inl t ↦
          ap (λ b. b && repeats net entries new) (sym first)
          ∙ ap (λ b. repeats net base old && b) (sym (repeats_with net entries numbered old ok.0 new t))
      | inr n ↦
          ap (λ b. b && repeats net entries new) (sym first ∙ n)
          ∙ sym (ap (λ b. b && repeats net base new) n)
    ]
