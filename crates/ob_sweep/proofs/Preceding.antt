-- The kept entries just before an entry's place, and its device's last one of them.
use Rattle.std.proofs.Common.{◌≡◌, ℕ, ◌-◌, ◌<◌, ◌≤◌, ◌==◌, ◌&&◌, ◌||◌, Bool, true, false, not, nat_lt, List, [], ◌∷◌, ◌++◌, Option, Some, None, IfSome, refl, sym, ◌∙◌, ap, arith, subst, length, get_or, take, drop, option_map, inl, inr}
use Rattle.std.specs.List.{All, AllByRecursion, filter, slice_get}
use Rattle.std.specs.Option.{option_and_then}
use Rattle.std.proofs.lemmas.Bool.{and_from, and_right, cases_Bool, cond-false, cond-true}
use Rattle.std.proofs.lemmas.Bool.Decides.{nat_tests}
use Rattle.std.proofs.lemmas.List.{append-nil, take-append-drop}
use Rattle.std.proofs.lemmas.List.Elements.{All-drop, All-filter, All-take, filter-append, filter_passes, recursion_from_All}
use Rattle.ob_base.specs.declared.Pos.{Pos}
use Rattle.ob_net.specs.declared.net.Device.{Device}
use Rattle.ob_net.specs.Network.{Network}
use Rattle.ob_sheet.proofs.Numbered.{entry_with, stands_in_order}
use Rattle.ob_sheet.proofs.Ordered.{greatest_has, in_order_greatest}
use Rattle.ob_sheet.proofs.Sorting.{EachIsBefore, IsBeforeEach, IsInOrder, IsInOrder-put_in_order, IsNumberedApart}
use Rattle.ob_sheet.proofs.Writing.{position_at}
use Rattle.ob_sheet.specs.declared.Entry.{Entry}
use Rattle.ob_sheet.specs.Order.{before, entry_of, greatest, in_order, is_before, put_in_order}
use Rattle.ob_sheet.specs.Positions.{entered, position_of}
use Rattle.ob_sheet.specs.Sheet.{AreNumbered, NameDevices}
use Rattle.ob_sweep.proofs.Framed.{before_next, in_order_right}
use Rattle.ob_sweep.proofs.Growth.{not_after, not_self}
use Rattle.ob_sweep.proofs.Ordered.{same_each}
use Rattle.ob_sweep.proofs.Parted.{each_left, each_right}
use Rattle.ob_sweep.proofs.Replanned.{each_kept}
use Rattle.ob_sweep.proofs.Sought.{found_has}

-- the entry found by the number of the greatest one of some entries is that one
named_greatest : (entries : List Entry) (o : Option Entry) → IfSome o (λ e. entry_of entries e.«no» ≡ Some e)
    → option_and_then (entry_of entries) (option_map (λ (e : Entry). e.«no») o) ≡ o
named_greatest entries None named = refl
named_greatest entries (Some e) named = named

pub last_looked_up : (entries : List Entry) (q : Entry → Bool) (place : ℕ) → All (λ e. entry_of entries e.«no» ≡ Some e) (in_order entries)
    → option_and_then (entry_of entries) (option_map (λ (e : Entry). e.«no») (greatest (filter q (take place (in_order entries))))) ≡ greatest (filter q (take place (in_order entries)))
last_looked_up entries q place named =
    let set : List Entry = take place (in_order entries) in
    let each = All-filter q (λ e. entry_of entries e.«no» ≡ Some e) set (All-take (λ (e : Entry). entry_of entries e.«no» ≡ Some e) place (in_order entries) named) in
    named_greatest entries (greatest (filter q set))
    (greatest_has (λ e. entry_of entries e.«no» ≡ Some e) (filter q set) (recursion_from_All (λ e. entry_of entries e.«no» ≡ Some e) (filter q set) each))

-- entries that all pass, or of which none does
filter_whole : (q : Entry → Bool) (es : List Entry) → AllByRecursion (λ f. q f ≡ true) es → filter q es ≡ es
filter_whole q [] h = refl
filter_whole q (e ∷ es) h = cond-true (q e) (e ∷ filter q es) (filter q es) h.0 ∙ ap (λ w. e ∷ w) (filter_whole q es h.1)

filter_none : (q : Entry → Bool) (es : List Entry) → AllByRecursion (λ f. q f ≡ false) es → filter q es ≡ []
filter_none q [] h = refl
filter_none q (e ∷ es) h = cond-false (q e) (e ∷ filter q es) (filter q es) h.0 ∙ filter_none q es h.1

-- of entries with a number, those before (s, n) are those that don't come after (s, n - 1)
just_before : (s n t m : ℕ) → 1 ≤ m → (nat_lt s t || (s == t && nat_lt (n - 1) m)) ≡ not (nat_lt t s || (t == s && nat_lt m n))
just_before s n t m some = grind (arith, nat_tests)

was_false : (b : Bool) → not b ≡ false → b ≡ true
was_false true h = refl
was_false false h = sym h

was_true : (b : Bool) → not b ≡ true → b ≡ false
was_true true h = sym h
was_true false h = refl

-- the entries in order up to the number before an entry's own are those before the entry
module _ (entries : List Entry) (numbered : AreNumbered entries) (e : Entry) (place : ℕ)
    (first : All (λ f. is_before (entry_with e.second (e.«no» - 1)) f ≡ false) (take place (in_order entries)))
    (rest : All (λ f. is_before (entry_with e.second (e.«no» - 1)) f ≡ true) (drop place (in_order entries))) where
  abbrev order : List Entry
  order = in_order entries

  kept : All (λ f. f.kept ≡ true) order
  kept = each_kept entries (λ f. f.kept ≡ true) (filter_passes (λ f. f.kept) entries)

  some : All (λ f. 1 ≤ f.«no») order
  some k d l = (stands_in_order entries numbered k d l).0

  taken_is_before : before order e ≡ take place order
  taken_is_before =
      let q : Entry → Bool = λ f. f.kept && is_before f e in
      let some_first = All-take (λ (f : Entry). 1 ≤ f.«no») place order some in
      let some_rest = All-drop (λ (f : Entry). 1 ≤ f.«no») place order some in
      let kept_first = All-take (λ (f : Entry). f.kept ≡ true) place order kept in
      let pass : All (λ f. q f ≡ true) (take place order) = λ k d l.
      and_from _ _ (kept_first k d l) (was_false _ (sym (just_before e.second e.«no» _ _ (some_first k d l)) ∙ first k d l)) in
      let fail : All (λ f. q f ≡ false) (drop place order) = λ k d l.
      and_right _ _ (was_true _ (sym (just_before e.second e.«no» _ _ (some_rest k d l)) ∙ rest k d l)) in
      ap (filter q) (sym (take-append-drop place order))
      ∙ filter-append q (take place order) (drop place order)
      ∙ ap (λ w. w ++ filter q (drop place order)) (filter_whole q (take place order) (recursion_from_All (λ f. q f ≡ true) (take place order) pass))
      ∙ ap (λ w. take place order ++ w) (filter_none q (drop place order) (recursion_from_All (λ f. q f ≡ false) (drop place order) fail))
      ∙ append-nil (take place order)

-- kept entries that pass a test leave the same positions in order
pub entered_in_order : (net : Network) (entries : List Entry) (r : Entry → Bool) → AreNumbered entries
    → entered net (filter (λ f. f.kept && r f) (in_order entries)) ≡ entered net (filter (λ f. f.kept && r f) entries)
entered_in_order net entries r numbered = same_each entries (λ test. in_order_greatest test entries numbered) r 0 net.devices

-- an entry at its place among entries in order
pub record StandsIn (e : Entry) (es : List Entry) : Type 0 where
  pub left : List Entry
  pub right : List Entry
  pub whole : es ≡ left ++ right
  pub put : put_in_order e es ≡ left ++ e ∷ right

stands_in : (e : Entry) (es : List Entry) → StandsIn e es
stands_in e [] = record { left = []; right = []; whole = refl; put = refl }
stands_in e (f ∷ fs) =
    elim (cases_Bool (is_before e f)) as (λ _. StandsIn e (f ∷ fs)) [
      | inl t ↦ record { left = []; right = f ∷ fs; whole = refl; put = cond-true (is_before e f) (e ∷ f ∷ fs) (f ∷ put_in_order e fs) t }
      | inr n ↦
          let r = stands_in e fs in
          record {
            left = f ∷ r.left;
            right = r.right;
            whole = ap (λ w. f ∷ w) r.whole;
            put = cond-false (is_before e f) (e ∷ f ∷ fs) (f ∷ put_in_order e fs) n ∙ ap (λ w. f ∷ w) r.put;
          }
    ]

fails_after : (e : Entry) (fs : List Entry) → IsBeforeEach e fs → AllByRecursion (λ f. (f.kept && is_before f e) ≡ false) fs
fails_after e [] h = tt
fails_after e (f ∷ fs) h = (and_right f.kept (is_before f e) (not_after e f h.0), fails_after e fs h.1)

passes_before : (e : Entry) (fs : List Entry) → AllByRecursion (λ f. f.kept ≡ true) fs → EachIsBefore fs e → AllByRecursion (λ f. (f.kept && is_before f e) ≡ true) fs
passes_before e [] k h = tt
passes_before e (f ∷ fs) k h = (and_from f.kept (is_before f e) k.0 h.0, passes_before e fs k.1 h.1)

-- the entries before it are the same with it and without it
module _ (e : Entry) (es : List Entry) (rise : IsInOrder es) (kept_es : AllByRecursion (λ f. f.kept ≡ true) es) (apart : IsNumberedApart e es) where
  pub place_in : StandsIn e es
  place_in = stands_in e es

  rise_with : IsInOrder (place_in.left ++ e ∷ place_in.right)
  rise_with = subst IsInOrder place_in.put (IsInOrder-put_in_order e es apart rise)

  pub first_before : EachIsBefore place_in.left e
  first_before = before_next place_in.left place_in.right e rise_with

  pub kept_first : AllByRecursion (λ f. f.kept ≡ true) place_in.left
  kept_first = each_left (λ f. f.kept ≡ true) place_in.left place_in.right (subst (AllByRecursion (λ f. f.kept ≡ true)) place_in.whole kept_es)

  pub kept_rest : AllByRecursion (λ f. f.kept ≡ true) place_in.right
  kept_rest = each_right (λ f. f.kept ≡ true) place_in.left place_in.right (subst (AllByRecursion (λ f. f.kept ≡ true)) place_in.whole kept_es)

  abbrev test : Entry → Bool
  test f = f.kept && is_before f e

  fail_rest : filter test place_in.right ≡ []
  fail_rest = filter_none test place_in.right (fails_after e place_in.right (in_order_right place_in.left (e ∷ place_in.right) rise_with).0)

  pass_first : filter test place_in.left ≡ place_in.left
  pass_first = filter_whole test place_in.left (passes_before e place_in.left kept_first first_before)

  pub before_without : before es e ≡ place_in.left
  before_without =
      ap (filter test) place_in.whole
      ∙ filter-append test place_in.left place_in.right
      ∙ ap (λ w. w ++ filter test place_in.right) pass_first
      ∙ ap (λ w. place_in.left ++ w) fail_rest
      ∙ append-nil place_in.left

  pub before_with : before (put_in_order e es) e ≡ place_in.left
  before_with =
      ap (filter test) place_in.put
      ∙ filter-append test place_in.left (e ∷ place_in.right)
      ∙ ap (λ w. w ++ filter test (e ∷ place_in.right)) pass_first
      ∙ ap (λ w. place_in.left ++ w) (cond-false (test e) (e ∷ filter test place_in.right) (filter test place_in.right) (and_right e.kept (is_before e e) (not_self e)) ∙ fail_rest)
      ∙ append-nil place_in.left

-- the position of the entry's device before it, read off the entries up to its place
pub position_there : (net : Network) (entries : List Entry) (e : Entry) (place : ℕ) (p : Pos) → AreNumbered entries
    → All (λ f. is_before (entry_with e.second (e.«no» - 1)) f ≡ false) (take place (in_order entries)) → All (λ f. is_before (entry_with e.second (e.«no» - 1)) f ≡ true) (drop place (in_order entries))
    → e.device < length net.devices → ((d : Device) → position_of (take place (in_order entries)) e.device (get_or net.devices e.device d) ≡ p)
    → slice_get (entered net (before entries e)) e.device ≡ Some p
position_there net entries e place p numbered first rest within is =
    ap (λ ps. slice_get ps e.device) (sym (entered_in_order net entries (λ f. is_before f e) numbered) ∙ ap (entered net) (taken_is_before entries numbered e place first rest))
    ∙ position_at net (take place (in_order entries)) e.device p within is

-- the device of an entry that is found by its number
pub old_named : (devices : ℕ) (entries : List Entry) (old : Entry) → NameDevices devices entries → entry_of entries old.«no» ≡ Some old → old.device < devices
old_named devices entries old named on = found_has (λ e. e.device < devices) (λ e. e.«no» == old.«no») entries old named on
