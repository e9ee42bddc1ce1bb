-- What a list of places says of the amounts in it.
use Rattle.std.proofs.Common.{◌≡◌, ◌∙◌, sym, ap, ap₂, subst, refl, ℕ, zero, suc, ◌+◌, ◌-◌, ◌%◌, ◌^◌, ◌<◌, ◌≤◌, List, length, take, drop, get_or, set, replicate, sum, sum_by, get_or-set_same, get_or-set_other, ℤ, pos, ◌+ℤ◌, ◌≤ℤ◌, negsuc, FitsSigned, inl, inr, arith}
use Rattle.std.specs.Int.{w64, cast_signed, cast_unsigned, int_wrap}
use Rattle.std.specs.Int.RustNames.{unsigned_abs}
use Rattle.std.proofs.lemmas.Bool.{cases_Bool, cases_eq, both_ways}
use Rattle.std.proofs.lemmas.Int.{ints, to_z_pos, of_z-to_z, int_wrap_fits, int_wrap-add_left, fits_signed_from_abs, wrapping_add_onto}
use Rattle.std.proofs.lemmas.List.{length-take-le, length-drop, length-set, length-replicate, take-replicate, drop-replicate, take_all}
use Rattle.ob_post.specs.declared.Dim.{Dim}
use Rattle.ob_post.specs.declared.Dim.TheVariants.{Cause, Feeder, Day}
use Rattle.ob_post.specs.declared.Moved.{Moved}
use Rattle.ob_post.specs.declared.TheConstants.{MOST_DAYS}
use Rattle.ob_post.specs.Keys.{IsKey, keys}
use Rattle.ob_post.specs.Moved.{is_under, delta_of, HaveKeys}
use Rattle.ob_post.specs.Postings.{PostedAmounts, amount_of, day_count, total_of, amount_after, total_after}
use Rattle.ob_post.specs.Places.{place_of, amounts_in, ArePlaces}
use Rattle.ob_post.proofs.Keying.{key_of_more, place_below, same_place, amount_at, at_most_sum, same_sums, total_of_causes, total_of_feeders, total_of_days}
use Rattle.ob_post.proofs.Sums.{sum_of_zeros}
use Rattle.ob_post.proofs.Deltas.{delta_under, delta_of_more, under_is, is_under_of}

pub days_in : (places : List ℕ) → ArePlaces places → day_count (amounts_in places) + 319 ≡ length places
days_in places h = omega (arith, h.enough, length-drop 319 places)

pub key_known : (places : List ℕ) (dim : Dim) (key : ℕ) → ArePlaces places → IsKey (day_count (amounts_in places)) dim key → IsKey MOST_DAYS dim key
key_known places dim key h k = key_of_more (day_count (amounts_in places)) 366 dim key (omega (arith, h.few, days_in places h)) k

pub place_within : (places : List ℕ) (dim : Dim) (key : ℕ) → ArePlaces places → IsKey (day_count (amounts_in places)) dim key → place_of dim key < length places
place_within places dim key h k = omega (arith, days_in places h, place_below (day_count (amounts_in places)) dim key k)

pub part_of_total : (places : List ℕ) (dim : Dim) (key : ℕ) → IsKey (day_count (amounts_in places)) dim key → get_or places (place_of dim key) 0 ≤ total_of (amounts_in places) dim
part_of_total places dim key k =
    rw (sym (amount_at places (day_count (amounts_in places)) dim key k)) (at_most_sum (amount_of (amounts_in places) dim) (day_count (amounts_in places)) dim key k)

-- ---- the amounts under a dimension
pub causes_sum : (places : List ℕ) → ArePlaces places → sum (take 64 places) ≡ total_of (amounts_in places) Cause
causes_sum places h = sym (total_of_causes (amounts_in places) (length-take-le 64 places (omega (arith, h.enough))))

pub feeders_sum : (places : List ℕ) → ArePlaces places → sum (take 255 (drop 64 places)) ≡ total_of (amounts_in places) Feeder
feeders_sum places h =
    sym (total_of_feeders (amounts_in places) (length-take-le 255 (drop 64 places) (omega (arith, h.enough, length-drop 64 places))))

pub days_sum : (places : List ℕ) → sum (drop 319 places) ≡ total_of (amounts_in places) Day
days_sum places = sym (total_of_days (amounts_in places))

-- ---- no amount yet
zeros_at : (n i : ℕ) → get_or {A = ℕ} (replicate n 0) i 0 ≡ 0
zeros_at zero i = refl
zeros_at (suc n) zero = refl
zeros_at (suc n) (suc i) = zeros_at n i

pub zeros_amount : (n : ℕ) (dim : Dim) (key : ℕ) → 319 ≤ n → amount_of (amounts_in (replicate n 0)) dim key ≡ 0
zeros_amount n Cause key h = ap (λ (xs : List ℕ). get_or xs key 0) (take-replicate 64 n 0 (omega arith)) ∙ zeros_at 64 key
zeros_amount n Feeder key h =
    ap (λ (xs : List ℕ). get_or (take 255 xs) (key - 1) 0) (drop-replicate 64 n 0)
    ∙ ap (λ (xs : List ℕ). get_or xs (key - 1) 0) (take-replicate 255 (n - 64) 0 (omega arith))
    ∙ zeros_at 255 (key - 1)
zeros_amount n Day key h = ap (λ (xs : List ℕ). get_or xs key 0) (drop-replicate 319 n 0) ∙ zeros_at (n - 319) key

zeros_total : (n : ℕ) (dim : Dim) → 319 ≤ n → total_of (amounts_in (replicate n 0)) dim ≡ 0
zeros_total n dim h =
    same_sums (amount_of (amounts_in (replicate n 0)) dim) (λ (key : ℕ). 0) (day_count (amounts_in (replicate n 0))) dim (λ key k. zeros_amount n dim key h)
    ∙ sum_of_zeros (keys (day_count (amounts_in (replicate n 0))) dim)

pub zeros_are_places : (n : ℕ) → 319 ≤ n → n ≤ 685 → ArePlaces (replicate n 0)
zeros_are_places n h m = record {
  enough = omega (arith, length-replicate {A = ℕ} n 0);
  few = omega (arith, length-replicate {A = ℕ} n 0);
  totals = λ dim. omega (arith, zeros_total n dim h);
}

-- ---- amounts that move
-- the first i rows have moved the amounts, which may have wrapped on the way
pub record HaveMoved (moved : List Moved) (old new : List ℕ) (i : ℕ) : Type 0 where
  pub long : length new ≡ length old
  pub small : (dim : Dim) (key : ℕ) → IsKey (day_count (amounts_in old)) dim key → get_or new (place_of dim key) 0 < 2 ^ 64
  pub each : (dim : Dim) (key : ℕ) → IsKey (day_count (amounts_in old)) dim key → cast_signed w64 (get_or new (place_of dim key) 0) ≡ int_wrap w64 (pos (get_or old (place_of dim key) 0) +ℤ delta_of (take i moved) dim key)

-- the rows may move the amounts: their keys exist, and the amounts they leave are ones that postings keep
pub record MayMove (moved : List Moved) (old : List ℕ) : Type 0 where
  pub places : ArePlaces old
  pub keys : HaveKeys (day_count (amounts_in old)) moved
  pub floor : (dim : Dim) (key : ℕ) → IsKey (day_count (amounts_in old)) dim key → pos 0 ≤ℤ amount_after (amounts_in old) moved dim key
  pub ceiling : (dim : Dim) → total_after (amounts_in old) moved dim < 2 ^ 63

pub may_move : (moved : List Moved) (old : List ℕ) (a : PostedAmounts) → amounts_in old ≡ a → ArePlaces old → HaveKeys (day_count a) moved
    → ((dim : Dim) (key : ℕ) → IsKey (day_count a) dim key → pos 0 ≤ℤ amount_after a moved dim key)
    → ((dim : Dim) → total_after a moved dim < 2 ^ 63)
    → MayMove moved old
may_move moved old a e places keys floor ceiling = record {
  places = places;
  keys = subst (λ (b : PostedAmounts). HaveKeys (day_count b) moved) (sym e) keys;
  floor = subst (λ (b : PostedAmounts). (dim : Dim) (key : ℕ) → IsKey (day_count b) dim key → pos 0 ≤ℤ amount_after b moved dim key) (sym e) floor;
  ceiling = subst (λ (b : PostedAmounts). (dim : Dim) → total_after b moved dim < 2 ^ 63) (sym e) ceiling;
}

pub row_known : (moved : List Moved) (old : List ℕ) (i : ℕ) (d : Moved) → MayMove moved old → i < length moved → IsKey MOST_DAYS (get_or moved i d).dim (get_or moved i d).key
row_known moved old i d may l = key_known old (get_or moved i d).dim (get_or moved i d).key may.places (may.keys i d l)

pub row_within : (moved : List Moved) (old new : List ℕ) (i : ℕ) (d : Moved) → MayMove moved old → HaveMoved moved old new i → i < length moved
    → place_of (get_or moved i d).dim (get_or moved i d).key < length new
row_within moved old new i d may so l = omega (arith, so.long, place_within old (get_or moved i d).dim (get_or moved i d).key may.places (may.keys i d l))

pub row_moved : (moved : List Moved) (old new : List ℕ) (i v : ℕ) (d : Moved) → MayMove moved old → HaveMoved moved old new i → i < length moved → FitsSigned w64 (get_or moved i d).delta
    → v ≡ (get_or new (place_of (get_or moved i d).dim (get_or moved i d).key) 0 + cast_unsigned w64 (get_or moved i d).delta) % 2 ^ 64
    → HaveMoved moved old (set new (place_of (get_or moved i d).dim (get_or moved i d).key) v) (i + 1)
row_moved moved old new i v d may so l fits e =
    let m = get_or moved i d in
    let place = place_of m.dim m.key in
    let now = get_or new place 0 in
    let below : v < 2 ^ 64 = omega (arith, e) in
    let wrapped : cast_signed w64 v ≡ int_wrap w64 (cast_signed w64 now +ℤ m.delta) = ap (cast_signed w64) e ∙ wrapping_add_onto w64 now m.delta (so.small m.dim m.key (may.keys i d l)) fits in
    record {
      long = length-set new place v ∙ so.long;
      small = λ dim key k.
          elim (cases_eq (place_of dim key) place) [
            | inl at ↦ omega (arith, below, ap (λ j. get_or (set new place v) j 0) at ∙ get_or-set_same new place v 0 (row_within moved old new i d may so l))
            | inr apart ↦ omega (arith, so.small dim key k, get_or-set_other new place (place_of dim key) v 0 (λ at. absurd (omega (arith, at, apart))))
          ];
      each = λ dim key k.
          let more = delta_of_more moved i d dim key l in
          let before = pos (get_or old (place_of dim key) 0) +ℤ delta_of (take i moved) dim key in
          elim (cases_Bool (is_under dim key m)) [
            | inl t ↦
                let is = under_is dim key m t in
                let here : delta_under dim key m ≡ m.delta = rw t refl in
                let at : place_of dim key ≡ place = ap₂ place_of (sym is.0) (sym is.1) in
                let had : cast_signed w64 now ≡ int_wrap w64 before = ap (λ j. cast_signed w64 (get_or new j 0)) (sym at) ∙ so.each dim key k in
                let sum : before +ℤ m.delta ≡ pos (get_or old (place_of dim key) 0) +ℤ delta_of (take (i + 1) moved) dim key = omega (arith, ints, more, here) in
                ap (λ j. cast_signed w64 (get_or (set new place v) j 0)) at
                ∙ ap (cast_signed w64) (get_or-set_same new place v 0 (row_within moved old new i d may so l))
                ∙ wrapped
                ∙ ap (λ (z : ℤ). int_wrap w64 (z +ℤ m.delta)) had
                ∙ int_wrap-add_left w64 before m.delta
                ∙ ap (int_wrap w64) sum
            | inr f ↦
                let none : delta_under dim key m ≡ pos 0 = rw f refl in
                let apart : place_of dim key ≡ place → ⊥ =
                λ p.
                let is = same_place (day_count (amounts_in old)) (day_count (amounts_in old)) dim m.dim key m.key k (may.keys i d l) p in
                both_ways (is_under dim key m) f (is_under_of dim key m (sym is.0) (sym is.1)) in
                let sum : before ≡ pos (get_or old (place_of dim key) 0) +ℤ delta_of (take (i + 1) moved) dim key = omega (arith, ints, more, none) in
                ap (cast_signed w64) (get_or-set_other new place (place_of dim key) v 0 apart) ∙ so.each dim key k ∙ ap (int_wrap w64) sum
          ];
    }

pub none_moved : (moved : List Moved) (old : List ℕ) → ArePlaces old → HaveMoved moved old old 0
none_moved moved old places = record {
  long = refl;
  small = λ dim key k. omega (arith, part_of_total old dim key k, places.totals dim);
  each = λ dim key k.
      let n = get_or old (place_of dim key) 0 in
      let small : n < 2 ^ 63 = omega (arith, part_of_total old dim key k, places.totals dim) in
      let same : pos n +ℤ pos 0 ≡ pos n = omega (arith, ints) in
      to_z_pos w64 n small ∙ sym (ap (int_wrap w64) same ∙ int_wrap_fits w64 (pos n) (fits_signed_from_abs w64 (pos n) small));
}

-- an amount that is wrapped, where it fits
unwrapped : (n : ℕ) (z : ℤ) → n < 2 ^ 64 → pos 0 ≤ℤ z → unsigned_abs z < 2 ^ 63 → cast_signed w64 n ≡ int_wrap w64 z → pos n ≡ z
unwrapped n (pos m) l h small e =
    let is : cast_signed w64 n ≡ pos m = e ∙ int_wrap_fits w64 (pos m) (fits_signed_from_abs w64 (pos m) small) in
    ap pos (sym (of_z-to_z w64 n l) ∙ ap (cast_unsigned w64) is)
unwrapped n (negsuc m) l h small e = absurd (omega (arith, ints, h))

-- once all rows have moved the amounts
pub all_moved : (moved : List Moved) (old new : List ℕ) (i : ℕ) (dim : Dim) (key : ℕ) → MayMove moved old → HaveMoved moved old new i → length moved ≤ i → IsKey (day_count (amounts_in old)) dim key
    → pos (amount_of (amounts_in new) dim key) ≡ amount_after (amounts_in old) moved dim key
all_moved moved old new i dim key may so l k =
    let days = day_count (amounts_in old) in
    let after = amount_after (amounts_in old) moved dim key in
    let most = at_most_sum (λ key. unsigned_abs (amount_after (amounts_in old) moved dim key)) days dim key k in
    let sum : pos (get_or old (place_of dim key) 0) +ℤ delta_of (take i moved) dim key ≡ after =
    ap₂ (λ n ms. pos n +ℤ delta_of ms dim key) (sym (amount_at old days dim key k)) (take_all i moved l) in
    ap pos (amount_at new days dim key k)
    ∙ unwrapped (get_or new (place_of dim key) 0) after (so.small dim key k) (may.floor dim key k) (omega (arith, most, may.ceiling dim)) (so.each dim key k ∙ ap (int_wrap w64) sum)

pub days_stay : (moved : List Moved) (old new : List ℕ) (i : ℕ) → HaveMoved moved old new i → day_count (amounts_in new) ≡ day_count (amounts_in old)
days_stay moved old new i so = length-drop 319 new ∙ ap (λ n. n - 319) so.long ∙ sym (length-drop 319 old)

pub places_stay : (moved : List Moved) (old new : List ℕ) (i : ℕ) → MayMove moved old → HaveMoved moved old new i → length moved ≤ i → ArePlaces new
places_stay moved old new i may so l = record {
  enough = omega (arith, may.places.enough, so.long);
  few = omega (arith, may.places.few, so.long);
  totals = λ dim.
      let days : day_count (amounts_in new) ≡ day_count (amounts_in old) = days_stay moved old new i so in
      let total : total_of (amounts_in new) dim ≡ total_after (amounts_in old) moved dim =
      ap (λ n. sum_by (amount_of (amounts_in new) dim) (keys n dim)) days
      ∙ same_sums (amount_of (amounts_in new) dim) (λ key. unsigned_abs (amount_after (amounts_in old) moved dim key)) (day_count (amounts_in old)) dim
      (λ key k. ap unsigned_abs (all_moved moved old new i dim key may so l k)) in
      omega (arith, total, may.ceiling dim);
}

-- the row past the end of a list
abbrev pub absent : Moved
absent = record { dim = Cause; key = 0; delta = pos 0 }
