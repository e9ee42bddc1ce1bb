-- Lists of midnights, and the calendars that they make.
use Rattle.std.proofs.Common.{◌≡◌, ◌∙◌, refl, sym, ap, take, ℕ, ℤ, pos, neg_ℤ, ◌+◌, ◌-◌, ◌^◌, ◌<◌, ◌≤◌, ◌+ℤ◌, ◌≤ℤ◌, List, [], ◌∷◌, ◌++◌, length, slice_index, arith, below_more, inl, inr, Result, Ok, Err, IfOk}
use Rattle.std.proofs.lemmas.Bool.{cases_lt}
use Rattle.std.proofs.lemmas.Grind.{common_steps}
use Rattle.std.proofs.lemmas.List.{length_push, get_or-take, get_or_push, get_or_append_left}
use Rattle.std.proofs.lemmas.Int.{by_lt_z}
use Rattle.std.specs.Int.{IsInRange}
use Rattle.std.proofs.lemmas.Grind.{get_or_default_zero}
use Rattle.std.proofs.lemmas.List.{ext_get_or}
use Rattle.std.proofs.lemmas.List.Kept.{AllPairs-from_increasing}
use Rattle.std.specs.List.Sorted.{IsStrictlyIncreasing, IsNonDecreasingBy}
use Rattle.jiff_core.proofs.CalendarLemmas.{day_count-lt_year, days_from_civil-day_count}
use Rattle.jiff_core.proofs.DateLemmas.{civil}
use Rattle.jiff_core.proofs.StandardFacts.{known_days}
use Rattle.jiff.proofs.Family.{epoch_day_range, epoch_day_same, parse_date-date_text, same_date}
use Rattle.jiff.proofs.SpanFacts.{signed_arith}
use Rattle.jiff.specs.Types.{Date, DateTime, TimeZone}
use Rattle.jiff.specs.Words.{epoch_day, IsEpochDay, ambiguous_at, date_parts, date_text}
use Rattle.jiff_fmt.specs.Temporal.{DateParts}
use Rattle.ob_time.specs.Calendar.{Calendar, IsCalendar, IsInDay, IsInPeriod, calendar, day_count, first_second_of, end_second_of}
use Rattle.ob_time.specs.Midnight.{IsMidnight, counted_offset, instant_in}
use Rattle.ob_time.specs.Moment.{IsDateText, IsTextOfDay}
use Rattle.ob_time.specs.Period.{AreMidnights, IsPeriod, HasNoPeriod, IsZoneText, IsPeriodText}
use Rattle.ob_time.proofs.RuleLemmas.{IsPosixZone-picked}
use Rattle.ob_time.proofs.MidnightLemmas.{IsMidnight-unique, picked-seconds}

-- a day that has a midnight has a date
pub IsMidnight-day : (zone : TimeZone) (day : ℤ) (s : ℕ) → IsMidnight zone day s → IsEpochDay day
IsMidnight-day zone day s h = rw h.date at (epoch_day_range h.midnight.date)

-- and is no earlier than the last one of 1969
pub IsMidnight-low : (zone : TimeZone) (day : ℤ) (s : ℕ) → IsMidnight zone day s → neg_ℤ (pos 1) ≤ℤ day
IsMidnight-low zone day s h =
    let offset = (counted_offset (ambiguous_at zone h.midnight)).in_range in
    omega (arith, signed_arith, h.date, h.instant, picked-seconds zone h.midnight h.time, offset)

-- the year of such a day
pub year-nonnegative : (d : Date) → neg_ℤ (pos 1) ≤ℤ epoch_day d → pos 0 ≤ℤ d.year
year-nonnegative d low =
    by_lt_z d.year (pos 1969)
    (λ lt. absurd (omega (arith, signed_arith, days_from_civil-day_count, day_count-lt_year d.year d.month d.day (pos 1969) 12 31 (civil d) (omega arith) lt, known_days.1)))
    (λ late. omega (arith, signed_arith))

-- two lists of midnights agree as far as both go
pub AreMidnights-same : (zone : TimeZone) (first : ℤ) (m n : ℕ) (a b : List ℕ) → AreMidnights zone first m a → AreMidnights zone first n b
    → (j : ℕ) → j < m → j < n → slice_index a j ≡ slice_index b j
AreMidnights-same zone first m n a b h k j low high =
    IsMidnight-unique zone (first +ℤ pos j) _ _ (h.each j low) (k.each j high)

-- one more midnight, above those so far
pub AreMidnights-push : (zone : TimeZone) (first : ℤ) (k : ℕ) (b : List ℕ) (s : ℕ) → AreMidnights zone first k b → IsMidnight zone (first +ℤ pos k) s
    → (0 < length b → slice_index b (length b - 1) < s) → AreMidnights zone first (k + 1) (b ++ s ∷ [])
AreMidnights-push zone first k b s h here above =
    let len = h.count in
    record {
      count = length_push b s ∙ ap (λ n. n + 1) len;
      each = below_more _ k
          (λ j lt. let low : j < length b = omega arith in rw (get_or_append_left b (s ∷ []) 0 j low) (h.each j lt))
          (rw (get_or_push b s 0 k len) here);
      rising = pushed b s h.rising above;
    }
  where
    pushed : (b : List ℕ) (s : ℕ) → IsStrictlyIncreasing b → (0 < length b → slice_index b (length b - 1) < s) → IsStrictlyIncreasing (b ++ s ∷ [])
    pushed b s rising above j lt = grind (arith, common_steps, rising j)

-- where there is a longer list, the next midnight lies above those so far
pub AreMidnights-not-above : (zone : TimeZone) (first : ℤ) (k n : ℕ) (a b : List ℕ) (s : ℕ) → AreMidnights zone first k a → AreMidnights zone first n b
    → IsMidnight zone (first +ℤ pos k) s → k < n → 0 < length a → slice_index a (length a - 1) < s
AreMidnights-not-above zone first k n a b s h g here room some =
    let len = h.count in
    let len_b = g.count in
    let low : length a - 1 < k = omega arith in
    let before = AreMidnights-same zone first k n a b h g (length a - 1) low (omega arith) in
    let same = IsMidnight-unique zone (first +ℤ pos k) s _ here (g.each k room) in
    let next : length a - 1 + 1 ≡ k = omega arith in
    let rise = rw next at (g.rising (length a - 1) (omega arith)) in
    rw (before, same) rise

-- the calendar of a list of midnights
pub IsCalendar-midnights : (zone : TimeZone) (first : ℤ) (days : ℕ) (b text : List ℕ) → IsInRange 1 366 days → AreMidnights zone first (days + 1) b
    → slice_index b days < slice_index b 0 + 2 ^ 25 → IsCalendar (calendar first b text)
IsCalendar-midnights zone first days b text in_range h short =
    let len = h.count in
    let same : length b - 1 ≡ days = omega arith in
    let last = h.each days (omega arith) in
    record {
      count = omega arith;
      days = (omega arith, omega arith);
      rising = h.rising;
      last = rw same last.within;
      short = rw same short;
      first_date = omega (arith, signed_arith, IsMidnight-low zone _ _ (h.each 0 (omega arith)));
      last_date = rw same (omega (arith, signed_arith, IsMidnight-day zone _ _ last));
    }

-- and the period that it is the calendar of
pub IsPeriod-midnights : (zone : TimeZone) (first : ℤ) (days : ℕ) (b text : List ℕ) → IsInRange 1 366 days → AreMidnights zone first (days + 1) b
    → slice_index b days < slice_index b 0 + 2 ^ 25 → IsPeriod zone first days (calendar first b text)
IsPeriod-midnights zone first days b text in_range h short =
    let len = h.count in
    let same : length b - 1 ≡ days = omega arith in
    record { first = refl; days_in = in_range; midnights = h; short = rw same short }

-- the midnights at the front of an array are those that it has there
pub at-front : (xs : List ℕ) (n i : ℕ) → i ≤ n → slice_index xs i ≡ slice_index (take (n + 1) xs) i
at-front xs n i le = sym (get_or-take (n + 1) xs i 0 (omega arith))

-- so there is a period where an array has such midnights at its front
pub HasNoPeriod-front : (zone : TimeZone) (first : ℤ) (days : ℕ) (xs : List ℕ) → IsInRange 1 366 days → AreMidnights zone first (days + 1) (take (days + 1) xs)
    → slice_index xs days - slice_index xs 0 < 2 ^ 25 → ¬ (HasNoPeriod zone first days)
HasNoPeriod-front zone first days xs in_range h short none =
    let low = at-front xs days 0 (omega arith) in
    let high = at-front xs days days (omega arith) in
    none _ (IsPeriod-midnights zone first days (take (days + 1) xs) [] in_range h (omega (arith, low, high)))

-- a list of midnights that is too long has no period
pub HasNoPeriod-long : (zone : TimeZone) (first : ℤ) (days : ℕ) (b : List ℕ) → AreMidnights zone first (days + 1) b
    → slice_index b 0 + 2 ^ 25 ≤ slice_index b days → HasNoPeriod zone first days
HasNoPeriod-long zone first days b h long = λ c p.
    let len = p.midnights.count in
    let same : length c.bounds - 1 ≡ days = omega arith in
    let short = rw same at p.short in
    let start = AreMidnights-same zone first (days + 1) (days + 1) b c.bounds h p.midnights 0 (omega arith) (omega arith) in
    let end = AreMidnights-same zone first (days + 1) (days + 1) b c.bounds h p.midnights days (omega arith) (omega arith) in
    omega (arith, start, end, short)

-- zones that pick the same instants have the same midnights
pub AreMidnights-zone : (a b : TimeZone) → ((dt : DateTime) → instant_in a dt ≡ instant_in b dt) → (first : ℤ) (n : ℕ) (xs : List ℕ)
    → AreMidnights a first n xs → AreMidnights b first n xs
AreMidnights-zone a b same first n xs h = record {
  count = h.count;
  each = λ j lt. let m = h.each j lt in record {
    midnight = m.midnight;
    date = m.date;
    time = m.time;
    instant = sym (same m.midnight) ∙ m.instant;
    within = m.within;
  };
  rising = h.rising;
}

-- a text is that of one date
pub IsDateText-day : (text : List ℕ) (a b : Date) → IsDateText text a → IsDateText text b → epoch_day a ≡ epoch_day b
IsDateText-day text a b h k =
    let parts : date_parts a ≡ date_parts b = cc (parse_date-date_text a, parse_date-date_text b, h.1, k.1) in
    epoch_day_same a b (ap (λ (p : DateParts). p.year) parts) (ap (λ (p : DateParts). p.month) parts) (ap (λ (p : DateParts). p.day) parts)

pub IsDateText-unique : (text : List ℕ) (a b : Date) → IsDateText text a → IsDateText text b → a ≡ b
IsDateText-unique text a b h k = same_date a b (IsDateText-day text a b h k)

-- a day has one text
pub IsTextOfDay-unique : (a b : List ℕ) (day : ℤ) → IsTextOfDay a day → IsTextOfDay b day → a ≡ b
IsTextOfDay-unique a b day h k =
    h.2.1 ∙ ap date_text (same_date h.0 k.0 (h.1 ∙ sym k.1)) ∙ sym k.2.1

-- two texts have one period
pub IsPeriodText-period : (first : List ℕ) (days : ℕ) (zone : List ℕ) (c : Calendar) (d : Date) (tz : TimeZone)
    → IsDateText first d → IsZoneText zone tz → IsPeriodText first days zone c → IsPeriod tz (epoch_day d) days c
IsPeriodText-period first days zone c d tz date rule h =
    let same = IsDateText-day first h.date d h.date_is date in
    let p = rw same at h.period in
    record {
      first = p.first;
      days_in = p.days_in;
      midnights = AreMidnights-zone h.rule tz (λ dt. IsPosixZone-picked zone h.rule tz dt h.rule_is.rule rule.rule) (epoch_day d) (days + 1) c.bounds p.midnights;
      short = p.short;
    }

-- a period of the date and the rule that the texts name is, with the zone's text, theirs
pub IsPeriodText-made : (first : List ℕ) (days : ℕ) (zone : List ℕ) (c : Calendar) (d : Date) (tz : TimeZone)
    → IsDateText first d → IsZoneText zone tz → IsPeriod tz (epoch_day d) days c → IsPeriodText first days zone (calendar c.first_day c.bounds zone)
IsPeriodText-made first days zone c d tz date rule p = record {
  date = d;
  date_is = date;
  rule = tz;
  rule_is = rule;
  period = record { first = p.first; days_in = p.days_in; midnights = p.midnights; short = p.short };
  zone_is = refl;
}

pub IsPeriodText-unique : (first : List ℕ) (days : ℕ) (zone : List ℕ) (c c' : Calendar)
    → IsPeriodText first days zone c → IsPeriodText first days zone c' → c ≡ c'
IsPeriodText-unique first days zone c c' h k =
    let p = IsPeriodText-period first days zone c' h.date h.rule h.date_is h.rule_is k in
    let q = h.period in
    let day = q.first ∙ sym p.first in
    let text = h.zone_is ∙ sym k.zone_is in
    let len = q.midnights.count in
    let bounds = ext_get_or 0 c.bounds c'.bounds (len ∙ sym p.midnights.count)
    (λ i lt. AreMidnights-same h.rule (epoch_day h.date) (days + 1) (days + 1) c.bounds c'.bounds q.midnights p.midnights i (omega arith) (omega arith)) in
    λ i. record { first_day = day i; bounds = bounds i; zone = text i }

-- no bound is above a later one
pub bound-at-most : (b : List ℕ) (i j : ℕ) → IsStrictlyIncreasing b → i ≤ j → j < length b → slice_index b i ≤ slice_index b j
bound-at-most b i j rising h lt =
    elim (cases_lt i j) [
      | inl less ↦ omega (arith, AllPairs-from_increasing b rising i j 0 less lt)
      | inr ge ↦ let e : i ≡ j = omega arith in rw e (omega arith)
    ]

pub IsNonDecreasingBy-increasing : (b : List ℕ) → IsStrictlyIncreasing b → IsNonDecreasingBy (λ (x : ℕ). x) b
IsNonDecreasingBy-increasing b rising i j d h lt =
    rw (get_or_default_zero b i d (omega arith), get_or_default_zero b j d lt) (bound-at-most b i j rising h lt)

-- the facts of a calendar
pub calendar_rises : (c : Calendar) → IsCalendar c → first_second_of c < end_second_of c
calendar_rises c k =
    omega (arith, AllPairs-from_increasing c.bounds k.rising 0 (day_count c) 0 (omega (arith, k.days.0)) (omega (arith, k.days.0)))

pub IsInDay-in_period : (c : Calendar) (k s : ℕ) → IsCalendar c → IsInDay c k s → IsInPeriod c s
IsInDay-in_period c k s kept h =
    let lt = h.0 in (
      omega (arith, bound-at-most c.bounds 0 k kept.rising (omega arith) (omega arith)),
      omega (arith, bound-at-most c.bounds (k + 1) (day_count c) kept.rising (omega arith) (omega (arith, kept.days.0))),
    )

-- two clauses on one success
pub IfOk-both : {T E : Type 0} (r : Result T E) (P Q R : T → Type 0) → ((x : T) → P x → Q x → R x) → IfOk r P → IfOk r Q → IfOk r R
IfOk-both (Ok x) P Q R f p q = f x p q
IfOk-both (Err e) P Q R f p q = tt
