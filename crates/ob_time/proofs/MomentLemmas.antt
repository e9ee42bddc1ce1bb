-- What the texts of moments say, and that they say one thing.
use Rattle.std.proofs.Common.{◌≡◌, ◌≢◌, ◌∙◌, inl, inr, sym, ap, refl, rules, ℕ, ℤ, pos, negsuc, neg_ℤ, ◌+◌, ◌/◌, ◌%◌, ◌≤◌, ◌-ℤ◌, ◌≤ℤ◌, List, [], ◌∷◌, ◌++◌, length, take, drop, slice_range, arith, Option, Some, None, IfSome, IfNone, subst, unsigned_abs}
use Rattle.std.proofs.lemmas.Bool.{cases_lt}
use Rattle.jiff_core.proofs.DateTimeLemmas.{civil_nanos-civil_seconds}
use Rattle.jiff_core.specs.DateTime.{civil_seconds}
use Rattle.jiff_core.specs.Time.{time_seconds}
use Rattle.jiff_fmt.specs.Text.{pad2, pad4}
use Rattle.jiff.proofs.SpanFacts.{signed_arith}
use Rattle.jiff.specs.Types.{Date, DateTime, Time}
use Rattle.jiff.specs.Words.{date_text, iso_datetime_text}
use Rattle.ob_base.specs.Fields.{unix_second_in}
use Rattle.ob_base.specs.declared.TheConstants.{LAST_SECOND}
use Rattle.ob_time.specs.Moment.{IsDateText, IsTimeText, IsHourMinuteText, IsOffsetText, IsCivilText, IsSecondText, IsUtcText, civil_second}
use Rattle.ob_time.specs.Moment.IsOffsetText.{utc, east, west}
use Rattle.ob_time.proofs.PeriodLemmas.{IsDateText-day, year-nonnegative}

-- a time of day has one text
pub IsTimeText-seconds : (text : List ℕ) (a b : Time) → IsTimeText text a → IsTimeText text b → time_seconds a ≡ time_seconds b
IsTimeText-seconds text a b h k =
    let h1 : 48 + a.hour / 10 ≡ 48 + b.hour / 10 = cc (h.1, k.1) in
    let h2 : 48 + a.hour % 10 ≡ 48 + b.hour % 10 = cc (h.1, k.1) in
    let m1 : 48 + a.minute / 10 ≡ 48 + b.minute / 10 = cc (h.1, k.1) in
    let m2 : 48 + a.minute % 10 ≡ 48 + b.minute % 10 = cc (h.1, k.1) in
    let s1 : 48 + a.second / 10 ≡ 48 + b.second / 10 = cc (h.1, k.1) in
    let s2 : 48 + a.second % 10 ≡ 48 + b.second % 10 = cc (h.1, k.1) in
    omega arith

pub IsHourMinuteText-same : (text : List ℕ) (m n : ℕ) → IsHourMinuteText text m → IsHourMinuteText text n → m ≡ n
IsHourMinuteText-same text m n h k =
    let h1 : 48 + h.h / 10 ≡ 48 + k.h / 10 = cc (h.text_is, k.text_is) in
    let h2 : 48 + h.h % 10 ≡ 48 + k.h % 10 = cc (h.text_is, k.text_is) in
    let m1 : 48 + h.m / 10 ≡ 48 + k.m / 10 = cc (h.text_is, k.text_is) in
    let m2 : 48 + h.m % 10 ≡ 48 + k.m % 10 = cc (h.text_is, k.text_is) in
    omega arith

clock-moved : (a b : List ℕ) (n : ℕ) → a ≡ b → IsHourMinuteText a n → IsHourMinuteText b n
clock-moved a b n e h = rw e at h

first-differs : (a b : ℕ) (r s : List ℕ) → a ∷ r ≡ b ∷ s → a ≡ b
first-differs a b r s e = cc

-- an offset has one text
pub IsOffsetText-same : (text : List ℕ) (a b : ℤ) → IsOffsetText text a → IsOffsetText text b → a ≡ b
IsOffsetText-same text a b (utc t e) (utc u f) = e ∙ sym f
IsOffsetText-same text a b (utc t e) (east r n k u f) = absurd (omega (arith, first-differs 90 43 [] r (sym t ∙ u)))
IsOffsetText-same text a b (utc t e) (west r n k u f) = absurd (omega (arith, first-differs 90 45 [] r (sym t ∙ u)))
IsOffsetText-same text a b (east q m h t e) (utc u f) = absurd (omega (arith, first-differs 43 90 q [] (sym t ∙ u)))
IsOffsetText-same text a b (east q m h t e) (east r n k u f) =
    let same : q ≡ r = cc in
    e ∙ ap pos (IsHourMinuteText-same r m n (clock-moved q r m same h) k) ∙ sym f
IsOffsetText-same text a b (east q m h t e) (west r n k u f) = absurd (omega (arith, first-differs 43 45 q r (sym t ∙ u)))
IsOffsetText-same text a b (west q m h t e) (utc u f) = absurd (omega (arith, first-differs 45 90 q [] (sym t ∙ u)))
IsOffsetText-same text a b (west q m h t e) (east r n k u f) = absurd (omega (arith, first-differs 45 43 q r (sym t ∙ u)))
IsOffsetText-same text a b (west q m h t e) (west r n k u f) =
    let same : q ≡ r = cc in
    e ∙ ap (λ i. neg_ℤ (pos i)) (IsHourMinuteText-same r m n (clock-moved q r m same h) k) ∙ sym f

-- and is below a day
pub IsOffsetText-bound : (text : List ℕ) (a : ℤ) → IsOffsetText text a → (neg_ℤ (pos 86_400) ≤ℤ a) × (a ≤ℤ pos 86_400)
IsOffsetText-bound text a (utc t e) = omega (arith, signed_arith, e)
IsOffsetText-bound text a (east r n k u f) = let h = k.hour in let m = k.minute in let v = k.value in omega (arith, signed_arith, f)
IsOffsetText-bound text a (west r n k u f) = let h = k.hour in let m = k.minute in let v = k.value in omega (arith, signed_arith, f)

pub offset-east-none : (text rest : List ℕ) (o : ℤ) → text ≡ 43 ∷ rest → ((n : ℕ) → ¬ (IsHourMinuteText rest n)) → ¬ (IsOffsetText text o)
offset-east-none text rest o e none (utc t f) = omega (arith, first-differs 43 90 rest [] (sym e ∙ t))
offset-east-none text rest o e none (east r n k u f) = let same : r ≡ rest = cc in none n (clock-moved r rest n same k)
offset-east-none text rest o e none (west r n k u f) = omega (arith, first-differs 43 45 rest r (sym e ∙ u))

pub offset-west-none : (text rest : List ℕ) (o : ℤ) → text ≡ 45 ∷ rest → ((n : ℕ) → ¬ (IsHourMinuteText rest n)) → ¬ (IsOffsetText text o)
offset-west-none text rest o e none (utc t f) = omega (arith, first-differs 45 90 rest [] (sym e ∙ t))
offset-west-none text rest o e none (east r n k u f) = omega (arith, first-differs 45 43 rest r (sym e ∙ u))
offset-west-none text rest o e none (west r n k u f) = let same : r ≡ rest = cc in none n (clock-moved r rest n same k)

-- the definition, for a proof that does not unfold it
pub civil_seconds-parts : (dt : DateTime) (date : Date) (time : Time) (offset : ℤ) → dt.date ≡ date → dt.time ≡ time → civil_seconds dt -ℤ offset ≡ civil_second date time offset
unfolding civil_seconds
civil_seconds-parts dt date time offset e f = rw (e, f) refl

-- a text names one second
pub IsCivilText-value : (text : List ℕ) (s : ℕ) (date : Date) (time : Time) (offset : ℤ) → IsDateText (take 10 text) date → IsTimeText (slice_range text 11 19) time → IsOffsetText (drop 19 text) offset
    → IsCivilText text s → pos s ≡ civil_second date time offset
IsCivilText-value text s date time offset d t z h =
    omega (arith, signed_arith, h.value, IsDateText-day _ h.date date h.date_is d, IsTimeText-seconds _ h.time time h.time_is t, IsOffsetText-same _ h.offset offset h.offset_is z)

pub IsCivilText-unique : (text : List ℕ) (s t : ℕ) → IsCivilText text s → IsCivilText text t → s ≡ t
IsCivilText-unique text s t h k =
    omega (arith, signed_arith, IsCivilText-value text s k.date k.time k.offset k.date_is k.time_is k.offset_is h, k.value)

-- a civil text is no number
unix_second-short : (text : List ℕ) (t : ℕ) → unix_second_in text ≡ Some t → length text ≤ 11
unix_second-short text t e =
    elim (cases_lt 11 (length text)) [
      | inl long ↦ absurd (grind (arith, e, long))
      | inr short ↦ short
    ]

pub IsCivilText-not_unix : (text : List ℕ) (s t : ℕ) → IsCivilText text s → unix_second_in text ≢ Some t
IsCivilText-not_unix text s t h k = let long = h.long in omega (arith, unix_second-short text t k)

-- a text of Unix seconds reads as them alone
pub IsSecondText-unix : (text : List ℕ) (v : ℕ) → unix_second_in text ≡ Some v → (s : ℕ) → (Some v ≡ Some s → IsSecondText text s) × (IsSecondText text s → Some v ≡ Some s)
IsSecondText-unix text v u s =
    (λ e. inl (u ∙ e), λ h. elim h [ inl k ↦ sym u ∙ k | inr civil ↦ absurd (IsCivilText-not_unix text s v civil u) ])

-- the text of a second reads as that second
date_text-shape : (d : Date) (n : ℕ) → d.year ≡ pos n → date_text d ≡ pad4 n ++ 45 ∷ pad2 d.month ++ 45 ∷ pad2 d.day
date_text-shape d n e = rw e refl

-- an option's clauses, weakened
pub some-weaker : {T : Type 0} (o : Option T) (P Q : T → Type 0) → ((x : T) → P x → Q x) → IfSome o P → IfSome o Q
some-weaker None P Q f p = tt
some-weaker (Some x) P Q f p = f x p

pub none-weaker : {T : Type 0} (o : Option T) (P Q : Type 0) → (P → Q) → IfNone o P → IfNone o Q
none-weaker None P Q f p = f p
none-weaker (Some x) P Q f p = tt

-- an answer that is found and none else, as an equivalence
pub reads : (o : Option ℕ) (P : ℕ → Type 0) → ((s t : ℕ) → P s → P t → s ≡ t) → IfSome o P → IfNone o ((s : ℕ) → ¬ (P s))
    → (s : ℕ) → (o ≡ Some s → P s) × (P s → o ≡ Some s)
reads None P only found none s = (λ e. absurd (cc), λ p. absurd (none s p))
reads (Some v) P only found none s =
    (λ e. let same : v ≡ s = cc in subst P same found, λ p. ap (λ n. Some n) (only v s found p))

abbrev utc_text : DateTime → List ℕ
utc_text dt =
    pad4 (unsigned_abs dt.date.year) ++ 45 ∷ pad2 dt.date.month ++ 45 ∷ pad2 dt.date.day
    ++ 84 ∷ pad2 dt.time.hour ++ 58 ∷ pad2 dt.time.minute ++ 58 ∷ pad2 dt.time.second ++ 90 ∷ []

utc-shape : (dt : DateTime) (n : ℕ) → dt.date.year ≡ pos n → dt.time.subsec_nanosecond ≡ 0
    → iso_datetime_text dt ++ 90 ∷ [] ≡ pad4 n ++ 45 ∷ pad2 dt.date.month ++ 45 ∷ pad2 dt.date.day
    ++ 84 ∷ pad2 dt.time.hour ++ 58 ∷ pad2 dt.time.minute ++ 58 ∷ pad2 dt.time.second ++ 90 ∷ []
utc-shape dt n e f = rw (e, f) refl

pub nonnegative-is : (z : ℤ) → pos 0 ≤ℤ z → z ≡ pos (unsigned_abs z)
nonnegative-is (pos n) h = refl
nonnegative-is (negsuc n) h = absurd (omega (arith, signed_arith))

-- the text of a second, byte by byte
pub IsUtcText-shape : (text : List ℕ) (s : ℕ) → s ≤ LAST_SECOND → (h : IsUtcText text s) → text ≡ utc_text h.datetime
unfolding civil_seconds
IsUtcText-shape text s low h =
    let dt = h.datetime in
    let parts = civil_nanos-civil_seconds dt in
    let fraction = dt.time.subsec_in in
    let hour = dt.time.hour_in in
    let minute = dt.time.minute_in in
    let second = dt.time.second_in in
    let whole : dt.time.subsec_nanosecond ≡ 0 = omega (arith, signed_arith, parts, h.instant) in
    let seconds : civil_seconds dt ≡ pos s = omega (arith, signed_arith, parts, h.instant) in
    let year = year-nonnegative dt.date (omega (arith, signed_arith, seconds)) in
    h.text_is ∙ utc-shape dt (unsigned_abs dt.date.year) (nonnegative-is dt.date.year year) whole

pub IsUtcText-length : (text : List ℕ) (s : ℕ) → s ≤ LAST_SECOND → IsUtcText text s → length text ≡ 20
IsUtcText-length text s low h = rw (IsUtcText-shape text s low h) (search rules)

pub IsUtcText-civil : (text : List ℕ) (s : ℕ) → s ≤ LAST_SECOND → IsUtcText text s → IsCivilText text s
unfolding civil_seconds
IsUtcText-civil text s low h =
    let dt = h.datetime in
    let parts = civil_nanos-civil_seconds dt in
    let fraction = dt.time.subsec_in in
    let hour = dt.time.hour_in in
    let minute = dt.time.minute_in in
    let second = dt.time.second_in in
    let whole : dt.time.subsec_nanosecond ≡ 0 = omega (arith, signed_arith, parts, h.instant) in
    let seconds : civil_seconds dt ≡ pos s = omega (arith, signed_arith, parts, h.instant) in
    let year = year-nonnegative dt.date (omega (arith, signed_arith, seconds)) in
    let n = unsigned_abs dt.date.year in
    let year_is = nonnegative-is dt.date.year year in
    let shape = h.text_is ∙ utc-shape dt n year_is whole in
    record {
      date = dt.date;
      time = dt.time;
      offset = pos 0;
      long = rw shape (search rules);
      date_is = (year, rw (shape, date_text-shape dt.date n year_is) refl);
      separator = rw shape refl;
      time_is = (whole, rw shape refl);
      offset_is = utc (rw shape refl) refl;
      value = omega (arith, signed_arith, seconds);
      within = low;
    }
