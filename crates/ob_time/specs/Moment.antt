-- The texts of dates and moments.
use Rattle.std.specs.Prelude.{◌≡◌, ℕ, ℤ, pos, neg_ℤ, ◌+◌, ◌*◌, ◌*ℤ◌, ◌<◌, ◌≤◌, ◌≤ℤ◌, ◌-ℤ◌, ◌+ℤ◌, ◌⊎◌, List, [], ◌∷◌, ◌++◌, length, take, drop, slice_index, slice_range, Some, codes}
use Rattle.ob_base.specs.Fields.{unix_second_in}
use Rattle.jiff.specs.Types.{Date, DateTime, Time}
use Rattle.jiff.specs.Words.{civil_nanos, date_text, epoch_day, iso_datetime_text, nanos_of_seconds}
use Rattle.jiff_core.specs.Time.{time_seconds}
use Rattle.jiff_fmt.specs.Text.{pad2, pad4}

-- the text is `YYYY-MM-DD` of the date, which has no year below 0
abbrev pub IsDateText : List ℕ → Date → Type 0
IsDateText text d = (pos 0 ≤ℤ d.year) × (text ≡ date_text d)

-- the text is `YYYY-MM-DD` of the day of this number
abbrev pub IsTextOfDay : List ℕ → ℤ → Type 0
IsTextOfDay text day = (d : Date) × (epoch_day d ≡ day) × IsDateText text d

-- the text is `YYYY-MM-DD` of these numbers, whether they are a date or not
pub record IsDateForm (text : List ℕ) (y m d : ℕ) : Type 0 where
  pub year : y < 10_000
  pub month : m < 100
  pub day : d < 100
  pub text_is : text ≡ pad4 y ++ 45 ∷ pad2 m ++ 45 ∷ pad2 d

-- the text is `HH:MM:SS` of these numbers, whether they are a time of day or not
pub record IsTimeForm (text : List ℕ) (h m s : ℕ) : Type 0 where
  pub hour : h < 100
  pub minute : m < 100
  pub second : s < 100
  pub text_is : text ≡ pad2 h ++ 58 ∷ pad2 m ++ 58 ∷ pad2 s

-- the text is `HH:MM:SS` of a whole second of the day
abbrev pub IsTimeText : List ℕ → Time → Type 0
IsTimeText text t = (t.subsec_nanosecond ≡ 0) × (text ≡ pad2 t.hour ++ 58 ∷ pad2 t.minute ++ 58 ∷ pad2 t.second)

-- the text is `HH:MM` of hours to 23 and minutes to 59, this many seconds in all
pub record IsHourMinuteText (text : List ℕ) (n : ℕ) : Type 0 where
  pub h : ℕ
  pub m : ℕ
  pub hour : h < 24
  pub minute : m < 60
  pub text_is : text ≡ pad2 h ++ 58 ∷ pad2 m
  pub value : n ≡ h * 3600 + m * 60

-- the text is `Z`, `+HH:MM` or `-HH:MM`, this many seconds east of UTC
pub data IsOffsetText (text : List ℕ) (seconds : ℤ) : Type 0 where
  utc : text ≡ 90 ∷ [] → seconds ≡ pos 0 → IsOffsetText text seconds
  east : (rest : List ℕ) (n : ℕ) → IsHourMinuteText rest n → text ≡ 43 ∷ rest → seconds ≡ pos n → IsOffsetText text seconds
  west : (rest : List ℕ) (n : ℕ) → IsHourMinuteText rest n → text ≡ 45 ∷ rest → seconds ≡ neg_ℤ (pos n) → IsOffsetText text seconds

-- the second of a civil date and time at an offset of this many seconds east of UTC
abbrev pub civil_second : Date → Time → ℤ → ℤ
civil_second date time offset = (epoch_day date *ℤ pos 86_400 +ℤ pos (time_seconds time)) -ℤ offset

-- the text is `YYYY-MM-DD`, `T`, `HH:MM:SS` and an offset, and this is their second
pub record IsCivilText (text : List ℕ) (s : ℕ) : Type 0 where
  pub date : Date
  pub time : Time
  pub offset : ℤ
  pub long : 19 ≤ length text
  pub date_is : IsDateText (take 10 text) date
  pub separator : slice_index text 10 ≡ 84
  pub time_is : IsTimeText (slice_range text 11 19) time
  pub offset_is : IsOffsetText (drop 19 text) offset
  pub value : pos s ≡ civil_second date time offset
  pub within : s ≤ 99_999_999_999

-- the text names this second: by 1 to 11 digits as Unix seconds, or as a civil moment
abbrev pub IsSecondText : List ℕ → ℕ → Type 0
IsSecondText text s = (unix_second_in text ≡ Some s) ⊎ IsCivilText text s

-- the text is that of the second's civil datetime in UTC, with `Z`
pub record IsUtcText (text : List ℕ) (s : ℕ) : Type 0 where
  pub datetime : DateTime
  pub instant : civil_nanos datetime ≡ nanos_of_seconds (pos s)
  pub text_is : text ≡ iso_datetime_text datetime ++ codes "Z"
