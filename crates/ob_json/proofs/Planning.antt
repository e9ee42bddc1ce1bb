-- A plan has no float as JSON.
use Rattle.std.proofs.Common.{◌≡◌, refl, ℕ, false, List, [], ◌∷◌, map, Option, Some, None}
use Rattle.serde_json.specs.View.{items_of}
use Rattle.serde_json.specs.Written.{has_float, items_have_float}
use Rattle.ob_json.specs.Plans.{Forecast, SectionOutages, forecast_data, interval_data, number_or_null, section_data}
use Rattle.ob_json.specs.declared.plan.OutageInterval.{OutageInterval}
use Rattle.ob_json.proofs.Moving.{moves_have_none}

pub entry_has_none : (entry : Option ℕ) → has_float (number_or_null entry) ≡ false
entry_has_none None = refl
entry_has_none (Some n) = refl

intervals_have_none : (intervals : List OutageInterval) → items_have_float (items_of (map interval_data intervals)) ≡ false
intervals_have_none [] = refl
intervals_have_none (i ∷ intervals) = rw (entry_has_none i.entry) (intervals_have_none intervals)

sections_have_none : (sections : List SectionOutages) → items_have_float (items_of (map section_data sections)) ≡ false
sections_have_none [] = refl
sections_have_none (s ∷ sections) = rw (intervals_have_none s.after, intervals_have_none s.before) (sections_have_none sections)

pub forecast_has_none : (f : Forecast) → has_float (forecast_data f) ≡ false
forecast_has_none f = rw (moves_have_none f.moved, sections_have_none f.sections) refl
