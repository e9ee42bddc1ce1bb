-- Where amounts stand in one list: causes, then feeders, then days.
use Rattle.std.specs.Prelude.{ℕ, ◌+◌, ◌^◌, ◌<◌, ◌≤◌, List, length, take, drop}
use Rattle.ob_post.specs.declared.Dim.{Dim}
use Rattle.ob_post.specs.declared.Dim.TheVariants.{Cause, Feeder, Day}
use Rattle.ob_post.specs.Postings.{PostedAmounts, total_of}

-- the place of a key of a dimension
abbrev pub place_of : Dim → ℕ → ℕ
place_of Cause code = code
place_of Feeder feeder = feeder + 63
place_of Day day = day + 319

-- the amounts that a list holds
abbrev pub amounts_in : List ℕ → PostedAmounts
amounts_in places = record { causes = take 64 places; feeders = take 255 (drop 64 places); days = drop 319 places }

-- what postings keep: a place for each cause, feeder and day, and totals below 2^63
pub record ArePlaces (places : List ℕ) : Type 0 where
  pub enough : 319 ≤ length places
  pub few : length places ≤ 685
  pub totals : (dim : Dim) → total_of (amounts_in places) dim < 2 ^ 63
