-- Fractions as decimals.
use Rattle.std.specs.Prelude.{ℕ, ◌+◌, ◌-◌, ◌*◌, ◌/◌, ◌%◌, ◌^◌, List, ◌∷◌, ◌++◌, decimal, length, replicate}
use Rattle.ob_index.specs.Ratio.{Ratio}

-- a fraction times 10 ^ places, rounded half up
abbrev pub scaled : ℕ → Ratio → ℕ
scaled places f = (2 * 10 ^ places * f.num + f.den) / (2 * f.den)

-- a number in so many digits, zeros before it
abbrev pub padded : ℕ → ℕ → List ℕ
padded digits n = replicate (digits - length (decimal n)) 48 ++ decimal n

-- a fraction rounded half up at so many decimals
abbrev pub decimals_text : ℕ → Ratio → List ℕ
decimals_text places f = decimal (scaled places f / 10 ^ places) ++ 46 ∷ padded places (scaled places f % 10 ^ places)
