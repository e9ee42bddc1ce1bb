-- The customer-seconds under all keys of a dimension, and how large amounts can be.
use Rattle.std.specs.Prelude.{◌≡◌, ℕ, ◌+◌, ◌^◌, ◌<◌, ◌≤◌, List, length}
use Rattle.std.specs.List.{All, sum_by}
use Rattle.ob_net.specs.Network.{Network, IsNetwork}
use Rattle.ob_base.specs.Seconds.{seconds}
use Rattle.ob_sheet.specs.declared.Entry.{Entry}
use Rattle.ob_sheet.specs.Supply.{is_deenergized}
use Rattle.ob_cust.specs.declared.Customer.{Customer}
use Rattle.ob_cust.specs.WithoutSupply.{seconds_without_supply}
use Rattle.ob_time.specs.Calendar.{PartSeconds}
use Rattle.ob_post.specs.CustomerSeconds.{Days, customer_seconds_by}
use Rattle.ob_post.specs.Keys.{IsKey, keys}
use Rattle.ob_post.specs.Postings.{PostedAmounts, amount_of, day_count, total_of}
use Rattle.ob_post.specs.SectionLaws.{AreOnSections}
use Rattle.ob_post.specs.declared.Dim.{Dim}

-- the customer-seconds without supply under all keys of a dimension
abbrev pub seconds_under_keys : Network → List Entry → List Customer → Days → Dim → ℕ
seconds_under_keys net entries roll p dim = sum_by (customer_seconds_by net entries roll p dim) (keys (length p.days) dim)

-- where entries have causes below 64, customers are on sections of the network and the days part the period's seconds,
-- each customer-second without supply counts under one key of each dimension
abbrev pub AddUp : Type 0
AddUp =
    (net : Network) (entries : List Entry) (roll : List Customer) (p : Days) (dim : Dim) → All (λ e. e.cause < 64) entries → IsNetwork net → AreOnSections net roll → PartSeconds p.first p.end p.days
    → seconds_under_keys net entries roll p dim ≡ seconds_without_supply (is_deenergized net entries) (seconds p.first p.end) roll

-- with the customers that there may be and fewer than 2^25 seconds, an amount is below 2^63
abbrev pub AmountsAreSmall : Type 0
AmountsAreSmall =
    (net : Network) (entries : List Entry) (roll : List Customer) (p : Days) (dim : Dim) (key : ℕ) → length roll ≤ 100_000 → p.end < p.first + 2 ^ 25
    → customer_seconds_by net entries roll p dim key < 2 ^ 63

-- and so are all amounts of a dimension together
abbrev pub TotalsAreSmall : Type 0
TotalsAreSmall =
    (net : Network) (entries : List Entry) (roll : List Customer) (p : Days) (dim : Dim) → length roll ≤ 100_000 → p.end < p.first + 2 ^ 25 → length p.days ≤ 366
    → seconds_under_keys net entries roll p dim < 2 ^ 63

-- where amounts are kept as they are defined, so are their totals
abbrev pub TotalsAgree : Type 0
TotalsAgree =
    (a : PostedAmounts) (amount : Dim → ℕ → ℕ) (dim : Dim) → ((key : ℕ) → IsKey (day_count a) dim key → amount_of a dim key ≡ amount dim key) → total_of a dim ≡ sum_by (amount dim) (keys (day_count a) dim)
