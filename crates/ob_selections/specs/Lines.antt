-- The lines of the indices of selections in CSV.
use Rattle.std.specs.Prelude.{ℕ, Bool, List, [], ◌∷◌, ◌++◌, Option, Some, None, codes, decimal}
use Rattle.std.specs.List.{flat_map}
use Rattle.ob_index.specs.Ratio.{Ratio, fraction_text, quotient}
use Rattle.ob_selections.specs.Decimals.{decimals_text}
use Rattle.ob_selections.specs.Formulas.{index_of, listed}
use Rattle.ob_selections.specs.declared.figures.Figures.{Figures}
use Rattle.ob_selections.specs.declared.formula.Formula.{Formula}

-- the names of the two columns of an index: its own, and with its number of decimals
unfoldable pub index_columns : List ℕ × Formula → List ℕ
index_columns named = 44 ∷ named.0 ++ 44 ∷ named.0 ++ 95 ∷ decimal named.1.places

-- the names of the columns
abbrev pub header : List ℕ
header =
    codes "key,set,period_seconds,customer_seconds_served,customers_served,customers_served_3,sustained,sustained_customer_seconds,interrupted,momentary"
    ++ flat_map index_columns listed ++ 10 ∷ []

-- a comma, the fraction, a comma and its decimals; both fields are empty where there is none
abbrev pub quotient_fields : ℕ → Option Ratio → List ℕ
quotient_fields places None = 44 ∷ 44 ∷ []
quotient_fields places (Some f) = 44 ∷ fraction_text f ++ 44 ∷ decimals_text places f

-- a comma and a number
abbrev pub number_field : ℕ → List ℕ
number_field n = 44 ∷ decimal n

-- the two fields of an index
unfoldable pub index_fields : Bool → Figures → List ℕ × Formula → List ℕ
index_fields all_days k named = quotient_fields named.1.places (index_of all_days k named.1)

-- the key and the set
abbrev pub key_fields : List ℕ → List ℕ → List ℕ
key_fields key set = key ++ 44 ∷ set

-- P, S and the customers served
abbrev pub service_fields : Figures → List ℕ
service_fields k = number_field k.length ++ number_field k.served ++ quotient_fields 3 (quotient k.served k.length)

-- CI, CSI, CN and MI
abbrev pub count_fields : Figures → List ℕ
count_fields k = number_field k.counts.ci ++ number_field k.counts.csi ++ number_field k.counts.cn ++ number_field k.counts.mi

-- the line of figures under a key, which ends with LF
abbrev pub figures_line : List ℕ → List ℕ → Bool → Figures → List ℕ
figures_line key set all_days k =
    key_fields key set ++ service_fields k ++ count_fields k ++ flat_map (index_fields all_days k) listed ++ 10 ∷ []
