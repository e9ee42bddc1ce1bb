-- Worked texts.
use Rattle.std.proofs.Common.{◌≡◌, ℕ, pos, true, false, [], ◌∷◌, refl, Option, Some, None}
use Rattle.std.specs.Prelude.{codes, replicate}
use Rattle.std.specs.Fmt.{digits}
use Rattle.serde_json.proofs.OnLiterals.{serde_json_on_literals}
use Rattle.ob_index.specs.Ratio.{Ratio}
use Rattle.ob_index.specs.declared.figures.Indices.{Indices}
use Rattle.ob_post.specs.Keys.{keys}
use Rattle.ob_post.specs.Postings.{PostedAmounts, amount_of, total_of}
use Rattle.ob_post.specs.declared.Dim.TheVariants.{Cause, Feeder, Day}
use Rattle.ob_json.specs.Totals.{totals_text}
use Rattle.ob_json.specs.Plans.{Forecast, are_same_intervals, forecast_text}
use Rattle.ob_json.specs.declared.plan.OutageInterval.{OutageInterval}
use Rattle.ob_json.specs.Supplies.{Supply, supply_text}
use Rattle.ob_base.specs.declared.Pos.TheVariants.{Opened, Closed}
use Rattle.ob_json.specs.Indices.{indices_text}

-- 9,000 customer-seconds under cause 3, feeder 1 and the first day of two
abbrev posted : PostedAmounts
posted = record { causes = 0 ∷ 0 ∷ 0 ∷ 9000 ∷ replicate 60 0; feeders = 9000 ∷ replicate 254 0; days = 9000 ∷ 0 ∷ [] }

totals : totals_text (amount_of posted) 2 (total_of posted Day)
    ≡ codes "{\"cause\":[[3,9000]],\"day\":[[0,9000]],\"feeder\":[[1,9000]],\"total\":9000}"
unfolding keys digits serde_json_on_literals
totals = refl

abbrev over : ℕ → ℕ → Option Ratio
over n d = Some (record { num = n; den = d })

abbrev all : Indices
all = record {
  saifi = over 1 2;
  saidi = over 15 1;
  caidi = over 30 1;
  caifi = over 1 1;
  asai = over 95 96;
  cemi = over 1 2 ∷ replicate 9 (over 0 1);
  sustained = 5;
  momentary = 0;
}

abbrev none : Indices
none = record { saifi = over 0 1; saidi = over 0 1; caidi = None; caifi = None; asai = over 1 1; cemi = replicate 10 (over 0 1); sustained = 0; momentary = 0 }

-- five of ten customers out for half an hour of a day, which is marked
indices : indices_text all none
    ≡ codes "{\"all\":{\"asai\":\"95/96\",\"caidi\":\"30/1\",\"caifi\":\"1/1\",\"cemi\":[\"1/2\",\"0/1\",\"0/1\",\"0/1\",\"0/1\",\"0/1\",\"0/1\",\"0/1\",\"0/1\",\"0/1\"],\"momentary\":0,\"saidi\":\"15/1\",\"saifi\":\"1/2\",\"sustained\":5},\"unmarked\":{\"asai\":\"1/1\",\"caidi\":\"undefined\",\"caifi\":\"undefined\",\"cemi\":[\"0/1\",\"0/1\",\"0/1\",\"0/1\",\"0/1\",\"0/1\",\"0/1\",\"0/1\",\"0/1\",\"0/1\"],\"momentary\":0,\"saidi\":\"0/1\",\"saifi\":\"0/1\",\"sustained\":0}}"
unfolding digits serde_json_on_literals
indices = refl

-- an opening that would cut two sections off, of which one has no customer and the other was off before, for another cause and by
-- no entry
abbrev interval : ℕ → ℕ → Option ℕ → ℕ → OutageInterval
interval since until entry cause = record { since = since; until = until; entry = entry; cause = cause }

abbrev forecast : Forecast
forecast = record {
  moved = record { dim = Cause; key = 3; delta = pos 9000 } ∷ record { dim = Feeder; key = 1; delta = pos 9000 } ∷ record { dim = Day; key = 0; delta = pos 9000 } ∷ [];
  sections =
      record { section = codes "S1"; before = interval 100 200 None 0 ∷ []; after = interval 100 200 None 0 ∷ interval 300 400 (Some 26) 3 ∷ [] }
      ∷ record { section = codes "S2"; before = []; after = interval 300 400 (Some 26) 3 ∷ [] }
      ∷ [];
}

planned : forecast_text forecast
    ≡ codes "{\"moved\":[[\"cause\",3,9000],[\"feeder\",1,9000],[\"day\",0,9000]],\"sections\":[{\"after\":[[100,200,null,0],[300,400,26,3]],\"before\":[[100,200,null,0]],\"section\":\"S1\"},{\"after\":[[300,400,26,3]],\"before\":[],\"section\":\"S2\"}]}"
unfolding digits serde_json_on_literals
planned = refl

-- a command that changes nothing that is counted
nothing_planned : forecast_text (record { moved = []; sections = [] }) ≡ codes "{\"moved\":[],\"sections\":[]}"
unfolding digits serde_json_on_literals
nothing_planned = refl

-- another cause is another outage interval
other_cause : are_same_intervals (interval 300 400 (Some 26) 3 ∷ []) (interval 300 400 (Some 26) 4 ∷ []) ≡ false
other_cause = refl

same_twice : are_same_intervals (interval 300 400 (Some 26) 3 ∷ []) (interval 300 400 (Some 26) 3 ∷ []) ≡ true
same_twice = refl

-- two sections without supply, of which one was cut off by no entry and has no customer then, and two devices, of which one is not
-- in service
abbrev supply : Supply
supply = record {
  second = 300;
  sections =
      record { section = codes "S1"; since = 300; until = 400; entry = Some 26; cause = 3; customers = 5 }
      ∷ record { section = codes "S2"; since = 100; until = 500; entry = None; cause = 0; customers = 0 }
      ∷ [];
  devices = record { device = codes "CB-1"; position = Opened; alive = true } ∷ record { device = codes "SW-2"; position = Closed; alive = false } ∷ [];
}

supplied : supply_text supply
    ≡ codes "{\"devices\":[{\"alive\":true,\"device\":\"CB-1\",\"position\":\"open\"},{\"alive\":false,\"device\":\"SW-2\",\"position\":\"closed\"}],\"second\":300,\"sections\":[{\"cause\":3,\"customers\":5,\"entry\":26,\"section\":\"S1\",\"since\":300,\"until\":400},{\"cause\":0,\"customers\":0,\"entry\":null,\"section\":\"S2\",\"since\":100,\"until\":500}]}"
unfolding digits serde_json_on_literals
supplied = refl
