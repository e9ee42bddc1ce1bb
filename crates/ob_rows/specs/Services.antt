-- The services of a section's customers.
use Rattle.std.specs.Prelude.{ℕ, ◌==◌, List, [], ◌∷◌, Option, if◌then◌else◌}
use Rattle.std.specs.List.{count_by}
use Rattle.std.specs.declared.cmp.Ordering.{Ordering}
use Rattle.std.specs.declared.cmp.Ordering.TheVariants.{Less, Equal, Greater}
use Rattle.ob_cust.specs.Blocks.{has_service, service_cmp}
use Rattle.ob_cust.specs.declared.Customer.{Customer}

-- when customers are in service: the first second, and the second at which it ends, or none
abbrev pub Service : Type 0
Service = ℕ × Option ℕ

-- a service before, beside or behind another one, by their order
abbrev pub put_service_at : Ordering → Service → Service → List Service → List Service → List Service
put_service_at Less s t rest further = s ∷ t ∷ rest
put_service_at Equal s t rest further = t ∷ rest
put_service_at Greater s t rest further = t ∷ further

-- services in order, each once, with one more
abbrev pub put_service : Service → List Service → List Service
put_service s [] = s ∷ []
put_service s (t ∷ rest) = put_service_at (service_cmp s t) s t rest (put_service s rest)

-- the services that customers of a section have, each once, by since and then by until, where one without end comes first
abbrev pub services_of : ℕ → List Customer → List Service
services_of section [] = []
services_of section (c ∷ roll) =
    if c.section == section then put_service (c.since, c.until) (services_of section roll) else services_of section roll

-- how many customers of a section have a service
abbrev pub customers_with : List Customer → ℕ → Service → ℕ
customers_with roll section s = count_by (has_service section s.0 s.1) roll
