-- What a customer that is connected, or has another service, moves.
use Rattle.std.proofs.Common.{◌≡◌, sym, ap, refl, subst, ℕ, ◌<◌, ◌≤◌, ◌==◌, Bool, true, false, List, length, Option, Some, None, unwrap_or, if◌then◌else◌, arith}
use Rattle.std.specs.List.{AllPairs, find}
use Rattle.std.proofs.lemmas.List.{length-map}
use Rattle.ob_cust.specs.declared.Customer.{Customer as ACustomer}
use Rattle.ob_cust.specs.declared.TheConstants.{MOST_CUSTOMERS}
use Rattle.ob_cust.specs.Roll.{connect_refusal, has_number, is_bad_service, revised, with_customer, with_service}
use Rattle.ob_time.specs.Calendar.{IsCalendar, day_count}
use Rattle.ob_command.specs.declared.command.Command.{Command}
use Rattle.ob_command.specs.declared.command.Command.TheVariants.{Cause, Bus, Section, Device, Life, Connect, Revise, Switch, Correct, Withdraw, Mark, Unmark}
use Rattle.ob_post.specs.MoveLaws.{AreSmall}
use Rattle.ob_post.specs.SectionLaws.{Changed, Connected}
use Rattle.ob_post.specs.TotalLaws.{AmountsAreSmall}
use Rattle.ob_post.specs.declared.posting.Posting.{Posting}
use Rattle.ob_state.specs.State.{BookState}
use Rattle.ob_state.specs.Amounts.{amount, days_of_book}
use Rattle.ob_state.specs.Next.{next}
use Rattle.ob_state.specs.Refusals.{refusal}
use Rattle.ob_state.specs.Resolved.{next_by}
use Rattle.ob_state.specs.declared.resolved.Resolved.TheVariants.{Customer, Service}
use Rattle.ob_post.specs.Balances.{together, Balances}
use Rattle.ob_state.specs.Effects.{amount_of_customer}
use Rattle.ob_state.proofs.Accepted.{connect_accepted, few_with}
use Rattle.ob_state.proofs.Amounting.{small}
use Rattle.ob_post.proofs.Balancing.{balances_as, same_change}

second_no : {X : Type 0} (a b : Bool) (x y : X) (o : Option X) → (if a then Some x else if b then Some y else o) ≡ None → b ≡ false
second_no true b x y o h = cc
second_no false true x y o h = cc
second_no false false x y o h = refl

-- a customer that the roll doesn't refuse has a service that ends after it begins
pub good_service : (customers : List ACustomer) (c : ACustomer) → connect_refusal customers c ≡ None → is_bad_service c ≡ false
good_service customers c h = second_no (has_number customers c.«no») (is_bad_service c) _ _ _ h

pub connect_balance : (p : Posting) (b : BookState) (c : ACustomer) → Connected
    → Balances (day_count b.period) p (amount b) (together (amount b) (amount_of_customer b c)) → Balances (day_count b.period) p (amount b) (amount (next_by b (Customer c)))
connect_balance p b c law h =
    balances_as (day_count b.period) p (amount b) (together (amount b) (amount_of_customer b c)) (amount b) (amount (next_by b (Customer c)))
    (λ dim key. refl) (λ dim key. law b.network b.entries c b.customers (days_of_book b) dim key)
    h

pub connect_small : (b : BookState) (c : ACustomer) → AmountsAreSmall → IsCalendar b.period → length b.customers ≤ MOST_CUSTOMERS → connect_refusal b.customers c ≡ None → AreSmall (amount (next_by b (Customer c)))
connect_small b c law cal few ok = small (next_by b (Customer c)) law cal (few_with b.customers c ok few)

pub revise_balance : (p : Posting) (b : BookState) (old new : ACustomer) → Changed → AllPairs (λ c d. c.«no» < d.«no») b.customers → find (λ d. d.«no» == old.«no») b.customers ≡ Some old → new ≡ revised new.since new.until old
    → Balances (day_count b.period) p (together (amount b) (amount_of_customer b old)) (together (amount b) (amount_of_customer b new)) → Balances (day_count b.period) p (amount b) (amount (next_by b (Service old new)))
revise_balance p b old new law rising found is h =
    same_change (day_count b.period) p (together (amount b) (amount_of_customer b old)) (together (amount b) (amount_of_customer b new)) (amount b) (amount (next_by b (Service old new)))
    (λ dim key.
    let moved = law b.network b.entries old.«no» (revised new.since new.until) old b.customers (days_of_book b) dim key rising found in
    let same : amount_of_customer b new dim key ≡ amount_of_customer b (revised new.since new.until old) dim key = ap (λ (c : ACustomer). amount_of_customer b c dim key) is in
    omega (arith, moved, same))
    h

few_served : (number since : ℕ) (until : Option ℕ) (customers : List ACustomer) → length customers ≤ MOST_CUSTOMERS → length (with_service number since until customers) ≤ MOST_CUSTOMERS
few_served number since until customers few = omega (arith, few, length-map customers (λ (c : ACustomer). if c.«no» == number then revised since until c else c))

pub revise_small : (b : BookState) (old new : ACustomer) → AmountsAreSmall → IsCalendar b.period → length b.customers ≤ MOST_CUSTOMERS → AreSmall (amount (next_by b (Service old new)))
revise_small b old new law cal few = small (next_by b (Service old new)) law cal (few_served old.«no» new.since new.until b.customers few)

-- the amounts after a command that is accepted are small
pub next_small : (b : BookState) (command : Command) → AmountsAreSmall → IsCalendar b.period → length b.customers ≤ MOST_CUSTOMERS → refusal b command ≡ None → AreSmall (amount (next b command))
next_small b (Cause code name) law cal few h = small (next b (Cause code name)) law cal few
next_small b (Bus name) law cal few h = small (next b (Bus name)) law cal few
next_small b (Section name feeder) law cal few h = small (next b (Section name feeder)) law cal few
next_small b (Device d) law cal few h = small (next b (Device d)) law cal few
next_small b (Life device life) law cal few h = small (next b (Life device life)) law cal few
next_small b (Connect customer section service) law cal few h =
    let accepted = connect_accepted b customer section service h in
    small (next b (Connect customer section service)) law cal
    (subst (λ (o : Option ℕ). length (with_customer (record { «no» = customer; section = unwrap_or o 0; since = service.since; until = service.until }) b.customers) ≤ MOST_CUSTOMERS) (sym accepted.1)
    (few_with b.customers _ accepted.2 few))
next_small b (Revise customer service) law cal few h = small (next b (Revise customer service)) law cal (few_served customer service.since service.until b.customers few)
next_small b (Switch device o) law cal few h = small (next b (Switch device o)) law cal few
next_small b (Correct entry revision o) law cal few h = small (next b (Correct entry revision o)) law cal few
next_small b (Withdraw entry revision) law cal few h = small (next b (Withdraw entry revision)) law cal few
next_small b (Mark date engineer) law cal few h = small (next b (Mark date engineer)) law cal few
next_small b (Unmark date engineer) law cal few h = small (next b (Unmark date engineer)) law cal few
