-- The seconds of service are a difference of what has passed since the services began and since they ended.
use Rattle.std.proofs.Common.{◌≡◌, ℕ, ◌+◌, ◌-◌, ◌*◌, ◌%◌, ◌<◌, ◌≤◌, ◌==◌, Bool, true, false, List, [], ◌∷◌, Option, Some, None, IfSome, length, get_or, map, min, max, cond, refl, sym, ap, ◌∙◌, arith, inl, inr}
use Rattle.std.specs.List.{All, count_by, filter, sum_by}
use Rattle.std.specs.Option.{option_map_or}
use Rattle.std.proofs.lemmas.Bool.{cases_Bool}
use Rattle.std.proofs.lemmas.Bool.Decides.{nat_tests}
use Rattle.std.proofs.lemmas.Nat.{mul-le}
use Rattle.std.proofs.lemmas.List.Elements.{All-head, All-tail}
use Rattle.std.proofs.lemmas.List.Sums.{sum_by-cons, sum_by-le}
use Rattle.ob_base.specs.Seconds.{seconds}
use Rattle.ob_cust.specs.declared.Customer.{Customer}
use Rattle.ob_cust.specs.declared.SectionBlock.{SectionBlock}
use Rattle.ob_cust.specs.declared.shelf.Shelf.{Shelf}
use Rattle.ob_cust.specs.Blocks.{sum_over_blocks, sum_over_customers}
use Rattle.ob_cust.specs.Service.{in_service, served_seconds}
use Rattle.ob_cust.specs.Services.{sum_of, since_start}
use Rattle.ob_cust.specs.Shelves.{at_end, IsShelfOf}
use Rattle.ob_cust.proofs.Ranges.{seconds_within, seconds_from}
use Rattle.ob_cust.proofs.Shelved.{on_shelf, on_it}
use Rattle.ob_cust.proofs.Totals.{sum_by-map, sum_over_customers-cons, counts_are}

-- on the shelf of a section, a number that is 0 off the section is that of all customers
is_same : (m n : ℕ) → (m == n) ≡ true → m ≡ n
is_same m n h = grind (arith, nat_tests)

zero_either : (t : Bool) (n : ℕ) → n ≡ 0 → cond t n 0 ≡ n
zero_either true n e = refl
zero_either false n e = sym e

term_is : (n section : ℕ) (g : Customer → ℕ) (c : Customer) → ((c.section == section) ≡ false → g c ≡ 0) → on_shelf n (section % n) g c ≡ g c
term_is n section g c off =
    elim (cases_Bool (c.section == section)) [
      | inl y ↦ on_it n (section % n) g c (ap (λ (s : ℕ). s % n) (is_same c.section section y))
      | inr f ↦ zero_either (c.section % n == section % n) (g c) (off f)
    ]

pub all_on_shelf : (n section : ℕ) (g : Customer → ℕ) (cs : List Customer) → ((c : Customer) → (c.section == section) ≡ false → g c ≡ 0) → sum_by (on_shelf n (section % n) g) cs ≡ sum_by g cs
all_on_shelf n section g [] off = refl
all_on_shelf n section g (c ∷ cs) off =
    sum_by-cons (on_shelf n (section % n) g) c cs ∙ omega (arith, sum_by-cons g c cs, term_is n section g c (off c), all_on_shelf n section g cs off)

-- a number for each customer of the section

abbrev of_section : ℕ → (ℕ → Option ℕ → ℕ) → Customer → ℕ
of_section section f c = cond (c.section == section) (f c.since c.until) 0

over_customers : (f : ℕ → Option ℕ → ℕ) (section : ℕ) (cs : List Customer) → sum_by (of_section section f) cs ≡ sum_over_customers f section cs
over_customers f section [] = refl
over_customers f section (c ∷ cs) =
    omega (arith, sum_by-cons (of_section section f) c cs, sum_over_customers-cons f section c cs, over_customers f section cs)

off_section : (section : ℕ) (f : ℕ → Option ℕ → ℕ) (c : Customer) → (c.section == section) ≡ false → of_section section f c ≡ 0
off_section section f c e = rw e refl

pub section_sums : (f : ℕ → Option ℕ → ℕ) (section n room : ℕ) (cs : List Customer) (s : Shelf) → IsShelfOf n (section % n) room cs s → sum_of (λ t since until. cond (t == section) (f since until) 0) s.services.blocks ≡ sum_over_customers f section cs
section_sums f section n room cs s h =
    h.services (λ t since until. cond (t == section) (f since until) 0) ∙ all_on_shelf n section (of_section section f) cs (off_section section f) ∙ over_customers f section cs

count_times : (bs : List SectionBlock) → sum_by (λ (b : SectionBlock). b.block.count) bs ≡ sum_over_blocks (λ since until. 1) (map (λ (b : SectionBlock). b.block) bs)
count_times bs = sym (sum_by-map (λ b. b.count) (λ (b : SectionBlock). b.block) bs) ∙ counts_are (map (λ (b : SectionBlock). b.block) bs)

pub counts_of : (bs : List SectionBlock) (n : ℕ) → sum_over_blocks (λ since until. 1) (map (λ (b : SectionBlock). b.block) bs) ≤ n → sum_by (λ (b : SectionBlock). b.block.count) bs ≤ n
counts_of bs n h = omega (arith, h, count_times bs)

-- one customer

within_is : (s u a b : ℕ) → a ≤ b → s < u → (b - s) + (a - u) ≡ (min u b - max s a) + ((a - s) + (b - u))
within_is s u a b l m = omega arith

from_is : (s a b : ℕ) → a ≤ b → (b - s) + 0 ≡ (b - max s a) + ((a - s) + 0)
from_is s a b l = omega arith

-- the seconds of service of one customer
abbrev own : ℕ → ℕ → Customer → ℕ
own a b c = count_by (in_service c) (seconds a b)

one_is : (a b : ℕ) (number section s : ℕ) (u : Option ℕ) → a ≤ b → IfSome u (λ v. s < v) → (b - s) + option_map_or (λ v. a - v) u 0 ≡ own a b (record { «no» = number; section = section; since = s; until = u }) + ((a - s) + option_map_or (λ v. b - v) u 0)
one_is a b number section s None l m = rw (← seconds_from s a b) (from_is s a b l)
one_is a b number section s (Some u) l m = rw (← seconds_within s u a b) (within_is s u a b l m)

own_none : (a b : ℕ) (number section s : ℕ) (u : Option ℕ) → b ≤ a → own a b (record { «no» = number; section = section; since = s; until = u }) ≡ 0
own_none a b number section s None l = rw (← seconds_from s a b) (omega arith)
own_none a b number section s (Some u) l = rw (← seconds_within s u a b) (omega arith)

served_cons : (section a b : ℕ) (c : Customer) (cs : List Customer) → served_seconds (c ∷ cs) section a b ≡ cond (c.section == section) (own a b c) 0 + served_seconds cs section a b
served_cons section a b c cs =
    elim (cases_Bool (c.section == section)) [
      | inl y ↦ rw y (sum_by-cons (λ (d : Customer). own a b d) c (filter (λ (d : Customer). d.section == section) cs))
      | inr n ↦ rw n (omega arith)
    ]

-- what has passed since the customer's service began, and since it ended
abbrev begun : ℕ → ℕ → Customer → ℕ
begun section x c = since_start section x c.section c.since c.until

abbrev over : ℕ → ℕ → Customer → ℕ
over section x c = at_end (since_start section x) c.section c.until

other : (t : Bool) (x : ℕ) (u : Option ℕ) → t ≡ false → option_map_or (λ v. cond t (x - v) 0) u 0 ≡ 0
other t x None n = refl
other t x (Some v) n = rw n refl

off_begun : (section x : ℕ) (c : Customer) → (c.section == section) ≡ false → begun section x c ≡ 0
off_begun section x c n = rw n refl

off_over : (section x : ℕ) (c : Customer) → (c.section == section) ≡ false → over section x c ≡ 0
off_over section x c n = other (c.section == section) x c.until n

step : (section a b : ℕ) (c : Customer) → a ≤ b → IfSome c.until (λ u. c.since < u) → begun section b c + over section a c ≡ cond (c.section == section) (own a b c) 0 + (begun section a c + over section b c)
step section a b c l m =
    elim (cases_Bool (c.section == section)) [
      | inl y ↦ rw y (one_is a b c.«no» c.section c.since c.until l m)
      | inr n ↦ rw (off_over section a c n, off_over section b c n, n) refl
    ]

served_is : (section a b : ℕ) (cs : List Customer) → a ≤ b → All (λ c. IfSome c.until (λ u. c.since < u)) cs → sum_by (begun section b) cs + sum_by (over section a) cs ≡ served_seconds cs section a b + (sum_by (begun section a) cs + sum_by (over section b) cs)
served_is section a b [] l h = refl
served_is section a b (c ∷ cs) l h =
    let rest = served_is section a b cs l (All-tail (λ (d : Customer). IfSome d.until (λ u. d.since < u)) c cs h) in
    let one = step section a b c l (All-head (λ (d : Customer). IfSome d.until (λ u. d.since < u)) c cs h) in
    let whole = served_cons section a b c cs in
    let s1 = sum_by-cons (begun section b) c cs in
    let s2 = sum_by-cons (begun section a) c cs in
    let u1 = sum_by-cons (over section a) c cs in
    let u2 = sum_by-cons (over section b) c cs in
    omega (arith, rest, one, whole, s1, s2, u1, u2)

cond_zero : (t : Bool) (n : ℕ) → n ≡ 0 → cond t n 0 ≡ 0
cond_zero true n e = e
cond_zero false n e = refl

pub none_served : (section a b : ℕ) (cs : List Customer) → b ≤ a → served_seconds cs section a b ≡ 0
none_served section a b [] l = refl
none_served section a b (c ∷ cs) l =
    let none = cond_zero (c.section == section) (own a b c) (own_none a b c.«no» c.section c.since c.until l) in
    served_cons section a b c cs ∙ omega (arith, none, none_served section a b cs l)

-- no sum is above that many times x
since_le : (t : Bool) (x s : ℕ) → cond t (x - s) 0 ≤ x
since_le true x s = omega arith
since_le false x s = omega arith

end_le : (t : Bool) (x : ℕ) (u : Option ℕ) → option_map_or (λ v. cond t (x - v) 0) u 0 ≤ x
end_le t x None = omega arith
end_le t x (Some v) = since_le t x v

times : (n x : ℕ) → n ≤ 100000 → n * x ≤ 100000 * x
times n x l = mul-le n x 100000 x l (omega arith)

-- what the sums of a section's shelf say of its customers
pub record ArePassed (section x : ℕ) (cs : List Customer) (s : Shelf) : Type 0 where
  pub services : sum_of (since_start section x) s.services.blocks ≡ sum_by (begun section x) cs
  pub ends : sum_of (since_start section x) s.ends.blocks ≡ sum_by (over section x) cs
  pub small : sum_of (since_start section x) s.services.blocks ≤ 100000 * x
  pub small_ends : sum_of (since_start section x) s.ends.blocks ≤ 100000 * x

pub passed_on : (section x n room : ℕ) (cs : List Customer) (s : Shelf) → length cs ≤ 100000 → IsShelfOf n (section % n) room cs s → ArePassed section x cs s
passed_on section x n room cs s few h =
    let services = h.services (since_start section x) ∙ all_on_shelf n section (begun section x) cs (off_begun section x) in
    let ends = h.ends (since_start section x) ∙ all_on_shelf n section (over section x) cs (off_over section x) in
    record {
      services = services;
      ends = ends;
      small = omega (arith, services, sum_by-le (begun section x) x cs (λ k d l. since_le ((get_or cs k d).section == section) x (get_or cs k d).since), times (length cs) x few);
      small_ends = omega (arith, ends, sum_by-le (over section x) x cs (λ k d l. end_le ((get_or cs k d).section == section) x (get_or cs k d).until), times (length cs) x few);
    }

pub difference : (section a b : ℕ) (cs : List Customer) (s : Shelf) → ArePassed section a cs s → ArePassed section b cs s → a ≤ b → All (λ c. IfSome c.until (λ u. c.since < u)) cs → sum_of (since_start section b) s.services.blocks + sum_of (since_start section a) s.ends.blocks ≡ served_seconds cs section a b + (sum_of (since_start section a) s.services.blocks + sum_of (since_start section b) s.ends.blocks)
difference section a b cs s at_a at_b l services =
    omega (arith, at_a.services, at_a.ends, at_b.services, at_b.ends, served_is section a b cs l services)
