-- What is known of a state that accepts a command.
use Rattle.std.proofs.Common.{◌≡◌, sym, subst, refl, ℕ, ◌+◌, ◌<◌, ◌≤◌, ◌==◌, ◌∙◌, Bool, true, false, cond, nat_lt, List, [], ◌∷◌, length, Option, Some, None, inl, inr, arith}
use Rattle.std.specs.List.{All, find}
use Rattle.std.specs.Option.{IfSome}
use Rattle.std.proofs.lemmas.Bool.{cases_eq, cases_Bool, eq-eqb, eqb-true, lt-ltb, false≢true}
use Rattle.std.proofs.lemmas.List.Elements.{All-head, All-tail}
use Rattle.ob_net.specs.Network.{section_of}
use Rattle.ob_sheet.specs.declared.Entry.{Entry}
use Rattle.ob_sheet.specs.Order.{entry_of}
use Rattle.ob_cust.specs.declared.Customer.{Customer}
use Rattle.ob_cust.specs.declared.TheConstants.{MOST_CUSTOMERS}
use Rattle.ob_cust.specs.Roll.{connect_refusal, with_customer, is_bad_service, has_number, ends_too_early}
use Rattle.ob_command.specs.declared.command.Command.TheVariants.{Connect}
use Rattle.ob_command.specs.declared.service.Service.{Service}
use Rattle.ob_state.specs.State.{BookState}
use Rattle.ob_state.specs.Refusals.{refusal, connect_refusal_on}
use Rattle.ob_state.proofs.Firsts.{no_head}

not_refused : {X : Type 0} (t : Bool) (x : X) (o : Option X) → cond t (Some x) o ≡ None → (t ≡ false) × (o ≡ None)
not_refused true x o h = cc
not_refused false x o h = (refl, h)

-- ---- customers
on_section : (o : Option ℕ) (customers : List Customer) (number since : ℕ) (until : Option ℕ) → connect_refusal_on o customers number since until ≡ None
    → (v : ℕ) × (o ≡ Some v) × (connect_refusal customers (record { «no» = number; section = v; since = since; until = until }) ≡ None)
on_section None customers number since until h = cc
on_section (Some v) customers number since until h = (v, refl, h)

-- a customer that is accepted is of a section, and the roll doesn't refuse it
pub connect_accepted : (b : BookState) (number : ℕ) (section : List ℕ) (s : Service) → refusal b (Connect number section s) ≡ None
    → (v : ℕ) × (section_of b.network section ≡ Some v) × (connect_refusal b.customers (record { «no» = number; section = v; since = s.since; until = s.until }) ≡ None)
connect_accepted b number section s h = on_section (section_of b.network section) b.customers number s.since s.until (no_head _ _ h)

length-with : (c : Customer) (ds : List Customer) → length (with_customer c ds) ≡ length ds + 1
length-with c [] = refl
length-with c (d ∷ ds) = elim (cases_Bool (nat_lt c.«no» d.«no»)) [
  | inl t ↦ rw t (omega arith)
  | inr f ↦ rw f (let rest = length-with c ds in omega arith)
]

not_full : (customers : List Customer) (c : Customer) → connect_refusal customers c ≡ None → (length customers == MOST_CUSTOMERS) ≡ false
not_full customers c h = (not_refused _ _ _ (not_refused _ _ _ (not_refused (has_number customers c.«no») _ _ h).1).1).0

-- the roll has room for a customer that it doesn't refuse
pub few_with : (customers : List Customer) (c : Customer) → connect_refusal customers c ≡ None → length customers ≤ MOST_CUSTOMERS → length (with_customer c customers) ≤ MOST_CUSTOMERS
few_with customers c h few =
    elim (cases_eq (length customers) MOST_CUSTOMERS) [
      | inl same ↦ absurd (false≢true (sym (not_full customers c h) ∙ eq-eqb (length customers) MOST_CUSTOMERS same))
      | inr other ↦ omega (arith, length-with c customers)
    ]

-- ---- found elements
found_holds : {X : Type 0} (P : X → Type 0) (test : X → Bool) (xs : List X) (x : X) → find test xs ≡ Some x → All P xs → P x
found_holds P test [] x e h = cc
found_holds P test (y ∷ ys) x e h = elim (cases_Bool (test y)) [
  | inl t ↦ (let same : y ≡ x = (let at = rw t at e in cc) in subst P same (All-head P y ys h))
  | inr f ↦ (let at = rw f at e in found_holds P test ys x at (All-tail P y ys h))
]

pub customer_holds : (P : Customer → Type 0) (customers : List Customer) (number : ℕ) (c : Customer) → find (λ d. d.«no» == number) customers ≡ Some c → All P customers → P c
customer_holds P customers number c e h = found_holds P (λ d. d.«no» == number) customers c e h

pub entry_holds : (P : Entry → Type 0) (entries : List Entry) (number : ℕ) (e : Entry) → entry_of entries number ≡ Some e → All P entries → P e
entry_holds P entries number e h ok = found_holds P (λ d. d.«no» == number) entries e h ok

found_passes : {X : Type 0} (test : X → Bool) (xs : List X) (x : X) → find test xs ≡ Some x → test x ≡ true
found_passes test [] x e = cc
found_passes test (y ∷ ys) x e = elim (cases_Bool (test y)) [
  | inl t ↦ (let same : y ≡ x = (let at = rw t at e in cc) in subst (λ z. test z ≡ true) same t)
  | inr f ↦ (let at = rw f at e in found_passes test ys x at)
]

pub entry_number : (entries : List Entry) (number : ℕ) (e : Entry) → entry_of entries number ≡ Some e → e.«no» ≡ number
entry_number entries number e h = eqb-true e.«no» number (found_passes (λ d. d.«no» == number) entries e h)

pub customer_number : (customers : List Customer) (number : ℕ) (c : Customer) → find (λ d. d.«no» == number) customers ≡ Some c → c.«no» ≡ number
customer_number customers number c h = eqb-true c.«no» number (found_passes (λ d. d.«no» == number) customers c h)

-- a customer on the roll ends its service after it begins
ends_late : (since : ℕ) (until : Option ℕ) → IfSome until (λ u. since < u) → ends_too_early since until ≡ false
ends_late since None h = refl
ends_late since (Some u) h = rw (lt-ltb since u h) refl

pub service_of_one : (c : Customer) → IfSome c.until (λ u. c.since < u) → is_bad_service c ≡ false
service_of_one c h = ends_late c.since c.until h
