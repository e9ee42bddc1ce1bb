-- Where devices live always, what is said today is what version 1 said.
use Rattle.std.proofs.Common.{◌≡◌, ◌∙◌, true≢false, sym, ap, subst, refl, ℕ, ◌==◌, ◌&&◌, ◌||◌, pos, ◌-ℤ◌, Bool, true, false, not, List, [], ◌∷◌, ◌++◌, length, Option, Some, None, is_some, is_none, option_map, if◌then◌else◌, filter, arith}
use Rattle.std.specs.Option.{option_map_or, option_and_then}
use Rattle.std.proofs.lemmas.Bool.{and_parts, le-leb}
use Rattle.std.proofs.lemmas.List.Elements.{All-append, All-cons, All-head, All-tail}
use Rattle.ob_base.specs.Life.{ends_later, is_alive, life, whole_life}
use Rattle.ob_base.specs.Seconds.{seconds, intervals}
use Rattle.ob_base.specs.declared.Pos.{Pos}
use Rattle.ob_base.specs.declared.Pos.TheVariants.{Opened}
use Rattle.ob_base.specs.declared.stop.Refusal.{Refusal}
use Rattle.ob_base.specs.declared.stop.Refusal.TheVariants.{UnknownName, NameTaken, Full, BadLife}
use Rattle.ob_net.specs.Network.{Network, AreWhole, as_of, home_feeder, node_refusal, node_of, device_of}
use Rattle.ob_net.specs.Walk.{is_supplied}
use Rattle.ob_net.specs.declared.net.Device.{Device as OneDevice}
use Rattle.ob_sheet.specs.declared.Entry.{Entry}
use Rattle.ob_sheet.specs.Order.{before, through, greatest, upto, cause_of}
use Rattle.ob_sheet.specs.Supply.{is_supplied_under}
use Rattle.ob_cust.specs.declared.Customer.{Customer}
use Rattle.ob_cust.specs.WithoutSupply.{customer_seconds, is_without_supply}
use Rattle.ob_time.specs.Calendar.{Calendar, day_count, first_second_of, end_second_of}
use Rattle.ob_sweep.specs.Runs.{start_of}
use Rattle.ob_post.specs.CustomerSeconds.{Days, is_in_day}
use Rattle.ob_post.specs.Moved.{moves_by}
use Rattle.ob_post.specs.declared.Dim.{Dim}
use Rattle.ob_post.specs.declared.Dim.TheVariants as dims
use Rattle.ob_index.specs.Counts.{counts_of}
use Rattle.ob_index.specs.Interruptions.{is_counted}
use Rattle.ob_index.specs.declared.figures.Counts.{Counts}
use Rattle.ob_index.specs.declared.figures.Which.{Which}
use Rattle.ob_command.specs.declared.command.Command.{Command}
use Rattle.ob_command.specs.declared.command.Command.TheVariants.{Cause, Bus, Section, Device, Life as LifeOf, Connect, Revise, Switch, Correct, Withdraw, Mark, Unmark}
use Rattle.ob_command.specs.declared.device.NewDevice.{NewDevice}
use Rattle.ob_state.specs.Amounts.{amount, days_of_book, moves}
use Rattle.ob_state.specs.Next.{next, next_all}
use Rattle.ob_state.specs.Refusals.{refusal, refusals, first, if_full}
use Rattle.ob_state.specs.State.{BookState}
use Rattle.ob_book.specs.Views.{counts_of_book}
use Rattle.ob_upgrade.proofs.Bodies.{old_device}
use Rattle.ob_upgrade.specs.Laws.{AcceptedButForParts, AcceptedByBoth, LiveAlways, SameFigures}
use Rattle.ob_upgrade.specs.Old.{fits_old, is_old, is_part, is_sealed, old_accepts, old_next_all}
use Rattle.ob_upgrade.specs.OldFigures.{old_amount, old_counts_of_book, old_is_supplied_under, old_moves, old_positions}

-- ---- the definitions once more, over a test that tells which node is supplied under a set of entries taken at a second
module _ (supplied : List Entry → ℕ → ℕ → Bool) (net : Network) (entries : List Entry) where
  abbrev dark_by : ℕ → ℕ → Bool
  dark_by v s = not (supplied (upto entries s) s v)

  abbrev cutter_by : ℕ → ℕ → Option ℕ
  cutter_by v s = option_map (λ (e : Entry). e.no) (greatest (filter (λ (e : Entry). e.kept && e.second == s && supplied (before entries e) s v && not (supplied (through entries e) s v)) entries))

  abbrev cause_by : ℕ → ℕ → ℕ → ℕ
  cause_by a v s = option_map_or (cause_of entries) (option_and_then (cutter_by v) (start_of (record { deenergized = dark_by v; cutter = cutter_by v }) a s)) 0

  abbrev key_by : Days → Dim → ℕ → Customer → ℕ → Bool
  key_by p dims.Cause code c s = cause_by p.first c.section s == code
  key_by p dims.Feeder feeder c s = option_map_or (λ f. f == feeder) (home_feeder net c.section) false
  key_by p dims.Day day c s = is_in_day p.days day s

  abbrev seconds_by : List Customer → Days → Dim → ℕ → ℕ
  seconds_by roll p dim key = customer_seconds (λ c s. is_without_supply dark_by c s && key_by p dim key c s) (seconds p.first p.end) roll

  abbrev counts_by : List Customer → Calendar → List (Option (List ℕ)) → Which → Counts
  counts_by roll period marks which =
      counts_of (λ c. filter (is_counted period marks which) (intervals (is_without_supply dark_by c) (first_second_of period) (end_second_of period))) roll

-- ---- devices that live always
alive_whole : (s : ℕ) → is_alive whole_life s ≡ true
alive_whole s = let e = le-leb 0 s (omega arith) in ap (λ b. b && true) e

as_of_whole : (ds : List OneDevice) → AreWhole ds → (s : ℕ) (ps : List Pos) → as_of ds s ps ≡ ps
as_of_whole [] h s ps = refl
as_of_whole (d ∷ ds) h s [] = refl
as_of_whole (d ∷ ds) h s (p ∷ ps) =
    let alive : is_alive d.life s ≡ true = ap (λ l. is_alive l s) (All-head (λ d. d.life ≡ whole_life) d ds h) ∙ alive_whole s in
    ap (λ b. (if b then p else Opened) ∷ as_of ds s ps) alive ∙ ap (λ t. p ∷ t) (as_of_whole ds (All-tail (λ d. d.life ≡ whole_life) d ds h) s ps)

abbrev old_supplied : Network → List Entry → ℕ → ℕ → Bool
old_supplied net set s v = old_is_supplied_under net set v

supplied_same : (net : Network) → AreWhole net.devices → is_supplied_under net ≡ old_supplied net
supplied_same net h = λ i set s v. is_supplied net (as_of_whole net.devices h s (old_positions net set) i) v

amount_same : (b : BookState) → LiveAlways b → (dim : Dim) (key : ℕ) → amount b dim key ≡ old_amount b dim key
amount_same b h dims.Cause key = ap (λ t. seconds_by t b.network b.entries b.customers (days_of_book b) dims.Cause key) (supplied_same b.network h)
amount_same b h dims.Feeder key = ap (λ t. seconds_by t b.network b.entries b.customers (days_of_book b) dims.Feeder key) (supplied_same b.network h)
amount_same b h dims.Day key = ap (λ t. seconds_by t b.network b.entries b.customers (days_of_book b) dims.Day key) (supplied_same b.network h)

counts_same : (b : BookState) → LiveAlways b → (which : Which) → counts_of_book b which ≡ old_counts_of_book b which
counts_same b h which = ap (λ t. counts_by t b.network b.entries b.customers b.period b.marks which) (supplied_same b.network h)

pub same_figures : SameFigures
same_figures b h = (amount_same b h, counts_same b h)

-- ---- what version 1 accepted
first_append : (rs : List (Option Refusal)) (f : Option Refusal) → (is_none (first rs) && is_none f) ≡ is_none (first (rs ++ f ∷ []))
first_append [] None = refl
first_append [] (Some r) = refl
first_append (None ∷ rs) f = first_append rs f
first_append (Some r ∷ rs) f = refl

part_same : (s : Bool) (n f : Option Refusal) → ((not s && is_none n) && is_none f) ≡ (not s && is_none (first (n ∷ f ∷ [])))
part_same true n f = refl
part_same false (Some r) f = refl
part_same false None None = refl
part_same false None (Some r) = refl

-- a device of version 1 lives always, and so is never refused for its life
lives_on : (d : NewDevice) → is_old (Device d) ≡ true → ends_later (life d.life.since d.life.until) ≡ true
lives_on d h = ap (λ until. ends_later (life d.life.since until)) (old_device d h).1

device_same : (old l s u t f : Bool) (o : Option Refusal) → (old ≡ true → l ≡ true)
    → (old && (not s && is_none (if u then Some UnknownName else if t then Some NameTaken else if f then Some (Full 2048) else None)) && is_none o)
    ≡ ((old && not (true && s))
    && is_none (first ((if u then Some UnknownName else if t then Some NameTaken else if not l then Some BadLife else if f then Some (Full 2048) else None) ∷ o ∷ [])))
device_same false l s u t f o h = refl
device_same true l true u t f o h = refl
device_same true l false true t f o h = refl
device_same true l false false true f o h = refl
device_same true false false false false f o h = absurd (true≢false (sym (h refl)))
device_same true true false false false true o h = refl
device_same true true false false false false None h = refl
device_same true true false false false false (Some r) h = refl

pub accepted_but_for_parts : AcceptedButForParts
accepted_but_for_parts b (Bus name) = part_same (is_sealed b.entries) (node_refusal b.network name) (if_full b)
accepted_but_for_parts b (Section name feeder) = part_same (is_sealed b.entries) (node_refusal b.network name) (if_full b)
accepted_but_for_parts b (Device d) =
    device_same (is_old (Device d)) (ends_later (life d.life.since d.life.until)) (is_sealed b.entries)
    (is_none (node_of b.network d.ends.a) || is_none (node_of b.network d.ends.b)) (is_some (device_of b.network d.name)) (length b.network.devices == 2048) (if_full b)
    (lives_on d)
accepted_but_for_parts b (LifeOf device service) = refl
accepted_but_for_parts b (Cause code name) = first_append (refusals b (Cause code name)) (if_full b)
accepted_but_for_parts b (Connect customer section service) = first_append (refusals b (Connect customer section service)) (if_full b)
accepted_but_for_parts b (Revise customer service) = first_append (refusals b (Revise customer service)) (if_full b)
accepted_but_for_parts b (Switch device o) = first_append (refusals b (Switch device o)) (if_full b)
accepted_but_for_parts b (Correct entry revision o) = first_append (refusals b (Correct entry revision o)) (if_full b)
accepted_but_for_parts b (Withdraw entry revision) = first_append (refusals b (Withdraw entry revision)) (if_full b)
accepted_but_for_parts b (Mark date engineer) = first_append (refusals b (Mark date engineer)) (if_full b)
accepted_but_for_parts b (Unmark date engineer) = first_append (refusals b (Unmark date engineer)) (if_full b)

-- ---- lists of commands
whole_next : (b : BookState) (x : Command) → LiveAlways b → is_old x ≡ true → LiveAlways (next b x)
whole_next b (Device new) h old =
    let whole = old_device new old in
    let lives : life new.life.since new.life.until ≡ whole_life = ap (λ s. life s new.life.until) whole.0 ∙ ap (λ u. life 0 u) whole.1 in
    All-append (λ d. d.life ≡ whole_life) b.network.devices _ h (All-cons (λ d. d.life ≡ whole_life) _ [] lives (λ k d l. absurd (omega (arith, l))))
whole_next b (LifeOf device service) h old = absurd (true≢false (sym old))
whole_next b (Bus name) h old = h
whole_next b (Section name feeder) h old = h
whole_next b (Cause code name) h old = h
whole_next b (Connect customer section service) h old = h
whole_next b (Revise customer service) h old = h
whole_next b (Switch device o) h old = h
whole_next b (Correct entry revision o) h old = h
whole_next b (Withdraw entry revision) h old = h
whole_next b (Mark date engineer) h old = h
whole_next b (Unmark date engineer) h old = h

moves_same : (b c : BookState) → LiveAlways b → LiveAlways c → moves b c ≡ old_moves b c
moves_same b c h k =
    let was = amount_same b h in
    let is = amount_same c k in
    λ i. moves_by (λ dim key. pos (is dim key i) -ℤ pos (was dim key i)) (day_count b.period)

pub goes_on : (o : Bool) (rest : Option BookState) (c : BookState) → (if o then rest else None) ≡ Some c → (o ≡ true) × (rest ≡ Some c)
goes_on true rest c e = (refl, e)
goes_on false rest c e = absurd (cc)

same_some : (a b : BookState) → Some a ≡ Some b → a ≡ b
same_some a b e = cc

pub accepted_by_both : AcceptedByBoth
accepted_by_both [] b c h e = (e, subst LiveAlways (same_some b c e) h, refl)
accepted_by_both (x ∷ list) b c h e =
    let on = goes_on (old_accepts b x) (old_next_all (next b x) list) c e in
    let both = and_parts (fits_old b.entries x) (is_none (refusal b x)) (sym (accepted_but_for_parts b x) ∙ on.0) in
    let whole = whole_next b x h (and_parts (is_old x) (not (is_part x && is_sealed b.entries)) both.0).0 in
    let rest = accepted_by_both list (next b x) c whole on.1 in (
      ap (λ o. if o then next_all (next b x) list else None) both.1 ∙ rest.0,
      rest.1,
      λ i. moves_same b (next b x) h whole i ∷ rest.2 i,
    )
