-- The text of a total and a book, row by row: one network, one log and one register.
use Rattle.std.proofs.Common.{◌≡◌, ◌∙◌, ap, sym, refl, ℕ, ◌+◌, ◌≤◌, ◌==◌, ◌||◌, Bool, true, false, List, [], ◌∷◌, ◌++◌, length, nat_lt, nat_le, Option, Some, None, is_none, is_ok, unwrap_or, Result, Ok, Err, arith, if◌then◌else◌}
use Rattle.std.specs.Prelude.{IsOk}
use Rattle.std.specs.List.{All}
use Rattle.std.proofs.lemmas.List.Elements.{All-head, All-tail}
use Rattle.std.proofs.lemmas.Bool.{and_parts}
use Rattle.std.proofs.lemmas.Bool.Decides.{nat_tests}
use Rattle.ob_base.specs.declared.stop.Refusal.{Refusal}
use Rattle.ob_base.specs.declared.stop.Refusal.TheVariants.{BadField, Full, OutOfPeriod, UnknownName}
use Rattle.ob_base.specs.Life.{life, life_refusal}
use Rattle.ob_csv.specs.Header.{is_header}
use Rattle.ob_csv.specs.Rows.{Fields}
use Rattle.ob_net.specs.Network.{device_of, device_refusal, node_refusal, section_of, with_life}
use Rattle.ob_sheet.specs.Sheet.{new_entry}
use Rattle.ob_cust.specs.Roll.{connect_refusal, with_customer}
use Rattle.ob_cust.specs.declared.Customer.{Customer}
use Rattle.ob_time.specs.Calendar.{Calendar, first_second_of, end_second_of}
use Rattle.ob_command.specs.declared.command.Command.{Command as BookCommand}
use Rattle.ob_command.specs.declared.command.Command.TheVariants.{Cause, Bus, Section, Device, Life, Connect, Revise, Switch, Correct, Withdraw, Mark, Unmark}
use Rattle.ob_state.specs.State.{BookState}
use Rattle.ob_state.specs.Refusals.{connect_refusal_on, first, if_full, if_full_sheet, if_outside, if_unknown_cause, if_unknown_device, refusal, refuse_if}
use Rattle.ob_state.specs.Next as book
use Rattle.ob_book.specs.Acts.{ActState, Referenced, act, acts, is_accepted, start, take_on, number_of}
use Rattle.ob_total.specs.Commands.{command_of}
use Rattle.ob_total.specs.declared.command.Command.{Command}
use Rattle.ob_total.specs.Totals.{Refused, after_row, begun, stepped, total_from, total_of, total_of_rows}
use Rattle.ob_total.specs.declared.command.Span.{Span}
use Rattle.ob_total.specs.Worlds.{WorldState, customer_seconds_of, unless_refused, with_known}
use Rattle.ob_agreement.specs.Readings.{as_counted, HasUnixSeconds}
use Rattle.ob_agreement.specs.Counts.{AreAccepted, AreReadIn, BookIsCounted, CountIsOfBook, IsTextOf}
use Rattle.ob_agreement.proofs.Alike.{rows_are_read_alike}
use Rattle.ob_agreement.proofs.Alone.{counted_is_shared}
use Rattle.ob_agreement.proofs.Taken.{taken_rows_are_read}

-- the world of a total, as a book has it
abbrev pub world_of : BookState → WorldState
world_of b = record { span = record { first = first_second_of b.period; end = end_second_of b.period }; network = b.network; entries = b.entries; customers = b.customers }

-- ---- what isn't refused
none_first : (o : Option Refusal) (rest : List (Option Refusal)) → first (o ∷ rest) ≡ None → (o ≡ None) × (first rest ≡ None)
none_first None rest is = (refl, is)
none_first (Some r) rest is = absurd (cc)

not_refused : (test : Bool) (r : Refusal) → refuse_if test r ≡ None → test ≡ false
not_refused true r is = absurd (cc)
not_refused false r is = refl

free : (o : Option Refusal) (w : WorldState) → o ≡ None → unless_refused o w ≡ Ok w
free None w is = refl
free (Some r) w is = absurd (cc)

known : (o : Option ℕ) (f : ℕ → Result WorldState Refusal) (g : ℕ → WorldState) → is_none o ≡ false → ((d : ℕ) → f d ≡ Ok (g d)) → with_known o f ≡ Ok (g (unwrap_or o 0))
known None f g there same = absurd (cc)
known (Some d) f g there same = same d

connected : (o : Option ℕ) (customers : List Customer) (number since : ℕ) (until : Option ℕ) (g : ℕ → WorldState) → connect_refusal_on o customers number since until ≡ None
    → with_known o (λ v. unless_refused (connect_refusal customers (record { «no» = number; section = v; since = since; until = until })) (g v)) ≡ Ok (g (unwrap_or o 0))
connected None customers number since until g is = absurd (cc)
connected (Some v) customers number since until g is = free _ (g v) is

two_tests : (a b : Bool) (r s : Refusal) → a ≡ false → b ≡ false → (if a then Some r else if b then Some s else None) ≡ None
two_tests true b r s x y = absurd (cc)
two_tests false true r s x y = absurd (cc)
two_tests false false r s x y = refl

-- ---- a command that a book accepts changes both alike
pub step_alike : (b : BookState) (k : BookCommand) → IsOk (as_counted k) → refusal b k ≡ None → stepped (world_of b) (as_counted k) ≡ Ok (world_of (book.next b k))
step_alike b (Cause code name) counted accepted = refl
step_alike b (Bus name) counted accepted = free (node_refusal b.network name) _ (none_first (node_refusal b.network name) (if_full b ∷ []) accepted).0
step_alike b (Section name feeder) counted accepted = free (node_refusal b.network name) _ (none_first (node_refusal b.network name) (if_full b ∷ []) accepted).0
step_alike b (Device d) counted accepted =
    let o : Option Refusal = device_refusal b.network d.name d.ends.a d.ends.b (life d.life.since d.life.until) in
    free o _ (none_first o (if_full b ∷ []) accepted).0
step_alike b (Life device s) counted accepted =
    let lives : Option Refusal = life_refusal (life s.since s.until) in
    let there = none_first (if_unknown_device b.network device) (lives ∷ if_full b ∷ []) accepted in
    known (device_of b.network device) _ (λ d. record (world_of b) { network = with_life b.network d (life s.since s.until) })
    (not_refused (is_none (device_of b.network device)) UnknownName there.0) (λ d. free lives _ (none_first lives (if_full b ∷ []) there.1).0)
step_alike b (Connect customer section s) counted accepted =
    let o : Option Refusal = connect_refusal_on (section_of b.network section) b.customers customer s.since s.until in
    connected (section_of b.network section) b.customers customer s.since s.until
    (λ v. record (world_of b) { customers = with_customer (record { «no» = customer; section = v; since = s.since; until = s.until }) b.customers })
    (none_first o (if_full b ∷ []) accepted).0
step_alike b (Revise customer s) counted accepted = absurd (cc)
step_alike b (Switch device o) counted accepted =
    let outside : Option Refusal = if_outside b.period o.second in
    let uncaused : Option Refusal = if_unknown_cause b.causes o.cause in
    let full : Option Refusal = if_full_sheet b.entries in
    let there = none_first (if_unknown_device b.network device) (outside ∷ uncaused ∷ full ∷ if_full b ∷ []) accepted in
    let within = none_first outside (uncaused ∷ full ∷ if_full b ∷ []) there.1 in
    let caused = none_first uncaused (full ∷ if_full b ∷ []) within.1 in
    let room = none_first full (if_full b ∷ []) caused.1 in
    let early : Bool = nat_lt o.second (first_second_of b.period) || nat_le (end_second_of b.period) o.second in
    let many : Bool = length b.entries == 50_000 in
    known (device_of b.network device) _ (λ d. record (world_of b) { entries = b.entries ++ new_entry b.entries d o.act o.second o.cause o.crew ∷ [] })
    (not_refused (is_none (device_of b.network device)) UnknownName there.0)
    (λ d. free _ _ (two_tests early many OutOfPeriod (Full 50_000) (not_refused early OutOfPeriod within.0) (not_refused many (Full 50_000) room.0)))
step_alike b (Correct entry revision o) counted accepted = absurd (cc)
step_alike b (Withdraw entry revision) counted accepted = absurd (cc)
step_alike b (Mark date engineer) counted accepted = absurd (cc)
step_alike b (Unmark date engineer) counted accepted = absurd (cc)

-- an accepted command is one that the state takes
none_of : (o : Option Refusal) → is_none o ≡ true → o ≡ None
none_of None is = refl
none_of (Some r) is = absurd (cc)

not_refused_at : (b : ActState) (a : Referenced) → is_accepted b a ≡ true → refusal b.book a.command ≡ None
not_refused_at b a is = none_of (refusal b.book a.command) (and_parts (is_none (number_of b a.reference)) (is_none (refusal b.book a.command)) is).1

taken_on : (b : ActState) (a : Referenced) → is_accepted b a ≡ true → (act b a).book ≡ book.next b.book a.command
taken_on b a is = ap (λ (t : Bool). (if t then take_on b a else b).book) is

-- a row and the command that a book reads in it
row_alike : (b : ActState) (a : Referenced) → is_accepted b a ≡ true → IsOk (as_counted a.command) → stepped (world_of b.book) (as_counted a.command) ≡ Ok (world_of (act b a).book)
row_alike b a is counted = step_alike b.book a.command counted (not_refused_at b a is) ∙ ap (λ (s : BookState). Ok (world_of s)) (sym (taken_on b a is))

-- ---- what `total` counts is the book's
same_ok : (m n : ℕ) (r : Result ℕ Refused) → r ≡ Ok m → r ≡ Ok n → n ≡ m
same_ok m n r is says = cc

-- a row that is counted is a command
counted_row : (number : ℕ) (w : WorldState) (later : WorldState → Result ℕ Refused) (past : Bool) (r : Result Command Refusal) (n : ℕ)
    → (if past then Err (Full 1_000_000, number) else after_row number later (stepped w r)) ≡ Ok n → (c : Command) × (r ≡ Ok c) × (after_row number later (stepped w r) ≡ Ok n)
counted_row number w later true r n is = absurd (cc)
counted_row number w later false (Err refusal) n is = absurd (cc)
counted_row number w later false (Ok c) n is = (c, refl, is)

then_counts : (number : ℕ) (w : WorldState) (later : WorldState → Result ℕ Refused) (step : Result WorldState Refusal) (n : ℕ) → step ≡ Ok w → after_row number later step ≡ Ok n → later w ≡ Ok n
then_counts number w later step n is counts = sym (ap (after_row number later) is) ∙ counts

counts_of_book : (number : ℕ) (b : ActState) (rows : List Fields) (list : List Referenced) (n : ℕ) → AreReadIn rows list → AreAccepted b list
    → total_from number (world_of b.book) rows ≡ Ok n → n ≡ customer_seconds_of (world_of (acts b list).book)
unfolding total_from
counts_of_book number b [] [] n read accepted counts = same_ok (customer_seconds_of (world_of b.book)) n (Ok (customer_seconds_of (world_of b.book))) refl counts
counts_of_book number b [] (a ∷ list) n read accepted counts = absurd read
counts_of_book number b (row ∷ rows) [] n read accepted counts = absurd read
counts_of_book number b (row ∷ rows) (a ∷ list) n read accepted counts =
    let w = world_of b.book in
    let later : WorldState → Result ℕ Refused = λ world. total_from (number + 1) world rows in
    let x = counted_row number w later (nat_lt 1_000_000 number) (command_of row) n counts in
    let same : as_counted a.command ≡ Ok x.0 = taken_rows_are_read row (Ok (a.reference, a.command)) x.0 read.0 x.1 in
    let step : stepped w (command_of row) ≡ Ok (world_of (act b a).book) =
    ap (stepped w) (x.1 ∙ sym same) ∙ row_alike b a accepted.0 (ap (λ (r : Result Command Refusal). is_ok r) same) in
    counts_of_book (number + 1) (act b a) rows list n read.1 accepted.1 (then_counts number (world_of (act b a).book) later (stepped w (command_of row)) n step x.2)

-- the rows of a text behind its header and its span
of_text : (text : List ℕ) (period : Calendar) (rows : List Fields) (list : List Referenced) (is : IsTextOf text period rows list)
    → total_of text ≡ (if is_header is.header then total_from 2 (world_of (start period).book) rows else Err (BadField 0, 0))
of_text text period rows list is =
    ap total_of_rows is.is_text
    ∙ ap (λ (r : Result Span Refusal). if is_header is.header then after_row 1 (λ world. total_from 2 world rows) (begun r) else Err (BadField 0, 0)) is.is_span

if_counted : (test : Bool) (r : Result ℕ Refused) (n : ℕ) → (if test then r else Err (BadField 0, 0)) ≡ Ok n → r ≡ Ok n
if_counted true r n is = is
if_counted false r n is = absurd (cc)

pub count_is_of_book : CountIsOfBook
count_is_of_book text period rows list n is counts =
    counts_of_book 2 (start period) rows list n is.read is.accepted
    (if_counted (is_header is.header) (total_from 2 (world_of (start period).book) rows) n (sym (of_text text period rows list is) ∙ counts))

-- ---- what a book takes is counted
book_counted : (number : ℕ) (b : ActState) (rows : List Fields) (list : List Referenced) → AreReadIn rows list → AreAccepted b list → All HasUnixSeconds rows
    → All (λ a. IsOk (as_counted a.command)) list → number + length rows ≤ 1_000_001
    → total_from number (world_of b.book) rows ≡ Ok (customer_seconds_of (world_of (acts b list).book))
unfolding total_from
book_counted number b [] [] read accepted plain counted few = refl
book_counted number b [] (a ∷ list) read accepted plain counted few = absurd read
book_counted number b (row ∷ rows) [] read accepted plain counted few = absurd read
book_counted number b (row ∷ rows) (a ∷ list) read accepted plain counted few =
    let w = world_of b.book in
    let is_counted : IsOk (as_counted a.command) = All-head (λ x. IsOk (as_counted x.command)) a list counted in
    let same : command_of row ≡ as_counted a.command =
    rows_are_read_alike row (Ok (a.reference, a.command)) read.0 (counted_is_shared row a.reference a.command read.0 is_counted) (All-head HasUnixSeconds row rows plain) in
    let step : stepped w (command_of row) ≡ Ok (world_of (act b a).book) = ap (stepped w) same ∙ row_alike b a accepted.0 is_counted in
    let small : number ≤ 1_000_000 = omega (arith, few) in
    let fits : nat_lt 1_000_000 number ≡ false = grind (arith, nat_tests, small) in
    rw (fits, step) (book_counted (number + 1) (act b a) rows list read.1 accepted.1 (All-tail HasUnixSeconds row rows plain)
    (All-tail (λ x. IsOk (as_counted x.command)) a list counted) (omega arith))

pub book_is_counted : BookIsCounted
book_is_counted text period rows list is headed plain counted few =
    of_text text period rows list is
    ∙ ap (λ (t : Bool). if t then total_from 2 (world_of (start period).book) rows else Err (BadField 0, 0)) headed
    ∙ book_counted 2 (start period) rows list is.read is.accepted plain counted (omega arith)
