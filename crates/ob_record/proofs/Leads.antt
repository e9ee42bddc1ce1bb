-- What each kind of accepted command comes to leads to the rows of the state after it.
use Rattle.std.proofs.Common.{◌≡◌, ℕ, ◌+◌, ◌<◌, ◌≤◌, ◌^◌, ◌==◌, Bool, true, false, not, cond, is_some, List, [], ◌∷◌, ◌++◌, map, filter, set, length, Option, Some, None, refl, sym, ap, subst, ◌∙◌, arith}
use Rattle.std.specs.Prelude.{if◌then◌else◌, IfSome}
use Rattle.std.specs.List.Sorted.{IsPermutation}
use Rattle.std.proofs.lemmas.List.{map-append}
use Rattle.std.specs.Str.{bytes_eq}
use Rattle.std.proofs.lemmas.List.Sorted.{IsPermutation-map, list_any-IsPermutation}
use Rattle.sqlite_trees.proofs.ListLemmas.{IsPermutation-filter, IsPermutation-same}
use Rattle.ob_base.specs.Identifier.{is_identifier}
use Rattle.ob_base.specs.declared.life.Life.{Life as ALife}
use Rattle.ob_net.specs.Network.{with_node, with_joined, with_life, node_of, device_of}
use Rattle.ob_net.specs.declared.net.Node.{Node as NetNode}
use Rattle.ob_net.specs.declared.net.Device.{Device as NetDevice}
use Rattle.ob_sheet.specs.declared.Entry.{Entry as SheetEntry}
use Rattle.ob_sheet.specs.Order.{entry_of}
use Rattle.ob_sheet.specs.Revisions.{change_entry}
use Rattle.ob_sheet.specs.Sheet.{AreNumbered}
use Rattle.ob_cust.specs.declared.Customer.{Customer as RollCustomer}
use Rattle.ob_cust.specs.Roll.{has_number, with_customer, with_service, revised}
use Rattle.ob_index.specs.Marks.{engineer_of, with_mark, without_mark}
use Rattle.ob_command.specs.Commands.{IsEnd}
use Rattle.ob_state.specs.State.{BookState, cause_name_of, has_cause}
use Rattle.ob_state.specs.States.{IsSoundState}
use Rattle.ob_state.specs.Resolved.{next_by, CanTake, IsCorrection, IsDeviceToJoin, IsFreeCause, IsFreeDay, IsMarkedDay, IsNewCustomer, IsNewNode, IsNextEntry, IsOtherLife, IsOtherService, IsWithdrawal}
use Rattle.ob_state.specs.declared.resolved.Resolved.{Resolved}
use Rattle.ob_state.specs.declared.resolved.Resolved.TheVariants as resolved
use Rattle.ob_state.proofs.Kept.{section_within}
use Rattle.ob_sql_rows.specs.Rows.{Columns, Tables, HasCustomer, HasEntry, is_key, is_reference, change_where, with_change, with_table, cause_row, node_row, device_row, customer_row, entry_row, mark_row, relive, serve, correct, withdraw}
use Rattle.ob_sql_rows.specs.Rules.{HasKey, LetsWithdrawn}
use Rattle.ob_sql_rows.specs.declared.table.Table.TheVariants.{Cause, Node, Device, Life, Customer, Entry, Mark}
use Rattle.ob_sql_rows.proofs.Identifiers.{short_crew}
use Rattle.ob_record.specs.Tables.{numbered, present, row_of_life}
use Rattle.ob_record.specs.Leading.{HaveParts, LeadsParts}
use Rattle.ob_record.proofs.Free.{any_map, any_numbered, any_present, entry_short, next_entry_free, none_found, number_free, number_there, place_free, place_there}
use Rattle.ob_record.proofs.Keyed.{key_is, name_is}
use Rattle.ob_record.proofs.Listed.{numbered_push, present_put, present_one, present_cleared, joins, one_changed, one_row, row_of_one, one_customer, one_entry}
use Rattle.ob_record.proofs.Lives.{devices_stay, lives_changed, one_life}
use Rattle.ob_record.proofs.Parts.{causes_part, nodes_part, devices_part, lives_part, customers_part, entries_part, marks_part, row_joins}

-- ---- what tests say
none_if : {X : Type 0} (o : Option X) → is_some o ≡ false → o ≡ None
none_if None is_not = refl
none_if (Some x) is_not = cc

some_if : {X : Type 0} (o : Option X) → is_some o ≡ true → (x : X) × (o ≡ Some x)
some_if None is_so = cc
some_if (Some x) is_so = (x, refl)

-- where nothing is refused, the first test fails
first_fails : {X : Type 0} (t : Bool) (x : X) (o : Option X) → cond t (Some x) o ≡ None → t ≡ false
first_fails true x o h = cc
first_fails false x o h = refl

-- ---- rows that are there
node_there : (b : BookState) (node : ℕ) → node < length b.network.nodes → (t : Tables) → HaveParts b t → HasKey Node node t
node_there b node low t have =
    list_any-IsPermutation (is_key node) (t Node) (numbered node_row 0 b.network.nodes) have.nodes
    ∙ number_there node_row node (λ n x. key_is node n (node_row n x) refl) 0 node b.network.nodes (omega arith) low

device_there : (b : BookState) (device : ℕ) → device < length b.network.devices → (t : Tables) → HaveParts b t → HasKey Device device t
device_there b device low t have =
    list_any-IsPermutation (is_key device) (t Device) (numbered device_row 0 b.network.devices) have.devices
    ∙ number_there device_row device (λ n x. key_is device n (device_row n x) refl) 0 device b.network.devices (omega arith) low

cause_there : (b : BookState) (code : ℕ) → has_cause b.causes code ≡ true → (t : Tables) → HaveParts b t → HasKey Cause code t
cause_there b code has t have =
    let known = some_if (cause_name_of b.causes code) has in
    list_any-IsPermutation (is_key code) (t Cause) (present cause_row 0 b.causes) have.causes
    ∙ place_there cause_row code (λ n x. key_is code n (cause_row n x) refl) 0 code b.causes known.0 (omega arith) known.1

-- ---- causes
lead_cause : (b : BookState) (code : ℕ) (name : List ℕ) → IsSoundState b → IsFreeCause b code name → LeadsParts b (next_by b (resolved.Cause code name)) (resolved.Cause code name)
lead_cause b code name sound takes =
    let low : code < length b.causes = omega (arith, takes.code, sound.state.causes) in
    let free = none_if (cause_name_of b.causes code) takes.free in
    let row = cause_row code name in
    record {
      small = tt;
      needs = λ t have. tt;
      lets = λ t have. (
        list_any-IsPermutation (is_key code) (t Cause) (present cause_row 0 b.causes) have.causes
            ∙ place_free cause_row code (λ n x. key_is code n (cause_row n x) refl) 0 code b.causes (omega arith) free,
        list_any-IsPermutation (is_reference name) (t Cause) (present cause_row 0 b.causes) have.causes
            ∙ any_present cause_row (is_reference name) (λ n. bytes_eq n name) (λ n x. name_is name x (cause_row n x) refl) 0 b.causes
            ∙ takes.named,
      );
      parts = λ t have.
          causes_part b (b.accepted + 1) (λ rows. rows ++ row ∷ []) t have (set b.causes code (Some name))
          (row_joins (t Cause) (present cause_row 0 b.causes) _ row have.causes (present_put cause_row 0 b.causes code name code (omega arith) low free));
    }

-- ---- nodes
lead_node : (b : BookState) (number : ℕ) (node : NetNode) → IsNewNode b number node → LeadsParts b (next_by b (resolved.Node number node)) (resolved.Node number node)
lead_node b number node takes =
    let nodes = b.network.nodes in
    let row = node_row number node in
    let rows = numbered node_row 0 nodes in
    let anew : numbered node_row 0 (nodes ++ node ∷ []) ≡ rows ++ row ∷ [] = numbered_push node_row 0 nodes node number (omega (arith, takes.number)) in
    let fresh : is_some (node_of b.network node.name) ≡ false = first_fails (is_some (node_of b.network node.name)) _ _ takes.free in
    record {
      small = tt;
      needs = λ t have. tt;
      lets = λ t have. (
        list_any-IsPermutation (is_key number) (t Node) rows have.nodes
            ∙ number_free node_row number (λ n x. key_is number n (node_row n x) refl) 0 nodes (omega (arith, takes.number)),
        list_any-IsPermutation (is_reference node.name) (t Node) rows have.nodes
            ∙ any_numbered node_row (is_reference node.name) (λ (x : NetNode). bytes_eq x.name node.name) (λ n x. name_is node.name x.name (node_row n x) refl) 0 nodes
            ∙ none_found (λ (x : NetNode). bytes_eq x.name node.name) nodes fresh,
      );
      parts = λ t have.
          nodes_part b (b.accepted + 1) (λ rows. rows ++ row ∷ []) t have (with_node b.network node) refl
          (row_joins (t Node) rows _ row have.nodes (IsPermutation-same _ _ (sym anew)));
    }

-- ---- ends of lives and services
small_end : (until : Option ℕ) → IsEnd until → IfSome until (λ end. end < 2 ^ 63)
small_end None h = tt
small_end (Some s) h = omega (arith, h)

-- ---- devices
lead_device : (b : BookState) (number : ℕ) (d : NetDevice) → IsDeviceToJoin b number d → LeadsParts b (next_by b (resolved.Device number d)) (resolved.Device number d)
lead_device b number d takes =
    let devices = b.network.devices in
    let row = device_row number d in
    let rows = numbered device_row 0 devices in
    let anew : numbered device_row 0 (devices ++ d ∷ []) ≡ rows ++ row ∷ [] = numbered_push device_row 0 devices d number (omega (arith, takes.number)) in
    let alive = row_of_life number d in
    let lives = numbered row_of_life 0 devices in
    let more : numbered row_of_life 0 (devices ++ d ∷ []) ≡ lives ++ alive ∷ [] = numbered_push row_of_life 0 devices d number (omega (arith, takes.number)) in
    let past : 0 + length devices ≤ number = omega (arith, takes.number) in
    let fresh : is_some (device_of b.network d.name) ≡ false = ap (λ (o : Option ℕ). is_some o) takes.joins.free in
    record {
      small = (omega (arith, takes.moments.0), small_end d.life.until takes.moments.1);
      needs = λ t have. tt;
      lets = λ t have. (
        (
          list_any-IsPermutation (is_key number) (t Device) rows have.devices ∙ number_free device_row number (λ n x. key_is number n (device_row n x) refl) 0 devices past,
          list_any-IsPermutation (is_reference d.name) (t Device) rows have.devices
              ∙ any_numbered device_row (is_reference d.name) (λ (x : NetDevice). bytes_eq x.name d.name) (λ n x. name_is d.name x.name (device_row n x) refl) 0 devices
              ∙ none_found (λ (x : NetDevice). bytes_eq x.name d.name) devices fresh,
          node_there b d.a takes.joins.joins.a_is_node t have,
          node_there b d.b takes.joins.joins.b_is_node t have,
        ),
        list_any-IsPermutation (is_key number) (t Life) lives have.lives ∙ number_free row_of_life number (λ n x. key_is number n (row_of_life n x) refl) 0 devices past,
      );
      parts = λ t have.
          devices_part b (b.accepted + 1) (λ rows. rows ++ row ∷ []) (λ rows. rows ++ alive ∷ []) t have (with_joined b.network d) refl
          (row_joins (t Device) rows _ row have.devices (IsPermutation-same _ _ (sym anew))) (row_joins (t Life) lives _ alive have.lives (IsPermutation-same _ _ (sym more)));
    }

lead_life : (b : BookState) (device : ℕ) (was new : ALife) → IsOtherLife b device was new → LeadsParts b (next_by b (resolved.Life device was new)) (resolved.Life device was new)
lead_life b device was new takes =
    let lives = numbered row_of_life 0 b.network.devices in
    let one = one_life device 0 device b.network.devices (omega arith) takes.device in
    record {
      small = (omega (arith, takes.moments.0), small_end new.until takes.moments.1);
      needs = λ t have. record {
        life = one.0.life;
        row = one_row (t Life) lives device (row_of_life device one.0) have.lives one.1;
      };
      lets = λ t have. tt;
      parts = λ t have.
          lives_part b (b.accepted + 1) (change_where (is_key device) (relive new)) t have (with_life b.network device new) refl (devices_stay 0 b.network.devices device new)
          (subst (IsPermutation (change_where (is_key device) (relive new) (t Life))) (lives_changed device new 0 device b.network.devices (omega arith))
          (IsPermutation-map (λ r. if is_key device r then relive new r else r) _ _ have.lives));
    }

-- ---- customers
lead_customer : (b : BookState) (c : RollCustomer) → IsNewCustomer b c → LeadsParts b (next_by b (resolved.Customer c)) (resolved.Customer c)
lead_customer b c takes =
    let row = customer_row c in
    let rows = map customer_row b.customers in
    let pushed : map customer_row (b.customers ++ c ∷ []) ≡ rows ++ row ∷ [] = map-append customer_row b.customers (c ∷ []) in
    let anew : IsPermutation (rows ++ row ∷ []) (map customer_row (with_customer c b.customers)) =
    subst (λ l. IsPermutation l (map customer_row (with_customer c b.customers))) pushed (IsPermutation-map customer_row _ _ (joins c b.customers)) in
    record {
      small = (omega (arith, takes.moments.0), small_end c.until takes.moments.1);
      needs = λ t have. tt;
      lets = λ t have. (
        list_any-IsPermutation (is_key c.«no») (t Customer) rows have.customers
            ∙ any_map customer_row (is_key c.«no») (λ (d : RollCustomer). d.«no» == c.«no») (λ d. key_is c.«no» d.«no» (customer_row d) refl) b.customers
            ∙ first_fails (has_number b.customers c.«no») _ _ takes.free,
        node_there b c.section (section_within b.network c.section takes.section) t have,
      );
      parts = λ t have.
          customers_part b (b.accepted + 1) (λ rows. rows ++ row ∷ []) t have (with_customer c b.customers)
          (row_joins (t Customer) rows _ row have.customers anew);
    }

lead_service : (b : BookState) (was new : RollCustomer) → IsSoundState b → IsOtherService b was new → LeadsParts b (next_by b (resolved.Service was new)) (resolved.Service was new)
lead_service b was new sound takes =
    let number = was.«no» in
    let same : number ≡ new.«no» = sym (ap (λ (c : RollCustomer). c.«no») takes.new) in
    let keyed = λ (d : RollCustomer). key_is number d.«no» (customer_row d) refl in
    let one = one_customer b.customers number was sound.roll.rising takes.old in
    record {
      small = (omega (arith, takes.moments.0), small_end new.until takes.moments.1);
      needs = λ t have.
          subst (λ n. HasCustomer n t) same
          (record { customer = was; row = row_of_one customer_row number (λ d. d.«no» == number) (t Customer) b.customers was keyed have.customers one });
      lets = λ t have. tt;
      parts = λ t have.
          subst (λ n. HaveParts (next_by b (resolved.Service was new)) (with_change Customer n (serve new) t)) same
          (customers_part b (b.accepted + 1) (change_where (is_key number) (serve new)) t have (with_service number new.since new.until b.customers)
          (one_changed customer_row number (serve new) (λ d. d.«no» == number) (revised new.since new.until) keyed (t Customer) b.customers was have.customers one refl));
    }

-- ---- entries
lead_entry : (b : BookState) (e : SheetEntry) → IsSoundState b → IsNextEntry b e → LeadsParts b (next_by b (resolved.Entered e)) (resolved.Entered e)
lead_entry b e sound takes =
    let last : e.«no» ≡ length b.entries + 1 = ap (λ (d : SheetEntry). d.«no») takes.entry in
    let row = entry_row e in
    let rows = map entry_row b.entries in
    let anew : map entry_row (b.entries ++ e ∷ []) ≡ rows ++ row ∷ [] = map-append entry_row b.entries (e ∷ []) in
    record {
      small = omega (arith, takes.of.before, sound.period.last);
      needs = λ t have. tt;
      lets = λ t have. (
        list_any-IsPermutation (is_key e.«no») (t Entry) rows have.entries ∙ next_entry_free b.entries e.«no» sound.numbered last,
        device_there b e.device takes.of.device t have,
        cause_there b e.cause takes.of.cause t have,
      );
      parts = λ t have.
          entries_part b (b.accepted + 1) (λ rows. rows ++ row ∷ []) t have (b.entries ++ e ∷ [])
          (row_joins (t Entry) rows _ row have.entries (IsPermutation-same _ _ (sym anew)));
    }

entry_keyed : (number : ℕ) (e : SheetEntry) → is_key number (entry_row e) ≡ (e.«no» == number)
entry_keyed number e = key_is number e.«no» (entry_row e) refl

-- an entry has one row
entry_row_is : (b : BookState) (e : SheetEntry) → AreNumbered b.entries → entry_of b.entries e.«no» ≡ Some e → (t : Tables) → HaveParts b t → HasEntry e.«no» t
entry_row_is b e numbered found t have = record {
  entry = e;
  row = row_of_one entry_row e.«no» (λ d. d.«no» == e.«no») (t Entry) b.entries e (entry_keyed e.«no») have.entries (one_entry b.entries e.«no» e numbered found);
}

-- which is changed as the entry is
entry_changes : (b : BookState) (was new : SheetEntry) (change : Columns → Columns) → AreNumbered b.entries → entry_of b.entries was.«no» ≡ Some was → change (entry_row was) ≡ entry_row new
    → (t : Tables) → HaveParts b t
    → HaveParts (record b { entries = change_entry was.«no» (λ _. new) b.entries; accepted = b.accepted + 1 }) (with_table Entry (change_where (is_key was.«no») change) t)
entry_changes b was new change numbered found made t have =
    let number = was.«no» in
    entries_part b (b.accepted + 1) (change_where (is_key number) change) t have (change_entry number (λ _. new) b.entries)
    (one_changed entry_row number change (λ d. d.«no» == number) (λ _. new) (entry_keyed number) (t Entry) b.entries was have.entries (one_entry b.entries number was numbered found) made)

lead_correction : (b : BookState) (was new : SheetEntry) → IsSoundState b → IsCorrection b was new → LeadsParts b (next_by b (resolved.Corrected was new)) (resolved.Corrected was new)
lead_correction b was new sound takes =
    let same : was.«no» ≡ new.«no» = sym (ap (λ (d : SheetEntry). d.«no») takes.new) in
    let made : correct new (entry_row was) ≡ entry_row new = subst (λ (d : SheetEntry). correct d (entry_row was) ≡ entry_row d) (sym takes.new) refl in
    record {
      small = omega (arith, takes.of.before, sound.period.last);
      needs = λ t have. subst (λ n. HasEntry n t) same (entry_row_is b was sound.numbered takes.old.on t have);
      lets = λ t have. cause_there b new.cause takes.of.cause t have;
      parts = λ t have.
          subst (λ n. HaveParts (next_by b (resolved.Corrected was new)) (with_change Entry n (correct new) t)) same
          (entry_changes b was new (correct new) sound.numbered takes.old.on made t have);
    }

lead_withdrawal : (b : BookState) (was new : SheetEntry) → IsSoundState b → IsWithdrawal b was new → is_identifier 16 new.crew ≡ true
    → LeadsParts b (next_by b (resolved.Withdrawn was new)) (resolved.Withdrawn was new)
lead_withdrawal b was new sound takes named =
    let same : was.«no» ≡ new.«no» = sym (ap (λ (d : SheetEntry). d.«no») takes.new) in
    let crew : new.crew ≡ was.crew = ap (λ (d : SheetEntry). d.crew) takes.new in
    let made : withdraw new.rev (entry_row was) ≡ entry_row new = subst (λ (d : SheetEntry). withdraw d.rev (entry_row was) ≡ entry_row d) (sym takes.new) refl in
    record {
      small = tt;
      needs = λ t have. subst (λ n. HasEntry n t) same (entry_row_is b was sound.numbered takes.old.on t have);
      lets = λ t have.
          subst (λ n. LetsWithdrawn n t) same
          (entry_short b.entries was.«no» was sound.numbered takes.old.on (short_crew was.crew (rw crew at named)) (t Entry) have.entries);
      parts = λ t have.
          subst (λ n. HaveParts (next_by b (resolved.Withdrawn was new)) (with_change Entry n (withdraw new.rev) t)) same
          (entry_changes b was new (withdraw new.rev) sound.numbered takes.old.on made t have);
    }

-- ---- marks
lead_mark : (b : BookState) (day : ℕ) (engineer : List ℕ) → IsFreeDay b day → LeadsParts b (next_by b (resolved.Marked day engineer)) (resolved.Marked day engineer)
lead_mark b day engineer takes =
    let free = none_if (engineer_of b.marks day) takes.free in
    let row = mark_row day engineer in
    record {
      small = tt;
      needs = λ t have. tt;
      lets = λ t have.
          list_any-IsPermutation (is_key day) (t Mark) (present mark_row 0 b.marks) have.marks
          ∙ place_free mark_row day (λ n x. key_is day n (mark_row n x) refl) 0 day b.marks (omega arith) free;
      parts = λ t have.
          marks_part b (b.accepted + 1) (λ rows. rows ++ row ∷ []) t have (with_mark day engineer b.marks)
          (row_joins (t Mark) (present mark_row 0 b.marks) _ row have.marks (present_put mark_row 0 b.marks day engineer day (omega arith) takes.day free));
    }

lead_unmark : (b : BookState) (day : ℕ) → IsMarkedDay b day → LeadsParts b (next_by b (resolved.Unmarked day)) (resolved.Unmarked day)
lead_unmark b day takes =
    let marked = some_if (engineer_of b.marks day) takes.marked in
    let keyed = λ (j : ℕ) (x : List ℕ). key_is day j (mark_row j x) refl in
    let one = present_one mark_row day keyed 0 day b.marks marked.0 (omega arith) marked.1 in
    record {
      small = tt;
      needs = λ t have. (marked.0, one_row (t Mark) (present mark_row 0 b.marks) day (mark_row day marked.0) have.marks one);
      lets = λ t have. tt;
      parts = λ t have.
          marks_part b (b.accepted + 1) (filter (λ r. not (is_key day r))) t have (without_mark day b.marks)
          (subst (IsPermutation (filter (λ r. not (is_key day r)) (t Mark))) (present_cleared mark_row day keyed 0 day b.marks (omega arith))
          (IsPermutation-filter (λ r. not (is_key day r)) _ _ have.marks));
    }

-- ---- each of them
pub leads : (b : BookState) (r : Resolved) → IsSoundState b → CanTake b r → ((was entry : SheetEntry) → r ≡ resolved.Withdrawn was entry → is_identifier 16 entry.crew ≡ true)
    → LeadsParts b (next_by b r) r
leads b (resolved.Cause code name) sound takes named = lead_cause b code name sound takes
leads b (resolved.Node number node) sound takes named = lead_node b number node takes
leads b (resolved.Device number device) sound takes named = lead_device b number device takes
leads b (resolved.Life device was new) sound takes named = lead_life b device was new takes
leads b (resolved.Customer c) sound takes named = lead_customer b c takes
leads b (resolved.Service was new) sound takes named = lead_service b was new sound takes
leads b (resolved.Entered e) sound takes named = lead_entry b e sound takes
leads b (resolved.Corrected was new) sound takes named = lead_correction b was new sound takes
leads b (resolved.Withdrawn was new) sound takes named = lead_withdrawal b was new sound takes (named was new refl)
leads b (resolved.Marked day engineer) sound takes named = lead_mark b day engineer takes
leads b (resolved.Unmarked day) sound takes named = lead_unmark b day takes
