-- The rows of a book's parts, where one part changed and one table with it.
use Rattle.std.proofs.Common.{◌≡◌, ℕ, List, [], ◌∷◌, ◌++◌, map, Option, sym, subst}
use Rattle.std.specs.List.Sorted.{IsPermutation}
use Rattle.std.proofs.lemmas.List.Sorted.{IsPermutation-append_left, IsPermutation-trans}
use Rattle.ob_net.specs.Network.{Network}
use Rattle.ob_sheet.specs.declared.Entry.{Entry as SheetEntry}
use Rattle.ob_cust.specs.declared.Customer.{Customer as RollCustomer}
use Rattle.ob_state.specs.State.{BookState}
use Rattle.ob_sql_rows.specs.Rows.{Columns, Tables, with_table, cause_row, node_row, device_row, customer_row, entry_row, mark_row}
use Rattle.ob_sql_rows.specs.declared.table.Table.TheVariants.{Cause, Node, Device, Life, Customer, Entry, Mark}
use Rattle.ob_record.specs.Tables.{numbered, present, row_of_life}
use Rattle.ob_record.specs.Leading.{HaveParts}

-- ---- one part changed, and how many commands were accepted
module _ (b : BookState) (accepted : ℕ) (change : List Columns → List Columns) (t : Tables) (have : HaveParts b t) where
  pub causes_part : (causes : List (Option (List ℕ))) → IsPermutation (change (t Cause)) (present cause_row 0 causes)
      → HaveParts (record b { causes = causes; accepted = accepted }) (with_table Cause change t)
  causes_part causes here = record {
    meta = have.meta;
    causes = here;
    nodes = have.nodes;
    devices = have.devices;
    lives = have.lives;
    customers = have.customers;
    entries = have.entries;
    marks = have.marks;
  }

  pub nodes_part : (net : Network) → net.devices ≡ b.network.devices → IsPermutation (change (t Node)) (numbered node_row 0 net.nodes)
      → HaveParts (record b { network = net; accepted = accepted }) (with_table Node change t)
  nodes_part net same here = record {
    meta = have.meta;
    causes = have.causes;
    nodes = here;
    devices = subst (λ ds. IsPermutation (t Device) (numbered device_row 0 ds)) (sym same) have.devices;
    lives = subst (λ ds. IsPermutation (t Life) (numbered row_of_life 0 ds)) (sym same) have.lives;
    customers = have.customers;
    entries = have.entries;
    marks = have.marks;
  }

  pub lives_part : (net : Network) → net.nodes ≡ b.network.nodes → numbered device_row 0 net.devices ≡ numbered device_row 0 b.network.devices
      → IsPermutation (change (t Life)) (numbered row_of_life 0 net.devices)
      → HaveParts (record b { network = net; accepted = accepted }) (with_table Life change t)
  lives_part net same alike here = record {
    meta = have.meta;
    causes = have.causes;
    nodes = subst (λ ns. IsPermutation (t Node) (numbered node_row 0 ns)) (sym same) have.nodes;
    devices = subst (IsPermutation (t Device)) (sym alike) have.devices;
    lives = here;
    customers = have.customers;
    entries = have.entries;
    marks = have.marks;
  }

  pub customers_part : (customers : List RollCustomer) → IsPermutation (change (t Customer)) (map customer_row customers)
      → HaveParts (record b { customers = customers; accepted = accepted }) (with_table Customer change t)
  customers_part customers here = record {
    meta = have.meta;
    causes = have.causes;
    nodes = have.nodes;
    devices = have.devices;
    lives = have.lives;
    customers = here;
    entries = have.entries;
    marks = have.marks;
  }

  pub entries_part : (entries : List SheetEntry) → IsPermutation (change (t Entry)) (map entry_row entries)
      → HaveParts (record b { entries = entries; accepted = accepted }) (with_table Entry change t)
  entries_part entries here = record {
    meta = have.meta;
    causes = have.causes;
    nodes = have.nodes;
    devices = have.devices;
    lives = have.lives;
    customers = have.customers;
    entries = here;
    marks = have.marks;
  }

  pub marks_part : (marks : List (Option (List ℕ))) → IsPermutation (change (t Mark)) (present mark_row 0 marks)
      → HaveParts (record b { marks = marks; accepted = accepted }) (with_table Mark change t)
  marks_part marks here = record {
    meta = have.meta;
    causes = have.causes;
    nodes = have.nodes;
    devices = have.devices;
    lives = have.lives;
    customers = have.customers;
    entries = have.entries;
    marks = here;
  }

-- the devices changed, and their lives with them
pub devices_part : (b : BookState) (accepted : ℕ) (change live : List Columns → List Columns) (t : Tables) → HaveParts b t → (net : Network) → net.nodes ≡ b.network.nodes
    → IsPermutation (change (t Device)) (numbered device_row 0 net.devices) → IsPermutation (live (t Life)) (numbered row_of_life 0 net.devices)
    → HaveParts (record b { network = net; accepted = accepted }) (with_table Life live (with_table Device change t))
devices_part b accepted change live t have net same here alive = record {
  meta = have.meta;
  causes = have.causes;
  nodes = subst (λ ns. IsPermutation (t Node) (numbered node_row 0 ns)) (sym same) have.nodes;
  devices = here;
  lives = alive;
  customers = have.customers;
  entries = have.entries;
  marks = have.marks;
}

-- ---- a row joins the rows of a part, in whatever order these are
pub row_joins : (rows known anew : List Columns) (row : Columns) → IsPermutation rows known → IsPermutation (known ++ row ∷ []) anew → IsPermutation (rows ++ row ∷ []) anew
row_joins rows known anew row same more = IsPermutation-trans _ _ _ (IsPermutation-append_left (row ∷ []) rows known same) more
