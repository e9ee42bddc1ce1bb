-- Rows of amounts, one key after another.
use Rattle.std.proofs.Common.{◌≡◌, ◌≤◌, ℕ, ◌+◌, ◌-◌, arith, IsTrue, List, [], ◌∷◌, ◌++◌, Bool, true, false, map, refl, sym, ap, subst, ◌∙◌}
use Rattle.std.specs.Prelude.{if◌then◌else◌, ◌==◌}
use Rattle.std.specs.List.{range_with_len}
use Rattle.std.specs.List.Sorted.{IsPermutation}
use Rattle.std.proofs.lemmas.List.{map-append, append_assoc, append-nil}
use Rattle.std.proofs.lemmas.List.FromFn.{map-range_with_len_more}
use Rattle.sqlite.specs.Tree.{Trees}
use Rattle.sqlite.specs.State.{State}
use Rattle.ob_post.specs.Keys.{dim_number, keys}
use Rattle.ob_post.specs.declared.Dim.{Dim}
use Rattle.ob_post.specs.declared.Dim.TheVariants as dim
use Rattle.ob_sql_rows.specs.Rows.{Columns, Tables, Holds, Always, shown, tree_of, with_row, posting_row}
use Rattle.ob_sql_rows.specs.Steps.{Makes}
use Rattle.ob_sql_rows.specs.declared.table.Table.{Table}
use Rattle.ob_sql_rows.specs.declared.table.Table.TheVariants.{Posting}
use Rattle.ob_sql_write.specs.Amounts.{amount_row, all_keys}
use Rattle.ob_sql_write.proofs.Steps.{makes_none, makes_then}
use Rattle.ob_sql_write.specs.NewBook.{no_amount, with_zeros, keys_of}

-- tables that are the same, table by table
pub holds_as : (trees : Trees) (t u : Tables) → ((table : Table) → t table ≡ u table) → Holds trees t → Holds trees u
holds_as trees t u same h = record { rows = λ table. subst (IsPermutation (map (shown table) (trees (tree_of table)))) (same table) (h.rows table); apart = h.apart }

makes_as : (a b : State) (f h : Tables → Tables) → ((t : Tables) (table : Table) → f t table ≡ h t table) → Makes a b Always f → Makes a b Always h
makes_as a b f h same it = record {
  live = it.live;
  stays = it.stays;
  inside = it.inside;
  schema = it.schema;
  sound = it.sound;
  holds = λ has t held needs. holds_as b.now.trees (f t) (h t) (same t) (it.holds has t held needs);
  numbered = it.numbered;
}

-- the rows of some keys and then of others are those of all
join : (here : Bool) (xs ys : List (Dim × ℕ)) (rows : List Columns)
    → (if here then (if here then rows ++ map (amount_row no_amount) xs else rows) ++ map (amount_row no_amount) ys else (if here then rows ++ map (amount_row no_amount) xs else rows))
    ≡ (if here then rows ++ map (amount_row no_amount) (xs ++ ys) else rows)
join true xs ys rows = append_assoc rows (map (amount_row no_amount) xs) (map (amount_row no_amount) ys) ∙ ap (λ l. rows ++ l) (sym (map-append (amount_row no_amount) xs ys))
join false xs ys rows = refl

pub zeros_then : (a b c : State) (xs ys : List (Dim × ℕ)) → Makes a b Always (with_zeros xs) → Makes b c Always (with_zeros ys) → Makes a c Always (with_zeros (xs ++ ys))
zeros_then a b c xs ys one two =
    makes_as a c (λ t. with_zeros ys (with_zeros xs t)) (with_zeros (xs ++ ys)) (λ t table. join (tree_of Posting == tree_of table) xs ys (t table))
    (makes_then a b c Always Always Always (with_zeros xs) (with_zeros ys) (λ t has. (tt, tt)) one two)

-- no key yet
none : (here : Bool) (rows : List Columns) → rows ≡ (if here then rows ++ [] else rows)
none true rows = sym (append-nil rows)
none false rows = refl

pub zeros_none : (a : State) (dim : Dim) (first : ℕ) → IsTrue a.is_open → IsTrue a.in_transaction → Makes a a Always (with_zeros (keys_of dim (range_with_len first (first - first))))
zeros_none a dim first live inside =
    let nothing : first - first ≡ 0 = omega arith in
    rw nothing (makes_as a a (λ t. t) (with_zeros []) (λ t table. none (tree_of Posting == tree_of table) (t table))
    (makes_none a Always live inside))

-- one key more
pub next_key : (a b c : State) (dim : Dim) (first key : ℕ) → first ≤ key → Makes a b Always (with_zeros (keys_of dim (range_with_len first (key - first))))
    → Makes b c Always (with_row Posting (posting_row (dim_number dim) key 0)) → Makes a c Always (with_zeros (keys_of dim (range_with_len first (key + 1 - first))))
next_key a b c dim first key from one two =
    let next : key + 1 - first ≡ key - first + 1 = omega (arith, from) in
    rw next (subst (λ l. Makes a c Always (with_zeros l)) (sym (map-range_with_len_more (λ k. (dim, k)) first (key - first) key (omega (arith, from))))
    (zeros_then a b c (keys_of dim (range_with_len first (key - first))) (keys_of dim (key ∷ [])) one two))

-- the keys of each dimension, as ranges
pub ranges_are_all : (days : ℕ) → keys_of dim.Cause (range_with_len 0 64) ++ (keys_of dim.Feeder (range_with_len 1 255) ++ keys_of dim.Day (range_with_len 0 days)) ≡ all_keys days
unfolding keys
ranges_are_all days = refl
