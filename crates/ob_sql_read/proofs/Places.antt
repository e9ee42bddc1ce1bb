-- Rows of a table that are read one after another, against what stands at places.
use Rattle.std.proofs.Common.{true≢false, ◌≡◌, ℕ, zero, suc, ◌+◌, ◌<◌, List, [], ◌∷◌, ◌++◌, length, take, drop, slice_index_or, Bool, true, false, is_some, Option, Some, None, IsTrue, refl, sym, ap, subst, ◌∙◌, arith}
use Rattle.std.specs.Prelude.{◌↔◌, Result, Ok, Err, IfOk, OnOk}
use Rattle.std.specs.List.Sorted.{IsPermutation, IsStrictlySortedBy}
use Rattle.std.proofs.lemmas.List.{append-nil}
use Rattle.std.proofs.lemmas.List.Sorted.{IsPermutation-sym, IsPermutation-trans}
use Rattle.sqlite.specs.Order.{Row}
use Rattle.sqlite.specs.Query.{output_cmp}
use Rattle.sqlite.specs.Effect.{Database}
use Rattle.sqlite.specs.State.{IsUnchanged}
use Rattle.sqlite.specs.Held.{Held, state}
use Rattle.sqlite.specs.Given.{HasGiven, GivesOn}
use Rattle.sqlite_trees.specs.declared.store.Store.{Ghosts}
use Rattle.ob_sql_rows.specs.Versions.{Has, schema_of}
use Rattle.ob_sql_rows.specs.declared.version.Version.{Version}
use Rattle.ob_sql_rows.specs.Rows.{Columns}
use Rattle.ob_sql_rows.specs.declared.table.Table.{Table}
use Rattle.ob_record.specs.Tables.{Shows}
use Rattle.ob_sql_read.specs.Listing.{Listing, Lists, IsOff, Goes, Ends, keyed, list_query}
use Rattle.ob_sql_read.specs.Parts.{listing_of, row_cmp, standing}
use Rattle.ob_sql_read.proofs.Listing as listing
use Rattle.ob_sql_read.proofs.Listing.{append_last, lists_rows, no_more}
use Rattle.ob_sql_read.proofs.Same.{rises_mapped}
use Rattle.ob_sql_read.proofs.Selects.{is_listing}

module _ {S : Type 0} (g : Ghosts S) (v : Version) (t : Table) (own : Has v t) (old new : Held S) (has : (state g old).now.schema ≡ schema_of v)
    (same : IsUnchanged (state g old) (state g new)) (given : List Row) where
  -- one row more, at a place that has one
  pub goes_on : (ok : Bool) (row : Row) (o : Option Columns) → true ≡ is_some o → IsTrue ok ↔ (o ≡ Some row)
      → GivesOn g (listing_of t).text [] old new given (Some row) → Goes g (listing_of t) ok new given (standing (o ∷ []))
  goes_on ok row None some is more = absurd (true≢false some)
  goes_on ok row (Some x) some is more =
      listing.goes_on g (listing_of t) (is_listing v t own) old new has same given ok row x
      (λ yes. let it = is.0 yes in cc, λ e. is.1 (ap Some (sym e))) more

  -- none at a place that has one
  pub ends_off : (o : Option Columns) → true ≡ is_some o → GivesOn g (listing_of t).text [] old new given None
      → Goes g (listing_of t) false new given (standing (o ∷ []))
  ends_off None some h = absurd (true≢false some)
  ends_off (Some x) some h = listing.ends_off g (listing_of t) (is_listing v t own) old new has same given x h

-- a place more
more : {X : Type 0} (ps : List (Option X)) (at : ℕ) (d : Option X) → at < length ps
    → standing (take at ps) ++ standing (slice_index_or ps at d ∷ []) ≡ standing (take (suc at) ps)
more [] at d low = absurd (omega (arith, low))
more (None ∷ ps) zero d low = refl
more (Some x ∷ ps) zero d low = refl
more (None ∷ ps) (suc at) d low = more ps at d (omega (arith, low))
more (Some x ∷ ps) (suc at) d low = ap (λ l. x ∷ l) (more ps at d (omega (arith, low)))

one_more : (ps : List (Option Columns)) (at : ℕ) (d : Option Columns) (given : List Row) → at < length ps
    → (given ++ standing (take at ps)) ++ standing (slice_index_or ps at d ∷ []) ≡ given ++ standing (take (at + 1) ps)
one_more ps at d given low =
    let e : suc at ≡ at + 1 = omega arith in
    append_last given (standing (take at ps)) (standing (slice_index_or ps at d ∷ []))
    ∙ ap (λ l. given ++ l) (more ps at d low ∙ ap (λ k. standing (take k ps)) e)

-- the places from one on
split : {X : Type 0} (ps : List (Option X)) (at : ℕ) (d : Option X) (rest : List X) → at < length ps
    → standing (take at ps) ++ (standing (slice_index_or ps at d ∷ []) ++ (standing (drop (suc at) ps) ++ rest)) ≡ standing ps ++ rest
split [] at d rest low = absurd (omega (arith, low))
split (None ∷ ps) zero d rest low = refl
split (Some x ∷ ps) zero d rest low = refl
split (None ∷ ps) (suc at) d rest low = split ps at d rest (omega (arith, low))
split (Some x ∷ ps) (suc at) d rest low = ap (λ l. x ∷ l) (split ps at d rest (omega (arith, low)))

-- where one place is off, so are all
off_at : (l : Listing) (db : Database) (ps : List (Option Columns)) (at : ℕ) (d : Option Columns) (given : List Row) → at < length ps
    → IsOff l db (given ++ standing (take at ps)) (standing (slice_index_or ps at d ∷ [])) → IsOff l db given (standing ps)
off_at l db ps at d given low off =
    let here = standing (slice_index_or ps at d ∷ []) in (
      off.0,
      off.1,
      λ rest e. off.2 (standing (drop (suc at) ps) ++ rest)
          (e ∙ sym (append_last given (standing (take at ps)) (here ++ (standing (drop (suc at) ps) ++ rest)) ∙ ap (λ k. given ++ k) (split ps at d rest low))),
    )

module _ {S : Type 0} (g : Ghosts S) (l : Listing) (new : Held S) (ps : List (Option Columns)) (at : ℕ) (d : Option Columns) (given : List Row)
    (ok : Bool) (low : at < length ps) (goes : Goes g l ok new (given ++ standing (take at ps)) (standing (slice_index_or ps at d ∷ []))) where
  pub place_off : ok ≡ false → IsOff l (state g new).now given (standing ps)
  place_off is = off_at l (state g new).now ps at d given low (listing.goes_off g l new _ _ ok goes is)

  pub place_on : ok ≡ true → HasGiven g l.text [] new (given ++ standing (take (at + 1) ps))
  place_on is = subst (HasGiven g l.text [] new) (one_more ps at d given low) (listing.goes_given g l new _ _ ok goes is)

-- an answer is what is expected, by rising key, exactly where the table is, in some order
answers : (t : Table) (db : Database) (answer expected : List Row) → IsStrictlySortedBy (row_cmp t) expected → Lists (listing_of t) db answer
    → (answer ≡ expected) ↔ Shows db.trees t expected
answers t db answer expected rises h =
    let l = listing_of t in
    lists_rows l db answer expected h (rises_mapped (keyed l) (row_cmp t) (output_cmp (list_query l)) (λ a b. refl) expected rises)

module _ {S : Type 0} (g : Ghosts S) (t : Table) (expected : List Columns) (rises : IsStrictlySortedBy (row_cmp t) expected) (start new : Held S)
    (before : (state g new).now ≡ (state g start).now) where
  -- it went on otherwise
  pub went_off : (ok : Bool) → ok ≡ false → Goes g (listing_of t) ok new [] expected → Shows (state g start).now.trees t expected → ⊥
  went_off ok is goes it =
      let off = listing.goes_off g (listing_of t) new [] expected ok goes is in
      let there = subst (λ (d : Database). Shows d.trees t expected) (sym before) it in
      off.2 [] ((answers t (state g new).now off.0 expected rises off.1).1 there ∙ sym (append-nil expected))

  -- it was all, or a row is left
  pub ended : (over : Bool) → Ends g (listing_of t) over new expected → IsTrue over ↔ Shows (state g start).now.trees t expected
  ended true all = (
    λ _. subst (λ (d : Database). Shows d.trees t expected) before ((answers t (state g new).now expected expected rises all).0 refl),
    λ _. refl,
  )
  ended false left = (
    λ e. absurd (true≢false (sym e)),
    λ it.
        let there = subst (λ (d : Database). Shows d.trees t expected) (sym before) it in
        absurd (no_more expected left.0 left.1 (sym ((answers t (state g new).now (expected ++ (left.0 ∷ left.1)) expected rises left.2).1 there))),
  )

-- what the trees show, in any order
pub rows_alike : (t : Table) (db old : Database) (is : Bool) (expected rows : List Columns) → db ≡ old → Shows old.trees t rows
    → IsTrue is ↔ Shows db.trees t expected → IsTrue is ↔ IsPermutation rows expected
rows_alike t db old is expected rows same shown tells =
    let table : Shows db.trees t rows = subst (λ (d : Database). Shows d.trees t rows) (sym same) shown in (
      λ it. IsPermutation-trans _ _ _ (IsPermutation-sym _ _ table) (tells.0 it),
      λ all. tells.1 (IsPermutation-trans _ _ _ table all),
    )

pub if_ok : {X E : Type 0} (r : Result X E) {P Q : X → Type 0} → IfOk r P → ((x : X) → P x → Q x) → IfOk r Q
if_ok (Ok x) h f = f x h
if_ok (Err e) h f = h

pub on_ok : {X E : Type 0} (r : Result X E) {P Q : Type 0} → OnOk r P → (P → Q) → OnOk r Q
on_ok (Ok x) h f = f h
on_ok (Err e) h f = h

pub if_both : {X E : Type 0} (r : Result X E) {P Q : X → Type 0} {R : Type 0} → IfOk r P → OnOk r R → ((x : X) → P x → R → Q x) → IfOk r Q
if_both (Ok x) h k f = f x h k
if_both (Err e) h k f = h
