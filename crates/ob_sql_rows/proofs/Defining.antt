-- Nothing refuses the tables of a book, where those before them are all there is.
use Rattle.std.proofs.Common.{◌≡◌, ◌⊎◌, ℕ, ◌+◌, ◌*◌, ◌^◌, ◌<◌, ◌≤◌, nat_lt, eqb, List, [], ◌∷◌, length, codes, true, false, Option, Some, None, Ok, Err, Result, IsUtf8, IsAscii, refl, sym, ap, subst, ◌∙◌, inl, inr, arith, true≢false}
use Rattle.std.specs.Prelude.{MatchBool, ⊤}
use Rattle.std.specs.Float.Ieee
use Rattle.std.specs.List.{list_all, list_any}
use Rattle.std.proofs.lemmas.Bool.{and_parts, ltb-true}
use Rattle.std.proofs.lemmas.Str.{IsUtf8-from_ascii}
use Rattle.std.proofs.lemmas.Str.Ascii.{IsAscii-nil, IsAscii-cons}
use Rattle.sqlite_value.specs.Order.{value_cmp}
use Rattle.sqlite_trees.specs.Sound as sound
use Rattle.sqlite_schema.specs.Rules.{table_reals, index_reals}
use Rattle.sqlite_schema.specs.declared.schema.Index.{Index}
use Rattle.sqlite_rules.specs.Lists.{Has}
use Rattle.sqlite_rules.proofs.ListLemmas.{test_has, some_from}
use Rattle.sqlite_catalog.specs.Calls.{RefusesTable, IsBadName}
use Rattle.sqlite_catalog.specs.Change.{automatics, is_used, is_reserved}
use Rattle.sqlite_catalog.specs.Listing.{is_fit, is_formed}
use Rattle.sqlite_catalog.specs.declared.error.Refusal.{Refusal}
use Rattle.sqlite_catalog.specs.declared.error.Refusal.TheVariants.{Invalid, NameTaken, BadName, TooBig, BadKey, BadText, Violates}
use Rattle.sqlite.specs.Order.{Row}
use Rattle.sqlite.specs.declared.types.Value.TheVariants.{Text}
use Rattle.sqlite.specs.declared.error.Error.{Error}
use Rattle.sqlite.specs.declared.run.Mode.{Mode}
use Rattle.sqlite.specs.Table as sql
use Rattle.sqlite.specs.Schema.{Schema}
use Rattle.sqlite.specs.Command.TheVariants.{CreateTable}
use Rattle.sqlite.specs.Compile.{table_defined_by}
use Rattle.sqlite.specs.Listing.{understood}
use Rattle.sqlite.specs.Change.{created, next_tree}
use Rattle.sqlite.specs.Rows.{Gives}
use Rattle.sqlite.specs.Does.{Does, MakesTable, MakesSequence, lacks_sequence, sequence_text}
use Rattle.sqlite.specs.Effect.{Database}
use Rattle.sqlite.specs.State.{State, mode_of}
use Rattle.sqlite_tied.specs.Compute.{everything}
use Rattle.ob_sql_rows.specs.Schema.{meta_table, cause_table, node_table, device_table, customer_table, entry_table, mark_table, command_table, moved_table, posting_table, life_table}
use Rattle.ob_sql_rows.specs.Creation.{create_text, before, schema_of_first, LetsTable}
use Rattle.ob_sql_rows.specs.Steps.{Failed, HasFailed}
use Rattle.ob_sql_rows.specs.Versions.{LetsLives}
use Rattle.ob_sql_rows.specs.declared.table.Table.{Table}
use Rattle.ob_sql_rows.specs.declared.table.Table.TheVariants.{Meta, Cause, Node, Device, Life, Customer, Entry, Mark, Command, Moved, Posting}
use Rattle.ob_sql_rows.proofs.Creating.{MakesAfter, meta_after, cause_after, node_after, device_after, customer_after, entry_after, mark_after, command_after, moved_after, posting_after, life_after}
use Rattle.ob_sql_rows.proofs.Refusing.{IsWrittenAs, fails_as}

all_ascii : (bytes : List ℕ) → list_all (λ b. nat_lt b 128) bytes ≡ true → IsAscii bytes
all_ascii [] h = IsAscii-nil
all_ascii (b ∷ bytes) h = let p = and_parts (nat_lt b 128) _ h in IsAscii-cons b bytes (ltb-true b 128 p.0) (all_ascii bytes p.1)

is_text : (bytes : List ℕ) → list_all (λ b. nat_lt b 128) bytes ≡ true → IsUtf8 bytes
is_text bytes h = IsUtf8-from_ascii bytes (all_ascii bytes h)

same_made : {B E : Type 0} {a b : B} → ◌≡◌ {A = Result B E} (Ok a) (Ok b) → a ≡ b
same_made e = cc

over : (n m : ℕ) → n ≤ m → m < n → ⊥
over n m up low = omega (arith, up, low)

-- names that are free, and texts and keys that fit
pub record IsFree (schema : Schema) (text : List ℕ) (table : sql.Table) : Type 0 where
  pub spelled : list_all (λ b. nat_lt b 128) text ≡ true
  pub named : list_all (λ b. nat_lt b 128) table.name ≡ true
  pub short : nat_lt (2 * length table.name + length text + 200) (10 ^ 9) ≡ true
  pub unused : is_used schema table.name ≡ false
  pub unused_indexes : list_any (λ i. is_used schema i.name) (automatics table 0 0 table.uniques) ≡ false
  pub unreserved : is_reserved table.name ≡ false
  pub few : nat_lt (next_tree schema + length table.uniques) 65536 ≡ true
  pub reals : nat_lt (table_reals table) (2 ^ 64) ≡ true
  pub key_reals : list_all (λ key. nat_lt (index_reals (table_reals table) key) (2 ^ 64)) table.uniques ≡ true
  pub formed : is_formed table ≡ true
  pub fit : is_fit (Text (codes "table")) (Text table.name) (Text table.name) (Text text) ≡ true

module _ (schema : Schema) (text : List ℕ) (table : sql.Table) (defined : table_defined_by text ≡ Ok table) (free : IsFree schema text table) where
  abbrev IsTaken : sql.Table → Type 0
  IsTaken t = (is_used schema t.name ≡ true) ⊎ ((index : Index) × Has (automatics t 0 0 t.uniques) index × (is_used schema index.name ≡ true))

  abbrev IsBig : sql.Table → Type 0
  IsBig t =
      (65536 ≤ next_tree schema + length t.uniques)
      ⊎ ((2 ^ 64 ≤ table_reals t) ⊎ ((key : List ℕ) × Has t.uniques key × (2 ^ 64 ≤ index_reals (table_reals t) key)))

  one_table : (t : sql.Table) → table_defined_by text ≡ Ok t → t ≡ table
  one_table t also = same_made (sym also ∙ defined)

  not_taken : ¬ (IsTaken table)
  not_taken (inl used) = true≢false (sym used ∙ free.unused)
  not_taken (inr index) = true≢false (sym (some_from (λ (i : Index). is_used schema i.name) (automatics table 0 0 table.uniques) index.0 index.1 index.2) ∙ free.unused_indexes)

  not_bad : ¬ (IsBadName table.name (eqb (length table.uniques) 0))
  not_bad (inl odd) = odd (is_text table.name free.named)
  not_bad (inr own) = true≢false (sym own.0 ∙ free.unreserved)

  not_big : ¬ (IsBig table)
  not_big (inl many) = over 65536 (next_tree schema + length table.uniques) many (ltb-true _ _ free.few)
  not_big (inr (inl wide)) = over (2 ^ 64) (table_reals table) wide (ltb-true _ _ free.reals)
  not_big (inr (inr key)) =
      over (2 ^ 64) (index_reals (table_reals table) key.0) key.2
      (ltb-true _ _ (test_has (λ (k : List ℕ). nat_lt (index_reals (table_reals table) k) (2 ^ 64)) table.uniques key.0 free.key_reals key.1))

  not_refused : (why : Refusal) → ¬ (RefusesTable schema text why)
  not_refused (Invalid e) h = absurd (let clash = sym defined ∙ h in cc)
  not_refused NameTaken h = not_taken (subst IsTaken (one_table h.0 h.1) h.2)
  not_refused BadName h = not_bad (subst (λ (t : sql.Table). IsBadName t.name (eqb (length t.uniques) 0)) (one_table h.0 h.1) h.2)
  not_refused TooBig h = not_big (subst IsBig (one_table h.0 h.1) h.2)
  not_refused BadKey h = true≢false (sym free.formed ∙ subst (λ (t : sql.Table). is_formed t ≡ false) (one_table h.0 h.1) h.2)
  not_refused BadText h =
      true≢false (sym free.fit ∙ subst (λ (t : sql.Table). is_fit (Text (codes "table")) (Text t.name) (Text t.name) (Text text) ≡ false) (one_table h.0 h.1) h.2)
  not_refused (Violates rule) h = h

  not_made : (db : Database) (stop : Option Error) → db.schema ≡ schema → ¬ (MakesTable text db (Err stop))
  not_made db None has long =
      over (10 ^ 9) (2 * length table.name + length text + 200)
      (subst (λ (t : sql.Table). 10 ^ 9 ≤ 2 * length t.name + length text + 200) (one_table long.0 long.1) long.2) (ltb-true _ _ free.short)
  not_made db (Some e) has (inl odd) = odd.0 (is_text text free.spelled)
  not_made db (Some e) has (inr why) = not_refused why.0 (subst (λ s. RefusesTable s text why.0) has why.1)

  -- no table that counts its rows is made
  not_counted : lacks_sequence (created schema table) ≡ false → (db after : Database) (stop : Option Error) → db.schema ≡ schema → MakesTable text db (Ok after) → ¬ (MakesSequence after (Err stop))
  not_counted uncounted db after stop has made more =
      let is : after.schema ≡ created schema table = made.is ∙ ap (λ s. created s made.table) has ∙ ap (created schema) (one_table made.table made.defined) in
      let e = subst (λ b. MatchBool b (MakesTable sequence_text after (Err stop)) (Gives after (Err stop))) (ap lacks_sequence is ∙ uncounted) more in
      absurd cc

  pub never_made : lacks_sequence (created schema table) ≡ false → (limit : Option ℕ) (mode : Mode) (params : Row) (db : Database) (stop : Option Error) → db.schema ≡ schema
      → ¬ (Does limit mode params db text None CreateTable (Err stop))
  never_made uncounted limit mode params db stop has (inl (why, inl (early, made, same), ended)) = not_made db early has made
  never_made uncounted limit mode params db stop has (inl (why, inr (after, made, more), ended)) = not_counted uncounted db after why has made more
  never_made uncounted limit mode params db stop has (inr (after, made, given)) = absurd (let e = given in cc)

-- what holds of a text that makes a table after the first n, which nothing refuses
pub record IsLetAfter (n : ℕ) (text : List ℕ) (table : sql.Table) : Type 0 where
  pub after : MakesAfter n text table
  pub written : IsWrittenAs (schema_of_first n) text [] CreateTable (understood (schema_of_first n) text)
  pub free : IsFree (schema_of_first n) text table

lets_after : (n : ℕ) (text : List ℕ) (table : sql.Table) → IsLetAfter n text table → (old new : State) → old.now.schema ≡ schema_of_first n → Failed text [] old new → HasFailed old new
lets_after n text table it old new has failed = elim (fails_as (schema_of_first n) text [] CreateTable tt it.written old new has failed) [
  | inl cause ↦ cause
  | inr refused ↦
      absurd (never_made (schema_of_first n) text table it.after.defines it.free it.after.uncounted old.step_limit (mode_of old) [] old.now refused.0 has
      (subst (λ t. Does old.step_limit (mode_of old) [] old.now t None CreateTable (Err refused.0)) it.after.whole refused.1))
]

-- what computes this on a text
unfoldable making : ⊤
unfolding understood everything sound.is_free_name sound.fits_kind sound.begins sound.same_name value_cmp Ieee.is_nan Ieee.lt
making = tt

meta_let : IsLetAfter 0 (create_text Meta) meta_table
unfolding making
meta_let = record {
  after = meta_after;
  written = record { whole = omega arith; given = refl; timeless = refl; plain = refl; is = refl };
  free = record { spelled = refl; named = refl; short = refl; unused = refl; unused_indexes = refl; unreserved = refl; few = refl; reals = refl; key_reals = refl; formed = refl; fit = refl };
}

cause_let : IsLetAfter 1 (create_text Cause) cause_table
unfolding making
cause_let = record {
  after = cause_after;
  written = record { whole = omega arith; given = refl; timeless = refl; plain = refl; is = refl };
  free = record { spelled = refl; named = refl; short = refl; unused = refl; unused_indexes = refl; unreserved = refl; few = refl; reals = refl; key_reals = refl; formed = refl; fit = refl };
}

node_let : IsLetAfter 2 (create_text Node) node_table
unfolding making
node_let = record {
  after = node_after;
  written = record { whole = omega arith; given = refl; timeless = refl; plain = refl; is = refl };
  free = record { spelled = refl; named = refl; short = refl; unused = refl; unused_indexes = refl; unreserved = refl; few = refl; reals = refl; key_reals = refl; formed = refl; fit = refl };
}

device_let : IsLetAfter 3 (create_text Device) device_table
unfolding making
device_let = record {
  after = device_after;
  written = record { whole = omega arith; given = refl; timeless = refl; plain = refl; is = refl };
  free = record { spelled = refl; named = refl; short = refl; unused = refl; unused_indexes = refl; unreserved = refl; few = refl; reals = refl; key_reals = refl; formed = refl; fit = refl };
}

customer_let : IsLetAfter 4 (create_text Customer) customer_table
unfolding making
customer_let = record {
  after = customer_after;
  written = record { whole = omega arith; given = refl; timeless = refl; plain = refl; is = refl };
  free = record { spelled = refl; named = refl; short = refl; unused = refl; unused_indexes = refl; unreserved = refl; few = refl; reals = refl; key_reals = refl; formed = refl; fit = refl };
}

entry_let : IsLetAfter 5 (create_text Entry) entry_table
unfolding making
entry_let = record {
  after = entry_after;
  written = record { whole = omega arith; given = refl; timeless = refl; plain = refl; is = refl };
  free = record { spelled = refl; named = refl; short = refl; unused = refl; unused_indexes = refl; unreserved = refl; few = refl; reals = refl; key_reals = refl; formed = refl; fit = refl };
}

mark_let : IsLetAfter 6 (create_text Mark) mark_table
unfolding making
mark_let = record {
  after = mark_after;
  written = record { whole = omega arith; given = refl; timeless = refl; plain = refl; is = refl };
  free = record { spelled = refl; named = refl; short = refl; unused = refl; unused_indexes = refl; unreserved = refl; few = refl; reals = refl; key_reals = refl; formed = refl; fit = refl };
}

command_let : IsLetAfter 7 (create_text Command) command_table
unfolding making
command_let = record {
  after = command_after;
  written = record { whole = omega arith; given = refl; timeless = refl; plain = refl; is = refl };
  free = record { spelled = refl; named = refl; short = refl; unused = refl; unused_indexes = refl; unreserved = refl; few = refl; reals = refl; key_reals = refl; formed = refl; fit = refl };
}

moved_let : IsLetAfter 8 (create_text Moved) moved_table
unfolding making
moved_let = record {
  after = moved_after;
  written = record { whole = omega arith; given = refl; timeless = refl; plain = refl; is = refl };
  free = record { spelled = refl; named = refl; short = refl; unused = refl; unused_indexes = refl; unreserved = refl; few = refl; reals = refl; key_reals = refl; formed = refl; fit = refl };
}

posting_let : IsLetAfter 9 (create_text Posting) posting_table
unfolding making
posting_let = record {
  after = posting_after;
  written = record { whole = omega arith; given = refl; timeless = refl; plain = refl; is = refl };
  free = record { spelled = refl; named = refl; short = refl; unused = refl; unused_indexes = refl; unreserved = refl; few = refl; reals = refl; key_reals = refl; formed = refl; fit = refl };
}

life_let : IsLetAfter 10 (create_text Life) life_table
unfolding making
life_let = record {
  after = life_after;
  written = record { whole = omega arith; given = refl; timeless = refl; plain = refl; is = refl };
  free = record { spelled = refl; named = refl; short = refl; unused = refl; unused_indexes = refl; unreserved = refl; few = refl; reals = refl; key_reals = refl; formed = refl; fit = refl };
}

pub lets_table : (table : Table) (old new : State) → Failed (create_text table) [] old new → LetsTable (before table) old → HasFailed old new
lets_table Meta old new failed lets = lets_after 0 (create_text Meta) meta_table meta_let old new lets.0.schema failed
lets_table Cause old new failed lets = lets_after 1 (create_text Cause) cause_table cause_let old new lets.0.schema failed
lets_table Node old new failed lets = lets_after 2 (create_text Node) node_table node_let old new lets.0.schema failed
lets_table Device old new failed lets = lets_after 3 (create_text Device) device_table device_let old new lets.0.schema failed
lets_table Customer old new failed lets = lets_after 4 (create_text Customer) customer_table customer_let old new lets.0.schema failed
lets_table Entry old new failed lets = lets_after 5 (create_text Entry) entry_table entry_let old new lets.0.schema failed
lets_table Mark old new failed lets = lets_after 6 (create_text Mark) mark_table mark_let old new lets.0.schema failed
lets_table Command old new failed lets = lets_after 7 (create_text Command) command_table command_let old new lets.0.schema failed
lets_table Moved old new failed lets = lets_after 8 (create_text Moved) moved_table moved_let old new lets.0.schema failed
lets_table Posting old new failed lets = lets_after 9 (create_text Posting) posting_table posting_let old new lets.0.schema failed
lets_table Life old new failed lets = lets_after 10 (create_text Life) life_table life_let old new lets.0.schema failed

pub lets_life : (old new : State) → Failed (create_text Life) [] old new → LetsLives old → HasFailed old new
lets_life old new failed lets = lets_after 10 (create_text Life) life_table life_let old new lets.0 failed
