-- A new book: why there is none, and its tables.
use Rattle.std.proofs.Common.{◌≡◌, ◌≢◌, ◌⊎◌, inl, inr, ℕ, ℤ, length, List, Err, refl, sym, ap, ap₂, subst, ◌∙◌, arith}
use Rattle.std.specs.Prelude.{⊤}
use Rattle.std.specs.List.Sorted.{IsPermutation}
use Rattle.std.proofs.lemmas.List.Sorted.{IsPermutation-refl}
use Rattle.sqlite_trees.specs.declared.store.Store.{Ghosts}
use Rattle.sqlite.specs.Held.{Held, state}
use Rattle.sqlite.specs.State.{State, HasCleanDisk, Survives}
use Rattle.ob_base.specs.Stop.{IsRefusedOrNoMemory, out_of_memory}
use Rattle.ob_base.specs.declared.stop.Stop.{Stop}
use Rattle.ob_base.specs.declared.stop.Stop.TheVariants.{Refused, Fault}
use Rattle.ob_base.specs.declared.stop.Refusal.TheVariants.{BadPeriod, BadBook}
use Rattle.ob_base.specs.declared.stop.Fault.TheVariants.{Store}
use Rattle.ob_time.specs.Calendar.{Calendar, day_count}
use Rattle.ob_time.specs.Dates.{day_text}
use Rattle.ob_time.specs.Period.{IsPeriodText}
use Rattle.ob_book.specs.Acts.{start}
use Rattle.ob_sql_rows.specs.Schema.{no_schema}
use Rattle.ob_sql_rows.specs.Rows.{Holds}
use Rattle.ob_sql_rows.specs.Rules.{IsShort}
use Rattle.ob_sql_rows.specs.Steps.{HasFailed, IsStoreFault}
use Rattle.ob_sql_rows.specs.declared.table.Table.{Table}
use Rattle.ob_sql_rows.specs.declared.table.Table.TheVariants.{Meta, Cause, Node, Device, Life, Customer, Entry, Mark, Command, Moved, Posting}
use Rattle.ob_sql_write.specs.Keeps.{HasCommitCause, Keeps, WasUndone}
use Rattle.ob_sql_write.specs.NewBook.{new_tables}
use Rattle.ob_sql_write.specs.Begins.{Stays, StaysOrBegins}
use Rattle.ob_record.specs.Reached.{IsReached, StartHasFirstRows, StartIsReached, first_rows}
use Rattle.ob_record.specs.Tables.{tables_of}
use Rattle.ob_store.specs.Keeping.{KeepsBook, KeepsOn}
use Rattle.ob_store.specs.Creating.{Creates, HasCreateCause, HasNoPeriodText, LeavesAll, MayBegin}
use Rattle.ob_store.proofs.Accepting.{holds_as, keeps_as, leaves_as}
use Rattle.ob_store.proofs.Staying.{keeps_on, keeps_same}

-- the text of a date is short, and so is that of a zone
date_length : (day : ℤ) → length (day_text day) ≡ 10
unfolding day_text
date_length day = refl

-- where a period couldn't be told or memory was refused no fault of the store is told
pub none_refused : {P : Type 0} (stop : Stop) → IsRefusedOrNoMemory BadPeriod stop → stop ≡ Fault Store → P
none_refused (Refused r) is told = absurd (cc)
none_refused (Fault f) is told = absurd (let e : Fault f ≡ out_of_memory = ap Fault is in cc)

survives_same : (s : State) → Survives s s (λ _. ⊥)
survives_same s = record {
  clean = omega arith;
  shield = λ shielded. shielded;
  counts = omega arith;
  limit = refl;
  closes = λ clean live. inl live;
  crash = λ clean trees may. inl may;
}

all_left : {S : Type 0} (g : Ghosts S) (conn : Held S) → LeavesAll g conn conn
all_left g conn = record {
  stays = record { shown = λ clean live. record { was_open = live; now = refl; committed = refl }; survives = survives_same (state g conn) };
  keeps = keeps_same (state g conn);
}

module _ {S : Type 0} (g : Ghosts S) (conn : Held S) (first : List ℕ) (days : ℕ) (zone : List ℕ) where
  -- memory was refused before anything was written
  pub no_memory : (stop : Stop) → stop ≡ out_of_memory → Creates g conn conn first days zone (Err stop)
  no_memory stop is = subst (λ s. Creates g conn conn first days zone (Err s)) (sym is) (all_left g conn)

  -- the texts name no period
  pub no_period : (stop : Stop) → IsRefusedOrNoMemory BadPeriod stop → (stop ≡ Refused BadPeriod → HasNoPeriodText first days zone) → Creates g conn conn first days zone (Err stop)
  no_period (Refused r) is none = subst (λ x. Creates g conn conn first days zone (Err (Refused x))) (sym is) (none (ap Refused is), all_left g conn)
  no_period (Fault f) is none = subst (λ x. Creates g conn conn first days zone (Err (Fault x))) (sym is) (all_left g conn)

module _ (p : Calendar) (first text : List ℕ) (days : ℕ) (zone : List ℕ) (of_text : IsPeriodText first days zone p) (text_is : text ≡ day_text p.first_day) (first_is : first ≡ text) where
  days_is : days ≡ day_count p
  days_is = omega (arith, of_text.period.midnights.count)

  pub reached : StartIsReached → IsReached (start p)
  reached law =
      let dated = subst (λ f. IsPeriodText f days zone p) (first_is ∙ text_is) of_text in
      let counted = subst (λ n. IsPeriodText (day_text p.first_day) n zone p) days_is dated in
      law p (subst (λ z. IsPeriodText (day_text p.first_day) (day_count p) z p) (sym of_text.zone_is) counted)

  first_table : (table : Table) → new_tables (day_text p.first_day) (day_count p) p.zone table ≡ first_rows p table
  first_table Meta = refl
  first_table Cause = refl
  first_table Node = refl
  first_table Device = refl
  first_table Life = refl
  first_table Customer = refl
  first_table Entry = refl
  first_table Mark = refl
  first_table Command = refl
  first_table Moved = refl
  first_table Posting = refl

  -- the tables of a new book are those of no command
  pub tables_are : StartHasFirstRows → (table : Table) → IsPermutation (new_tables text days zone table) (tables_of (start p) table)
  tables_are law table =
      let parts : new_tables text days zone table ≡ new_tables (day_text p.first_day) (day_count p) p.zone table =
      ap (λ f. new_tables f days zone table) text_is ∙ ap₂ (λ n z. new_tables (day_text p.first_day) n z table) days_is (sym of_text.zone_is) in
      subst (IsPermutation (new_tables text days zone table)) (parts ∙ first_table table ∙ sym (law p table)) (IsPermutation-refl (new_tables text days zone table))

  pub first_short : IsShort text
  first_short = let long : length text ≡ 10 = ap length text_is ∙ date_length p.first_day in omega (arith, long)

  pub zone_short : IsShort zone
  zone_short = let long = of_text.rule_is.len in omega (arith, long)

  module _ {S : Type 0} (g : Ghosts S) (old new : Held S) (firsts : StartHasFirstRows) where
    -- the rows that were undone are those of a new book
    undone_as : HasCommitCause g (state g old) (state g new) (new_tables text days zone)
        → HasFailed (state g old) (state g new) ⊎ ((q : Calendar) × IsPeriodText first days zone q × WasUndone g (state g new) (tables_of (start q)))
    undone_as (inl failed) = inl failed
    undone_as (inr it) =
        let trees = (state g it.0).now.trees in
        let holds : Holds trees (tables_of (start p)) = holds_as (new_tables text days zone) (tables_of (start p)) (tables_are firsts) trees it.1 in
        inr (p, of_text, (it.0, holds, it.2))

    pub caused : (stop : Stop) → (stop ≡ Fault Store → IsShort text → IsShort zone → HasCommitCause g (state g old) (state g new) (new_tables text days zone))
        → HasCreateCause g {X = ⊤} old new first days zone (Err stop)
    caused stop told = λ store. undone_as (told store first_short zone_short)

    pub kept : StartIsReached → Keeps (state g new) (new_tables text days zone) → KeepsBook (state g new) (start p)
    kept law keeps = record { kept = keeps_as (new_tables text days zone) (tables_of (start p)) (tables_are firsts) (state g new) keeps; reached = reached law; valid = tt }

    -- what was kept is kept on
    on : (HasCleanDisk (state g new) → HasCleanDisk (state g old)) → StaysOrBegins (state g old) (state g new) (new_tables text days zone) → KeepsOn (state g old) (state g new)
    on clean either = keeps_on (state g old) (state g new) clean either.shown (new_tables text days zone) either.left

    may_begin : StartIsReached → (HasCleanDisk (state g new) → HasCleanDisk (state g old)) → StaysOrBegins (state g old) (state g new) (new_tables text days zone) → MayBegin g old new first days zone
    may_begin law clean it = (
      p,
      of_text,
      reached law,
      on clean it,
      record {
        shown = it.shown;
        left = λ clean trees may. elim (it.left clean trees may) [
          | inl before ↦ inl before
          | inr begins ↦ inr (begins.0, begins.1, leaves_as (new_tables text days zone) (tables_of (start p)) (tables_are firsts) trees begins.2)
        ];
      },
    )

    -- the commit failed, or what goes before it
    pub failed : StartIsReached → (HasCleanDisk (state g new) → HasCleanDisk (state g old)) → (stop : Stop) → (stop ≡ Refused BadBook) ⊎ IsStoreFault stop → (stop ≡ Refused BadBook → (state g old).now.schema ≢ no_schema)
        → (stop ≢ Fault Store → Stays (state g old) (state g new)) → StaysOrBegins (state g old) (state g new) (new_tables text days zone) → Creates g old new first days zone (Err stop)
    failed law clean stop (inl taken) full stays either =
        let other : stop ≢ Fault Store = λ e. absurd (cc) in
        subst (λ s. Creates g old new first days zone (Err s)) (sym taken) (p, of_text, full taken, record { stays = stays other; keeps = on clean either })
    failed law clean stop (inr (inl memory)) full stays either =
        let other : stop ≢ Fault Store = λ e. absurd (cc) in
        subst (λ s. Creates g old new first days zone (Err s)) (sym memory) (record { stays = stays other; keeps = on clean either })
    failed law clean stop (inr (inr store)) full stays either = subst (λ s. Creates g old new first days zone (Err s)) (sym store) (may_begin law clean either)
