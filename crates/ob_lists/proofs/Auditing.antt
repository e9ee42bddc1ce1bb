-- What an audit finds of a book that the store may have.
use Rattle.std.proofs.Common.{◌≡◌, inl, inr, ℕ, List, [], ◌∷◌, Option, Some, None, Result, Ok, Err, IfErr, refl, ap, subst, ◌∙◌, arith}
use Rattle.std.specs.List.{AllByRecursion}
use Rattle.std.proofs.lemmas.List.Sorted.{IsPermutation-sym, IsPermutation-trans}
use Rattle.sqlite.specs.Order.{column}
use Rattle.sqlite.proofs.Callers.{one_permutation}
use Rattle.ob_base.specs.declared.stop.Stop.{Stop}
use Rattle.ob_base.specs.declared.stop.Stop.TheVariants.{Refused, Fault}
use Rattle.ob_base.specs.declared.stop.Refusal.{Refusal}
use Rattle.ob_base.specs.declared.stop.Refusal.TheVariants.{BadField, UnknownName, NameTaken, OutOfPeriod, UnknownEntry, Stale, Withdrawn, UnknownCustomer, BadService, RefConflict, Full, MarkedAlready, NotMarked, UnknownCause, BadPeriod, BadBook, BadLife, OldVersion}
use Rattle.ob_time.specs.Calendar.{day_count}
use Rattle.ob_time.specs.Dates.{day_text}
use Rattle.ob_book.specs.Acts.{ActState}
use Rattle.ob_sql_rows.specs.Rows.{Columns, meta_row, number}
use Rattle.ob_sql_rows.specs.declared.table.Table.{Table}
use Rattle.ob_sql_rows.specs.declared.table.Table.TheVariants.{Meta, Command}
use Rattle.ob_sql_rows.specs.declared.version.Version.TheVariants.{Two}
use Rattle.ob_sql_read.specs.Version.{HasVersion}
use Rattle.ob_record.specs.Naming.{IsReferenced}
use Rattle.ob_record.specs.Reached.{IsReached, ReachedAreFew}
use Rattle.ob_record.specs.Tables.{Shows, tables_of}
use Rattle.ob_store.specs.Calls.{Audited, OnOldTables, OnTables, Outdated, ReadAnswers}
use Rattle.ob_store.specs.Finding.{Differs, IsBookOf}
use Rattle.ob_store.specs.Keepers.{Ghosts, IsClean}
use Rattle.ob_store.specs.Loading.{Finding, trees_in}
use Rattle.ob_store.specs.Versions.{IsLoadFault}
use Rattle.ob_store.proofs.Counting.{rows_counted}
use Rattle.ob_store.proofs.KeeperLaws.{shows_old, states_old}
use Rattle.ob_store.specs.declared.keeper.Keeper.{Keeper}
use Rattle.ob_lists.specs.Going.{AuditsOne}
use Rattle.ob_lists.specs.Standing.{Stands}
use Rattle.ob_lists.proofs.Standings.{load_fault, old_book, told_old}

-- a heading of version 2 is of no other
not_two : (row : Columns) (first_day : List ℕ) (days : ℕ) (zone : List ℕ) → meta_row 2 first_day days zone ∷ [] ≡ row ∷ [] → column row 1 ≡ number 1 → ⊥
not_two row first_day days zone same one =
    let is : meta_row 2 first_day days zone ≡ row = cc in
    let two : number 2 ≡ number 1 = ap (λ r. column r 1) is ∙ one in
    absurd (let n : ◌≡◌ {A = ℕ} 2 1 = cc in omega (arith, n))

module _ {S T : Type 0} {g : Ghosts S} (few : ReachedAreFew) (old new : Keeper S T g) where
  -- the tables that are shown are those of a book
  module _ (b : ActState) (reached : IsReached b) (valid : AllByRecursion IsReferenced b.accepted) (rows : Differs (trees_in g old.parts.conn) b None) where
    book_there : IsBookOf (trees_in g old.parts.conn) b
    book_there = record {
      reached = reached;
      valid = valid;
      few = few b reached;
      period = (number 1, number 2, rows Meta);
      commands = rows_counted Two b.accepted (rows Command);
    }

    not_outdated : HasVersion 1 (trees_in g old.parts.conn) → ⊥
    not_outdated has =
        let same = one_permutation _ _ (IsPermutation-trans _ _ _ (IsPermutation-sym _ _ has.1) (rows Meta)) in
        not_two (has.0) (day_text b.book.period.first_day) (day_count b.book.period) b.book.period.zone same has.2

    -- none of them differs
    none_differs : (found : Option Table) → Finding (trees_in g old.parts.conn) found → found ≡ None
    none_differs None finding = refl
    none_differs (Some table) finding =
        let same : b ≡ finding.0 = finding.2 b book_there in
        absurd (finding.3.0 (subst (λ (x : ActState). Shows (trees_in g old.parts.conn) table (tables_of x table)) same (rows table)))

    never_refused : (r : Refusal) → Audited old new (Err (Refused r)) → ⊥
    never_refused (BadField at) told = told
    never_refused UnknownName told = told
    never_refused NameTaken told = told
    never_refused OutOfPeriod told = told
    never_refused UnknownEntry told = told
    never_refused (Stale revision) told = told
    never_refused Withdrawn told = told
    never_refused UnknownCustomer told = told
    never_refused BadService told = told
    never_refused (RefConflict id) told = told
    never_refused (Full most) told = told
    never_refused MarkedAlready told = told
    never_refused NotMarked told = told
    never_refused UnknownCause told = told
    never_refused BadPeriod told = told
    never_refused BadBook told = told.1 b book_there
    never_refused BadLife told = told
    never_refused (OldVersion version) told = not_outdated told.1.0

  module _ (Is : ActState → Type 0) (clean : IsClean new) (was_clean : IsClean old) where
    pub audits_one : (r : Result (Option Table) Stop) → ReadAnswers old new r → IfErr r IsLoadFault → OnTables old new (Audited old new r)
        → OnOldTables old new (Outdated old new r) → Stands Is old → AuditsOne Is old new r
    audits_one (Ok found) answers stops audited outdated (inl it) =
        let settled = it.ties.kept.kept.settled was_clean (answers.live clean tt) in
        none_differs it.book it.ties.kept.reached it.ties.kept.valid settled.holds.rows found (audited clean settled.schema).1
    audits_one (Ok found) answers stops audited outdated (inr (inl it)) =
        let settled = it.keeps.kept.settled was_clean (answers.live clean tt) in
        none_differs it.book it.keeps.reached it.keeps.valid settled.holds.rows found (audited clean settled.schema).1
    audits_one (Ok found) answers stops audited outdated (inr (inr it)) =
        let was = old_book old new Is it in
        absurd (outdated clean (shows_old old was.0 was.2 was_clean (answers.live clean tt)))
    audits_one (Err (Refused r)) answers stops audited outdated (inl it) =
        let settled = it.ties.kept.kept.settled was_clean (answers.live clean tt) in
        absurd (never_refused it.book it.ties.kept.reached it.ties.kept.valid settled.holds.rows r (audited clean settled.schema))
    audits_one (Err (Refused r)) answers stops audited outdated (inr (inl it)) =
        let settled = it.keeps.kept.settled was_clean (answers.live clean tt) in
        absurd (never_refused it.book it.keeps.reached it.keeps.valid settled.holds.rows r (audited clean settled.schema))
    audits_one (Err (Refused r)) answers stops audited outdated (inr (inr it)) =
        let was = old_book old new Is it in
        let live = answers.live clean tt in
        told_old old new Is (Option Table) r (states_old old was.0 was.2 was_clean live) it (outdated clean (shows_old old was.0 was.2 was_clean live))
    audits_one (Err (Fault f)) answers stops audited outdated stands = load_fault old new Is f stops was_clean clean answers stands
