-- What a text that reads the tables of a book answers, row by row.
use Rattle.std.proofs.Common.{◌≡◌, ℕ, List, [], ◌∷◌, ◌++◌, Some, None, IsTrue, false, refl, sym, ap, subst, ◌∙◌, arith, inl, inr}
use Rattle.sqlite.specs.Order.{Row}
use Rattle.sqlite.specs.Listing.{understood, reads_listing, IsSourceOf}
use Rattle.sqlite.specs.Effect.{Database, Reads}
use Rattle.sqlite.specs.Schema.{Schema}
use Rattle.sqlite.specs.Command.{Command as SqlCommand}
use Rattle.sqlite.specs.State.{State, HasCleanDisk, Shown, IsStatement, IsUnchanged, Survives, CommitsShowing}
use Rattle.sqlite.specs.Clock.{timed}
use Rattle.sqlite.specs.Held.{Held, state}
use Rattle.sqlite.specs.Given.{HasGiven, HasBegun, GivesOn}
use Rattle.sqlite_trees.specs.declared.store.Store.{Ghosts}
use Rattle.sqlite_resolve.specs.declared.compiled.Compiled.{Compiled}
use Rattle.sqlite.proofs.Callers.{IsPlain, EndsIn, command_of, reads_as, given_begin, begins_shown, begun_plain, unchanged_then}
use Rattle.ob_sql_read.specs.Listing.{ShowsNoWrite}
use Rattle.ob_sql_read.proofs.NoWrite.{commits_no_write}

pub same_state : (s : State) → IsTrue s.is_open → IsUnchanged s s
same_state s live = (record { was_open = live; is_open = live; now_is = refl; committed_is = refl; mode = refl }, record { changes = refl; last_rowid = refl }, refl)

append_one : (given : List Row) (row : Row) (rest : List Row) → (given ++ row ∷ []) ++ rest ≡ given ++ (row ∷ rest)
append_one [] row rest = refl
append_one (g ∷ given) row rest = ap (λ l. g ∷ l) (append_one given row rest)

-- a text that shows no rows of a write commits nothing
pub commits_none : (sql : List ℕ) → ShowsNoWrite sql → (old mid new : State) (text : List ℕ) → (HasCleanDisk mid → (text ≡ sql) × IsUnchanged old mid) → Survives mid new (CommitsShowing text [] mid) → Survives mid new (λ _. ⊥)
commits_none sql silent old mid new text prepared s = record {
  clean = s.clean;
  shield = s.shield;
  counts = s.counts;
  limit = s.limit;
  closes = s.closes;
  crash = λ clean db may.
      let early : HasCleanDisk mid = omega (arith, s.clean, clean) in
      elim (s.crash clean db may) [ inl before ↦ inl before | inr commits ↦ absurd (commits_no_write sql silent [] mid db (subst (λ x. CommitsShowing x [] mid db) (prepared early).0 commits)) ];
}

-- a text that is plain at a schema
module _ (at : Schema) (sql : List ℕ) (plain : IsPlain (understood at sql)) where
  plain_at : (schema : Schema) → schema ≡ at → IsPlain (understood schema sql)
  plain_at schema has = subst (λ x. IsPlain (understood x sql)) (sym has) plain

  -- begins with no row given
  pub begins_empty : {S : Type 0} (g : Ghosts S) (old mid new : Held S) (text : List ℕ) → (text ≡ sql) × IsUnchanged (state g old) (state g mid) → (state g old).now.schema ≡ at → HasBegun g text [] mid new
      → HasGiven g sql [] new [] × IsUnchanged (state g old) (state g new)
  begins_empty g old mid new text prepared has begun =
      let there : (state g mid).now.schema ≡ at = ap (λ (d : Database). d.schema) prepared.1.0.now_is ∙ has in
      let it = begun_plain g sql [] mid new (plain_at mid.schema there) (subst (λ x. HasBegun g x [] mid new) prepared.0 begun) in
      (it.0, unchanged_then (state g old) (state g mid) (state g new) prepared.1 it.1)

  module _ (command : SqlCommand) (means : command_of (understood at sql) ≡ command) (unlisted : reads_listing at sql ≡ false) where
    -- the rows that are shown are an answer
    pub answers : (old new : State) (rows : List Row) → old.now.schema ≡ at → Shown sql [] old new rows → Reads command old.now [] rows
    answers old new rows has h = reads_as sql [] old new at has command means plain unlisted rows h

    module _ (ends : (db : Database) (params : Row) → EndsIn command db params) {S : Type 0} (g : Ghosts S) where
      -- rows that were given begin an answer
      pub begin_answer : (h : Held S) (given : List Row) → (state g h).now.schema ≡ at → IsTrue (state g h).is_open → HasGiven g sql [] h given
          → (tail : List Row) × Reads command (state g h).now [] (given ++ tail)
      begin_answer h given has live it =
          let s = state g h in
          let all_end : (c : Compiled) (db : Database) (is : IsStatement s sql [] c) → IsSourceOf (reads_listing s.now.schema sql) s.now db → EndsIn c.command db (timed [] c.formats is.now) =
          λ c db is source. subst (λ k. EndsIn k db (timed [] c.formats is.now)) (sym means ∙ ap (λ x. command_of (understood x sql)) (sym has) ∙ ap command_of is.is) (ends db (timed [] c.formats is.now)) in
          let all = begins_shown sql [] s s given (given_begin g sql [] h given it) (same_state s live) all_end in
          (all.0, answers s s (given ++ all.0) has all.1)

      module _ (old new : Held S) (has : (state g old).now.schema ≡ at) (same : IsUnchanged (state g old) (state g new)) (given : List Row) where
        -- those so far are the answer
        pub whole_answer : GivesOn g sql [] old new given None → Reads command (state g new).now [] given
        whole_answer h = subst (λ (d : Database). Reads command d [] given) (sym same.0.now_is) (answers (state g old) (state g new) given has h)

        -- one more goes on in an answer
        pub on_answer : (row : Row) → GivesOn g sql [] old new given (Some row) → (rest : List Row) × Reads command (state g new).now [] (given ++ (row ∷ rest))
        on_answer row more =
            let all = begin_answer new (given ++ row ∷ []) (ap (λ (d : Database). d.schema) same.0.now_is ∙ has) same.0.is_open more in
            (all.0, subst (Reads command (state g new).now []) (append_one given row all.0) all.1)
