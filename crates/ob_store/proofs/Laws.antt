-- What the commands of a version lead to.
use Rattle.std.proofs.Common.{◌≡◌, List, [], ◌∷◌, Option, Some, None, is_none, if◌then◌else◌, refl, sym, ap, subst, ◌∙◌}
use Rattle.std.proofs.lemmas.List.Elements.{All-nil}
use Rattle.ob_base.specs.declared.stop.Refusal.{Refusal}
use Rattle.ob_base.specs.Life.{whole_life}
use Rattle.ob_net.specs.declared.net.Device.{Device}
use Rattle.ob_time.specs.Calendar.{Calendar, day_count}
use Rattle.ob_time.specs.Dates.{day_text}
use Rattle.ob_time.specs.Period.{IsPeriodText}
use Rattle.ob_command.specs.declared.command.Command.{Command}
use Rattle.ob_state.specs.State.{BookState, empty_book}
use Rattle.ob_state.specs.Refusals.{refusal}
use Rattle.ob_state.specs.Next.{next, next_all}
use Rattle.ob_book.specs.Acts.{ActState, PeriodStays, acts, start}
use Rattle.ob_upgrade.specs.Laws.{AcceptedByBoth, LiveAlways, ReachedByBoth}
use Rattle.ob_upgrade.specs.Old.{old_acts, old_next_all}
use Rattle.ob_sql_rows.specs.declared.table.Table.TheVariants.{Command as CommandTable, Moved}
use Rattle.ob_sql_rows.specs.declared.version.Version.{Version}
use Rattle.ob_sql_rows.specs.declared.version.Version.TheVariants.{One, Two}
use Rattle.ob_record.specs.Reached.{IsReached, ReachedAreFew}
use Rattle.ob_record.specs.Tables.{moved_rows, tables_of}
use Rattle.ob_sql_read.specs.Distinct.{ActsAreAccepted, AreDistinct, MovedIsOf, ReachedByCommands}
use Rattle.ob_sql_read.specs.Moves.{commands_of}
use Rattle.ob_sql_read.specs.Ordered.{RowsHaveOneOrder}
use Rattle.ob_sql_read.specs.Reading.{command_rows}
use Rattle.ob_sql_check.specs.Laws.{OldIsReached, TablesAreAlike}
use Rattle.ob_store.specs.Books.{IsReachedIn, tables_in}
use Rattle.ob_store.specs.Laws.{Laws}

-- the period stays from state to state
led_from : (b : BookState) (c : Command) (more : List Command) (s : BookState) → next_all b (c ∷ more) ≡ Some s → next_all (next b c) more ≡ Some s
led_from b c more s led = elim (refusal b c) as (λ (o : Option Refusal). (if is_none o then next_all (next b c) more else None) ≡ Some s → next_all (next b c) more ≡ Some s) [
  | None ↦ λ e. e
  | Some r ↦ λ e. absurd cc
] led

same_period : PeriodStays → (b : BookState) (list : List Command) (s : BookState) → next_all b list ≡ Some s → s.period ≡ b.period
same_period stays b [] s led = let e : b ≡ s = cc in ap (λ (x : BookState). x.period) (sym e)
same_period stays b (c ∷ more) s led = same_period stays (next b c) more s (led_from b c more s led) ∙ stays b c

-- the period of a book is the one that its texts name
pub dated_in : (v : Version) (b : ActState) → IsReachedIn v b → IsPeriodText (day_text b.book.period.first_day) (day_count b.book.period) b.book.period.zone b.book.period
dated_in One b r = r.period
dated_in Two b r = r.period

-- the rows of the commands of a book
pub rows_are : (v : Version) (b : ActState) → command_rows v b.accepted ≡ tables_in v b CommandTable
rows_are One b = refl
rows_are Two b = refl

-- a new book has no device
alive : (p : Calendar) → LiveAlways (empty_book p)
alive p = All-nil (λ (d : Device). d.life ≡ whole_life)

module _ (few : ReachedAreFew) (accepted : ActsAreAccepted) (reaching : ReachedByCommands) (rows_of : MovedIsOf) (stays : PeriodStays) where
  all_taken : (b : ActState) → IsReached b → (acts (start b.book.period) b.accepted).accepted ≡ b.accepted
  all_taken b r = ap (λ (x : ActState). x.accepted) r.in_turn

  end_is : (b : ActState) → IsReached b → (acts (start b.book.period) b.accepted).book ≡ b.book
  end_is b r = ap (λ (x : ActState). x.book) r.in_turn

  distinct_now : (b : ActState) → IsReached b → AreDistinct b.accepted
  distinct_now b r = (accepted b.book.period b.accepted (all_taken b r)).0

  moved_now : (b : ActState) → IsReached b → moved_rows (empty_book b.book.period) 1 b.accepted ≡ tables_of b Moved
  moved_now b r = rows_of b.book.period b.accepted (all_taken b r) ∙ ap (λ (x : ActState). tables_of x Moved) r.in_turn

  dated_as : (p : Calendar) (s : BookState) → s.period ≡ p → IsPeriodText (day_text p.first_day) (day_count p) p.zone p → IsPeriodText (day_text s.period.first_day) (day_count s.period) s.period.zone s.period
  dated_as p s is text = subst (λ (q : Calendar). IsPeriodText (day_text q.first_day) (day_count q) q.zone q) (sym is) text

  -- of the version that is written
  pub laws_now : RowsHaveOneOrder Two → Laws Two
  laws_now ordered = record {
    ordered = ordered;
    few = few;
    accepted = λ b r. (distinct_now b r, (accepted b.book.period b.accepted (all_taken b r)).1 ∙ ap Some (end_is b r));
    reached = λ p list s is text distinct led. record {
      period = dated_as p s is text;
      in_turn = ap (λ (q : Calendar). acts (start q) list) is ∙ reaching p list s distinct led;
    };
    moved = moved_now;
    stays = λ p list s led. same_period stays (empty_book p) list s led;
  }

  module _ (by_both : AcceptedByBoth) (one : ReachedByBoth) (old : OldIsReached) (alike : TablesAreAlike) where
    today : (p : Calendar) (list : List Command) (s : BookState) → old_next_all (empty_book p) list ≡ Some s → next_all (empty_book p) list ≡ Some s
    today p list s led = (by_both list (empty_book p) s (alive p) led).0

    -- of version 1
    pub laws_old : RowsHaveOneOrder One → Laws One
    laws_old ordered = record {
      ordered = ordered;
      few = λ b r. few b (old b r).0;
      accepted = λ b r. (distinct_now b (old b r).0, ((one b.book.period b).0 r.in_turn).1);
      reached = λ p list s is text distinct led.
          let now : acts (start p) list ≡ record { book = s; accepted = list } = reaching p list s distinct (today p (commands_of list) s led) in
          let before : old_acts (start p) list ≡ record { book = s; accepted = list } = (one p (record { book = s; accepted = list })).1 (now, led) in
          record { period = dated_as p s is text; in_turn = ap (λ (q : Calendar). old_acts (start q) list) is ∙ before };
      moved = λ b r. moved_now b (old b r).0 ∙ sym (alike b r Moved tt);
      stays = λ p list s led. same_period stays (empty_book p) list s (today p list s led);
    }
