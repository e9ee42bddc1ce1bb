-- A book of five seconds, computed from its commands: a section S1 behind one breaker B1, with one customer from second 2 on. The
-- breaker is opened at 1, so the customer is interrupted in the seconds 2, 3 and 4; closed at 3, which leaves the second 2; and the
-- closing is corrected to 4, which leaves 2 and 3.
use Rattle.std.proofs.Common.{◌≡◌, ℕ, List, [], ◌∷◌, ◌++◌, refl, None, codes, pos, negsuc}
use Rattle.ob_net.specs.Walk.{is_supplied, is_connected}
use Rattle.ob_base.specs.declared.Pos.TheVariants.{Opened, Closed}
use Rattle.ob_time.specs.Calendar.{calendar}
use Rattle.ob_post.specs.Keys.{keys}
use Rattle.ob_post.specs.Moved.{delta_of}
use Rattle.ob_post.specs.declared.Dim.TheVariants.{Cause, Feeder, Day}
use Rattle.ob_command.specs.Commands.{operation_of, service_between}
use Rattle.ob_command.specs.Ranges.{end_names}
use Rattle.ob_command.specs.declared.command.Command.{Command}
use Rattle.ob_command.specs.declared.command.Command.TheVariants as commands
use Rattle.ob_book.specs.Acts.{ActState, Referenced, acts, reply_of, start}
use Rattle.ob_book.specs.MovedSums.{moved_by_first}
use Rattle.ob_headline.specs.Headline.{interrupted_seconds, interrupted_seconds_by}

abbrev under : List ℕ → Command → Referenced
under reference command = record { reference = reference; command = command }

abbrev network : List Referenced
network =
    under (codes "N1") (commands.Cause 3 (codes "STORM"))
    ∷ under (codes "N2") (commands.Section (codes "S1") 1)
    ∷ under (codes "N3") (commands.Device (record {
      name = codes "B1";
      ends = end_names (codes "GRID") (codes "S1");
      normal = Closed;
      life = service_between 0 None;
    }))
    ∷ under (codes "N4") (commands.Connect 1 (codes "S1") (service_between 2 None))
    ∷ []

abbrev switchings : List Referenced
switchings =
    under (codes "N5") (commands.Switch (codes "B1") (operation_of Opened 1 3 (codes "K1")))
    ∷ under (codes "N6") (commands.Switch (codes "B1") (operation_of Closed 3 3 (codes "K1")))
    ∷ under (codes "N7") (commands.Correct 2 1 (operation_of Closed 4 3 (codes "K1")))
    ∷ []

abbrev book : ActState
book = acts (start (calendar (pos 0) (0 ∷ 5 ∷ []) (codes "UTC0"))) (network ++ switchings)

total : interrupted_seconds book.book ≡ 2
unfolding is_supplied is_connected
total = refl

of_cause : interrupted_seconds_by book.book Cause 3 ≡ 2
unfolding is_supplied is_connected
of_cause = refl

of_feeder : interrupted_seconds_by book.book Feeder 1 ≡ 2
unfolding is_supplied is_connected
of_feeder = refl

of_day : interrupted_seconds_by book.book Day 0 ≡ 2
unfolding is_supplied is_connected
of_day = refl

-- the closing took two seconds away, and its correction gave one back
closed : delta_of (reply_of book 6).moved Cause 3 ≡ negsuc 1
unfolding is_supplied is_connected keys
closed = refl

corrected : delta_of (reply_of book 7).moved Cause 3 ≡ pos 1
unfolding is_supplied is_connected keys
corrected = refl

-- all seven commands together moved what is posted
all_moved : delta_of (moved_by_first book 7) Cause 3 ≡ pos 2
unfolding is_supplied is_connected keys
all_moved = refl
