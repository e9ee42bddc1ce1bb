-- What commands sent one after another may search, added up.
use Rattle.std.proofs.Common.{◌≡◌, ◌∙◌, refl, sym, ap, ℕ, ◌+◌, true, false, Option, Some, None, List, [], ◌∷◌, ◌++◌, fold, map, if◌then◌else◌, arith}
use Rattle.std.specs.Option.{option_map_or}
use Rattle.ob_net.specs.Network.{Network}
use Rattle.ob_sheet.specs.declared.Entry.{Entry}
use Rattle.ob_sweep.specs.declared.change.Change.{Change}
use Rattle.ob_time.specs.Calendar.{Calendar}
use Rattle.ob_command.specs.declared.command.Command.{Command}
use Rattle.ob_state.specs.Next.{changed, next}
use Rattle.ob_state.specs.Searches.{all_searches, change_of, most_searches}
use Rattle.ob_state.specs.State.{BookState, empty_book}
use Rattle.ob_book.specs.Acts.{ActState, Referenced, act, acts, is_accepted, of_commands, start, take_on}
use Rattle.ob_book.specs.Searches.{Bound, SearchesAddUp, SearchesOfBoth, searches_of_act, searches_of_acts, searches_of_replay}
use Rattle.ob_book.proofs.ActLaws.{acts_period, one_act}

abbrev commands_of : List Referenced → List Command
commands_of list = map (λ (a : Referenced). a.command) list

module _ (bound : Bound) where
  -- one command more
  one_more : (b : ActState) (list : List Referenced) (a : Referenced)
      → all_searches bound b.book (commands_of (list ++ a ∷ [])) ≡ all_searches bound b.book (commands_of list) + most_searches bound (fold take_on b list).book a.command
  one_more b [] a = omega arith
  one_more b (x ∷ list) a = omega (arith, one_more (take_on b x) list a)

  module _ (p : Calendar) where
    abbrev replayed : ActState → ℕ
    replayed b = all_searches bound (empty_book p) (commands_of b.accepted)

    one_act_more : (b : ActState) (a : Referenced) → b ≡ of_commands p b.accepted → replayed (act b a) ≡ replayed b + searches_of_act bound b a
    one_act_more b a of =
        elim (is_accepted b a) as (λ t. replayed (if t then take_on b a else b) ≡ replayed b + (if t then most_searches bound b.book a.command else 0)) [
          | true ↦ one_more (start p) b.accepted a ∙ ap (λ (s : ActState). replayed b + most_searches bound s.book a.command) (sym of)
          | false ↦ omega arith
        ]

    all_acts_more : (b : ActState) (list : List Referenced) → b ≡ of_commands p b.accepted → replayed (acts b list) ≡ replayed b + searches_of_acts bound b list
    all_acts_more b [] of = omega arith
    all_acts_more b (a ∷ list) of = omega (arith, one_act_more b a of, all_acts_more (act b a) list (one_act p b a of))

pub searches_add_up : SearchesAddUp
searches_add_up bound p list =
    ap (λ (q : Calendar). 1 + all_searches bound (empty_book q) (commands_of (acts (start p) list).accepted)) (acts_period (start p) list)
    ∙ (let all = all_acts_more bound p (start p) list refl in omega (arith, all))

pub searches_of_both : SearchesOfBoth
searches_of_both bound b [] ys = omega arith
searches_of_both bound b (x ∷ xs) ys = omega (arith, searches_of_both bound (act b x) xs ys)

-- ---- two bounds that are the same for each change
same_of_change : (f h : Change → ℕ) → ((c : Change) → f c ≡ h c) → (o : Option Change) → option_map_or f o 0 ≡ option_map_or h o 0
same_of_change f h same None = refl
same_of_change f h same (Some c) = same c

module _ (one other : Bound) (same : (net : Network) (entries : List Entry) (period : Calendar) (c : Change) → one net entries period c ≡ other net entries period c) where
  -- are so for each command
  pub same_of_command : (b : BookState) (command : Command) → most_searches one b command ≡ most_searches other b command
  same_of_command b command =
      same_of_change (one (changed b command).network b.entries b.period) (other (changed b command).network b.entries b.period)
      (same (changed b command).network b.entries b.period) (change_of b command)

  same_of_all : (b : BookState) (list : List Command) → all_searches one b list ≡ all_searches other b list
  same_of_all b [] = refl
  same_of_all b (c ∷ list) = omega (arith, same_of_command b c, same_of_all (next b c) list)

  -- and for each book
  pub same_of_replay : (b : ActState) → searches_of_replay one b ≡ searches_of_replay other b
  same_of_replay b = let all = same_of_all (empty_book b.book.period) (commands_of b.accepted) in omega (arith, all)
