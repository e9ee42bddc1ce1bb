-- What accepted commands moved adds up to what is posted.
use Rattle.std.proofs.Common.{◌≡◌, ◌∙◌, sym, ap, ap₂, subst, refl, ℕ, zero, suc, ◌+◌, pos, ◌+ℤ◌, ◌-ℤ◌, List, [], ◌∷◌, ◌++◌, fold, length, map, take, take_all, add-sub_cancel, arith}
use Rattle.std.specs.List.{flat_map, range_with_len}
use Rattle.std.proofs.lemmas.Grind.{flat_map-append}
use Rattle.std.proofs.lemmas.Int.{ints}
use Rattle.std.proofs.lemmas.List.Concat.{flat_map-cons}
use Rattle.std.proofs.lemmas.List.Folds.{flat_map-map}
use Rattle.std.proofs.lemmas.List.FromFn.{map-range_with_len_more}
use Rattle.ob_net.specs.Network.{grid_alone}
use Rattle.ob_time.specs.Calendar.{Calendar, day_count}
use Rattle.ob_post.specs.declared.Dim.{Dim}
use Rattle.ob_post.specs.declared.Moved.{Moved}
use Rattle.ob_post.specs.Keys.{IsKey}
use Rattle.ob_post.specs.Moved.{delta_of}
use Rattle.ob_post.specs.MoveLaws.{MovesAreOfChange}
use Rattle.ob_post.specs.SectionLaws.{Nobody}
use Rattle.ob_post.proofs.Deltas.{delta_of-append}
use Rattle.ob_state.specs.Amounts.{amount, days_of_book, moves}
use Rattle.ob_state.specs.State.{empty_book}
use Rattle.ob_book.specs.Acts.{ActState, Referenced, acts, book_at, of_commands, reply_of, start, take_on}
use Rattle.ob_book.specs.MovedSums.{moved_by_first, MovesAddUp, MovesAddUpToPostings}
use Rattle.ob_book.proofs.ActLaws.{acts_period, changed_period, state_is_of_commands}

-- with one command more there are its rows more
rows_more : (b : ActState) (n : ℕ) → moved_by_first b (n + 1) ≡ moved_by_first b n ++ ((reply_of b (n + 1)).moved ++ [])
rows_more b n =
    let rows : ℕ → List Moved = λ k. (reply_of b k).moved in
    let ones : List ℕ = map (λ k. k) (range_with_len 1 n) in
    sym (flat_map-map rows (λ k. k) (range_with_len 1 (n + 1)))
    ∙ ap (flat_map rows) (map-range_with_len_more (λ k. k) 1 n (n + 1) (omega arith))
    ∙ flat_map-append rows ones ((n + 1) ∷ [])
    ∙ ap₂ (λ (xs ys : List Moved). xs ++ ys) (flat_map-map rows (λ k. k) (range_with_len 1 n)) (flat_map-cons rows (n + 1) [])

moved_more : (b : ActState) (n : ℕ) (dim : Dim) (key : ℕ)
    → delta_of (moved_by_first b (n + 1)) dim key ≡ delta_of (moved_by_first b n) dim key +ℤ delta_of (reply_of b (n + 1)).moved dim key
moved_more b n dim key =
    let rows : List Moved = (reply_of b (n + 1)).moved in
    let all : delta_of (moved_by_first b (n + 1)) dim key ≡ delta_of (moved_by_first b n ++ (rows ++ [])) dim key = ap (λ (ms : List Moved). delta_of ms dim key) (rows_more b n) in
    omega (arith, ints, all, delta_of-append (moved_by_first b n) (rows ++ []) dim key, delta_of-append rows [] dim key)

-- accepted commands leave the period as it is
taken_period : (b : ActState) (list : List Referenced) → (fold take_on b list).book.period ≡ b.book.period
taken_period b [] = refl
taken_period b (a ∷ list) = taken_period (take_on b a) list ∙ changed_period b.book a.command

period_at : (b : ActState) (n : ℕ) → (book_at b n).period ≡ b.book.period
period_at b n = taken_period (start b.book.period) (take n b.accepted)

-- a command's rows move each amount from that of the book before it to that of the book after it
moved_at : MovesAreOfChange → (b : ActState) (n : ℕ) (dim : Dim) (key : ℕ) → IsKey (day_count b.book.period) dim key
    → delta_of (reply_of b (n + 1)).moved dim key ≡ pos (amount (book_at b (n + 1)) dim key) -ℤ pos (amount (book_at b n) dim key)
moved_at of_change b n dim key k =
    ap (λ (m : ℕ). delta_of (moves (book_at b m) (book_at b (n + 1))) dim key) (add-sub_cancel n 1)
    ∙ of_change (λ d q. pos (amount (book_at b (n + 1)) d q) -ℤ pos (amount (book_at b n) d q)) (day_count (book_at b n).period) dim key
    (subst (λ (p : Calendar). IsKey (day_count p) dim key) (sym (period_at b n)) k)

-- so the rows of the first commands add up
add_up : MovesAreOfChange → Nobody → (b : ActState) (n : ℕ) (dim : Dim) (key : ℕ) → IsKey (day_count b.book.period) dim key
    → delta_of (moved_by_first b n) dim key ≡ pos (amount (book_at b n) dim key)
add_up of_change nobody b zero dim key k = ap pos (sym (nobody grid_alone [] (days_of_book (empty_book b.book.period)) dim key))
add_up of_change nobody b (suc n) dim key k =
    let next : n + 1 ≡ suc n = omega arith in
    subst (λ (m : ℕ). delta_of (moved_by_first b m) dim key ≡ pos (amount (book_at b m) dim key)) next
    (omega (arith, ints, add_up of_change nobody b n dim key k, moved_more b n dim key, moved_at of_change b n dim key k))

pub moves_add_up : MovesAreOfChange → Nobody → MovesAddUp
moves_add_up of_change nobody p list n dim key k =
    add_up of_change nobody (acts (start p) list) n dim key
    (subst (λ (q : Calendar). IsKey (day_count q) dim key) (sym (acts_period (start p) list)) k)

-- the book after all accepted commands is the book
at_the_end : (p : Calendar) (list : List Referenced) → let b = acts (start p) list in book_at b (length b.accepted) ≡ b.book
at_the_end p list =
    let b : ActState = acts (start p) list in
    ap (λ s. s.book) (ap₂ (λ q xs. of_commands q xs) (acts_period (start p) list) (take_all (length b.accepted) b.accepted (omega arith)) ∙ sym (state_is_of_commands p list))

pub moves_add_up_to_postings : MovesAreOfChange → Nobody → MovesAddUpToPostings
moves_add_up_to_postings of_change nobody p list posted kept dim key k =
    let b : ActState = acts (start p) list in
    moves_add_up of_change nobody p list (length b.accepted) dim key k
    ∙ ap (λ d. pos (amount d dim key)) (at_the_end p list)
    ∙ ap pos (sym (kept.amounts dim key (subst (λ (q : Calendar). IsKey (day_count q) dim key) (sym (acts_period (start p) list)) k)))
