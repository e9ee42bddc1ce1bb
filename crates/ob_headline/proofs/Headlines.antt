-- What is shown of a state is what the headline states of its book.
use Rattle.std.proofs.Common.{◌≡◌, ◌∙◌, sym, ap, subst, refl, ℕ, ◌-◌, ◌↔◌, pos, ◌-ℤ◌, Bool, true, false, not, List, [], ◌∷◌, fold, length, take, sum_by}
use Rattle.std.specs.Prelude.{IsTrue}
use Rattle.std.proofs.lemmas.Bool.{and_from, and_parts, eq-eqb, eqb-true, false≢true}
use Rattle.ob_base.proofs.Intervals.{interval_is_longest}
use Rattle.ob_base.specs.declared.Pos.{Pos}
use Rattle.ob_net.specs.Network.{Network}
use Rattle.ob_net.specs.Walk.{IsSupplied, is_supplied}
use Rattle.ob_sheet.specs.declared.Entry.{Entry}
use Rattle.ob_sheet.specs.Order.{before, through, upto}
use Rattle.ob_sheet.specs.Positions.{positions}
use Rattle.ob_sheet.specs.Supply.{is_supplied_under}
use Rattle.ob_cust.specs.declared.Customer.{Customer}
use Rattle.ob_sweep.specs.Cutters.{cuts_off}
use Rattle.ob_time.specs.Calendar.{Calendar, day_count, end_second_of, first_second_of}
use Rattle.ob_post.specs.Keys.{IsKey, keys}
use Rattle.ob_post.specs.Moved.{delta_of}
use Rattle.ob_post.specs.MoveLaws.{MovesAreOfChange}
use Rattle.ob_post.specs.Postings.{PostedAmounts, amount_of, total_of}
use Rattle.ob_post.specs.TotalLaws.{TotalsAgree}
use Rattle.ob_post.specs.declared.Dim.{Dim}
use Rattle.ob_index.specs.Counts.{period_length}
use Rattle.ob_index.specs.Indices.{AreIndices}
use Rattle.ob_index.specs.declared.figures.Which.{Which}
use Rattle.ob_state.specs.Amounts.{amount}
use Rattle.ob_state.specs.State.{BookState}
use Rattle.ob_book.specs.Acts.{ActState, PeriodStays, Referenced, book_at, reply_of, start, take_on}
use Rattle.ob_book.specs.Books.{ArePosted}
use Rattle.ob_book.specs.MovedSums.{MovesAddUpToPostings, moved_by_first}
use Rattle.ob_book.specs.Views.{annual_table_of_book, counts_of_book, indices_of_book, indices_text_of_book, service_of_book, totals_of_book, without_supply_of_book}
use Rattle.ob_record.specs.Reached.{IsReached}
use Rattle.ob_headline.specs.Headline.{CutsOff, IsHeadline, IsInterrupted, is_interrupted}
use Rattle.ob_headline.specs.declared.figures.Shown.{Shown}

-- the test of supply says whether there is a walk
abbrev pub Walks : Type 0
Walks = (net : Network) (positions : List Pos) (v : ℕ) → IsTrue (is_supplied net positions v) ↔ IsSupplied net positions v

-- the test fails where P doesn't hold
not_is : (x : Bool) (P : Type 0) → IsTrue x ↔ P → IsTrue (not x) ↔ ¬ P
not_is true P says = (λ e. absurd (false≢true e), λ none. absurd (none (says.0 refl)))
not_is false P says = (λ e p. false≢true (says.1 p), λ none. refl)

unsupplied_where : Walks → (net : Network) (set : List Entry) (v s : ℕ)
    → IsTrue (not (is_supplied_under net set s v)) ↔ ¬ (IsSupplied net (positions net set s) v)
unsupplied_where walks net set v s = not_is (is_supplied_under net set s v) (IsSupplied net (positions net set s) v) (walks net (positions net set s) v)

pub says_interrupted : Walks → (b : BookState) (c : Customer) (s : ℕ) → IsTrue (is_interrupted b c s) ↔ IsInterrupted b c s
says_interrupted walks b c s =
    let without = unsupplied_where walks b.network (upto b.entries s) c.section s in (
      λ e. (let both = and_parts _ _ e in (both.0, without.0 both.1)),
      λ h. and_from _ _ h.0 (without.1 h.1),
    )

pub says_cut : Walks → (b : BookState) (v s : ℕ) (e : Entry) → IsTrue (cuts_off b.network b.entries v s e) ↔ CutsOff b v s e
says_cut walks b v s e =
    let with_path = walks b.network (positions b.network (before b.entries e) s) v in
    let without = unsupplied_where walks b.network (through b.entries e) v s in (
      λ t. (
          let all = and_parts _ _ t in
          let some = and_parts _ _ all.0 in
          let first = and_parts _ _ some.0 in
          (first.0, eqb-true e.second s first.1, with_path.0 some.1, without.0 all.1)
          ),
      λ h. and_from _ _ (and_from _ _ (and_from _ _ h.0 (eq-eqb e.second s h.1)) (with_path.1 h.2)) (without.1 h.3),
    )

-- accepted commands leave the period as it is
taken_period : PeriodStays → (b : ActState) (list : List Referenced) → (fold take_on b list).book.period ≡ b.book.period
taken_period stays b [] = refl
taken_period stays b (a ∷ list) = taken_period stays (take_on b a) list ∙ stays b.book a.command

period_at : PeriodStays → (b : ActState) (n : ℕ) → (book_at b n).period ≡ b.book.period
period_at stays b n = taken_period stays (start b.book.period) (take n b.accepted)

-- a command moved what its number records
pub recorded_at : PeriodStays → MovesAreOfChange → (b : ActState) (dim : Dim) (key : ℕ) → IsKey (day_count b.book.period) dim key → (n : ℕ)
    → delta_of (reply_of b n).moved dim key ≡ pos (amount (book_at b n) dim key) -ℤ pos (amount (book_at b (n - 1)) dim key)
recorded_at stays of_change b dim key k n =
    of_change (λ d q. pos (amount (book_at b n) d q) -ℤ pos (amount (book_at b (n - 1)) d q)) (day_count (book_at b (n - 1)).period) dim key
    (subst (λ (p : Calendar). IsKey (day_count p) dim key) (sym (period_at stays b (n - 1))) k)

-- what is shown of a state, by the calls that show it
pub record IsShownOf (s : BookState) (dim : Dim) (key : ℕ) (which : Which) (posted : PostedAmounts) (shown : Shown) : Type 0 where
  pub kept : IsKey (day_count s.period) dim key
  pub are : ArePosted s posted
  pub amount : shown.amount ≡ amount_of posted dim key
  pub total : shown.total ≡ total_of posted dim
  pub all : total_of posted dim ≡ without_supply_of_book s
  pub index : AreIndices (counts_of_book s which) (service_of_book s) (period_length s.period) shown.indices
  pub computed : shown.indices ≡ indices_of_book s which
  pub totals_json : shown.totals_text ≡ totals_of_book s
  pub indices_json : shown.indices_text ≡ indices_text_of_book s
  pub table : shown.annual_table ≡ annual_table_of_book s

module _ (walks : Walks) (stays : PeriodStays) (of_change : MovesAreOfChange) (agree : TotalsAgree) (add_up : MovesAddUpToPostings)
    (b : ActState) (reached : IsReached b) (dim : Dim) (key : ℕ) (which : Which) (posted : PostedAmounts) (shown : Shown) where
  -- all that the commands moved
  moved_all : ArePosted b.book posted → IsKey (day_count b.book.period) dim key
      → delta_of (moved_by_first b (length b.accepted)) dim key ≡ pos (amount_of posted dim key)
  moved_all are k =
      subst (λ (x : ActState). ArePosted x.book posted → delta_of (moved_by_first x (length x.accepted)) dim key ≡ pos (amount_of posted dim key)) reached.in_turn
      (λ are. add_up b.book.period b.accepted posted are dim key k) are

  -- the amounts of all keys
  parts : ArePosted b.book posted → total_of posted dim ≡ sum_by (amount b.book dim) (keys (day_count b.book.period) dim)
  parts are =
      agree posted (amount b.book) dim (λ q k. are.amounts dim q (subst (λ (n : ℕ). IsKey n dim q) are.days k))
      ∙ ap (λ (n : ℕ). sum_by (amount b.book dim) (keys n dim)) are.days

  of_book : IsShownOf b.book dim key which posted shown → IsHeadline b dim key which shown
  of_book it = record {
    of_list = reached.in_turn;
    period = reached.period;
    kept = it.kept;
    unsupplied = λ v s. unsupplied_where walks b.book.network (upto b.book.entries s) v s;
    interrupted = says_interrupted walks b.book;
    cuts = says_cut walks b.book;
    amount = it.amount ∙ it.are.amounts dim key it.kept;
    total = it.total ∙ it.all;
    parts = it.total ∙ parts it.are;
    recorded = λ n low high. recorded_at stays of_change b dim key it.kept n;
    adds_up = moved_all it.are it.kept ∙ ap pos (sym it.amount);
    longest = λ c i. interval_is_longest (is_interrupted b.book c) (first_second_of b.book.period) (end_second_of b.book.period) i;
    index = it.index;
    computed = it.computed;
    totals_json = it.totals_json;
    indices_json = it.indices_json;
    table = it.table;
  }

  pub headline : (s : BookState) → s ≡ b.book → IsShownOf s dim key which posted shown → IsHeadline b dim key which shown
  headline s same it = of_book (subst (λ (x : BookState). IsShownOf x dim key which posted shown) same it)
