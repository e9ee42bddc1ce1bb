-- What is shown after a list of calls is the headline of a book to which these may have led.
use Rattle.std.proofs.Common.{◌≡◌, ◌⊎◌, ◌∙◌, inl, inr, ap, sym, subst, refl, ℕ, true, false, ◌↔◌, List, [], ◌∷◌, append-nil, true≢false, Option, Some, None, Result, Ok, Err, IfOk, IfErr, IfSome, if◌then◌else◌}
use Rattle.std.specs.Prelude.{⊤, IsNone}
use Rattle.ob_base.specs.Stop.{out_of_memory}
use Rattle.ob_base.specs.declared.stop.Stop.{Stop}
use Rattle.ob_time.specs.Calendar.{Calendar, day_count}
use Rattle.ob_post.specs.Keys.{IsKey}
use Rattle.ob_post.specs.declared.Dim.{Dim}
use Rattle.ob_index.specs.declared.figures.Which.{Which}
use Rattle.ob_state.specs.State.{BookState}
use Rattle.ob_book.specs.Acts.{ActState, PeriodStays, Referenced, act, acts, is_accepted, take_on}
use Rattle.ob_store.specs.Keepers.{Ghosts, IsClean, Ties, book_of}
use Rattle.ob_store.specs.declared.keeper.Keeper.{Keeper}
use Rattle.ob_headline.specs.Headline.{HasNoAmount, IsHeadline}
use Rattle.ob_headline.specs.declared.figures.Shown.{Shown}
use Rattle.ob_lists.specs.Standing.{MayBe, Stands, Told}
use Rattle.ob_lists.specs.Going.{Goes, LoadsOne, ToldLaw}
use Rattle.ob_lists.specs.Headline.{IsShownAfter, LoadsAndShows}
use Rattle.ob_lists.proofs.Telling.{goes_on}

-- commands leave the period as it is
act_period : PeriodStays → (b : ActState) (a : Referenced) → (act b a).book.period ≡ b.book.period
act_period stays b a = elim (is_accepted b a) as (λ t. (if t then take_on b a else b).book.period ≡ b.book.period) [
  | true ↦ stays b.book a.command
  | false ↦ refl
]

acts_period : PeriodStays → (b : ActState) (list : List Referenced) → (acts b list).book.period ≡ b.book.period
acts_period stays b [] = refl
acts_period stays b (a ∷ list) = acts_period stays (act b a) list ∙ act_period stays b a

-- and so do whatever calls
may_be_of_period : PeriodStays → (b : ActState) (told : List Told) (x : ActState) → MayBe b told x → x.book.period ≡ b.book.period
may_be_of_period stays b [] x is = ap (λ s. s.book.period) is
may_be_of_period stays b (t ∷ before) x may =
    let on = goes_on b x t before may in
    ap (λ s. s.book.period) on.3 ∙ acts_period stays on.0 on.2 ∙ may_be_of_period stays b before on.0 on.1

module _ {S T : Type 0} {g : Ghosts S} (stays : PeriodStays) (holds : ToldLaw) (b : ActState) (told : List Told) (k : Keeper S T g) (dim : Dim) (key : ℕ)
    (which : Which) where
  -- a book that the calls may have led to, and that is tied to the keeper
  of_one : (x : ActState) → MayBe b told x → Ties k x → (shown : Shown) → IsHeadline x dim key which shown
      → IsShownAfter b told k dim key which shown
  of_one x may ties shown headline = record {
    book = x;
    may_be = may;
    ties = ties;
    period = may_be_of_period stays b told x may;
    has = λ a has. holds b x told a may has;
    headline = headline;
  }

  -- the keeper has no book, so none is shown
  not_shown : (s : Shown) → book_of k ≡ None → IsNone (Some s) ↔ HasNoAmount (book_of k) dim key → IsShownAfter b told k dim key which s
  not_shown s lost none = absurd (true≢false (none.1 (subst (λ (o : Option BookState). HasNoAmount o dim key) (sym lost) tt)))

  pub shows : (result : Result (Option Shown) Stop) → ((y : ActState) → Ties k y → IfOk result (λ s. IfSome s (IsHeadline y dim key which)))
      → IfOk result (λ s. IsNone s ↔ HasNoAmount (book_of k) dim key) → Stands (MayBe b told) k
      → IfOk result (λ s. IfSome s (IsShownAfter b told k dim key which))
  shows (Err stop) headline none stands = tt
  shows (Ok None) headline none stands = tt
  shows (Ok (Some s)) headline none (inl it) = of_one it.book it.is it.ties s (headline it.book it.ties)
  shows (Ok (Some s)) headline none (inr (inl it)) = not_shown s it.lost none
  shows (Ok (Some s)) headline none (inr (inr (inl it))) = not_shown s it.lost none
  shows (Ok (Some s)) headline none (inr (inr (inr it))) = not_shown s it.lost none

  -- the book that a load found
  found_shows : (old : Keeper S T g) (result : Result (Option Shown) Stop) (x : ActState) → MayBe b told x → Ties k x → book_of k ≡ Some x.book
      → ((y : ActState) → Ties k y → IfOk result (λ s. IfSome s (IsHeadline y dim key which)))
      → IfOk result (λ s. IsNone s ↔ HasNoAmount (book_of k) dim key) → IfErr result (λ stop. stop ≡ out_of_memory)
      → LoadsAndShows b told k dim key which old result
  found_shows old (Ok (Some s)) x may ties has headline none fault = of_one x may ties s (headline x ties)
  found_shows old (Ok None) x may ties has headline none fault =
      subst (λ (q : Calendar). ¬ (IsKey (day_count q) dim key)) (may_be_of_period stays b told x may)
      (subst (λ (o : Option BookState). HasNoAmount o dim key) has (none.0 refl))
  found_shows old (Err stop) x may ties has headline none fault =
      subst (λ (s : Stop). LoadsOne (MayBe b told) old k (Err s)) (sym fault) tt

  pub loaded_shows : (result : Result (Option Shown) Stop)
      → ((y : ActState) → Ties k y → IfOk result (λ s. IfSome s (IsHeadline y dim key which)))
      → IfOk result (λ s. IsNone s ↔ HasNoAmount (book_of k) dim key) → IfErr result (λ stop. stop ≡ out_of_memory)
      → (old : Keeper S T g) (done : ⊤) → LoadsOne (MayBe b told) old k (Ok done) → LoadsAndShows b told k dim key which old result
  loaded_shows result headline none fault old done found = found_shows old result found.0 found.1 found.2 found.3 headline none fault

-- a list of calls that began with a new book
pub goes_from : {S T R U : Type 0} {g : Ghosts S} {h : Ghosts R} (b : ActState) (told : List Told) (first : Keeper R U h) (old : Keeper S T g)
    → Stands (MayBe b []) first → Goes told first old → IsClean old → Stands (MayBe b told) old
goes_from b told first old begun goes clean =
    subst (λ (all : List Told). Stands (MayBe b all) old) (append-nil told) (goes.stands clean b [] begun)

-- where what is shown after a load is lacking, memory was refused
pub without_memory : {X Has : Type 0} (Stops : Stop → Type 0) (r : Result X Stop) → Has → IfErr r (λ stop. stop ≡ out_of_memory)
    → IfErr r (λ stop. Stops stop ⊎ (Has × (stop ≡ out_of_memory)))
without_memory Stops (Ok x) has none = tt
without_memory Stops (Err stop) has none = inr (has, none)
