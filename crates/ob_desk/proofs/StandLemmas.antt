-- How a keeper stands to a book, before a call and after it.
use Rattle.std.proofs.Common.{◌≡◌, ℕ, ◌-◌, List, [], ◌∷◌, Option, None, Some, ap, refl, subst, sym, ◌∙◌}
use Rattle.std.specs.Prelude.{◌↔◌, IsSome, Result, Ok, Err}
use Rattle.ob_base.specs.declared.stop.Fault.{Fault}
use Rattle.ob_base.specs.declared.stop.Fault.TheVariants.{Store}
use Rattle.ob_state.specs.State.{BookState}
use Rattle.ob_book.specs.Acts.{ActState}
use Rattle.ob_store.specs.Calls.{WasClean}
use Rattle.ob_store.specs.Keepers.{Ghosts, book_of}
use Rattle.ob_store.specs.declared.keeper.Keeper.{Keeper}
use Rattle.ob_http_requests.specs.Message.{Message}
use Rattle.ob_desk.specs.Exchanges.{Replies}
use Rattle.ob_desk.specs.Standing.{IsKept, Over, Stands, fault_of}

-- requests bring no book
stays-none : (allowed : ℕ) (ms : List Message) (text : List ℕ) (c : ActState) → Replies allowed None ms text (Some c) → ⊥
stays-none allowed [] text c (none, same) = cc
stays-none allowed (m ∷ ms) text c (reply, more, None, answers, is, rest) = stays-none (allowed - 1) ms more c rest
stays-none allowed (m ∷ ms) text c (reply, more, Some d, answers, is, rest) = absurd answers

pub is-some : {A : Type 0} (o : Option A) → (o ≡ None → ⊥) → IsSome o
is-some None h = absurd (h (λ i. None))
is-some (Some a) h = refl

not-none : {A : Type 0} (o : Option A) → IsSome o → o ≡ None → ⊥
not-none None some e = cc
not-none (Some a) some e = cc

-- the fault is that of the store exactly where the result says so
pub lost-by : {A : Type 0} (result : Result A Fault) (P : Type 0) → (P ↔ (result ≡ Err Store)) → (P ↔ (fault_of result ≡ Some Store))
lost-by result P (to, from) = ((λ p. ap fault_of (to p)), λ e. from (back result e))
  where
    back : {A : Type 0} (r : Result A Fault) → fault_of r ≡ Some Store → r ≡ Err Store
    back (Ok x) e = absurd (none-some e)
      where
        none-some : (let o : Option Fault = None in o) ≡ Some Store → ⊥
        none-some e = cc
    back (Err f) e = ap Err (same f e)
      where
        same : (f : Fault) → Some f ≡ Some Store → f ≡ Store
        same f e = cc

module _ {S T : Type 0} {g : Ghosts S} where
  -- nothing changed, and the store has not failed
  pub kept-same : (k : Keeper S T g) (fault : Option Fault) → (fault ≡ Some Store → ⊥) → IsKept k k fault
  kept-same k fault other = record {
    clean = λ disk. disk;
    unopened = λ none. refl;
    dropped = λ some. ((λ none. absurd (not-none (book_of k) some none)), λ lost. absurd (other lost));
  }

  -- one call after another, which met no fault
  pub kept-then : (old at new : Keeper S T g) (fault : Option Fault) → IsKept old at None → IsKept at new fault → IsKept old new fault
  kept-then old at new fault first second = record {
    clean = λ disk. first.clean (second.clean disk);
    unopened = λ none. let same = first.unopened none in second.unopened (ap (λ k. book_of k) same ∙ none) ∙ same;
    dropped = λ some. second.dropped (is-some (book_of at) (λ none. not-lost ((first.dropped some).0 none)));
  }
    where
      not-lost : (let o : Option Fault = None in o) ≡ Some Store → ⊥
      not-lost e = cc

  pub over-stands : (old new : Keeper S T g) (x : Option ActState) → Over old new x → Stands old x
  over-stands old new None h = h
  over-stands old new (Some b) (clean, ties, some) = (ties, some)

  pub over-before : (first at new : Keeper S T g) (x : Option ActState) → WasClean at new → Over first new x → Over first at x
  over-before first at new None clean h = h
  over-before first at new (Some b) clean (disk, ties, some) = (clean disk, ties, some)

  pub over-then : (old mid new : Keeper S T g) (x y : Option ActState) (allowed : ℕ) (ms : List Message) (text : List ℕ)
      → Replies allowed x ms text y → Over old new x → Stands mid y → Over mid new y
  over-then old mid new x None allowed ms text replies over stands = stands
  over-then old mid new None (Some c) allowed ms text replies over stands = absurd (stays-none allowed ms text c replies)
  over-then old mid new (Some b) (Some c) allowed ms text replies (disk, ties, some) stands = (disk, stands.0, stands.1)

  -- from the clauses of a call that ended so
  pub kept-by : {A : Type 0} (old new : Keeper S T g) (r : Result A Fault) (P : Type 0) → WasClean old new
      → (book_of old ≡ None → (new ≡ old) × P) → (IsSome (book_of old) → (book_of new ≡ None) ↔ (r ≡ Err Store)) → IsKept old new (fault_of r)
  kept-by old new r P clean unopened dropped = record {
    clean = clean;
    unopened = λ none. (unopened none).0;
    dropped = λ some. lost-by r (book_of new ≡ None) (dropped some);
  }

  -- without a fault a book stays one
  pub still-some : (old new : Keeper S T g) → IsKept old new None → IsSome (book_of old) → IsSome (book_of new)
  still-some old new kept some = is-some (book_of new) (λ none. not-lost ((kept.dropped some).0 none))
    where
      not-lost : (let o : Option Fault = None in o) ≡ Some Store → ⊥
      not-lost e = cc

  -- a fault that isn't the store's, after no fault
  pub kept-err : (old new : Keeper S T g) (fault : Fault) → (fault ≡ Store → ⊥) → IsKept old new None → IsKept old new (Some fault)
  kept-err old new fault other kept = record {
    clean = kept.clean;
    unopened = kept.unopened;
    dropped = λ some. ((λ none. absurd (not-lost ((kept.dropped some).0 none))), λ lost. absurd (other (same fault lost)));
  }
    where
      not-lost : (let o : Option Fault = None in o) ≡ Some Store → ⊥
      not-lost e = cc

      same : (f : Fault) → Some f ≡ Some Store → f ≡ Store
      same f e = cc

  pub kept-none : (k : Keeper S T g) → IsKept k k None
  kept-none k = kept-same k None not-lost
    where
      not-lost : (let o : Option Fault = None in o) ≡ Some Store → ⊥
      not-lost e = cc

  -- where there is no book now there was none before
  pub none-before : (old new : Keeper S T g) → IsKept old new None → book_of new ≡ None → book_of old ≡ None
  none-before old new kept none = by-book (book_of old) refl
    where
      by-book : (o : Option BookState) → book_of old ≡ o → book_of old ≡ None
      by-book None is = is
      by-book (Some b) is = absurd (not-none (book_of new) (still-some old new kept (subst (λ o. IsSome o) (sym is) refl)) none)
