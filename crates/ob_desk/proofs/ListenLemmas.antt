-- One stream after the other.
use Rattle.std.proofs.Common.{◌≡◌, ◌⊎◌, inl, inr, List, [], ◌∷◌, ◌++◌, length, ◌+◌, Option, None, Some, ap, refl, subst, sym, arith, length-append}
use Rattle.std.specs.Prelude.{◌↔◌, ⊤, IsSome, Result, Ok, Err, IfOk, IfErr}
use Rattle.ob_base.specs.declared.stop.Fault.{Fault}
use Rattle.ob_base.specs.declared.stop.Fault.TheVariants.{OutOfMemory, Store, Reopen, Input, Output}
use Rattle.ob_stream.specs.declared.watched.Watched.{Watched}
use Rattle.std.proofs.Common.{ℕ}
use Rattle.ob_book.specs.Acts.{ActState}
use Rattle.ob_store.specs.Calls.{IfHeld}
use Rattle.ob_store.specs.Keepers.{Ghosts, book_of}
use Rattle.ob_store.specs.declared.keeper.Keeper.{Keeper}
use Rattle.ob_desk.specs.Crashes.{IsLeft}
use Rattle.ob_desk.specs.Serving.{Fails, Serves}
use Rattle.ob_desk.specs.Standing.{IsKept, Over, fault_of}
use Rattle.ob_desk.specs.Listening.{LeavesKeeper, ServesEach, ServesStream, ServesStreams, Streamed, desk_end, last_fault}
use Rattle.ob_desk.specs.declared.listen.Unserved.{Unserved}
use Rattle.ob_desk.specs.declared.listen.Unserved.TheVariants as unserved
use Rattle.ob_desk.specs.declared.stream.Served.{Served}
use Rattle.ob_desk.proofs.CrashLemmas.{fails-left, left-then, serves-left}
use Rattle.ob_desk.proofs.StandLemmas.{kept-then, none-before, still-some}

some-is-none : {A : Type 0} {x : A} → Some x ≡ None → ⊥
some-is-none e = cc

none-is-some : {A : Type 0} {x : A} → None ≡ Some x → ⊥
none-is-some e = cc

same-end : (x y : Unserved) → Some x ≡ Some y → x ≡ y
same-end x y e = cc

-- what ends the desk is one of two
pub end-is : (fault : Fault) (end : Unserved) → desk_end fault ≡ Some end
    → ((fault ≡ Store) × (end ≡ unserved.Store)) ⊎ ((fault ≡ Reopen) × (end ≡ unserved.Reopen))
end-is OutOfMemory end e = absurd (none-is-some e)
end-is Store end e = inl (refl, sym (same-end unserved.Store end e))
end-is Reopen end e = inr (refl, sym (same-end unserved.Reopen end e))
end-is Input end e = absurd (none-is-some e)
end-is Output end e = absurd (none-is-some e)

store-is-not-reopen : (let r : Result ⊤ Unserved = Err unserved.Store in r) ≡ Err unserved.Reopen → ⊥
store-is-not-reopen e = cc

module _ {S T : Type 0} {g : Ghosts S} where
  pub result-left : {R W : Type 0} (r : Result Served Fault) (stream left had has : Option (List ℕ)) (reader : Watched R) (writer : Watched W) (old new : Keeper S T g) (b : ActState)
      → IfOk r (λ served. Serves stream had has old new served.requests) → IfErr r (Fails stream left had has reader writer old new) → Over old new (Some b) → IsLeft new b (fault_of r)
  result-left (Ok served) stream left had has reader writer old new b serves fails over = serves-left stream had has old new served.requests b serves over
  result-left (Err fault) stream left had has reader writer old new b serves fails over = fails-left stream left had has reader writer old new fault b fails over

  kept-none-of : (old new : Keeper S T g) (fault : Fault) → (Some fault ≡ Some Store → ⊥) → IsKept old new (Some fault) → IsKept old new None
  kept-none-of old new fault other kept = record {
    clean = kept.clean;
    unopened = kept.unopened;
    dropped = λ some. ((λ none. absurd (other ((kept.dropped some).0 none))), λ lost. absurd (none-is-some lost));
  }

  -- the book goes on after a fault that doesn't end the desk
  pub kept-on : (old new : Keeper S T g) (fault : Fault) → desk_end fault ≡ None → IsKept old new (Some fault) → IsKept old new None
  kept-on old new OutOfMemory on kept = kept-none-of old new OutOfMemory (λ e. cc) kept
  kept-on old new Store on kept = absurd (some-is-none on)
  kept-on old new Reopen on kept = absurd (some-is-none on)
  kept-on old new Input on kept = kept-none-of old new Input (λ e. cc) kept
  kept-on old new Output on kept = kept-none-of old new Output (λ e. cc) kept

  pub left-on : (new : Keeper S T g) (b : ActState) (fault : Fault) → desk_end fault ≡ None → IsLeft new b (Some fault) → IsLeft new b None
  left-on new b OutOfMemory on left = left
  left-on new b Store on left = absurd (some-is-none on)
  left-on new b Reopen on left = absurd (some-is-none on)
  left-on new b Input on left = left
  left-on new b Output on left = left

  -- one stream more
  pub left-more : (old at new : Keeper S T g) (fault : Option Fault) → IsKept old at None → IsKept at new fault
      → IfHeld old at (λ b. IsLeft at b None)
      → IfHeld at new (λ b. IsLeft new b fault)
      → IfHeld old new (λ b. IsLeft new b fault)
  left-more old at new fault kept more so-far one disk b ties some =
      let before = so-far (more.clean disk) b ties some in
      left-then new b before.0 fault (one disk _ before.1 (still-some old at kept some))

  -- what a desk's end says of its keeper
  pub dropped-by : (old new : Keeper S T g) (r : Result ⊤ Unserved) → IsKept old new (last_fault r) → IsSome (book_of old) → (book_of new ≡ None) ↔ (r ≡ Err unserved.Store)
  dropped-by old new (Ok done) kept some = ((λ none. absurd (none-is-some ((kept.dropped some).0 none))), λ e. cc)
  dropped-by old new (Err unserved.Listener) kept some = ((λ none. absurd (none-is-some ((kept.dropped some).0 none))), λ e. cc)
  dropped-by old new (Err unserved.Store) kept some = ((λ none. refl), λ e. (kept.dropped some).1 refl)
  dropped-by old new (Err unserved.Reopen) kept some = ((λ none. let same = (kept.dropped some).0 none in cc), λ e. cc)

  abbrev pub IsLeftSoFar : Keeper S T g → Keeper S T g → Option Fault → Type 0
  IsLeftSoFar old new fault = IfHeld old new (λ b. IsLeft new b fault)

  -- one stream, from the clauses of its call
  pub streamed : (old new : Keeper S T g) (fault : Fault) → IsKept old new (Some fault) → ((let r : Result Served Fault = Err fault in r) ≡ Err Reopen → book_of old ≡ None) → IsLeftSoFar old new (Some fault)
      → Streamed old new (Some fault)
  streamed old new fault kept reopen left = record { kept = kept; reopen = λ e. reopen (back fault e); left = left }
    where
      back : (f : Fault) → Some f ≡ Some Reopen → (let r : Result Served Fault = Err f in r) ≡ Err Reopen
      back f e = ap Err (same f e)
        where
          same : (f : Fault) → Some f ≡ Some Reopen → f ≡ Reopen
          same f e = cc

  pub streamed-on : (old new : Keeper S T g) → IsKept old new None → IsLeftSoFar old new None → Streamed old new None
  streamed-on old new kept left = record { kept = kept; reopen = λ e. absurd (none-is-some e); left = left }

  leaves-by : (old new : Keeper S T g) (r : Result ⊤ Unserved) → IsKept old new (last_fault r) → (r ≡ Err unserved.Reopen → book_of old ≡ None)
      → IsLeftSoFar old new (last_fault r) → LeavesKeeper old new r
  leaves-by old new r kept reopen left = record {
    clean = kept.clean;
    unopened = kept.unopened;
    dropped = dropped-by old new r kept;
    reopen = reopen;
    left = left;
  }

  -- no stream ended the desk
  pub leaves-on : (old new : Keeper S T g) (r : Result ⊤ Unserved) → last_fault r ≡ None → IsKept old new None → IsLeftSoFar old new None
      → LeavesKeeper old new r
  leaves-on old new (Ok done) on kept left = leaves-by old new (Ok done) kept (λ e. cc) left
  leaves-on old new (Err unserved.Listener) on kept left = leaves-by old new (Err unserved.Listener) kept (λ e. cc) left
  leaves-on old new (Err unserved.Store) on kept left = absurd (some-is-none on)
  leaves-on old new (Err unserved.Reopen) on kept left = absurd (some-is-none on)

  -- the store failed in the last stream
  leaves-lost : (old at new : Keeper S T g) → IsKept old at None → IsLeftSoFar old at None → Streamed at new (Some Store) → LeavesKeeper old new (Err unserved.Store)
  leaves-lost old at new kept left one =
      leaves-by old new (Err unserved.Store) (kept-then old at new (Some Store) kept one.kept) (λ e. absurd (store-is-not-reopen e))
      (left-more old at new (Some Store) kept one.kept left one.left)

  -- or there was no book
  leaves-bookless : (old at new : Keeper S T g) → IsKept old at None → IsLeftSoFar old at None → Streamed at new (Some Reopen) → LeavesKeeper old new (Err unserved.Reopen)
  leaves-bookless old at new kept left one =
      leaves-by old new (Err unserved.Reopen) (kept-then old at new (Some Reopen) kept one.kept) (λ e. none-before old at kept (one.reopen refl))
      (left-more old at new (Some Reopen) kept one.kept left one.left)

  -- the last stream ended the desk
  pub leaves-ended : (old at new : Keeper S T g) (fault : Fault) (end : Unserved) → desk_end fault ≡ Some end → IsKept old at None → IsLeftSoFar old at None
      → Streamed at new (Some fault) → LeavesKeeper old new (Err end)
  leaves-ended old at new fault end e kept left one = elim (end-is fault end e) [
    | inl lost ↦ subst (λ x. LeavesKeeper old new (Err x)) (sym lost.1) (leaves-lost old at new kept left (subst (λ f. Streamed at new (Some f)) lost.0 one))
    | inr bookless ↦ subst (λ x. LeavesKeeper old new (Err x)) (sym bookless.1) (leaves-bookless old at new kept left (subst (λ f. Streamed at new (Some f)) bookless.0 one))
  ]

  module _ {L : Type 0} (tells : L → Fault → L → Type 0) where
    -- one stream more was served
    pub each-more : (old at new : Keeper S T g) (was mid is : L) (ends : List (Option Fault)) (end : Option Fault)
        → ServesEach tells old at was mid ends → ServesStream tells at new mid is end → ServesEach tells old new was is (ends ++ end ∷ [])
    each-more old at new was mid is [] end (same, silent) one =
        (new, is, subst (λ k. ServesStream tells k new was is end) same (subst (λ l. ServesStream tells at new l is end) silent one), (refl, refl))
    each-more old at new was mid is (first ∷ ends) end (k, l, served, rest) one = (k, l, served, each-more k at new l mid is ends end rest one)

    -- the streams so far: these many of those that were to be taken
    pub record SoFar (old new : Keeper S T g) (was is : L) (most left : ℕ) : Type 0 where
      pub ends : List (Option Fault)
      pub count : length ends + left ≡ most
      pub each : ServesEach tells old new was is ends

    pub starts : (k : Keeper S T g) (l : L) (most : ℕ) → SoFar k k l l most most
    starts k l most = record { ends = []; count = omega arith; each = (refl, refl) }

    pub goes : (old at new : Keeper S T g) (was mid is : L) (most left less : ℕ) (end : Option Fault) → left ≡ less + 1
        → SoFar old at was mid most left → ServesStream tells at new mid is end → SoFar old new was is most less
    goes old at new was mid is most left less end one so-far served = record {
      ends = so-far.ends ++ end ∷ [];
      count = omega (arith, one, so-far.count, length-append so-far.ends (end ∷ []));
      each = each-more old at new was mid is so-far.ends end so-far.each served;
    }

    -- the last stream ended the desk
    pub ended : (old at new : Keeper S T g) (was is : L) (most left less : ℕ) (fault : Fault) (end : Unserved) → desk_end fault ≡ Some end → left ≡ less + 1
        → SoFar old at was is most left → Streamed at new (Some fault) → ServesStreams tells old new was is most less (Err end)
    ended old at new was is most left less fault end e one so-far last = elim (end-is fault end e) [
      | inl lost ↦ subst (λ x. ServesStreams tells old new was is most less (Err x)) (sym lost.1)
          (so-far.ends, last-count, (at, so-far.each, subst (λ f. Streamed at new (Some f)) lost.0 last))
      | inr bookless ↦ subst (λ x. ServesStreams tells old new was is most less (Err x)) (sym bookless.1)
          (so-far.ends, last-count, (at, so-far.each, subst (λ f. Streamed at new (Some f)) bookless.0 last))
    ]
      where
        last-count : length so-far.ends + less + 1 ≡ most
        last-count = omega (arith, one, so-far.count)
