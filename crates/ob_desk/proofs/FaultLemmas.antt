-- What the desk's calls tell of the faults of the store.
use Rattle.std.proofs.Common.{◌≡◌, List, Option, None, Some, ap, refl, subst, sym, ◌∙◌, inl, inr, is_ok, true≢false}
use Rattle.std.specs.Prelude.{⊤, IsSome, Result, Ok, Err, IfErr}
use Rattle.ob_base.specs.declared.stop.Fault.{Fault}
use Rattle.ob_base.specs.declared.stop.Fault.TheVariants.{OutOfMemory, Store, Reopen, Input, Output}
use Rattle.ob_stream.specs.Watching.{HasJustFailed}
use Rattle.ob_stream.specs.declared.watched.Watched.{Watched}
use Rattle.std.proofs.Common.{ℕ}
use Rattle.ob_book.specs.Acts.{ActState, Referenced, acts}
use Rattle.ob_store.specs.Calls.{IfHeld, TellsFaults}
use Rattle.ob_store.specs.Keepers.{Ghosts, Ties, book_of}
use Rattle.ob_store.proofs.Faults.{tells_as, tells_nothing, tells_then}
use Rattle.ob_store.specs.declared.keeper.Keeper.{Keeper}
use Rattle.ob_http_requests.specs.Reading.{Stops}
use Rattle.ob_desk.specs.Crashes.{IsLeft}
use Rattle.ob_desk.specs.Listening.{desk_end}
use Rattle.ob_desk.specs.Standing.{IsKept, Stands}
use Rattle.ob_desk.specs.declared.listen.Unserved.{Unserved}
use Rattle.ob_desk.specs.declared.listen.Unserved.TheVariants as unserved
use Rattle.ob_desk.proofs.CrashLemmas.{replies-act}
use Rattle.ob_desk.proofs.ListenLemmas.{end-is}
use Rattle.ob_desk.proofs.RunLemmas.{SoFar}
use Rattle.ob_desk.proofs.StandLemmas.{still-some}

-- ---- what is no fault of the store
pub ok-no-store : {A : Type 0} (x : A) → ◌≡◌ {A = Result A Fault} (Ok x) (Err Store) → ⊥
ok-no-store x e = true≢false (ap is_ok e)

pub same-err : {A B : Type 0} (f : Fault) → ◌≡◌ {A = Result A Fault} (Err f) (Err Store) → ◌≡◌ {A = Result B Fault} (Err f) (Err Store)
same-err f e = let same : f ≡ Store = cc in ap Err same

err-no-store : {A : Type 0} (f : Fault) → (f ≡ Store → ⊥) → ◌≡◌ {A = Result A Fault} (Err f) (Err Store) → ⊥
err-no-store f other e = let same : f ≡ Store = cc in other same

output-no-store : Output ≡ Store → ⊥
output-no-store e = cc

pub memory-no-store : {A : Type 0} → ◌≡◌ {A = Result A Fault} (Err OutOfMemory) (Err Store) → ⊥
memory-no-store e = let same : OutOfMemory ≡ Store = cc in cc

pub output-no-loss : {A : Type 0} → ◌≡◌ {A = Result A Fault} (Err Output) (Err Store) → ⊥
output-no-loss e = let same : Output ≡ Store = cc in cc

pub input-no-store : {A : Type 0} → ◌≡◌ {A = Result A Fault} (Err Input) (Err Store) → ⊥
input-no-store e = let same : Input ≡ Store = cc in cc

pub written-no-store : {A W : Type 0} (r : Result A Fault) (writer : Watched W) → IfErr r (λ f. (f ≡ Output) × HasJustFailed writer) → r ≡ Err Store → ⊥
written-no-store (Ok x) writer failed e = ok-no-store x e
written-no-store (Err f) writer failed e = err-no-store f (λ is. output-no-store (sym failed.0 ∙ is)) e

pub unread-no-store : {A R W : Type 0} (had left wrote writes : Option (List ℕ)) (reader : Watched R) (writer : Watched W) (fault : Fault)
    → Stops had left wrote writes reader writer fault → ◌≡◌ {A = Result A Fault} (Err fault) (Err Store) → ⊥
unread-no-store {A = A} had left wrote writes reader writer fault stops e =
    err-no-store {A = A} fault (λ is. subst (λ f. Stops had left wrote writes reader writer f) is stops) e

module _ {S T : Type 0} {g : Ghosts S} where
  -- ---- one request after the other
  pub run-tied : (stream now had has : Option (List ℕ)) (old at : Keeper S T g) (allowed : ℕ) → SoFar stream now had has old at allowed
      → IfHeld old at (λ b. (done : List Referenced) × Ties at (acts b done) × IsSome (book_of at))
  run-tied stream now had has old at allowed run clean b ties some =
      let so = run.answered (Some b) (clean, ties, some) in
      let did = replies-act 1000 (Some b) so.1 run.requests so.0 so.2 in
      let stood = subst (Stands at) did.1 so.4 in
      (did.0, stood.0, stood.1)

  pub run-tells : (stream now had has : Option (List ℕ)) (old at new : Keeper S T g) (allowed : ℕ) (G F : Type 0) → (F → G) → SoFar stream now had has old at allowed
      → TellsFaults old at ⊥ → TellsFaults at new G → TellsFaults old new F
  run-tells stream now had has old at new allowed G F reads run first one =
      tells_as old new G F reads (tells_then old at new ⊥ G first (run-tied stream now had has old at allowed run) one)

  -- ---- one stream after the other
  pub desk-tells : (old at new : Keeper S T g) (G F : Type 0) → (F → G) → IsKept old at None → IfHeld old at (λ b. IsLeft at b None)
      → TellsFaults old at ⊥ → TellsFaults at new G → TellsFaults old new F
  desk-tells old at new G F reads kept left first one =
      tells_as old new G F reads (tells_then old at new ⊥ G first (λ clean b ties some. let so = left clean b ties some in (so.0, so.1, still-some old at kept some)) one)

-- the fault of a stream that ended the desk by one of the store
pub ended-by-store : {A : Type 0} (fault : Fault) (end : Unserved) → desk_end fault ≡ Some end → ◌≡◌ {A = Result ⊤ Unserved} (Err end) (Err unserved.Store)
    → ◌≡◌ {A = Result A Fault} (Err fault) (Err Store)
ended-by-store fault end e store = elim (end-is fault end e) [
  | inl lost ↦ ap Err lost.0
  | inr bookless ↦ absurd (not-reopen (let same : end ≡ unserved.Store = cc in sym bookless.1 ∙ same))
]
  where
    not-reopen : unserved.Reopen ≡ unserved.Store → ⊥
    not-reopen e = cc

pub listener-no-store : ◌≡◌ {A = Result ⊤ Unserved} (Err unserved.Listener) (Err unserved.Store) → ⊥
listener-no-store e = let same : unserved.Listener ≡ unserved.Store = cc in cc

pub served-no-store : (done : ⊤) → ◌≡◌ {A = Result ⊤ Unserved} (Ok done) (Err unserved.Store) → ⊥
served-no-store done e = true≢false (ap is_ok e)
