-- What is left of a book after a crash, once its store is opened again.
use Rattle.std.proofs.Common.{◌≡◌, inl, inr, ◌++◌, IfSome, sym, subst, append_assoc}
use Rattle.ob_book.specs.Acts.{ActState}
use Rattle.ob_sql_check.specs.Laws.{OldIsReached}
use Rattle.ob_store.specs.Keepers.{Ghosts, book_of}
use Rattle.ob_store.proofs.Restarting.{Settles, either_after, old_after, stored_after, version_after}
use Rattle.ob_store.specs.declared.keeper.Keeper.{Keeper}
use Rattle.ob_lists.specs.Standing.{MayBe, Stands}
use Rattle.ob_lists.specs.Going.{JoinLaw, RestartLaw, Restarts}

module _ {S T R U : Type 0} {g : Ghosts S} {h : Ghosts R} (settles : Settles h) (old : Keeper S T g) (new : Keeper R U h) (it : Restarts old new) where
  pub none : (x : ActState) → IfSome (book_of new) (λ s. s ≡ x.book)
  none x = subst (λ b. IfSome b (λ s. s ≡ x.book)) (sym it.book) tt

  pub restarted : OldIsReached → (Is : ActState → Type 0) → Stands Is old → Stands Is new
  restarted reached Is (inl k) = inl (record {
    book = k.book;
    is = k.is;
    ties = record { kept = stored_after old new it.opens settles k.book k.ties.kept; book = none k.book };
  })
  restarted reached Is (inr (inl k)) = elim (either_after old new it.opens settles k.book k.other k.keeps) [
    | inl first ↦ inl (record { book = k.book; is = k.is; ties = record { kept = first; book = none k.book } })
    | inr other ↦ inl (record { book = k.other; is = k.other_is; ties = record { kept = other; book = none k.other } })
  ]
  restarted reached Is (inr (inr (inl k))) = inr (inr (inl (record {
    book = k.book;
    is = k.is;
    keeps = old_after old new it.opens settles k.book k.keeps;
    lost = it.book;
  })))
  restarted reached Is (inr (inr (inr k))) = elim (version_after old new it.opens settles reached k.book k.keeps) [
    | inl first ↦ inr (inr (inl (record { book = k.book; is = k.is; keeps = first; lost = it.book })))
    | inr other ↦ inl (record { book = k.book; is = k.is; ties = record { kept = other; book = none k.book } })
  ]

pub restart_law : {S R : Type 0} (T U : Type 0) (g : Ghosts S) (h : Ghosts R) → Settles h → OldIsReached → RestartLaw T U g h
restart_law T U g h settles reached old new it = record {
  clean = λ clean. it.opens.clean;
  stands = λ clean b before stands. restarted settles old new it reached (MayBe b before) stands;
}

pub join_law : {S M R : Type 0} (T U V : Type 0) (g : Ghosts S) (m : Ghosts M) (h : Ghosts R) → JoinLaw T U V g m h
join_law T U V g m h first next old mid new to from = record {
  clean = λ clean. to.clean (from.clean clean);
  stands = λ clean b before stands.
      subst (λ told. Stands (MayBe b told) new) (sym (append_assoc next first before)) (from.stands clean b (first ++ before) (to.stands (from.clean clean) b before stands));
}
