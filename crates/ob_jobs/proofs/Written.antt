-- The lines that a sink wrote.
use Rattle.std.proofs.Common.{◌≡◌, ◌≢◌, inl, inr, ℕ, zero, suc, List, [], ◌∷◌, ◌++◌, take, drop, Option, None, Some, Result, Ok, Err, refl, sym, ap, subst, ◌∙◌}
use Rattle.std.specs.Prelude.{IfErr, OnOk}
use Rattle.std.specs.Io.KnownBytes.{Appends}
use Rattle.std.proofs.KnownBytes.{Appends-trans}
use Rattle.std.proofs.lemmas.List.{append_assoc, append-nil}
use Rattle.std.proofs.lemmas.List.Concat.{flat_map-append}
use Rattle.ob_base.specs.declared.stop.Fault.{Fault as AFault}
use Rattle.ob_base.specs.declared.stop.Fault.TheVariants.{OutOfMemory, Store, Reopen, Input, Output}
use Rattle.ob_base.specs.declared.stop.Stop.{Stop}
use Rattle.ob_base.specs.declared.stop.Stop.TheVariants.{Refused, Fault}
use Rattle.ob_stream.specs.Retrying.{Tries, TriesAll}
use Rattle.ob_stream.specs.Streams.{AppendsFront, retries_left}
use Rattle.ob_stream.specs.Watching.{HasJustFailed, watched_bytes}
use Rattle.ob_stream.specs.declared.watched.Watched.{Watched}
use Rattle.ob_state.specs.State.{BookState}
use Rattle.ob_book.specs.Acts.{ActState}
use Rattle.ob_sql_rows.specs.Steps.{IsStoreFault}
use Rattle.ob_store.specs.Keepers.{Ghosts, Ties, book_of}
use Rattle.ob_store.specs.Keeping.{IsBookAfter}
use Rattle.ob_store.specs.MovingOut.{IsBookAfterMoves, Numbered, Takes, TakesAll, FailsAmong, TakesFront, HandsOver, all_moves}
use Rattle.ob_store.specs.Calls.{MovesOut, StoreFails}
use Rattle.ob_store.specs.declared.keeper.Keeper.{Keeper}
use Rattle.ob_jobs.specs.declared.lines.Lines.{Lines}
use Rattle.ob_jobs.specs.Text.{lines_of, moved_line}
use Rattle.ob_jobs.specs.Exporting.{AppendsPart, PutsLine, Exports}
use Rattle.ob_stream.proofs.Trying.{all_then, all_then_all, none_tried}

-- one text after another, with the same retries
pub tries_then : {D A E : Type 0} {had mid : ℕ} {old now : Watched D} (left : ℕ) (new : Watched D) (r : Result A E) → TriesAll had mid old now
    → Tries mid left now new r → Tries had left old new r
tries_then left new (Ok x) before t = all_then_all before t
tries_then left new (Err e) before t = all_then before t

pub nothing : (bytes : Option (List ℕ)) → Appends bytes bytes []
nothing None = tt
nothing (Some xs) = sym (append-nil xs)

pub take_drop : (n : ℕ) (xs : List ℕ) → xs ≡ take n xs ++ drop n xs
take_drop zero xs = refl
take_drop (suc n) [] = refl
take_drop (suc n) (x ∷ xs) = ap (λ l. x ∷ l) (take_drop n xs)

lines_append : (xs ys : List Numbered) → lines_of (xs ++ ys) ≡ lines_of xs ++ lines_of ys
lines_append xs ys = flat_map-append (λ (x : Numbered). moved_line x.0 x.1) xs ys

-- a first part behind a head is a first part
pub headed_part : (was mid is : Option (List ℕ)) (head text : List ℕ) → Appends was mid head → AppendsPart mid is text → AppendsPart was is (head ++ text)
headed_part was mid is head text headed it = record {
  front = head ++ it.front;
  rest = it.rest;
  parts = ap (λ l. head ++ l) it.parts ∙ sym (append_assoc head it.front it.rest);
  appends = Appends-trans _ _ _ _ _ headed it.appends;
}

-- so is a front of the head
pub front_part : (was is : Option (List ℕ)) (head text : List ℕ) → AppendsFront was is head → AppendsPart was is (head ++ text)
front_part was is head text it = record {
  front = take it.count head;
  rest = drop it.count head ++ text;
  parts = ap (λ l. l ++ text) (take_drop it.count head) ∙ append_assoc (take it.count head) (drop it.count head) text;
  appends = it.appends;
}

module _ {W : Type 0} (contents : W → Option (List ℕ)) where
  abbrev pub puts : Takes (Lines W)
  puts old cmd m result new =
      (new.writer.ghost_name ≡ old.writer.ghost_name)
      × PutsLine contents old.writer.now new.writer.now (moved_line cmd m) result
      × Tries (retries_left old.retries) (retries_left new.retries) old.writer.now new.writer.now result

  abbrev bytes_of : Lines W → Option (List ℕ)
  bytes_of v = watched_bytes contents v.writer.now

  -- ---- whatever came
  same_name : (old new : Lines W) (xs : List Numbered) → TakesAll puts old xs new → new.writer.ghost_name ≡ old.writer.ghost_name
  same_name old new [] is = ap (λ (v : Lines W). v.writer.ghost_name) is
  same_name old new (x ∷ xs) h = same_name h.0 new xs h.2 ∙ h.1.0

  -- it is the same writer
  pub name_after : (was is : Lines W) (r : Result ℕ Stop) → HandsOver puts was is r → is.writer.ghost_name ≡ was.writer.ghost_name
  name_after was is (Ok n) h = same_name was is h.0 h.1
  name_after was is (Err (Refused refusal)) h = absurd h
  name_after was is (Err (Fault fault)) h = elim h.3 [
    | inl failed ↦ failed.1.0 ∙ same_name was h.1 h.0 h.2
    | inr store ↦ ap (λ (v : Lines W). v.writer.ghost_name) store.0 ∙ same_name was h.1 h.0 h.2
  ]

  no_store_fault : (fault : AFault) → fault ≢ OutOfMemory → fault ≢ Store → ¬ IsStoreFault (Fault fault)
  no_store_fault fault memory store (inl is) = memory cc
  no_store_fault fault memory store (inr is) = store cc

  -- a take that tells of the output left it failed
  pub has_failed : (was is : Lines W) → HandsOver puts was is (Err (Fault Output)) → HasJustFailed is.writer.now
  has_failed was is h = elim h.3 [ inl failed ↦ failed.1.1.1 | inr store ↦ absurd (no_store_fault Output (λ e. absurd cc) (λ e. absurd cc) store.1) ]

  -- ---- the retries
  all_tried : (old new : Lines W) (xs : List Numbered) → TakesAll puts old xs new
      → TriesAll (retries_left old.retries) (retries_left new.retries) old.writer.now new.writer.now
  all_tried old new [] is =
      subst (λ (v : Lines W). TriesAll (retries_left old.retries) (retries_left v.retries) old.writer.now v.writer.now) (sym is)
      (none_tried (retries_left old.retries) old.writer.now)
  all_tried old new (x ∷ xs) h = all_then_all h.1.2 (all_tried h.0 new xs h.2)

  -- each interrupted write was tried again, or the last one was not since no retry was left
  pub tries_after : (was is : Lines W) (r : Result ℕ Stop) → HandsOver puts was is r
      → Tries (retries_left was.retries) (retries_left is.retries) was.writer.now is.writer.now r
  tries_after was is (Ok n) h = all_tried was is h.0 h.1
  tries_after was is (Err (Refused refusal)) h = absurd h
  tries_after was is (Err (Fault fault)) h = elim h.3 [
    | inl failed ↦ all_then (all_tried was h.1 h.0 h.2) failed.1.2
    | inr store ↦
        inl (subst (λ (v : Lines W). TriesAll (retries_left was.retries) (retries_left v.retries) was.writer.now v.writer.now) (sym store.0)
        (all_tried was h.1 h.0 h.2))
  ]

  -- ---- the book
  -- a sink that takes amounts keeps the book, or tells of memory or of the output
  pub book_kept : (sink : Lines W) (was is : Option BookState) (r : Result ℕ Stop) → IsBookAfterMoves puts sink was is r → OnOk r (is ≡ was)
  book_kept sink was is (Ok n) same = same
  book_kept sink was is (Err stop) same = tt

  pub book_after : (sink : Lines W) (was is : Option BookState) (r : Result ℕ Stop) → IsBookAfterMoves puts sink was is r → IfErr r (IsBookAfter was is)
  book_after sink was is (Ok n) same = tt
  book_after sink was is (Err (Refused refusal)) h = absurd h
  book_after sink was is (Err (Fault OutOfMemory)) h = elim h [ inl took ↦ took.3 | inr store ↦ store.1 ]
  book_after sink was is (Err (Fault Store)) h = elim h [ inl took ↦ absurd took.2.1 | inr store ↦ store.1 ]
  book_after sink was is (Err (Fault Reopen)) h = elim h [ inl took ↦ took.3 | inr store ↦ store.1 ]
  book_after sink was is (Err (Fault Input)) h = elim h [ inl took ↦ took.3 | inr store ↦ store.1 ]
  book_after sink was is (Err (Fault Output)) h = elim h [ inl took ↦ took.3 | inr store ↦ store.1 ]

  -- ---- the text
  all_lines : (old new : Lines W) (xs : List Numbered) → TakesAll puts old xs new → Appends (bytes_of old) (bytes_of new) (lines_of xs)
  all_lines old new [] is = subst (λ v. Appends (bytes_of old) (bytes_of v) []) (sym is) (nothing (bytes_of old))
  all_lines old new (x ∷ xs) h = Appends-trans _ _ _ _ _ h.1.1 (all_lines h.0 new xs h.2)

  parts_are : (all front rest : List Numbered) → all ≡ front ++ rest → lines_of all ≡ lines_of front ++ lines_of rest
  parts_are all front rest is = ap lines_of is ∙ lines_append front rest

  front_text : (was is : Lines W) (all : List Numbered) → TakesFront puts was all is → AppendsPart (bytes_of was) (bytes_of is) (lines_of all)
  front_text was is all it = record {
    front = lines_of it.front;
    rest = lines_of it.rest;
    parts = parts_are all it.front it.rest it.parts;
    appends = all_lines was is it.front it.took;
  }

  -- what a fault of the sink leaves
  abbrev Failed : AFault → Lines W → Lines W → List Numbered → Type 0
  Failed OutOfMemory was is all = AppendsPart (bytes_of was) (bytes_of is) (lines_of all)
  Failed Output was is all = AppendsPart (bytes_of was) (bytes_of is) (lines_of all) × HasJustFailed is.writer.now
  Failed fault was is all = ⊥

  failed_text : (was is : Lines W) (all : List Numbered) (fault : AFault) → FailsAmong puts was all fault is → Failed fault was is all
  failed_text was is all OutOfMemory it = record {
    front = lines_of it.front;
    rest = lines_of (it.it ∷ it.rest);
    parts = parts_are all it.front (it.it ∷ it.rest) it.parts;
    appends = subst (λ w. Appends (bytes_of was) (watched_bytes contents w) (lines_of it.front)) (sym it.failed.1) (all_lines was it.mid it.front it.took);
  }
  failed_text was is all Output it =
      let line = moved_line it.it.0 it.it.1 in
      let some = it.failed.1.0 in (
        record {
          front = lines_of it.front ++ take some.count line;
          rest = drop some.count line ++ lines_of it.rest;
          parts =
              parts_are all it.front (it.it ∷ it.rest) it.parts
              ∙ ap (λ l. lines_of it.front ++ (l ++ lines_of it.rest)) (take_drop some.count line)
              ∙ ap (λ l. lines_of it.front ++ l) (append_assoc (take some.count line) (drop some.count line) (lines_of it.rest))
              ∙ sym (append_assoc (lines_of it.front) (take some.count line) (drop some.count line ++ lines_of it.rest));
          appends = Appends-trans _ _ _ _ _ (all_lines was it.mid it.front it.took) some.appends;
        },
        it.failed.1.1,
      )
  failed_text was is all Store it = it.failed.1
  failed_text was is all Reopen it = it.failed.1
  failed_text was is all Input it = it.failed.1

  module _ {S T : Type 0} {g : Ghosts S} (old new : Keeper S T g) (b : ActState) where
    abbrev Ended : Lines W → Lines W → AFault → Type 0
    Ended was is fault = Exports contents old new (bytes_of was) is.writer.now b (lines_of (all_moves b)) (Err (Fault fault))

    by_sink : (was is : Lines W) (fault : AFault) → Failed fault was is (all_moves b) → Ties new b → book_of new ≡ book_of old → Ended was is fault
    by_sink was is OutOfMemory text ties same = (text, ties, same)
    by_sink was is Output text ties same = (text.0, text.1, ties, same)
    by_sink was is Store text ties same = absurd text
    by_sink was is Reopen text ties same = absurd text
    by_sink was is Input text ties same = absurd text

    by_store : (was is : Lines W) (fault : AFault) → AppendsPart (bytes_of was) (bytes_of is) (lines_of (all_moves b)) → StoreFails old new b fault → Ended was is fault
    by_store was is OutOfMemory text fails = (text, fails.0, fails.1)
    by_store was is Store text fails = (text, fails.0, fails.1, fails.2)
    by_store was is Output text fails = absurd fails
    by_store was is Reopen text fails = absurd fails
    by_store was is Input text fails = absurd fails

    -- what was handed over was written
    pub exported : (was is : Lines W) (r : Result ℕ Stop) → MovesOut puts old new was is b r → Exports contents old new (bytes_of was) is.writer.now b (lines_of (all_moves b)) r
    exported was is (Ok n) h = (all_lines was is (all_moves b) h.0, h.1, h.2, h.3)
    exported was is (Err (Refused refusal)) h = absurd h
    exported was is (Err (Fault fault)) (inl h) = by_sink was is fault (failed_text was is (all_moves b) fault h.0) h.1 h.2
    exported was is (Err (Fault fault)) (inr h) = by_store was is fault (front_text was is (all_moves b) h.0) h.1

    -- behind a head
    pub headed : (was mid : Option (List ℕ)) (is : Watched W) (head text : List ℕ) (r : Result ℕ Stop) → Appends was mid head → Exports contents old new mid is b text r → Exports contents old new was is b (head ++ text) r
    headed was mid is head text (Ok n) before h = (Appends-trans _ _ _ _ _ before h.0, h.1, h.2, h.3)
    headed was mid is head text (Err (Refused refusal)) before h = absurd h
    headed was mid is head text (Err (Fault OutOfMemory)) before h = (headed_part was mid (watched_bytes contents is) head text before h.0, h.1, h.2)
    headed was mid is head text (Err (Fault Store)) before h = (headed_part was mid (watched_bytes contents is) head text before h.0, h.1, h.2, h.3)
    headed was mid is head text (Err (Fault Output)) before h = (headed_part was mid (watched_bytes contents is) head text before h.0, h.1, h.2, h.3)
    headed was mid is head text (Err (Fault Reopen)) before h = absurd h
    headed was mid is head text (Err (Fault Input)) before h = absurd h
