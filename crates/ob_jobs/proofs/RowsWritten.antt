-- The lines of interruption rows that a sink gathered and wrote.
use Rattle.std.specs.Prelude.{⊤}
use Rattle.std.proofs.Common.{◌≡◌, ℕ, List, [], ◌∷◌, ◌++◌, length, take, drop, Option, Some, Result, Ok, Err, refl, sym, ap, subst, ◌∙◌}
use Rattle.std.specs.Io.KnownBytes.{Appends}
use Rattle.std.proofs.KnownBytes.{Appends-trans}
use Rattle.std.proofs.lemmas.List.{append_assoc, append-nil}
use Rattle.std.proofs.lemmas.List.Concat.{flat_map-append}
use Rattle.ob_base.specs.declared.stop.Fault.{Fault as AFault}
use Rattle.ob_base.specs.declared.stop.Fault.TheVariants.{OutOfMemory, Store, Reopen, Input, Output}
use Rattle.ob_base.specs.declared.stop.Stop.{Stop}
use Rattle.ob_base.specs.declared.stop.Stop.TheVariants.{Fault}
use Rattle.ob_stream.specs.Retrying.{Tries, TriesAll}
use Rattle.ob_stream.specs.Streams.{AppendsFront, retries_left}
use Rattle.ob_stream.specs.Watching.{HasJustFailed, watched_bytes}
use Rattle.ob_stream.specs.declared.watched.Watched.{Watched}
use Rattle.ob_stream.proofs.Trying.{all_then, all_then_all, none_tried}
use Rattle.ob_state.specs.State.{BookState}
use Rattle.ob_rows.specs.Rows.{interruption_rows}
use Rattle.ob_rows.specs.RowText.{row_header, row_line, row_lines}
use Rattle.ob_rows.specs.Sinks.{FailsAmong, HandsRows, Takes, TakesAll}
use Rattle.ob_rows.specs.declared.row.InterruptionRow.{InterruptionRow}
use Rattle.ob_jobs.specs.declared.row_lines.RowLines.{RowLines}
use Rattle.ob_jobs.specs.Exporting.{AppendsPart}
use Rattle.ob_jobs.specs.Gathering.{Empties, Gathers, GathersLine}
use Rattle.ob_jobs.specs.Rows.{RowsOfBook, WritesRows, WritesRowsOf}
use Rattle.ob_jobs.proofs.Written.{front_part, headed_part, nothing, take_drop}

abbrev Rows : Type 0
Rows = List InterruptionRow

parts_are : (b : BookState) (all front rest : Rows) → all ≡ front ++ rest → row_lines b all ≡ row_lines b front ++ row_lines b rest
parts_are b all front rest is = ap (row_lines b) is ∙ flat_map-append (row_line b) front rest

module _ {W : Type 0} (contents : W → Option (List ℕ)) where
  -- ---- a text behind a head
  pub headed : (was mid : Option (List ℕ)) (is : Watched W) (head text : List ℕ) (rows : ℕ) (r : Result ℕ AFault) → Appends was mid head
      → WritesRows contents mid is text rows r → WritesRows contents was is (head ++ text) rows r
  headed was mid is head text rows (Ok n) before h = (Appends-trans _ _ _ _ _ before h.0, h.1)
  headed was mid is head text rows (Err OutOfMemory) before h = headed_part was mid (watched_bytes contents is) head text before h
  headed was mid is head text rows (Err Output) before h = (headed_part was mid (watched_bytes contents is) head text before h.0, h.1)
  headed was mid is head text rows (Err Store) before h = absurd h
  headed was mid is head text rows (Err Reopen) before h = absurd h
  headed was mid is head text rows (Err Input) before h = absurd h

  -- a front of the header
  pub header_failed : (b : BookState) (was is : Watched W) (fault : AFault) → AppendsFront (watched_bytes contents was) (watched_bytes contents is) row_header
      → (fault ≡ Output) × HasJustFailed is → WritesRowsOf contents b was is (Err fault)
  header_failed b was is fault front told =
      subst (λ f. WritesRowsOf contents b was is (Err f)) (sym told.0)
      (front_part (watched_bytes contents was) (watched_bytes contents is) row_header (row_lines b (interruption_rows b)) front, told.1)

  -- the rows of a book that there is
  pub of_book : (held : Option BookState) (b : BookState) (was is : Watched W) (r : Result ℕ Stop) → held ≡ Some b
      → RowsOfBook contents (Some b) was is r → RowsOfBook contents held was is r
  of_book held b was is r same it = subst (λ h. RowsOfBook contents h was is r) (sym same) it

-- ---- what is gathered and written
-- one text behind another one
both_gathered : (a b c : Option (List ℕ)) (before mid after t u : List ℕ) → Gathers a b before mid t → Gathers b c mid after u
    → Gathers a c before after (t ++ u)
both_gathered a b c before mid after t u p q = record {
  written = p.written ++ q.written;
  parts =
      sym (append_assoc before t u) ∙ ap (λ l. l ++ u) p.parts ∙ append_assoc p.written mid u
      ∙ ap (λ l. p.written ++ l) q.parts ∙ sym (append_assoc p.written q.written after);
  appends = Appends-trans _ _ _ _ _ p.appends q.appends;
}

-- a first part of the next text behind it is a first part of the whole
part_behind : (a b c : Option (List ℕ)) (before mid t u rest : List ℕ) → Gathers a b before mid t → AppendsPart b c (mid ++ u)
    → AppendsPart a c (before ++ (t ++ (u ++ rest)))
part_behind a b c before mid t u rest p it = record {
  front = p.written ++ it.front;
  rest = it.rest ++ rest;
  parts =
      sym (append_assoc before t (u ++ rest)) ∙ ap (λ l. l ++ (u ++ rest)) p.parts ∙ append_assoc p.written mid (u ++ rest)
      ∙ ap (λ l. p.written ++ l) (sym (append_assoc mid u rest) ∙ ap (λ l. l ++ rest) it.parts ∙ append_assoc it.front it.rest rest)
      ∙ sym (append_assoc p.written it.front (it.rest ++ rest));
  appends = Appends-trans _ _ _ _ _ p.appends it.appends;
}

-- nothing is a first part of each text
pub no_part : (bytes : Option (List ℕ)) (text : List ℕ) → AppendsPart bytes bytes text
no_part bytes text = record { front = []; rest = text; parts = refl; appends = nothing bytes }

-- a front of a text is a first part of it
part_of_front : (was is : Option (List ℕ)) (text whole : List ℕ) → text ≡ whole → AppendsFront was is text → AppendsPart was is whole
part_of_front was is text whole same it = record {
  front = take it.count text;
  rest = drop it.count text;
  parts = sym same ∙ take_drop it.count text;
  appends = it.appends;
}

-- what was gathered from nothing on is written whole
emptied : (a b c : Option (List ℕ)) (after t : List ℕ) → Gathers a b [] after t → Appends b c after → Appends a c t
emptied a b c after t p q = subst (λ l. Appends a c l) (sym p.parts) (Appends-trans _ _ _ _ _ p.appends q)

-- or a first part of it
front_emptied : (a b c : Option (List ℕ)) (after t : List ℕ) → Gathers a b [] after t → AppendsFront b c after → AppendsPart a c t
front_emptied a b c after t p q = record {
  front = p.written ++ take q.count after;
  rest = drop q.count after;
  parts = p.parts ∙ ap (λ l. p.written ++ l) (take_drop q.count after) ∙ sym (append_assoc p.written (take q.count after) (drop q.count after));
  appends = Appends-trans _ _ _ _ _ p.appends q.appends;
}

module _ {W : Type 0} (contents : W → Option (List ℕ)) where
  -- there was no memory to gather lines
  pub no_room : (was : Watched W) (text : List ℕ) (rows : ℕ) (fault : AFault) → fault ≡ OutOfMemory → WritesRows contents (watched_bytes contents was) was text rows (Err fault)
  no_room was text rows fault memory =
      subst (λ f. WritesRows contents (watched_bytes contents was) was text rows (Err f)) (sym memory) (no_part (watched_bytes contents was) text)

  -- a line is gathered, and then all is written
  pub gathered_line : (old new : Watched W) (before mid after line : List ℕ) (r : Result ⊤ AFault) → mid ≡ before ++ line → Empties contents old mid new after r
      → GathersLine contents old before new after line r
  gathered_line old new before mid after line (Ok done) is e =
      record { written = mid; parts = sym is ∙ sym (append-nil mid) ∙ ap (λ l. mid ++ l) (sym e.1); appends = e.0 }
  gathered_line old new before mid after line (Err Output) is e =
      (part_of_front (watched_bytes contents old) (watched_bytes contents new) mid (before ++ line) is e.0, e.1)
  gathered_line old new before mid after line (Err OutOfMemory) is e = absurd e
  gathered_line old new before mid after line (Err Store) is e = absurd e
  gathered_line old new before mid after line (Err Reopen) is e = absurd e
  gathered_line old new before mid after line (Err Input) is e = absurd e

module _ {T W : Type 0} (contents : W → Option (List ℕ)) where
  abbrev pub gathers : Takes (RowLines T W)
  gathers old row result new =
      (new.writer.ghost_name ≡ old.writer.ghost_name) × (new.text.now ≡ old.text.now)
      × GathersLine contents old.writer.now old.gathered.now.items new.writer.now new.gathered.now.items (row_line old.text.now row) result
      × Tries (retries_left old.retries) (retries_left new.retries) old.writer.now new.writer.now result

  abbrev bytes_of : RowLines T W → Option (List ℕ)
  bytes_of v = watched_bytes contents v.writer.now

  -- ---- whatever came
  same_name : (old new : RowLines T W) (xs : Rows) → TakesAll gathers old xs new → new.writer.ghost_name ≡ old.writer.ghost_name
  same_name old new [] is = ap (λ (v : RowLines T W). v.writer.ghost_name) is
  same_name old new (x ∷ xs) h = same_name h.0 new xs h.2 ∙ h.1.0

  -- it is the same writer
  pub name_after : (was is : RowLines T W) (xs : Rows) (r : Result ℕ AFault) → HandsRows gathers was is xs r → is.writer.ghost_name ≡ was.writer.ghost_name
  name_after was is xs (Ok n) h = same_name was is xs h.0
  name_after was is xs (Err fault) h = h.failed.0 ∙ same_name was h.mid h.front h.took

  same_book : (old new : RowLines T W) (xs : Rows) → TakesAll gathers old xs new → new.text.now ≡ old.text.now
  same_book old new [] is = ap (λ (v : RowLines T W). v.text.now) is
  same_book old new (x ∷ xs) h = same_book h.0 new xs h.2 ∙ h.1.1

  -- each interrupted write was tried again, or the last one was not since no retry was left
  all_tried : (old new : RowLines T W) (xs : Rows) → TakesAll gathers old xs new
      → TriesAll (retries_left old.retries) (retries_left new.retries) old.writer.now new.writer.now
  all_tried old new [] is =
      subst (λ (v : RowLines T W). TriesAll (retries_left old.retries) (retries_left v.retries) old.writer.now v.writer.now) (sym is)
      (none_tried (retries_left old.retries) old.writer.now)
  all_tried old new (x ∷ xs) h = all_then_all h.1.3 (all_tried h.0 new xs h.2)

  pub tries_after : (was is : RowLines T W) (xs : Rows) (r : Result ℕ AFault) → HandsRows gathers was is xs r
      → Tries (retries_left was.retries) (retries_left is.retries) was.writer.now is.writer.now r
  tries_after was is xs (Ok n) h = all_tried was is xs h.0
  tries_after was is xs (Err fault) h = all_then (all_tried was h.mid h.front h.took) h.failed.3

  -- ---- the text, by the book that the sink had at first
  all_lines : (b : BookState) (old new : RowLines T W) (xs : Rows) → old.text.now ≡ b → TakesAll gathers old xs new
      → Gathers (bytes_of old) (bytes_of new) old.gathered.now.items new.gathered.now.items (row_lines b xs)
  all_lines b old new [] of is =
      subst (λ (v : RowLines T W). Gathers (bytes_of old) (bytes_of v) old.gathered.now.items v.gathered.now.items []) (sym is)
      (record { written = []; parts = append-nil old.gathered.now.items; appends = nothing (bytes_of old) })
  all_lines b old new (x ∷ xs) of h =
      both_gathered _ _ _ _ _ _ _ _
      (subst (λ s. Gathers (bytes_of old) (bytes_of h.0) old.gathered.now.items h.0.gathered.now.items (row_line s x)) of h.1.2)
      (all_lines b h.0 new xs (h.1.1 ∙ of) h.2)

  -- a first part of what a sink had and took, and of the row that it failed at
  failed_part : (b : BookState) (was is : RowLines T W) (all : Rows) (fault : AFault) → was.text.now ≡ b → (it : FailsAmong gathers was all fault is)
      → AppendsPart (bytes_of it.mid) (bytes_of is) (it.mid.gathered.now.items ++ row_line it.mid.text.now it.it)
      → AppendsPart (bytes_of was) (bytes_of is) (was.gathered.now.items ++ row_lines b all)
  failed_part b was is all fault of it part =
      let at : it.mid.text.now ≡ b = same_book was it.mid it.front it.took ∙ of in
      subst (λ l. AppendsPart (bytes_of was) (bytes_of is) (was.gathered.now.items ++ l)) (sym (parts_are b all it.front (it.it ∷ it.rest) it.parts))
      (part_behind _ _ _ was.gathered.now.items it.mid.gathered.now.items (row_lines b it.front) (row_line b it.it) (row_lines b it.rest)
      (all_lines b was it.mid it.front of it.took)
      (subst (λ s. AppendsPart (bytes_of it.mid) (bytes_of is) (it.mid.gathered.now.items ++ row_line s it.it)) at part))

  -- a sink that had nothing gathered before leaves this where it fails
  pub failed_text : (b : BookState) (was is : RowLines T W) (all : Rows) (fault : AFault) → was.text.now ≡ b → was.gathered.now.items ≡ [] → HandsRows gathers was is all (Err fault)
      → WritesRows contents (bytes_of was) is.writer.now (row_lines b all) (length all) (Err fault)
  failed_text b was is all OutOfMemory of none it =
      subst (λ l. AppendsPart (bytes_of was) (bytes_of is) (l ++ row_lines b all)) none (failed_part b was is all OutOfMemory of it it.failed.2)
  failed_text b was is all Output of none it = (
    subst (λ l. AppendsPart (bytes_of was) (bytes_of is) (l ++ row_lines b all)) none (failed_part b was is all Output of it it.failed.2.0),
    it.failed.2.1,
  )
  failed_text b was is all Store of none it = it.failed.2
  failed_text b was is all Reopen of none it = it.failed.2
  failed_text b was is all Input of none it = it.failed.2

  took_all : (b : BookState) (was mid : RowLines T W) (all : Rows) (rows : ℕ) → was.text.now ≡ b → was.gathered.now.items ≡ [] → HandsRows gathers was mid all (Ok rows)
      → Gathers (bytes_of was) (bytes_of mid) [] mid.gathered.now.items (row_lines b all)
  took_all b was mid all rows of none h =
      subst (λ l. Gathers (bytes_of was) (bytes_of mid) l mid.gathered.now.items (row_lines b all)) none (all_lines b was mid all of h.0)

  -- what was handed over and then written
  pub written : (b : BookState) (was mid : RowLines T W) (is : Watched W) (after : List ℕ) (all : Rows) (rows : ℕ) → was.text.now ≡ b → was.gathered.now.items ≡ []
      → HandsRows gathers was mid all (Ok rows) → Empties contents mid.writer.now mid.gathered.now.items is after (Ok tt)
      → WritesRows contents (bytes_of was) is (row_lines b all) (length all) (Ok rows)
  written b was mid is after all rows of none h e = (emptied _ _ _ _ _ (took_all b was mid all rows of none h) e.0, h.1)

  pub unfinished : (b : BookState) (was mid : RowLines T W) (is : Watched W) (after : List ℕ) (all : Rows) (rows : ℕ) (fault : AFault) → was.text.now ≡ b → was.gathered.now.items ≡ []
      → HandsRows gathers was mid all (Ok rows) → Empties contents mid.writer.now mid.gathered.now.items is after (Err fault)
      → WritesRows contents (bytes_of was) is (row_lines b all) (length all) (Err fault)
  unfinished b was mid is after all rows Output of none h e = (front_emptied _ _ _ _ _ (took_all b was mid all rows of none h) e.0, e.1)
  unfinished b was mid is after all rows OutOfMemory of none h e = absurd e
  unfinished b was mid is after all rows Store of none h e = absurd e
  unfinished b was mid is after all rows Reopen of none h e = absurd e
  unfinished b was mid is after all rows Input of none h e = absurd e
