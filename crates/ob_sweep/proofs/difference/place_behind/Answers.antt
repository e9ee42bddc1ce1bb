use Rattle.std.proofs.Common.{◌≡◌, ◌<◌, ◌≤◌, ◌+◌, ◌-◌, ℕ, List, length, drop, get_or, sym, arith, subst, inl, inr}
use Rattle.std.specs.List.{All, AllPairs}
use Rattle.std.proofs.lemmas.Bool.{cases_eq}
use Rattle.std.proofs.lemmas.List.{get_or-drop, get_or_default, length-drop}
use Rattle.std.proofs.lemmas.List.Elements.{All-more}
use Rattle.ob_sheet.specs.declared.Entry.{Entry}
use Rattle.ob_sweep.proofs.difference.place_behind.Goals as goal

-- where an entry is later than a second, so are those behind it
later_on : (entries : List Entry) (place second : ℕ) (x : Entry) → AllPairs (λ a b. a.second ≤ b.second) entries → place < length entries → second < (get_or entries place x).second
    → All (λ e. second < e.second) (drop place entries)
later_on entries place second x rising within past k d l =
    let first : second < (get_or entries place d).second = subst (λ (e : Entry). second < e.second) (get_or_default entries place x d within) past in
    let size : length (drop place entries) ≡ length entries - place = length-drop place entries in
    subst (λ (e : Entry). second < e.second) (sym (get_or-drop place entries k d))
    (elim (cases_eq k 0) as (λ _. second < (get_or entries (place + k) d).second) [
      | inl none ↦ let same : place ≡ place + k = omega arith in subst (λ n. second < (get_or entries n d).second) same first
      | inr some ↦ let rise : (get_or entries place d).second ≤ (get_or entries (place + k) d).second = rising place (place + k) d (omega arith) (omega arith) in omega arith
    ])

pub loop-place-preserved : goal.loop-place-preserved
loop-place-preserved c =
    let x : Entry = c.index-entries-place.result in
    let h = c.loop-place.invariant in
    record {
      later = omega (arith, h.later);
      within = omega (arith, c.loop-place-test.true);
      taken = All-more (λ (e : Entry). e.second ≤ c.args.second) c.args.entries.now c.loop-place.place x c.loop-place-test.true h.taken c.if-entries-place.true;
    }

pub returns-else-entries-place-clause-rest : goal.returns-else-entries-place-clause-rest
returns-else-entries-place-clause-rest c =
    later_on c.args.entries.now c.loop-place.place c.args.second c.index-entries-place.result c.requires.rising c.loop-place-test.true c.if-entries-place.false
