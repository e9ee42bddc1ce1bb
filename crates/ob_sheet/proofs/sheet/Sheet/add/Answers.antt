use Rattle.std.proofs.Common.{◌≡◌, ◌-◌, ◌<◌, ◌≤◌, length, min, false, List, [], ◌∷◌, ◌++◌, set, sym, subst, refl, ap, ◌∙◌, ℕ, arith}
use Rattle.std.specs.Vec.{vec_capacity, vec_len}
use Rattle.ob_sheet.specs.declared.TheConstants.{MOST_ENTRIES}
use Rattle.std.proofs.lemmas.List.{length-set}
use Rattle.std.proofs.Math.Seq.{set-append_seam}
use Rattle.ob_sheet.specs.declared.Entry.{Entry}
use Rattle.ob_sheet.specs.Sheet.{IsSheet, new_entry}
use Rattle.ob_sheet.proofs.Moving.{as_many_by_device, pushed, written}
use Rattle.ob_sheet.proofs.Revising.{few_in_order}
use Rattle.ob_sheet.proofs.sheet.Sheet.add.Goals as goal

pub put_in-requires-clause-sheet : goal.put_in-requires-clause-sheet
put_in-requires-clause-sheet c =
    let e : Entry = c.args.entry in
    let few : length c.self.inside.entries.items < MOST_ENTRIES = rw (← c.self.view_is) at c.requires.few in
    let new : e ≡ new_entry c.self.inside.entries.items e.device e.pos e.second e.cause e.crew = rw (← c.self.view_is) at c.requires.new in
    pushed c.self.inside.entries.items c.deref_mut.result.now c.self.inside.order.items c.self.inside.by_device.items (record e { kept = false })
    c.self.invariant few (ap (λ (x : Entry). x.«no») new) refl (c.deref_mut.ensures.value ∙ c.push_reserved.ensures.items)

pub put_in-requires-clause-room : goal.put_in-requires-clause-room
put_in-requires-clause-room c =
    let few : length c.self.inside.order.items ≤ length c.self.inside.entries.items = few_in_order _ _ c.self.invariant.ordered in
    let room : 0 < min (vec_capacity c.self.inside.entries) (min (vec_capacity c.self.inside.order) (vec_capacity c.self.inside.by_device)) - vec_len c.self.inside.entries = rw (← c.self.view_is) at c.requires.room in
    omega (arith, few, room, c.self.inside.entries.ok.0, c.self.inside.order.ok.0)

pub put_in-requires-clause-room_by_device : goal.put_in-requires-clause-room_by_device
put_in-requires-clause-room_by_device c =
    let few : length c.self.inside.order.items ≤ length c.self.inside.entries.items = few_in_order _ _ c.self.invariant.ordered in
    let same : length c.self.inside.by_device.items ≡ length c.self.inside.order.items = as_many_by_device _ _ _ c.self.invariant in
    let room : 0 < min (vec_capacity c.self.inside.entries) (min (vec_capacity c.self.inside.order) (vec_capacity c.self.inside.by_device)) - vec_len c.self.inside.entries = rw (← c.self.view_is) at c.requires.room in
    omega (arith, few, same, room, c.self.inside.entries.ok.0, c.self.inside.by_device.ok.0)

pub invariant_of-self : goal.invariant_of-self
invariant_of-self c =
    let e : Entry = c.args.entry in
    let long = length-set c.deref_mut.result.now (e.«no» - 1) e in
    let whole = written c.put_in.new.entries c.push_reserved.new.self.items c.push_reserved.new.self.len (omega (arith, ap length c.put_in.ensures.entries, long, ap length c.deref_mut.ensures.value, c.push_reserved.new.self.ok.0)) in
    subst (λ (xs : List Entry). IsSheet xs c.put_in.new.order.items c.put_in.new.by_device.items) (sym whole) c.put_in.ensures.sheet

pub returns-clause-entries : goal.returns-clause-entries
returns-clause-entries c =
    let e : Entry = c.args.entry in
    let es : List Entry = c.self.inside.entries.items in
    let new : e ≡ new_entry es e.device e.pos e.second e.cause e.crew = rw (← c.self.view_is) at c.requires.new in
    let at : e.«no» - 1 ≡ length es = omega (arith, ap (λ (x : Entry). x.«no») new) in
    let long = length-set c.deref_mut.result.now (e.«no» - 1) e in
    let whole = written c.put_in.new.entries c.push_reserved.new.self.items c.push_reserved.new.self.len (omega (arith, ap length c.put_in.ensures.entries, long, ap length c.deref_mut.ensures.value, c.push_reserved.new.self.ok.0)) in
    rw (← c.self.view_is)
    (whole ∙ c.put_in.ensures.entries
    ∙ ap (λ (xs : List Entry). set xs (e.«no» - 1) e) (c.deref_mut.ensures.value ∙ c.push_reserved.ensures.items)
    ∙ ap (λ (k : ℕ). set (es ++ record e { kept = false } ∷ []) k e) at
    ∙ set-append_seam es (record e { kept = false }) [] e)
