use Rattle.std.proofs.Common.{◌≡◌, ℕ, ◌+◌, ◌-◌, Bool, List, Some, false, length, set, get_or, refl, sym, ap, ◌∙◌, arith}
use Rattle.std.proofs.lemmas.List.{get_or-set_same, length-set}
use Rattle.ob_sheet.specs.declared.Entry.{Entry}
use Rattle.ob_sheet.specs.Order.{entry_of}
use Rattle.ob_sheet.proofs.Finding.{was_not}
use Rattle.ob_sheet.proofs.Moving.{out_of_both, written}
use Rattle.ob_sheet.proofs.Revising.{changed, set_again, standing}
use Rattle.ob_sheet.proofs.sheet.Sheet.replace.Goals as goal

pub take_out-requires-clause-entry : goal.take_out-requires-clause-entry
take_out-requires-clause-entry c =
    let found : entry_of c.self.inside.entries.items c.args.old.«no» ≡ Some c.args.old = rw (← c.self.view_is) at c.requires.on in
    ap (λ (xs : List Entry). entry_of xs c.args.old.«no») c.deref.ensures.value ∙ found

pub overflow_sub-no : goal.overflow_sub-no
overflow_sub-no c =
    let old : Entry = c.args.old in
    let es : List Entry = c.self.inside.entries.items in
    let found : entry_of es old.«no» ≡ Some old = rw (← c.self.view_is) at c.requires.on in
    let at = standing es old.«no» old c.self.invariant.ordered.numbered found in
    at.0

pub index_mut-requires : goal.index_mut-requires
index_mut-requires c =
    let old : Entry = c.args.old in
    let es : List Entry = c.self.inside.entries.items in
    let found : entry_of es old.«no» ≡ Some old = rw (← c.self.view_is) at c.requires.on in
    let at = standing es old.«no» old c.self.invariant.ordered.numbered found in
    omega (arith, at.1, c.self.inside.entries.ok.0)

pub invariant_of-self : goal.invariant_of-self
invariant_of-self c =
    let old : Entry = c.args.old in
    let es : List Entry = c.self.inside.entries.items in
    let found : entry_of es old.«no» ≡ Some old = rw (← c.self.view_is) at c.requires.on in
    let at = standing es old.«no» old c.self.invariant.ordered.numbered found in
    let left : Entry = record c.args.new { kept = false } in
    let fewer : length c.take_out.new.order.items + 1 ≡ length c.self.inside.order.items = omega (arith, c.take_out.ensures.shorter, c.take_out.new.order.ok.0, c.self.inside.order.ok.0) in
    let fewer_by_device : length c.take_out.new.by_device.items + 1 ≡ length c.self.inside.by_device.items = omega (arith, c.take_out.ensures.shorter_by_device, c.take_out.new.by_device.ok.0, c.self.inside.by_device.ok.0) in
    out_of_both es c.self.inside.order.items c.self.inside.by_device.items c.take_out.new.order.items c.take_out.new.by_device.items old.«no» old left
    c.self.invariant found c.requires.kept c.requires.same.0 c.requires.same.1 refl c.take_out.ensures.order c.take_out.ensures.by_device fewer fewer_by_device

pub returns-then-not-new-clause-entries : goal.returns-then-not-new-clause-entries
returns-then-not-new-clause-entries c =
    let old : Entry = c.args.old in
    let es : List Entry = c.self.inside.entries.items in
    let found : entry_of es old.«no» ≡ Some old = rw (← c.self.view_is) at c.requires.on in
    let at = standing es old.«no» old c.self.invariant.ordered.numbered found in
    let is : old.«no» - 1 + 1 ≡ old.«no» = omega (arith, at.0) in
    rw (← c.self.view_is)
    (ap (λ (b : Bool). set es (old.«no» - 1) (record c.args.new { kept = b })) (sym (was_not c.args.new.kept c.if-not-new.true))
    ∙ changed (λ _. c.args.new) es (old.«no» - 1) old.«no» old c.self.invariant.ordered.numbered at.1 is at.2)

pub put_in-requires-clause-sheet : goal.put_in-requires-clause-sheet
put_in-requires-clause-sheet c =
    let old : Entry = c.args.old in
    let es : List Entry = c.self.inside.entries.items in
    let found : entry_of es old.«no» ≡ Some old = rw (← c.self.view_is) at c.requires.on in
    let at = standing es old.«no» old c.self.invariant.ordered.numbered found in
    let left : Entry = record c.args.new { kept = false } in
    let fewer : length c.take_out.new.order.items + 1 ≡ length c.self.inside.order.items = omega (arith, c.take_out.ensures.shorter, c.take_out.new.order.ok.0, c.self.inside.order.ok.0) in
    let fewer_by_device : length c.take_out.new.by_device.items + 1 ≡ length c.self.inside.by_device.items = omega (arith, c.take_out.ensures.shorter_by_device, c.take_out.new.by_device.ok.0, c.self.inside.by_device.ok.0) in
    rw (c.deref_mut.ensures.value)
    (out_of_both es c.self.inside.order.items c.self.inside.by_device.items c.take_out.new.order.items c.take_out.new.by_device.items old.«no» old left
    c.self.invariant found c.requires.kept c.requires.same.0 c.requires.same.1 refl c.take_out.ensures.order c.take_out.ensures.by_device fewer fewer_by_device)

pub put_in-requires-clause-some : goal.put_in-requires-clause-some
put_in-requires-clause-some c =
    let old : Entry = c.args.old in
    let es : List Entry = c.self.inside.entries.items in
    let found : entry_of es old.«no» ≡ Some old = rw (← c.self.view_is) at c.requires.on in
    let at = standing es old.«no» old c.self.invariant.ordered.numbered found in
    omega (arith, at.0, c.requires.same.0)

pub put_in-requires-clause-within : goal.put_in-requires-clause-within
put_in-requires-clause-within c =
    let old : Entry = c.args.old in
    let es : List Entry = c.self.inside.entries.items in
    let found : entry_of es old.«no» ≡ Some old = rw (← c.self.view_is) at c.requires.on in
    let at = standing es old.«no» old c.self.invariant.ordered.numbered found in
    let left : Entry = record c.args.new { kept = false } in
    rw (c.deref_mut.ensures.value) (omega (arith, at.1, c.requires.same.0, length-set es (old.«no» - 1) left))

pub put_in-requires-clause-gone : goal.put_in-requires-clause-gone
put_in-requires-clause-gone c =
    let old : Entry = c.args.old in
    let es : List Entry = c.self.inside.entries.items in
    let found : entry_of es old.«no» ≡ Some old = rw (← c.self.view_is) at c.requires.on in
    let at = standing es old.«no» old c.self.invariant.ordered.numbered found in
    let left : Entry = record c.args.new { kept = false } in
    ap (λ (xs : List Entry). (get_or xs (c.args.new.«no» - 1) c.args.new).kept) c.deref_mut.ensures.value
    ∙ ap (λ (m : ℕ). (get_or (set es (old.«no» - 1) left) (m - 1) c.args.new).kept) c.requires.same.0
    ∙ ap (λ (x : Entry). x.kept) (get_or-set_same es (old.«no» - 1) left c.args.new at.1)

pub returns-clause-entries : goal.returns-clause-entries
returns-clause-entries c =
    let old : Entry = c.args.old in
    let es : List Entry = c.self.inside.entries.items in
    let found : entry_of es old.«no» ≡ Some old = rw (← c.self.view_is) at c.requires.on in
    let at = standing es old.«no» old c.self.invariant.ordered.numbered found in
    let left : Entry = record c.args.new { kept = false } in
    let new : Entry = c.args.new in
    let long = length-set c.deref_mut.result.now (new.«no» - 1) new in
    let whole = written c.put_in.new.entries (set es (old.«no» - 1) left) c.self.inside.entries.len (omega (arith, ap length c.put_in.ensures.entries, long, ap length c.deref_mut.ensures.value, length-set es (old.«no» - 1) left, c.self.inside.entries.ok.0)) in
    let is : old.«no» - 1 + 1 ≡ old.«no» = omega (arith, at.0) in
    rw (← c.self.view_is)
    (whole ∙ c.put_in.ensures.entries
    ∙ ap (λ (xs : List Entry). set xs (new.«no» - 1) new) c.deref_mut.ensures.value
    ∙ ap (λ (m : ℕ). set (set es (old.«no» - 1) left) (m - 1) new) c.requires.same.0
    ∙ set_again es (old.«no» - 1) left new at.1
    ∙ changed (λ _. new) es (old.«no» - 1) old.«no» old c.self.invariant.ordered.numbered at.1 is at.2)
