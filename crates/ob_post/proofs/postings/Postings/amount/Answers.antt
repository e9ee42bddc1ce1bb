use Rattle.std.proofs.Common.{◌≡◌, ◌∙◌, ◌<◌, ap, sym, subst, get_or, length, arith}
use Rattle.std.proofs.lemmas.List.{get_or_read}
use Rattle.ob_post.specs.Keys.{IsKey}
use Rattle.ob_post.specs.Places.{amounts_in}
use Rattle.ob_post.specs.Postings.{PostedAmounts, amount_of, day_count}
use Rattle.ob_post.proofs.Keying.{amount_at, at_most_sum}
use Rattle.ob_post.proofs.Placed.{key_known, place_within}
use Rattle.ob_post.proofs.postings.Postings.amount.Goals as goal

pub place_of-requires : goal.place_of-requires
place_of-requires c =
    key_known c.self.inside.amounts.items c.args.dim c.args.key c.self.invariant
    (subst (λ (a : PostedAmounts). IsKey (day_count a) c.args.dim c.args.key) (sym c.self.view_is) c.requires)

pub index-requires : goal.index-requires
index-requires c =
    let known = subst (λ (a : PostedAmounts). IsKey (day_count a) c.args.dim c.args.key) (sym c.self.view_is) c.requires in
    omega (arith, c.place_of.ensures, place_within c.self.inside.amounts.items c.args.dim c.args.key c.self.invariant known, c.self.inside.amounts.ok)

value : (c : goal.After-row_known-1) → c.index.result.now ≡ amount_of c.args.self.now c.args.dim c.args.key
value c =
    let places = c.self.inside.amounts.items in
    let known = subst (λ (a : PostedAmounts). IsKey (day_count a) c.args.dim c.args.key) (sym c.self.view_is) c.requires in
    let within : c.place_of.result < length places =
    omega (arith, c.place_of.ensures, place_within places c.args.dim c.args.key c.self.invariant known) in
    get_or_read places c.place_of.result c.index.result.now within c.index.ensures 0
    ∙ ap (λ i. get_or places i 0) c.place_of.ensures
    ∙ sym (amount_at places (day_count (amounts_in places)) c.args.dim c.args.key known)
    ∙ ap (λ (a : PostedAmounts). amount_of a c.args.dim c.args.key) c.self.view_is

pub returns-clause-value : goal.returns-clause-value
returns-clause-value c = value c

pub returns-clause-part : goal.returns-clause-part
returns-clause-part c =
    rw (value c) (at_most_sum (amount_of c.args.self.now c.args.dim) (day_count c.args.self.now) c.args.dim c.args.key c.requires)
