use Rattle.std.proofs.Common.{◌≡◌, ◌≢◌, ℕ, ◌+◌, ◌-◌, ◌<◌, List, length, take, get_or, None, refl, subst, ap, ◌∙◌, arith}
use Rattle.std.specs.List.{AllWithin}
use Rattle.std.proofs.lemmas.List.{get_or_default}
use Rattle.ob_cust.specs.declared.SectionBlock.{SectionBlock}
use Rattle.ob_cust.specs.declared.services.Before.{Before}
use Rattle.ob_cust.specs.Services.{AreServices, IsBefore}
use Rattle.ob_cust.proofs.Keyed.{sections_rise}
use Rattle.ob_cust.proofs.Running.{before_first, before_more, next_fits}
use Rattle.ob_cust.proofs.services.sums_at.Goals.{then-at-eq0-via-then-at-eq0, then-at-eq0-via-else-at-eq0+then-blocks-at}
use Rattle.ob_cust.proofs.services.sums_at.Goals as goal

none_earlier : (bs : List SectionBlock) (at : ℕ) (e f d : SectionBlock) → AreServices bs → 0 < at → at < length bs → (get_or bs (at - 1) e).section ≢ (get_or bs at f).section → AllWithin (λ b. b.section ≢ (get_or bs at d).section) bs 0 at
none_earlier bs at e f d h p l ne k g lo hi q =
    let first = sections_rise bs h.ordered k (at - 1) g (omega arith) (omega arith) in
    let second = sections_rise bs h.ordered (at - 1) at g (omega arith) l in
    let a = ap (λ (b : SectionBlock). b.section) (get_or_default bs (at - 1) e g (omega arith)) in
    let b = ap (λ (b : SectionBlock). b.section) (get_or_default bs at f g l) in
    let c = ap (λ (b : SectionBlock). b.section) (get_or_default bs at d g l) in
    ne (omega (arith, first, second, a, b, c, q))

pub returns-then-at-eq0 : goal.returns-then-at-eq0
returns-then-at-eq0 c =
    elim c.then-at-eq0.branch [
      | then-at-eq0-via-then-at-eq0 w ↦ λ d. before_first c.args.blocks.now c.args.at (get_or c.args.blocks.now c.args.at d).section (omega (arith, c.requires.at)) (λ k e lo hi. absurd (omega (arith, w.if-at-eq0.true)))
      | then-at-eq0-via-else-at-eq0+then-blocks-at w ↦
          λ d. before_first c.args.blocks.now c.args.at (get_or c.args.blocks.now c.args.at d).section (omega (arith, c.requires.at)) (none_earlier c.args.blocks.now c.args.at _ _ d c.requires.services (omega (arith, w.if-at-eq0.false)) c.requires.at w.if-blocks-at.true)
    ]

abbrev no_block : SectionBlock
no_block = record { section = 0; block = record { since = 0; until = None; count = 0 } }

abbrev no_sums : Before
no_sums = record { customers = 0; seconds = 0 }

pub with_own-requires-clause-few : goal.with_own-requires-clause-few
with_own-requires-clause-few c =
    (next_fits c.args.blocks.now (c.args.at - 1) no_block (get_or c.args.before.now (c.args.at - 1) no_sums) c.requires.services (omega (arith, c.requires.at)) (c.requires.front (c.args.at - 1) (omega (arith, c.if-at-eq0.false)) no_block no_sums)).0

pub with_own-requires-clause-small : goal.with_own-requires-clause-small
with_own-requires-clause-small c =
    (next_fits c.args.blocks.now (c.args.at - 1) no_block (get_or c.args.before.now (c.args.at - 1) no_sums) c.requires.services (omega (arith, c.requires.at)) (c.requires.front (c.args.at - 1) (omega (arith, c.if-at-eq0.false)) no_block no_sums)).1

pub returns : goal.returns
returns c d =
    let bs = c.args.blocks.now in
    let at = c.args.at in
    let e : at - 1 + 1 ≡ at = omega (arith, c.if-at-eq0.false) in
    let own : (get_or bs at no_block).section ≡ (get_or bs at d).section = ap (λ (b : SectionBlock). b.section) (get_or_default bs at no_block d c.requires.at) in
    let front = c.requires.front (at - 1) (omega (arith, c.if-at-eq0.false)) no_block no_sums in
    let more = before_more bs (at - 1) (get_or bs (at - 1) no_block).section no_block (get_or c.args.before.now (at - 1) no_sums) c.with_own.result (omega (arith, c.requires.at)) refl front c.with_own.ensures.customers c.with_own.ensures.seconds in
    subst (λ (k : ℕ). IsBefore (get_or bs at d).section (take k bs) c.with_own.result) e
    (subst (λ (s : ℕ). IsBefore s (take (at - 1 + 1) bs) c.with_own.result) (c.if-blocks-at.false ∙ own) more)
