use Rattle.std.proofs.Common.{◌∙◌, sym, ap, subst, ◌<◌, IsSome}
use Rattle.std.specs.Option.{IfSome}
use Rattle.ob_net.specs.Network.{home_feeder}
use Rattle.ob_cust.specs.declared.Customer.{Customer}
use Rattle.ob_time.specs.Calendar.{day_count}
use Rattle.ob_post.specs.MoveLaws.{change_from}
use Rattle.ob_post.specs.Moved.{moves_by}
use Rattle.ob_state.specs.States.{BookValue}
use Rattle.ob_state.specs.Amounts.{amount}
use Rattle.ob_state.specs.Resolved.{next_by}
use Rattle.ob_state.specs.declared.resolved.Resolved.TheVariants.{Service}
use Rattle.ob_post.specs.Balances.{Balances, IsOfSmall, together}
use Rattle.ob_state.specs.Effects.{amount_of_customer}
use Rattle.ob_state.proofs.Accepted.{customer_holds, service_of_one}
use Rattle.ob_state.proofs.Amounting.{small}
use Rattle.ob_state.proofs.Serving.{revise_balance, revise_small}
use Rattle.ob_state.proofs.service.effect_of_revise.Goals as goal

pub take_customer-requires-clause-section : goal.take_customer-requires-clause-section
take_customer-requires-clause-section g c =
    let b = c.args.state.now.state in
    customer_holds (λ d. IsSome (home_feeder b.network d.section)) b.customers c.args.old.«no» c.args.old c.requires.takes.old c.accepted.ensures.sound.state.sections

pub take_customer-requires-clause-service : goal.take_customer-requires-clause-service
take_customer-requires-clause-service g c =
    let old = c.args.old in
    service_of_one old (customer_holds (λ d. IfSome d.until (λ u. d.since < u)) c.args.state.now.state.customers old.«no» old c.requires.takes.old c.accepted.ensures.sound.roll.services)

pub give_customer-requires-clause-section : goal.give_customer-requires-clause-section
give_customer-requires-clause-section g c =
    let b = c.args.state.now.state in
    let section = customer_holds (λ d. IsSome (home_feeder b.network d.section)) b.customers c.args.old.«no» c.args.old c.requires.takes.old c.accepted.ensures.sound.state.sections in
    subst (λ (d : Customer). IsSome (home_feeder b.network d.section)) (sym c.requires.takes.new) section

pub moves-requires : goal.moves-requires
moves-requires g c =
    let b = c.args.state.now.state in
    let old = c.args.old in
    let new = c.args.new in
    let posting = c.give_customer.new.posting in
    let sound = c.accepted.ensures.sound in
    let taken = c.in_ok-take_customer.ensures.taken (amount b) (amount b) (c.new-posting.ensures (day_count b.period) (amount b)) in
    let given = c.in_ok-give_customer.ensures.given (together (amount b) (amount_of_customer b old)) (amount b) taken in
    let ok : IsOfSmall (day_count b.period) posting = record {
      old = amount b;
      new = amount (next_by b (Service old new));
      small_old = small b c.total_laws.ensures.amounts sound.period sound.roll.few;
      small_new = revise_small b old new c.total_laws.ensures.amounts sound.period sound.roll.few;
      balances = revise_balance posting b old new c.roll_laws.ensures.changed sound.roll.rising c.requires.takes.old c.requires.takes.new given;
    } in
    rw c.deref.ensures (record { small = subst (λ (s : BookValue). IsOfSmall (day_count s.state.period) posting) (sym c.state.view_is) ok })

pub returns-clause-effect : goal.returns-clause-effect
returns-clause-effect g c =
    let b = c.args.state.now.state in
    let old = c.args.old in
    let then = next_by b (Service old c.args.new) in
    let posting = c.give_customer.new.posting in
    let taken = c.in_ok-take_customer.ensures.taken (amount b) (amount b) (c.new-posting.ensures (day_count b.period) (amount b)) in
    let given = c.in_ok-give_customer.ensures.given (together (amount b) (amount_of_customer b old)) (amount b) taken in
    let balances = revise_balance posting b old c.args.new c.roll_laws.ensures.changed c.accepted.ensures.sound.roll.rising c.requires.takes.old c.requires.takes.new given in
    let inside = subst (λ (s : BookValue). Balances (day_count s.state.period) posting (amount b) (amount then)) (sym c.state.view_is) balances in
    let moved = (rw c.deref.ensures at c.in_ok-moves.ensures.moves) (amount b) (amount then) inside in
    record {
      moved = moved ∙ ap (λ (s : BookValue). moves_by (change_from (amount b) (amount then)) (day_count s.state.period)) c.state.view_is;
      retiming = λ lists are. are;
    }
