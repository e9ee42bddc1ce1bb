use Rattle.std.proofs.Common.{◌∙◌, sym, ap, subst}
use Rattle.ob_time.specs.Calendar.{day_count}
use Rattle.ob_post.specs.MoveLaws.{change_from}
use Rattle.ob_post.specs.Moved.{moves_by}
use Rattle.ob_state.specs.States.{BookValue}
use Rattle.ob_state.specs.Amounts.{amount}
use Rattle.ob_state.specs.Resolved.{next_by}
use Rattle.ob_state.specs.declared.resolved.Resolved.TheVariants.{Customer}
use Rattle.ob_post.specs.Balances.{Balances, IsOfSmall}
use Rattle.ob_state.proofs.Amounting.{small}
use Rattle.ob_state.proofs.Serving.{connect_balance, connect_small, good_service}
use Rattle.ob_state.proofs.service.effect_of_connect.Goals as goal

pub give_customer-requires-clause-service : goal.give_customer-requires-clause-service
give_customer-requires-clause-service g c = good_service c.args.state.now.state.customers c.args.customer c.requires.takes.free

pub moves-requires : goal.moves-requires
moves-requires g c =
    let b = c.args.state.now.state in
    let customer = c.args.customer in
    let posting = c.give_customer.new.posting in
    let sound = c.accepted.ensures.sound in
    let given = c.in_ok-give_customer.ensures.given (amount b) (amount b) (c.new-posting.ensures (day_count b.period) (amount b)) in
    let ok : IsOfSmall (day_count b.period) posting = record {
      old = amount b;
      new = amount (next_by b (Customer customer));
      small_old = small b c.total_laws.ensures.amounts sound.period sound.roll.few;
      small_new = connect_small b customer c.total_laws.ensures.amounts sound.period sound.roll.few c.requires.takes.free;
      balances = connect_balance posting b customer c.roll_laws.ensures.connected given;
    } in
    rw c.deref.ensures (record { small = subst (λ (s : BookValue). IsOfSmall (day_count s.state.period) posting) (sym c.state.view_is) ok })

pub returns-clause-effect : goal.returns-clause-effect
returns-clause-effect g c =
    let b = c.args.state.now.state in
    let then = next_by b (Customer c.args.customer) in
    let posting = c.give_customer.new.posting in
    let given = c.in_ok-give_customer.ensures.given (amount b) (amount b) (c.new-posting.ensures (day_count b.period) (amount b)) in
    let balances = connect_balance posting b c.args.customer c.roll_laws.ensures.connected given in
    let inside = subst (λ (s : BookValue). Balances (day_count s.state.period) posting (amount b) (amount then)) (sym c.state.view_is) balances in
    let moved = (rw c.deref.ensures at c.in_ok-moves.ensures.moves) (amount b) (amount then) inside in
    record {
      moved = moved ∙ ap (λ (s : BookValue). moves_by (change_from (amount b) (amount then)) (day_count s.state.period)) c.state.view_is;
      retiming = λ lists are. are;
    }
