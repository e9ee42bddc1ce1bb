use Rattle.std.proofs.Common.{◌≡◌, ◌∙◌, sym, ap, subst, arith, List, length}
use Rattle.ob_net.specs.declared.net.Node.{Node}
use Rattle.ob_time.specs.Calendar.{Calendar, day_count}
use Rattle.ob_post.specs.Moved.{moves_by}
use Rattle.ob_post.specs.MoveLaws.{change_from}
use Rattle.ob_state.specs.Amounts.{amount}
use Rattle.ob_post.specs.Balances.{Balances, IsOfSmall}
use Rattle.ob_state.specs.Effects.{before_change}
use Rattle.ob_state.specs.Retimings.{runs_in}
use Rattle.ob_state.specs.State.{BookState}
use Rattle.ob_state.specs.States.{BookValue}
use Rattle.ob_state.proofs.Amounting.{small}
use Rattle.ob_state.proofs.Deltas.{delta_of_other}
use Rattle.ob_state.proofs.NetworkChanges.{same_section}
use Rattle.ob_state.proofs.parts.effect_on_network.Goals as goal

pub moves-requires : goal.moves-requires
moves-requires g c =
    let b = c.args.state.now.state in
    let posting = c.in_ok-posting.posting in
    let balances : Balances (day_count b.period) posting (amount (before_change c.args.change.now b)) (amount b) =
    subst (λ (s : BookState). Balances (day_count s.period) posting (amount (before_change c.args.change.now s)) (amount s)) c.plan_change.ensures.state c.in_ok-posting.ensures.posted in
    let sound = c.accepted.ensures.sound in
    let ok : IsOfSmall (day_count b.period) posting = record {
      old = amount (before_change c.args.change.now b);
      new = amount b;
      small_old = small (before_change c.args.change.now b) c.total_laws.ensures.amounts sound.period sound.roll.few;
      small_new = small b c.total_laws.ensures.amounts sound.period sound.roll.few;
      balances = balances;
    } in
    let inside : c.state.inside.period ≡ b.period = ap (λ (s : BookValue). s.state.period) c.state.view_is ∙ ap (λ (s : BookState). s.period) c.plan_change.ensures.state in
    rw c.deref.ensures (record { small = subst (λ (p : Calendar). IsOfSmall (day_count p) posting) (sym inside) ok })

pub returns-clause-effect : goal.returns-clause-effect
returns-clause-effect g c =
    let b = c.args.state.now.state in
    let was = before_change c.args.change.now b in
    let posting = c.in_ok-posting.posting in
    let delta = c.in_ok-delta.delta in
    let lists = g.T.Timeline.content c.args.timeline.now in
    let balances : Balances (day_count b.period) posting (amount was) (amount b) =
    subst (λ (s : BookState). Balances (day_count s.period) posting (amount (before_change c.args.change.now s)) (amount s)) c.plan_change.ensures.state c.in_ok-posting.ensures.posted in
    let inside : c.state.inside.period ≡ b.period = ap (λ (s : BookValue). s.state.period) c.state.view_is ∙ ap (λ (s : BookState). s.period) c.plan_change.ensures.state in
    let at = subst (λ (p : Calendar). Balances (day_count p) posting (amount was) (amount b)) (sym inside) balances in
    record {
      moved = (rw c.deref.ensures at c.in_ok-moves.ensures.moves) (amount was) (amount b) at ∙ ap (λ (p : Calendar). moves_by (change_from (amount was) (amount b)) (day_count p)) inside;
      retiming = λ other are.
          let given = delta_of_other was b.network lists other delta (runs_in b) c.requires.runs are (same_section was.network b.network c.requires.nodes) c.in_ok-delta.ensures.fits c.in_ok-delta.ensures.delta in
          let same = ap (λ (nodes : List Node). length nodes) c.requires.nodes in
          (omega (arith, same), omega (arith, same, are.count), given.0, given.1);
    }
