use Rattle.std.proofs.Common.{sym, ap, ◌∙◌}
use Rattle.ob_state.specs.State.{BookState}
use Rattle.ob_store.proofs.led.begin.Goals as goal

-- the network of a new book is GRID alone, and so is a new layout
pub returns-in-Ok-new-clause-begun : goal.returns-in-Ok-new-clause-begun
returns-in-Ok-new-clause-begun g c = record {
  new = c.in-Ok.ensures.new;
  laid_out = c.in-Ok-new.ensures.network ∙ sym (ap (λ (b : BookState). b.network) c.in-Ok.ensures.new.new);
}
