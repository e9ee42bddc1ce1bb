use Rattle.std.proofs.Common.{◌≡◌, ◌+◌, ◌∙◌, ap, refl, subst, sym}
use Rattle.ob_post.specs.Postings.{PostedAmounts}
use Rattle.ob_state.specs.State.{BookState}
use Rattle.ob_state.specs.Next.{next}
use Rattle.ob_state.specs.Resolved.{next_by}
use Rattle.ob_book.specs.Acts.{Referenced}
use Rattle.ob_book.specs.Books.{ArePosted}
use Rattle.ob_sql_write.specs.declared.act.Act.{Act}
use Rattle.ob_record.specs.Leading.{LeadsParts}
use Rattle.ob_record.proofs.Acted.{AreRowsOf, can_write, records}
use Rattle.ob_record.proofs.Leads.{leads}
use Rattle.ob_record.proofs.act.act_of.Given as given
use Rattle.ob_record.proofs.act.act_of.Goals as goal

abbrev command : (g : given.Over) → goal.After-moves g → Referenced
command g c = record { reference = c.args.reference.now; command = c.args.plan.now.command }

abbrev act : (g : given.Over) → goal.After-moves g → Act
act g c = record {
  no = c.accepted.result + 1;
  reference = c.args.reference;
  body = c.args.body;
  resolved = c.resolved-resolved.result;
  moves = c.moves.result;
}

-- what the command comes to leads to the rows of the state after it
lead : (g : given.Over) (c : goal.After-moves g) → LeadsParts c.args.book.now.state (next c.args.book.now.state c.args.plan.now.command) c.resolved-resolved.result.now
lead g c =
    let b = c.args.book.now.state in
    let it = c.requires.plan.resolves in
    let is : c.args.plan.now.resolved ≡ c.resolved-resolved.result.now = sym c.resolved-resolved.ensures in
    let led : LeadsParts b (next_by b c.args.plan.now.resolved) c.args.plan.now.resolved =
    leads b c.args.plan.now.resolved c.accepted.ensures.sound it.takes (rw c.resolved-resolved.ensures at c.crew_law.ensures) in
    subst (LeadsParts b (next b c.args.plan.now.command)) is (subst (λ (s : BookState). LeadsParts b s c.args.plan.now.resolved) it.next led)

are_rows : (g : given.Over) (c : goal.After-moves g) (p : PostedAmounts) → ArePosted c.args.book.now.state p
    → AreRowsOf c.args.book.now.state (command g c) p (act g c)
are_rows g c p posted = record {
  id = ap (λ n. n + 1) c.accepted.ensures.accepted;
  reference = refl;
  body = c.requires.body;
  leads = lead g c;
  moves = c.moves.ensures ∙ c.requires.plan.moved;
  posted = posted;
  small = c.requires.small.0;
  still_small = c.requires.small.1;
}

pub returns-clause-can : goal.returns-clause-can
returns-clause-can g c p posted =
    can_write c.move_laws.ensures.keys c.args.book.now.state (command g c) p (act g c) (are_rows g c p posted)

pub returns-clause-leads : goal.returns-clause-leads
returns-clause-leads g c = lead g c

pub returns-clause-records : goal.returns-clause-records
returns-clause-records g c b reached same p posted =
    records c.move_laws.ensures.keys c.move_laws.ensures.change c.move_laws.ensures.order c.next_law.ensures.period c.acts_law.ensures.state b (command g c) p (act g c) reached
    (subst (λ s. AreRowsOf s (command g c) p (act g c)) (sym same) (are_rows g c p posted))
