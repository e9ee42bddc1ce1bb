use Rattle.std.proofs.Common.{◌≡◌, ◌∙◌, subst, sym, ℕ}
use Rattle.std.specs.Prelude.{IfErr, Result}
use Rattle.ob_base.specs.Stop.{out_of_memory}
use Rattle.ob_base.specs.declared.stop.Stop.{Stop}
use Rattle.std.proofs.lemmas.Result.{err_from_is_err_and}
use Rattle.ob_post.specs.Keys.{IsKey}
use Rattle.ob_headline.proofs.Headlines.{headline}
use Rattle.ob_headline.proofs.figures.shown_of.Goals as goal

pub amount-requires : goal.amount-requires
amount-requires g c = subst (λ (n : ℕ). IsKey n c.args.dim c.args.key) (sym c.postings-postings.ensures.posted.days) c.requires.key

pub returns-in_err-annual_text-clause-err : goal.returns-in_err-annual_text-clause-err
returns-in_err-annual_text-clause-err g c =
    let p = err_from_is_err_and c.from_residual-in_err-annual_text.result c.from_residual-in_err-annual_text.ensures.1 in
    subst (λ (r : Result _ Stop). IfErr r (λ stop. stop ≡ out_of_memory)) (sym p.1) (p.2 ∙ c.in_err-annual_text.ensures.err)

pub returns-clause-headline : goal.returns-clause-headline
returns-clause-headline g c =
    λ b reached same. headline c.walk_law.ensures.supplied c.next_law.ensures.period c.move_laws.ensures.change c.total_laws.ensures.agree c.acts_law.ensures.posted b reached
    c.args.dim c.args.key c.args.which c.postings-postings.result.now _ c.args.book.now.state same (record {
      kept = c.requires.key;
      are = c.postings-postings.ensures.posted;
      amount = c.amount.ensures.value;
      total = c.total.ensures.value;
      all = c.postings-postings.ensures.totals c.args.dim;
      index = c.index_view.ensures.quotients;
      computed = c.index_view.ensures.computed;
      totals_json = c.new-totals_text.ensures ∙ c.in_ok-totals_text.ensures.text;
      indices_json = c.new-indices_text.ensures ∙ c.in_ok-indices_text.ensures.text;
      table = c.new-annual_table.ensures ∙ c.in_ok-annual_text.ensures.text;
    })
