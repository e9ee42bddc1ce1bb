use Rattle.std.proofs.Common.{◌≡◌, ◌∙◌, sym, ap, ◌+◌, List, map, true, is_some}
use Rattle.std.specs.List.{find, slice_get}
use Rattle.ob_cust.specs.declared.Customer.{Customer}
use Rattle.ob_cust.specs.Service.{served_seconds}
use Rattle.ob_net.specs.Network.{Network, home_feeder}
use Rattle.ob_post.specs.SectionAmounts.{run_cause}
use Rattle.ob_sheet.specs.declared.Entry.{Entry}
use Rattle.ob_book.proofs.Supplied.{node_name_is, run_holds, section_is, supplied_is}
use Rattle.ob_book.proofs.supply.unsupplied_section.Goals as goal

pub returns-in_err-run : goal.returns-in_err-run
returns-in_err-run g c =
    let b = c.args.state.now.state in
    let section : is_some (home_feeder b.network c.args.node) ≡ true =
    ap (λ (n : Network). is_some (home_feeder n c.args.node)) (sym c.net.ensures.network) ∙ ap is_some (sym c.feeder_of.ensures ∙ c.in_ok-feeder_of.was) in
    c.from_residual-in_err-run.ensures
    ∙ supplied_is b (g.T.Timeline.content c.args.timeline.now) c.args.second c.args.node c.requires.runs section
    (ap (find (run_holds c.args.second)) (sym c.runs_of.ensures.runs) ∙ sym c.run_at.ensures ∙ c.in_err-run.was)

pub returns : goal.returns
returns g c =
    let b = c.args.state.now.state in
    let s = c.args.second in
    let v = c.args.node in
    let run = c.in_ok-run.run' in
    let section : is_some (home_feeder b.network v) ≡ true =
    ap (λ (n : Network). is_some (home_feeder n v)) (sym c.net.ensures.network) ∙ ap is_some (sym c.feeder_of.ensures ∙ c.in_ok-feeder_of.was) in
    section_is b (g.T.Timeline.content c.args.timeline.now) s v run c.node_name.result c.cause_before.result c.served_seconds.result c.requires.runs section
    (ap (find (run_holds s)) (sym c.runs_of.ensures.runs) ∙ sym c.run_at.ensures ∙ c.in_ok-run.was)
    (node_name_is b v c.node_name.result (ap (λ (n : Network). slice_get (map (λ x. x.name) n.nodes) v) (sym c.net-2.ensures.network) ∙ c.node_name.ensures))
    (c.cause_before.ensures ∙ ap (λ (es : List Entry). run_cause es run) c.sheet.ensures)
    (c.served_seconds.ensures ∙ ap (λ (cs : List Customer). served_seconds cs v s (s + 1)) c.roll.ensures)
