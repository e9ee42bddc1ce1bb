use Rattle.std.proofs.Common.{◌≡◌, ◌∙◌, sym, ap, List, None, is_some, map, true, false}
use Rattle.std.proofs.lemmas.Result.{IfOk-weaker}
use Rattle.ob_net.specs.Network.{Network, home_feeder}
use Rattle.ob_sheet.specs.declared.Entry.{Entry}
use Rattle.ob_book.specs.Intervals.{interval_then}
use Rattle.ob_book.proofs.PlannedIntervals.{has_list, none_before, runs_before}
use Rattle.ob_book.proofs.intervals.intervals_before.Goals as goal

pub returns-then-not-is_section-clause-intervals : goal.returns-then-not-is_section-clause-intervals
returns-then-not-is_section-clause-intervals g c =
    let b = c.args.state.now.state in
    let v = c.args.node in
    let out : is_some (home_feeder b.network v) ≡ false = ap (λ (n : Network). is_some (home_feeder n v)) (sym c.net.ensures.network) ∙ sym c.is_section.ensures ∙ c.if-not-is_section.true in
    c.new.ensures.items ∙ none_before b v out

pub runs_of-requires : goal.runs_of-requires
runs_of-requires g c =
    let b = c.args.state.now.state in
    let v = c.args.node in
    let section : is_some (home_feeder b.network v) ≡ true = ap (λ (n : Network). is_some (home_feeder n v)) (sym c.net.ensures.network) ∙ sym c.is_section.ensures ∙ c.if-not-is_section.false in
    has_list b (g.T.Timeline.content c.args.timeline.now) v c.requires.runs section

pub returns-clause-intervals : goal.returns-clause-intervals
returns-clause-intervals g c =
    let b = c.args.state.now.state in
    let v = c.args.node in
    let section : is_some (home_feeder b.network v) ≡ true = ap (λ (n : Network). is_some (home_feeder n v)) (sym c.net.ensures.network) ∙ sym c.is_section.ensures ∙ c.if-not-is_section.false in
    IfOk-weaker c.with_causes.result _ _
    (λ list h. h ∙ ap (λ (es : List Entry). map (interval_then es None) c.runs_of.result.now) c.sheet.ensures
    ∙ ap (map (interval_then b.entries None)) c.runs_of.ensures.runs
    ∙ runs_before b (g.T.Timeline.content c.args.timeline.now) v c.requires.runs section)
    c.with_causes.ensures.intervals
