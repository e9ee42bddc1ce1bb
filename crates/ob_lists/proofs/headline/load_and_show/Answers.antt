use Rattle.std.proofs.Common.{inl}
use Rattle.ob_lists.proofs.Headlines.{goes_from, loaded_shows, without_memory}
use Rattle.ob_lists.proofs.headline.load_and_show.Goals as goal

pub returns-in-Ok-clause-shows : goal.returns-in-Ok-clause-shows
returns-in-Ok-clause-shows g c =
    λ clean b told stands. loaded_shows c.next_law.ensures.period c.told_law.ensures.commands b told c.load.new.keeper c.args.dim c.args.key
    c.args.which c.shown.result c.shown.ensures.headline c.shown.ensures.none c.shown.ensures.err c.args.keeper.now tt (c.in-Ok.ensures.loads clean b told stands)

pub returns-in-Ok-clause-after : goal.returns-in-Ok-clause-after
returns-in-Ok-clause-after g c =
    λ clean b told first begun goes. returns-in-Ok-clause-shows g c clean b told
    (goes_from b told first c.args.keeper.now begun goes (c.in-Ok.ensures.goes.clean clean))

pub returns-in-Err-clause-shows : goal.returns-in-Err-clause-shows
returns-in-Err-clause-shows g c = λ clean b told stands. c.in-Err.ensures.loads clean b told stands

pub returns-in-Err-clause-after : goal.returns-in-Err-clause-after
returns-in-Err-clause-after g c =
    λ clean b told first begun goes. returns-in-Err-clause-shows g c clean b told
    (goes_from b told first c.args.keeper.now begun goes (c.in-Err.ensures.goes.clean clean))

pub returns-in-Ok-clause-goes : goal.returns-in-Ok-clause-goes
returns-in-Ok-clause-goes g c = c.in-Ok.ensures.goes

pub returns-in-Ok-clause-stops : goal.returns-in-Ok-clause-stops
returns-in-Ok-clause-stops g c = without_memory _ c.shown.result c.in-Ok.ensures.load.found c.shown.ensures.err

pub returns-in-Err-clause-goes : goal.returns-in-Err-clause-goes
returns-in-Err-clause-goes g c = c.in-Err.ensures.goes

pub returns-in-Err-clause-stops : goal.returns-in-Err-clause-stops
returns-in-Err-clause-stops g c = inl c.in-Err.ensures.load
