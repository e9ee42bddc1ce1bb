use Rattle.std.proofs.Common.{◌∙◌, inl, inr}
use Rattle.bench_calls.proofs.year.bench_year_table.Goals as goal

pub returns-in-Ok : goal.returns-in-Ok
returns-in-Ok c = elim c.copied.ensures [
  | inl none ↦ inl none
  | inr shown ↦ inr (c.in-Some.book.state, c.in-Some.ensures, shown ∙ c.deref.ensures.value ∙ c.in-Ok.ensures.text)
]
