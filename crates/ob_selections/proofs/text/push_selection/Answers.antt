use Rattle.std.proofs.Common.{◌≡◌, ◌∙◌, ◌++◌, Bool, List, ℕ, OnOk, ap, subst}
use Rattle.ob_state.specs.State.{BookState}
use Rattle.ob_selections.specs.IndexText.{selection_line, set_word}
use Rattle.ob_selections.specs.Lines.{figures_line}
use Rattle.ob_selections.specs.Selections.{is_whole_period}
use Rattle.ob_selections.specs.declared.figures.Figures.{Figures}
use Rattle.ob_selections.proofs.text.push_selection.Goals as goal

pub returns-clause-ok : goal.returns-clause-ok
unfolding selection_line
returns-clause-ok g c =
    let b : BookState = c.args.book.now.state in
    let x = c.args.selection.now in
    let key = c.args.key.now in
    let k = c.figures_of-figures.result in
    let all = c.is_whole_period-all_days.result in
    let same : figures_line key c.word_of.result.now all k ≡ selection_line b key x =
    ap (λ (w : List ℕ). figures_line key w all k) c.word_of.ensures
    ∙ ap (λ (a : Bool). figures_line key (set_word x.which) a k) c.is_whole_period-all_days.ensures
    ∙ ap (λ (f : Figures). figures_line key (set_word x.which) (is_whole_period b x) f) c.figures_of-figures.ensures.figures
    in
    subst (λ (t : List ℕ). OnOk c.push_line.result (c.push_line.new.text.items ≡ c.args.text.now.items ++ t)) same c.push_line.ensures.ok
