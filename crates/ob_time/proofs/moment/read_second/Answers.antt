use Rattle.std.proofs.Common.{inl, inr, sym}
use Rattle.ob_time.specs.Moment.{IsCivilText}
use Rattle.ob_time.proofs.MomentLemmas.{reads, IsCivilText-unique, IsSecondText-unix}
use Rattle.ob_time.proofs.moment.read_second.Goals as goal

pub returns-in-Some : goal.returns-in-Some
returns-in-Some c = IsSecondText-unix c.args.text.now c.in-Some.second (sym c.in-Some.ensures)

pub returns-in-None : goal.returns-in-None
returns-in-None c = λ s.
    let r = reads c.read_civil.result (IsCivilText c.args.text.now) (IsCivilText-unique c.args.text.now) c.read_civil.ensures.found c.read_civil.ensures.none s in
    let none = c.in-None.ensures in
    (λ e. inr (r.0 e), λ h. elim h [ inl unix ↦ absurd (cc (none, unix)) | inr civil ↦ r.1 civil ])
