-- Requests are answered by one text.
use Rattle.std.proofs.Common.{◌≡◌, ℕ, ◌-◌, Bool, List, [], ◌∷◌, ◌++◌, Option, None, Some, sym, ap, subst, ◌∙◌}
use Rattle.ob_book.specs.Acts.{ActState}
use Rattle.ob_http_requests.specs.Continue.{interim_text}
use Rattle.ob_http_requests.specs.Message.{Message}
use Rattle.ob_http_requests.specs.Stream.{ends}
use Rattle.ob_http_routes.specs.Answers.{Answer, RequestsAreAnsweredOneThing, answer_text}
use Rattle.ob_desk.specs.Exchanges.{AnswersAt, Replies}
use Rattle.ob_desk.specs.Laws.{RepliesAreOneThing}

one-answer : RequestsAreAnsweredOneThing → (x y z : Option ActState) (m : Message) (closes : Bool) (reply other : List ℕ)
    → AnswersAt x m closes reply y → AnswersAt x m closes other z → (reply ≡ other) × (y ≡ z)
one-answer law None None None m closes reply other (a, is, text) (d, is', text') =
    (text ∙ ap (λ e. answer_text e closes) (same a d (sym is ∙ is')) ∙ sym text', λ i. None)
  where
    same : (a d : Answer) → Some a ≡ Some d → a ≡ d
    same a d e = cc
one-answer law None (Some c) z m closes reply other h h' = absurd h
one-answer law None None (Some c) m closes reply other h h' = absurd h'
one-answer law (Some b) None z m closes reply other h h' = absurd h
one-answer law (Some b) (Some c) None m closes reply other h h' = absurd h'
one-answer law (Some b) (Some c) (Some e) m closes reply other (a, answers, text) (d, answers', text') =
    let same = law b m a d c e answers answers' in
    (text ∙ ap (λ k. answer_text k closes) same.0 ∙ sym text', ap Some same.1)

pub one-text : RequestsAreAnsweredOneThing → RepliesAreOneThing
one-text law allowed x y z [] text other (none, same) (none', same') = (none ∙ sym none', sym same ∙ same')
one-text law allowed x y z (m ∷ ms) text other (reply, more, next, answers, is, rest) (reply', more', next', answers', is', rest') =
    let first = one-answer law x next next' m (ends allowed m) reply reply' answers answers' in
    let others = one-text law (allowed - 1) next y z ms more more' rest (subst (λ n. Replies (allowed - 1) n ms more' z) (sym first.1) rest') in
    (is ∙ ap (λ t. interim_text m.waits ++ (t ++ more)) first.0 ∙ ap (λ t. interim_text m.waits ++ (reply' ++ t)) others.0 ∙ sym is', others.1)
