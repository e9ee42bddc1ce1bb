use Rattle.std.proofs.Common.{rules, sym, ◌∙◌, add-one}
use Rattle.std.proofs.lemmas.List.{take_rest}
use Rattle.ob_http_requests.proofs.ListLemmas.{says_first, says_later, says_last}
use Rattle.ob_http_requests.proofs.list.is_listed.Goals as goal

pub returns-then-is_option : goal.returns-then-is_option
returns-then-is_option c =
    says_first _ c.elements.rest.now _ c.in-Some.comma (search rules) (search rules) (search rules) c.elements.invariant (sym c.is_option.ensures ∙ c.if-is_option.true)

pub elements-preserved : goal.elements-preserved
elements-preserved c =
    says_later _ c.elements.rest.now _ _ c.in-Some.comma (search rules) (search rules) (search rules) (simp (take_rest, add-one)) c.elements.invariant (sym c.is_option.ensures ∙ c.if-is_option.false)

pub returns : goal.returns
returns c = says_last _ c.elements.rest.now _ _ (search rules) c.elements.invariant c.is_option-2.ensures
