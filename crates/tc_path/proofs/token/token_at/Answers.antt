use Rattle.std.proofs.Common.{subst, sym, ◌∙◌, ap}
use Rattle.tc_path.proofs.TokenLaws.{match_map, token_of_name, token_of_variable, no_token_here}
use Rattle.tc_model.specs.PathTextTokens as path
use Rattle.tc_path.proofs.token.token_at.Goals as goal

pub returns-then-begins_with_number : goal.returns-then-begins_with_number
returns-then-begins_with_number c =
    subst (λ w. path.TokenAt c.args.text.now path.number w) (sym (c.after_fraction.ensures ∙ ap path.after_fraction c.after_digits.ensures)) (path.TokenAt.a_number (sym c.begins_with_number.ensures ∙ c.if-begins_with_number.true))

pub returns-in-Some : goal.returns-in-Some
returns-in-Some c = path.TokenAt.a_mark (sym c.begins_with_number.ensures ∙ c.if-begins_with_number.false) c.in-Some.ensures

pub returns-in-Some-literal : goal.returns-in-Some-literal
returns-in-Some-literal c = path.TokenAt.a_literal c.in-Some-literal.ensures

pub returns-in-Some-after_variable : goal.returns-in-Some-after_variable
returns-in-Some-after_variable c = token_of_variable c.in-Some-after_variable.ensures

pub returns : goal.returns
returns c =
    match_map c.name_token.result
    (λ h. no_token_here (sym c.begins_with_number.ensures ∙ c.if-begins_with_number.false) c.in_default.ensures c.in_default-literal.ensures c.in_default-after_variable.ensures h)
    (λ r h. token_of_name h) c.name_token.ensures
