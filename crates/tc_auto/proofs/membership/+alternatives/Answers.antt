use Rattle.std.proofs.Common.{◌≡◌, ◌+◌, ◌<◌, ◌||◌, ◌∙◌, ℕ, Bool, List, ap, drop, get_or, length, refl, sym}
use Rattle.std.proofs.lemmas.List.{drop_all}
use Rattle.tc_model.proofs.ViewsGrammar.{left_pattern}
use Rattle.tc_model.specs.States.{is_alternative, is_one_alternative}
use Rattle.tc_model.specs.Views.{pattern, patterns}
use Rattle.tc_model.specs.declared.grammar.Pat.{Pat}
use Rattle.tc_auto.proofs.membership.+alternatives.Goals as goal

-- what is left begins with a member
next_is : (k : ℕ) (ps : List Pat) (i : ℕ) (x : Pat) (has found : Bool) → i < length ps → x ≡ get_or ps i x → has ≡ is_alternative k (pattern x) → has ≡ found → is_one_alternative k (patterns (drop i ps)) ≡ (found || is_one_alternative k (patterns (drop (i + 1) ps)))
next_is k ps i x has found h e is same = ap (is_one_alternative k) (left_pattern ps i x h e) ∙ ap (λ b. b || is_one_alternative k (patterns (drop (i + 1) ps))) (sym is ∙ same)

pub has_one_alternative-loop-member-init : goal.has_one_alternative-loop-member-init
has_one_alternative-loop-member-init t c = refl

pub has_one_alternative-loop-member-preserved : goal.has_one_alternative-loop-member-preserved
has_one_alternative-loop-member-preserved t c =
    sym (next_is c.args.number c.args.members.now c.loop-member.member-index c.member-item.result c.has_alternative.result _ c.loop-member-test.true c.member-item.is c.has_alternative.ensures c.if-has_alternative.false) ∙ c.loop-member.invariant

pub has_one_alternative-returns-then-has_alternative : goal.has_one_alternative-returns-then-has_alternative
has_one_alternative-returns-then-has_alternative t c =
    sym (next_is c.args.number c.args.members.now c.loop-member.member-index c.member-item.result c.has_alternative.result _ c.loop-member-test.true c.member-item.is c.has_alternative.ensures c.if-has_alternative.true) ∙ c.loop-member.invariant

pub has_one_alternative-returns : goal.has_one_alternative-returns
has_one_alternative-returns t c =
    sym (ap (λ (l : List Pat). is_one_alternative c.args.number (patterns l)) (drop_all c.loop-member.member-index c.args.members.now c.loop-member-test.false)) ∙ c.loop-member.invariant
