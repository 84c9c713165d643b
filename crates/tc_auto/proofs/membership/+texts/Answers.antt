use Rattle.std.proofs.Common.{◌≡◌, ◌+◌, ◌<◌, ◌||◌, ◌∙◌, ℕ, Bool, List, ap, drop, get_or, length, refl, sym}
use Rattle.std.proofs.lemmas.List.{drop_all}
use Rattle.tc_model.proofs.ViewsGrammar.{left_pattern}
use Rattle.tc_model.specs.Grammars.{has_text, have_text}
use Rattle.tc_model.specs.Views.{pattern, patterns}
use Rattle.tc_model.specs.declared.grammar.Pat.{Pat}
use Rattle.tc_auto.proofs.membership.+texts.Goals as goal

-- what is left begins with a member
next_is : (ps : List Pat) (i : ℕ) (x : Pat) (has found : Bool) → i < length ps → x ≡ get_or ps i x → has ≡ has_text (pattern x) → has ≡ found → have_text (patterns (drop i ps)) ≡ (found || have_text (patterns (drop (i + 1) ps)))
next_is ps i x has found h e is same = ap have_text (left_pattern ps i x h e) ∙ ap (λ b. b || have_text (patterns (drop (i + 1) ps))) (sym is ∙ same)

pub is_some_with_text-loop-member-init : goal.is_some_with_text-loop-member-init
is_some_with_text-loop-member-init t c = refl

pub is_some_with_text-loop-member-preserved : goal.is_some_with_text-loop-member-preserved
is_some_with_text-loop-member-preserved t c =
    sym (next_is c.args.members.now c.loop-member.member-index c.member-item.result c.is_with_text.result _ c.loop-member-test.true c.member-item.is c.is_with_text.ensures c.if-is_with_text.false) ∙ c.loop-member.invariant

pub is_some_with_text-returns-then-is_with_text : goal.is_some_with_text-returns-then-is_with_text
is_some_with_text-returns-then-is_with_text t c =
    sym (next_is c.args.members.now c.loop-member.member-index c.member-item.result c.is_with_text.result _ c.loop-member-test.true c.member-item.is c.is_with_text.ensures c.if-is_with_text.true) ∙ c.loop-member.invariant

pub is_some_with_text-returns : goal.is_some_with_text-returns
is_some_with_text-returns t c =
    sym (ap (λ (l : List Pat). have_text (patterns l)) (drop_all c.loop-member.member-index c.args.members.now c.loop-member-test.false)) ∙ c.loop-member.invariant
