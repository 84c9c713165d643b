use Rattle.std.proofs.Common.{◌≡◌, ◌+◌, ◌<◌, ◌||◌, ◌∙◌, ℕ, Bool, List, ap, drop, get_or, length, refl, sym}
use Rattle.std.proofs.lemmas.List.{drop_all}
use Rattle.tc_model.proofs.ViewsGrammar.{left_class}
use Rattle.tc_model.specs.Grammars.{in_class, in_some_class}
use Rattle.tc_model.specs.Names.{ExpandedName}
use Rattle.tc_model.specs.Views.{class, classes, name}
use Rattle.tc_model.specs.declared.grammar.NameClass.{NameClass}
use Rattle.tc_auto.proofs.membership.+classes.Goals as goal

-- what is left begins with a member
next_is : (n : ExpandedName) (cs : List NameClass) (i : ℕ) (x : NameClass) (has found : Bool) → i < length cs → x ≡ get_or cs i x → has ≡ in_class (class x) n → has ≡ found → in_some_class (classes (drop i cs)) n ≡ (found || in_some_class (classes (drop (i + 1) cs)) n)
next_is n cs i x has found h e is same = ap (λ l. in_some_class l n) (left_class cs i x h e) ∙ ap (λ b. b || in_some_class (classes (drop (i + 1) cs)) n) (sym is ∙ same)

pub is_in_some_class-loop-member-init : goal.is_in_some_class-loop-member-init
is_in_some_class-loop-member-init t c = refl

pub is_in_some_class-loop-member-preserved : goal.is_in_some_class-loop-member-preserved
is_in_some_class-loop-member-preserved t c =
    sym (next_is (name c.args.name.now) c.args.members.now c.loop-member.member-index c.member-item.result c.is_in_class.result _ c.loop-member-test.true c.member-item.is c.is_in_class.ensures c.if-is_in_class.false) ∙ c.loop-member.invariant

pub is_in_some_class-returns-then-is_in_class : goal.is_in_some_class-returns-then-is_in_class
is_in_some_class-returns-then-is_in_class t c =
    sym (next_is (name c.args.name.now) c.args.members.now c.loop-member.member-index c.member-item.result c.is_in_class.result _ c.loop-member-test.true c.member-item.is c.is_in_class.ensures c.if-is_in_class.true) ∙ c.loop-member.invariant

pub is_in_some_class-returns : goal.is_in_some_class-returns
is_in_some_class-returns t c =
    sym (ap (λ (l : List NameClass). in_some_class (classes l) (name c.args.name.now)) (drop_all c.loop-member.member-index c.args.members.now c.loop-member-test.false)) ∙ c.loop-member.invariant
