-- Paths, patterns and tests have no variable references, literals and numbers, so that renaming changes none of them.
use Rattle.std.proofs.Common.{◌≡◌, Bool, List, [], ◌∷◌, refl, ap}
use Rattle.tc_model.specs.RawTrees.{Bound}
use Rattle.tc_model.specs.Sheets.{NodeTest, Steps, Path, Test, Tests, Body}
use Rattle.tc_model.specs.PathTextTokens.{Token, name, all_of_prefix, mark, number, literal, variable}
use Rattle.tc_model.specs.PathTextPhrases as p
use Rattle.tc_model.specs.PathText.{IsSelect, IsAttributes, IsValue, of_self, of_path, IsTest, of_tests, IsPattern}
use Rattle.tc_path.specs.Reasons.{Renamed, no_more, as_it_is, a_number, a_literal, a_variable}

abbrev pub IsPlain : Token → Type 0
IsPlain (name n) = Unit {0}
IsPlain (all_of_prefix q) = Unit {0}
IsPlain (mark m) = Unit {0}
IsPlain number = ⊥
IsPlain literal = ⊥
IsPlain variable = ⊥

abbrev pub ArePlain : List Token → Type 0
ArePlain [] = Unit {0}
ArePlain (t ∷ ts) = IsPlain t × ArePlain ts

-- such tokens are not renamed
pub renamed_same : {ts us : List Token} → Renamed ts us → ArePlain ts → us ≡ ts
renamed_same no_more a = refl
renamed_same (as_it_is {t = t} r) a = ap (λ w. t ∷ w) (renamed_same r a.1)
renamed_same (a_number r) a = absurd a.0
renamed_same (a_literal r) a = absurd a.0
renamed_same (a_variable r) a = absurd a.0

plain_node_test : {scope : List Bound} {ts after : List Token} {t : NodeTest} → p.NodeTestAt scope ts t after → ArePlain after → ArePlain ts
plain_node_test (p.a_name m e) a = (tt, a)
plain_node_test (p.a_namespace e) a = (tt, a)
plain_node_test p.a_star a = (tt, a)
plain_node_test p.a_text a = (tt, (tt, (tt, a)))
plain_node_test p.a_node a = (tt, (tt, (tt, a)))

plain_child : {scope : List Bound} {ts after : List Token} {t : NodeTest} → p.ChildAt scope ts t after → ArePlain after → ArePlain ts
plain_child (p.abbreviated t) a = plain_node_test t a
plain_child (p.spelled t) a = (tt, (tt, plain_node_test t a))

plain_attribute_test : {scope : List Bound} {ts after : List Token} → p.AttributeTestAt scope ts after → ArePlain after → ArePlain ts
plain_attribute_test (p.a_name m) a = (tt, a)
plain_attribute_test (p.a_namespace e) a = (tt, a)
plain_attribute_test p.a_star a = (tt, a)

plain_attribute : {scope : List Bound} {ts after : List Token} → p.AttributeAt scope ts after → ArePlain after → ArePlain ts
plain_attribute (p.abbreviated t) a = (tt, plain_attribute_test t a)
plain_attribute (p.spelled t) a = (tt, (tt, plain_attribute_test t a))

plain_other : {ts after : List Token} → p.OtherNodeAt ts after → ArePlain after → ArePlain ts
plain_other p.a_comment a = (tt, (tt, (tt, a)))
plain_other p.an_instruction a = (tt, (tt, (tt, a)))

module _ {scope : List Bound} where
  mutual
    plain_steps : {deep : Bool} {ts after : List Token} {ss : Steps} {f : p.Form} → p.StepsAt scope deep ts ss f after → ArePlain after → ArePlain ts
    plain_steps (p.attribute_step t) a = plain_attribute t a
    plain_steps (p.last_step t us l k) a = plain_child t (plain_predicates us a)
    plain_steps (p.child_step t us ss) a = plain_child t (plain_predicates us ((tt, plain_steps ss a)))
    plain_steps (p.descendant_step t us ss) a = plain_child t (plain_predicates us ((tt, plain_steps ss a)))

    plain_predicates : {ts after : List Token} {us : Tests} → p.PredicatesAt scope ts us after → ArePlain after → ArePlain ts
    plain_predicates (p.no_predicate l) a = a
    plain_predicates (p.predicate us vs) a = (tt, plain_or us ((tt, plain_predicates vs a)))

    plain_alternative : {ts after : List Token} {ss : Steps} {f : p.Form} → p.AlternativeAt scope ts ss f after → ArePlain after → ArePlain ts
    plain_alternative (p.from_children ss) a = plain_steps ss a
    plain_alternative (p.from_descendants ss) a = (tt, (tt, plain_steps ss a))
    plain_alternative (p.other_node o) a = plain_other o a

    plain_select : {ts after : List Token} {q : Path} {drops : Bool} → p.SelectAt scope ts q drops after → ArePlain after → ArePlain ts
    plain_select (p.last_alternative x l) a = plain_alternative x a
    plain_select (p.one_alternative x s) a = plain_alternative x ((tt, plain_select s a))

    plain_primary : {ts after : List Token} {t : Test} → p.PrimaryAt scope ts t after → ArePlain after → ArePlain ts
    plain_primary (p.a_path s) a = plain_select s a
    plain_primary (p.a_negation us) a = (tt, (tt, plain_or us ((tt, a))))
    plain_primary p.a_truth a = (tt, (tt, (tt, a)))
    plain_primary p.a_falsehood a = (tt, (tt, (tt, a)))
    plain_primary (p.in_parentheses us) a = (tt, plain_or us ((tt, a)))

    plain_and : {ts after : List Token} {us : Tests} → p.AndAt scope ts us after → ArePlain after → ArePlain ts
    plain_and (p.last_primary t l) a = plain_primary t a
    plain_and (p.one_primary t us) a = plain_primary t ((tt, plain_and us a))

    plain_or : {ts after : List Token} {us : Tests} → p.OrAt scope ts us after → ArePlain after → ArePlain ts
    plain_or (p.last_conjunction us l) a = plain_and us a
    plain_or (p.one_conjunction us vs) a = plain_and us ((tt, plain_or vs a))

  plain_attributes_alternative : {ts after : List Token} → p.AttributesAlternativeAt scope ts after → ArePlain after → ArePlain ts
  plain_attributes_alternative (p.attributes_of_children ss) a = plain_steps ss a
  plain_attributes_alternative (p.attributes_of_descendants ss) a = (tt, (tt, plain_steps ss a))

  plain_attributes : {ts after : List Token} → p.AttributesAt scope ts after → ArePlain after → ArePlain ts
  plain_attributes (p.last_attributes x l) a = plain_attributes_alternative x a
  plain_attributes (p.one_attributes x s) a = plain_attributes_alternative x ((tt, plain_attributes s a))

  plain_pattern_alternative : {ts after : List Token} {xs : List p.Alternative} → p.PatternAlternativeAt scope ts xs after → ArePlain after → ArePlain ts
  plain_pattern_alternative (p.root_alone e) a = (tt, a)
  plain_pattern_alternative (p.relative ss) a = plain_steps ss a
  plain_pattern_alternative (p.from_root ss) a = (tt, plain_steps ss a)
  plain_pattern_alternative (p.below_root ss) a = (tt, plain_steps ss a)
  plain_pattern_alternative (p.other_node o) a = plain_other o a

  plain_pattern : {ts : List Token} {xs : List p.Alternative} → p.PatternAt scope ts xs → ArePlain ts
  plain_pattern (p.last_alternative x) = plain_pattern_alternative x tt
  plain_pattern (p.one_alternative x s) = plain_pattern_alternative x ((tt, plain_pattern s))

plain_nothing : ArePlain []
plain_nothing = tt

pub select_plain : {scope : List Bound} {q : Path} (ts : List Token) → IsSelect scope q ts → ArePlain ts
select_plain ts s = plain_select s.select plain_nothing

pub attributes_plain : {scope : List Bound} (ts : List Token) → IsAttributes scope ts → ArePlain ts
attributes_plain ts s = plain_attributes s plain_nothing

pub value_plain : {scope : List Bound} {v : Body} (ts : List Token) → IsValue scope v ts → ArePlain ts
value_plain ts of_self = (tt, plain_nothing)
value_plain ts (of_path s) = plain_select s plain_nothing

pub test_plain : {scope : List Bound} {t : Test} (ts : List Token) → IsTest scope t ts → ArePlain ts
test_plain ts (of_tests us) = plain_or us plain_nothing

pub pattern_plain : {scope : List Bound} {xs : List p.Alternative} (ts : List Token) → IsPattern scope xs ts → ArePlain ts
pattern_plain ts s = plain_pattern s
