-- What the plain schema in an arena is seen as.
use Rattle.std.proofs.Common.{◌≡◌, ◌∙◌, List, [], ◌∷◌, ap, map, Bor}
use Rattle.tc_model.specs.Grammars as g
use Rattle.tc_model.specs.Views.{name, class, classes, pattern, patterns, element_pattern, grammar}
use Rattle.tc_model.specs.declared.tree.Name.{Name}
use Rattle.tc_model.specs.declared.grammar.NameClass as c
use Rattle.tc_model.specs.declared.grammar.NameClass.TheVariants as classes_of
use Rattle.tc_model.specs.declared.grammar.Pat.{Pat}
use Rattle.tc_model.specs.declared.grammar.Pat.TheVariants as v
use Rattle.tc_model.specs.declared.grammar.ElemPat.{ElemPat}
use Rattle.tc_model.specs.declared.grammar.Grammar.{Grammar}
use Rattle.tc_model.proofs.ViewsGrammar as see
use Rattle.tc_dead.specs.Marked.{wrapper_name, either, plain_content, plain_schema}

pub one_or_other : (ps : Bor (List Pat)) (a b : Pat) → ps.now ≡ a ∷ b ∷ [] → pattern (v.Choice ps) ≡ either (pattern a) (pattern b)
one_or_other ps a b e = see.see_choice ps ∙ ap (λ z. g.choice (patterns z)) e

pub repeated : (q : Bor Pat) (a : Pat) → q.now ≡ a → pattern (v.OneOrMore q) ≡ g.one_or_more (pattern a)
repeated q a e = see.see_one_or_more q ∙ ap (λ z. g.one_or_more (pattern z)) e

-- the second of two ways
pub or_empty : (p a : Pat) → pattern p ≡ either (pattern a) (pattern v.Empty) → pattern a ≡ g.one_or_more (either g.text (g.ref 1)) → pattern p ≡ plain_content
or_empty p a e f = e ∙ λ i. either (f i) (see.see_empty i)

pub items : (q a : Pat) → pattern q ≡ g.one_or_more (pattern a) → pattern a ≡ either (pattern v.Text) (pattern (v.Ref 1)) → pattern q ≡ g.one_or_more (either g.text (g.ref 1))
items q a e f = e ∙ ap g.one_or_more (f ∙ λ i. either (see.see_text i) (see.see_ref 1 i))

abbrev of_parts : Pat → Bor (List ElemPat) → Grammar
of_parts start elements = record { start = start; elements = elements }

pub whole : (start content : Pat) (elements : Bor (List ElemPat)) (n : Name) (except : Bor (List c.NameClass)) (first second : ElemPat)
    → elements.now ≡ first ∷ second ∷ []
    → first.names ≡ classes_of.Name n → first.content ≡ content → second.names ≡ classes_of.Any except → second.content ≡ start
    → except.now ≡ [] → name n ≡ wrapper_name → pattern start ≡ plain_content → pattern content ≡ either (pattern (v.Ref 2)) (pattern start)
    → grammar (of_parts start elements) ≡ plain_schema
whole start content elements n except first second b e f h k l m o q =
    let names : class first.names ≡ g.of_name wrapper_name = ap class e ∙ (see.see_name n ∙ ap g.of_name m) in
    let inner : pattern first.content ≡ either (g.ref 2) plain_content = ap pattern f ∙ (q ∙ λ i. either (see.see_ref 2 i) (o i)) in
    let any : class second.names ≡ g.any_name g.no_class = ap class h ∙ (see.see_any except ∙ ap (λ z. g.any_name (classes z)) l) in
    let last : pattern second.content ≡ plain_content = ap pattern k ∙ o in
    let so_far : map element_pattern elements.now ≡ element_pattern first ∷ element_pattern second ∷ [] = ap (map element_pattern) b in
    λ i. record {
      start = o i;
      elements = (so_far ∙ both names inner any last) i;
    }
  where
    both : class first.names ≡ g.of_name wrapper_name → pattern first.content ≡ either (g.ref 2) plain_content → class second.names ≡ g.any_name g.no_class → pattern second.content ≡ plain_content
        → element_pattern first ∷ element_pattern second ∷ [] ≡ plain_schema.elements
    both r s t u = λ i. record { names = r i; content = s i } ∷ record { names = t i; content = u i } ∷ []
