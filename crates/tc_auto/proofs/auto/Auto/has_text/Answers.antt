use Rattle.std.proofs.Common.{◌≡◌, Bool, List, [], ◌∷◌, ◌||◌, map, refl, ap, ◌∙◌}
use Rattle.std.specs.List.{list_any}
use Rattle.tc_model.specs.Grammars.{has_text, some_content_has_text}
use Rattle.tc_model.specs.Views as see
use Rattle.tc_model.specs.declared.grammar.ElemPat.{ElemPat}
use Rattle.tc_auto.proofs.auto.Auto.has_text.Goals as goal

any_content : (es : List ElemPat) → list_any (λ (e : ElemPat). has_text (see.pattern e.content)) es ≡ some_content_has_text (map see.element_pattern es)
any_content [] = refl
any_content (e ∷ es) = ap (λ (b : Bool). has_text (see.pattern e.content) || b) (any_content es)

pub returns : goal.returns
returns c = λ side x st. c.has_content_with_text.ensures ∙ (any_content c.args.self.now.elements.now ∙ ap some_content_has_text st.elements)
