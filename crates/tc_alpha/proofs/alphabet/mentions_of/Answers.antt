use Rattle.std.proofs.Common.{◌≡◌, [], ◌++◌, List, ap, ◌∙◌, append_assoc, flat_map}
use Rattle.tc_alpha.specs.Views.{seen}
use Rattle.tc_model.specs.Symbols.{Mention, with_namespace, in_order, mention_cmp}
use Rattle.tc_alpha.proofs.alphabet.mentions_of.Goals as goal

three : (start a b c one two all : List Mention) → start ≡ [] → one ≡ start ++ a → two ≡ one ++ b → all ≡ two ++ c → all ≡ a ++ (b ++ c)
three start a b c one two all d e f g = g ∙ (ap (λ l. l ++ c) (f ∙ ap (λ l. l ++ b) (e ∙ ap (λ l. l ++ a) d)) ∙ append_assoc a b c)

pub returns : goal.returns
returns c =
    c.put_in_order.ensures
    ∙ ap (in_order mention_cmp) (c.in_ok-all.ensures
    ∙ ap (flat_map with_namespace) (ap seen c.deref.ensures.value
    ∙ three (seen c.new-found.result.items) _ _ _ _ _ _ (ap seen c.new-found.ensures.items) c.in_ok-mention_grammar.ensures c.in_ok-mention_grammar-2.ensures c.in_ok-mention_sheet.ensures))
