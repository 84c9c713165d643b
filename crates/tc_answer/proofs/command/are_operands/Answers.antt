use Rattle.std.proofs.Common.{◌∙◌, sym, rules, tests, string_bytes}
use Rattle.std.proofs.lemmas.Iterator.{YieldsList-from_slice}
use Rattle.std.proofs.lemmas.Iterator.Search.{all_from_yields_List}
use Rattle.std.proofs.lemmas.List.Folds.{list_all-map}
use Rattle.tc_answer.specs.Words.{is_operand}
use Rattle.tc_answer.proofs.command.are_operands.Goals as goal

pub returns-then-words-count : goal.returns-then-words-count
returns-then-words-count c =
    let words = c.args.words.now in
    let tested = all_from_yields_List (λ w. is_operand (string_bytes w)) _ _ c.all.result c.all.ensures.ran (YieldsList-from_slice words cc) (λ x b q k. search (rules, tests)) in
    let whole = tested ∙ sym (list_all-map is_operand string_bytes words) in
    (λ t. (search rules, sym whole ∙ t), λ p. whole ∙ p.1)
