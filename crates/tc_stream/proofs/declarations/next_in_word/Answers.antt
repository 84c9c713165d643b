use Rattle.std.proofs.Common.{◌≡◌, ◌≤◌, [], sym, subst, length, arith, ap}
use Rattle.tc_stream.specs.Declarations as scan
use Rattle.tc_stream.specs.Declaring.{TellsDeclared, left_of, setting_of}
use Rattle.tc_stream.proofs.DeclarationAnswers.{drop_none}
use Rattle.tc_stream.proofs.declarations.next_in_word.Goals as goal

pub returns-then-count-word-clause-told : goal.returns-then-count-word-clause-told
returns-then-count-word-clause-told c place bytes =
    let setting = setting_of c.args.setting in
    let all : length (scan.word_of setting) ≤ c.args.count = omega (arith, ap length c.word-word.ensures.word, c.if-count-word.true) in
    let none : left_of c.args.setting c.args.count ≡ [] = drop_none c.args.count (scan.word_of setting) all in
    subst (λ left. TellsDeclared c.next_behind_word.result (scan.declared_next (scan.in_word setting left c.args.at) place c.args.next bytes)) (sym none) (c.next_behind_word.ensures.told place bytes)

pub returns-then-count-word-clause-place : goal.returns-then-count-word-clause-place
returns-then-count-word-clause-place c = c.next_behind_word.ensures.place
