use Rattle.std.proofs.Common.{◌≡◌, ◌++◌, List, ap, ◌∙◌, refl, subst}
use Rattle.tc_model.specs.States.{input, output}
use Rattle.tc_model.specs.Symbols.{Mention, fresh_name, symbol_of}
use Rattle.tc_model.specs.Views as see
use Rattle.tc_beh.specs.AlikeSymbols.{asked_tests, classes_holding, tests_passed}
use Rattle.tc_beh.proofs.KeyLists.{three_put}
use Rattle.tc_beh.proofs.Steps.{no_value}
use Rattle.tc_beh.proofs.alike.key_of.Goals as goal

pub returns : goal.returns
returns c = λ x is symbols.
    let n = see.name c.in_ok-name.name in
    let ts = asked_tests c.args.asked.now in
    let fresh = c.in_ok-name.ensures.name ∙ subst (λ (s : List Mention). fresh_name c.args.alphabet.now c.args.symbol.0 ≡ fresh_name s c.args.symbol.0) symbols refl in
    let same = subst (λ (s : List Mention). symbol_of s n ≡ c.args.symbol.0) symbols c.in_ok-name.ensures.symbol in
    let first = c.in_ok-add_classes.ensures input x.input x.symbols is.contents n same in
    let second = c.in_ok-add_classes-2.ensures output x.output x.symbols is.states n same in
    let whole = three_put c.new-key.result.items (classes_holding x.input n) (classes_holding x.output n) (tests_passed ts n) _ _ _ c.new-key.ensures.items first second c.in_ok-add_passes.ensures in
    whole ∙ ap (λ m. classes_holding x.input m ++ (classes_holding x.output m ++ tests_passed ts m)) fresh

pub returns-in_err-name : goal.returns-in_err-name
returns-in_err-name c = no_value c.from_residual.result _ _ c.from_residual.ensures.1

pub returns-in_err-add_classes : goal.returns-in_err-add_classes
returns-in_err-add_classes c = no_value c.from_residual-in_err-add_classes.result _ _ c.from_residual-in_err-add_classes.ensures.1

pub returns-in_err-add_classes-2 : goal.returns-in_err-add_classes-2
returns-in_err-add_classes-2 c = no_value c.from_residual-in_err-add_classes-2.result _ _ c.from_residual-in_err-add_classes-2.ensures.1

pub returns-in_err-add_passes : goal.returns-in_err-add_passes
returns-in_err-add_passes c = no_value c.from_residual-in_err-add_passes.result _ _ c.from_residual-in_err-add_passes.ensures.1
