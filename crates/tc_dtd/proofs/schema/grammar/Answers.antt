use Rattle.std.proofs.Common.{arith, map}
use Rattle.std.proofs.lemmas.List.{length-map}
use Rattle.tc_model.specs.Views.{grammar}
use Rattle.tc_dtd.specs.Refused.{Refuses}
use Rattle.tc_dtd.specs.Views.{declaration, declarations}
use Rattle.tc_dtd.proofs.GrammarLaws.{failed_with, once, few, refuses, grammar_is, grammar_within, grammar_lawful, grammar_valid}
use Rattle.tc_dtd.proofs.Failed.{no_value}
use Rattle.tc_dtd.proofs.schema.grammar.Goals as goal

pub built-requires-clause-once : goal.built-requires-clause-once
built-requires-clause-once c =
    once (declarations c.args.dtd.now) c.args.root.now c.in_ok-root.root.now (map declaration c.in_ok-decls.decls.now) c.in_ok-root.ensures c.in_ok-decls.ensures c.requires

pub built-requires-clause-few : goal.built-requires-clause-few
built-requires-clause-few c = omega (arith, few (map declaration c.in_ok-decls.decls.now) c.args.root.now c.in_ok-check_limits.ensures.ok, length-map c.in_ok-decls.decls.now declaration)

pub returns-clause-grammar : goal.returns-clause-grammar
returns-clause-grammar c =
    let dtd = declarations c.args.dtd.now in
    let kept = map declaration c.in_ok-decls.decls.now in
    grammar_is dtd c.args.root.now c.in_ok-root.root.now kept c.in_ok-root.ensures c.in_ok-decls.ensures (grammar c.in_ok-grammar.grammar) c.in_ok-grammar.ensures

pub returns-clause-within : goal.returns-clause-within
returns-clause-within c =
    let dtd = declarations c.args.dtd.now in
    let kept = map declaration c.in_ok-decls.decls.now in
    grammar_within dtd c.args.root.now c.in_ok-root.root.now kept c.in_ok-root.ensures c.in_ok-decls.ensures (grammar c.in_ok-grammar.grammar) c.in_ok-grammar.ensures c.in_ok-check_limits.ensures.ok

pub returns-clause-lawful : goal.returns-clause-lawful
returns-clause-lawful c =
    let dtd = declarations c.args.dtd.now in
    let kept = map declaration c.in_ok-decls.decls.now in
    (grammar_lawful dtd c.args.root.now c.in_ok-root.root.now kept c.in_ok-root.ensures c.in_ok-decls.ensures (grammar c.in_ok-grammar.grammar) c.in_ok-grammar.ensures c.requires).0

pub returns-clause-start : goal.returns-clause-start
returns-clause-start c =
    let dtd = declarations c.args.dtd.now in
    let kept = map declaration c.in_ok-decls.decls.now in
    (grammar_lawful dtd c.args.root.now c.in_ok-root.root.now kept c.in_ok-root.ensures c.in_ok-decls.ensures (grammar c.in_ok-grammar.grammar) c.in_ok-grammar.ensures c.requires).1

pub returns-clause-valid : goal.returns-clause-valid
returns-clause-valid c =
    let dtd = declarations c.args.dtd.now in
    let kept = map declaration c.in_ok-decls.decls.now in
    grammar_valid dtd c.args.root.now c.in_ok-root.root.now kept c.in_ok-root.ensures c.in_ok-decls.ensures (grammar c.in_ok-grammar.grammar) c.in_ok-grammar.ensures

pub returns-in_err-check_limits-clause-err : goal.returns-in_err-check_limits-clause-err
returns-in_err-check_limits-clause-err c =
    let dtd = declarations c.args.dtd.now in
    let e = c.in_err-check_limits.field-0.0 in
    failed_with c.from_residual-in_err-check_limits.result (Refuses dtd c.args.root.now) e c.from_residual-in_err-check_limits.ensures.1
    (refuses dtd c.args.root.now c.in_ok-root.root.now (map declaration c.in_ok-decls.decls.now) c.in_ok-root.ensures c.in_ok-decls.ensures e c.in_err-check_limits.ensures.err)

pub returns-in_err-root-clause-grammar : goal.returns-in_err-root-clause-grammar
returns-in_err-root-clause-grammar c = no_value c.from_residual.result _ _ c.from_residual.ensures.1

pub returns-in_err-root-clause-within : goal.returns-in_err-root-clause-within
returns-in_err-root-clause-within c = no_value c.from_residual.result _ _ c.from_residual.ensures.1

pub returns-in_err-root-clause-lawful : goal.returns-in_err-root-clause-lawful
returns-in_err-root-clause-lawful c = no_value c.from_residual.result _ _ c.from_residual.ensures.1

pub returns-in_err-root-clause-start : goal.returns-in_err-root-clause-start
returns-in_err-root-clause-start c = no_value c.from_residual.result _ _ c.from_residual.ensures.1

pub returns-in_err-root-clause-valid : goal.returns-in_err-root-clause-valid
returns-in_err-root-clause-valid c = no_value c.from_residual.result _ _ c.from_residual.ensures.1

pub returns-in_err-decls-clause-grammar : goal.returns-in_err-decls-clause-grammar
returns-in_err-decls-clause-grammar c = no_value c.from_residual-in_err-decls.result _ _ c.from_residual-in_err-decls.ensures.1

pub returns-in_err-decls-clause-within : goal.returns-in_err-decls-clause-within
returns-in_err-decls-clause-within c = no_value c.from_residual-in_err-decls.result _ _ c.from_residual-in_err-decls.ensures.1

pub returns-in_err-decls-clause-lawful : goal.returns-in_err-decls-clause-lawful
returns-in_err-decls-clause-lawful c = no_value c.from_residual-in_err-decls.result _ _ c.from_residual-in_err-decls.ensures.1

pub returns-in_err-decls-clause-start : goal.returns-in_err-decls-clause-start
returns-in_err-decls-clause-start c = no_value c.from_residual-in_err-decls.result _ _ c.from_residual-in_err-decls.ensures.1

pub returns-in_err-decls-clause-valid : goal.returns-in_err-decls-clause-valid
returns-in_err-decls-clause-valid c = no_value c.from_residual-in_err-decls.result _ _ c.from_residual-in_err-decls.ensures.1

pub returns-in_err-check_limits-clause-grammar : goal.returns-in_err-check_limits-clause-grammar
returns-in_err-check_limits-clause-grammar c = no_value c.from_residual-in_err-check_limits.result _ _ c.from_residual-in_err-check_limits.ensures.1

pub returns-in_err-check_limits-clause-within : goal.returns-in_err-check_limits-clause-within
returns-in_err-check_limits-clause-within c = no_value c.from_residual-in_err-check_limits.result _ _ c.from_residual-in_err-check_limits.ensures.1

pub returns-in_err-check_limits-clause-lawful : goal.returns-in_err-check_limits-clause-lawful
returns-in_err-check_limits-clause-lawful c = no_value c.from_residual-in_err-check_limits.result _ _ c.from_residual-in_err-check_limits.ensures.1

pub returns-in_err-check_limits-clause-start : goal.returns-in_err-check_limits-clause-start
returns-in_err-check_limits-clause-start c = no_value c.from_residual-in_err-check_limits.result _ _ c.from_residual-in_err-check_limits.ensures.1

pub returns-in_err-check_limits-clause-valid : goal.returns-in_err-check_limits-clause-valid
returns-in_err-check_limits-clause-valid c = no_value c.from_residual-in_err-check_limits.result _ _ c.from_residual-in_err-check_limits.ensures.1

pub returns-in_err-grammar-clause-grammar : goal.returns-in_err-grammar-clause-grammar
returns-in_err-grammar-clause-grammar c = no_value c.from_residual-in_err-grammar.result _ _ c.from_residual-in_err-grammar.ensures.1

pub returns-in_err-grammar-clause-within : goal.returns-in_err-grammar-clause-within
returns-in_err-grammar-clause-within c = no_value c.from_residual-in_err-grammar.result _ _ c.from_residual-in_err-grammar.ensures.1

pub returns-in_err-grammar-clause-lawful : goal.returns-in_err-grammar-clause-lawful
returns-in_err-grammar-clause-lawful c = no_value c.from_residual-in_err-grammar.result _ _ c.from_residual-in_err-grammar.ensures.1

pub returns-in_err-grammar-clause-start : goal.returns-in_err-grammar-clause-start
returns-in_err-grammar-clause-start c = no_value c.from_residual-in_err-grammar.result _ _ c.from_residual-in_err-grammar.ensures.1

pub returns-in_err-grammar-clause-valid : goal.returns-in_err-grammar-clause-valid
returns-in_err-grammar-clause-valid c = no_value c.from_residual-in_err-grammar.result _ _ c.from_residual-in_err-grammar.ensures.1
