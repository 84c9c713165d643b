use Rattle.std.proofs.Common.{ap, ◌∙◌, Some, refl}
use Rattle.tc_alpha.specs.Views.{mention as see_mention}
use Rattle.tc_model.specs.Views as see
use Rattle.tc_alpha.proofs.Errors.{error_no_value}
use Rattle.tc_alpha.proofs.Orders.{same_parts}
use Rattle.tc_alpha.proofs.Fresh.{named, spaced, last, lawful_told, symbol_told}
use Rattle.tc_alpha.proofs.alphabet.Alphabet.fresh.Goals as goal

pub returns-in_ok-try_alloc_str-in-Some-Name-2-clause-lawful : goal.returns-in_ok-try_alloc_str-in-Some-Name-2-clause-lawful
returns-in_ok-try_alloc_str-in-Some-Name-2-clause-lawful c =
    let xs = c.args.self.now in
    let k = c.args.sym.0 in
    let m = see.name c.in-Some-Name.name in
    let found = c.in-Some-Name.ensures.found ∙ ap (λ y. Some (see_mention y)) c.in-Some-Name.field-0-is in
    lawful_told xs k _ (named xs k m _ found (same_parts _ m c.in_ok-try_alloc_str-in-Some-Name.ensures c.in_ok-try_alloc_str-in-Some-Name-2.ensures))

pub returns-in_ok-try_alloc_str-in-Some-Name-2-clause-symbol : goal.returns-in_ok-try_alloc_str-in-Some-Name-2-clause-symbol
returns-in_ok-try_alloc_str-in-Some-Name-2-clause-symbol c =
    let xs = c.args.self.now in
    let k = c.args.sym.0 in
    let m = see.name c.in-Some-Name.name in
    let found = c.in-Some-Name.ensures.found ∙ ap (λ y. Some (see_mention y)) c.in-Some-Name.field-0-is in
    symbol_told xs c.in-Some-Name.ensures.symbols k c.requires _ (named xs k m _ found (same_parts _ m c.in_ok-try_alloc_str-in-Some-Name.ensures c.in_ok-try_alloc_str-in-Some-Name-2.ensures))

pub returns-in_ok-free_text-in-Some-Namespace-clause-lawful : goal.returns-in_ok-free_text-in-Some-Namespace-clause-lawful
returns-in_ok-free_text-in-Some-Namespace-clause-lawful c =
    let xs = c.args.self.now in
    let k = c.args.sym.0 in
    let u = c.in-Some-Namespace.uri.now in
    let found = c.in-Some-Namespace.ensures.found ∙ ap (λ y. Some (see_mention y)) c.in-Some-Namespace.field-0-is in
    lawful_told xs k _ (spaced xs k u _ found c.in_ok-try_alloc_str-in-Some-Namespace.ensures c.in_ok-free_text-in-Some-Namespace.ensures)

pub returns-in_ok-free_text-in-Some-Namespace-clause-symbol : goal.returns-in_ok-free_text-in-Some-Namespace-clause-symbol
returns-in_ok-free_text-in-Some-Namespace-clause-symbol c =
    let xs = c.args.self.now in
    let k = c.args.sym.0 in
    let u = c.in-Some-Namespace.uri.now in
    let found = c.in-Some-Namespace.ensures.found ∙ ap (λ y. Some (see_mention y)) c.in-Some-Namespace.field-0-is in
    symbol_told xs c.in-Some-Namespace.ensures.symbols k c.requires _ (spaced xs k u _ found c.in_ok-try_alloc_str-in-Some-Namespace.ensures c.in_ok-free_text-in-Some-Namespace.ensures)

pub returns-in_ok-free_text-in-None-clause-lawful : goal.returns-in_ok-free_text-in-None-clause-lawful
returns-in_ok-free_text-in-None-clause-lawful c =
    let xs = c.args.self.now in
    let k = c.args.sym.0 in
    lawful_told xs k _ (last xs k _ c.in-None.ensures.found c.in_ok-free_text-in-None.ensures refl)

pub returns-in_ok-free_text-in-None-clause-symbol : goal.returns-in_ok-free_text-in-None-clause-symbol
returns-in_ok-free_text-in-None-clause-symbol c =
    let xs = c.args.self.now in
    let k = c.args.sym.0 in
    symbol_told xs c.in-None.ensures.symbols k c.requires _ (last xs k _ c.in-None.ensures.found c.in_ok-free_text-in-None.ensures refl)

pub returns-in_ok-try_alloc_str-in-Some-Name-2-clause-name : goal.returns-in_ok-try_alloc_str-in-Some-Name-2-clause-name
returns-in_ok-try_alloc_str-in-Some-Name-2-clause-name c =
    let m = see.name c.in-Some-Name.name in
    let found = c.in-Some-Name.ensures.found ∙ ap (λ y. Some (see_mention y)) c.in-Some-Name.field-0-is in
    named c.args.self.now c.args.sym.0 m _ found (same_parts _ m c.in_ok-try_alloc_str-in-Some-Name.ensures c.in_ok-try_alloc_str-in-Some-Name-2.ensures)

pub returns-in_ok-free_text-in-Some-Namespace-clause-name : goal.returns-in_ok-free_text-in-Some-Namespace-clause-name
returns-in_ok-free_text-in-Some-Namespace-clause-name c =
    let found = c.in-Some-Namespace.ensures.found ∙ ap (λ y. Some (see_mention y)) c.in-Some-Namespace.field-0-is in
    spaced c.args.self.now c.args.sym.0 c.in-Some-Namespace.uri.now _ found c.in_ok-try_alloc_str-in-Some-Namespace.ensures c.in_ok-free_text-in-Some-Namespace.ensures

pub returns-in_ok-free_text-in-None-clause-name : goal.returns-in_ok-free_text-in-None-clause-name
returns-in_ok-free_text-in-None-clause-name c = last c.args.self.now c.args.sym.0 _ c.in-None.ensures.found c.in_ok-free_text-in-None.ensures refl

pub returns-in_err-try_alloc_str-in-Some-Name-clause-name : goal.returns-in_err-try_alloc_str-in-Some-Name-clause-name
returns-in_err-try_alloc_str-in-Some-Name-clause-name c = error_no_value c.from_residual.result _ _ c.from_residual.ensures.1

pub returns-in_err-try_alloc_str-in-Some-Name-clause-lawful : goal.returns-in_err-try_alloc_str-in-Some-Name-clause-lawful
returns-in_err-try_alloc_str-in-Some-Name-clause-lawful c = error_no_value c.from_residual.result _ _ c.from_residual.ensures.1

pub returns-in_err-try_alloc_str-in-Some-Name-clause-symbol : goal.returns-in_err-try_alloc_str-in-Some-Name-clause-symbol
returns-in_err-try_alloc_str-in-Some-Name-clause-symbol c = error_no_value c.from_residual.result _ _ c.from_residual.ensures.1

pub returns-in_err-try_alloc_str-in-Some-Name-2-clause-name : goal.returns-in_err-try_alloc_str-in-Some-Name-2-clause-name
returns-in_err-try_alloc_str-in-Some-Name-2-clause-name c = error_no_value c.from_residual-in_err-try_alloc_str-in-Some-Name-2.result _ _ c.from_residual-in_err-try_alloc_str-in-Some-Name-2.ensures.1

pub returns-in_err-try_alloc_str-in-Some-Name-2-clause-lawful : goal.returns-in_err-try_alloc_str-in-Some-Name-2-clause-lawful
returns-in_err-try_alloc_str-in-Some-Name-2-clause-lawful c = error_no_value c.from_residual-in_err-try_alloc_str-in-Some-Name-2.result _ _ c.from_residual-in_err-try_alloc_str-in-Some-Name-2.ensures.1

pub returns-in_err-try_alloc_str-in-Some-Name-2-clause-symbol : goal.returns-in_err-try_alloc_str-in-Some-Name-2-clause-symbol
returns-in_err-try_alloc_str-in-Some-Name-2-clause-symbol c = error_no_value c.from_residual-in_err-try_alloc_str-in-Some-Name-2.result _ _ c.from_residual-in_err-try_alloc_str-in-Some-Name-2.ensures.1

pub returns-in_err-try_alloc_str-in-Some-Namespace-clause-name : goal.returns-in_err-try_alloc_str-in-Some-Namespace-clause-name
returns-in_err-try_alloc_str-in-Some-Namespace-clause-name c = error_no_value c.from_residual-in_err-try_alloc_str-in-Some-Namespace.result _ _ c.from_residual-in_err-try_alloc_str-in-Some-Namespace.ensures.1

pub returns-in_err-try_alloc_str-in-Some-Namespace-clause-lawful : goal.returns-in_err-try_alloc_str-in-Some-Namespace-clause-lawful
returns-in_err-try_alloc_str-in-Some-Namespace-clause-lawful c = error_no_value c.from_residual-in_err-try_alloc_str-in-Some-Namespace.result _ _ c.from_residual-in_err-try_alloc_str-in-Some-Namespace.ensures.1

pub returns-in_err-try_alloc_str-in-Some-Namespace-clause-symbol : goal.returns-in_err-try_alloc_str-in-Some-Namespace-clause-symbol
returns-in_err-try_alloc_str-in-Some-Namespace-clause-symbol c = error_no_value c.from_residual-in_err-try_alloc_str-in-Some-Namespace.result _ _ c.from_residual-in_err-try_alloc_str-in-Some-Namespace.ensures.1

pub returns-in_err-free_text-in-Some-Namespace-clause-name : goal.returns-in_err-free_text-in-Some-Namespace-clause-name
returns-in_err-free_text-in-Some-Namespace-clause-name c = error_no_value c.from_residual-in_err-free_text-in-Some-Namespace.result _ _ c.from_residual-in_err-free_text-in-Some-Namespace.ensures.1

pub returns-in_err-free_text-in-Some-Namespace-clause-lawful : goal.returns-in_err-free_text-in-Some-Namespace-clause-lawful
returns-in_err-free_text-in-Some-Namespace-clause-lawful c = error_no_value c.from_residual-in_err-free_text-in-Some-Namespace.result _ _ c.from_residual-in_err-free_text-in-Some-Namespace.ensures.1

pub returns-in_err-free_text-in-Some-Namespace-clause-symbol : goal.returns-in_err-free_text-in-Some-Namespace-clause-symbol
returns-in_err-free_text-in-Some-Namespace-clause-symbol c = error_no_value c.from_residual-in_err-free_text-in-Some-Namespace.result _ _ c.from_residual-in_err-free_text-in-Some-Namespace.ensures.1

pub returns-in_err-free_text-in-None-clause-name : goal.returns-in_err-free_text-in-None-clause-name
returns-in_err-free_text-in-None-clause-name c = error_no_value c.from_residual-in_err-free_text-in-None.result _ _ c.from_residual-in_err-free_text-in-None.ensures.1

pub returns-in_err-free_text-in-None-clause-lawful : goal.returns-in_err-free_text-in-None-clause-lawful
returns-in_err-free_text-in-None-clause-lawful c = error_no_value c.from_residual-in_err-free_text-in-None.result _ _ c.from_residual-in_err-free_text-in-None.ensures.1

pub returns-in_err-free_text-in-None-clause-symbol : goal.returns-in_err-free_text-in-None-clause-symbol
returns-in_err-free_text-in-None-clause-symbol c = error_no_value c.from_residual-in_err-free_text-in-None.result _ _ c.from_residual-in_err-free_text-in-None.ensures.1
