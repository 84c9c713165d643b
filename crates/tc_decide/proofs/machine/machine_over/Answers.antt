use Rattle.std.proofs.Common.{inl, inr, refl}
use Rattle.std.proofs.lemmas.Result.{IfErr-weaker}
use Rattle.tc_model.specs.Views as see
use Rattle.tc_model.specs.States.{input, output}
use Rattle.tc_read.proofs.Exits.{err_is}
use Rattle.tc_decide.proofs.MachineLimits.{cause_on, triple_by, parts_of, machine_for, machine_passes, sheet_passes, ok_both}
use Rattle.tc_decide.proofs.machine.machine_over.Goals as goal

pub of-requires : goal.of-requires
of-requires c = let (i, o, a) = c.requires.automata in (input, i, a.input_stands)

pub of-requires-2 : goal.of-requires-2
of-requires-2 c = let (i, o, a) = c.requires.automata in (output, o, a.output_stands)

pub rules_of-requires-clause-symbols : goal.rules_of-requires-clause-symbols
rules_of-requires-clause-symbols c = let (i, o, a) = c.requires.automata in (i, o, a.symbols_are)

pub machine_by-requires : goal.machine_by-requires
machine_by-requires c =
    let (i, o, a) = c.requires.automata in
    let s = see.sheet c.args.sheet.now in
    let inner = c.in_ok-inner.ensures.stands input i a.input_stands i o s a.symbols_are (inl refl) in
    let outer = c.in_ok-outer.ensures.stands output o a.output_stands i o s a.symbols_are (inr refl) in
    record {
      parts = (
        triple_by i o c.args.alphabet c.in_ok-rules.rules c.in_ok-rules.ensures.rules,
        parts_of i o s c.args.contents c.args.states c.args.alphabet a c.in_ok-rules.rules c.in_ok-rules.ensures.rules c.in_ok-rules.ensures.sheet c.in_ok-inner.inner c.in_ok-outer.outer inner outer,
      );
    }

pub returns-in_err-rules-clause-err : goal.returns-in_err-rules-clause-err
returns-in_err-rules-clause-err c =
    let s = see.sheet c.args.sheet.now in
    err_is c.from_residual-in_err-rules.result _ _ c.from_residual-in_err-rules.ensures.1 (λ i o a.
    cause_on _ (sheet_passes i o s c.args.contents c.args.states c.args.alphabet a) (c.in_err-rules.ensures.err a.few))

pub returns-clause-ok : goal.returns-clause-ok
returns-clause-ok c =
    let s = see.sheet c.args.sheet.now in
    let rules = c.in_ok-rules.rules in
    ok_both c.machine_by.result (λ m stands keeps i o a.
    let inner = c.in_ok-inner.ensures.stands input i a.input_stands i o s a.symbols_are (inl refl) in
    let outer = c.in_ok-outer.ensures.stands output o a.output_stands i o s a.symbols_are (inr refl) in
    let parts = parts_of i o s c.args.contents c.args.states c.args.alphabet a rules c.in_ok-rules.ensures.rules c.in_ok-rules.ensures.sheet c.in_ok-inner.inner c.in_ok-outer.outer inner outer in
    machine_for i o s c.args.contents c.args.states c.args.alphabet a rules c.in_ok-rules.ensures.rules c.in_ok-rules.ensures.sheet c.in_ok-rules.ensures.within m (stands _ parts) (keeps _ parts))
    c.machine_by.ensures.stands c.machine_by.ensures.within

pub returns-clause-err : goal.returns-clause-err
returns-clause-err c =
    let s = see.sheet c.args.sheet.now in
    let rules = c.in_ok-rules.rules in
    IfErr-weaker c.machine_by.result _ _ (λ e cause i o a.
    let inner = c.in_ok-inner.ensures.stands input i a.input_stands i o s a.symbols_are (inl refl) in
    let outer = c.in_ok-outer.ensures.stands output o a.output_stands i o s a.symbols_are (inr refl) in
    let parts = parts_of i o s c.args.contents c.args.states c.args.alphabet a rules c.in_ok-rules.ensures.rules c.in_ok-rules.ensures.sheet c.in_ok-inner.inner c.in_ok-outer.outer inner outer in
    cause_on e (machine_passes i o s c.args.contents c.args.states c.args.alphabet a rules c.in_ok-rules.ensures.rules c.in_ok-rules.ensures.sheet c.in_ok-rules.ensures.within) (cause _ parts)) c.machine_by.ensures.err
