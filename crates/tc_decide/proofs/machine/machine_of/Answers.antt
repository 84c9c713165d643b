use Rattle.std.proofs.lemmas.Result.{IfOk-weaker, IfErr-weaker}
use Rattle.tc_model.specs.Views as see
use Rattle.tc_read.proofs.Exits.{err_is}
use Rattle.tc_decide.specs.Checking.{by_input, by_output}
use Rattle.tc_decide.proofs.MachineLimits.{cause_on, automata, some_grammar, well_formed_grammar}
use Rattle.tc_decide.proofs.machine.machine_of.Goals as goal

pub returns-in_err-contents-clause-err : goal.returns-in_err-contents-clause-err
returns-in_err-contents-clause-err c =
    err_is c.from_residual.result _ _ c.from_residual.ensures.1 (λ i o read_in read_out. cause_on _ (λ kind number p. by_input p) (c.in_err-contents.ensures.err i read_in))

pub returns-in_err-states-clause-err : goal.returns-in_err-states-clause-err
returns-in_err-states-clause-err c =
    err_is c.from_residual-in_err-states.result _ _ c.from_residual-in_err-states.ensures.1 (λ i o read_in read_out.
    cause_on _ (λ kind number p. by_output (c.in_ok-contents.ensures.within i read_in) p) (c.in_err-states.ensures.err o read_out))

pub returns-in_err-alphabet-clause-err : goal.returns-in_err-alphabet-clause-err
returns-in_err-alphabet-clause-err c =
    err_is c.from_residual-in_err-alphabet.result _ _ c.from_residual-in_err-alphabet.ensures.1 (λ i o read_in read_out.
    c.in_err-alphabet.ensures.err i o read_in read_out (c.in_ok-contents.ensures.within i read_in) (c.in_ok-states.ensures.within o read_out))

pub machine_over-requires-clause-automata : goal.machine_over-requires-clause-automata
machine_over-requires-clause-automata c =
    let (i, read_in) = some_grammar _ c.requires.input in
    let (o, read_out) = well_formed_grammar _ c.requires.output in (
      i,
      o,
      automata i o (see.sheet c.args.sheet.now) c.args.input.now c.args.output.now c.requires.input c.requires.output read_in read_out _ _ _ (c.in_ok-contents.ensures.stands i read_in)
          (c.in_ok-states.ensures.stands o read_out) (c.in_ok-contents.ensures.within i read_in) (c.in_ok-states.ensures.within o read_out)
          (c.in_ok-alphabet.ensures.stands i o read_in read_out) c.in_ok-alphabet.ensures.few,
    )

pub returns-clause-ok : goal.returns-clause-ok
returns-clause-ok c =
    IfOk-weaker c.machine_over.result _ _ (λ m made i o read_in read_out.
    made i o (automata i o (see.sheet c.args.sheet.now) c.args.input.now c.args.output.now c.requires.input c.requires.output read_in read_out _ _ _ (c.in_ok-contents.ensures.stands i read_in)
    (c.in_ok-states.ensures.stands o read_out) (c.in_ok-contents.ensures.within i read_in) (c.in_ok-states.ensures.within o read_out)
    (c.in_ok-alphabet.ensures.stands i o read_in read_out) c.in_ok-alphabet.ensures.few)) c.machine_over.ensures.ok

pub returns-clause-err : goal.returns-clause-err
returns-clause-err c =
    IfErr-weaker c.machine_over.result _ _ (λ e cause i o read_in read_out.
    cause i o (automata i o (see.sheet c.args.sheet.now) c.args.input.now c.args.output.now c.requires.input c.requires.output read_in read_out _ _ _ (c.in_ok-contents.ensures.stands i read_in)
    (c.in_ok-states.ensures.stands o read_out) (c.in_ok-contents.ensures.within i read_in) (c.in_ok-states.ensures.within o read_out)
    (c.in_ok-alphabet.ensures.stands i o read_in read_out) c.in_ok-alphabet.ensures.few)) c.machine_over.ensures.err
