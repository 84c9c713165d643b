use Rattle.std.proofs.Common.{◌≡◌, ◌<◌, ◌∙◌, ◌+◌, [], Some, IsTrue, length, refl, subst, sym, arith}
use Rattle.tc_model.specs.CertificateFits.{PairsFit}
use Rattle.tc_cert.proofs.FitLines.{told_nothing}
use Rattle.tc_cert.proofs.ReadLines.{AnOutput, AnOutputLine, output_fault, behind_of, of_behind, fault_as, refused}
use Rattle.tc_cert.proofs.ToldSoFar.{OutputsSoFar, lent, lent_formed, outputs_more}
use Rattle.tc_cert.proofs.fitting.first_output.Goals as goal

pub output-requires : goal.output-requires
output-requires c = lent_formed c.loop-done.before c.as_ref.result c.as_ref.ensures.value c.loop-done.invariant.formed

pub loop-done-init : goal.loop-done-init
loop-done-init c = record {
  so_far = λ v bytes s q st. record { outputs = []; long = refl; last = refl; stands = st; told_of = told_nothing s };
  few = omega arith;
  formed = tt;
}

pub returns-in_err-pairs : goal.returns-in_err-pairs
returns-in_err-pairs c = λ v bytes s q st.
    let o : OutputsSoFar v bytes s c.args.count c.loop-done.done c.loop-done.before c.loop-done.told c.loop-done.reader = c.loop-done.invariant.so_far v bytes s q st in
    let few : length o.outputs < c.args.count = omega (arith, c.loop-done-test.true, o.long) in
    refused _ _ c.from_residual.result c.in_err-pairs.field-0.0 c.from_residual.ensures.1
    (output_fault v bytes c.args.count o.outputs c.loop-done.reader c.in_err-pairs.field-0.0 few o.stands
    (fault_as c.loop-done.reader.lines (AnOutputLine c.as_ref.result c.loop-done.reader.rest.now) (AnOutput o.outputs c.loop-done.reader.rest.now) c.in_err-pairs.field-0.0
    (λ p. (p.0, p.1, p.2, of_behind o.outputs p.0 c.as_ref.result (lent o.outputs c.loop-done.before c.as_ref.result o.last c.as_ref.ensures.value) p.3, p.4)) c.in_err-pairs.ensures.no))

pub loop-done-preserved : goal.loop-done-preserved
loop-done-preserved c = record {
  so_far = λ v bytes s q st.
      let o : OutputsSoFar v bytes s c.args.count c.loop-done.done c.loop-done.before c.loop-done.told c.loop-done.reader = c.loop-done.invariant.so_far v bytes s q st in
      let fits : (IsTrue c.do_pairs_fit.result → PairsFit s.output_states c.in_ok-pairs.pairs) × (PairsFit s.output_states c.in_ok-pairs.pairs → IsTrue c.do_pairs_fit.result)
      = subst (λ n. (IsTrue c.do_pairs_fit.result → PairsFit n c.in_ok-pairs.pairs) × (PairsFit n c.in_ok-pairs.pairs → IsTrue c.do_pairs_fit.result)) (sym q) c.do_pairs_fit.ensures in
      subst (λ t. OutputsSoFar v bytes s c.args.count (c.loop-done.done + 1) (Some c.in_ok-pairs.pairs) t c.output.new.self) (sym c.first_of-told.ensures)
      (outputs_more v bytes s c.args.count c.loop-done.done c.loop-done.before c.loop-done.told c.loop-done.reader c.output.new.self c.in_ok-pairs.pairs c.do_pairs_fit.result c.output.new.self.lines o c.loop-done-test.true
      c.in_ok-pairs.ensures.ok.0 (behind_of o.outputs c.in_ok-pairs.pairs c.as_ref.result (lent o.outputs c.loop-done.before c.as_ref.result o.last c.as_ref.ensures.value) c.in_ok-pairs.ensures.ok.1) c.in_ok-pairs.ensures.ok.2 fits refl);
  few = omega (arith, c.loop-done-test.true);
  formed = c.in_ok-pairs.ensures.ok.0;
}

pub returns : goal.returns
returns c = λ v bytes s q st.
    let o : OutputsSoFar v bytes s c.args.count c.loop-done.done c.loop-done.before c.loop-done.told c.loop-done.reader = c.loop-done.invariant.so_far v bytes s q st in
    let all : c.loop-done.done ≡ c.args.count = omega (arith, c.loop-done.invariant.few, c.loop-done-test.false) in
    (o.outputs, o.long ∙ all, o.stands, o.told_of)
