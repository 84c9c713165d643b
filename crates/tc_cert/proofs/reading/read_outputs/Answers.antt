use Rattle.std.proofs.Common.{◌≡◌, ◌<◌, ◌∙◌, ◌++◌, ◌∷◌, [], List, ℕ, length, length-append, IfSome, ap, subst, sym, arith}
use Rattle.tc_model.specs.CertificateData.{ArePairs}
use Rattle.tc_cert.specs.Fields.{last_of}
use Rattle.tc_cert.specs.Fronts.{in_outputs}
use Rattle.tc_cert.specs.Standing.{Stands}
use Rattle.tc_cert.proofs.Sorted.{last_snoc}
use Rattle.tc_cert.proofs.ReadLines.{outputs_on, outputs_fault, AnOutput, AnOutputLine, output_on, output_fault, behind_of, of_behind, formed_before, fault_as, refused}
use Rattle.tc_cert.proofs.reading.read_outputs.Goals as goal

pub output-requires : goal.output-requires
output-requires c = formed_before c.loop-alloc.outputs c.last_output.result c.last_output.ensures c.loop-alloc.invariant.formed

pub returns-in_err-pairs : goal.returns-in_err-pairs
returns-in_err-pairs c = λ v bytes s.
    let few : length c.loop-alloc.outputs < c.in_ok-count.count = omega (arith, c.loop-alloc-test.true, c.len.ensures) in
    let here : Stands v bytes (in_outputs v c.in_ok-count.count c.loop-alloc.outputs) c.loop-alloc.reader = c.loop-alloc.invariant.stands v bytes s in
    refused _ _ c.from_residual-in_err-pairs.result c.in_err-pairs.field-0.0 c.from_residual-in_err-pairs.ensures.1
    (output_fault v bytes c.in_ok-count.count c.loop-alloc.outputs c.loop-alloc.reader c.in_err-pairs.field-0.0 few here
    (fault_as c.loop-alloc.reader.lines (AnOutputLine c.last_output.result c.loop-alloc.reader.rest.now) (AnOutput c.loop-alloc.outputs c.loop-alloc.reader.rest.now) c.in_err-pairs.field-0.0
    (λ p. (p.0, p.1, p.2, of_behind c.loop-alloc.outputs p.0 c.last_output.result c.last_output.ensures p.3, p.4)) c.in_err-pairs.ensures.no))

pub loop-alloc-preserved : goal.loop-alloc-preserved
loop-alloc-preserved c =
    let few : length c.loop-alloc.outputs < c.in_ok-count.count = omega (arith, c.loop-alloc-test.true, c.len.ensures) in
    let ps : List (ℕ × ℕ) = c.in_ok-pairs.pairs in
    let pushed : c.push.new.self ≡ c.loop-alloc.outputs ++ ps ∷ [] = c.in_ok-push.ensures.ok in
    record {
      stands = λ v bytes s.
          let here : Stands v bytes (in_outputs v c.in_ok-count.count c.loop-alloc.outputs) c.loop-alloc.reader = c.loop-alloc.invariant.stands v bytes s in
          subst (λ os. Stands v bytes (in_outputs v c.in_ok-count.count os) c.output.new.self) (sym pushed)
          (output_on v bytes c.in_ok-count.count c.loop-alloc.outputs ps c.loop-alloc.reader c.output.new.self few here c.in_ok-pairs.ensures.ok.0
          (behind_of c.loop-alloc.outputs ps c.last_output.result c.last_output.ensures c.in_ok-pairs.ensures.ok.1) c.in_ok-pairs.ensures.ok.2);
      few = omega (arith, ap length pushed, length-append c.loop-alloc.outputs (ps ∷ []), few);
      formed = subst (λ o. IfSome o ArePairs) (sym (ap last_of pushed ∙ last_snoc c.loop-alloc.outputs ps)) c.in_ok-pairs.ensures.ok.0;
    }

pub returns : goal.returns
returns c = λ v bytes s.
    let all : length c.loop-alloc.outputs ≡ c.in_ok-count.count = omega (arith, c.loop-alloc.invariant.few, c.loop-alloc-test.false, c.len.ensures) in
    subst (λ n. Stands v bytes (in_outputs v n c.loop-alloc.outputs) c.loop-alloc.reader) (sym all) (c.loop-alloc.invariant.stands v bytes s)

pub returns-in_err-count : goal.returns-in_err-count
returns-in_err-count c = λ v bytes s. refused _ _ c.from_residual.result c.in_err-count.field-0.0 c.from_residual.ensures.1 (outputs_fault v bytes c.args.reader.now c.in_err-count.field-0.0 s c.in_err-count.ensures.no)

pub loop-alloc-init : goal.loop-alloc-init
loop-alloc-init c = record {
  stands = λ v bytes s. subst (λ l. Stands v bytes (in_outputs v c.in_ok-count.count l) c.count.new.self) (sym c.new-outputs.ensures)
      (outputs_on v bytes c.in_ok-count.count c.args.reader.now c.count.new.self s c.in_ok-count.ensures.ok.0 c.in_ok-count.ensures.ok.1);
  few = omega (arith, ap length c.new-outputs.ensures);
  formed = subst (λ l. IfSome (last_of l) ArePairs) (sym c.new-outputs.ensures) tt;
}
