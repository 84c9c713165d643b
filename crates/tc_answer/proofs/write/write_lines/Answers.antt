use Rattle.std.proofs.Common.{◌≡◌, ◌∷◌, [], ◌++◌, ◌∙◌, ap, refl, sym, subst, append_assoc, map, Err, arith}
use Rattle.tc_io.specs.Sink.{WroteFront}
use Rattle.tc_io.proofs.Fronts.{on_err, appended_twice, next_front, first_front}
use Rattle.tc_answer.specs.Writing.{lines_of, whole}
use Rattle.tc_answer.proofs.Written.{writes_then, whole_then}
use Rattle.tc_answer.proofs.write.write_lines.Goals as goal

pub returns-in_err-write-clause-fault : goal.returns-in_err-write-clause-fault
returns-in_err-write-clause-fault g c =
    let so_far = c.loop-rest.invariant.so_far in
    let line = c.split_line.result.0.now in
    let behind = c.split_line.result.1.now in
    let all : so_far.0 ++ (line ++ behind) ≡ c.args.text.now = ap (λ x. so_far.0 ++ x) c.split_line.ensures.parts ∙ so_far.1 in
    on_err c.from_residual.result (subst (WroteFront _ _) all (next_front _ _ _ so_far.0 (line ++ behind) so_far.2 (first_front _ _ line behind c.in_err-write.ensures.fault)))

pub returns-in_err-write-clause-broken : goal.returns-in_err-write-clause-broken
returns-in_err-write-clause-broken g c =
    let lines = c.loop-rest.invariant.lines in
    let line = c.split_line.result.0.now in
    let fault = c.in_err-write.field-0.0 in
    on_err c.from_residual.result (
      map whole lines.0 ++ ((line, Err fault) ∷ []),
      writes_then g.K.Sink.write_gives _ _ _ (map whole lines.0) line (Err fault) lines.2 c.in_err-write.ensures.gives,
      record {
        before = lines.0;
        piece = line;
        behind = lines_of c.split_line.result.1.now;
        parts = ap (λ x. lines.0 ++ x) (sym c.split_line.ensures.first) ∙ lines.1;
        fault = fault;
        made = refl;
      },
    )

pub loop-rest-preserved : goal.loop-rest-preserved
loop-rest-preserved g c =
    let so_far = c.loop-rest.invariant.so_far in
    let lines = c.loop-rest.invariant.lines in
    let line = c.split_line.result.0.now in
    let behind = c.split_line.result.1.now in
    record {
      count = omega (arith, c.loop-rest.invariant.count, c.in_ok-write.ensures.count);
      so_far = (
        so_far.0 ++ line,
        append_assoc so_far.0 line behind ∙ (ap (λ x. so_far.0 ++ x) c.split_line.ensures.parts ∙ so_far.1),
        appended_twice _ _ _ so_far.0 line so_far.2 c.in_ok-write.ensures.ok,
      );
      lines = (
        lines.0 ++ (line ∷ []),
        append_assoc lines.0 (line ∷ []) (lines_of behind) ∙ (ap (λ x. lines.0 ++ x) (sym c.split_line.ensures.first) ∙ lines.1),
        whole_then g.K.Sink.write_gives _ _ _ lines.0 line lines.2 c.in_ok-write.ensures.gives,
      );
    }
