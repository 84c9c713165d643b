use Rattle.std.proofs.Common.{◌≡◌, ◌<◌, [], List, ℕ, length, get_or, codes, subst, sym, ap, ◌∙◌, arith, length-append, Some, slice_get}
use Rattle.std.proofs.lemmas.List.{length-map, get_or-map}
use Rattle.std.proofs.lemmas.List.Folds.{length-flat_map-take}
use Rattle.std.proofs.lemmas.Option.{slice_get-get_or}
use Rattle.tc_beh.specs.Held.{set_at}
use Rattle.tc_beh.specs.Outs.{sets_of}
use Rattle.tc_beh.specs.Places.{pairs_of, no_matrix}
use Rattle.tc_cert.specs.Texts.{output_text}
use Rattle.tc_model.specs.CertificateLines.{pairs_line}
use Rattle.tc_close.proofs.Pushed.{pushed_below, below_count, taken_length}
use Rattle.tc_close.proofs.HandedOn.{no_value}
use Rattle.tc_close.proofs.certificate.output_lines.Goals as goal

pub returns-then-len-room : goal.returns-then-len-room
returns-then-len-room g c =
    let n : ℕ = c.loop-number.number in
    let held = c.args.rows.now.outputs.matrices in
    let low : n < length held = subst (λ k. n < k) c.output_count-number-end.ensures.count c.loop-number-test.true in
    let inside : n < length (sets_of held) = subst (λ k. n < k) (sym (length-map held pairs_of)) low in
    let at : get_or (sets_of held) n [] ≡ pairs_of (set_at c.args.rows.now.outputs n) = get_or-map pairs_of held n no_matrix [] low in
    let more = length-flat_map-take output_text (sets_of held) n [] inside in
    let same = ap (λ ps. length (output_text ps)) at in
    let long = length-append (pairs_line (pairs_of (set_at c.args.rows.now.outputs n))) (codes "\n") in
    let line = ap length c.in_ok-line.ensures in
    let bytes = c.loop-number.invariant.1 in
    omega (arith, more, same, long, line, bytes, c.if-len-room.true, c.len.ensures)

pub push-requires : goal.push-requires
push-requires g c =
    let e = ap length c.loop-number.invariant.0 ∙ below_count (λ n. pairs_line (pairs_of (set_at c.args.rows.now.outputs n))) c.loop-number.number in
    omega (arith, e, c.loop-number-test.true, c.output_count-number-end.type_inv)

pub loop-number-preserved : goal.loop-number-preserved
loop-number-preserved g c = (
  pushed_below (λ n. pairs_line (pairs_of (set_at c.args.rows.now.outputs n))) c.loop-number.number c.loop-number.all c.push.new.self c.in_ok-line.line.items c.loop-number.invariant.0 c.in_ok-push.ensures c.in_ok-line.ensures,
  (let n : ℕ = c.loop-number.number in
      let held = c.args.rows.now.outputs.matrices in
      let set : List (ℕ × ℕ) = pairs_of (set_at c.args.rows.now.outputs n) in
      let low : n < length held = subst (λ k. n < k) c.output_count-number-end.ensures.count c.loop-number-test.true in
      let inside : n < length (sets_of held) = subst (λ k. n < k) (sym (length-map held pairs_of)) low in
      let at : get_or (sets_of held) n [] ≡ set = get_or-map pairs_of held n no_matrix [] low in
      let there : slice_get (sets_of held) n ≡ Some set = slice_get-get_or (sets_of held) n [] inside ∙ ap Some at in
      let more = taken_length output_text (sets_of held) n set there in
      let long = length-append (pairs_line set) (codes "\n") in
      let line = ap length c.in_ok-line.ensures in
      let bytes = c.loop-number.invariant.1 in
      omega (arith, more, long, line, bytes, c.if-len-room.false, c.len.ensures, c.len-in-loop-number.ensures)),
)

pub returns-in_err-line : goal.returns-in_err-line
returns-in_err-line g c = no_value c.from_residual.result _ _ c.from_residual.ensures.1

pub returns-in_err-push : goal.returns-in_err-push
returns-in_err-push g c = no_value c.from_residual-in_err-push.result _ _ c.from_residual-in_err-push.ensures.1
