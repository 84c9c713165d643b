use Rattle.std.proofs.Common.{arith, refl, ◌∙◌, ap, length, length-append}
use Rattle.memchr.specs.Find.{is_byte3}
use Rattle.tc_scan.proofs.FrontLaws.{run_to_some, run_to_none}
use Rattle.tc_model.specs.XmlTextBytes.{line_ends}
use Rattle.tc_model.specs.XmlTextReferences.{spaced}
use Rattle.tc_tags.specs.Values.{past_line_end}
use Rattle.tc_tags.proofs.LineLaws.{not_break, spaces_step, added, no_room, spaced_last, step_shorter, found_within, spaces_end}
use Rattle.tc_tags.proofs.values.push_spaced.Goals as goal

pub loop-at-smaller : goal.loop-at-smaller
loop-at-smaller c =
    step_shorter c.loop-at.rest.now c.split_at.result.1.now c.after_line_end-rest.result.now c.in-Some.at
    (found_within (is_byte3 13 10 9) c.as_bytes.result.now c.loop-at.rest.now c.memchr3.result c.in-Some.at c.as_bytes.ensures.value c.memchr3.ensures c.in-Some.is)
    c.split_at.ensures.back c.after_line_end-rest.ensures

pub returns-then-not-push_str-clause-bytes : goal.returns-then-not-push_str-clause-bytes
returns-then-not-push_str-clause-bytes c =
    let rest = c.loop-at.rest.now in
    let at = run_to_some (is_byte3 13 10 9) not_break c.as_bytes.result.now rest c.memchr3.result c.in-Some.at (λ b. refl) c.as_bytes.ensures.value c.memchr3.ensures c.in-Some.is in
    let within = found_within (is_byte3 13 10 9) c.as_bytes.result.now rest c.memchr3.result c.in-Some.at c.as_bytes.ensures.value c.memchr3.ensures c.in-Some.is in
    let full = c.if-not-push_str.ensures.bytes.1 in
    let most = c.loop-at.invariant.most in
    no_room c.loop-at.names.bytes.items c.split_at.result.0.now (spaced (line_ends (past_line_end c.split_at.result.1.now))) c.args.names.now.bytes.items (spaced (line_ends c.args.run.now)) c.args.names.now.most
    (spaces_step rest c.split_at.result.0.now c.split_at.result.1.now (past_line_end c.split_at.result.1.now) c.in-Some.at at within c.split_at.ensures.front c.split_at.ensures.back refl)
    c.loop-at.invariant.so_far (omega (arith, full, most))

pub returns-then-not-push-clause-bytes : goal.returns-then-not-push-clause-bytes
returns-then-not-push-clause-bytes c =
    let rest = c.loop-at.rest.now in
    let at = run_to_some (is_byte3 13 10 9) not_break c.as_bytes.result.now rest c.memchr3.result c.in-Some.at (λ b. refl) c.as_bytes.ensures.value c.memchr3.ensures c.in-Some.is in
    let within = found_within (is_byte3 13 10 9) c.as_bytes.result.now rest c.memchr3.result c.in-Some.at c.as_bytes.ensures.value c.memchr3.ensures c.in-Some.is in
    let full = c.if-not-push.ensures.bytes.1 in
    let most = c.loop-at.invariant.most in
    let same = c.push_str.ensures.most in
    let long = ap length c.if-not-push_str.ensures.bytes ∙ length-append c.loop-at.names.bytes.items c.split_at.result.0.now in
    no_room c.loop-at.names.bytes.items c.split_at.result.0.now (spaced (line_ends (past_line_end c.split_at.result.1.now))) c.args.names.now.bytes.items (spaced (line_ends c.args.run.now)) c.args.names.now.most
    (spaces_step rest c.split_at.result.0.now c.split_at.result.1.now (past_line_end c.split_at.result.1.now) c.in-Some.at at within c.split_at.ensures.front c.split_at.ensures.back refl)
    c.loop-at.invariant.so_far (omega (arith, full, most, same, long))

pub loop-at-preserved : goal.loop-at-preserved
loop-at-preserved c =
    let rest = c.loop-at.rest.now in
    let at = run_to_some (is_byte3 13 10 9) not_break c.as_bytes.result.now rest c.memchr3.result c.in-Some.at (λ b. refl) c.as_bytes.ensures.value c.memchr3.ensures c.in-Some.is in
    let within = found_within (is_byte3 13 10 9) c.as_bytes.result.now rest c.memchr3.result c.in-Some.at c.as_bytes.ensures.value c.memchr3.ensures c.in-Some.is in
    record {
      most = c.push.ensures.most ∙ (c.push_str.ensures.most ∙ c.loop-at.invariant.most);
      so_far = added c.loop-at.names.bytes.items c.split_at.result.0.now (spaced (line_ends c.after_line_end-rest.result.now)) 0x20 _ _ _ _ c.if-not-push_str.ensures.bytes c.if-not-push.ensures.bytes
          (spaces_step rest c.split_at.result.0.now c.split_at.result.1.now c.after_line_end-rest.result.now c.in-Some.at at within c.split_at.ensures.front c.split_at.ensures.back c.after_line_end-rest.ensures)
          c.loop-at.invariant.so_far;
      text = c.after_line_end-rest.utf8;
    }

pub returns-clause-bytes : goal.returns-clause-bytes
returns-clause-bytes c =
    let rest = c.loop-at.rest.now in
    spaced_last c.push_str-2.result c.loop-at.names.bytes.items c.args.names.now.bytes.items (spaced (line_ends c.args.run.now)) rest c.push_str-2.new.self.bytes.items c.loop-at.names.most c.args.names.now.most
    (spaces_end rest (run_to_none (is_byte3 13 10 9) not_break c.as_bytes.result.now rest c.memchr3.result (λ b. refl) c.as_bytes.ensures.value c.memchr3.ensures c.in_default.is))
    c.loop-at.invariant.so_far c.loop-at.invariant.most c.push_str-2.ensures.bytes

pub loop-at-init : goal.loop-at-init
loop-at-init c = record { most = refl; so_far = refl; text = c.utf8.run }

pub returns-then-not-push_str-clause-most : goal.returns-then-not-push_str-clause-most
returns-then-not-push_str-clause-most c = c.push_str.ensures.most ∙ c.loop-at.invariant.most

pub returns-then-not-push-clause-most : goal.returns-then-not-push-clause-most
returns-then-not-push-clause-most c = c.push.ensures.most ∙ (c.push_str.ensures.most ∙ c.loop-at.invariant.most)

pub returns-clause-most : goal.returns-clause-most
returns-clause-most c = c.push_str-2.ensures.most ∙ c.loop-at.invariant.most
