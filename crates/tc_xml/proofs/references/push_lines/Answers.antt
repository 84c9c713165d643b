use Rattle.std.proofs.Common.{arith, string_bytes, refl, ◌∙◌, sym, ap, ◌++◌}
use Rattle.memchr.specs.Find.{is_byte}
use Rattle.tc_scan.proofs.FrontLaws.{run_to_some, run_to_none}
use Rattle.tc_model.specs.XmlTextBytes.{line_ends}
use Rattle.tc_xml.proofs.LineLaws.{not_return, lines_step, appended, lines_end}
use Rattle.tc_xml.proofs.references.push_lines.Goals as goal
use Rattle.tc_tags.proofs.LineLaws.{found_within, step_shorter}

pub loop-at-smaller : goal.loop-at-smaller
loop-at-smaller c =
    step_shorter c.loop-at.rest.now c.split_at.result.1.now c.after_line_end-rest.result.now c.in-Some.at
    (found_within (is_byte 13) c.as_bytes.result.now c.loop-at.rest.now c.memchr.result c.in-Some.at c.as_bytes.ensures.value c.memchr.ensures c.in-Some.is)
    c.split_at.ensures.back c.after_line_end-rest.ensures

pub loop-at-preserved : goal.loop-at-preserved
loop-at-preserved c =
    let rest = c.loop-at.rest.now in
    let at = run_to_some (is_byte 13) not_return c.as_bytes.result.now rest c.memchr.result c.in-Some.at (λ b. refl) c.as_bytes.ensures.value c.memchr.ensures c.in-Some.is in
    let within = found_within (is_byte 13) c.as_bytes.result.now rest c.memchr.result c.in-Some.at c.as_bytes.ensures.value c.memchr.ensures c.in-Some.is in
    record {
      so_far = appended _ c.split_at.result.0.now (line_ends c.after_line_end-rest.result.now) 0xA _ _ _ _ (omega arith) c.in_ok-push_str.ensures.bytes c.in_ok-push.ensures.bytes
          (lines_step rest c.split_at.result.0.now c.split_at.result.1.now c.after_line_end-rest.result.now c.in-Some.at at within c.split_at.ensures.front c.split_at.ensures.back c.after_line_end-rest.ensures)
          c.loop-at.invariant.so_far;
      text = c.after_line_end-rest.utf8;
    }

pub returns : goal.returns
returns c =
    c.in_ok-push_str-2.ensures.bytes
    ∙ (ap (λ w. string_bytes c.loop-at.out ++ w) (sym (lines_end c.loop-at.rest.now (run_to_none (is_byte 13) not_return c.as_bytes.result.now c.loop-at.rest.now c.memchr.result (λ b. refl) c.as_bytes.ensures.value c.memchr.ensures c.in_default.is)))
    ∙ c.loop-at.invariant.so_far)
