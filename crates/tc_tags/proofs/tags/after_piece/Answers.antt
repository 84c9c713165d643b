use Rattle.std.proofs.Common.{◌≡◌, arith}
use Rattle.std.specs.Prelude.{encode_utf8}
use Rattle.std.specs.List.{prefix_len}
use Rattle.tc_model.specs.XmlTextBytes.{line_ends}
use Rattle.tc_model.specs.XmlTextReferences.{spaced, is_plain_within}
use Rattle.tc_tags.specs.Values.{plain, reference}
use Rattle.tc_tags.proofs.TagReadLaws.{stop_refuses, stop_stands}
use Rattle.tc_tags.proofs.ValueLaws.{cut_after_plain, no_piece, run_at, lacks_reference, no_reference_there}
use Rattle.tc_tags.proofs.tags.after_piece.Goals as goal

pub split_at-requires : goal.split_at-requires
split_at-requires c = cut_after_plain c.args.quote c.plain_len_within-count.result c.args.text.now c.requires.is_quote c.plain_len_within-count.ensures.count

pub returns-then-count-gt0-clause-ok : goal.returns-then-count-gt0-clause-ok
returns-then-count-gt0-clause-ok c =
    let some = c.if-count-gt0.true in (
      spaced (line_ends c.split_at.result.0.now),
      plain (run_at c.args.quote c.plain_len_within-count.result c.args.text.now c.split_at.result.0.now c.split_at.result.1.now c.plain_len_within-count.ensures.count (λ e. omega (arith, e, some)) c.split_at.ensures.front c.split_at.ensures.back),
    )

pub returns-in-Ok-clause-ok : goal.returns-in-Ok-clause-ok
returns-in-Ok-clause-ok c = (encode_utf8 c.in-Ok.field-0-0, reference c.in-Ok.ensures.ok)

pub returns-in-Err-OtherEntity-clause-no : goal.returns-in-Err-OtherEntity-clause-no
returns-in-Err-OtherEntity-clause-no c = λ piece rest a.
    let count = c.plain_len_within-count.ensures.count in
    let few = c.if-count-gt0.false in
    let none : prefix_len (is_plain_within c.args.quote) c.args.text.now ≡ 0 = omega (arith, count, few) in
    no_piece none (lacks_reference c.in-Err-OtherEntity.field-0 c.args.text.now c.in-Err-OtherEntity.ensures.no) piece rest a

pub returns-in-Err-Malformed-clause-no : goal.returns-in-Err-Malformed-clause-no
returns-in-Err-Malformed-clause-no c =
    let text = c.args.text.now in
    let count = c.plain_len_within-count.ensures.count in
    let few = c.if-count-gt0.false in
    let none : prefix_len (is_plain_within c.args.quote) text ≡ 0 = omega (arith, count, few) in
    stop_refuses c.lacking.result _ _ c.lacking.ensures (λ piece rest a. no_piece none (no_reference_there c.in-Err-Malformed.field-0 text c.in-Err-Malformed.field-0-is c.in-Err-Malformed.ensures.no) piece rest a)

pub returns-in-Err-Malformed-clause-stands : goal.returns-in-Err-Malformed-clause-stands
returns-in-Err-Malformed-clause-stands c = stop_stands c.args.total c.lacking.result _ c.lacking.ensures

pub returns-then-count-gt0-clause-no : goal.returns-then-count-gt0-clause-no
returns-then-count-gt0-clause-no c = tt

pub returns-then-count-gt0-clause-stands : goal.returns-then-count-gt0-clause-stands
returns-then-count-gt0-clause-stands c = tt

pub returns-in-Ok-clause-no : goal.returns-in-Ok-clause-no
returns-in-Ok-clause-no c = tt

pub returns-in-Ok-clause-stands : goal.returns-in-Ok-clause-stands
returns-in-Ok-clause-stands c = tt

pub returns-in-Err-OtherEntity-clause-ok : goal.returns-in-Err-OtherEntity-clause-ok
returns-in-Err-OtherEntity-clause-ok c = tt

pub returns-in-Err-Malformed-clause-ok : goal.returns-in-Err-Malformed-clause-ok
returns-in-Err-Malformed-clause-ok c = tt
