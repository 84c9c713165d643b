use Rattle.std.proofs.Common.{sym, ◌∙◌}
use Rattle.std.specs.Prelude.{encode_utf8}
use Rattle.tc_model.specs.XmlTextBytes.{line_ends}
use Rattle.tc_model.specs.XmlTextReferences.{spaced}
use Rattle.tc_tags.specs.Values.{plain, reference}
use Rattle.tc_tags.proofs.FailedLaws.{failed_ok}
use Rattle.tc_xml.proofs.MemoryLaws.{out_refuses, out_stands}
use Rattle.tc_xml.proofs.ValueLaws.{err_refuses, err_stands}
use Rattle.tc_xml.proofs.references.push_piece.Goals as goal
use Rattle.tc_tags.proofs.ValueLaws.{cut_after_plain, no_piece, run_at}

pub split_at-requires : goal.split_at-requires
split_at-requires c = cut_after_plain c.args.quote c.plain_len_within-count.result c.args.text.now c.requires.is_quote c.plain_len_within-count.ensures.count

pub returns-in_err-c-clause-no : goal.returns-in_err-c-clause-no
returns-in_err-c-clause-no c =
    let none = sym c.plain_len_within-count.ensures.count ∙ c.if-count-eq0.true in
    err_refuses c.from_residual.result c.in_err-c.field-0.0 _ _ _ _ c.from_residual.ensures.1 c.in_err-c.ensures.no (no_piece none) (no_piece none)

pub returns-then-count-eq0-clause-ok : goal.returns-then-count-eq0-clause-ok
returns-then-count-eq0-clause-ok c = (encode_utf8 c.in_ok-c.c, reference c.in_ok-c.ensures.ok, c.in_ok-push.ensures.bytes)

pub returns-clause-ok : goal.returns-clause-ok
returns-clause-ok c = (
  spaced (line_ends c.split_at.result.0.now),
  plain (run_at c.args.quote c.plain_len_within-count.result c.args.text.now c.split_at.result.0.now _ c.plain_len_within-count.ensures.count c.if-count-eq0.false c.split_at.ensures.front c.split_at.ensures.back),
  c.in_ok-push_spaced.ensures,
)

pub returns-in_err-c-clause-ok : goal.returns-in_err-c-clause-ok
returns-in_err-c-clause-ok c = failed_ok _ _ _ c.from_residual.ensures.1

pub returns-in_err-push-clause-ok : goal.returns-in_err-push-clause-ok
returns-in_err-push-clause-ok c = failed_ok _ _ _ c.from_residual-in_err-push.ensures.1

pub returns-in_err-push_spaced-clause-ok : goal.returns-in_err-push_spaced-clause-ok
returns-in_err-push_spaced-clause-ok c = failed_ok _ _ _ c.from_residual-in_err-push_spaced.ensures.1

pub returns-in_err-push-clause-no : goal.returns-in_err-push-clause-no
returns-in_err-push-clause-no c = out_refuses _ _ _ c.from_residual-in_err-push.ensures.1

pub returns-in_err-push-clause-stands : goal.returns-in_err-push-clause-stands
returns-in_err-push-clause-stands c = out_stands _ _ c.from_residual-in_err-push.ensures.1

pub returns-in_err-push_spaced-clause-no : goal.returns-in_err-push_spaced-clause-no
returns-in_err-push_spaced-clause-no c = out_refuses _ _ _ c.from_residual-in_err-push_spaced.ensures.1

pub returns-in_err-push_spaced-clause-stands : goal.returns-in_err-push_spaced-clause-stands
returns-in_err-push_spaced-clause-stands c = out_stands _ _ c.from_residual-in_err-push_spaced.ensures.1

pub returns-in_err-c-clause-stands : goal.returns-in_err-c-clause-stands
returns-in_err-c-clause-stands c = err_stands c.from_residual.result c.in_err-c.field-0.0 _ _ c.from_residual.ensures.1 c.in_err-c.ensures.stands (λ why at h. h)
