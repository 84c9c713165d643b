use Rattle.std.proofs.Common.{[], rules}
use Rattle.tc_model.specs.XmlTextReferences.{closed}
use Rattle.tc_tags.proofs.FailedLaws.{failed_some}
use Rattle.tc_xml.proofs.ValueLaws.{value_before}
use Rattle.tc_xml.proofs.references.after_quoted.Goals as goal
use Rattle.tc_tags.proofs.ValueLaws.{piece_shorter, text_past_piece}

pub pieces-init : goal.pieces-init
pieces-init c = record { forth = λ v after h. (v, h); text = search rules }

pub pieces-preserved : goal.pieces-preserved
pieces-preserved c =
    let (piece, a) = c.in_ok-rest.ensures in
    record {
      forth = λ v after h. c.pieces.invariant.forth _ after (value_before a h);
      text = text_past_piece c.in_ok-quote.quote c.pieces.rest.now piece c.in_ok-rest.rest.now c.in_ok-quote.ensures.0 a c.pieces.invariant.text;
    }

pub pieces-smaller : goal.pieces-smaller
pieces-smaller c = let (piece, a) = c.in_ok-rest.ensures in piece_shorter c.in_ok-quote.quote c.pieces.rest.now piece c.in_ok-rest.rest.now a

pub returns-in-Some : goal.returns-in-Some
returns-in-Some c =
    let (w, v) = c.pieces.invariant.forth [] c.in-Some.after.now (closed c.in-Some.ensures) in (
      w,
      record {
        quote = c.in_ok-quote.quote;
        rest = c.in_ok-quote.inside.now;
        is_quote = c.in_ok-quote.ensures.0;
        opens = c.in_ok-quote.ensures.1;
        closes = v;
      },
    )

pub returns-in_err-quote : goal.returns-in_err-quote
returns-in_err-quote c = failed_some _ _ c.from_residual.ensures

pub returns-in_err-rest : goal.returns-in_err-rest
returns-in_err-rest c = failed_some _ _ c.from_residual-in_err-rest.ensures
