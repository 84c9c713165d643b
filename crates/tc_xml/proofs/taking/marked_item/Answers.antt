use Rattle.std.proofs.Common.{refl}
use Rattle.tc_model.specs.Runs.{run_text}
use Rattle.tc_model.specs.XmlTextBytes.{line_ends, place_of}
use Rattle.tc_model.specs.XmlTextContent.{nothing, characters, comment}
use Rattle.tc_tags.proofs.FailedLaws.{failed_some}
use Rattle.tc_xml.proofs.ItemLaws.{cdata_item}
use Rattle.tc_xml.proofs.TakingLaws.{took_nothing, took_characters}
use Rattle.tc_xml.proofs.taking.marked_item.Goals as goal

pub returns-in-Some : goal.returns-in-Some
returns-in-Some g c = (nothing, (λ outer d. comment c.in-Some.ensures), took_nothing _ c.args.reader.now.taker (run_text c.args.reader.now.run))

pub returns : goal.returns
returns g c =
    let text = c.args.text.now in
    let p = place_of c.args.total text in (
      characters (line_ends c.in_ok-inside.inside.now) p,
      cdata_item c.args.total text c.in_ok-inside.inside.now c.in_ok-inside.rest.now p c.in_ok-inside.ensures refl,
      took_characters _ c.args.reader.now.taker _ (run_text c.args.reader.now.run) (line_ends c.in_ok-inside.inside.now) _ p c.in_ok-add_characters.ensures.taker c.in_ok-add_characters.ensures.run,
    )

pub returns-in_err-inside : goal.returns-in_err-inside
returns-in_err-inside g c = failed_some _ _ c.from_residual.ensures

pub returns-in_err-add_characters : goal.returns-in_err-add_characters
returns-in_err-add_characters g c = failed_some _ _ c.from_residual-in_err-add_characters.ensures
