use Rattle.std.proofs.Common.{refl, encode_utf8, ap, sym, ◌∙◌, ◌++◌}
use Rattle.tc_model.specs.Runs.{run_text}
use Rattle.tc_model.specs.XmlTextBytes.{line_ends, place_of}
use Rattle.tc_model.specs.XmlTextContent.{characters}
use Rattle.tc_tags.proofs.FailedLaws.{failed_some}
use Rattle.tc_xml.proofs.ItemLaws.{reference_item, data_item}
use Rattle.tc_xml.proofs.TakingLaws.{took_characters}
use Rattle.tc_xml.proofs.taking.text_item.Goals as goal

pub returns-then-begins : goal.returns-then-begins
returns-then-begins g c =
    let text = c.args.text.now in
    let s = encode_utf8 c.in-Ok.character in
    let p = place_of c.args.total text in (
      characters s p,
      reference_item c.args.total text s c.in-Ok.rest.now p c.in-Ok.ensures.ok refl,
      took_characters _ c.args.reader.now.taker _ (run_text c.args.reader.now.run) s _ p c.in_ok-add_character.ensures.taker c.in_ok-add_character.ensures.run,
    )

pub returns : goal.returns
returns g c =
    let text = c.args.text.now in
    let run = c.in_ok-run.run'.now in
    let p = place_of c.args.total text in (
      characters (line_ends run) p,
      data_item c.args.total text run c.in_ok-run.rest.now p c.in_ok-run.ensures refl,
      took_characters _ c.args.reader.now.taker _ (run_text c.args.reader.now.run) (line_ends run) _ p c.in_ok-add_characters.ensures.taker c.in_ok-add_characters.ensures.run,
    )

pub returns-in-Some : goal.returns-in-Some
returns-in-Some g c =
    let text = c.args.text.now in
    let run = c.in-Some.run'.now in
    let p = place_of c.args.total text in (
      characters (line_ends run) p,
      data_item c.args.total text run c.in-Some.rest.now p c.in-Some.ensures.0 refl,
      took_characters _ c.args.reader.now.taker _ (run_text c.args.reader.now.run) (line_ends run) _ p c.in_ok-add_clear.ensures.taker
          (c.in_ok-add_clear.ensures.run ∙ ap (λ w. run_text c.args.reader.now.run ++ w) (sym c.in-Some.ensures.1)),
    )

pub returns-in_err-add_character : goal.returns-in_err-add_character
returns-in_err-add_character g c = failed_some _ _ c.from_residual.ensures

pub returns-in_err-run : goal.returns-in_err-run
returns-in_err-run g c = failed_some _ _ c.from_residual-in_err-run.ensures

pub returns-in_err-add_characters : goal.returns-in_err-add_characters
returns-in_err-add_characters g c = failed_some _ _ c.from_residual-in_err-add_characters.ensures
