use Rattle.std.proofs.Common.{◌∙◌, refl, sym, length}
use Rattle.std.proofs.lemmas.Bool.{eqb-true}
use Rattle.tc_scan.proofs.FrontLaws.{same_range}
use Rattle.tc_scan.proofs.CharsFront.{cut_at_rest, front_of}
use Rattle.tc_scan.proofs.PlainBlocks.{front_of_none}
use Rattle.tc_scan.proofs.chars.first_characters.Goals as goal

pub returns-then-is_empty : goal.returns-then-is_empty
returns-then-is_empty c = front_of_none c.args.bytes.now (eqb-true (length c.args.bytes.now) 0 (sym c.is_empty.ensures ∙ c.if-is_empty.true))

pub range-requires-clause-end_boundary : goal.range-requires-clause-end_boundary
range-requires-clause-end_boundary c =
    let past = c.after_characters-rest in
    cut_at_rest c.utf8_front-text.result.now past.ensures.front past.result.now _ past.ensures.parts past.utf8 refl

pub returns : goal.returns
returns c =
    front_of c.args.bytes.now c.utf8_front-text.result.now c.after_characters-rest.result.now c.range.result.now _ c.utf8_front-text.ensures c.after_characters-rest.ensures refl
    (c.range.ensures.value ∙ same_range _ c.utf8_front-text.result.now)
