use Rattle.std.proofs.Common.{sym}
use Rattle.tc_scan.proofs.ReferenceLaws.{no_hexadecimal, no_decimal, no_semicolon, is_hexadecimal, is_decimal, is_entity, other_entity}
use Rattle.tc_scan.proofs.references.any_reference.Goals as goal

pub returns-in-Some-by_number-clause-ok : goal.returns-in-Some-by_number-clause-ok
returns-in-Some-by_number-clause-ok c =
    is_hexadecimal c.args.text.now c.in-Some.body.now c.in-Some-after_mark.digits.now _ _ c.in-Some.ensures c.in-Some-after_mark.ensures c.in-Some-by_number.ensures

pub returns-in-None-clause-no : goal.returns-in-None-clause-no
returns-in-None-clause-no c = no_hexadecimal c.args.text.now c.in-Some.body.now c.in-Some-after_mark.digits.now c.in-Some.ensures c.in-Some-after_mark.ensures c.in-None.ensures

pub returns-in-Some-by_number-2-clause-ok : goal.returns-in-Some-by_number-2-clause-ok
returns-in-Some-by_number-2-clause-ok c =
    is_decimal c.args.text.now c.in-Some.body.now c.in-Some-after_mark-2.digits.now _ _ c.in-Some.ensures c.in-Some-after_mark-2.ensures c.in-Some-by_number-2.ensures

pub returns-in-None-by_number-clause-no : goal.returns-in-None-by_number-clause-no
returns-in-None-by_number-clause-no c =
    no_decimal c.args.text.now c.in-Some.body.now c.in-Some-after_mark-2.digits.now c.in-Some.ensures c.in-Some-after_mark-2.ensures c.in_default-after_mark.ensures c.in-None-by_number.ensures

pub returns-in_default-after_byte-clause-no : goal.returns-in_default-after_byte-clause-no
returns-in_default-after_byte-clause-no c =
    no_semicolon c.args.text.now c.in-Some.body.now c.in-Some-ncname.name.now c.in-Some-ncname.rest.now c.in-Some.ensures c.in_default-after_mark-2.ensures c.in-Some-ncname.ensures c.in_default-after_byte.ensures

pub returns-in-Some-predefined-clause-ok : goal.returns-in-Some-predefined-clause-ok
returns-in-Some-predefined-clause-ok c =
    is_entity c.args.text.now c.in-Some.body.now c.in-Some-ncname.name.now c.in-Some-ncname.rest.now c.in-Some-after_byte.after.now c.in-Some-predefined.c c.in-Some.ensures c.in-Some-ncname.ensures c.in-Some-after_byte.ensures (sym c.in-Some-predefined.ensures)

pub returns-in-None-predefined-clause-no : goal.returns-in-None-predefined-clause-no
returns-in-None-predefined-clause-no c =
    other_entity c.args.text.now c.in-Some.body.now c.in-Some-ncname.name.now c.in-Some-ncname.rest.now c.in-Some-after_byte.after.now c.in-Some.ensures c.in-Some-ncname.ensures c.in-Some-after_byte.ensures (sym c.in-None-predefined.ensures)
