use Rattle.tc_rnc.proofs.WordLaws.{name_without_colon, name_before_colon, name_with_asterisk, qualified_parts, qualified_word}
use Rattle.tc_rnc.proofs.words.named.Goals as goal

pub returns-in_default : goal.returns-in_default
returns-in_default c = name_without_colon c.in_default.ensures c.requires

pub returns-in-Some-after_byte : goal.returns-in-Some-after_byte
returns-in-Some-after_byte c = name_with_asterisk c.in-Some.ensures c.in-Some-after_byte.ensures c.requires

pub returns-in-None : goal.returns-in-None
returns-in-None c = name_before_colon c.in-Some.ensures c.in_default-after_byte.ensures c.in-None.ensures c.requires

pub before-requires : goal.before-requires
before-requires c = (_, qualified_parts c.requires c.in-Some.ensures c.in-Some-ncname.ensures)

pub returns-in-Some-ncname : goal.returns-in-Some-ncname
returns-in-Some-ncname c =
    qualified_word c.requires c.in-Some.ensures c.in-Some-ncname.ensures (c.before-in-Some-ncname.ensures _ (qualified_parts c.requires c.in-Some.ensures c.in-Some-ncname.ensures))
