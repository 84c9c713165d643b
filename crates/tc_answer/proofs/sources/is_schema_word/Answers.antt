use Rattle.tc_answer.proofs.SchemaWordsLaws.{lawful_file, lawful_none, unlawful_name}
use Rattle.tc_answer.proofs.sources.is_schema_word.Goals as goal

pub returns-then-is_ncname : goal.returns-then-is_ncname
returns-then-is_ncname c =
    let parts = c.in-Some.ensures in
    lawful_file c.args.word.now parts.0 c.in-Some.root.now c.in-Some.file.now c.is_empty.result parts.1 parts.2 parts.3 (c.is_ncname.ensures.0 c.if-is_ncname.true) c.is_empty.ensures

pub returns-in-None : goal.returns-in-None
returns-in-None c = lawful_none c.args.word.now c.in-None.ensures

pub returns-else-is_ncname : goal.returns-else-is_ncname
returns-else-is_ncname c =
    let parts = c.in-Some.ensures in
    unlawful_name c.args.word.now parts.0 c.in-Some.root.now c.in-Some.file.now c.is_ncname.result parts.1 parts.2 parts.3 c.is_ncname.ensures c.if-is_ncname.false
