use Rattle.tc_xml.proofs.CharacterDataLaws.{cut_after_run, a_run}
use Rattle.tc_xml.proofs.character_data.guarded_data.Goals as goal

pub split_at-requires : goal.split_at-requires
split_at-requires c = cut_after_run c.args.text.now c.plain_len-count.result c.plain_len-count.ensures.count

pub returns-in-None : goal.returns-in-None
returns-in-None c =
    a_run c.args.text.now c.split_at.result.0.now c.split_at.result.1.now c.plain_len-count.result c.plain_len-count.ensures.count c.if-count-eq0.false
    c.split_at.ensures.front c.split_at.ensures.back c.in-None.ensures
