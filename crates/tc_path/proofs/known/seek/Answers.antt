use Rattle.std.proofs.lemmas.Map.Text.{btree_map_updates_str}
use Rattle.tc_path.proofs.KnownLaws.{one_sought}
use Rattle.tc_path.proofs.known.seek.Goals as goal

pub returns-clause-ok : goal.returns-clause-ok
returns-clause-ok c = one_sought c.args.known.now c.insert.new.self c.in-Some.prefix.now (btree_map_updates_str c.in-Some.prefix.now c.args.known.now c.insert.new.self _ c.in_ok-insert.ensures.updates)
