use Rattle.std.proofs.Common.{refl}
use Rattle.std.proofs.lemmas.Map.Text.{btree_map_updates_str}
use Rattle.tc_model.specs.Views.{bound}
use Rattle.tc_path.proofs.KnownLaws.{sought}
use Rattle.tc_path.proofs.known.find.Goals as goal

pub returns-clause-ok : goal.returns-clause-ok
returns-clause-ok c = λ scope rest. sought scope rest (bound c.args.binding.now) c.args.binding.now.uri c.args.known.now c.insert.new.self refl c.if-not-is_sought.ensures
    (btree_map_updates_str c.args.binding.now.prefix.now c.args.known.now c.insert.new.self _ c.in_ok-insert.ensures.updates)
