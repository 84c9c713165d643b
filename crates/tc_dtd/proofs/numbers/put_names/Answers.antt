use Rattle.tc_dtd.proofs.BuiltLaws.{names_more, names_all}
use Rattle.tc_dtd.proofs.numbers.put_names.Goals as goal

pub loop-decl-init : goal.loop-decl-init
loop-decl-init c = c.requires.none

pub loop-decl-preserved : goal.loop-decl-preserved
loop-decl-preserved c =
    names_more c.args.decls.now c.loop-decl.decl-index _ c.loop-decl.found.keys c.insert.new.self.keys c.loop-decl-test.true c.requires.apart c.loop-decl.invariant c.in_ok-_is_new.ensures.keys

pub returns : goal.returns
returns c = names_all c.args.decls.now c.loop-decl.decl-index c.loop-decl.found.keys c.loop-decl-test.false c.loop-decl.invariant
