use Rattle.std.proofs.Common.{◌∙◌, List, ap, map, refl}
use Rattle.std.proofs.lemmas.List.{take_all}
use Rattle.tc_model.specs.Views as seen
use Rattle.tc_dtd.specs.Built as built
use Rattle.tc_dtd.specs.Views as see
use Rattle.tc_dtd.specs.declared.declarations.Decl.{Decl}
use Rattle.tc_dtd.proofs.BuiltLaws.{mapped_more, element_is}
use Rattle.tc_dtd.proofs.patterns.element_patterns.Goals as goal

pub loop-decl-preserved : goal.loop-decl-preserved
loop-decl-preserved c =
    mapped_more seen.element_pattern (built.element_pattern (see.names c.args.found.now.keys)) see.declaration c.args.decls.now c.loop-decl.decl-index _ c.loop-decl.out.items c.push.new.self.items _
    c.loop-decl-test.true c.loop-decl.invariant c.in_ok-push.ensures.items (element_is (see.names c.args.found.now.keys) _ _ c.in_ok-content.content refl c.in_ok-content.ensures)

pub loop-decl-init : goal.loop-decl-init
loop-decl-init c = ap (map seen.element_pattern) c.new-out.ensures.items

pub returns : goal.returns
returns c =
    ap (map seen.element_pattern) c.into_bump_slice.ensures
    ∙ (c.loop-decl.invariant ∙ ap (λ (l : List Decl). map (built.element_pattern (see.names c.args.found.now.keys)) (map see.declaration l)) (take_all c.loop-decl.decl-index c.args.decls.now c.loop-decl-test.false))
