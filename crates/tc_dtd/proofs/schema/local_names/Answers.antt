use Rattle.std.proofs.Common.{◌∙◌, ℕ, List, Bor, ap, map, refl}
use Rattle.std.proofs.lemmas.List.{take_all}
use Rattle.tc_dtd.specs.Declarations.{Declaration}
use Rattle.tc_dtd.specs.Views as see
use Rattle.tc_dtd.specs.declared.declarations.Decl.{Decl}
use Rattle.tc_dtd.proofs.BuiltLaws.{mapped_more}
use Rattle.tc_dtd.proofs.schema.local_names.Goals as goal

pub loop-decl-preserved : goal.loop-decl-preserved
loop-decl-preserved c =
    mapped_more (λ (n : Bor (List ℕ)). n.now) (λ (x : Declaration). x.name) see.declaration c.args.decls.now c.loop-decl.decl-index _ c.loop-decl.out.items c.push.new.self.items _
    c.loop-decl-test.true c.loop-decl.invariant c.in_ok-push.ensures.items refl

pub loop-decl-init : goal.loop-decl-init
loop-decl-init c = ap see.names c.new-out.ensures.items

pub returns : goal.returns
returns c =
    ap see.names c.into_bump_slice.ensures
    ∙ (c.loop-decl.invariant ∙ ap (λ (l : List Decl). map (λ (x : Declaration). x.name) (map see.declaration l)) (take_all c.loop-decl.decl-index c.args.decls.now c.loop-decl-test.false))
