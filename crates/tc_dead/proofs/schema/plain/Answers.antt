use Rattle.std.proofs.Common.{List, Bor, refl}
use Rattle.tc_model.specs.declared.grammar.ElemPat.{ElemPat}
use Rattle.tc_dead.proofs.PlainSeen.{whole}
use Rattle.tc_dead.proofs.schema.plain.Goals as goal

pub returns : goal.returns
returns c =
    let elements : Bor (List ElemPat) = record { ref_ptr = c.in_ok-elements.elements.ref_ptr; now = c.in_ok-elements.elements.now } in
    whole c.in_ok-start.start c.in_ok-content.content elements _ _ _ _ c.in_ok-elements.ensures refl refl refl refl refl c.wrapper_name.ensures c.in_ok-start.ensures c.in_ok-content.ensures
