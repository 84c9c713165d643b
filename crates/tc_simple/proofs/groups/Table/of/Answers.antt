use Rattle.std.proofs.Common.{◌∙◌, List, ap, map, refl}
use Rattle.tc_rnc.specs.Views.{syntax}
use Rattle.tc_simple.specs.Tables.{joined_of}
use Rattle.tc_simple.specs.declared.groups.Group.{Group}
use Rattle.tc_simple.proofs.Gathering.{is_table}
use Rattle.tc_simple.proofs.groups.Table.of.Goals as goal

pub returns : goal.returns
returns c =
    is_table (syntax c.args.syntax.now) c.in_ok-gathered.gathered _ c.in_ok-gathered.ensures
    (c.in_ok-patterns.ensures ∙ ap (λ (gs : List Group). map (λ (g : Group). joined_of g.is_choice g.bodies.items) gs) c.deref.ensures.value) refl refl
