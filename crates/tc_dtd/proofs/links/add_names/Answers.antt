use Rattle.std.proofs.Common.{◌++◌, ◌∙◌, ℕ, Bor, List, ap, refl, sym}
use Rattle.std.specs.List.{filter_map}
use Rattle.std.proofs.lemmas.List.{append-nil, drop_all}
use Rattle.tc_dtd.specs.Numbers.{number_in}
use Rattle.tc_dtd.specs.Views as see
use Rattle.tc_dtd.proofs.BuiltLaws.{names_next}
use Rattle.tc_dtd.proofs.links.add_names.Goals as goal

pub loop-name-preserved : goal.loop-name-preserved
loop-name-preserved c =
    names_next (number_in (see.names c.args.found.now.keys)) c.args.names.now c.loop-name.name-index _ c.loop-name.row.items c.add_link.new.row.items c.loop-name-test.true c.in_ok-add_link.ensures ∙ c.loop-name.invariant

pub loop-name-init : goal.loop-name-init
loop-name-init c = refl

pub returns : goal.returns
returns c =
    let row = c.loop-name.row.items in
    sym (append-nil row)
    ∙ (ap (λ (l : List (Bor (List ℕ))). row ++ filter_map (number_in (see.names c.args.found.now.keys)) (see.names l)) (sym (drop_all c.loop-name.name-index c.args.names.now c.loop-name-test.false))
    ∙ c.loop-name.invariant)
