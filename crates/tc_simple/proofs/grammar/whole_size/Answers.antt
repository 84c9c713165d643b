use Rattle.std.proofs.Common.{◌≡◌, ◌∙◌, ◌<◌, List, refl, ap, sym, subst, arith, length, map, get_or}
use Rattle.std.proofs.lemmas.List.{length-map}
use Rattle.tc_model.specs.Simplifies.{Element}
use Rattle.tc_simple.specs.Nodes.{HasNumbersBelow, see_element}
use Rattle.tc_simple.specs.Orders.{AreSized}
use Rattle.tc_simple.specs.Sizes.{leaf}
use Rattle.tc_simple.specs.Totals.{total_of}
use Rattle.tc_simple.proofs.Answered.{same_item}
use Rattle.tc_simple.proofs.Checked.{total_is}
use Rattle.tc_simple.proofs.Whole.{has_grammar, is_orderly}
use Rattle.tc_simple.proofs.grammar.whole_size.Goals as goal

pub total-requires : goal.total-requires
total-requires c = subst (HasNumbersBelow c.args.table.now) (sym c.in_ok-sizes.ensures.0) c.requires.marks.numbers

pub returns : goal.returns
returns c = λ s lawful faultless r elements.
    let t = c.args.table.now in
    let w = c.args.walk.now in
    let marks = c.args.marks.now in
    let found = map see_element c.args.found.now in
    let sizes = c.in_ok-sizes.sizes.now in
    let small : c.args.start < length sizes = omega (arith, c.requires.order.start, c.in_ok-sizes.ensures.0) in
    let are = c.in_ok-sizes.ensures.1 s found (is_orderly s t c.args.start marks w.states.items w.order.items r lawful faultless) in
    let is : c.total.result ≡ total_of t sizes (get_or sizes c.args.start leaf) found =
    total_is t sizes sizes _ (get_or sizes c.args.start leaf) found found c.total.result refl (same_item sizes c.args.start _ leaf small) refl c.total.ensures in
    let (grammar, simplifies, nodes, depth, count) = has_grammar s t c.args.start marks w.states.items w.order.items r lawful faultless sizes
    (subst (λ (z : List Element). AreSized s z t marks w.states.items (length w.order.items) sizes) elements are) c.total.result (is ∙ ap (total_of t sizes (get_or sizes c.args.start leaf)) elements) in
    (grammar, simplifies, record { nodes = nodes; depth = depth; elements = sym (length-map c.args.found.now see_element) ∙ (ap length elements ∙ sym count) })
