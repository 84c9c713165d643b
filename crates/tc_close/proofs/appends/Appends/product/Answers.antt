use Rattle.std.proofs.Common.{ap, sym, ◌∙◌, []}
use Rattle.std.proofs.lemmas.Option.{get_or_from_slice_get}
use Rattle.tc_beh.specs.Rooms.{output_at}
use Rattle.tc_close.proofs.appends.Appends.product.Goals as goal

pub get-requires : goal.get-requires
get-requires c = (c.requires.made c.in_ok-hedge.hedge c.in_ok-hedge.tree c.in_ok-hedge.made c.in_ok-hedge.ensures).0

pub get-requires-then-entry-one : goal.get-requires-then-entry-one
get-requires-then-entry-one c = (c.requires.made c.in_ok-hedge.hedge c.in_ok-hedge.tree c.in_ok-hedge.made c.in_ok-hedge.ensures).1

pub get-requires-then-entry-other : goal.get-requires-then-entry-other
get-requires-then-entry-other c = (c.requires.made c.in_ok-hedge.hedge c.in_ok-hedge.tree c.in_ok-hedge.made c.in_ok-hedge.ensures).2

pub returns-then-entry-other : goal.returns-then-entry-other
returns-then-entry-other c =
    let p = c.args.place in
    let s = c.args.self.now.shape in
    let hedges = c.args.lists.hedges.now in
    record {
      h = c.in_ok-hedge.hedge;
      t = c.in_ok-hedge.tree;
      u = c.in_ok-hedge.made;
      is = c.in_ok-hedge.ensures;
      of_first = ap (λ r. output_at s.inputs r p) (get_or_from_slice_get hedges c.in_ok-hedge.hedge c.get.result.now [] c.get.ensures) ∙ (sym c.entry.ensures ∙ (c.if-entry-one.true ∙ c.entry-one.ensures));
      of_second = ap (λ r. output_at s.patterns r p) (get_or_from_slice_get c.args.lists.trees.now c.in_ok-hedge.tree c.get-then-entry-one.result.now [] c.get-then-entry-one.ensures) ∙ (sym c.entry-then-entry-one.ensures ∙ (c.if-entry-other.true ∙ c.entry-other.ensures));
      of_both = ap (λ r. output_at s.inputs r p) (get_or_from_slice_get hedges c.in_ok-hedge.made c.get-then-entry-other.result.now [] c.get-then-entry-other.ensures) ∙ sym c.entry-then-entry-other.ensures;
    }
