use Rattle.std.proofs.Common.{◌≡◌, ℕ, List, [], Some, slice_get, get_or, refl, sym, subst}
use Rattle.std.proofs.lemmas.Option.{get_or_from_slice_get}
use Rattle.tc_close.specs.Appends.{AgreeButEntries, AreProducts}
use Rattle.tc_close.proofs.appends.Appends.known.Goals as goal

pub get-requires : goal.get-requires
get-requires c = (c.requires.kept.made c.in_ok-other.other c.in_ok-other.another c.in_ok-other.made c.in_ok-other.ensures).0

pub get-requires-then-agree_but_entries : goal.get-requires-then-agree_but_entries
get-requires-then-agree_but_entries c = (c.requires.kept.made c.in_ok-other.other c.in_ok-other.another c.in_ok-other.made c.in_ok-other.ensures).1

pub returns-then-are_products : goal.returns-then-are_products
returns-then-are_products c =
    let a = c.args.self.now in
    let s = a.shape in
    let hedges = c.args.lists.hedges.now in
    let trees = c.args.lists.trees.now in
    let is = c.in_ok-other in
    let row : (rows : List (List ℕ)) (k : ℕ) (r : List ℕ) → slice_get rows k ≡ Some r → r ≡ get_or rows k [] = λ rows k r e. sym (get_or_from_slice_get rows k r [] e) in
    let first = row hedges c.args.hedge c.get-first.result.now c.get-first.ensures in
    let second = row trees c.args.tree c.get-second.result.now c.get-second.ensures in
    let other = row hedges is.other c.get.result.now c.get.ensures in
    let another = row trees is.another c.get-then-agree_but_entries.result.now c.get-then-agree_but_entries.ensures in
    let both = row hedges is.made c.get-then-agree_but_entries-2.result.now c.get-then-agree_but_entries-2.ensures in
    let hs = get_or hedges c.args.hedge [] in
    let ts = get_or trees c.args.tree [] in
    record {
      low_hedge = (c.if-not-are_even.ensures refl).0;
      low_tree = (c.if-not-are_even.ensures refl).1;
      low_made = c.if-made-self.true;
      other = is.other;
      another = is.another;
      is = is.ensures;
      hedge = subst (λ r. AgreeButEntries s.inputs s.entries r hs) other (subst (AgreeButEntries s.inputs s.entries c.get.result.now) first (c.if-agree_but_entries.ensures refl));
      tree = subst (λ r. AgreeButEntries s.patterns s.entries r ts) another (subst (AgreeButEntries s.patterns s.entries c.get-then-agree_but_entries.result.now) second (c.if-agree_but_entries-2.ensures refl));
      products = subst (AreProducts a hedges trees hs ts) both (subst (λ r. AreProducts a hedges trees hs r c.get-then-agree_but_entries-2.result.now) second (subst (λ r. AreProducts a hedges trees r c.get-second.result.now c.get-then-agree_but_entries-2.result.now) first (c.if-are_products.ensures refl)));
    }
