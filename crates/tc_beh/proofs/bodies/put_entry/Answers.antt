use Rattle.std.proofs.Common.{◌≡◌, ◌+◌, ◌*◌, ◌<◌, length, get_or, sym, ap, ◌∙◌, refl, subst}
use Rattle.std.proofs.lemmas.List.{get_or_default}
use Rattle.tc_rows.specs.Triples.{moves}
use Rattle.tc_rows.specs.PairSets.{listed}
use Rattle.tc_rows.specs.Rows.{entry}
use Rattle.tc_beh.specs.Places.{entries_by, no_matrix}
use Rattle.tc_beh.specs.Putting.{has}
use Rattle.tc_beh.proofs.Looking.{moves_told}
use Rattle.tc_beh.proofs.PutLaws.{put_same}
use Rattle.tc_beh.proofs.Placed.{entry_is, entry_low, output_low}
use Rattle.tc_beh.proofs.bodies.put_entry.Goals as goal

pub returns-clause-same : goal.returns-clause-same
returns-clause-same c = c.put_held.ensures.same c.args.place.now.output.now

pub put_held-requires-clause-size : goal.put_held-requires-clause-size
put_held-requires-clause-size c = let (x, is) = c.requires.place in is.held ∙ sym (c.requires.sets.size ∙ is.size)

pub put_held-requires-clause-links : goal.put_held-requires-clause-links
put_held-requires-clause-links c = c.requires.sets.links

pub returns-clause-pairs : goal.returns-clause-pairs
returns-clause-pairs c = λ x is.
    let p = c.args.place.now in
    let i = c.entry_place-number.result in
    let k = c.args.state in
    let ms = p.outputs.now.matrices in
    let v = get_or p.entries.now i 0 in
    let count = moves_told x p.rules.now is.rules c.moves.result (c.moves.ensures x.symbols is.rules.rules) in
    let place : i ≡ p.above * moves x + k = c.entry_place-number.ensures ∙ ap (λ n. p.above * n + k) count in
    let low : i < length p.entries.now = subst (λ n. n < length p.entries.now) (sym place) (entry_low x p is c.requires.node k c.requires.state) in
    let set = get_or ms v no_matrix in
    put_same c.args.sets.now.out c.put_held.new.self.out (has set) (listed (entry x (entries_by ms p.entries.now) p.above k)) (entry_is x p is k i v set place low (get_or_default p.entries.now i 0 v low) refl) c.put_held.ensures.pairs

pub put_held-requires-clause-low : goal.put_held-requires-clause-low
put_held-requires-clause-low c =
    let (x, is) = c.requires.place in
    let p = c.args.place.now in
    let i = c.entry_place-number.result in
    let k = c.args.state in
    let count = moves_told x p.rules.now is.rules c.moves.result (c.moves.ensures x.symbols is.rules.rules) in
    let place : i ≡ p.above * moves x + k = c.entry_place-number.ensures ∙ ap (λ n. p.above * n + k) count in
    let low : i < length p.entries.now = subst (λ n. n < length p.entries.now) (sym place) (entry_low x p is c.requires.node k c.requires.state) in
    output_low x p is i 0 low

pub bounds-place-number : goal.bounds-place-number
bounds-place-number c =
    let (x, is) = c.requires.place in
    let p = c.args.place.now in
    let i = c.entry_place-number.result in
    let k = c.args.state in
    let count = moves_told x p.rules.now is.rules c.moves.result (c.moves.ensures x.symbols is.rules.rules) in
    let place : i ≡ p.above * moves x + k = c.entry_place-number.ensures ∙ ap (λ n. p.above * n + k) count in
    subst (λ n. n < length p.entries.now) (sym place) (entry_low x p is c.requires.node k c.requires.state)
