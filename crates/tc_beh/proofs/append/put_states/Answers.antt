use Rattle.std.proofs.Common.{◌≡◌, ◌∙◌, ap, subst, sym, arith}
use Rattle.tc_model.specs.States as s
use Rattle.tc_auto.specs.Arrows.{AreWithin}
use Rattle.tc_auto.specs.Stands.{states}
use Rattle.tc_mat.specs.Matrix.{words_a_row}
use Rattle.tc_beh.specs.Appending.{Puts}
use Rattle.tc_beh.specs.Bundles.{AreBundled, AreEdges, AreLow}
use Rattle.tc_beh.proofs.Bundling.{steps_worded}
use Rattle.tc_beh.proofs.Flagging.{text_put}
use Rattle.tc_beh.proofs.append.put_states.Goals as goal

pub put_edges-requires-clause-within : goal.put_edges-requires-clause-within
put_edges-requires-clause-within c =
    subst (λ n. AreWithin n c.text_arrows.result.now) (sym (c.clear_flags.ensures.beside.flags ∙ c.requires.flags)) c.text_arrows.ensures.within

pub put_edges-requires-clause-low : goal.put_edges-requires-clause-low
put_edges-requires-clause-low c =
    subst (λ m. AreLow m c.as_slice.result.now) (sym (c.clear_flags.ensures.beside.flags ∙ c.requires.flags)) (subst (AreLow (states c.args.auto.now)) (sym c.as_slice.ensures.value) c.requires.steps.text.low)

pub put_edges-requires-clause-words : goal.put_edges-requires-clause-words
put_edges-requires-clause-words c =
    let e = ap words_a_row (c.clear_flags.ensures.beside.flags ∙ c.requires.flags) in
    omega (arith, e, c.requires.steps.words)

pub returns-then-is_text-clause-steps : goal.returns-then-is_text-clause-steps
returns-then-is_text-clause-steps c = steps_worded c.args.auto.now c.args.bundles.now c.requires.steps c.put_edges.new.words c.put_edges.ensures.count c.put_edges.ensures.current

pub returns-then-is_text-clause-flags : goal.returns-then-is_text-clause-flags
returns-then-is_text-clause-flags c =
    let a = c.args.auto.now in
    let hedge = c.args.hedge.now in
    let bundled = subst (AreBundled a s.text_leaf) (sym c.as_slice.ensures.value) c.requires.steps.text in
    let edges : AreEdges a s.text_leaf c.text_arrows.result.now c.as_slice.result.now = record { within = c.text_arrows.ensures.within; exact = c.text_arrows.ensures.exact; bundled = bundled } in
    subst (λ b. Puts a hedge b c.args.patterns.now c.put_edges.new.out.numbers.items) (sym c.if-is_text.true)
    (text_put a hedge c.args.patterns.now c.clear_flags.new.self.numbers.items c.put_edges.new.out.numbers.items (λ j low. c.clear_flags.ensures.flags j (let e = c.requires.flags in omega (arith, low, e)))
    (c.put_edges.ensures.flags a s.text_leaf (c.clear_flags.ensures.beside.flags ∙ c.requires.flags) edges))
