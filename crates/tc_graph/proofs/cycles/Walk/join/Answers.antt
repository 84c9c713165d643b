use Rattle.std.proofs.Common.{◌≡◌, ◌∙◌, ◌-◌, [], ◌∷◌, List, ap, append-nil, arith, inl, refl, sym, length, slice_get, take}
use Rattle.tc_graph.specs.Walks.{Stacks}
use Rattle.tc_graph.specs.declared.cycles.Start.{Start}
use Rattle.tc_graph.proofs.Tops.{left_last, nothing_last, one_gone}
use Rattle.tc_graph.proofs.cycles.Walk.join.Goals as goal

pub loop-start-preserved : goal.loop-start-preserved
loop-start-preserved c =
    let now = c.loop-start.self.starts.items in
    let last = ap (λ (z : List Start). slice_get z (length z - 1)) (sym c.deref.ensures.value) ∙ (sym c.last.ensures.value ∙ (sym c.copied.ensures ∙ c.in-Some.is)) in
    let old = c.loop-start.invariant in
    let rest : c.pop.new.self.items ≡ take (length now - 1) now = c.pop.ensures.rest ∙ ap (λ n. take (n - 1) now) c.loop-start.self.starts.ok.0 in
    let more = one_gone c.args.place c.args.self.now.starts.items now c.pop.new.self.items old.0 c.in-Some.start old.1 old.2 last rest c.if-start-place.false in
    (c.in-Some.start ∷ old.0, more.0, more.1, ap (λ (z : Stacks). record z { starts = c.pop.new.self.items }) old.3)

pub loop-start-init : goal.loop-start-init
loop-start-init c = ([], sym (append-nil c.args.self.now.starts.items), λ k d h. absurd (omega (arith, h)), refl)

pub returns-then-start-place-clause-joined : goal.returns-then-start-place-clause-joined
returns-then-start-place-clause-joined c = c.loop-start.invariant.3

pub returns-clause-joined : goal.returns-clause-joined
returns-clause-joined c = c.loop-start.invariant.3

pub returns-then-start-place-clause-started : goal.returns-then-start-place-clause-started
returns-then-start-place-clause-started c =
    let last = ap (λ (z : List Start). slice_get z (length z - 1)) (sym c.deref.ensures.value) ∙ (sym c.last.ensures.value ∙ (sym c.copied.ensures ∙ c.in-Some.is)) in
    let old = c.loop-start.invariant in
    record { gone = old.0; parts = old.1; after = old.2; last = left_last c.args.place c.loop-start.self.starts.items c.in-Some.start last c.if-start-place.true }

pub returns-clause-started : goal.returns-clause-started
returns-clause-started c =
    let last = ap (λ (z : List Start). slice_get z (length z - 1)) (sym c.deref.ensures.value) ∙ (sym c.last.ensures.value ∙ (sym c.copied.ensures ∙ c.in_default.is)) in
    let old = c.loop-start.invariant in
    record { gone = old.0; parts = old.1; after = old.2; last = inl (nothing_last c.loop-start.self.starts.items last) }
