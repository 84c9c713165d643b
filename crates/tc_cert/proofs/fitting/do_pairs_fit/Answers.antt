use Rattle.std.proofs.Common.{◌≡◌, ◌<◌, length, subst, arith, ◌≤◌, ◌⊎◌, inl, inr, ℕ, List, Some, slice_get, refl, sym, get_or}
use Rattle.std.specs.List.{AllWithin}
use Rattle.std.proofs.lemmas.List.Elements.{All-from_all_within, AllWithin-more, AllWithin-none}
use Rattle.std.proofs.lemmas.Option.{get_or_from_slice_get}
use Rattle.tc_model.specs.CertificateFits.{PairsFit}
use Rattle.tc_cert.proofs.fitting.do_pairs_fit.Goals as goal

-- a pair at a place
fits_at : (states : ℕ) (ps : List (ℕ × ℕ)) (i : ℕ) (p : ℕ × ℕ) → slice_get ps i ≡ Some p → p.0 < states → p.1 < states → (d : ℕ × ℕ) → ((get_or ps i d).0 < states) × ((get_or ps i d).1 < states)
fits_at states ps i p e a b d = subst (λ q. (q.0 < states) × (q.1 < states)) (sym (get_or_from_slice_get ps i p d e)) (a, b)

unfit : (states : ℕ) (ps : List (ℕ × ℕ)) (i : ℕ) (p : ℕ × ℕ) → i < length ps → slice_get ps i ≡ Some p → (states ≤ p.0) ⊎ ((p.0 < states) × (states ≤ p.1)) → PairsFit states ps → ⊥
unfit states ps i p h e far fit = by far (subst (λ q. (q.0 < states) × (q.1 < states)) (get_or_from_slice_get ps i p p e) (fit i p h))
  where
    by : (states ≤ p.0) ⊎ ((p.0 < states) × (states ≤ p.1)) → (p.0 < states) × (p.1 < states) → ⊥
    by (inl a) b = absurd (omega (arith, a, b.0))
    by (inr a) b = absurd (omega (arith, a.1, b.1))

pub loop-place-init : goal.loop-place-init
loop-place-init c = AllWithin-none (λ p. (p.0 < c.args.states) × (p.1 < c.args.states)) c.args.pairs.now 0

pub returns-then-from-states : goal.returns-then-from-states
returns-then-from-states c =
    let within : c.loop-place.place < length c.args.pairs.now = omega (arith, c.loop-place-test.true, c.len-place-end.ensures) in
    (λ e. cc, λ fit. absurd (unfit c.args.states c.args.pairs.now c.loop-place.place c.get.result.now within c.get.ensures c.then-from-states.either fit))

pub loop-place-preserved : goal.loop-place-preserved
loop-place-preserved c = AllWithin-more (λ p. (p.0 < c.args.states) × (p.1 < c.args.states)) c.args.pairs.now 0 c.loop-place.place c.loop-place.invariant (fits_at c.args.states c.args.pairs.now c.loop-place.place c.get.result.now c.get.ensures c.if-from-states.false c.if-to-states.false)

pub returns : goal.returns
returns c =
    let all : c.loop-place.place ≡ length c.args.pairs.now = omega (arith, c.loop-place-test.false, c.len-place-end.ensures) in
    (λ _. All-from_all_within (λ p. (p.0 < c.args.states) × (p.1 < c.args.states)) c.args.pairs.now (subst (AllWithin (λ p. (p.0 < c.args.states) × (p.1 < c.args.states)) c.args.pairs.now 0) all c.loop-place.invariant), λ _. refl)
