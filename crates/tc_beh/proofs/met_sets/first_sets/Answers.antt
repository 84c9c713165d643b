use Rattle.std.proofs.Common.{◌≡◌, ◌<◌, ◌∙◌, ◌⊎◌, ◌++◌, ◌∷◌, [], inl, inr, ℕ, Some, length, slice_get, subst, sym, ap, arith}
use Rattle.std.proofs.lemmas.Option.{get_or_from_slice_get}
use Rattle.tc_mat.specs.Matrix.{Matrix, IsIdentity}
use Rattle.tc_mat.specs.Held.{Held}
use Rattle.tc_beh.specs.Held.{set_at}
use Rattle.tc_beh.specs.Places.{no_matrix}
use Rattle.tc_beh.proofs.Holding.{extends_at, extends_count, low_got}
use Rattle.tc_beh.proofs.met_sets.first_sets.Goals as goal

-- what is kept first has the first number
first_kept : (old new : Held) (m : Matrix) (k : ℕ) → old.matrices ≡ [] → slice_get new.matrices k ≡ Some m → (new ≡ old) ⊎ ((k ≡ length old.matrices) × (new ≡ record old { matrices = old.matrices ++ m ∷ [] }))
    → (0 < length new.matrices) × (set_at new 0 ≡ m)
first_kept old new m k none got (inl e) =
    let low = low_got new.matrices k m got in
    let same = ap (λ (h : Held). length h.matrices) e in
    let empty : length old.matrices ≡ 0 = ap length none in
    absurd (omega (arith, low, same, empty))
first_kept old new m k none got (inr h) =
    let low = low_got new.matrices k m got in
    let at = h.0 in
    let empty : length old.matrices ≡ 0 = ap length none in
    let here : k ≡ 0 = omega (arith, at, empty) in
    (omega (arith, low), subst (λ n. set_at new n ≡ m) here (get_or_from_slice_get new.matrices k m no_matrix got))

pub returns-clause-nothing : goal.returns-clause-nothing
returns-clause-nothing c =
    let mid = c.number_of.new.self in
    let new = c.number_of-2.new.self in
    let none = ap (λ (h : Held). h.matrices) c.in_ok-sets.ensures in
    let (some, first) = first_kept c.in_ok-sets.sets mid c.in_ok-nothing.nothing c.in-Some._nothing none c.in-Some.ensures.number c.in-Some.ensures.grows in
    let more = c.number_of-2.ensures.held in
    let count = extends_count mid new more in
    let same : set_at new 0 ≡ c.in_ok-nothing.nothing = extends_at mid new more 0 some ∙ first in
    (omega (arith, some, count), subst IsIdentity (sym same) c.in_ok-nothing.ensures.pairs)

pub returns-clause-text : goal.returns-clause-text
returns-clause-text c =
    let new = c.number_of-2.new.self in
    let k = c.in-Some-number_of.number in
    let got = c.in-Some-number_of.ensures.number in
    (low_got new.matrices k c.args.text.now got, get_or_from_slice_get new.matrices k c.args.text.now no_matrix got)

pub returns-clause-size : goal.returns-clause-size
returns-clause-size c =
    c.number_of-2.ensures.held.size ∙ (c.number_of.ensures.held.size ∙ (ap (λ (h : Held). h.size) c.in_ok-sets.ensures ∙ c.size.ensures.size))
