use Rattle.std.proofs.Common.{ℕ, refl, arith}
use Rattle.std.specs.Int.{trailing_zeros, w64}
use Rattle.std.proofs.lemmas.Nat.Bits.{bit_at_clear_same, bit_at_clear_other}
use Rattle.tc_mat.proofs.Rows.{told_none, told_more, told_all, lowest, without, without_bits, without_less}
use Rattle.tc_mat.proofs.products.add_rows.Goals as goal

pub add_row-requires-clause-from : goal.add_row-requires-clause-from
add_row-requires-clause-from c =
    let rest : ℕ = c.loop-rest.rest in
    let low = lowest rest (trailing_zeros w64 rest) c.loop-rest-test.true (omega (arith, c.ranges.told.fits, c.loop-rest.invariant.2)) refl in
    (c.requires.told (trailing_zeros w64 rest) (c.loop-rest.invariant.0 (trailing_zeros w64 rest) low.1)).1

pub loop-rest-init : goal.loop-rest-init
loop-rest-init c = (λ t e. e, told_none c.args.n c.args.b.now c.args.out.now c.args.row c.args.by c.args.told, omega arith)

pub loop-rest-preserved : goal.loop-rest-preserved
loop-rest-preserved c =
    let rest : ℕ = c.loop-rest.rest in
    let place : ℕ = trailing_zeros w64 rest in
    let low = lowest rest (trailing_zeros w64 rest) c.loop-rest-test.true (omega (arith, c.ranges.told.fits, c.loop-rest.invariant.2)) refl in
    let inv = c.loop-rest.invariant in (
      λ t e. inv.0 t (without_bits rest (trailing_zeros w64 rest) t e),
      told_more c.args.n c.args.b.now c.args.out.now c.args.row c.args.by c.args.told rest (without rest (trailing_zeros w64 rest)) (trailing_zeros w64 rest) c.loop-rest.out c.add_row.new.out
          c.requires.told inv.1 low.1 (inv.0 (trailing_zeros w64 rest) low.1) (bit_at_clear_same w64 rest (trailing_zeros w64 rest) low.0) (bit_at_clear_other w64 rest (trailing_zeros w64 rest) low.0) c.add_row.ensures,
      omega (arith, inv.2, without_less rest (trailing_zeros w64 rest) low.0 low.1),
    )

pub loop-rest-smaller : goal.loop-rest-smaller
loop-rest-smaller c =
    let rest : ℕ = c.loop-rest.rest in
    let low = lowest rest (trailing_zeros w64 rest) c.loop-rest-test.true (omega (arith, c.ranges.told.fits, c.loop-rest.invariant.2)) refl in
    without_less rest (trailing_zeros w64 rest) low.0 low.1

pub returns : goal.returns
returns c = told_all c.args.n c.args.b.now c.args.out.now c.args.row c.args.by c.args.told c.loop-rest.rest c.loop-rest.out c.loop-rest-test.false c.loop-rest.invariant.1
