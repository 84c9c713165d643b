use Rattle.std.proofs.Common.{inl, inr, ◌∙◌, arith}
use Rattle.tc_beh.proofs.Lining.{one_place, all_places, no_place, place_fits}
use Rattle.tc_beh.proofs.lines.put_places.Goals as goal

pub loop-index-init : goal.loop-index-init
loop-index-init c = record {
  beside = c.clear_flags.ensures.beside;
  others = c.clear_flags.ensures.others;
  put = no_place c.args.places.now c.args.first c.args.out.now.flags c.clear_flags.new.self.numbers.items c.clear_flags.ensures.flags;
}

pub loop-index-preserved : goal.loop-index-preserved
loop-index-preserved c =
    let p = c.get.result.now in
    let (from, to) = place_fits c.args.places.now c.args.first c.args.out.now.flags c.loop-index.index p c.requires c.get.ensures in
    let so_far = c.loop-index.invariant in
    let put = c.set_flag.ensures in
    record {
      beside = record { flags = put.beside.flags ∙ so_far.beside.flags; entries = put.beside.entries ∙ so_far.beside.entries; count = put.beside.count ∙ so_far.beside.count };
      others = λ k h. put.others k (λ e. elim h [ inl a ↦ absurd (omega (arith, a, e)) | inr a ↦ absurd (omega (arith, a, e, from, to)) ]) ∙ so_far.others k h;
      put = one_place c.args.places.now c.args.first c.args.out.now.flags c.loop-index.index p c.loop-index.out.numbers.items c.set_flag.new.self.numbers.items c.get.ensures from put.flag put.others so_far.put;
    }

pub returns-clause-flags : goal.returns-clause-flags
returns-clause-flags c =
    let end = c.loop-index-test.false in
    let count = c.len-index-end.ensures in
    all_places c.args.places.now c.args.first c.args.out.now.flags c.loop-index.index c.loop-index.out.numbers.items (omega (arith, end, count)) c.loop-index.invariant.put

pub overflow_sub-place : goal.overflow_sub-place
overflow_sub-place c = (place_fits c.args.places.now c.args.first c.args.out.now.flags c.loop-index.index c.get.result.now c.requires c.get.ensures).0

pub set_flag-requires : goal.set_flag-requires
set_flag-requires c =
    let (from, to) = place_fits c.args.places.now c.args.first c.args.out.now.flags c.loop-index.index c.get.result.now c.requires c.get.ensures in
    let same = c.loop-index.invariant.beside.flags in
    omega (arith, from, to, same)
