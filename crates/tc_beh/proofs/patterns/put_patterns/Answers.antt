use Rattle.std.proofs.Common.{◌≡◌, ◌<◌, ◌≤◌, inl, inr, ◌+◌, ◌-◌, ap, ◌∙◌, sym, subst, get_or, length, Some, arith}
use Rattle.std.proofs.lemmas.Bool.{true≢false}
use Rattle.tc_auto.specs.Stands as a
use Rattle.tc_auto.specs.Stands.{patterns}
use Rattle.tc_auto.specs.declared.auto.Auto.{Auto}
use Rattle.tc_hedge.proofs.Bounds.{patterns_of}
use Rattle.tc_model.specs.Grammars.{element_at}
use Rattle.tc_beh.specs.declared.rooms.Room.{Room}
use Rattle.tc_beh.specs.Rooms.{flag_at}
use Rattle.tc_beh.specs.RoomsOf.{IsRoomBeside}
use Rattle.tc_beh.proofs.Surrounding.{PutsFirst, some_pattern, none_put, not_put, is_put, all_put, takers_at}
use Rattle.tc_beh.proofs.patterns.put_patterns.Goals.{then-is_taken, else-is_taken}
use Rattle.tc_beh.proofs.patterns.put_patterns.Goals as goal

pub loop-number-init : goal.loop-number-init
loop-number-init c =
    let new = c.clear_flags.new.self in
    record {
      beside = c.clear_flags.ensures.beside;
      others = c.clear_flags.ensures.others;
      put = none_put c.args.input.now c.args.sym.0 c.args.states.now c.as_slice-number-items.result.now new.numbers.items (λ i l. c.clear_flags.ensures.flags i (let same = c.requires.flags in omega (arith, l, same)));
    }

pub overflow_sub-number : goal.overflow_sub-number
overflow_sub-number c =
    let n = c.args.input.now in
    let takers = c.as_slice-number-items.result.now in
    let are = takers_at n c.args.takers.now c.requires.takers c.args.sym.0 c.requires.symbol c.index-takers-sym.result c.index-takers-sym.is takers c.as_slice-number-items.ensures.value in
    let (i, low, at) = are.low c.loop-number.number-index c.loop-number-test.true in
    omega (arith, at)

pub is_taken-requires : goal.is_taken-requires
is_taken-requires c =
    let n = c.args.input.now in
    let takers = c.as_slice-number-items.result.now in
    let are = takers_at n c.args.takers.now c.requires.takers c.args.sym.0 c.requires.symbol c.index-takers-sym.result c.index-takers-sym.is takers c.as_slice-number-items.ensures.value in
    let (i, low, at) = are.low c.loop-number.number-index c.loop-number-test.true in
    let same = ap patterns c.auto.ensures in
    omega (arith, low, at, same)

pub set_flag-requires : goal.set_flag-requires
set_flag-requires c =
    let n = c.args.input.now in
    let takers = c.as_slice-number-items.result.now in
    let are = takers_at n c.args.takers.now c.requires.takers c.args.sym.0 c.requires.symbol c.index-takers-sym.result c.index-takers-sym.is takers c.as_slice-number-items.ensures.value in
    let (i, low, at) = are.low c.loop-number.number-index c.loop-number-test.true in
    let flags = c.loop-number.invariant.beside.flags in
    omega (arith, low, at, flags, c.requires.flags)

pub loop-number-preserved : goal.loop-number-preserved
loop-number-preserved c =
    let n = c.args.input.now in
    let symbol = c.args.sym.0 in
    let states = c.args.states.now in
    let takers = c.as_slice-number-items.result.now in
    let old = c.args.out.now in
    let mid = c.loop-number.out in
    let k = c.loop-number.number-index in
    let so_far = c.loop-number.invariant in
    let are = takers_at n c.args.takers.now c.requires.takers symbol c.requires.symbol c.index-takers-sym.result c.index-takers-sym.is takers c.as_slice-number-items.ensures.value in
    let inside : k < length takers = c.loop-number-test.true in
    let (i, low, at) = are.low k inside in
    let less : get_or takers k 0 - 1 ≡ i = omega (arith, at) in
    elim c.if-is_taken.branch [
      | then-is_taken w ↦
          let new = w.set_flag.new.self in
          let same = w.set_flag.ensures.beside in
          let within : i < old.flags = let f = c.requires.flags in omega (arith, low, f) in
          let beside : IsRoomBeside old new = record { flags = same.flags ∙ so_far.beside.flags; entries = same.entries ∙ so_far.beside.entries; count = same.count ∙ so_far.beside.count } in
          record {
            beside = subst (λ (r : Room). IsRoomBeside old r) (sym w.out-is) beside;
            others = λ j h. ap (λ (r : Room). get_or r.numbers.items j 0) w.out-is
                ∙ (w.set_flag.ensures.others j (λ e. elim h [ inl b ↦ absurd (omega (arith, b, e)) | inr b ↦ absurd (omega (arith, b, e, within, less)) ]) ∙ so_far.others j h);
            put = subst (λ (r : Room). PutsFirst n symbol states takers (k + 1) r.numbers.items) (sym w.out-is)
                (is_put n symbol states takers k mid.numbers.items new.numbers.items (λ side x symbols st name same_name. (
                  λ h.
                      let auto = subst (λ (b : Auto). a.Stands side x b) (sym c.auto.ensures) st.auto in
                      let high = patterns_of side x n.auto st.auto in
                      let (e, el) = some_pattern x.elements (i + 1) (omega arith) (omega (arith, low, high)) in
                      let here : element_at x.elements (get_or takers k 0) ≡ Some e = subst (λ j. element_at x.elements j ≡ Some e) (sym at) el in
                      (e, here, (are.exact side x symbols st name same_name i e low el).0 (k, inside, at), (c.is_taken.ensures side x auto e here).0 w.if-is_taken.true),
                  λ h. tt,
                )) i at (subst (λ j. flag_at new.numbers.items j ≡ 1) less w.set_flag.ensures.flag) (λ j h. w.set_flag.ensures.others j (λ e. h (omega (arith, e, less)))) so_far.put);
          }
      | else-is_taken w ↦ record {
        beside = subst (λ (r : Room). IsRoomBeside old r) (sym w.out-is) so_far.beside;
        others = λ j h. ap (λ (r : Room). get_or r.numbers.items j 0) w.out-is ∙ so_far.others j h;
        put = subst (λ (r : Room). PutsFirst n symbol states takers (k + 1) r.numbers.items) (sym w.out-is)
            (not_put n symbol states takers k mid.numbers.items (λ side x symbols st name same_name. (
              λ h. absurd h,
              λ (e, el, class, taken).
                  let auto = subst (λ (b : Auto). a.Stands side x b) (sym c.auto.ensures) st.auto in
                  true≢false (sym ((c.is_taken.ensures side x auto e el).1 taken) ∙ w.if-is_taken.false),
            )) so_far.put);
      }
    ]

pub returns-clause-flags : goal.returns-clause-flags
returns-clause-flags c =
    let n = c.args.input.now in
    let takers = c.as_slice-number-items.result.now in
    let ends = c.loop-number-test.false in
    let high = c.loop-number.auto.number-index-end in
    let are = takers_at n c.args.takers.now c.requires.takers c.args.sym.0 c.requires.symbol c.index-takers-sym.result c.index-takers-sym.is takers c.as_slice-number-items.ensures.value in
    all_put n c.args.sym.0 c.args.states.now takers c.loop-number.number-index c.loop-number.out.numbers.items (omega (arith, ends, high)) are c.loop-number.invariant.put
