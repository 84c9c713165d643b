use Rattle.std.proofs.Common.{◌≡◌, ◌<◌, inl, inr, [], length, get_or, refl, sym, subst, arith}
use Rattle.std.proofs.lemmas.Bool.{cases_lt}
use Rattle.std.proofs.lemmas.Option.{get_or_from_slice_get}
use Rattle.tc_close.specs.Appends.{IsEven}
use Rattle.tc_close.proofs.appends.Appends.evens.Goals as goal

pub loop-next-preserved : goal.loop-next-preserved
loop-next-preserved c =
    let a = c.args.self.now in
    let rows = c.args.rows.now in
    let next = c.loop-next.next in
    let count = c.loop-next.invariant.count in
    let row : get_or rows next [] ≡ c.get.result.now = get_or_from_slice_get rows next c.get.result.now [] c.get.ensures in
    let low : next < length rows = let p = c.requires.place in let t = c.loop-next-test.true in omega (arith, p, t) in
    record {
      count = refl;
      even = λ u l. elim (cases_lt u next) [
        | inl before ↦ c.loop-next.invariant.even u (omega (arith, before, count))
        | inr past ↦ let here : next ≡ u = omega (arith, past, l) in
            subst (λ v. (v < length rows) × IsEven a.shape.entries a.classes c.args.flags (get_or rows v [])) here (low, subst (IsEven a.shape.entries a.classes c.args.flags) (sym row) c.in-None.ensures)
      ];
    }
