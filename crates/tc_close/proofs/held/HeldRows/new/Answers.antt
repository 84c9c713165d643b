use Rattle.std.proofs.Common.{◌≡◌, [], length, sym, subst, ap, arith, rules}
use Rattle.tc_rows.specs.Triples.{Triple}
use Rattle.tc_beh.specs.Machines.{IsMachineOf, IsShapeOf}
use Rattle.tc_close.specs.HeldRows.{AreKnown}
use Rattle.tc_close.proofs.AppendLaws.{nothing_told}
use Rattle.tc_close.proofs.KindLaws.{nothing_true}
use Rattle.tc_close.proofs.held.HeldRows.new.Goals as goal

pub new-requires : goal.new-requires
new-requires g c = let (x, o) = c.requires.some in (x, c.requires.machine x o)

pub new-requires-4 : goal.new-requires-4
new-requires-4 g c = let (x, o) = c.requires.some in (x, c.requires.machine x o)

pub shape-shape-requires : goal.shape-shape-requires
shape-shape-requires g c = let (x, o) = c.requires.some in (x, c.requires.machine x o)

pub invariant_of-result : goal.invariant_of-result
invariant_of-result g c =
    let back = λ (x : Triple) (is : IsMachineOf x c.in_ok-rows.rows.machine.now). subst (IsMachineOf x) c.in_ok-rows.ensures.machine is in
    let shape = λ (x : Triple) (o : g.K.Over.is_of x). c.shape-shape.ensures x (c.requires.machine x o) in
    let (a, o) = c.requires.some in (
      record {
        some = c.requires.some;
        over = λ x o. subst (IsMachineOf x) (sym c.in_ok-rows.ensures.machine) (c.requires.machine x o);
        stand = λ x is. c.in_ok-rows.ensures.stands x (back x is);
        free = c.in_ok-rows.ensures.grow;
        good = λ x is. record {
          hedges = λ u l. let e : length c.new-5.result ≡ 0 = ap length c.new-5.ensures in absurd (omega (arith, e, l));
          trees = λ u l. let e : length c.new-6.result ≡ 0 = ap length c.new-6.ensures in absurd (omega (arith, e, l));
          stood = λ w k l. let e : length c.in_ok-rows.rows.outputs.matrices ≡ 0 = ap length c.in_ok-rows.ensures.none in absurd (omega (arith, e, l));
        };
        rooms = λ x is. c.in_ok-rooms.ensures x (back x is);
      },
      subst (λ l. AreKnown g.K.Over.is_of c.in_ok-rows.rows.outputs l c.new-6.result c.in_ok-kinds.kinds c.in_ok-appends.appends) (sym c.new-5.ensures)
          (subst (λ l. AreKnown g.K.Over.is_of c.in_ok-rows.rows.outputs [] l c.in_ok-kinds.kinds c.in_ok-appends.appends) (sym c.new-6.ensures)
          (record {
            kinds = nothing_true g.K.Over.is_of c.shape-shape.result c.in_ok-kinds.kinds c.in_ok-kinds.ensures (search rules) (search rules) (search rules) shape;
            appends = nothing_told g.K.Over.is_of c.in_ok-rows.rows.outputs c.in_ok-appends.appends c.in_ok-appends.ensures.kept (λ x o. subst (IsShapeOf x) (sym c.in_ok-appends.ensures.shape) (shape x o));
          })),
    )
