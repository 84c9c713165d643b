use Rattle.std.proofs.Common.{◌<◌, arith, length, refl, ◌∙◌}
use Rattle.std.proofs.lemmas.List.{length-set}
use Rattle.std.proofs.lemmas.Option.{slice_get_read}
use Rattle.tc_model.specs.Views as see
use Rattle.tc_steps.proofs.ClassLaws.{set_known, set_sized, stays_known, met_classes}
use Rattle.tc_steps.proofs.table.Steps.learn.Goals as goal

pub meet-requires : goal.meet-requires
meet-requires c =
    let low : c.sym_of-symbol.result.0 < length c.args.self.now.classes.items = omega (arith, c.sym_of-symbol.ensures.below, c.args.self.now.counted) in
    let at = slice_get_read c.args.self.now.classes.items _ c.sym_of-symbol.result.0 c.index_mut.result.now refl low c.index_mut.ensures.value in
    c.args.self.now.sized c.sym_of-symbol.result.0 c.index_mut.result.now at

pub returns-clause-known : goal.returns-clause-known
returns-clause-known c =
    let low : c.sym_of-symbol.result.0 < length c.args.self.now.classes.items = omega (arith, c.sym_of-symbol.ensures.below, c.args.self.now.counted) in
    set_known c.args.self.now.classes.items c.sym_of-symbol.result.0 c.meet.new.self low c.meet.ensures.learns.known

pub returns-clause-stays : goal.returns-clause-stays
returns-clause-stays c =
    let low : c.sym_of-symbol.result.0 < length c.args.self.now.classes.items = omega (arith, c.sym_of-symbol.ensures.below, c.args.self.now.counted) in
    stays_known c.args.self.now.classes.items c.sym_of-symbol.result.0 c.meet.new.self low c.meet.ensures.learns.known

pub returns-clause-right : goal.returns-clause-right
returns-clause-right c = λ x f.
    let low : c.sym_of-symbol.result.0 < length c.args.self.now.classes.items = omega (arith, c.sym_of-symbol.ensures.below, c.args.self.now.counted) in
    let at = slice_get_read c.args.self.now.classes.items _ c.sym_of-symbol.result.0 c.index_mut.result.now refl low c.index_mut.ensures.value in
    record {
      stands = f.stands;
      other = f.other;
      sheet = f.sheet;
      symbols_are = f.symbols_are;
      classes_are = met_classes x f.other f.sheet c.args.self.now.alphabet.now (see.name c.args.name.now) c.args.self.now.classes.items c.sym_of-symbol.result.0 c.index_mut.result.now c.meet.new.self at c.meet.ensures.learns.known c.meet.ensures.learns.stays
          (λ u. (c.meet.ensures.right u x f.stands).allowed) (λ u. (c.meet.ensures.right u x f.stands).led) f.classes_are (λ m e. c.sym_of-symbol.ensures.alike x f.other f.sheet f.symbols_are m e);
    }

pub index_mut-requires : goal.index_mut-requires
index_mut-requires c = omega (arith, c.sym_of-symbol.ensures.below, c.args.self.now.counted)

pub returns-clause-symbol : goal.returns-clause-symbol
returns-clause-symbol c = c.sym_of-symbol.ensures.symbol

pub returns-clause-below : goal.returns-clause-below
returns-clause-below c = c.sym_of-symbol.ensures.below

pub invariant_of-self : goal.invariant_of-self
invariant_of-self c =
    let low : c.sym_of-symbol.result.0 < length c.args.self.now.classes.items = omega (arith, c.sym_of-symbol.ensures.below, c.args.self.now.counted) in
    record {
      sized = set_sized c.args.self.now.classes.items c.sym_of-symbol.result.0 c.meet.new.self low c.meet.ensures.learns.known _ c.args.self.now.sized c.meet.ensures.sized;
      counted = length-set _ _ _ ∙ c.args.self.now.counted;
      next_sized = c.args.self.now.next_sized;
      remembered = c.remember.ensures c.args.self.now.alphabet.now c.args.self.now.remembered c.sym_of-symbol.ensures.symbol;
    }
