use Rattle.std.proofs.Common.{ap, arith, ◌≡◌, ◌<◌, ◌++◌, ◌∷◌, [], ◌∙◌, length, length-append}
use Rattle.std.specs.Prelude.{vec_len, vec_capacity}
use Rattle.std.proofs.lemmas.Bool.{cond-true}
use Rattle.tc_model.specs.Views as see
use Rattle.tc_stream.proofs.elements.Elements.step_named.Goals as goal

pub unprefixed-name-requires : goal.unprefixed-name-requires
unprefixed-name-requires c = c.requires.chained

pub start-requires : goal.start-requires
start-requires c = let s = c.args.self.now in omega (arith, s.depth, s.all_levels, c.requires.room)

pub returns-clause-into : goal.returns-clause-into
returns-clause-into c = record { expanded = see.name c.unprefixed-name.result; named = c.unprefixed-name.ensures; steps = λ x path run w. c.start.ensures.within x path run w }

pub invariant_of-self : goal.invariant_of-self
invariant_of-self c =
    let s = c.args.self.now in
    let less : vec_len s.levels < vec_capacity s.levels = omega (arith, c.requires.room, s.room, s.levels.ok.0) in
    let items : c.push.new.self.items ≡ s.levels.items ++ c.args.level ∷ [] = c.push.ensures.items ∙ cond-true _ _ _ (c.push.ensures.succeeds less) in
    record {
      most = s.most;
      room = omega (arith, c.push.ensures.capacity, s.room);
      all_levels = c.start.ensures.room ∙ s.all_levels;
      depth = omega (arith, c.start.ensures.depth, s.depth, ap length items, length-append s.levels.items (c.args.level ∷ []));
    }

pub returns-clause-levels : goal.returns-clause-levels
returns-clause-levels c =
    let s = c.args.self.now in
    let less : vec_len s.levels < vec_capacity s.levels = omega (arith, c.requires.room, s.room, s.levels.ok.0) in
    c.push.ensures.items ∙ cond-true _ _ _ (c.push.ensures.succeeds less)
