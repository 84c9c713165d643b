use Rattle.std.proofs.Common.{ap, sym, arith, ◌≡◌, ◌<◌, ◌++◌, ◌∷◌, [], ◌∙◌, length, length-append}
use Rattle.std.specs.Prelude.{vec_len, vec_capacity}
use Rattle.std.proofs.lemmas.Bool.{cond-true}
use Rattle.tc_model.specs.Views as see
use Rattle.tc_tags.specs.declared.names.Room.{Room}
use Rattle.tc_tags.specs.declared.scopes.Scopes.{Scopes}
use Rattle.tc_stream.proofs.EnterLaws.{meant_same, named_same, unnamed_same, chained_same}
use Rattle.tc_stream.proofs.elements.Elements.step_into.Goals as goal

pub returns-then-not-are_meant-clause-into : goal.returns-then-not-are_meant-clause-into
returns-then-not-are_meant-clause-into c = λ m.
    let r = c.args.self.now.rooms in
    absurd (c.if-not-are_meant.ensures.meant (meant_same r.names.bytes.items r.scopes.declared.items r.attributes.list.items c.args.level.declared (sym c.as_bytes-bytes.ensures.value) m))

pub expanded-requires : goal.expanded-requires
expanded-requires c =
    chained_same (ap (λ (r : Room). r.bytes.items) c.are_meant.ensures.names) (ap (λ (s : Scopes). s.declared.items) c.are_meant.ensures.scopes) (ap (λ (s : Scopes). s.chains.chains) c.are_meant.ensures.scopes) c.requires.chained

pub returns-in_default-clause-into : goal.returns-in_default-clause-into
returns-in_default-clause-into c = λ m.
    unnamed_same c.args.name.now c.as_bytes-bytes.ensures.value (ap (λ (r : Room). r.bytes.items) c.are_meant.ensures.names) (ap (λ (s : Scopes). s.declared.items) c.are_meant.ensures.scopes) c.in_default.ensures

pub start-requires : goal.start-requires
start-requires c = let s = c.args.self.now in omega (arith, s.depth, s.all_levels, c.requires.room)

pub returns-clause-into : goal.returns-clause-into
returns-clause-into c =
    let r = c.args.self.now.rooms in
    let n = see.name c.in-Some.expanded in
    record {
      meant = meant_same r.names.bytes.items r.scopes.declared.items r.attributes.list.items c.args.level.declared c.as_bytes-bytes.ensures.value c.if-not-are_meant.ensures.meant;
      expanded = n;
      named = named_same c.args.name.now n c.as_bytes-bytes.ensures.value (ap (λ (r : Room). r.bytes.items) c.are_meant.ensures.names) (ap (λ (s : Scopes). s.declared.items) c.are_meant.ensures.scopes) c.in-Some.ensures;
      steps = λ x path run w. c.start.ensures.within x path run w;
    }

pub are_meant-requires : goal.are_meant-requires
are_meant-requires c = c.requires.chained

pub invariant_of-self : goal.invariant_of-self
invariant_of-self c = record { most = ap (λ (r : Room). r.most) c.are_meant.ensures.names ∙ c.args.self.now.most; room = c.args.self.now.room; all_levels = c.args.self.now.all_levels; depth = c.args.self.now.depth }

pub invariant_of-self-in_default : goal.invariant_of-self-in_default
invariant_of-self-in_default c = record { most = ap (λ (r : Room). r.most) c.are_meant.ensures.names ∙ c.args.self.now.most; room = c.args.self.now.room; all_levels = c.args.self.now.all_levels; depth = c.args.self.now.depth }

pub returns-then-not-are_meant-clause-names : goal.returns-then-not-are_meant-clause-names
returns-then-not-are_meant-clause-names c = c.are_meant.ensures.names

pub returns-then-not-are_meant-clause-scopes : goal.returns-then-not-are_meant-clause-scopes
returns-then-not-are_meant-clause-scopes c = c.are_meant.ensures.scopes

pub returns-then-not-are_meant-clause-levels : goal.returns-then-not-are_meant-clause-levels
returns-then-not-are_meant-clause-levels c = tt

pub returns-in_default-clause-names : goal.returns-in_default-clause-names
returns-in_default-clause-names c = c.are_meant.ensures.names

pub returns-in_default-clause-scopes : goal.returns-in_default-clause-scopes
returns-in_default-clause-scopes c = c.are_meant.ensures.scopes

pub returns-in_default-clause-levels : goal.returns-in_default-clause-levels
returns-in_default-clause-levels c = tt

pub invariant_of-self-2 : goal.invariant_of-self-2
invariant_of-self-2 c =
    let s = c.args.self.now in
    let less : vec_len s.levels < vec_capacity s.levels = omega (arith, c.requires.room, s.room, s.levels.ok.0) in
    let items : c.push.new.self.items ≡ s.levels.items ++ c.args.level ∷ [] = c.push.ensures.items ∙ cond-true _ _ _ (c.push.ensures.succeeds less) in
    record {
      most = ap (λ (r : Room). r.most) c.are_meant.ensures.names ∙ c.args.self.now.most;
      room = omega (arith, c.push.ensures.capacity, s.room);
      all_levels = c.start.ensures.room ∙ s.all_levels;
      depth = omega (arith, c.start.ensures.depth, s.depth, ap length items, length-append s.levels.items (c.args.level ∷ []));
    }

pub returns-clause-names : goal.returns-clause-names
returns-clause-names c = c.are_meant.ensures.names

pub returns-clause-scopes : goal.returns-clause-scopes
returns-clause-scopes c = c.are_meant.ensures.scopes

pub returns-clause-levels : goal.returns-clause-levels
returns-clause-levels c =
    let s = c.args.self.now in
    let less : vec_len s.levels < vec_capacity s.levels = omega (arith, c.requires.room, s.room, s.levels.ok.0) in
    c.push.ensures.items ∙ cond-true _ _ _ (c.push.ensures.succeeds less)
