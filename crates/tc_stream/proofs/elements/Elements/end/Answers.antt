use Rattle.std.proofs.Common.{◌∷◌, ◌∙◌, [], ap, arith, length, append-nil, length-append}
use Rattle.tc_model.specs.Trees.{none, beside, kept}
use Rattle.tc_stream.specs.Keeps.{path_of}
use Rattle.tc_stream.proofs.KeepsLaws.{not_none_open, left_kept, left_ready, stays_ready, kept_element}
use Rattle.tc_stream.proofs.PathLaws.{steps_element}
use Rattle.tc_stream.proofs.elements.Elements.end.Goals as goal

pub returns-in_default-clause-keeps : goal.returns-in_default-clause-keeps
returns-in_default-clause-keeps c = λ l ls scope run k. absurd (not_none_open k (omega (arith, c.in_default.ensures.cases.0, c.args.self.now.levels.ok.0)))

pub returns-in_default-clause-ready : goal.returns-in_default-clause-ready
returns-in_default-clause-ready c = λ r.
    let s = c.args.self.now in
    stays_ready s.rooms.names.bytes.items s.rooms.scopes.declared.items s.rooms.scopes.chains.chains s.levels.items c.pop.new.self.items (c.in_default.ensures.items ∙ append-nil c.pop.new.self.items) r

pub returns-in_default-clause-steps : goal.returns-in_default-clause-steps
returns-in_default-clause-steps c = λ x l ls run w many. absurd (omega (arith, many, c.in_default.ensures.cases.0, c.args.self.now.levels.ok.0))

pub returns-in_default-clause-valid : goal.returns-in_default-clause-valid
returns-in_default-clause-valid c = λ x l run w one. absurd (omega (arith, one, c.in_default.ensures.cases.0, c.args.self.now.levels.ok.0))

pub end-requires : goal.end-requires
end-requires c = omega (arith, c.args.self.now.depth, ap length c.in-Some.ensures.items, length-append c.pop.new.self.items (c.in-Some.level ∷ []))

pub returns-clause-keeps : goal.returns-clause-keeps
returns-clause-keeps c = λ l ls scope run k.
    kept_element l.name (beside l.kids (kept run none)) (left_kept c.pop.new.self.items c.in-Some.level c.in-Some.ensures.items c.keep.ensures.bytes c.keep-2.ensures.declared c.keep-2.ensures.chains k)

pub returns-clause-ready : goal.returns-clause-ready
returns-clause-ready c = λ r.
    let s = c.args.self.now in
    left_ready s.rooms.names.bytes.items c.keep.new.self.bytes.items s.rooms.scopes.declared.items c.keep-2.new.self.declared.items s.rooms.scopes.chains.chains c.keep-2.new.self.chains.chains s.levels.items c.pop.new.self.items c.in-Some.level
    c.in-Some.ensures.items c.keep.ensures.bytes c.keep-2.ensures.declared c.keep-2.ensures.chains r

pub returns-clause-steps : goal.returns-clause-steps
returns-clause-steps c = λ x l ls run w many.
    steps_element x c.end.new.self l.name (beside l.kids (kept run none)) ls (c.end.ensures.within x (record { name = l.name; kids = l.kids }) (path_of ls) run w)

pub returns-clause-valid : goal.returns-clause-valid
returns-clause-valid c = λ x l run w one. c.end.ensures.valid x (record { name = l.name; kids = l.kids }) run w
