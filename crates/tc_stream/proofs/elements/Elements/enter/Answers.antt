use Rattle.std.proofs.Common.{◌≤◌, ◌∷◌, ap, sym, subst, arith, length}
use Rattle.std.proofs.Math.Logic.{∥∥₁_map}
use Rattle.tc_model.specs.XmlTextScopes.{scope_within}
use Rattle.tc_stream.specs.Keeps.{IsOfSome, entered, path_of}
use Rattle.tc_tags.specs.Written.{AreWritten}
use Rattle.tc_tags.specs.declared.attributes.Attributes.{Attributes}
use Rattle.tc_stream.specs.declared.elements.Level as code
use Rattle.tc_tags.specs.declared.names.Room.{Room}
use Rattle.tc_tags.specs.declared.scopes.Scopes.{Scopes}
use Rattle.tc_stream.proofs.EnterLaws.{tagged, tag_means, tag_open, tag_fits, tag_texts, tag_named, tag_meaning, no_meaning, too_many, open_moved, kept_moved}
use Rattle.tc_stream.proofs.KeepsLaws.{room_of_some, kept_of_some, kept_text}
use Rattle.tc_stream.proofs.PathLaws.{steps_entered}
use Rattle.tc_stream.proofs.elements.Elements.enter.Goals as goal

pub add_names-requires-clause-room : goal.add_names-requires-clause-room
add_names-requires-clause-room c =
    let s = c.args.self.now in
    room_of_some s.rooms.names.bytes.items s.rooms.scopes.declared.items s.rooms.scopes.chains.chains s.levels.items (length s.rooms.attributes.list.items) c.requires.ready
    (omega (arith, s.rooms.names.few, s.rooms.names.bytes.ok.0, s.most)) (omega (arith, s.rooms.attributes.few, s.rooms.attributes.list.ok.0))

pub add_names-requires-clause-kept : goal.add_names-requires-clause-kept
add_names-requires-clause-kept c =
    let s = c.args.self.now in
    kept_of_some s.rooms.names.bytes.items s.rooms.scopes.declared.items s.rooms.scopes.chains.chains s.levels.items c.requires.ready

pub add_names-requires-clause-written : goal.add_names-requires-clause-written
add_names-requires-clause-written c = let (e, r, are) = c.requires.written in (e.attributes, are)

pub returns-in_default-clause-no : goal.returns-in_default-clause-no
returns-in_default-clause-no c = λ e ls outer r are chars k.
    too_many c.args.self.now.rooms.names.most c.whole.result k.are_open r c.whole.ensures.start (c.whole.ensures.length e.name r.name) c.args.self.now.most (c.in_default.ensures.added e.attributes are)

pub step_into-requires-clause-chained : goal.step_into-requires-clause-chained
step_into-requires-clause-chained c = c.in-Some.ensures.kept.chained

pub returns-in_default-step_into-clause-no : goal.returns-in_default-step_into-clause-no
returns-in_default-step_into-clause-no c = λ e ls outer r are chars k.
    let s = c.args.self.now in
    let rooms = c.add_names.new.self in
    let level : code.Level = record { name = c.in-Some.name; names = c.len-names.result; declared = c.len-declared.result } in
    let same = subst (λ (a : Attributes). AreWritten c.args.tag.now a.list.items e.attributes) (sym c.add_names.ensures.attributes) are in
    let t = tagged rooms.attributes.list.items c.whole.result level r same k.are_open c.whole.ensures.start (c.whole.ensures.length e.name r.name) (c.in-Some.ensures.added e.attributes are) c.in-Some.ensures.kept
    c.in-Some.ensures.name.0 c.in-Some.ensures.name.1 c.len-names.ensures c.len-declared.ensures in
    let short : length rooms.names.bytes.items ≤ 65536 = omega (arith, rooms.names.few, rooms.names.bytes.ok.0, c.add_names.ensures.most, s.most) in
    (tag_fits t short, no_meaning t chars k.texts c.in_default-step_into.ensures.into)

pub returns-clause-ready : goal.returns-clause-ready
returns-clause-ready c =
    let s = c.args.self.now in
    let (e, r, are) = c.requires.written in
    let rooms = c.add_names.new.self in
    let into = c.in-Some-step_into.ensures.into in
    let level : code.Level = record { name = c.in-Some.name; names = c.len-names.result; declared = c.len-declared.result } in
    let same = subst (λ (a : Attributes). AreWritten c.args.tag.now a.list.items e.attributes) (sym c.add_names.ensures.attributes) are in
    ∥∥₁_map c.requires.ready
    (λ (o : IsOfSome s.rooms.names.bytes.items s.rooms.scopes.declared.items s.rooms.scopes.chains.chains s.levels.items).
    let t = tagged rooms.attributes.list.items c.whole.result level r same o.2 c.whole.ensures.start (c.whole.ensures.length e.name r.name) (c.in-Some.ensures.added e.attributes are) c.in-Some.ensures.kept
    c.in-Some.ensures.name.0 c.in-Some.ensures.name.1 c.len-names.ensures c.len-declared.ensures in (
      entered e into.expanded o.1 ∷ o.0,
      scope_within o.1 e.attributes,
      open_moved (ap (λ (r : Room). r.bytes.items) c.step_into.ensures.names) (ap (λ (s : Scopes). s.declared.items) c.step_into.ensures.scopes) (ap (λ (s : Scopes). s.chains.chains) c.step_into.ensures.scopes)
          c.in-Some-step_into.ensures.levels (tag_open into.expanded t into.meant c.requires.depth),
    ))

pub returns-clause-enters : goal.returns-clause-enters
returns-clause-enters c = λ e ls outer r are chars k.
    let s = c.args.self.now in
    let rooms = c.add_names.new.self in
    let into = c.in-Some-step_into.ensures.into in
    let n = into.expanded in
    let level : code.Level = record { name = c.in-Some.name; names = c.len-names.result; declared = c.len-declared.result } in
    let same = subst (λ (a : Attributes). AreWritten c.args.tag.now a.list.items e.attributes) (sym c.add_names.ensures.attributes) are in
    let start = c.whole.ensures.start in
    let long = c.whole.ensures.length e.name r.name in
    let adds = c.in-Some.ensures.added e.attributes are in
    let t = tagged rooms.attributes.list.items c.whole.result level r same k.are_open start long adds c.in-Some.ensures.kept c.in-Some.ensures.name.0 c.in-Some.ensures.name.1 c.len-names.ensures c.len-declared.ensures in
    let short : length rooms.names.bytes.items ≤ 65536 = omega (arith, rooms.names.few, rooms.names.bytes.ok.0, c.add_names.ensures.most, s.most) in
    let texts = tag_texts t chars k.texts in
    record {
      scope = scope_within outer e.attributes;
      name = n;
      expanded = (tag_means t into.meant).expanded;
      means = tag_meaning t into.meant (tag_named n t texts into.named);
      few = tag_fits t short;
      keeps = λ run.
          let u = tagged rooms.attributes.list.items c.whole.result level r same (kept_text run k).are_open start long adds c.in-Some.ensures.kept c.in-Some.ensures.name.0 c.in-Some.ensures.name.1 c.len-names.ensures c.len-declared.ensures in
          kept_moved (ap (λ (r : Room). r.bytes.items) c.step_into.ensures.names) (ap (λ (s : Scopes). s.declared.items) c.step_into.ensures.scopes) (ap (λ (s : Scopes). s.chains.chains) c.step_into.ensures.scopes)
          c.in-Some-step_into.ensures.levels (tag_open n u into.meant c.requires.depth) texts;
      steps = λ x run w. steps_entered x c.step_into.new.self.validity e n outer run ls (into.steps x (path_of ls) run w);
    }

pub returns-in_default-clause-ready : goal.returns-in_default-clause-ready
returns-in_default-clause-ready c = tt

pub returns-in_default-clause-enters : goal.returns-in_default-clause-enters
returns-in_default-clause-enters c = tt

pub returns-in_default-step_into-clause-ready : goal.returns-in_default-step_into-clause-ready
returns-in_default-step_into-clause-ready c = tt

pub returns-in_default-step_into-clause-enters : goal.returns-in_default-step_into-clause-enters
returns-in_default-step_into-clause-enters c = tt

pub returns-clause-no : goal.returns-clause-no
returns-clause-no c = tt
