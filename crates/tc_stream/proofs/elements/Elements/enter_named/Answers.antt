use Rattle.std.proofs.Common.{◌≡◌, ◌≤◌, ◌++◌, ◌∷◌, ◌∙◌, [], ap, arith, length, refl, sym}
use Rattle.std.proofs.Math.Logic.{∥∥₁_map}
use Rattle.tc_stream.specs.Keeps.{IsOfSome, entered, path_of}
use Rattle.tc_stream.specs.Named.{alone, local_name, tag_of}
use Rattle.tc_stream.specs.declared.elements.Level as code
use Rattle.tc_tags.specs.Spans.{at_span}
use Rattle.tc_tags.specs.declared.names.Span.{Span}
use Rattle.tc_tags.specs.declared.rooms.Rooms.{Rooms}
use Rattle.tc_tags.proofs.AddingLaws.{kept_behind}
use Rattle.tc_stream.proofs.EnterLaws.{too_many, open_moved, kept_moved}
use Rattle.tc_stream.proofs.KeepsLaws.{kept_of_some, kept_text}
use Rattle.tc_stream.proofs.NamedLaws.{named, named_open, named_texts, named_fits, named_means, span_local}
use Rattle.tc_stream.proofs.PathLaws.{steps_entered}
use Rattle.tc_stream.proofs.elements.Elements.enter_named.Goals as goal

pub returns-then-not-push_all-clause-no : goal.returns-then-not-push_all-clause-no
returns-then-not-push_all-clause-no c = λ ls outer k.
    let local = c.args.local.now in
    let s : Span = record { start = 1; length = length local } in
    let full = c.if-not-push_all.ensures.bytes.1 in
    let long = ap length (c.as_bytes.ensures.value ∙ sym (span_local local)) in
    too_many c.args.self.now.rooms.names.most s k.are_open c.requires.named refl refl c.args.self.now.most (omega (arith, full, long))

pub step_named-requires-clause-chained : goal.step_named-requires-clause-chained
step_named-requires-clause-chained c =
    let s = c.args.self.now in
    (kept_behind c.as_bytes.result.now (kept_of_some s.rooms.names.bytes.items s.rooms.scopes.declared.items s.rooms.scopes.chains.chains s.levels.items c.requires.ready) c.if-not-push_all.ensures.bytes).chained

pub returns-clause-ready : goal.returns-clause-ready
returns-clause-ready c =
    let e = c.args.self.now in
    let local = c.args.local.now in
    let s : Span = record { start = 1; length = length local } in
    let into = c.step_named.ensures.into in
    let level : code.Level = record { name = record { start = c.len-names.result; length = length local }; names = c.len-names.result; declared = c.len-declared.result } in
    let same = c.as_bytes.ensures.value ∙ sym (span_local local) in
    let long = ap length (sym (span_local local)) in
    ∥∥₁_map c.requires.ready
    (λ (o : IsOfSome e.rooms.names.bytes.items e.rooms.scopes.declared.items e.rooms.scopes.chains.chains e.levels.items).
    let m = named s level c.requires.named o.2 refl refl (c.if-not-push_all.ensures.bytes ∙ ap (λ z. e.rooms.names.bytes.items ++ z) same) c.len-names.ensures long c.len-names.ensures c.len-declared.ensures in (
      entered (alone (local_name local)) into.expanded o.1 ∷ o.0,
      o.1,
      open_moved (ap (λ (r : Rooms). r.names.bytes.items) c.step_named.ensures.rooms) (ap (λ (r : Rooms). r.scopes.declared.items) c.step_named.ensures.rooms) (ap (λ (r : Rooms). r.scopes.chains.chains) c.step_named.ensures.rooms)
          c.step_named.ensures.levels (named_open m into.expanded c.requires.depth),
    ))

pub returns-clause-enters : goal.returns-clause-enters
returns-clause-enters c = λ ls outer k.
    let e = c.args.self.now in
    let local = c.args.local.now in
    let s : Span = record { start = 1; length = length local } in
    let into = c.step_named.ensures.into in
    let level : code.Level = record { name = record { start = c.len-names.result; length = length local }; names = c.len-names.result; declared = c.len-declared.result } in
    let same = c.as_bytes.ensures.value ∙ sym (span_local local) in
    let long = ap length (sym (span_local local)) in
    let now = c.if-not-push_all.ensures.bytes ∙ ap (λ z. e.rooms.names.bytes.items ++ z) same in
    let m = named s level c.requires.named k.are_open refl refl now c.len-names.ensures long c.len-names.ensures c.len-declared.ensures in
    let names = c.push_all.new.self in
    let short : length names.bytes.items ≤ 65536 = omega (arith, names.few, names.bytes.ok.0, c.push_all.ensures.most, e.most) in
    record {
      scope = outer;
      name = into.expanded;
      expanded = [];
      means = named_means m k.texts into.named;
      few = named_fits m short;
      keeps = λ run.
          let u = named s level c.requires.named (kept_text run k).are_open refl refl now c.len-names.ensures long c.len-names.ensures c.len-declared.ensures in
          kept_moved (ap (λ (r : Rooms). r.names.bytes.items) c.step_named.ensures.rooms) (ap (λ (r : Rooms). r.scopes.declared.items) c.step_named.ensures.rooms) (ap (λ (r : Rooms). r.scopes.chains.chains) c.step_named.ensures.rooms)
          c.step_named.ensures.levels (named_open u into.expanded c.requires.depth) (named_texts m k.texts);
      steps = λ x run w. steps_entered x c.step_named.new.self.validity (alone (local_name local)) into.expanded outer run ls (into.steps x (path_of ls) run w);
    }
