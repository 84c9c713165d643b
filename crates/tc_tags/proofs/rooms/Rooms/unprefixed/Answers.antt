use Rattle.std.proofs.Common.{◌∙◌, [], ap, refl, sym}
use Rattle.tc_tags.proofs.ElementLaws.{named_by, unnamed}
use Rattle.tc_tags.proofs.rooms.Rooms.unprefixed.Goals as goal

pub returns-in-Some : goal.returns-in-Some
returns-in-Some c = λ scope texts binds.
    let names = c.args.self.now.names.bytes.items in
    let whole = c.named.ensures ∙ c.in-Some.ensures in
    named_by names c.args.self.now.scopes.declared.items scope binds [] c.args.local.now [] c.named.result.now c.text_of.result.now c.args.local.now
    refl whole (c.text_of.ensures.whole (texts [] c.named.result.now (sym whole))) refl

pub returns-in-None : goal.returns-in-None
returns-in-None c = λ scope texts binds.
    unnamed c.args.self.now.names.bytes.items c.args.self.now.scopes.declared.items scope binds [] c.args.local.now [] c.args.local.now refl c.in-None.ensures refl refl
