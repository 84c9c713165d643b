use Rattle.std.proofs.Common.{◌∙◌, set, subst}
use Rattle.tc_beh.specs.Opening.{Open, IsBeside}
use Rattle.tc_beh.proofs.Holding.{extends_then}
use Rattle.tc_beh.proofs.OpenLaws.{more_self, remembers_on, linked_on, opened, place_put}
use Rattle.tc_beh.proofs.open_sets.OpenSets.put_text.Goals as goal

pub returns-clause-same : goal.returns-clause-same
returns-clause-same c = λ m h.
    let a = c.self.inside.met in
    let mid = c.self.inside.met in
    let b = c.put_behind.new.met in
    let os = c.self.inside.places.items in
    let f = c.self.inside.free in
    let low = c.self.invariant.0 in
    let first = more_self c.self.inside.met in
    let last = c.put_behind.ensures.more in
    subst (λ (v : Open). IsBeside m h v (opened b (set os f c.put_behind.new.out) f)) c.self.view_is
    (place_put m h a b (extends_then a.held mid.held b.held first.held last.held) (last.text ∙ first.text) (λ r. remembers_on m mid b last (remembers_on m a mid first r)) (λ l. linked_on h mid b last (linked_on h a mid first l)) c.self.invariant.4 c.put_behind.ensures.matrices os f low c.self.invariant.1
    c.put_behind.new.out c.put_behind.ensures.out)
