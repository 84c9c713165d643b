use Rattle.std.proofs.Common.{◌≡◌, ◌+◌, ◌∙◌, set, map, drop, get_or, subst, sym, ap, refl, arith}
use Rattle.tc_mat.specs.Matrix.{Matrix, IsComposition}
use Rattle.tc_beh.specs.Opening.{Open, AreLinked, IsAround, IsOpenSet, no_set, set_or, set_of}
use Rattle.tc_beh.specs.declared.open_sets.OpenSet.{OpenSet}
use Rattle.tc_beh.proofs.Holding.{extends_then}
use Rattle.std.proofs.lemmas.List.{get_or_default}
use Rattle.tc_beh.proofs.OpenLaws.{top_size, place_behind, remembers_on, linked_on, next_place, set_size}
use Rattle.std.proofs.lemmas.List.{drop-set-lt, get_or-set_same}
use Rattle.std.proofs.lemmas.List.Elements.{All-drop}
use Rattle.tc_beh.proofs.OpenLaws.{sets_on}
use Rattle.tc_beh.proofs.open_sets.OpenSets.end_element.Goals as goal

pub led_around-number-requires-clause-states : goal.led_around-number-requires-clause-states
led_around-number-requires-clause-states c =
    c.requires.states ∙ (ap (λ (v : Open). v.out.size) (sym c.self.view_is) ∙ top_size c.self.inside.met c.self.inside.places.items c.self.inside.free c.self.invariant.0 c.self.invariant.1 c.self.invariant.4)

pub returns-clause-size : goal.returns-clause-size
returns-clause-size c =
    let a = c.self.inside.met in
    let b = c.put_behind.new.met in
    let os = c.self.inside.places.items in
    let f = c.self.inside.free in
    let (o, us, under) = c.requires.sets in
    let low = (next_place a.held os f o us (ap (λ (v : Open). v.under) c.self.view_is ∙ under)).0 in
    let last : (set_of b.held (get_or (set os (f + 1) c.put_behind.new.out) (f + 1) no_set)).size ≡ b.held.size =
    ap (λ (v : OpenSet). (set_of b.held v).size) (get_or-set_same os (f + 1) c.put_behind.new.out no_set low) ∙ set_size b.held c.put_behind.ensures.matrices c.put_behind.new.out c.put_behind.ensures.out
    in
    last ∙ (c.put_behind.ensures.more.held.size ∙ (c.led_around-number.ensures.held.size ∙ sym (ap (λ (v : Open). v.out.size) (sym c.self.view_is) ∙ top_size a os f c.self.invariant.0 c.self.invariant.1 c.self.invariant.4)))

pub returns-clause-remembers : goal.returns-clause-remembers
returns-clause-remembers c = remembers_on c.args.output.now c.led_around-number.new.self c.put_behind.new.met c.put_behind.ensures.more c.led_around-number.ensures.remembers

pub returns-clause-links : goal.returns-clause-links
returns-clause-links c = λ h l. linked_on h c.led_around-number.new.self c.put_behind.new.met c.put_behind.ensures.more (c.led_around-number.ensures.links h (subst (λ (v : Open). AreLinked h v.met) (sym c.self.view_is) l))

pub returns-clause-pairs : goal.returns-clause-pairs
returns-clause-pairs c = λ o us waits.
    let a = c.self.inside.met in
    let mid = c.led_around-number.new.self in
    let b = c.put_behind.new.met in
    let os = c.self.inside.places.items in
    let f = c.self.inside.free in
    let new = c.put_behind.new.out in
    let (low, top, rest) = next_place a.held os f o us (ap (λ (v : Open). v.under) c.self.view_is ∙ waits) in
    let first = c.led_around-number.ensures.held in
    let last = c.put_behind.ensures.more.held in
    let more = extends_then a.held mid.held b.held first last in
    let place = c.index_mut-out.result.now in
    let here = c.index_mut-out.ensures.value in
    let is : IsOpenSet a.held place = subst (IsOpenSet a.held) (sym (here ∙ get_or_default os (f + 1) place no_set low)) (c.self.invariant.1 (f + 1) no_set low) in
    let led = set_or mid.held c.led_around-number.result c.led_around-number.new.led in
    let inner = c.index-inner.result.now in
    let inside : set_of a.held inner ≡ c.args.self.now.out =
    ap (set_of a.held) (c.index-inner.ensures ∙ get_or_default os f inner no_set c.self.invariant.0) ∙ ap (λ (v : Open). v.out) c.self.view_is
    in
    let under : map (set_of b.held) (drop (f + 1 + 1) (set os (f + 1) new)) ≡ us =
    ap (map (set_of b.held)) (drop-set-lt (f + 1 + 1) os (f + 1) new (omega arith)) ∙ (sets_on a.held b.held more (drop (f + 1 + 1) os) (All-drop (IsOpenSet a.held) (f + 1 + 1) os c.self.invariant.1) ∙ rest)
    in
    let behind : IsComposition (set_of a.held (get_or os (f + 1) no_set)) led (set_of b.held (get_or (set os (f + 1) new) (f + 1) no_set)) =
    place_behind a.held mid.held b.held first os (f + 1) low place new here is c.led_around-number.result c.led_around-number.new.led led refl c.put_behind.ensures.pairs
    in (
      under,
      (
        led,
        subst (λ (n : Matrix). IsAround c.args.output.now c.args.symbol.0 n led) inside c.led_around-number.ensures.around,
        subst (λ (n : Matrix). IsComposition n led (set_of b.held (get_or (set os (f + 1) new) (f + 1) no_set))) top behind,
      ),
    )
