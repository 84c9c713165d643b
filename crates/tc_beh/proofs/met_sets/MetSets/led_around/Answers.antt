use Rattle.std.proofs.Common.{◌≡◌, ◌<◌, ℕ, Option, length, IfSome, subst, sym, arith}
use Rattle.tc_mat.specs.Held.{Held}
use Rattle.tc_mat.specs.Matrix.{Matrix}
use Rattle.tc_beh.specs.Links.{Tables, AreLinks}
use Rattle.tc_beh.specs.Held.{set_at}
use Rattle.tc_beh.specs.Opening.{IsAround, IsLow, set_or}
use Rattle.tc_beh.proofs.Holding.{extends_at, extends_count}
use Rattle.tc_beh.proofs.OpenLaws.{remembers_on, linked_on}
use Rattle.tc_beh.proofs.met_sets.MetSets.led_around.Goals as goal

pub returns-in-Some-clause-around : goal.returns-in-Some-clause-around
returns-in-Some-clause-around c =
    let (i, e, is) = c.in-Some.ensures c.args.output.now c.requires.remembers in
    let held = c.args.self.now.held in
    subst (λ (o : Option ℕ). IsAround c.args.output.now c.args.symbol.0 (set_or held o c.args.words.now) (set_at held c.in-Some.element)) (sym e) is.around

pub returns-clause-remembers : goal.returns-clause-remembers
returns-clause-remembers c =
    let m = c.args.output.now in
    let a = c.args.symbol.0 in
    let old = c.args.self.now in
    let mid = c.number_of-element.new.self in
    let led = c.put_around.new.out in
    let more = c.number_of-element.ensures.more in
    c.remember_element.ensures.remembers m (remembers_on m old mid more c.requires.remembers) (λ i k e f.
    let low : i < length old.held.matrices = subst (λ (o : Option ℕ). IsLow old.held o) e c.requires.inner in
    let number = subst (λ (o : Option ℕ). IfSome o (λ n. (n < length mid.held.matrices) × (set_at mid.held n ≡ led))) f c.number_of-element.ensures.number in
    record {
      inner_low = omega (arith, low, extends_count old.held mid.held more.held);
      low = number.0;
      around = subst (λ (n : Matrix). IsAround m a n (set_at mid.held k)) (sym (extends_at old.held mid.held more.held i low))
          (subst (λ (n : Matrix). IsAround m a (set_at old.held i) n) (sym number.1) (subst (λ (o : Option ℕ). IsAround m a (set_or old.held o c.args.words.now) led) e c.put_around.ensures.around));
    })

pub returns-clause-links : goal.returns-clause-links
returns-clause-links c = λ h l.
    let mid = c.number_of-element.new.self in
    let new = c.remember_element.new.self in
    let here = linked_on h c.args.self.now mid c.number_of-element.ensures.more l in
    subst (λ (t : Tables). AreLinks h new.held t) (sym c.remember_element.ensures.links) (subst (λ (k : Held). AreLinks h k mid.links) (sym c.remember_element.ensures.held) here)
