use Rattle.std.proofs.Common.{◌≡◌, ◌∙◌, ap, sym, arith}
use Rattle.tc_model.proofs.ViewsGrammar as patterns
use Rattle.tc_model.specs.Grammars as g
use Rattle.tc_model.specs.Simplifies.{both}
use Rattle.tc_model.specs.Views as seen
use Rattle.tc_dtd.specs.Built as built
use Rattle.tc_dtd.specs.Views as see
use Rattle.tc_dtd.proofs.ReaderLaws.{map_ok}
use Rattle.tc_dtd.proofs.ViewsLaws.{see_name, see_seq, see_choice, see_optional, see_star, see_plus}
use Rattle.tc_dtd.proofs.BuiltLaws.{patterns_end, patterns_more}
use Rattle.tc_dtd.proofs.patterns.+made.Goals as goal

pub particle_patterns-loop-one-preserved : goal.particle_patterns-loop-one-preserved
particle_patterns-loop-one-preserved t c =
    patterns_more (see.names c.args.found.now.keys) c.args.particles.now c.loop-one.one-index c.one-item.result c.in_ok-p.p c.loop-one.out.items c.push.new.self.items c.loop-one-test.true c.one-item.is c.in_ok-p.ensures
    c.in_ok-push.ensures.items
    ∙ c.loop-one.invariant

pub particle_patterns-returns : goal.particle_patterns-returns
particle_patterns-returns t c =
    ap seen.patterns c.into_bump_slice.ensures
    ∙ patterns_end (see.names c.args.found.now.keys) c.args.particles.now c.loop-one.one-index c.loop-one.out.items (omega (arith, c.loop-one-test.false)) c.loop-one.invariant

pub particle_pattern-returns-in-Name : goal.particle_pattern-returns-in-Name
particle_pattern-returns-in-Name t c =
    let of = built.particle_pattern (see.names c.args.found.now.keys) in
    c.reference.ensures ∙ sym (ap of (ap see.particle c.in-Name.is ∙ see_name _))

pub particle_pattern-returns-in_ok-particle_patterns-in-Seq : goal.particle_pattern-returns-in_ok-particle_patterns-in-Seq
particle_pattern-returns-in_ok-particle_patterns-in-Seq t c =
    let of = built.particle_pattern (see.names c.args.found.now.keys) in
    patterns.see_group _ ∙ (ap g.group c.in_ok-particle_patterns-in-Seq.ensures ∙ sym (ap of (ap see.particle c.in-Seq.is ∙ see_seq _)))

pub particle_pattern-returns-in_ok-particle_patterns-in-Choice : goal.particle_pattern-returns-in_ok-particle_patterns-in-Choice
particle_pattern-returns-in_ok-particle_patterns-in-Choice t c =
    let of = built.particle_pattern (see.names c.args.found.now.keys) in
    patterns.see_choice _ ∙ (ap g.choice c.in_ok-particle_patterns-in-Choice.ensures ∙ sym (ap of (ap see.particle c.in-Choice.is ∙ see_choice _)))

pub particle_pattern-returns-in_ok-p-in-Optional : goal.particle_pattern-returns-in_ok-p-in-Optional
particle_pattern-returns-in_ok-p-in-Optional t c =
    let of = built.particle_pattern (see.names c.args.found.now.keys) in
    map_ok _ (λ p. seen.pattern p ≡ of (see.particle c.args.particle.now)) c.or_nothing.result
    (λ p e. e ∙ (ap (λ w. g.choice (both w g.empty)) c.in_ok-p-in-Optional.ensures ∙ sym (ap of (ap see.particle c.in-Optional.is ∙ see_optional _)))) c.or_nothing.ensures

pub particle_pattern-returns-in_ok-p-in-Star-2 : goal.particle_pattern-returns-in_ok-p-in-Star-2
particle_pattern-returns-in_ok-p-in-Star-2 t c =
    let of = built.particle_pattern (see.names c.args.found.now.keys) in
    map_ok _ (λ p. seen.pattern p ≡ of (see.particle c.args.particle.now)) c.or_nothing-in-Star.result
    (λ p e. e ∙ (ap (λ w. g.choice (both w g.empty)) (c.in_ok-p-in-Star-2.ensures ∙ ap g.one_or_more c.in_ok-p-in-Star.ensures) ∙ sym (ap of (ap see.particle c.in-Star.is ∙ see_star _)))) c.or_nothing-in-Star.ensures

pub particle_pattern-returns-in_ok-p-in-Plus : goal.particle_pattern-returns-in_ok-p-in-Plus
particle_pattern-returns-in_ok-p-in-Plus t c =
    let of = built.particle_pattern (see.names c.args.found.now.keys) in
    map_ok _ (λ p. seen.pattern p ≡ of (see.particle c.args.particle.now)) c.repeated-in-Plus.result
    (λ p e. e ∙ (ap g.one_or_more c.in_ok-p-in-Plus.ensures ∙ sym (ap of (ap see.particle c.in-Plus.is ∙ see_plus _)))) c.repeated-in-Plus.ensures
