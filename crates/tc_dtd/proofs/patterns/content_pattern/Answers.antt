use Rattle.std.proofs.Common.{◌≡◌, ◌∙◌, ap, sym}
use Rattle.tc_model.specs.Views as seen
use Rattle.tc_model.proofs.ViewsGrammar.{see_empty}
use Rattle.tc_dtd.specs.Built as built
use Rattle.tc_dtd.specs.Views as see
use Rattle.tc_dtd.proofs.ReaderLaws.{map_ok}
use Rattle.tc_dtd.proofs.patterns.content_pattern.Goals as goal

pub returns-in-Nothing : goal.returns-in-Nothing
returns-in-Nothing c = see_empty ∙ sym (ap (built.content_pattern (see.names c.args.found.now.keys)) (ap see.content c.in-Nothing.is))

pub returns-in-Any : goal.returns-in-Any
returns-in-Any c =
    let ns = see.names c.args.found.now.keys in
    map_ok _ (λ p. seen.pattern p ≡ built.content_pattern ns (see.content c.args.content.now)) c.with_texts.result
    (λ p e. e ∙ (ap (λ ms. built.with_texts (built.references ns ms)) c.requires.same ∙ sym (ap (built.content_pattern ns) (ap see.content c.in-Any.is)))) c.with_texts.ensures

pub returns-in-Children : goal.returns-in-Children
returns-in-Children c =
    let ns = see.names c.args.found.now.keys in
    map_ok _ (λ p. seen.pattern p ≡ built.content_pattern ns (see.content c.args.content.now)) c.particle_pattern.result
    (λ p e. e ∙ sym (ap (built.content_pattern ns) (ap see.content c.in-Children.is))) c.particle_pattern.ensures
