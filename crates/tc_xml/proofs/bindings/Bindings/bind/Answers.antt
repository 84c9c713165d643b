use Rattle.std.proofs.Common.{◌∷◌, ◌∙◌, ap}
use Rattle.tc_model.specs.XmlTextScopes.{uri_of}
use Rattle.tc_xml.specs.Bounds.{bounds}
use Rattle.tc_xml.specs.Bindings.{shown}
use Rattle.tc_model.specs.Views.{bound}
use Rattle.tc_xml.proofs.BindingLaws.{uri_inserted, binds_before}
use Rattle.tc_xml.proofs.bindings.Bindings.bind.Goals as goal

pub returns : goal.returns
returns c =
    let es = c.args.self.now.newest.entries in
    let kept = c.kept_uri-uri.result.now in
    record {
      last = record { prefix = c.args.prefix; uri = c.kept_uri-uri.result };
      keeps = c.in-Ok-push.ensures.items;
      before = λ p.
          ap (λ w. shown (bound (record { prefix = c.args.prefix; uri = c.kept_uri-uri.result }) ∷ bounds w) p) c.in-Ok.ensures.entries
          ∙ binds_before es c.args.prefix c.args.uri c.in-Ok.old kept c.in-Ok.ensures.old c.kept_uri-uri.ensures p;
      binds = λ p. ap (λ w. uri_of (bounds w) p) c.in-Ok.ensures.entries ∙ uri_inserted es c.args.prefix c.args.uri p;
    }
