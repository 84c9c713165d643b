-- An element that matches an alternative of the start is a valid document.
use Rattle.std.proofs.Common.{◌≡◌, sym, subst}
use Rattle.std.specs.Prelude.{◌↔◌}
use Rattle.tc_model.specs.Names.{ExpandedName}
use Rattle.tc_model.specs.Trees.{Trees, none, element, IsDocument, normal_form}
use Rattle.tc_model.specs.Grammars.{Grammar}
use Rattle.tc_model.specs.SimplifiesLaws.{IsStart}
use Rattle.tc_model.specs.States.{IsElementOf}
use Rattle.tc_model.specs.Validity.{IsValid}
use Rattle.tc_hedge.proofs.SetsRuns.{alternative_of, matches_alternative}
use Rattle.tc_steps.specs.Led.{IsStarted}

pub started_valid : (x : Grammar) (n : ExpandedName) (kids : Trees) → IsStart x.start → IsDocument (element n kids none) → normal_form kids ≡ kids → IsStarted x n kids ↔ IsValid x (element n kids none)
started_valid x n kids start document normal = (to, of)
  where
    to : IsStarted x n kids → IsValid x (element n kids none)
    to (k, a, e) = (document, matches_alternative x n kids x.start start k a (subst (λ h. IsElementOf x.elements k n h) normal e))

    of : IsValid x (element n kids none) → IsStarted x n kids
    of (d, m) = let (k, a, e) = alternative_of x n kids x.start start m in (k, a, subst (λ h. IsElementOf x.elements k n h) (sym normal) e)
