use Rattle.std.proofs.Common.{◌≡◌, ◌∷◌, [], List, ℕ, ap, ◌∙◌, sym, subst, arith, length}
use Rattle.tc_model.specs.XmlTextNames.{QualifiedName, QNameAt}
use Rattle.tc_model.proofs.XmlTextPhrases.{same_others}
use Rattle.tc_scan.specs.Views.{written_name}
use Rattle.tc_tags.specs.Forms.{IsNameAt, IsStop}
use Rattle.tc_tags.proofs.FormLaws.{failed}
use Rattle.tc_tags.proofs.FailedLaws.{failed_ok}
use Rattle.tc_tags.proofs.tags.tag_name.Goals as goal

pub returns-in_default-clause-no : goal.returns-in_default-clause-no
returns-in_default-clause-no c = (c.lacking.ensures, λ start name after e q. c.in_default.ensures start e)

pub returns-in_err-name-clause-no : goal.returns-in_err-name-clause-no
returns-in_err-name-clause-no c =
    let tag = c.args.tag.now in
    let e = c.in_err-name.field-0.0 in
    let N = (start : List ℕ) (name : QualifiedName) (after : List ℕ) → tag ≡ 0x3C ∷ start → QNameAt start name after → ⊥ in
    failed c.from_residual.result (λ e. IsStop e × N) e c.from_residual.ensures.1
    (c.in_err-name.ensures.no.0, λ start name after is q. c.in_err-name.ensures.no.1 name after (subst (λ z. QNameAt z name after) (same_others (sym is ∙ c.in-Some.ensures)) q))

pub returns-clause-ok : goal.returns-clause-ok
returns-clause-ok c =
    let n = written_name c.in_ok-name.name in
    let long = ap length c.in-Some.ensures in
    let stands : IsNameAt (0x3C ∷ c.in-Some.start.now) c.spans.result n = c.spans.ensures (0x3C ∷ []) (omega (arith, long)) in
    (c.in-Some.start.now, n, c.in-Some.ensures, c.in_ok-name.ensures.ok, subst (λ z. IsNameAt z c.spans.result n) (sym c.in-Some.ensures) stands)

pub spans-requires-clause-named : goal.spans-requires-clause-named
spans-requires-clause-named c = (c.in_ok-name.behind.now, c.in_ok-name.ensures.ok)

pub returns-in_default-clause-ok : goal.returns-in_default-clause-ok
returns-in_default-clause-ok c = tt

pub returns-in_err-name-clause-ok : goal.returns-in_err-name-clause-ok
returns-in_err-name-clause-ok c = failed_ok _ _ _ c.from_residual.ensures.1

pub returns-clause-no : goal.returns-clause-no
returns-clause-no c = tt
