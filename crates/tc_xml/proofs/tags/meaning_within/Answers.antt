use Rattle.std.proofs.Common.{refl, map, List}
use Rattle.std.specs.List.{IsDistinct}
use Rattle.tc_model.specs.Names.{ExpandedName, same_name}
use Rattle.tc_model.specs.RawTrees.{Attribute}
use Rattle.tc_model.specs.Views.{attribute}
use Rattle.tc_model.specs.XmlTextScopes.{ElementName, Expands}
use Rattle.tc_scan.specs.Views.{written_name}
use Rattle.tc_xml.specs.Tags.{in_scope, written}
use Rattle.tc_tags.proofs.FailedLaws.{failed_ok}
use Rattle.tc_xml.proofs.TagLaws.{err_breaks, is_distinct, not_expanded_once}
use Rattle.tc_xml.proofs.tags.meaning_within.Goals as goal

pub returns-in_err-name-clause-no : goal.returns-in_err-name-clause-no
returns-in_err-name-clause-no c =
    let s = in_scope c.args.scope in
    let ws = map written c.args.attributes.now in
    let A = (name : ExpandedName) (expanded : List Attribute) → ElementName s (written_name c.args.tag) name → Expands s ws expanded → IsDistinct same_name (map (λ a. a.name) expanded) → ⊥ in
    err_breaks c.from_residual.result c.in_err-name.field-0.0 _ A c.from_residual.ensures.1 c.in_err-name.ensures.no (λ k name expanded n x d. k name n)

pub returns-in_err-attrs-clause-no : goal.returns-in_err-attrs-clause-no
returns-in_err-attrs-clause-no c =
    let s = in_scope c.args.scope in
    let ws = map written c.args.attributes.now in
    let A = (name : ExpandedName) (expanded : List Attribute) → ElementName s (written_name c.args.tag) name → Expands s ws expanded → IsDistinct same_name (map (λ a. a.name) expanded) → ⊥ in
    err_breaks c.from_residual-in_err-attrs.result c.in_err-attrs.field-0.0 _ A c.from_residual-in_err-attrs.ensures.1 c.in_err-attrs.ensures.no (λ k name expanded n x d. k expanded x)

pub returns-in_err-expanded_once-clause-no : goal.returns-in_err-expanded_once-clause-no
returns-in_err-expanded_once-clause-no c =
    let s = in_scope c.args.scope in
    let ws = map written c.args.attributes.now in
    let A = (name : ExpandedName) (expanded : List Attribute) → ElementName s (written_name c.args.tag) name → Expands s ws expanded → IsDistinct same_name (map (λ a. a.name) expanded) → ⊥ in
    err_breaks c.from_residual-in_err-expanded_once.result c.in_err-expanded_once.field-0.0 ⊥ A c.from_residual-in_err-expanded_once.ensures.1 c.in_err-expanded_once.ensures.no (λ k. absurd k)

pub returns-then-not-expanded_once-clause-no : goal.returns-then-not-expanded_once-clause-no
returns-then-not-expanded_once-clause-no c =
    λ name expanded n.
    not_expanded_once (map attribute c.in_ok-attrs.attrs.now) c.in_ok-expanded_once.expanded_once c.in_ok-attrs.ensures.ok c.if-not-expanded_once.true c.in_ok-expanded_once.ensures.ok expanded

pub returns-clause-ok : goal.returns-clause-ok
returns-clause-ok c =
    (refl, c.in_ok-name.ensures.ok, c.in_ok-attrs.ensures.ok, is_distinct c.in_ok-expanded_once.expanded_once _ c.if-not-expanded_once.false c.in_ok-expanded_once.ensures.ok)

pub returns-in_err-name-clause-ok : goal.returns-in_err-name-clause-ok
returns-in_err-name-clause-ok c = failed_ok _ _ _ c.from_residual.ensures.1

pub returns-in_err-attrs-clause-ok : goal.returns-in_err-attrs-clause-ok
returns-in_err-attrs-clause-ok c = failed_ok _ _ _ c.from_residual-in_err-attrs.ensures.1

pub returns-in_err-expanded_once-clause-ok : goal.returns-in_err-expanded_once-clause-ok
returns-in_err-expanded_once-clause-ok c = failed_ok _ _ _ c.from_residual-in_err-expanded_once.ensures.1
