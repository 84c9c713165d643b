use Rattle.std.proofs.Common.{sym, ◌∙◌, subst, map, List}
use Rattle.tc_model.specs.Names.{ExpandedName}
use Rattle.tc_model.specs.RawTrees.{Attribute, Bound}
use Rattle.tc_model.specs.Views.{name, attribute}
use Rattle.tc_model.specs.XmlTextScopes.{ElementName, Expands, TagMeans}
use Rattle.tc_scan.specs.Views.{written_name}
use Rattle.tc_xml.specs.Tags.{in_scope, written, Breaks}
use Rattle.tc_tags.proofs.FailedLaws.{failed_ok}
use Rattle.tc_xml.proofs.MiscLaws.{map_ok, map_err}
use Rattle.tc_xml.proofs.TagLaws.{breaks_too, is_distinct, in_its_scope}
use Rattle.tc_xml.proofs.tags.meaning_of.Goals as goal

pub returns-clause-ok : goal.returns-clause-ok
returns-clause-ok c =
    let w = written_name c.args.tag in
    let ws = map written c.args.attributes.now in
    map_ok _ _ c.meaning_within.result
    (λ m (same, n, x, d). record {
      once = is_distinct c.in_ok-written_once.written_once _ c.if-not-written_once.false c.in_ok-written_once.ensures.ok;
      no_space = c.requires.no_space;
      scopes = same ∙ c.in_ok-scope.ensures.ok;
      names = subst (λ s. ElementName s w (name m.name)) (sym same) n;
      expands = subst (λ s. Expands s ws (map attribute m.attrs.now)) (sym same) x;
      expanded_once = d;
    })
    c.meaning_within.ensures.ok

pub returns-clause-no : goal.returns-clause-no
returns-clause-no c =
    let A = (scope : List Bound) (name : ExpandedName) (expanded : List Attribute) → TagMeans (in_scope c.args.outer) (written_name c.args.tag) (map written c.args.attributes.now) scope name expanded → ⊥ in
    map_err _ (λ e. Breaks e A) c.meaning_within.result (λ e k. breaks_too e _ A (in_its_scope (in_scope c.in_ok-scope.scope) c.in_ok-scope.ensures.ok) k) c.meaning_within.ensures.no

pub returns-in_err-written_once-clause-ok : goal.returns-in_err-written_once-clause-ok
returns-in_err-written_once-clause-ok c = failed_ok _ _ _ c.from_residual.ensures.1

pub returns-in_err-scope-clause-ok : goal.returns-in_err-scope-clause-ok
returns-in_err-scope-clause-ok c = failed_ok _ _ _ c.from_residual-in_err-scope.ensures.1
