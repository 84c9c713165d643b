use Rattle.std.proofs.Common.{map, ◌∙◌, sym}
use Rattle.tc_model.specs.Views as seen
use Rattle.tc_dtd.specs.Views.{declaration, names}
use Rattle.tc_dtd.proofs.BuiltLaws.{few_names}
use Rattle.tc_dtd.proofs.NumberLaws.{built_is}
use Rattle.tc_dtd.proofs.schema.built_by.Goals as goal

pub element_patterns-requires-clause-few : goal.element_patterns-requires-clause-few
element_patterns-requires-clause-few c = few_names c.args.decls.now c.args.found.now.keys c.requires.found c.requires.few

pub element_patterns-requires-clause-same : goal.element_patterns-requires-clause-same
element_patterns-requires-clause-same c = c.in_ok-names.ensures ∙ sym c.requires.found

pub reference-start-requires : goal.reference-start-requires
reference-start-requires c = few_names c.args.decls.now c.args.found.now.keys c.requires.found c.requires.few

pub returns : goal.returns
returns c =
    built_is (map declaration c.args.decls.now) c.args.root.now (names c.args.found.now.keys) (seen.pattern c.reference-start.result) (map seen.element_pattern c.in_ok-elements.elements.now) c.requires.found
    c.reference-start.ensures c.in_ok-elements.ensures
