use Rattle.std.proofs.Common.{◌∙◌, ap, sym}
use Rattle.tc_rnc.specs.Views as see
use Rattle.tc_rnc.proofs.Views.{see_one_or_more}
use Rattle.tc_simple.specs.Sizes.{above, size_in, size_of}
use Rattle.tc_simple.proofs.Below.{mixed_size, one_node, optional_size, repeated_size, several_sizes}
use Rattle.tc_simple.proofs.counts.+sizes.Goals as goal

pub measure-returns-in-Empty : goal.measure-returns-in-Empty
measure-returns-in-Empty t c = c.leaf-in-Empty.ensures ∙ one_node (size_in c.args.table.now c.args.sizes.now) c.args.pattern.now c.in-Empty.is

pub measure-returns-in-Mixed : goal.measure-returns-in-Mixed
measure-returns-in-Mixed t c =
    mixed_size (size_in c.args.table.now c.args.sizes.now) c.args.pattern.now c.in-Mixed.p c.in-Mixed.is c.under.ensures c.beside.ensures c.measure.ensures c.leaf-in-Mixed.ensures

pub measure-returns-in-Optional : goal.measure-returns-in-Optional
measure-returns-in-Optional t c =
    optional_size (size_in c.args.table.now c.args.sizes.now) c.args.pattern.now c.in-Optional.p c.in-Optional.is c.under-in-Optional.ensures c.beside-in-Optional.ensures c.measure-in-Optional.ensures c.leaf-in-Optional.ensures

pub measure-returns-in-ZeroOrMore : goal.measure-returns-in-ZeroOrMore
measure-returns-in-ZeroOrMore t c =
    repeated_size (size_in c.args.table.now c.args.sizes.now) c.args.pattern.now c.in-ZeroOrMore.p c.in-ZeroOrMore.is c.under-in-ZeroOrMore-2.ensures c.beside-in-ZeroOrMore.ensures c.under-in-ZeroOrMore.ensures c.measure-in-ZeroOrMore.ensures c.leaf-in-ZeroOrMore.ensures

pub measure-returns-in-OneOrMore : goal.measure-returns-in-OneOrMore
measure-returns-in-OneOrMore t c =
    let f = size_in c.args.table.now c.args.sizes.now in
    c.under-in-OneOrMore.ensures ∙ (ap above c.measure-in-OneOrMore.ensures ∙ ap (size_of f) (sym (ap see.pattern c.in-OneOrMore.is ∙ see_one_or_more c.in-OneOrMore.p)))

pub measure-returns-in-Group : goal.measure-returns-in-Group
measure-returns-in-Group t c = c.measure_all.ensures ∙ several_sizes (size_in c.args.table.now c.args.sizes.now) c.args.pattern.now c.in-Group.ps c.in-Group.is
