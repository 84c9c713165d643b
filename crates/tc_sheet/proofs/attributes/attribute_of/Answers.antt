use Rattle.std.proofs.Common.{sym}
use Rattle.tc_sheet.proofs.AttributeLaws.{has_here, named_here, value_passes, value_stands}
use Rattle.tc_sheet.proofs.attributes.attribute_of.Goals as goal

pub returns-then-has_plain_name : goal.returns-then-has_plain_name
returns-then-has_plain_name c =
    let es = c.args.element.now.attrs.now in
    let k = c.loop-attribute.attribute-index in
    record {
      has = has_here es k _ c.loop-attribute-test.true;
      name = named_here es k _ c.loop-attribute-test.true c.args.local.now (sym c.if-has_plain_name.ensures);
      value = value_stands es k _ c.loop-attribute-test.true c.args.local.now (sym c.if-has_plain_name.ensures) c.loop-attribute.invariant;
    }

pub loop-attribute-preserved : goal.loop-attribute-preserved
loop-attribute-preserved c = value_passes c.args.element.now.attrs.now c.loop-attribute.attribute-index _ c.loop-attribute-test.true c.args.local.now (sym c.if-has_plain_name.ensures) c.loop-attribute.invariant
