-- An attribute, with the element whose it is.
use Rattle.std.specs.Prelude.{◌≡◌, ◌≢◌, Contains}
use Rattle.tc_model.specs.SheetTextPhrases.{xsl_uri}
use Rattle.tc_model.specs.Views.{name, attribute}
use Rattle.tc_model.specs.declared.tree.RawAttr.{RawAttr}
use Rattle.tc_model.specs.declared.tree.RawElem.{RawElem}
use Rattle.tc_sheet.specs.Readings.{attributes_of}

-- of an XSLT element
pub record IsOfXslt (e : RawElem) (a : RawAttr) : Type 0 where
  pub xslt : (name e.name).uri ≡ xsl_uri
  pub has : Contains (attributes_of e) (attribute a)

-- of a literal element
pub record IsOfLiteral (e : RawElem) (a : RawAttr) : Type 0 where
  pub literal : (name e.name).uri ≢ xsl_uri
  pub has : Contains (attributes_of e) (attribute a)
