-- What contracts see of declarations with their places.
use Rattle.tc_model.specs.Views.{place}
use Rattle.tc_dtd.specs.DtdTextDeclarations as form
use Rattle.tc_dtd.specs.Views.{declaration}
use Rattle.tc_dtd.specs.declared.markup.Placed.{Placed}

abbrev pub placed : Placed → form.Placed
placed x = form.placed (place x.place) (declaration x.declaration)
