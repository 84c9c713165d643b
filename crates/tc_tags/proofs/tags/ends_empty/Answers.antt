use Rattle.std.proofs.Common.{◌∙◌, sym, codes}
use Rattle.std.proofs.lemmas.Bool.{true≢false}
use Rattle.std.specs.Cmp.Lexicographic.{bytes_decides}
use Rattle.tc_tags.proofs.tags.ends_empty.Goals as goal

pub returns-then-eq : goal.returns-then-eq
returns-then-eq c = (bytes_decides c.args.end.now (codes ">")).0 (sym c.if-eq.ensures)

pub returns-then-eq-2 : goal.returns-then-eq-2
returns-then-eq-2 c = (bytes_decides c.args.end.now (codes "/>")).0 (sym c.if-eq-2.ensures)

pub returns : goal.returns
returns c = (
  λ same. true≢false (sym ((bytes_decides c.args.end.now (codes ">")).1 same) ∙ sym c.if-eq.ensures),
  λ same. true≢false (sym ((bytes_decides c.args.end.now (codes "/>")).1 same) ∙ sym c.if-eq-2.ensures),
)
