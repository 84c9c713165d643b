use Rattle.std.proofs.Common.{◌≡◌, ℕ, [], None, true, cond, ap, ◌∙◌, sym}
use Rattle.std.specs.Prelude.{encode_utf8}
use Rattle.tc_model.specs.Names.{is_ncname_start}
use Rattle.tc_stream.specs.Targets as scan
use Rattle.tc_stream.proofs.items.first_of_target.Goals as goal

begins : (c : ℕ) → is_ncname_start c ≡ true → scan.targeted_next None c ≡ scan.more (encode_utf8 c)
begins c h = ap (λ x. cond x (scan.more (encode_utf8 c)) scan.untargeted) h

pub returns-then-is_ncname_start : goal.returns-then-is_ncname_start
returns-then-is_ncname_start c = (
  encode_utf8 c.args.next,
  begins c.args.next (sym c.is_ncname_start.ensures ∙ c.if-is_ncname_start.true),
  c.and.ensures [] c.none.ensures,
)
