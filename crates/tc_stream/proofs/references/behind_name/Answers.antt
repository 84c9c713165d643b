use Rattle.std.proofs.Common.{◌≡◌, ℕ, List, ◌++◌, true, cond, ◌==◌, refl, ap, ◌∙◌, sym}
use Rattle.std.specs.Prelude.{encode_utf8}
use Rattle.tc_model.specs.Names.{is_ncname_char}
use Rattle.tc_model.specs.XmlTextReferences.{predefined}
use Rattle.tc_stream.specs.References as scan
use Rattle.tc_stream.proofs.references.behind_name.Goals as goal

goes_on : (c : ℕ) (name : List ℕ) → is_ncname_char c ≡ true → scan.referred_next (scan.in_name name) c ≡ scan.more (scan.in_name (name ++ encode_utf8 c))
goes_on c name h = ap (λ x. cond x (scan.more (scan.in_name (name ++ encode_utf8 c))) (cond (c == 0x3B) (scan.of_entity (predefined name)) scan.unreferred)) h

pub returns-then-is_ncname_char : goal.returns-then-is_ncname_char
returns-then-is_ncname_char c written e =
    let n = c.args.next in (
      scan.in_name (written ++ encode_utf8 n),
      goes_on n written (sym c.is_ncname_char.ensures ∙ c.if-is_ncname_char.true),
      (written ++ encode_utf8 n, refl, c.and.ensures written e),
    )
