use Rattle.std.proofs.Common.{◌≡◌, ℕ, [], true, cond, refl, ap, ◌∙◌, sym}
use Rattle.std.specs.Prelude.{encode_utf8}
use Rattle.std.proofs.lemmas.Bool.{ne_eqb}
use Rattle.tc_model.specs.Names.{is_ncname_start}
use Rattle.tc_stream.specs.References as scan
use Rattle.tc_stream.proofs.references.behind_ampersand.Goals as goal

begins : (c : ℕ) → (c ≡ 35 → ⊥) → is_ncname_start c ≡ true → scan.referred_next scan.begun c ≡ scan.more (scan.in_name (encode_utf8 c))
begins c n h =
    ap (λ x. cond x (scan.more scan.number_sign) (cond (is_ncname_start c) (scan.more (scan.in_name (encode_utf8 c))) scan.unreferred)) (ne_eqb c 35 n)
    ∙ ap (λ x. cond x (scan.more (scan.in_name (encode_utf8 c))) scan.unreferred) h

pub returns-then-is_ncname_start : goal.returns-then-is_ncname_start
returns-then-is_ncname_start c =
    let n = c.args.next in (
      scan.in_name (encode_utf8 n),
      begins n c.if-next-eq35.false (sym c.is_ncname_start.ensures ∙ c.if-is_ncname_start.true),
      (encode_utf8 n, refl, c.and.ensures [] c.none.ensures),
    )
