use Rattle.std.proofs.Common.{◌≡◌, ℕ, List, ◌++◌, Bool, true, false, cond, ◌==◌, Some, refl, ap, ◌∙◌, sym}
use Rattle.std.specs.Prelude.{encode_utf8}
use Rattle.std.proofs.lemmas.Bool.{eq-eqb, ne_eqb}
use Rattle.tc_base.specs.Characters.{is_white}
use Rattle.tc_model.specs.Names.{is_ncname_char}
use Rattle.tc_stream.specs.Targets as scan
use Rattle.tc_stream.proofs.items.behind_target.Goals as goal

-- what a character makes of a name, by what it is
abbrev by : Bool → Bool → Bool → ℕ → List ℕ → scan.Targeted
by x y z c name = cond x (scan.more (name ++ encode_utf8 c)) (cond y (scan.then_white name) (cond z (scan.then_question name) scan.untargeted))

told : (c : ℕ) (name : List ℕ) (x y z : Bool) → is_ncname_char c ≡ x → is_white c ≡ y → (c == 0x3F) ≡ z → scan.targeted_next (Some name) c ≡ by x y z c name
told c name x y z h i j = ap (λ b. by b (is_white c) (c == 0x3F) c name) h ∙ (ap (λ b. by x b (c == 0x3F) c name) i ∙ ap (λ b. by x y b c name) j)

pub returns-then-is_ncname_char : goal.returns-then-is_ncname_char
returns-then-is_ncname_char c written e =
    let n = c.args.next in (
      written ++ encode_utf8 n,
      told n written true (is_white n) (n == 0x3F) (sym c.is_ncname_char.ensures ∙ c.if-is_ncname_char.true) refl refl,
      c.and.ensures written e,
    )

pub returns-then-is_white : goal.returns-then-is_white
returns-then-is_white c written e =
    let n = c.args.next in (
      written,
      told n written false true (n == 0x3F) (sym c.is_ncname_char.ensures ∙ c.if-is_ncname_char.false) (sym c.is_white.ensures ∙ c.if-is_white.true) refl,
      e,
    )

pub returns-then-next-eq63 : goal.returns-then-next-eq63
returns-then-next-eq63 c written e =
    let n = c.args.next in (
      written,
      told n written false false true (sym c.is_ncname_char.ensures ∙ c.if-is_ncname_char.false) (sym c.is_white.ensures ∙ c.if-is_white.false) (eq-eqb n 0x3F c.if-next-eq63.true),
      e,
    )

pub returns : goal.returns
returns c written e =
    let n = c.args.next in
    told n written false false false (sym c.is_ncname_char.ensures ∙ c.if-is_ncname_char.false) (sym c.is_white.ensures ∙ c.if-is_white.false) (ne_eqb n 0x3F c.if-next-eq63.false)
