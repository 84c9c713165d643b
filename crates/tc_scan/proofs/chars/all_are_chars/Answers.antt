use Rattle.std.proofs.Common.{◌≡◌, rules, tests, chars, Bool, IsTrue, ◌↔◌, sym, subst}
use Rattle.std.specs.List.{list_all}
use Rattle.std.proofs.lemmas.Iterator.{YieldsList-from_chars}
use Rattle.std.proofs.lemmas.Iterator.Search.{all_from_yields_List}
use Rattle.tc_base.specs.Characters.{is_char}
use Rattle.tc_model.specs.Names.{IsChars}
use Rattle.tc_scan.proofs.CharsLaws.{chars_told}
use Rattle.tc_scan.proofs.chars.all_are_chars.Goals as goal

pub returns : goal.returns
returns c =
    let all : c.all.result ≡ list_all is_char (chars c.args.text.now) =
    all_from_yields_List is_char _ _ c.all.result c.all.ensures.ran (YieldsList-from_chars c.args.text.now c.utf8.text c.chars.ensures.rest) (λ x b q k. search (rules, tests)) in
    subst (λ (b : Bool). IsTrue b ↔ IsChars c.args.text.now) (sym all) (chars_told c.args.text.now c.utf8.text)
