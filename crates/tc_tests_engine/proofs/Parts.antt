-- The parts of a machine that are made of two schemas and a stylesheet belong to a triple.
use Rattle.std.proofs.Common.{◌≡◌, List, sym, ap, ◌∙◌, subst, refl}
use Rattle.tc_model.specs.Grammars.{Grammar, IsGrammar}
use Rattle.tc_model.specs.SimplifiesLaws.{IsStart}
use Rattle.tc_model.specs.Sheets.{Sheet}
use Rattle.tc_model.specs.States.{input, output}
use Rattle.tc_model.specs.Symbols.{Mention, symbols_of}
use Rattle.tc_model.specs.WellFormed.{IsSheet}
use Rattle.tc_hedge.specs.Stands as h
use Rattle.tc_hedge.specs.declared.hedge.Hedge.{Hedge}
use Rattle.tc_rules.specs.Kept.{IsRulesOf, told}
use Rattle.tc_rules.specs.States.{AllInline}
use Rattle.tc_rules.specs.declared.rules.Rules.{Rules}
use Rattle.tc_rules.proofs.Looking.{all_unfold}
use Rattle.tc_rows.specs.Triples.{Triple, IsTriple}
use Rattle.tc_beh.specs.Machines.{AreSomeParts}

pub are_parts : (i o : Grammar) (s : Sheet) → IsGrammar i → IsStart i.start → IsGrammar o → IsSheet s → (inner outer : Hedge) (rules : Rules) (symbols : List Mention)
    → symbols ≡ symbols_of i o s → (told rules).sheet ≡ s → IsRulesOf symbols rules → h.Stands input i symbols inner → h.Stands output o symbols outer → AreSomeParts inner outer rules symbols
are_parts i o s is start os sheet inner outer rules symbols are told_is rules_are contents states =
    let (bodies, unfolded) = all_unfold s sheet s.rules sheet.rules in
    let x : Triple = record { input = i; output = o; symbols = symbols; rules = told rules; bodies = bodies } in
    let triple : IsTriple x = record {
      input = is;
      start = start;
      output = os;
      symbols = are ∙ ap (symbols_of i o) (sym told_is);
      rules = rules_are.tells;
      bodies = subst (λ (t : Sheet). AllInline t.named t.rules bodies) (sym told_is) unfolded;
    } in (
      x,
      record {
        contents = contents;
        states = states;
        are_rules = record { triple = triple; rules = rules_are; told = refl };
        same_symbols = refl;
      },
    )
