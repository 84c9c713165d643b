-- A machine is that of one triple.
use Rattle.std.proofs.Common.{◌≡◌, List, [], ◌∷◌, refl, subst, sym, ap, ap₂, ◌∙◌}
use Rattle.tc_model.specs.Grammars.{Grammar, Pattern, ElementPattern}
use Rattle.tc_model.specs.Sheets.{Body, Rule, CallFreeBody}
use Rattle.tc_model.specs.States.{Side, input, output}
use Rattle.tc_auto.specs.Stands as a
use Rattle.tc_auto.specs.declared.auto.Auto.{Auto}
use Rattle.tc_rules.specs.RulesView.{RulesView}
use Rattle.tc_rules.specs.States.{AllInline}
use Rattle.tc_rows.specs.Triples.{Triple, sheet}
use Rattle.tc_rows.proofs.Stood.{inlines_one}
use Rattle.tc_beh.specs.Machines.{IsMachineOf}
use Rattle.tc_beh.specs.RowsOf.{AreRowsOf, AreSameRows}
use Rattle.tc_beh.specs.declared.machine.Machine.{Machine}
use Rattle.tc_beh.specs.declared.rows.Rows.{Rows}

-- an automaton is that of one schema
one_schema : (side : Side) (g h : Grammar) (auto : Auto) → a.Stands side g auto → a.Stands side h auto → g ≡ h
one_schema side g h auto s t = ap₂ (λ (p : Pattern) (es : List ElementPattern). (let made : Grammar = record { start = p; elements = es } in made)) (sym s.start ∙ t.start) (sym s.elements ∙ t.elements)

-- rules have one list of bodies with calls in place
all_inline_one : (named : List Body) (rs : List Rule) (ps qs : List CallFreeBody) → AllInline named rs ps → AllInline named rs qs → ps ≡ qs
all_inline_one named [] [] [] u v = refl
all_inline_one named [] [] (q ∷ qs) u v = absurd v
all_inline_one named [] (p ∷ ps) qs u v = absurd u
all_inline_one named (r ∷ rs) [] qs u v = absurd u
all_inline_one named (r ∷ rs) (p ∷ ps) [] u v = absurd v
all_inline_one named (r ∷ rs) (p ∷ ps) (q ∷ qs) u v =
    let first : p ≡ q = inlines_one u.0 v.0 in let later : ps ≡ qs = all_inline_one named rs ps qs u.1 v.1 in cc

module _ (m : Machine) (x y : Triple) (ox : IsMachineOf x m) (oy : IsMachineOf y m) where
  same_input : x.input ≡ y.input
  same_input = one_schema input x.input y.input m.input.auto ox.parts.contents.auto oy.parts.contents.auto

  same_output : x.output ≡ y.output
  same_output = one_schema output x.output y.output m.output.auto ox.parts.states.auto oy.parts.states.auto

  same_rules : x.rules ≡ y.rules
  same_rules = sym ox.parts.are_rules.told ∙ oy.parts.are_rules.told

  same_symbols : x.symbols ≡ y.symbols
  same_symbols = sym ox.parts.same_symbols ∙ oy.parts.same_symbols

  same_bodies : x.bodies ≡ y.bodies
  same_bodies =
      all_inline_one (sheet x).named (sheet x).rules x.bodies y.bodies ox.parts.are_rules.triple.bodies
      (subst (λ (v : RulesView). AllInline v.sheet.named v.sheet.rules y.bodies) (sym same_rules) oy.parts.are_rules.triple.bodies)

  pub same_triple : x ≡ y
  same_triple = λ i. record { input = same_input i; output = same_output i; symbols = same_symbols i; rules = same_rules i; bodies = same_bodies i }

-- rows that stay those of their machine were rows of the same triples before
pub rows_before : (x : Triple) (old new : Rows) → ((y : Triple) × AreRowsOf y old) → AreSameRows old new → AreRowsOf x new → AreRowsOf x old
rows_before x old new (y, are) same now =
    let here : IsMachineOf x old.machine.now = subst (λ (m : Machine). IsMachineOf x m) (ap (λ m. m.now) same.machine) now.machine in
    subst (λ t. AreRowsOf t old) (same_triple old.machine.now y x are.machine here) are
