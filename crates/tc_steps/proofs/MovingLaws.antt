-- What is known of sets, steps and names while a document is taken.
use Rattle.std.proofs.Common.{◌≡◌, ◌↔◌, ◌∙◌, ℕ, List, Option, false, None, Some, IfSome, refl, sym, ap, subst}
use Rattle.std.proofs.lemmas.List.Elements.{All-weaker}
use Rattle.std.proofs.lemmas.Option.{IfSome_then}
use Rattle.tc_auto.specs.declared.auto.Auto.{Auto}
use Rattle.tc_model.specs.Grammars.{Grammar}
use Rattle.tc_model.specs.Names.{ExpandedName}
use Rattle.tc_model.specs.Symbols.{Mention, symbol_of}
use Rattle.tc_model.specs.Trees.{Trees, none, text, element, beside, is_white_space_only}
use Rattle.tc_model.specs.Views.{name}
use Rattle.tc_sets.specs.Numbers.{Numbers, Has}
use Rattle.tc_steps.specs.Classes.{IsFor, IsKnown}
use Rattle.tc_steps.specs.Led.{AreLed}
use Rattle.tc_steps.specs.Numbered.{AreStates, Grown, Passes, PassesElement, IsStep, AreSteps, IsEntry, AreNames}
use Rattle.tc_steps.specs.Moving.{IsCopyOf, IsMet, AreRight, Keeps, IsElement, IsAfterText, IsAfterElement}
use Rattle.tc_steps.specs.declared.classes.Class.{Class}
use Rattle.tc_steps.specs.declared.known_names.KnownNames.{KnownNames}
use Rattle.tc_steps.specs.declared.known_names.Named.{Named}
use Rattle.tc_steps.specs.declared.known_sets.KnownSets.{KnownSets}
use Rattle.tc_steps.specs.declared.known_sets.States.{States}
use Rattle.tc_steps.specs.declared.known_sets.States.TheVariants.{Numbered, Own}
use Rattle.tc_steps.specs.declared.known_steps.Child.{Child}
use Rattle.tc_steps.specs.declared.known_steps.Child.TheVariants.{Text, Element}
use Rattle.tc_steps.specs.declared.known_steps.KnownSteps.{KnownSteps}
use Rattle.tc_steps.specs.declared.known_steps.Step.{Step}
use Rattle.tc_steps.specs.declared.moves.Moves.{Moves}
use Rattle.tc_steps.specs.declared.moves.Opened.{Opened}
use Rattle.tc_steps.specs.declared.table.Steps.{Steps}

pub one_states : (sets : List Numbers) (st : States) (s t : Numbers) → AreStates sets st s → AreStates sets st t → s ≡ t
one_states sets (Numbered k) s t a b = cc
one_states sets (Own u) s t a b = sym a ∙ b

pub states_grown : (old new : List Numbers) (st : States) (s : Numbers) → Grown old new → AreStates old st s → AreStates new st s
states_grown old new (Numbered k) s g a = g k s a
states_grown old new (Own u) s g a = a

-- what two clauses say of one value
pub both_some : {T : Type 0} (r : Option T) {P Q R : T → Type 0} → IfSome r P → IfSome r Q → ((v : T) → P v → Q v → R v) → IfSome r R
both_some None p q f = tt
both_some (Some v) p q f = f v p q

module _ (x : Grammar) where
  -- exactly those numbers in another set
  pub led_of_copy : (n : ExpandedName) (kids : Trees) (s t : Numbers) → ((j : ℕ) → Has s j ↔ Has t j) → AreLed x n kids t → AreLed x n kids s
  led_of_copy n kids s t same led j = (λ h. (led j).0 ((same j).0 h), λ l. (same j).1 ((led j).1 l))

  pub right_moved : (a b : Auto) (s u : List Mention) (cs ds : List Class) → b ≡ a → u ≡ s → ds ≡ cs → IsFor x a s cs → IsFor x b u ds
  right_moved a b s u cs ds e f g w =
      subst (λ z. IsFor x z u ds) (sym e) (subst (λ z. IsFor x a z ds) (sym f) (subst (λ z. IsFor x a s z) (sym g) w))

  passes_grown : (symbols : List Mention) (old new : List Numbers) (c : Child) (s t : Numbers) → Grown old new → Passes x symbols old c s t → Passes x symbols new c s t
  passes_grown symbols old new Text s t g p = p
  passes_grown symbols old new (Element symbol ends) s t g (e, at, p) = (e, g ends e at, p)

  pub steps_grown : (symbols : List Mention) (old new : List Numbers) (known : KnownSteps) → Grown old new → AreSteps x symbols old known → AreSteps x symbols new known
  steps_grown symbols old new known g are = record {
    steps = All-weaker (λ (o : Option Step). IfSome o (λ (s : Step). IsStep x symbols old s.from s.child s.to)) (λ (o : Option Step). IfSome o (λ (s : Step). IsStep x symbols new s.from s.child s.to))
        (λ o h. IfSome_then o h (λ s i. record {
          first = i.first;
          last = i.last;
          first_at = g s.from i.first i.first_at;
          last_at = g s.to i.last i.last_at;
          passes = passes_grown symbols old new s.child i.first i.last g i.passes;
        })) known.places.items are.steps;
  }

  pub names_grown : (symbols : List Mention) (old new : List Numbers) (cs ds : List Class) (known : KnownNames) → Grown old new → ((k : ℕ) → IsKnown cs k → IsKnown ds k) → AreNames x symbols old cs known → AreNames x symbols new ds known
  names_grown symbols old new cs ds known g stays are = record {
    names = All-weaker (λ (o : Option Named). IfSome o (λ (k : Named). IsEntry x symbols old cs (name k.name) k.entry)) (λ (o : Option Named). IfSome o (λ (k : Named). IsEntry x symbols new ds (name k.name) k.entry))
        (λ o h. IfSome_then o h (λ k i. record {
          symbol = i.symbol;
          known = stays k.entry.symbol.0 i.known;
          states = i.states;
          states_at = g k.entry.first i.states i.states_at;
          led = i.led;
        })) known.places.items are.names;
  }

  -- what the steps keep of symbols grows, and so do the sets
  pub keeps_grown : (old new : Moves) → IsFor x new.steps.auto.now new.steps.alphabet.now new.steps.classes.items → new.steps.alphabet.now ≡ old.steps.alphabet.now
      → ((k : ℕ) → IsKnown old.steps.classes.items k → IsKnown new.steps.classes.items k) → Grown old.sets.sets.keys new.sets.sets.keys → new.known ≡ old.known → new.names ≡ old.names → AreRight x old → Keeps x old new
  keeps_grown old new right e stays g same_known same_names r =
      let steps = steps_grown old.steps.alphabet.now old.sets.sets.keys new.sets.sets.keys old.known g r.steps in
      let names = names_grown old.steps.alphabet.now old.sets.sets.keys new.sets.sets.keys old.steps.classes.items new.steps.classes.items old.names g stays r.names in
      record {
        right = record {
          right = right;
          steps = subst (λ z. AreSteps x z new.sets.sets.keys new.known) (sym e) (subst (AreSteps x old.steps.alphabet.now new.sets.sets.keys) (sym same_known) steps);
          names = subst (λ z. AreNames x z new.sets.sets.keys new.steps.classes.items new.names) (sym e) (subst (AreNames x old.steps.alphabet.now new.sets.sets.keys new.steps.classes.items) (sym same_names) names);
        };
        symbols = e;
        known = stays;
        sets = g;
      }

  -- nothing changes
  pub keeps_all : (m : Moves) → AreRight x m → Keeps x m m
  keeps_all m r = record { right = r; symbols = refl; known = λ k h. h; sets = λ k s h. h }

  -- a set is put among the others
  pub keeps_put : (old new : Moves) → new.steps.auto.now ≡ old.steps.auto.now → new.steps.alphabet.now ≡ old.steps.alphabet.now → new.steps.classes.items ≡ old.steps.classes.items
      → Grown old.sets.sets.keys new.sets.sets.keys → new.known ≡ old.known → new.names ≡ old.names → AreRight x old → Keeps x old new
  keeps_put old new a e c g same_known same_names r =
      keeps_grown old new (right_moved old.steps.auto.now new.steps.auto.now old.steps.alphabet.now new.steps.alphabet.now old.steps.classes.items new.steps.classes.items a e c r.right) e
      (λ k h. subst (λ z. IsKnown z k) (sym c) h) g same_known same_names r

  -- something more is remembered
  pub keeps_remembered : (old mid new : Moves) → new.steps ≡ mid.steps → new.sets ≡ mid.sets → (AreRight x mid → AreRight x new) → Keeps x old mid → Keeps x old new
  keeps_remembered old mid new steps sets right k = record {
    right = right k.right;
    symbols = ap (λ (z : Steps). z.alphabet.now) steps ∙ k.symbols;
    known = λ i h. subst (λ (z : Steps). IsKnown z.classes.items i) (sym steps) (k.known i h);
    sets = subst (λ (z : KnownSets). Grown old.sets.sets.keys z.sets.keys) (sym sets) k.sets;
  }

  pub step_remembered : (m new : Moves) → new.steps ≡ m.steps → new.sets ≡ m.sets → new.names ≡ m.names → AreSteps x m.steps.alphabet.now m.sets.sets.keys new.known → AreRight x m → AreRight x new
  step_remembered m new steps sets names are r = record {
    right = subst (λ (z : Steps). IsFor x z.auto.now z.alphabet.now z.classes.items) (sym steps) r.right;
    steps = subst (λ (z : Steps). AreSteps x z.alphabet.now new.sets.sets.keys new.known) (sym steps) (subst (λ (z : KnownSets). AreSteps x m.steps.alphabet.now z.sets.keys new.known) (sym sets) are);
    names = subst (λ (z : Steps). AreNames x z.alphabet.now new.sets.sets.keys z.classes.items new.names) (sym steps)
        (subst (λ (z : KnownSets). AreNames x m.steps.alphabet.now z.sets.keys m.steps.classes.items new.names) (sym sets) (subst (AreNames x m.steps.alphabet.now m.sets.sets.keys m.steps.classes.items) (sym names) r.names));
  }

  pub text_moved : (a b : Moves) (from to : States) → b.sets ≡ a.sets → IsAfterText x a from to → IsAfterText x b from to
  text_moved a b from to same i = record {
    first = i.first;
    last = i.last;
    first_at = subst (λ (z : KnownSets). AreStates z.sets.keys from i.first) (sym same) i.first_at;
    last_at = subst (λ (z : KnownSets). AreStates z.sets.keys to i.last) (sym same) i.last_at;
    passes = i.passes;
  }

  pub element_moved : (a b : Moves) (inner : Opened) (from to : States) → b.sets ≡ a.sets → b.steps ≡ a.steps → IsAfterElement x a inner from to → IsAfterElement x b inner from to
  element_moved a b inner from to same steps i = record {
    ends = i.ends;
    first = i.first;
    last = i.last;
    ends_at = subst (λ (z : KnownSets). AreStates z.sets.keys inner.states i.ends) (sym same) i.ends_at;
    first_at = subst (λ (z : KnownSets). AreStates z.sets.keys from i.first) (sym same) i.first_at;
    last_at = subst (λ (z : KnownSets). AreStates z.sets.keys to i.last) (sym same) i.last_at;
    passes = subst (λ (z : Steps). PassesElement x z.alphabet.now inner.symbol.0 i.ends i.first i.last) (sym steps) i.passes;
  }

  pub opened_moved : (a b : Moves) (n : ExpandedName) (kids : Trees) (o : Opened) → b.sets ≡ a.sets → b.steps ≡ a.steps → IsElement x a n kids o → IsElement x b n kids o
  opened_moved a b n kids o same steps i = record {
    symbol = i.symbol ∙ ap (λ (z : Steps). symbol_of z.alphabet.now n) (sym steps);
    known = subst (λ (z : Steps). IsKnown z.classes.items o.symbol.0) (sym steps) i.known;
    set = i.set;
    states = subst (λ (z : KnownSets). AreStates z.sets.keys o.states i.set) (sym same) i.states;
    led = i.led;
  }

  -- an element, where what is known grew
  pub element_kept : (old new : Moves) (n : ExpandedName) (kids : Trees) (o : Opened) → Keeps x old new → IsElement x old n kids o → IsElement x new n kids o
  element_kept old new n kids o k e = record {
    symbol = e.symbol ∙ ap (λ z. symbol_of z n) (sym k.symbols);
    known = k.known o.symbol.0 e.known;
    set = e.set;
    states = states_grown old.sets.sets.keys new.sets.sets.keys o.states e.set k.sets e.states;
    led = e.led;
  }

  -- behind a text
  pub text_learned : (old new : Moves) (from to : States) (copy passed : Numbers) → IsCopyOf old from copy → Grown old.sets.sets.keys new.sets.sets.keys → AreStates new.sets.sets.keys to passed
      → ((n : ExpandedName) (kids : Trees) (run : List ℕ) → is_white_space_only run ≡ false → AreLed x n kids copy → AreLed x n (beside kids (text run none)) passed) → IsAfterText x new from to
  text_learned old new from to copy passed (t, at, same) g put led = record {
    first = t;
    last = passed;
    first_at = states_grown old.sets.sets.keys new.sets.sets.keys from t g at;
    last_at = put;
    passes = λ n kids run white l. led n kids run white (led_of_copy n kids copy t same l);
  }

  pub text_remembered : (m : Moves) (from to : ℕ) → IsStep x m.steps.alphabet.now m.sets.sets.keys from Text to → IsAfterText x m (Numbered from) (Numbered to)
  text_remembered m from to i = record { first = i.first; last = i.last; first_at = i.first_at; last_at = i.last_at; passes = i.passes }

  pub text_step : (m : Moves) (from to : ℕ) → IsAfterText x m (Numbered from) (Numbered to) → IsStep x m.steps.alphabet.now m.sets.sets.keys from Text to
  text_step m from to i = record { first = i.first; last = i.last; first_at = i.first_at; last_at = i.last_at; passes = i.passes }

  -- behind an element
  pub element_learned : (old new : Moves) (inner : Opened) (from to : States) (ends copy passed : Numbers) → IsCopyOf old inner.states ends → IsCopyOf old from copy → Grown old.sets.sets.keys new.sets.sets.keys
      → AreStates new.sets.sets.keys to passed
      → ((n m : ExpandedName) (kids inside : Trees) → inner.symbol.0 ≡ symbol_of new.steps.alphabet.now m → AreLed x m inside ends → AreLed x n kids copy → AreLed x n (beside kids (element m inside none)) passed)
      → IsAfterElement x new inner from to
  element_learned old new inner from to ends copy passed (e, e_at, e_same) (t, at, same) g put led = record {
    ends = e;
    first = t;
    last = passed;
    ends_at = states_grown old.sets.sets.keys new.sets.sets.keys inner.states e g e_at;
    first_at = states_grown old.sets.sets.keys new.sets.sets.keys from t g at;
    last_at = put;
    passes = λ n m kids inside s i l. led n m kids inside s (led_of_copy m inside ends e e_same i) (led_of_copy n kids copy t same l);
  }

  pub element_remembered : (m : Moves) (inner : Opened) (from ends to : ℕ) → inner.states ≡ Numbered ends → IsStep x m.steps.alphabet.now m.sets.sets.keys from (Element inner.symbol ends) to → IsAfterElement x m inner (Numbered from) (Numbered to)
  element_remembered m inner from ends to is i = let (e, at, p) = i.passes in record {
    ends = e;
    first = i.first;
    last = i.last;
    ends_at = subst (λ (z : States). AreStates m.sets.sets.keys z e) (sym is) at;
    first_at = i.first_at;
    last_at = i.last_at;
    passes = p;
  }

  pub element_step : (m : Moves) (inner : Opened) (from ends to : ℕ) → inner.states ≡ Numbered ends → IsAfterElement x m inner (Numbered from) (Numbered to) → IsStep x m.steps.alphabet.now m.sets.sets.keys from (Element inner.symbol ends) to
  element_step m inner from ends to is i = record {
    first = i.first;
    last = i.last;
    first_at = i.first_at;
    last_at = i.last_at;
    passes = (i.ends, subst (λ (z : States). AreStates m.sets.sets.keys z i.ends) is i.ends_at, i.passes);
  }

  -- an element that is open, behind a text and behind an element
  pub text_behind : (old new : Moves) (n : ExpandedName) (kids : Trees) (run : List ℕ) (o after : Opened) → Keeps x old new → IsElement x old n kids o → IsAfterText x new o.states after.states → after.symbol ≡ o.symbol
      → is_white_space_only run ≡ false → IsElement x new n (beside kids (text run none)) after
  text_behind old new n kids run o after k before i same white =
      let e = element_kept old new n kids o k before in record {
        symbol = ap (λ z. z.0) same ∙ e.symbol;
        known = subst (λ z. IsKnown new.steps.classes.items z.0) (sym same) e.known;
        set = i.last;
        states = i.last_at;
        led = i.passes n kids run white (subst (AreLed x n kids) (one_states new.sets.sets.keys o.states e.set i.first e.states i.first_at) e.led);
      }

  pub element_behind : (old new : Moves) (n m : ExpandedName) (kids inside : Trees) (inner o after : Opened) → Keeps x old new → IsElement x old m inside inner → IsElement x old n kids o
      → IsAfterElement x new inner o.states after.states → after.symbol ≡ o.symbol → IsElement x new n (beside kids (element m inside none)) after
  element_behind old new n m kids inside inner o after k ended before i same =
      let e = element_kept old new n kids o k before in
      let f = element_kept old new m inside inner k ended in record {
        symbol = ap (λ z. z.0) same ∙ e.symbol;
        known = subst (λ z. IsKnown new.steps.classes.items z.0) (sym same) e.known;
        set = i.last;
        states = i.last_at;
        led = i.passes n m kids inside f.symbol (subst (AreLed x m inside) (one_states new.sets.sets.keys inner.states f.set i.ends f.states i.ends_at) f.led)
            (subst (AreLed x n kids) (one_states new.sets.sets.keys o.states e.set i.first e.states i.first_at) e.led);
      }

  -- an element where it starts, whose first states were worked out
  pub element_begun : (m : Moves) (n : ExpandedName) (o : Opened) (first : Numbers) → o.symbol.0 ≡ symbol_of m.steps.alphabet.now n → IsMet m o → AreStates m.sets.sets.keys o.states first → AreLed x n none first → IsElement x m n none o
  element_begun m n o first symbol met states led = record { symbol = symbol; known = met; set = first; states = states; led = led }
