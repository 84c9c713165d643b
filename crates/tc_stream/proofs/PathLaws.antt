-- The elements that are open, as the steps of sets of states know them.
use Rattle.std.proofs.Common.{◌≡◌, true, false, not, ℕ, List, [], ◌∷◌, ◌++◌, ap, ◌∙◌, sym, subst}
use Rattle.std.specs.List.{list_all}
use Rattle.std.proofs.lemmas.Bool.{and_right}
use Rattle.std.proofs.lemmas.List.Folds.{list_all-append}
use Rattle.tc_base.specs.Characters.{is_white}
use Rattle.tc_model.specs.Grammars.{Grammar}
use Rattle.tc_model.specs.Names.{ExpandedName}
use Rattle.tc_model.specs.RawTrees.{Bound}
use Rattle.tc_model.specs.Trees.{Trees, none, is_white_space_only}
use Rattle.tc_steps.specs.Classes.{IsFor}
use Rattle.tc_steps.specs.Open.{Open}
use Rattle.tc_steps.specs.Open as st
use Rattle.tc_steps.specs.declared.table.Steps.{Steps}
use Rattle.tc_steps.specs.declared.validity.Validity.{Validity}
use Rattle.tc_stream.specs.Goes.{Level, with_text, with_element}
use Rattle.tc_stream.specs.Keeps.{path_of, StandIn, AreSteps, entered}
use Rattle.tc_tags.specs.XmlTextTags.{WrittenElement}

-- into an element
pub steps_entered : (x : Grammar) (v : Validity) (e : WrittenElement) (n : ExpandedName) (outer : List Bound) (run : List ℕ) (ls : List Level)
    → StandIn x v (record { name = n; kids = none } ∷ st.with_text run (path_of ls)) [] → AreSteps x v (entered e n outer ∷ with_text run ls) []
steps_entered x v e n outer run [] h = h
steps_entered x v e n outer run (l ∷ ls) h = h

-- out of one
pub steps_element : (x : Grammar) (v : Validity) (n : ExpandedName) (kids : Trees) (ls : List Level) → StandIn x v (st.with_element n kids (path_of ls)) [] → AreSteps x v (with_element n kids ls) []
steps_element x v n kids [] h = h
steps_element x v n kids (l ∷ ls) h = h

-- over characters that aren't white space alone
more_text : (run text : List ℕ) → is_white_space_only text ≡ false → is_white_space_only (run ++ text) ≡ false
more_text run text e = list_all-append is_white run text ∙ and_right (list_all is_white run) (list_all is_white text) e

pub steps_text : (x : Grammar) (v u : Validity) (ls : List Level) (run text : List ℕ) → u.steps ≡ v.steps → u.levels.items ≡ v.levels.items → u.depth ≡ v.depth → u.has_text ≡ true → is_white_space_only text ≡ false
    → AreSteps x v ls run → AreSteps x u ls (run ++ text)
steps_text x v u ls run text e f g h white w = record {
  right = subst (λ (s : Steps). IsFor x s.auto.now s.alphabet.now s.classes.items) (sym e) w.right;
  counted = g ∙ w.counted;
  levels_are = subst (λ (s : Steps). st.AreLevels x s.alphabet.now s.classes.items u.levels.items (path_of ls)) (sym e)
      (subst (λ z. st.AreLevels x v.steps.alphabet.now v.steps.classes.items z (path_of ls)) (sym f) w.levels_are);
  text = h ∙ ap not (sym (more_text run text white));
}
