-- Selects of attributes alone, which are read in a loop.
use Rattle.std.proofs.Common.{◌≡◌, ℕ, Bool, true, false, ◌&&◌, ◌||◌, MatchBool, List, [], ◌∷◌, refl, ap, sym, subst, length, arith}
use Rattle.tc_model.specs.RawTrees.{Bound}
use Rattle.tc_model.specs.Sheets.{Steps, Path, no_alternative}
use Rattle.tc_model.specs.PathTextTokens.{bar, Token, mark, Tokens, IsTooDeep}
use Rattle.tc_model.specs.PathText.{AttributesText}
use Rattle.tc_model.proofs.PathTextLexing.{tokens_unique}
use Rattle.tc_model.specs.PathTextPhrases as p
use Rattle.tc_model.specs.PathTextPhrases.{Lacks, OtherNodeAt, Form, lone, longer, dropped, alternative_before, is_dropped, AlternativeAt, from_children, from_descendants, SelectAt, AttributesAlternativeAt, attributes_of_children, attributes_of_descendants, AttributesAt, last_attributes, one_attributes}
use Rattle.tc_model.proofs.ViewsPath.{alternatives_then}
use Rattle.tc_model.proofs.PathTextUnique.{same_others, steps_open, no_other_path, alternative_unique, select_unique}
use Rattle.tc_path.specs.Phrases.{EndsIn}
use Rattle.tc_path.proofs.StepLoops.{SelectsRead, selects_first, selects_more, selects_end, selects_fail}

module _ (scope : List Bound) where
  attributes_alternative : {ts r : List Token} → AttributesAlternativeAt scope ts r → (ss : Steps) × AlternativeAt scope ts ss dropped r
  attributes_alternative (attributes_of_children {ss = ss} a) = (ss, from_children a)
  attributes_alternative (attributes_of_descendants {ss = ss} a) = (ss, from_descendants a)

  -- which alternatives end in an attribute step
  ending : {ts r : List Token} {ss : Steps} {f : Form} → AlternativeAt scope ts ss f r → f ≡ dropped → ((r : List Token) → OtherNodeAt ts r → ⊥) → AttributesAlternativeAt scope ts r
  ending {ts} {r} {ss} (from_children a) e h = attributes_of_children (subst (λ f. p.StepsAt scope false ts ss f r) e a)
  ending {r = r} {ss = ss} (from_descendants {ts = i} a) e h = attributes_of_descendants (subst (λ f. p.StepsAt scope true i ss f r) e a)
  ending {r = r} (p.AlternativeAt.other_node a) e h = absurd (h r a)

  no_other : {ts r s : List Token} → OtherNodeAt ts s → AttributesAlternativeAt scope ts r → ⊥
  no_other o (attributes_of_children a) = no_other_path o (steps_open a)
  no_other o (attributes_of_descendants a) = elim o [ ]

  pub told_so : {ts r : List Token} {ss : Steps} {f : Form} (other ends : Bool) → AlternativeAt scope ts ss f r → MatchBool other ((s : List Token) × OtherNodeAt ts s) ((s : List Token) → OtherNodeAt ts s → ⊥)
      → MatchBool ends ((f ≡ dropped) × (other ≡ false)) ((f ≡ dropped) × (other ≡ false) → ⊥) → EndsIn scope ts ends r
  told_so {ts} {r} {ss} {f} other true a h (e, g) = record { steps = ss; form = f; read = a; told = ending a e (subst (λ b. MatchBool b ((s : List Token) × OtherNodeAt ts s) ((s : List Token) → OtherNodeAt ts s → ⊥)) g h) }
  told_so {ts} {r} {ss} {f} true false a (s, o) n = record { steps = ss; form = f; read = a; told = λ b. no_other o b }
  told_so {ts} {r} {ss} {f} false false a h n = record { steps = ss; form = f; read = a; told = λ b. n ((alternative_unique scope a (attributes_alternative b).1).same_form, refl) }

  -- the alternatives that were read, of which the last stands before the rest, and whether all end in attribute steps
  pub record AttributesRead (ts : List Token) (all : Bool) (rest : List Token) : Type 0 where
    pub path : Path
    pub drops : Bool
    pub selects : SelectsRead scope ts path drops rest
    pub prior : List Token
    pub steps : Steps
    pub form : Form
    pub read : AlternativeAt scope prior steps form rest
    pub back : (after : List Token) → AttributesAt scope ts after → AttributesAt scope prior after
    pub told : MatchBool all (((after : List Token) → AttributesAt scope prior after → AttributesAt scope ts after) × AttributesAlternativeAt scope prior rest)
        ((after : List Token) → AttributesAt scope ts after → ⊥)

  head : {ts after : List Token} → AttributesAt scope ts after → (r : List Token) × AttributesAlternativeAt scope ts r
  head (last_attributes {after = r} a h) = (r, a)
  head (one_attributes {rest = r} a b) = (mark bar ∷ r, a)

  same_rest : {ts rest r : List Token} {ss : Steps} {f : Form} → AlternativeAt scope ts ss f rest → AttributesAlternativeAt scope ts r → rest ≡ r
  same_rest a b = (alternative_unique scope a (attributes_alternative b).1).same_after

  behind : {ts next after : List Token} {ss : Steps} {f : Form} → AlternativeAt scope ts ss f (mark bar ∷ next) → AttributesAt scope ts after → AttributesAt scope next after
  behind {next = next} a (last_attributes b h) = absurd (h next (sym (same_rest a b)))
  behind {after = r} a (one_attributes b c) = subst (λ w. AttributesAt scope w r) (sym (same_others (same_rest a b))) c

  not_ending : {ts rest after : List Token} {ss : Steps} {f : Form} → AlternativeAt scope ts ss f rest → (AttributesAlternativeAt scope ts rest → ⊥) → AttributesAt scope ts after → ⊥
  not_ending {ts} a h b = let (r, x) = head b in h (subst (AttributesAlternativeAt scope ts) (sym (same_rest a x)) x)

  pub attributes_first : {ts rest : List Token} (ends : Bool) → EndsIn scope ts ends rest → AttributesRead ts ends rest
  attributes_first {ts} {rest} ends e = record {
    path = alternative_before e.form e.steps no_alternative;
    drops = is_dropped e.form || false;
    selects = selects_first scope e.read refl refl;
    prior = ts;
    steps = e.steps;
    form = e.form;
    read = e.read;
    back = λ after a. a;
    told = by ends e.told;
  }
    where
      by : (b : Bool) → MatchBool b (AttributesAlternativeAt scope ts rest) (AttributesAlternativeAt scope ts rest → ⊥)
          → MatchBool b (((after : List Token) → AttributesAt scope ts after → AttributesAt scope ts after) × AttributesAlternativeAt scope ts rest) ((after : List Token) → AttributesAt scope ts after → ⊥)
      by true h = (λ after a. a, h)
      by false h = λ after a. not_ending e.read h a

  pub attributes_more : {ts rest next after : List Token} (all ends : Bool) → AttributesRead ts all rest → rest ≡ mark bar ∷ next → EndsIn scope next ends after → AttributesRead ts (all && ends) after
  attributes_more {ts} {rest = rest} {next = next} {after = after} all ends so k e = record {
    path = alternatives_then so.path (alternative_before e.form e.steps no_alternative);
    drops = is_dropped e.form || so.drops;
    selects = selects_more scope so.selects k e.read refl refl;
    prior = next;
    steps = e.steps;
    form = e.form;
    read = e.read;
    back = λ r a. behind read (so.back r a);
    told = by all ends so.told e.told;
  }
    where
      read : AlternativeAt scope so.prior so.steps so.form (mark bar ∷ next)
      read = subst (AlternativeAt scope so.prior so.steps so.form) k so.read

      by : (a b : Bool) → MatchBool a (((r : List Token) → AttributesAt scope so.prior r → AttributesAt scope ts r) × AttributesAlternativeAt scope so.prior rest) ((r : List Token) → AttributesAt scope ts r → ⊥)
          → MatchBool b (AttributesAlternativeAt scope next after) (AttributesAlternativeAt scope next after → ⊥)
          → MatchBool (a && b) (((r : List Token) → AttributesAt scope next r → AttributesAt scope ts r) × AttributesAlternativeAt scope next after) ((r : List Token) → AttributesAt scope ts r → ⊥)
      by true true (forth, x) h = (λ r a. forth r (one_attributes (subst (AttributesAlternativeAt scope so.prior) k x) a), h)
      by true false (forth, x) h = λ r a. not_ending e.read h (behind read (so.back r a))
      by false b never h = never

  pub attributes_end : {ts rest : List Token} (all : Bool) → AttributesRead ts all rest → rest ≡ [] → MatchBool all (AttributesAt scope ts []) (AttributesAt scope ts [] → ⊥)
  attributes_end {ts} {rest} all so e = by all so.told
    where
      no_bar : Lacks (mark bar) []
      no_bar r f = omega (arith, ap length f)

      by : (a : Bool) → MatchBool a (((r : List Token) → AttributesAt scope so.prior r → AttributesAt scope ts r) × AttributesAlternativeAt scope so.prior rest) ((r : List Token) → AttributesAt scope ts r → ⊥)
          → MatchBool a (AttributesAt scope ts []) (AttributesAt scope ts [] → ⊥)
      by true (forth, x) = forth [] (last_attributes (subst (AttributesAlternativeAt scope so.prior) e x) no_bar)
      by false refuses = refuses []

  pub attributes_select_end : {ts rest : List Token} {all : Bool} → AttributesRead ts all rest → rest ≡ [] → (q : Path) × (drops : Bool) × SelectAt scope ts q drops []
  attributes_select_end {ts} so e =
      let a = selects_end scope (subst (SelectsRead scope ts so.path so.drops) e so.selects) (λ r f. omega (arith, ap length f)) in
      (so.path, so.drops, a)

  pub attributes_fail : {ts rest next : List Token} {all : Bool} → AttributesRead ts all rest → rest ≡ mark bar ∷ next → ((ss : Steps) (f : Form) (r : List Token) → AlternativeAt scope next ss f r → ⊥)
      → (q : Path) (drops : Bool) → SelectAt scope ts q drops [] → ⊥
  attributes_fail so e h q drops a = selects_fail scope so.selects e h q drops [] a

  pub attributes_go_on : {ts rest : List Token} {all : Bool} → AttributesRead ts all rest → Lacks (mark bar) rest → (rest ≡ [] → ⊥) → (q : Path) (drops : Bool) → SelectAt scope ts q drops [] → ⊥
  attributes_go_on so l h q drops a = h (select_unique scope (selects_end scope so.selects l) a).2

-- the text of attributes alone, or not
pub attributes_text : (scope : List Bound) {text : List ℕ} {ts : List Token} (all : Bool) → Tokens text ts → (IsTooDeep ts → ⊥) → MatchBool all (AttributesAt scope ts []) (AttributesAt scope ts [] → ⊥)
    → MatchBool all (AttributesText scope text) (AttributesText scope text → ⊥)
attributes_text scope {ts = ts} true a h b = record { tokens = ts; are_tokens = a; not_too_deep = h; phrase = b }
attributes_text scope {text} {ts} false a h refuses = λ f. refuses (subst (λ w. AttributesAt scope w []) (tokens_unique f.are_tokens a) f.phrase)
