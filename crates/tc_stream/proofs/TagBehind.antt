-- What stands behind a tag that is read.
use Rattle.std.proofs.Common.{◌≡◌, ◌≢◌, ℕ, ◌<◌, ◌≤◌, ◌+◌, Bool, true, false, if◌then◌else◌, List, [], ◌∷◌, ◌++◌, refl, ap, ◌∙◌, sym, subst, length, arith, codes, length-append}
use Rattle.std.specs.Prelude.{◌↔◌, IsTrue, reverse}
use Rattle.tc_model.specs.Grammars.{Grammar}
use Rattle.tc_model.specs.Names.{ExpandedName, IsChars}
use Rattle.tc_model.specs.RawTrees.{Attribute, Bound}
use Rattle.tc_model.specs.Trees.{none, beside, kept}
use Rattle.tc_model.specs.XmlTextNames.{QNameAt}
use Rattle.tc_model.specs.XmlTextScopes.{TagMeans, WrittenAttribute}
use Rattle.tc_model.proofs.XmlTextChars.{join_chars}
use Rattle.tc_steps.specs.Led.{IsStarted}
use Rattle.tc_tags.specs.XmlTextTags.{WrittenElement, TagFormAt, EndTagAt, names_length}
use Rattle.tc_stream.specs.XmlTextMeasures.{longest_tag, most_names}
use Rattle.tc_stream.specs.Outcomes.{Outcome, Comes}
use Rattle.tc_stream.specs.Goes.{Level, used, depth_left, with_text, with_element}
use Rattle.tc_stream.specs.From.{open_in, ended, StillComes}
use Rattle.tc_stream.specs.Faults.{IsFaultOfFront}
use Rattle.tc_tags.specs.Forms.{FormRead}
use Rattle.tc_stream.specs.Keeps.{AreLevels, AreSteps, Keeps, NoStart, Starts, entered}
use Rattle.tc_stream.specs.Keeps as k
use Rattle.tc_stream.specs.Stands as stands
use Rattle.tc_stream.specs.TagStands.{StandsBehind, TagStands, TellsNoElement}
use Rattle.tc_tags.specs.Written.{bindings_of}
use Rattle.tc_stream.specs.declared.elements.Elements.{Elements}
use Rattle.tc_stream.specs.declared.elements.Level as code
use Rattle.tc_stream.specs.declared.elements.NoElement.{NoElement}
use Rattle.tc_stream.specs.declared.elements.NoElement.TheVariants as reasons
use Rattle.tc_stream.specs.declared.faults.StreamFault.{StreamFault}
use Rattle.tc_stream.specs.declared.faults.StreamFault.TheVariants as faults
use Rattle.tc_stream.specs.declared.phases.Phase.TheVariants as phases
use Rattle.tc_tags.specs.declared.scopes.Declared.{Declared}
use Rattle.tc_tags.specs.declared.tags.Form.{Form}
use Rattle.tc_tags.proofs.TagLaws.{EndsAt, open_end, empty_end}
use Rattle.tc_stream.proofs.TagExtendLaws.{SameBut, none_same, one_same, means_same}
use Rattle.tc_stream.proofs.OpenSteps.{start_step, empty_step, end_step}
use Rattle.tc_stream.proofs.NamesSteps.{many_step}
use Rattle.tc_stream.proofs.KeepsLaws.{as_deep, none_kept}
use Rattle.tc_stream.proofs.TagMeanings.{rebased, length_same, bindings_same, meaningless_step}
use Rattle.tc_stream.proofs.TagFaults.{alone, names_fault, nothing_fault}

-- the level of an element with the places of the whole text

level_moved : {names : List ℕ} {declared : List Declared} (e w : WrittenElement) (n : ExpandedName) (outer : List Bound) {c : code.Level} → w.name ≡ e.name → SameBut e.attributes w.attributes
    → k.IsLevel names declared (entered e n outer) c → k.IsLevel names declared (entered w n outer) c
level_moved {names} {declared} e w n outer {c} name same h =
    let count : length (bindings_of e.attributes) ≡ length (bindings_of w.attributes) = ap length (bindings_same same) in
    let long : names_length w ≡ names_length e = length_same e w name same in
    record {
      written = h.written ∙ ap k.written_bytes (sym name);
      named = subst (λ z. QNameAt (k.written_bytes z) z []) (sym name) h.named;
      names_more = h.names_more ∙ ap (λ z. z + c.names) (sym long);
      declared_more = h.declared_more ∙ ap (λ z. z + c.declared) count;
      holds = h.holds;
      within = h.within;
      few = let f = h.few in omega (arith, f, count, long);
    }

levels_moved : (names : List ℕ) (declared : List Declared) (e w : WrittenElement) (n : ExpandedName) (outer : List Bound) (ls : List Level) (cs : List code.Level) → w.name ≡ e.name → SameBut e.attributes w.attributes
    → AreLevels names declared (entered e n outer ∷ ls) cs → AreLevels names declared (entered w n outer ∷ ls) cs
levels_moved names declared e w n outer ls [] name same h = h
levels_moved names declared e w n outer ls (c ∷ cs) name same h = (level_moved e w n outer name same h.0, h.1)

pub keeps_moved : (s : Elements) (e w : WrittenElement) (n : ExpandedName) (outer scope : List Bound) (ls : List Level) → w.name ≡ e.name → SameBut e.attributes w.attributes → Keeps s (entered e n outer ∷ ls) scope
    → Keeps s (entered w n outer ∷ ls) scope
keeps_moved s e w n outer scope ls name same h = record {
  are_open = record { levels_are = levels_moved s.rooms.names.bytes.items s.rooms.scopes.declared.items e w n outer ls (reverse s.levels.items) name same h.are_open.levels_are; holds = h.are_open.holds; kept = h.are_open.kept; deep = h.are_open.deep };
  texts = h.texts;
}

-- elements are open where one is kept

some_levels : (s : Elements) (l : Level) (ls : List Level) (scope : List Bound) → Keeps s (l ∷ ls) scope → s.levels.items ≡ [] → ⊥
some_levels s l ls scope h e = omega (arith, ap length e, as_deep h)

-- behind a start tag

behind_start : (x : Grammar) (new : Elements) (n : ℕ) (item chars : List ℕ) (ls : List Level) (outer scope : List Bound) (run : List ℕ) (e : WrittenElement) (name : ExpandedName) (a : List Attribute)
    → length chars ≡ n + length item → IsChars chars → IsChars item → ((r : List ℕ) (o : Outcome) → Comes (chars ++ r) o ↔ StillComes n phases.Content (open_in ls outer run) (item ++ r) o) → 0 < depth_left ls
    → length item ≤ longest_tag → TagFormAt false (n + length item) item e (0x3E ∷ []) → names_length e + used ls ≤ most_names → TagMeans outer e.name e.attributes scope name a
    → Keeps new (entered e name outer ∷ with_text run ls) scope → AreSteps x new.validity (entered e name outer ∷ with_text run ls) [] → StandsBehind x new chars
behind_start x new n item chars ls outer scope run e name a long whole part comes some low form few means keeps steps = record {
  phase = phases.Content;
  standing = open_in (entered e name outer ∷ with_text run ls) scope [];
  characters = whole;
  tells = stands.within keeps steps;
  inside = λ h. refl;
  outside = λ h. absurd (some_levels new (entered e name outer) (with_text run ls) scope keeps h);
  comes = λ r o.
      let step = start_step n item r ls outer scope run e name a o part some form low few means in
      subst (λ z. Comes (chars ++ r) o ↔ StillComes z phases.Content (open_in (entered e name outer ∷ with_text run ls) scope []) r o) (sym long)
      ((λ g. step.0 ((comes r o).0 g)), (λ g. (comes r o).1 (step.1 g)));
}

-- behind an empty-element tag

behind_empty : (x : Grammar) (new : Elements) (n : ℕ) (item chars : List ℕ) (ls : List Level) (outer scope : List Bound) (run : List ℕ) (e : WrittenElement) (name : ExpandedName) (a : List Attribute)
    → length chars ≡ n + length item → IsChars chars → IsChars item → ((r : List ℕ) (o : Outcome) → Comes (chars ++ r) o ↔ StillComes n phases.Content (open_in ls outer run) (item ++ r) o) → 0 < depth_left ls
    → length item ≤ longest_tag → TagFormAt false (n + length item) item e (codes "/>") → names_length e + used ls ≤ most_names → TagMeans outer e.name e.attributes scope name a
    → Keeps new (with_element name none (with_text run ls)) outer → AreSteps x new.validity (with_element name none (with_text run ls)) []
    → (ls ≡ [] → IsTrue new.validity.is_valid ↔ IsStarted x name none) → StandsBehind x new chars
behind_empty x new n item chars [] outer scope run e name a long whole part comes some low form few means keeps steps valid = record {
  phase = phases.End;
  standing = ended name none;
  characters = whole;
  tells = stands.behind (none_kept keeps) (valid refl);
  inside = λ h. absurd (h (none_kept keeps));
  outside = λ h. refl;
  comes = λ r o.
      let step = empty_step n item r [] outer scope run e name a o part some form low few means in
      subst (λ z. Comes (chars ++ r) o ↔ StillComes z phases.End (ended name none) r o) (sym long) ((λ g. step.0 ((comes r o).0 g)), (λ g. (comes r o).1 (step.1 g)));
}
behind_empty x new n item chars (l ∷ ls) outer scope run e name a long whole part comes some low form few means keeps steps valid = record {
  phase = phases.Content;
  standing = open_in (with_element name none (with_text run (l ∷ ls))) outer [];
  characters = whole;
  tells = stands.within keeps steps;
  inside = λ h. refl;
  outside = λ h. absurd (omega (arith, ap length h, as_deep keeps));
  comes = λ r o.
      let step = empty_step n item r (l ∷ ls) outer scope run e name a o part some form low few means in
      subst (λ z. Comes (chars ++ r) o ↔ StillComes z phases.Content (open_in (with_element name none (with_text run (l ∷ ls))) outer []) r o) (sym long)
      ((λ g. step.0 ((comes r o).0 g)), (λ g. (comes r o).1 (step.1 g)));
}

-- behind an end tag

behind_end : (x : Grammar) (new : Elements) (n : ℕ) (item chars : List ℕ) (l : Level) (ls : List Level) (scope : List Bound) (run : List ℕ) → length chars ≡ n + length item → IsChars chars → IsChars item
    → ((r : List ℕ) (o : Outcome) → Comes (chars ++ r) o ↔ StillComes n phases.Content (open_in (l ∷ ls) scope run) (item ++ r) o) → length item ≤ longest_tag → EndTagAt l.written.name item []
    → Keeps new (with_element l.name (beside l.kids (kept run none)) ls) l.outer → AreSteps x new.validity (with_element l.name (beside l.kids (kept run none)) ls) []
    → (ls ≡ [] → IsTrue new.validity.is_valid ↔ IsStarted x l.name (beside l.kids (kept run none))) → StandsBehind x new chars
behind_end x new n item chars l [] scope run long whole part comes low form keeps steps valid = record {
  phase = phases.End;
  standing = ended l.name (beside l.kids (kept run none));
  characters = whole;
  tells = stands.behind (none_kept keeps) (valid refl);
  inside = λ h. absurd (h (none_kept keeps));
  outside = λ h. refl;
  comes = λ r o.
      let step = end_step n item r l [] scope run o part form low in
      subst (λ z. Comes (chars ++ r) o ↔ StillComes z phases.End (ended l.name (beside l.kids (kept run none))) r o) (sym long) ((λ g. step.0 ((comes r o).0 g)), (λ g. (comes r o).1 (step.1 g)));
}
behind_end x new n item chars l (i ∷ ls) scope run long whole part comes low form keeps steps valid = record {
  phase = phases.Content;
  standing = open_in (with_element l.name (beside l.kids (kept run none)) (i ∷ ls)) l.outer [];
  characters = whole;
  tells = stands.within keeps steps;
  inside = λ h. refl;
  outside = λ h. absurd (omega (arith, ap length h, as_deep keeps));
  comes = λ r o.
      let step = end_step n item r l (i ∷ ls) scope run o part form low in
      subst (λ z. Comes (chars ++ r) o ↔ StillComes z phases.Content (open_in (with_element l.name (beside l.kids (kept run none)) (i ∷ ls)) l.outer []) r o) (sym long)
      ((λ g. step.0 ((comes r o).0 g)), (λ g. (comes r o).1 (step.1 g)));
}

-- as the tags are kept

whole_chars : {x : Grammar} {e : Elements} {place : ℕ} {item chars : List ℕ} (t : TagStands x e place item chars) → IsChars chars
whole_chars {item = item} t = subst IsChars (sym t.parts_are) (join_chars t.before item t.before_chars t.item_chars)

at_before : {x : Grammar} {e : Elements} {place : ℕ} {item chars : List ℕ} (t : TagStands x e place item chars) → length chars ≡ length t.before + length item
at_before {item = item} t = ap length t.parts_are ∙ length-append t.before item

pub starts_behind : {x : Grammar} {old : Elements} {place : ℕ} {item chars : List ℕ} (t : TagStands x old place item chars) (new : Elements) (f : Form) (e : WrittenElement) → length item ≤ longest_tag → 0 < depth_left t.ls
    → FormRead item f e → Starts old new t.ls t.scope e f.is_empty → StandsBehind x new chars
starts_behind {x} {old} {place} {item} {chars} t new f e low some read s = by f.is_empty refl read.form
  where
    by : (b : Bool) → f.is_empty ≡ b → TagFormAt false (length item) item e (if f.is_empty then codes "/>" else codes ">") → StandsBehind x new chars
    by false is form =
        let moved = rebased (length t.before + length item) (subst (λ b. TagFormAt false (length item) item e (if b then codes "/>" else codes ">")) is form) in
        let means = means_same moved.same s.means in
        behind_start x new (length t.before) item chars t.ls t.scope s.scope t.run moved.element s.name means.expanded (at_before t) (whole_chars t) t.item_chars t.comes some low moved.form
        (subst (λ z. z + used t.ls ≤ most_names) (sym (length_same e moved.element moved.same_name moved.same)) s.few)
        (subst (λ z. TagMeans t.scope z moved.element.attributes s.scope s.name means.expanded) (sym moved.same_name) means.means)
        (keeps_moved new e moved.element s.name t.scope s.scope (with_text t.run t.ls) moved.same_name moved.same (s.opens is t.run)) (s.steps_open is x t.run t.steps)
    by true is form =
        let moved = rebased (length t.before + length item) (subst (λ b. TagFormAt false (length item) item e (if b then codes "/>" else codes ">")) is form) in
        let means = means_same moved.same s.means in
        behind_empty x new (length t.before) item chars t.ls t.scope s.scope t.run moved.element s.name means.expanded (at_before t) (whole_chars t) t.item_chars t.comes some low moved.form
        (subst (λ z. z + used t.ls ≤ most_names) (sym (length_same e moved.element moved.same_name moved.same)) s.few)
        (subst (λ z. TagMeans t.scope z moved.element.attributes s.scope s.name means.expanded) (sym moved.same_name) means.means) (s.bare is t.run) (s.steps_bare is x t.run t.steps)
        (λ h. s.valid is h x t.run (subst (λ z. AreSteps x old.validity z t.run) h t.steps))

-- why no element is gone into

same_back : {l k : List WrittenAttribute} → SameBut l k → SameBut k l
same_back none_same = none_same
same_back (one_same h) = one_same (same_back h)

ends_by : (b : Bool) → EndsAt (if b then codes "/>" else codes ">") []
ends_by true = empty_end refl
ends_by false = open_end refl

pub no_start_fault : {x : Grammar} {old : Elements} {place : ℕ} {item chars : List ℕ} (t : TagStands x old place item chars) (f : Form) (e : WrittenElement) → length item ≤ longest_tag → 0 < depth_left t.ls → FormRead item f e
    → (reason : NoElement) (fault : StreamFault) → NoStart reason t.ls t.scope e → TellsNoElement fault reason place → IsFaultOfFront chars fault
no_start_fault {item = item} t f e low some read reasons.NamesTooLong faults.NamesTooLong h says =
    let moved = rebased (length t.before + length item) read.form in
    names_fault t item [] (length t.before + length item) (alone item)
    (λ r o. many_step (length t.before) item (if f.is_empty then codes "/>" else codes ">") r t.ls t.scope t.run moved.element o t.item_chars some moved.form (ends_by f.is_empty) low
    (subst (λ z. most_names < z + used t.ls) (sym (length_same e moved.element moved.same_name moved.same)) h))
no_start_fault {place = place} {item} t f e low some read reasons.Malformed (faults.Malformed p) h says =
    let moved = rebased (length t.before + length item) read.form in
    let back : SameBut moved.element.attributes e.attributes = same_back moved.same in
    nothing_fault t item [] p (alone item) (omega (arith, says))
    (λ r o. meaningless_step (length t.before) item (if f.is_empty then codes "/>" else codes ">") r t.ls t.scope t.run moved.element o t.item_chars some moved.form (ends_by f.is_empty) low
    (subst (λ z. z + used t.ls ≤ most_names) (sym (length_same e moved.element moved.same_name moved.same)) h.0)
    (λ scope name a means.
    let other = means_same back (subst (λ z. TagMeans t.scope z moved.element.attributes scope name a) moved.same_name means) in
    h.1 scope name other.expanded other.means))
no_start_fault t f e low some read _ _ h says = absurd says

-- the element that ends

pub ends_behind : {x : Grammar} {old : Elements} {place : ℕ} {item chars : List ℕ} (t : TagStands x old place item chars) (new : Elements) → length item ≤ longest_tag → t.ls ≢ []
    → ((l : Level) (ls : List Level) (scope : List Bound) → Keeps old (l ∷ ls) scope → EndTagAt l.written.name item [])
    → ((l : Level) (ls : List Level) (scope : List Bound) (run : List ℕ) → Keeps old (l ∷ ls) scope → Keeps new (with_element l.name (beside l.kids (kept run none)) ls) l.outer)
    → ((l : Level) (ls : List Level) (run : List ℕ) → AreSteps x old.validity (l ∷ ls) run → length old.levels.items ≡ length ls + 1 → AreSteps x new.validity (with_element l.name (beside l.kids (kept run none)) ls) [])
    → ((l : Level) (run : List ℕ) → AreSteps x old.validity (l ∷ []) run → length old.levels.items ≡ 1 → IsTrue new.validity.is_valid ↔ IsStarted x l.name (beside l.kids (kept run none)))
    → StandsBehind x new chars
ends_behind {x} {old} {place} {item} {chars} t new low some form keeps steps valid = by t.ls t.keeps t.steps t.comes some
  where
    by : (ls : List Level) → Keeps old ls t.scope → AreSteps x old.validity ls t.run → ((r : List ℕ) (o : Outcome) → Comes (chars ++ r) o ↔ StillComes (length t.before) phases.Content (open_in ls t.scope t.run) (item ++ r) o)
        → ls ≢ [] → StandsBehind x new chars
    by [] h s comes some = absurd (some refl)
    by (l ∷ ls) h s comes some =
        behind_end x new (length t.before) item chars l ls t.scope t.run (at_before t) (whole_chars t) t.item_chars comes low (form l ls t.scope h) (keeps l ls t.scope t.run h)
        (steps l ls t.run s (omega (arith, as_deep h)))
        (λ e. valid l t.run (subst (λ z. AreSteps x old.validity (l ∷ z) t.run) e s) (omega (arith, as_deep h, ap length e)))
