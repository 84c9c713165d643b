-- What is said of a whole stylesheet and its faults.
use Rattle.std.proofs.Common.{◌≡◌, inl, inr, ℕ, Bool, true, false, ◌||◌, List, [], ◌∷◌, ◌++◌, refl, ap, ◌∙◌, sym, subst, Option, None, Some, All, Contains, if◌then◌else◌, arith}
use Rattle.std.specs.Prelude.{filter, is_some}
use Rattle.std.specs.List.{IsDistinct}
use Rattle.std.proofs.lemmas.List.Elements.{All-cons, All-contains, Contains-append_right}
use Rattle.tc_model.specs.Names.{ExpandedName, same_name}
use Rattle.tc_model.specs.RawTrees.{Attribute, RawTrees, element}
use Rattle.tc_model.specs.Views.{place}
use Rattle.tc_model.specs.Sheets.{Sheet}
use Rattle.tc_model.specs.SheetTextTrees.{Template, makes_rules, is_used}
use Rattle.tc_model.specs.SheetTextPhrases as p
use Rattle.tc_model.specs.SheetTextPhrases.{tag, AreTemplates, IsStylesheet}
use Rattle.tc_model.specs.SheetText.{one_name, names_of, IsDefined, IsUndefined, IsLoop, StandingCall, calls_of, SheetText, IsFirst, SheetFault as Fails, undefined, call_loop, SheetFails, of_undefined, of_loop}
use Rattle.tc_model.proofs.SheetTextUnique.{one_sheet_fault}
use Rattle.tc_sheet.specs.LookedAt.{at_top, of_element, IsIn, IsLookedAt, IsAt, IsUnrefused}
use Rattle.tc_sheet.specs.LookedAt as looked
use Rattle.tc_sheet.specs.Changes.{Change, mended, flattened, both, TakesAway, Exchanges, ChangedAttributes, no_attribute, as_it_is, an_exchange, Changed, no_tree, a_text, an_element, taken_away}
use Rattle.tc_sheet.specs.Faults.{OfAllWith, IsNoneWith, IsCause, NamesAgain, IsUnsupported, IsTooDeep, IsUndefinedAt, IsLoopAt, IsMalformedAt, IsNoFaultOfCalls}
use Rattle.tc_sheet.specs.Graphs.{IsCallFault}
use Rattle.tc_sheet.specs.Tables.{IsNamedAgain, IsTwice}
use Rattle.tc_sheet.specs.declared.faults.SheetFault.{SheetFault}
use Rattle.tc_sheet.specs.declared.faults.SheetFault.TheVariants.{Malformed, Unsupported, TooDeep, Undefined, CallLoop, NoMemory}
use Rattle.tc_sheet.proofs.Changes.{as_they_are}
use Rattle.tc_sheet.proofs.SameBodies.{stylesheet_same}
use Rattle.tc_sheet.proofs.Unrefused.{template_unrefused}
use Rattle.tc_sheet.proofs.Refusals.{moved, covers_beside_text, covers_rest}
use Rattle.tc_sheet.proofs.NamedAgain.{not_once, named_there, one_place}

-- a change of one kind is one of both
takes_widened : (c : Change) (n : ExpandedName) → TakesAway c n → TakesAway both n
takes_widened mended n t = t
takes_widened flattened n t = absurd t
takes_widened both n t = t

exchange_widened : (c : Change) {s t : List ℕ} → Exchanges c s t → Exchanges both s t
exchange_widened mended x = inl x
exchange_widened flattened x = inr x
exchange_widened both x = x

attributes_widened : (c : Change) {olds bs : List Attribute} → ChangedAttributes c olds bs → ChangedAttributes both olds bs
attributes_widened c no_attribute = no_attribute
attributes_widened c (as_it_is h) = as_it_is (attributes_widened c h)
attributes_widened c (an_exchange e x h) = an_exchange e (exchange_widened c x) (attributes_widened c h)

widened : (c : Change) {h k : RawTrees} → Changed c h k → Changed both h k
widened c no_tree = no_tree
widened c (a_text h) = a_text (widened c h)
widened c (an_element x i h) = an_element (attributes_widened c x) (widened c i) (widened c h)
widened c (taken_away {n = n} t h) = taken_away (takes_widened c n t) (widened c h)

-- the faults of a tree that is no stylesheet with different names
module _ (raw : RawTrees) where
  pub always_unsupported : (x : SheetFault) → IsCause raw x → IsNoFaultOfCalls x → (changed : RawTrees) (s : Sheet) → Changed mended raw changed → SheetText changed s → IsUnsupported x
  always_unsupported (Malformed q) a n changed s h t = not_once (a.1 changed t.templates (widened mended h) t.written) t.once
  always_unsupported (Unsupported q why) a n changed s h t = tt
  always_unsupported (TooDeep q) a n changed s h t = a.1 changed t.templates h t.written
  always_unsupported (Undefined q) a n changed s h t = n
  always_unsupported (CallLoop q) a n changed s h t = n
  always_unsupported NoMemory a n changed s h t = tt

  pub always_deep : (x : SheetFault) → IsCause raw x → IsNoFaultOfCalls x → (changed : RawTrees) (s : Sheet) → Changed flattened raw changed → SheetText changed s → IsTooDeep x
  always_deep (Malformed q) a n changed s h t = not_once (a.1 changed t.templates (widened flattened h) t.written) t.once
  always_deep (Unsupported q why) a n changed s h t = a.1 changed t.templates h t.written
  always_deep (TooDeep q) a n changed s h t = tt
  always_deep (Undefined q) a n changed s h t = n
  always_deep (CallLoop q) a n changed s h t = n
  always_deep NoMemory a n changed s h t = tt

  -- a tree with a fault of calls is a stylesheet with different names
  read_with : (f : Fails) (m : ℕ) → SheetFails raw f m → (ts : List Template) × IsStylesheet raw ts × IsDistinct same_name (names_of ts)
  read_with undefined m (of_undefined {templates = ts} w d f) = (ts, w, d)
  read_with call_loop m (of_loop {templates = ts} w d a f) = (ts, w, d)

  never : (f : Fails) (m : ℕ) → SheetFails raw f m → (c : Change) → IsNoneWith c raw → ⊥
  never f m a c h = let (ts, w, d) = read_with f m a in h raw ts (as_they_are c raw) w

  never_again : (f : Fails) (m q : ℕ) → SheetFails raw f m → OfAllWith both raw (λ ts. IsNamedAgain ts q) → ⊥
  never_again f m q a h = let (ts, w, d) = read_with f m a in not_once (h raw ts (as_they_are both raw) w) d

  pub no_undefined : (x : SheetFault) → IsCause raw x → IsNoFaultOfCalls x → (m : ℕ) → SheetFails raw undefined m → IsUndefinedAt m x
  no_undefined (Malformed q) a n m f = never_again undefined m (place q) f a.1
  no_undefined (Unsupported q why) a n m f = never undefined m f flattened a.1
  no_undefined (TooDeep q) a n m f = never undefined m f mended a.1
  no_undefined (Undefined q) a n m f = absurd n
  no_undefined (CallLoop q) a n m f = n
  no_undefined NoMemory a n m f = tt

  pub no_loop : (x : SheetFault) → IsCause raw x → IsNoFaultOfCalls x → (m : ℕ) → SheetFails raw call_loop m → IsLoopAt m x
  no_loop (Malformed q) a n m f = never_again call_loop m (place q) f a.1
  no_loop (Unsupported q why) a n m f = never call_loop m f flattened a.1
  no_loop (TooDeep q) a n m f = never call_loop m f mended a.1
  no_loop (Undefined q) a n m f = n
  no_loop (CallLoop q) a n m f = absurd n
  no_loop NoMemory a n m f = tt

  -- a tree that names a template again is a stylesheet but for that
  pub always_again : (x : SheetFault) → IsCause raw x → IsNoFaultOfCalls x → (m : ℕ) → NamesAgain raw m → IsMalformedAt m x
  always_again (Malformed q) a n m f = one_place (a.1 raw f.templates (as_they_are both raw) f.written) f.again
  always_again (Unsupported q why) a n m f = a.1 raw f.templates (as_they_are flattened raw) f.written
  always_again (TooDeep q) a n m f = a.1 raw f.templates (as_they_are mended raw) f.written
  always_again (Undefined q) a n m f = n
  always_again (CallLoop q) a n m f = n
  always_again NoMemory a n m f = tt

-- each template stands in the tree
templates_stand : {h : RawTrees} {ts : List Template} → AreTemplates h ts → All (λ t. IsAt (IsIn at_top h) IsUnrefused t.place) ts
templates_stand p.at_end = λ k d l. absurd (omega arith)
templates_stand (p.past_white w a) = λ k d l. moved covers_beside_text (templates_stand a k d l)
templates_stand (p.a_template {n = n} {attributes = bs} {scope = scope} {p = q} {kids = kids} {rest = rest} {t = t} {ts = ts} x a) =
    All-cons (λ u. IsAt (IsIn at_top (element n bs scope q kids rest)) IsUnrefused u.place) t ts
    (record { item = of_element (tag n bs scope q); has = looked.at_element; holds = template_unrefused n x.is_template.name; stands = sym x.place })
    (λ k d l. moved (covers_rest refl) (templates_stand a k d l))
templates_stand (p.past_declaration e a) = λ k d l. moved (covers_rest refl) (templates_stand a k d l)
templates_stand (p.past_other u v a) = λ k d l. moved (covers_rest refl) (templates_stand a k d l)

stylesheet_stands : {h : RawTrees} {ts : List Template} → IsStylesheet h ts → (t : Template) → Contains ts t → IsAt (IsLookedAt h) IsUnrefused t.place
stylesheet_stands {ts = ts} (p.a_stylesheet {kids = kids} n o v a) t has =
    moved (record { moves = λ i b. looked.within n b }) (All-contains (λ u. IsAt (IsIn at_top kids) IsUnrefused u.place) ts t (templates_stand a) has)

-- two templates of one name
module _ (raw : RawTrees) {ts : List Template} (read : IsStylesheet raw ts) where
  pub twice_cause : (x : SheetFault) → IsTwice ts x → IsCause raw x
  twice_cause (Malformed q) a = (
    subst (IsAt (IsLookedAt raw) IsUnrefused) a.stands (stylesheet_stands read a.template (named_there a)),
    λ changed us h w. subst (λ vs. IsNamedAgain vs (place q)) (stylesheet_same both h read w) a,
  )
  twice_cause (Unsupported q why) a = absurd a
  twice_cause (TooDeep q) a = absurd a
  twice_cause (Undefined q) a = absurd a
  twice_cause (CallLoop q) a = absurd a
  twice_cause NoMemory a = tt

  pub twice_no_call : (x : SheetFault) → IsTwice ts x → IsNoFaultOfCalls x
  twice_no_call (Malformed q) a = tt
  twice_no_call (Unsupported q why) a = absurd a
  twice_no_call (TooDeep q) a = absurd a
  twice_no_call (Undefined q) a = a
  twice_no_call (CallLoop q) a = a
  twice_no_call NoMemory a = tt

  -- faults of calls
  pub calls_cause : IsDistinct same_name (names_of ts) → (x : SheetFault) → IsCallFault (filter is_used ts) x → IsCause raw x
  calls_cause d (Malformed q) a = absurd a
  calls_cause d (Unsupported q why) a = absurd a
  calls_cause d (TooDeep q) a = absurd a
  calls_cause d (Undefined q) a = let (c, f, e) = a in subst (SheetFails raw undefined) e (of_undefined read d f)
  calls_cause d (CallLoop q) a = let (c, f, e) = a.1 in subst (SheetFails raw call_loop) e (of_loop read d a.0 f)
  calls_cause d NoMemory a = tt

  first_there : {X : Type 0} {P : X → Type 0} {xs : List X} {x : X} → IsFirst P xs x → Contains xs x
  first_there {x = x} f = subst (λ l. Contains l x) (sym f.parts) (Contains-append_right f.before (x ∷ f.after) x (0, omega arith, refl))

  no_undefined_there : {c : StandingCall} → IsFirst (IsUndefined (filter is_used ts)) (calls_of (filter is_used ts)) c → (k : Change) (changed : RawTrees) (s : Sheet) → Changed k raw changed → SheetText changed s → ⊥
  no_undefined_there {c} f k changed s h t =
      let same = stylesheet_same k h read t.written in
      f.holds (All-contains (λ (d : StandingCall). IsDefined (filter is_used ts) d.call) (calls_of (filter is_used ts)) c (subst (λ vs. All (λ d. IsDefined (filter is_used vs) d.call) (calls_of (filter is_used vs))) (sym same) t.defined) (first_there f))

  no_loop_there : {c : StandingCall} → IsFirst (IsLoop (filter is_used ts)) (calls_of (filter is_used ts)) c → (k : Change) (changed : RawTrees) (s : Sheet) → Changed k raw changed → SheetText changed s → ⊥
  no_loop_there {c} f k changed s h t =
      let same = stylesheet_same k h read t.written in
      All-contains (λ (d : StandingCall). IsLoop (filter is_used ts) d → ⊥) (calls_of (filter is_used ts)) c (subst (λ vs. All (λ d. IsLoop (filter is_used vs) d → ⊥) (calls_of (filter is_used vs))) (sym same) t.no_loop) (first_there f) f.holds

  pub calls_unsupported : (x : SheetFault) → IsCallFault (filter is_used ts) x → (changed : RawTrees) (s : Sheet) → Changed mended raw changed → SheetText changed s → IsUnsupported x
  calls_unsupported (Malformed q) a changed s h t = a
  calls_unsupported (Unsupported q why) a changed s h t = tt
  calls_unsupported (TooDeep q) a changed s h t = a
  calls_unsupported (Undefined q) a changed s h t = let (c, f, e) = a in no_undefined_there f mended changed s h t
  calls_unsupported (CallLoop q) a changed s h t = let (c, f, e) = a.1 in no_loop_there f mended changed s h t
  calls_unsupported NoMemory a changed s h t = tt

  pub calls_deep : (x : SheetFault) → IsCallFault (filter is_used ts) x → (changed : RawTrees) (s : Sheet) → Changed flattened raw changed → SheetText changed s → IsTooDeep x
  calls_deep (Malformed q) a changed s h t = a
  calls_deep (Unsupported q why) a changed s h t = a
  calls_deep (TooDeep q) a changed s h t = tt
  calls_deep (Undefined q) a changed s h t = let (c, f, e) = a in no_undefined_there f flattened changed s h t
  calls_deep (CallLoop q) a changed s h t = let (c, f, e) = a.1 in no_loop_there f flattened changed s h t
  calls_deep NoMemory a changed s h t = tt

  undefined_or_loop : undefined ≡ call_loop → ⊥
  undefined_or_loop e = cc

  pub calls_undefined : IsDistinct same_name (names_of ts) → (x : SheetFault) → IsCallFault (filter is_used ts) x → (m : ℕ) → SheetFails raw undefined m → IsUndefinedAt m x
  calls_undefined d (Malformed q) a m f = a
  calls_undefined d (Unsupported q why) a m f = a
  calls_undefined d (TooDeep q) a m f = a
  calls_undefined d (Undefined q) a m f = (one_sheet_fault raw undefined undefined (place q) m (calls_cause d (Undefined q) a) f).1
  calls_undefined d (CallLoop q) a m f = absurd (undefined_or_loop (one_sheet_fault raw undefined call_loop m (place q) f (calls_cause d (CallLoop q) a)).0)
  calls_undefined d NoMemory a m f = tt

  pub calls_loop : IsDistinct same_name (names_of ts) → (x : SheetFault) → IsCallFault (filter is_used ts) x → (m : ℕ) → SheetFails raw call_loop m → IsLoopAt m x
  calls_loop d (Malformed q) a m f = a
  calls_loop d (Unsupported q why) a m f = a
  calls_loop d (TooDeep q) a m f = a
  calls_loop d (Undefined q) a m f = absurd (undefined_or_loop (one_sheet_fault raw undefined call_loop (place q) m (calls_cause d (Undefined q) a) f).0)
  calls_loop d (CallLoop q) a m f = (one_sheet_fault raw call_loop call_loop (place q) m (calls_cause d (CallLoop q) a) f).1
  calls_loop d NoMemory a m f = tt

  -- names that are different don't come again
  no_again_there : IsDistinct same_name (names_of ts) → (m : ℕ) → NamesAgain raw m → ⊥
  no_again_there d m f = not_once (subst (λ vs. IsNamedAgain vs m) (sym (stylesheet_same both (as_they_are both raw) read f.written)) f.again) d

  pub calls_again : IsDistinct same_name (names_of ts) → (x : SheetFault) → IsCallFault (filter is_used ts) x → (m : ℕ) → NamesAgain raw m → IsMalformedAt m x
  calls_again d (Malformed q) a m f = absurd a
  calls_again d (Unsupported q why) a m f = a
  calls_again d (TooDeep q) a m f = a
  calls_again d (Undefined q) a m f = no_again_there d m f
  calls_again d (CallLoop q) a m f = no_again_there d m f
  calls_again d NoMemory a m f = tt

-- a template that has a name can be used
one_more : (b : Bool) (o : Option ExpandedName) (t : Template) (ts us : List Template) → t.name ≡ o → names_of ts ≡ names_of us
    → names_of (if b || is_some o then t ∷ ts else ts) ≡ names_of (t ∷ us)
one_more true o t ts us e f = ap (λ l. one_name t.name ++ l) f
one_more false (Some n) t ts us e f = ap (λ l. one_name t.name ++ l) f
one_more false None t ts us e f = f ∙ ap (λ o. one_name o ++ names_of us) (sym e)

pub used_names : (ts : List Template) → names_of (filter is_used ts) ≡ names_of ts
used_names [] = refl
used_names (t ∷ ts) = one_more (makes_rules t) t.name t (filter is_used ts) ts refl (used_names ts)
