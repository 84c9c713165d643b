-- What stands in a body, and what no change of it is.
use Rattle.std.proofs.Common.{◌≡◌, ◌≢◌, ℕ, List, [], ◌∷◌, ◌++◌, refl, ap, ◌∙◌, sym, subst, Option, None, Some, IsTrue, IsFalse, Result, Ok, Err, IfOk, IfErr}
use Rattle.std.specs.Prelude.{MatchResult}
use Rattle.tc_model.specs.Names.{ExpandedName}
use Rattle.tc_model.specs.RawTrees.{Attribute, Bound, RawTrees, none, text, element}
use Rattle.tc_model.specs.Trees.{is_white_space_only}
use Rattle.tc_model.specs.Views.{name, place, raw_trees, raw_before, raw_element}
use Rattle.tc_model.specs.SheetTextTrees.{WrittenBody, w_nothing, w_text}
use Rattle.tc_model.specs.SheetTextPhrases as p
use Rattle.tc_model.specs.SheetTextPhrases.{xsl_uri, IsXsl, value_of, HasOnly, AreLiteral, IsBlank, AreCharacters, NameText, ElementNameText, Optional, Required, Tag, tag, Instruction, i_apply, i_call, i_value, i_each, i_if, i_choose, i_text, i_copy, i_element, i_copy_of, instruction_of, IsInstruction, IsBody, AreBranches}
use Rattle.tc_model.specs.declared.tree.Raw.{Raw, Raw-F}
use Rattle.tc_model.specs.declared.tree.RawElem.{RawElem}
use Rattle.tc_model.specs.declared.tree.Raw.TheOpen as parts
use Rattle.tc_model.specs.declared.tree.Raw.TheVariants.{rolls-Elem, rolls-Text}
use Rattle.tc_model.specs.declared.tree.Raw.TheViews.{roll-Raw, out-Raw, roll-out-Raw}
use Rattle.tc_model.proofs.ViewsRaw.{before_elem, before_text}
use Rattle.tc_sheet.specs.Constructs.{reason_of}
use Rattle.tc_sheet.specs.LookedAt.{Where, in_body, IsOpened, IsIn, IsAt, IsUnrefused, IsRefused}
use Rattle.tc_sheet.specs.LookedAt as looked
use Rattle.tc_sheet.specs.Changes.{Change, flattened, both, TakesAway, ChangedAttributes, Changed, a_text, an_element, taken_away}
use Rattle.tc_sheet.specs.Readings.{Refuses, IsMisplaced, alone, attributes_of, tag_with, HasNoAttributes, IsRead, HasNoInstruction, HasNoBody, IsItem, HasNoItem, IsElementItem, HasNoElementItem}
use Rattle.tc_sheet.specs.Begun.{around, IsHead, IsBegunBy, IsAround, IsBegun}
use Rattle.tc_sheet.specs.Views.{put, written, written_before}
use Rattle.tc_sheet.specs.declared.written.Written.{Written}
use Rattle.tc_sheet.specs.declared.bodies.Head.TheVariants as heads
use Rattle.tc_sheet.specs.declared.bodies.Begun.{Begun}
use Rattle.tc_sheet.specs.declared.bodies.Begun.TheVariants as begun
use Rattle.tc_sheet.specs.declared.faults.SheetFault.{SheetFault}
use Rattle.tc_sheet.specs.declared.faults.SheetFault.TheVariants.{Malformed, Unsupported, TooDeep, Undefined, CallLoop, NoMemory}
use Rattle.tc_sheet.proofs.ViewsWritten.{pushed_written}
use Rattle.tc_sheet.proofs.SameBodies.{some_is, not_literal, instruction_reason, literal_reason, not_taken}
use Rattle.tc_sheet.proofs.Unrefused.{unrefused_stays}
use Rattle.tc_sheet.proofs.Refusals.{Covers, lifted, covers_itself, both_cover, covers_tag, covers_kids, covers_rest, covers_one, covers_beside_text, covers_text, element_at}

-- what an element that isn't taken away becomes
pub by_element : (c : Change) {n : ExpandedName} {olds : List Attribute} {scope : List Bound} {q : ℕ} {kids rest : RawTrees} → (TakesAway c n → ⊥) → (P : RawTrees → Type 0)
    → ((bs : List Attribute) (others behind : RawTrees) → ChangedAttributes c olds bs → Changed c kids others → Changed c rest behind → P (element n bs scope q others behind))
    → (k : RawTrees) → Changed c (element n olds scope q kids rest) k → P k
by_element c stays P f k (an_element {bs = bs} {others = others} {behind = behind} x i h) = f bs others behind x i h
by_element c stays P f k (taken_away t h) = absurd (stays t)

-- what an element of a body is
instruction_there : {n : ExpandedName} {bs : List Attribute} {scope : List Bound} {q : ℕ} {others behind : RawTrees} {d : WrittenBody} (i : Instruction) → instruction_of n ≡ Some i
    → IsBody (element n bs scope q others behind) d → (z : WrittenBody) × IsInstruction i (tag n bs scope q) others z d
instruction_there {n} i is (p.a_literal u l j y) = not_literal n i is u
instruction_there {n} {bs} {scope} {q} {others} {d = d} i is (p.an_instruction {b = z} {i = j} f x y) = (z, subst (λ r. IsInstruction r (tag n bs scope q) others z d) (some_is f is) x)

literal_there : {n : ExpandedName} {bs : List Attribute} {scope : List Bound} {q : ℕ} {others behind : RawTrees} {d : WrittenBody} → n.uri ≢ xsl_uri
    → IsBody (element n bs scope q others behind) d → AreLiteral bs × ((inner : WrittenBody) × IsBody others inner)
literal_there u (p.a_literal {inner = inner} v l j y) = (l, (inner, j))
literal_there {n} u (p.an_instruction {i = i} f x y) = not_literal n i f u

neither_there : {n : ExpandedName} {bs : List Attribute} {scope : List Bound} {q : ℕ} {others behind : RawTrees} {d : WrittenBody} → n.uri ≡ xsl_uri → instruction_of n ≡ None
    → IsBody (element n bs scope q others behind) d → ⊥
neither_there u e (p.a_literal v l j y) = v u
neither_there u e (p.an_instruction f x y) = none_some e f
  where
    none_some : {X : Type 0} {o : Option X} {x : X} → o ≡ None → o ≡ Some x → ⊥
    none_some a b = cc

reason_there : {n : ExpandedName} {bs : List Attribute} {scope : List Bound} {q : ℕ} {others behind : RawTrees} {d : WrittenBody} → IsBody (element n bs scope q others behind) d → reason_of n ≡ None
reason_there {n} (p.a_literal u l j y) = literal_reason n u
reason_there {n} (p.an_instruction {i = i} f x y) = instruction_reason n i f

behind_element : {n : ExpandedName} {bs : List Attribute} {scope : List Bound} {q : ℕ} {others behind : RawTrees} {d : WrittenBody} → IsBody (element n bs scope q others behind) d → (b : WrittenBody) × IsBody behind b
behind_element (p.a_literal {b = b} u l j y) = (b, y)
behind_element (p.an_instruction {b = b} f x y) = (b, y)

behind_text : {s : List ℕ} {q : ℕ} {behind : RawTrees} {d : WrittenBody} → IsBody (text s q behind) d → (b : WrittenBody) × IsBody behind b
behind_text (p.past_white {b = b} w y) = (b, y)
behind_text (p.a_text {b = b} w y) = (b, y)

-- no change of an element is one
pub no_item : (c : Change) (e : RawElem) (i : Instruction) → instruction_of (name e.name) ≡ Some i → HasNoInstruction i e c → HasNoElementItem e c
no_item c e i is h = λ rest k b x.
    by_element c (not_taken c (name e.name) (instruction_reason (name e.name) i is)) (λ (k : RawTrees). IsBody k b → ⊥)
    (λ bs others behind u v w y. let (z, d) = instruction_there i is y in h bs others z b u v d) k x

pub item_of : (e : RawElem) (i : Instruction) (f : WrittenBody → WrittenBody) → instruction_of (name e.name) ≡ Some i → IsRead i e f → IsElementItem e f
item_of e i f is r = λ rest b y. p.an_instruction is (r b) y

around_of : (e : RawElem) (i : Instruction) (h : _) → instruction_of (name e.name) ≡ Some i → IsHead i e h → IsAround e h
around_of e i h is k = record {
  opened = looked.an_instruction is k.holds;
  makes = λ rest inner b j y. p.an_instruction is (k.makes inner b j) y;
  needs = λ c g. no_item c e i is (λ olds kids b d u v y. let (inner, j) = k.needs _ kids b d y in g kids inner v j);
}

pub begun_of : (e : RawElem) (i : Instruction) (x : Begun) → instruction_of (name e.name) ≡ Some i → IsBegunBy i e x → IsBegun e x
begun_of e i (begun.Whole w) is r = item_of e i (put w) is r
begun_of e i (begun.Around h) is r = around_of e i h is r
begun_of e i begun.Choose is r = (is ∙ ap Some r.0, r.1)

pub literal_around : (e : RawElem) → (name e.name).uri ≢ xsl_uri → AreLiteral (attributes_of e) → IsAround e (heads.Element e.name)
literal_around e u l = record {
  opened = looked.a_literal u;
  makes = λ rest inner b j y. p.a_literal u l j y;
  needs = λ c g rest k b x. by_element c (not_taken c (name e.name) (literal_reason (name e.name) u)) (λ (k : RawTrees). IsBody k b → ⊥)
      (λ bs others behind v w z y. let (m, inner, j) = unpaired (literal_there u y) in g others inner w j) k x;
}
  where
    unpaired : {A : Type 0} {P : WrittenBody → Type 0} → A × ((b : WrittenBody) × P b) → A × (b : WrittenBody) × P b
    unpaired (a, (b, c)) = (a, b, c)

-- faults of parts of an element
pub item_refuses : (e : RawElem) (i : Instruction) → instruction_of (name e.name) ≡ Some i → (x : SheetFault) → Refuses x (IsIn in_body (raw_element e none)) (HasNoInstruction i e) → Refuses x (IsIn in_body (raw_element e none)) (HasNoElementItem e)
item_refuses e i is x r = lifted (covers_itself (IsIn in_body (raw_element e none))) (λ c h. no_item c e i is h) x r

pub tag_refuses : {Q : List Attribute → Type 0} {v : Where} (e : RawElem) (i : Instruction) → IsOpened in_body (name e.name) v → ((olds : List Attribute) (kids : RawTrees) (b d : WrittenBody) → IsInstruction i (tag_with e olds) kids b d → Q olds)
    → (x : SheetFault) → Refuses x (alone e) (HasNoAttributes e Q) → Refuses x (IsIn in_body (raw_element e none)) (HasNoInstruction i e)
tag_refuses e i o f x r = lifted (covers_tag o) (λ c h olds kids b d u v y. h olds u (f olds kids b d y)) x r

pub kids_refuse : {Q : RawTrees → Type 0} {v : Where} (e : RawElem) (i : Instruction) → IsOpened in_body (name e.name) v → ((t : Tag) (kids : RawTrees) (b d : WrittenBody) → IsInstruction i t kids b d → Q kids)
    → (x : SheetFault) → Refuses x (IsIn v (raw_trees e.kids.now)) (λ c. (k : RawTrees) → Changed c (raw_trees e.kids.now) k → Q k → ⊥) → Refuses x (IsIn in_body (raw_element e none)) (HasNoInstruction i e)
kids_refuse e i o f x r = lifted (covers_kids o) (λ c h olds kids b d u v y. h kids v (f (tag_with e olds) kids b d y)) x r

pub literal_refuses : (e : RawElem) → (name e.name).uri ≢ xsl_uri → (x : SheetFault) → Refuses x (alone e) (HasNoAttributes e AreLiteral) → Refuses x (IsIn in_body (raw_element e none)) (HasNoElementItem e)
literal_refuses e u x r =
    lifted (covers_tag (looked.a_literal u)) (λ c h rest k b y. by_element c (not_taken c (name e.name) (literal_reason (name e.name) u)) (λ (k : RawTrees). IsBody k b → ⊥) (λ bs others behind v w z a. h bs v (literal_there u a).0) k y) x r

pub body_refuses : (e : RawElem) (h : _) → IsAround e h → (x : SheetFault) → Refuses x (IsIn in_body (raw_trees e.kids.now)) (HasNoBody (raw_trees e.kids.now)) → Refuses x (IsIn in_body (raw_element e none)) (HasNoElementItem e)
body_refuses e h a x r = lifted (covers_kids a.opened) a.needs x r

-- the fault of an element that must not stand where it stands
pub misplaced_is : (w : Where) (e : RawElem) (rest : RawTrees) (Q : Change → Type 0) → ((c : Change) → (TakesAway c (name e.name) → ⊥) → Q c) → (x : SheetFault) → IsMisplaced e x → Refuses x (IsIn w (raw_element e rest)) Q
misplaced_is w e rest Q f (Malformed q) r = (subst (IsAt (IsIn w (raw_element e rest)) IsUnrefused) (sym r.0) (element_at w e rest r.1), f both (unrefused_stays both (name e.name) r.1))
misplaced_is w e rest Q f (Unsupported q why) r = (subst (IsAt (IsIn w (raw_element e rest)) (IsRefused why)) (sym r.0) (element_at w e rest r.1), f flattened (λ t. t))
misplaced_is w e rest Q f (TooDeep q) r = absurd r
misplaced_is w e rest Q f (Undefined q) r = absurd r
misplaced_is w e rest Q f (CallLoop q) r = absurd r
misplaced_is w e rest Q f NoMemory r = absurd r

pub misplaced_in_body : (e : RawElem) → (name e.name).uri ≡ xsl_uri → instruction_of (name e.name) ≡ None → (x : SheetFault) → IsMisplaced e x → Refuses x (IsIn in_body (raw_element e none)) (HasNoElementItem e)
misplaced_in_body e u f x r =
    misplaced_is in_body e none (HasNoElementItem e) (λ c stays rest k b y. by_element c stays (λ (k : RawTrees). IsBody k b → ⊥) (λ bs others behind v w z a. neither_there u f a) k y) x r

-- a text or an element
pub data Shape (t : Raw) : Type 0 where
  is_elem : (e : RawElem) → ((rest : RawTrees) → raw_before t rest ≡ raw_element e rest) → Shape t
  is_text : (s : List ℕ) (q : ℕ) → ((rest : RawTrees) → raw_before t rest ≡ text s q rest) → Shape t

shape_of_layer : (f : Raw-F Raw RawElem) → Shape (roll-Raw f)
shape_of_layer (parts.Elem e) = subst Shape (sym (rolls-Elem e)) (is_elem e (λ rest. before_elem e rest))
shape_of_layer (parts.Text s q) = subst Shape (sym (rolls-Text s q)) (is_text s.now (place q) (λ rest. before_text s q rest))

pub shape : (t : Raw) → Shape t
shape t = subst Shape (roll-out-Raw t) (shape_of_layer (out-Raw t))

-- what stands behind a tree where all that stands behind another stands in the same way
pub covers_behind : (w : Where) → ((n : ExpandedName) → looked.behind n w ≡ w) → (t : Raw) (rest : RawTrees) → Covers (IsIn w rest) (IsIn w (raw_before t rest))
covers_behind w steady t rest = by (shape t)
  where
    by : Shape t → Covers (IsIn w rest) (IsIn w (raw_before t rest))
    by (is_elem e f) = subst (λ h. Covers (IsIn w rest) (IsIn w h)) (sym (f rest)) (covers_rest (steady (name e.name)))
    by (is_text s q f) = subst (λ h. Covers (IsIn w rest) (IsIn w h)) (sym (f rest)) covers_beside_text

text_rest : {s : List ℕ} {q : ℕ} {rest : RawTrees} (c : Change) → HasNoBody rest c → (k : RawTrees) (b : WrittenBody) → Changed c (text s q rest) k → IsBody k b → ⊥
text_rest c g k b (a_text {k = behind} h) y = let (d, z) = behind_text y in g behind d h z

-- a tree that is read is not taken away, so that what stands behind it is a body where all is one
rest_only : (c : Change) (t : Raw) (f : WrittenBody → WrittenBody) → IsItem t f → (rest : RawTrees) → HasNoBody rest c → HasNoBody (raw_before t rest) c
rest_only c t f item rest g = by (shape t)
  where
    by : Shape t → HasNoBody (raw_before t rest) c
    by (is_elem e is) =
        let reason = reason_there (subst (λ h. IsBody h (f w_nothing)) (is none) (item none w_nothing p.at_end)) in
        subst (λ h. HasNoBody h c) (sym (is rest))
        (λ k b x. by_element c (not_taken c (name e.name) reason) (λ (k : RawTrees). IsBody k b → ⊥) (λ bs others behind u v w y. let (d, z) = behind_element y in g behind d w z) k x)
    by (is_text s q is) = subst (λ h. HasNoBody h c) (sym (is rest)) (text_rest c g)

-- the part of a body that is read, and what is left
pub record BodyLoop (whole rest : RawTrees) (found : List Written) : Type 0 where
  pub so_far : (b : WrittenBody) → IsBody rest b → IsBody whole (written_before found b)
  pub no_more : (c : Change) → HasNoBody rest c → HasNoBody whole c
  pub covers : Covers (IsIn in_body rest) (IsIn in_body whole)

pub body_begins : (whole : RawTrees) → BodyLoop whole whole []
body_begins whole = record { so_far = λ b y. y; no_more = λ c g. g; covers = covers_itself (IsIn in_body whole) }

pub body_goes_on : {whole : RawTrees} {found : List Written} (t : Raw) (rest : RawTrees) (f : WrittenBody → WrittenBody) (now : List Written) → IsItem t f → BodyLoop whole (raw_before t rest) found
    → ((b : WrittenBody) → written_before now b ≡ written_before found (f b)) → BodyLoop whole rest now
body_goes_on {whole} t rest f now item l e = record {
  so_far = λ b y. subst (IsBody whole) (sym (e b)) (l.so_far (f b) (item rest b y));
  no_more = λ c g. l.no_more c (rest_only c t f item rest g);
  covers = both_cover (covers_behind in_body (λ n. refl) t rest) l.covers;
}

-- the fault of a tree is one of all
pub covers_first : (w : Where) (t : Raw) (rest : RawTrees) → Covers (IsIn w (raw_before t none)) (IsIn w (raw_before t rest))
covers_first w t rest = by (shape t)
  where
    by : Shape t → Covers (IsIn w (raw_before t none)) (IsIn w (raw_before t rest))
    by (is_elem e f) = subst (λ h. Covers (IsIn w (raw_before t none)) (IsIn w h)) (sym (f rest)) (subst (λ h. Covers (IsIn w h) (IsIn w (raw_element e rest))) (sym (f none)) covers_one)
    by (is_text s q f) = subst (λ h. Covers (IsIn w (raw_before t none)) (IsIn w h)) (sym (f rest)) (subst (λ h. Covers (IsIn w h) (IsIn w (text s q rest))) (sym (f none)) covers_text)

pub item_of_body_refuses : {whole : RawTrees} (rest : RawTrees) {found : List Written} (t : Raw) → BodyLoop whole (raw_before t rest) found → (x : SheetFault) → Refuses x (IsIn in_body (raw_before t none)) (HasNoItem t) → Refuses x (IsIn in_body whole) (HasNoBody whole)
item_of_body_refuses rest t l x r = lifted (both_cover (covers_first in_body t rest) l.covers) (λ c h. l.no_more c (h rest)) x r

-- what a tree in a body is
pub item_white : (t : Raw) (s : List ℕ) (q : ℕ) → ((rest : RawTrees) → raw_before t rest ≡ text s q rest) → IsTrue (is_white_space_only s) → IsItem t (put None)
item_white t s q f w = λ rest b y. subst (λ h. IsBody h b) (sym (f rest)) (p.past_white w y)

pub item_text : (t : Raw) (s : List ℕ) (q : ℕ) (x : Written) → ((rest : RawTrees) → raw_before t rest ≡ text s q rest) → IsFalse (is_white_space_only s) → ((b : WrittenBody) → written x b ≡ w_text s b) → IsItem t (put (Some x))
item_text t s q x f w g = λ rest b y. subst (λ h. IsBody h (written x b)) (sym (f rest)) (subst (IsBody (text s q rest)) (sym (g b)) (p.a_text w y))

pub item_elem : (t : Raw) (e : RawElem) (f : WrittenBody → WrittenBody) → ((rest : RawTrees) → raw_before t rest ≡ raw_element e rest) → IsElementItem e f → IsItem t f
item_elem t e f is a = λ rest b y. subst (λ h. IsBody h (f b)) (sym (is rest)) (a rest b y)

pub item_elem_refuses : (t : Raw) (e : RawElem) → ((rest : RawTrees) → raw_before t rest ≡ raw_element e rest) → (x : SheetFault) → Refuses x (IsIn in_body (raw_element e none)) (HasNoElementItem e) → Refuses x (IsIn in_body (raw_before t none)) (HasNoItem t)
item_elem_refuses t e is x r =
    lifted (subst (λ h. Covers (IsIn in_body (raw_element e none)) (IsIn in_body h)) (sym (is none)) (covers_itself (IsIn in_body (raw_element e none))))
    (λ c h rest. subst (λ k. HasNoBody k c) (sym (is rest)) (h rest)) x r

pub body_ends : {whole rest : RawTrees} {found now : List Written} → BodyLoop whole rest found → rest ≡ none → now ≡ found → IsBody whole (written_before now w_nothing)
body_ends {whole} {found = found} l e f = subst (λ is. IsBody whole (written_before is w_nothing)) (sym f) (l.so_far w_nothing (subst (λ h. IsBody h w_nothing) (sym e) p.at_end))

pub body_pushed : (found now : List Written) (x : Written) (read : Option Written) → now ≡ found ++ x ∷ [] → read ≡ Some x → (b : WrittenBody) → written_before now b ≡ written_before found (put read b)
body_pushed found now x read e f b = ap (λ is. written_before is b) e ∙ (pushed_written found x b ∙ ap (λ o. written_before found (put o b)) (sym f))

pub body_stays : (found now : List Written) (read : Option Written) → now ≡ found → read ≡ None → (b : WrittenBody) → written_before now b ≡ written_before found (put read b)
body_stays found now read e f b = ap (λ is. written_before is b) e ∙ ap (λ o. written_before found (put o b)) (sym f)

-- an element that holds a body
pub around_reads : (e : RawElem) (h : _) (x : Option Written) (inner : WrittenBody) → IsAround e h → IsBody (raw_trees e.kids.now) inner → ((rest : WrittenBody) → put x rest ≡ around h inner rest) → IsElementItem e (put x)
around_reads e h x inner a i f = λ rest b y. subst (IsBody (raw_element e rest)) (sym (f b)) (a.makes rest inner b i y)

pub item_read : (t : Raw) (e : RawElem) → ((rest : RawTrees) → raw_before t rest ≡ raw_element e rest) → (r : Result (Option Written) SheetFault)
    → MatchResult r (λ w. IsElementItem e (put w)) (λ x. Refuses x (IsIn in_body (raw_element e none)) (HasNoElementItem e)) → MatchResult r (λ w. IsItem t (put w)) (λ x. Refuses x (IsIn in_body (raw_before t none)) (HasNoItem t))
item_read t e is (Ok w) a = item_elem t e (put w) is a
item_read t e is (Err x) a = item_elem_refuses t e is x a

pub begun_ok : (e : RawElem) (i : Instruction) → instruction_of (name e.name) ≡ Some i → (r : Result Begun SheetFault) → IfOk r (IsBegunBy i e) → IfOk r (IsBegun e)
begun_ok e i is (Ok w) a = begun_of e i w is a
begun_ok e i is (Err x) a = tt

pub begun_no : (e : RawElem) (i : Instruction) → instruction_of (name e.name) ≡ Some i → (r : Result Begun SheetFault) → IfErr r (λ x. Refuses x (IsIn in_body (raw_element e none)) (HasNoInstruction i e)) → IfErr r (λ x. Refuses x (IsIn in_body (raw_element e none)) (HasNoElementItem e))
begun_no e i is (Ok w) a = tt
begun_no e i is (Err x) a = item_refuses e i is x a
