-- How a reader goes on in a tag, and why it doesn't.
use Rattle.std.proofs.Common.{◌≡◌, ◌≢◌, ℕ, ◌<◌, ◌≤◌, ◌+◌, ◌-◌, Bool, true, false, ◌==◌, if◌then◌else◌, List, [], ◌∷◌, ◌++◌, refl, ap, ◌∙◌, sym, subst, length, take, drop, get_or, arith, codes, Option, None, Some, Result, Ok, Err, IsErrAnd, IsUtf8, IsCharBoundary, append_assoc, append-nil, length-append, take-append-drop, length-drop}
use Rattle.std.specs.Prelude.{IfOk, IfErr}
use Rattle.tc_model.proofs.XmlTextChars.{chars_utf8}
use Rattle.std.proofs.Math.Seq.{take-append-add}
use Rattle.std.proofs.lemmas.Bool.{eqb-true}
use Rattle.std.proofs.lemmas.List.{length-take-le, take-append-le, take_rest}
use Rattle.std.proofs.lemmas.Result.{err_from_is_err_and}
use Rattle.std.proofs.lemmas.Str.{IsCharBoundary-after_ascii}
use Rattle.tc_model.specs.Grammars.{Grammar}
use Rattle.tc_model.specs.Names.{IsChars}
use Rattle.tc_model.specs.RawTrees.{Bound}
use Rattle.tc_model.specs.XmlTextBytes.{FrontOf, Lacks}
use Rattle.tc_model.proofs.XmlTextChars.{cut_chars, no_chars}
use Rattle.tc_tags.specs.Begins.{BeginsTag}
use Rattle.tc_stream.specs.XmlTextMeasures.{longest_tag, long_start, long_end}
use Rattle.tc_stream.specs.Cuts.{BeginsNoChar}
use Rattle.tc_stream.specs.Goes.{Level, IsLong}
use Rattle.tc_stream.specs.Faults.{IsFaultOf, IsFaultOfFront}
use Rattle.tc_stream.specs.Keeps.{AreSteps, Keeps}
use Rattle.tc_stream.specs.Reading.{ReadsOn}
use Rattle.tc_stream.specs.Scans.{ended, quoted, tag_scan}
use Rattle.tc_stream.specs.Stands.{IsReading, ReadsTo}
use Rattle.tc_stream.specs.TagEnds.{TellsTag}
use Rattle.tc_stream.specs.TagStands.{TagStands, IsStartTag, IsEndTag, TagTold}
use Rattle.tc_stream.specs.declared.elements.Elements.{Elements}
use Rattle.tc_stream.specs.declared.faults.StreamFault.{StreamFault}
use Rattle.tc_stream.specs.declared.faults.StreamFault.TheVariants as faults
use Rattle.tc_tags.specs.declared.names.Room.{Room}
use Rattle.tc_stream.specs.declared.parts.Part.TheVariants as parts
use Rattle.tc_stream.specs.declared.reader.Reader.{Reader}
use Rattle.tc_stream.specs.declared.tag_ends.TagEnd.TheVariants as tags
use Rattle.tc_stream.proofs.EncodedLaws.{free_of}
use Rattle.tc_stream.proofs.KeepsLaws.{has_room}
use Rattle.tc_stream.proofs.LongLaws.{free_front, free_lack, starts_kept}
use Rattle.tc_stream.proofs.LongSteps.{long_step}
use Rattle.tc_stream.proofs.StandsLaws.{KeptEnd, KeptStart, free_join, front_more, front_whole, kept_end, kept_start, scan_on, stands_end, stands_start}
use Rattle.tc_stream.proofs.RefusedLaws.{ended_is, no_end}
use Rattle.tc_stream.proofs.TagEndLaws.{then_tag, tag_more}
use Rattle.tc_stream.proofs.TagFaults.{alone, ended_tag_fault, long_fault}

-- results

pub if_ok : {T E : Type 0} (r : Result T E) (Q : T → Type 0) → ((v : T) → r ≡ Ok v → Q v) → IfOk r Q
if_ok (Ok v) Q h = h v refl
if_ok (Err e) Q h = tt

pub at_ok : {T E : Type 0} (r : Result T E) (P : T → Type 0) (v : T) → r ≡ Ok v → IfOk r P → P v
at_ok r P v is h = subst (λ z. IfOk z P) is h

pub if_err : {T E : Type 0} (r : Result T E) (Q : E → Type 0) → ((e : E) → r ≡ Err e → Q e) → IfErr r Q
if_err (Ok v) Q h = tt
if_err (Err e) Q h = h e refl

pub at_err : {T E : Type 0} (r : Result T E) (P : E → Type 0) (e : E) → r ≡ Err e → IfErr r P → P e
at_err r P e is h = subst (λ z. IfErr z P) is h

-- how far a tag goes, from one quote to the next

pub record SoFar (quote within : Option ℕ) (bytes : List ℕ) (from : ℕ) : Type 0 where
  pub low : from ≤ length bytes
  pub front : tag_scan quote (take from bytes) ≡ quoted within

pub none_so_far : (quote : Option ℕ) (bytes : List ℕ) → SoFar quote quote bytes 0
none_so_far quote bytes = record { low = omega arith; front = refl }

-- what is scanned of the rest stands in all
pub slice_low : (bytes : List ℕ) (from count : ℕ) → from ≤ length bytes → count ≤ length (take (length bytes - from) (drop from bytes)) → from + count ≤ length bytes
slice_low bytes from count low h = omega (arith, low, h, ap length (take_rest bytes from), length-drop from bytes)

taken_more : (bytes : List ℕ) (from count : ℕ) → from ≤ length bytes → take (from + count) bytes ≡ take from bytes ++ take count (drop from bytes)
taken_more bytes from count low =
    let long : length (take from bytes) ≡ from = length-take-le from bytes low in
    ap (take (from + count)) (sym (take-append-drop from bytes))
    ∙ (ap (λ n. take (n + count) (take from bytes ++ drop from bytes)) (sym long) ∙ take-append-add (take from bytes) (drop from bytes) count)

scanned_more : {quote within : Option ℕ} {bytes : List ℕ} {from : ℕ} (count : ℕ) → SoFar quote within bytes from → tag_scan quote (take (from + count) bytes) ≡ tag_scan within (take count (drop from bytes))
scanned_more {quote} {within} {bytes} {from} count s =
    ap (tag_scan quote) (taken_more bytes from count s.low) ∙ (tag_more quote (take from bytes) (take count (drop from bytes)) ∙ ap (λ y. then_tag y (take count (drop from bytes))) s.front)

pub quoted_more : {quote within next : Option ℕ} {bytes : List ℕ} {from : ℕ} (count : ℕ) → SoFar quote within bytes from → TellsTag within (drop from bytes) (tags.Quoted next count) → SoFar quote next bytes (from + count)
quoted_more {bytes = bytes} {from = from} count s h = record { low = omega (arith, s.low, h.1, length-drop from bytes); front = scanned_more count s ∙ h.3 }

pub open_more : {quote within : Option ℕ} {bytes : List ℕ} {from : ℕ} → SoFar quote within bytes from → TellsTag within (drop from bytes) tags.Open → tag_scan quote bytes ≡ quoted within
open_more {quote} {within} {bytes} {from} s h =
    ap (tag_scan quote) (sym (take-append-drop from bytes)) ∙ (tag_more quote (take from bytes) (drop from bytes) ∙ (ap (λ y. then_tag y (drop from bytes)) s.front ∙ h))

pub behind_more : {quote within : Option ℕ} {bytes : List ℕ} {from : ℕ} (count : ℕ) → SoFar quote within bytes from → TellsTag within (drop from bytes) (tags.Behind count)
    → (0 < from + count) × (from + count ≤ length bytes) × (tag_scan quote (take (from + count) bytes) ≡ ended [])
behind_more {bytes = bytes} {from = from} count s h = (omega (arith, h.0), omega (arith, s.low, h.1, length-drop from bytes), scanned_more count s ∙ h.3)

pub tag_shorter : (within next : Option ℕ) (bytes : List ℕ) (from count : ℕ) → from ≤ length bytes → TellsTag within (drop from bytes) (tags.Quoted next count) → length bytes - (from + count) < length bytes - from
tag_shorter within next bytes from count low h = omega (arith, low, h.0, h.1, length-drop from bytes)

-- a tag ends with a `>`

ends_with : (q : Option ℕ) (w : List ℕ) → tag_scan q w ≡ ended [] → (v : List ℕ) × (w ≡ v ++ 0x3E ∷ [])
ends_with q [] e = absurd (no_end e)
ends_with None (b ∷ w) e = by (b == 0x3E) (b == 0x22) (b == 0x27) refl e (λ i. ends_with (Some b) w i) (λ i. ends_with None w i)
  where
    more : (v : List ℕ) × (w ≡ v ++ 0x3E ∷ []) → (v : List ℕ) × (b ∷ w ≡ v ++ 0x3E ∷ [])
    more (v, is) = (b ∷ v, ap (λ z. b ∷ z) is)

    by : (x y z : Bool) → (b == 0x3E) ≡ x → (if x then ended w else (if y then tag_scan (Some b) w else (if z then tag_scan (Some b) w else tag_scan None w))) ≡ ended []
        → (tag_scan (Some b) w ≡ ended [] → (v : List ℕ) × (w ≡ v ++ 0x3E ∷ [])) → (tag_scan None w ≡ ended [] → (v : List ℕ) × (w ≡ v ++ 0x3E ∷ [])) → (v : List ℕ) × (b ∷ w ≡ v ++ 0x3E ∷ [])
    by true y z k i g h = ([], ap (λ c. c ∷ w) (eqb-true b 0x3E k) ∙ ap (λ c. 0x3E ∷ c) (ended_is i))
    by false true z k i g h = more (g i)
    by false false true k i g h = more (g i)
    by false false false k i g h = more (h i)
ends_with (Some a) (b ∷ w) e = by (b == a) e (λ i. ends_with None w i) (λ i. ends_with (Some a) w i)
  where
    more : (v : List ℕ) × (w ≡ v ++ 0x3E ∷ []) → (v : List ℕ) × (b ∷ w ≡ v ++ 0x3E ∷ [])
    more (v, is) = (b ∷ v, ap (λ z. b ∷ z) is)

    by : (x : Bool) → (if x then tag_scan None w else tag_scan (Some a) w) ≡ ended [] → (tag_scan None w ≡ ended [] → (v : List ℕ) × (w ≡ v ++ 0x3E ∷ [])) → (tag_scan (Some a) w ≡ ended [] → (v : List ℕ) × (w ≡ v ++ 0x3E ∷ []))
        → (v : List ℕ) × (b ∷ w ≡ v ++ 0x3E ∷ [])
    by true i g h = more (g i)
    by false i g h = more (h i)

-- so a text is cut there where a character begins

pub cut_behind : (text v : List ℕ) (count : ℕ) → IsUtf8 text → count ≤ length text → take count text ≡ v ++ 0x3E ∷ [] → IsCharBoundary text count
cut_behind text v count utf8 low is =
    let long : length v + 1 ≡ count = omega (arith, length-take-le count text low, ap length is, length-append v (0x3E ∷ [])) in
    let whole : text ≡ v ++ 0x3E ∷ drop count text = sym (take-append-drop count text) ∙ (ap (λ z. z ++ drop count text) is ∙ append_assoc v (0x3E ∷ []) (drop count text)) in
    let here : get_or text (length v) 0 ≡ 0x3E = ap (λ z. get_or z (length v) 0) whole ∙ get_or_seam v 0x3E (drop count text) in
    subst (IsCharBoundary text) long (IsCharBoundary-after_ascii text (length v) utf8 (omega (arith, long, low)) (omega (arith, here)))
  where
    get_or_seam : (v : List ℕ) (b : ℕ) (r : List ℕ) → get_or (v ++ b ∷ r) (length v) 0 ≡ b
    get_or_seam [] b r = refl
    get_or_seam (c ∷ v) b r = get_or_seam v b r

pub cut_behind_tag : (text : List ℕ) (quote : Option ℕ) (count : ℕ) → IsUtf8 text → count ≤ length text → tag_scan quote (take count text) ≡ ended [] → IsCharBoundary text count
cut_behind_tag text quote count utf8 low e = let (v, is) = ends_with quote (take count text) e in cut_behind text v count utf8 low is

-- a start tag or an empty-element tag of which too much has come

-- its measure passes, whatever follows
passes : {x : Grammar} {e : Elements} {place : ℕ} {item chars : List ℕ} (t : TagStands x e place item chars) → IsLong t.ls item → IsFaultOfFront chars faults.TagTooLong
passes {item = item} t long =
    long_fault t item [] (length t.before + longest_tag) (alone item) (λ r o. long_step (length t.before) item r t.ls t.scope t.run o t.item_chars long)

-- bytes that are scanned to no end, or to one at the last of them
quoted_before : (q : Option ℕ) (w v r : List ℕ) → tag_scan None (w ++ v) ≡ quoted q → tag_scan None w ≡ ended r → ⊥
quoted_before q w v r e f = no_end (sym e ∙ (tag_more None w v ∙ ap (λ y. then_tag y v) f))

ended_before : (w v r : List ℕ) → 0 < length v → tag_scan None (w ++ v) ≡ ended [] → tag_scan None w ≡ ended r → ⊥
ended_before w v r some e f = omega (arith, some, ap length (ended_is (sym e ∙ (tag_more None w v ∙ ap (λ y. then_tag y v) f))), length-append r v)

too_much : {most : ℕ} (s : Reader) (text : List ℕ) → most ≡ 65536 → most < length s.tag.bytes.items + length text → longest_tag < length (s.tag.bytes.items ++ text)
too_much s text size long = let many : 65536 < length s.tag.bytes.items + length text = omega (arith, size, long) in omega (arith, many, length-append s.tag.bytes.items text)

long_kept : {x : Grammar} {s : Reader} {chars : List ℕ} {q : Option ℕ} (text : List ℕ) (ls : List Level) (scope : List Bound) → KeptStart x s chars q → Keeps s.elements ls scope → longest_tag < length (s.tag.bytes.items ++ text)
    → ((r : List ℕ) → tag_scan None (take longest_tag (s.tag.bytes.items ++ text)) ≡ ended r → ⊥) → IsLong ls (s.tag.bytes.items ++ text)
long_kept {s = s} text ls scope k keeps long none = let o = starts_kept text k.opens in long_start o.char o.rest (has_room s.elements keeps k.room) o.opens o.starts long none

pub kept_start_fault : (x : Grammar) (s : Reader) (chars text : List ℕ) (most : ℕ) (q next : Option ℕ) → s.part ≡ parts.Tag q → tag_scan q text ≡ quoted next → IsChars text → ReadsTo x s chars
    → most ≡ 65536 → most < length s.tag.bytes.items + length text → IsFaultOfFront (chars ++ text) faults.TagTooLong
kept_start_fault x s chars text most q next is scan h r size long =
    let k = kept_start x s chars q r is in
    let t = stands_start x s chars text q k is h in
    let item = s.tag.bytes.items ++ text in
    let open_still : tag_scan None (take longest_tag item ++ drop longest_tag item) ≡ quoted next = ap (tag_scan None) (take-append-drop longest_tag item) ∙ (scan_on s.tag.bytes.items text q k.scanned ∙ scan) in
    passes t (long_kept text t.ls t.scope k t.keeps (too_much s text size long) (λ r e. quoted_before next (take longest_tag item) (drop longest_tag item) r open_still e))

pub whole_start_fault : (x : Grammar) (s : Reader) (chars text : List ℕ) (most : ℕ) (q : Option ℕ) → s.part ≡ parts.Tag q → tag_scan q text ≡ ended [] → IsChars text → ReadsTo x s chars
    → most ≡ 65536 → most < length s.tag.bytes.items + length text → IsFaultOfFront (chars ++ text) faults.TagTooLong
whole_start_fault x s chars text most q is scan h r size long =
    let k = kept_start x s chars q r is in
    let t = stands_start x s chars text q k is h in
    let item = s.tag.bytes.items ++ text in
    let many = too_much s text size long in
    let some : 0 < length (drop longest_tag item) = omega (arith, many, length-drop longest_tag item) in
    let ends_last : tag_scan None (take longest_tag item ++ drop longest_tag item) ≡ ended [] = ap (tag_scan None) (take-append-drop longest_tag item) ∙ (scan_on s.tag.bytes.items text q k.scanned ∙ scan) in
    passes t (long_kept text t.ls t.scope k t.keeps many (λ r e. ended_before (take longest_tag item) (drop longest_tag item) r some ends_last e))

-- and one that is whole
pub whole_start : (x : Grammar) (s : Reader) (chars text now : List ℕ) (q : Option ℕ) → s.part ≡ parts.Tag q → tag_scan q text ≡ ended [] → IsChars text → ReadsTo x s chars → now ≡ s.tag.bytes.items ++ text
    → IsStartTag now × TagStands x s.elements s.begun now (chars ++ text) × (length s.elements.levels.items < 2000)
whole_start x s chars text now q is scan h r bytes =
    let k = kept_start x s chars q r is in
    let o = starts_kept text k.opens in
    let w : IsStartTag (s.tag.bytes.items ++ text) = record { char = o.char; rest = o.rest; opens = o.opens; starts = o.starts; ends = scan_on s.tag.bytes.items text q k.scanned ∙ scan } in
    (subst IsStartTag (sym bytes) w, subst (λ z. TagStands x s.elements s.begun z (chars ++ text)) (sym bytes) (stands_start x s chars text q k is h), k.room)

-- the text ends in one
pub kept_start_ended : (x : Grammar) (s : Reader) (chars r tag : List ℕ) (q : Option ℕ) (fault : StreamFault) → ReadsTo x s chars → s.part ≡ parts.Tag q → BeginsNoChar r → FrontOf s.tag.bytes.items tag
    → TagTold fault tag s.begun → IsFaultOf (chars ++ r) fault
kept_start_ended x s chars r tag q fault reads is last front told =
    let k = kept_start x s chars q reads is in
    let t = stands_start x s chars [] q k is no_chars in
    let same : tag ≡ s.tag.bytes.items ++ [] = front_whole (subst IsChars k.same k.reads.pending_chars) front ∙ sym (append-nil s.tag.bytes.items) in
    let here : TagTold fault (s.tag.bytes.items ++ []) s.begun = subst (λ z. TagTold fault z s.begun) same told in
    subst (λ z. IsFaultOf (z ++ r) fault) (append-nil chars)
    (ended_tag_fault t (starts_kept [] k.opens) q (scan_on s.tag.bytes.items [] q k.scanned) (subst (λ z. length z ≤ 65536) (sym (append-nil s.tag.bytes.items)) k.low) (has_room s.elements t.keeps k.room) r last fault here)

-- the same of end tags

begins_more : {kept : List ℕ} (more : List ℕ) (b : BeginsTag kept) → (a : BeginsTag (kept ++ more)) × (a.next ≡ b.next)
begins_more more b = (record { next = b.next; rest = b.rest ++ more; opens = ap (λ w. w ++ more) b.opens; no_mark = b.no_mark; no_instruction = b.no_instruction }, refl)

long_end_in : {at rest : List ℕ} (ls : List Level) → ls ≢ [] → at ≡ codes "</" ++ rest → longest_tag < length at → free_of 0x3E (take longest_tag at) ≡ true → IsLong ls at
long_end_in [] some opens long free = absurd (some refl)
long_end_in {at = at} {rest = rest} (l ∷ ls) some opens long free = long_end rest opens long (free_lack (take longest_tag at) free)

end_fault_by : (x : Grammar) (s : Reader) (chars text : List ℕ) (k : KeptEnd x s chars) → s.part ≡ parts.EndTag → IsChars text → longest_tag < length (s.tag.bytes.items ++ text)
    → free_of 0x3E (take longest_tag (s.tag.bytes.items ++ text)) ≡ true → IsFaultOfFront (chars ++ text) faults.TagTooLong
end_fault_by x s chars text k is h long free =
    let both = stands_end x s chars text k is h in passes both.0 (long_end_in both.0.ls both.1 (ap (λ w. w ++ text) k.opens) long free)

free_taken : (w : List ℕ) → free_of 0x3E w ≡ true → free_of 0x3E (take longest_tag w) ≡ true
free_taken w free = free_front (take longest_tag w) (drop longest_tag w) (ap (free_of 0x3E) (take-append-drop longest_tag w) ∙ free)

pub kept_end_fault : (x : Grammar) (s : Reader) (chars text : List ℕ) (most : ℕ) → s.part ≡ parts.EndTag → Lacks (0x3E ∷ []) text → IsChars text → ReadsTo x s chars
    → most ≡ 65536 → most < length s.tag.bytes.items + length text → IsFaultOfFront (chars ++ text) faults.TagTooLong
kept_end_fault x s chars text most is lacks h r size long =
    let k = kept_end x s chars r is in
    end_fault_by x s chars text k is h (too_much s text size long) (free_taken (s.tag.bytes.items ++ text) (free_join s.tag.bytes.items text k.lacks lacks))

inside_of : (kept text front : List ℕ) → text ≡ front ++ 0x3E ∷ [] → kept ++ text ≡ (kept ++ front) ++ 0x3E ∷ []
inside_of kept text front is = ap (λ z. kept ++ z) is ∙ sym (append_assoc kept front (0x3E ∷ []))

pub whole_end_long : (x : Grammar) (s : Reader) (chars text front : List ℕ) (most : ℕ) → s.part ≡ parts.EndTag → text ≡ front ++ 0x3E ∷ [] → Lacks (0x3E ∷ []) front → IsChars text → ReadsTo x s chars
    → most ≡ 65536 → most < length s.tag.bytes.items + length text → IsFaultOfFront (chars ++ text) faults.TagTooLong
whole_end_long x s chars text front most is ends lacks h r size long =
    let k = kept_end x s chars r is in
    let many = too_much s text size long in
    let inside = s.tag.bytes.items ++ front in
    let same = inside_of s.tag.bytes.items text front ends in
    let low : longest_tag ≤ length inside = omega (arith, many, ap length same, length-append inside (0x3E ∷ [])) in
    let first : take longest_tag (s.tag.bytes.items ++ text) ≡ take longest_tag inside = ap (take longest_tag) same ∙ take-append-le longest_tag inside (0x3E ∷ []) low in
    end_fault_by x s chars text k is h many (ap (free_of 0x3E) first ∙ free_taken inside (free_join s.tag.bytes.items front k.lacks lacks))

pub record WholeEnd (x : Grammar) (s : Reader) (now chars : List ℕ) : Type 0 where
  pub is_end : IsEndTag now
  pub stands : TagStands x s.elements s.begun now chars
  pub some : stands.ls ≢ []

pub whole_end : (x : Grammar) (s : Reader) (chars text now front : List ℕ) → s.part ≡ parts.EndTag → text ≡ front ++ 0x3E ∷ [] → Lacks (0x3E ∷ []) front → IsChars text → ReadsTo x s chars → now ≡ s.tag.bytes.items ++ text
    → WholeEnd x s now (chars ++ text)
whole_end x s chars text now front is ends lacks h r bytes =
    let k = kept_end x s chars r is in
    let both = stands_end x s chars text k is h in
    let b = begins_more text k.begins in
    let w : IsEndTag (s.tag.bytes.items ++ text) = record {
      begins = b.0;
      slash = b.1 ∙ k.slash;
      inside = s.tag.bytes.items ++ front;
      parts = inside_of s.tag.bytes.items text front ends;
      free = free_join s.tag.bytes.items front k.lacks lacks;
    } in
    let here : WholeEnd x s (s.tag.bytes.items ++ text) (chars ++ text) = record { is_end = w; stands = both.0; some = both.1 } in
    subst (λ z. WholeEnd x s z (chars ++ text)) (sym bytes) here

-- what a method reads of a text

pub reads_all : (old new : Reader) (text rest : List ℕ) (end : ℕ) → rest ≡ [] → IsReading new → ((x : Grammar) (chars : List ℕ) → IsChars text → ReadsTo x old chars → ReadsTo x new (chars ++ text)) → ReadsOn old new text rest end
reads_all old new text rest end none ready reads = record {
  used = text;
  parts = sym (append-nil text) ∙ ap (λ z. text ++ z) (sym none);
  ready = ready;
  reads = λ x chars h e r. reads x chars h r;
}

pub reads_front : (old new : Reader) (text rest : List ℕ) (end count : ℕ) → rest ≡ drop count text → IsReading new
    → ((x : Grammar) (chars : List ℕ) → IsChars text → ReadsTo x old chars → ReadsTo x new (chars ++ take count text)) → ReadsOn old new text rest end
reads_front old new text rest end count behind ready reads = record {
  used = take count text;
  parts = sym (take-append-drop count text) ∙ ap (λ z. take count text ++ z) (sym behind);
  ready = ready;
  reads = λ x chars h e r. reads x chars h r;
}

-- the characters at the front of a text
pub front_chars : (text front : List ℕ) (count : ℕ) → IsCharBoundary text count → front ≡ take count text → IsChars text → IsChars front
front_chars text front count cut first h = subst IsChars (sym first) (cut_chars text count h cut).0

-- the fault of a front of it
pub front_fault : (chars text front : List ℕ) (count : ℕ) (e : StreamFault) → front ≡ take count text → IsFaultOfFront (chars ++ front) e → IsFaultOfFront (chars ++ text) e
front_fault chars text front count e first f =
    let whole : (chars ++ front) ++ drop count text ≡ chars ++ text = append_assoc chars front (drop count text) ∙ ap (λ z. chars ++ z) (ap (λ z. z ++ drop count text) first ∙ take-append-drop count text) in
    subst (λ z. IsFaultOfFront z e) whole (front_more (chars ++ front) (drop count text) e f)

pub shorter_by : (text rest : List ℕ) (count : ℕ) → rest ≡ drop count text → 0 < count → count ≤ length text → length rest < length text
shorter_by text rest count is some low = omega (arith, ap length is, length-drop count text, some, low)

-- an error that is passed on
pub failed : {T E : Type 0} (r : Result T E) (e : E) (P : E → Type 0) → IsErrAnd r (λ x. x ≡ e) → P e → IfErr r P
failed r e P h q = let p = err_from_is_err_and r h in subst (λ w. IfErr w P) (sym p.1) (subst P (sym p.2) q)

-- what is kept of a tag, as it is read

pub front_short : {w f : List ℕ} (n : ℕ) → FrontOf w f → length w ≤ n → length f ≤ n
front_short {w} {f} n k low = omega (arith, low, ap length k.parts, length-append f k.after)

-- a tag stands where nothing of what it stands by changes
pub stands_moved : {x : Grammar} {old : Elements} {place : ℕ} {item chars : List ℕ} (t : TagStands x old place item chars) (new : Elements) → ((ls : List Level) (scope : List Bound) → Keeps old ls scope → Keeps new ls scope)
    → new.validity ≡ old.validity → TagStands x new place item chars
stands_moved {x} t new keeps same = record {
  before = t.before;
  parts_are = t.parts_are;
  stands = t.stands;
  before_chars = t.before_chars;
  item_chars = t.item_chars;
  ls = t.ls;
  scope = t.scope;
  run = t.run;
  keeps = keeps t.ls t.scope t.keeps;
  steps = subst (λ v. AreSteps x v t.ls t.run) (sym same) t.steps;
  comes = t.comes;
}

-- the same by the tag as it is read
pub start_by : {x : Grammar} {e : Elements} {place : ℕ} {item chars tag : List ℕ} → (IsUtf8 item → tag ≡ item) → IsStartTag item → TagStands x e place item chars → IsStartTag tag × TagStands x e place tag chars
start_by {x} {e} {place} {item} {chars} k w t =
    let same = k (chars_utf8 item t.item_chars) in (subst IsStartTag (sym same) w, subst (λ z. TagStands x e place z chars) (sym same) t)

pub record EndBy (x : Grammar) (e : Elements) (place : ℕ) (tag chars : List ℕ) : Type 0 where
  pub is_end : IsEndTag tag
  pub stands : TagStands x e place tag chars
  pub some : stands.ls ≢ []

pub end_by : {x : Grammar} {e : Elements} {place : ℕ} {item chars tag : List ℕ} → FrontOf item tag → IsEndTag item → (t : TagStands x e place item chars) → t.ls ≢ [] → EndBy x e place tag chars
end_by {x} {e} {place} {item} {chars} k w t some =
    let here : EndBy x e place item chars = record { is_end = w; stands = t; some = some } in subst (λ z. EndBy x e place z chars) (sym (front_whole t.item_chars k)) here

pub nothing_left : {A : Type 0} (xs : List A) → length xs ≡ 0 → xs ≡ []
nothing_left [] e = refl
nothing_left (x ∷ xs) e = absurd (omega (arith, e))

-- what is kept of a tag has room
pub room_low : (r : Room) → r.most ≡ 65536 → length r.bytes.items ≤ 65536
room_low r size = omega (arith, r.few, r.bytes.ok.0, size)
