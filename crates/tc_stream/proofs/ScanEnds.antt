-- How the scans of comments, processing instructions, CDATA sections and character data end.
use Rattle.std.proofs.Common.{◌≡◌, ℕ, suc, ◌<◌, ◌≤◌, ◌+◌, ◌-◌, Bool, true, false, ◌==◌, ◌&&◌, if◌then◌else◌, List, [], ◌∷◌, ◌++◌, refl, ap, ◌∙◌, sym, subst, length, take, drop, get_or, arith, codes, IsTrue, IsUtf8, IsCharBoundary, None, Some, append_assoc, length-append, length-drop, take-append-drop}
use Rattle.std.specs.Prelude.{replicate, nat_le}
use Rattle.std.specs.List.{list_all}
use Rattle.std.proofs.Math.Seq.{take-append_seam, take-append-add}
use Rattle.std.proofs.lemmas.Bool.{eqb-true, leb-true, le-leb}
use Rattle.std.proofs.lemmas.List.{append_cancel_left, length-replicate, take-append-le}
use Rattle.std.proofs.lemmas.Str.{IsCharBoundary-after_ascii}
use Rattle.tc_base.specs.Characters.{is_white}
use Rattle.tc_model.specs.Names.{IsChars}
use Rattle.tc_model.specs.XmlTextBytes.{UpTo, begins_with, length_before, line_ends}
use Rattle.tc_model.specs.XmlTextReferences.{CdataAt}
use Rattle.tc_model.proofs.XmlTextChars.{chars_utf8, cut_chars}
use Rattle.tc_stream.specs.Counted.{is_counted}
use Rattle.tc_stream.specs.Scans.{Scan, before, going, broken, comment_scan, instruction_scan, cdata_scan}
use Rattle.tc_stream.specs.Ends.{TellsEnd, TellsData}
use Rattle.tc_stream.specs.declared.ends.Ended.{Ended}
use Rattle.tc_stream.specs.declared.ends.Ended.TheVariants as ends
use Rattle.tc_stream.specs.declared.parts.Part.{Part}
use Rattle.tc_stream.specs.declared.parts.Part.TheVariants as parts
use Rattle.tc_stream.proofs.ScanLaws.{then_scan, not_equal}
use Rattle.tc_stream.proofs.StepLaws.{section_whole}

-- one scan is not another

rests_same : {r s : List ℕ} → before r ≡ before s → r ≡ s
rests_same e = cc

counts_same : {n m : ℕ} → going n ≡ going m → n ≡ m
counts_same e = cc

going_before : {n : ℕ} {r : List ℕ} → going n ≡ before r → ⊥
going_before e = cc

broken_before : {r : List ℕ} → broken ≡ before r → ⊥
broken_before e = cc

going_broken : {n : ℕ} → going n ≡ broken → ⊥
going_broken e = cc

before_broken : {r : List ℕ} → before r ≡ broken → ⊥
before_broken e = cc

broken_going : {n : ℕ} → broken ≡ going n → ⊥
broken_going e = cc

-- what is told of an end

pub told_before : (left : ℕ) (text : List ℕ) (s : Scan) → TellsEnd (ends.Before left) text s → (rest : List ℕ) × (s ≡ before rest) × (left ≤ length text) × (rest ≡ drop (length text - left) text)
told_before left text (before rest) (low, back) = (rest, refl, low, back)
told_before left text (going n) h = absurd h
told_before left text broken h = absurd h

pub told_not : (known : ℕ) (text : List ℕ) (s : Scan) → TellsEnd (ends.Not known) text s → s ≡ going known
told_not known text (before rest) h = absurd h
told_not known text (going n) h = ap going (sym h)
told_not known text broken h = absurd h

pub told_broken : (text : List ℕ) (s : Scan) → TellsEnd ends.Broken text s → s ≡ broken
told_broken text (before rest) h = absurd h
told_broken text (going n) h = absurd h
told_broken text broken h = refl

-- a `>` ends these bytes, and this follows it
pub record EndsWith (w r : List ℕ) : Type 0 where
  pub place : ℕ
  pub low : place + 1 + length r ≡ length w
  pub is : get_or w place 0 ≡ 0x3E

ends_here : {b : ℕ} {w : List ℕ} → b ≡ 0x3E → EndsWith (b ∷ w) w
ends_here e = record { place = 0; low = omega arith; is = e }

ends_more : {w r : List ℕ} (b : ℕ) → EndsWith w r → EndsWith (b ∷ w) r
ends_more b e = record { place = suc e.place; low = omega (arith, e.low); is = e.is }

pub comment_ends : (h : ℕ) (w r : List ℕ) → comment_scan h w ≡ before r → EndsWith w r
comment_ends h [] r e = absurd (going_before e)
comment_ends h (b ∷ w) r e = by (h == 2) (b == 0x3E) (b == 0x2D) refl e (λ k. comment_ends (if h == 0 then 1 else 2) w r k) (λ k. comment_ends 0 w r k)
  where
    by : (x y z : Bool) → (b == 0x3E) ≡ y → (if x then (if y then before w else broken) else (if z then comment_scan (if h == 0 then 1 else 2) w else comment_scan 0 w)) ≡ before r
        → (comment_scan (if h == 0 then 1 else 2) w ≡ before r → EndsWith w r) → (comment_scan 0 w ≡ before r → EndsWith w r) → EndsWith (b ∷ w) r
    by true true z is k f g = subst (λ s. EndsWith (b ∷ w) s) (rests_same k) (ends_here (eqb-true b 0x3E is))
    by true false z is k f g = absurd (broken_before k)
    by false y true is k f g = ends_more b (f k)
    by false y false is k f g = ends_more b (g k)

pub instruction_ends : (q : ℕ) (w r : List ℕ) → instruction_scan q w ≡ before r → EndsWith w r
instruction_ends q [] r e = absurd (going_before e)
instruction_ends q (b ∷ w) r e = by (b == 0x3F) (b == 0x3E) (q == 1) refl e (λ k. instruction_ends 1 w r k) (λ k. instruction_ends 0 w r k)
  where
    by : (x y z : Bool) → (b == 0x3E) ≡ y → (if x then instruction_scan 1 w else (if y then (if z then before w else instruction_scan 0 w) else instruction_scan 0 w)) ≡ before r
        → (instruction_scan 1 w ≡ before r → EndsWith w r) → (instruction_scan 0 w ≡ before r → EndsWith w r) → EndsWith (b ∷ w) r
    by true y z is k f g = ends_more b (f k)
    by false true true is k f g = subst (λ s. EndsWith (b ∷ w) s) (rests_same k) (ends_here (eqb-true b 0x3E is))
    by false true false is k f g = ends_more b (g k)
    by false false z is k f g = ends_more b (g k)

pub section_ends : (h : ℕ) (w r : List ℕ) → cdata_scan h w ≡ before r → EndsWith w r
section_ends h [] r e = absurd (going_before e)
section_ends h (b ∷ w) r e = by (b == 0x5D) (b == 0x3E) (h == 2) refl e (λ k. section_ends (if h == 0 then 1 else 2) w r k) (λ k. section_ends 0 w r k)
  where
    by : (x y z : Bool) → (b == 0x3E) ≡ y → (if x then cdata_scan (if h == 0 then 1 else 2) w else (if y then (if z then before w else cdata_scan 0 w) else cdata_scan 0 w)) ≡ before r
        → (cdata_scan (if h == 0 then 1 else 2) w ≡ before r → EndsWith w r) → (cdata_scan 0 w ≡ before r → EndsWith w r) → EndsWith (b ∷ w) r
    by true y z is k f g = ends_more b (f k)
    by false true true is k f g = subst (λ s. EndsWith (b ∷ w) s) (rests_same k) (ends_here (eqb-true b 0x3E is))
    by false true false is k f g = ends_more b (g k)
    by false false z is k f g = ends_more b (g k)

-- some scans can't break off

pub instruction_unbroken : (q : ℕ) (w : List ℕ) → instruction_scan q w ≡ broken → ⊥
instruction_unbroken q [] e = going_broken e
instruction_unbroken q (b ∷ w) e = by (b == 0x3F) (b == 0x3E) (q == 1) e (λ k. instruction_unbroken 1 w k) (λ k. instruction_unbroken 0 w k)
  where
    by : (x y z : Bool) → (if x then instruction_scan 1 w else (if y then (if z then before w else instruction_scan 0 w) else instruction_scan 0 w)) ≡ broken → (instruction_scan 1 w ≡ broken → ⊥)
        → (instruction_scan 0 w ≡ broken → ⊥) → ⊥
    by true y z k f g = f k
    by false true true k f g = before_broken k
    by false true false k f g = g k
    by false false z k f g = g k

pub section_unbroken : (h : ℕ) (w : List ℕ) → cdata_scan h w ≡ broken → ⊥
section_unbroken h [] e = going_broken e
section_unbroken h (b ∷ w) e = by (b == 0x5D) (b == 0x3E) (h == 2) e (λ k. section_unbroken (if h == 0 then 1 else 2) w k) (λ k. section_unbroken 0 w k)
  where
    by : (x y z : Bool) → (if x then cdata_scan (if h == 0 then 1 else 2) w else (if y then (if z then before w else cdata_scan 0 w) else cdata_scan 0 w)) ≡ broken
        → (cdata_scan (if h == 0 then 1 else 2) w ≡ broken → ⊥) → (cdata_scan 0 w ≡ broken → ⊥) → ⊥
    by true y z k f g = f k
    by false true true k f g = before_broken k
    by false true false k f g = g k
    by false false z k f g = g k

-- and what they keep is at most two, or one

one_or_two : (h : ℕ) → (if h == 0 then 1 else 2) ≤ 2
one_or_two h = by (h == 0)
  where
    by : (x : Bool) → (if x then 1 else 2) ≤ 2
    by true = omega arith
    by false = omega arith

pub comment_low : (h n : ℕ) (w : List ℕ) → h ≤ 2 → comment_scan h w ≡ going n → n ≤ 2
comment_low h n [] low e = omega (arith, low, counts_same e)
comment_low h n (b ∷ w) low e =
    by (h == 2) (b == 0x3E) (b == 0x2D) e (λ k. comment_low (if h == 0 then 1 else 2) n w (one_or_two h) k) (λ k. comment_low 0 n w (omega arith) k)
  where
    by : (x y z : Bool) → (if x then (if y then before w else broken) else (if z then comment_scan (if h == 0 then 1 else 2) w else comment_scan 0 w)) ≡ going n
        → (comment_scan (if h == 0 then 1 else 2) w ≡ going n → n ≤ 2) → (comment_scan 0 w ≡ going n → n ≤ 2) → n ≤ 2
    by true true z k f g = absurd (going_before (sym k))
    by true false z k f g = absurd (broken_going k)
    by false y true k f g = f k
    by false y false k f g = g k

pub instruction_low : (q n : ℕ) (w : List ℕ) → q ≤ 1 → instruction_scan q w ≡ going n → n ≤ 1
instruction_low q n [] low e = omega (arith, low, counts_same e)
instruction_low q n (b ∷ w) low e = by (b == 0x3F) (b == 0x3E) (q == 1) e (λ k. instruction_low 1 n w (omega arith) k) (λ k. instruction_low 0 n w (omega arith) k)
  where
    by : (x y z : Bool) → (if x then instruction_scan 1 w else (if y then (if z then before w else instruction_scan 0 w) else instruction_scan 0 w)) ≡ going n → (instruction_scan 1 w ≡ going n → n ≤ 1)
        → (instruction_scan 0 w ≡ going n → n ≤ 1) → n ≤ 1
    by true y z k f g = f k
    by false true true k f g = absurd (going_before (sym k))
    by false true false k f g = g k
    by false false z k f g = g k

pub section_low : (h n : ℕ) (w : List ℕ) → h ≤ 2 → cdata_scan h w ≡ going n → n ≤ 2
section_low h n [] low e = omega (arith, low, counts_same e)
section_low h n (b ∷ w) low e = by (b == 0x5D) (b == 0x3E) (h == 2) e (λ k. section_low (if h == 0 then 1 else 2) n w (one_or_two h) k) (λ k. section_low 0 n w (omega arith) k)
  where
    by : (x y z : Bool) → (if x then cdata_scan (if h == 0 then 1 else 2) w else (if y then (if z then before w else cdata_scan 0 w) else cdata_scan 0 w)) ≡ going n
        → (cdata_scan (if h == 0 then 1 else 2) w ≡ going n → n ≤ 2) → (cdata_scan 0 w ≡ going n → n ≤ 2) → n ≤ 2
    by true y z k f g = f k
    by false true true k f g = absurd (going_before (sym k))
    by false true false k f g = g k
    by false false z k f g = g k

-- what is told of character data

pub told_data : {known : ℕ} (s : Scan) → TellsData (Some known) s → s ≡ going known
told_data (before rest) h = absurd h
told_data (going n) h = ap going (sym h)
told_data broken h = absurd h

pub told_no_data : (h : ℕ) (w : List ℕ) → TellsData None (cdata_scan h w) → (found : List ℕ) × (cdata_scan h w ≡ before found)
told_no_data h w t = by (cdata_scan h w) refl t
  where
    by : (s : Scan) → cdata_scan h w ≡ s → TellsData None s → (found : List ℕ) × (cdata_scan h w ≡ before found)
    by (before rest) e k = (rest, e)
    by (going n) e k = absurd k
    by broken e k = absurd (section_unbroken h w e)

-- what ends, ends with the bytes before what follows
pub scan_cut : (scan : ℕ → List ℕ → Scan) → ((h : ℕ) (w t : List ℕ) → scan h (w ++ t) ≡ then_scan scan (scan h w) t) → ((h : ℕ) (w r : List ℕ) → scan h w ≡ before r → EndsWith w r)
    → (h : ℕ) (used rest : List ℕ) → scan h (used ++ rest) ≡ before rest → scan h used ≡ before []
scan_cut scan more closes h used rest e = by (scan h used) refl
  where
    none : (q : List ℕ) → q ++ rest ≡ rest → q ≡ []
    none [] k = refl
    none (b ∷ q) k = absurd (omega (arith, ap length k, length-append q rest))

    by : (s : Scan) → scan h used ≡ s → scan h used ≡ before []
    by (before q) k =
        let there : before (q ++ rest) ≡ before rest = sym (ap (λ z. then_scan scan z rest) k) ∙ (sym (more h used rest) ∙ e) in
        k ∙ ap before (none q (rests_same there))
    by (going n) k =
        let there : scan n rest ≡ before rest = sym (ap (λ z. then_scan scan z rest) k) ∙ (sym (more h used rest) ∙ e) in
        let end = closes n rest rest there in
        absurd (omega (arith, end.low))
    by broken k =
        let there : broken ≡ before rest = sym (ap (λ z. then_scan scan z rest) k) ∙ (sym (more h used rest) ∙ e) in
        absurd (broken_before there)

-- a text may be cut behind its end
pub cut_behind : (w r : List ℕ) (n : ℕ) → IsUtf8 w → EndsWith w r → n + length r ≡ length w → IsCharBoundary w n
cut_behind w r n u e fit =
    let same : e.place + 1 ≡ n = omega (arith, fit, e.low) in
    subst (IsCharBoundary w) same (IsCharBoundary-after_ascii w e.place u (omega (arith, e.low)) (omega (arith, e.is)))

-- where it may be cut
pub cut_at_end : {text : List ℕ} (left : ℕ) (s : Scan) → IsUtf8 text → ((r : List ℕ) → s ≡ before r → EndsWith text r) → TellsEnd (ends.Before left) text s → IsCharBoundary text (length text - left)
cut_at_end {text} left s u closes t =
    let (found, same, low, back) = told_before left text s t in
    cut_behind text found (length text - left) u (closes found same) (omega (arith, low, ap length back, length-drop (length text - left) text))

-- how a text is parted where what has begun in it ends
pub record Parted (scan : Scan) (text used rest : List ℕ) : Type 0 where
  pub parts_are : text ≡ used ++ rest
  pub scanned : scan ≡ before rest
  pub shorter : length rest < length text
  pub characters : IsChars text → IsChars used

pub parted : {text used rest : List ℕ} (left : ℕ) (s : Scan) → ((r : List ℕ) → s ≡ before r → EndsWith text r) → TellsEnd (ends.Before left) text s → used ≡ take (length text - left) text → rest ≡ drop (length text - left) text
    → Parted s text used rest
parted {text} {used} {rest} left s closes t front back =
    let (found, same, low, there) = told_before left text s t in
    let end = closes found same in
    let both : rest ≡ found = back ∙ sym there in
    record {
      parts_are = sym (take-append-drop (length text - left) text) ∙ (ap (λ w. w ++ drop (length text - left) text) (sym front) ∙ ap (λ w. used ++ w) (sym back));
      scanned = same ∙ ap before (sym both);
      shorter = omega (arith, end.low, ap length both);
      characters = λ h. subst IsChars (sym front) (cut_chars text (length text - left) h (cut_at_end left s (chars_utf8 text h) closes t)).0;
    }

pub left_within : (left : ℕ) (text : List ℕ) (s : Scan) → TellsEnd (ends.Before left) text s → left ≤ length text
left_within left text s t = let (found, same, low, back) = told_before left text s t in low

-- the brackets of a CDATA section

-- behind so many brackets a section's end has three bytes
abbrev EndLow : ℕ → List ℕ → List ℕ → Type 0
EndLow h w r = cdata_scan h w ≡ before r → 3 + length r ≤ h + length w

section_end_low : (w r : List ℕ) → EndLow 0 w r × EndLow 1 w r × EndLow 2 w r
section_end_low [] r = (λ e. absurd (going_before e), λ e. absurd (going_before e), λ e. absurd (going_before e))
section_end_low (b ∷ w) r =
    let t = section_end_low w r in
    (λ e. none (b == 0x5D) (b == 0x3E) e t.0 t.1, λ e. one (b == 0x5D) (b == 0x3E) e t.0 t.2, λ e. two (b == 0x5D) (b == 0x3E) e t.0 t.2)
  where
    none : (x y : Bool) → (if x then cdata_scan 1 w else (if y then cdata_scan 0 w else cdata_scan 0 w)) ≡ before r → EndLow 0 w r → EndLow 1 w r → 3 + length r ≤ 0 + length (b ∷ w)
    none true y e f g = omega (arith, g e)
    none false true e f g = omega (arith, f e)
    none false false e f g = omega (arith, f e)

    one : (x y : Bool) → (if x then cdata_scan 2 w else (if y then cdata_scan 0 w else cdata_scan 0 w)) ≡ before r → EndLow 0 w r → EndLow 2 w r → 3 + length r ≤ 1 + length (b ∷ w)
    one true y e f g = omega (arith, g e)
    one false true e f g = omega (arith, f e)
    one false false e f g = omega (arith, f e)

    two : (x y : Bool) → (if x then cdata_scan 2 w else (if y then before w else cdata_scan 0 w)) ≡ before r → EndLow 0 w r → EndLow 2 w r → 3 + length r ≤ 2 + length (b ∷ w)
    two true y e f g = omega (arith, g e)
    two false true e f g = omega (arith, ap length (rests_same e))
    two false false e f g = omega (arith, f e)

-- a number that is at most two
by_two : (P : ℕ → Type 0) (h : ℕ) → h ≤ 2 → P 0 → P 1 → P 2 → P h
by_two P h low p q r = by (h == 0) (h == 1) refl refl
  where
    two : (h == 0) ≡ false → (h == 1) ≡ false → 2 ≡ h
    two e f = omega (arith, low, not_equal h 0 e, not_equal h 1 f)

    by : (x y : Bool) → (h == 0) ≡ x → (h == 1) ≡ y → P h
    by true y e f = subst P (sym (eqb-true h 0 e)) p
    by false true e f = subst P (sym (eqb-true h 1 f)) q
    by false false e f = subst P (two e f) r

pub section_end_within : (h : ℕ) (w r : List ℕ) → h ≤ 2 → cdata_scan h w ≡ before r → 3 + length r ≤ h + length w
section_end_within h w r low e = by_two (λ k. EndLow k w r) h low (section_end_low w r).0 (section_end_low w r).1 (section_end_low w r).2 e

-- so many brackets stand at its end
record Tail (w : List ℕ) (k : ℕ) : Type 0 where
  front : List ℕ
  parts : w ≡ front ++ replicate k 0x5D

tail_more : {w : List ℕ} {k : ℕ} (b : ℕ) → Tail w k → Tail (b ∷ w) k
tail_more b t = record { front = b ∷ t.front; parts = ap (λ z. b ∷ z) t.parts }

tail_at : (w : List ℕ) (n k : ℕ) → w ≡ replicate n 0x5D → n ≡ k → Tail w k
tail_at w n k e f = record { front = []; parts = e ∙ ap (λ m. replicate m 0x5D) f }

tails : (w : List ℕ) (k : ℕ) → (cdata_scan 0 w ≡ going k → Tail w k) × (cdata_scan 1 w ≡ going k → Tail (0x5D ∷ w) k) × (cdata_scan 2 w ≡ going k → Tail (0x5D ∷ 0x5D ∷ w) k)
tails [] k = (λ e. tail_at [] 0 k refl (counts_same e), λ e. tail_at (0x5D ∷ []) 1 k refl (counts_same e), λ e. tail_at (0x5D ∷ 0x5D ∷ []) 2 k refl (counts_same e))
tails (b ∷ w) k =
    let t = tails w k in
    (λ e. none (b == 0x5D) (b == 0x3E) refl e t.0 t.1, λ e. one (b == 0x5D) (b == 0x3E) refl e t.0 t.2, λ e. two (b == 0x5D) (b == 0x3E) refl e t.0 t.2)
  where
    none : (x y : Bool) → (b == 0x5D) ≡ x → (if x then cdata_scan 1 w else (if y then cdata_scan 0 w else cdata_scan 0 w)) ≡ going k → (cdata_scan 0 w ≡ going k → Tail w k)
        → (cdata_scan 1 w ≡ going k → Tail (0x5D ∷ w) k) → Tail (b ∷ w) k
    none true y is e f g = subst (λ z. Tail (z ∷ w) k) (sym (eqb-true b 0x5D is)) (g e)
    none false true is e f g = tail_more b (f e)
    none false false is e f g = tail_more b (f e)

    one : (x y : Bool) → (b == 0x5D) ≡ x → (if x then cdata_scan 2 w else (if y then cdata_scan 0 w else cdata_scan 0 w)) ≡ going k → (cdata_scan 0 w ≡ going k → Tail w k)
        → (cdata_scan 2 w ≡ going k → Tail (0x5D ∷ 0x5D ∷ w) k) → Tail (0x5D ∷ b ∷ w) k
    one true y is e f g = subst (λ z. Tail (0x5D ∷ z ∷ w) k) (sym (eqb-true b 0x5D is)) (g e)
    one false true is e f g = tail_more 0x5D (tail_more b (f e))
    one false false is e f g = tail_more 0x5D (tail_more b (f e))

    two : (x y : Bool) → (b == 0x5D) ≡ x → (if x then cdata_scan 2 w else (if y then before w else cdata_scan 0 w)) ≡ going k → (cdata_scan 0 w ≡ going k → Tail w k)
        → (cdata_scan 2 w ≡ going k → Tail (0x5D ∷ 0x5D ∷ w) k) → Tail (0x5D ∷ 0x5D ∷ b ∷ w) k
    two true y is e f g = tail_more 0x5D (subst (λ z. Tail (0x5D ∷ z ∷ w) k) (sym (eqb-true b 0x5D is)) (g e))
    two false true is e f g = absurd (going_before (sym e))
    two false false is e f g = tail_more 0x5D (tail_more 0x5D (tail_more b (f e)))

-- what is known of a section, and the brackets that may end it
pub known_inside : (w : List ℕ) (k : ℕ) → cdata_scan 0 w ≡ going k → (w ≡ take (length w - k) w ++ replicate k 0x5D) × (length w ≡ length (take (length w - k) w) + k)
known_inside w k e =
    let t = (tails w k).0 e in
    let long : length w ≡ length t.front + k = ap length t.parts ∙ (length-append t.front (replicate k 0x5D) ∙ ap (λ n. length t.front + n) (length-replicate k 0x5D)) in
    let count : length w - k ≡ length t.front = omega (arith, long) in
    let front : take (length w - k) w ≡ t.front = ap (λ n. take n w) count ∙ (ap (take (length t.front)) t.parts ∙ take-append_seam t.front (replicate k 0x5D)) in
    (t.parts ∙ ap (λ z. z ++ replicate k 0x5D) (sym front), long ∙ ap (λ z. length z + k) (sym front))

-- the brackets that stay are some of these bytes, or of those before them
abbrev GoingLow : ℕ → List ℕ → ℕ → Type 0
GoingLow h w k = cdata_scan h w ≡ going k → k ≤ h + length w

going_low : (w : List ℕ) (k : ℕ) → GoingLow 0 w k × GoingLow 1 w k × GoingLow 2 w k
going_low [] k = (λ e. omega (arith, counts_same e), λ e. omega (arith, counts_same e), λ e. omega (arith, counts_same e))
going_low (b ∷ w) k =
    let t = going_low w k in
    (λ e. none (b == 0x5D) (b == 0x3E) e t.0 t.1, λ e. one (b == 0x5D) (b == 0x3E) e t.0 t.2, λ e. two (b == 0x5D) (b == 0x3E) e t.0 t.2)
  where
    none : (x y : Bool) → (if x then cdata_scan 1 w else (if y then cdata_scan 0 w else cdata_scan 0 w)) ≡ going k → GoingLow 0 w k → GoingLow 1 w k → k ≤ 0 + length (b ∷ w)
    none true y e f g = omega (arith, g e)
    none false true e f g = omega (arith, f e)
    none false false e f g = omega (arith, f e)

    one : (x y : Bool) → (if x then cdata_scan 2 w else (if y then cdata_scan 0 w else cdata_scan 0 w)) ≡ going k → GoingLow 0 w k → GoingLow 2 w k → k ≤ 1 + length (b ∷ w)
    one true y e f g = omega (arith, g e)
    one false true e f g = omega (arith, f e)
    one false false e f g = omega (arith, f e)

    two : (x y : Bool) → (if x then cdata_scan 2 w else (if y then before w else cdata_scan 0 w)) ≡ going k → GoingLow 0 w k → GoingLow 2 w k → k ≤ 2 + length (b ∷ w)
    two true y e f g = omega (arith, g e)
    two false true e f g = absurd (going_before (sym e))
    two false false e f g = omega (arith, f e)

pub section_going_within : (h k : ℕ) (w : List ℕ) → h ≤ 2 → cdata_scan h w ≡ going k → k ≤ h + length w
section_going_within h k w low e = by_two (λ n. GoingLow n w k) h low (going_low w k).0 (going_low w k).1 (going_low w k).2 e

-- what is known of a section behind more of it
pub section_known : (inside used : List ℕ) (brackets left : ℕ) → cdata_scan 0 inside ≡ going brackets → left ≤ brackets + length used
    → take (length (inside ++ used) - left) (inside ++ used) ≡ take (length inside - brackets) inside ++ take ((brackets + length used) - left) (replicate brackets 0x5D ++ used)
section_known inside used brackets left e low =
    let (split, long) = known_inside inside brackets e in
    let known = take (length inside - brackets) inside in
    let more = replicate brackets 0x5D ++ used in
    let all : inside ++ used ≡ known ++ more = ap (λ w. w ++ used) split ∙ append_assoc known (replicate brackets 0x5D) used in
    let count : length (inside ++ used) - left ≡ length known + ((brackets + length used) - left) = omega (arith, low, long, length-append inside used) in
    ap (λ w. take (length (inside ++ used) - left) w) all ∙ (ap (λ n. take n (known ++ more)) count ∙ take-append-add known more ((brackets + length used) - left))

-- a section that has ended
pub section_at : (w f : List ℕ) → cdata_scan 0 w ≡ before [] → CdataAt ((codes "<![CDATA[" ++ w) ++ f) (take (length w - 3) w) f
section_at w f e =
    let (inside, a) = section_whole w f e in
    let same : a.rest ≡ w ++ f = append_cancel_left (codes "<![CDATA[") a.rest (w ++ f) (sym a.opens ∙ append_assoc (codes "<![CDATA[") w f) in
    let u : UpTo (codes "]]>") (w ++ f) inside f = subst (λ z. UpTo (codes "]]>") z inside f) same a.closes in
    let n = length_before (codes "]]>") (w ++ f) in
    let some : length (w ++ f) - n ≡ length (codes "]]>" ++ f) = sym (length-drop n (w ++ f)) ∙ ap length u.back in
    let count : n + 3 ≡ length w = omega (arith, some, length-append w f, length-append (codes "]]>") f) in
    let is : n ≡ length w - 3 = omega (arith, count) in
    let within : inside ≡ take (length w - 3) w = u.front ∙ (take-append-le n w f (omega (arith, count)) ∙ ap (λ m. take m w) is) in
    subst (λ z. CdataAt ((codes "<![CDATA[" ++ w) ++ f) z f) within a

-- line ends are white space before they are read as LF, and behind
pub white_lines : (w : List ℕ) → list_all is_white (line_ends w) ≡ list_all is_white w
white_lines [] = refl
white_lines (b ∷ w) = by (b == 0xD) (begins_with (0xA ∷ []) w) refl (white_lines w)
  where
    by : (x y : Bool) → (b == 0xD) ≡ x → list_all is_white (line_ends w) ≡ list_all is_white w
        → list_all is_white (if x then (if y then line_ends w else 0xA ∷ line_ends w) else b ∷ line_ends w) ≡ (is_white b && list_all is_white w)
    by true true e h = h ∙ sym (ap (λ z. is_white z && list_all is_white w) (eqb-true b 0xD e))
    by true false e h = h ∙ sym (ap (λ z. is_white z && list_all is_white w) (eqb-true b 0xD e))
    by false y e h = ap (λ z. is_white b && z) h

-- the counts that are kept

pub counted_comment : {part : Part} {n : ℕ} → part ≡ parts.Comment n → IsTrue (is_counted part) → n ≤ 2
counted_comment {part} {n} e h = leb-true n 2 (subst (λ p. IsTrue (is_counted p)) e h)

pub counted_instruction : {part : Part} {n : ℕ} → part ≡ parts.Instruction n → IsTrue (is_counted part) → n ≤ 1
counted_instruction {part} {n} e h = leb-true n 1 (subst (λ p. IsTrue (is_counted p)) e h)

pub counted_section : {part : Part} {n : ℕ} → part ≡ parts.Cdata n → IsTrue (is_counted part) → n ≤ 2
counted_section {part} {n} e h = leb-true n 2 (subst (λ p. IsTrue (is_counted p)) e h)

pub counted_data : {part : Part} {n : ℕ} → part ≡ parts.Data n → IsTrue (is_counted part) → n ≤ 2
counted_data {part} {n} e h = leb-true n 2 (subst (λ p. IsTrue (is_counted p)) e h)

-- what steps over the bytes of a text tell of the text

pub comment_told : {bytes text : List ℕ} (e : Ended) (h : ℕ) → bytes ≡ text → TellsEnd e bytes (comment_scan h bytes) → TellsEnd e text (comment_scan h text)
comment_told e h same t = subst (λ w. TellsEnd e w (comment_scan h w)) same t

pub instruction_told : {bytes text : List ℕ} (e : Ended) (q : ℕ) → bytes ≡ text → TellsEnd e bytes (instruction_scan q bytes) → TellsEnd e text (instruction_scan q text)
instruction_told e q same t = subst (λ w. TellsEnd e w (instruction_scan q w)) same t

pub section_told : {bytes text : List ℕ} (e : Ended) (h : ℕ) → bytes ≡ text → TellsEnd e bytes (cdata_scan h bytes) → TellsEnd e text (cdata_scan h text)
section_told e h same t = subst (λ w. TellsEnd e w (cdata_scan h w)) same t

-- the parts of a text that ends a comment, a processing instruction, a CDATA section

pub comment_parted : {used rest : List ℕ} (text : List ℕ) (left h : ℕ) → TellsEnd (ends.Before left) text (comment_scan h text) → used ≡ take (length text - left) text → rest ≡ drop (length text - left) text → Parted (comment_scan h text) text used rest
comment_parted text left h t front back = parted left (comment_scan h text) (λ r e. comment_ends h text r e) t front back

pub comment_cut : (text : List ℕ) (left h : ℕ) → IsUtf8 text → TellsEnd (ends.Before left) text (comment_scan h text) → IsCharBoundary text (length text - left)
comment_cut text left h u t = cut_at_end left (comment_scan h text) u (λ r e. comment_ends h text r e) t

pub instruction_parted : {used rest : List ℕ} (text : List ℕ) (left q : ℕ) → TellsEnd (ends.Before left) text (instruction_scan q text) → used ≡ take (length text - left) text → rest ≡ drop (length text - left) text
    → Parted (instruction_scan q text) text used rest
instruction_parted text left q t front back = parted left (instruction_scan q text) (λ r e. instruction_ends q text r e) t front back

pub instruction_cut : (text : List ℕ) (left q : ℕ) → IsUtf8 text → TellsEnd (ends.Before left) text (instruction_scan q text) → IsCharBoundary text (length text - left)
instruction_cut text left q u t = cut_at_end left (instruction_scan q text) u (λ r e. instruction_ends q text r e) t

pub section_parted : {used rest : List ℕ} (text : List ℕ) (left h : ℕ) → TellsEnd (ends.Before left) text (cdata_scan h text) → used ≡ take (length text - left) text → rest ≡ drop (length text - left) text → Parted (cdata_scan h text) text used rest
section_parted text left h t front back = parted left (cdata_scan h text) (λ r e. section_ends h text r e) t front back

pub section_cut : (text : List ℕ) (left h : ℕ) → IsUtf8 text → TellsEnd (ends.Before left) text (cdata_scan h text) → IsCharBoundary text (length text - left)
section_cut text left h u t = cut_at_end left (cdata_scan h text) u (λ r e. section_ends h text r e) t

-- counts that stay small

pub comment_counted : (h n : ℕ) (text : List ℕ) → h ≤ 2 → TellsEnd (ends.Not n) text (comment_scan h text) → nat_le n 2 ≡ true
comment_counted h n text low t = le-leb n 2 (comment_low h n text low (told_not n text (comment_scan h text) t))

pub instruction_counted : (q n : ℕ) (text : List ℕ) → q ≤ 1 → TellsEnd (ends.Not n) text (instruction_scan q text) → nat_le n 1 ≡ true
instruction_counted q n text low t = le-leb n 1 (instruction_low q n text low (told_not n text (instruction_scan q text) t))

pub section_counted : (h n : ℕ) (text : List ℕ) → h ≤ 2 → TellsEnd (ends.Not n) text (cdata_scan h text) → nat_le n 2 ≡ true
section_counted h n text low t = le-leb n 2 (section_low h n text low (told_not n text (cdata_scan h text) t))

pub data_counted : (h n : ℕ) (text : List ℕ) → h ≤ 2 → TellsData (Some n) (cdata_scan h text) → nat_le n 2 ≡ true
data_counted h n text low t = le-leb n 2 (section_low h n text low (told_data (cdata_scan h text) t))
