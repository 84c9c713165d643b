-- What a character behind `<!` makes of it, and one of a mark.
use Rattle.std.proofs.Common.{◌≡◌, ◌≢◌, inl, inr, ◌⊎◌, ℕ, zero, suc, ◌<◌, ◌≤◌, ◌+◌, ◌-◌, true, List, [], ◌∷◌, ◌++◌, refl, ap, ◌∙◌, sym, subst, length, take, drop, slice_index, arith, codes, IsTrue, append_assoc, take-append-drop}
use Rattle.std.specs.Prelude.{encode_utf8, nat_le, nat_lt}
use Rattle.std.specs.List.{list_all}
use Rattle.std.proofs.lemmas.Bool.{and_parts, cases_lt, ltb-true}
use Rattle.std.proofs.lemmas.List.{append_cancel_left, length-take-le, take_all, take_more, drop_more}
use Rattle.tc_base.specs.Characters.{is_char}
use Rattle.tc_base.specs.declared.Place.{Place}
use Rattle.tc_model.specs.Grammars.{Grammar}
use Rattle.tc_model.specs.Names.{IsChars}
use Rattle.tc_model.specs.Trees.{is_white_space_only}
use Rattle.tc_model.proofs.XmlTextChars.{one_char}
use Rattle.tc_model.proofs.XmlTextPhrases.{same_first, same_others}
use Rattle.tc_stream.specs.Counted.{is_counted}
use Rattle.tc_stream.specs.From.{StillComes}
use Rattle.tc_stream.specs.Faults.{IsFaultOfFront}
use Rattle.tc_stream.specs.Marks.{MayStand, mark_of}
use Rattle.tc_stream.specs.Parts.{Pends, MayPend, begun_by}
use Rattle.tc_stream.specs.Phases.{past_front}
use Rattle.tc_stream.specs.Stands.{ReadsTo, known_text}
use Rattle.tc_stream.specs.declared.faults.StreamFault.{StreamFault}
use Rattle.tc_stream.specs.declared.faults.StreamFault.TheVariants as faults
use Rattle.tc_stream.specs.declared.parts.Mark.{Mark}
use Rattle.tc_stream.specs.declared.parts.Mark.TheVariants as marks
use Rattle.tc_stream.specs.declared.parts.Part.{Part}
use Rattle.tc_stream.specs.declared.parts.Part.TheVariants as parts
use Rattle.tc_stream.specs.declared.phases.Phase.{Phase}
use Rattle.tc_stream.specs.declared.phases.Phase.TheVariants as phases
use Rattle.tc_stream.specs.declared.reader.Reader.{Reader}
use Rattle.tc_stream.proofs.EncodedLaws.{is_low}
use Rattle.tc_stream.proofs.BrokenSteps.{IsNoMark, bang_step}
use Rattle.tc_stream.proofs.ReadingLaws.{pending_with, stands_in}
use Rattle.tc_stream.proofs.PendingLaws.{Stays, Passes, pends_of, may_of, nonempty, one_byte, is_byte, more_room, grows, grows_past, not_mark_past, not_front_past, breaks}

-- the bytes of a mark are of ASCII, and the third one tells it

mark_low : (mark : Mark) → list_all is_low (mark_of mark) ≡ true
mark_low marks.Comment = refl
mark_low marks.Cdata = refl
mark_low marks.Doctype = refl

low_at : (w : List ℕ) (i : ℕ) → list_all is_low w ≡ true → slice_index w i < 128
low_at [] i h = omega arith
low_at (b ∷ w) zero h = ltb-true b 128 (and_parts (is_low b) (list_all is_low w) h).0
low_at (b ∷ w) (suc i) h = low_at w i (and_parts (is_low b) (list_all is_low w) h).1

three_of : (mark : Mark) → take 3 (mark_of mark) ≡ 0x3C ∷ 0x21 ∷ slice_index (mark_of mark) 2 ∷ []
three_of marks.Comment = refl
three_of marks.Cdata = refl
three_of marks.Doctype = refl

long_mark : (mark : Mark) → 3 < length (mark_of mark)
long_mark marks.Comment = omega arith
long_mark marks.Cdata = omega arith
long_mark marks.Doctype = omega arith

stands_past : (phase : Phase) (mark : Mark) → MayStand phase mark → MayStand (past_front phase) mark
stands_past phase marks.Comment h = tt
stands_past phase marks.Cdata h = ap past_front h
stands_past phase marks.Doctype (inl h) = inr (ap past_front h)
stands_past phase marks.Doctype (inr h) = inr (ap past_front h)

pub mark_begins : {x : Grammar} {old new : Reader} {chars : List ℕ} {mark : Mark} (c : ℕ) → Passes old new → old.part ≡ parts.Marked → new.part ≡ parts.Mark mark 3 → MayStand old.phase mark → c ≡ slice_index (mark_of mark) 2
    → IsTrue (is_char c) → ReadsTo x old chars → ReadsTo x new (chars ++ encode_utf8 c)
mark_begins {old = old} {mark = mark} c passes at is stands same char r =
    let bang : r.pending ≡ 0x3C ∷ 0x21 ∷ [] = pends_of r at in
    let item : r.pending ++ encode_utf8 c ≡ take 3 (mark_of mark) = ap (λ w. w ++ encode_utf8 c) bang ∙ (ap (λ w. 0x3C ∷ 0x21 ∷ w) (one_byte same (low_at (mark_of mark) 2 (mark_low mark))) ∙ sym (three_of mark)) in
    grows_past c r char passes at is (nonempty bang) (λ f t e w. not_question f t (sym (ap (λ z. (z ++ encode_utf8 c) ++ f) bang) ∙ e)) refl
    (not_mark_past old.phase (may_of r at), not_front_past old.phase, stands_past old.phase mark stands) (omega arith, long_mark mark, item)
  where
    not_question : (f t : List ℕ) → 0x3C ∷ 0x21 ∷ (encode_utf8 c ++ f) ≡ codes "<?xml" ++ t → ⊥
    not_question f t e = omega (arith, same_first (same_others e))

-- no mark that may stand here begins so
no_mark_at : (phase : Phase) (c : ℕ) (f : List ℕ) → phase ≢ phases.Mark → ((mark : Mark) → MayStand phase mark → c ≡ slice_index (mark_of mark) 2 → ⊥) → IsNoMark phase (0x3C ∷ 0x21 ∷ (encode_utf8 c ++ f))
no_mark_at phases.Mark c f m none = absurd (m refl)
no_mark_at phases.Front c f m none = λ r e. none marks.Doctype (inl refl) (is_byte c 0x44 f (codes "OCTYPE" ++ r) (omega arith) (same_others (same_others e)))
no_mark_at phases.Prolog c f m none = λ r e. none marks.Doctype (inr refl) (is_byte c 0x44 f (codes "OCTYPE" ++ r) (omega arith) (same_others (same_others e)))
no_mark_at phases.Root c f m none = tt
no_mark_at phases.Content c f m none = λ r e. none marks.Cdata refl (is_byte c 0x5B f (codes "CDATA[" ++ r) (omega arith) (same_others (same_others e)))
no_mark_at phases.End c f m none = tt

pub marked_breaks : {x : Grammar} {s : Reader} {chars : List ℕ} {e : StreamFault} {place : Place} (c : ℕ) → s.part ≡ parts.Marked → ((mark : Mark) → MayStand s.phase mark → c ≡ slice_index (mark_of mark) 2 → ⊥)
    → e ≡ faults.Malformed place → place.0 ≤ s.begun + 1 → IsTrue (is_char c) → ReadsTo x s chars → IsFaultOfFront (chars ++ encode_utf8 c) e
marked_breaks {s = s} {place = place} c at none is low char r =
    let bang : r.pending ≡ 0x3C ∷ 0x21 ∷ [] = pends_of r at in
    let item : r.pending ++ encode_utf8 c ≡ 0x3C ∷ 0x21 ∷ encode_utf8 c = ap (λ w. w ++ encode_utf8 c) bang in
    let chars_are : IsChars (0x3C ∷ 0x21 ∷ encode_utf8 c) = subst IsChars item (pending_with (encode_utf8 c) r (one_char c char)) in
    breaks c r is (more_room c place.0 r (nonempty bang) low)
    (λ f o g. bang_step (length r.before) (encode_utf8 c) f s.phase r.standing o (stands_in (may_of r at) r.tells) chars_are
    (λ h t e. none marks.Comment tt (is_byte c 0x2D h (0x2D ∷ t) (omega arith) (same_others (same_others e))))
    (λ h. no_mark_at s.phase c h (may_of r at) none)
    (subst (λ w. StillComes (length r.before) s.phase r.standing (w ++ f) o) item g))

-- within a mark

some_pending : (mark : Mark) (count : ℕ) (w : List ℕ) → 3 ≤ count → count < length (mark_of mark) → w ≡ take count (mark_of mark) → w ≢ []
some_pending mark count w some low e n = omega (arith, some, low, ap length (sym e ∙ n), length-take-le count (mark_of mark) (omega (arith, low)))

-- one that has come in part goes on with its next byte
mark_more : {w : List ℕ} (mark : Mark) (count more c : ℕ) → count < length (mark_of mark) → w ≡ take count (mark_of mark) → more ≡ count + 1 → c ≡ slice_index (mark_of mark) count → w ++ encode_utf8 c ≡ take more (mark_of mark)
mark_more mark count more c low e is same =
    let m = mark_of mark in
    ap (λ z. z ++ encode_utf8 c) e
    ∙ (ap (λ z. take count m ++ z) (one_byte same (low_at m count (mark_low mark))) ∙ (sym (take_more m count 0 low) ∙ ap (λ n. take n m) (sym is)))

-- what has begun once all of it has come

whole_text : (mark : Mark) (w : List ℕ) → w ≡ mark_of mark → is_white_space_only (known_text (begun_by mark) w) ≡ true
whole_text marks.Comment w e = refl
whole_text marks.Cdata w e = ap (λ z. is_white_space_only (known_text (parts.Cdata 0) z)) e
whole_text marks.Doctype w e = refl

whole_may : (mark : Mark) (phase : Phase) → phase ≢ phases.Front → phase ≢ phases.Mark → MayStand phase mark → MayPend phase (begun_by mark)
whole_may marks.Comment phase f m h = (m, f)
whole_may marks.Cdata phase f m h = h
whole_may marks.Doctype phase f m (inl h) = absurd (f h)
whole_may marks.Doctype phase f m (inr h) = h

whole_pends : (mark : Mark) (n : ℕ) (kept : Reader) (w : List ℕ) → w ≡ mark_of mark → Pends n (begun_by mark) kept w
whole_pends marks.Comment n kept w e = ([], e, refl)
whole_pends marks.Cdata n kept w e = ([], e, refl)
whole_pends marks.Doctype n kept w e = ([], e, refl)

pub mark_reads : {x : Grammar} {old new : Reader} {chars : List ℕ} {mark : Mark} {count more : ℕ} (part : Part) (c : ℕ) → Stays old new → old.part ≡ parts.Mark mark count → new.part ≡ part
    → (more < length (mark_of mark) → part ≡ parts.Mark mark more) → (length (mark_of mark) ≤ more → part ≡ begun_by mark) → more ≡ count + 1 → c ≡ slice_index (mark_of mark) count
    → IsTrue (is_char c) → ReadsTo x old chars → ReadsTo x new (chars ++ encode_utf8 c)
mark_reads {x} {old} {new} {chars} {mark} {count} {more} part c stays at is goes all one same char r = by (pends_of r at) (may_of r at) (cases_lt more (length (mark_of mark)))
  where
    by : (3 ≤ count) × (count < length (mark_of mark)) × (r.pending ≡ take count (mark_of mark)) → (old.phase ≢ phases.Mark) × (old.phase ≢ phases.Front) × MayStand old.phase mark
        → (more < length (mark_of mark)) ⊎ (length (mark_of mark) ≤ more) → ReadsTo x new (chars ++ encode_utf8 c)
    by (some, low, e) may (inl short) =
        grows c r char stays at (is ∙ goes short) (some_pending mark count r.pending some low e) refl may (omega (arith, some, one), short, mark_more mark count more c low e one same)
    by (some, low, e) (m, f, stands) (inr long) =
        let item : r.pending ++ encode_utf8 c ≡ mark_of mark = mark_more mark count more c low e one same ∙ take_all more (mark_of mark) long in
        grows c r char stays at (is ∙ all long) (some_pending mark count r.pending some low e) (sym (whole_text mark (r.pending ++ encode_utf8 c) item)) (whole_may mark old.phase f m stands)
        (whole_pends mark (length r.before) new (r.pending ++ encode_utf8 c) item)

-- which can't go on

pub front_three : (mark : Mark) (count : ℕ) → 3 ≤ count → take count (mark_of mark) ≡ 0x3C ∷ 0x21 ∷ slice_index (mark_of mark) 2 ∷ take (count - 3) (drop 3 (mark_of mark))
front_three mark count low = ap (λ n. take n (mark_of mark)) is ∙ by mark (count - 3)
  where
    is : count ≡ suc (suc (suc (count - 3)))
    is = omega (arith, low)

    by : (m : Mark) (n : ℕ) → take (suc (suc (suc n))) (mark_of m) ≡ 0x3C ∷ 0x21 ∷ slice_index (mark_of m) 2 ∷ take n (drop 3 (mark_of m))
    by marks.Comment n = refl
    by marks.Cdata n = refl
    by marks.Doctype n = refl

-- the same mark goes on otherwise
same_mark : (m : List ℕ) (count c : ℕ) (f t : List ℕ) → count < length m → slice_index m count < 128 → (c ≡ slice_index m count → ⊥) → (take count m ++ encode_utf8 c) ++ f ≡ m ++ t → ⊥
same_mark m count c f t low small n e =
    let b = slice_index m count in
    let left = drop (count + 1) m in
    let parts : m ≡ take count m ++ b ∷ left = sym (take-append-drop count m) ∙ ap (λ w. take count m ++ w) (drop_more m count 0 low) in
    let there : take count m ++ (encode_utf8 c ++ f) ≡ take count m ++ (b ∷ (left ++ t)) =
    sym (append_assoc (take count m) (encode_utf8 c) f) ∙ (e ∙ (ap (λ w. w ++ t) parts ∙ append_assoc (take count m) (b ∷ left) t)) in
    n (is_byte c b f (left ++ t) small (append_cancel_left (take count m) (encode_utf8 c ++ f) (b ∷ (left ++ t)) there))

-- and no other mark begins so
no_mark_in : (m w : Mark) (count c : ℕ) (f t : List ℕ) → 3 ≤ count → count < length (mark_of m) → (c ≡ slice_index (mark_of m) count → ⊥)
    → 0x3C ∷ 0x21 ∷ (((slice_index (mark_of m) 2 ∷ take (count - 3) (drop 3 (mark_of m))) ++ encode_utf8 c) ++ f) ≡ mark_of w ++ t → ⊥
no_mark_in marks.Comment marks.Comment count c f t some low n e =
    same_mark (mark_of marks.Comment) count c f t low (low_at (mark_of marks.Comment) count refl) n (ap (λ z. (z ++ encode_utf8 c) ++ f) (front_three marks.Comment count some) ∙ e)
no_mark_in marks.Comment marks.Cdata count c f t some low n e = omega (arith, same_first (same_others (same_others e)))
no_mark_in marks.Comment marks.Doctype count c f t some low n e = omega (arith, same_first (same_others (same_others e)))
no_mark_in marks.Cdata marks.Comment count c f t some low n e = omega (arith, same_first (same_others (same_others e)))
no_mark_in marks.Cdata marks.Cdata count c f t some low n e =
    same_mark (mark_of marks.Cdata) count c f t low (low_at (mark_of marks.Cdata) count refl) n (ap (λ z. (z ++ encode_utf8 c) ++ f) (front_three marks.Cdata count some) ∙ e)
no_mark_in marks.Cdata marks.Doctype count c f t some low n e = omega (arith, same_first (same_others (same_others e)))
no_mark_in marks.Doctype marks.Comment count c f t some low n e = omega (arith, same_first (same_others (same_others e)))
no_mark_in marks.Doctype marks.Cdata count c f t some low n e = omega (arith, same_first (same_others (same_others e)))
no_mark_in marks.Doctype marks.Doctype count c f t some low n e =
    same_mark (mark_of marks.Doctype) count c f t low (low_at (mark_of marks.Doctype) count refl) n (ap (λ z. (z ++ encode_utf8 c) ++ f) (front_three marks.Doctype count some) ∙ e)

others_there : (phase : Phase) (m : Mark) (count c : ℕ) (f : List ℕ) → phase ≢ phases.Mark → 3 ≤ count → count < length (mark_of m) → (c ≡ slice_index (mark_of m) count → ⊥)
    → IsNoMark phase (0x3C ∷ 0x21 ∷ (((slice_index (mark_of m) 2 ∷ take (count - 3) (drop 3 (mark_of m))) ++ encode_utf8 c) ++ f))
others_there phases.Mark m count c f at some low n = absurd (at refl)
others_there phases.Front m count c f at some low n = λ t e. no_mark_in m marks.Doctype count c f t some low n e
others_there phases.Prolog m count c f at some low n = λ t e. no_mark_in m marks.Doctype count c f t some low n e
others_there phases.Root m count c f at some low n = tt
others_there phases.Content m count c f at some low n = λ t e. no_mark_in m marks.Cdata count c f t some low n e
others_there phases.End m count c f at some low n = tt

pub mark_breaks : {x : Grammar} {s : Reader} {chars : List ℕ} {e : StreamFault} {place : Place} {mark : Mark} {count : ℕ} (c : ℕ) → s.part ≡ parts.Mark mark count → (c ≡ slice_index (mark_of mark) count → ⊥)
    → e ≡ faults.Malformed place → place.0 ≤ s.begun + 1 → IsTrue (is_char c) → ReadsTo x s chars → IsFaultOfFront (chars ++ encode_utf8 c) e
mark_breaks {x} {s} {chars} {e} {place} {mark} {count} c at none is room char r = by (pends_of r at) (may_of r at)
  where
    by : (3 ≤ count) × (count < length (mark_of mark)) × (r.pending ≡ take count (mark_of mark)) → (s.phase ≢ phases.Mark) × (s.phase ≢ phases.Front) × MayStand s.phase mark → IsFaultOfFront (chars ++ encode_utf8 c) e
    by (some, low, k) (m, q, stands) =
        let rest = (slice_index (mark_of mark) 2 ∷ take (count - 3) (drop 3 (mark_of mark))) ++ encode_utf8 c in
        let item : r.pending ++ encode_utf8 c ≡ 0x3C ∷ 0x21 ∷ rest = ap (λ w. w ++ encode_utf8 c) (k ∙ front_three mark count some) in
        let chars_are : IsChars (0x3C ∷ 0x21 ∷ rest) = subst IsChars item (pending_with (encode_utf8 c) r (one_char c char)) in
        breaks c r is (more_room c place.0 r (some_pending mark count r.pending some low k) room)
        (λ f o g. bang_step (length r.before) rest f s.phase r.standing o (stands_in m r.tells) chars_are
        (λ h t d. no_mark_in mark marks.Comment count c h t some low none d)
        (λ h. others_there s.phase mark count c h m some low none)
        (subst (λ w. StillComes (length r.before) s.phase r.standing (w ++ f) o) item g))

-- the count that is kept is below the mark's
pub counted_low : (part : Part) (mark : Mark) (count : ℕ) → IsTrue (is_counted part) → part ≡ parts.Mark mark count → count < length (mark_of mark)
counted_low part mark count h e =
    ltb-true count (length (mark_of mark)) (and_parts (nat_le 3 count) (nat_lt count (length (mark_of mark))) (subst (λ p. IsTrue (is_counted p)) e h)).1

-- and so is that of a mark that has begun, or has gone on

pub counted_three : (mark : Mark) → IsTrue (is_counted (parts.Mark mark 3))
counted_three marks.Comment = refl
counted_three marks.Cdata = refl
counted_three marks.Doctype = refl
