-- What a character behind a `<` makes of it.
use Rattle.std.proofs.Common.{◌≡◌, ◌≢◌, ℕ, ◌<◌, ◌≤◌, ◌+◌, Bool, true, false, List, [], ◌∷◌, ◌++◌, refl, ap, ◌∙◌, sym, subst, length, arith, codes, IsTrue, None, append-nil, MatchBool}
use Rattle.std.specs.Prelude.{encode_utf8}
use Rattle.std.specs.List.{list_all}
use Rattle.std.proofs.lemmas.Bool.{true≢false, and_from}
use Rattle.std.proofs.lemmas.Str.{encode_same, length-encode, len_utf8_bounds}
use Rattle.tc_base.specs.Characters.{is_char}
use Rattle.tc_base.specs.declared.Place.{Place}
use Rattle.tc_model.specs.Grammars.{Grammar}
use Rattle.tc_model.specs.Names.{IsChars, is_ncname_start}
use Rattle.tc_model.specs.XmlTextBytes.{Lacks}
use Rattle.tc_model.specs.XmlTextScopes.{first_scope}
use Rattle.tc_model.proofs.XmlTextChars.{one_char}
use Rattle.tc_model.proofs.XmlTextPhrases.{start_is_char}
use Rattle.tc_tags.specs.Begins.{BeginsTag}
use Rattle.tc_stream.specs.Outcomes.{Outcome}
use Rattle.tc_stream.specs.From.{Standing, StillComes}
use Rattle.tc_stream.specs.Scans.{quoted, tag_scan}
use Rattle.tc_stream.specs.Faults.{IsFaultOfFront}
use Rattle.tc_stream.specs.Stands.{ReadsTo}
use Rattle.tc_stream.specs.declared.faults.StreamFault.{StreamFault}
use Rattle.tc_stream.specs.declared.faults.StreamFault.TheVariants as faults
use Rattle.tc_stream.specs.declared.parts.Part.TheVariants as parts
use Rattle.tc_stream.specs.declared.phases.Phase.{Phase}
use Rattle.tc_stream.specs.declared.phases.Phase.TheVariants as phases
use Rattle.tc_stream.specs.declared.reader.Reader.{Reader}
use Rattle.tc_stream.proofs.BrokenSteps.{tag_behind}
use Rattle.tc_stream.proofs.HopelessSteps.{StandsIn, in_front, in_prolog, in_root, in_content, past_root}
use Rattle.tc_stream.proofs.LongSteps.{IsNameless, nameless_step}
use Rattle.tc_stream.proofs.RootOpens.{root_opens}
use Rattle.tc_stream.proofs.TagBroken.{root_end_tag}
use Rattle.tc_stream.proofs.TagEndLaws.{is_calm, calm_all_past, name_char_calm}
use Rattle.tc_stream.proofs.EncodedLaws.{first_byte}
use Rattle.tc_stream.proofs.ReadingLaws.{pending_with, stands_in}
use Rattle.tc_stream.proofs.PendingLaws.{Stays, pends_of, may_of, nonempty, one_byte, is_byte, more_room, grows, breaks}

-- what is kept of a tag: its `<` and its first character
pub first_kept : (c m n k : ℕ) (kept one new : List ℕ) (pushed added : Bool) → 5 ≤ m → n ≡ m → kept ≡ [] → k ≡ n → MatchBool pushed (one ≡ kept ++ 0x3C ∷ []) ((one ≡ kept) × (n < length kept + 1))
    → MatchBool added (new ≡ one ++ encode_utf8 c) (k < length one + length (encode_utf8 c)) → new ≡ 0x3C ∷ encode_utf8 c
first_kept c m n k kept one new false added low same none next (e, full) b = absurd (omega (arith, low, same, ap length none, full))
first_kept c m n k kept one new true false low same none next e full =
    absurd (omega (arith, low, same, next, full, ap length (e ∙ ap (λ w. w ++ 0x3C ∷ []) none), length-encode c, len_utf8_bounds c))
first_kept c m n k kept one new true true low same none next e b = b ∙ ap (λ w. w ++ encode_utf8 c) (e ∙ ap (λ w. w ++ 0x3C ∷ []) none)

-- a mark

pub marked_begins : {x : Grammar} {old new : Reader} {chars : List ℕ} (c : ℕ) → Stays old new → old.part ≡ parts.Markup → new.part ≡ parts.Marked → c ≡ 0x21 → IsTrue (is_char c) → ReadsTo x old chars
    → ReadsTo x new (chars ++ encode_utf8 c)
marked_begins c stays at is same char r =
    let mark : r.pending ≡ 0x3C ∷ [] = pends_of r at in
    let item : r.pending ++ encode_utf8 c ≡ codes "<!" = ap (λ w. w ++ encode_utf8 c) mark ∙ ap (λ w. 0x3C ∷ w) (one_byte same (omega arith)) in
    grows c r char stays at is (nonempty mark) refl (may_of r at) item

-- a processing instruction

pub target_begins : {x : Grammar} {old new : Reader} {chars : List ℕ} (c : ℕ) → Stays old new → old.part ≡ parts.Markup → new.part ≡ parts.Target None → c ≡ 0x3F → IsTrue (is_char c) → ReadsTo x old chars
    → ReadsTo x new (chars ++ encode_utf8 c)
target_begins c stays at is same char r =
    let mark : r.pending ≡ 0x3C ∷ [] = pends_of r at in
    let item : r.pending ++ encode_utf8 c ≡ codes "<?" = ap (λ w. w ++ encode_utf8 c) mark ∙ ap (λ w. 0x3C ∷ w) (one_byte same (omega arith)) in
    grows c r char stays at is (nonempty mark) refl (may_of r at) (None, [], item, refl, refl)

-- an end tag, in content

pub end_tag_begins : {x : Grammar} {old new : Reader} {chars : List ℕ} (c : ℕ) → Stays old new → old.part ≡ parts.Markup → new.part ≡ parts.EndTag → old.phase ≡ phases.Content → new.tag.bytes.items ≡ 0x3C ∷ encode_utf8 c
    → c ≡ 0x2F → IsTrue (is_char c) → ReadsTo x old chars → ReadsTo x new (chars ++ encode_utf8 c)
end_tag_begins {new = new} c stays at is content tag same char r =
    let mark : r.pending ≡ 0x3C ∷ [] = pends_of r at in
    let item : r.pending ++ encode_utf8 c ≡ 0x3C ∷ encode_utf8 c = ap (λ w. w ++ encode_utf8 c) mark in
    let kept : new.tag.bytes.items ≡ codes "</" = tag ∙ ap (λ w. 0x3C ∷ w) (one_byte same (omega arith)) in
    let lacks : Lacks (0x3E ∷ []) new.tag.bytes.items = subst (λ w. Lacks (0x3E ∷ []) w) (sym kept) refl in
    let short : length new.tag.bytes.items ≤ 65536 = omega (arith, ap length kept) in
    grows c r char stays at is (nonempty mark) refl content (item ∙ sym tag, ([], kept), lacks, short)

-- a start tag or an empty-element tag, before the root element or in it

pub start_tag_begins : {x : Grammar} {old new : Reader} {chars : List ℕ} (c : ℕ) → Stays old new → old.part ≡ parts.Markup → new.part ≡ parts.Tag None → old.phase ≢ phases.End → length old.elements.levels.items < 2000 → is_ncname_start c ≡ true
    → new.tag.bytes.items ≡ 0x3C ∷ encode_utf8 c → IsTrue (is_char c) → ReadsTo x old chars → ReadsTo x new (chars ++ encode_utf8 c)
start_tag_begins {new = new} c stays at is inside room starts tag char r =
    let mark : r.pending ≡ 0x3C ∷ [] = pends_of r at in
    let item : r.pending ++ encode_utf8 c ≡ 0x3C ∷ encode_utf8 c = ap (λ w. w ++ encode_utf8 c) mark in
    let kept : new.tag.bytes.items ≡ 0x3C ∷ (encode_utf8 c ++ []) = tag ∙ ap (λ w. 0x3C ∷ w) (sym (append-nil (encode_utf8 c))) in
    let calm : list_all is_calm (0x3C ∷ encode_utf8 c) ≡ true = and_from (is_calm 0x3C) (list_all is_calm (encode_utf8 c)) refl (name_char_calm c (start_is_char c starts)) in
    let scanned : tag_scan None new.tag.bytes.items ≡ quoted None = ap (tag_scan None) kept ∙ calm_all_past None (0x3C ∷ encode_utf8 c) [] tt calm in
    let short : length new.tag.bytes.items ≤ 65536 = omega (arith, ap length tag, length-encode c, len_utf8_bounds c) in
    grows c r char stays at is (nonempty mark) refl (may_of r at, inside) (item ∙ sym tag, (c, [], kept, starts), scanned, short, subst (λ e. length e.levels.items < 2000) (sym stays.elements) room)

-- neither begins here

tag_of : (b : ℕ) (rest : List ℕ) → b ≢ 0x21 → b ≢ 0x3F → BeginsTag (0x3C ∷ b ∷ rest)
tag_of b rest m q = record { next = b; rest = rest; opens = refl; no_mark = m; no_instruction = q }

-- an end tag around the root element
slash_nothing : (n : ℕ) (r : List ℕ) {phase : Phase} {s : Standing} (o : Outcome) → StandsIn phase s → phase ≢ phases.Content → IsChars (0x3C ∷ 0x2F ∷ []) → StillComes n phase s ((0x3C ∷ 0x2F ∷ []) ++ r) o → ⊥
unfolding tag_of
slash_nothing n r o in_front p chars g =
    root_end_tag n (0x3C ∷ 0x2F ∷ []) r first_scope [] o (tag_of 0x2F [] (λ e. omega (arith, e)) (λ e. omega (arith, e))) refl chars
    ((root_opens n 0x2F [] r phases.Front o chars (λ e. omega (arith, e)) (λ e. omega (arith, e)) (λ h. cc) (λ h. cc)).0 g)
slash_nothing n r o in_prolog p chars g =
    root_end_tag n (0x3C ∷ 0x2F ∷ []) r first_scope [] o (tag_of 0x2F [] (λ e. omega (arith, e)) (λ e. omega (arith, e))) refl chars
    ((root_opens n 0x2F [] r phases.Prolog o chars (λ e. omega (arith, e)) (λ e. omega (arith, e)) (λ h. cc) (λ h. cc)).0 g)
slash_nothing n r o in_root p chars g =
    root_end_tag n (0x3C ∷ 0x2F ∷ []) r first_scope [] o (tag_of 0x2F [] (λ e. omega (arith, e)) (λ e. omega (arith, e))) refl chars
    ((root_opens n 0x2F [] r phases.Root o chars (λ e. omega (arith, e)) (λ e. omega (arith, e)) (λ h. cc) (λ h. cc)).0 g)
slash_nothing n r o in_content p chars g = p refl
slash_nothing n r o (past_root {n = name} {kids = kids}) p chars g = tag_behind n 0x2F [] r name kids o chars (λ e. omega (arith, e)) (λ e. omega (arith, e)) g

-- a tag without a name, or one behind the root element
nameless_nothing : (n b : ℕ) (rest r : List ℕ) {phase : Phase} {s : Standing} (o : Outcome) → StandsIn phase s → b ≢ 0x21 → b ≢ 0x3F → b ≢ 0x2F → IsChars (0x3C ∷ b ∷ rest)
    → IsNameless (b ∷ rest) → StillComes n phase s ((0x3C ∷ b ∷ rest) ++ r) o → ⊥
unfolding tag_of
nameless_nothing n b rest r o in_front m q d chars none g =
    nameless_step n (b ∷ rest) r [] first_scope [] o (tag_of b rest m q) d chars none ((root_opens n b rest r phases.Front o chars m q (λ h. cc) (λ h. cc)).0 g)
nameless_nothing n b rest r o in_prolog m q d chars none g =
    nameless_step n (b ∷ rest) r [] first_scope [] o (tag_of b rest m q) d chars none ((root_opens n b rest r phases.Prolog o chars m q (λ h. cc) (λ h. cc)).0 g)
nameless_nothing n b rest r o in_root m q d chars none g =
    nameless_step n (b ∷ rest) r [] first_scope [] o (tag_of b rest m q) d chars none ((root_opens n b rest r phases.Root o chars m q (λ h. cc) (λ h. cc)).0 g)
nameless_nothing n b rest r o (in_content {l = l} {ls = ls} {scope = scope} {run = run}) m q d chars none g = nameless_step n (b ∷ rest) r (l ∷ ls) scope run o (tag_of b rest m q) d chars none g
nameless_nothing n b rest r o (past_root {n = name} {kids = kids}) m q d chars none g = tag_behind n b rest r name kids o chars m q g

-- the first byte of a character that isn't one of ASCII
other_byte : (c b : ℕ) (rest : List ℕ) (a : ℕ) → a < 128 → encode_utf8 c ≡ b ∷ rest → (c ≡ a → ⊥) → b ≢ a
other_byte c b rest a low is n e = n (is_byte c a [] rest low (append-nil (encode_utf8 c) ∙ (is ∙ ap (λ z. z ∷ rest) e)))

-- the item that the character makes of a `<`
markup_item : {x : Grammar} {s : Reader} {chars : List ℕ} (c : ℕ) (r : ReadsTo x s chars) → r.pending ≡ 0x3C ∷ [] → (w : List ℕ) → encode_utf8 c ≡ w → r.pending ++ encode_utf8 c ≡ 0x3C ∷ w
markup_item c r mark w e = ap (λ z. z ++ encode_utf8 c) mark ∙ ap (λ z. 0x3C ∷ z) e

pub end_tag_breaks : {x : Grammar} {s : Reader} {chars : List ℕ} {e : StreamFault} {place : Place} (c : ℕ) → s.part ≡ parts.Markup → s.phase ≢ phases.Content → e ≡ faults.Malformed place → place.0 ≤ s.begun + 1
    → c ≡ 0x2F → IsTrue (is_char c) → ReadsTo x s chars → IsFaultOfFront (chars ++ encode_utf8 c) e
end_tag_breaks {s = s} {place = place} c at outside is low same char r =
    let mark : r.pending ≡ 0x3C ∷ [] = pends_of r at in
    let item : r.pending ++ encode_utf8 c ≡ 0x3C ∷ 0x2F ∷ [] = markup_item c r mark (0x2F ∷ []) (one_byte same (omega arith)) in
    let chars_are : IsChars (0x3C ∷ 0x2F ∷ []) = subst IsChars item (pending_with (encode_utf8 c) r (one_char c char)) in
    breaks c r is (more_room c place.0 r (nonempty mark) low)
    (λ f o g. slash_nothing (length r.before) f o (stands_in (may_of r at) r.tells) outside chars_are (subst (λ w. StillComes (length r.before) s.phase r.standing (w ++ f) o) item g))

-- by its first byte
tag_breaks_at : {x : Grammar} {s : Reader} {chars : List ℕ} {e : StreamFault} {place : Place} {b : ℕ} {rest : List ℕ} (c : ℕ) → s.part ≡ parts.Markup → e ≡ faults.Malformed place → place.0 ≤ s.begun + 1
    → encode_utf8 c ≡ b ∷ rest → (c ≡ 0x21 → ⊥) → (c ≡ 0x3F → ⊥) → (c ≡ 0x2F → ⊥) → IsNameless (b ∷ rest) → IsTrue (is_char c) → (r : ReadsTo x s chars)
    → IsFaultOfFront (chars ++ encode_utf8 c) e
tag_breaks_at {s = s} {place = place} {b = b} {rest = rest} c at is low first m q d none char r =
    let mark : r.pending ≡ 0x3C ∷ [] = pends_of r at in
    let item : r.pending ++ encode_utf8 c ≡ 0x3C ∷ b ∷ rest = markup_item c r mark (b ∷ rest) first in
    let chars_are : IsChars (0x3C ∷ b ∷ rest) = subst IsChars item (pending_with (encode_utf8 c) r (one_char c char)) in
    breaks c r is (more_room c place.0 r (nonempty mark) low)
    (λ f o g. nameless_nothing (length r.before) b rest f o (stands_in (may_of r at) r.tells) (other_byte c b rest 0x21 (omega arith) first m) (other_byte c b rest 0x3F (omega arith) first q) (other_byte c b rest 0x2F (omega arith) first d)
    chars_are none (subst (λ w. StillComes (length r.before) s.phase r.standing (w ++ f) o) item g))

-- no name begins with it
pub tag_breaks : {x : Grammar} {s : Reader} {chars : List ℕ} {e : StreamFault} {place : Place} (c : ℕ) → s.part ≡ parts.Markup → is_ncname_start c ≡ false → e ≡ faults.Malformed place → place.0 ≤ s.begun + 1
    → (c ≡ 0x21 → ⊥) → (c ≡ 0x3F → ⊥) → (c ≡ 0x2F → ⊥) → IsTrue (is_char c) → ReadsTo x s chars → IsFaultOfFront (chars ++ encode_utf8 c) e
tag_breaks c at bare is low m q d char r =
    let b = first_byte c in
    tag_breaks_at c at is low b.is m q d (λ f rest d same starts. true≢false (sym starts ∙ (ap is_ncname_start (sym (encode_same c d f rest (ap (λ w. w ++ f) b.is ∙ same)).0) ∙ bare))) char r

-- no tag may stand here
behind_nothing : (n b : ℕ) (rest r : List ℕ) {phase : Phase} {s : Standing} (o : Outcome) → StandsIn phase s → phase ≡ phases.End → b ≢ 0x21 → b ≢ 0x3F → IsChars (0x3C ∷ b ∷ rest) → StillComes n phase s ((0x3C ∷ b ∷ rest) ++ r) o → ⊥
behind_nothing n b rest r o in_front e m q chars g = absurd (cc)
behind_nothing n b rest r o in_prolog e m q chars g = absurd (cc)
behind_nothing n b rest r o in_root e m q chars g = absurd (cc)
behind_nothing n b rest r o in_content e m q chars g = absurd (cc)
behind_nothing n b rest r o (past_root {n = name} {kids = kids}) e m q chars g = tag_behind n b rest r name kids o chars m q g

pub tag_behind_breaks : {x : Grammar} {s : Reader} {chars : List ℕ} {e : StreamFault} {place : Place} (c : ℕ) → s.part ≡ parts.Markup → s.phase ≡ phases.End → e ≡ faults.Malformed place → place.0 ≤ s.begun + 1
    → (c ≡ 0x21 → ⊥) → (c ≡ 0x3F → ⊥) → IsTrue (is_char c) → ReadsTo x s chars → IsFaultOfFront (chars ++ encode_utf8 c) e
tag_behind_breaks {s = s} {place = place} c at ended is low m q char r =
    let first = first_byte c in
    let b = first.byte in
    let rest = first.others in
    let mark : r.pending ≡ 0x3C ∷ [] = pends_of r at in
    let item : r.pending ++ encode_utf8 c ≡ 0x3C ∷ b ∷ rest = markup_item c r mark (b ∷ rest) first.is in
    let chars_are : IsChars (0x3C ∷ b ∷ rest) = subst IsChars item (pending_with (encode_utf8 c) r (one_char c char)) in
    breaks c r is (more_room c place.0 r (nonempty mark) low)
    (λ f o g. behind_nothing (length r.before) b rest f o (stands_in (may_of r at) r.tells) ended (other_byte c b rest 0x21 (omega arith) first.is m) (other_byte c b rest 0x3F (omega arith) first.is q) chars_are
    (subst (λ w. StillComes (length r.before) s.phase r.standing (w ++ f) o) item g))
