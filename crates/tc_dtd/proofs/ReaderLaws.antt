-- Why a phrase isn't at the front of a text, where one of its parts is missing; and what the parts that are read make.
use Rattle.std.proofs.Common.{bytes_eq, ◌≡◌, ◌⊎◌, inl, inr, ℕ, ◌+◌, ◌<◌, ◌≤◌, true, false, List, [], ◌∷◌, ◌++◌, refl, ap, ◌∙◌, sym, subst, length, arith, Option, None, Some, MatchOption, Result, Ok, Err, IfOk, IfErr, codes, length-append, length-drop}
use Rattle.std.specs.Str.{str_eq_ignore_ascii_case, str_to_ascii_lowercase}
use Rattle.std.specs.List.{prefix_len}
use Rattle.std.specs.Result.{IsErrAnd}
use Rattle.std.specs.Cmp.Lexicographic.{bytes_decides}
use Rattle.std.proofs.lemmas.Bool.{true≢false, false_from_ne_true}
use Rattle.std.proofs.lemmas.List.{append_cancel_left}
use Rattle.std.proofs.lemmas.Result.{err_from_is_err_and}
use Rattle.tc_base.specs.Characters.{is_white}
use Rattle.tc_base.specs.declared.reasons.Why.TheVariants.{Encoding, XmlVersion, ParameterEntity}
use Rattle.tc_model.specs.XmlTextBytes.{BeginsWithWhite, after_white, length_before, UpTo, LiteralAt, EqualsAt}
use Rattle.tc_model.specs.XmlTextNames.{NcNameAt}
use Rattle.tc_model.specs.XmlTextMisc.{CommentAt, InstructionAt, SettingAt, LacksWord, IsReadEncoding, EncodingAt, no_encoding, encoding, StandaloneAt, no_standalone, standalone, IsNoMisc, MiscAt, no_more, comment, instruction}
use Rattle.tc_model.specs.XmlTextRefusals.{Cause, unsupported, too_deep}
use Rattle.tc_model.proofs.XmlTextPhrases.{same_first, same_others, ncname_unique, up_to_unique, equals_unique, encoding_unique, standalone_unique, comment_unique, instruction_unique}
use Rattle.tc_model.proofs.XmlTextRefused.{start_same, encoding_no_encoding}
use Rattle.tc_dtd.specs.Outcomes.{Outcome, read, refused, Then, stops, goes_on, Past, past}
use Rattle.tc_dtd.specs.Stops.{Stops, Breaks, IsUnexpected}
use Rattle.tc_dtd.specs.declared.faults.Stop.{Stop}
use Rattle.tc_dtd.specs.declared.faults.Stop.TheVariants.{Malformed, Unsupported, TooDeep, NoMemory}
use Rattle.tc_dtd.specs.DtdTextDeclarations.{VersionAt, no_version, version, other_version, SettingsAt, settings, other_encoding, IsOpened, TextDeclarationAt, no_declaration, declaration}
use Rattle.tc_dtd.proofs.OutcomeLaws.{read_same, read_not}
use Rattle.tc_dtd.proofs.DeclarationsUnique.{version_unique}

-- stops

pub failed : {T : Type 0} (r : Result T Stop) (Q : Stop → Type 0) (e : Stop) → IsErrAnd r (λ x. x ≡ e) → Q e → IfErr r Q
failed r Q e h q = let p = err_from_is_err_and r h in subst (λ w. IfErr w Q) (sym p.1) (subst Q (sym p.2) q)

pub map_option : {X P P' : Type 0} (Q Q' : X → Type 0) (o : Option X) → (P → P') → ((x : X) → Q x → Q' x) → MatchOption o P Q → MatchOption o P' Q'
map_option Q Q' None f g h = f h
map_option Q Q' (Some x) f g h = g x h

pub map_ok : {X E : Type 0} (P Q : X → Type 0) (r : Result X E) → ((x : X) → P x → Q x) → IfOk r P → IfOk r Q
map_ok P Q (Ok x) f h = f x h
map_ok P Q (Err e) f h = tt

pub map_err : {X E : Type 0} (P Q : E → Type 0) (r : Result X E) → ((e : E) → P e → Q e) → IfErr r P → IfErr r Q
map_err P Q (Ok x) f h = tt
map_err P Q (Err e) f h = f e h

pub stops_map : {A B : Type 0} (P : Outcome A → Type 0) (Q : Outcome B → Type 0) (e : Stop) → ((o : Outcome B) → Q o → (p : Outcome A) × P p)
    → ((cause : Cause) (at : List ℕ) → P (refused cause at) → Q (refused cause at)) → Stops e P → Stops e Q
stops_map P Q (Malformed left) back forth s = λ o q. let (p, k) = back o q in s p k
stops_map P Q (Unsupported left why) back forth (at, l, p) = (at, l, forth (unsupported why) at p)
stops_map P Q (TooDeep left) back forth (at, l, p) = (at, l, forth too_deep at p)
stops_map P Q NoMemory back forth s = tt

-- the first of two phrases stops
pub stops_first : {A B : Type 0} (First : List ℕ → Outcome A → Type 0) (Second : A → List ℕ → Outcome B → Type 0) (bs : List ℕ) (e : Stop) → Stops e (First bs) → Stops e (Then First Second bs)
stops_first {A} {B} First Second bs e = stops_map (First bs) (Then First Second bs) e back (λ c at a. stops a)
  where
    back : (o : Outcome B) → Then First Second bs o → (p : Outcome A) × First bs p
    back o (stops {at = at} {cause = c} a) = (refused c at, a)
    back o (goes_on {rest = r} {value = v} a k) = (read v r, a)

-- and the second, where the first is read
pub stops_second : {A B : Type 0} (First : List ℕ → Outcome A → Type 0) (Second : A → List ℕ → Outcome B → Type 0) → ((bs : List ℕ) (o p : Outcome A) → First bs o → First bs p → o ≡ p)
    → (bs rest : List ℕ) (a : A) (e : Stop) → First bs (read a rest) → Stops e (Second a rest) → Stops e (Then First Second bs)
stops_second {A} {B} First Second unique bs rest a e f = stops_map (Second a rest) (Then First Second bs) e back (λ c at k. goes_on f k)
  where
    back : (o : Outcome B) → Then First Second bs o → (p : Outcome B) × Second a rest p
    back o (stops {at = at} {cause = c} g) = absurd (read_not (unique bs (read a rest) (refused c at) f g))
    back o (goes_on {rest = r} {value = v} g k) =
        let same = read_same (unique bs (read v r) (read a rest) g f) in
        (o, subst (λ x. Second x rest o) same.0 (subst (λ y. Second v y o) same.1 k))

-- where no phrase that is due stands
pub unexpected_stops : {A : Type 0} (P : Outcome A → Type 0) (bs : List ℕ) (e : Stop) → (((r : List ℕ) → bs ≡ 0x25 ∷ r → ⊥) → (o : Outcome A) → P o → ⊥)
    → ((r : List ℕ) → bs ≡ 0x25 ∷ r → P (refused (unsupported ParameterEntity) bs)) → IsUnexpected bs e → Stops e P
unexpected_stops P bs (Malformed left) none there h = none h
unexpected_stops P bs (Unsupported left why) none there (l, w, (r, e)) = (bs, l, subst (λ x. P (refused (unsupported x) bs)) (sym w) (there r e))
unexpected_stops P bs (TooDeep left) none there h = absurd h
unexpected_stops P bs NoMemory none there h = absurd h

-- comments and processing instructions

pub no_comment : (text inside : List ℕ) → text ≡ codes "<!--" ++ inside → ((i a : List ℕ) → UpTo (codes "--") inside i a → ⊥) → (after : List ℕ) → CommentAt text after → ⊥
no_comment text inside e h after a =
    h a.inside (0x3E ∷ after) (subst (λ w. UpTo (codes "--") w a.inside (0x3E ∷ after)) (append_cancel_left (codes "<!--") a.rest inside (sym a.opens ∙ e)) a.closes)

same_target : (text start target behind : List ℕ) → text ≡ codes "<?" ++ start → NcNameAt start target behind → (after : List ℕ) (a : InstructionAt text after) → (a.target ≡ target) × (a.behind ≡ behind)
same_target text start target behind e n after a =
    ncname_unique (subst (λ w. NcNameAt w a.target a.behind) (append_cancel_left (codes "<?") a.rest start (sym a.opens ∙ e)) a.names) n

pub is_xml_target : (text start target behind : List ℕ) → text ≡ codes "<?" ++ start → NcNameAt start target behind → str_eq_ignore_ascii_case target (codes "xml") ≡ true
    → (after : List ℕ) → InstructionAt text after → ⊥
is_xml_target text start target behind e n is after a =
    true≢false (sym is ∙ (ap (λ w. str_eq_ignore_ascii_case w (codes "xml")) (sym (same_target text start target behind e n after a).0) ∙ a.not_xml))

pub no_end : (text start target behind : List ℕ) → text ≡ codes "<?" ++ start → NcNameAt start target behind → ((i a : List ℕ) → UpTo (codes "?>") behind i a → ⊥)
    → (after : List ℕ) → InstructionAt text after → ⊥
no_end text start target behind e n h after a =
    h a.inside after (subst (λ w. UpTo (codes "?>") w a.inside after) (same_target text start target behind e n after a).1 a.closes)

pub not_apart : (text start target behind inside end : List ℕ) → text ≡ codes "<?" ++ start → NcNameAt start target behind → UpTo (codes "?>") behind inside end
    → ((inside ≡ []) ⊎ BeginsWithWhite behind → ⊥) → (after : List ℕ) → InstructionAt text after → ⊥
not_apart text start target behind inside end e n u h after a = by a.apart (same_target text start target behind e n after a).1
  where
    by : (a.inside ≡ []) ⊎ BeginsWithWhite a.behind → a.behind ≡ behind → ⊥
    by (inl q) same = h (inl (sym (up_to_unique (subst (λ w. UpTo (codes "?>") w a.inside after) same a.closes) u).0 ∙ q))
    by (inr w) same = h (inr (subst BeginsWithWhite same w))

pub an_instruction : (text start target behind inside after : List ℕ) → text ≡ codes "<?" ++ start → NcNameAt start target behind → str_eq_ignore_ascii_case target (codes "xml") ≡ false
    → UpTo (codes "?>") behind inside after → (inside ≡ []) ⊎ BeginsWithWhite behind → InstructionAt text after
an_instruction text start target behind inside after e n x u w =
    record { rest = start; target = target; behind = behind; inside = inside; opens = e; names = n; not_xml = x; apart = w; closes = u }

pub ignoring_case : (a b : List ℕ) → str_to_ascii_lowercase a ≡ str_to_ascii_lowercase b → str_eq_ignore_ascii_case a b ≡ true
ignoring_case a b e = (bytes_decides (str_to_ascii_lowercase a) (str_to_ascii_lowercase b)).1 e

pub not_ignoring_case : (a b : List ℕ) → (str_to_ascii_lowercase a ≡ str_to_ascii_lowercase b → false ≡ true) → str_eq_ignore_ascii_case a b ≡ false
not_ignoring_case a b h = false_from_ne_true _ (λ q. true≢false (sym (h ((bytes_decides (str_to_ascii_lowercase a) (str_to_ascii_lowercase b)).0 q))))

pub broken_comment : (start r : List ℕ) → start ≡ codes "<!--" ++ r → ((a : List ℕ) → CommentAt start a → ⊥) → (text after : List ℕ) → after_white text ≡ start → MiscAt text after → ⊥
broken_comment start r e h text after q (no_more k) = k.0 r (q ∙ e)
broken_comment start r e h text after q (comment {rest = s} a m) = h s (subst (λ w. CommentAt w s) q a)
broken_comment start r e h text after q (instruction a m) = omega (arith, same_first (same_others (sym a.opens ∙ (q ∙ e))))

pub broken_instruction : (start r : List ℕ) → start ≡ codes "<?" ++ r → ((a : List ℕ) → InstructionAt start a → ⊥) → (text after : List ℕ) → after_white text ≡ start → MiscAt text after → ⊥
broken_instruction start r e h text after q (no_more k) = k.1 r (q ∙ e)
broken_instruction start r e h text after q (comment a m) = omega (arith, same_first (same_others (sym a.opens ∙ (q ∙ e))))
broken_instruction start r e h text after q (instruction {rest = s} a m) = h s (subst (λ w. InstructionAt w s) q a)

pub misc_more : (rest after end : List ℕ) (start : List ℕ) → start ≡ after_white rest → (CommentAt start after) ⊎ (InstructionAt start after) → MiscAt after end → MiscAt rest end
misc_more rest after end start e (inl a) m = comment (subst (λ w. CommentAt w after) e a) m
misc_more rest after end start e (inr a) m = instruction (subst (λ w. InstructionAt w after) e a) m

after_one_comment : (rest after end white : List ℕ) → white ≡ after_white rest → CommentAt white after → MiscAt rest end → MiscAt after end
after_one_comment rest after end white e b (no_more k) = absurd (k.0 b.rest (sym e ∙ b.opens))
after_one_comment rest after end white e b (comment {rest = z} c n) = subst (λ w. MiscAt w end) (comment_unique (subst (λ w. CommentAt w z) (sym e) c) b) n
after_one_comment rest after end white e b (instruction c n) = absurd (omega (arith, same_first (same_others (sym b.opens ∙ (e ∙ c.opens)))))

after_one_instruction : (rest after end white : List ℕ) → white ≡ after_white rest → InstructionAt white after → MiscAt rest end → MiscAt after end
after_one_instruction rest after end white e b (no_more k) = absurd (k.1 b.rest (sym e ∙ b.opens))
after_one_instruction rest after end white e b (comment c n) = absurd (omega (arith, same_first (same_others (sym b.opens ∙ (e ∙ c.opens)))))
after_one_instruction rest after end white e b (instruction {rest = z} c n) = subst (λ w. MiscAt w end) (instruction_unique (subst (λ w. InstructionAt w z) (sym e) c) b) n

pub misc_less : (rest after end start : List ℕ) → start ≡ after_white rest → (CommentAt start after) ⊎ (InstructionAt start after) → MiscAt rest end → MiscAt after end
misc_less rest after end start e (inl a) m = after_one_comment rest after end start e a m
misc_less rest after end start e (inr a) m = after_one_instruction rest after end start e a m

pub misc_done : (rest start : List ℕ) → start ≡ after_white rest → IsNoMisc start → MiscAt rest (after_white rest)
misc_done rest start e k = no_more (subst IsNoMisc e k)

up_to_shorter : (mark bs inside after : List ℕ) → UpTo mark bs inside after → length mark + length after ≤ length bs
up_to_shorter mark bs inside after u = omega (arith, ap length u.back, length-append mark after, length-drop (length_before mark bs) bs)

pub misc_shorter : (rest after start : List ℕ) → start ≡ after_white rest → (CommentAt start after) ⊎ (InstructionAt start after) → length after < length rest
misc_shorter rest after start e (inl a) =
    omega (arith, ap length a.opens, up_to_shorter (codes "--") a.rest a.inside (0x3E ∷ after) a.closes, ap length e, length-drop (prefix_len is_white rest) rest)
misc_shorter rest after start e (inr a) =
    omega (arith, ap length a.opens, ap length a.names.parts, length-append a.target a.behind, up_to_shorter (codes "?>") a.behind a.inside after a.closes, ap length e, length-drop (prefix_len is_white rest) rest)

pub misc_left : (bs end : List ℕ) → MiscAt bs end → length end ≤ length bs
misc_left bs end (no_more k) = omega (arith, length-drop (prefix_len is_white bs) bs)
misc_left bs end (comment {rest = r} a m) = let k = misc_shorter bs r (after_white bs) refl (inl a) in let l = misc_left r end m in omega (arith, k, l)
misc_left bs end (instruction {rest = r} a m) = let k = misc_shorter bs r (after_white bs) refl (inr a) in let l = misc_left r end m in omega (arith, k, l)

pub at_some : {X : Type 0} (P : Type 0) (Q : X → Type 0) (o : Option X) (x : X) → o ≡ Some x → MatchOption o P Q → Q x
at_some {X} P Q o x e h = subst (λ w. MatchOption w P Q) e h

pub at_nothing : {X : Type 0} (P : Type 0) (Q : X → Type 0) (o : Option X) → o ≡ None → MatchOption o P Q → P
at_nothing {X} P Q o e h = subst (λ w. MatchOption w P Q) e h

pub misc_broken : (text rest start : List ℕ) (e : Stop) → start ≡ after_white rest → ((end : List ℕ) → MiscAt text end → MiscAt rest end)
    → Breaks e ((t after : List ℕ) → after_white t ≡ start → MiscAt t after → ⊥) → Stops e (Past MiscAt text)
misc_broken text rest start (Malformed left) f back h = by
  where
    by : (o : Outcome (Unit {0})) → Past MiscAt text o → ⊥
    by o (past {after = a} m) = h rest a (sym f) (back a m)
misc_broken text rest start (Unsupported left why) f back h = absurd h
misc_broken text rest start (TooDeep left) f back h = absurd h
misc_broken text rest start NoMemory f back h = tt

-- settings

pub no_setting_equals : (word text start behind : List ℕ) → start ≡ after_white text → start ≡ word ++ behind → ((a : List ℕ) → EqualsAt behind a → ⊥) → (v after : List ℕ) → SettingAt word text v after → ⊥
no_setting_equals word text start behind e f h v after a =
    h a.start (subst (λ w. EqualsAt w a.start) (append_cancel_left word a.behind behind (sym a.names ∙ (sym e ∙ f))) a.equals)

pub no_setting_literal : (word text start behind value : List ℕ) → start ≡ after_white text → start ≡ word ++ behind → EqualsAt behind value
    → ((v a : List ℕ) → LiteralAt value v a → ⊥) → (v after : List ℕ) → SettingAt word text v after → ⊥
no_setting_literal word text start behind value e f q h v after a =
    let same = append_cancel_left word a.behind behind (sym a.names ∙ (sym e ∙ f)) in
    h v after (subst (λ w. LiteralAt w v after) (equals_unique (subst (λ w. EqualsAt w a.start) same a.equals) q) a.literal)

pub a_setting : (word text start behind value v after : List ℕ) → BeginsWithWhite text → start ≡ after_white text → start ≡ word ++ behind → EqualsAt behind value → LiteralAt value v after
    → SettingAt word text v after
a_setting word text start behind value v after w e f q l = record { behind = behind; start = value; white = w; names = sym e ∙ f; equals = q; literal = l }

pub lacks : (word text start : List ℕ) → start ≡ after_white text → ((r : List ℕ) → start ≡ word ++ r → ⊥) → LacksWord word text
lacks word text start e h = λ r q. h r (e ∙ q)

pub no_standalone_here : (text start r : List ℕ) → start ≡ after_white text → start ≡ codes "standalone" ++ r
    → ((v a : List ℕ) → SettingAt (codes "standalone") text v a → (v ≡ codes "yes") ⊎ (v ≡ codes "no") → ⊥) → (after : List ℕ) → StandaloneAt text after → ⊥
no_standalone_here text start r e f h after (no_standalone k) = k r (sym e ∙ f)
no_standalone_here text start r e f h after (standalone {value = v} a k) = h v after a k

-- the XML declaration

pub no_version_here : (text start r : List ℕ) → start ≡ after_white text → start ≡ codes "version" ++ r → ((v a : List ℕ) → SettingAt (codes "version") text v a → ⊥)
    → (o : Outcome (Unit {0})) → VersionAt text o → ⊥
no_version_here text start r e f h o (no_version k) = k r (sym e ∙ f)
no_version_here text start r e f h o (version {after = a} s) = h (codes "1.0") a s
no_version_here text start r e f h o (other_version {value = v} {after = a} s n) = h v a s

pub this_version : (text value after : List ℕ) → true ≡ bytes_eq value (codes "1.0") → SettingAt (codes "version") text value after → VersionAt text (read tt after)
this_version text value after e s = version (subst (λ w. SettingAt (codes "version") text w after) ((bytes_decides value (codes "1.0")).0 (sym e)) s)

pub that_version : (text start value after : List ℕ) → start ≡ after_white text → false ≡ bytes_eq value (codes "1.0") → SettingAt (codes "version") text value after
    → (at : List ℕ) × (length start ≡ length at) × VersionAt text (refused (unsupported XmlVersion) at)
that_version text start value after e f s = (after_white text, ap length e, other_version s (λ q. true≢false (sym ((bytes_decides value (codes "1.0")).1 q) ∙ sym f)))

pub no_encoding_here : (text start r : List ℕ) → start ≡ after_white text → start ≡ codes "encoding" ++ r → ((v a : List ℕ) → SettingAt (codes "encoding") text v a → ⊥)
    → (o : Outcome (Unit {0})) → SettingsAt text o → ⊥
no_encoding_here text start r e f h o (settings (no_encoding k) b q) = k r (sym e ∙ f)
no_encoding_here text start r e f h o (settings {past_encoding = a} (encoding {value = v} s k) b q) = h v a s
no_encoding_here text start r e f h o (other_encoding {value = v} {after = a} s n) = h v a s

pub that_encoding : (text start value after : List ℕ) → start ≡ after_white text → (IsReadEncoding value → ⊥) → SettingAt (codes "encoding") text value after
    → (at : List ℕ) × (length start ≡ length at) × SettingsAt text (refused (unsupported Encoding) at)
that_encoding text start value after e n s = (after_white text, ap length e, other_encoding s n)

pub no_standing : (text mid : List ℕ) (e : Stop) → EncodingAt text mid → Breaks e ((a : List ℕ) → StandaloneAt mid a → ⊥) → Stops e (SettingsAt text)
no_standing text mid (Malformed left) x h = by
  where
    by : (o : Outcome (Unit {0})) → SettingsAt text o → ⊥
    by o (settings {past_standalone = s} a b q) = h s (subst (λ w. StandaloneAt w s) (encoding_unique a x) b)
    by o (other_encoding s n) = encoding_no_encoding s n x
no_standing text mid (Unsupported left why) x h = absurd h
no_standing text mid (TooDeep left) x h = absurd h
no_standing text mid NoMemory x h = tt

pub no_settings_end : (text mid behind end : List ℕ) → EncodingAt text mid → StandaloneAt mid behind → end ≡ after_white behind → ((r : List ℕ) → end ≡ codes "?>" ++ r → ⊥)
    → (o : Outcome (Unit {0})) → SettingsAt text o → ⊥
no_settings_end text mid behind end x y e h o (settings {past_standalone = s} {after = r} a b q) =
    let same = standalone_unique (subst (λ w. StandaloneAt w s) (encoding_unique a x) b) y in
    h r (e ∙ (ap after_white (sym same) ∙ q))
no_settings_end text mid behind end x y e h o (other_encoding s n) = encoding_no_encoding s n x

pub some_settings : (text mid behind end after : List ℕ) → EncodingAt text mid → StandaloneAt mid behind → end ≡ after_white behind → end ≡ codes "?>" ++ after → SettingsAt text (read tt after)
some_settings text mid behind end after x y e f = settings x y (sym e ∙ f)

pub opened_by_end : (text r : List ℕ) → text ≡ codes "?>" ++ r → IsOpened text
opened_by_end text r e = inr (r, e)

pub not_opened : (text : List ℕ) → ((r : List ℕ) → text ≡ codes "?>" ++ r → ⊥) → (BeginsWithWhite text → ⊥) → IsOpened text → ⊥
not_opened text h k (inl w) = k w
not_opened text h k (inr (r, e)) = h r e

pub not_declared : (text rest : List ℕ) → text ≡ codes "<?xml" ++ rest → (IsOpened rest → ⊥) → TextDeclarationAt text (read tt text)
not_declared text rest e h = no_declaration (λ r q w. h (subst IsOpened (start_same q e) w))

pub declaration_stops : (text rest : List ℕ) (e : Stop) → text ≡ codes "<?xml" ++ rest → IsOpened rest → Stops e (Then VersionAt (λ _. SettingsAt) rest) → Stops e (TextDeclarationAt text)
declaration_stops text rest e f w = stops_map (Then VersionAt (λ _. SettingsAt) rest) (TextDeclarationAt text) e back (λ c at a. declaration f w a)
  where
    back : (o : Outcome (Unit {0})) → TextDeclarationAt text o → (p : Outcome (Unit {0})) × Then VersionAt (λ _. SettingsAt) rest p
    back o (no_declaration h) = absurd (h rest f w)
    back o (declaration {rest = r} g v a) = (o, subst (λ z. Then VersionAt (λ _. SettingsAt) z o) (start_same g f) a)

pub version_stops : (text rest : List ℕ) (e : Stop) → text ≡ codes "<?xml" ++ rest → IsOpened rest → Stops e (VersionAt rest) → Stops e (TextDeclarationAt text)
version_stops text rest e f w s = declaration_stops text rest e f w (stops_first VersionAt (λ _. SettingsAt) rest e s)

pub settings_stop : (text rest mid : List ℕ) (e : Stop) → text ≡ codes "<?xml" ++ rest → IsOpened rest → VersionAt rest (read tt mid) → Stops e (SettingsAt mid) → Stops e (TextDeclarationAt text)
settings_stop text rest mid e f w v s = declaration_stops text rest e f w (stops_second VersionAt (λ _. SettingsAt) version_unique rest mid tt e v s)

pub a_declaration : (text rest mid after : List ℕ) → text ≡ codes "<?xml" ++ rest → IsOpened rest → VersionAt rest (read tt mid) → SettingsAt mid (read tt after) → TextDeclarationAt text (read tt after)
a_declaration text rest mid after e w v s = declaration e w (goes_on v s)
