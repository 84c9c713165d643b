-- Why a phrase around the root element is not at the front of a text, where one of its parts is missing.
use Rattle.std.proofs.Common.{bytes_eq, ◌||◌, ◌≡◌, ◌⊎◌, inl, inr, ℕ, ◌+◌, ◌<◌, true, false, not, List, [], ◌∷◌, ◌++◌, ap, ◌∙◌, sym, subst, length, arith, Option, None, Some, MatchOption, Result, Ok, Err, IfOk, IfErr, codes, ◌≤◌, length-append, length-drop}
use Rattle.std.specs.Str.{str_eq_ignore_ascii_case, str_to_ascii_lowercase}
use Rattle.std.specs.List.{prefix_len}
use Rattle.std.specs.Cmp.Lexicographic.{bytes_decides}
use Rattle.tc_base.specs.Characters.{is_white}
use Rattle.std.proofs.lemmas.Bool.{true≢false, false_from_ne_true}
use Rattle.std.proofs.lemmas.List.{append_cancel_left}
use Rattle.tc_model.specs.XmlTextBytes.{BeginsWithWhite, after_white, length_before, UpTo, LiteralAt, EqualsAt}
use Rattle.tc_model.specs.XmlTextNames.{NcNameAt, QualifiedName, QNameAt}
use Rattle.tc_model.specs.XmlTextMisc.{CommentAt, InstructionAt, SettingAt, LacksWord, IsReadEncoding, EncodingAt, no_encoding, encoding, StandaloneAt, no_standalone, standalone, DeclarationAt, no_declaration, declaration, IsNoMisc, MiscAt, no_more, comment, instruction, ExternalIdAt, no_id, system, public, DoctypeFrontAt, DoctypeAt, no_doctype, doctype}
use Rattle.tc_base.specs.declared.reasons.Why.{Why}
use Rattle.tc_base.specs.declared.reasons.Why.TheVariants.{Encoding, XmlVersion}
use Rattle.tc_model.specs.XmlTextRefusals.{DeclarationRefuses}
use Rattle.tc_model.specs.XmlTextRefusals as refusals
use Rattle.tc_model.proofs.XmlTextPhrases.{same_first, same_others, ncname_unique, qname_unique, up_to_unique, literal_unique, equals_unique, setting_unique, encoding_unique, standalone_unique, comment_unique, instruction_unique, doctype_front_unique}

pub map_option : {X P P' : Type 0} (Q Q' : X → Type 0) (o : Option X) → (P → P') → ((x : X) → Q x → Q' x) → MatchOption o P Q → MatchOption o P' Q'
map_option Q Q' None f g h = f h
map_option Q Q' (Some x) f g h = g x h

pub no_comment : (text inside : List ℕ) → text ≡ codes "<!--" ++ inside → ((i a : List ℕ) → UpTo (codes "--") inside i a → ⊥) → (after : List ℕ) → CommentAt text after → ⊥
no_comment text inside e h after a =
    h a.inside (0x3E ∷ after) (subst (λ w. UpTo (codes "--") w a.inside (0x3E ∷ after)) (append_cancel_left (codes "<!--") a.rest inside (sym a.opens ∙ e)) a.closes)

-- what an instruction's parts are
pub same_target : (text start target behind : List ℕ) → text ≡ codes "<?" ++ start → NcNameAt start target behind → (after : List ℕ) (a : InstructionAt text after) → (a.target ≡ target) × (a.behind ≡ behind)
same_target text start target behind e n after a =
    ncname_unique (subst (λ w. NcNameAt w a.target a.behind) (append_cancel_left (codes "<?") a.rest start (sym a.opens ∙ e)) a.names) n

pub is_xml_target : (text start target behind : List ℕ) → text ≡ codes "<?" ++ start → NcNameAt start target behind → str_eq_ignore_ascii_case target (codes "xml") ≡ true
    → (after : List ℕ) → InstructionAt text after → ⊥
is_xml_target text start target behind e n is after a =
    true≢false (sym is ∙ (ap (λ w. str_eq_ignore_ascii_case w (codes "xml")) (sym (same_target text start target behind e n after a).0) ∙ a.not_xml))

pub no_end : (text start target behind : List ℕ) → text ≡ codes "<?" ++ start → NcNameAt start target behind → ((i a : List ℕ) → UpTo (codes "?>") behind i a → ⊥)
    → (after : List ℕ) → InstructionAt text after → ⊥
no_end text start target behind e n h after a =
    h a.inside after (subst (λ w. UpTo (codes "?>") w a.inside after) (same_target text start target behind e n after a).1 a.closes)

pub not_apart : (text start target behind inside end : List ℕ) → text ≡ codes "<?" ++ start → NcNameAt start target behind → UpTo (codes "?>") behind inside end
    → ((inside ≡ []) ⊎ BeginsWithWhite behind → ⊥) → (after : List ℕ) → InstructionAt text after → ⊥
not_apart text start target behind inside end e n u h after a = by a.apart (same_target text start target behind e n after a).1
  where
    by : (a.inside ≡ []) ⊎ BeginsWithWhite a.behind → a.behind ≡ behind → ⊥
    by (inl q) same = h (inl (sym (up_to_unique (subst (λ w. UpTo (codes "?>") w a.inside after) same a.closes) u).0 ∙ q))
    by (inr w) same = h (inr (subst BeginsWithWhite same w))

pub an_instruction : (text start target behind inside after : List ℕ) → text ≡ codes "<?" ++ start → NcNameAt start target behind → str_eq_ignore_ascii_case target (codes "xml") ≡ false
    → UpTo (codes "?>") behind inside after → (inside ≡ []) ⊎ BeginsWithWhite behind → InstructionAt text after
an_instruction text start target behind inside after e n x u w =
    record { rest = start; target = target; behind = behind; inside = inside; opens = e; names = n; not_xml = x; apart = w; closes = u }

pub no_setting_equals : (word text start behind : List ℕ) → start ≡ after_white text → start ≡ word ++ behind → ((a : List ℕ) → EqualsAt behind a → ⊥) → (v after : List ℕ) → SettingAt word text v after → ⊥
no_setting_equals word text start behind e f h v after a =
    h a.start (subst (λ w. EqualsAt w a.start) (append_cancel_left word a.behind behind (sym a.names ∙ (sym e ∙ f))) a.equals)

pub no_setting_literal : (word text start behind value : List ℕ) → start ≡ after_white text → start ≡ word ++ behind → EqualsAt behind value
    → ((v a : List ℕ) → LiteralAt value v a → ⊥) → (v after : List ℕ) → SettingAt word text v after → ⊥
no_setting_literal word text start behind value e f q h v after a =
    let same = append_cancel_left word a.behind behind (sym a.names ∙ (sym e ∙ f)) in
    h v after (subst (λ w. LiteralAt w v after) (equals_unique (subst (λ w. EqualsAt w a.start) same a.equals) q) a.literal)

pub a_setting : (word text start behind value v after : List ℕ) → BeginsWithWhite text → start ≡ after_white text → start ≡ word ++ behind → EqualsAt behind value → LiteralAt value v after
    → SettingAt word text v after
a_setting word text start behind value v after w e f q l = record { behind = behind; start = value; white = w; names = sym e ∙ f; equals = q; literal = l }

pub lacks : (word text start : List ℕ) → start ≡ after_white text → ((r : List ℕ) → start ≡ word ++ r → ⊥) → LacksWord word text
lacks word text start e h = λ r q. h r (e ∙ q)

-- where a word stands, nothing lacks it
pub no_encoding_here : (text start r : List ℕ) → start ≡ after_white text → start ≡ codes "encoding" ++ r → ((v a : List ℕ) → SettingAt (codes "encoding") text v a → ⊥) → (after : List ℕ) → EncodingAt text after → ⊥
no_encoding_here text start r e f h after (no_encoding k) = k r (sym e ∙ f)
no_encoding_here text start r e f h after (encoding {value = v} a k) = h v after a

-- nor a word in another encoding
pub no_other_encoding : (text start value past : List ℕ) → start ≡ after_white text → SettingAt (codes "encoding") text value past
    → false ≡ (str_eq_ignore_ascii_case value (codes "UTF-8") || str_eq_ignore_ascii_case value (codes "US-ASCII"))
    → (r : List ℕ) × (start ≡ codes "encoding" ++ r) → (after : List ℕ) → EncodingAt text after → ⊥
no_other_encoding text start value past e s h (r, f) after (no_encoding k) = k r (sym e ∙ f)
no_other_encoding text start value past e s h f after (encoding a k) = true≢false (sym (subst IsReadEncoding (setting_unique a s).0 k) ∙ sym h)

pub no_standalone_here : (text start r : List ℕ) → start ≡ after_white text → start ≡ codes "standalone" ++ r
    → ((v a : List ℕ) → SettingAt (codes "standalone") text v a → (v ≡ codes "yes") ⊎ (v ≡ codes "no") → ⊥) → (after : List ℕ) → StandaloneAt text after → ⊥
no_standalone_here text start r e f h after (no_standalone k) = k r (sym e ∙ f)
no_standalone_here text start r e f h after (standalone {value = v} a k) = h v after a k

-- the parts of an XML declaration, where one begins
pub record Declared (rest after : List ℕ) : Type 0 where
  pub past_version : List ℕ
  pub past_encoding : List ℕ
  pub past_standalone : List ℕ
  pub version : SettingAt (codes "version") rest (codes "1.0") past_version
  pub encodings : EncodingAt past_version past_encoding
  pub standing : StandaloneAt past_encoding past_standalone
  pub ends : after_white past_standalone ≡ codes "?>" ++ after

pub declared : (text rest after : List ℕ) → text ≡ codes "<?xml" ++ rest → BeginsWithWhite rest → DeclarationAt text after → Declared rest after
declared text rest after e w (no_declaration h) = absurd (h rest e w)
declared text rest after e w (declaration {rest = r} {past_version = n} {past_encoding = m} {past_standalone = k} is v x t q) =
    record {
      past_version = n;
      past_encoding = m;
      past_standalone = k;
      version = subst (λ z. SettingAt (codes "version") z (codes "1.0") n) (append_cancel_left (codes "<?xml") r rest (sym is ∙ e)) v;
      encodings = x;
      standing = t;
      ends = q;
    }

pub not_declared : (text rest : List ℕ) → text ≡ codes "<?xml" ++ rest → (BeginsWithWhite rest → ⊥) → DeclarationAt text text
not_declared text rest e h = no_declaration (λ r q w. h (subst BeginsWithWhite (append_cancel_left (codes "<?xml") r rest (sym q ∙ e)) w))

pub a_declaration : (text rest version n after : List ℕ) → text ≡ codes "<?xml" ++ rest → SettingAt (codes "version") rest version n → version ≡ codes "1.0"
    → (m k : List ℕ) × EncodingAt n m × StandaloneAt m k × (after_white k ≡ codes "?>" ++ after) → DeclarationAt text after
a_declaration text rest version n after e v is (m, k, x, t, q) = declaration e (subst (λ w. SettingAt (codes "version") rest w n) is v) x t q

pub no_version : (text rest : List ℕ) → text ≡ codes "<?xml" ++ rest → BeginsWithWhite rest → ((v a : List ℕ) → SettingAt (codes "version") rest v a → ⊥) → (after : List ℕ) → DeclarationAt text after → ⊥
no_version text rest e w h after a = let d = declared text rest after e w a in h (codes "1.0") d.past_version d.version

pub no_other_version : (text rest value past : List ℕ) → text ≡ codes "<?xml" ++ rest → BeginsWithWhite rest → SettingAt (codes "version") rest value past
    → true ≡ not (bytes_eq value (codes "1.0")) → (after : List ℕ) → DeclarationAt text after → ⊥
no_other_version text rest value past e w s h after a =
    let d = declared text rest after e w a in
    true≢false (h ∙ ap not ((bytes_decides value (codes "1.0")).1 (setting_unique s d.version).0))

pub no_behind_version : (text rest version n : List ℕ) → text ≡ codes "<?xml" ++ rest → BeginsWithWhite rest → SettingAt (codes "version") rest version n
    → ((m k after : List ℕ) → EncodingAt n m → StandaloneAt m k → after_white k ≡ codes "?>" ++ after → ⊥) → (after : List ℕ) → DeclarationAt text after → ⊥
no_behind_version text rest version n e w v h after a =
    let d = declared text rest after e w a in
    h d.past_encoding d.past_standalone after (subst (λ z. EncodingAt z d.past_encoding) (setting_unique d.version v).1 d.encodings) d.standing d.ends

-- behind its version
pub no_standing : (n m : List ℕ) → EncodingAt n m → ((a : List ℕ) → StandaloneAt m a → ⊥)
    → (x k after : List ℕ) → EncodingAt n x → StandaloneAt x k → after_white k ≡ codes "?>" ++ after → ⊥
no_standing n m x h y k after z t q = h k (subst (λ w. StandaloneAt w k) (encoding_unique z x) t)

pub no_declaration_end : (n m k end : List ℕ) → EncodingAt n m → StandaloneAt m k → end ≡ after_white k → ((r : List ℕ) → end ≡ codes "?>" ++ r → ⊥)
    → (x l after : List ℕ) → EncodingAt n x → StandaloneAt x l → after_white l ≡ codes "?>" ++ after → ⊥
no_declaration_end n m k end x t q h y l after z u e =
    let same = standalone_unique (subst (λ w. StandaloneAt w l) (encoding_unique z x) u) t in h after (q ∙ (ap after_white (sym same) ∙ e))

pub broken_comment : (start r : List ℕ) → start ≡ codes "<!--" ++ r → ((a : List ℕ) → CommentAt start a → ⊥) → (text after : List ℕ) → after_white text ≡ start → MiscAt text after → ⊥
broken_comment start r e h text after q (no_more k) = k.0 r (q ∙ e)
broken_comment start r e h text after q (comment {rest = s} a m) = h s (subst (λ w. CommentAt w s) q a)
broken_comment start r e h text after q (instruction a m) = omega (arith, same_first (same_others (sym a.opens ∙ (q ∙ e))))

pub broken_instruction : (start r : List ℕ) → start ≡ codes "<?" ++ r → ((a : List ℕ) → InstructionAt start a → ⊥) → (text after : List ℕ) → after_white text ≡ start → MiscAt text after → ⊥
broken_instruction start r e h text after q (no_more k) = k.1 r (q ∙ e)
broken_instruction start r e h text after q (comment a m) = omega (arith, same_first (same_others (sym a.opens ∙ (q ∙ e))))
broken_instruction start r e h text after q (instruction {rest = s} a m) = h s (subst (λ w. InstructionAt w s) q a)

pub misc_more : (rest after end : List ℕ) (start : List ℕ) → start ≡ after_white rest → (CommentAt start after) ⊎ (InstructionAt start after) → MiscAt after end → MiscAt rest end
misc_more rest after end start e (inl a) m = comment (subst (λ w. CommentAt w after) e a) m
misc_more rest after end start e (inr a) m = instruction (subst (λ w. InstructionAt w after) e a) m

after_comment : (rest after end white : List ℕ) → white ≡ after_white rest → CommentAt white after → MiscAt rest end → MiscAt after end
after_comment rest after end white e b (no_more k) = absurd (k.0 b.rest (sym e ∙ b.opens))
after_comment rest after end white e b (comment {rest = z} c n) = subst (λ w. MiscAt w end) (comment_unique (subst (λ w. CommentAt w z) (sym e) c) b) n
after_comment rest after end white e b (instruction c n) = absurd (omega (arith, same_first (same_others (sym b.opens ∙ (e ∙ c.opens)))))

after_instruction : (rest after end white : List ℕ) → white ≡ after_white rest → InstructionAt white after → MiscAt rest end → MiscAt after end
after_instruction rest after end white e b (no_more k) = absurd (k.1 b.rest (sym e ∙ b.opens))
after_instruction rest after end white e b (comment c n) = absurd (omega (arith, same_first (same_others (sym b.opens ∙ (e ∙ c.opens)))))
after_instruction rest after end white e b (instruction {rest = z} c n) = subst (λ w. MiscAt w end) (instruction_unique (subst (λ w. InstructionAt w z) (sym e) c) b) n

pub misc_less : (rest after end start : List ℕ) → start ≡ after_white rest → (CommentAt start after) ⊎ (InstructionAt start after) → MiscAt rest end → MiscAt after end
misc_less rest after end start e (inl a) m = after_comment rest after end start e a m
misc_less rest after end start e (inr a) m = after_instruction rest after end start e a m

pub misc_done : (rest start : List ℕ) → start ≡ after_white rest → IsNoMisc start → MiscAt rest (after_white rest)
misc_done rest start e k = no_more (subst IsNoMisc e k)

pub no_spaced_literal : (text start : List ℕ) → start ≡ after_white text → ((v a : List ℕ) → LiteralAt start v a → ⊥) → (v after : List ℕ) → BeginsWithWhite text → LiteralAt (after_white text) v after → ⊥
no_spaced_literal text start e h v after w l = h v after (subst (λ z. LiteralAt z v after) (sym e) l)

pub an_id_end : (text start r : List ℕ) → start ≡ after_white text → (start ≡ 0x3E ∷ r) ⊎ (start ≡ 0x5B ∷ r) → ExternalIdAt text text
an_id_end text start r e h = no_id (subst (λ w. (w ≡ 0x3E ∷ r) ⊎ (w ≡ 0x5B ∷ r)) e h)

pub no_id_white : (text start : List ℕ) → start ≡ after_white text → ((r : List ℕ) → (start ≡ 0x3E ∷ r) ⊎ (start ≡ 0x5B ∷ r) → ⊥) → (BeginsWithWhite text → ⊥)
    → (after : List ℕ) → ExternalIdAt text after → ⊥
no_id_white text start e h k after (no_id {r = r} q) = h r (subst (λ w. (w ≡ 0x3E ∷ r) ⊎ (w ≡ 0x5B ∷ r)) (sym e) q)
no_id_white text start e h k after (system w is w' l) = k w
no_id_white text start e h k after (public w is w' l w'' l') = k w

pub no_id_word : (text start : List ℕ) → start ≡ after_white text → ((r : List ℕ) → (start ≡ 0x3E ∷ r) ⊎ (start ≡ 0x5B ∷ r) → ⊥)
    → ((r : List ℕ) → start ≡ codes "SYSTEM" ++ r → ⊥) → ((r : List ℕ) → start ≡ codes "PUBLIC" ++ r → ⊥) → (after : List ℕ) → ExternalIdAt text after → ⊥
no_id_word text start e h s p after (no_id {r = r} q) = h r (subst (λ w. (w ≡ 0x3E ∷ r) ⊎ (w ≡ 0x5B ∷ r)) (sym e) q)
no_id_word text start e h s p after (system {rest = r} w is w' l) = s r (e ∙ is)
no_id_word text start e h s p after (public {rest = r} w is w' l w'' l') = p r (e ∙ is)

-- an external identifier that begins with its word
pub no_system : (text start behind : List ℕ) → start ≡ after_white text → ((r : List ℕ) → (start ≡ 0x3E ∷ r) ⊎ (start ≡ 0x5B ∷ r) → ⊥) → start ≡ codes "SYSTEM" ++ behind
    → ((v a : List ℕ) → BeginsWithWhite behind → LiteralAt (after_white behind) v a → ⊥) → (after : List ℕ) → ExternalIdAt text after → ⊥
no_system text start behind e h f k after (no_id {r = r} q) = h r (subst (λ w. (w ≡ 0x3E ∷ r) ⊎ (w ≡ 0x5B ∷ r)) (sym e) q)
no_system text start behind e h f k after (system {rest = r} {value = v} w is w' l) =
    let same = append_cancel_left (codes "SYSTEM") r behind (sym is ∙ (sym e ∙ f)) in
    k v after (subst BeginsWithWhite same w') (subst (λ z. LiteralAt (after_white z) v after) same l)
no_system text start behind e h f k after (public w is w' l w'' l') = absurd (omega (arith, same_first (sym is ∙ (sym e ∙ f))))

pub a_system : (text start behind after : List ℕ) → BeginsWithWhite text → start ≡ after_white text → start ≡ codes "SYSTEM" ++ behind
    → BeginsWithWhite behind × ((v : List ℕ) × LiteralAt (after_white behind) v after) → ExternalIdAt text after
a_system text start behind after w e f (k, (v, l)) = system w (sym e ∙ f) k l

pub same_end : (text first start : List ℕ) → first ≡ after_white text → start ≡ after_white text → ((r : List ℕ) → (first ≡ 0x3E ∷ r) ⊎ (first ≡ 0x5B ∷ r) → ⊥)
    → (r : List ℕ) → (start ≡ 0x3E ∷ r) ⊎ (start ≡ 0x5B ∷ r) → ⊥
same_end text first start e f h r q = h r (subst (λ w. (w ≡ 0x3E ∷ r) ⊎ (w ≡ 0x5B ∷ r)) (f ∙ sym e) q)

pub no_public_first : (text start behind : List ℕ) → start ≡ after_white text → ((r : List ℕ) → (start ≡ 0x3E ∷ r) ⊎ (start ≡ 0x5B ∷ r) → ⊥) → start ≡ codes "PUBLIC" ++ behind
    → ((v a : List ℕ) → BeginsWithWhite behind → LiteralAt (after_white behind) v a → ⊥) → (after : List ℕ) → ExternalIdAt text after → ⊥
no_public_first text start behind e h f k after (no_id {r = r} q) = h r (subst (λ w. (w ≡ 0x3E ∷ r) ⊎ (w ≡ 0x5B ∷ r)) (sym e) q)
no_public_first text start behind e h f k after (system w is w' l) = absurd (omega (arith, same_first (sym is ∙ (sym e ∙ f))))
no_public_first text start behind e h f k after (public {rest = r} {value = v} {past_first = p} w is w' l w'' l') =
    let same = append_cancel_left (codes "PUBLIC") r behind (sym is ∙ (sym e ∙ f)) in
    k v p (subst BeginsWithWhite same w') (subst (λ z. LiteralAt (after_white z) v p) same l)

pub no_public_second : (text start behind second : List ℕ) → start ≡ after_white text → ((r : List ℕ) → (start ≡ 0x3E ∷ r) ⊎ (start ≡ 0x5B ∷ r) → ⊥) → start ≡ codes "PUBLIC" ++ behind
    → BeginsWithWhite behind × ((v : List ℕ) × LiteralAt (after_white behind) v second)
    → ((v a : List ℕ) → BeginsWithWhite second → LiteralAt (after_white second) v a → ⊥) → (after : List ℕ) → ExternalIdAt text after → ⊥
no_public_second text start behind second e h f g k after (no_id {r = r} q) = h r (subst (λ w. (w ≡ 0x3E ∷ r) ⊎ (w ≡ 0x5B ∷ r)) (sym e) q)
no_public_second text start behind second e h f g k after (system w is w' l) = absurd (omega (arith, same_first (sym is ∙ (sym e ∙ f))))
no_public_second text start behind second e h f (u, (x, m)) k after (public {rest = r} {value = v} {past_first = p} {second = y} w is w' l w'' l') =
    let same = append_cancel_left (codes "PUBLIC") r behind (sym is ∙ (sym e ∙ f)) in
    let first = (literal_unique (subst (λ z. LiteralAt (after_white z) v p) same l) m).1 in
    k y after (subst BeginsWithWhite first w'') (subst (λ z. LiteralAt (after_white z) y after) first l')

pub a_public : (text start behind second after : List ℕ) → BeginsWithWhite text → start ≡ after_white text → start ≡ codes "PUBLIC" ++ behind
    → BeginsWithWhite behind × ((v : List ℕ) × LiteralAt (after_white behind) v second)
    → BeginsWithWhite second × ((v : List ℕ) × LiteralAt (after_white second) v after) → ExternalIdAt text after
a_public text start behind second after w e f (k, (v, l)) (m, (y, n)) = public w (sym e ∙ f) k l m n

pub no_white_front : (text rest : List ℕ) → text ≡ codes "<!DOCTYPE" ++ rest → (BeginsWithWhite rest → ⊥) → (after : List ℕ) → DoctypeFrontAt text after → ⊥
no_white_front text rest e h after a = h (subst BeginsWithWhite (append_cancel_left (codes "<!DOCTYPE") a.rest rest (sym a.opens ∙ e)) a.white)

pub no_name_front : (text rest start : List ℕ) → text ≡ codes "<!DOCTYPE" ++ rest → start ≡ after_white rest → ((name : QualifiedName) (behind : List ℕ) → QNameAt start name behind → ⊥)
    → (after : List ℕ) → DoctypeFrontAt text after → ⊥
no_name_front text rest start e f h after a =
    let same = append_cancel_left (codes "<!DOCTYPE") a.rest rest (sym a.opens ∙ e) in
    h a.name a.past_name (subst (λ z. QNameAt z a.name a.past_name) (ap after_white same ∙ sym f) a.names)

pub no_external : (text rest start behind : List ℕ) (name : QualifiedName) → text ≡ codes "<!DOCTYPE" ++ rest → start ≡ after_white rest → QNameAt start name behind
    → ((a : List ℕ) → ExternalIdAt behind a → ⊥) → (after : List ℕ) → DoctypeFrontAt text after → ⊥
no_external text rest start behind name e f n h after a =
    let same = append_cancel_left (codes "<!DOCTYPE") a.rest rest (sym a.opens ∙ e) in
    let names = qname_unique (subst (λ z. QNameAt z a.name a.past_name) (ap after_white same ∙ sym f) a.names) n in
    h a.past_id (subst (λ z. ExternalIdAt z a.past_id) names.1 a.external)

pub ignoring_case : (a b : List ℕ) → str_to_ascii_lowercase a ≡ str_to_ascii_lowercase b → str_eq_ignore_ascii_case a b ≡ true
ignoring_case a b e = (bytes_decides (str_to_ascii_lowercase a) (str_to_ascii_lowercase b)).1 e

pub not_ignoring_case : (a b : List ℕ) → (str_to_ascii_lowercase a ≡ str_to_ascii_lowercase b → false ≡ true) → str_eq_ignore_ascii_case a b ≡ false
not_ignoring_case a b h = false_from_ne_true _ (λ q. true≢false (sym (h ((bytes_decides (str_to_ascii_lowercase a) (str_to_ascii_lowercase b)).0 q))))

pub up_to_shorter : (mark bs inside after : List ℕ) → UpTo mark bs inside after → length mark + length after ≤ length bs
up_to_shorter mark bs inside after u = omega (arith, ap length u.back, length-append mark after, length-drop (length_before mark bs) bs)

pub misc_shorter : (rest after start : List ℕ) → start ≡ after_white rest → (CommentAt start after) ⊎ (InstructionAt start after) → length after < length rest
misc_shorter rest after start e (inl a) =
    omega (arith, ap length a.opens, up_to_shorter (codes "--") a.rest a.inside (0x3E ∷ after) a.closes, ap length e, length-drop (prefix_len is_white rest) rest)
misc_shorter rest after start e (inr a) =
    omega (arith, ap length a.opens, ap length a.names.parts, length-append a.target a.behind, up_to_shorter (codes "?>") a.behind a.inside after a.closes, ap length e, length-drop (prefix_len is_white rest) rest)

pub map_ok : {X E : Type 0} (P Q : X → Type 0) (r : Result X E) → ((x : X) → P x → Q x) → IfOk r P → IfOk r Q
map_ok P Q (Ok x) f h = f x h
map_ok P Q (Err e) f h = tt

pub map_err : {X E : Type 0} (P Q : E → Type 0) (r : Result X E) → ((e : E) → P e → Q e) → IfErr r P → IfErr r Q
map_err P Q (Ok x) f h = tt
map_err P Q (Err e) f h = f e h

pub no_front : (text r : List ℕ) → text ≡ codes "<!DOCTYPE" ++ r → ((a : List ℕ) → DoctypeFrontAt text a → ⊥) → (after : List ℕ) → DoctypeAt text after → ⊥
no_front text r e h after (no_doctype k) = k r e
no_front text r e h after (doctype {rest = s} a m) = h (0x3E ∷ s) a

pub no_misc_behind : (text r end rest : List ℕ) → text ≡ codes "<!DOCTYPE" ++ r → DoctypeFrontAt text end → end ≡ 0x3E ∷ rest → ((a : List ℕ) → MiscAt rest a → ⊥)
    → (after : List ℕ) → DoctypeAt text after → ⊥
no_misc_behind text r end rest e f q h after (no_doctype k) = k r e
no_misc_behind text r end rest e f q h after (doctype a m) = h after (subst (λ w. MiscAt w after) (same_others (doctype_front_unique a f ∙ q)) m)

pub no_close : (text r end : List ℕ) → text ≡ codes "<!DOCTYPE" ++ r → DoctypeFrontAt text end → ((rest : List ℕ) → end ≡ 0x3E ∷ rest → ⊥) → (after : List ℕ) → DoctypeAt text after → ⊥
no_close text r end e f h after (no_doctype k) = k r e
no_close text r end e f h after (doctype {rest = s} a m) = h s (doctype_front_unique f a)

pub at_some : {X : Type 0} (P : Type 0) (Q : X → Type 0) (o : Option X) (x : X) → o ≡ Some x → MatchOption o P Q → Q x
at_some {X} P Q o x e h = subst (λ w. MatchOption w P Q) e h

pub at_nothing : {X : Type 0} (P : Type 0) (Q : X → Type 0) (o : Option X) → o ≡ None → MatchOption o P Q → P
at_nothing {X} P Q o e h = subst (λ w. MatchOption w P Q) e h

-- an XML declaration of another version
pub version_stands : (text rest start value past : List ℕ) → text ≡ codes "<?xml" ++ rest → start ≡ after_white rest → SettingAt (codes "version") rest value past
    → true ≡ not (bytes_eq value (codes "1.0")) → (at : List ℕ) × (length start ≡ length at) × DeclarationRefuses text XmlVersion at
version_stands text rest start value past e f s h =
    (after_white rest, ap length f, refusals.version e s (λ q. true≢false (h ∙ ap not ((bytes_decides value (codes "1.0")).1 q))))

-- or with another encoding
pub encoding_stands : (text rest value past : List ℕ) → text ≡ codes "<?xml" ++ rest → SettingAt (codes "version") rest value past → value ≡ codes "1.0"
    → (why : Why) (at : List ℕ) → (why ≡ Encoding) × (at ≡ after_white past) × ((word : List ℕ) × (after : List ℕ) × SettingAt (codes "encoding") past word after × (IsReadEncoding word → ⊥))
    → DeclarationRefuses text why at
encoding_stands text rest value past e s v why at (is, same, (word, after, k, n)) =
    let whole : DeclarationRefuses text Encoding (after_white past) = refusals.encoding e (subst (λ w. SettingAt (codes "version") rest w past) v s) k n in
    subst (λ w. DeclarationRefuses text w at) (sym is) (subst (DeclarationRefuses text Encoding) (sym same) whole)
