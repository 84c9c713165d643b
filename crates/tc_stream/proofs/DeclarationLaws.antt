-- Byte by byte an XML declaration ends where it ends, and is refused where it is refused.
use Rattle.std.proofs.Common.{◌≡◌, inl, inr, ◌⊎◌, ℕ, suc, ◌≤◌, ◌+◌, Bool, true, false, not, ◌==◌, List, [], ◌∷◌, ◌++◌, refl, ap, ◌∙◌, sym, subst, length, arith, codes, Option, None, Some, append_assoc, append-nil, length-append}
use Rattle.std.specs.Prelude.{bytes_eq}
use Rattle.std.specs.List.{list_all}
use Rattle.std.specs.Cmp.Lexicographic.{bytes_decides}
use Rattle.std.proofs.lemmas.Bool.{true≢false, and_parts, eq-eqb, cond-true, cond-false}
use Rattle.tc_base.specs.Characters.{is_white}
use Rattle.tc_base.specs.declared.reasons.Why.{Why}
use Rattle.tc_base.specs.declared.reasons.Why.TheVariants.{Encoding, XmlVersion}
use Rattle.tc_model.specs.XmlTextBytes.{BeginsWithWhite, after_white, place_of, IsQuote, LiteralAt, EqualsAt}
use Rattle.tc_model.specs.XmlTextMisc.{SettingAt, EncodingAt, no_encoding, encoding, StandaloneAt, no_standalone, standalone, IsReadEncoding}
use Rattle.tc_model.specs.XmlTextRefusals.{DeclarationRefuses, version}
use Rattle.tc_model.specs.XmlTextRefusals as f
use Rattle.std.proofs.lemmas.List.{append_cancel_left}
use Rattle.tc_stream.specs.Declarations.{Setting, of_version, of_encoding, of_standalone, word_of, Declaring, between, in_word, equals, in_literal, at_end, Declared, more, whole, unread, undeclared, setting_behind, begun_word, is_read_encoding, is_yes_or_no, valued, declared_next, DeclarationScan, declared, declaring, refuses, no_declaration, declaration_on, declaration_scan}
use Rattle.tc_stream.proofs.LengthLaws.{white_within}
use Rattle.tc_stream.proofs.SplitLaws.{up_to_splits, white_more, white_none, white_begins, begins_white}

-- what a scan is behind more bytes
abbrev pub then_declaration : ℕ → DeclarationScan → List ℕ → DeclarationScan
then_declaration place (declared r) t = declared (r ++ t)
then_declaration place (declaring k) t = declaration_scan k place t
then_declaration place (refuses why at) t = refuses why at
then_declaration place no_declaration t = no_declaration

pub declaration_more : (k : Declaring) (p : ℕ) (w t : List ℕ) → declaration_scan k p (w ++ t) ≡ then_declaration (p + length w) (declaration_scan k p w) t
declaration_more k p [] t = let none : p ≡ p + 0 = omega arith in ap (λ q. declaration_scan k q t) none
declaration_more k p (b ∷ w) t = by (declared_next k p b (b ∷ [])) (λ j. declaration_more j (suc p) w t)
  where
    by : (d : Declared) → ((j : Declaring) → declaration_scan j (suc p) (w ++ t) ≡ then_declaration (suc p + length w) (declaration_scan j (suc p) w) t)
        → declaration_on d (λ j. declaration_scan j (suc p) (w ++ t)) (w ++ t) ≡ then_declaration (p + suc (length w)) (declaration_on d (λ j. declaration_scan j (suc p) w) w) t
    by (more j) later =
        let sum : suc p + length w ≡ p + suc (length w) = omega arith in later j ∙ ap (λ q. then_declaration q (declaration_scan j (suc p) w) t) sum
    by whole later = refl
    by (unread why at) later = refl
    by undeclared later = refl

-- the scan at bytes with which a text of so many bytes ends

abbrev pub scan_at : ℕ → Declaring → List ℕ → DeclarationScan
scan_at t k bs = declaration_scan k (place_of t bs) bs

step_at : (t : ℕ) (k : Declaring) (b : ℕ) (bs : List ℕ) → length (b ∷ bs) ≤ t
    → scan_at t k (b ∷ bs) ≡ declaration_on (declared_next k (place_of t (b ∷ bs)) b (b ∷ [])) (λ j. scan_at t j bs) bs
step_at t k b bs low =
    let sum : suc (place_of t (b ∷ bs)) ≡ place_of t bs = omega (arith, low) in
    ap (λ q. declaration_on (declared_next k (place_of t (b ∷ bs)) b (b ∷ [])) (λ j. declaration_scan j q bs) bs) sum

pub step_with : (t : ℕ) (k : Declaring) (d : Declared) (b : ℕ) (bs : List ℕ) → length (b ∷ bs) ≤ t → declared_next k (place_of t (b ∷ bs)) b (b ∷ []) ≡ d
    → scan_at t k (b ∷ bs) ≡ declaration_on d (λ j. scan_at t j bs) bs
step_with t k d b bs low e = step_at t k b bs low ∙ ap (λ d. declaration_on d (λ i. scan_at t i bs) bs) e

pub shorter : {t : ℕ} (b : ℕ) (bs : List ℕ) → length (b ∷ bs) ≤ t → length bs ≤ t
shorter b bs low = omega (arith, low)

pub white_shorter : {t : ℕ} (bs : List ℕ) → length bs ≤ t → length (after_white bs) ≤ t
white_shorter bs low = omega (arith, low, white_within bs)

-- states that white space doesn't change

pub record KeepsWhite (k : Declaring) : Type 0 where
  pub keeps : (p b : ℕ) → is_white b ≡ true → declared_next k p b (b ∷ []) ≡ more k

pub white_skipped : (t : ℕ) (k : Declaring) (bs : List ℕ) → KeepsWhite k → length bs ≤ t → scan_at t k bs ≡ scan_at t k (after_white bs)
white_skipped t k [] w low = refl
white_skipped t k (b ∷ bs) w low = by (is_white b) refl (white_skipped t k bs w (shorter b bs low))
  where
    by : (x : Bool) → is_white b ≡ x → scan_at t k bs ≡ scan_at t k (after_white bs) → scan_at t k (b ∷ bs) ≡ scan_at t k (after_white (b ∷ bs))
    by true e later = step_with t k (more k) b bs low (w.keeps (place_of t (b ∷ bs)) b e) ∙ (later ∙ ap (λ z. scan_at t k z) (sym (white_more b bs e)))
    by false e later = ap (λ z. scan_at t k z) (sym (white_none b bs e))

pub between_keeps : (set : Option Setting) → KeepsWhite (between set true)
between_keeps set = record { keeps = λ p b e. cond-true (is_white b) _ _ e }

pub named_keeps : (s : Setting) (at : ℕ) → KeepsWhite (in_word s [] at)
named_keeps s at = record { keeps = λ p b e. cond-true (is_white b) _ _ e }

pub equals_keeps : (s : Setting) (at : ℕ) → KeepsWhite (equals s at)
equals_keeps s at = record { keeps = λ p b e. cond-true (is_white b) _ _ e }

-- a setting goes by

abbrev pub head_of : List ℕ → ℕ
head_of [] = 0
head_of (b ∷ bs) = b

abbrev pub Follows : Option Setting → Setting → Type 0
Follows set s = setting_behind set (head_of (word_of s)) ≡ Some s

some_white : (t : ℕ) (set : Option Setting) (w : Bool) (bs : List ℕ) → BeginsWithWhite bs → length bs ≤ t → scan_at t (between set w) bs ≡ scan_at t (between set true) (after_white bs)
some_white t set w [] h low = absurd (omega (arith, h))
some_white t set w (b ∷ bs) h low =
    let white = begins_white b bs h in
    step_with t (between set w) (more (between set true)) b bs low (cond-true (is_white b) _ _ white)
    ∙ (white_skipped t (between set true) bs (between_keeps set) (shorter b bs low) ∙ ap (λ z. scan_at t (between set true) z) (sym (white_more b bs white)))

word_past : (t : ℕ) (s : Setting) (at : ℕ) (left r : List ℕ) → length (left ++ r) ≤ t → scan_at t (in_word s left at) (left ++ r) ≡ scan_at t (in_word s [] at) r
word_past t s at [] r low = refl
word_past t s at (b ∷ left) r low =
    step_with t (in_word s (b ∷ left) at) (more (in_word s left at)) b (left ++ r) low (cond-true (b == b) _ _ (eq-eqb b b refl)) ∙ word_past t s at left r (shorter b (left ++ r) low)

word_begins : (t : ℕ) (set : Option Setting) (s : Setting) (r : List ℕ) → Follows set s → length (word_of s ++ r) ≤ t
    → scan_at t (between set true) (word_of s ++ r) ≡ scan_at t (in_word s [] (place_of t (word_of s ++ r))) r
word_begins t set of_version r h low =
    let at = place_of t (word_of of_version ++ r) in
    step_with t (between set true) (more (in_word of_version (codes "ersion") at)) 0x76 (codes "ersion" ++ r) low (ap (λ o. begun_word o at) h)
    ∙ word_past t of_version at (codes "ersion") r (shorter 0x76 (codes "ersion" ++ r) low)
word_begins t set of_encoding r h low =
    let at = place_of t (word_of of_encoding ++ r) in
    step_with t (between set true) (more (in_word of_encoding (codes "ncoding") at)) 0x65 (codes "ncoding" ++ r) low (ap (λ o. begun_word o at) h)
    ∙ word_past t of_encoding at (codes "ncoding") r (shorter 0x65 (codes "ncoding" ++ r) low)
word_begins t set of_standalone r h low =
    let at = place_of t (word_of of_standalone ++ r) in
    step_with t (between set true) (more (in_word of_standalone (codes "tandalone") at)) 0x73 (codes "tandalone" ++ r) low (ap (λ o. begun_word o at) h)
    ∙ word_past t of_standalone at (codes "tandalone") r (shorter 0x73 (codes "tandalone" ++ r) low)

equals_past : (t : ℕ) (s : Setting) (at : ℕ) (bs start : List ℕ) → EqualsAt bs start → length bs ≤ t → scan_at t (in_word s [] at) bs ≡ scan_at t (equals s at) start
equals_past t s at bs start a low =
    let short : length (0x3D ∷ a.rest) ≤ t = subst (λ z. length z ≤ t) a.sign (white_shorter bs low) in
    white_skipped t (in_word s [] at) bs (named_keeps s at) low
    ∙ (ap (λ z. scan_at t (in_word s [] at) z) a.sign
    ∙ (step_with t (in_word s [] at) (more (equals s at)) 0x3D a.rest short refl
    ∙ (white_skipped t (equals s at) a.rest (equals_keeps s at) (shorter 0x3D a.rest short) ∙ ap (λ z. scan_at t (equals s at) z) (sym a.past))))

literal_past : (t : ℕ) (s : Setting) (at q : ℕ) (v inside after : List ℕ) → list_all (λ b. not (b == q)) inside ≡ true → length (inside ++ q ∷ after) ≤ t
    → scan_at t (in_literal s at q v) (inside ++ q ∷ after) ≡ declaration_on (valued s at (v ++ inside)) (λ j. scan_at t j after) after
literal_past t s at q v [] after h low =
    step_with t (in_literal s at q v) (valued s at v) q after low (cond-true (q == q) _ _ (eq-eqb q q refl))
    ∙ ap (λ w. declaration_on (valued s at w) (λ j. scan_at t j after) after) (sym (append-nil v))
literal_past t s at q v (b ∷ inside) after h low =
    let both = and_parts (not (b == q)) (list_all (λ b. not (b == q)) inside) h in
    step_with t (in_literal s at q v) (more (in_literal s at q (v ++ b ∷ []))) b (inside ++ q ∷ after) low (cond-false (b == q) _ _ (other (b == q) both.0))
    ∙ (literal_past t s at q (v ++ b ∷ []) inside after both.1 (shorter b (inside ++ q ∷ after) low)
    ∙ ap (λ w. declaration_on (valued s at w) (λ j. scan_at t j after) after) (append_assoc v (b ∷ []) inside))
  where
    other : (x : Bool) → not x ≡ true → x ≡ false
    other true e = absurd (true≢false (sym e))
    other false e = refl

quote_opens : (s : Setting) (at p q : ℕ) → IsQuote q → declared_next (equals s at) p q (q ∷ []) ≡ more (in_literal s at q [])
quote_opens s at p q (inl e) = subst (λ z. declared_next (equals s at) p z (z ∷ []) ≡ more (in_literal s at z [])) (sym e) refl
quote_opens s at p q (inr e) = subst (λ z. declared_next (equals s at) p z (z ∷ []) ≡ more (in_literal s at z [])) (sym e) refl

literal_at : (t : ℕ) (s : Setting) (at : ℕ) (bs value after : List ℕ) → LiteralAt bs value after → length bs ≤ t
    → scan_at t (equals s at) bs ≡ declaration_on (valued s at value) (λ j. scan_at t j after) after
literal_at t s at bs value after a low =
    let split = up_to_splits a.closes in
    let long : length (a.quote ∷ a.rest) ≤ t = subst (λ z. length z ≤ t) a.opens low in
    let short : length (value ++ a.quote ∷ after) ≤ t = subst (λ z. length z ≤ t) split.parts (shorter a.quote a.rest long) in
    ap (λ z. scan_at t (equals s at) z) a.opens
    ∙ (step_with t (equals s at) (more (in_literal s at a.quote [])) a.quote a.rest long (quote_opens s at (place_of t (a.quote ∷ a.rest)) a.quote a.is_quote)
    ∙ (ap (λ z. scan_at t (in_literal s at a.quote []) z) split.parts ∙ literal_past t s at a.quote [] value after split.free short))

equals_short : {bs start : List ℕ} → EqualsAt bs start → length start ≤ length bs
equals_short {bs} a = omega (arith, ap length a.sign, white_within bs, ap length a.past, white_within a.rest)

pub setting_past : (t : ℕ) (set : Option Setting) (s : Setting) (w : Bool) (bs value after : List ℕ) → Follows set s → SettingAt (word_of s) bs value after → length bs ≤ t
    → scan_at t (between set w) bs ≡ declaration_on (valued s (place_of t (after_white bs)) value) (λ j. scan_at t j after) after
setting_past t set s w bs value after h a low =
    let white = white_shorter bs low in
    let long : length (word_of s ++ a.behind) ≤ t = subst (λ z. length z ≤ t) a.names white in
    let short : length a.behind ≤ t = omega (arith, long, length-append (word_of s) a.behind) in
    let at = place_of t (after_white bs) in
    some_white t set w bs a.white low
    ∙ (ap (λ z. scan_at t (between set true) z) a.names
    ∙ (word_begins t set s a.behind h long
    ∙ (ap (λ z. scan_at t (in_word s [] (place_of t z)) a.behind) (sym a.names)
    ∙ (equals_past t s at a.behind a.start a.equals short ∙ literal_at t s at a.start value after a.literal (omega (arith, short, equals_short a.equals))))))

-- the end of a declaration
end_past : (t : ℕ) (s : Setting) (w : Bool) (bs rest : List ℕ) → after_white bs ≡ codes "?>" ++ rest → length bs ≤ t → scan_at t (between (Some s) w) bs ≡ declared rest
end_past t s w bs rest e low = by (white_or_not bs)
  where
    white_or_not : (cs : List ℕ) → BeginsWithWhite cs ⊎ (after_white cs ≡ cs)
    white_or_not [] = inr refl
    white_or_not (b ∷ cs) = which (is_white b) refl
      where
        which : (x : Bool) → is_white b ≡ x → BeginsWithWhite (b ∷ cs) ⊎ (after_white (b ∷ cs) ≡ b ∷ cs)
        which true h = inl (white_begins b cs h)
        which false h = inr (white_none b cs h)

    ends : (w : Bool) → length (codes "?>" ++ rest) ≤ t → scan_at t (between (Some s) w) (codes "?>" ++ rest) ≡ declared rest
    ends w short =
        step_with t (between (Some s) w) (more at_end) 0x3F (0x3E ∷ rest) short refl
        ∙ step_with t at_end whole 0x3E rest (shorter 0x3F (0x3E ∷ rest) short) refl

    by : BeginsWithWhite bs ⊎ (after_white bs ≡ bs) → scan_at t (between (Some s) w) bs ≡ declared rest
    by (inl h) =
        some_white t (Some s) w bs h low
        ∙ (ap (λ z. scan_at t (between (Some s) true) z) e ∙ ends true (subst (λ z. length z ≤ t) e (white_shorter bs low)))
    by (inr h) =
        ap (λ z. scan_at t (between (Some s) w) z) (sym h ∙ e) ∙ ends w (subst (λ z. length z ≤ t) e (white_shorter bs low))

-- a declaration, from the white space behind `<?xml` on
pub record IsDeclared (bs rest : List ℕ) : Type 0 where
  pub past_version : List ℕ
  pub past_encoding : List ℕ
  pub past_standalone : List ℕ
  pub version : SettingAt (codes "version") bs (codes "1.0") past_version
  pub encoding : EncodingAt past_version past_encoding
  pub standalone : StandaloneAt past_encoding past_standalone
  pub end : after_white past_standalone ≡ codes "?>" ++ rest

pub setting_short : {word bs v r : List ℕ} → SettingAt word bs v r → length r ≤ length bs
setting_short {word} {bs} {v} {r} a =
    omega (arith, white_within bs, ap length a.names, length-append word a.behind, equals_short a.equals, literal_short a.literal)
  where
    literal_short : {bs v r : List ℕ} → LiteralAt bs v r → length r ≤ length bs
    literal_short {bs} {v} {r} a = let s = up_to_splits a.closes in omega (arith, ap length a.opens, ap length s.parts, length-append v (a.quote ∷ r))

standing_scanned : (t : ℕ) (s : Setting) (bs past rest : List ℕ) → Follows (Some s) of_standalone → StandaloneAt bs past → after_white past ≡ codes "?>" ++ rest → length bs ≤ t
    → scan_at t (between (Some s) false) bs ≡ declared rest
standing_scanned t s bs past rest h (no_standalone n) e low = end_past t s false bs rest e low
standing_scanned t s bs past rest h (standalone {value = v} a k) e low =
    setting_past t (Some s) of_standalone false bs v past h a low
    ∙ (ap (λ d. declaration_on d (λ j. scan_at t j past) past) (cond-true (is_yes_or_no v) _ _ (lawful k))
    ∙ end_past t of_standalone false past rest e (omega (arith, low, setting_short a)))
  where
    lawful : (v ≡ codes "yes") ⊎ (v ≡ codes "no") → is_yes_or_no v ≡ true
    lawful (inl is) = ap is_yes_or_no is
    lawful (inr is) = ap is_yes_or_no is

encoded_scanned : (t : ℕ) (bs past_encoding past rest : List ℕ) → EncodingAt bs past_encoding → StandaloneAt past_encoding past → after_white past ≡ codes "?>" ++ rest → length bs ≤ t
    → scan_at t (between (Some of_version) false) bs ≡ declared rest
encoded_scanned t bs past_encoding past rest (no_encoding n) k e low = standing_scanned t of_version bs past rest refl k e low
encoded_scanned t bs past_encoding past rest (encoding {value = v} a h) k e low =
    setting_past t (Some of_version) of_encoding false bs v past_encoding refl a low
    ∙ (ap (λ d. declaration_on d (λ j. scan_at t j past_encoding) past_encoding) (cond-true (is_read_encoding v) _ _ h)
    ∙ standing_scanned t of_encoding past_encoding past rest refl k e (omega (arith, low, setting_short a)))

version_read : (t : ℕ) (bs after : List ℕ) → SettingAt (codes "version") bs (codes "1.0") after → length bs ≤ t
    → scan_at t (between None false) bs ≡ scan_at t (between (Some of_version) false) after
version_read t bs after a low = setting_past t None of_version false bs (codes "1.0") after refl a low

pub declared_scanned : (t : ℕ) (bs rest : List ℕ) → IsDeclared bs rest → length bs ≤ t → scan_at t (between None false) bs ≡ declared rest
declared_scanned t bs rest a low =
    version_read t bs a.past_version a.version low
    ∙ encoded_scanned t a.past_version a.past_encoding a.past_standalone rest a.encoding a.standalone a.end (omega (arith, low, setting_short a.version))

-- one that is refused

version_unread : (t : ℕ) (bs value after : List ℕ) → SettingAt (codes "version") bs value after → (value ≡ codes "1.0" → ⊥) → length bs ≤ t
    → scan_at t (between None false) bs ≡ refuses XmlVersion (place_of t (after_white bs))
version_unread t bs value after a other low =
    setting_past t None of_version false bs value after refl a low
    ∙ ap (λ d. declaration_on d (λ j. scan_at t j after) after) (cond-false (bytes_eq value (codes "1.0")) _ _ (by (bytes_eq value (codes "1.0")) refl))
  where
    by : (x : Bool) → bytes_eq value (codes "1.0") ≡ x → bytes_eq value (codes "1.0") ≡ false
    by true e = absurd (other ((bytes_decides value (codes "1.0")).0 e))
    by false e = e

encoding_unread : (t : ℕ) (bs value after : List ℕ) → SettingAt (codes "encoding") bs value after → (IsReadEncoding value → ⊥) → length bs ≤ t
    → scan_at t (between (Some of_version) false) bs ≡ refuses Encoding (place_of t (after_white bs))
encoding_unread t bs value after a other low =
    setting_past t (Some of_version) of_encoding false bs value after refl a low
    ∙ ap (λ d. declaration_on d (λ j. scan_at t j after) after) (cond-false (is_read_encoding value) _ _ (by (is_read_encoding value) refl))
  where
    by : (x : Bool) → is_read_encoding value ≡ x → is_read_encoding value ≡ false
    by true e = absurd (other e)
    by false e = e

pub refused_scanned : (t : ℕ) (bs at : List ℕ) (why : Why) → DeclarationRefuses (codes "<?xml" ++ bs) why at → length bs ≤ t
    → scan_at t (between None false) bs ≡ refuses why (place_of t at)
refused_scanned t bs at why (version {rest = rest} {value = v} {after = after} is a n) low =
    let same = append_cancel_left (codes "<?xml") bs rest is in
    ap (λ z. scan_at t (between None false) z) same ∙ version_unread t rest v after a n (subst (λ z. length z ≤ t) same low)
refused_scanned t bs at why (f.encoding {rest = rest} {past_version = p} {value = v} {after = after} is a b n) low =
    let same = append_cancel_left (codes "<?xml") bs rest is in
    let short : length rest ≤ t = subst (λ z. length z ≤ t) same low in
    ap (λ z. scan_at t (between None false) z) same
    ∙ (version_read t rest p a short ∙ encoding_unread t p v after b n (omega (arith, short, setting_short a)))
