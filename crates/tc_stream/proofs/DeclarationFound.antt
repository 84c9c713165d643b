-- What a scan of an XML declaration tells is what stands there.
use Rattle.std.proofs.Common.{◌≡◌, inl, inr, ◌⊎◌, ℕ, ◌≤◌, Bool, true, false, cond, ◌||◌, ◌==◌, List, [], ◌∷◌, ◌++◌, refl, ap, ◌∙◌, sym, subst, length, arith, codes, Option, None, Some, length-append}
use Rattle.std.specs.Prelude.{bytes_eq}
use Rattle.std.specs.Cmp.Lexicographic.{bytes_decides}
use Rattle.std.proofs.lemmas.Bool.{true≢false, eqb-true, cond-true, cond-false}
use Rattle.tc_base.specs.Characters.{is_white}
use Rattle.tc_base.specs.declared.reasons.Why.{Why}
use Rattle.tc_base.specs.declared.reasons.Why.TheVariants.{Encoding, XmlVersion}
use Rattle.tc_model.specs.XmlTextBytes.{BeginsWithWhite, after_white, place_of, IsQuote, LiteralAt, EqualsAt}
use Rattle.tc_model.specs.XmlTextMisc.{SettingAt, LacksWord, EncodingAt, no_encoding, encoding, StandaloneAt, no_standalone, standalone, IsReadEncoding}
use Rattle.tc_model.specs.XmlTextRefusals.{DeclarationRefuses, version}
use Rattle.tc_model.specs.XmlTextRefusals as f
use Rattle.tc_model.proofs.XmlTextPhrases.{same_first}
use Rattle.tc_stream.specs.Declarations.{Setting, of_version, of_encoding, of_standalone, word_of, Declaring, between, in_word, equals, in_literal, at_end, more, undeclared, setting_behind, without_first, begun_word, is_read_encoding, is_yes_or_no, valued, declared_next, DeclarationScan, declared, declaring, refuses, no_declaration, declaration_on}
use Rattle.tc_stream.proofs.SplitLaws.{Splits, splits_up_to, splits_more, splits_here, white_more, white_none, white_begins, IsBare, bare_after}
use Rattle.tc_stream.proofs.DeclarationLaws.{declared_scanned, refused_scanned, scan_at, step_with, shorter, white_shorter, white_skipped, between_keeps, named_keeps, equals_keeps, head_of, Follows, setting_past, setting_short, IsDeclared}

-- the scan tells something
abbrev pub Tells : DeclarationScan → Type 0
Tells (declared r) = Unit {0}
Tells (declaring k) = ⊥
Tells (refuses why at) = Unit {0}
Tells no_declaration = ⊥

-- a literal
literal_found : (t : ℕ) (s : Setting) (at q : ℕ) (v bs : List ℕ) → length bs ≤ t → Tells (scan_at t (in_literal s at q v) bs)
    → (inside : List ℕ) × (after : List ℕ) × Splits q bs inside after
literal_found t s at q v [] low h = absurd h
literal_found t s at q v (b ∷ bs) low h = by (b == q) refl (literal_found t s at q (v ++ b ∷ []) bs (shorter b bs low))
  where
    by : (x : Bool) → (b == q) ≡ x → (Tells (scan_at t (in_literal s at q (v ++ b ∷ [])) bs) → (inside : List ℕ) × (after : List ℕ) × Splits q bs inside after)
        → (inside : List ℕ) × (after : List ℕ) × Splits q (b ∷ bs) inside after
    by true e later = ([], bs, splits_here b bs e)
    by false e later =
        let (inside, after, s') = later (subst Tells (step_with t (in_literal s at q v) (more (in_literal s at q (v ++ b ∷ []))) b bs low (cond-false (b == q) _ _ e)) h) in
        (b ∷ inside, after, splits_more b e s')

quote_found : (t : ℕ) (s : Setting) (at : ℕ) (bs : List ℕ) → IsBare bs → length bs ≤ t → Tells (scan_at t (equals s at) bs) → (value : List ℕ) × (after : List ℕ) × LiteralAt bs value after
quote_found t s at [] bare low h = absurd h
quote_found t s at (b ∷ bs) bare low h = by (b == 0x22) (b == 0x27) refl refl
  where
    inside : IsQuote b → declared_next (equals s at) (place_of t (b ∷ bs)) b (b ∷ []) ≡ more (in_literal s at b []) → (value : List ℕ) × (after : List ℕ) × LiteralAt (b ∷ bs) value after
    inside i e =
        let (value, after, s') = literal_found t s at b [] bs (shorter b bs low) (subst Tells (step_with t (equals s at) (more (in_literal s at b [])) b bs low e) h) in
        (value, after, record { quote = b; rest = bs; is_quote = i; opens = refl; closes = splits_up_to s' })

    next : (x y : Bool) → (b == 0x22) ≡ x → (b == 0x27) ≡ y
        → declared_next (equals s at) (place_of t (b ∷ bs)) b (b ∷ []) ≡ cond (x || y) (more (in_literal s at b [])) undeclared
    next x y e k =
        cond-false (is_white b) _ _ bare ∙ (ap (λ z. cond (z || b == 0x27) (more (in_literal s at b [])) undeclared) e ∙ ap (λ z. cond (x || z) (more (in_literal s at b [])) undeclared) k)

    by : (x y : Bool) → (b == 0x22) ≡ x → (b == 0x27) ≡ y → (value : List ℕ) × (after : List ℕ) × LiteralAt (b ∷ bs) value after
    by true y e k = inside (inl (eqb-true b 0x22 e)) (next true y e k)
    by false true e k = inside (inr (eqb-true b 0x27 k)) (next false true e k)
    by false false e k = absurd (subst Tells (step_with t (equals s at) undeclared b bs low (next false false e k)) h)

-- an equals sign and a literal
record Assigned (bs value after : List ℕ) : Type 0 where
  start : List ℕ
  sign : EqualsAt bs start
  literal : LiteralAt start value after

sign_found : (t : ℕ) (s : Setting) (at : ℕ) (bs cs : List ℕ) → after_white bs ≡ cs → IsBare cs → length cs ≤ t → Tells (scan_at t (in_word s [] at) cs)
    → (value : List ℕ) × (after : List ℕ) × Assigned bs value after
sign_found t s at bs [] is bare low h = absurd h
sign_found t s at bs (b ∷ cs) is bare low h = by (b == 0x3D) refl
  where
    next : (x : Bool) → (b == 0x3D) ≡ x → declared_next (in_word s [] at) (place_of t (b ∷ cs)) b (b ∷ []) ≡ cond x (more (equals s at)) undeclared
    next x e = cond-false (is_white b) _ _ bare ∙ ap (λ z. cond z (more (equals s at)) undeclared) e

    by : (x : Bool) → (b == 0x3D) ≡ x → (value : List ℕ) × (after : List ℕ) × Assigned bs value after
    by true e =
        let short = shorter b cs low in
        let there = subst Tells (step_with t (in_word s [] at) (more (equals s at)) b cs low (next true e) ∙ white_skipped t (equals s at) cs (equals_keeps s at) short) h in
        let (value, after, l) = quote_found t s at (after_white cs) (bare_after cs) (white_shorter cs short) there in
        (value, after, record { start = after_white cs; sign = record { rest = cs; sign = is ∙ ap (λ z. z ∷ cs) (eqb-true b 0x3D e); past = refl }; literal = l })
    by false e = absurd (subst Tells (step_with t (in_word s [] at) undeclared b cs low (next false e)) h)

assigned_found : (t : ℕ) (s : Setting) (at : ℕ) (bs : List ℕ) → length bs ≤ t → Tells (scan_at t (in_word s [] at) bs) → (value : List ℕ) × (after : List ℕ) × Assigned bs value after
assigned_found t s at bs low h =
    sign_found t s at bs (after_white bs) refl (bare_after bs) (white_shorter bs low) (subst Tells (white_skipped t (in_word s [] at) bs (named_keeps s at) low) h)

-- the rest of a word
record Behind (t : ℕ) (s : Setting) (at : ℕ) (left bs : List ℕ) : Type 0 where
  behind : List ℕ
  parts : bs ≡ left ++ behind
  tells : Tells (scan_at t (in_word s [] at) behind)

word_found : (t : ℕ) (s : Setting) (at : ℕ) (left bs : List ℕ) → length bs ≤ t → Tells (scan_at t (in_word s left at) bs) → Behind t s at left bs
word_found t s at [] bs low h = record { behind = bs; parts = refl; tells = h }
word_found t s at (c ∷ left) [] low h = absurd h
word_found t s at (c ∷ left) (b ∷ bs) low h = by (b == c) refl (word_found t s at left bs (shorter b bs low))
  where
    by : (x : Bool) → (b == c) ≡ x → (Tells (scan_at t (in_word s left at) bs) → Behind t s at left bs) → Behind t s at (c ∷ left) (b ∷ bs)
    by true e later =
        let k = later (subst Tells (step_with t (in_word s (c ∷ left) at) (more (in_word s left at)) b bs low (cond-true (b == c) _ _ e)) h) in
        record { behind = k.behind; parts = ap (λ z. z ∷ bs) (eqb-true b c e) ∙ ap (λ w. c ∷ w) k.parts; tells = k.tells }
    by false e later = absurd (subst Tells (step_with t (in_word s (c ∷ left) at) undeclared b bs low (cond-false (b == c) _ _ e)) h)

-- a word that may follow
some_same : {s u : Setting} → Some s ≡ Some u → s ≡ u
some_same e = cc

follows_first : (set : Option Setting) (c : ℕ) (s : Setting) → setting_behind set c ≡ Some s → (c ≡ head_of (word_of s)) × Follows set s
follows_first None c s e = by (c == 0x76) refl e
  where
    by : (x : Bool) → (c == 0x76) ≡ x → cond x (Some of_version) None ≡ Some s → (c ≡ head_of (word_of s)) × Follows None s
    by true is k = subst (λ z. (c ≡ head_of (word_of z)) × Follows None z) (some_same k) (eqb-true c 0x76 is, refl)
    by false is k = absurd (cc)
follows_first (Some of_version) c s e = by (c == 0x65) (c == 0x73) refl refl e
  where
    by : (x y : Bool) → (c == 0x65) ≡ x → (c == 0x73) ≡ y → cond x (Some of_encoding) (cond y (Some of_standalone) None) ≡ Some s
        → (c ≡ head_of (word_of s)) × Follows (Some of_version) s
    by true y is k m = subst (λ z. (c ≡ head_of (word_of z)) × Follows (Some of_version) z) (some_same m) (eqb-true c 0x65 is, refl)
    by false true is k m = subst (λ z. (c ≡ head_of (word_of z)) × Follows (Some of_version) z) (some_same m) (eqb-true c 0x73 k, refl)
    by false false is k m = absurd (cc)
follows_first (Some of_encoding) c s e = by (c == 0x73) refl e
  where
    by : (x : Bool) → (c == 0x73) ≡ x → cond x (Some of_standalone) None ≡ Some s → (c ≡ head_of (word_of s)) × Follows (Some of_encoding) s
    by true is k = subst (λ z. (c ≡ head_of (word_of z)) × Follows (Some of_encoding) z) (some_same k) (eqb-true c 0x73 is, refl)
    by false is k = absurd (cc)
follows_first (Some of_standalone) c s e = absurd (cc)

word_split : (s : Setting) → word_of s ≡ head_of (word_of s) ∷ without_first (word_of s)
word_split of_version = refl
word_split of_encoding = refl
word_split of_standalone = refl

-- what stands where so much is set: the end, or a setting that may follow
data Found (set : Option Setting) (bs : List ℕ) : Type 0 where
  ends : (s : Setting) (rest : List ℕ) → set ≡ Some s → after_white bs ≡ codes "?>" ++ rest → Found set bs
  sets : (s : Setting) (value after : List ℕ) → Follows set s → SettingAt (word_of s) bs value after → Found set bs

end_found : (t : ℕ) (bs : List ℕ) → length bs ≤ t → Tells (scan_at t at_end bs) → (rest : List ℕ) × (bs ≡ 0x3E ∷ rest)
end_found t [] low h = absurd h
end_found t (b ∷ bs) low h = by (b == 0x3E) refl
  where
    by : (x : Bool) → (b == 0x3E) ≡ x → (rest : List ℕ) × (b ∷ bs ≡ 0x3E ∷ rest)
    by true e = (bs, ap (λ z. z ∷ bs) (eqb-true b 0x3E e))
    by false e = absurd (subst Tells (step_with t at_end undeclared b bs low (cond-false (b == 0x3E) _ _ e)) h)

-- at a question mark
question_found : (t : ℕ) (set : Option Setting) (w : Bool) (bs cs : List ℕ) (b : ℕ) → after_white bs ≡ b ∷ cs → is_white b ≡ false → (b == 0x3F) ≡ true → length (b ∷ cs) ≤ t
    → Tells (scan_at t (between set w) (b ∷ cs)) → Found set bs
question_found t None w bs cs b is bare e low h =
    absurd (subst Tells (step_with t (between None w) undeclared b cs low (cond-false (is_white b) _ _ bare ∙ cond-true (b == 0x3F) _ _ e)) h)
question_found t (Some s) w bs cs b is bare e low h =
    let (rest, k) = end_found t cs (shorter b cs low) (subst Tells (step_with t (between (Some s) w) (more at_end) b cs low (cond-false (is_white b) _ _ bare ∙ cond-true (b == 0x3F) _ _ e)) h) in
    ends s rest refl (is ∙ (ap (λ z. z ∷ cs) (eqb-true b 0x3F e) ∙ ap (λ w. 0x3F ∷ w) k))

word_there : (t : ℕ) (set : Option Setting) (bs cs : List ℕ) (b : ℕ) → BeginsWithWhite bs → after_white bs ≡ b ∷ cs → length (b ∷ cs) ≤ t
    → (o : Option Setting) → setting_behind set b ≡ o → Tells (declaration_on (begun_word o (place_of t (b ∷ cs))) (λ j. scan_at t j cs) cs) → Found set bs
word_there t set bs cs b white is low None e h = absurd h
word_there t set bs cs b white is low (Some s) e h =
    let k = word_found t s (place_of t (b ∷ cs)) (without_first (word_of s)) cs (shorter b cs low) h in
    let short : length k.behind ≤ t = omega (arith, low, ap length k.parts, length-append (without_first (word_of s)) k.behind) in
    let (value, after, a) = assigned_found t s (place_of t (b ∷ cs)) k.behind short k.tells in
    let f = follows_first set b s e in
    sets s value after f.1 (record {
      behind = k.behind;
      start = a.start;
      white = white;
      names = is ∙ (ap (λ z. z ∷ cs) f.0 ∙ (ap (λ w. head_of (word_of s) ∷ w) k.parts ∙ ap (λ w. w ++ k.behind) (sym (word_split s))));
      equals = a.sign;
      literal = a.literal;
    })

bare_found : (t : ℕ) (set : Option Setting) (bs cs : List ℕ) → BeginsWithWhite bs → after_white bs ≡ cs → IsBare cs → length cs ≤ t → Tells (scan_at t (between set true) cs) → Found set bs
bare_found t set bs [] white is bare low h = absurd h
bare_found t set bs (b ∷ cs) white is bare low h = by (b == 0x3F) refl
  where
    by : (x : Bool) → (b == 0x3F) ≡ x → Found set bs
    by true e = question_found t set true bs cs b is bare e low h
    by false e =
        word_there t set bs cs b white is low (setting_behind set b) refl
        (subst Tells (step_with t (between set true) (begun_word (setting_behind set b) (place_of t (b ∷ cs))) b cs low (cond-false (is_white b) _ _ bare ∙ cond-false (b == 0x3F) _ _ e)) h)

found : (t : ℕ) (set : Option Setting) (bs : List ℕ) → length bs ≤ t → Tells (scan_at t (between set false) bs) → Found set bs
found t set [] low h = absurd h
found t set (b ∷ bs) low h = by (is_white b) refl
  where
    by : (x : Bool) → is_white b ≡ x → Found set (b ∷ bs)
    by true e =
        let same = step_with t (between set false) (more (between set true)) b bs low (cond-true (is_white b) _ _ e)
        ∙ white_skipped t (between set true) bs (between_keeps set) (shorter b bs low) in
        bare_found t set (b ∷ bs) (after_white bs) (white_begins b bs e) (white_more b bs e) (bare_after bs) (white_shorter bs (shorter b bs low)) (subst Tells same h)
    by false e = which (b == 0x3F) refl
      where
        which : (y : Bool) → (b == 0x3F) ≡ y → Found set (b ∷ bs)
        which true k = question_found t set false (b ∷ bs) bs b (white_none b bs e) e k low h
        which false k =
            absurd (subst Tells (step_with t (between set false) undeclared b bs low (cond-false (is_white b) _ _ e ∙ cond-false (b == 0x3F) _ _ k)) h)

-- what the scan tells of bytes behind `<?xml`
pub data Told (t : ℕ) (bs : List ℕ) : DeclarationScan → Type 0 where
  is_declared : {rest : List ℕ} → IsDeclared bs rest → Told t bs (declared rest)
  is_refused : {why : Why} {at : List ℕ} → DeclarationRefuses (codes "<?xml" ++ bs) why at → Told t bs (refuses why (place_of t at))
  goes_on : {k : Declaring} → Told t bs (declaring k)
  is_none : Told t bs no_declaration

-- what a scan tells, if anything
by_tells : (t : ℕ) (bs : List ℕ) (x : DeclarationScan) → (Tells x → Told t bs x) → Told t bs x
by_tells t bs (declared r) h = h tt
by_tells t bs (declaring k) h = goes_on
by_tells t bs (refuses why at) h = h tt
by_tells t bs no_declaration h = is_none

-- behind a standalone declaration
after_standalone : (t : ℕ) (past : List ℕ) → length past ≤ t → Tells (scan_at t (between (Some of_standalone) false) past) → (rest : List ℕ) × (after_white past ≡ codes "?>" ++ rest)
after_standalone t past low h = by (found t (Some of_standalone) past low h)
  where
    by : Found (Some of_standalone) past → (rest : List ℕ) × (after_white past ≡ codes "?>" ++ rest)
    by (ends s rest e k) = (rest, k)
    by (sets s value after f a) = absurd (cc)

yes_or_no : (value : List ℕ) → is_yes_or_no value ≡ true → (value ≡ codes "yes") ⊎ (value ≡ codes "no")
yes_or_no value h = by (bytes_eq value (codes "yes")) (bytes_eq value (codes "no")) refl refl h
  where
    by : (x y : Bool) → bytes_eq value (codes "yes") ≡ x → bytes_eq value (codes "no") ≡ y → (x || y) ≡ true → (value ≡ codes "yes") ⊎ (value ≡ codes "no")
    by true y e k h = inl ((bytes_decides value (codes "yes")).0 e)
    by false true e k h = inr ((bytes_decides value (codes "no")).0 k)
    by false false e k h = absurd (true≢false (sym h))

-- a standalone declaration or none, and the end
record Standing (cs : List ℕ) : Type 0 where
  past : List ℕ
  rest : List ℕ
  standalone : StandaloneAt cs past
  end : after_white past ≡ codes "?>" ++ rest

standalone_there : (t : ℕ) (s : Setting) (cs value after : List ℕ) → Follows (Some s) of_standalone → SettingAt (codes "standalone") cs value after → length cs ≤ t
    → Tells (scan_at t (between (Some s) false) cs) → Standing cs
standalone_there t s cs value after f a low h = by (is_yes_or_no value) refl
  where
    there : Tells (declaration_on (valued of_standalone (place_of t (after_white cs)) value) (λ j. scan_at t j after) after)
    there = subst Tells (setting_past t (Some s) of_standalone false cs value after f a low) h

    by : (x : Bool) → is_yes_or_no value ≡ x → Standing cs
    by true e =
        let on = subst (λ d. Tells (declaration_on d (λ j. scan_at t j after) after)) (cond-true (is_yes_or_no value) _ _ e) there in
        let (rest, k) = after_standalone t after (omega (arith, low, setting_short a)) on in
        record { past = after; rest = rest; standalone = standalone a (yes_or_no value e); end = k }
    by false e = absurd (subst (λ d. Tells (declaration_on d (λ j. scan_at t j after) after)) (cond-false (is_yes_or_no value) _ _ e) there)

no_word_at_end : (c : ℕ) (word cs rest : List ℕ) → (c ≡ 0x3F → ⊥) → after_white cs ≡ codes "?>" ++ rest → LacksWord (c ∷ word) cs
no_word_at_end c word cs rest n e = λ r k. n (same_first (sym k ∙ e))

standing_found : (t : ℕ) (s : Setting) (cs : List ℕ) → Follows (Some s) of_standalone → (Follows (Some s) of_encoding → ⊥) → length cs ≤ t
    → Tells (scan_at t (between (Some s) false) cs) → Standing cs
standing_found t s cs f n low h = by (found t (Some s) cs low h)
  where
    by : Found (Some s) cs → Standing cs
    by (ends z rest e k) = record { past = cs; rest = rest; standalone = no_standalone (no_word_at_end 0x73 (codes "tandalone") cs rest (λ i. omega (arith, i)) k); end = k }
    by (sets of_version value after g a) = absurd (none s g)
      where
        none : (s : Setting) → Follows (Some s) of_version → ⊥
        none of_version g = cc
        none of_encoding g = cc
        none of_standalone g = cc
    by (sets of_encoding value after g a) = absurd (n g)
    by (sets of_standalone value after g a) = standalone_there t s cs value after f a low h

-- what stands behind the version
data BehindVersion (cs : List ℕ) : Type 0 where
  reads : {past : List ℕ} → EncodingAt cs past → Standing past → BehindVersion cs
  is_unread : {value after : List ℕ} → SettingAt (codes "encoding") cs value after → (IsReadEncoding value → ⊥) → BehindVersion cs

encoding_there : (t : ℕ) (cs value after : List ℕ) → SettingAt (codes "encoding") cs value after → length cs ≤ t → Tells (scan_at t (between (Some of_version) false) cs) → BehindVersion cs
encoding_there t cs value after a low h = by (is_read_encoding value) refl
  where
    there : Tells (declaration_on (valued of_encoding (place_of t (after_white cs)) value) (λ j. scan_at t j after) after)
    there = subst Tells (setting_past t (Some of_version) of_encoding false cs value after refl a low) h

    no_second : Follows (Some of_encoding) of_encoding → ⊥
    no_second g = cc

    by : (x : Bool) → is_read_encoding value ≡ x → BehindVersion cs
    by true e =
        let on = subst (λ d. Tells (declaration_on d (λ j. scan_at t j after) after)) (cond-true (is_read_encoding value) _ _ e) there in
        reads (encoding a e) (standing_found t of_encoding after refl no_second (omega (arith, low, setting_short a)) on)
    by false e = is_unread a (λ k. true≢false (sym k ∙ e))

version_found : (t : ℕ) (cs : List ℕ) → length cs ≤ t → Tells (scan_at t (between (Some of_version) false) cs) → BehindVersion cs
version_found t cs low h = by (found t (Some of_version) cs low h)
  where
    no_second : Follows (Some of_version) of_version → ⊥
    no_second g = cc

    by : Found (Some of_version) cs → BehindVersion cs
    by (ends z rest e k) =
        reads (no_encoding (no_word_at_end 0x65 (codes "ncoding") cs rest (λ i. omega (arith, i)) k))
        (record { past = cs; rest = rest; standalone = no_standalone (no_word_at_end 0x73 (codes "tandalone") cs rest (λ i. omega (arith, i)) k); end = k })
    by (sets of_version value after g a) = absurd (no_second g)
    by (sets of_encoding value after g a) = encoding_there t cs value after a low h
    by (sets of_standalone value after g a) =
        reads (no_encoding (λ r k. omega (arith, same_first (sym k ∙ a.names)))) (standalone_there t of_version cs value after refl a low h)

version_value : (t : ℕ) (bs value after : List ℕ) → SettingAt (codes "version") bs value after → length bs ≤ t → Tells (scan_at t (between None false) bs) → Told t bs (scan_at t (between None false) bs)
version_value t bs value after a low h = by (bytes_eq value (codes "1.0")) refl
  where
    there : Tells (declaration_on (valued of_version (place_of t (after_white bs)) value) (λ j. scan_at t j after) after)
    there = subst Tells (setting_past t None of_version false bs value after refl a low) h

    behind : SettingAt (codes "version") bs (codes "1.0") after → BehindVersion after → Told t bs (scan_at t (between None false) bs)
    behind v (reads {past = past} e k) =
        let d : IsDeclared bs k.rest = record { past_version = after; past_encoding = past; past_standalone = k.past; version = v; encoding = e; standalone = k.standalone; end = k.end } in
        subst (Told t bs) (sym (declared_scanned t bs k.rest d low)) (is_declared d)
    behind v (is_unread b n) =
        let d : DeclarationRefuses (codes "<?xml" ++ bs) Encoding (after_white after) = f.encoding refl v b n in
        subst (Told t bs) (sym (refused_scanned t bs (after_white after) Encoding d low)) (is_refused d)

    by : (x : Bool) → bytes_eq value (codes "1.0") ≡ x → Told t bs (scan_at t (between None false) bs)
    by true e =
        let on = subst (λ d. Tells (declaration_on d (λ j. scan_at t j after) after)) (cond-true (bytes_eq value (codes "1.0")) _ _ e) there in
        behind (subst (λ v. SettingAt (codes "version") bs v after) ((bytes_decides value (codes "1.0")).0 e) a) (version_found t after (omega (arith, low, setting_short a)) on)
    by false e =
        let d : DeclarationRefuses (codes "<?xml" ++ bs) XmlVersion (after_white bs) = version refl a (λ k. true≢false (sym ((bytes_decides value (codes "1.0")).1 k) ∙ e)) in
        subst (Told t bs) (sym (refused_scanned t bs (after_white bs) XmlVersion d low)) (is_refused d)

pub told : (t : ℕ) (bs : List ℕ) → length bs ≤ t → Told t bs (scan_at t (between None false) bs)
told t bs low = by_tells t bs (scan_at t (between None false) bs) (λ h. by h (found t None bs low h))
  where
    first_is_version : (s : Setting) → Follows None s → s ≡ of_version
    first_is_version of_version g = refl
    first_is_version of_encoding g = absurd (cc)
    first_is_version of_standalone g = absurd (cc)

    by : Tells (scan_at t (between None false) bs) → Found None bs → Told t bs (scan_at t (between None false) bs)
    by h (ends s rest e k) = absurd (cc)
    by h (sets s value after g a) = version_value t bs value after (subst (λ z. SettingAt (word_of z) bs value after) (first_is_version s g) a) low h
