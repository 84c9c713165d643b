-- The names, comments and processing instructions at the front of any bytes, and their characters.
use Rattle.std.proofs.Common.{◌≡◌, ◌⊎◌, inl, inr, ℕ, zero, suc, ◌<◌, ◌≤◌, ◌&&◌, Bool, true, false, cond, List, [], ◌∷◌, ◌++◌, refl, ap, ◌∙◌, sym, subst, length, take, drop, arith, codes, take-append-drop, length-append, append_assoc, leb, ltb, IsFalse}
use Rattle.std.specs.Prelude.{encode_utf8, encode_utf8_all}
use Rattle.std.specs.List.{list_all}
use Rattle.std.specs.Str.{str_eq_ignore_ascii_case}
use Rattle.std.proofs.Math.Seq.{take-append_seam}
use Rattle.std.proofs.lemmas.Bool.{false≢true, cases_lt, and_parts, and_from, ltb-true}
use Rattle.std.proofs.lemmas.Str.{encode_same, length-encode, len_utf8_bounds}
use Rattle.tc_base.specs.Characters.{is_char}
use Rattle.tc_model.specs.Names.{IsChars, is_ncname_start, is_ncname_char}
use Rattle.tc_model.specs.XmlTextBytes.{FrontOf, BeginsWithWhite, after_white, UpTo}
use Rattle.tc_model.specs.XmlTextMisc as m
use Rattle.tc_model.specs.XmlTextMisc.{CommentAt, InstructionAt, IsNoMisc, MiscAt}
use Rattle.tc_model.specs.XmlTextNames.{NcNameAt}
use Rattle.tc_model.proofs.XmlTextChars.{char_scalar, name_chars}
use Rattle.tc_model.proofs.XmlTextPhrases.{ncname_unique, up_to_unique, comment_unique, instruction_unique, comment_no_instruction, start_is_char}
use Rattle.tc_dtd.specs.Outcomes.{Outcome, read, Past, past}
use Rattle.tc_dtd.proofs.DecidingPhrases.{Decided, Known, bytes_are, begins, begins_with, same_after, some_white, up_to}
use Rattle.tc_dtd.proofs.ReaderLaws.{misc_shorter}

-- a number below another one has this, or none has
exists_below : (P : ℕ → Type 0) → ((c : ℕ) → Decided (P c)) → (n : ℕ) → ((c : ℕ) × P c) ⊎ ((c : ℕ) → c < n → P c → ⊥)
exists_below P decide zero = inr (λ c h p. omega (arith, h))
exists_below P decide (suc n) = by (decide n) (exists_below P decide n)
  where
    by : Decided (P n) → ((c : ℕ) × P c) ⊎ ((c : ℕ) → c < n → P c → ⊥) → ((c : ℕ) × P c) ⊎ ((c : ℕ) → c < suc n → P c → ⊥)
    by (inl p) k = inl (n, p)
    by (inr h) (inl x) = inl x
    by (inr h) (inr k) = inr (λ c l p. at c l p (cases_lt c n))
      where
        at : (c : ℕ) → c < suc n → P c → (c < n) ⊎ (n ≤ c) → ⊥
        at c l p (inl below) = k c below p
        at c l p (inr above) = let same : c ≡ n = omega (arith, l, above) in h (subst P same p)

begins_with_char : (bs : List ℕ) (c : ℕ) → Decided ((r : List ℕ) × (bs ≡ encode_utf8 c ++ r))
begins_with_char bs c = by (bytes_are (take (length (encode_utf8 c)) bs) (encode_utf8 c))
  where
    by : Decided (take (length (encode_utf8 c)) bs ≡ encode_utf8 c) → Decided ((r : List ℕ) × (bs ≡ encode_utf8 c ++ r))
    by (inl e) = inl (drop (length (encode_utf8 c)) bs, sym (take-append-drop (length (encode_utf8 c)) bs) ∙ ap (λ z. z ++ drop (length (encode_utf8 c)) bs) e)
    by (inr h) = inr (λ z. h (ap (take (length (encode_utf8 c))) z.1 ∙ take-append_seam (encode_utf8 c) z.0))

char_small : (c : ℕ) → is_char c ≡ true → c < 1114112
char_small c h = by (ltb c 55296) refl (char_scalar c h)
  where
    by : (x : Bool) → ltb c 55296 ≡ x → cond x true (leb 57344 c && ltb c 1114112) ≡ true → c < 1114112
    by true e k = omega (arith, ltb-true c 55296 e)
    by false e k = ltb-true c 1114112 (and_parts (leb 57344 c) (ltb c 1114112) k).1

-- the first character has this, or none stands there that has
abbrev FirstIs : (ℕ → Bool) → List ℕ → Type 0
FirstIs p bs = (c : ℕ) × (((r : List ℕ) × (bs ≡ encode_utf8 c ++ r)) × (p c ≡ true))

bool_is : (b : Bool) → Decided (b ≡ true)
bool_is true = inl refl
bool_is false = inr false≢true

first_is : (p : ℕ → Bool) → ((c : ℕ) → p c ≡ true → is_char c ≡ true) → (bs : List ℕ) → FirstIs p bs ⊎ ((c : ℕ) (r : List ℕ) → bs ≡ encode_utf8 c ++ r → p c ≡ true → ⊥)
first_is p small bs = elim (exists_below (λ c. ((r : List ℕ) × (bs ≡ encode_utf8 c ++ r)) × (p c ≡ true)) (λ c. both c (begins_with_char bs c) (bool_is (p c))) 1114112) [
  | inl x ↦ inl x
  | inr h ↦ inr (λ c r e k. h c (char_small c (small c k)) ((r, e), k))
]
  where
    both : (c : ℕ) → Decided ((r : List ℕ) × (bs ≡ encode_utf8 c ++ r)) → Decided (p c ≡ true) → Decided (((r : List ℕ) × (bs ≡ encode_utf8 c ++ r)) × (p c ≡ true))
    both c (inl x) (inl y) = inl (x, y)
    both c (inl x) (inr h) = inr (λ z. h z.1)
    both c (inr h) y = inr (λ z. h z.0)

behind_char_shorter : {bs : List ℕ} (c : ℕ) (r : List ℕ) → bs ≡ encode_utf8 c ++ r → length r < length bs
behind_char_shorter c r e = omega (arith, ap length e, length-append (encode_utf8 c) r, length-encode c, len_utf8_bounds c)

-- by what is shorter
pub by_length : (P : List ℕ → Type 0) → ((bs : List ℕ) → ((cs : List ℕ) → length cs < length bs → P cs) → P bs) → (bs : List ℕ) → P bs
by_length P step bs = below (suc (length bs)) bs (omega arith)
  where
    below : (n : ℕ) (bs : List ℕ) → length bs < n → P bs
    below zero bs l = absurd (omega (arith, l))
    below (suc n) bs l = step bs (λ cs h. below n cs (omega (arith, l, h)))

-- as many characters as have it
record Run (p : ℕ → Bool) (bs : List ℕ) : Type 0 where
  run : List ℕ
  after : List ℕ
  parts : bs ≡ encode_utf8_all run ++ after
  have : list_all p run ≡ true
  longest : (c : ℕ) (r : List ℕ) → after ≡ encode_utf8 c ++ r → p c ≡ true → ⊥

run_of : (p : ℕ → Bool) → ((c : ℕ) → p c ≡ true → is_char c ≡ true) → (bs : List ℕ) → Run p bs
run_of p small = by_length (Run p) step
  where
    longer : {bs r : List ℕ} (c : ℕ) → bs ≡ encode_utf8 c ++ r → p c ≡ true → Run p r → Run p bs
    longer c e h a = record {
      run = c ∷ a.run;
      after = a.after;
      parts = e ∙ (ap (λ z. encode_utf8 c ++ z) a.parts ∙ sym (append_assoc (encode_utf8 c) (encode_utf8_all a.run) a.after));
      have = and_from (p c) (list_all p a.run) h a.have;
      longest = a.longest;
    }

    step : (bs : List ℕ) → ((cs : List ℕ) → length cs < length bs → Run p cs) → Run p bs
    step bs ih = elim (first_is p small bs) [
      | inl (c, ((r, e), h)) ↦ longer c e h (ih r (behind_char_shorter c r e))
      | inr none ↦ record { run = []; after = bs; parts = refl; have = refl; longest = none }
    ]

-- a character of names is one of texts
name_char_is : (c : ℕ) → is_ncname_char c ≡ true → is_char c ≡ true
name_char_is c h = of_name (name_chars (encode_utf8_all (0x61 ∷ c ∷ [])) (0x61, c ∷ [], refl, refl, and_from (is_ncname_char c) true h refl))
  where
    second : (xs : List ℕ) → encode_utf8_all xs ≡ encode_utf8_all (c ∷ []) → list_all is_char xs ≡ true → is_char c ≡ true
    second [] e k = absurd (omega (arith, ap length e, length-append (encode_utf8 c) [], length-encode c, len_utf8_bounds c))
    second (y ∷ ys) e k = subst (λ z. is_char z ≡ true) (encode_same y c (encode_utf8_all ys) [] e).0 (and_parts (is_char y) (list_all is_char ys) k).0

    of_name : IsChars (encode_utf8_all (0x61 ∷ c ∷ [])) → is_char c ≡ true
    of_name ([], e, k) = absurd (omega (arith, ap length e, length-append (encode_utf8 0x61) (encode_utf8_all (c ∷ [])), length-encode 0x61, len_utf8_bounds 0x61))
    of_name (x ∷ xs, e, k) = second xs (encode_same x 0x61 (encode_utf8_all xs) (encode_utf8_all (c ∷ [])) e).1 (and_parts (is_char x) (list_all is_char xs) k).1

-- the characters at the front, as many as there are
pub front_here : (bs : List ℕ) → (front : List ℕ) × FrontOf bs front
front_here bs = let a = run_of is_char (λ c h. h) bs in (encode_utf8_all a.run, record { after = a.after; parts = a.parts; characters = (a.run, refl, a.have); longest = a.longest })

abbrev pub NameHere : List ℕ → Type 0
NameHere bs = ((name : List ℕ) × ((after : List ℕ) × NcNameAt bs name after)) ⊎ ((name after : List ℕ) → NcNameAt bs name after → ⊥)

pub ncname_here : (bs : List ℕ) → NameHere bs
ncname_here bs = elim (first_is is_ncname_start (λ c h. name_char_is c (start_is_char c h)) bs) [
  | inl (c, ((r, e), h)) ↦ inl (named c e h (run_of is_ncname_char name_char_is r))
  | inr none ↦ inr (begins_none none)
]
  where
    named : (c : ℕ) {r : List ℕ} → bs ≡ encode_utf8 c ++ r → is_ncname_start c ≡ true → Run is_ncname_char r → (name : List ℕ) × ((after : List ℕ) × NcNameAt bs name after)
    named c e h a = (
      encode_utf8_all (c ∷ a.run),
      (
        a.after,
        record {
          lawful = (c, a.run, refl, h, a.have);
          parts = e ∙ (ap (λ z. encode_utf8 c ++ z) a.parts ∙ sym (append_assoc (encode_utf8 c) (encode_utf8_all a.run) a.after));
          longest = a.longest;
        },
      ),
    )

    begins_none : ((c : ℕ) (r : List ℕ) → bs ≡ encode_utf8 c ++ r → is_ncname_start c ≡ true → ⊥) → (name after : List ℕ) → NcNameAt bs name after → ⊥
    begins_none none name after a =
        let (c, cs, is, h, k) = a.lawful in
        none c (encode_utf8_all cs ++ after) (a.parts ∙ (ap (λ z. z ++ after) (sym is) ∙ append_assoc (encode_utf8 c) (encode_utf8_all cs) after)) h

-- a comment
comment_here : (bs : List ℕ) → ((after : List ℕ) × CommentAt bs after) ⊎ ((after : List ℕ) → CommentAt bs after → ⊥)
comment_here bs = elim (begins_with (codes "<!--") bs) [
  | inr h ↦ inr (λ after a. h a.rest a.opens)
  | inl (r, e) ↦ elim (up_to 0x2D (0x2D ∷ []) r) [
    | inr h ↦ inr (λ after a. h a.inside (0x3E ∷ after) (subst (λ z. UpTo (codes "--") z a.inside (0x3E ∷ after)) (same_after (codes "<!--") bs a.rest r a.opens e) a.closes))
    | inl (inside, (behind, u)) ↦ elim (begins 0x3E behind) [
      | inl (after, f) ↦ inl (after, record { rest = r; inside = inside; opens = e; closes = subst (λ z. UpTo (codes "--") r inside z) f u })
      | inr h ↦ inr (λ after a. h after (up_to_unique u (subst (λ z. UpTo (codes "--") z a.inside (0x3E ∷ after)) (same_after (codes "<!--") bs a.rest r a.opens e) a.closes)).1)
    ]
  ]
]

bool_not : (b : Bool) → Decided (b ≡ false)
bool_not true = inr (λ e. false≢true (sym e))
bool_not false = inl refl

apart_here : (inside behind : List ℕ) → Decided ((inside ≡ []) ⊎ BeginsWithWhite behind)
apart_here inside behind = elim (bytes_are inside []) [
  | inl e ↦ inl (inl e)
  | inr h ↦ elim (some_white behind) [ inl w ↦ inl (inr w) | inr k ↦ inr (λ z. elim z [ inl e ↦ h e | inr w ↦ k w ]) ]
]

-- a processing instruction
instruction_here : (bs : List ℕ) → ((after : List ℕ) × InstructionAt bs after) ⊎ ((after : List ℕ) → InstructionAt bs after → ⊥)
instruction_here bs = elim (begins_with (codes "<?") bs) [
  | inr h ↦ inr (λ after a. h a.rest a.opens)
  | inl (r, e) ↦ elim (ncname_here r) [
    | inr h ↦ inr (λ after a. h a.target a.behind (its_name r e a))
    | inl (target, (behind, n)) ↦ elim (bool_not (str_eq_ignore_ascii_case target (codes "xml"))) [
      | inr h ↦ inr (λ after a. h (subst (λ w. IsFalse (str_eq_ignore_ascii_case w (codes "xml"))) (ncname_unique (its_name r e a) n).0 a.not_xml))
      | inl x ↦ elim (up_to 0x3F (0x3E ∷ []) behind) [
        | inr h ↦ inr (λ after a. h a.inside after (its_end r e a n))
        | inl (inside, (after, u)) ↦ elim (apart_here inside behind) [
          | inl y ↦ inl (after, record { rest = r; target = target; behind = behind; inside = inside; opens = e; names = n; not_xml = x; apart = y; closes = u })
          | inr h ↦ inr (λ s a. h (its_space r e a n u))
        ]
      ]
    ]
  ]
]
  where
    its_name : (r : List ℕ) → bs ≡ codes "<?" ++ r → {after : List ℕ} (a : InstructionAt bs after) → NcNameAt r a.target a.behind
    its_name r e a = subst (λ z. NcNameAt z a.target a.behind) (same_after (codes "<?") bs a.rest r a.opens e) a.names

    its_end : (r : List ℕ) → bs ≡ codes "<?" ++ r → {after target behind : List ℕ} (a : InstructionAt bs after) → NcNameAt r target behind → UpTo (codes "?>") behind a.inside after
    its_end r e {after} a n = subst (λ z. UpTo (codes "?>") z a.inside after) (ncname_unique (its_name r e a) n).1 a.closes

    its_space : (r : List ℕ) → bs ≡ codes "<?" ++ r → {s target behind inside after : List ℕ} (a : InstructionAt bs s) → NcNameAt r target behind → UpTo (codes "?>") behind inside after
        → (inside ≡ []) ⊎ BeginsWithWhite behind
    its_space r e {behind = behind} a n u =
        let same = up_to_unique (its_end r e a n) u in
        elim a.apart [ inl i ↦ inl (sym same.0 ∙ i) | inr w ↦ inr (subst BeginsWithWhite (ncname_unique (its_name r e a) n).1 w) ]

-- misc
pub misc_here : (bs : List ℕ) → ((after : List ℕ) × MiscAt bs after) ⊎ ((after : List ℕ) → MiscAt bs after → ⊥)
misc_here = by_length (λ bs. ((after : List ℕ) × MiscAt bs after) ⊎ ((after : List ℕ) → MiscAt bs after → ⊥)) step
  where
    past_comment : (bs r : List ℕ) → CommentAt (after_white bs) r → ((after : List ℕ) × MiscAt r after) ⊎ ((after : List ℕ) → MiscAt r after → ⊥) → ((after : List ℕ) × MiscAt bs after) ⊎ ((after : List ℕ) → MiscAt bs after → ⊥)
    past_comment bs r c (inl (after, a)) = inl (after, m.comment c a)
    past_comment bs r c (inr h) = inr none
      where
        none : (after : List ℕ) → MiscAt bs after → ⊥
        none after (m.no_more n) = n.0 c.rest c.opens
        none after (m.comment d a) = h after (subst (λ z. MiscAt z after) (comment_unique d c) a)
        none after (m.instruction d a) = comment_no_instruction c d

    past_instruction : (bs r : List ℕ) → InstructionAt (after_white bs) r → ((after : List ℕ) × MiscAt r after) ⊎ ((after : List ℕ) → MiscAt r after → ⊥) → ((after : List ℕ) × MiscAt bs after) ⊎ ((after : List ℕ) → MiscAt bs after → ⊥)
    past_instruction bs r c (inl (after, a)) = inl (after, m.instruction c a)
    past_instruction bs r c (inr h) = inr none
      where
        none : (after : List ℕ) → MiscAt bs after → ⊥
        none after (m.no_more n) = n.1 c.rest c.opens
        none after (m.comment d a) = comment_no_instruction d c
        none after (m.instruction d a) = h after (subst (λ z. MiscAt z after) (instruction_unique d c) a)

    neither : (bs : List ℕ) → ((after : List ℕ) → CommentAt (after_white bs) after → ⊥) → ((after : List ℕ) → InstructionAt (after_white bs) after → ⊥) → (IsNoMisc (after_white bs) → ⊥) → (after : List ℕ) → MiscAt bs after → ⊥
    neither bs h k n after (m.no_more i) = n i
    neither bs h k n after (m.comment {rest = r} c a) = h r c
    neither bs h k n after (m.instruction {rest = r} c a) = k r c

    no_misc : (bs : List ℕ) → Decided (IsNoMisc bs)
    no_misc bs = elim (begins_with (codes "<!--") bs) [
      | inl (r, e) ↦ inr (λ n. n.0 r e)
      | inr h ↦ elim (begins_with (codes "<?") bs) [ inl (r, e) ↦ inr (λ n. n.1 r e) | inr k ↦ inl (h, k) ]
    ]

    step : (bs : List ℕ) → ((cs : List ℕ) → length cs < length bs → ((after : List ℕ) × MiscAt cs after) ⊎ ((after : List ℕ) → MiscAt cs after → ⊥)) → ((after : List ℕ) × MiscAt bs after) ⊎ ((after : List ℕ) → MiscAt bs after → ⊥)
    step bs ih = elim (comment_here (after_white bs)) [
      | inl (r, c) ↦ past_comment bs r c (ih r (misc_shorter bs r (after_white bs) refl (inl c)))
      | inr h ↦ elim (instruction_here (after_white bs)) [
        | inl (r, c) ↦ past_instruction bs r c (ih r (misc_shorter bs r (after_white bs) refl (inr c)))
        | inr k ↦ elim (no_misc (after_white bs)) [ inl n ↦ inl (after_white bs, m.no_more n) | inr n ↦ inr (neither bs h k n) ]
      ]
    ]

pub past_misc_here : (bs : List ℕ) → Known (Past MiscAt bs)
past_misc_here bs = elim (misc_here bs) [ inl (after, a) ↦ inl (read tt after, past a) | inr h ↦ inr (λ o a. none h o a) ]
  where
    none : ((after : List ℕ) → MiscAt bs after → ⊥) → (o : Outcome (Unit {0})) → Past MiscAt bs o → ⊥
    none h o (past {after = r} a) = h r a
