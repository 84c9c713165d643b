-- The characters, comments, processing instructions and misc at the front of any bytes.
use Rattle.std.proofs.Common.{◌≡◌, ◌⊎◌, inl, inr, ℕ, ◌<◌, List, [], ◌∷◌, ◌++◌, refl, ◌∙◌, sym, subst, length, codes, IsFalse}
use Rattle.std.specs.Prelude.{encode_utf8_all}
use Rattle.std.specs.Str.{str_eq_ignore_ascii_case}
use Rattle.tc_base.specs.Characters.{is_char}
use Rattle.tc_model.specs.XmlTextBytes.{FrontOf, BeginsWithWhite, after_white, UpTo}
use Rattle.tc_model.specs.XmlTextMisc as m
use Rattle.tc_model.specs.XmlTextMisc.{CommentAt, InstructionAt, IsNoMisc, MiscAt}
use Rattle.tc_model.specs.XmlTextNames.{NcNameAt}
use Rattle.tc_model.proofs.XmlTextPhrases.{ncname_unique, up_to_unique, comment_unique, instruction_unique, comment_no_instruction}
use Rattle.tc_xml.proofs.MiscLaws.{misc_shorter}
use Rattle.tc_sheet.proofs.DecidingBytes.{Decided, bytes_are, is_false, begins, begins_with, same_after, up_to}
use Rattle.tc_sheet.proofs.DecidingNames.{run_of, by_length, ncname_here}
use Rattle.tc_read.proofs.DecidingSettings.{some_white}

-- the characters at the front, as many as there are
pub front_here : (bs : List ℕ) → (front : List ℕ) × FrontOf bs front
front_here bs = let a = run_of is_char (λ c h. h) bs in (encode_utf8_all a.run, record { after = a.after; parts = a.parts; characters = (a.run, refl, a.have); longest = a.longest })

-- a comment
pub comment_here : (bs : List ℕ) → ((after : List ℕ) × CommentAt bs after) ⊎ ((after : List ℕ) → CommentAt bs after → ⊥)
comment_here bs = elim (begins_with (codes "<!--") bs) [
  | inr h ↦ inr (λ after a. h a.rest a.opens)
  | inl (r, e) ↦ elim (up_to 0x2D (0x2D ∷ []) r) [
    | inr h ↦ inr (λ after a. h a.inside (0x3E ∷ after) (subst (λ z. UpTo (codes "--") z a.inside (0x3E ∷ after)) (same_after (codes "<!--") bs a.rest r a.opens e) a.closes))
    | inl (inside, (behind, u)) ↦ elim (begins 0x3E behind) [
      | inl (after, f) ↦ inl (after, record { rest = r; inside = inside; opens = e; closes = subst (λ z. UpTo (codes "--") r inside z) f u })
      | inr h ↦ inr (λ after a. h after (up_to_unique u (subst (λ z. UpTo (codes "--") z a.inside (0x3E ∷ after)) (same_after (codes "<!--") bs a.rest r a.opens e) a.closes)).1)
    ]
  ]
]

apart_here : (inside behind : List ℕ) → Decided ((inside ≡ []) ⊎ BeginsWithWhite behind)
apart_here inside behind = elim (bytes_are inside []) [
  | inl e ↦ inl (inl e)
  | inr h ↦ elim (some_white behind) [ inl w ↦ inl (inr w) | inr k ↦ inr (λ z. elim z [ inl e ↦ h e | inr w ↦ k w ]) ]
]

-- a processing instruction
pub instruction_here : (bs : List ℕ) → ((after : List ℕ) × InstructionAt bs after) ⊎ ((after : List ℕ) → InstructionAt bs after → ⊥)
instruction_here bs = elim (begins_with (codes "<?") bs) [
  | inr h ↦ inr (λ after a. h a.rest a.opens)
  | inl (r, e) ↦ elim (ncname_here r) [
    | inr h ↦ inr (λ after a. h a.target a.behind (its_name r e a))
    | inl (target, (behind, n)) ↦ elim (is_false (str_eq_ignore_ascii_case target (codes "xml"))) [
      | inr h ↦ inr (λ after a. h (subst (λ w. IsFalse (str_eq_ignore_ascii_case w (codes "xml"))) (ncname_unique (its_name r e a) n).0 a.not_xml))
      | inl x ↦ elim (up_to 0x3F (0x3E ∷ []) behind) [
        | inr h ↦ inr (λ after a. h a.inside after (its_end r e a n))
        | inl (inside, (after, u)) ↦ elim (apart_here inside behind) [
          | inl y ↦ inl (after, record { rest = r; target = target; behind = behind; inside = inside; opens = e; names = n; not_xml = x; apart = y; closes = u })
          | inr h ↦ inr (λ s a. h (its_space r e a n u))
        ]
      ]
    ]
  ]
]
  where
    its_name : (r : List ℕ) → bs ≡ codes "<?" ++ r → {after : List ℕ} (a : InstructionAt bs after) → NcNameAt r a.target a.behind
    its_name r e a = subst (λ z. NcNameAt z a.target a.behind) (same_after (codes "<?") bs a.rest r a.opens e) a.names

    its_end : (r : List ℕ) → bs ≡ codes "<?" ++ r → {after target behind : List ℕ} (a : InstructionAt bs after) → NcNameAt r target behind → UpTo (codes "?>") behind a.inside after
    its_end r e {after} a n = subst (λ z. UpTo (codes "?>") z a.inside after) (ncname_unique (its_name r e a) n).1 a.closes

    its_space : (r : List ℕ) → bs ≡ codes "<?" ++ r → {s target behind inside after : List ℕ} (a : InstructionAt bs s) → NcNameAt r target behind → UpTo (codes "?>") behind inside after
        → (inside ≡ []) ⊎ BeginsWithWhite behind
    its_space r e {behind = behind} a n u =
        let same = up_to_unique (its_end r e a n) u in
        elim a.apart [ inl i ↦ inl (sym same.0 ∙ i) | inr w ↦ inr (subst BeginsWithWhite (ncname_unique (its_name r e a) n).1 w) ]

-- misc
pub misc_here : (bs : List ℕ) → ((after : List ℕ) × MiscAt bs after) ⊎ ((after : List ℕ) → MiscAt bs after → ⊥)
misc_here = by_length (λ bs. ((after : List ℕ) × MiscAt bs after) ⊎ ((after : List ℕ) → MiscAt bs after → ⊥)) step
  where
    past_comment : (bs r : List ℕ) → CommentAt (after_white bs) r → ((after : List ℕ) × MiscAt r after) ⊎ ((after : List ℕ) → MiscAt r after → ⊥) → ((after : List ℕ) × MiscAt bs after) ⊎ ((after : List ℕ) → MiscAt bs after → ⊥)
    past_comment bs r c (inl (after, a)) = inl (after, m.comment c a)
    past_comment bs r c (inr h) = inr none
      where
        none : (after : List ℕ) → MiscAt bs after → ⊥
        none after (m.no_more n) = n.0 c.rest c.opens
        none after (m.comment d a) = h after (subst (λ z. MiscAt z after) (comment_unique d c) a)
        none after (m.instruction d a) = comment_no_instruction c d

    past_instruction : (bs r : List ℕ) → InstructionAt (after_white bs) r → ((after : List ℕ) × MiscAt r after) ⊎ ((after : List ℕ) → MiscAt r after → ⊥) → ((after : List ℕ) × MiscAt bs after) ⊎ ((after : List ℕ) → MiscAt bs after → ⊥)
    past_instruction bs r c (inl (after, a)) = inl (after, m.instruction c a)
    past_instruction bs r c (inr h) = inr none
      where
        none : (after : List ℕ) → MiscAt bs after → ⊥
        none after (m.no_more n) = n.1 c.rest c.opens
        none after (m.comment d a) = comment_no_instruction d c
        none after (m.instruction d a) = h after (subst (λ z. MiscAt z after) (instruction_unique d c) a)

    neither : (bs : List ℕ) → ((after : List ℕ) → CommentAt (after_white bs) after → ⊥) → ((after : List ℕ) → InstructionAt (after_white bs) after → ⊥) → (IsNoMisc (after_white bs) → ⊥) → (after : List ℕ) → MiscAt bs after → ⊥
    neither bs h k n after (m.no_more i) = n i
    neither bs h k n after (m.comment {rest = r} c a) = h r c
    neither bs h k n after (m.instruction {rest = r} c a) = k r c

    no_misc : (bs : List ℕ) → Decided (IsNoMisc bs)
    no_misc bs = elim (begins_with (codes "<!--") bs) [
      | inl (r, e) ↦ inr (λ n. n.0 r e)
      | inr h ↦ elim (begins_with (codes "<?") bs) [ inl (r, e) ↦ inr (λ n. n.1 r e) | inr k ↦ inl (h, k) ]
    ]

    step : (bs : List ℕ) → ((cs : List ℕ) → length cs < length bs → ((after : List ℕ) × MiscAt cs after) ⊎ ((after : List ℕ) → MiscAt cs after → ⊥)) → ((after : List ℕ) × MiscAt bs after) ⊎ ((after : List ℕ) → MiscAt bs after → ⊥)
    step bs ih = elim (comment_here (after_white bs)) [
      | inl (r, c) ↦ past_comment bs r c (ih r (misc_shorter bs r (after_white bs) refl (inl c)))
      | inr h ↦ elim (instruction_here (after_white bs)) [
        | inl (r, c) ↦ past_instruction bs r c (ih r (misc_shorter bs r (after_white bs) refl (inr c)))
        | inr k ↦ elim (no_misc (after_white bs)) [ inl n ↦ inl (after_white bs, m.no_more n) | inr n ↦ inr (neither bs h k n) ]
      ]
    ]
