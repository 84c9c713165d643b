-- Words in a schema's place, by what stands in them.
use Rattle.std.proofs.Common.{◌≡◌, ◌↔◌, ◌+◌, ◌∷◌, ◌++◌, [], ◌∙◌, ◌==◌, refl, sym, ap, subst, ℕ, Bool, true, false, List, length, Option, Some, None, arith, take, drop, append-nil, eq-eqb, not}
use Rattle.std.specs.Prelude.{◌≢◌, IsTrue, IfSome, unwrap_or, if◌then◌else◌}
use Rattle.std.specs.Option.{option_map}
use Rattle.std.specs.List.{before_first, after_first, position_or_len}
use Rattle.std.proofs.lemmas.Bool.{eqb-true, true≢false}
use Rattle.std.proofs.lemmas.List.{take_all, drop_all, nil_from_length}
use Rattle.tc_model.specs.Names.{IsNcName}
use Rattle.tc_model.specs.XmlTextNames.{NcNameAt}
use Rattle.tc_model.proofs.XmlTextPhrases.{ncname_unique}
use Rattle.tc_scan.proofs.NamesLaws.{ended_by_end}
use Rattle.tc_answer.specs.SchemaWords.{behind_mark, behind_dtd, is_colon, IsSchemaWord}

-- a word that begins with the mark
pub behind_is : (mark word rest : List ℕ) → word ≡ mark ++ rest → behind_mark mark word ≡ Some rest
behind_is [] word rest e = ap Some e
behind_is (m ∷ ms) [] rest e = absurd (cc)
behind_is (m ∷ ms) (c ∷ cs) rest e = let first : m ≡ c = cc in by (m == c) (eq-eqb m c first) (behind_is ms cs rest (cc))
  where
    by : (b : Bool) → b ≡ true → behind_mark ms cs ≡ Some rest → (if b then behind_mark ms cs else None) ≡ Some rest
    by true t h = h
    by false t h = absurd (true≢false (sym t))

-- a word that doesn't
pub behind_none : (mark word : List ℕ) → ((rest : List ℕ) → word ≡ mark ++ rest → ⊥) → behind_mark mark word ≡ None
behind_none [] word n = absurd (n word refl)
behind_none (m ∷ ms) [] n = refl
behind_none (m ∷ ms) (c ∷ cs) n = by (m == c) refl (λ k. behind_none ms cs k)
  where
    by : (b : Bool) → (m == c) ≡ b → (((rest : List ℕ) → cs ≡ ms ++ rest → ⊥) → behind_mark ms cs ≡ None) → (if b then behind_mark ms cs else None) ≡ None
    by true t h = h (λ rest e. n rest (ap (λ x. x ∷ cs) (sym (eqb-true m c t)) ∙ ap (λ xs. m ∷ xs) e))
    by false t h = refl

-- what has no colon stands before the first one, and nothing behind it
pub before_none : (text : List ℕ) → position_or_len is_colon text ≡ length text → text ≡ before_first is_colon text
before_none text e = sym (ap (λ n. take n text) e ∙ take_all (length text) text (omega arith))

pub after_none : (text : List ℕ) → position_or_len is_colon text ≡ length text → [] ≡ after_first is_colon text
after_none text e = sym (ap (λ n. drop (n + 1) text) e ∙ drop_all (length text + 1) text (omega arith))

-- the whole of a text is an NCName exactly where one at its front goes to the end
pub whole_name : (text name rest : List ℕ) → NcNameAt text name rest → rest ≡ [] → IsNcName text
whole_name text name rest at e = subst IsNcName (sym (at.parts ∙ (ap (λ w. name ++ w) e ∙ append-nil name))) at.lawful

name_at : (text : List ℕ) → IsNcName text → NcNameAt text text []
name_at text h = record { lawful = h; parts = sym (append-nil text); longest = ended_by_end [] refl }

pub goes_to_end : (text name rest : List ℕ) → NcNameAt text name rest → IsNcName text → rest ≡ []
goes_to_end text name rest at h = (ncname_unique at (name_at text h)).1

pub no_whole_name : (text : List ℕ) → ((name rest : List ℕ) → NcNameAt text name rest → ⊥) → IsNcName text → ⊥
no_whole_name text n h = n text [] (name_at text h)

pub is_whole : (text name rest : List ℕ) (b : Bool) → NcNameAt text name rest → b ≡ (length rest == 0) → IsTrue b ↔ IsNcName text
is_whole text name rest b at e = (
  (λ t. whole_name text name rest at (nil_from_length rest (eqb-true (length rest) 0 (sym e ∙ t)))),
  (λ h. e ∙ ap (λ r. length r == 0) (goes_to_end text name rest at h)),
)

pub is_none : (text : List ℕ) → ((name rest : List ℕ) → NcNameAt text name rest → ⊥) → IsTrue false ↔ IsNcName text
is_none text n = ((λ t. absurd (true≢false (sym t))), (λ h. absurd (no_whole_name text n h)))

-- a word that begins with `dtd:` may stand in a schema's place exactly where its parts are a name and a file
abbrev IsLawful : List ℕ → Option (List ℕ) → Type 0
IsLawful word behind = IfSome (option_map (before_first is_colon) behind) (λ root. IsNcName root × (unwrap_or (option_map (after_first is_colon) behind) word ≢ []))

pub lawful_parts : (word rest root file : List ℕ) → behind_dtd word ≡ Some rest → root ≡ before_first is_colon rest → file ≡ after_first is_colon rest → (IsNcName root × (file ≢ [])) ↔ IsSchemaWord word
lawful_parts word rest root file e p q = (
  (λ h. subst (IsLawful word) (sym e) (subst IsNcName p h.0, subst (λ w. w ≢ []) q h.1)),
  (λ h. let x : IsLawful word (Some rest) = subst (IsLawful word) e h in (subst IsNcName (sym p) x.0, subst (λ w. w ≢ []) (sym q) x.1)),
)

nonempty : (file : List ℕ) (empty : Bool) → empty ≡ (length file == 0) → (IsTrue (not empty) → file ≢ []) × ((file ≢ []) → IsTrue (not empty))
nonempty [] true e = ((λ t. absurd (true≢false (sym t))), (λ n. absurd (n refl)))
nonempty [] false e = absurd (true≢false (sym e))
nonempty (c ∷ cs) true e = absurd (grind (arith, e))
nonempty (c ∷ cs) false e = ((λ t same. absurd (cc)), (λ n. refl))

pub lawful_file : (word rest root file : List ℕ) (empty : Bool) → behind_dtd word ≡ Some rest → root ≡ before_first is_colon rest → file ≡ after_first is_colon rest → IsNcName root
    → empty ≡ (length file == 0) → IsTrue (not empty) ↔ IsSchemaWord word
lawful_file word rest root file empty e p q name is =
    let parts = lawful_parts word rest root file e p q in
    let some = nonempty file empty is in
    ((λ t. parts.0 (name, some.0 t)), (λ h. some.1 (parts.1 h).1))

pub unlawful_name : (word rest root file : List ℕ) (named : Bool) → behind_dtd word ≡ Some rest → root ≡ before_first is_colon rest → file ≡ after_first is_colon rest → IsTrue named ↔ IsNcName root → named ≡ false
    → IsTrue named ↔ IsSchemaWord word
unlawful_name word rest root file named e p q says denied = ((λ t. absurd (true≢false (sym t ∙ denied))), (λ h. says.1 ((lawful_parts word rest root file e p q).1 h).0))

-- and any other word
pub lawful_none : (word : List ℕ) → behind_dtd word ≡ None → IsTrue true ↔ IsSchemaWord word
lawful_none word e = ((λ t. subst (IsLawful word) (sym e) tt), (λ h. refl))
