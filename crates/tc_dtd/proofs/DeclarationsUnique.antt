-- Declarations and whole texts are read in one way; and what parentheses that stand deeper allow is read, or they stand too deep.
use Rattle.std.proofs.Common.{◌≡◌, ◌⊎◌, inl, inr, ◌+◌, ◌≤◌, ℕ, Bool, true, false, List, [], ◌∷◌, ◌++◌, refl, ap, ◌∙◌, sym, subst, arith, length, length-append, length-drop, codes}
use Rattle.std.specs.List.{prefix_len}
use Rattle.std.proofs.lemmas.List.{append_cancel_left}
use Rattle.tc_base.specs.declared.reasons.Why.TheVariants.{ParameterEntity}
use Rattle.tc_model.specs.XmlText.{after_mark}
use Rattle.tc_model.specs.XmlTextBytes.{place_of, after_white, IsQuote}
use Rattle.tc_model.specs.XmlTextMisc.{StandaloneAt, MiscAt}
use Rattle.tc_model.specs.XmlTextRefusals.{unsupported}
use Rattle.tc_model.proofs.XmlTextPhrases.{same_first, same_others, setting_unique, encoding_unique, standalone_unique, misc_unique}
use Rattle.tc_model.proofs.XmlTextRefused.{start_same, encoding_no_encoding}
use Rattle.tc_dtd.specs.Declarations.{Declaration}
use Rattle.tc_dtd.specs.Outcomes.{Outcome, read, refused, outcome_map, Then, Past}
use Rattle.tc_dtd.specs.DtdTextContents as c
use Rattle.tc_dtd.specs.DtdTextContents.{SpaceAt, NameAt, ContentAt}
use Rattle.tc_dtd.specs.DtdTextDeclarations as t
use Rattle.tc_dtd.specs.DtdTextDeclarations.{VersionAt, no_version, version, other_version, SettingsAt, settings, other_encoding, TextDeclarationAt, no_declaration, declaration, EndAt, closed, KeptAt, kept, ElementAt, passed, is_skipped, is_within, SkipsAt, literal, literal_reference, SkippedAt, attributes, notation, entity, Placed, placed, MarkupAt, section, element, skipped, DeclarationsAt, end, markup_refused, markup}
use Rattle.tc_dtd.specs.DtdText.{TextAt}
use Rattle.tc_dtd.proofs.OutcomeLaws.{read_same, read_not, left_of, left_map, IsRead, read_under, Kept, then_unique, then_left, then_kept, same_kept, past_unique, other_byte, same_behind, white_left, behind_white_left}
use Rattle.tc_dtd.proofs.ContentsUnique.{space_unique, name_unique, content_unique, name_at_left, content_left, content_kept, whole_same}

-- the XML declaration

pub version_unique : (bs : List ℕ) (o p : Outcome (Unit {0})) → VersionAt bs o → VersionAt bs p → o ≡ p
version_unique bs o p (no_version h) (no_version k) = refl
version_unique bs o p (no_version h) (version s) = absurd (h s.behind s.names)
version_unique bs o p (no_version h) (other_version s n) = absurd (h s.behind s.names)
version_unique bs o p (version s) (no_version h) = absurd (h s.behind s.names)
version_unique bs o p (version s) (version u) = ap (read tt) (setting_unique s u).1
version_unique bs o p (version s) (other_version u n) = absurd (n (setting_unique u s).0)
version_unique bs o p (other_version s n) (no_version h) = absurd (h s.behind s.names)
version_unique bs o p (other_version s n) (version u) = absurd (n (setting_unique s u).0)
version_unique bs o p (other_version s n) (other_version u m) = refl

pub settings_unique : (bs : List ℕ) (o p : Outcome (Unit {0})) → SettingsAt bs o → SettingsAt bs p → o ≡ p
settings_unique bs o p (settings {past_encoding = x} {past_standalone = y} {after = r} a b e) (settings {past_encoding = x'} {past_standalone = y'} {after = s} a' b' e') =
    let same : y ≡ y' = standalone_unique b (subst (λ z. StandaloneAt z y') (sym (encoding_unique a a')) b') in
    ap (read tt) (append_cancel_left (codes "?>") r s (sym e ∙ (ap after_white same ∙ e')))
settings_unique bs o p (settings a b e) (other_encoding s n) = absurd (encoding_no_encoding s n a)
settings_unique bs o p (other_encoding s n) (settings a b e) = absurd (encoding_no_encoding s n a)
settings_unique bs o p (other_encoding s n) (other_encoding u m) = refl

pub text_declaration_unique : (bs : List ℕ) (o p : Outcome (Unit {0})) → TextDeclarationAt bs o → TextDeclarationAt bs p → o ≡ p
text_declaration_unique bs o p (no_declaration h) (no_declaration k) = refl
text_declaration_unique bs o p (no_declaration h) (declaration {rest = r} e w a) = absurd (h r e w)
text_declaration_unique bs o p (declaration {rest = r} e w a) (no_declaration h) = absurd (h r e w)
text_declaration_unique bs o p (declaration {rest = r} e w a) (declaration {rest = s} f v b) =
    then_unique VersionAt (λ _. SettingsAt) version_unique (λ _. settings_unique) r o p a (subst (λ z. Then VersionAt (λ _. SettingsAt) z p) (sym (start_same e f)) b)

-- declarations of elements

pub end_unique : (bs : List ℕ) (o p : Outcome (Unit {0})) → EndAt bs o → EndAt bs p → o ≡ p
end_unique bs o p (closed e) (closed f) = ap (read tt) (same_behind e f)
end_unique bs o p (closed e) (t.reference f) = absurd (omega (arith, other_byte e f))
end_unique bs o p (t.reference e) (closed f) = absurd (omega (arith, other_byte e f))
end_unique bs o p (t.reference e) (t.reference f) = ap (λ z. refused (unsupported ParameterEntity) (0x25 ∷ z)) (same_behind e f)

end_left : (bs : List ℕ) (o : Outcome (Unit {0})) → EndAt bs o → left_of o ≤ length bs
end_left bs o (closed {after = r} e) = let l = behind_white_left 0x3E bs r e in omega (arith, l)
end_left bs o (t.reference {r = r} e) = let l = behind_white_left 0x25 bs r e in omega (arith, l)

pub kept_unique : (x : Declaration) (bs : List ℕ) (o p : Outcome Declaration) → KeptAt x bs o → KeptAt x bs p → o ≡ p
kept_unique x bs o p (kept {outcome = u} a e) (kept {outcome = v} b f) = e ∙ (ap (outcome_map (λ _. x)) (end_unique bs u v a b) ∙ sym f)

kept_left : (x : Declaration) (bs : List ℕ) (o : Outcome Declaration) → KeptAt x bs o → left_of o ≤ length bs
kept_left x bs o (kept {outcome = u} a e) = let k = end_left bs u a in omega (arith, k, ap left_of e, left_map (λ _. x) u)

space_left : (bs : List ℕ) (o : Outcome (Unit {0})) → SpaceAt bs o → left_of o ≤ length bs
space_left bs o (c.white w) = white_left bs
space_left bs o (c.reference e) = omega arith

abbrev pub Behind_name : ℕ → List ℕ → List ℕ → Outcome Declaration → Type 0
Behind_name deepest n = Then SpaceAt (λ _. Then (ContentAt deepest) (λ c. KeptAt (record { name = n; content = c })))

abbrev pub With_content : ℕ → List ℕ → List ℕ → Outcome Declaration → Type 0
With_content deepest n = Then (ContentAt deepest) (λ c. KeptAt (record { name = n; content = c }))

pub element_unique : (deepest : ℕ) (bs : List ℕ) (o p : Outcome Declaration) → ElementAt deepest bs o → ElementAt deepest bs p → o ≡ p
element_unique deepest =
    then_unique SpaceAt (λ _. Then NameAt (Behind_name deepest)) space_unique (λ _.
    then_unique NameAt (Behind_name deepest) name_unique (λ n.
    then_unique SpaceAt (λ _. With_content deepest n) space_unique (λ _.
    then_unique (ContentAt deepest) (λ c. KeptAt (record { name = n; content = c })) (content_unique deepest) (λ c. kept_unique (record { name = n; content = c })))))

element_left : (deepest : ℕ) (bs : List ℕ) (o : Outcome Declaration) → ElementAt deepest bs o → left_of o ≤ length bs
element_left deepest =
    then_left SpaceAt (λ _. Then NameAt (Behind_name deepest)) space_left (λ _.
    then_left NameAt (Behind_name deepest) name_at_left (λ n.
    then_left SpaceAt (λ _. With_content deepest n) space_left (λ _.
    then_left (ContentAt deepest) (λ c. KeptAt (record { name = n; content = c })) (content_left deepest) (λ c. kept_left (record { name = n; content = c })))))

element_kept : (e deepest : ℕ) (bs : List ℕ) (o : Outcome Declaration) → ElementAt deepest bs o → IsRead o → Kept (ElementAt e) bs o
element_kept e deepest =
    then_kept SpaceAt SpaceAt (λ _. Then NameAt (Behind_name deepest)) (λ _. Then NameAt (Behind_name e)) (same_kept SpaceAt) (λ _.
    then_kept NameAt NameAt (Behind_name deepest) (Behind_name e) (same_kept NameAt) (λ n.
    then_kept SpaceAt SpaceAt (λ _. With_content deepest n) (λ _. With_content e n) (same_kept SpaceAt) (λ _.
    then_kept (ContentAt deepest) (ContentAt e) (λ c. KeptAt (record { name = n; content = c })) (λ c. KeptAt (record { name = n; content = c })) (content_kept e deepest)
    (λ c. same_kept (KeptAt (record { name = n; content = c }))))))

-- declarations that are skipped

quote_not : (q b : ℕ) → IsQuote q → (b ≡ 0x3E) ⊎ (b ≡ 0x25) → q ≡ b → ⊥
quote_not q b (inl i) (inl j) e = omega (arith, i, j, e)
quote_not q b (inl i) (inr j) e = omega (arith, i, j, e)
quote_not q b (inr i) (inl j) e = omega (arith, i, j, e)
quote_not q b (inr i) (inr j) e = omega (arith, i, j, e)

-- the literal that stands at a quote
literal_at : (references : Bool) (bs r s x : List ℕ) (q p b : ℕ) → passed is_skipped bs ≡ q ∷ r → passed is_skipped bs ≡ p ∷ s → passed (is_within references p) s ≡ b ∷ x
    → passed (is_within references q) r ≡ b ∷ x
literal_at references bs r s x q p b e f g =
    subst (λ z. passed (is_within references z) r ≡ b ∷ x) (sym (other_byte e f)) (subst (λ z. passed (is_within references p) z ≡ b ∷ x) (sym (same_others (sym e ∙ f))) g)

pub skips_unique : (references : Bool) (bs : List ℕ) (o p : Outcome (Unit {0})) → SkipsAt references bs o → SkipsAt references bs p → o ≡ p
skips_unique references bs o p (t.closed e) (t.closed f) = ap (read tt) (same_behind e f)
skips_unique references bs o p (t.closed e) (t.reference f) = absurd (omega (arith, other_byte e f))
skips_unique references bs o p (t.closed e) (literal {quote = q} f i g b) = absurd (quote_not q 0x3E i (inl refl) (other_byte f e))
skips_unique references bs o p (t.closed e) (literal_reference {quote = q} f i g) = absurd (quote_not q 0x3E i (inl refl) (other_byte f e))
skips_unique references bs o p (t.reference e) (t.closed f) = absurd (omega (arith, other_byte e f))
skips_unique references bs o p (t.reference e) (t.reference f) = ap (λ z. refused (unsupported ParameterEntity) (0x25 ∷ z)) (same_behind e f)
skips_unique references bs o p (t.reference e) (literal {quote = q} f i g b) = absurd (quote_not q 0x25 i (inr refl) (other_byte f e))
skips_unique references bs o p (t.reference e) (literal_reference {quote = q} f i g) = absurd (quote_not q 0x25 i (inr refl) (other_byte f e))
skips_unique references bs o p (literal {quote = q} f i g b) (t.closed e) = absurd (quote_not q 0x3E i (inl refl) (other_byte f e))
skips_unique references bs o p (literal {quote = q} f i g b) (t.reference e) = absurd (quote_not q 0x25 i (inr refl) (other_byte f e))
skips_unique references bs o p (literal {r = r} {rest = x} {quote = q} e i g a) (literal {r = s} {rest = y} {quote = k} f j h b) =
    let there : passed (is_within references q) r ≡ q ∷ y = literal_at references bs r s y q k q e f (h ∙ ap (λ z. z ∷ y) (sym (other_byte e f))) in
    skips_unique references x o p a (subst (λ z. SkipsAt references z p) (sym (same_behind g there)) b)
skips_unique references bs o p (literal {r = r} {rest = x} {quote = q} e i g a) (literal_reference {r = s} {rest = y} {quote = k} f j h) =
    absurd (quote_not q 0x25 i (inr refl) (other_byte g (literal_at references bs r s y q k 0x25 e f h)))
skips_unique references bs o p (literal_reference {quote = q} f i g) (t.closed e) = absurd (quote_not q 0x3E i (inl refl) (other_byte f e))
skips_unique references bs o p (literal_reference {quote = q} f i g) (t.reference e) = absurd (quote_not q 0x25 i (inr refl) (other_byte f e))
skips_unique references bs o p (literal_reference {r = s} {rest = y} {quote = k} f j h) (literal {r = r} {rest = x} {quote = q} e i g a) =
    absurd (quote_not q 0x25 i (inr refl) (other_byte g (literal_at references bs r s y q k 0x25 e f h)))
skips_unique references bs o p (literal_reference {r = r} {rest = x} {quote = q} e i g) (literal_reference {r = s} {rest = y} {quote = k} f j h) =
    ap (λ z. refused (unsupported ParameterEntity) (0x25 ∷ z)) (same_behind g (literal_at references bs r s y q k 0x25 e f h))

pub passed_left : (test : ℕ → Bool) (b : ℕ) (bs r : List ℕ) → passed test bs ≡ b ∷ r → length r + 1 ≤ length bs
passed_left test b bs r e = omega (arith, ap length e, length-drop (prefix_len test bs) bs)

skips_left : (references : Bool) (bs : List ℕ) (o : Outcome (Unit {0})) → SkipsAt references bs o → left_of o ≤ length bs
skips_left references bs o (t.closed {after = r} e) = let l = passed_left is_skipped 0x3E bs r e in omega (arith, l)
skips_left references bs o (t.reference {r = r} e) = let l = passed_left is_skipped 0x25 bs r e in omega (arith, l)
skips_left references bs o (literal {r = r} {rest = x} {quote = q} e i g a) =
    let l = passed_left is_skipped q bs r e in let m = passed_left (is_within references q) q r x g in let n = skips_left references x o a in omega (arith, l, m, n)
skips_left references bs o (literal_reference {r = r} {rest = x} {quote = q} e i g) =
    let l = passed_left is_skipped q bs r e in let m = passed_left (is_within references q) 0x25 r x g in omega (arith, l, m)

pub skipped_unique : (bs : List ℕ) (o p : Outcome (Unit {0})) → SkippedAt bs o → SkippedAt bs p → o ≡ p
skipped_unique bs o p (attributes {rest = r} e a) (attributes {rest = s} f b) =
    skips_unique false r o p a (subst (λ z. SkipsAt false z p) (append_cancel_left (codes "<!ATTLIST") s r (sym f ∙ e)) b)
skipped_unique bs o p (attributes e a) (notation f b) = absurd (omega (arith, same_first (same_others (same_others (sym e ∙ f)))))
skipped_unique bs o p (attributes e a) (entity f b) = absurd (omega (arith, same_first (same_others (same_others (sym e ∙ f)))))
skipped_unique bs o p (notation e a) (attributes f b) = absurd (omega (arith, same_first (same_others (same_others (sym e ∙ f)))))
skipped_unique bs o p (notation {rest = r} e a) (notation {rest = s} f b) =
    skips_unique false r o p a (subst (λ z. SkipsAt false z p) (append_cancel_left (codes "<!NOTATION") s r (sym f ∙ e)) b)
skipped_unique bs o p (notation e a) (entity f b) = absurd (omega (arith, same_first (same_others (same_others (sym e ∙ f)))))
skipped_unique bs o p (entity e a) (attributes f b) = absurd (omega (arith, same_first (same_others (same_others (sym e ∙ f)))))
skipped_unique bs o p (entity e a) (notation f b) = absurd (omega (arith, same_first (same_others (same_others (sym e ∙ f)))))
skipped_unique bs o p (entity {rest = r} e a) (entity {rest = s} f b) =
    skips_unique true r o p a (subst (λ z. SkipsAt true z p) (append_cancel_left (codes "<!ENTITY") s r (sym f ∙ e)) b)

skipped_left : (bs : List ℕ) (o : Outcome (Unit {0})) → SkippedAt bs o → left_of o + 1 ≤ length bs
skipped_left bs o (attributes {rest = r} e a) = let k = skips_left false r o a in omega (arith, k, ap length e, length-append (codes "<!ATTLIST") r)
skipped_left bs o (notation {rest = r} e a) = let k = skips_left false r o a in omega (arith, k, ap length e, length-append (codes "<!NOTATION") r)
skipped_left bs o (entity {rest = r} e a) = let k = skips_left true r o a in omega (arith, k, ap length e, length-append (codes "<!ENTITY") r)

-- what is skipped begins with `<!`, and neither a section nor an element is
skipped_no_reference : (bs r : List ℕ) (o : Outcome (Unit {0})) → bs ≡ 0x25 ∷ r → SkippedAt bs o → ⊥
skipped_no_reference bs r o e (attributes f a) = omega (arith, other_byte e f)
skipped_no_reference bs r o e (notation f a) = omega (arith, other_byte e f)
skipped_no_reference bs r o e (entity f a) = omega (arith, other_byte e f)

skipped_no_section : (bs r : List ℕ) (o : Outcome (Unit {0})) → bs ≡ codes "<![" ++ r → SkippedAt bs o → ⊥
skipped_no_section bs r o e (attributes f a) = omega (arith, same_first (same_others (same_others (sym e ∙ f))))
skipped_no_section bs r o e (notation f a) = omega (arith, same_first (same_others (same_others (sym e ∙ f))))
skipped_no_section bs r o e (entity f a) = omega (arith, same_first (same_others (same_others (sym e ∙ f))))

skipped_no_element : (bs r : List ℕ) (o : Outcome (Unit {0})) → bs ≡ codes "<!ELEMENT" ++ r → SkippedAt bs o → ⊥
skipped_no_element bs r o e (attributes f a) = omega (arith, same_first (same_others (same_others (sym e ∙ f))))
skipped_no_element bs r o e (notation f a) = omega (arith, same_first (same_others (same_others (sym e ∙ f))))
skipped_no_element bs r o e (entity f a) = omega (arith, same_first (same_others (same_others (same_others (sym e ∙ f)))))

pub markup_unique : (deepest total : ℕ) (bs : List ℕ) (o p : Outcome (List Placed)) → MarkupAt deepest total bs o → MarkupAt deepest total bs p → o ≡ p
markup_unique deepest total bs o p (t.reference e) (t.reference f) = refl
markup_unique deepest total bs o p (t.reference e) (section f) = absurd (omega (arith, other_byte e f))
markup_unique deepest total bs o p (t.reference e) (element f a w) = absurd (omega (arith, other_byte e f))
markup_unique deepest total bs o p (t.reference {r = r} e) (skipped {outcome = u} a w) = absurd (skipped_no_reference bs r u e a)
markup_unique deepest total bs o p (section e) (t.reference f) = absurd (omega (arith, other_byte e f))
markup_unique deepest total bs o p (section e) (section f) = refl
markup_unique deepest total bs o p (section e) (element f a w) = absurd (omega (arith, same_first (same_others (same_others (sym e ∙ f)))))
markup_unique deepest total bs o p (section {r = r} e) (skipped {outcome = u} a w) = absurd (skipped_no_section bs r u e a)
markup_unique deepest total bs o p (element e a w) (t.reference f) = absurd (omega (arith, other_byte e f))
markup_unique deepest total bs o p (element e a w) (section f) = absurd (omega (arith, same_first (same_others (same_others (sym e ∙ f)))))
markup_unique deepest total bs o p (element {r = r} {outcome = u} e a w) (element {r = s} {outcome = v} f b w') =
    let g : Declaration → List Placed = λ x. placed (place_of total bs) x ∷ [] in
    whole_same g g u v o p w w' refl (element_unique deepest r u v a (subst (λ z. ElementAt deepest z v) (append_cancel_left (codes "<!ELEMENT") s r (sym f ∙ e)) b))
markup_unique deepest total bs o p (element {r = r} e a w) (skipped {outcome = u} b w') = absurd (skipped_no_element bs r u e b)
markup_unique deepest total bs o p (skipped {outcome = u} a w) (t.reference {r = r} e) = absurd (skipped_no_reference bs r u e a)
markup_unique deepest total bs o p (skipped {outcome = u} a w) (section {r = r} e) = absurd (skipped_no_section bs r u e a)
markup_unique deepest total bs o p (skipped {outcome = u} a w) (element {r = r} e b w') = absurd (skipped_no_element bs r u e a)
markup_unique deepest total bs o p (skipped {outcome = u} a w) (skipped {outcome = v} b w') =
    let g : Unit {0} → List Placed = λ _. [] in whole_same g g u v o p w w' refl (skipped_unique bs u v a b)

pub markup_left : (deepest total : ℕ) (bs : List ℕ) (o : Outcome (List Placed)) → MarkupAt deepest total bs o → IsRead o → left_of o + 1 ≤ length bs
markup_left deepest total bs o (t.reference e) i = absurd i
markup_left deepest total bs o (section e) i = absurd i
markup_left deepest total bs o (element {r = r} {outcome = u} e a w) i =
    let k = element_left deepest r u a in
    omega (arith, k, ap length e, length-append (codes "<!ELEMENT") r, ap left_of w, left_map (λ x. placed (place_of total bs) x ∷ []) u)
markup_left deepest total bs o (skipped {outcome = u} a w) i =
    let g : Unit {0} → List Placed = λ _. [] in let k = skipped_left bs u a in omega (arith, k, ap left_of w, left_map g u)

markup_some : (deepest total : ℕ) (bs : List ℕ) (o : Outcome (List Placed)) → MarkupAt deepest total bs o → bs ≡ [] → ⊥
markup_some deepest total bs o (t.reference e) f = cc
markup_some deepest total bs o (section e) f = cc
markup_some deepest total bs o (element e a w) f = cc
markup_some deepest total bs o (skipped (attributes e a) w) f = cc
markup_some deepest total bs o (skipped (notation e a) w) f = cc
markup_some deepest total bs o (skipped (entity e a) w) f = cc

markup_kept : (e deepest total : ℕ) (bs : List ℕ) (o : Outcome (List Placed)) → MarkupAt deepest total bs o → IsRead o → Kept (MarkupAt e total) bs o
markup_kept e deepest total bs o (t.reference f) i = absurd i
markup_kept e deepest total bs o (section f) i = absurd i
markup_kept e deepest total bs o (element {r = r} {outcome = u} f a w) i =
    elim (element_kept e deepest r u a (read_under (λ x. placed (place_of total bs) x ∷ []) u o w i)) [ inl b ↦ inl (element f b w) | inr (at, b) ↦ inr (at, element f b refl) ]
markup_kept e deepest total bs o (skipped a w) i = inl (skipped a w)

pub declarations_unique : (deepest total : ℕ) (bs : List ℕ) (o p : Outcome (List Placed)) → DeclarationsAt deepest total bs o → DeclarationsAt deepest total bs p → o ≡ p
declarations_unique deepest total bs o p (end e) (end f) = refl
declarations_unique deepest total bs o p (end e) (markup_refused {at = at} {cause = c} a) = absurd (markup_some deepest total bs (refused c at) a e)
declarations_unique deepest total bs o p (end e) (markup {rest = r} {xs = xs} a m b w) = absurd (markup_some deepest total bs (read xs r) a e)
declarations_unique deepest total bs o p (markup_refused {at = at} {cause = c} a) (end e) = absurd (markup_some deepest total bs (refused c at) a e)
declarations_unique deepest total bs o p (markup_refused {at = at} {cause = c} a) (markup_refused {at = at'} {cause = c'} b) = markup_unique deepest total bs (refused c at) (refused c' at') a b
declarations_unique deepest total bs o p (markup_refused {at = at} {cause = c} a) (markup {rest = r} {xs = xs} b m l w) =
    absurd (read_not (markup_unique deepest total bs (read xs r) (refused c at) b a))
declarations_unique deepest total bs o p (markup {rest = r} {xs = xs} a m b w) (end e) = absurd (markup_some deepest total bs (read xs r) a e)
declarations_unique deepest total bs o p (markup {rest = r} {xs = xs} b m l w) (markup_refused {at = at} {cause = c} a) =
    absurd (read_not (markup_unique deepest total bs (read xs r) (refused c at) b a))
declarations_unique deepest total bs o p (markup {rest = r} {next = x} {xs = xs} {outcome = u} a m l w) (markup {rest = s} {next = y} {xs = ys} {outcome = v} b n k w') =
    let e = read_same (markup_unique deepest total bs (read xs r) (read ys s) a b) in
    let next : x ≡ y = misc_unique m (subst (λ z. MiscAt z y) (sym e.1) n) in
    let g : List Placed → List Placed → List Placed = λ zs ws. zs ++ ws in
    whole_same (g xs) (g ys) u v o p w w' (ap g e.0) (declarations_unique deepest total x u v l (subst (λ z. DeclarationsAt deepest total z v) (sym next) k))

declarations_kept : (e deepest total : ℕ) (bs : List ℕ) (o : Outcome (List Placed)) → DeclarationsAt deepest total bs o → IsRead o → Kept (DeclarationsAt e total) bs o
declarations_kept e deepest total bs o (end f) i = inl (end f)
declarations_kept e deepest total bs o (markup_refused a) i = absurd i
declarations_kept e deepest total bs o (markup {rest = r} {next = x} {xs = xs} {outcome = u} a m l w) i =
    elim (markup_kept e deepest total bs (read xs r) a tt) [
      | inl b ↦ elim (declarations_kept e deepest total x u l (read_under (λ ys. xs ++ ys) u o w i)) [
        | inl k ↦ inl (markup b m k w)
        | inr (at, k) ↦ inr (at, markup b m k refl)
      ]
      | inr (at, b) ↦ inr (at, markup_refused b)
    ]

-- whole texts

pub misc_past_unique : (bs : List ℕ) (o p : Outcome (Unit {0})) → Past MiscAt bs o → Past MiscAt bs p → o ≡ p
misc_past_unique = past_unique MiscAt (λ bs r s a b. misc_unique a b)

pub text_unique : (deepest : ℕ) (bytes : List ℕ) (o p : Outcome (List Placed)) → TextAt deepest bytes o → TextAt deepest bytes p → o ≡ p
text_unique deepest bytes o p a b =
    then_unique TextDeclarationAt (λ _. Then (Past MiscAt) (λ _. DeclarationsAt deepest (length bytes))) text_declaration_unique (λ _.
    then_unique (Past MiscAt) (λ _. DeclarationsAt deepest (length bytes)) misc_past_unique (λ _. declarations_unique deepest (length bytes)))
    (after_mark bytes) o p a b

pub text_kept : (e deepest : ℕ) (bytes : List ℕ) (o : Outcome (List Placed)) → TextAt deepest bytes o → IsRead o → Kept (λ bs. TextAt e bs) bytes o
text_kept e deepest bytes o a i =
    then_kept TextDeclarationAt TextDeclarationAt (λ _. Then (Past MiscAt) (λ _. DeclarationsAt deepest (length bytes))) (λ _. Then (Past MiscAt) (λ _. DeclarationsAt e (length bytes)))
    (same_kept TextDeclarationAt) (λ _.
    then_kept (Past MiscAt) (Past MiscAt) (λ _. DeclarationsAt deepest (length bytes)) (λ _. DeclarationsAt e (length bytes)) (same_kept (Past MiscAt)) (λ _.
    declarations_kept e deepest (length bytes)))
    (after_mark bytes) o a i
