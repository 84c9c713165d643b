-- Each text declares elements or is refused.
use Rattle.std.proofs.Common.{◌≡◌, ◌≢◌, ◌⊎◌, inl, inr, ℕ, ◌<◌, ◌-◌, Bool, true, false, List, [], ◌∷◌, ◌++◌, refl, ap, ◌∙◌, sym, subst, length, map, arith, codes, bytes_eq}
use Rattle.std.specs.List.{IsDistinct}
use Rattle.tc_base.specs.declared.reasons.Why.TheVariants.{ParameterEntity, ConditionalSection}
use Rattle.tc_model.specs.XmlText.{after_mark}
use Rattle.tc_model.specs.XmlTextBytes.{place_of, after_white, FrontOf, IsQuote}
use Rattle.tc_model.specs.XmlTextMisc.{MiscAt}
use Rattle.tc_model.specs.XmlTextRefusals.{unsupported, too_deep}
use Rattle.tc_model.proofs.XmlTextPhrases.{misc_unique}
use Rattle.tc_dtd.specs.Declarations.{Declaration}
use Rattle.tc_dtd.specs.DtdTextContents.{SpaceAt, NameAt, ContentAt}
use Rattle.tc_dtd.specs.DtdTextDeclarations as t
use Rattle.tc_dtd.specs.DtdTextDeclarations.{EndAt, KeptAt, ElementAt, passed, is_skipped, is_within, SkipsAt, SkippedAt, Placed, placed, MarkupAt, TextDeclarationAt, DeclarationsAt}
use Rattle.tc_dtd.specs.DtdText.{TextAt, deepest_parenthesis, HasForm, names_of, DtdText, FirstAgain}
use Rattle.tc_dtd.specs.DtdTextLaws.{IsRefusal, HasDtdOrFault}
use Rattle.tc_dtd.specs.Faults.{IsFaultOf}
use Rattle.tc_dtd.specs.Outcomes.{Outcome, read, refused, outcome_map, Then, goes_on, Past}
use Rattle.tc_dtd.specs.declared.faults.DtdFault.{DtdFault}
use Rattle.tc_dtd.specs.declared.faults.DtdFault.TheVariants.{Malformed, Unsupported, TooDeep, Twice}
use Rattle.tc_dtd.specs.declared.faults.Stop.TheVariants as stop
use Rattle.tc_dtd.proofs.ContentsUnique.{space_unique, name_unique, content_unique}
use Rattle.tc_dtd.proofs.DecidingContents.{space_here, name_here, content_here}
use Rattle.tc_dtd.proofs.DecidingNames.{by_length, front_here, misc_here, past_misc_here}
use Rattle.tc_dtd.proofs.DecidingPhrases.{Decided, Known, number_is, begins, begins_with, same_after, then_known, text_declaration_here}
use Rattle.tc_dtd.proofs.DeclarationsUnique.{Behind_name, With_content, text_declaration_unique, misc_past_unique, markup_unique, markup_left}
use Rattle.tc_dtd.proofs.EachText.{once_or_again, distinct_none}
use Rattle.tc_dtd.proofs.FaultLaws.{fault_is, others_behind, has_form}
use Rattle.tc_dtd.proofs.MarkupLaws.{ends_skipped, ends_within, skips_first, skips_shorter, quote_not, no_literal, no_skip}
use Rattle.tc_dtd.proofs.OutcomeLaws.{read_same, read_not, same_behind, other_byte}
use Rattle.tc_dtd.proofs.ReaderLaws.{misc_left}

-- the end of a declaration
end_here : (bs : List ℕ) → Known (EndAt bs)
end_here bs = elim (begins 0x3E (after_white bs)) [
  | inl (r, e) ↦ inl (read tt r, t.closed e)
  | inr h ↦ elim (begins 0x25 (after_white bs)) [ inl (r, e) ↦ inl (refused (unsupported ParameterEntity) (0x25 ∷ r), t.reference e) | inr k ↦ inr (none h k) ]
]
  where
    none : ((r : List ℕ) → after_white bs ≡ 0x3E ∷ r → ⊥) → ((r : List ℕ) → after_white bs ≡ 0x25 ∷ r → ⊥) → (o : Outcome (Unit {0})) → EndAt bs o → ⊥
    none h k o (t.closed {after = r} e) = h r e
    none h k o (t.reference {r = r} e) = k r e

kept_here : (x : Declaration) (bs : List ℕ) → Known (KeptAt x bs)
kept_here x bs = elim (end_here bs) [ inl (o, a) ↦ inl (outcome_map (λ _. x) o, t.kept a refl) | inr h ↦ inr (none h) ]
  where
    none : ((o : Outcome (Unit {0})) → EndAt bs o → ⊥) → (o : Outcome Declaration) → KeptAt x bs o → ⊥
    none h o (t.kept {outcome = u} a w) = h u a

element_here : (deepest : ℕ) (bs : List ℕ) → Known (ElementAt deepest bs)
element_here deepest =
    then_known SpaceAt (λ _. Then NameAt (Behind_name deepest)) space_unique space_here (λ _.
    then_known NameAt (Behind_name deepest) name_unique name_here (λ n.
    then_known SpaceAt (λ _. With_content deepest n) space_unique space_here (λ _.
    then_known (ContentAt deepest) (λ c. KeptAt (record { name = n; content = c })) (content_unique deepest) (content_here deepest) (λ c.
    kept_here (record { name = n; content = c })))))

-- a declaration that isn't read
skips_here : (references : Bool) (bs : List ℕ) → Known (SkipsAt references bs)
skips_here references = by_length (λ bs. Known (SkipsAt references bs)) step
  where
    ends : (bs : List ℕ) → ((b : ℕ) × ((r : List ℕ) × (bs ≡ b ∷ r))) ⊎ ((b : ℕ) (r : List ℕ) → bs ≡ b ∷ r → ⊥)
    ends [] = inr (λ b r e. omega (arith, ap length e))
    ends (b ∷ r) = inl (b, (r, refl))

    no_more : (bs r rest : List ℕ) (q : ℕ) → passed is_skipped bs ≡ q ∷ r → IsQuote q → passed (is_within references q) r ≡ q ∷ rest → ((o : Outcome (Unit {0})) → SkipsAt references rest o → ⊥)
        → (o : Outcome (Unit {0})) → SkipsAt references bs o → ⊥
    no_more bs r rest q e i f h o (t.closed g) = quote_not q 0x3E i (inl refl) (other_byte e g)
    no_more bs r rest q e i f h o (t.reference g) = quote_not q 0x25 i (inr refl) (other_byte e g)
    no_more bs r rest q e i f h o (t.literal {r = x} {rest = y} {quote = k} g j l a) =
        let same : k ≡ q = other_byte g e in
        let there : passed (is_within references q) r ≡ q ∷ y =
        subst (λ z. passed (is_within references z) r ≡ z ∷ y) same (subst (λ z. passed (is_within references k) z ≡ k ∷ y) (same_behind (subst (λ z. passed is_skipped bs ≡ z ∷ x) same g) e) l) in
        h o (subst (λ z. SkipsAt references z o) (same_behind there f) a)
    no_more bs r rest q e i f h o (t.literal_reference {r = x} {rest = y} {quote = k} g j l) =
        let same : k ≡ q = other_byte g e in
        let there : passed (is_within references q) r ≡ 0x25 ∷ y =
        subst (λ z. passed (is_within references z) r ≡ 0x25 ∷ y) same (subst (λ z. passed (is_within references k) z ≡ 0x25 ∷ y) (same_behind (subst (λ z. passed is_skipped bs ≡ z ∷ x) same g) e) l) in
        quote_not q 0x25 i (inr refl) (other_byte f there)

    past_literal : (bs r rest : List ℕ) (q : ℕ) → passed is_skipped bs ≡ q ∷ r → IsQuote q → passed (is_within references q) r ≡ q ∷ rest → Known (SkipsAt references rest) → Known (SkipsAt references bs)
    past_literal bs r rest q e i f (inl (o, a)) = inl (o, t.literal e i f a)
    past_literal bs r rest q e i f (inr h) = inr (no_more bs r rest q e i f h)

    in_literal : (bs r : List ℕ) (q : ℕ) → passed is_skipped bs ≡ q ∷ r → IsQuote q → ((cs : List ℕ) → length cs < length bs → Known (SkipsAt references cs)) → Known (SkipsAt references bs)
    in_literal bs r q e i ih = elim (ends (passed (is_within references q) r)) [
      | inr h ↦ inr (no_literal references bs bs r q (skips_first references bs) e i h)
      | inl (b, (rest, f)) ↦ elim (ends_within references q r b rest f) [
        | inl same ↦ let g = subst (λ z. passed (is_within references q) r ≡ z ∷ rest) same f in past_literal bs r rest q e i g (ih rest (skips_shorter references bs r rest q e g))
        | inr same ↦ inl (refused (unsupported ParameterEntity) (0x25 ∷ rest), t.literal_reference e i (subst (λ z. passed (is_within references q) r ≡ z ∷ rest) same f))
      ]
    ]

    step : (bs : List ℕ) → ((cs : List ℕ) → length cs < length bs → Known (SkipsAt references cs)) → Known (SkipsAt references bs)
    step bs ih = elim (ends (passed is_skipped bs)) [
      | inr h ↦ inr (no_skip references bs bs (skips_first references bs) h)
      | inl (b, (r, e)) ↦ elim (ends_skipped bs b r e) [
        | inl same ↦ inl (read tt r, t.closed (subst (λ z. passed is_skipped bs ≡ z ∷ r) same e))
        | inr (inl same) ↦ inl (refused (unsupported ParameterEntity) (0x25 ∷ r), t.reference (subst (λ z. passed is_skipped bs ≡ z ∷ r) same e))
        | inr (inr i) ↦ in_literal bs r b e i ih
      ]
    ]

-- such a declaration, behind its word
abbrev Begins : List ℕ → List ℕ → Type 0
Begins bs mark = ((r : List ℕ) × (bs ≡ mark ++ r)) ⊎ ((r : List ℕ) → bs ≡ mark ++ r → ⊥)

abbrev SkipsBehind : List ℕ → List ℕ → Bool → Type 0
SkipsBehind bs mark references = ((o : Outcome (Unit {0})) × ((r : List ℕ) × ((bs ≡ mark ++ r) × SkipsAt references r o))) ⊎ ((r : List ℕ) (o : Outcome (Unit {0})) → bs ≡ mark ++ r → SkipsAt references r o → ⊥)

skipped_here : (bs : List ℕ) → Known (SkippedAt bs)
skipped_here bs = by (begins_with (codes "<!ATTLIST") bs) (begins_with (codes "<!NOTATION") bs) (begins_with (codes "<!ENTITY") bs)
  where
    behind : (mark : List ℕ) (references : Bool) → Begins bs mark → SkipsBehind bs mark references
    behind mark references (inr h) = inr (λ r o e a. h r e)
    behind mark references (inl (r, e)) = elim (skips_here references r) [
      | inl (o, a) ↦ inl (o, (r, (e, a)))
      | inr h ↦ inr (λ s o f a. h o (subst (λ z. SkipsAt references z o) (same_after mark bs s r f e) a))
    ]

    none : ((r : List ℕ) (o : Outcome (Unit {0})) → bs ≡ codes "<!ATTLIST" ++ r → SkipsAt false r o → ⊥) → ((r : List ℕ) (o : Outcome (Unit {0})) → bs ≡ codes "<!NOTATION" ++ r → SkipsAt false r o → ⊥)
        → ((r : List ℕ) (o : Outcome (Unit {0})) → bs ≡ codes "<!ENTITY" ++ r → SkipsAt true r o → ⊥) → (o : Outcome (Unit {0})) → SkippedAt bs o → ⊥
    none f g h o (t.attributes {rest = r} e a) = f r o e a
    none f g h o (t.notation {rest = r} e a) = g r o e a
    none f g h o (t.entity {rest = r} e a) = h r o e a

    by : Begins bs (codes "<!ATTLIST") → Begins bs (codes "<!NOTATION") → Begins bs (codes "<!ENTITY") → Known (SkippedAt bs)
    by x y z = elim (behind (codes "<!ATTLIST") false x) [
      | inl (o, (r, (e, a))) ↦ inl (o, t.attributes e a)
      | inr f ↦ elim (behind (codes "<!NOTATION") false y) [
        | inl (o, (r, (e, a))) ↦ inl (o, t.notation e a)
        | inr g ↦ elim (behind (codes "<!ENTITY") true z) [
          | inl (o, (r, (e, a))) ↦ inl (o, t.entity e a)
          | inr h ↦ inr (none f g h)
        ]
      ]
    ]

-- one declaration
module _ (deepest total : ℕ) (bs : List ℕ) where
  element_declared : ((o : Outcome Declaration) × ((r : List ℕ) × ((bs ≡ codes "<!ELEMENT" ++ r) × ElementAt deepest r o))) ⊎ ((r : List ℕ) (o : Outcome Declaration) → bs ≡ codes "<!ELEMENT" ++ r → ElementAt deepest r o → ⊥)
  element_declared = elim (begins_with (codes "<!ELEMENT") bs) [
    | inr h ↦ inr (λ r o e a. h r e)
    | inl (r, e) ↦ elim (element_here deepest r) [
      | inl (o, a) ↦ inl (o, (r, (e, a)))
      | inr h ↦ inr (λ s o f a. h o (subst (λ z. ElementAt deepest z o) (same_after (codes "<!ELEMENT") bs s r f e) a))
    ]
  ]

  no_markup : ((r : List ℕ) → bs ≡ 0x25 ∷ r → ⊥) → ((r : List ℕ) → bs ≡ codes "<![" ++ r → ⊥) → ((r : List ℕ) (o : Outcome Declaration) → bs ≡ codes "<!ELEMENT" ++ r → ElementAt deepest r o → ⊥)
      → ((o : Outcome (Unit {0})) → SkippedAt bs o → ⊥) → (o : Outcome (List Placed)) → MarkupAt deepest total bs o → ⊥
  no_markup f g h k o (t.reference {r = r} e) = f r e
  no_markup f g h k o (t.section {r = r} e) = g r e
  no_markup f g h k o (t.element {r = r} {outcome = u} e a w) = h r u e a
  no_markup f g h k o (t.skipped {outcome = u} a w) = k u a

  markup_here : Known (MarkupAt deepest total bs)
  markup_here = elim (begins 0x25 bs) [
    | inl (r, e) ↦ inl (refused (unsupported ParameterEntity) bs, t.reference e)
    | inr f ↦ elim (begins_with (codes "<![") bs) [
      | inl (r, e) ↦ inl (refused (unsupported ConditionalSection) bs, t.section e)
      | inr g ↦ elim element_declared [
        | inl (o, (r, (e, a))) ↦ inl (outcome_map (λ x. placed (place_of total bs) x ∷ []) o, t.element e a refl)
        | inr h ↦ elim (skipped_here bs) [
          | inl (o, a) ↦ inl (outcome_map (λ _. []) o, t.skipped a refl)
          | inr k ↦ inr (no_markup f g h k)
        ]
      ]
    ]
  ]

-- all declarations
module _ (deepest total : ℕ) where
  nothing_declared : (bs : List ℕ) → bs ≢ [] → ((o : Outcome (List Placed)) → MarkupAt deepest total bs o → ⊥) → (o : Outcome (List Placed)) → DeclarationsAt deepest total bs o → ⊥
  nothing_declared bs n h o (t.end e) = n e
  nothing_declared bs n h o (t.markup_refused {at = at} {cause = c} a) = h (refused c at) a
  nothing_declared bs n h o (t.markup {rest = r} {xs = xs} a m l w) = h (read xs r) a

  module _ (bs rest : List ℕ) (xs : List Placed) (n : bs ≢ []) (a : MarkupAt deepest total bs (read xs rest)) where
    no_misc : ((next : List ℕ) → MiscAt rest next → ⊥) → (o : Outcome (List Placed)) → DeclarationsAt deepest total bs o → ⊥
    no_misc h o (t.end e) = n e
    no_misc h o (t.markup_refused {at = at} {cause = c} b) = read_not (markup_unique deepest total bs (read xs rest) (refused c at) a b)
    no_misc h o (t.markup {rest = r} {next = s} {xs = ys} b m l w) = h s (subst (λ z. MiscAt z s) (sym (read_same (markup_unique deepest total bs (read xs rest) (read ys r) a b)).1) m)

    no_later : (next : List ℕ) → MiscAt rest next → ((o : Outcome (List Placed)) → DeclarationsAt deepest total next o → ⊥) → (o : Outcome (List Placed)) → DeclarationsAt deepest total bs o → ⊥
    no_later next k h o (t.end e) = n e
    no_later next k h o (t.markup_refused {at = at} {cause = c} b) = read_not (markup_unique deepest total bs (read xs rest) (refused c at) a b)
    no_later next k h o (t.markup {rest = r} {next = s} {xs = ys} {outcome = u} b m l w) =
        let same = (read_same (markup_unique deepest total bs (read xs rest) (read ys r) a b)).1 in
        h u (subst (λ z. DeclarationsAt deepest total z u) (misc_unique (subst (λ z. MiscAt z s) (sym same) m) k) l)

    past_markup : ((cs : List ℕ) → length cs < length bs → Known (DeclarationsAt deepest total cs)) → Known (DeclarationsAt deepest total bs)
    past_markup ih = elim (misc_here rest) [
      | inr h ↦ inr (no_misc h)
      | inl (next, k) ↦ later next k (ih next (let i = markup_left deepest total bs (read xs rest) a tt in let j = misc_left rest next k in omega (arith, i, j)))
    ]
      where
        later : (next : List ℕ) → MiscAt rest next → Known (DeclarationsAt deepest total next) → Known (DeclarationsAt deepest total bs)
        later next k (inl (o, l)) = inl (outcome_map (λ ys. xs ++ ys) o, t.markup a k l refl)
        later next k (inr h) = inr (no_later next k h)

  declarations_here : (bs : List ℕ) → Known (DeclarationsAt deepest total bs)
  declarations_here = by_length (λ bs. Known (DeclarationsAt deepest total bs)) step
    where
      some_byte : {b : ℕ} {bs : List ℕ} → b ∷ bs ≡ [] → ⊥
      some_byte e = omega (arith, ap length e)

      by : (bs : List ℕ) → bs ≢ [] → ((cs : List ℕ) → length cs < length bs → Known (DeclarationsAt deepest total cs)) → Known (MarkupAt deepest total bs) → Known (DeclarationsAt deepest total bs)
      by bs n ih (inr h) = inr (nothing_declared bs n h)
      by bs n ih (inl (refused c at, a)) = inl (refused c at, t.markup_refused a)
      by bs n ih (inl (read xs rest, a)) = past_markup bs rest xs n a ih

      step : (bs : List ℕ) → ((cs : List ℕ) → length cs < length bs → Known (DeclarationsAt deepest total cs)) → Known (DeclarationsAt deepest total bs)
      step [] ih = inl (read [] [], t.end refl)
      step (b ∷ bs) ih = by (b ∷ bs) some_byte ih (markup_here deepest total (b ∷ bs))

  -- nothing is left behind them
  all_read : (bs : List ℕ) (o : Outcome (List Placed)) → DeclarationsAt deepest total bs o → (xs : List Placed) (r : List ℕ) → o ≡ read xs r → r ≡ []
  all_read bs o (t.end e) xs r f = sym (read_same f).1
  all_read bs o (t.markup_refused a) xs r f = absurd (read_not (sym f))
  all_read bs o (t.markup {next = s} {xs = ys} {outcome = u} a m l w) xs r f = by u w (λ zs q g. all_read s u l zs q g)
    where
      by : (v : Outcome (List Placed)) → o ≡ outcome_map (λ zs. ys ++ zs) v → ((zs : List Placed) (q : List ℕ) → v ≡ read zs q → q ≡ []) → r ≡ []
      by (read zs q) g rec = sym (read_same (sym g ∙ f)).1 ∙ rec zs q refl
      by (refused c at) g rec = absurd (read_not (sym f ∙ g))

abbrev BehindDeclaration : ℕ → List ℕ → Unit {0} → List ℕ → Outcome (List Placed) → Type 0
BehindDeclaration deepest bytes u = Then (Past MiscAt) (λ _. DeclarationsAt deepest (length bytes))

text_here : (deepest : ℕ) (bytes : List ℕ) → Known (TextAt deepest bytes)
text_here deepest bytes =
    then_known TextDeclarationAt (BehindDeclaration deepest bytes) text_declaration_unique text_declaration_here
    (λ _. then_known (Past MiscAt) (λ _. DeclarationsAt deepest (length bytes)) misc_past_unique past_misc_here (λ _. declarations_here deepest (length bytes))) (after_mark bytes)

then_all : {A B : Type 0} {First : List ℕ → Outcome A → Type 0} {Second : A → List ℕ → Outcome B → Type 0} {bs : List ℕ} {x : B} {r : List ℕ} (P : Type 0) → ((v : A) (cs : List ℕ) → Second v cs (read x r) → P)
    → Then First Second bs (read x r) → P
then_all P f (goes_on {rest = s} {value = v} a k) = f v s k

text_all : (deepest : ℕ) (bytes : List ℕ) (xs : List Placed) (r : List ℕ) → TextAt deepest bytes (read xs r) → r ≡ []
text_all deepest bytes xs r a =
    then_all (r ≡ []) (λ v cs k. then_all (r ≡ []) (λ u ds l. all_read deepest (length bytes) ds (read xs r) l xs r refl) k) a

-- each text declares elements or is refused
abbrev DeclaresOrFails : List ℕ → Type 0
DeclaresOrFails bytes = ((ds : List Declaration) × DtdText bytes ds) ⊎ ((fault : DtdFault) × (IsRefusal fault × IsFaultOf bytes fault))

of_form : (bytes : List ℕ) (found : List Placed) → HasForm deepest_parenthesis bytes found → IsDistinct bytes_eq (names_of found) ⊎ ((p : ℕ) × FirstAgain found p) → DeclaresOrFails bytes
of_form bytes found m (inl once) = inl (map (λ x. x.declaration) found, record { found = found; form = m; once = once; are = refl })
of_form bytes found m (inr (p, again)) = inr (Twice (record { 0 = p }), (tt, (found, m, again)))

of_front : (bytes front : List ℕ) → FrontOf bytes front → Known (TextAt deepest_parenthesis front) → DeclaresOrFails bytes
of_front bytes front f (inr h) = inr (Malformed (record { 0 = length front - 0 }), (tt, fault_is bytes front (stop.Malformed 0) f h))
of_front bytes front f (inl (refused (unsupported why) at, a)) =
    inr (Unsupported (record { 0 = length front - length at }) why, (tt, fault_is bytes front (stop.Unsupported (length at) why) f (at, refl, a)))
of_front bytes front f (inl (refused too_deep at, a)) = inr (TooDeep (record { 0 = length front - length at }), (tt, fault_is bytes front (stop.TooDeep (length at)) f (at, refl, a)))
of_front bytes front f (inl (read found rest, a)) = by (number_is (length front) (length bytes))
  where
    whole : TextAt deepest_parenthesis front (read found [])
    whole = subst (λ z. TextAt deepest_parenthesis front (read found z)) (text_all deepest_parenthesis front found rest a) a

    by : Decided (length front ≡ length bytes) → DeclaresOrFails bytes
    by (inl e) = of_form bytes found (has_form bytes front found f e whole) (once_or_again [] found distinct_none)
    by (inr n) = inr (Malformed (record { 0 = length front - 0 }), (tt, others_behind bytes front found (record { 0 = length front - 0 }) f whole n refl))

pub dtd_or_fault : HasDtdOrFault
dtd_or_fault bytes = let (front, f) = front_here bytes in of_front bytes front f (text_here deepest_parenthesis front)
