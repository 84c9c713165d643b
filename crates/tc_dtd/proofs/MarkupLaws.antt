-- What the steps of reading declarations show of the whole.
use Rattle.std.proofs.Common.{◌≡◌, ◌≢◌, ◌⊎◌, inl, inr, ℕ, suc, ◌+◌, ◌<◌, ◌≤◌, Bool, true, false, not, ◌||◌, ◌&&◌, ◌==◌, List, [], ◌∷◌, ◌++◌, refl, ap, ◌∙◌, sym, subst, length, arith, codes, drop, get_or, IsUtf8, IsCharBoundary, length-drop, eq-eqb}
use Rattle.std.specs.List.{prefix_len}
use Rattle.std.proofs.lemmas.Bool.{true≢false, eqb-true, ne_eqb, cond-true, cond-false}
use Rattle.std.proofs.lemmas.List.{append_cancel_left, drop_more}
use Rattle.std.proofs.lemmas.Str.{IsCharBoundary-after_ascii}
use Rattle.tc_base.specs.declared.reasons.Why.TheVariants.{ParameterEntity, ConditionalSection}
use Rattle.tc_model.specs.XmlText.{after_mark}
use Rattle.tc_model.specs.XmlTextBytes.{after_white, place_of, IsQuote}
use Rattle.tc_model.specs.XmlTextMisc.{MiscAt}
use Rattle.tc_model.specs.XmlTextRefusals.{Cause, unsupported}
use Rattle.tc_model.proofs.XmlTextPhrases.{same_first, same_others, misc_unique}
use Rattle.tc_dtd.specs.Declarations.{Content, Declaration}
use Rattle.tc_dtd.specs.Outcomes.{Outcome, read, refused, outcome_map, Then, goes_on, Past, past}
use Rattle.tc_dtd.specs.DtdTextContents.{SpaceAt, NameAt, ContentAt}
use Rattle.tc_dtd.specs.DtdTextDeclarations as t
use Rattle.tc_dtd.specs.DtdTextDeclarations.{EndAt, closed, KeptAt, kept, ElementAt, passed, is_skipped, is_within, SkipsAt, literal, literal_reference, SkippedAt, attributes, notation, entity, Placed, placed, MarkupAt, section, element, skipped, DeclarationsAt, end, markup_refused, markup}
use Rattle.tc_dtd.specs.DtdText.{TextAt}
use Rattle.tc_dtd.specs.Stops.{Stops, IsUnexpected}
use Rattle.tc_dtd.specs.declared.faults.Stop.{Stop}
use Rattle.tc_dtd.proofs.OutcomeLaws.{read_same, read_not, other_byte, same_behind}
use Rattle.tc_dtd.proofs.ContentsUnique.{space_unique, name_unique, content_unique}
use Rattle.tc_dtd.proofs.DeclarationsUnique.{Behind_name, With_content, markup_unique, markup_left, text_declaration_unique, misc_past_unique, passed_left}
use Rattle.tc_dtd.proofs.ReaderLaws.{stops_map, stops_first, stops_second, unexpected_stops, misc_left}

-- the end of a declaration

pub an_end : (bs found after : List ℕ) → found ≡ after_white bs → found ≡ 0x3E ∷ after → EndAt bs (read tt after)
an_end bs found after e f = closed (sym e ∙ f)

pub no_end : (bs found : List ℕ) (e : Stop) → found ≡ after_white bs → ((r : List ℕ) → found ≡ 0x3E ∷ r → ⊥) → IsUnexpected found e → Stops e (EndAt bs)
no_end bs found e i h = unexpected_stops (EndAt bs) found e none (λ r f. subst (λ w. EndAt bs (refused (unsupported ParameterEntity) w)) (sym f) (t.reference (sym i ∙ f)))
  where
    none : ((r : List ℕ) → found ≡ 0x25 ∷ r → ⊥) → (o : Outcome (Unit {0})) → EndAt bs o → ⊥
    none k o (closed {after = r} f) = h r (i ∙ f)
    none k o (t.reference {r = r} f) = k r (i ∙ f)

-- declarations of elements

module _ (deepest : ℕ) (bs : List ℕ) where
  pub element_no_space : (e : Stop) → Stops e (SpaceAt bs) → Stops e (ElementAt deepest bs)
  element_no_space e s = stops_first SpaceAt (λ _. Then NameAt (Behind_name deepest)) bs e s

  pub element_no_name : (start : List ℕ) (e : Stop) → SpaceAt bs (read tt start) → Stops e (NameAt start) → Stops e (ElementAt deepest bs)
  element_no_name start e a s = stops_second SpaceAt (λ _. Then NameAt (Behind_name deepest)) space_unique bs start tt e a (stops_first NameAt (Behind_name deepest) start e s)

  named : (start behind n : List ℕ) (e : Stop) → SpaceAt bs (read tt start) → NameAt start (read n behind) → Stops e (Behind_name deepest n behind) → Stops e (ElementAt deepest bs)
  named start behind n e a b s =
      stops_second SpaceAt (λ _. Then NameAt (Behind_name deepest)) space_unique bs start tt e a (stops_second NameAt (Behind_name deepest) name_unique start behind n e b s)

  pub element_no_second_space : (start behind n : List ℕ) (e : Stop) → SpaceAt bs (read tt start) → NameAt start (read n behind) → Stops e (SpaceAt behind) → Stops e (ElementAt deepest bs)
  element_no_second_space start behind n e a b s = named start behind n e a b (stops_first SpaceAt (λ _. With_content deepest n) behind e s)

  pub element_no_content : (start behind n next : List ℕ) (e : Stop) → SpaceAt bs (read tt start) → NameAt start (read n behind) → SpaceAt behind (read tt next) → Stops e (ContentAt deepest next)
      → Stops e (ElementAt deepest bs)
  element_no_content start behind n next e a b k s =
      named start behind n e a b
      (stops_second SpaceAt (λ _. With_content deepest n) space_unique behind next tt e k (stops_first (ContentAt deepest) (λ c. KeptAt (record { name = n; content = c })) next e s))

  pub element_no_end : (start behind n next last : List ℕ) (x : Content) (e : Stop) → SpaceAt bs (read tt start) → NameAt start (read n behind) → SpaceAt behind (read tt next)
      → ContentAt deepest next (read x last) → Stops e (EndAt last) → Stops e (ElementAt deepest bs)
  element_no_end start behind n next last x e a b k m s =
      named start behind n e a b
      (stops_second SpaceAt (λ _. With_content deepest n) space_unique behind next tt e k
      (stops_second (ContentAt deepest) (λ c. KeptAt (record { name = n; content = c })) (content_unique deepest) next last x e m (stops_map (EndAt last) (KeptAt d last) e back (λ c at f. kept f refl) s)))
    where
      d : Declaration
      d = record { name = n; content = x }

      back : (o : Outcome Declaration) → KeptAt d last o → (p : Outcome (Unit {0})) × EndAt last p
      back o (kept {outcome = u} f w) = (u, f)

  pub an_element : (start behind n next last after : List ℕ) (x : Content) → SpaceAt bs (read tt start) → NameAt start (read n behind) → SpaceAt behind (read tt next)
      → ContentAt deepest next (read x last) → EndAt last (read tt after) → ElementAt deepest bs (read (record { name = n; content = x }) after)
  an_element start behind n next last after x a b k m s = goes_on a (goes_on b (goes_on k (goes_on m (kept s refl))))

-- runs

-- what stands behind a run
pub passed_at : (test : ℕ → Bool) (text bs rest : List ℕ) (n : ℕ) → n ≡ prefix_len test text → n ≤ length text → n ≢ length text → bs ≡ text → rest ≡ drop (n + 1) text → passed test text ≡ get_or bs n 0 ∷ rest
passed_at test text bs rest n e l other i r =
    ap (λ k. drop k text) (sym e) ∙ (drop_more text n 0 (omega (arith, l, other)) ∙ (ap (λ w. get_or w n 0 ∷ drop (n + 1) text) (sym i) ∙ ap (λ w. get_or bs n 0 ∷ w) (sym r)))

-- the byte that ends a run
ends_run : (test : ℕ → Bool) (bs : List ℕ) (b : ℕ) (r : List ℕ) → passed test bs ≡ b ∷ r → test b ≡ false
ends_run test [] b r e = absurd (cc)
ends_run test (x ∷ xs) b r e = by (test x) refl (ends_run test xs b r) e
  where
    by : (y : Bool) → test x ≡ y → (passed test xs ≡ b ∷ r → test b ≡ false) → passed test (x ∷ xs) ≡ b ∷ r → test b ≡ false
    by true i rec e = rec (subst (λ n. drop n (x ∷ xs) ≡ b ∷ r) (more i) e)
      where
        more : test x ≡ true → prefix_len test (x ∷ xs) ≡ suc (prefix_len test xs)
        more i = rw i (omega arith)
    by false i rec e = let here : x ≡ b = same_first (subst (λ n. drop n (x ∷ xs) ≡ b ∷ r) (none i) e) in ap test (sym here) ∙ i
      where
        none : test x ≡ false → prefix_len test (x ∷ xs) ≡ 0
        none i = rw i refl

pub ends_skipped : (bs : List ℕ) (b : ℕ) (r : List ℕ) → passed is_skipped bs ≡ b ∷ r → (b ≡ 0x3E) ⊎ ((b ≡ 0x25) ⊎ IsQuote b)
ends_skipped bs b r e = by (b == 0x3E) refl (b == 0x25) refl (b == 0x22) refl (b == 0x27) refl (ends_run is_skipped bs b r e)
  where
    by : (x : Bool) → (b == 0x3E) ≡ x → (y : Bool) → (b == 0x25) ≡ y → (z : Bool) → (b == 0x22) ≡ z → (w : Bool) → (b == 0x27) ≡ w → not (x || y || z || w) ≡ false → (b ≡ 0x3E) ⊎ ((b ≡ 0x25) ⊎ IsQuote b)
    by true i y j z k w l h = inl (eqb-true b 0x3E i)
    by false i true j z k w l h = inr (inl (eqb-true b 0x25 j))
    by false i false j true k w l h = inr (inr (inl (eqb-true b 0x22 k)))
    by false i false j false k true l h = inr (inr (inr (eqb-true b 0x27 l)))
    by false i false j false k false l h = absurd (true≢false h)

pub ends_within : (references : Bool) (quote : ℕ) (bs : List ℕ) (b : ℕ) (r : List ℕ) → passed (is_within references quote) bs ≡ b ∷ r → (b ≡ quote) ⊎ (b ≡ 0x25)
ends_within references quote bs b r e = by references (b == quote) refl (b == 0x25) refl (ends_run (is_within references quote) bs b r e)
  where
    by : (u : Bool) (x : Bool) → (b == quote) ≡ x → (y : Bool) → (b == 0x25) ≡ y → not (x || (u && y)) ≡ false → (b ≡ quote) ⊎ (b ≡ 0x25)
    by u true i y j h = inl (eqb-true b quote i)
    by u false i true j h = inr (eqb-true b 0x25 j)
    by true false i false j h = absurd (true≢false h)
    by false false i false j h = absurd (true≢false h)

-- the text may be cut behind the byte that ends a run
pub cut_skipped : (text : List ℕ) (n : ℕ) → IsUtf8 text → n ≡ prefix_len is_skipped text → n ≤ length text → n ≢ length text → IsCharBoundary text (n + 1)
cut_skipped text n u e l other = IsCharBoundary-after_ascii text n u (omega (arith, l, other)) (small (ends_skipped text (get_or text n 0) (drop (n + 1) text) (passed_at is_skipped text text (drop (n + 1) text) n e l other refl refl)))
  where
    small : (get_or text n 0 ≡ 0x3E) ⊎ ((get_or text n 0 ≡ 0x25) ⊎ IsQuote (get_or text n 0)) → get_or text n 0 < 128
    small (inl i) = omega (arith, i)
    small (inr (inl i)) = omega (arith, i)
    small (inr (inr (inl i))) = omega (arith, i)
    small (inr (inr (inr i))) = omega (arith, i)

pub cut_literal : (references : Bool) (quote : ℕ) (text : List ℕ) (n : ℕ) → IsQuote quote → IsUtf8 text → n ≡ prefix_len (is_within references quote) text → n ≤ length text → n ≢ length text → IsCharBoundary text (n + 1)
cut_literal references quote text n q u e l other =
    IsCharBoundary-after_ascii text n u (omega (arith, l, other))
    (small q (ends_within references quote text (get_or text n 0) (drop (n + 1) text) (passed_at (is_within references quote) text text (drop (n + 1) text) n e l other refl refl)))
  where
    small : IsQuote quote → (get_or text n 0 ≡ quote) ⊎ (get_or text n 0 ≡ 0x25) → get_or text n 0 < 128
    small (inl j) (inl i) = omega (arith, i, j)
    small (inr j) (inl i) = omega (arith, i, j)
    small q (inr i) = omega (arith, i)

-- declarations that are skipped, from the front of the text to what is left of it
pub record Skips (references : Bool) (text rest : List ℕ) : Type 0 where
  pub forth : (o : Outcome (Unit {0})) → SkipsAt references rest o → SkipsAt references text o
  pub back : (o : Outcome (Unit {0})) → SkipsAt references text o → SkipsAt references rest o

pub skips_first : (references : Bool) (text : List ℕ) → Skips references text text
skips_first references text = record { forth = λ o a. a; back = λ o a. a }

pub quote_not : (q b : ℕ) → IsQuote q → (b ≡ 0x3E) ⊎ (b ≡ 0x25) → q ≡ b → ⊥
quote_not q b (inl i) (inl j) e = omega (arith, i, j, e)
quote_not q b (inl i) (inr j) e = omega (arith, i, j, e)
quote_not q b (inr i) (inl j) e = omega (arith, i, j, e)
quote_not q b (inr i) (inr j) e = omega (arith, i, j, e)

-- the quote that stands first
pub a_quote : (q : ℕ) → (q ≡ 0x3E) ⊎ ((q ≡ 0x25) ⊎ IsQuote q) → q ≢ 0x3E → q ≢ 0x25 → IsQuote q
a_quote q (inl e) m n = absurd (m e)
a_quote q (inr (inl e)) m n = absurd (n e)
a_quote q (inr (inr i)) m n = i

pub skips_more : (references : Bool) (text rest r after : List ℕ) (q : ℕ) → Skips references text rest → passed is_skipped rest ≡ q ∷ r → IsQuote q → passed (is_within references q) r ≡ q ∷ after
    → Skips references text after
skips_more references text rest r after q s e i f = record {
  forth = λ o a. s.forth o (literal e i f a);
  back = λ o a. behind o (s.back o a);
}
  where
    behind : (o : Outcome (Unit {0})) → SkipsAt references rest o → SkipsAt references after o
    behind o (t.closed g) = absurd (quote_not q 0x3E i (inl refl) (other_byte e g))
    behind o (t.reference g) = absurd (quote_not q 0x25 i (inr refl) (other_byte e g))
    behind o (literal {r = x} {rest = y} {quote = k} g j h a) =
        let here : passed (is_within references q) r ≡ q ∷ y =
        subst (λ z. passed (is_within references z) r ≡ z ∷ y) (other_byte g e) (subst (λ z. passed (is_within references k) z ≡ k ∷ y) (same_others (ap (λ z. z ∷ x) (other_byte e g) ∙ (sym g ∙ e))) h) in
        subst (λ z. SkipsAt references z o) (same_behind here f) a
    behind o (literal_reference {r = x} {rest = y} {quote = k} g j h) =
        let here : passed (is_within references q) r ≡ 0x25 ∷ y =
        subst (λ z. passed (is_within references z) r ≡ 0x25 ∷ y) (other_byte g e) (subst (λ z. passed (is_within references k) z ≡ 0x25 ∷ y) (same_others (ap (λ z. z ∷ x) (other_byte e g) ∙ (sym g ∙ e))) h) in
        absurd (quote_not q 0x25 i (inr refl) (other_byte f here))

pub skips_shorter : (references : Bool) (rest r after : List ℕ) (q : ℕ) → passed is_skipped rest ≡ q ∷ r → passed (is_within references q) r ≡ q ∷ after → length after < length rest
skips_shorter references rest r after q e f = let k = passed_left is_skipped q rest r e in let l = passed_left (is_within references q) q r after f in omega (arith, k, l)

pub skips_closed : (references : Bool) (text rest r : List ℕ) (b : ℕ) → Skips references text rest → passed is_skipped rest ≡ b ∷ r → b ≡ 0x3E → SkipsAt references text (read tt r)
skips_closed references text rest r b s e i = s.forth (read tt r) (t.closed (subst (λ z. passed is_skipped rest ≡ z ∷ r) i e))

pub skips_reference : (references : Bool) (text rest r : List ℕ) (b n : ℕ) → Skips references text rest → passed is_skipped rest ≡ b ∷ r → b ≡ 0x25 → n ≡ length r + 1
    → (at : List ℕ) × (n ≡ length at) × SkipsAt references text (refused (unsupported ParameterEntity) at)
skips_reference references text rest r b n s e i l =
    (0x25 ∷ r, omega (arith, l), s.forth (refused (unsupported ParameterEntity) (0x25 ∷ r)) (t.reference (subst (λ z. passed is_skipped rest ≡ z ∷ r) i e)))

pub literal_refers : (references : Bool) (text rest r after : List ℕ) (q b n : ℕ) → Skips references text rest → passed is_skipped rest ≡ q ∷ r → IsQuote q → passed (is_within references q) r ≡ b ∷ after
    → (b ≡ q) ⊎ (b ≡ 0x25) → b ≢ q → n ≡ length after + 1 → (at : List ℕ) × (n ≡ length at) × SkipsAt references text (refused (unsupported ParameterEntity) at)
literal_refers references text rest r after q b n s e i f (inl j) other l = absurd (other j)
literal_refers references text rest r after q b n s e i f (inr j) other l =
    (0x25 ∷ after, omega (arith, l), s.forth (refused (unsupported ParameterEntity) (0x25 ∷ after)) (literal_reference e i (subst (λ z. passed (is_within references q) r ≡ z ∷ after) j f)))

pub no_literal : (references : Bool) (text rest r : List ℕ) (q : ℕ) → Skips references text rest → passed is_skipped rest ≡ q ∷ r → IsQuote q
    → ((b : ℕ) (x : List ℕ) → passed (is_within references q) r ≡ b ∷ x → ⊥) → (o : Outcome (Unit {0})) → SkipsAt references text o → ⊥
no_literal references text rest r q s e i h o a = by o (s.back o a)
  where
    by : (o : Outcome (Unit {0})) → SkipsAt references rest o → ⊥
    by o (t.closed g) = quote_not q 0x3E i (inl refl) (other_byte e g)
    by o (t.reference g) = quote_not q 0x25 i (inr refl) (other_byte e g)
    by o (literal {r = x} {rest = y} {quote = k} g j l a) =
        h k y (subst (λ z. passed (is_within references z) r ≡ k ∷ y) (other_byte g e) (subst (λ z. passed (is_within references k) z ≡ k ∷ y) (same_others (ap (λ z. z ∷ x) (other_byte e g) ∙ (sym g ∙ e))) l))
    by o (literal_reference {r = x} {rest = y} {quote = k} g j l) =
        h 0x25 y (subst (λ z. passed (is_within references z) r ≡ 0x25 ∷ y) (other_byte g e) (subst (λ z. passed (is_within references k) z ≡ 0x25 ∷ y) (same_others (ap (λ z. z ∷ x) (other_byte e g) ∙ (sym g ∙ e))) l))

pub no_skip : (references : Bool) (text rest : List ℕ) → Skips references text rest → ((b : ℕ) (r : List ℕ) → passed is_skipped rest ≡ b ∷ r → ⊥) → (o : Outcome (Unit {0})) → SkipsAt references text o → ⊥
no_skip references text rest s h o a = by o (s.back o a)
  where
    by : (o : Outcome (Unit {0})) → SkipsAt references rest o → ⊥
    by o (t.closed {after = r} g) = h 0x3E r g
    by o (t.reference {r = r} g) = h 0x25 r g
    by o (literal {r = x} {quote = k} g j l a) = h k x g
    by o (literal_reference {r = x} {quote = k} g j l) = h k x g

-- declarations that aren't read

module _ (bs rest : List ℕ) (e : Stop) where
  pub attributes_stop : bs ≡ codes "<!ATTLIST" ++ rest → Stops e (SkipsAt false rest) → Stops e (SkippedAt bs)
  attributes_stop f = stops_map (SkipsAt false rest) (SkippedAt bs) e back (λ c at a. attributes f a)
    where
      back : (o : Outcome (Unit {0})) → SkippedAt bs o → (p : Outcome (Unit {0})) × SkipsAt false rest p
      back o (attributes {rest = r} g a) = (o, subst (λ z. SkipsAt false z o) (append_cancel_left (codes "<!ATTLIST") r rest (sym g ∙ f)) a)
      back o (notation g a) = absurd (omega (arith, same_first (same_others (same_others (sym f ∙ g)))))
      back o (entity g a) = absurd (omega (arith, same_first (same_others (same_others (sym f ∙ g)))))

  pub notation_stops : bs ≡ codes "<!NOTATION" ++ rest → Stops e (SkipsAt false rest) → Stops e (SkippedAt bs)
  notation_stops f = stops_map (SkipsAt false rest) (SkippedAt bs) e back (λ c at a. notation f a)
    where
      back : (o : Outcome (Unit {0})) → SkippedAt bs o → (p : Outcome (Unit {0})) × SkipsAt false rest p
      back o (attributes g a) = absurd (omega (arith, same_first (same_others (same_others (sym f ∙ g)))))
      back o (notation {rest = r} g a) = (o, subst (λ z. SkipsAt false z o) (append_cancel_left (codes "<!NOTATION") r rest (sym g ∙ f)) a)
      back o (entity g a) = absurd (omega (arith, same_first (same_others (same_others (sym f ∙ g)))))

  pub entity_stops : bs ≡ codes "<!ENTITY" ++ rest → Stops e (SkipsAt true rest) → Stops e (SkippedAt bs)
  entity_stops f = stops_map (SkipsAt true rest) (SkippedAt bs) e back (λ c at a. entity f a)
    where
      back : (o : Outcome (Unit {0})) → SkippedAt bs o → (p : Outcome (Unit {0})) × SkipsAt true rest p
      back o (attributes g a) = absurd (omega (arith, same_first (same_others (same_others (sym f ∙ g)))))
      back o (notation g a) = absurd (omega (arith, same_first (same_others (same_others (sym f ∙ g)))))
      back o (entity {rest = r} g a) = (o, subst (λ z. SkipsAt true z o) (append_cancel_left (codes "<!ENTITY") r rest (sym g ∙ f)) a)

pub none_skipped : (bs : List ℕ) → ((r : List ℕ) → bs ≡ codes "<!ATTLIST" ++ r → ⊥) → ((r : List ℕ) → bs ≡ codes "<!NOTATION" ++ r → ⊥) → ((r : List ℕ) → bs ≡ codes "<!ENTITY" ++ r → ⊥)
    → (o : Outcome (Unit {0})) → SkippedAt bs o → ⊥
none_skipped bs f g h o (attributes {rest = r} e a) = f r e
none_skipped bs f g h o (notation {rest = r} e a) = g r e
none_skipped bs f g h o (entity {rest = r} e a) = h r e

-- one declaration

module _ (deepest total : ℕ) (bs : List ℕ) where
  pub element_stops : (rest : List ℕ) (e : Stop) → bs ≡ codes "<!ELEMENT" ++ rest → Stops e (ElementAt deepest rest) → Stops e (MarkupAt deepest total bs)
  element_stops rest e f = stops_map (ElementAt deepest rest) (MarkupAt deepest total bs) e back (λ c at a. element f a refl)
    where
      no_skipped : (o : Outcome (Unit {0})) → SkippedAt bs o → ⊥
      no_skipped o (attributes g a) = omega (arith, same_first (same_others (same_others (sym f ∙ g))))
      no_skipped o (notation g a) = omega (arith, same_first (same_others (same_others (sym f ∙ g))))
      no_skipped o (entity g a) = omega (arith, same_first (same_others (same_others (same_others (sym f ∙ g)))))

      back : (o : Outcome (List Placed)) → MarkupAt deepest total bs o → (p : Outcome Declaration) × ElementAt deepest rest p
      back o (t.reference g) = absurd (omega (arith, other_byte f g))
      back o (section g) = absurd (omega (arith, same_first (same_others (same_others (sym f ∙ g)))))
      back o (element {r = r} {outcome = u} g a w) = (u, subst (λ z. ElementAt deepest z u) (append_cancel_left (codes "<!ELEMENT") r rest (sym g ∙ f)) a)
      back o (skipped {outcome = u} a w) = absurd (no_skipped u a)

  pub an_element_here : (rest after : List ℕ) (x : Declaration) (n : ℕ) → bs ≡ codes "<!ELEMENT" ++ rest → ElementAt deepest rest (read x after) → n ≡ place_of total bs
      → MarkupAt deepest total bs (read (placed n x ∷ []) after)
  an_element_here rest after x n e a f = element e a (ap (λ k. read (placed k x ∷ []) after) f)

  pub a_section : (r : List ℕ) → bs ≡ codes "<![" ++ r → (at : List ℕ) × (length bs ≡ length at) × MarkupAt deepest total bs (refused (unsupported ConditionalSection) at)
  a_section r e = (bs, refl, section e)

  pub a_reference : (r : List ℕ) → bs ≡ 0x25 ∷ r → (at : List ℕ) × (length bs ≡ length at) × MarkupAt deepest total bs (refused (unsupported ParameterEntity) at)
  a_reference r e = (bs, refl, t.reference e)

  pub unread_stops : (e : Stop) → ((r : List ℕ) → bs ≡ codes "<!ELEMENT" ++ r → ⊥) → ((r : List ℕ) → bs ≡ codes "<![" ++ r → ⊥) → ((r : List ℕ) → bs ≡ 0x25 ∷ r → ⊥) → Stops e (SkippedAt bs)
      → Stops e (MarkupAt deepest total bs)
  unread_stops e f g h = stops_map (SkippedAt bs) (MarkupAt deepest total bs) e back (λ c at a. skipped a refl)
    where
      back : (o : Outcome (List Placed)) → MarkupAt deepest total bs o → (p : Outcome (Unit {0})) × SkippedAt bs p
      back o (t.reference {r = r} i) = absurd (h r i)
      back o (section {r = r} i) = absurd (g r i)
      back o (element {r = r} i a w) = absurd (f r i)
      back o (skipped {outcome = u} a w) = (u, a)

  pub unread : (after : List ℕ) (xs : List Placed) → SkippedAt bs (read tt after) → (ys : List Placed) × (xs ≡ xs ++ ys) × MarkupAt deepest total bs (read ys after)
  unread after xs a = ([], nothing_more xs, skipped a refl)
    where
      nothing_more : (zs : List Placed) → zs ≡ zs ++ []
      nothing_more [] = refl
      nothing_more (z ∷ zs) = ap (λ w. z ∷ w) (nothing_more zs)

pub some_left : (bs : List ℕ) → false ≡ (length bs == 0) → bs ≢ []
some_left bs e i = true≢false (sym (ap (λ w. length w == 0) i) ∙ sym e)

pub none_left : (bs : List ℕ) → true ≡ (length bs == 0) → bs ≡ []
none_left [] e = refl
none_left (b ∷ bs) e = absurd (omega (arith, eqb-true (length (b ∷ bs)) 0 (sym e)))

-- all of them, from the front of the text to what is left of it
pub record Declares (deepest total : ℕ) (text rest : List ℕ) (all : List Placed) : Type 0 where
  pub forth : (o : Outcome (List Placed)) → DeclarationsAt deepest total rest o → DeclarationsAt deepest total text (outcome_map (λ xs. all ++ xs) o)
  pub back : (o : Outcome (List Placed)) → DeclarationsAt deepest total text o → (p : Outcome (List Placed)) × DeclarationsAt deepest total rest p

map_nothing : (o : Outcome (List Placed)) → outcome_map (λ xs. [] ++ xs) o ≡ o
map_nothing (read xs r) = refl
map_nothing (refused c at) = refl

pub declares_first : (deepest total : ℕ) (text : List ℕ) (all : List Placed) → all ≡ [] → Declares deepest total text text all
declares_first deepest total text all e =
    subst (Declares deepest total text text) (sym e) (record { forth = λ o a. subst (DeclarationsAt deepest total text) (sym (map_nothing o)) a; back = λ o a. (o, a) })

assoc : (xs ys zs : List Placed) → (xs ++ ys) ++ zs ≡ xs ++ (ys ++ zs)
assoc [] ys zs = refl
assoc (x ∷ xs) ys zs = ap (λ w. x ∷ w) (assoc xs ys zs)

map_twice : (all ys : List Placed) (o : Outcome (List Placed)) → outcome_map (λ xs. all ++ xs) (outcome_map (λ xs. ys ++ xs) o) ≡ outcome_map (λ xs. (all ++ ys) ++ xs) o
map_twice all ys (read xs r) = ap (λ w. read w r) (sym (assoc all ys xs))
map_twice all ys (refused c at) = refl

module _ (deepest total : ℕ) (text rest : List ℕ) (all : List Placed) (s : Declares deepest total text rest all) where
  not_empty : (o : Outcome (List Placed)) → MarkupAt deepest total rest o → rest ≡ [] → ⊥
  not_empty o (t.reference e) f = cc
  not_empty o (section e) f = cc
  not_empty o (element e a w) f = cc
  not_empty o (skipped (attributes e a) w) f = cc
  not_empty o (skipped (notation e a) w) f = cc
  not_empty o (skipped (entity e a) w) f = cc

  pub declares_more : (after next : List ℕ) (whole : List Placed) → (ys : List Placed) × (whole ≡ all ++ ys) × MarkupAt deepest total rest (read ys after) → MiscAt after next
      → Declares deepest total text next whole
  declares_more after next whole (ys, e, a) m = record {
    forth = λ o k. subst (λ w. DeclarationsAt deepest total text (outcome_map (λ xs. w ++ xs) o)) (sym e)
        (subst (DeclarationsAt deepest total text) (map_twice all ys o) (s.forth (outcome_map (λ xs. ys ++ xs) o) (markup a m k refl)));
    back = λ o k. let (p, n) = s.back o k in behind p n;
  }
    where
      behind : (p : Outcome (List Placed)) → DeclarationsAt deepest total rest p → (u : Outcome (List Placed)) × DeclarationsAt deepest total next u
      behind p (end f) = absurd (not_empty (read ys after) a f)
      behind p (markup_refused {at = at} {cause = c} b) = absurd (read_not (markup_unique deepest total rest (read ys after) (refused c at) a b))
      behind p (markup {rest = r} {next = x} {xs = xs} {outcome = u} b n k w) =
          let same = (read_same (markup_unique deepest total rest (read xs r) (read ys after) b a)).1 in
          (u, subst (λ z. DeclarationsAt deepest total z u) (misc_unique (subst (λ z. MiscAt z x) same n) m) k)

  pub markup_stops : (e : Stop) → rest ≢ [] → Stops e (MarkupAt deepest total rest) → Stops e (DeclarationsAt deepest total text)
  markup_stops e some =
      stops_map (MarkupAt deepest total rest) (DeclarationsAt deepest total text) e (λ o k. let (p, n) = s.back o k in by p n) (λ c at a. s.forth (refused c at) (markup_refused a))
    where
      by : (p : Outcome (List Placed)) → DeclarationsAt deepest total rest p → (u : Outcome (List Placed)) × MarkupAt deepest total rest u
      by p (end f) = absurd (some f)
      by p (markup_refused {at = at} {cause = c} b) = (refused c at, b)
      by p (markup {rest = r} {xs = xs} b n k w) = (read xs r, b)

  pub misc_stops : (after : List ℕ) (whole : List Placed) (e : Stop) → (ys : List Placed) × (whole ≡ all ++ ys) × MarkupAt deepest total rest (read ys after) → Stops e (Past MiscAt after)
      → Stops e (DeclarationsAt deepest total text)
  misc_stops after whole e (ys, i, a) = stops_map (Past MiscAt after) (DeclarationsAt deepest total text) e (λ o k. let (p, n) = s.back o k in by p n) (λ c at k. absurd (never c at k))
    where
      never : (c : Cause) (at : List ℕ) → Past MiscAt after (refused c at) → ⊥
      never c at k = is_past (refused c at) k refl
        where
          is_past : (o : Outcome (Unit {0})) → Past MiscAt after o → o ≡ refused c at → ⊥
          is_past o (past {after = r} m) f = read_not f

      by : (p : Outcome (List Placed)) → DeclarationsAt deepest total rest p → (u : Outcome (Unit {0})) × Past MiscAt after u
      by p (end f) = absurd (not_empty (read ys after) a f)
      by p (markup_refused {at = at} {cause = c} b) = absurd (read_not (markup_unique deepest total rest (read ys after) (refused c at) a b))
      by p (markup {rest = r} {next = x} {xs = xs} b n k w) =
          (read tt x, past (subst (λ z. MiscAt z x) (read_same (markup_unique deepest total rest (read xs r) (read ys after) b a)).1 n))

  pub declares_end : rest ≡ [] → DeclarationsAt deepest total text (read all [])
  declares_end e = subst (λ w. DeclarationsAt deepest total text (read w [])) (nothing_more all) (s.forth (read [] []) (end e))
    where
      nothing_more : (zs : List Placed) → zs ++ [] ≡ zs
      nothing_more [] = refl
      nothing_more (z ∷ zs) = ap (λ w. z ∷ w) (nothing_more zs)

  pub declares_shorter : (after next : List ℕ) (whole : List Placed) → (ys : List Placed) × (whole ≡ all ++ ys) × MarkupAt deepest total rest (read ys after) → MiscAt after next → length next < length rest
  declares_shorter after next whole (ys, e, a) m = let k = markup_left deepest total rest (read ys after) a tt in let l = misc_left after next m in omega (arith, k, l)

-- whole texts

module _ (deepest : ℕ) (bytes start : List ℕ) (e : start ≡ after_mark bytes) where
  abbrev All : List ℕ → Outcome (List Placed) → Type 0
  All = DeclarationsAt deepest (length bytes)

  pub no_prolog : (x : Stop) → Stops x (t.TextDeclarationAt start) → Stops x (TextAt deepest bytes)
  no_prolog x s = subst (λ w. Stops x (Then t.TextDeclarationAt (λ _. Then (Past MiscAt) (λ _. All)) w)) e (stops_first t.TextDeclarationAt (λ _. Then (Past MiscAt) (λ _. All)) start x s)

  pub no_misc : (mid : List ℕ) (x : Stop) → t.TextDeclarationAt start (read tt mid) → Stops x (Past MiscAt mid) → Stops x (TextAt deepest bytes)
  no_misc mid x a s =
      subst (λ w. Stops x (Then t.TextDeclarationAt (λ _. Then (Past MiscAt) (λ _. All)) w)) e
      (stops_second t.TextDeclarationAt (λ _. Then (Past MiscAt) (λ _. All)) text_declaration_unique start mid tt x a (stops_first (Past MiscAt) (λ _. All) mid x s))

  pub no_declarations : (mid first : List ℕ) (x : Stop) → t.TextDeclarationAt start (read tt mid) → MiscAt mid first → Stops x (All first) → Stops x (TextAt deepest bytes)
  no_declarations mid first x a m s =
      subst (λ w. Stops x (Then t.TextDeclarationAt (λ _. Then (Past MiscAt) (λ _. All)) w)) e
      (stops_second t.TextDeclarationAt (λ _. Then (Past MiscAt) (λ _. All)) text_declaration_unique start mid tt x a
      (stops_second (Past MiscAt) (λ _. All) misc_past_unique mid first tt x (past m) s))

  pub a_text : (mid first : List ℕ) (found : List Placed) → t.TextDeclarationAt start (read tt mid) → MiscAt mid first → All first (read found []) → TextAt deepest bytes (read found [])
  a_text mid first found a m k = subst (λ w. Then t.TextDeclarationAt (λ _. Then (Past MiscAt) (λ _. All)) w (read found [])) e (goes_on a (goes_on (past m) k))

-- a run ends at a byte, or goes on with it
pub run_ends : (test : ℕ → Bool) (text bs : List ℕ) (count i : ℕ) → count + prefix_len test (drop i text) ≡ prefix_len test text → bs ≡ text → i < length bs → test (get_or bs i 0) ≡ false → count ≡ prefix_len test text
run_ends test text bs count i e same l stops =
    let at : drop i text ≡ get_or bs i 0 ∷ drop (i + 1) text = subst (λ w. drop i w ≡ get_or bs i 0 ∷ drop (i + 1) w) same (drop_more bs i 0 l) in
    let none : prefix_len test (drop i text) ≡ 0 = ap (prefix_len test) at ∙ cond-false (test (get_or bs i 0)) (1 + prefix_len test (drop (i + 1) text)) 0 stops in
    omega (arith, e, none)

pub run_goes_on : (test : ℕ → Bool) (text bs : List ℕ) (count i : ℕ) → count + prefix_len test (drop i text) ≡ prefix_len test text → bs ≡ text → i < length bs → test (get_or bs i 0) ≡ true
    → (count + 1) + prefix_len test (drop (i + 1) text) ≡ prefix_len test text
run_goes_on test text bs count i e same l passes =
    let at : drop i text ≡ get_or bs i 0 ∷ drop (i + 1) text = subst (λ w. drop i w ≡ get_or bs i 0 ∷ drop (i + 1) w) same (drop_more bs i 0 l) in
    let one : prefix_len test (drop i text) ≡ 1 + prefix_len test (drop (i + 1) text) = ap (prefix_len test) at ∙ cond-true (test (get_or bs i 0)) (1 + prefix_len test (drop (i + 1) text)) 0 passes in
    omega (arith, e, one)

pub run_over : (test : ℕ → Bool) (text bs : List ℕ) (count i : ℕ) → count + prefix_len test (drop i text) ≡ prefix_len test text → bs ≡ text → length bs ≤ i → count ≡ prefix_len test text
run_over test text bs count i e same l =
    let none : prefix_len test (drop i text) ≡ 0 = ap (prefix_len test) (drop_all text i (omega (arith, ap length same, l))) in
    omega (arith, e, none)
  where
    drop_all : (xs : List ℕ) (n : ℕ) → length xs ≤ n → drop n xs ≡ []
    drop_all xs n h = empty (drop n xs) (omega (arith, length-drop n xs, h))
      where
        empty : (ys : List ℕ) → length ys ≤ 0 → ys ≡ []
        empty [] k = refl
        empty (y ∷ ys) k = absurd (omega (arith, k))

pub quote_ends : (references : Bool) (quote b : ℕ) → b ≡ quote → is_within references quote b ≡ false
quote_ends references quote b e = ap (λ x. not (x || (references && b == 0x25))) (eq-eqb b quote e)

pub reference_ends : (references : Bool) (quote b : ℕ) → (references && b == 0x25) ≡ true → is_within references quote b ≡ false
reference_ends references quote b e = ap (λ y. not ((b == quote) || y)) e ∙ by (b == quote)
  where
    by : (x : Bool) → not (x || true) ≡ false
    by true = refl
    by false = refl

pub stays_within : (references : Bool) (quote b : ℕ) → (b ≡ quote → ⊥) → (references && b == 0x25) ≡ false → is_within references quote b ≡ true
stays_within references quote b differs e = ap (λ x. not (x || (references && b == 0x25))) (ne_eqb b quote differs) ∙ ap (λ y. not (false || y)) e

pub is_reference : (references value : Bool) (b : ℕ) → value ≡ true → ((references ≡ true) × (value ≡ (b == 0x25))) ⊎ (value ≡ false) → (references && b == 0x25) ≡ true
is_reference references value b e (inl (r, v)) = ap (λ u. u && b == 0x25) r ∙ (sym v ∙ e)
is_reference references value b e (inr v) = absurd (true≢false (sym e ∙ v))

pub skip_ends : (b : ℕ) → (b ≡ 34) ⊎ ((b ≡ 37) ⊎ ((b ≡ 39) ⊎ (b ≡ 62))) → is_skipped b ≡ false
skip_ends b (inl e) = subst (λ x. is_skipped x ≡ false) (sym e) refl
skip_ends b (inr (inl e)) = subst (λ x. is_skipped x ≡ false) (sym e) refl
skip_ends b (inr (inr (inl e))) = subst (λ x. is_skipped x ≡ false) (sym e) refl
skip_ends b (inr (inr (inr e))) = subst (λ x. is_skipped x ≡ false) (sym e) refl
