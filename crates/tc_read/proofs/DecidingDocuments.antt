-- Each text has a document or is refused.
use Rattle.std.proofs.Common.{◌≡◌, ◌⊎◌, inl, inr, ℕ, false, List, [], ◌∷◌, ◌++◌, refl, ap, ◌∙◌, sym, subst, length, arith, codes}
use Rattle.tc_base.specs.declared.reasons.Why.{Why}
use Rattle.tc_base.specs.declared.reasons.Why.TheVariants.{DoctypeSubset, Encoding, XmlVersion}
use Rattle.tc_model.specs.Names.{IsChars}
use Rattle.tc_model.specs.RawTrees.{RawTrees, none}
use Rattle.tc_model.specs.XmlText.{after_mark, Reads, XmlText, deepest_element}
use Rattle.tc_model.specs.XmlTextBytes.{place_of, FrontOf, BeginsWithWhite, after_white, LiteralAt}
use Rattle.tc_model.specs.XmlTextContent.{piece_before, ElementAt}
use Rattle.tc_model.specs.XmlTextNames.{QNameAt}
use Rattle.tc_model.specs.XmlTextMisc as m
use Rattle.tc_model.specs.XmlTextMisc.{SettingAt, IsReadEncoding, EncodingAt, StandaloneAt, DeclarationAt, no_declaration, declaration, MiscAt, ExternalIdAt, DoctypeFrontAt, DoctypeAt, no_doctype, doctype}
use Rattle.tc_model.specs.XmlTextRefusals as f
use Rattle.tc_model.specs.XmlTextRefusals.{Cause, unsupported, DeclarationRefuses, version, encoding, ElementRefuses, DocumentRefuses, subset, element, XmlTextRefuses}
use Rattle.tc_model.specs.XmlTextScopes.{first_scope}
use Rattle.tc_model.proofs.XmlTextPhrases.{same_first, same_others, qname_unique, literal_unique, setting_unique, encoding_unique, standalone_unique, declaration_unique, misc_unique, doctype_front_unique, doctype_unique}
use Rattle.tc_model.proofs.XmlTextRefused.{whole_front, front_unique, front_same, start_same, declaration_no_declaration, subset_no_doctype, element_no_element, document_no_reading}
use Rattle.tc_model.proofs.XmlTextUnique.{element_unique}
use Rattle.tc_sheet.proofs.DecidingBytes.{Decided, bytes_are, begins, begins_with, same_after, literal_here}
use Rattle.tc_sheet.proofs.DecidingNames.{qname_here}
use Rattle.tc_read.proofs.DecidingMisc.{front_here, misc_here}
use Rattle.tc_read.proofs.DecidingSettings.{some_white, lacks_or, setting_here, read_encoding, standalone_here}
use Rattle.tc_read.proofs.DecidingTags.{Known}
use Rattle.tc_read.proofs.DecidingElements.{ElementHere, ElementStops, element_here}

-- an XML declaration
abbrev DeclarationHere : List ℕ → Type 0
DeclarationHere bs = (after : List ℕ) × DeclarationAt bs after

abbrev DeclarationStops : List ℕ → Type 0
DeclarationStops bs = (why : Why) × ((at : List ℕ) × DeclarationRefuses bs why at)

abbrev DeclarationKnown : List ℕ → Type 0
DeclarationKnown bs = Known (DeclarationHere bs) (DeclarationStops bs)

module _ (bs rest : List ℕ) (e : bs ≡ codes "<?xml" ++ rest) (w : BeginsWithWhite rest) where
  its_setting : {z word v after : List ℕ} → bs ≡ codes "<?xml" ++ z → SettingAt word z v after → SettingAt word rest v after
  its_setting {word = word} {v = v} {after = after} g s = subst (λ y. SettingAt word y v after) (start_same g e) s

  no_version : ((v after : List ℕ) → SettingAt (codes "version") rest v after → ⊥) → DeclarationKnown bs
  no_version h = inr (inr ((λ x. none x.0 x.1), (λ x. no_stop x.0 x.1.0 x.1.1)))
    where
      none : (after : List ℕ) → DeclarationAt bs after → ⊥
      none after (no_declaration n) = n rest e w
      none after (declaration {past_version = p} g s en st l) = h (codes "1.0") p (its_setting g s)

      no_stop : (why : Why) (at : List ℕ) → DeclarationRefuses bs why at → ⊥
      no_stop why at (version {value = v} {after = a} g s o) = h v a (its_setting g s)
      no_stop why at (encoding {past_version = p} g s t o) = h (codes "1.0") p (its_setting g s)

  module _ (past : List ℕ) (s : SettingAt (codes "version") rest (codes "1.0") past) where
    same_past : {z v p : List ℕ} → bs ≡ codes "<?xml" ++ z → SettingAt (codes "version") z v p → p ≡ past
    same_past g t = (setting_unique (its_setting g t) s).1

    same_version : {z v p : List ℕ} → bs ≡ codes "<?xml" ++ z → SettingAt (codes "version") z v p → v ≡ codes "1.0"
    same_version g t = (setting_unique (its_setting g t) s).0

    -- no encoding that is read, and none that isn't
    no_encoding : ((after : List ℕ) → EncodingAt past after → ⊥) → ((v after : List ℕ) → SettingAt (codes "encoding") past v after → (IsReadEncoding v → ⊥) → ⊥) → DeclarationKnown bs
    no_encoding h k = inr (inr ((λ x. none x.0 x.1), (λ x. no_stop x.0 x.1.0 x.1.1)))
      where
        none : (after : List ℕ) → DeclarationAt bs after → ⊥
        none after (no_declaration n) = n rest e w
        none after (declaration {past_encoding = p} g t en st l) = h p (subst (λ y. EncodingAt y p) (same_past g t) en)

        no_stop : (why : Why) (at : List ℕ) → DeclarationRefuses bs why at → ⊥
        no_stop why at (version g t o) = o (same_version g t)
        no_stop why at (encoding {value = v} {after = a} g t u o) = k v a (subst (λ y. SettingAt (codes "encoding") y v a) (same_past g t) u) o

    module _ (behind : List ℕ) (en : EncodingAt past behind) where
      no_refusal : (why : Why) (at : List ℕ) → DeclarationRefuses bs why at → ⊥
      no_refusal why at (version g t o) = o (same_version g t)
      no_refusal why at (encoding {value = v} {after = a} g t u o) = read_or_not en (subst (λ y. SettingAt (codes "encoding") y v a) (same_past g t) u) o
        where
          read_or_not : {p q v a : List ℕ} → EncodingAt p q → SettingAt (codes "encoding") p v a → (IsReadEncoding v → ⊥) → ⊥
          read_or_not (m.no_encoding l) u o = l u.behind u.names
          read_or_not (m.encoding x y) u o = o (subst IsReadEncoding (setting_unique x u).0 y)

      unfinished : ((p after : List ℕ) → StandaloneAt behind p → after_white p ≡ codes "?>" ++ after → ⊥) → DeclarationKnown bs
      unfinished h = inr (inr ((λ x. none x.0 x.1), (λ x. no_refusal x.0 x.1.0 x.1.1)))
        where
          none : (after : List ℕ) → DeclarationAt bs after → ⊥
          none after (no_declaration n) = n rest e w
          none after (declaration {past_encoding = p} {past_standalone = q} g t en' st l) =
              h q after (subst (λ y. StandaloneAt y q) (encoding_unique (subst (λ y. EncodingAt y p) (same_past g t) en') en) st) l

      finished : DeclarationKnown bs
      finished = elim (standalone_here behind) [
        | inr h ↦ unfinished (λ p after st l. h p st)
        | inl (q, st) ↦ elim (begins_with (codes "?>") (after_white q)) [
          | inl (after, l) ↦ inl (after, declaration e s en st l)
          | inr h ↦ unfinished (λ p after u l. h after (ap after_white (standalone_unique st u) ∙ l))
        ]
      ]

    with_version : DeclarationKnown bs
    with_version = elim (lacks_or (codes "encoding") past) [
      | inl l ↦ finished past (m.no_encoding l)
      | inr (r, g) ↦ elim (setting_here (codes "encoding") past) [
        | inr h ↦ no_encoding (λ after en. no_word r g h after en) (λ v a t o. h v a t)
        | inl (v, (after, t)) ↦ elim (read_encoding v) [
          | inl y ↦ finished after (m.encoding t y)
          | inr o ↦ inr (inl (Encoding, (after_white past, encoding e s t o)))
        ]
      ]
    ]
      where
        no_word : (r : List ℕ) → after_white past ≡ codes "encoding" ++ r → ((v after : List ℕ) → SettingAt (codes "encoding") past v after → ⊥) → (after : List ℕ) → EncodingAt past after → ⊥
        no_word r g h after (m.no_encoding l) = l r g
        no_word r g h after (m.encoding {value = v} t y) = h v after t

declaration_here : (bs : List ℕ) → DeclarationKnown bs
declaration_here bs = elim (begins_with (codes "<?xml") bs) [
  | inr h ↦ inl (bs, no_declaration (λ r e w. h r e))
  | inl (rest, e) ↦ elim (some_white rest) [
    | inr h ↦ inl (bs, no_declaration (λ r g w. h (subst BeginsWithWhite (start_same g e) w)))
    | inl w ↦ elim (setting_here (codes "version") rest) [
      | inr h ↦ no_version bs rest e w h
      | inl (v, (past, s)) ↦ elim (bytes_are v (codes "1.0")) [
        | inl same ↦ with_version bs rest e w past (subst (λ z. SettingAt (codes "version") rest z past) same s)
        | inr o ↦ inr (inl (XmlVersion, (after_white rest, version e s o)))
      ]
    ]
  ]
]

-- an external identifier
abbrev WordHere : List ℕ → List ℕ → Type 0
WordHere word bs = (rest : List ℕ) × ((value : List ℕ) × ((after : List ℕ) × ((after_white bs ≡ word ++ rest) × (BeginsWithWhite rest × LiteralAt (after_white rest) value after))))

word_here : (word bs : List ℕ) → WordHere word bs ⊎ ((rest value after : List ℕ) → after_white bs ≡ word ++ rest → BeginsWithWhite rest → LiteralAt (after_white rest) value after → ⊥)
word_here word bs = elim (begins_with word (after_white bs)) [
  | inr h ↦ inr (λ rest value after e w l. h rest e)
  | inl (rest, e) ↦ elim (some_white rest) [
    | inr h ↦ inr (λ z value after g w l. h (subst BeginsWithWhite (same_after word (after_white bs) z rest g e) w))
    | inl w ↦ elim (literal_here (after_white rest)) [
      | inl (value, (after, l)) ↦ inl (rest, (value, (after, (e, (w, l)))))
      | inr h ↦ inr (λ z value after g v l. h value after (subst (λ y. LiteralAt (after_white y) value after) (same_after word (after_white bs) z rest g e) l))
    ]
  ]
]

abbrev ExternalHere : List ℕ → Type 0
ExternalHere bs = (after : List ℕ) × ExternalIdAt bs after

external_here : (bs : List ℕ) → ExternalHere bs ⊎ ((after : List ℕ) → ExternalIdAt bs after → ⊥)
external_here bs = elim (begins 0x3E (after_white bs)) [
  | inl (r, e) ↦ inl (bs, m.no_id (inl e))
  | inr a ↦ elim (begins 0x5B (after_white bs)) [
    | inl (r, e) ↦ inl (bs, m.no_id (inr e))
    | inr b ↦ elim (some_white bs) [
      | inr h ↦ inr (no_white a b h)
      | inl w ↦ elim (word_here (codes "SYSTEM") bs) [
        | inl (rest, (v, (after, (e, (u, l))))) ↦ inl (after, m.system w e u l)
        | inr s ↦ elim (word_here (codes "PUBLIC") bs) [
          | inr p ↦ inr (no_word a b s p)
          | inl (rest, (v, (past, (e, (u, l))))) ↦ elim (some_white past) [
            | inr h ↦ inr (no_second a b s rest v past e l (λ second after j i. h j))
            | inl k ↦ elim (literal_here (after_white past)) [
              | inl (second, (after, i)) ↦ inl (after, m.public w e u l k i)
              | inr h ↦ inr (no_second a b s rest v past e l (λ second after j i. h second after i))
            ]
          ]
        ]
      ]
    ]
  ]
]
  where
    no_white : ((r : List ℕ) → after_white bs ≡ 0x3E ∷ r → ⊥) → ((r : List ℕ) → after_white bs ≡ 0x5B ∷ r → ⊥) → (BeginsWithWhite bs → ⊥) → (after : List ℕ) → ExternalIdAt bs after → ⊥
    no_white a b h after (m.no_id {r = r} (inl e)) = a r e
    no_white a b h after (m.no_id {r = r} (inr e)) = b r e
    no_white a b h after (m.system w e u l) = h w
    no_white a b h after (m.public w e u l k i) = h w

    no_word : ((r : List ℕ) → after_white bs ≡ 0x3E ∷ r → ⊥) → ((r : List ℕ) → after_white bs ≡ 0x5B ∷ r → ⊥)
        → ((rest value after : List ℕ) → after_white bs ≡ codes "SYSTEM" ++ rest → BeginsWithWhite rest → LiteralAt (after_white rest) value after → ⊥)
        → ((rest value after : List ℕ) → after_white bs ≡ codes "PUBLIC" ++ rest → BeginsWithWhite rest → LiteralAt (after_white rest) value after → ⊥) → (after : List ℕ) → ExternalIdAt bs after → ⊥
    no_word a b s p after (m.no_id {r = r} (inl e)) = a r e
    no_word a b s p after (m.no_id {r = r} (inr e)) = b r e
    no_word a b s p after (m.system {rest = rest} {value = v} w e u l) = s rest v after e u l
    no_word a b s p after (m.public {rest = rest} {value = v} {past_first = past} w e u l k i) = p rest v past e u l

    no_second : ((r : List ℕ) → after_white bs ≡ 0x3E ∷ r → ⊥) → ((r : List ℕ) → after_white bs ≡ 0x5B ∷ r → ⊥)
        → ((rest value after : List ℕ) → after_white bs ≡ codes "SYSTEM" ++ rest → BeginsWithWhite rest → LiteralAt (after_white rest) value after → ⊥)
        → (rest v past : List ℕ) → after_white bs ≡ codes "PUBLIC" ++ rest → LiteralAt (after_white rest) v past
        → ((second after : List ℕ) → BeginsWithWhite past → LiteralAt (after_white past) second after → ⊥) → (after : List ℕ) → ExternalIdAt bs after → ⊥
    no_second a b s rest v past e l h after (m.no_id {r = r} (inl g)) = a r g
    no_second a b s rest v past e l h after (m.no_id {r = r} (inr g)) = b r g
    no_second a b s rest v past e l h after (m.system {rest = z} {value = x} w g u k) = s z x after g u k
    no_second a b s rest v past e l h after (m.public {rest = z} {value = x} {past_first = y} {second = t} w g u k j i) =
        let same : y ≡ past = (literal_unique (subst (λ q. LiteralAt (after_white q) x y) (same_after (codes "PUBLIC") (after_white bs) z rest g e) k) l).1 in
        h t after (subst BeginsWithWhite same j) (subst (λ q. LiteralAt (after_white q) t after) same i)

-- a doctype
abbrev FrontHere : List ℕ → Type 0
FrontHere bs = (after : List ℕ) × DoctypeFrontAt bs after

doctype_front_here : (bs : List ℕ) → FrontHere bs ⊎ ((after : List ℕ) → DoctypeFrontAt bs after → ⊥)
doctype_front_here bs = elim (begins_with (codes "<!DOCTYPE") bs) [
  | inr h ↦ inr (λ after a. h a.rest a.opens)
  | inl (rest, e) ↦ elim (some_white rest) [
    | inr h ↦ inr (λ after a. h (subst BeginsWithWhite (same_after (codes "<!DOCTYPE") bs a.rest rest a.opens e) a.white))
    | inl w ↦ elim (qname_here (after_white rest)) [
      | inr h ↦ inr (λ after a. h (a.name, (a.past_name, its_name rest e a)))
      | inl (n, (past, q)) ↦ elim (external_here past) [
        | inr h ↦ inr (λ after a. h a.past_id (subst (λ y. ExternalIdAt y a.past_id) (qname_unique (its_name rest e a) q).1 a.external))
        | inl (id, x) ↦ inl (after_white id, record { rest = rest; name = n; past_name = past; past_id = id; opens = e; white = w; names = q; external = x; past = refl })
      ]
    ]
  ]
]
  where
    its_name : (rest : List ℕ) → bs ≡ codes "<!DOCTYPE" ++ rest → {after : List ℕ} (a : DoctypeFrontAt bs after) → QNameAt (after_white rest) a.name a.past_name
    its_name rest e a = subst (λ y. QNameAt (after_white y) a.name a.past_name) (same_after (codes "<!DOCTYPE") bs a.rest rest a.opens e) a.names

abbrev RootHere : List ℕ → Type 0
RootHere bs = (root : List ℕ) × DoctypeAt bs root

abbrev SubsetHere : List ℕ → Type 0
SubsetHere bs = (r : List ℕ) × DoctypeFrontAt bs (0x5B ∷ r)

module _ (bs r : List ℕ) (e : bs ≡ codes "<!DOCTYPE" ++ r) where
  rootless : ((after root : List ℕ) → DoctypeFrontAt bs (0x3E ∷ after) → MiscAt after root → ⊥) → ((s : List ℕ) → DoctypeFrontAt bs (0x5B ∷ s) → ⊥) → Known (RootHere bs) (SubsetHere bs)
  rootless h k = inr (inr ((λ x. none x.0 x.1), (λ x. k x.0 x.1)))
    where
      none : (root : List ℕ) → DoctypeAt bs root → ⊥
      none root (no_doctype n) = n r e
      none root (doctype {rest = z} d a) = h z root d a

  of_front : FrontHere bs → Known (RootHere bs) (SubsetHere bs)
  of_front (after, d) = elim (begins 0x3E after) [
    | inl (z, g) ↦ elim (misc_here z) [
      | inl (root, a) ↦ inl (root, doctype (subst (DoctypeFrontAt bs) g d) a)
      | inr h ↦ rootless (λ y root x a. h root (subst (λ q. MiscAt q root) (same_others (doctype_front_unique x (subst (DoctypeFrontAt bs) g d))) a)) (λ s x. not_both (doctype_front_unique x (subst (DoctypeFrontAt bs) g d)))
    ]
    | inr h ↦ elim (begins 0x5B after) [
      | inl (z, g) ↦ inr (inl (z, subst (DoctypeFrontAt bs) g d))
      | inr k ↦ rootless (λ y root x a. h y (doctype_front_unique d x)) (λ s x. k s (doctype_front_unique d x))
    ]
  ]
    where
      not_both : {x y : List ℕ} → 0x5B ∷ x ≡ 0x3E ∷ y → ⊥
      not_both g = omega (arith, same_first g)

root_here : (bs : List ℕ) → Known (RootHere bs) (SubsetHere bs)
root_here bs = elim (begins_with (codes "<!DOCTYPE") bs) [
  | inr h ↦ inl (bs, no_doctype h)
  | inl (r, e) ↦ elim (doctype_front_here bs) [
    | inr h ↦ rootless bs r e (λ z root d a. h (0x3E ∷ z) d) (λ s d. h (0x5B ∷ s) d)
    | inl x ↦ of_front bs r e x
  ]
]

-- a document
module _ (deepest : ℕ) (text : List ℕ) (chars : IsChars text) where
  abbrev TreeHere : Type 0
  TreeHere = (h : RawTrees) × Reads false deepest text h

  abbrev TreeStops : Type 0
  TreeStops = (c : Cause) × ((at : List ℕ) × DocumentRefuses deepest text c at)

  neither : ((h : RawTrees) → Reads false deepest text h → ⊥) → ((c : Cause) (at : List ℕ) → DocumentRefuses deepest text c at → ⊥) → Known TreeHere TreeStops
  neither h k = inr (inr ((λ x. h x.0 x.1), (λ x. k x.0 x.1.0 x.1.1)))

  undeclared : (DeclarationHere (after_mark text) → ⊥) → (DeclarationStops (after_mark text) → ⊥) → Known TreeHere TreeStops
  undeclared h k = neither (λ t a. h (a.past_declaration, a.declaration)) no_stop
    where
      no_stop : (c : Cause) (at : List ℕ) → DocumentRefuses deepest text c at → ⊥
      no_stop c at (f.declaration {why = why} x) = k (why, (at, x))
      no_stop c at (subset {past_declaration = p} d a x) = h (p, d)
      no_stop c at (element {past_declaration = p} d a x y) = h (p, d)

  module _ (past : List ℕ) (d : DeclarationAt (after_mark text) past) where
    no_misc : ((pm : List ℕ) → MiscAt past pm → ⊥) → Known TreeHere TreeStops
    no_misc h = neither (λ t a. h a.past_misc (subst (λ y. MiscAt y a.past_misc) (declaration_unique a.declaration d) a.misc)) no_stop
      where
        no_stop : (c : Cause) (at : List ℕ) → DocumentRefuses deepest text c at → ⊥
        no_stop c at (f.declaration x) = declaration_no_declaration x d
        no_stop c at (subset {past_misc = p} e a x) = h p (subst (λ y. MiscAt y p) (declaration_unique e d) a)
        no_stop c at (element {past_misc = p} e a x z) = h p (subst (λ y. MiscAt y p) (declaration_unique e d) a)

    module _ (pm : List ℕ) (mi : MiscAt past pm) where
      same_misc : {p q : List ℕ} → DeclarationAt (after_mark text) p → MiscAt p q → q ≡ pm
      same_misc e a = front_same e d a mi

      no_root : (RootHere pm → ⊥) → (SubsetHere pm → ⊥) → Known TreeHere TreeStops
      no_root h k = neither (λ t a. h (a.root, subst (λ y. DoctypeAt y a.root) (same_misc a.declaration a.misc) a.doctype)) no_stop
        where
          no_stop : (c : Cause) (at : List ℕ) → DocumentRefuses deepest text c at → ⊥
          no_stop c at (f.declaration x) = declaration_no_declaration x d
          no_stop c at (subset {r = r} e a x) = k (r, subst (λ y. DoctypeFrontAt y (0x5B ∷ r)) (same_misc e a) x)
          no_stop c at (element {root = root} e a x z) = h (root, subst (λ y. DoctypeAt y root) (same_misc e a) x)

      module _ (root : List ℕ) (dt : DoctypeAt pm root) where
        same_root : {p q z : List ℕ} → DeclarationAt (after_mark text) p → MiscAt p q → DoctypeAt q z → z ≡ root
        same_root {z = z} e a x = doctype_unique (subst (λ y. DoctypeAt y z) (same_misc e a) x) dt

        no_stop_but : ((c : Cause) (at : List ℕ) → ElementRefuses (length text) first_scope deepest root c at → ⊥) → (c : Cause) (at : List ℕ) → DocumentRefuses deepest text c at → ⊥
        no_stop_but h c at (f.declaration x) = declaration_no_declaration x d
        no_stop_but h c at (subset {r = r} e a x) = subset_no_doctype (subst (λ y. DoctypeFrontAt y (0x5B ∷ r)) (same_misc e a) x) dt
        no_stop_but h c at (element {root = z} e a x y) = h c at (subst (λ q. ElementRefuses (length text) first_scope deepest q c at) (same_root e a x) y)

        no_element : (ElementHere (length text) first_scope deepest root → ⊥) → (ElementStops (length text) first_scope deepest root → ⊥) → Known TreeHere TreeStops
        no_element h k =
            neither (λ t a. h (a.piece, (a.past_root, subst (λ q. ElementAt false (length text) first_scope deepest q a.piece a.past_root) (same_root a.declaration a.misc a.doctype) a.element))) (no_stop_but (λ c at x. k (c, (at, x))))

        of_element : Known (ElementHere (length text) first_scope deepest root) (ElementStops (length text) first_scope deepest root) → Known TreeHere TreeStops
        of_element (inr (inl (c, (at, x)))) = inr (inl (c, (at, element d mi dt x)))
        of_element (inr (inr h)) = no_element h.0 h.1
        of_element (inl (piece, (after, el))) = by (misc_here after)
          where
            no_end : (MiscAt after [] → ⊥) → Known TreeHere TreeStops
            no_end h =
                neither
                (λ t a. h (subst (λ q. MiscAt q []) (element_unique (subst (λ q. ElementAt false (length text) first_scope deepest q a.piece a.past_root) (same_root a.declaration a.misc a.doctype) a.element) el).1 a.end))
                (no_stop_but (λ c at x. element_no_element x el))

            by : ((end : List ℕ) × MiscAt after end) ⊎ ((end : List ℕ) → MiscAt after end → ⊥) → Known TreeHere TreeStops
            by (inr h) = no_end (h [])
            by (inl (end, a)) = elim (bytes_are end []) [
              | inr h ↦ no_end (λ b. h (misc_unique a b))
              | inl e ↦ inl (
                piece_before piece none,
                record {
                  past_declaration = past;
                  past_misc = pm;
                  root = root;
                  past_root = after;
                  piece = piece;
                  characters = chars;
                  declaration = d;
                  misc = mi;
                  doctype = dt;
                  element = el;
                  end = subst (MiscAt after) e a;
                  is_tree = refl;
                },
              )
            ]

      of_root : Known (RootHere pm) (SubsetHere pm) → Known TreeHere TreeStops
      of_root (inl (root, dt)) = of_element root dt (element_here (length text) deepest first_scope root)
      of_root (inr (inl (r, x))) = inr (inl (unsupported DoctypeSubset, (0x5B ∷ r, subset d mi x)))
      of_root (inr (inr h)) = no_root h.0 h.1

    of_misc : ((pm : List ℕ) × MiscAt past pm) ⊎ ((pm : List ℕ) → MiscAt past pm → ⊥) → Known TreeHere TreeStops
    of_misc (inr h) = no_misc h
    of_misc (inl (pm, mi)) = of_root pm mi (root_here pm)

  tree_here : Known TreeHere TreeStops
  tree_here = by (declaration_here (after_mark text))
    where
      by : DeclarationKnown (after_mark text) → Known TreeHere TreeStops
      by (inl (past, d)) = of_misc past d (misc_here past)
      by (inr (inl (why, (at, x)))) = inr (inl (unsupported why, (at, f.declaration x)))
      by (inr (inr h)) = undeclared h.0 h.1

-- of any bytes
abbrev pub TreeOrRefusal : List ℕ → Type 0
TreeOrRefusal bytes = ((h : RawTrees) × XmlText bytes h) ⊎ (((c : Cause) × ((k : ℕ) × XmlTextRefuses bytes c k)) ⊎ (((h : RawTrees) → XmlText bytes h → ⊥) × ((c : Cause) (k : ℕ) → XmlTextRefuses bytes c k → ⊥)))

pub tree_or_refusal_here : (bytes : List ℕ) → TreeOrRefusal bytes
tree_or_refusal_here bytes = let (front, fr) = front_here bytes in by front fr (tree_here deepest_element front fr.characters) (bytes_are bytes front)
  where
    in_front : (front : List ℕ) → FrontOf bytes front → (c : Cause) (k : ℕ) → (x : XmlTextRefuses bytes c k) → DocumentRefuses deepest_element front c x.at
    in_front front fr c k x = subst (λ z. DocumentRefuses deepest_element z c x.at) (front_unique x.is_front fr) x.refuses

    of_front : (front : List ℕ) → FrontOf bytes front → (h : RawTrees) → XmlText bytes h → bytes ≡ front
    of_front front fr h t = front_unique (whole_front t.characters) fr

    by : (front : List ℕ) (fr : FrontOf bytes front) → Known (TreeHere deepest_element front fr.characters) (TreeStops deepest_element front fr.characters) → Decided (bytes ≡ front) → TreeOrRefusal bytes
    by front fr (inl (h, a)) (inl e) = inl (h, subst (λ z. Reads false deepest_element z h) (sym e) a)
    by front fr (inl (h, a)) (inr n) = inr (inr ((λ k t. n (of_front front fr k t)), (λ c k x. document_no_reading (in_front front fr c k x) a)))
    by front fr (inr (inl (c, (at, x)))) e = inr (inl (c, (place_of (length front) at, record { front = front; at = at; is_front = fr; refuses = x; stands = refl })))
    by front fr (inr (inr h)) e =
        inr (inr ((λ k t. h.0 (k, subst (λ z. Reads false deepest_element z k) (of_front front fr k t) t)), (λ c k x. h.1 (c, (x.at, in_front front fr c k x)))))
