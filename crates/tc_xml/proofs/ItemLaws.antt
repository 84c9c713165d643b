-- Which items may stand at the front, by its first bytes.
use Rattle.std.proofs.Common.{◌≡◌, ◌⊎◌, inl, inr, ℕ, ◌<◌, Bool, true, false, cond, ◌==◌, List, [], ◌∷◌, refl, ap, sym, subst, arith}
use Rattle.std.proofs.lemmas.Bool.{eqb-true}
use Rattle.tc_model.specs.RawTrees.{Bound}
use Rattle.tc_model.specs.XmlTextBytes.{line_ends, place_of}
use Rattle.tc_model.specs.XmlTextReferences.{ReferenceAt, CharacterDataAt, CdataAt}
use Rattle.tc_model.specs.XmlTextMisc.{CommentAt, InstructionAt}
use Rattle.tc_model.specs.XmlTextContent.{Piece, characters, ItemAt, character_data, reference, cdata, comment, instruction, child, ElementAt, empty_tag, with_content}
use Rattle.tc_model.proofs.XmlTextPhrases.{reference_first}
use Rattle.tc_model.proofs.XmlTextUnique.{bang, markup, kind, character_data_kind, reference_kind, cdata_kind, comment_kind, instruction_kind, child_kind}
use Rattle.tc_xml.specs.Reading.{SmallItemAt, LacksItem}

pub lacks_reference : (o : Bool) (total : ℕ) (text r : List ℕ) → text ≡ 0x26 ∷ r → ((s after : List ℕ) → ReferenceAt o text s after → ⊥) → LacksItem o total text
unfolding kind
lacks_reference o total text r e h outer d p after a = by (ap kind e) a
  where
    by : {p : Piece} {after : List ℕ} → kind text ≡ 1 → ItemAt o total outer d text p after → ⊥
    by k (character_data a) = absurd (omega (arith, k, character_data_kind a))
    by {after = after} k (reference {s = s} a) = h s after a
    by k (cdata a) = absurd (omega (arith, k, cdata_kind a))
    by k (comment a) = absurd (omega (arith, k, comment_kind a))
    by k (instruction a) = absurd (omega (arith, k, instruction_kind a))
    by k (child a) = absurd (omega (arith, k, child_kind a))

-- an element begins with `<`
pub element_opens : {o : Bool} {total d : ℕ} {outer : List Bound} {bs after : List ℕ} {p : Piece} → ElementAt o total outer d bs p after → (r : List ℕ) × (bs ≡ 0x3C ∷ r)
element_opens (empty_tag a) = (a.rest, a.opens)
element_opens (with_content a m b e) = (a.rest, a.opens)

pub lacks_characters : (o : Bool) (total : ℕ) (text : List ℕ) → ((r : List ℕ) → text ≡ 0x3C ∷ r → ⊥) → ((r : List ℕ) → text ≡ 0x26 ∷ r → ⊥)
    → ((run after : List ℕ) → CharacterDataAt text run after → ⊥) → LacksItem o total text
lacks_characters o total text f g h outer d p after (character_data {run = run} a) = h run after a
lacks_characters o total text f g h outer d p after (reference a) = let (r, e) = reference_first a in g r e
lacks_characters o total text f g h outer d p after (cdata a) = f _ a.opens
lacks_characters o total text f g h outer d p after (comment a) = f _ a.opens
lacks_characters o total text f g h outer d p after (instruction a) = f _ a.opens
lacks_characters o total text f g h outer d p after (child a) = let (r, e) = element_opens a in f r e

bang_above : (bs : List ℕ) → 3 < bang bs
unfolding bang
bang_above [] = omega arith
bang_above (b ∷ bs) = by (b == 0x5B) (b == 0x2D)
  where
    by : (x y : Bool) → 3 < cond x 4 (cond y 5 6)
    by true y = omega arith
    by false true = omega arith
    by false false = omega arith

pub lacks_bang : (o : Bool) (total : ℕ) (text r : List ℕ) → text ≡ 0x3C ∷ 0x21 ∷ r → ((after : List ℕ) → CommentAt text after → ⊥)
    → ((inside after : List ℕ) → CdataAt text inside after → ⊥) → LacksItem o total text
unfolding kind markup
lacks_bang o total text r e f g outer d p after a = by (ap kind e) (bang_above r) a
  where
    by : {p : Piece} {after : List ℕ} → kind text ≡ bang r → 3 < bang r → ItemAt o total outer d text p after → ⊥
    by k l (character_data a) = absurd (omega (arith, k, l, character_data_kind a))
    by k l (reference a) = absurd (omega (arith, k, l, reference_kind a))
    by {after = after} k l (cdata {inside = i} a) = g i after a
    by {after = after} k l (comment a) = f after a
    by k l (instruction a) = absurd (omega (arith, k, l, instruction_kind a))
    by k l (child a) = absurd (omega (arith, k, l, child_kind a))

pub lacks_instruction : (o : Bool) (total : ℕ) (text r : List ℕ) → text ≡ 0x3C ∷ 0x3F ∷ r → ((after : List ℕ) → InstructionAt text after → ⊥) → LacksItem o total text
unfolding kind markup
lacks_instruction o total text r e h outer d p after a = by (ap kind e) a
  where
    by : {p : Piece} {after : List ℕ} → kind text ≡ 2 → ItemAt o total outer d text p after → ⊥
    by k (character_data a) = absurd (omega (arith, k, character_data_kind a))
    by k (reference a) = absurd (omega (arith, k, reference_kind a))
    by k (cdata a) = absurd (omega (arith, k, cdata_kind a))
    by k (comment a) = absurd (omega (arith, k, comment_kind a))
    by {after = after} k (instruction a) = h after a
    by k (child a) = absurd (omega (arith, k, child_kind a))

markup_is : (m : List ℕ) → ((r : List ℕ) → m ≡ 0x21 ∷ r → ⊥) → ((r : List ℕ) → m ≡ 0x3F ∷ r → ⊥) → (markup m ≡ 3) ⊎ (markup m ≡ 6)
unfolding markup
markup_is [] f g = inr refl
markup_is (b ∷ bs) f g = by (b == 0x3F) (b == 0x21) refl refl
  where
    by : (x y : Bool) → (b == 0x3F) ≡ x → (b == 0x21) ≡ y → (cond x 2 (cond y (bang bs) 3) ≡ 3) ⊎ (cond x 2 (cond y (bang bs) 3) ≡ 6)
    by true y e k = absurd (g bs (ap (λ w. w ∷ bs) (eqb-true b 0x3F e)))
    by false true e k = absurd (f bs (ap (λ w. w ∷ bs) (eqb-true b 0x21 k)))
    by false false e k = inl refl

-- other markup is an element's
pub is_child : (o : Bool) (total d : ℕ) (outer : List Bound) (text m : List ℕ) → text ≡ 0x3C ∷ m → ((r : List ℕ) → m ≡ 0x21 ∷ r → ⊥) → ((r : List ℕ) → m ≡ 0x3F ∷ r → ⊥)
    → (p : Piece) (after : List ℕ) → ItemAt o total outer d text p after → ElementAt o total outer d text p after
unfolding kind
is_child o total d outer text m e f g p after a = by (ap kind e) (markup_is m f g) a
  where
    by : {p : Piece} {after : List ℕ} → kind text ≡ markup m → (markup m ≡ 3) ⊎ (markup m ≡ 6) → ItemAt o total outer d text p after → ElementAt o total outer d text p after
    by k l (child a) = a
    by k (inl l) (character_data a) = absurd (omega (arith, k, l, character_data_kind a))
    by k (inl l) (reference a) = absurd (omega (arith, k, l, reference_kind a))
    by k (inl l) (cdata a) = absurd (omega (arith, k, l, cdata_kind a))
    by k (inl l) (comment a) = absurd (omega (arith, k, l, comment_kind a))
    by k (inl l) (instruction a) = absurd (omega (arith, k, l, instruction_kind a))
    by k (inr l) (character_data a) = absurd (omega (arith, k, l, character_data_kind a))
    by k (inr l) (reference a) = absurd (omega (arith, k, l, reference_kind a))
    by k (inr l) (cdata a) = absurd (omega (arith, k, l, cdata_kind a))
    by k (inr l) (comment a) = absurd (omega (arith, k, l, comment_kind a))
    by k (inr l) (instruction a) = absurd (omega (arith, k, l, instruction_kind a))

-- an item's place, worked out another way
pub cdata_item : (total : ℕ) (text inside after : List ℕ) (p : ℕ) → CdataAt text inside after → p ≡ place_of total text → SmallItemAt total text (characters (line_ends inside) p) after
cdata_item total text inside after p a e outer d = subst (λ q. ItemAt false total outer d text (characters (line_ends inside) q) after) (sym e) (cdata a)

pub data_item : (total : ℕ) (text run after : List ℕ) (p : ℕ) → CharacterDataAt text run after → p ≡ place_of total text → SmallItemAt total text (characters (line_ends run) p) after
data_item total text run after p a e outer d = subst (λ q. ItemAt false total outer d text (characters (line_ends run) q) after) (sym e) (character_data a)

pub reference_item : (total : ℕ) (text s after : List ℕ) (p : ℕ) → ReferenceAt false text s after → p ≡ place_of total text → SmallItemAt total text (characters s p) after
reference_item total text s after p a e outer d = subst (λ q. ItemAt false total outer d text (characters s q) after) (sym e) (reference a)
