-- Sets that stand open, while others are put.
use Rattle.std.proofs.lemmas.Bool.{cases_lt}
use Rattle.std.proofs.lemmas.List.{drop_all, drop-set-lt, get_or-set_same, get_or_default}
use Rattle.std.proofs.lemmas.List.Elements.{All-drop}
use Rattle.std.proofs.Math.Seq.{drop-cons}
use Rattle.std.proofs.Common.{◌≡◌, ◌<◌, ◌≤◌, ◌+◌, ◌⊎◌, inl, inr, drop, set, ◌∷◌, [], ℕ, suc, List, All, Option, Some, None, IfSome, map, length, get_or, subst, sym, ap, ◌∙◌, refl, arith}
use Rattle.tc_mat.specs.Matrix.{Matrix, IsIdentity, IsComposition, HaveSamePairs}
use Rattle.tc_mat.specs.Held.{Held, AreMatrices}
use Rattle.tc_beh.specs.Places.{no_matrix}
use Rattle.tc_beh.proofs.PutLaws.{identity_first}
use Rattle.tc_beh.specs.Held.{Extends, set_at}
use Rattle.tc_beh.specs.Links.{IsLink, AreLinks, Tables}
use Rattle.tc_beh.specs.declared.links.Link.{Link}
use Rattle.tc_beh.specs.Opening.{Open, IsOpenAt, IsBeside, Met, MeetsMore, Remembers, AreLinked, AreElements, IsElement, IsAround, IsLow, set_or, set_of, no_set, IsOpenSet}
use Rattle.tc_beh.specs.declared.met_sets.Element.{Element}
use Rattle.tc_hedge.specs.declared.hedge.Hedge.{Hedge}
use Rattle.tc_beh.specs.declared.bodies.Place.{Place}
use Rattle.tc_beh.specs.declared.open_sets.OpenSet.{OpenSet}
use Rattle.tc_beh.proofs.Holding.{extends_self, extends_at, extends_count}

pub beside_self : (m : Hedge) (h : Held) (a : Open) → IsBeside m h a a
beside_self m h a = record { size = refl; under = refl; room = refl; text = refl; remembers = λ r. r; links = λ l. l }

pub beside_same : (m : Hedge) (h : Held) (a b : Open) → b ≡ a → IsBeside m h a b
beside_same m h a b e = subst (λ c. IsBeside m h a c) (sym e) (beside_self m h a)

pub beside_then : (m : Hedge) (h : Held) (a b c : Open) → IsBeside m h a b → IsBeside m h b c → IsBeside m h a c
beside_then m h a b c e f = record {
  size = f.size ∙ e.size;
  under = f.under ∙ e.under;
  room = f.room ∙ e.room;
  text = f.text ∙ e.text;
  remembers = λ r. f.remembers (e.remembers r);
  links = λ l. f.links (e.links l);
}

-- the same of the output schema and the held sets of a place
pub beside_there : (p : Place) (m : Hedge) (h : Held) → p.output.now ≡ m → p.outputs.now ≡ h → (a b : Open) → IsBeside p.output.now p.outputs.now a b → IsBeside m h a b
beside_there p m h outer held a b is = subst (λ (n : Hedge). IsBeside n h a b) outer (subst (λ (k : Held). IsBeside p.output.now k a b) held is)

-- what may be put at first may be put later on
pub open_on : (p : Place) (d e : ℕ) (a b : Open) → IsOpenAt p e a → IsBeside p.output.now p.outputs.now a b → d ≤ e → IsOpenAt p d b
open_on p d e a b is same low =
    let room = is.room in
    let few = is.few in
    let stays = same.room in
    record {
      size = same.size ∙ is.size;
      text = same.text ∙ is.text;
      remembers = same.remembers is.remembers;
      links = same.links is.links;
      room = omega (arith, room, stays, low);
      few = omega (arith, few, stays);
    }

pub open_less : (p : Place) (d e : ℕ) (a : Open) → IsOpenAt p e a → d ≤ e → IsOpenAt p d a
open_less p d e a is low = open_on p d e a a is (beside_self p.output.now p.outputs.now a) low

-- the same at a place of the same text, output schema and held sets
pub open_elsewhere : (p q : Place) (d : ℕ) → q.text.now ≡ p.text.now → q.output.now ≡ p.output.now → q.outputs.now ≡ p.outputs.now → (o : Open) → IsOpenAt p d o → IsOpenAt q d o
open_elsewhere p q d text outer held o is = record {
  size = is.size ∙ ap (λ (m : Matrix). m.size) (sym text);
  text = is.text ∙ sym text;
  remembers = subst (λ (m : Hedge). Remembers m o.met) (sym outer) is.remembers;
  links = subst (λ (h : Held). AreLinked h o.met) (sym held) is.links;
  room = is.room;
  few = is.few;
}

-- what was met goes on
pub set_or_on : (a b : Held) → Extends a b → (o : Option ℕ) (m : Matrix) → IsLow a o → set_or b o m ≡ set_or a o m
set_or_on a b e None m low = refl
set_or_on a b e (Some k) m low = extends_at a b e k low

pub sets_on : (a b : Held) → Extends a b → (os : List OpenSet) → All (IsOpenSet a) os → map (set_of b) os ≡ map (set_of a) os
sets_on a b e [] are = refl
sets_on a b e (o ∷ os) are =
    let here : set_of b o ≡ set_of a o = set_or_on a b e o.number o.words (are 0 o (omega arith)).low in
    let rest : map (set_of b) os ≡ map (set_of a) os = sets_on a b e os (λ k d low. are (suc k) d (omega (arith, low))) in
    λ i. here i ∷ rest i

pub more_self : (a : Met) → MeetsMore a a
more_self a = record { text = refl; held = extends_self a.held; elements = refl; links = refl }

-- what is remembered stays true where more is met
one_on : (m : Hedge) (a b : Held) → Extends a b → (o : Option Element) → IfSome o (λ e. IsElement m a e.symbol e.inner e.element) → IfSome o (λ e. IsElement m b e.symbol e.inner e.element)
one_on m a b e None is = is
one_on m a b e (Some v) is =
    let more = extends_count a b e in
    let first = is.inner_low in
    let last = is.low in
    record {
      inner_low = omega (arith, first, more);
      low = omega (arith, last, more);
      around = subst (λ (n : Matrix). IsAround m v.symbol n (set_at b v.element)) (sym (extends_at a b e v.inner first)) (subst (λ (n : Matrix). IsAround m v.symbol (set_at a v.inner) n) (sym (extends_at a b e v.element last)) is.around);
    }

pub elements_on : (m : Hedge) (a b : Held) → Extends a b → (es : List (Option Element)) → AreElements m a es → AreElements m b es
elements_on m a b e es are = λ k d low. one_on m a b e (get_or es k d) (are k d low)

pub remembers_on : (m : Hedge) (a b : Met) → MeetsMore a b → Remembers m a → Remembers m b
remembers_on m a b more are = subst (AreElements m b.held) (sym more.elements) (elements_on m a.held b.held more.held a.elements are)

-- links stay right where more stands in rows, and where more is met
module _ (h k a b : Held) (rows : Extends h k) (met : Extends a b) where
  pub link_on : (i j : ℕ) → IsLink h a i j → IsLink k b i j
  link_on i j is =
      let up = extends_count h k rows in
      let more = extends_count a b met in
      let first = is.held_low in
      let last = is.low in
      record { held_low = omega (arith, first, up); low = omega (arith, last, more); same = extends_at a b met j last ∙ (is.same ∙ sym (extends_at h k rows i first)) }

  some_link_on : (o : Option Link) → IfSome o (λ l. IsLink h a l.held l.met) → IfSome o (λ l. IsLink k b l.held l.met)
  some_link_on None is = is
  some_link_on (Some l) is = link_on l.held l.met is

  pub links_on : (t : Tables) → AreLinks h a t → AreLinks k b t
  links_on t are = record {
    by_held = λ i d low. some_link_on (get_or t.by_held i d) (are.by_held i d low);
    by_met = λ i d low. some_link_on (get_or t.by_met i d) (are.by_met i d low);
  }

pub linked_on : (h : Held) (a b : Met) → MeetsMore a b → AreLinked h a → AreLinked h b
linked_on h a b more are = subst (AreLinks h b.held) (sym more.links) (links_on h h a.held b.held (extends_self h) more.held a.links are)

pub linked_more : (h k : Held) → Extends h k → (a : Met) → AreLinked h a → AreLinked k a
linked_more h k more a are = links_on h k a.held a.held more (extends_self a.held) a.links are

-- what is led by nothing
pub nothing_led : (a b m : Matrix) → IsIdentity a → b.size ≡ a.size → IsComposition a b m → HaveSamePairs m b
nothing_led a b m is e led = λ i j. (λ h. (identity_first a b is e i j).1 ((led i j).0 h), λ h. (led i j).1 ((identity_first a b is e i j).0 h))

pub set_size : (h : Held) → AreMatrices h → (o : OpenSet) → IsOpenSet h o → (set_of h o).size ≡ h.size
set_size h are o is = by o.number is.low
  where
    by : (n : Option ℕ) → IsLow h n → (set_or h n o.words).size ≡ h.size
    by None low = is.size
    by (Some k) low = (are k no_matrix low).0

pub number_set : (h : Held) (o : Option ℕ) (m : Matrix) → IfSome o (λ k. (k < length h.matrices) × (set_at h k ≡ m)) → IsLow h o × (set_or h o m ≡ m)
number_set h None m is = (tt, refl)
number_set h (Some k) m is = is

-- what stands open at places, the first of them free
abbrev pub opened : Met → List OpenSet → ℕ → Open
opened a os f = record { out = set_of a.held (get_or os f no_set); under = map (set_of a.held) (drop (f + 1) os); room = f; met = a }

module _ (m : Hedge) (h : Held) (a b : Met) (more : Extends a.held b.held) (text : b.text ≡ a.text) (remembers : Remembers m a → Remembers m b) (links : AreLinked h a → AreLinked h b) (first : AreMatrices a.held) (last : AreMatrices b.held)
    (os : List OpenSet) (f : ℕ) (low : f < length os) (are : All (IsOpenSet a.held) os) (o : OpenSet) (is : IsOpenSet b.held o) where
  -- one set is put in place of another
  pub place_put : IsBeside m h (opened a os f) (opened b (set os f o) f)
  place_put = record {
    size =
        ap (λ (v : OpenSet). (set_of b.held v).size) (get_or-set_same os f o no_set low)
        ∙ (set_size b.held last o is ∙ (more.size ∙ sym (set_size a.held first (get_or os f no_set) (are f no_set low))));
    under = ap (map (set_of b.held)) (drop-set-lt (f + 1) os f o (omega arith)) ∙ sets_on a.held b.held more (drop (f + 1) os) (All-drop (IsOpenSet a.held) (f + 1) os are);
    room = refl;
    text = text;
    remembers = remembers;
    links = links;
  }

-- a set that waits stands at the next place
pub next_place : (h : Held) (os : List OpenSet) (f : ℕ) (o : Matrix) (us : List Matrix) → map (set_of h) (drop (f + 1) os) ≡ o ∷ us
    → (f + 1 < length os) × (set_of h (get_or os (f + 1) no_set) ≡ o) × (map (set_of h) (drop (f + 1 + 1) os) ≡ us)
next_place h os f o us e = by (cases_lt (f + 1) (length os))
  where
    by : (f + 1 < length os) ⊎ (length os ≤ f + 1) → (f + 1 < length os) × (set_of h (get_or os (f + 1) no_set) ≡ o) × (map (set_of h) (drop (f + 1 + 1) os) ≡ us)
    by (inl low) =
        let split : drop (f + 1) os ≡ get_or os (f + 1) no_set ∷ drop (f + 1 + 1) os = let e : suc (f + 1) ≡ f + 1 + 1 = omega arith in subst (λ n. drop (f + 1) os ≡ get_or os (f + 1) no_set ∷ drop n os) e (drop-cons os (f + 1) no_set low) in
        let same : set_of h (get_or os (f + 1) no_set) ∷ map (set_of h) (drop (f + 1 + 1) os) ≡ o ∷ us = sym (ap (map (set_of h)) split) ∙ e in
        (low, ap (λ (l : List Matrix). get_or l 0 no_matrix) same, ap (drop 1) same)
    by (inr past) = let none : [] ≡ o ∷ us = sym (ap (map (set_of h)) (drop_all (f + 1) os past)) ∙ e in absurd (cc)

pub top_size : (a : Met) (os : List OpenSet) (f : ℕ) → f < length os → All (IsOpenSet a.held) os → AreMatrices a.held → (opened a os f).out.size ≡ a.held.size
top_size a os f low are all = set_size a.held all (get_or os f no_set) (are f no_set low)

-- a set is put behind that of a place, after more was met
pub place_behind : (a b c : Held) → Extends a b → (os : List OpenSet) (f : ℕ) → f < length os → (old o : OpenSet) → old ≡ get_or os f old → IsOpenSet a old → (number : Option ℕ) (words m : Matrix) → set_or b number words ≡ m
    → IsComposition (set_of b old) (set_or b number words) (set_of c o) → IsComposition (set_of a (get_or os f no_set)) m (set_of c (get_or (set os f o) f no_set))
place_behind a b c e os f low old o here is number words m same pairs =
    let at : set_of a (get_or os f no_set) ≡ set_of b old = sym (ap (set_of a) (here ∙ get_or_default os f old no_set low)) ∙ sym (set_or_on a b e old.number old.words is.low) in
    subst (λ (v : OpenSet). IsComposition (set_of a (get_or os f no_set)) m (set_of c v)) (sym (get_or-set_same os f o no_set low))
    (subst (λ (n : Matrix). IsComposition n m (set_of c o)) (sym at) (subst (λ (n : Matrix). IsComposition (set_of b old) n (set_of c o)) same pairs))
