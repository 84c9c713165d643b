-- What is kept of the elements that are open, as they are gone out of.
use Rattle.std.proofs.Common.{◌≡◌, ℕ, zero, suc, ◌+◌, ◌-◌, ◌*◌, ◌<◌, ◌≤◌, List, [], ◌∷◌, ◌++◌, refl, ap, ◌∙◌, sym, subst, length, take, drop, reverse, get_or, Some, None, slice_get, IsUtf8, arith, take-append-drop, length-take-le, Result, IfErr, IsErrAnd}
use Rattle.std.specs.List.{AllByRecursion}
use Rattle.std.specs.Coded.{Coded-set, coded_list, coded_ℕ, ×_prop, Unit-prop, le_prop}
use Rattle.std.proofs.Math.Logic.{∥∥₁_elim, ∥∥₁_map}
use Rattle.std.proofs.lemmas.List.{reverse-append, length-reverse, take-map}
use Rattle.std.proofs.lemmas.Option.{same_Some, none-some, slice_get-get_or}
use Rattle.std.proofs.lemmas.Result.{err_from_is_err_and}
use Rattle.tc_model.specs.RawTrees.{Bound}
use Rattle.tc_model.specs.Names.{ExpandedName}
use Rattle.tc_model.specs.Trees.{Trees}
use Rattle.tc_model.specs.XmlText.{deepest_element}
use Rattle.tc_model.specs.XmlTextScopes.{first_scope}
use Rattle.tc_stream.specs.Goes.{Level, depth_left, used, with_text, with_element}
use Rattle.tc_stream.specs.Keeps.{Holds, IsLevel, AreLevels, AreOpen, IsText, IsKept, IsOfSome, IsReady, Keeps}
use Rattle.tc_tags.specs.Scoped.{chain_in, chains_in}
use Rattle.tc_tags.specs.Spans.{at_span}
use Rattle.tc_tags.specs.Written.{AreKept, StandsWithin, bindings_of}
use Rattle.tc_stream.specs.declared.elements.Elements.{Elements}
use Rattle.tc_stream.specs.declared.elements.Level as code
use Rattle.tc_stream.specs.declared.elements.NoElement.{NoElement}
use Rattle.tc_tags.specs.declared.names.Span.{Span}
use Rattle.tc_tags.specs.declared.scopes.Declared.{Declared}
use Rattle.tc_tags.proofs.BindingLaws.{binds_none, once_first, span_kept, chains_kept}

-- an error that is passed on
pub passed_on : {T : Type 0} (r : Result T NoElement) (Q : NoElement → Type 0) (e : NoElement) → IsErrAnd r (λ x. x ≡ e) → Q e → IfErr r Q
passed_on r Q e h q = let p = err_from_is_err_and r h in subst (λ w. IfErr w Q) (sym p.1) (subst Q (sym p.2) q)

-- the first so many
pub all_take : {A : Type 0} (P : A → Type 0) (n : ℕ) (xs : List A) → AllByRecursion P xs → AllByRecursion P (take n xs)
all_take P zero xs h = tt
all_take P (suc n) [] h = tt
all_take P (suc n) (x ∷ xs) h = (h.0, all_take P n xs h.1)

-- How many there are

-- as many names and declarations as the elements have
names_are : (names : List ℕ) (declared : List Declared) (ls : List Level) (cs : List code.Level) → AreLevels names declared ls cs → length names ≡ used ls
names_are names declared [] [] h = ap length h.0
names_are names declared [] (c ∷ cs) h = absurd h
names_are names declared (l ∷ ls) [] h = absurd h
names_are names declared (l ∷ ls) (c ∷ cs) h =
    let more = names_are (take c.names names) (take c.declared declared) ls cs h.1 in
    let all = h.0.names_more in
    let within : c.names ≤ length names = omega (arith, all) in
    omega (arith, all, more, length-take-le c.names names within)

abbrev pub declared_count : List Level → ℕ
declared_count [] = 0
declared_count (l ∷ ls) = length (bindings_of l.written.attributes) + declared_count ls

declared_are : (names : List ℕ) (declared : List Declared) (ls : List Level) (cs : List code.Level) → AreLevels names declared ls cs → length declared ≡ declared_count ls
declared_are names declared [] [] h = ap length h.1
declared_are names declared [] (c ∷ cs) h = absurd h
declared_are names declared (l ∷ ls) [] h = absurd h
declared_are names declared (l ∷ ls) (c ∷ cs) h =
    let more = declared_are (take c.names names) (take c.declared declared) ls cs h.1 in
    let all = h.0.declared_more in
    let within : c.declared ≤ length declared = omega (arith, all) in
    omega (arith, all, more, length-take-le c.declared declared within)

levels_long : (names : List ℕ) (declared : List Declared) (ls : List Level) (cs : List code.Level) → AreLevels names declared ls cs → length cs ≡ length ls
levels_long names declared [] [] h = refl
levels_long names declared [] (c ∷ cs) h = absurd h
levels_long names declared (l ∷ ls) [] h = absurd h
levels_long names declared (l ∷ ls) (c ∷ cs) h = ap suc (levels_long (take c.names names) (take c.declared declared) ls cs h.1)

few_declared : (names : List ℕ) (declared : List Declared) (ls : List Level) (cs : List code.Level) → AreLevels names declared ls cs → 2 * declared_count ls ≤ used ls + length ls
few_declared names declared [] [] h = omega arith
few_declared names declared [] (c ∷ cs) h = absurd h
few_declared names declared (l ∷ ls) [] h = absurd h
few_declared names declared (l ∷ ls) (c ∷ cs) h =
    let more = few_declared (take c.names names) (take c.declared declared) ls cs h.1 in
    let few = h.0.few in
    omega (arith, more, few)

pub names_used : {names : List ℕ} {declared : List Declared} {chains : List ℕ} {cs : List code.Level} {ls : List Level} {scope : List Bound} → AreOpen names declared chains cs ls scope → length names ≡ used ls
names_used {names} {declared} {chains} {cs} {ls} {scope} k = names_are names declared ls (reverse cs) k.levels_are

pub counted : {names : List ℕ} {declared : List Declared} {chains : List ℕ} {cs : List code.Level} {ls : List Level} {scope : List Bound} → AreOpen names declared chains cs ls scope → length declared ≡ declared_count ls
counted {names} {declared} {chains} {cs} {ls} {scope} k = declared_are names declared ls (reverse cs) k.levels_are

pub open_deep : {names : List ℕ} {declared : List Declared} {chains : List ℕ} {cs : List code.Level} {ls : List Level} {scope : List Bound} → AreOpen names declared chains cs ls scope → length cs ≡ length ls
open_deep {names} {declared} {chains} {cs} {ls} {scope} k = sym (length-reverse cs) ∙ levels_long names declared ls (reverse cs) k.levels_are

pub as_deep : {names : List ℕ} {declared : List Declared} {chains : List ℕ} {cs : List code.Level} {ls : List Level} {scope : List Bound} → IsKept names declared chains cs ls scope → length cs ≡ length ls
as_deep k = open_deep k.are_open

-- how many elements may still stand within them
pub is_full : (e : Elements) {ls : List Level} {scope : List Bound} → Keeps e ls scope → length e.levels.items ≡ 2000 → depth_left ls ≡ 0
is_full e {ls} k h = let none : 2000 - length ls ≡ 0 = omega (arith, h, as_deep k) in none

pub has_room : (e : Elements) {ls : List Level} {scope : List Bound} → Keeps e ls scope → length e.levels.items < 2000 → 0 < depth_left ls
has_room e {ls} k h = let some : 0 < 2000 - length ls = omega (arith, h, as_deep k) in some

pub none_kept : {names : List ℕ} {declared : List Declared} {chains : List ℕ} {cs : List code.Level} {scope : List Bound} → IsKept names declared chains cs [] scope → cs ≡ []
none_kept {names} {declared} {chains} {cs} {scope} k = by cs (as_deep k)
  where
    by : (ds : List code.Level) → length ds ≡ 0 → ds ≡ []
    by [] e = refl
    by (d ∷ ds) e = absurd (omega (arith, e))

pub ready : (e : Elements) (ls : List Level) (scope : List Bound) → Keeps e ls scope → IsReady e
ready e ls scope k = ∣ (ls, scope, k.are_open) ∣₁

-- the room that is left for the declarations of a tag
room_left : {names : List ℕ} {declared : List Declared} {chains : List ℕ} {cs : List code.Level} {ls : List Level} {scope : List Bound} (n : ℕ) → AreOpen names declared chains cs ls scope → length names ≤ 65536 → n ≤ 13106
    → length declared + n ≤ 46874
room_left {names} {declared} {chains} {cs} {ls} {scope} n k short few =
    let all = names_used k in
    let many = counted k in
    let half = few_declared names declared ls (reverse cs) k.levels_are in
    let low : length ls ≤ 2000 = k.deep in
    omega (arith, all, many, half, low, short, few)

-- What is so of some elements

numbers_set : IsSet (List ℕ)
numbers_set = Coded-set (coded_list coded_ℕ)

within_prop : (n : ℕ) (ds : List Declared) → IsProp (AllByRecursion (StandsWithin n) ds)
within_prop n [] = Unit-prop
within_prop n (d ∷ ds) = ×_prop (×_prop le_prop le_prop) (within_prop n ds)

kept_prop : (names : List ℕ) (declared : List Declared) (chains : List ℕ) → IsProp (AreKept names declared chains)
kept_prop names declared chains = λ h k i. record {
  chained = numbers_set chains (chains_in names declared) h.chained k.chained i;
  within = within_prop (length names) declared h.within k.within i;
}

pub kept_of_some : (names : List ℕ) (declared : List Declared) (chains : List ℕ) (cs : List code.Level) → ∥ IsOfSome names declared chains cs ∥₁ → AreKept names declared chains
kept_of_some names declared chains cs r = ∥∥₁_elim r (kept_prop names declared chains) (λ (o : IsOfSome names declared chains cs). o.2.kept)

pub room_of_some : (names : List ℕ) (declared : List Declared) (chains : List ℕ) (cs : List code.Level) (n : ℕ) → ∥ IsOfSome names declared chains cs ∥₁ → length names ≤ 65536 → n ≤ 13106 → length declared + n ≤ 46874
room_of_some names declared chains cs n r short few = ∥∥₁_elim r le_prop (λ (o : IsOfSome names declared chains cs). room_left n o.2 short few)

-- where nothing is open

none_deep : 0 ≤ deepest_element
none_deep = omega arith

pub none_yet : {names : List ℕ} {declared : List Declared} {chains : List ℕ} {cs : List code.Level} → names ≡ [] → declared ≡ [] → chains ≡ [] → cs ≡ [] → IsKept names declared chains cs [] first_scope
none_yet {names} {declared} {chains} {cs} e f g h = record {
  are_open = record {
    levels_are = subst (λ z. AreLevels names declared [] (reverse z)) (sym h) (e, f);
    holds = subst (λ z. Holds names z first_scope) (sym f) (record { binds = binds_none; once = once_first });
    kept = record { chained = g ∙ ap (chains_in names) (sym f); within = subst (AllByRecursion (StandsWithin (length names))) (sym f) tt };
    deep = none_deep;
  };
  texts = subst (AllByRecursion (IsText names)) (sym f) tt;
}

-- The innermost level

last_parts : {A : Type 0} (xs : List A) (x : A) → Some x ≡ slice_get xs (length xs - 1) → (front : List A) × (xs ≡ front ++ x ∷ [])
last_parts [] x e = absurd (none-some x (sym e))
last_parts (a ∷ []) x e = ([], ap (λ z. z ∷ []) (same_Some a x (sym e)))
last_parts (a ∷ (b ∷ xs)) x e =
    let less : suc (suc (length xs)) - 1 ≡ suc (suc (length xs) - 1) = omega arith in
    let (front, is) = last_parts (b ∷ xs) x (e ∙ ap (slice_get (a ∷ (b ∷ xs))) less) in
    (a ∷ front, ap (λ z. a ∷ z) is)

turned : {A : Type 0} (xs front : List A) (x : A) → xs ≡ front ++ x ∷ [] → reverse xs ≡ x ∷ reverse front
turned xs front x e = ap reverse e ∙ reverse-append front (x ∷ [])

levels_turned : {names : List ℕ} {declared : List Declared} {chains : List ℕ} {cs : List code.Level} {ls : List Level} {scope : List Bound} (rest : List code.Level) (c : code.Level) → cs ≡ rest ++ c ∷ []
    → AreOpen names declared chains cs ls scope → AreLevels names declared ls (c ∷ reverse rest)
levels_turned {names} {declared} {chains} {cs} {ls} {scope} rest c e k = subst (AreLevels names declared ls) (turned cs rest c e) k.levels_are

pub innermost : {names : List ℕ} {declared : List Declared} {chains : List ℕ} {cs : List code.Level} {l : Level} {ls : List Level} {scope : List Bound} (c : code.Level) → IsKept names declared chains cs (l ∷ ls) scope
    → Some c ≡ slice_get cs (length cs - 1) → IsLevel names declared l c
innermost {names} {declared} {chains} {cs} {l} {ls} {scope} c k e =
    let (front, is) = last_parts cs c e in
    let both = levels_turned front c is k.are_open in
    both.0

abbrev blank_level : code.Level
blank_level = record { name = record { start = 0; length = 0 }; names = 0; declared = 0 }

pub some_open : {names : List ℕ} {declared : List Declared} {chains : List ℕ} {cs : List code.Level} {l : Level} {ls : List Level} {scope : List Bound} → IsKept names declared chains cs (l ∷ ls) scope
    → None ≡ slice_get cs (length cs - 1) → ⊥
some_open {names} {declared} {chains} {cs} {l} {ls} {scope} k e =
    let many = as_deep k in
    none-some (get_or cs (length cs - 1) blank_level) (e ∙ slice_get-get_or cs (length cs - 1) blank_level (omega (arith, many)))

pub not_none_open : {names : List ℕ} {declared : List Declared} {chains : List ℕ} {cs : List code.Level} {l : Level} {ls : List Level} {scope : List Bound} → IsKept names declared chains cs (l ∷ ls) scope → length cs ≡ 0 → ⊥
not_none_open k e = let many = as_deep k in omega (arith, many, e)

-- Out of an element

front_span : (s : Span) (m : ℕ) (names : List ℕ) → s.start + s.length ≤ length (take m names) → at_span s names ≡ at_span s (take m names)
front_span s m names l = ap (at_span s) (sym (take-append-drop m names)) ∙ span_kept s (take m names) (drop m names) l

front_texts : (names : List ℕ) (m : ℕ) (ds : List Declared) → AllByRecursion (StandsWithin (length (take m names))) ds → AllByRecursion (IsText names) ds → AllByRecursion (IsText (take m names)) ds
front_texts names m [] w h = tt
front_texts names m (d ∷ ds) w h = (subst IsUtf8 (front_span d.uri m names w.0.1) h.0, front_texts names m ds w.1 h.1)

front_chains : (names : List ℕ) (m n : ℕ) (declared : List Declared) (chains : List ℕ) → chains ≡ chains_in names declared → AllByRecursion (StandsWithin (length (take m names))) (take n declared)
    → take n chains ≡ chains_in (take m names) (take n declared)
front_chains names m n declared chains e w =
    ap (take n) e ∙ (take-map (chain_in names) n declared
    ∙ (ap (λ z. chains_in z (take n declared)) (sym (take-append-drop m names)) ∙ chains_kept (take m names) (drop m names) (take n declared) w))

goes_out : {names : List ℕ} {declared : List Declared} {chains : List ℕ} {cs : List code.Level} {l : Level} {ls : List Level} {scope : List Bound} (rest : List code.Level) (c : code.Level) → cs ≡ rest ++ c ∷ []
    → AreOpen names declared chains cs (l ∷ ls) scope → AreOpen (take c.names names) (take c.declared declared) (take c.declared chains) rest ls l.outer
goes_out {names} {declared} {chains} {cs} {l} {ls} {scope} rest c e k =
    let both = levels_turned rest c e k in
    let low : length (l ∷ ls) ≤ 2000 = k.deep in
    let deep : length ls ≤ 2000 = omega (arith, low) in
    record {
      levels_are = both.1;
      holds = both.0.holds;
      kept = record { chained = front_chains names c.names c.declared declared chains k.kept.chained both.0.within; within = both.0.within };
      deep = deep;
    }

pub left_open : {names now : List ℕ} {declared new : List Declared} {chains newer : List ℕ} {cs : List code.Level} {l : Level} {ls : List Level} {scope : List Bound} (rest : List code.Level) (c : code.Level) → cs ≡ rest ++ c ∷ []
    → now ≡ take c.names names → new ≡ take c.declared declared → newer ≡ take c.declared chains → AreOpen names declared chains cs (l ∷ ls) scope → AreOpen now new newer rest ls l.outer
left_open {names} {now} {declared} {new} {chains} {newer} {cs} {l} {ls} {scope} rest c e f g h k =
    subst (λ z. AreOpen z new newer rest ls l.outer) (sym f)
    (subst (λ z. AreOpen (take c.names names) z newer rest ls l.outer) (sym g)
    (subst (λ z. AreOpen (take c.names names) (take c.declared declared) z rest ls l.outer) (sym h) (goes_out rest c e k)))

pub left_kept : {names now : List ℕ} {declared new : List Declared} {chains newer : List ℕ} {cs : List code.Level} {l : Level} {ls : List Level} {scope : List Bound} (rest : List code.Level) (c : code.Level) → cs ≡ rest ++ c ∷ []
    → now ≡ take c.names names → new ≡ take c.declared declared → newer ≡ take c.declared chains → IsKept names declared chains cs (l ∷ ls) scope → IsKept now new newer rest ls l.outer
left_kept {names} {now} {declared} {new} {chains} {newer} {cs} {l} {ls} {scope} rest c e f g h k =
    let both = levels_turned rest c e k.are_open in
    let texts = front_texts names c.names (take c.declared declared) both.0.within (all_take (IsText names) c.declared declared k.texts) in
    record {
      are_open = left_open rest c e f g h k.are_open;
      texts = subst (λ z. AllByRecursion (IsText z) new) (sym f) (subst (AllByRecursion (IsText (take c.names names))) (sym g) texts);
    }

left_some : {names now : List ℕ} {declared new : List Declared} {chains newer : List ℕ} {cs : List code.Level} (rest : List code.Level) (c : code.Level) → cs ≡ rest ++ c ∷ []
    → now ≡ take c.names names → new ≡ take c.declared declared → newer ≡ take c.declared chains → (ls : List Level) (scope : List Bound) → AreOpen names declared chains cs ls scope → IsOfSome now new newer rest
left_some rest c e f g h [] scope k = let none = levels_turned rest c e k in absurd none
left_some rest c e f g h (l ∷ ls) scope k = (ls, l.outer, left_open rest c e f g h k)

pub left_ready : (names now : List ℕ) (declared new : List Declared) (chains newer : List ℕ) (cs rest : List code.Level) (c : code.Level) → cs ≡ rest ++ c ∷ []
    → now ≡ take c.names names → new ≡ take c.declared declared → newer ≡ take c.declared chains → ∥ IsOfSome names declared chains cs ∥₁ → ∥ IsOfSome now new newer rest ∥₁
left_ready names now declared new chains newer cs rest c e f g h r = ∥∥₁_map r (λ (o : IsOfSome names declared chains cs). left_some rest c e f g h o.0 o.1 o.2)

pub stays_ready : (names : List ℕ) (declared : List Declared) (chains : List ℕ) (cs ds : List code.Level) → cs ≡ ds → ∥ IsOfSome names declared chains cs ∥₁ → ∥ IsOfSome names declared chains ds ∥₁
stays_ready names declared chains cs ds e r = subst (λ z. ∥ IsOfSome names declared chains z ∥₁) e r

-- The children of elements don't matter

text_levels : (names : List ℕ) (declared : List Declared) (run : List ℕ) (ls : List Level) (cs : List code.Level) → AreLevels names declared ls cs → AreLevels names declared (with_text run ls) cs
text_levels names declared run [] cs h = h
text_levels names declared run (l ∷ ls) [] h = h
text_levels names declared run (l ∷ ls) (c ∷ cs) h =
    let k = h.0 in
    (record { written = k.written; named = k.named; names_more = k.names_more; declared_more = k.declared_more; holds = k.holds; within = k.within; few = k.few }, h.1)

element_levels : (names : List ℕ) (declared : List Declared) (n : ExpandedName) (kids : Trees) (ls : List Level) (cs : List code.Level) → AreLevels names declared ls cs → AreLevels names declared (with_element n kids ls) cs
element_levels names declared n kids [] cs h = h
element_levels names declared n kids (l ∷ ls) [] h = h
element_levels names declared n kids (l ∷ ls) (c ∷ cs) h =
    let k = h.0 in
    (record { written = k.written; named = k.named; names_more = k.names_more; declared_more = k.declared_more; holds = k.holds; within = k.within; few = k.few }, h.1)

text_long : (run : List ℕ) (ls : List Level) → length (with_text run ls) ≡ length ls
text_long run [] = refl
text_long run (l ∷ ls) = refl

element_long : (n : ExpandedName) (kids : Trees) (ls : List Level) → length (with_element n kids ls) ≡ length ls
element_long n kids [] = refl
element_long n kids (l ∷ ls) = refl

open_text : {names : List ℕ} {declared : List Declared} {chains : List ℕ} {cs : List code.Level} {ls : List Level} {scope : List Bound} (run : List ℕ) → AreOpen names declared chains cs ls scope
    → AreOpen names declared chains cs (with_text run ls) scope
open_text {names} {declared} {chains} {cs} {ls} {scope} run k =
    let low : length (with_text run ls) ≤ 2000 = subst (λ n. n ≤ 2000) (sym (text_long run ls)) k.deep in
    record { levels_are = text_levels names declared run ls (reverse cs) k.levels_are; holds = k.holds; kept = k.kept; deep = low }

pub kept_text : {names : List ℕ} {declared : List Declared} {chains : List ℕ} {cs : List code.Level} {ls : List Level} {scope : List Bound} (run : List ℕ) → IsKept names declared chains cs ls scope
    → IsKept names declared chains cs (with_text run ls) scope
kept_text run k = record { are_open = open_text run k.are_open; texts = k.texts }

pub kept_element : {names : List ℕ} {declared : List Declared} {chains : List ℕ} {cs : List code.Level} {ls : List Level} {scope : List Bound} (n : ExpandedName) (kids : Trees) → IsKept names declared chains cs ls scope
    → IsKept names declared chains cs (with_element n kids ls) scope
kept_element {names} {declared} {chains} {cs} {ls} {scope} n kids k =
    let o = k.are_open in
    let low : length (with_element n kids ls) ≤ 2000 = subst (λ m. m ≤ 2000) (sym (element_long n kids ls)) o.deep in
    record {
      are_open = record { levels_are = element_levels names declared n kids ls (reverse cs) o.levels_are; holds = o.holds; kept = o.kept; deep = low };
      texts = k.texts;
    }
