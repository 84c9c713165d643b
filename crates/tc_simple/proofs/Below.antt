-- What is found in a pattern that is found in its parts alone.
use Rattle.std.proofs.Common.{◌≡◌, ◌⊎◌, inl, inr, ℕ, Bool, true, false, List, [], ◌∷◌, ◌++◌, refl, ap, ◌∙◌, sym, subst, map, append_assoc, Option, None, Some, Bor, if◌then◌else◌}
use Rattle.std.proofs.lemmas.List.{map-append}
use Rattle.std.specs.List.{filter_map, cons_option, list_all}
use Rattle.tc_graph.specs.Walks.{same_component, state_at}
use Rattle.tc_model.specs.SimplifiesFaults.{may_start}
use Rattle.tc_simple.specs.Tables.{number_of}
use Rattle.tc_model.specs.Grammars as g
use Rattle.tc_model.specs.Views as seen
use Rattle.tc_model.specs.declared.grammar.Pat.TheVariants as made_variants
use Rattle.tc_model.proofs.ViewsGrammar as made
use Rattle.tc_model.specs.CompactSyntaxTrees.{SyntaxClass, SyntaxPattern, empty, not_allowed, text, attribute, ref, element, mixed, optional, zero_or_more, one_or_more, group, choice, interleave, SyntaxPatterns}
use Rattle.tc_model.specs.Simplifies.{Element, both}
use Rattle.tc_rnc.specs.Views as see
use Rattle.tc_base.specs.declared.Place.{Place}
use Rattle.tc_model.specs.Views.{place as at}
use Rattle.tc_rnc.specs.declared.syntax.SClass.{SClass}
use Rattle.tc_rnc.specs.declared.syntax.SPat.{SPat, SPat-F}
use Rattle.tc_rnc.specs.declared.syntax.SPat.TheOpen as parts
use Rattle.tc_rnc.specs.declared.syntax.SPat.TheViews.{roll-SPat, out-SPat, roll-out-SPat}
use Rattle.tc_rnc.specs.declared.syntax.SPat.TheVariants as v
use Rattle.tc_rnc.proofs.Views.{see_empty, see_not_allowed, see_text, see_attribute, see_ref, see_element, see_mixed, see_optional, see_zero_or_more, see_one_or_more, see_group, see_choice, see_interleave}
use Rattle.tc_simple.specs.Becoming.{all_become, among, around, becomes}
use Rattle.tc_simple.specs.Nodes.{nodes, nodes_of_all, target, element_of, loop_at, see_element as see_elem}
use Rattle.tc_simple.specs.Sizes.{above, leaf, size_of, sizes_of, two}
use Rattle.tc_simple.specs.declared.counts.Size.{Size}
use Rattle.tc_simple.specs.declared.elements.Elem.{Elem}
use Rattle.tc_simple.specs.declared.groups.Table.{Table}
use Rattle.tc_graph.specs.declared.cycles.State.{State}

-- a pattern with one part, with several, and with none
abbrev pub HasPart : SPat → Bor SPat → Type 0
HasPart x q = (x ≡ v.Mixed q) ⊎ ((x ≡ v.Optional q) ⊎ ((x ≡ v.ZeroOrMore q) ⊎ (x ≡ v.OneOrMore q)))

abbrev pub HasParts : SPat → Bor (List SPat) → Type 0
HasParts x qs = (x ≡ v.Group qs) ⊎ ((x ≡ v.Choice qs) ⊎ (x ≡ v.Interleave qs))

abbrev pub HasNone : SPat → Type 0
HasNone x = (x ≡ v.Empty) ⊎ ((x ≡ v.NotAllowed) ⊎ ((x ≡ v.Text) ⊎ (x ≡ v.Attribute)))

abbrev pub IsElement : SPat → Type 0
IsElement x = (place : Place) × (c : SClass) × (q : Bor SPat) × (x ≡ v.Element place c q)

abbrev pub IsReference : SPat → Type 0
IsReference x = (n : Bor (List ℕ)) × (place : Place) × (x ≡ v.Ref n place)

-- nothing is found at these patterns themselves
pub record Skips {X : Type 0} (f : SyntaxPattern → Option X) : Type 0 where
  pub empty : f empty ≡ None
  pub not_allowed : f not_allowed ≡ None
  pub text : f text ≡ None
  pub attribute : f attribute ≡ None
  pub mixed : (p : SyntaxPattern) → f (mixed p) ≡ None
  pub optional : (p : SyntaxPattern) → f (optional p) ≡ None
  pub zero_or_more : (p : SyntaxPattern) → f (zero_or_more p) ≡ None
  pub one_or_more : (p : SyntaxPattern) → f (one_or_more p) ≡ None
  pub group : (ps : SyntaxPatterns) → f (group ps) ≡ None
  pub choice : (ps : SyntaxPatterns) → f (choice ps) ≡ None
  pub interleave : (ps : SyntaxPatterns) → f (interleave ps) ≡ None

module _ {X : Type 0} (f : SyntaxPattern → Option X) (skips : Skips f) (within : Bool) where
  skipped : (x : SPat) (p : SyntaxPattern) (rest : List SyntaxPattern) → see.pattern x ≡ p → nodes within p ≡ p ∷ rest → f p ≡ None → filter_map f (nodes within (see.pattern x)) ≡ filter_map f rest
  skipped x p rest e is none = ap (λ z. filter_map f (nodes within z)) e ∙ (ap (filter_map f) is ∙ ap (λ o. cons_option o (filter_map f rest)) none)

  pub in_part : (x : SPat) (q : Bor SPat) → HasPart x q → filter_map f (nodes within (see.pattern x)) ≡ filter_map f (nodes within (see.pattern q.now))
  in_part x q (inl e) = skipped x (mixed (see.pattern q.now)) _ (ap see.pattern e ∙ see_mixed q) refl (skips.mixed (see.pattern q.now))
  in_part x q (inr (inl e)) = skipped x (optional (see.pattern q.now)) _ (ap see.pattern e ∙ see_optional q) refl (skips.optional (see.pattern q.now))
  in_part x q (inr (inr (inl e))) = skipped x (zero_or_more (see.pattern q.now)) _ (ap see.pattern e ∙ see_zero_or_more q) refl (skips.zero_or_more (see.pattern q.now))
  in_part x q (inr (inr (inr e))) = skipped x (one_or_more (see.pattern q.now)) _ (ap see.pattern e ∙ see_one_or_more q) refl (skips.one_or_more (see.pattern q.now))

  pub in_parts : (x : SPat) (qs : Bor (List SPat)) → HasParts x qs → filter_map f (nodes within (see.pattern x)) ≡ filter_map f (nodes_of_all within (see.patterns qs.now))
  in_parts x qs (inl e) = skipped x (group (see.patterns qs.now)) _ (ap see.pattern e ∙ see_group qs) refl (skips.group (see.patterns qs.now))
  in_parts x qs (inr (inl e)) = skipped x (choice (see.patterns qs.now)) _ (ap see.pattern e ∙ see_choice qs) refl (skips.choice (see.patterns qs.now))
  in_parts x qs (inr (inr e)) = skipped x (interleave (see.patterns qs.now)) _ (ap see.pattern e ∙ see_interleave qs) refl (skips.interleave (see.patterns qs.now))

  pub in_none : (x : SPat) → HasNone x → filter_map f (nodes within (see.pattern x)) ≡ []
  in_none x (inl e) = skipped x empty _ (ap see.pattern e ∙ see_empty) refl skips.empty
  in_none x (inr (inl e)) = skipped x not_allowed _ (ap see.pattern e ∙ see_not_allowed) refl skips.not_allowed
  in_none x (inr (inr (inl e))) = skipped x text _ (ap see.pattern e ∙ see_text) refl skips.text
  in_none x (inr (inr (inr e))) = skipped x attribute _ (ap see.pattern e ∙ see_attribute) refl skips.attribute

-- and where elements are passed over, or references
pub past_elements : {X : Type 0} (f : SyntaxPattern → Option X) → Skips f → ((place : ℕ) (c : SyntaxClass) (p : SyntaxPattern) → f (element place c p) ≡ None) → (x : SPat)
    → (x ≡ v.Empty) ⊎ ((x ≡ v.NotAllowed) ⊎ ((x ≡ v.Text) ⊎ ((x ≡ v.Attribute) ⊎ IsElement x))) → filter_map f (nodes false (see.pattern x)) ≡ []
past_elements f skips none x (inl e) = in_none f skips false x (inl e)
past_elements f skips none x (inr (inl e)) = in_none f skips false x (inr (inl e))
past_elements f skips none x (inr (inr (inl e))) = in_none f skips false x (inr (inr (inl e)))
past_elements f skips none x (inr (inr (inr (inl e)))) = in_none f skips false x (inr (inr (inr e)))
past_elements f skips none x (inr (inr (inr (inr (place, c, q, e))))) =
    skipped f skips false x (element (at place) (see.class c) (see.pattern q.now)) [] (ap see.pattern e ∙ see_element place c q) refl (none (at place) (see.class c) (see.pattern q.now))

pub past_references : {X : Type 0} (f : SyntaxPattern → Option X) → Skips f → ((n : List ℕ) (place : ℕ) → f (ref n place) ≡ None) → (within : Bool) (x : SPat)
    → (x ≡ v.Empty) ⊎ ((x ≡ v.NotAllowed) ⊎ ((x ≡ v.Text) ⊎ ((x ≡ v.Attribute) ⊎ IsReference x))) → filter_map f (nodes within (see.pattern x)) ≡ []
past_references f skips none within x (inl e) = in_none f skips within x (inl e)
past_references f skips none within x (inr (inl e)) = in_none f skips within x (inr (inl e))
past_references f skips none within x (inr (inr (inl e))) = in_none f skips within x (inr (inr (inl e)))
past_references f skips none within x (inr (inr (inr (inl e)))) = in_none f skips within x (inr (inr (inr e)))
past_references f skips none within x (inr (inr (inr (inr (n, place, e))))) =
    skipped f skips within x (ref n.now (at place)) [] (ap see.pattern e ∙ see_ref n place) refl (none n.now (at place))

pub target_skips : (t : Table) → Skips (target t)
target_skips t = record {
  empty = refl;
  not_allowed = refl;
  text = refl;
  attribute = refl;
  mixed = λ p. refl;
  optional = λ p. refl;
  zero_or_more = λ p. refl;
  one_or_more = λ p. refl;
  group = λ ps. refl;
  choice = λ ps. refl;
  interleave = λ ps. refl;
}

pub element_skips : Skips element_of
element_skips = record {
  empty = refl;
  not_allowed = refl;
  text = refl;
  attribute = refl;
  mixed = λ p. refl;
  optional = λ p. refl;
  zero_or_more = λ p. refl;
  one_or_more = λ p. refl;
  group = λ ps. refl;
  choice = λ ps. refl;
  interleave = λ ps. refl;
}

pub loop_skips : (t : Table) (states : List State) (k : ℕ) → Skips (loop_at t states k)
loop_skips t states k = record {
  empty = refl;
  not_allowed = refl;
  text = refl;
  attribute = refl;
  mixed = λ p. refl;
  optional = λ p. refl;
  zero_or_more = λ p. refl;
  one_or_more = λ p. refl;
  group = λ ps. refl;
  choice = λ ps. refl;
  interleave = λ ps. refl;
}

-- an element is found before those in it
element_first : (x : SPat) (place : Place) (c : SClass) (q : Bor SPat) → x ≡ v.Element place c q
    → filter_map element_of (nodes true (see.pattern x)) ≡ see_elem (record { place = place; names = c; content = q.now }) ∷ filter_map element_of (nodes true (see.pattern q.now))
element_first x place c q e = ap (λ z. filter_map element_of (nodes true z)) (ap see.pattern e ∙ see_element place c q)

pub element_found : {out : List Element} (old found : List Elem) (x : SPat) (place : Place) (c : SClass) (q : Bor SPat) → x ≡ v.Element place c q → found ≡ old ++ record { place = place; names = c; content = q.now } ∷ []
    → out ≡ map see_elem found ++ filter_map element_of (nodes true (see.pattern q.now)) → out ≡ map see_elem old ++ filter_map element_of (nodes true (see.pattern x))
element_found old found x place c q e f h =
    let one : Elem = record { place = place; names = c; content = q.now } in
    let below = filter_map element_of (nodes true (see.pattern q.now)) in
    h
    ∙ (ap (λ z. map see_elem z ++ below) f
    ∙ (ap (λ z. z ++ below) (map-append see_elem old (one ∷ []))
    ∙ (append_assoc (map see_elem old) (see_elem one ∷ []) below ∙ ap (λ z. map see_elem old ++ z) (sym (element_first x place c q e)))))

-- what counts as one node
pub one_node : (f : List ℕ → Size) (x : SPat) → (x ≡ v.Empty) ⊎ ((x ≡ v.NotAllowed) ⊎ ((x ≡ v.Text) ⊎ ((x ≡ v.Attribute) ⊎ IsElement x))) → leaf ≡ size_of f (see.pattern x)
one_node f x (inl e) = ap (size_of f) (sym (ap see.pattern e ∙ see_empty))
one_node f x (inr (inl e)) = ap (size_of f) (sym (ap see.pattern e ∙ see_not_allowed))
one_node f x (inr (inr (inl e))) = ap (size_of f) (sym (ap see.pattern e ∙ see_text))
one_node f x (inr (inr (inr (inl e)))) = ap (size_of f) (sym (ap see.pattern e ∙ see_attribute))
one_node f x (inr (inr (inr (inr (place, c, q, e))))) = ap (size_of f) (sym (ap see.pattern e ∙ see_element place c q))

pub mixed_size : (f : List ℕ → Size) (x : SPat) (q : Bor SPat) {a b c d : Size} → x ≡ v.Mixed q → a ≡ above b → b ≡ two d c → c ≡ size_of f (see.pattern q.now) → d ≡ leaf → a ≡ size_of f (see.pattern x)
mixed_size f x q {c = c} {d = d} e g h k l =
    g ∙ (ap above h ∙ (ap (λ z. above (two d z)) k ∙ (ap (λ z. above (two z (size_of f (see.pattern q.now)))) l ∙ ap (size_of f) (sym (ap see.pattern e ∙ see_mixed q)))))

pub optional_size : (f : List ℕ → Size) (x : SPat) (q : Bor SPat) {a b c d : Size} → x ≡ v.Optional q → a ≡ above b → b ≡ two c d → c ≡ size_of f (see.pattern q.now) → d ≡ leaf → a ≡ size_of f (see.pattern x)
optional_size f x q {c = c} {d = d} e g h k l =
    g ∙ (ap above h ∙ (ap (λ z. above (two z d)) k ∙ (ap (λ z. above (two (size_of f (see.pattern q.now)) z)) l ∙ ap (size_of f) (sym (ap see.pattern e ∙ see_optional q)))))

pub repeated_size : (f : List ℕ → Size) (x : SPat) (q : Bor SPat) {a b c d m : Size} → x ≡ v.ZeroOrMore q → a ≡ above b → b ≡ two c d → c ≡ above m → m ≡ size_of f (see.pattern q.now) → d ≡ leaf → a ≡ size_of f (see.pattern x)
repeated_size f x q {d = d} e g h k m l =
    g
    ∙ (ap above h
    ∙ (ap (λ z. above (two z d)) (k ∙ ap above m) ∙ (ap (λ z. above (two (above (size_of f (see.pattern q.now))) z)) l ∙ ap (size_of f) (sym (ap see.pattern e ∙ see_zero_or_more q)))))

pub several_sizes : (f : List ℕ → Size) (x : SPat) (qs : Bor (List SPat)) → HasParts x qs → above (sizes_of f (see.patterns qs.now)) ≡ size_of f (see.pattern x)
several_sizes f x qs (inl e) = ap (size_of f) (sym (ap see.pattern e ∙ see_group qs))
several_sizes f x qs (inr (inl e)) = ap (size_of f) (sym (ap see.pattern e ∙ see_choice qs))
several_sizes f x qs (inr (inr e)) = ap (size_of f) (sym (ap see.pattern e ∙ see_interleave qs))

-- what a pattern becomes without parts, and one whose parts became so
pub empty_becomes : (f : List ℕ → g.Pattern) (es : List Element) (x : SPat) → (x ≡ v.Empty) ⊎ (x ≡ v.Attribute) → seen.pattern made_variants.Empty ≡ becomes f es (see.pattern x)
empty_becomes f es x (inl e) = made.see_empty ∙ ap (becomes f es) (sym (ap see.pattern e ∙ see_empty))
empty_becomes f es x (inr e) = made.see_empty ∙ ap (becomes f es) (sym (ap see.pattern e ∙ see_attribute))

pub around_becomes : (f : List ℕ → g.Pattern) (es : List Element) (x : SPat) (q : Bor SPat) (p : g.Pattern) → HasPart x q → p ≡ becomes f es (see.pattern q.now) → around (see.pattern x) p ≡ becomes f es (see.pattern x)
around_becomes f es x q p (inl e) h =
    let is = ap see.pattern e ∙ see_mixed q in ap (λ z. around z p) is ∙ (ap (λ z. g.interleave (both g.text z)) h ∙ ap (becomes f es) (sym is))
around_becomes f es x q p (inr (inl e)) h =
    let is = ap see.pattern e ∙ see_optional q in ap (λ z. around z p) is ∙ (ap (λ z. g.choice (both z g.empty)) h ∙ ap (becomes f es) (sym is))
around_becomes f es x q p (inr (inr (inl e))) h =
    let is = ap see.pattern e ∙ see_zero_or_more q in ap (λ z. around z p) is ∙ (ap (λ z. g.choice (both (g.one_or_more z) g.empty)) h ∙ ap (becomes f es) (sym is))
around_becomes f es x q p (inr (inr (inr e))) h =
    let is = ap see.pattern e ∙ see_one_or_more q in ap (λ z. around z p) is ∙ (ap (λ z. g.one_or_more z) h ∙ ap (becomes f es) (sym is))

pub among_becomes : (f : List ℕ → g.Pattern) (es : List Element) (x : SPat) (qs : Bor (List SPat)) (ps : g.Patterns) → HasParts x qs → ps ≡ all_become f es (see.patterns qs.now) → among (see.pattern x) ps ≡ becomes f es (see.pattern x)
among_becomes f es x qs ps (inl e) h = let is = ap see.pattern e ∙ see_group qs in ap (λ z. among z ps) is ∙ (ap (λ z. g.group z) h ∙ ap (becomes f es) (sym is))
among_becomes f es x qs ps (inr (inl e)) h = let is = ap see.pattern e ∙ see_choice qs in ap (λ z. among z ps) is ∙ (ap (λ z. g.choice z) h ∙ ap (becomes f es) (sym is))
among_becomes f es x qs ps (inr (inr e)) h = let is = ap see.pattern e ∙ see_interleave qs in ap (λ z. among z ps) is ∙ (ap (λ z. g.interleave z) h ∙ ap (becomes f es) (sym is))

-- a connector that is neither of a group nor of a choice
abbrev pub IsOther : g.Patterns → SPat → Type 0
IsOther ps x = ((qs : Bor (List SPat)) → x ≡ v.Group qs → ⊥) → ((qs : Bor (List SPat)) → x ≡ v.Choice qs → ⊥) → among (see.pattern x) ps ≡ g.interleave ps

is_other : (ps : g.Patterns) (x : SPat) (p : SyntaxPattern) → see.pattern x ≡ p → among p ps ≡ g.interleave ps → IsOther ps x
is_other ps x p e h = λ a b. ap (λ z. among z ps) e ∙ h

other_layer : (ps : g.Patterns) (f : SPat-F SPat) → IsOther ps (roll-SPat f)
other_layer ps parts.Empty = subst (IsOther ps) (sym v.rolls-Empty) (is_other ps v.Empty empty see_empty refl)
other_layer ps parts.NotAllowed = subst (IsOther ps) (sym v.rolls-NotAllowed) (is_other ps v.NotAllowed not_allowed see_not_allowed refl)
other_layer ps parts.Text = subst (IsOther ps) (sym v.rolls-Text) (is_other ps v.Text text see_text refl)
other_layer ps parts.Attribute = subst (IsOther ps) (sym v.rolls-Attribute) (is_other ps v.Attribute attribute see_attribute refl)
other_layer ps (parts.Ref n place) = subst (IsOther ps) (sym (v.rolls-Ref n place)) (is_other ps (v.Ref n place) (ref n.now (at place)) (see_ref n place) refl)
other_layer ps (parts.Element place c q) = subst (IsOther ps) (sym (v.rolls-Element place c q)) (is_other ps (v.Element place c q) (element (at place) (see.class c) (see.pattern q.now)) (see_element place c q) refl)
other_layer ps (parts.Mixed q) = subst (IsOther ps) (sym (v.rolls-Mixed q)) (is_other ps (v.Mixed q) (mixed (see.pattern q.now)) (see_mixed q) refl)
other_layer ps (parts.Optional q) = subst (IsOther ps) (sym (v.rolls-Optional q)) (is_other ps (v.Optional q) (optional (see.pattern q.now)) (see_optional q) refl)
other_layer ps (parts.ZeroOrMore q) = subst (IsOther ps) (sym (v.rolls-ZeroOrMore q)) (is_other ps (v.ZeroOrMore q) (zero_or_more (see.pattern q.now)) (see_zero_or_more q) refl)
other_layer ps (parts.OneOrMore q) = subst (IsOther ps) (sym (v.rolls-OneOrMore q)) (is_other ps (v.OneOrMore q) (one_or_more (see.pattern q.now)) (see_one_or_more q) refl)
other_layer ps (parts.Group qs) = λ a b. absurd (a qs (v.rolls-Group qs))
other_layer ps (parts.Choice qs) = λ a b. absurd (b qs (v.rolls-Choice qs))
other_layer ps (parts.Interleave qs) = subst (IsOther ps) (sym (v.rolls-Interleave qs)) (is_other ps (v.Interleave qs) (interleave (see.patterns qs.now)) (see_interleave qs) refl)

pub among_others : (ps : g.Patterns) (x : SPat) → IsOther ps x
among_others ps x = subst (IsOther ps) (roll-out-SPat x) (other_layer ps (out-SPat x))

-- what a reference adds, and an element
module _ (x : SPat) (n : Bor (List ℕ)) (place : Place) (is : x ≡ v.Ref n place) where
  pub target_seen : (t : Table) (within : Bool) → filter_map (target t) (nodes within (see.pattern x)) ≡ cons_option (number_of t n.now) []
  target_seen t within = ap (λ z. filter_map (target t) (nodes within z)) (ap see.pattern is ∙ see_ref n place)

  abbrev looped : List State → ℕ → Option ℕ → List ℕ
  looped states k o = cons_option (elim o [ Some j ↦ (if same_component (state_at states k) (state_at states j) then Some (at place) else None) | None ↦ None ]) []

  module _ (t : Table) (states : List State) (k : ℕ) where
    loop_seen : filter_map (loop_at t states k) (nodes false (see.pattern x)) ≡ looped states k (number_of t n.now)
    loop_seen = ap (λ z. filter_map (loop_at t states k) (nodes false z)) (ap see.pattern is ∙ see_ref n place)

    pub loop_taken : (j : ℕ) → number_of t n.now ≡ Some j → same_component (state_at states k) (state_at states j) ≡ true → filter_map (loop_at t states k) (nodes false (see.pattern x)) ≡ at place ∷ []
    loop_taken j e f = loop_seen ∙ (ap (looped states k) e ∙ ap (λ (b : Bool). cons_option (if b then Some (at place) else None) []) f)

    pub loop_passed : (j : ℕ) → number_of t n.now ≡ Some j → same_component (state_at states k) (state_at states j) ≡ false → filter_map (loop_at t states k) (nodes false (see.pattern x)) ≡ []
    loop_passed j e f = loop_seen ∙ (ap (looped states k) e ∙ ap (λ (b : Bool). cons_option (if b then Some (at place) else None) []) f)

    pub loop_nowhere : number_of t n.now ≡ None → filter_map (loop_at t states k) (nodes false (see.pattern x)) ≡ []
    loop_nowhere e = loop_seen ∙ ap (looped states k) e

pub targets_within : (t : Table) (within b : Bool) (x : SPat) (place : Place) (c : SClass) (q : Bor SPat) → x ≡ v.Element place c q → within ≡ b
    → filter_map (target t) (nodes within (see.pattern x)) ≡ filter_map (target t) (if b then nodes within (see.pattern q.now) else [])
targets_within t within b x place c q e f =
    ap (λ z. filter_map (target t) (nodes within z)) (ap see.pattern e ∙ see_element place c q) ∙ ap (λ (a : Bool). filter_map (target t) (if a then nodes within (see.pattern q.now) else [])) f

-- what may stand at the start
pub starts_there : (x : SPat) → (x ≡ v.NotAllowed) ⊎ (IsReference x ⊎ IsElement x) → true ≡ list_all may_start (nodes false (see.pattern x))
starts_there x (inl e) = sym (ap (λ z. list_all may_start (nodes false z)) (ap see.pattern e ∙ see_not_allowed))
starts_there x (inr (inl (n, place, e))) = sym (ap (λ z. list_all may_start (nodes false z)) (ap see.pattern e ∙ see_ref n place))
starts_there x (inr (inr (place, c, q, e))) = sym (ap (λ z. list_all may_start (nodes false z)) (ap see.pattern e ∙ see_element place c q))

abbrev pub NeverStarts : SPat → Type 0
NeverStarts x =
    (x ≡ v.NotAllowed → ⊥) → ((n : Bor (List ℕ)) (place : Place) → x ≡ v.Ref n place → ⊥) → ((place : Place) (c : SClass) (q : Bor SPat) → x ≡ v.Element place c q → ⊥)
    → ((qs : Bor (List SPat)) → x ≡ v.Choice qs → ⊥) → false ≡ list_all may_start (nodes false (see.pattern x))

never : (x : SPat) (p : SyntaxPattern) → see.pattern x ≡ p → list_all may_start (nodes false p) ≡ false → NeverStarts x
never x p e h = λ a b c d. sym (ap (λ z. list_all may_start (nodes false z)) e ∙ h)

never_layer : (f : SPat-F SPat) → NeverStarts (roll-SPat f)
never_layer parts.Empty = subst NeverStarts (sym v.rolls-Empty) (never v.Empty empty see_empty refl)
never_layer parts.NotAllowed = λ a b c d. absurd (a v.rolls-NotAllowed)
never_layer parts.Text = subst NeverStarts (sym v.rolls-Text) (never v.Text text see_text refl)
never_layer parts.Attribute = subst NeverStarts (sym v.rolls-Attribute) (never v.Attribute attribute see_attribute refl)
never_layer (parts.Ref n place) = λ a b c d. absurd (b n place (v.rolls-Ref n place))
never_layer (parts.Element place k q) = λ a b c d. absurd (c place k q (v.rolls-Element place k q))
never_layer (parts.Mixed q) = subst NeverStarts (sym (v.rolls-Mixed q)) (never (v.Mixed q) (mixed (see.pattern q.now)) (see_mixed q) refl)
never_layer (parts.Optional q) = subst NeverStarts (sym (v.rolls-Optional q)) (never (v.Optional q) (optional (see.pattern q.now)) (see_optional q) refl)
never_layer (parts.ZeroOrMore q) = subst NeverStarts (sym (v.rolls-ZeroOrMore q)) (never (v.ZeroOrMore q) (zero_or_more (see.pattern q.now)) (see_zero_or_more q) refl)
never_layer (parts.OneOrMore q) = subst NeverStarts (sym (v.rolls-OneOrMore q)) (never (v.OneOrMore q) (one_or_more (see.pattern q.now)) (see_one_or_more q) refl)
never_layer (parts.Group qs) = subst NeverStarts (sym (v.rolls-Group qs)) (never (v.Group qs) (group (see.patterns qs.now)) (see_group qs) refl)
never_layer (parts.Choice qs) = λ a b c d. absurd (d qs (v.rolls-Choice qs))
never_layer (parts.Interleave qs) = subst NeverStarts (sym (v.rolls-Interleave qs)) (never (v.Interleave qs) (interleave (see.patterns qs.now)) (see_interleave qs) refl)

pub never_starts : (x : SPat) → NeverStarts x
never_starts x = subst NeverStarts (roll-out-SPat x) (never_layer (out-SPat x))
