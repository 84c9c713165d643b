-- What the attributes of a tag mean, by what is kept of them.
use Rattle.std.proofs.Common.{◌≡◌, ℕ, Bool, true, false, cond, ◌||◌, ◌&&◌, List, [], ◌∷◌, refl, ap, ◌∙◌, sym, subst, map, reverse, Option, None, Some}
use Rattle.std.specs.Prelude.{is_some, unwrap_or}
use Rattle.std.specs.List.{IsDistinct, AllByRecursion, list_all}
use Rattle.std.proofs.lemmas.Bool.{true≢false}
use Rattle.tc_model.specs.Names.{ExpandedName, same_name}
use Rattle.tc_model.specs.RawTrees.{Attribute, Bound}
use Rattle.tc_model.specs.XmlTextNames.{QualifiedName, same_written}
use Rattle.tc_model.specs.XmlTextScopes.{WrittenAttribute, is_empty, is_declaration, binding_of, uri_of, IsLawfulBinding, Expands, no_more, declaration, plain, prefixed}
use Rattle.tc_tags.specs.Bindings.{Binds}
use Rattle.tc_tags.specs.Listed.{Parts, same_parts, is_declared, uri_bytes, parts, parts_before, all_parts}
use Rattle.tc_tags.specs.Scoped.{bound_by}
use Rattle.tc_tags.specs.Spans.{at_span}
use Rattle.tc_tags.specs.Written.{IsWritten, AreWritten, AreMeant, bindings_of, binding_in, has_meaning}
use Rattle.tc_tags.specs.declared.attributes.Attribute as code
use Rattle.tc_tags.specs.declared.attributes.Sort.TheVariants as sorts
use Rattle.tc_tags.specs.declared.scopes.Declared.{Declared}
use Rattle.tc_tags.proofs.BindingLaws.{bound_by_bindings}

-- lists that differ under a function
differ_map : {A B : Type 0} (f : A → B) (eq : B → B → Bool) (x : A) (xs : List A) → AllByRecursion (λ y. eq (f x) (f y) ≡ false) xs → AllByRecursion (λ z. eq (f x) z ≡ false) (map f xs)
differ_map f eq x [] h = tt
differ_map f eq x (y ∷ xs) h = (h.0, differ_map f eq x xs h.1)

map_differ : {A B : Type 0} (f : A → B) (eq : B → B → Bool) (x : A) (xs : List A) → AllByRecursion (λ z. eq (f x) z ≡ false) (map f xs) → AllByRecursion (λ y. eq (f x) (f y) ≡ false) xs
map_differ f eq x [] h = tt
map_differ f eq x (y ∷ xs) h = (h.0, map_differ f eq x xs h.1)

pub distinct_map : {A B : Type 0} (f : A → B) (eq : B → B → Bool) (xs : List A) → IsDistinct (λ x y. eq (f x) (f y)) xs → IsDistinct eq (map f xs)
unfolding IsDistinct
distinct_map f eq [] h = tt
distinct_map f eq (x ∷ xs) h = (differ_map f eq x xs h.0, distinct_map f eq xs h.1)

pub map_distinct : {A B : Type 0} (f : A → B) (eq : B → B → Bool) (xs : List A) → IsDistinct eq (map f xs) → IsDistinct (λ x y. eq (f x) (f y)) xs
unfolding IsDistinct
map_distinct f eq [] h = tt
map_distinct f eq (x ∷ xs) h = (map_differ f eq x xs h.0, map_distinct f eq xs h.1)

abbrev pub name_parts : QualifiedName → Parts
name_parts n = (n.prefix, n.local)

abbrev pub expanded_parts : ExpandedName → Parts
expanded_parts n = (n.uri, n.local)

abbrev pub names_of : List WrittenAttribute → List QualifiedName
names_of ws = map (λ a. a.name) ws

abbrev pub expanded_names : List Attribute → List ExpandedName
expanded_names es = map (λ a. a.name) es

-- the expanded name of an attribute, and whether it has one
abbrev part_of : List ℕ → List Declared → WrittenAttribute → Option Parts
part_of names declared w = cond (is_declaration w) None (Some (uri_bytes names declared w.name.prefix, w.name.local))

abbrev parts_of : List ℕ → List Declared → List WrittenAttribute → List Parts
parts_of names declared [] = []
parts_of names declared (w ∷ ws) = parts_before (part_of names declared w) (parts_of names declared ws)

abbrev means : List ℕ → List Declared → WrittenAttribute → Bool
means names declared w = is_declaration w || (is_empty w.name.prefix || is_some (bound_by (reverse declared) names w.name.prefix))

module _ (tag names : List ℕ) (declared : List Declared) where
  written_parts : (list : List code.Attribute) (ws : List WrittenAttribute) → AreWritten tag list ws → all_parts sorts.Written tag names declared list ≡ map name_parts (names_of ws)
  written_parts [] [] h = refl
  written_parts (a ∷ list) [] h = absurd h
  written_parts [] (w ∷ ws) h = absurd h
  written_parts (a ∷ list) (w ∷ ws) h =
      let make : List ℕ → List ℕ → Parts = λ x y. (x, y) in
      ap (λ x. make x (at_span a.local tag) ∷ all_parts sorts.Written tag names declared list) h.0.prefix
      ∙ (ap (λ y. make w.name.prefix y ∷ all_parts sorts.Written tag names declared list) h.0.local
      ∙ ap (λ ps. name_parts w.name ∷ ps) (written_parts list ws h.1))

  expanded_part : (a : code.Attribute) (w : WrittenAttribute) → IsWritten tag a w → parts sorts.Expanded tag names declared a ≡ part_of names declared w
  expanded_part a w h =
      let make : List ℕ → List ℕ → Option Parts = λ x y. cond (is_declared x y) None (Some (uri_bytes names declared x, y)) in
      ap (λ x. make x (at_span a.local tag)) h.prefix ∙ ap (make w.name.prefix) h.local

  all_expanded_parts : (list : List code.Attribute) (ws : List WrittenAttribute) → AreWritten tag list ws → all_parts sorts.Expanded tag names declared list ≡ parts_of names declared ws
  all_expanded_parts [] [] h = refl
  all_expanded_parts (a ∷ list) [] h = absurd h
  all_expanded_parts [] (w ∷ ws) h = absurd h
  all_expanded_parts (a ∷ list) (w ∷ ws) h =
      ap (λ o. parts_before o (all_parts sorts.Expanded tag names declared list)) (expanded_part a w h.0) ∙ ap (parts_before (part_of names declared w)) (all_expanded_parts list ws h.1)

  one_means : (a : code.Attribute) (w : WrittenAttribute) → IsWritten tag a w → has_meaning tag names declared a ≡ means names declared w
  one_means a w h =
      let make : List ℕ → List ℕ → Bool = λ x y. is_declared x y || (is_empty x || is_some (bound_by (reverse declared) names x)) in
      ap (λ x. make x (at_span a.local tag)) h.prefix ∙ ap (make w.name.prefix) h.local

  all_mean : (list : List code.Attribute) (ws : List WrittenAttribute) → AreWritten tag list ws → list_all (has_meaning tag names declared) list ≡ list_all (means names declared) ws
  all_mean [] [] h = refl
  all_mean (a ∷ list) [] h = absurd h
  all_mean [] (w ∷ ws) h = absurd h
  all_mean (a ∷ list) (w ∷ ws) h =
      ap (λ b. b && list_all (has_meaning tag names declared) list) (one_means a w h.0) ∙ ap (λ b. means names declared w && b) (all_mean list ws h.1)

both : (x y : Bool) → x && y ≡ true → (x ≡ true) × (y ≡ true)
both true true e = (refl, refl)
both true false e = absurd (true≢false (sym e))
both false y e = absurd (true≢false (sym e))

module _ (names : List ℕ) (declared : List Declared) (scope : List Bound) (binds : Binds (map (binding_in names) declared) scope) where
  bound_is : (q : List ℕ) → bound_by (reverse declared) names q ≡ uri_of scope q
  bound_is q = bound_by_bindings names q declared ∙ binds q

  -- the attributes other than declarations, with their expanded names
  pub expand : (ws : List WrittenAttribute) → AllByRecursion IsLawfulBinding (bindings_of ws) → list_all (means names declared) ws ≡ true
      → (es : List Attribute) × Expands scope ws es × (parts_of names declared ws ≡ map expanded_parts (expanded_names es))
  expand [] h k = ([], no_more, refl)
  expand (w ∷ ws) h k =
      let parts = both (means names declared w) (list_all (means names declared) ws) k in
      by (is_declaration w) refl (is_empty w.name.prefix) refl h parts.0 (λ l. expand ws l parts.1)
    where
      Found : Type 0
      Found = (es : List Attribute) × Expands scope (w ∷ ws) es × (parts_of names declared (w ∷ ws) ≡ map expanded_parts (expanded_names es))

      More : Type 0
      More = (es : List Attribute) × Expands scope ws es × (parts_of names declared ws ≡ map expanded_parts (expanded_names es))

      here : (x y : Bool) → is_declaration w ≡ x → is_empty w.name.prefix ≡ y → (o : Option (List ℕ)) → bound_by (reverse declared) names w.name.prefix ≡ o
          → parts_of names declared (w ∷ ws) ≡ parts_before (cond x None (Some (cond y [] (unwrap_or o []), w.name.local))) (parts_of names declared ws)
      here x y e f o g =
          ap (λ d. parts_before (cond d None (Some (uri_bytes names declared w.name.prefix, w.name.local))) (parts_of names declared ws)) e
          ∙ (ap (λ b. parts_before (cond x None (Some (cond b [] (unwrap_or (bound_by (reverse declared) names w.name.prefix) []), w.name.local))) (parts_of names declared ws)) f
          ∙ ap (λ b. parts_before (cond x None (Some (cond y [] (unwrap_or b []), w.name.local))) (parts_of names declared ws)) g)

      named : is_declaration w ≡ false → is_empty w.name.prefix ≡ false → (o : Option (List ℕ)) → bound_by (reverse declared) names w.name.prefix ≡ o → is_some o ≡ true → More → Found
      named e f None g m more = absurd (true≢false (sym m))
      named e f (Some uri) g m (es, x, p) = (
        record { name = record { uri = uri; local = w.name.local }; value = w.value; place = w.place } ∷ es,
        prefixed e f (sym (bound_is w.name.prefix) ∙ g) x,
        here false false e f (Some uri) g ∙ ap (λ ps. (uri, w.name.local) ∷ ps) p,
      )

      by : (d : Bool) → is_declaration w ≡ d → (b : Bool) → is_empty w.name.prefix ≡ b → AllByRecursion IsLawfulBinding (cond (is_declaration w) (binding_of w ∷ bindings_of ws) (bindings_of ws))
          → is_declaration w || (is_empty w.name.prefix || is_some (bound_by (reverse declared) names w.name.prefix)) ≡ true
          → (AllByRecursion IsLawfulBinding (bindings_of ws) → More) → Found
      by true e b f h m more =
          let all = subst (λ x. AllByRecursion IsLawfulBinding (cond x (binding_of w ∷ bindings_of ws) (bindings_of ws))) e h in
          let (es, x, p) = more all.1 in
          (es, declaration e all.0 x, here true b e f (bound_by (reverse declared) names w.name.prefix) refl ∙ p)
      by false e true f h m more =
          let all = subst (λ x. AllByRecursion IsLawfulBinding (cond x (binding_of w ∷ bindings_of ws) (bindings_of ws))) e h in
          let (es, x, p) = more all in (
            record { name = record { uri = []; local = w.name.local }; value = w.value; place = w.place } ∷ es,
            plain e f x,
            here false true e f (bound_by (reverse declared) names w.name.prefix) refl ∙ ap (λ ps. ([], w.name.local) ∷ ps) p,
          )
      by false e false f h m more =
          let all = subst (λ x. AllByRecursion IsLawfulBinding (cond x (binding_of w ∷ bindings_of ws) (bindings_of ws))) e h in
          let some = sym (ap (λ x. x || (is_empty w.name.prefix || is_some (bound_by (reverse declared) names w.name.prefix))) e ∙ ap (λ x. x || is_some (bound_by (reverse declared) names w.name.prefix)) f) ∙ m in
          named e f (bound_by (reverse declared) names w.name.prefix) refl some (more all)

  -- and where they are expanded, all is lawful and bound
  pub expanded_so : {ws : List WrittenAttribute} {es : List Attribute} → Expands scope ws es
      → AllByRecursion IsLawfulBinding (bindings_of ws) × (list_all (means names declared) ws ≡ true) × (parts_of names declared ws ≡ map expanded_parts (expanded_names es))
  expanded_so no_more = (tt, refl, refl)
  expanded_so (declaration {a = w} {written = ws} {attributes = es} e l x) =
      let (a, b, c) = expanded_so x in (
        subst (λ d. AllByRecursion IsLawfulBinding (cond d (binding_of w ∷ bindings_of ws) (bindings_of ws))) (sym e) (l, a),
        ap (λ d. (d || (is_empty w.name.prefix || is_some (bound_by (reverse declared) names w.name.prefix))) && list_all (means names declared) ws) e ∙ b,
        ap (λ d. parts_before (cond d None (Some (uri_bytes names declared w.name.prefix, w.name.local))) (parts_of names declared ws)) e ∙ c,
      )
  expanded_so (plain {a = w} {written = ws} {attributes = es} e f x) =
      let (a, b, c) = expanded_so x in (
        subst (λ d. AllByRecursion IsLawfulBinding (cond d (binding_of w ∷ bindings_of ws) (bindings_of ws))) (sym e) a,
        ap (λ d. (d || (is_empty w.name.prefix || is_some (bound_by (reverse declared) names w.name.prefix))) && list_all (means names declared) ws) e
            ∙ (ap (λ d. (d || is_some (bound_by (reverse declared) names w.name.prefix)) && list_all (means names declared) ws) f ∙ b),
        ap (λ d. parts_before (cond d None (Some (uri_bytes names declared w.name.prefix, w.name.local))) (parts_of names declared ws)) e
            ∙ (ap (λ d. (cond d [] (unwrap_or (bound_by (reverse declared) names w.name.prefix) []), w.name.local) ∷ parts_of names declared ws) f ∙ ap (λ ps. ([], w.name.local) ∷ ps) c),
      )
  expanded_so (prefixed {a = w} {uri = uri} {written = ws} {attributes = es} e f u x) =
      let (a, b, c) = expanded_so x in
      let g : bound_by (reverse declared) names w.name.prefix ≡ Some uri = bound_is w.name.prefix ∙ u in (
        subst (λ d. AllByRecursion IsLawfulBinding (cond d (binding_of w ∷ bindings_of ws) (bindings_of ws))) (sym e) a,
        ap (λ d. (d || (is_empty w.name.prefix || is_some (bound_by (reverse declared) names w.name.prefix))) && list_all (means names declared) ws) e
            ∙ (ap (λ d. (d || is_some (bound_by (reverse declared) names w.name.prefix)) && list_all (means names declared) ws) f
            ∙ (ap (λ o. is_some o && list_all (means names declared) ws) g ∙ b)),
        ap (λ d. parts_before (cond d None (Some (uri_bytes names declared w.name.prefix, w.name.local))) (parts_of names declared ws)) e
            ∙ (ap (λ d. (cond d [] (unwrap_or (bound_by (reverse declared) names w.name.prefix) []), w.name.local) ∷ parts_of names declared ws) f
            ∙ (ap (λ o. (unwrap_or o [], w.name.local) ∷ parts_of names declared ws) g ∙ ap (λ ps. (uri, w.name.local) ∷ ps) c)),
      )

-- What attributes mean that are written so: their names come once, and they expand, each expanded name once
pub record Means (scope : List Bound) (ws : List WrittenAttribute) : Type 0 where
  pub once : IsDistinct same_written (names_of ws)
  pub expanded : List Attribute
  pub expands : Expands scope ws expanded
  pub expanded_once : IsDistinct same_name (expanded_names expanded)

module _ (tag names : List ℕ) (declared : List Declared) (scope : List Bound) (binds : Binds (map (binding_in names) declared) scope) (list : List code.Attribute) (ws : List WrittenAttribute) (are : AreWritten tag list ws) where
  pub means_so : AreMeant tag names declared (bindings_of ws) list → Means scope ws
  means_so m =
      let (es, x, p) = expand names declared scope binds ws m.lawful (sym (all_mean tag names declared list ws are) ∙ m.bound) in
      record {
        once = map_distinct name_parts same_parts (names_of ws) (subst (IsDistinct same_parts) (written_parts tag names declared list ws are) m.written);
        expanded = es;
        expands = x;
        expanded_once = map_distinct expanded_parts same_parts (expanded_names es) (subst (IsDistinct same_parts) (all_expanded_parts tag names declared list ws are ∙ p) m.expanded);
      }

  pub meant_so : Means scope ws → AreMeant tag names declared (bindings_of ws) list
  meant_so m =
      let (l, b, p) = expanded_so names declared scope binds m.expands in
      record {
        written = subst (IsDistinct same_parts) (sym (written_parts tag names declared list ws are)) (distinct_map name_parts same_parts (names_of ws) m.once);
        expanded = subst (IsDistinct same_parts) (sym (all_expanded_parts tag names declared list ws are ∙ p)) (distinct_map expanded_parts same_parts (expanded_names m.expanded) m.expanded_once);
        lawful = l;
        bound = all_mean tag names declared list ws are ∙ b;
      }
