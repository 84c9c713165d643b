-- What the declarations of attributes add to the names and declarations that are kept.
use Rattle.std.proofs.Common.{◌≡◌, ℕ, zero, suc, ◌+◌, ◌-◌, ◌<◌, ◌≤◌, Bool, true, false, cond, List, [], ◌∷◌, ◌++◌, refl, ap, ◌∙◌, sym, subst, map, length, take, drop, get_or, arith, append_assoc, append-nil, length-append, take_all}
use Rattle.std.specs.Prelude.{sum_by}
use Rattle.std.specs.List.{AllByRecursion}
use Rattle.std.proofs.lemmas.List.{map-append, length-map, take_at, drop_at, take_more, drop_more, take-append-drop, length-take-le}
use Rattle.std.proofs.lemmas.List.Sums.{sum_by-cons, sum_by-append}
use Rattle.tc_model.specs.RawTrees.{Bound}
use Rattle.tc_model.specs.XmlTextScopes.{WrittenAttribute, is_declaration, binding_of}
use Rattle.tc_tags.specs.Listed.{is_declared, declared_prefix}
use Rattle.tc_tags.specs.Scoped.{chains_in}
use Rattle.tc_tags.specs.Spans.{at_span}
use Rattle.tc_tags.specs.Written.{IsWritten, AreWritten, AreKept, Adds, StandsWithin, binding_in, bindings_of, bytes_of, declared_bytes}
use Rattle.tc_tags.specs.XmlTextTags.{declared_length}
use Rattle.tc_tags.specs.declared.attributes.Attribute.{Attribute}
use Rattle.tc_tags.specs.declared.scopes.Declared.{Declared}
use Rattle.tc_tags.proofs.BindingLaws.{bindings_kept, chains_kept, within_more, all_append}

-- what a list of attributes gives past its end
abbrev pub blank_attribute : WrittenAttribute
blank_attribute = record { name = record { prefix = []; local = [] }; value = []; place = 0 }

-- attributes that stand in a tag, one by one
pub written_length : (tag : List ℕ) (list : List Attribute) (ws : List WrittenAttribute) → AreWritten tag list ws → length list ≡ length ws
written_length tag [] [] h = refl
written_length tag [] (w ∷ ws) h = absurd h
written_length tag (a ∷ list) [] h = absurd h
written_length tag (a ∷ list) (w ∷ ws) h = let more = written_length tag list ws h.1 in omega (arith, more)

pub written_at : (tag : List ℕ) (list : List Attribute) (ws : List WrittenAttribute) (i : ℕ) (d : Attribute) (e : WrittenAttribute) → AreWritten tag list ws → i < length list → IsWritten tag (get_or list i d) (get_or ws i e)
written_at tag [] ws i d e h l = absurd (omega (arith, l))
written_at tag (a ∷ list) [] i d e h l = absurd h
written_at tag (a ∷ list) (w ∷ ws) zero d e h l = h.0
written_at tag (a ∷ list) (w ∷ ws) (suc i) d e h l = written_at tag list ws i d e h.1 (omega (arith, l))

-- what they bind
pub bindings_append : (ws vs : List WrittenAttribute) → bindings_of (ws ++ vs) ≡ bindings_of ws ++ bindings_of vs
bindings_append [] vs = refl
bindings_append (w ∷ ws) vs = by (is_declaration w) (bindings_append ws vs)
  where
    by : (b : Bool) → bindings_of (ws ++ vs) ≡ bindings_of ws ++ bindings_of vs → cond b (binding_of w ∷ bindings_of (ws ++ vs)) (bindings_of (ws ++ vs)) ≡ cond b (binding_of w ∷ bindings_of ws) (bindings_of ws) ++ bindings_of vs
    by true e = ap (λ bs. binding_of w ∷ bs) e
    by false e = e

pub bindings_few : (ws : List WrittenAttribute) → length (bindings_of ws) ≤ length ws
bindings_few [] = omega arith
bindings_few (w ∷ ws) = let more = bindings_few ws in by (is_declaration w) more
  where
    by : (b : Bool) → length (bindings_of ws) ≤ length ws → length (cond b (binding_of w ∷ bindings_of ws) (bindings_of ws)) ≤ length (w ∷ ws)
    by true l = omega (arith, l)
    by false l = omega (arith, l)

bytes_append : (bs cs : List Bound) → bytes_of (bs ++ cs) ≡ bytes_of bs ++ bytes_of cs
bytes_append [] cs = refl
bytes_append (b ∷ bs) cs = ap (λ w. (b.prefix ++ b.uri) ++ w) (bytes_append bs cs) ∙ sym (append_assoc (b.prefix ++ b.uri) (bytes_of bs) (bytes_of cs))

pub length_bytes : (ws : List WrittenAttribute) → length (declared_bytes ws) ≡ sum_by declared_length ws
length_bytes [] = refl
length_bytes (w ∷ ws) = by (is_declaration w) (length_bytes ws) ∙ sym (sum_by-cons declared_length w ws)
  where
    by : (b : Bool) → length (declared_bytes ws) ≡ sum_by declared_length ws → length (bytes_of (cond b (binding_of w ∷ bindings_of ws) (bindings_of ws))) ≡ cond b (length (binding_of w).prefix + length (binding_of w).uri) 0 + sum_by declared_length ws
    by true more =
        length-append ((binding_of w).prefix ++ (binding_of w).uri) (declared_bytes ws)
        ∙ (ap (λ n. n + length (declared_bytes ws)) (length-append (binding_of w).prefix (binding_of w).uri) ∙ ap (λ n. length (binding_of w).prefix + length (binding_of w).uri + n) more)
    by false more = omega (arith, more)

-- nothing added, and more
pub adds_none : (names : List ℕ) (declared : List Declared) → Adds [] names names declared declared
adds_none names declared = record { bytes = sym (append-nil names); more = []; behind = sym (append-nil declared); bindings = refl; within = tt }

pub adds_more : {ws vs : List WrittenAttribute} {n0 n1 n2 : List ℕ} {d0 d1 d2 : List Declared} → Adds ws n0 n1 d0 d1 → Adds vs n1 n2 d1 d2 → Adds (ws ++ vs) n0 n2 d0 d2
adds_more {ws} {vs} {n0} {n1} {n2} {d0} {d1} {d2} a b =
    let same : map (binding_in n2) a.more ≡ map (binding_in n1) a.more = ap (λ n. map (binding_in n) a.more) b.bytes ∙ bindings_kept n1 (declared_bytes vs) a.more a.within in
    record {
      bytes = b.bytes ∙ (ap (λ w. w ++ declared_bytes vs) a.bytes
          ∙ (append_assoc n0 (declared_bytes ws) (declared_bytes vs) ∙ ap (λ w. n0 ++ w) (sym (ap bytes_of (bindings_append ws vs) ∙ bytes_append (bindings_of ws) (bindings_of vs)))));
      more = a.more ++ b.more;
      behind = b.behind ∙ (ap (λ w. w ++ b.more) a.behind ∙ append_assoc d0 a.more b.more);
      bindings = map-append (binding_in n2) a.more b.more ∙ (ap (λ w. w ++ map (binding_in n2) b.more) (same ∙ a.bindings) ∙ (ap (λ w. bindings_of ws ++ w) b.bindings ∙ sym (bindings_append ws vs)));
      within = all_append (StandsWithin (length n2)) a.more b.more (within_more (length n1) (length n2) a.more (omega (arith, ap length b.bytes, length-append n1 (declared_bytes vs))) a.within) b.within;
    }

-- how many declarations are added
pub adds_few : {ws : List WrittenAttribute} {n0 n1 : List ℕ} {d0 d1 : List Declared} → Adds ws n0 n1 d0 d1 → length d1 ≤ length d0 + length ws
adds_few {ws} {n0} {n1} {d0} {d1} a =
    let many : length a.more ≡ length (bindings_of ws) = sym (length-map a.more (binding_in n1)) ∙ ap length a.bindings in
    omega (arith, many, bindings_few ws, ap length a.behind, length-append d0 a.more)

-- what was kept and what is added are kept
pub kept_more : {ws : List WrittenAttribute} {n0 n1 : List ℕ} {d0 d1 : List Declared} {c0 c1 : List ℕ} → AreKept n0 d0 c0 → Adds ws n0 n1 d0 d1 → c1 ≡ chains_in n1 d1 → AreKept n1 d1 c1
kept_more {ws} {n0} {n1} {d0} {d1} k a e = record {
  chained = e;
  within = subst (AllByRecursion (StandsWithin (length n1))) (sym a.behind)
      (all_append (StandsWithin (length n1)) d0 a.more (within_more (length n0) (length n1) d0 (omega (arith, ap length a.bytes, length-append n0 (declared_bytes ws))) k.within) a.within);
}

pub chained_more : {n0 n1 : List ℕ} {d0 : List Declared} {c0 : List ℕ} (p v : List ℕ) → AreKept n0 d0 c0 → n1 ≡ (n0 ++ p) ++ v → c0 ≡ chains_in n1 d0
chained_more {n0} {n1} {d0} p v k e = k.chained ∙ sym (ap (λ n. chains_in n d0) (e ∙ append_assoc n0 p v) ∙ chains_kept n0 (p ++ v) d0 k.within)

-- where names follow, what is kept stays
pub kept_behind : {n0 n1 : List ℕ} {d0 : List Declared} {c0 : List ℕ} (p : List ℕ) → AreKept n0 d0 c0 → n1 ≡ n0 ++ p → AreKept n1 d0 c0
kept_behind {n0} {n1} {d0} p k e = record {
  chained = k.chained ∙ sym (ap (λ n. chains_in n d0) e ∙ chains_kept n0 p d0 k.within);
  within = within_more (length n0) (length n1) d0 (omega (arith, ap length e, length-append n0 p)) k.within;
}

-- one attribute that is no declaration
declaration_is : (tag : List ℕ) (a : Attribute) (w : WrittenAttribute) (b : Bool) → IsWritten tag a w → is_declared (at_span a.prefix tag) (at_span a.local tag) ≡ b → is_declaration w ≡ b
declaration_is tag a w b h e = sym (ap (λ x. is_declared x (at_span a.local tag)) h.prefix ∙ ap (is_declared w.name.prefix) h.local) ∙ e

pub adds_nothing : (tag : List ℕ) (a : Attribute) (names : List ℕ) (declared : List Declared) → is_declared (at_span a.prefix tag) (at_span a.local tag) ≡ false → (w : WrittenAttribute) → IsWritten tag a w → Adds (w ∷ []) names names declared declared
adds_nothing tag a names declared e w h =
    let is = declaration_is tag a w false h e in
    let none : bindings_of (w ∷ []) ≡ [] = ap (λ b. cond b (binding_of w ∷ []) []) is in
    record { bytes = sym (append-nil names) ∙ ap (λ bs. names ++ bytes_of bs) (sym none); more = []; behind = sym (append-nil declared); bindings = sym none; within = tt }

-- and one that is
module _ (tag : List ℕ) (a : Attribute) (is : is_declared (at_span a.prefix tag) (at_span a.local tag) ≡ true) (p : List ℕ) (prefix : p ≡ declared_prefix (at_span a.prefix tag) (at_span a.local tag)) where
  prefix_is : (w : WrittenAttribute) → IsWritten tag a w → p ≡ (binding_of w).prefix
  prefix_is w h = prefix ∙ (ap (λ x. declared_prefix x (at_span a.local tag)) h.prefix ∙ ap (declared_prefix w.name.prefix) h.local)

  one_binding : (w : WrittenAttribute) → IsWritten tag a w → bindings_of (w ∷ []) ≡ binding_of w ∷ []
  one_binding w h = ap (λ b. cond b (binding_of w ∷ []) []) (declaration_is tag a w true h is)

  pub adds_one : (names n1 n2 : List ℕ) (declared new : List Declared) (d : Declared) (w : WrittenAttribute) → IsWritten tag a w → n1 ≡ names ++ p → n2 ≡ n1 ++ w.value
      → d.prefix.start ≡ length names → d.prefix.length ≡ length p → d.uri.start ≡ length n1 → d.uri.length ≡ length n2 - length n1 → new ≡ declared ++ d ∷ [] → Adds (w ∷ []) names n2 declared new
  adds_one names n1 n2 declared new d w h e f ps pl us ul k =
      let v = w.value in
      let whole : n2 ≡ (names ++ p) ++ v = f ∙ ap (λ z. z ++ v) e in
      let value_length : d.uri.length ≡ length v = omega (arith, ul, ap length f, length-append n1 v) in
      let at_prefix : at_span d.prefix n2 ≡ p =
      ap (λ z. take d.prefix.length (drop d.prefix.start z)) (whole ∙ append_assoc names p v)
      ∙ (ap (take d.prefix.length) (drop_at names (p ++ v) d.prefix.start (sym ps)) ∙ take_at p v d.prefix.length (sym pl)) in
      let at_uri : at_span d.uri n2 ≡ v =
      ap (λ z. take d.uri.length (drop d.uri.start z)) f ∙ (ap (take d.uri.length) (drop_at n1 v d.uri.start (sym us)) ∙ take_all d.uri.length v (omega (arith, value_length))) in
      let make : List ℕ → List ℕ → Bound = λ x y. record { prefix = x; uri = y } in
      let binding : binding_in n2 d ≡ binding_of w = ap (λ x. make x (at_span d.uri n2)) (at_prefix ∙ prefix_is w h) ∙ ap (make (binding_of w).prefix) at_uri in
      let lengths : length n2 ≡ length names + length p + length v = ap length whole ∙ (length-append (names ++ p) v ∙ ap (λ z. z + length v) (length-append names p)) in
      let first : length n1 ≡ length names + length p = ap length e ∙ length-append names p in
      record {
        bytes = whole ∙ (append_assoc names p v ∙ ap (λ z. names ++ z)
            (ap (λ z. z ++ v) (prefix_is w h) ∙ (sym (append-nil ((binding_of w).prefix ++ v)) ∙ ap bytes_of (sym (one_binding w h)))));
        more = d ∷ [];
        behind = k;
        bindings = ap (λ b. b ∷ []) binding ∙ sym (one_binding w h);
        within = ((omega (arith, ps, pl, lengths), omega (arith, us, value_length, first, lengths)), tt);
      }

  pub full_prefix : (names : List ℕ) (most : ℕ) (w : WrittenAttribute) → IsWritten tag a w → most < length names + length p → most < length names + declared_length w
  full_prefix names most w h l =
      let all : declared_length w ≡ length (binding_of w).prefix + length w.value = ap (λ b. cond b (length (binding_of w).prefix + length w.value) 0) (declaration_is tag a w true h is) in
      omega (arith, l, all, ap length (prefix_is w h))

  pub full_value : (names n1 : List ℕ) (most now : ℕ) (w : WrittenAttribute) → IsWritten tag a w → n1 ≡ names ++ p → now ≡ most → now < length n1 + length w.value → most < length names + declared_length w
  full_value names n1 most now w h e same l =
      let all : declared_length w ≡ length (binding_of w).prefix + length w.value = ap (λ b. cond b (length (binding_of w).prefix + length w.value) 0) (declaration_is tag a w true h is) in
      omega (arith, l, same, all, ap length (prefix_is w h), ap length e, length-append names p)

-- one attribute after the other
module _ (tag : List ℕ) (list : List Attribute) (i : ℕ) (d : Attribute) (l : i < length list) where
  pub adds_step : {n0 n1 n2 : List ℕ} {d0 d1 d2 : List Declared} → ((ws : List WrittenAttribute) → AreWritten tag list ws → Adds (take i ws) n0 n1 d0 d1) → ((w : WrittenAttribute) → IsWritten tag (get_or list i d) w → Adds (w ∷ []) n1 n2 d1 d2)
      → (ws : List WrittenAttribute) → AreWritten tag list ws → Adds (take (i + 1) ws) n0 n2 d0 d2
  adds_step {n0} {n1} {n2} {d0} {d1} {d2} h k ws are =
      let same = written_length tag list ws are in
      let w = get_or ws i blank_attribute in
      subst (λ z. Adds z n0 n2 d0 d2) (sym (take_more ws i blank_attribute (omega (arith, l, same)))) (adds_more (h ws are) (k w (written_at tag list ws i d blank_attribute are l)))

  pub full_step : {n0 n1 : List ℕ} {d0 d1 : List Declared} (most now : ℕ) → ((ws : List WrittenAttribute) → AreWritten tag list ws → Adds (take i ws) n0 n1 d0 d1) → now ≡ most
      → ((w : WrittenAttribute) → IsWritten tag (get_or list i d) w → now < length n1 + declared_length w) → (ws : List WrittenAttribute) → AreWritten tag list ws → most < length n0 + sum_by declared_length ws
  full_step {n0} {n1} most now h same k ws are =
      let long = written_length tag list ws are in
      let w = get_or ws i blank_attribute in
      let split : ws ≡ take i ws ++ w ∷ drop (i + 1) ws = sym (take-append-drop i ws) ∙ ap (λ z. take i ws ++ z) (drop_more ws i blank_attribute (omega (arith, l, long))) in
      let sums : sum_by declared_length ws ≡ sum_by declared_length (take i ws) + (declared_length w + sum_by declared_length (drop (i + 1) ws)) =
      ap (sum_by declared_length) split ∙ (sum_by-append declared_length (take i ws) (w ∷ drop (i + 1) ws) ∙ ap (λ n. sum_by declared_length (take i ws) + n) (sum_by-cons declared_length w (drop (i + 1) ws))) in
      let before : length n1 ≡ length n0 + sum_by declared_length (take i ws) = ap length (h ws are).bytes ∙ (length-append n0 (declared_bytes (take i ws)) ∙ ap (λ n. length n0 + n) (length_bytes (take i ws))) in
      let full = k w (written_at tag list ws i d blank_attribute are l) in
      omega (arith, sums, before, full, same)

pub room_step : {n0 n1 : List ℕ} {d0 d1 : List Declared} (tag : List ℕ) (list : List Attribute) (i most : ℕ) → i < length list → length d0 + length list ≤ most
    → ((ws : List WrittenAttribute) → AreWritten tag list ws → Adds (take i ws) n0 n1 d0 d1) → (ws : List WrittenAttribute) → AreWritten tag list ws → length d1 < most
room_step {n0} {n1} {d0} {d1} tag list i most l room h ws are =
    let few = adds_few (h ws are) in
    let same = written_length tag list ws are in
    let front : length (take i ws) ≡ i = length-take-le i ws (omega (arith, l, same)) in
    omega (arith, few, front, l, room)

pub adds_all : {n0 n1 : List ℕ} {d0 d1 : List Declared} (tag : List ℕ) (list : List Attribute) (i : ℕ) → length list ≤ i
    → ((ws : List WrittenAttribute) → AreWritten tag list ws → Adds (take i ws) n0 n1 d0 d1) → (ws : List WrittenAttribute) → AreWritten tag list ws → Adds ws n0 n1 d0 d1
adds_all {n0} {n1} {d0} {d1} tag list i l h ws are = subst (λ z. Adds z n0 n1 d0 d1) (take_all i ws (omega (arith, l, written_length tag list ws are))) (h ws are)
