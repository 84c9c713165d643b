-- Elements that are open, by their places.
use Rattle.std.proofs.Common.{◌≡◌, ◌≢◌, inl, inr, ℕ, ◌+◌, ◌-◌, ◌≤◌, ◌<◌, List, [], ◌∷◌, length, Bool, true, false, not, cond, Some, refl, sym, ap, subst, ◌∙◌, slice_get, set, arith}
use Rattle.std.proofs.lemmas.Option.{same_Some, slice_get_within}
use Rattle.tc_alpha.specs.declared.alphabet.Sym.{Sym}
use Rattle.tc_model.specs.Names.{ExpandedName}
use Rattle.tc_model.specs.Trees.{Trees, none, text, element, beside, kept, is_white_space_only}
use Rattle.tc_auto.specs.declared.auto.Auto.{Auto}
use Rattle.tc_model.specs.Grammars.{Grammar}
use Rattle.tc_model.specs.Symbols.{Mention, symbol_of}
use Rattle.tc_model.proofs.NormalForm.{beside_none}
use Rattle.tc_steps.specs.Classes.{IsKnown, IsFor}
use Rattle.tc_steps.specs.Led.{AreLed}
use Rattle.tc_steps.specs.Open.{Open, with_text, with_element, IsLevel, AreLevels, IsWithin}
use Rattle.tc_steps.specs.declared.classes.Class.{Class}
use Rattle.tc_steps.specs.declared.levels.Level.{Level}
use Rattle.tc_steps.proofs.ClassLaws.{set_slot, set_other}

-- a text of white space alone adds nothing, any other a text
pub kids_white : (h : Trees) (run : List ℕ) → is_white_space_only run ≡ true → beside h (kept run none) ≡ h
kids_white h run w = ap (λ b. beside h (cond b none (text run none))) w ∙ beside_none h

pub kids_text : (h : Trees) (run : List ℕ) → is_white_space_only run ≡ false → beside h (kept run none) ≡ beside h (text run none)
kids_text h run w = ap (λ b. beside h (cond b none (text run none))) w

pub path_white : (run : List ℕ) (path : List Open) → is_white_space_only run ≡ true → with_text run path ≡ path
path_white run [] w = refl
path_white run (o ∷ os) w =
    let open_of : Trees → Open = λ h. record { name = o.name; kids = h } in
    ap (λ h. open_of h ∷ os) (kids_white o.kids run w)

module _ (x : Grammar) (symbols : List Mention) where
  pub known_more : (old new : List Class) → ((k : ℕ) → IsKnown old k → IsKnown new k) → (levels : List Level) (path : List Open) → AreLevels x symbols old levels path → AreLevels x symbols new levels path
  known_more old new stays levels [] h = tt
  known_more old new stays levels (o ∷ os) ((l, at, r), rest) =
      ((l, at, record { symbol = r.symbol; known = stays l.symbol.0 r.known; led = r.led }), known_more old new stays levels os rest)

  module _ (classes : List Class) where
    set_above : (levels : List Level) (n : ℕ) (c : Level) (path : List Open) → length path ≤ n → AreLevels x symbols classes levels path → AreLevels x symbols classes (set levels n c) path
    set_above levels n c [] low h = tt
    set_above levels n c (o ∷ os) low ((l, at, r), rest) =
        ((l, elim (set_other levels n (length os) c l at) [ inl there ↦ there | inr (same, k) ↦ absurd (omega (arith, low, same)) ], r), set_above levels n c os (omega (arith, low)) rest)

    -- the level at a place is another
    pub set_top : (levels : List Level) (o : Open) (os : List Open) (n : ℕ) (c : Level) → n ≡ length os → n < length levels → AreLevels x symbols classes levels os → IsLevel x symbols classes o c
        → AreLevels x symbols classes (set levels n c) (o ∷ os)
    set_top levels o os n c is low h r =
        ((c, subst (λ k. slice_get (set levels n c) k ≡ Some c) is (set_slot levels n c low), r), set_above levels n c os (omega (arith, is)) h)

    -- the level at the place of the innermost element is its level
    pub top_is : (levels : List Level) (o : Open) (os : List Open) (n : ℕ) (c : Level) → n ≡ length os → slice_get levels n ≡ Some c → AreLevels x symbols classes levels (o ∷ os) → IsLevel x symbols classes o c
    top_is levels o os n c is at ((l, there, r), rest) =
        let same : l ≡ c = same_Some l c (sym there ∙ (ap (slice_get levels) (sym is) ∙ at)) in
        subst (λ (w : Level). IsLevel x symbols classes o w) same r

    -- the innermost element is another, of the same name
    pub top_changed : (levels : List Level) (o new : Open) (os : List Open) (n : ℕ) (l c : Level) → n ≡ length os → slice_get levels n ≡ Some l → AreLevels x symbols classes levels (o ∷ os) → new.name ≡ o.name → c.symbol ≡ l.symbol
        → (AreLed x o.name o.kids l.states → AreLed x new.name new.kids c.states) → AreLevels x symbols classes (set levels n c) (new ∷ os)
    top_changed levels o new os n l c is at h name same led =
        let r = top_is levels o os n l is at h in
        set_top levels new os n c is (slice_get_within levels n l at) h.1
        (record {
          symbol = ap (λ (s : Sym). s.0) same ∙ (r.symbol ∙ ap (symbol_of symbols) (sym name));
          known = subst (λ (s : Sym). IsKnown classes s.0) (sym same) r.known;
          led = led r.led;
        })

    -- behind a text
    pub text_passed : (levels : List Level) (path : List Open) (run : List ℕ) (n : ℕ) (l c : Level) → n + 1 ≡ length path → slice_get levels n ≡ Some l → AreLevels x symbols classes levels path → is_white_space_only run ≡ false → c.symbol ≡ l.symbol
        → ((m : ExpandedName) (kids : Trees) → AreLed x m kids l.states → AreLed x m (beside kids (text run none)) c.states) → AreLevels x symbols classes (set levels n c) (with_text run path)
    text_passed levels [] run n l c is at h w same led = absurd (omega (arith, is))
    text_passed levels (o ∷ os) run n l c is at h w same led =
        top_changed levels o (record { name = o.name; kids = beside o.kids (kept run none) }) os n l c (omega (arith, is)) at h refl same
        (λ k. subst (λ z. AreLed x o.name z c.states) (sym (kids_text o.kids run w)) (led o.name o.kids k))

    -- behind an element
    pub element_passed : (levels : List Level) (path : List Open) (name : ExpandedName) (inside : Trees) (n : ℕ) (l c : Level) → n + 1 ≡ length path → slice_get levels n ≡ Some l → AreLevels x symbols classes levels path → c.symbol ≡ l.symbol
        → ((m : ExpandedName) (kids : Trees) → AreLed x m kids l.states → AreLed x m (beside kids (element name inside none)) c.states) → AreLevels x symbols classes (set levels n c) (with_element name inside path)
    element_passed levels [] name inside n l c is at h same led = absurd (omega (arith, is))
    element_passed levels (o ∷ os) name inside n l c is at h same led =
        top_changed levels o (record { name = o.name; kids = beside o.kids (element name inside none) }) os n l c (omega (arith, is)) at h refl same (led o.name o.kids)

pub not_text : (run : List ℕ) (b : Bool) → b ≡ not (is_white_space_only run) → b ≡ true → is_white_space_only run ≡ false
not_text run b e h = by (is_white_space_only run) (sym h ∙ e)
  where
    by : (y : Bool) → true ≡ not y → y ≡ false
    by true e = e
    by false e = refl

pub all_white : (run : List ℕ) (b : Bool) → b ≡ not (is_white_space_only run) → b ≡ false → is_white_space_only run ≡ true
all_white run b e h = by (is_white_space_only run) (sym h ∙ e)
  where
    by : (y : Bool) → false ≡ not y → y ≡ true
    by true e = refl
    by false e = e

pub text_length : (run : List ℕ) (path : List Open) → length (with_text run path) ≡ length path
text_length run [] = refl
text_length run (o ∷ os) = refl

pub element_length : (n : ExpandedName) (kids : Trees) (path : List Open) → length (with_element n kids path) ≡ length path
element_length n kids [] = refl
element_length n kids (o ∷ os) = refl

-- the same where what is kept of the steps is equal
moved : {x : Grammar} {a b : Auto} {s u : List Mention} {cs ds : List Class} {levels : List Level} {depth : ℕ} {has : Bool} {path : List Open} {run : List ℕ} → b ≡ a → u ≡ s → ds ≡ cs
    → IsWithin x a s cs levels depth has path run → IsWithin x b u ds levels depth has path run
moved {x} {a} {b} {s} {u} {cs} {ds} {levels} {depth} {has} {path} {run} e f g w =
    subst (λ z. IsWithin x z u ds levels depth has path run) (sym e) (subst (λ z. IsWithin x a z ds levels depth has path run) (sym f) (subst (λ z. IsWithin x a s z levels depth has path run) (sym g) w))

-- over a text
pub text_within : {x : Grammar} {a b : Auto} {s u : List Mention} {cs ds : List Class} {levels : List Level} {depth : ℕ} {has : Bool} {path : List Open} {run : List ℕ} (l c : Level) → IsWithin x a s cs levels depth has path run → 0 < depth → has ≡ true
    → b ≡ a → u ≡ s → ds ≡ cs → slice_get levels (depth - 1) ≡ Some l → c.symbol ≡ l.symbol
    → ((n : ExpandedName) (kids : Trees) → is_white_space_only run ≡ false → AreLed x n kids l.states → AreLed x n (beside kids (text run none)) c.states) → IsWithin x b u ds (set levels (depth - 1) c) depth false (with_text run path) []
text_within {x} {s = s} {cs = cs} {levels = levels} {depth = depth} {has = has} {path = path} {run = run} l c w some is e f g at same led =
    let white = not_text run has w.text is in
    let counted = w.counted in
    let n : depth - 1 + 1 ≡ length path = omega (arith, some, counted) in
    moved e f g (record {
      right = w.right;
      counted = counted ∙ sym (text_length run path);
      levels_are = text_passed x s cs levels path run (depth - 1) l c n at w.levels_are white same (λ m kids h. led m kids white h);
      text = refl;
    })

-- where no text stands, or no element is open
pub no_text_within : {x : Grammar} {a : Auto} {s : List Mention} {cs : List Class} {levels : List Level} {depth : ℕ} {has : Bool} {path : List Open} {run : List ℕ} → IsWithin x a s cs levels depth has path run → has ≡ false
    → IsWithin x a s cs levels depth has (with_text run path) []
no_text_within {x} {s = s} {cs = cs} {levels = levels} {has = has} {path = path} {run = run} w is =
    let white = all_white run has w.text is in
    record { right = w.right; counted = w.counted ∙ sym (text_length run path); levels_are = subst (AreLevels x s cs levels) (sym (path_white run path white)) w.levels_are; text = is }

pub no_path_within : {x : Grammar} {a : Auto} {s : List Mention} {cs : List Class} {levels : List Level} {depth : ℕ} {has : Bool} {path : List Open} {run : List ℕ} → IsWithin x a s cs levels depth has path run → depth ≡ 0
    → IsWithin x a s cs levels depth false (with_text run path) []
no_path_within {path = []} w e = record { right = w.right; counted = w.counted; levels_are = tt; text = refl }
no_path_within {path = o ∷ os} w e = let counted = w.counted in absurd (omega (arith, counted, e))

-- into an element
pub start_within : {x : Grammar} {a b : Auto} {s u : List Mention} {cs ds : List Class} {levels : List Level} {depth : ℕ} {has : Bool} {path : List Open} (name : ExpandedName) (c : Level) → IsWithin x a s cs levels depth has path [] → IsFor x b u ds → u ≡ s
    → ((k : ℕ) → IsKnown cs k → IsKnown ds k) → depth < length levels → c.symbol.0 ≡ symbol_of s name → IsKnown ds c.symbol.0 → AreLed x name none c.states
    → IsWithin x b u ds (set levels depth c) (depth + 1) has (record { name = name; kids = none } ∷ path) []
start_within {x} {b = b} {s = s} {u = u} {cs = cs} {ds = ds} {levels = levels} {depth = depth} {has = has} {path = path} name c w right e stays low symbol known led =
    let counted = w.counted in
    let level : IsLevel x s ds (record { name = name; kids = none }) c = record { symbol = symbol; known = known; led = led } in
    let levels_are = set_top x s ds levels (record { name = name; kids = none }) path depth c counted low (known_more x s cs ds stays levels path w.levels_are) level in
    record {
      right = right;
      counted = omega (arith, counted);
      levels_are = subst (λ z. AreLevels x z ds (set levels depth c) (record { name = name; kids = none } ∷ path)) (sym e) levels_are;
      text = w.text;
    }

-- out of one
pub leave_within : {x : Grammar} {a : Auto} {s : List Mention} {cs : List Class} {levels : List Level} {depth : ℕ} {has : Bool} {o : Open} {path : List Open} → IsWithin x a s cs levels depth has (o ∷ path) [] → 0 < depth
    → IsWithin x a s cs levels (depth - 1) has path []
leave_within w some = let counted = w.counted in record { right = w.right; counted = omega (arith, counted, some); levels_are = w.levels_are.1; text = w.text }

-- what is kept at a place that no open element has is another
pub set_left : {x : Grammar} {a : Auto} {s : List Mention} {cs : List Class} {levels : List Level} {depth : ℕ} {has : Bool} {path : List Open} (n : ℕ) (c : Level) → IsWithin x a s cs levels depth has path [] → depth ≤ n
    → IsWithin x a s cs (set levels n c) depth has path []
set_left {x} {s = s} {cs = cs} {levels = levels} {path = path} n c w low =
    let counted = w.counted in
    record { right = w.right; counted = counted; levels_are = set_above x s cs levels n c path (omega (arith, counted, low)) w.levels_are; text = w.text }

pub level_within : {x : Grammar} {a : Auto} {s : List Mention} {cs : List Class} {levels : List Level} {depth : ℕ} {has : Bool} {o : Open} {path : List Open} (l : Level) → IsWithin x a s cs levels depth has (o ∷ path) []
    → slice_get levels (depth - 1) ≡ Some l → IsLevel x s cs o l
level_within {x} {s = s} {cs = cs} {levels = levels} {depth = depth} {o = o} {path = path} l w at =
    let counted = w.counted in
    let is : depth - 1 ≡ length path = omega (arith, counted) in
    top_is x s cs levels o path (depth - 1) l is at w.levels_are

pub element_within : {x : Grammar} {a b : Auto} {s u : List Mention} {cs ds : List Class} {levels : List Level} {depth : ℕ} {has : Bool} {path : List Open} (name : ExpandedName) (inside : Trees) (l c : Level) → IsWithin x a s cs levels depth has path [] → depth ≢ 0
    → b ≡ a → u ≡ s → ds ≡ cs → slice_get levels (depth - 1) ≡ Some l → c.symbol ≡ l.symbol → ((n : ExpandedName) (kids : Trees) → AreLed x n kids l.states → AreLed x n (beside kids (element name inside none)) c.states)
    → IsWithin x b u ds (set levels (depth - 1) c) depth has (with_element name inside path) []
element_within {x} {s = s} {cs = cs} {levels = levels} {depth = depth} {path = path} name inside l c w some e f g at same led =
    let counted = w.counted in
    let n : depth - 1 + 1 ≡ length path = omega (arith, some, counted) in
    moved e f g (record {
      right = w.right;
      counted = counted ∙ sym (element_length name inside path);
      levels_are = element_passed x s cs levels path name inside (depth - 1) l c n at w.levels_are same led;
      text = w.text;
    })

pub root_within : {x : Grammar} {a : Auto} {s : List Mention} {cs : List Class} {levels : List Level} {depth : ℕ} {has : Bool} {path : List Open} (name : ExpandedName) (inside : Trees) → IsWithin x a s cs levels depth has path [] → depth ≡ 0
    → IsWithin x a s cs levels depth has (with_element name inside path) []
root_within {path = []} name inside w e = w
root_within {path = o ∷ os} name inside w e = let counted = w.counted in absurd (omega (arith, counted, e))

-- no element is open
pub none_open : {x : Grammar} {a : Auto} {s : List Mention} {cs : List Class} (levels : List Level) → IsFor x a s cs → IsWithin x a s cs levels 0 false [] []
none_open levels right = record { right = right; counted = refl; levels_are = tt; text = refl }
