-- What a body puts out on a node leads as is told by what stands below the node.
use Rattle.std.proofs.Common.{◌≡◌, ℕ, ◌+◌, List, [], ◌∷◌, refl, ap, ◌∙◌, sym, subst, Bool, true, false, cond, not, ◌&&◌, ◌||◌, Option, Some, None, is_some, Contains}
use Rattle.tc_model.specs.Names.{ExpandedName}
use Rattle.tc_model.specs.Trees.{Trees, none, element, beside, is_white_space_only}
use Rattle.tc_model.specs.Chains.{an_element, a_text, Node, whole, one, children, joined_texts, string_value}
use Rattle.tc_model.specs.Sheets.{Path, Test, always, never, has, negated, all_of, any_of, Tests, no_test, test, CallFreeBody, p_done, p_text, p_element, p_copy, p_apply, p_call, p_value, p_self, p_choose, p_each, CallFreeBranches, p_otherwise, p_branch}
use Rattle.tc_model.specs.Outcomes.{Outcome, put, copied}
use Rattle.tc_model.specs.Meaning.{value_of_first}
use Rattle.tc_model.specs.Machine.{CallFreeJob, in_mode, in_body, first_hit, holds_in, all_hold_in, some_holds_in, does_in, takes_in}
use Rattle.tc_model.specs.Numberings.{moves_of, looks_of}
use Rattle.tc_model.specs.Symbols.{symbol_of}
use Rattle.tc_rules.specs.States.{Going}
use Rattle.tc_model.specs.TreesApart.{bears_text, IsApart}
use Rattle.tc_rules.specs.Parts.{IsPartTest, ArePartTests}
use Rattle.tc_rules.specs.Tasks.{IsTaskOf, of_mode, going_from, looking_from}
use Rattle.tc_rows.specs.Triples.{Triple, IsTriple, sheet, machine}
use Rattle.tc_rows.specs.PairSets.{PairSet, HaveSamePairs, product, chosen}
use Rattle.tc_rows.specs.Rows.{led, value_of, is_hit_value, bears_value, hit_value, node_bears}
use Rattle.tc_rows.specs.Bodies.{NodeKind, on_root, on_element, on_text, Below, holds_by, all_hold_by, some_holds_by, stay, text_edges, around, value_pairs, copied_pairs, self_bears, body_pairs, branch_pairs}
use Rattle.tc_rows.proofs.PairLaws.{same_on, product_same}
use Rattle.tc_rows.proofs.Strings.{Fits, string_fits, value_fits}
use Rattle.tc_rows.proofs.Leading.{led_none, led_beside, led_text, led_white, led_element, around_alike}
use Rattle.tc_rows.proofs.Plain.{HasParts, HaveParts}

is_hit_of : (b : Bool) → true ≡ is_hit_value (hit_value b)
is_hit_of true = refl
is_hit_of false = refl

pub is_hit_seen : (o : Option Node) → is_some o ≡ is_hit_value (value_of o)
is_hit_seen None = refl
is_hit_seen (Some n) = is_hit_of (node_bears n)

module _ (x : Triple) (h : Trees) (look : Path → ℕ) (looks : (p : Path) → Contains (looks_of (sheet x)) p → look p ≡ value_of (first_hit (machine x) h (looking_from p))) where
  mutual
    -- tests hold by looks
    pub test_same : (t : Test) → IsPartTest (sheet x) t → holds_in (machine x) t h ≡ holds_by t look
    test_same always i = refl
    test_same never i = refl
    test_same (has p) i = is_hit_seen (first_hit (machine x) h (looking_from p)) ∙ ap is_hit_value (sym (looks p i))
    test_same (negated t) i = ap not (test_same t i)
    test_same (all_of ts) i = all_same ts i
    test_same (any_of ts) i = some_same ts i

    all_same : (ts : Tests) → ArePartTests (sheet x) ts → all_hold_in (machine x) ts h ≡ all_hold_by ts look
    all_same no_test i = refl
    all_same (test t ts) i = let a = test_same t i.0 in let b = all_same ts i.1 in λ k. a k && b k

    some_same : (ts : Tests) → ArePartTests (sheet x) ts → some_holds_in (machine x) ts h ≡ some_holds_by ts look
    some_same no_test i = refl
    some_same (test t ts) i = let a = test_same t i.0 in let b = some_same ts i.1 in λ k. a k || b k

module _ (x : Triple) (is : IsTriple x) where
  abbrev Leads : Outcome → PairSet → Type 0
  Leads o r = HaveSamePairs (led x o.out) r

  -- what kind of node it is
  abbrev pub kind_of_node : Node → NodeKind
  kind_of_node (whole doc) = on_root
  kind_of_node (one (an_element n kids)) = on_element (symbol_of x.symbols n)
  kind_of_node (one (a_text s)) = on_text

  -- what stands below is apart, and a text isn't white space alone
  abbrev pub IsNodeApart : Node → Type 0
  IsNodeApart (whole doc) = IsApart doc
  IsNodeApart (one (an_element n kids)) = IsApart kids
  IsNodeApart (one (a_text s)) = is_white_space_only s ≡ false

  pub children_apart : (n : Node) → IsNodeApart n → IsApart (children n)
  children_apart (whole doc) a = a
  children_apart (one (an_element n kids)) a = a
  children_apart (one (a_text s)) a = tt

  pub together : (h k : Trees) (r s : PairSet) → HaveSamePairs (led x h) r → HaveSamePairs (led x k) s → HaveSamePairs (led x (beside h k)) (product r s)
  together h k r s e f = same_on _ (product (led x h) (led x k)) _ (led_beside x is h k) (product_same (led x h) r (led x k) s e f)

  element_same : (n : ExpandedName) (h : Trees) (r : PairSet) → HaveSamePairs (led x h) r → HaveSamePairs (led x (element n h none)) (around x (symbol_of x.symbols n) r)
  element_same n h r e = same_on _ (around x (symbol_of x.symbols n) (led x h)) _ (led_element x is n h) (around_alike x (symbol_of x.symbols n) (led x h) r e)

  text_same : (s : List ℕ) (b : Bool) → is_white_space_only s ≡ b → Leads (put s) (chosen b (stay x) (text_edges x))
  text_same [] true e = led_none x is
  text_same [] false e = cc
  text_same (c ∷ cs) true e = led_white x is (c ∷ cs) e
  text_same (c ∷ cs) false e = led_text x is (c ∷ cs) e

  fits_text : (b : Bool) (s : List ℕ) → Fits b s → Leads (put s) (value_pairs x b)
  fits_text true [] f = cc
  fits_text true (c ∷ cs) f = led_text x is (c ∷ cs) f
  fits_text false s f = subst (λ w. Leads (put w) (stay x)) (sym f) (led_none x is)

  pub cond_same : (b c : Bool) (o p : Outcome) (r s : PairSet) → b ≡ c → Leads o r → Leads p s → Leads (cond b o p) (chosen c r s)
  cond_same true true o p r s e f g = f
  cond_same true false o p r s e f g = cc
  cond_same false true o p r s e f g = cc
  cond_same false false o p r s e f g = g

  copy_same : (n : Node) (g : Outcome) (r : PairSet) → IsNodeApart n → Leads g r → Leads (copied n g) (copied_pairs x (kind_of_node n) r)
  copy_same (whole doc) g r a e = e
  copy_same (one (an_element n kids)) g r a e = element_same n g.out r e
  copy_same (one (a_text s)) g r a e = text_same s false a

  self_same : (n : Node) (b : Bool) → IsNodeApart n → bears_text (children n) ≡ b → Fits (self_bears x (kind_of_node n) b) (string_value n)
  self_same (whole doc) b a e = subst (λ w. Fits w (joined_texts doc)) e (string_fits false doc a)
  self_same (one (an_element n kids)) b a e = subst (λ w. Fits w (joined_texts kids)) e (string_fits false kids a)
  self_same (one (a_text s)) b a e = a

  -- what stands below a node is told rightly
  pub record IsBelow (n : Node) (w : Below) (outs : CallFreeJob → Going → Outcome) : Type 0 where
    pub apart : IsNodeApart n
    pub bears : bears_text (children n) ≡ w.bears
    pub looks : (p : Path) → Contains (looks_of (sheet x)) p → w.look p ≡ value_of (first_hit (machine x) (children n) (looking_from p))
    pub pairs : (mode : ℕ) (p : Path) (j : CallFreeJob) → Contains (moves_of (sheet x)) (record { path = p; mode = mode }) → IsTaskOf (sheet x) mode j → Leads (outs j (going_from j p)) (w.pairs mode p)

  module _ (n : Node) (w : Below) (outs : CallFreeJob → Going → Outcome) (b : IsBelow n w outs) where
    value_same : (p : Path) → Contains (looks_of (sheet x)) p → Leads (put (value_of_first (first_hit (machine x) (children n) (looking_from p)))) (value_pairs x (bears_value (w.look p)))
    value_same p i =
        fits_text (bears_value (w.look p)) (value_of_first (first_hit (machine x) (children n) (looking_from p)))
        (subst (λ v. Fits (bears_value v) (value_of_first (first_hit (machine x) (children n) (looking_from p)))) (sym (b.looks p i)) (value_fits (machine x) false (children n) (looking_from p) (children_apart n b.apart)))

    mutual
      pub body_same : (d : CallFreeBody) → HasParts (sheet x) d → Leads (does_in (machine x) d n outs) (body_pairs x d (kind_of_node n) w)
      body_same p_done i = led_none x is
      body_same (p_text s d) i = together _ _ _ _ (text_same s (is_white_space_only s) refl) (body_same d i)
      body_same (p_element a inner d) i = together _ _ _ _ (element_same a _ _ (body_same inner i.0)) (body_same d i.1)
      body_same (p_copy inner d) i = together _ _ _ _ (copy_same n (does_in (machine x) inner n outs) _ b.apart (body_same inner i.0)) (body_same d i.1)
      body_same (p_apply p m d) i = together _ _ _ _ (b.pairs m p (in_mode m) i.0 (of_mode i.1)) (body_same d i.2)
      body_same (p_call inner d) i = together _ _ _ _ (body_same inner i.0) (body_same d i.1)
      body_same (p_value p d) i = together _ _ _ _ (value_same p i.0) (body_same d i.1)
      body_same (p_self d) i = together _ _ _ _ (fits_text (self_bears x (kind_of_node n) w.bears) (string_value n) (self_same n w.bears b.apart b.bears)) (body_same d i)
      body_same (p_choose y d) i = together _ _ _ _ (branch_same y i.0) (body_same d i.1)
      body_same (p_each e p inner d) i = together _ _ _ _ (b.pairs ((sheet x).modes + e) p (in_body inner) i.0 i.1) (body_same d i.3)

      branch_same : (y : CallFreeBranches) → HaveParts (sheet x) y → Leads (takes_in (machine x) y n outs) (branch_pairs x y (kind_of_node n) w)
      branch_same (p_otherwise d) i = body_same d i
      branch_same (p_branch t d y) i =
          cond_same (holds_in (machine x) t (children n)) (holds_by t w.look) _ _ _ _ (test_same x (children n) w.look b.looks t i.0) (body_same d i.1) (branch_same y i.2)
