-- What bodies put part by part, and what their runs put.
use Rattle.std.proofs.Common.{◌≡◌, ◌≤◌, ◌<◌, ◌+◌, ◌-◌, ◌++◌, ◌⊎◌, inl, inr, ℕ, zero, suc, List, [], ◌∷◌, length, get_or, map, take, drop, All, Option, Some, IfSome, slice_get, subst, sym, ap, ◌∙◌, refl, arith}
use Rattle.std.proofs.lemmas.List.{take-append-drop, take_all, drop-drop, length-drop, length-map}
use Rattle.std.proofs.lemmas.Option.{same_Some, slice_get_read}
use Rattle.tc_mat.specs.Matrix.{Matrix, IsIdentity, IsComposition}
use Rattle.tc_model.specs.Sheets.{Path, Sheet, Rule, Body, no_instruction, put_text, put_element, copy, apply, call, for_each, value, value_of_self, choose, Branches, otherwise, branch}
use Rattle.tc_model.specs.Symbols.{symbol_of}
use Rattle.tc_model.specs.Trees.{is_white_space_only}
use Rattle.tc_model.specs.Views as see
use Rattle.tc_model.specs.declared.sheet.Instr.{Instr}
use Rattle.tc_model.specs.declared.sheet.Rule.{Rule as RuleOf}
use Rattle.tc_model.specs.declared.sheet.Sheet.{Sheet as SheetOf}
use Rattle.tc_model.proofs.ViewsBody.{body_then, body_append}
use Rattle.tc_rules.specs.Kept.{told}
use Rattle.tc_rules.specs.Parts.{IsPart}
use Rattle.tc_rules.specs.RulesView.{RulesView}
use Rattle.tc_rules.proofs.PartsOf.{part_then}
use Rattle.tc_rows.specs.Triples.{Triple, sheet, outputs}
use Rattle.tc_rows.specs.PairSets.{PairSet, HaveSamePairs, product}
use Rattle.tc_rows.specs.Rows.{bears_value}
use Rattle.tc_rows.specs.Bodies.{NodeKind, Below, holds_by, stay, around, text_edges, text_pairs, value_pairs, copied_pairs, self_bears}
use Rattle.tc_rows.proofs.PairLaws.{same_self, same_back, same_on, product_same}
use Rattle.tc_beh.specs.Grounds.{IsGroundIn}
use Rattle.tc_beh.specs.Heights.{depth_in}
use Rattle.tc_beh.specs.Places.{IsPlaceIn, kind_of, below_of, called_by, no_matrix}
use Rattle.tc_beh.specs.Putting.{has, Extends, put_pairs, put_branch_pairs}
use Rattle.tc_beh.specs.Runs.{IsConstant, IsRun, AreRuns, IsRulePlaceIn, rule_body}
use Rattle.tc_beh.specs.declared.bodies.Place.{Place}
use Rattle.tc_beh.specs.declared.runs.Run.{Run}
use Rattle.tc_beh.proofs.Depths.{depth_then}
use Rattle.tc_beh.proofs.Instructed.{P}
use Rattle.tc_beh.proofs.Meant.{rule_got}
use Rattle.tc_beh.proofs.PutLaws.{product_assoc, has_low}
use Rattle.tc_beh.proofs.Starts.{StartsBelow, stay_first, identity_begun, chosen_starts, edge_starts, stay_starts, around_starts, copied_starts, below_starts}

module _ (x : Triple) (k : NodeKind) (w : Below) (called : ℕ → PairSet) (low : (mode : ℕ) (p : Path) → StartsBelow (outputs x) (w.pairs mode p)) (called_low : (n : ℕ) → StartsBelow (outputs x) (called n)) where
  abbrev F : Body → PairSet
  F b = put_pairs x k w called b

  -- what a body puts leads from states alone
  mutual
    pub put_starts : (b : Body) → StartsBelow (outputs x) (F b)
    put_starts no_instruction i j h = h.0
    put_starts (put_text s b) i j (l, h, t) = chosen_starts (outputs x) (is_white_space_only s) (stay x) (text_edges x) (stay_starts x) (edge_starts x) i l h
    put_starts (put_element n inner b) i j (l, h, t) = around_starts x (symbol_of x.symbols n) (F inner) i l h
    put_starts (copy inner b) i j (l, h, t) = copied_starts x k (F inner) (put_starts inner) i l h
    put_starts (apply p m b) i j (l, h, t) = low m p i l h
    put_starts (call n b) i j (l, h, t) = called_low n i l h
    put_starts (value p b) i j (l, h, t) = chosen_starts (outputs x) (bears_value (w.look p)) (text_edges x) (stay x) (edge_starts x) (stay_starts x) i l h
    put_starts (value_of_self b) i j (l, h, t) = chosen_starts (outputs x) (self_bears x k w.bears) (text_edges x) (stay x) (edge_starts x) (stay_starts x) i l h
    put_starts (choose y b) i j (l, h, t) = branches_start y i l h
    put_starts (for_each e p inner b) i j (l, h, t) = low ((sheet x).modes + e) p i l h

    branches_start : (y : Branches) → StartsBelow (outputs x) (put_branch_pairs x k w called y)
    branches_start (otherwise b) i j h = put_starts b i j h
    branches_start (branch t b y) i j h = chosen_starts (outputs x) (holds_by t w.look) (F b) (put_branch_pairs x k w called y) (put_starts b) (branches_start y) i j h

  step : (r s t u : PairSet) → HaveSamePairs s (product t u) → HaveSamePairs (product r s) (product (product r t) u)
  step r s t u e =
      same_on (product r s) (product r (product t u)) (product (product r t) u) (product_same r r s (product t u) (same_self r) e)
      (same_back (product (product r t) u) (product r (product t u)) (product_assoc r t u))

  -- a body and then another one
  pub put_then : (a b : Body) → HaveSamePairs (F (body_then a b)) (product (F a) (F b))
  put_then no_instruction b = same_back (product (stay x) (F b)) (F b) (stay_first (outputs x) (F b) (put_starts b))
  put_then (put_text s a) b = step (text_pairs x s) (F (body_then a b)) (F a) (F b) (put_then a b)
  put_then (put_element n i a) b = step (around x (symbol_of x.symbols n) (F i)) (F (body_then a b)) (F a) (F b) (put_then a b)
  put_then (copy i a) b = step (copied_pairs x k (F i)) (F (body_then a b)) (F a) (F b) (put_then a b)
  put_then (apply p m a) b = step (w.pairs m p) (F (body_then a b)) (F a) (F b) (put_then a b)
  put_then (call n a) b = step (called n) (F (body_then a b)) (F a) (F b) (put_then a b)
  put_then (value p a) b = step (value_pairs x (bears_value (w.look p))) (F (body_then a b)) (F a) (F b) (put_then a b)
  put_then (value_of_self a) b = step (value_pairs x (self_bears x k w.bears)) (F (body_then a b)) (F a) (F b) (put_then a b)
  put_then (choose y a) b = step (put_branch_pairs x k w called y) (F (body_then a b)) (F a) (F b) (put_then a b)
  put_then (for_each e p i a) b = step (w.pairs ((sheet x).modes + e) p) (F (body_then a b)) (F a) (F b) (put_then a b)

-- what reads nothing puts the same on every node
pub constant_same : (x : Triple) (k l : NodeKind) (w v : Below) (c d : ℕ → PairSet) (b : Body) → IsConstant b → put_pairs x k w c b ≡ put_pairs x l v d b
constant_same x k l w v c d no_instruction h = refl
constant_same x k l w v c d (put_text s b) h = λ j. product (text_pairs x s) (constant_same x k l w v c d b h j)
constant_same x k l w v c d (put_element n i b) h =
    λ j. product (around x (symbol_of x.symbols n) (constant_same x k l w v c d i h.0 j)) (constant_same x k l w v c d b h.1 j)
constant_same x k l w v c d (copy i b) h = absurd h
constant_same x k l w v c d (apply p m b) h = absurd h
constant_same x k l w v c d (call n b) h = absurd h
constant_same x k l w v c d (value p b) h = absurd h
constant_same x k l w v c d (value_of_self b) h = absurd h
constant_same x k l w v c d (choose y b) h = absurd h
constant_same x k l w v c d (for_each e p i b) h = absurd h

-- the sets of named bodies lead from states alone
sizes_low : (n : ℕ) (ms : List Matrix) → All (λ m. m.size ≡ n) ms → (i : ℕ) → (get_or ms i no_matrix).size ≤ n
sizes_low n [] all i = omega arith
sizes_low n (m ∷ ms) all zero = let e = all 0 no_matrix (omega arith) in omega (arith, e)
sizes_low n (m ∷ ms) all (suc i) = sizes_low n ms (λ k d l. all (suc k) d (omega (arith, l))) i

module _ (x : Triple) (p : Place) (ok : IsPlaceIn x p) where
  named_starts : (n : ℕ) → StartsBelow (outputs x) (called_by p n)
  named_starts n i j h =
      let here = (has_low (get_or p.named.now n no_matrix) i j h).0 in
      let size = sizes_low (outputs x) p.named.now ok.named n in
      omega (arith, here, size)

  ground : IsGroundIn x p
  ground = record {
    rules = ok.rules;
    hedge = ok.hedge;
    symbols = ok.symbols;
    size = ok.size;
    text = ok.text;
    held = ok.held;
    sizes = ok.sizes;
    outs = ok.outs;
    symbol = ok.symbol;
    nothing = ok.nothing;
    bears = ok.bears;
    count = ok.count;
    above = ok.above;
  }

  pub put_starts_at : (b : Body) → StartsBelow (outputs x) (P x p b)
  put_starts_at = put_starts x (kind_of p.node) (below_of x p) (called_by p) (below_starts x p ground) named_starts

  pub put_then_at : (a b : Body) → HaveSamePairs (P x p (body_then a b)) (product (P x p a) (P x p b))
  put_then_at = put_then x (kind_of p.node) (below_of x p) (called_by p) (below_starts x p ground) named_starts

  -- a run that was put behind nothing
  pub run_alone : (r : Body) (begun new : Matrix) → begun.size ≡ outputs x → IsIdentity begun → Extends begun new (P x p r) → HaveSamePairs (has new) (P x p r)
  run_alone r begun new size nothing put =
      let s : PairSet = P x p r in
      same_on (has new) (product (has begun) s) s put
      (same_on (product (has begun) s) (product (stay x) s) s (product_same (has begun) (stay x) s s (identity_begun begun (outputs x) size nothing) (same_self s))
      (stay_first (outputs x) s (put_starts_at r)))

-- and put on another node, between what stands before it and behind it
pub run_between : (x : Triple) (p q : Place) → IsPlaceIn x q → (b f r e : Body) (set : Matrix) → b ≡ body_then f (body_then r e) → IsConstant r → HaveSamePairs (has set) (P x p r)
    → HaveSamePairs (P x q b) (product (P x q f) (product (has set) (P x q e)))
run_between x p q there b f r e set same constant put =
    let here : HaveSamePairs (P x q r) (has set) =
    same_back (has set) (P x q r)
    (subst (λ (s : PairSet). HaveSamePairs (has set) s) (constant_same x (kind_of p.node) (kind_of q.node) (below_of x p) (below_of x q) (called_by p) (called_by q) r constant) put)
    in
    subst (λ c. HaveSamePairs (P x q c) (product (P x q f) (product (has set) (P x q e)))) (sym same)
    (same_on (P x q (body_then f (body_then r e))) (product (P x q f) (P x q (body_then r e))) (product (P x q f) (product (has set) (P x q e))) (put_then_at x q there f (body_then r e))
    (product_same (P x q f) (P x q f) (P x q (body_then r e)) (product (has set) (P x q e)) (same_self (P x q f))
    (same_on (P x q (body_then r e)) (product (P x q r) (P x q e)) (product (has set) (P x q e)) (put_then_at x q there r e)
    (product_same (P x q r) (has set) (P x q e) (P x q e) here (same_self (P x q e))))))

-- the three parts of a body, one after the other
pub parts_put : (x : Triple) (p : Place) (b f e : Body) (set old one two new : Matrix) → HaveSamePairs (P x p b) (product (P x p f) (product (has set) (P x p e)))
    → Extends old one (P x p f) → IsComposition one set two → Extends two new (P x p e) → Extends old new (P x p b)
parts_put x p b f e set old one two new parts first middle last =
    let r : PairSet = P x p f in
    let s : PairSet = has set in
    let t : PairSet = P x p e in
    same_on (has new) (product (has two) t) (product (has old) (P x p b)) last
    (same_on (product (has two) t) (product (product (has one) s) t) (product (has old) (P x p b)) (product_same (has two) (product (has one) s) t t middle (same_self t))
    (same_on (product (product (has one) s) t) (product (has one) (product s t)) (product (has old) (P x p b)) (product_assoc (has one) s t)
    (same_on (product (has one) (product s t)) (product (product (has old) r) (product s t)) (product (has old) (P x p b))
    (product_same (has one) (product (has old) r) (product s t) (product s t) first (same_self (product s t)))
    (same_on (product (product (has old) r) (product s t)) (product (has old) (product r (product s t))) (product (has old) (P x p b)) (product_assoc (has old) r (product s t))
    (product_same (has old) (has old) (product r (product s t)) (P x p b) (same_self (has old)) (same_back (P x p b) (product r (product s t)) parts))))))

-- a body is what stands before two places of it, between them and behind them
pub body_parts : (is : List Instr) (from to : ℕ) → from ≤ to → see.body is ≡ body_then (see.body (take from is)) (body_then (see.body (take (to - from) (drop from is))) (see.body (drop to is)))
body_parts is from to h =
    let js : List Instr = drop from is in
    let n : ℕ = to - from in
    let past : from + n ≡ to = omega (arith, h) in
    let behind : drop n js ≡ drop to is = drop-drop n from is ∙ ap (λ i. drop i is) past in
    let rest : see.body js ≡ body_then (see.body (take n js)) (see.body (drop to is)) =
    ap see.body (sym (take-append-drop n js)) ∙ (body_append (take n js) (drop n js) ∙ ap (λ l. body_then (see.body (take n js)) (see.body l)) behind)
    in
    ap see.body (sym (take-append-drop from is)) ∙ (body_append (take from is) js ∙ ap (body_then (see.body (take from is))) rest)

-- the body of a rule, by its number
pub rule_body_got : (s : Sheet) (i : ℕ) (q : Rule) → slice_get s.rules i ≡ Some q → rule_body s i ≡ q.body
rule_body_got s i q e = by s.rules i e
  where
    by : (rules : List Rule) (k : ℕ) → slice_get rules k ≡ Some q → get_or (map (λ (r : Rule). r.body) rules) k no_instruction ≡ q.body
    by [] k f = absurd (cc)
    by (r ∷ rules) zero f = ap (λ (w : Rule). w.body) (same_Some r q f)
    by (r ∷ rules) (suc k) f = by rules k f

-- no runs are known
pub no_runs : (x : Triple) (rs : List (Option Run)) → rs ≡ [] → AreRuns x rs
no_runs x rs none n r e = let at : slice_get [] n ≡ Some (Some r) = ap (λ l. slice_get l n) (sym none) ∙ e in absurd (cc)

pub no_runs_at : (x : Triple) (p : Place) → IsPlaceIn x p → p.runs.now ≡ [] → IsRulePlaceIn x p
no_runs_at x p is none = record { place = is; runs = no_runs x p.runs.now none }

-- what stands behind a place, up to the end
pub drop_taken : (is : List Instr) (n : ℕ) → take (length is - n) (drop n is) ≡ drop n is
drop_taken is n = take_all (length is - n) (drop n is) (omega (arith, length-drop n is))

-- the run of the body of a rule, as it is found at its place
pub run_at : (x : Triple) (p : Place) → IsRulePlaceIn x p → (n : ℕ) (o : Option Run) (r : Run) (b : Body) → n < length p.runs.now → o ≡ get_or p.runs.now n o → o ≡ Some r → rule_body (told p.rules.now).sheet n ≡ b → IsRun x b r
run_at x p is n o r b low at some rule =
    let got : slice_get p.runs.now n ≡ Some (Some r) = slice_get_read p.runs.now (length p.runs.now) n o refl low at ∙ ap Some some in
    let same : rule_body (sheet x) n ≡ b = ap (λ (v : RulesView). rule_body v.sheet n) (sym is.place.rules.told) ∙ rule in
    subst (λ c. IsRun x c r) same (is.runs n r got)

-- the parts of a body are parts of the stylesheet, and no deeper
pub parts_part : (s : Sheet) (b f r e : Body) → b ≡ body_then f (body_then r e) → IsPart s b → IsPart s f × IsPart s r × IsPart s e
parts_part s b f r e same part =
    let (first, rest) = part_then s f (body_then r e) (subst (IsPart s) same part) in
    let (middle, last) = part_then s r e rest in
    (first, middle, last)

pub parts_depth : (b f r e : Body) → b ≡ body_then f (body_then r e) → (depth_in f ≤ depth_in b) × (depth_in r ≤ depth_in b) × (depth_in e ≤ depth_in b)
parts_depth b f r e same =
    let all : depth_in b ≡ depth_in (body_then f (body_then r e)) = ap depth_in same in
    let first = depth_then f (body_then r e) in
    let rest = depth_then r e in
    (omega (arith, all, first, rest), omega (arith, all, first, rest), omega (arith, all, first, rest))

-- what was found of a body is its run
pub run_made : (x : Triple) (p : Place) → IsPlaceIn x p → (is js : List Instr) (from to : ℕ) → from ≤ to → js ≡ take (to - from) (drop from is) → IsPart (told p.rules.now).sheet (see.body is) → IsConstant (see.body js)
    → (begun new : Matrix) → begun.size ≡ outputs x → IsIdentity begun → new.size ≡ outputs x → Extends begun new (P x p (see.body js)) → (r : Run) → r.before.now ≡ take from is → r.behind.now ≡ drop to is → r.set ≡ new → IsRun x (see.body is) r
run_made x p ok is js from to order middle part constant begun new size nothing new_size put r before behind set =
    let b = see.body is in
    let f = see.body r.before.now in
    let m = see.body js in
    let e = see.body r.behind.now in
    let same : b ≡ body_then f (body_then m e) =
    body_parts is from to order ∙ (λ i. body_then (see.body (sym before i)) (body_then (see.body (sym middle i)) (see.body (sym behind i))))
    in
    let parts = parts_part (sheet x) b f m e same (subst (λ (v : RulesView). IsPart v.sheet b) ok.rules.told part) in
    let deep = parts_depth b f m e same in
    let alone : HaveSamePairs (has r.set) (P x p m) = subst (λ (s : Matrix). HaveSamePairs (has s) (P x p m)) (sym set) (run_alone x p ok m begun new size nothing put) in
    record {
      before = parts.0;
      behind = parts.2;
      before_depth = deep.0;
      behind_depth = deep.2;
      size = ap (λ (s : Matrix). s.size) set ∙ new_size;
      pairs = λ q there. run_between x p q there b f m e r.set same constant alone;
    }

-- the rule at a place of the stylesheet's list
pub rule_read : (s : Sheet) (sh : SheetOf) (i : ℕ) (d : RuleOf) → see.sheet sh ≡ s → i < length sh.rules.now → slice_get s.rules i ≡ Some (see.rule (get_or sh.rules.now i d))
rule_read s sh i d e low =
    let count : length sh.rules.now ≡ length s.rules = sym (length-map sh.rules.now see.rule) ∙ ap (λ (y : Sheet). length y.rules) e in
    rule_got s sh i d e (omega (arith, low, count))

-- one more run is known
pushed_at : {X : Type 0} (xs : List X) (y : X) (n : ℕ) (v : X) → slice_get (xs ++ y ∷ []) n ≡ Some v → (slice_get xs n ≡ Some v) ⊎ ((n ≡ length xs) × (y ≡ v))
pushed_at [] y zero v e = inr (refl, same_Some y v e)
pushed_at [] y (suc n) v e = absurd (cc)
pushed_at (x ∷ xs) y zero v e = inl e
pushed_at (x ∷ xs) y (suc n) v e = elim (pushed_at xs y n v e) [ inl h ↦ inl h | inr h ↦ inr (ap suc h.0, h.1) ]

pub runs_pushed : (x : Triple) (rs : List (Option Run)) (o : Option Run) (i : ℕ) (b : Body) → AreRuns x rs → length rs ≡ i → rule_body (sheet x) i ≡ b → IfSome o (λ r. IsRun x b r) → AreRuns x (rs ++ o ∷ [])
runs_pushed x rs o i b are count body run = λ n r e.
    elim (pushed_at rs o n (Some r) e) [
      | inl h ↦ are n r h
      | inr h ↦ subst (λ c. IsRun x c r) (sym body ∙ ap (rule_body (sheet x)) (sym count ∙ sym h.0)) (subst (λ (p : Option Run). IfSome p (λ q. IsRun x b q)) h.1 run)
    ]
