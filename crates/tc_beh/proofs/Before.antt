-- An entry that is that of an ancestor state before.
use Rattle.std.proofs.Common.{◌≡◌, ◌<◌, ◌≤◌, ◌+◌, ◌*◌, inl, inr, ℕ, List, Option, Some, None, option_map, subst, sym, ap, ◌∙◌, refl, arith}
use Rattle.std.proofs.lemmas.Option.{same_Some}
use Rattle.tc_mat.specs.Matrix.{Matrix}
use Rattle.tc_model.specs.Letters as letters
use Rattle.tc_model.specs.Letters.{Letter, of_symbol, of_text}
use Rattle.tc_model.specs.Machine.{CallFreeJob}
use Rattle.tc_model.specs.PathStates.{State}
use Rattle.tc_model.specs.RuleStates.{IsRuleOf, fits_below}
use Rattle.tc_model.specs.Sheets.{CallFreeBody}
use Rattle.tc_rules.specs.States.{Chosen, Going, chosen, plain_of, built_in_at, body_by}
use Rattle.tc_rules.specs.Tasks.{IsMoveAt, IsTaskOf}
use Rattle.tc_rules.proofs.Counts.{move_counted}
use Rattle.tc_rules.proofs.RuleOf.{chosen_number, mode_task, each_task}
use Rattle.tc_rows.specs.Triples.{Triple, sheet, predicates, ancestors, moves, number_below, moving}
use Rattle.tc_rows.specs.PairSets as sets
use Rattle.tc_rows.specs.PairSets.{PairSet, HaveSamePairs, product}
use Rattle.tc_rows.specs.Bodies.{NodeKind, Below, on_element, on_text, stay, body_pairs}
use Rattle.tc_rows.specs.Arithmetic.{below, nothing_below, hits, hit_pairs, pairs_from, step}
use Rattle.tc_rows.proofs.PairLaws.{same_self, same_back, same_on, product_same, chosen_second}
use Rattle.tc_beh.specs.Above.{letter_of, pairs_at}
use Rattle.tc_beh.specs.Entries.{IsUnder, IsEntryAt}
use Rattle.tc_beh.specs.Putting.{has}
use Rattle.tc_beh.specs.Templates.{IsAlike}
use Rattle.tc_beh.specs.declared.entries.Node.{Node}
use Rattle.tc_beh.proofs.Coming.{row_step}
use Rattle.tc_beh.proofs.Nodes.{flat_one, rises}

-- one rule is one body
plain_same : (ps : List CallFreeBody) (b : CallFreeBody) (o p : Option Chosen) → option_map (λ w. w.number) o ≡ option_map (λ w. w.number) p → plain_of ps b o ≡ plain_of ps b p
plain_same ps b None None e = refl
plain_same ps b None (Some w) e = absurd (cc)
plain_same ps b (Some v) None e = absurd (cc)
plain_same ps b (Some v) (Some w) e = ap (λ (k : ℕ). plain_of ps b (Some (record { number = k; rule = v.rule }))) (same_Some _ _ e)

module _ (x : Triple) (k : CallFreeJob) (q p : State) (l : Letter) where
  abbrev BodyAt : CallFreeJob → State → CallFreeBody
  BodyAt j s = body_by x.symbols (predicates x) (sheet x).rules x.bodies j s l

  pub one_rule_meant : (mode : ℕ) (found : Option ℕ) → mode < (sheet x).modes → IsTaskOf (sheet x) mode k → IsRuleOf (sheet x).rules mode (fits_below x.symbols (predicates x) q l) found
      → IsRuleOf (sheet x).rules mode (fits_below x.symbols (predicates x) p l) found → BodyAt k q ≡ BodyAt k p
  one_rule_meant mode found low task first second =
      let one = chosen_number (sheet x).rules mode (fits_below x.symbols (predicates x) q l) found first in
      let other = chosen_number (sheet x).rules mode (fits_below x.symbols (predicates x) p l) found second in
      subst (λ j. BodyAt j q ≡ BodyAt j p) (sym (mode_task (sheet x) mode k low task))
      (plain_same x.bodies (built_in_at mode l.kind) (chosen (sheet x).rules mode (fits_below x.symbols (predicates x) q l)) (chosen (sheet x).rules mode (fits_below x.symbols (predicates x) p l)) (one ∙ sym other))

  pub one_each_meant : (each : ℕ) → IsTaskOf (sheet x) ((sheet x).modes + each) k → BodyAt k q ≡ BodyAt k p
  one_each_meant each task = subst (λ j. BodyAt j q ≡ BodyAt j p) (sym (each_task (sheet x) ((sheet x).modes + each) each k refl task).task) refl

-- where the same is meant, the same is put out
same_hit : (x : Triple) (g : Going) (l : Letter) (q p : ℕ) → IsAlike x g l q p → (k : NodeKind) (w : Below) → HaveSamePairs (hit_pairs x g q l k w) (hit_pairs x g p l k w)
same_hit x g l q p (inl isnt) k w =
    same_on (hit_pairs x g q l k w) (stay x) (hit_pairs x g p l k w) (chosen_second (hits x g.path g.state l) _ (stay x) isnt)
    (same_back (hit_pairs x g p l k w) (stay x) (chosen_second (hits x g.path g.state l) _ (stay x) isnt))
same_hit x g l q p (inr e) k w = subst (λ (r : PairSet). HaveSamePairs (hit_pairs x g q l k w) r) (ap put e) (same_self (hit_pairs x g q l k w))
  where
    put : CallFreeBody → PairSet
    put b = sets.chosen (hits x g.path g.state l) (body_pairs x b k w) (stay x)

module _ (x : Triple) (es : List (List (ℕ × ℕ))) (n : Node) (q p under s : ℕ) (m : Matrix) (first : IsUnder x (letter_of n.letter) q under) (second : IsUnder x (letter_of n.letter) p under)
    (alike : (g : Going) → IsMoveAt x.rules s g → IsAlike x g (letter_of n.letter) q p) (low : q < ancestors x) (within : s < moves x) where
  abbrev PutAt : ℕ → ℕ → Going → letters.Kind → PairSet
  PutAt a mode g k = pairs_at x n.bears es n.looks.now a (number_below x a (letter_of n.letter)) mode g n.letter.marks.0 k

  at_kind : (g : Going) (at : IsMoveAt x.rules s g) (k : letters.Kind) → (letter_of n.letter).kind ≡ k → HaveSamePairs (PutAt q at.mode g k) (PutAt p at.mode g k)
  at_kind g at (of_symbol a) e =
      let l : Letter = record { kind = of_symbol a; marks = n.letter.marks.0 } in
      let same : letter_of n.letter ≡ l = λ i. record { kind = e i; marks = n.letter.marks.0 } in
      let is : IsAlike x g l q p = subst (λ c. IsAlike x g c q p) same (alike g at) in
      let u : ℕ = number_below x p (letter_of n.letter) in
      let there : number_below x q (letter_of n.letter) ≡ u = sym (first.below a e) ∙ second.below a e in
      let w : Below = below x n.bears es n.looks.now u in
      let further : PairSet = pairs_from x es u (moving at.mode g.path (step x g.path g.state l)) in
      subst (λ v. HaveSamePairs (pairs_at x n.bears es n.looks.now q v at.mode g n.letter.marks.0 (of_symbol a)) (PutAt p at.mode g (of_symbol a))) (sym there)
      (product_same (hit_pairs x g q l (on_element a) w) (hit_pairs x g p l (on_element a) w) further further (same_hit x g l q p is (on_element a) w) (same_self further))
  at_kind g at of_text e =
      let l : Letter = record { kind = of_text; marks = n.letter.marks.0 } in
      let same : letter_of n.letter ≡ l = λ i. record { kind = e i; marks = n.letter.marks.0 } in
      same_hit x g l q p (subst (λ c. IsAlike x g c q p) same (alike g at)) on_text (nothing_below x)

  pub entry_before : IsEntryAt x es n (q * moves x + s) m → IsEntryAt x es n (p * moves x + s) m
  entry_before is b k g at up e =
      let (same, here) = flat_one b k p s (moves x) (move_counted x.rules k at.mode g.path g.state at.state) within e in
      subst (λ c. HaveSamePairs (has m) (PutAt c at.mode g (letter_of n.letter).kind)) same
      (subst (λ j. (st : IsMoveAt x.rules j g) → HaveSamePairs (has m) (PutAt p st.mode g (letter_of n.letter).kind)) here
      (λ st. same_on (has m) (PutAt q st.mode g (letter_of n.letter).kind) (PutAt p st.mode g (letter_of n.letter).kind) (is q s g st low refl) (at_kind g st (letter_of n.letter).kind refl)) at)

-- a place in a row before is one of the room's
pub before_within : (q a k m e : ℕ) → q < a → k < m → (a + 1) * m ≤ e → q * m + k < e
before_within q a k m e low within room =
    let up = rises q a m low in
    let top = row_step a m e room in
    omega (arith, up, top, within)

pub before_row : (q a k m : ℕ) → q < a → k < m → q * m + k < a * m
before_row q a k m low within = let up = rises q a m low in omega (arith, up, within)
