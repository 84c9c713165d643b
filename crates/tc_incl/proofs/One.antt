-- A tree has one row, and what is worked out from rows is one row.
use Rattle.std.proofs.Common.{◌≡◌, ◌↔◌, ◌∙◌, sym}
use Rattle.tc_rows.proofs.Ascending.{one_set}
use Rattle.tc_incl.specs.Schemas.{Schemas}
use Rattle.tc_incl.specs.Rows.{HedgeRow, TreeRow}
use Rattle.tc_incl.specs.Laws.{AreOne}

both_ways : {P Q R : Type 0} → P ↔ R → Q ↔ R → P ↔ Q
both_ways a b = (λ p. b.1 (a.0 p), λ q. a.1 (b.0 q))

pub one_tree : (r s : TreeRow) → r.is_text ≡ s.is_text → r.first ≡ s.first → r.second ≡ s.second → r ≡ s
one_tree r s a b c = λ i. record { is_text = a i; first = b i; second = c i }

pub one_hedge : (r s : HedgeRow) → r.ends ≡ s.ends → r.first ≡ s.first → r.second ≡ s.second → r ≡ s
one_hedge r s a b c = λ i. record { ends = a i; first = b i; second = c i }

module _ (x : Schemas) where
  pub are_one : AreOne x
  are_one = record {
    trees = λ t r s a b.
        one_tree r s (a.is_text ∙ sym b.is_text) (one_set r.first s.first a.row.first.ascend b.row.first.ascend (λ k. both_ways (a.first k) (b.first k)))
        (one_set r.second s.second a.row.second.ascend b.row.second.ascend (λ k. both_ways (a.second k) (b.second k)));
    hedges = λ h r s a b.
        one_hedge r s (a.ends ∙ sym b.ends) (one_set r.first s.first a.row.first.ascend b.row.first.ascend (λ k. both_ways (a.first k) (b.first k)))
        (one_set r.second s.second a.row.second.ascend b.row.second.ascend (λ k. both_ways (a.second k) (b.second k)));
    empty = λ u v a b.
        one_hedge u v (a.ends ∙ sym b.ends) (one_set u.first v.first a.row.first.ascend b.row.first.ascend (λ k. both_ways (a.first k) (b.first k)))
        (one_set u.second v.second a.row.second.ascend b.row.second.ascend (λ k. both_ways (a.second k) (b.second k)));
    text = λ u v a b. one_tree u v (a.is_text ∙ sym b.is_text) (a.first ∙ sym b.first) (a.second ∙ sym b.second);
    appended = λ h t u v a b.
        one_hedge u v (a.ends ∙ sym b.ends) (one_set u.first v.first a.row.first.ascend b.row.first.ascend (λ k. both_ways (a.first k) (b.first k)))
        (one_set u.second v.second a.row.second.ascend b.row.second.ascend (λ k. both_ways (a.second k) (b.second k)));
    wrapped = λ w h u v a b.
        one_tree u v (a.is_text ∙ sym b.is_text) (one_set u.first v.first a.row.first.ascend b.row.first.ascend (λ k. both_ways (a.first k) (b.first k)))
        (one_set u.second v.second a.row.second.ascend b.row.second.ascend (λ k. both_ways (a.second k) (b.second k)));
  }
