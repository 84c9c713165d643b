-- Trees one after the other in a machine: what tasks put out on them, and the first hit in them.
use Rattle.std.proofs.Common.{◌≡◌, refl, ap, ◌∙◌, sym, Bool, true, false, cond, Option, Some, None}
use Rattle.tc_model.specs.Trees.{Trees, none, text, element, beside}
use Rattle.tc_model.specs.Chains.{an_element, a_text, Node, one}
use Rattle.tc_model.specs.Outcomes.{Outcome, nothing, join, counted}
use Rattle.tc_model.specs.Machine.{CallFreeJob, Machine, or_else, first_hit, does_in, outputs}
use Rattle.tc_model.proofs.TotalJoin.{join_assoc, none_join}

-- the first of three
pub or_else_assoc : (a b c : Option Node) → or_else (or_else a b) c ≡ or_else a (or_else b c)
or_else_assoc None b c = refl
or_else_assoc (Some n) b c = refl

-- none comes later
pub none_last : (o : Option Node) → or_else o None ≡ o
none_last None = refl
none_last (Some n) = refl

module _ (m : Machine) where
  pub first_beside : (h k : Trees) (s : m.Look) → first_hit m (beside h k) s ≡ or_else (first_hit m h s) (first_hit m k s)
  first_beside none k s = refl
  first_beside (text x rest) k s =
      let here : Option Node = cond (m.look_hits s (m.letter (a_text x))) (Some (one (a_text x))) None in
      ap (or_else here) (first_beside rest k s) ∙ sym (or_else_assoc here (first_hit m rest s) (first_hit m k s))
  first_beside (element n kids rest) k s =
      let l = m.letter (an_element n kids) in
      let here : Option Node = cond (m.look_hits s l) (Some (one (an_element n kids))) (first_hit m kids (m.look_step s l)) in
      ap (or_else here) (first_beside rest k s) ∙ sym (or_else_assoc here (first_hit m rest s) (first_hit m k s))

  pub outputs_beside : (h k : Trees) (j : CallFreeJob) (q : m.Above) (s : m.Move) → outputs m (beside h k) j q s ≡ join (outputs m h j q s) (outputs m k j q s)
  outputs_beside none k j q s = sym (none_join (outputs m k j q s))
  outputs_beside (text x rest) k j q s =
      let l = m.letter (a_text x) in
      let here : Outcome = cond (m.move_hits s l) (counted (does_in m (m.body_at j q l) (one (a_text x)) (λ i u. nothing))) nothing in
      ap (join here) (outputs_beside rest k j q s) ∙ sym (join_assoc here (outputs m rest j q s) (outputs m k j q s))
  outputs_beside (element n kids rest) k j q s =
      let l = m.letter (an_element n kids) in
      let here : Outcome = cond (m.move_hits s l) (counted (does_in m (m.body_at j q l) (one (an_element n kids)) (λ i u. outputs m kids i (m.down_to q l) u))) nothing in
      let below : Outcome = outputs m kids j (m.down_to q l) (m.move_step s l) in
      let later : Outcome = outputs m rest j q s in
      let further : Outcome = outputs m k j q s in
      ap (λ o. join here (join below o)) (outputs_beside rest k j q s)
      ∙ (ap (join here) (sym (join_assoc below later further)) ∙ sym (join_assoc here (join below later) further))

  -- states that have no hit and lead to their like find nothing
  module _ (IsOver : m.Look → Type 0) (no_hit : (s : m.Look) (l : m.Letter) → IsOver s → m.look_hits s l ≡ false) (goes_on : (s : m.Look) (l : m.Letter) → IsOver s → IsOver (m.look_step s l)) where
    no_first : (b : Bool) (x y z : Option Node) → b ≡ false → x ≡ None → y ≡ None → or_else (cond b z x) y ≡ None
    no_first true x y z e f g = cc
    no_first false x y z e f g = ap (λ w. or_else w y) f ∙ g

    pub first_of_none : (h : Trees) (s : m.Look) → IsOver s → first_hit m h s ≡ None
    first_of_none none s i = refl
    first_of_none (text x rest) s i = no_first (m.look_hits s (m.letter (a_text x))) None (first_hit m rest s) (Some (one (a_text x))) (no_hit s (m.letter (a_text x)) i) refl (first_of_none rest s i)
    first_of_none (element n kids rest) s i =
        let l = m.letter (an_element n kids) in
        no_first (m.look_hits s l) (first_hit m kids (m.look_step s l)) (first_hit m rest s) (Some (one (an_element n kids)))
        (no_hit s l i) (first_of_none kids (m.look_step s l) (goes_on s l i)) (first_of_none rest s i)

  -- and put nothing out
  module _ (IsOver : m.Move → Type 0) (no_hit : (s : m.Move) (l : m.Letter) → IsOver s → m.move_hits s l ≡ false) (goes_on : (s : m.Move) (l : m.Letter) → IsOver s → IsOver (m.move_step s l)) where
    none_after : (b : Bool) (x y z : Outcome) → b ≡ false → y ≡ nothing → z ≡ nothing → join (cond b x nothing) (join y z) ≡ nothing
    none_after true x y z e f g = cc
    none_after false x y z e f g = λ i. join nothing (join (f i) (g i))

    none_beside : (b : Bool) (x z : Outcome) → b ≡ false → z ≡ nothing → join (cond b x nothing) z ≡ nothing
    none_beside true x z e g = cc
    none_beside false x z e g = ap (join nothing) g

    pub outputs_of_none : (h : Trees) (j : CallFreeJob) (q : m.Above) (s : m.Move) → IsOver s → outputs m h j q s ≡ nothing
    outputs_of_none none j q s i = refl
    outputs_of_none (text x rest) j q s i =
        none_beside (m.move_hits s (m.letter (a_text x))) _ (outputs m rest j q s) (no_hit s (m.letter (a_text x)) i) (outputs_of_none rest j q s i)
    outputs_of_none (element n kids rest) j q s i =
        let l = m.letter (an_element n kids) in
        none_after (m.move_hits s l) _ (outputs m kids j (m.down_to q l) (m.move_step s l)) (outputs m rest j q s)
        (no_hit s l i) (outputs_of_none kids j (m.down_to q l) (m.move_step s l) (goes_on s l i)) (outputs_of_none rest j q s i)
