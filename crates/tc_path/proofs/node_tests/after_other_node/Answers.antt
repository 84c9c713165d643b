use Rattle.std.proofs.Common.{◌≡◌, ◌∷◌, List, refl, subst, sym}
use Rattle.std.specs.Prelude.{codes}
use Rattle.tc_model.specs.PathTextTokens.{Token, mark, open_parenthesis, close_parenthesis}
use Rattle.tc_model.specs.PathTextPhrases.{word, OtherNodeAt, a_comment, an_instruction}
use Rattle.tc_path.specs.Views.{tokens_of}
use Rattle.tc_path.proofs.TokenLaws.{match_map}
use Rattle.tc_path.proofs.node_tests.after_other_node.Goals as goal

neither : {ts r : List Token} → OtherNodeAt ts r → ((r : List Token) → ts ≡ word (codes "comment") ∷ mark open_parenthesis ∷ mark close_parenthesis ∷ r → ⊥)
    → ((r : List Token) → ts ≡ word (codes "processing-instruction") ∷ mark open_parenthesis ∷ mark close_parenthesis ∷ r → ⊥) → ⊥
neither {r = r} a_comment h k = h r refl
neither {r = r} an_instruction h k = k r refl

pub returns-in-Some : goal.returns-in-Some
returns-in-Some c = subst (λ w. OtherNodeAt w (tokens_of c.in-Some.rest.now)) (sym c.in-Some.ensures) a_comment

pub returns-in-None : goal.returns-in-None
returns-in-None c =
    match_map c.after_call-in-None.result (λ h r a. neither a c.in-None.ensures h)
    (λ r h. subst (λ w. OtherNodeAt w (tokens_of r.now)) (sym h) an_instruction) c.after_call-in-None.ensures
