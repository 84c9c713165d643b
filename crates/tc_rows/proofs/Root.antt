-- The result of a document is valid exactly where its row passes at the root.
use Rattle.std.proofs.Common.{◌≡◌, ◌↔◌, ap, ◌∙◌, sym, subst}
use Rattle.tc_model.specs.Trees.{Trees, normal_form}
use Rattle.tc_model.specs.Chains.{Tree, whole, top}
use Rattle.tc_model.specs.TreesApart.{alone, IsApart}
use Rattle.tc_model.specs.Outcomes.{Outcome}
use Rattle.tc_model.specs.Meaning.{by_mode, body_of, Does}
use Rattle.tc_model.specs.Machine as m
use Rattle.tc_model.specs.Machine.{in_mode, u_mode, does_in, does_at, plain_at, IsMachineOf}
use Rattle.tc_model.specs.PathStates.{State, first_state, path_of_rules}
use Rattle.tc_model.specs.Matching.{Matches}
use Rattle.tc_model.specs.Safety.{IsResultOf}
use Rattle.tc_model.specs.States.{output, the_start}
use Rattle.tc_model.specs.Validity.{IsValidOutput}
use Rattle.tc_model.proofs.TotalExact.{does_sound}
use Rattle.tc_model.proofs.TreesApart.{normal_twice}
use Rattle.tc_rules.specs.States.{body_of_root, states}
use Rattle.tc_rules.specs.RulesView.{ancestor}
use Rattle.tc_rules.proofs.PathTold.{machine_tells}
use Rattle.tc_hedge.proofs.Leading.{outputs_lead_exactly, first_below}
use Rattle.tc_rows.specs.Triples.{Triple, IsTriple, sheet, predicates, machine}
use Rattle.tc_rows.specs.PairSets.{HaveSamePairs}
use Rattle.tc_rows.specs.Rows.{TreeRow, IsRowOfTree, led}
use Rattle.tc_rows.specs.Bodies.{on_root, body_pairs}
use Rattle.tc_rows.specs.Arithmetic.{below, IsPassing}
use Rattle.tc_rows.proofs.Bodies.{body_same}
use Rattle.tc_rows.proofs.States.{first_ancestor, some_ancestor}
use Rattle.tc_rows.proofs.Placed.{root_parts, is_below}

module _ (x : Triple) (is : IsTriple x) where
  of_machine : IsMachineOf (machine x) (sheet x).rules (sheet x).named
  of_machine =
      subst (λ w. IsMachineOf (states w (predicates x) (sheet x).rules x.bodies) (sheet x).rules (sheet x).named) (sym is.symbols) (machine_tells x.input x.output (sheet x) x.bodies is.bodies).0

  -- what is done on the root, from an ancestor state
  abbrev RootFrom : Trees → State → Outcome
  RootFrom doc q = does_in (machine x) (body_of_root x.symbols (predicates x) (sheet x).rules x.bodies (in_mode 0)) (whole doc) (λ i u. m.outputs (machine x) doc i q u)

  root_done : (doc : Trees) (o : Outcome) → Does (sheet x).rules (sheet x).named (body_of (sheet x).rules (by_mode 0) (top doc)) (top doc) o → o ≡ RootFrom doc (first_state (path_of_rules (sheet x).rules))
  root_done doc o d = does_sound (sheet x).rules (sheet x).named (machine x) of_machine d (of_machine.ruled (by_mode 0) (in_mode 0) (top doc) u_mode) (of_machine.knows (in_mode 0) (top doc) tt)

  root_leads : (t : Tree) (r : TreeRow) (o : Outcome) → IsApart (alone t) → IsRowOfTree x t r → Does (sheet x).rules (sheet x).named (body_of (sheet x).rules (by_mode 0) (top (alone t))) (top (alone t)) o
      → HaveSamePairs (led x o.out) (body_pairs x (body_of_root x.symbols (predicates x) (sheet x).rules x.bodies (in_mode 0)) on_root (below x r.bears r.entries r.looks 0))
  root_leads t r o apart a d =
      let same : RootFrom (alone t) (ancestor x.rules 0) ≡ o = ap (RootFrom (alone t)) (first_ancestor x is) ∙ sym (root_done (alone t) o d) in
      subst (λ (w : Outcome). HaveSamePairs (led x w.out) (body_pairs x (body_of_root x.symbols (predicates x) (sheet x).rules x.bodies (in_mode 0)) on_root (below x r.bears r.entries r.looks 0))) same
      (body_same x is (whole (alone t)) (below x r.bears r.entries r.looks 0) (λ i u. m.outputs (machine x) (alone t) i (ancestor x.rules 0) u)
      (is_below x is (whole (alone t)) r.bears r.entries r.looks 0 (some_ancestor x is) apart (sym a.bears) a.entries a.looks)
      (body_of_root x.symbols (predicates x) (sheet x).rules x.bodies (in_mode 0)) (root_parts x is))

  pub passing_told : (t : Tree) (r : TreeRow) (result : Trees) → IsApart (alone t) → IsRowOfTree x t r → IsResultOf (sheet x) (alone t) result → IsValidOutput x.output result ↔ IsPassing x r
  passing_told t r result apart a (o, (inner, d, done), is_result) = (to, of)
    where
      out_same : result ≡ normal_form inner.out
      out_same = is_result ∙ ap (λ (w : Outcome). normal_form w.out) done

      valid_same : normal_form result ≡ normal_form inner.out
      valid_same = ap normal_form out_same ∙ normal_twice inner.out

      to : IsValidOutput x.output result → IsPassing x r
      to v =
          let (y, l, acc) = (outputs_lead_exactly x.output inner.out).0 (subst (λ w. Matches x.output.elements w x.output.start) valid_same v) in
          (y, (root_leads t r inner apart a d 0 y).0 (first_below x.output output the_start, l), acc)

      of : IsPassing x r → IsValidOutput x.output result
      of (y, pairs, acc) = subst (λ w. Matches x.output.elements w x.output.start) (sym valid_same) ((outputs_lead_exactly x.output inner.out).1 (y, ((root_leads t r inner apart a d 0 y).1 pairs).1, acc))
