-- One step further in the loops over instructions and over nodes.
use Rattle.std.proofs.Common.{◌≡◌, ℕ, List, ap, ◌∙◌, sym, subst, cond}
use Rattle.tc_model.specs.Names.{ExpandedName}
use Rattle.tc_model.specs.Trees.{Trees, none, element}
use Rattle.tc_model.specs.Chains.{an_element, Node, one, children}
use Rattle.tc_model.specs.Sheets.{Body, CallFreeBody, Inlines, no_instruction}
use Rattle.tc_model.specs.Outcomes.{Outcome, nothing, join, counted}
use Rattle.tc_model.specs.Machine.{does_in, outputs}
use Rattle.tc_model.specs.Letters.{Letter, letter_of}
use Rattle.tc_model.specs.PathStates.{State}
use Rattle.tc_model.specs.Views as see
use Rattle.tc_model.specs.declared.sheet.Instr.{Instr}
use Rattle.tc_model.proofs.TotalJoin.{join_assoc, join_none, none_join}
use Rattle.tc_rules.specs.States.{Going}
use Rattle.tc_rules.specs.RulesView.{ancestor}
use Rattle.tc_run.specs.Running.{told_by, sheet_by, symbols_by, predicates_by, machine}
use Rattle.tc_run.specs.Views.{node}
use Rattle.tc_run.specs.Spent.{Spends}
use Rattle.tc_run.specs.Tasks.{does, outputs_on}
use Rattle.tc_run.specs.declared.RunFault.{RunFault}
use Rattle.tc_run.specs.declared.bodies.Context.{Context}
use Rattle.tc_run.specs.declared.output.Output.{Output}
use Rattle.tc_run.specs.declared.runner.Runner.{Runner}
use Rattle.tc_model.proofs.BodiesInTurn.{Halves, first_instruction, does_then}
use Rattle.tc_run.proofs.Progress.{BodySoFar, HitsSoFar}
use Rattle.tc_run.proofs.Spending.{Fails, spends_both, fails_first, fails_then}

module _ (r : Runner) (bodies : List CallFreeBody) where
  -- an element, its children, and what stands beside it
  pub element_first : (above : ℕ) (g : Going) (h : Context) (n : ExpandedName) (kids rest : Trees) (l : Letter)
      → node h ≡ one (an_element n kids) → l ≡ letter_of (symbols_by r) (predicates_by r) (an_element n kids)
      → ancestor (told_by r) h.above ≡ (machine r bodies).down_to (ancestor (told_by r) above) l
      → outputs_on r bodies (element n kids rest) above g
      ≡ join (cond ((machine r bodies).move_hits g l) (counted (does r bodies ((machine r bodies).body_at g.task (ancestor (told_by r) above) l) h)) nothing)
      (join (outputs_on r bodies kids h.above ((machine r bodies).move_step g l)) (outputs_on r bodies rest above g))
  element_first above g h n kids rest l e f a =
      let m = machine r bodies in
      let q : State = ancestor (told_by r) above in
      let here : State → Letter → Node → Outcome = λ u k nd. does_in m (m.body_at g.task q k) nd (λ i w. outputs m (children nd) i u w) in
      let all : State → Letter → Node → Outcome =
      λ u k nd. join (cond (m.move_hits g k) (counted (here u k nd)) nothing) (join (outputs m kids g.task u (m.move_step g k)) (outputs_on r bodies rest above g)) in
      λ i. all ((ap (m.down_to q) (sym f) ∙ sym a) i) (sym f i) (sym e i)

  module _ (above nesting : ℕ) (g : Going) (all : Trees) where
    pub hits_begin : (x : Output) → Spends nesting x x nothing → HitsSoFar r bodies above nesting x x g all all
    hits_begin x s = record { done = nothing; spent = s; whole = sym (none_join (outputs_on r bodies all above g)) }

    pub hits_further : {old now new : Output} {left rest : Trees} {o : Outcome} → HitsSoFar r bodies above nesting old now g all left → Spends nesting now new o
        → outputs_on r bodies left above g ≡ join o (outputs_on r bodies rest above g) → HitsSoFar r bodies above nesting old new g all rest
    hits_further {rest} {o} s u e =
        let after = outputs_on r bodies rest above g in
        record { done = join s.done o; spent = spends_both s.spent u; whole = s.whole ∙ (ap (join s.done) e ∙ sym (join_assoc s.done o after)) }

    pub hits_end : {old now : Output} → HitsSoFar r bodies above nesting old now g all none → Spends nesting old now (outputs_on r bodies all above g)
    hits_end {old} {now} s = subst (Spends nesting old now) (sym (s.whole ∙ join_none s.done)) s.spent

    pub hits_fail : (old now : Output) (left rest : Trees) (o : Outcome) (e : RunFault) → HitsSoFar r bodies above nesting old now g all left
        → Fails nesting now e o → outputs_on r bodies left above g ≡ join o (outputs_on r bodies rest above g)
        → Fails nesting old e (outputs_on r bodies all above g)
    hits_fail old now left rest o e s p w =
        let after = outputs_on r bodies rest above g in
        subst (Fails nesting old e) (sym (s.whole ∙ ap (join s.done) w)) (fails_then nesting old now e s.done (join o after) s.spent (fails_first nesting now e o after p))

  module _ (h : Context) (nesting : ℕ) (p : CallFreeBody) where
    pub body_begin : (x : Output) (b : Body) → Spends nesting x x nothing → Inlines (sheet_by r).named b p → BodySoFar r bodies h nesting x x p b
    body_begin x b s u = record { done = nothing; rest = p; spent = s; of_rest = u; whole = sym (none_join (does r bodies p h)) }

    -- the instruction that comes next
    halves_next : {old now : Output} (i : Instr) (b : Body) (s : BodySoFar r bodies h nesting old now p (see.instruction i b))
        → Halves (sheet_by r).named (see.instruction i no_instruction) b s.rest
    halves_next i b s = first_instruction (sheet_by r).named i b s.rest s.of_rest

    halves_does : {b c : Body} {q : CallFreeBody} (k : Halves (sheet_by r).named b c q) → does r bodies q h ≡ join (does r bodies k.first h) (does r bodies k.second h)
    halves_does k =
        ap (λ w. does r bodies w h) k.whole
        ∙ does_then (machine r bodies) (node h) (λ i u. outputs (machine r bodies) (children (node h)) i (ancestor (told_by r) h.above) u) k.first k.second

    pub body_further : {old now new : Output} (i : Instr) (b : Body) (s : BodySoFar r bodies h nesting old now p (see.instruction i b))
        → ((q : CallFreeBody) → Inlines (sheet_by r).named (see.instruction i no_instruction) q → Spends nesting now new (does r bodies q h)) → BodySoFar r bodies h nesting old new p b
    body_further i b s a =
        let k = halves_next i b s in
        let first = does r bodies k.first h in
        record {
          done = join s.done first;
          rest = k.second;
          spent = spends_both s.spent (a k.first k.of_first);
          of_rest = k.of_second;
          whole = s.whole ∙ (ap (join s.done) (halves_does k) ∙ sym (join_assoc s.done first (does r bodies k.second h)));
        }

    pub body_fail : (old now : Output) (e : RunFault) (i : Instr) (b : Body) (s : BodySoFar r bodies h nesting old now p (see.instruction i b))
        → ((q : CallFreeBody) → Inlines (sheet_by r).named (see.instruction i no_instruction) q → Fails nesting now e (does r bodies q h))
        → Fails nesting old e (does r bodies p h)
    body_fail old now e i b s a =
        let k = halves_next i b s in
        let first = does r bodies k.first h in
        let second = does r bodies k.second h in
        subst (Fails nesting old e) (sym (s.whole ∙ ap (join s.done) (halves_does k)))
        (fails_then nesting old now e s.done (join first second) s.spent (fails_first nesting now e first second (a k.first k.of_first)))
