-- Bodies one after the other: what they are with calls in place, and what they put out.
use Rattle.std.proofs.Common.{◌≡◌, List, refl, ap, ◌∙◌, sym, subst}
use Rattle.tc_model.specs.Chains.{Node, children, string_value}
use Rattle.tc_model.specs.Sheets.{Body, no_instruction, put_text, put_element, copy, apply, call, for_each, value, value_of_self, choose, CallFreeBody, p_done, p_text, p_element, p_copy, p_apply, p_call, p_value, p_self, p_choose, p_each, Inlines, u_done, u_text, u_element, u_copy, u_apply, u_call, u_value, u_self, u_choose, u_each}
use Rattle.tc_model.specs.Outcomes.{Outcome, join, within, counted, put, put_around, copied}
use Rattle.tc_model.specs.Meaning.{value_of_first}
use Rattle.tc_model.specs.Machine.{CallFreeJob, in_mode, in_body, Machine, first_hit, does_in, takes_in}
use Rattle.tc_model.specs.Views as see
use Rattle.tc_model.specs.declared.sheet.Instr.{Instr}
use Rattle.tc_model.proofs.TotalJoin.{join_assoc, none_join}
use Rattle.tc_model.proofs.ViewsBody.{body_then, instruction_then}

abbrev pub plain_then : CallFreeBody → CallFreeBody → CallFreeBody
plain_then p_done q = q
plain_then (p_text x p) q = p_text x (plain_then p q)
plain_then (p_element n i p) q = p_element n i (plain_then p q)
plain_then (p_copy i p) q = p_copy i (plain_then p q)
plain_then (p_apply w m p) q = p_apply w m (plain_then p q)
plain_then (p_call i p) q = p_call i (plain_then p q)
plain_then (p_value w p) q = p_value w (plain_then p q)
plain_then (p_self p) q = p_self (plain_then p q)
plain_then (p_choose x p) q = p_choose x (plain_then p q)
plain_then (p_each e w i p) q = p_each e w i (plain_then p q)

-- two parts of what is unfolded
pub record Halves (named : List Body) (a b : Body) (p : CallFreeBody) : Type 0 where
  pub first : CallFreeBody
  pub second : CallFreeBody
  pub whole : p ≡ plain_then first second
  pub of_first : Inlines named a first
  pub of_second : Inlines named b second

module _ (named : List Body) where
  pub halves : (a b : Body) {p : CallFreeBody} → Inlines named (body_then a b) p → Halves named a b p
  halves no_instruction b {p} u = record { first = p_done; second = p; whole = refl; of_first = u_done; of_second = u }
  halves (put_text x a) b (u_text u) =
      let h = halves a b u in record { first = p_text x h.first; second = h.second; whole = ap (p_text x) h.whole; of_first = u_text h.of_first; of_second = h.of_second }
  halves (put_element n i a) b (u_element {o} v u) =
      let h = halves a b u in
      record { first = p_element n o h.first; second = h.second; whole = ap (p_element n o) h.whole; of_first = u_element v h.of_first; of_second = h.of_second }
  halves (copy i a) b (u_copy {o} v u) =
      let h = halves a b u in record { first = p_copy o h.first; second = h.second; whole = ap (p_copy o) h.whole; of_first = u_copy v h.of_first; of_second = h.of_second }
  halves (apply w m a) b (u_apply u) =
      let h = halves a b u in record { first = p_apply w m h.first; second = h.second; whole = ap (p_apply w m) h.whole; of_first = u_apply h.of_first; of_second = h.of_second }
  halves (call n a) b (u_call {o} e v u) =
      let h = halves a b u in record { first = p_call o h.first; second = h.second; whole = ap (p_call o) h.whole; of_first = u_call e v h.of_first; of_second = h.of_second }
  halves (value w a) b (u_value u) =
      let h = halves a b u in record { first = p_value w h.first; second = h.second; whole = ap (p_value w) h.whole; of_first = u_value h.of_first; of_second = h.of_second }
  halves (value_of_self a) b (u_self u) =
      let h = halves a b u in record { first = p_self h.first; second = h.second; whole = ap p_self h.whole; of_first = u_self h.of_first; of_second = h.of_second }
  halves (choose x a) b (u_choose {y} v u) =
      let h = halves a b u in record { first = p_choose y h.first; second = h.second; whole = ap (p_choose y) h.whole; of_first = u_choose v h.of_first; of_second = h.of_second }
  halves (for_each e w i a) b (u_each {o} v u) =
      let h = halves a b u in
      record { first = p_each e w o h.first; second = h.second; whole = ap (p_each e w o) h.whole; of_first = u_each v h.of_first; of_second = h.of_second }

  -- an instruction, and those after it
  pub first_instruction : (i : Instr) (rest : Body) (p : CallFreeBody) → Inlines named (see.instruction i rest) p → Halves named (see.instruction i no_instruction) rest p
  first_instruction i rest p u =
      let e : body_then (see.instruction i no_instruction) rest ≡ see.instruction i rest = instruction_then i no_instruction rest in
      halves (see.instruction i no_instruction) rest (subst (λ b. Inlines named b p) (sym e) u)

-- what stands in front stays there
after : (x a b c : Outcome) → a ≡ join b c → join x a ≡ join (join x b) c
after x a b c e = ap (join x) e ∙ sym (join_assoc x b c)

module _ (m : Machine) (n : Node) (outs : CallFreeJob → m.Move → Outcome) where
  -- of a first outcome, what comes after it, and what comes later
  further : (x : Outcome) (p q pq : CallFreeBody) → does_in m pq n outs ≡ join (does_in m p n outs) (does_in m q n outs)
      → join x (does_in m pq n outs) ≡ join (join x (does_in m p n outs)) (does_in m q n outs)
  further x p q pq e = after x (does_in m pq n outs) (does_in m p n outs) (does_in m q n outs) e

  pub does_then : (p q : CallFreeBody) → does_in m (plain_then p q) n outs ≡ join (does_in m p n outs) (does_in m q n outs)
  does_then p_done q = sym (none_join (does_in m q n outs))
  does_then (p_text x p) q = further (within (put x)) p q (plain_then p q) (does_then p q)
  does_then (p_element a i p) q = further (within (put_around a (does_in m i n outs))) p q (plain_then p q) (does_then p q)
  does_then (p_copy i p) q = further (within (copied n (does_in m i n outs))) p q (plain_then p q) (does_then p q)
  does_then (p_apply w k p) q = further (within (outs (in_mode k) (m.move_first (in_mode k) w))) p q (plain_then p q) (does_then p q)
  does_then (p_call i p) q = further (within (counted (does_in m i n outs))) p q (plain_then p q) (does_then p q)
  does_then (p_value w p) q = further (within (put (value_of_first (first_hit m (children n) (m.look_first w))))) p q (plain_then p q) (does_then p q)
  does_then (p_self p) q = further (within (put (string_value n))) p q (plain_then p q) (does_then p q)
  does_then (p_choose x p) q = further (within (takes_in m x n outs)) p q (plain_then p q) (does_then p q)
  does_then (p_each e w i p) q = further (within (outs (in_body i) (m.move_first (in_body i) w))) p q (plain_then p q) (does_then p q)
