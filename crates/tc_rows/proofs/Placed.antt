-- Bodies that the machine tells hold paths of the stylesheet alone, and what stands below a node is told by its row.
use Rattle.std.proofs.Common.{◌≡◌, inl, inr, ℕ, zero, suc, ◌<◌, List, [], ◌∷◌, Bool, refl, ap, ◌∙◌, sym, subst, map, Option, Some, None, slice_get, Contains, arith}
use Rattle.std.proofs.lemmas.Option.{same_Some}
use Rattle.tc_model.specs.Trees.{Trees, none}
use Rattle.tc_model.specs.Chains.{Tree, an_element, a_text, Node, children, children_of, top, under}
use Rattle.tc_model.specs.TreesApart.{bears_text}
use Rattle.tc_model.specs.Sheets.{Path, Test, Body, Rule, CallFreeBody, p_done, p_apply}
use Rattle.tc_model.specs.Paths.{holds}
use Rattle.tc_model.specs.Outcomes.{nothing}
use Rattle.tc_model.specs.Machine as m
use Rattle.tc_model.specs.Machine.{CallFreeJob, in_mode, in_body, first_hit, holds_in}
use Rattle.tc_model.specs.Letters.{Kind, of_symbol, of_text, Letter, letter_of, kind_of, marks_of}
use Rattle.tc_model.specs.PathStates.{State, first_state}
use Rattle.tc_model.specs.Names.{ExpandedName}
use Rattle.tc_model.specs.Symbols.{symbol_of}
use Rattle.tc_model.specs.Numberings.{looks_of}
use Rattle.tc_model.specs.WellFormed.{IsSheet}
use Rattle.tc_model.specs.Meaning.{all_children}
use Rattle.tc_alpha.proofs.Members.{Has}
use Rattle.tc_rules.specs.Parts.{IsPartTest, IsPart}
use Rattle.tc_rules.specs.Tasks.{IsTaskOf, of_mode, of_each, going_from, looking_from}
use Rattle.tc_rules.specs.States.{AllInline, Chosen, or_plain, plain_of, built_in_at, body_by, body_of_root}
use Rattle.tc_rules.specs.RulesView.{ancestor}
use Rattle.tc_rules.proofs.PartsOf.{rule_part, named_part, predicate_part, each_part, children_move}
use Rattle.tc_rules.proofs.Looking.{holds_alike, holds_by_looks}
use Rattle.tc_rows.specs.Triples.{Triple, IsTriple, sheet, predicates, machine, ancestors, looking}
use Rattle.tc_rows.specs.Rows.{value_of, AreEntriesOf, AreLooksOf}
use Rattle.tc_rows.specs.Bodies.{holds_by, letter_by}
use Rattle.tc_rows.specs.Arithmetic.{look_from, below, nothing_below, letter_of_text, letter_around}
use Rattle.tc_rows.proofs.Plain.{HasParts, parts_of}
use Rattle.tc_rows.proofs.Bodies.{IsBelow, IsNodeApart, test_same}
use Rattle.tc_rows.proofs.Leading.{led_none, has_at}
use Rattle.tc_rows.proofs.Reading.{move_begins, look_begins, look_read, pairs_read}

module _ (x : Triple) (is : IsTriple x) where
  abbrev Well : IsSheet (sheet x)
  Well = is.rules.well_formed

  named_parts : (n : ℕ) (i : Body) → slice_get (sheet x).named n ≡ Some i → IsPart (sheet x) i
  named_parts n i e = named_part (sheet x) Well i (has_at (sheet x).named n i e)

  inlined_parts : (rs : List Rule) (ps : List CallFreeBody) → AllInline (sheet x).named rs ps → ((r : Rule) → Has rs r → IsPart (sheet x) r.body) → (k : ℕ) (p : CallFreeBody) → slice_get ps k ≡ Some p → HasParts (sheet x) p
  inlined_parts [] [] a parts k p e = absurd (cc)
  inlined_parts [] (y ∷ ps) a parts k p e = absurd a
  inlined_parts (r ∷ rs) [] a parts k p e = absurd a
  inlined_parts (r ∷ rs) (y ∷ ps) a parts zero p e = subst (HasParts (sheet x)) (same_Some y p e) (parts_of (sheet x) named_parts a.0 (parts r (inl refl)))
  inlined_parts (r ∷ rs) (y ∷ ps) a parts (suc k) p e = inlined_parts rs ps a.1 (λ q h. parts q (inr h)) k p e

  plain_parts : (b : CallFreeBody) (o : Option Chosen) → HasParts (sheet x) b → HasParts (sheet x) (plain_of x.bodies b o)
  plain_parts b None h = h
  plain_parts b (Some c) h = by (slice_get x.bodies c.number) refl
    where
      by : (o : Option CallFreeBody) → slice_get x.bodies c.number ≡ o → HasParts (sheet x) (or_plain b o)
      by None e = h
      by (Some p) e = inlined_parts (sheet x).rules x.bodies is.bodies (λ r k. rule_part (sheet x) Well r k) c.number p e

  children_parts : (mode : ℕ) → mode < (sheet x).modes → HasParts (sheet x) (p_apply all_children mode p_done)
  children_parts mode l = (children_move (sheet x) mode l, l, tt)

  built_in_parts : (mode : ℕ) (k : Kind) → mode < (sheet x).modes → HasParts (sheet x) (built_in_at mode k)
  built_in_parts mode (of_symbol a) l = children_parts mode l
  built_in_parts mode of_text l = tt

  -- the body of a task on a node
  pub task_parts : (mode : ℕ) (j : CallFreeJob) (q : State) (l : Letter) → IsTaskOf (sheet x) mode j → HasParts (sheet x) (body_by x.symbols (predicates x) (sheet x).rules x.bodies j q l)
  task_parts mode j q l (of_mode {m} low) = plain_parts (built_in_at m l.kind) _ (built_in_parts m l.kind low)
  task_parts mode j q l (of_each {f} e c u) = parts_of (sheet x) named_parts u (each_part (sheet x) Well f c)

  -- and of the default mode on the root
  pub root_parts : HasParts (sheet x) (body_of_root x.symbols (predicates x) (sheet x).rules x.bodies (in_mode 0))
  root_parts = let low : 0 < (sheet x).modes = omega (arith, Well.modes) in plain_parts (p_apply all_children 0 p_done) _ (children_parts 0 low)

  -- what stands below a node is told by the row of its children
  pub is_below : (n : Node) (bears : Bool) (es : List (List (ℕ × ℕ))) (vs : List ℕ) (q : ℕ) → q < ancestors x → IsNodeApart x is n → bears_text (children n) ≡ bears
      → AreEntriesOf x (children n) es → AreLooksOf x (children n) vs → IsBelow x is n (below x bears es vs q) (λ i u. m.outputs (machine x) (children n) i (ancestor x.rules q) u)
  is_below n bears es vs q low apart b are see = record {
    apart = apart;
    bears = b;
    looks = λ p c. look_read x is (children n) vs see (looking_from p) (look_begins x is p c);
    pairs = λ mode p j c task. pairs_read x is (children n) es are q low mode (going_from j p) task (move_begins x is p mode c);
  }

  -- nothing stands below a text
  pub nothing_is_below : (n : Node) → IsNodeApart x is n → children n ≡ none → IsBelow x is n (nothing_below x) (λ i u. nothing)
  nothing_is_below n apart e = record {
    apart = apart;
    bears = ap bears_text e;
    looks = λ p c. sym (ap (λ h. value_of (first_hit (machine x) h (looking_from p))) e);
    pairs = λ mode p j c task. led_none x is;
  }

  -- the letter of a tree is told by what is found below it
  module _ (t : Tree) (look : Path → ℕ) (looks : (p : Path) → Contains (looks_of (sheet x)) p → look p ≡ value_of (first_hit (machine x) (children_of t) (looking_from p))) where
    mark_same : (w : Test) → IsPartTest (sheet x) w → holds_by w look ≡ holds w (under (top none) t)
    mark_same w i =
        sym (test_same x (children_of t) look looks w i)
        ∙ (holds_alike x.symbols (predicates x) (sheet x).rules x.bodies w (children_of t) ∙ sym (holds_by_looks x.symbols (sheet x) Well is.rules.symbols_are w i t))

    marks_same : (ws : List Test) → ((w : Test) → Has ws w → IsPartTest (sheet x) w) → map (λ w. holds_by w look) ws ≡ map (λ w. holds w (under (top none) t)) ws
    marks_same [] h = refl
    marks_same (w ∷ ws) h =
        let first = mark_same w (h w (inl refl)) in
        let rest = marks_same ws (λ y k. h y (inr k)) in
        λ i. first i ∷ rest i

    pub letter_same : letter_by x (kind_of x.symbols (predicates x) t) look ≡ letter_of x.symbols (predicates x) t
    letter_same =
        let same = marks_same (predicates x) (λ w h. predicate_part (sheet x) w h) in
        λ i. record { kind = kind_of x.symbols (predicates x) t; marks = marks_of (same i) }

  pub text_letter : (s : List ℕ) → letter_of_text x ≡ letter_of x.symbols (predicates x) (a_text s)
  text_letter s = letter_same (a_text s) (λ p. 0) (λ p c. refl)

  pub element_letter : (n : ExpandedName) (h : Trees) (vs : List ℕ) → AreLooksOf x h vs → letter_around x (symbol_of x.symbols n) vs ≡ letter_of x.symbols (predicates x) (an_element n h)
  element_letter n h vs see = letter_same (an_element n h) (λ p. look_from x vs (looking p (first_state p))) (λ p c. look_read x is h vs see (looking_from p) (look_begins x is p c))
