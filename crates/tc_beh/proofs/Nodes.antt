-- The place of a node, and what is put there from a state of a move above it.
use Rattle.std.proofs.Common.{◌≡◌, ◌<◌, ◌≤◌, ◌+◌, ◌*◌, ◌⊎◌, inl, inr, ℕ, List, Option, length, Bool, true, subst, sym, ap, ◌∙◌, refl, arith, All}
use Rattle.std.proofs.lemmas.Bool.{cases_order}
use Rattle.std.proofs.lemmas.List.{with_items_is}
use Rattle.std.specs.Global.{Vec}
use Rattle.std.specs.Vec.{with_items}
use Rattle.tc_mat.specs.Matrix.{Matrix, IsIdentity}
use Rattle.tc_mat.specs.Held.{Held}
use Rattle.tc_model.specs.Letters as letters
use Rattle.tc_model.specs.Letters.{Kind, of_symbol, of_text}
use Rattle.tc_model.specs.States.{output}
use Rattle.tc_model.specs.Sheets.{Path}
use Rattle.tc_hedge.specs.Stands as h
use Rattle.tc_hedge.specs.declared.hedge.Hedge.{Hedge}
use Rattle.tc_rules.specs.RulesView.{ancestor}
use Rattle.tc_rules.specs.States.{Going, body_by}
use Rattle.tc_rules.specs.Tasks.{IsMoveAt}
use Rattle.tc_rules.proofs.Counts.{move_counted}
use Rattle.tc_rows.specs.Triples.{Triple, sheet, predicates, outputs, ancestors, moves, number_below}
use Rattle.tc_rows.specs.PairSets.{PairSet, HaveSamePairs, product}
use Rattle.tc_rows.specs.Bodies.{NodeKind, on_root, on_element, on_text, Below, stay, text_edges}
use Rattle.tc_rows.specs.Arithmetic.{below, nothing_below, hits}
use Rattle.tc_rows.proofs.PairLaws.{same_self, same_on, product_same}
use Rattle.tc_beh.specs.Above.{letter_of, node_of, pairs_at}
use Rattle.tc_beh.specs.Entries.{AreGrounds, below_node, AreCalledOn, IsUnder, IsMadeOf, IsEntryAt}
use Rattle.tc_beh.specs.Grounds.{IsGroundIn, called_from}
use Rattle.tc_rules.specs.KnownRules.{AreKnown}
use Rattle.tc_beh.specs.Held.{Extends}
use Rattle.tc_beh.specs.Machines.{IsMachineOf}
use Rattle.tc_beh.specs.Opening.{Open, IsOpenAt, IsBeside, Remembers, AreLinked}
use Rattle.tc_beh.specs.Places.{IsPlaceIn, kind_of, below_at, below_of, entries_by}
use Rattle.tc_beh.specs.Putting.{has, Extends as Puts, IsCalled}
use Rattle.tc_beh.specs.Bundles.{AreStepsOf}
use Rattle.tc_beh.specs.declared.bundles.Bundles.{Bundles}
use Rattle.tc_beh.specs.RowsOf.{IsWork}
use Rattle.tc_beh.specs.Runs.{AreRuns}
use Rattle.tc_beh.specs.Stands.{IsRulesIn}
use Rattle.tc_beh.specs.Templates.{AreCalled}
use Rattle.tc_beh.specs.declared.bodies.Place.{Place}
use Rattle.tc_beh.specs.declared.entries.Node.{Node}
use Rattle.tc_rules.specs.declared.known_rules.KnownRules.{KnownRules}
use Rattle.tc_beh.specs.declared.machine.Machine.{Machine}
use Rattle.tc_beh.specs.declared.rows.Work.{Work}
use Rattle.tc_beh.specs.declared.runs.Run.{Run}
use Rattle.tc_beh.proofs.OpenLaws.{linked_more}
use Rattle.tc_beh.proofs.Starts.{StartsBelow, stay_first, identity_begun, chosen_starts, stay_starts, starts, below_starts}

-- what a node of a letter is
element_kind : (k : Kind) (a : ℕ) → node_of k ≡ on_element a → k ≡ of_symbol a
element_kind (of_symbol b) a e = ap of_symbol (symbol_in (on_element b) (on_element a) e)
  where
    symbol_at : NodeKind → ℕ
    symbol_at on_root = 0
    symbol_at (on_element c) = c
    symbol_at on_text = 0

    symbol_in : (s t : NodeKind) → s ≡ t → symbol_at s ≡ symbol_at t
    symbol_in s t e = ap symbol_at e
element_kind of_text a e = cc

text_kind : (k : Kind) → node_of k ≡ on_text → k ≡ of_text
text_kind (of_symbol a) e = cc
text_kind of_text e = refl

kind_text : (k : Kind) → k ≡ of_text → node_of k ≡ on_text
kind_text k e = ap node_of e

module _ (x : Triple) (m : Machine) (held : Held) (w : Work) (n : Node) (ok : AreGrounds x m held w n) where
  abbrev K : Kind
  K = (letter_of n.letter).kind

  module _ (text : Matrix) (sets : List Matrix) {runs : List (Option Run)} (under : ℕ) (p : Place) (made : IsMadeOf m held text sets runs n under p) where
    kind_is : (k : NodeKind) → kind_of p.node ≡ k → node_of K ≡ k
    kind_is k e = sym made.node ∙ e

    pub is_ground : text ≡ w.text → under < ancestors x → IsGroundIn x p
    is_ground same low = record {
      rules = subst (IsRulesIn x) (sym made.rules) ok.machine.parts.are_rules;
      hedge = subst (λ (g : Hedge). h.Stands output x.output x.symbols g) (sym made.output) ok.machine.parts.states;
      symbols = made.alphabet ∙ ok.machine.parts.same_symbols;
      size = ap (λ (t : Matrix). t.size) (made.text ∙ same) ∙ ok.work.text_size;
      text = subst (λ (t : Matrix). HaveSamePairs (has t) (text_edges x)) (sym (made.text ∙ same)) ok.work.text;
      held = ap (λ (t : Held). t.size) made.outputs ∙ ok.size;
      sizes = subst (λ (t : Held). All (λ (s : Matrix). s.size ≡ outputs x) t.matrices) (sym made.outputs) (λ k d l. (made.sets k d l).0 ∙ ok.size);
      outs = subst (λ (t : Held). All (λ k. k < length t.matrices) p.entries.now) (sym made.outputs) (subst (λ ks. All (λ k. k < length held.matrices) ks) (sym made.entries) ok.node.outs);
      symbol = λ a e. ok.node.letter.symbol a (element_kind K a (kind_is (on_element a) e));
      nothing = λ e. made.looks ∙ ok.node.nothing (text_kind K (kind_is on_text e));
      bears = λ e. made.bears ∙ ok.node.bears (text_kind K (kind_is on_text e));
      count = λ f. ap (λ (ks : List ℕ). length ks) made.entries ∙ ok.node.count (λ e. f (made.node ∙ kind_text K e));
      above = subst (λ k. k < ancestors x) (sym made.above) low;
    }

    pub is_place : text ≡ w.text → under < ancestors x → length sets ≡ length (sheet x).named → All (λ (s : Matrix). s.size ≡ outputs x) sets → IsPlaceIn x p
    is_place same low count sizes =
        let g = is_ground same low in
        record {
          rules = g.rules;
          hedge = g.hedge;
          symbols = g.symbols;
          size = g.size;
          text = g.text;
          held = g.held;
          sizes = g.sizes;
          named_count = ap (λ (ms : List Matrix). length ms) made.named ∙ count;
          named = subst (λ (ms : List Matrix). All (λ (s : Matrix). s.size ≡ outputs x) ms) (sym made.named) sizes;
          outs = g.outs;
          symbol = g.symbol;
          nothing = g.nothing;
          bears = g.bears;
          count = g.count;
          above = g.above;
        }

    -- what stands below it
    pub same_below : below_of x p ≡ below_node x held n under
    same_below = λ i. below_at x (made.node i) (made.bears i) (entries_by (made.outputs i).matrices (made.entries i)) (made.looks i) (made.above i)

    pub called_on : (named : List Matrix) (k : ℕ) → IsCalled x (kind_of p.node) (below_of x p) (called_from named) k → IsCalled x (node_of K) (below_node x held n under) (called_from named) k
    called_on named k c = subst (λ (b : Below). IsCalled x (node_of K) b (called_from named) k) same_below (subst (λ t. IsCalled x t (below_of x p) (called_from named) k) made.node c)

    pub are_called : AreCalledOn x held n under sets → AreCalled x p
    are_called c k =
        subst (λ (ms : List Matrix). IsCalled x (kind_of p.node) (below_of x p) (called_from ms) k) (sym made.named)
        (subst (λ t. IsCalled x t (below_of x p) (called_from sets) k) (sym made.node) (subst (λ (b : Below). IsCalled x (node_of K) b (called_from sets) k) (sym same_below) (c k)))

-- what is put leads from states alone
module _ (x : Triple) (bears : Bool) (es : List (List (ℕ × ℕ))) (vs : List ℕ) (q under mode : ℕ) (g : Going) (marks : ℕ) where
  at_starts : (k : Kind) → ((i : ℕ) (w : Path) → StartsBelow (outputs x) ((below_at x (node_of k) bears es vs under).pairs i w)) → StartsBelow (outputs x) (pairs_at x bears es vs q under mode g marks k)
  at_starts (of_symbol a) low i j (l, hit, rest) =
      let t : letters.Letter = record { kind = of_symbol a; marks = marks } in
      chosen_starts (outputs x) (hits x g.path g.state t) _ (stay x) (starts x (on_element a) (below x bears es vs under) low (body_by x.symbols (predicates x) (sheet x).rules x.bodies g.task (ancestor x.rules q) t)) (stay_starts x) i l hit
  at_starts of_text low i j hit =
      let t : letters.Letter = record { kind = of_text; marks = marks } in
      chosen_starts (outputs x) (hits x g.path g.state t) _ (stay x) (starts x on_text (nothing_below x) low (body_by x.symbols (predicates x) (sheet x).rules x.bodies g.task (ancestor x.rules q) t)) (stay_starts x) i j hit

  -- the ancestor state below matters to elements alone
  under_same : (k : Kind) (other : ℕ) → ((a : ℕ) → k ≡ of_symbol a → under ≡ other) → pairs_at x bears es vs q under mode g marks k ≡ pairs_at x bears es vs q other mode g marks k
  under_same (of_symbol a) other e = ap (λ u. pairs_at x bears es vs q u mode g marks (of_symbol a)) (e a refl)
  under_same of_text other e = refl

-- what stands open may be put to, and comes back
module _ (x : Triple) (m : Machine) (held : Held) (w : Work) (is : IsWork x m held w) where
  pub open_for : IsMachineOf x m → (o : Open) → IsBeside m.output held w.sets o → (p : Place) → p.text.now ≡ w.text → p.output.now ≡ m.output → p.outputs.now ≡ held → (d : ℕ) → d ≤ m.depth → IsOpenAt p d o
  open_for machine o same p text outer rows d low =
      let shallow = machine.shallow in
      let room = same.room in
      let free = is.open_room in
      record {
        size = same.size ∙ (is.open_size ∙ sym (ap (λ (t : Matrix). t.size) text ∙ is.text_size));
        text = same.text ∙ (is.open_text ∙ sym text);
        remembers = subst (λ (g : Hedge). Remembers g o.met) (sym outer) (same.remembers is.remembers);
        links = subst (λ (k : Held). AreLinked k o.met) (sym rows) (same.links is.links);
        room = omega (arith, low, room, free);
        few = omega (arith, shallow, room, free);
      }

  module _ (o : Open) (same : IsBeside m.output held w.sets o) where
    pub work_kept : (rules : KnownRules) → AreKnown x.symbols x.rules rules → IsWork x m held (record w { sets = o; known = rules })
    work_kept rules known = record {
      text = is.text;
      text_size = is.text_size;
      set = is.set;
      named_count = is.named_count;
      named = is.named;
      open_size = same.size ∙ is.open_size;
      open_room = same.room ∙ is.open_room;
      open_text = same.text ∙ is.open_text;
      remembers = same.remembers is.remembers;
      links = same.links is.links;
      known = known;
      bundles = is.bundles;
      takers = is.takers;
      runs = is.runs;
    }

    pub work_read : (runs : Vec (Option Run)) → AreRuns x runs.items → IsWork x m held (record w { sets = o; runs = runs; are_read = true })
    work_read runs are = record {
      text = is.text;
      text_size = is.text_size;
      set = is.set;
      named_count = is.named_count;
      named = is.named;
      open_size = same.size ∙ is.open_size;
      open_room = same.room ∙ is.open_room;
      open_text = same.text ∙ is.open_text;
      remembers = same.remembers is.remembers;
      links = same.links is.links;
      known = is.known;
      runs = are;
      bundles = is.bundles;
      takers = is.takers;
    }

    module _ (named : List Matrix) (count : length named ≡ length w.named.items) (named_sizes : All (λ (s : Matrix). s.size ≡ outputs x) named) where
      pub named_back : (with_items w.named named).items ≡ named
      named_back = with_items_is w.named named (let n = w.named.ok.0 in omega (arith, count, n))

      pub work_filled : IsWork x m held (record w { named = with_items w.named named; sets = o })
      work_filled = record {
        text = is.text;
        text_size = is.text_size;
        set = is.set;
        named_count = ap (λ (ms : List Matrix). length ms) named_back ∙ (count ∙ is.named_count);
        named = subst (λ (ms : List Matrix). All (λ (s : Matrix). s.size ≡ outputs x) ms) (sym named_back) named_sizes;
        open_size = same.size ∙ is.open_size;
        open_room = same.room ∙ is.open_room;
        open_text = same.text ∙ is.open_text;
        remembers = same.remembers is.remembers;
        links = same.links is.links;
        known = is.known;
        bundles = is.bundles;
        takers = is.takers;
        runs = is.runs;
      }

  -- the words of the edges' states are others
  pub work_steps : (b : Bundles) → AreStepsOf m.input.auto b → IsWork x m held (record w { bundles = b })
  work_steps b steps = record {
    text = is.text;
    text_size = is.text_size;
    set = is.set;
    named_count = is.named_count;
    named = is.named;
    open_size = is.open_size;
    open_room = is.open_room;
    open_text = is.open_text;
    remembers = is.remembers;
    links = is.links;
    known = is.known;
    runs = is.runs;
    bundles = steps;
    takers = is.takers;
  }

  -- room for what is worked out was taken by another
  pub work_set : (k : Held) → Extends held k → (set : Matrix) → set.size ≡ w.set.size → IsWork x m k (record w { set = set })
  work_set k more set size = record {
    text = is.text;
    text_size = is.text_size;
    set = size ∙ is.set;
    named_count = is.named_count;
    named = is.named;
    open_size = is.open_size;
    open_room = is.open_room;
    open_text = is.open_text;
    remembers = is.remembers;
    links = linked_more held k more w.sets.met is.links;
    known = is.known;
    bundles = is.bundles;
    takers = is.takers;
    runs = is.runs;
  }

  -- a set is held on, of one that was put together
  pub work_held : (k : Held) → Extends held k → (o : Open) → IsBeside m.output k w.sets o → IsWork x m k (record w { sets = o })
  work_held k more o same = record {
    text = is.text;
    text_size = is.text_size;
    set = is.set;
    named_count = is.named_count;
    named = is.named;
    open_size = same.size ∙ is.open_size;
    open_room = same.room ∙ is.open_room;
    open_text = same.text ∙ is.open_text;
    remembers = same.remembers is.remembers;
    links = same.links (linked_more held k more w.sets.met is.links);
    known = is.known;
    bundles = is.bundles;
    takers = is.takers;
    runs = is.runs;
  }

-- where an entry stands tells its numbers
pub rises : (q a m : ℕ) → q < a → q * m + m ≤ a * m
rises q a m l = grind arith

pub flat_one : (q k a s m : ℕ) → k < m → s < m → a * m + s ≡ q * m + k → (a ≡ q) × (s ≡ k)
flat_one q k a s m l h e = by (cases_order a q)
  where
    by : (a ≡ q) ⊎ ((a < q) ⊎ (q < a)) → (a ≡ q) × (s ≡ k)
    by (inl f) = let here : a * m ≡ q * m = ap (λ i. i * m) f in (f, omega (arith, e, here))
    by (inr (inl f)) = let up = rises a q m f in absurd (omega (arith, up, e, h))
    by (inr (inr f)) = let up = rises q a m f in absurd (omega (arith, up, e, l))

module _ (x : Triple) (m : Machine) (held : Held) (w : Work) (n : Node) (ok : AreGrounds x m held w n) (text : Matrix) (sets : List Matrix) {runs : List (Option Run)} (under : ℕ) (p : Place) (made : IsMadeOf m held text sets runs n under p) (is : IsGroundIn x p) where
  abbrev N : Kind
  N = (letter_of n.letter).kind

  abbrev E : List (List (ℕ × ℕ))
  E = entries_by held.matrices n.entries.now

  -- what is put of a node, and nothing before it
  abbrev PutAt : ℕ → ℕ → ℕ → Going → PairSet
  PutAt q u mode g = pairs_at x n.bears E n.looks.now q u mode g n.letter.marks.0 N

  node_starts : (q mode : ℕ) (g : Going) → StartsBelow (outputs x) (PutAt q under mode g)
  node_starts q mode g =
      at_starts x n.bears E n.looks.now q under mode g n.letter.marks.0 N
      (λ i v. subst (λ (b : Below). StartsBelow (outputs x) (b.pairs i v)) (same_below x m held w n ok text sets under p made) (below_starts x p is i v))

  put_alone : (begun new : Matrix) (q mode : ℕ) (g : Going) → IsUnder x (letter_of n.letter) q under → IsIdentity begun → begun.size ≡ outputs x
      → Puts begun new (pairs_at x p.bears (entries_by p.outputs.now.matrices p.entries.now) p.looks.now q p.above mode g n.letter.marks.0 N)
      → HaveSamePairs (has new) (PutAt q (number_below x q (letter_of n.letter)) mode g)
  put_alone begun new q mode g low identity size put =
      let here : pairs_at x p.bears (entries_by p.outputs.now.matrices p.entries.now) p.looks.now q p.above mode g n.letter.marks.0 N ≡ PutAt q under mode g =
      λ i. pairs_at x (made.bears i) (entries_by (made.outputs i).matrices (made.entries i)) (made.looks i) q (made.above i) mode g n.letter.marks.0 N
      in
      let put_here : HaveSamePairs (has new) (product (has begun) (PutAt q under mode g)) = subst (λ (r : PairSet). HaveSamePairs (has new) (product (has begun) r)) here put in
      subst (λ (r : PairSet). HaveSamePairs (has new) r) (under_same x n.bears E n.looks.now q under mode g n.letter.marks.0 N (number_below x q (letter_of n.letter)) low.below)
      (same_on (has new) (product (has begun) (PutAt q under mode g)) (PutAt q under mode g) put_here
      (same_on (product (has begun) (PutAt q under mode g)) (product (stay x) (PutAt q under mode g)) (PutAt q under mode g)
      (product_same (has begun) (stay x) (PutAt q under mode g) (PutAt q under mode g) (identity_begun begun (outputs x) size identity) (same_self (PutAt q under mode g)))
      (stay_first (outputs x) (PutAt q under mode g) (node_starts q mode g))))

  pub entry_made : (begun new : Matrix) (q s : ℕ) → IsUnder x (letter_of n.letter) q under → IsIdentity begun → begun.size ≡ outputs x → s < moves x
      → ((g : Going) (at : IsMoveAt x.rules s g) → Puts begun new (pairs_at x p.bears (entries_by p.outputs.now.matrices p.entries.now) p.looks.now q p.above at.mode g n.letter.marks.0 N))
      → IsEntryAt x E n (q * moves x + s) new
  entry_made begun new q s low identity size within put = λ a k g at up e.
      let (same, here) = flat_one a k q s (moves x) (move_counted x.rules k at.mode g.path g.state at.state) within e in
      subst (λ b. HaveSamePairs (has new) (PutAt b (number_below x b (letter_of n.letter)) at.mode g)) same
      (subst (λ j. (st : IsMoveAt x.rules j g) → HaveSamePairs (has new) (PutAt q (number_below x q (letter_of n.letter)) st.mode g)) here
      (λ st. put_alone begun new q st.mode g low identity size (put g st)) at)
