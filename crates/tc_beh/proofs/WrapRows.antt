-- What a wrap and the row of a text are worked out of, and what they leave.
use Rattle.std.proofs.Common.{◌≡◌, ◌<◌, ◌≤◌, inl, inr, ◌+◌, ◌↔◌, ◌==◌, [], ℕ, List, length, get_or, drop, Bool, true, if◌then◌else◌, subst, sym, ap, ◌∙◌, arith, All}
use Rattle.std.proofs.lemmas.List.{get_or_default, length-take-le, length-drop}
use Rattle.std.proofs.lemmas.Bool.{cases_lt}
use Rattle.std.specs.List.{Contains}
use Rattle.tc_auto.specs.Stands.{patterns}
use Rattle.tc_hedge.specs.declared.hedge.Hedge.{Hedge}
use Rattle.tc_hedge.proofs.Bounds.{patterns_of}
use Rattle.tc_mat.specs.Matrix.{Matrix}
use Rattle.tc_mat.specs.Held.{Held, AreMatrices}
use Rattle.tc_model.specs.Letters as letters
use Rattle.tc_model.specs.Letters.{of_symbol, of_text, IsLetter}
use Rattle.tc_model.specs.States.{input, state_count}
use Rattle.tc_model.specs.Symbols.{symbol_count}
use Rattle.tc_rows.specs.Triples.{Triple, outputs, entries, looks, predicates}
use Rattle.tc_rows.specs.PairSets.{HaveSamePairs, listed}
use Rattle.tc_rows.specs.Rows.{HedgeRow, TreeRow, entry}
use Rattle.tc_rows.specs.Arithmetic.{letter_around, letter_of_text, IsTextRow, IsWrap, IsLiveWrap}
use Rattle.tc_rows.proofs.Sets.{past}
use Rattle.tc_beh.specs.Above.{letter_of}
use Rattle.tc_beh.specs.Around.{PutsPatterns}
use Rattle.tc_beh.specs.Entries.{AreGrounds, IsNodeRow, ComesPartly}
use Rattle.tc_beh.specs.Leads.{AreLeads}
use Rattle.tc_beh.specs.Held.{Extends}
use Rattle.tc_beh.specs.Machines.{IsMachineOf}
use Rattle.tc_beh.specs.LooksAbove.{found_above}
use Rattle.tc_beh.specs.Outs.{GrowsBy, IsLeftOut}
use Rattle.tc_beh.specs.Places.{entries_by}
use Rattle.tc_beh.specs.Rooms.{Layout, hedge_layout, tree_layout, count_of, flagged, flags_in, outputs_in, looks_in, flag_at, output_at, IsRoom, tree_row}
use Rattle.tc_beh.specs.RoomsOf.{IsRoomOf, IsRoomBeside}
use Rattle.tc_beh.specs.RowsOf.{IsWork, AreRowsOf, StandsForHedge, hedge_of}
use Rattle.tc_beh.specs.declared.above.Letter.{Letter}
use Rattle.tc_beh.specs.declared.entries.Node.{Node}
use Rattle.tc_beh.specs.declared.rooms.HRow.{HRow}
use Rattle.tc_beh.specs.declared.rooms.Room.{Room}
use Rattle.tc_beh.specs.declared.machine.Machine.{Machine}
use Rattle.tc_beh.specs.declared.rows.Rows.{Rows}
use Rattle.tc_beh.specs.declared.rows.Work.{Work}
use Rattle.tc_beh.proofs.Behind.{head_is, head_low}
use Rattle.tc_beh.proofs.Held.{sizes_of}
use Rattle.tc_beh.proofs.LeftOut.{row_left_out}
use Rattle.tc_beh.proofs.RoomIs.{flags_count, outputs_count}
use Rattle.tc_beh.proofs.RoomRows.{output_is, look_is, flag_is}
use Rattle.tc_beh.proofs.Surrounding.{patterns_around, some_pattern_around}
use Rattle.tc_beh.proofs.TreeRows.{is_tree_row, none_flagged}
use Rattle.tc_beh.proofs.Wrapped.{element_pairs, element_found, text_pairs, text_found, are_letters, node_entries, node_looks}

symbol_same : (a b : ℕ) → of_symbol a ≡ of_symbol b → a ≡ b
symbol_same a b e = ap at e
  where
    at : letters.Kind → ℕ
    at (of_symbol c) = c
    at of_text = 0

-- the values of looks are at most 2, past the end too
looks_few : (x : Triple) (held : List Matrix) (hs : List ℕ) → IsRoom (hedge_layout x) held hs → (i : ℕ) → get_or (looks_in (state_count x.input input) (entries x) hs) i 0 ≤ 2
looks_few x held hs is i =
    let n = state_count x.input input in
    let at : get_or (looks_in n (entries x) hs) i 0 ≡ get_or hs (2 + n + entries x + i) 0 = look_is n (entries x) hs i in
    elim (cases_lt i (looks x)) [
      | inl low ↦ let few = is.looks i low in omega (arith, at, few)
      | inr high ↦ let count = is.count in
          let none : get_or hs (2 + n + entries x + i) 0 ≡ 0 = past hs (2 + n + entries x + i) 0 (omega (arith, high, count)) in
          omega (arith, at, none)
    ]

outs_low : (x : Triple) (held : List Matrix) (hs : List ℕ) → IsRoom (hedge_layout x) held hs → All (λ k. k < length held) (outputs_in (state_count x.input input) (entries x) hs)
outs_low x held hs is = λ k d l.
    let n = state_count x.input input in
    let os : List ℕ = outputs_in n (entries x) hs in
    let low : k < entries x = let c = outputs_count (hedge_layout x) held hs is in omega (arith, l, c) in
    let at : get_or os k d ≡ output_at n hs k = get_or_default os k d 0 l ∙ output_is n (entries x) hs k low in
    let inside = is.outs k low in
    omega (arith, at, inside)

-- an element around a list of trees
module _ (x : Triple) (r : Rows) (rows : AreRowsOf x r) (h : HRow) (hedge : StandsForHedge x r h) (a : ℕ) (low : a < symbol_count x.symbols) where
  abbrev hs : List ℕ
  hs = h.room.numbers.items

  abbrev H : HedgeRow
  H = hedge_of x r h

  abbrev LooksOf : List ℕ
  LooksOf = looks_in h.room.flags h.room.entries hs

  abbrev OutsOf : List ℕ
  OutsOf = outputs_in h.room.flags h.room.entries hs

  looks_are : LooksOf ≡ H.looks
  looks_are = λ i. looks_in (hedge.parted.flags i) (hedge.parted.entries i) hs

  outs_are : OutsOf ≡ outputs_in (state_count x.input input) (entries x) hs
  outs_are = λ i. outputs_in (hedge.parted.flags i) (hedge.parted.entries i) hs

  pub flags_are : flagged 0 (flags_in h.room.flags hs) ≡ H.states
  flags_are = λ i. flagged 0 (flags_in (hedge.parted.flags i) hs)

  pub wrap_letter : (l : Letter) → letter_of l ≡ letter_around x a LooksOf → IsLetter x.symbols (predicates x) (letter_of l)
  wrap_letter l e =
      subst (IsLetter x.symbols (predicates x)) (sym (e ∙ ap (letter_around x a) looks_are))
      (are_letters x (of_symbol a) _ (λ b e. subst (λ c. c < symbol_count x.symbols) (symbol_same a b e) low))

  module _ (n : Node) (letter : letter_of n.letter ≡ letter_around x a LooksOf) (outs : n.entries.now ≡ OutsOf) (looks_of : n.looks.now ≡ LooksOf) (bears : n.bears ≡ (get_or hs 1 0 == 1))
      (leads : AreLeads r.machine.now.rules n.letter n.leads.now) where
    kind : (letter_of n.letter).kind ≡ of_symbol a
    kind = ap (λ (l : letters.Letter). l.kind) letter

    not_text : (letter_of n.letter).kind ≡ of_text → ⊥
    not_text e = let f : of_symbol a ≡ of_text = sym kind ∙ e in cc

    here : letter_of n.letter ≡ letter_around x a H.looks
    here = letter ∙ ap (letter_around x a) looks_are

    pub wrap_grounds : AreGrounds x r.machine.now r.outputs r.work n
    wrap_grounds = record {
      machine = rows.machine;
      size = rows.size;
      work = rows.work;
      node = record {
        letter = wrap_letter n.letter letter;
        outs = subst (λ ks. All (λ k. k < length r.outputs.matrices) ks) (sym (outs ∙ outs_are)) (outs_low x r.outputs.matrices hs hedge.numbers);
        nothing = λ e. absurd (not_text e);
        bears = λ e. absurd (not_text e);
        count = λ f. ap (λ (ks : List ℕ). length ks) (outs ∙ outs_are) ∙ outputs_count (hedge_layout x) r.outputs.matrices hs hedge.numbers;
      };
      leads = leads;
    }

    pub wrap_few : (i : ℕ) → get_or n.looks.now i 0 ≤ 2
    wrap_few i = subst (λ vs. get_or vs i 0 ≤ 2) (sym (looks_of ∙ looks_are)) (looks_few x r.outputs.matrices hs hedge.numbers i)

    entries_are : entries_by r.outputs.matrices n.entries.now ≡ H.entries
    entries_are = ap (entries_by r.outputs.matrices) (outs ∙ outs_are)

    -- what a refused wrap leaves
    pub wrap_left_out : (new : Held) → AreMatrices new → Extends r.outputs new → ComesPartly x (entries_by r.outputs.matrices n.entries.now) n r.outputs new
        → (u : TreeRow) → IsWrap x a H u → GrowsBy r.outputs new u.entries × IsLeftOut new u.entries
    wrap_left_out new are more so u is =
        row_left_out x rows.machine.parts.are_rules.triple (entries_by r.outputs.matrices n.entries.now) n u.entries is.row.entries
        (λ q k g at q_low. subst (λ s. HaveSamePairs (listed (entry x u.entries q k)) s) (sym (element_pairs x n (entries_by r.outputs.matrices n.entries.now) a H here bears entries_are (looks_of ∙ looks_are) q at.mode g)) (is.entries q k g at q_low))
        r.outputs new are (more.size ∙ rows.size) so

    -- what a wrap leaves
    module _ (new : Held) (are : AreMatrices new) (more : Extends r.outputs new) (us : List ℕ) (count : length us ≡ count_of (tree_layout x)) (put : IsNodeRow x r.outputs new n us)
        (head : get_or us 0 0 ≡ 0) (bears_text : get_or us 1 0 ≡ (if n.bears then 1 else 0))
        (puts : PutsPatterns r.machine.now.input a (flags_in h.room.flags hs) us) where
      counted : patterns r.machine.now.input.auto ≡ length x.input.elements
      counted = patterns_of input x.input r.machine.now.input.auto rows.machine.parts.contents.auto

      pub wrap_room : IsRoom (tree_layout x) new.matrices us
      wrap_room = record {
        count = count;
        head = omega (arith, head);
        bears = head_low (get_or us 1 0) n.bears bears_text;
        flags = λ i l. puts.each i (let c = counted in omega (arith, l, c));
        outs = λ i l. put.comes.grows.low i l;
        looks = put.few;
      }

      pub is_wrap : IsWrap x a H (tree_row x new.matrices us)
      is_wrap = record {
        row = is_tree_row x new.matrices (sizes_of new (outputs x) are (more.size ∙ rows.size)) us wrap_room;
        is_text = ap (λ (k : ℕ). k == 1) head;
        bears = head_is (get_or us 1 0) n.bears bears_text ∙ bears;
        patterns = patterns_around x rows.machine.parts.are_rules.triple a low r.machine.now.input rows.machine.parts.contents H (flags_in h.room.flags hs) us (sym flags_are) puts (flags_count (tree_layout x) new.matrices us wrap_room);
        entries = λ q k g at q_low.
            subst (λ s. HaveSamePairs (listed (entry x (tree_row x new.matrices us).entries q k)) s) (element_pairs x n (entries_by r.outputs.matrices n.entries.now) a H here bears entries_are (looks_of ∙ looks_are) q at.mode g)
            (node_entries x new (more.size ∙ rows.size) are n (entries_by r.outputs.matrices n.entries.now) us wrap_room put.comes.right q k g at q_low);
        looks = λ k s st.
            node_looks x new (more.size ∙ rows.size) are n (entries_by r.outputs.matrices n.entries.now) us wrap_room k s (put.looks k s st) ∙ element_found x n (entries_by r.outputs.matrices n.entries.now) a H here bears entries_are (looks_of ∙ looks_are) s;
      }

-- a text
pub text_letter : (x : Triple) (l : Letter) → letter_of l ≡ letter_of_text x → IsLetter x.symbols (predicates x) (letter_of l)
text_letter x l e = subst (IsLetter x.symbols (predicates x)) (sym e) (are_letters x of_text _ (λ b e. absurd (let f : of_text ≡ of_symbol b = e in cc)))

module _ (x : Triple) (r : Rows) (rows : AreRowsOf x r) (n : Node) (letter : letter_of n.letter ≡ letter_of_text x) (outs : n.entries.now ≡ []) (none : n.looks.now ≡ []) (bears : n.bears ≡ true)
    (leads : AreLeads r.machine.now.rules n.letter n.leads.now) where
  is_text : (letter_of n.letter).kind ≡ of_text
  is_text = ap (λ (l : letters.Letter). l.kind) letter

  pub text_grounds : AreGrounds x r.machine.now r.outputs r.work n
  text_grounds = record {
    machine = rows.machine;
    size = rows.size;
    work = rows.work;
    node = record {
      letter = text_letter x n.letter letter;
      outs = subst (λ ks. All (λ k. k < length r.outputs.matrices) ks) (sym outs) (λ k d l. absurd (omega (arith, l)));
      nothing = λ e. none;
      bears = λ e. bears;
      count = λ f. absurd (f is_text);
    };
    leads = leads;
  }

  -- what a refused row leaves
  pub text_left_out : (new : Held) → AreMatrices new → Extends r.outputs new → ComesPartly x (entries_by r.outputs.matrices n.entries.now) n r.outputs new
      → (u : TreeRow) → IsTextRow x u → GrowsBy r.outputs new u.entries × IsLeftOut new u.entries
  text_left_out new are more so u is =
      row_left_out x rows.machine.parts.are_rules.triple (entries_by r.outputs.matrices n.entries.now) n u.entries is.row.entries
      (λ q k g at q_low. subst (λ s. HaveSamePairs (listed (entry x u.entries q k)) s) (sym (text_pairs x n (entries_by r.outputs.matrices n.entries.now) letter q at.mode g)) (is.entries q k g q_low at))
      r.outputs new are (more.size ∙ rows.size) so

  -- what a row leaves
  module _ (new : Held) (are : AreMatrices new) (more : Extends r.outputs new) (us : List ℕ) (count : length us ≡ count_of (tree_layout x)) (put : IsNodeRow x r.outputs new n us)
      (head : get_or us 0 0 ≡ 1) (bears_text : get_or us 1 0 ≡ 1) (flags : (i : ℕ) → i < length x.input.elements → flag_at us i ≡ 0) where
    pub text_room : IsRoom (tree_layout x) new.matrices us
    text_room = record {
      count = count;
      head = omega (arith, head);
      bears = omega (arith, bears_text);
      flags = λ i l. let e = flags i l in omega (arith, e);
      outs = λ i l. put.comes.grows.low i l;
      looks = put.few;
    }

    pub is_text_row : IsTextRow x (tree_row x new.matrices us)
    is_text_row = record {
      row = is_tree_row x new.matrices (sizes_of new (outputs x) are (more.size ∙ rows.size)) us text_room;
      is_text = ap (λ (k : ℕ). k == 1) head;
      bears = ap (λ (k : ℕ). k == 1) bears_text;
      patterns = none_flagged 1 (flags_in (length x.input.elements) us) (λ i l.
          let here : i < length x.input.elements = let c = flags_count (tree_layout x) new.matrices us text_room in omega (arith, l, c) in
          flag_is (length x.input.elements) us i here ∙ flags i here);
      entries = λ q k g q_low at.
          subst (λ s. HaveSamePairs (listed (entry x (tree_row x new.matrices us).entries q k)) s) (text_pairs x n (entries_by r.outputs.matrices n.entries.now) letter q at.mode g)
          (node_entries x new (more.size ∙ rows.size) are n (entries_by r.outputs.matrices n.entries.now) us text_room put.comes.right q k g at q_low);
      looks = λ k s st.
          node_looks x new (more.size ∙ rows.size) are n (entries_by r.outputs.matrices n.entries.now) us text_room k s (put.looks k s st)
          ∙ (text_found x n (entries_by r.outputs.matrices n.entries.now) letter s ∙ ap (λ (b : Bool). found_above x b n.looks.now (letter_of_text x) s) bears);
    }

-- room beside room
pub room_after : (s : Layout) (a b : Room) → IsRoomOf s a → IsRoomBeside a b → IsRoomOf s b
room_after s a b is next = record { flags = next.flags ∙ is.flags; entries = next.entries ∙ is.entries; count = next.count ∙ is.count }

pub beside_then : (a b c : Room) → IsRoomBeside a b → IsRoomBeside b c → IsRoomBeside a c
beside_then a b c e f = record { flags = f.flags ∙ e.flags; entries = f.entries ∙ e.entries; count = f.count ∙ e.count }

-- rows go on
pub rows_after : (x : Triple) (r : Rows) → AreRowsOf x r → (new : Held) → Extends r.outputs new → (w : Work) → IsWork x r.machine.now new w
    → (s : Rows) → s.machine.now ≡ r.machine.now → s.outputs ≡ new → s.work ≡ w → AreRowsOf x s
rows_after x r rows new more w is s machine outs work = record {
  machine = subst (IsMachineOf x) (sym machine) rows.machine;
  size = ap (λ (h : Held). h.size) outs ∙ (more.size ∙ rows.size);
  work = subst (IsWork x s.machine.now s.outputs) (sym work) (subst (λ (h : Held). IsWork x s.machine.now h w) (sym outs) (subst (λ (m : Machine). IsWork x m new w) (sym machine) is));
}

tree_flags : (x : Triple) (ns : List ℕ) → length ns ≡ count_of (tree_layout x) → length (flags_in (length x.input.elements) ns) ≡ length x.input.elements
tree_flags x ns count = length-take-le (length x.input.elements) (drop 2 ns) (let l = length-drop 2 ns in omega (arith, l, count))

-- an element is live exactly where a flag is set
module _ (x : Triple) (r : Rows) (rows : AreRowsOf x r) (h : HRow) (hedge : StandsForHedge x r h) (a : ℕ) (low : a < symbol_count x.symbols)
    (mid : List ℕ) (f : ℕ) (same : f ≡ length x.input.elements) (count : length mid ≡ count_of (tree_layout x)) (puts : PutsPatterns r.machine.now.input a (flags_in h.room.flags h.room.numbers.items) mid) where
  live_at : IsLiveWrap x a (hedge_of x r h) ↔ Contains (flags_in f mid) 1
  live_at =
      subst (λ k. IsLiveWrap x a (hedge_of x r h) ↔ Contains (flags_in k mid) 1) (sym same)
      (some_pattern_around x rows.machine.parts.are_rules.triple a low r.machine.now.input rows.machine.parts.contents (hedge_of x r h) (flags_in h.room.flags h.room.numbers.items) mid
      (sym (flags_are x r rows h hedge a low)) puts (tree_flags x mid count))

  pub live_wrap : Contains (flags_in f mid) 1 → IsLiveWrap x a (hedge_of x r h)
  live_wrap some = live_at.1 some

  pub dead_wrap : (Contains (flags_in f mid) 1 → ⊥) → IsLiveWrap x a (hedge_of x r h) → ⊥
  dead_wrap none live = none (live_at.0 live)

-- flags that stay
pub patterns_kept : (h : Hedge) (a : ℕ) (states mid us : List ℕ) (f : ℕ) → f ≡ patterns h.auto → ((k : ℕ) → 2 ≤ k → k < 2 + f → get_or us k 0 ≡ get_or mid k 0) → PutsPatterns h a states mid → PutsPatterns h a states us
patterns_kept h a states mid us f same stays is = record {
  each = λ i l. let few = is.each i l in let e = at i l in omega (arith, few, e);
  exact = λ side x symbols st name e i l. (λ one. (is.exact side x symbols st name e i l).0 (sym (at i l) ∙ one), λ p. at i l ∙ (is.exact side x symbols st name e i l).1 p);
}
  where
    at : (i : ℕ) → i < patterns h.auto → flag_at us i ≡ flag_at mid i
    at i l = stays (2 + i) (omega arith) (omega (arith, l, same))
