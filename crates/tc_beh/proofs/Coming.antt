-- How the entries of a node come to be held.
use Rattle.std.proofs.Common.{◌≡◌, ◌<◌, ◌≤◌, ◌+◌, ◌*◌, ◌⊎◌, inl, inr, ℕ, suc, List, [], ◌∷◌, length, subst, sym, ap, ◌∙◌, refl, arith, All}
use Rattle.std.proofs.lemmas.Bool.{cases_lt}
use Rattle.tc_mat.specs.Matrix.{Matrix}
use Rattle.tc_mat.specs.Held.{Held}
use Rattle.tc_rows.specs.Triples.{Triple, entries}
use Rattle.tc_rows.specs.Bodies.{Below}
use Rattle.tc_beh.specs.Above.{letter_of, node_of}
use Rattle.tc_beh.specs.Entries.{AreGrounds, AreCalledOn, IsEntryAt, IsNewEntry, Comes, ComesPartly}
use Rattle.tc_beh.specs.Grounds.{called_from}
use Rattle.tc_beh.specs.Held.{Extends, set_at, GrowsAt}
use Rattle.tc_beh.specs.Places.{below_at, entries_by, pairs_of}
use Rattle.tc_beh.specs.Putting.{IsCalled}
use Rattle.tc_beh.specs.RowsOf.{IsWork}
use Rattle.tc_beh.specs.declared.entries.Node.{Node}
use Rattle.tc_beh.specs.declared.machine.Machine.{Machine}
use Rattle.tc_beh.specs.declared.rows.Work.{Work}
use Rattle.tc_rules.specs.KnownRules.{AreKnown}
use Rattle.tc_rules.specs.declared.known_rules.KnownRules.{KnownRules}
use Rattle.tc_beh.proofs.Nodes.{work_kept}
use Rattle.tc_beh.proofs.OpenLaws.{beside_self}
use Rattle.tc_beh.proofs.Holding.{extends_self, extends_at, extends_count, nothing_found, grows_step}

-- numbers of held sets go on meaning the same
pub entries_kept : (a b : Held) → Extends a b → (ks : List ℕ) → All (λ k. k < length a.matrices) ks → entries_by b.matrices ks ≡ entries_by a.matrices ks
entries_kept a b e [] low = refl
entries_kept a b e (k ∷ ks) low =
    let here : pairs_of (set_at b k) ≡ pairs_of (set_at a k) = ap pairs_of (extends_at a b e k (low 0 0 (omega arith))) in
    let rest : entries_by b.matrices ks ≡ entries_by a.matrices ks = entries_kept a b e ks (λ i d l. low (suc i) d (omega (arith, l))) in
    λ i. here i ∷ rest i

-- more rules are remembered
module _ (x : Triple) (m : Machine) (a : Held) (w : Work) (n : Node) (ok : AreGrounds x m a w n) where
  pub rules_kept : (rules : KnownRules) → AreKnown x.symbols x.rules rules → AreGrounds x m a (record w { known = rules }) n
  rules_kept rules known = record {
    machine = ok.machine;
    size = ok.size;
    work = work_kept x m a w ok.work w.sets (beside_self m.output a w.sets) rules known;
    node = ok.node;
    leads = ok.leads;
  }

module _ (x : Triple) (m : Machine) (a b : Held) (e : Extends a b) (w : Work) (n : Node) (ok : AreGrounds x m a w n) where
  pub grounds_kept : (v : Work) → IsWork x m b v → AreGrounds x m b v n
  grounds_kept v is = record {
    machine = ok.machine;
    size = e.size ∙ ok.size;
    work = is;
    node = record {
      letter = ok.node.letter;
      outs = λ i d l. let low = ok.node.outs i d l in omega (arith, low, extends_count a b e);
      nothing = ok.node.nothing;
      bears = ok.node.bears;
      count = ok.node.count;
    };
    leads = ok.leads;
  }

  pub read_kept : entries_by b.matrices n.entries.now ≡ entries_by a.matrices n.entries.now
  read_kept = entries_kept a b e n.entries.now ok.node.outs

  pub called_kept : (under : ℕ) (sets : List Matrix) → AreCalledOn x a n under sets → AreCalledOn x b n under sets
  called_kept under sets c k =
      subst (λ (d : Below). IsCalled x (node_of (letter_of n.letter).kind) d (called_from sets) k)
      (ap (λ es. below_at x (node_of (letter_of n.letter).kind) n.bears es n.looks.now under) (sym read_kept)) (c k)

  pub called_back : (under : ℕ) (sets : List Matrix) → AreCalledOn x b n under sets → AreCalledOn x a n under sets
  called_back under sets c k =
      subst (λ (d : Below). IsCalled x (node_of (letter_of n.letter).kind) d (called_from sets) k) (ap (λ es. below_at x (node_of (letter_of n.letter).kind) n.bears es n.looks.now under) read_kept) (c k)

module _ (x : Triple) (es : List (List (ℕ × ℕ))) (n : Node) where
  pub comes_none : (a : Held) (f : ℕ → ℕ) → Comes x es n a a f 0
  comes_none a f = record {
    grows = record { held = extends_self a; low = λ p l. absurd (omega (arith, l)); found = nothing_found (length a.matrices) f };
    right = λ i l. absurd (omega (arith, l));
  }

  -- one entry more
  pub comes_step : (a b c : Held) (f g : ℕ → ℕ) (i k : ℕ) (m : Matrix) → Comes x es n a b f i → ((p : ℕ) → p < i → g p ≡ f p) → g i ≡ k → Extends b c → (k < length c.matrices) × (set_at c k ≡ m)
      → GrowsAt b c k → IsEntryAt x es n i m → Comes x es n a c g (i + 1)
  comes_step a b c f g i k m so same here more kept how right = record {
    grows = grows_step a b c f g i k so.grows same here more kept.0 how;
    right = λ p l. elim (cases_lt p i) [
      | inl h ↦ subst (IsEntryAt x es n p) (sym (extends_at b c more (f p) (so.grows.low p h)) ∙ ap (set_at c) (sym (same p h))) (so.right p h)
      | inr h ↦ let at : i ≡ p = omega (arith, l, h) in subst (λ j. IsEntryAt x es n j (set_at c (g j))) at (subst (IsEntryAt x es n i) (sym (ap (set_at c) here ∙ kept.1)) right)
    ];
  }

  -- one that isn't held
  pub comes_partly : (a b c : Held) (f : ℕ → ℕ) (i : ℕ) → Comes x es n a b f i → i < entries x → c ≡ b → IsNewEntry x es n b i → ComesPartly x es n a c
  comes_partly a b c f i so low same fresh = subst (ComesPartly x es n a) (sym same) (record {
    held = so.grows.held;
    found = λ k l h. let (p, d, e) = so.grows.found.each k l h in (p, omega (arith, d, low), subst (IsEntryAt x es n p) (ap (set_at b) e) (so.right p d));
    left = (i, low, fresh);
  })

  -- the same of other numbers
  pub comes_same : (a b : Held) (f : ℕ → ℕ) (i j : ℕ) → i ≡ j → Comes x es n a b f i → Comes x es n a b f j
  comes_same a b f i j e so = subst (Comes x es n a b f) e so

-- a place of a row of entries is one of the room's
pub row_step : (q m e : ℕ) → (q + 1) * m ≤ e → q * m + m ≤ e
row_step q m e h = grind arith

pub row_within : (q k n m e : ℕ) → n ≡ m → k < n → (q + 1) * m ≤ e → q * n + k < e
row_within q k n m e same low h =
    let up = row_step q m e h in
    let here : q * n ≡ q * m = ap (λ i. q * i) same in
    omega (arith, up, here, same, low)

pub next_row : (q m : ℕ) → q * m + m ≡ (q + 1) * m
next_row q m = grind arith
