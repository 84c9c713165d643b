use Rattle.std.proofs.Common.{◌≡◌, ◌≢◌, ℕ, ◌+◌, ◌<◌, Bool, List, get_or, if◌then◌else◌, inl, inr, ap, ◌∙◌, sym, arith}
use borrow.Author.Count.{below_more}
use Rattle.std.proofs.lemmas.Bool.Decides.{eqb_tells}
use Rattle.tc_rows.specs.Rows.{or_hit}
use Rattle.tc_beh.proofs.append.put_first_looks.Goals.{then-value-eq0, else-value-eq0}
use Rattle.tc_beh.proofs.append.put_first_looks.Goals as goal

behind : (a b v : ℕ) → a ≡ 0 → v ≡ b → v ≡ or_hit a b
behind a b v e f = f ∙ ap (λ n. or_hit n b) (sym e)

first_hit : (a b v : ℕ) → a ≢ 0 → v ≡ a → v ≡ or_hit a b
first_hit a b v n f =
    f ∙ elim (eqb_tells a 0) [
      | inl e ↦ absurd (n e.1)
      | inr e ↦ ap (λ (t : Bool). if t then b else a) (sym e.0)
    ]

-- one look more is put
looks_further : (first second xs ys : List ℕ) (b c i v : ℕ) → b ≡ c → ((k : ℕ) → k < i → get_or xs (c + k) 0 ≡ or_hit (get_or first k 0) (get_or second k 0)) → get_or ys (b + i) 0 ≡ v
    → ((k : ℕ) → k ≢ b + i → get_or ys k 0 ≡ get_or xs k 0) → v ≡ or_hit (get_or first i 0) (get_or second i 0)
    → (k : ℕ) → k < i + 1 → get_or ys (c + k) 0 ≡ or_hit (get_or first k 0) (get_or second k 0)
looks_further first second xs ys b c i v e before here others value =
    below_more (λ k. get_or ys (c + k) 0 ≡ or_hit (get_or first k 0) (get_or second k 0)) i (λ k l. others (c + k) (λ f. absurd (omega (arith, e, f, l))) ∙ before k l)
    (ap (λ n. get_or ys (n + i) 0) (sym e) ∙ (here ∙ value))

pub loop-place-preserved : goal.loop-place-preserved
loop-place-preserved c =
    let out = c.args.out.now in
    let xs = c.loop-place.out in
    let set = c.set_look.ensures in
    let inv = c.loop-place.invariant in
    let i = c.loop-place.place in
    let first = c.args.first.now in
    let second = c.args.second.now in
    let start : 2 + xs.flags + xs.entries ≡ 2 + out.flags + out.entries = omega (arith, inv.0.flags, inv.0.entries) in
    let value : c.if-value-eq0.value ≡ or_hit (get_or first i 0) (get_or second i 0) = elim c.if-value-eq0.branch [
      | then-value-eq0 w ↦ behind (get_or first i 0) (get_or second i 0) _ w.if-value-eq0.true w.value-is
      | else-value-eq0 w ↦ first_hit (get_or first i 0) (get_or second i 0) _ w.if-value-eq0.false w.value-is
    ]
    in (
      record { flags = set.beside.flags ∙ inv.0.flags; entries = set.beside.entries ∙ inv.0.entries; count = set.beside.count ∙ inv.0.count },
      λ k l. set.others k (λ f. absurd (omega (arith, start, f, l))) ∙ inv.1 k l,
      looks_further first second xs.numbers.items c.set_look.new.self.numbers.items (2 + xs.flags + xs.entries) (2 + out.flags + out.entries) i c.if-value-eq0.value start inv.2 set.look set.others value,
    )
