-- What is kept of elements that have started, as declarations come and are taken back.
use Rattle.std.proofs.Common.{◌≡◌, ◌≢◌, ℕ, List, [], ◌∷◌, ◌++◌, refl, ap, ◌∙◌, sym, subst, map, length, take, drop, arith, length-append}
use Rattle.std.specs.Prelude.{reverse}
use Rattle.std.proofs.Math.Seq.{take-append_seam, drop-append_seam}
use Rattle.std.proofs.lemmas.List.{reverse-append, length-reverse, nil_from_length}
use Rattle.tc_model.specs.RawTrees.{Bound}
use Rattle.tc_model.specs.Views.{bound}
use Rattle.tc_model.specs.declared.tree.Binding.{Binding}
use Rattle.tc_scan.specs.Views.{written_name}
use Rattle.tc_xml.specs.Bindings.{unless_empty, shown, now_bound, hidden, Tells, Declares, TakesBack}
use Rattle.tc_xml.specs.Taking.{Started, AreOpen}
use Rattle.tc_xml.specs.declared.bindings.Bindings.{Bindings}
use Rattle.tc_xml.specs.declared.levels.Open.{Open}
use Rattle.tc_xml.proofs.BindingLaws.{shown_appended, tells_alike, back_before}

-- bindings that show the same serve as well
pub open_alike : (hid : List Binding) (bs cs : List Bound) (opens : List Open) (es : List Started) → ((p : List ℕ) → shown cs p ≡ shown bs p) → AreOpen hid bs opens es → AreOpen hid cs opens es
open_alike hid bs cs [] [] same h = tt
open_alike hid bs cs [] (e ∷ es) same h = h
open_alike hid bs cs (o ∷ opens) [] same h = h
open_alike hid bs cs (o ∷ opens) (e ∷ es) same h =
    let back = map bound (drop o.count hid) in
    let alike : (p : List ℕ) → shown (back ++ cs) p ≡ shown (back ++ bs) p = λ p. shown_appended back cs bs p (same p) in (
      record { within = h.0.within; named = h.0.named; deep = h.0.deep; tells = tells_alike alike h.0.tells },
      open_alike (take o.count hid) (back ++ bs) (back ++ cs) opens es alike h.1,
    )

-- an element starts, whose tag declares more
pub open_one : (old new : Bindings) (o : Open) (e : Started) (opens : List Open) (es : List Started) (d : Declares old new) → o.count ≡ length (hidden old) → written_name o.written ≡ e.written → o.depth ≡ e.depth
    → Tells (now_bound old) e.outer → AreOpen (hidden old) (now_bound old) opens es → AreOpen (hidden new) (now_bound new) (o ∷ opens) (e ∷ es)
open_one old new o e opens es d count named deep tells h =
    subst (λ w. AreOpen w (now_bound new) (o ∷ opens) (e ∷ es)) (sym d.keeps) (
      record {
        within = omega (arith, count, length-append (hidden old) d.more);
        named = named;
        deep = deep;
        tells = subst (λ w. Tells (map bound w ++ now_bound new) e.outer) (sym back) (tells_alike d.before tells);
      },
      subst (λ w. AreOpen w (map bound (drop o.count (hidden old ++ d.more)) ++ now_bound new) opens es) (sym front)
          (subst (λ w. AreOpen (hidden old) (map bound w ++ now_bound new) opens es) (sym back) (open_alike (hidden old) (now_bound old) (map bound d.more ++ now_bound new) opens es d.before h)),
    )
  where
    back : drop o.count (hidden old ++ d.more) ≡ d.more
    back = ap (λ n. drop n (hidden old ++ d.more)) count ∙ drop-append_seam (hidden old) d.more

    front : take o.count (hidden old ++ d.more) ≡ hidden old
    front = ap (λ n. take n (hidden old ++ d.more)) count ∙ take-append_seam (hidden old) d.more

-- the innermost element ends, and what it declared is taken back
pub open_less : (old new : Bindings) (o : Open) (e : Started) (opens : List Open) (es : List Started) → TakesBack old o.count new → AreOpen (hidden old) (now_bound old) (o ∷ opens) (e ∷ es)
    → AreOpen (hidden new) (now_bound new) opens es × Tells (now_bound new) e.outer
open_less old new o e opens es k h =
    let base = map bound (drop o.count (hidden old)) ++ now_bound old in
    let same : (p : List ℕ) → shown (now_bound new) p ≡ shown base p = λ p. ap unless_empty (k.binds p) in (
      subst (λ w. AreOpen w (now_bound new) opens es) (sym k.keeps) (open_alike (take o.count (hidden old)) base (now_bound new) opens es same h.1),
      tells_alike same h.0.tells,
    )

-- an element without content: what it declared is taken back at once
pub open_same : {old mid new : Bindings} (opens : List Open) (es : List Started) (scope : List Bound) (d : Declares old mid) → TakesBack mid (length (hidden old)) new
    → AreOpen (hidden old) (now_bound old) opens es → Tells (now_bound old) scope → AreOpen (hidden new) (now_bound new) opens es × Tells (now_bound new) scope
open_same {old = old} {new = new} opens es scope d k h t =
    let (keeps, same) = back_before d k in (
      subst (λ w. AreOpen w (now_bound new) opens es) (sym keeps) (open_alike (hidden old) (now_bound old) (now_bound new) opens es same h),
      tells_alike same t,
    )

-- as many have started as are kept

pub none_open : (hid : List Binding) (bs : List Bound) (opens : List Open) (es : List Started) → opens ≡ [] → AreOpen hid bs (reverse opens) es → es ≡ []
none_open hid bs opens es e h = by es (subst (λ w. AreOpen hid bs (reverse w) es) e h)
  where
    by : (es : List Started) → AreOpen hid bs [] es → es ≡ []
    by [] h = refl
    by (e ∷ es) h = absurd h

pub some_open : (hid : List Binding) (bs : List Bound) (opens : List Open) (es : List Started) → opens ≢ [] → AreOpen hid bs (reverse opens) es → es ≢ []
some_open hid bs opens es some h e =
    some (nil_from_length opens (omega (arith, length-reverse opens, ap length (by (reverse opens) (subst (AreOpen hid bs (reverse opens)) e h)))))
  where
    by : (os : List Open) → AreOpen hid bs os [] → os ≡ []
    by [] h = refl
    by (o ∷ os) h = absurd h

-- the innermost one is kept last
pub last_open : (hid : List Binding) (bs : List Bound) (opens front : List Open) (o : Open) (es : List Started) → opens ≡ front ++ o ∷ [] → AreOpen hid bs (reverse opens) es → AreOpen hid bs (o ∷ reverse front) es
last_open hid bs opens front o es e h = subst (λ w. AreOpen hid bs w es) (ap reverse e ∙ reverse-append front (o ∷ [])) h

pub from_last_open : (hid : List Binding) (bs : List Bound) (opens front : List Open) (o : Open) (es : List Started) → opens ≡ front ++ o ∷ [] → AreOpen hid bs (o ∷ reverse front) es → AreOpen hid bs (reverse opens) es
from_last_open hid bs opens front o es e h = subst (λ w. AreOpen hid bs w es) (sym (ap reverse e ∙ reverse-append front (o ∷ []))) h
