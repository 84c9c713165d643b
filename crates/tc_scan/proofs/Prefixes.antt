-- How far a text is of one kind, byte by byte.
use Rattle.std.proofs.Common.{◌≡◌, ℕ, ◌+◌, ◌<◌, ◌≤◌, Bool, true, false, cond, List, ap, ◌∙◌, sym, subst, length, drop, get_or, arith}
use Rattle.std.specs.List.{prefix_len}
use Rattle.std.proofs.lemmas.List.{drop_more}
use Rattle.std.proofs.lemmas.List.Sums.{prefix_len-le-length, prefix_len-drop_all, prefix_len-drop_no}

pub none_counted : (n : ℕ) → 0 + n ≡ n
none_counted n = omega arith

-- one byte more is of the kind
pub one_counted : (p : ℕ → Bool) (count i : ℕ) (text items : List ℕ) → items ≡ text → i < length items → p (get_or items i 0) ≡ true → count + prefix_len p (drop i text) ≡ prefix_len p text
    → count + 1 + prefix_len p (drop (i + 1) text) ≡ prefix_len p text
one_counted p count i text items same low is so_far =
    let here : p (get_or text i 0) ≡ true = ap (λ t. p (get_or t i 0)) (sym same) ∙ is in
    let step : prefix_len p (drop i text) ≡ 1 + prefix_len p (drop (i + 1) text) =
    ap (prefix_len p) (drop_more text i 0 (subst (λ t. i < length t) same low)) ∙ ap (λ b. cond b (1 + prefix_len p (drop (i + 1) text)) 0) here in
    omega (arith, step, so_far)

-- the first byte that isn't
pub counted_to : (p : ℕ → Bool) (count i : ℕ) (text items : List ℕ) → items ≡ text → i < length items → p (get_or items i 0) ≡ false → count + prefix_len p (drop i text) ≡ prefix_len p text → count ≡ prefix_len p text
counted_to p count i text items same low is so_far =
    let here : p (get_or text i 0) ≡ false = ap (λ t. p (get_or t i 0)) (sym same) ∙ is in
    let none = prefix_len-drop_no p text i 0 (subst (λ t. i < length t) same low) here in
    omega (arith, none, so_far)

-- all bytes are
pub counted_all : (p : ℕ → Bool) (count i : ℕ) (text items : List ℕ) → items ≡ text → length items ≤ i → count + prefix_len p (drop i text) ≡ prefix_len p text → count ≡ prefix_len p text
counted_all p count i text items same end so_far =
    let none = prefix_len-drop_all p text i (subst (λ t. length t ≤ i) same end) in
    omega (arith, none, so_far)

pub counted_within : (p : ℕ → Bool) (count : ℕ) (text : List ℕ) → count ≡ prefix_len p text → count ≤ length text
counted_within p count text e = subst (λ n. n ≤ length text) (sym e) (prefix_len-le-length p text)
