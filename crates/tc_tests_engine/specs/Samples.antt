-- The rows of a test: elements around no tree, and lists of up to so many of them.
use Rattle.std.specs.Prelude.{◌≡◌, ◌<◌, ◌≤◌, ◌+◌, ℕ}
use Rattle.tc_settle.specs.Held.{Held}

-- the row of a list is its length; an element around other lists is dead, and so are texts and longer lists
abbrev pub lists_up_to : ℕ → ℕ → ℕ → Held
lists_up_to longest trees hedges = record {
  trees = trees;
  hedges = hedges;
  symbols = 1;
  is_none = λ u. u ≡ 0;
  is_text = λ u. ⊥;
  no_text = Unit {0};
  is_append = λ h t u. (h < longest) × (u ≡ h + 1);
  no_append = λ h t. longest ≤ h;
  is_wrap = λ a h u. (h ≡ 0) × (u ≡ 0);
  no_wrap = λ a h. 0 < h;
  fails = λ t. Unit {0};
  passes = λ t. ⊥;
}
