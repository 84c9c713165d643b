-- How large patterns become, where the sizes of what is referred to are known. Beyond 64 bits a number stays at the greatest.
use Rattle.std.specs.Prelude.{ℕ, ◌+◌, ◌-◌, ◌^◌, min, max, List, None, Some, slice_index_or}
use Rattle.tc_model.specs.CompactSyntaxTrees.{SyntaxPattern, ref, mixed, optional, zero_or_more, one_or_more, group, choice, interleave, SyntaxPatterns, no_more, more}
use Rattle.tc_simple.specs.Tables.{number_of}
use Rattle.tc_simple.specs.declared.counts.Size.{Size}
use Rattle.tc_simple.specs.declared.groups.Table.{Table}

abbrev pub capped : ℕ → ℕ
capped n = min n (2 ^ 64 - 1)

abbrev pub leaf : Size
leaf = record { nodes = 1; depth = 1 }

abbrev pub above : Size → Size
above s = record { nodes = capped (s.nodes + 1); depth = capped (s.depth + 1) }

abbrev pub two : Size → Size → Size
two s t = record { nodes = capped (s.nodes + t.nodes); depth = max s.depth t.depth }

abbrev mutual
  pub size_of : (List ℕ → Size) → SyntaxPattern → Size
  size_of f (ref n place) = f n
  size_of f (mixed p) = above (two leaf (size_of f p))
  size_of f (optional p) = above (two (size_of f p) leaf)
  size_of f (zero_or_more p) = above (two (above (size_of f p)) leaf)
  size_of f (one_or_more p) = above (size_of f p)
  size_of f (group ps) = above (sizes_of f ps)
  size_of f (choice ps) = above (sizes_of f ps)
  size_of f (interleave ps) = above (sizes_of f ps)
  size_of f _ = leaf

  pub sizes_of : (List ℕ → Size) → SyntaxPatterns → Size
  sizes_of f no_more = record { nodes = 0; depth = 0 }
  sizes_of f (more p ps) = two (size_of f p) (sizes_of f ps)

-- the size of what a name stands for
abbrev pub size_in : Table → List Size → List ℕ → Size
size_in t sizes n = elim (number_of t n) [ Some k ↦ slice_index_or sizes k leaf | None ↦ leaf ]
