-- How large patterns become. Beyond 64 bits a number stays at the greatest.
use Rattle.std.specs.Prelude.{ℕ, ◌+◌, ◌-◌, ◌^◌, min, max, List, [], ◌∷◌, length}
use Rattle.tc_dtd.specs.Declarations.{Particle, named, sequence, choice, optional, zero_or_more, one_or_more, Particles, no_more, more, Content, nothing, anything, mixed, children, Declaration}
use Rattle.tc_dtd.specs.declared.sizes.Size.{Size}

abbrev pub capped : ℕ → ℕ
capped n = min n (2 ^ 64 - 1)

abbrev pub leaf : Size
leaf = record { nodes = 1; depth = 1 }

abbrev pub above : Size → Size
above s = record { nodes = capped (s.nodes + 1); depth = capped (s.depth + 1) }

abbrev pub two : Size → Size → Size
two s t = record { nodes = capped (s.nodes + t.nodes); depth = max s.depth t.depth }

abbrev mutual
  pub size_of : Particle → Size
  size_of (named n) = leaf
  size_of (sequence ps) = above (sizes_of ps)
  size_of (choice ps) = above (sizes_of ps)
  size_of (optional p) = above (two (size_of p) leaf)
  size_of (zero_or_more p) = above (two (above (size_of p)) leaf)
  size_of (one_or_more p) = above (size_of p)

  pub sizes_of : Particles → Size
  sizes_of no_more = record { nodes = 0; depth = 0 }
  sizes_of (more p ps) = two (size_of p) (sizes_of ps)

-- any number of texts and of so many elements
abbrev pub many_leaves : ℕ → Size
many_leaves n = above (two (above (above (record { nodes = capped (n + 1); depth = 1 }))) leaf)

abbrev pub content_size : ℕ → Content → Size
content_size count nothing = leaf
content_size count anything = many_leaves count
content_size count (mixed []) = leaf
content_size count (mixed (n ∷ ns)) = many_leaves (length (n ∷ ns))
content_size count (children p) = size_of p

-- a size and those of contents, side by side
abbrev pub total_from : ℕ → Size → List Declaration → Size
total_from count all [] = all
total_from count all (x ∷ xs) = total_from count (two all (content_size count x.content)) xs

abbrev pub total_of : ℕ → List Declaration → Size
total_of count xs = total_from count leaf xs
