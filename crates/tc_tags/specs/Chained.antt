-- Entries of a table by chains: those whose names may be the same are in one.
use Rattle.std.specs.Prelude.{◌≡◌, ◌<◌, ◌*◌, ◌%◌, ◌^◌, ◌==◌, ℕ, suc, Bool, List, [], ◌∷◌, Option, None, Some, map, length, slice_index, bit_xor, if◌then◌else◌}
use Rattle.tc_tags.specs.declared.chains.Link.{Link}

-- the chains of the entries of a table, in their order, and how many entries it may have
pub record Table : Type 0 where
  pub most : ℕ
  pub chains : List ℕ

-- what bytes make of a number (FNV-1a)
abbrev pub mixed : ℕ → List ℕ → ℕ
mixed hash [] = hash
mixed hash (b ∷ bs) = mixed ((bit_xor hash b * 16777619) % 2 ^ 32) bs

-- the chain of a name of two parts
abbrev pub chain_of : List ℕ → List ℕ → ℕ
chain_of first second = mixed (mixed 2166136261 first) second % 4096

-- the newest entry of a chain, counted from 1, or 0 where there is none; of entries whose newest comes first
abbrev pub newest : ℕ → List ℕ → ℕ
newest chain [] = 0
newest chain (c ∷ cs) = if c == chain then suc (length cs) else newest chain cs

abbrev pub chains_of : List Link → List ℕ
chains_of links = map (λ l. l.chain) links

-- each entry, the newest first, leads to the next older one of its chain
abbrev pub AreLinked : List Link → Type 0
AreLinked [] = Unit {0}
AreLinked (l ∷ ls) = (l.chain < 4096) × (l.older ≡ newest l.chain (chains_of ls)) × AreLinked ls

-- to the newest entry of each chain
abbrev pub AreNewest : List Link → List ℕ → Type 0
AreNewest links entries = (chain : ℕ) → chain < 4096 → slice_index entries chain ≡ newest chain (chains_of links)

-- the first that passes
abbrev pub first_such : {A : Type 0} → (A → Bool) → List A → Option A
first_such test [] = None
first_such test (x ∷ xs) = if test x then Some x else first_such test xs
