-- What the search for the end of a tag answers.
use Rattle.std.specs.Prelude.{◌≡◌, ◌<◌, ◌≤◌, ℕ, List, [], ◌∷◌, ◌++◌, Option, None, Some, length, take, drop}
use Rattle.tc_model.specs.XmlTextBytes.{Lacks}
use Rattle.tc_stream.specs.Scans.{ended, quoted, tag_scan}
use Rattle.tc_stream.specs.declared.tag_ends.TagEnd.{TagEnd}
use Rattle.tc_stream.specs.declared.tag_ends.TagEnd.TheVariants as ends

-- how a tag goes on within these quotes or none, as its scan says
abbrev pub TellsTag : Option ℕ → List ℕ → TagEnd → Type 0
TellsTag quote bytes ends.Open = tag_scan quote bytes ≡ quoted quote
TellsTag quote bytes (ends.Quoted next count) =
    (0 < count) × (count ≤ length bytes) × (tag_scan quote bytes ≡ tag_scan next (drop count bytes)) × (tag_scan quote (take count bytes) ≡ quoted next)
TellsTag quote bytes (ends.Behind count) = (0 < count) × (count ≤ length bytes) × (tag_scan quote bytes ≡ ended (drop count bytes)) × (tag_scan quote (take count bytes) ≡ ended [])

-- where an end tag ends: behind the first `>`
abbrev pub TellsEndTag : List ℕ → Option ℕ → Type 0
TellsEndTag bytes None = Lacks (0x3E ∷ []) bytes
TellsEndTag bytes (Some count) = (front : List ℕ) × (take count bytes ≡ front ++ 0x3E ∷ []) × Lacks (0x3E ∷ []) front × (0 < count) × (count ≤ length bytes)
