-- Tags that stand whole at the front of a text, as they are read there.
use Rattle.std.proofs.Common.{◌≡◌, ℕ, ◌<◌, ◌≤◌, ◌+◌, ◌-◌, true, List, [], ◌∷◌, ◌++◌, refl, ap, ◌∙◌, sym, length, take, drop, arith, codes, get_or, None, IsUtf8, IsCharBoundary, append_assoc, length-append, take-append-drop}
use Rattle.std.specs.Prelude.{encode_utf8}
use Rattle.std.proofs.Math.Seq.{take-append-add}
use Rattle.std.proofs.lemmas.List.{take_at}
use Rattle.tc_model.specs.Grammars.{Grammar}
use Rattle.tc_model.specs.Names.{IsChars, is_ncname_start}
use Rattle.tc_model.specs.XmlTextNames.{QualifiedName, QNameAt}
use Rattle.tc_tags.specs.Begins.{BeginsTag}
use Rattle.tc_tags.specs.XmlTextTags.{EndTagAt}
use Rattle.tc_tags.proofs.NameBytes.{plain_end}
use Rattle.tc_stream.specs.Reading.{ReadsOn}
use Rattle.tc_stream.specs.Scans.{ended, tag_scan}
use Rattle.tc_stream.specs.Stands.{IsReading, ReadsTo}
use Rattle.tc_stream.specs.TagStands.{IsStartTag}
use Rattle.tc_stream.specs.WholeTags.{IsPlainEnd, IsWholeStart}
use Rattle.tc_stream.specs.declared.reader.Reader.{Reader}
use Rattle.tc_stream.proofs.LongLaws.{Starts, end_begins, start_begins}
use Rattle.tc_stream.proofs.TagReads.{cut_behind, cut_behind_tag}

-- an end tag of a name and nothing else

abbrev end_tag : List ℕ → List ℕ
end_tag name = codes "</" ++ (name ++ 0x3E ∷ [])

pub plain_at : {text rest bytes name : List ℕ} (behind : List ℕ) → text ≡ codes "</" ++ rest → bytes ≡ rest → bytes ≡ name ++ behind → (behind ≡ [] → ⊥) → get_or behind 0 0 ≡ 0x3E → length name + 3 ≤ 65536 → IsPlainEnd name text (length name + 3)
plain_at [] e f g some first short = absurd (some refl)
plain_at {name = name} (b ∷ rest) e f g some first short = record {
  after = rest;
  parts = e ∙ ap (λ z. codes "</" ++ z) (sym f ∙ (g ∙ ap (λ z. name ++ z ∷ rest) first));
  long = refl;
  short = short;
}

pub plain_tag : {name text : List ℕ} {count : ℕ} → IsPlainEnd name text count → take count text ≡ end_tag name
plain_tag {name} {text} {count} p =
    let whole : text ≡ end_tag name ++ p.after = p.parts ∙ ap (λ z. codes "</" ++ z) (sym (append_assoc name (0x3E ∷ []) p.after)) in
    let many : length (end_tag name) ≡ count = omega (arith, length-append name (0x3E ∷ []), p.long) in
    ap (take count) whole ∙ take_at (end_tag name) p.after count many

pub plain_low : {name text : List ℕ} {count : ℕ} → IsPlainEnd name text count → count ≤ length text
plain_low {name} p = omega (arith, p.long, ap length p.parts, length-append name (0x3E ∷ p.after))

pub plain_cut : {name text : List ℕ} {count : ℕ} → IsUtf8 text → IsPlainEnd name text count → IsCharBoundary text count
plain_cut {name} {text} {count} utf8 p = cut_behind text (codes "</" ++ name) count utf8 (plain_low p) (plain_tag p)

pub plain_begins : {name text : List ℕ} {count : ℕ} → IsPlainEnd name text count → BeginsTag (take count text)
plain_begins {name} p = (end_begins (name ++ 0x3E ∷ []) (plain_tag p)).0

pub plain_is_end : {name text : List ℕ} {count : ℕ} (written : QualifiedName) → IsPlainEnd name text count → QNameAt name written [] → EndTagAt written (take count text) []
plain_is_end {name} {text} {count} written p q = plain_end (take count text) (name ++ 0x3E ∷ []) name (0x3E ∷ []) written (plain_tag p) refl refl q

-- a start tag or an empty-element tag

pub whole_tag : {text rest : List ℕ} (after : List ℕ) (c count : ℕ) → text ≡ 0x3C ∷ rest → rest ≡ encode_utf8 c ++ after → is_ncname_start c ≡ true → 1 + length (encode_utf8 c) < count → (0 < count) × (count ≤ length text) × (tag_scan None (take count text) ≡ ended [])
    → count ≤ 65536 → IsWholeStart text count
whole_tag {text} after c count is behind starts more (some, low, scanned) short =
    let front = 0x3C ∷ encode_utf8 c in
    let left = count - length front in
    let whole : text ≡ front ++ after = is ∙ ap (λ z. 0x3C ∷ z) behind in
    let many : count ≡ length front + left = omega (arith, more) in
    record {
      some = some;
      low = low;
      short = short;
      tag = record {
        char = c;
        rest = take left after;
        opens = ap (λ n. take n text) many ∙ (ap (take (length front + left)) whole ∙ take-append-add front after left);
        starts = starts;
        ends = scanned;
      };
    }

pub start_cut : {text : List ℕ} {count : ℕ} → IsUtf8 text → IsWholeStart text count → IsCharBoundary text count
start_cut {text} {count} utf8 w = cut_behind_tag text None count utf8 w.low w.tag.ends

pub start_tag_begins : {item : List ℕ} → IsStartTag item → BeginsTag item
start_tag_begins w =
    let s : Starts _ = record { char = w.char; rest = w.rest; opens = w.opens; starts = w.starts } in start_begins s

-- what is read of a text whose end stands at a place
pub reads_at : (old new : Reader) (text rest : List ℕ) (end count : ℕ) → rest ≡ drop count text → IsReading new
    → ((x : Grammar) (chars : List ℕ) → IsChars text → length chars + length text ≡ end → ReadsTo x old chars → ReadsTo x new (chars ++ take count text)) → ReadsOn old new text rest end
reads_at old new text rest end count behind ready reads = record {
  used = take count text;
  parts = sym (take-append-drop count text) ∙ ap (λ z. take count text ++ z) (sym behind);
  ready = ready;
  reads = reads;
}
