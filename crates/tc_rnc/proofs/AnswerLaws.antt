-- From where the reading of the tokens stops to the refusal of the text.
use Rattle.std.proofs.Common.{◌≡◌, ℕ, Bool, true, false, List, [], refl, ap, sym, subst, length, arith}
use Rattle.tc_model.specs.Views.{place}
use Rattle.tc_model.specs.Names.{IsChars}
use Rattle.tc_model.specs.XmlText.{after_mark}
use Rattle.tc_model.specs.XmlTextScopes.{first_scope}
use Rattle.tc_model.specs.CompactSyntaxTrees.{Definition, Syntax}
use Rattle.tc_model.specs.CompactSyntaxTokens.{Token, TokensAt}
use Rattle.tc_model.specs.CompactSyntax.{SchemaAt, CompactSyntax, deepest_nesting}
use Rattle.tc_model.specs.CompactSyntaxUnread.{Refusal, Unexpected}
use Rattle.tc_model.specs.CompactSyntaxUnread as m
use Rattle.tc_model.specs.CompactSyntaxStops.{SchemaStops}
use Rattle.tc_model.specs.CompactSyntaxRefused.{IsRefused, in_tokens, past_tokens}
use Rattle.tc_model.proofs.CompactSyntaxRefused.{no_syntax}
use Rattle.tc_rnc.specs.declared.faults.RncFault.{RncFault}
use Rattle.tc_rnc.specs.declared.tokens.End.{End}
use Rattle.tc_rnc.specs.Refusals.{Refuses, malformed, unsupported, too_deep, no_memory}
use Rattle.tc_rnc.specs.Lexed.{Lexed}
use Rattle.tc_rnc.specs.Answers.{Excluded, Stands}
use Rattle.tc_rnc.specs.Views as seen
use Rattle.tc_rnc.proofs.LexLaws.{same_length_front, up_to_end}

-- the reading of the tokens stops
pub stops_in_text : {bytes : List ℕ} {ts us : List Token} {end : End} {whole : Bool} {r : Refusal} → us ≡ ts → Lexed bytes ts end whole → SchemaStops (seen.end end) first_scope deepest_nesting us r → IsRefused bytes r
stops_in_text {ts = ts} {end = end} {r = r} same l y =
    in_tokens l.are_tokens (subst (λ z. SchemaStops z first_scope deepest_nesting ts r) l.is_end (subst (λ z. SchemaStops (seen.end end) first_scope deepest_nesting z r) same y))

-- the text goes on behind them
pub goes_on_behind : {bytes : List ℕ} {ts us : List Token} {ds : List Definition} {end : End} {r : Refusal} → us ≡ ts → SchemaAt false first_scope deepest_nesting us ds → Lexed bytes ts end false
    → Unexpected (seen.end end) [] r → IsRefused bytes r
goes_on_behind {bytes} {ds = ds} {r = r} same m l y =
    past_tokens l.are_tokens (subst (λ z. SchemaAt false first_scope deepest_nesting z ds) same m) (λ e f. l.is_whole (e, ap length f)) (subst (λ z. Unexpected z [] r) l.is_end y)

-- a text whose tokens are a schema, and that doesn't go on behind them
pub whole_text : {bytes : List ℕ} {ts us : List Token} {ds : List Definition} {end : End} (s : Syntax) → us ≡ ts → SchemaAt false first_scope deepest_nesting us ds → Lexed bytes ts end true
    → s.definitions ≡ ds → s.end ≡ length bytes → CompactSyntax bytes s
whole_text {bytes} {ts} {ds = ds} s same m l e f =
    let front = same_length_front bytes l.front l.are_tokens.is_front l.is_whole.1 in
    record {
      tokens = ts;
      characters = subst IsChars front l.are_tokens.is_front.characters;
      words = subst (λ z. TokensAt (length z) (after_mark z) ts) front (up_to_end l.is_whole.0 l.are_tokens.words);
      schema = subst (SchemaAt false first_scope deepest_nesting ts) (sym e) (subst (λ z. SchemaAt false first_scope deepest_nesting z ds) same m);
      end = f;
    }

pub stands : {bytes : List ℕ} {e : RncFault} → Refuses (IsRefused bytes) e → Stands e bytes
stands (malformed h) = h
stands (unsupported h) = h
stands (too_deep h) = h
stands no_memory = tt

pub excluded : {bytes : List ℕ} {e : RncFault} → Refuses (IsRefused bytes) e → Excluded e bytes
excluded {bytes} (malformed {p = p} h) = λ o d s a. no_syntax bytes (m.malformed (place p)) o d s h tt a
excluded {bytes} (unsupported {p = p} {why = w} h) = λ d s a. no_syntax bytes (m.unsupported w (place p)) false d s h refl a
excluded {bytes} (too_deep {p = p} h) = λ o s a. no_syntax bytes (m.too_deep (place p)) o deepest_nesting s h (omega arith) a
excluded no_memory = tt
