use Rattle.std.proofs.Common.{◌≡◌, ◌+◌, ◌*◌, ℕ, add-one, arith, subst, sym, ◌∙◌, ap, length}
use Rattle.std.proofs.lemmas.Result.{IfOk-from_err}
use Rattle.tc_hedge.proofs.TableRows.{table_more}
use Rattle.tc_hedge.specs.Stands.{class_table}
use Rattle.tc_model.specs.Symbols.{symbol_count}
use Rattle.tc_hedge.proofs.table.table_of.Goals as goal

counted_more : (s n old new : ℕ) → old ≡ s * n → new ≡ old + n → new ≡ (s + 1) * n
counted_more s n old new so_far pushed = subst (λ m. new ≡ m * n) (sym (add-one s)) (omega (arith, so_far, pushed))

pub loop-symbol-preserved : goal.loop-symbol-preserved
loop-symbol-preserved c = (
  counted_more c.loop-symbol.symbol _ _ _ c.loop-symbol.invariant.0 c.in_ok-push_allowed.ensures.counted,
  λ side x st.
      table_more x c.args.alphabet.now c.loop-symbol.symbol _ c.loop-symbol.allowed.items c.push_allowed.new.allowed.items
      c.in_ok-name.ensures.name (c.loop-symbol.invariant.1 side x st) (c.in_ok-push_allowed.ensures.told side x st),
)

pub returns-in_err-name-clause-counted : goal.returns-in_err-name-clause-counted
returns-in_err-name-clause-counted c = IfOk-from_err c.from_residual.result _ c.from_residual.ensures.0

pub returns-in_err-name-clause-told : goal.returns-in_err-name-clause-told
returns-in_err-name-clause-told c = IfOk-from_err c.from_residual.result _ c.from_residual.ensures.0

pub returns-in_err-push_allowed-clause-counted : goal.returns-in_err-push_allowed-clause-counted
returns-in_err-push_allowed-clause-counted c = IfOk-from_err c.from_residual-in_err-push_allowed.result _ c.from_residual-in_err-push_allowed.ensures.0

pub returns-in_err-push_allowed-clause-told : goal.returns-in_err-push_allowed-clause-told
returns-in_err-push_allowed-clause-told c = IfOk-from_err c.from_residual-in_err-push_allowed.result _ c.from_residual-in_err-push_allowed.ensures.0

pub loop-symbol-init : goal.loop-symbol-init
loop-symbol-init c = (omega (arith, ap length c.new-allowed.ensures.items), λ side x st. c.new-allowed.ensures.items)

pub returns-clause-counted : goal.returns-clause-counted
returns-clause-counted c =
    let all : c.loop-symbol.symbol ≡ symbol_count c.args.alphabet.now = omega arith in
    c.loop-symbol.invariant.0 ∙ ap (λ n. n * length c.args.automaton.now.elements.now) all

pub returns-clause-told : goal.returns-clause-told
returns-clause-told c = λ side x st.
    let all : c.loop-symbol.symbol ≡ symbol_count c.args.alphabet.now = omega arith in
    c.loop-symbol.invariant.1 side x st ∙ ap (class_table x c.args.alphabet.now) all
