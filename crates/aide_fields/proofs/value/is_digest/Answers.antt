use Rattle.std.proofs.Common.{◌≡◌, ◌/◌, ap, sym, ◌∙◌, arith, length, take, rules}
use Rattle.std.specs.List.{list_all}
use Rattle.std.proofs.lemmas.List.{length-take-le}
use Rattle.aide_fields.specs.code.Symbols.{is_symbol}
use Rattle.aide_fields.proofs.SymbolLemmas.{no_symbols, no_last, by_count}
use Rattle.aide_fields.proofs.value.is_digest.Goals as goal

pub returns-then-not-are_symbols : goal.returns-then-not-are_symbols
returns-then-not-are_symbols c = search (rules, no_symbols)

pub returns-in-Ok : goal.returns-in-Ok
returns-in-Ok c =
    let text = take c.in-Ok.len c.decode_short.new.buffer in
    let long : length text ≡ c.in-Ok.len = length-take-le c.in-Ok.len c.decode_short.new.buffer
    (omega (arith, c.in-Ok.ensures.ok.2, c.decode_short.array_long)) in
    c.is_count.ensures
    ∙ by_count c.args.field.now (c.saturating_sub-groups.result / 4) (λ i. let f = c.type_inv.field i in omega arith)
    (ap (λ n. n / 4) c.saturating_sub-groups.ensures) c.args.least c.args.most _ text
    (sym (ap (list_all is_symbol) c.split_at.ensures.front) ∙ sym c.are_symbols.ensures ∙ c.if-not-are_symbols.false)
    (rw c.split_at.ensures.back at c.in-Ok.ensures.ok.0) (omega arith)

pub returns-in-Err : goal.returns-in-Err
returns-in-Err c =
    no_last c.args.field.now (c.saturating_sub-groups.result / 4) (λ i. let f = c.type_inv.field i in omega arith)
    (ap (λ n. n / 4) c.saturating_sub-groups.ensures) c.args.least c.args.most c.in-Err.field-0
    (sym (ap (list_all is_symbol) c.split_at.ensures.front) ∙ sym c.are_symbols.ensures ∙ c.if-not-are_symbols.false)
    (rw c.split_at.ensures.back at c.in-Err.ensures.err)
