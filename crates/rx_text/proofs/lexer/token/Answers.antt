use Rattle.std.proofs.Common.{rules, pos, neg_ℤ, ◌≡◌, true, sym, ◌∙◌, get_or}
use Rattle.rx_term.specs.Name.{is_digit, starts_name}
use Rattle.rx_text.proofs.LexingLemmas.{number_is_token, next_byte, digits_from, digits_behind, number_token}
use Rattle.rx_text.proofs.LexingLemmas.{negative_token, digit_next, name_token, name_allowed}
use Rattle.rx_text.proofs.lexer.token.Goals as goal

pub magnitude-requires : goal.magnitude-requires
magnitude-requires c =
    let bytes = c.args.bytes.now in
    let digit : is_digit (get_or bytes c.args.at 0) ≡ true = sym c.is_decimal.ensures ∙ c.if-is_decimal.true in
    digits_from bytes c.args.at (get_or bytes c.args.at 0) c.digits_end-end.result (next_byte bytes c.args.at c.requires.at) digit c.digits_end-end.ensures.end

pub magnitude-requires-then-is_decimal-2 : goal.magnitude-requires-then-is_decimal-2
magnitude-requires-then-is_decimal-2 c = digits_behind c.args.bytes.now _ _ c.digits_end-end-then-is_decimal-2.ensures.end

pub returns-then-is_decimal-clause-token : goal.returns-then-is_decimal-clause-token
returns-then-is_decimal-clause-token c =
    let bytes = c.args.bytes.now in
    let digit : is_digit (get_or bytes c.args.at 0) ≡ true = sym c.is_decimal.ensures ∙ c.if-is_decimal.true in
    number_token bytes c.args.at (get_or bytes c.args.at 0) c.digits_end-end.result c.integer.result c.magnitude.result
    (next_byte bytes c.args.at c.requires.at) digit c.digits_end-end.ensures.end c.magnitude.ensures (c.integer.ensures.token bytes)

pub returns-then-is_decimal-2-clause-token : goal.returns-then-is_decimal-2-clause-token
returns-then-is_decimal-2-clause-token c =
    let bytes = c.args.bytes.now in
    let digit = digit_next bytes _ c.if-at-bytes.true (sym c.is_decimal-then-at-bytes.ensures ∙ c.if-is_decimal-2.true) in
    rw (c.if-first-eq45.true) (negative_token bytes c.args.at c.digits_end-end-then-is_decimal-2.result c.integer-then-is_decimal-2.result
    c.magnitude-then-is_decimal-2.result digit c.digits_end-end-then-is_decimal-2.ensures.end c.magnitude-then-is_decimal-2.ensures
    (c.integer-then-is_decimal-2.ensures.token bytes))

pub returns-then-begins_plain_name-clause-token : goal.returns-then-begins_plain_name-clause-token
returns-then-begins_plain_name-clause-token c =
    let bytes = c.args.bytes.now in
    let letter : starts_name (get_or bytes c.args.at 0) ≡ true = sym c.begins_plain_name.ensures ∙ c.if-begins_plain_name.true in
    name_token bytes c.args.at (get_or bytes c.args.at 0) c.name_end-end.result (next_byte bytes c.args.at c.requires.at) letter c.name_end-end.ensures.end

pub returns-then-begins_plain_name-clause-kind : goal.returns-then-begins_plain_name-clause-kind
returns-then-begins_plain_name-clause-kind c =
    let bytes = c.args.bytes.now in
    let letter : starts_name (get_or bytes c.args.at 0) ≡ true = sym c.begins_plain_name.ensures ∙ c.if-begins_plain_name.true in (
      search rules,
      c.name_end-end.ensures.within,
      name_allowed bytes c.args.at (get_or bytes c.args.at 0) c.name_end-end.result
          (next_byte bytes c.args.at c.requires.at) letter c.name_end-end.ensures.end,
    )

pub returns-then-is_decimal-clause-kind : goal.returns-then-is_decimal-clause-kind
returns-then-is_decimal-clause-kind c = number_is_token c.args.bytes.now _ (pos c.magnitude.result) (c.integer.ensures.token c.args.bytes.now)

pub returns-then-is_decimal-2-clause-kind : goal.returns-then-is_decimal-2-clause-kind
returns-then-is_decimal-2-clause-kind c = number_is_token c.args.bytes.now _ (neg_ℤ (pos c.magnitude-then-is_decimal-2.result))
    (c.integer-then-is_decimal-2.ensures.token c.args.bytes.now)
