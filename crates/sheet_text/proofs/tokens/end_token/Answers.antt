-- `end_token`: no token, a word, or a token that is refused. No axioms.
use mathlib.Core.Path.{sym, ap}
use native.Mathlib.Omega.{arith}
use Rattle.std.specs.Prelude.{Err}
use Rattle.sheet_text.specs.declared.TextFault.TheVariants.{NotDecimal, TooLarge}
use Rattle.sheet_text.specs.declared.tokens.Numeral.TheVariants.{Over, Other}
use Rattle.sheet_text.proofs.TokenLaws.{word_ended, token_refused}
use Rattle.sheet_text.proofs.tokens.end_token.Goals as goal

pub returns-in-Number : goal.returns-in-Number
returns-in-Number c =
    let s = c.args.s in
    λ all ahead begun sums onward. (
      omega arith,
      rw c.put.ensures (word_ended s ahead begun _ sums c.if-s-eq0.false c.in-Number.is onward),
    )

pub returns-in-Over : goal.returns-in-Over
returns-in-Over c =
    let s = c.args.s in
    λ all ahead begun sums onward.
    token_refused s ahead begun Over (TooLarge c.span.result) sums c.if-s-eq0.false c.in-Over.is
    (λ later. ap (λ where_it_is. Err (TooLarge where_it_is)) (sym c.span.ensures)) onward

pub returns-in-Other : goal.returns-in-Other
returns-in-Other c =
    let s = c.args.s in
    λ all ahead begun sums onward.
    token_refused s ahead begun Other (NotDecimal c.span-in-Other.result) sums c.if-s-eq0.false c.in-Other.is
    (λ later. ap (λ where_it_is. Err (NotDecimal where_it_is)) (sym c.span-in-Other.ensures)) onward
