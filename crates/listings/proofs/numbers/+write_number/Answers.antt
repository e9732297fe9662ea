use Rattle.std.proofs.Common.{decimal, ◌+◌, ◌/◌, ◌%◌, [], ◌∷◌, arith}
use Rattle.std.proofs.lemmas.Fmt.{decimal_digit, decimal_step}
use Rattle.sinks.proofs.Givens.{onward, no_more}
use Rattle.listings.proofs.numbers.+write_number.Goals as goal

pub returns-then-n-lt10 : goal.returns-then-n-lt10
returns-then-n-lt10 g t c = let digit = decimal_digit c.args.n c.if-n-lt10.true in rw digit c.put.ensures

pub returns-in_err-write_number : goal.returns-in_err-write_number
returns-in_err-write_number g t c =
    let step = decimal_step c.args.n (omega arith) (omega arith) in
    rw step (no_more g.S.Sink.takes g.S.Sink.stops g.met.S.Sink.laws c.args.out.now c.write_number.new.out (decimal (c.args.n / 10)) ((48 + c.args.n % 10) ∷ [])
    c.from_residual.result c.from_residual.ensures.0 c.in_err-write_number.ensures)

pub returns : goal.returns
returns g t c =
    let step = decimal_step c.args.n (omega arith) (omega arith) in
    rw step (onward g.S.Sink.takes g.S.Sink.stops g.met.S.Sink.laws c.args.out.now c.write_number.new.out c.put-2.new.self (decimal (c.args.n / 10)) ((48 + c.args.n % 10) ∷ [])
    c.put-2.result c.in_ok-write_number.ensures c.put-2.ensures)
